-- What the words of `hear` have to do with its fields.
use Rattle.std.proofs.Common.{ℕ, List, refl, sym}
use Rattle.babel_config.specs.declared.heard.HeardDatagram.{HeardDatagram}
use Rattle.babel_text.specs.Fields.{before_blank, after_blank}
use Rattle.babel_config.specs.Heard.{HasHeardFields, HasWords, HaveSender}

-- A text with the fields has five words.
pub words_of : (text : List ℕ) (heard : HeardDatagram) → HasHeardFields text heard → (words : List ℕ × (List ℕ × (List ℕ × (List ℕ × List ℕ)))) × HasWords text words
words_of text heard (one, node, (two, iface, (three, source, (four, now, octets)))) =
    let rest : List ℕ = after_blank (after_blank text) in (
      (before_blank text, (before_blank (after_blank text), (before_blank rest, (before_blank (after_blank rest), after_blank (after_blank rest))))),
      (one, refl, (two, refl, (three, refl, (four, refl, refl)))),
    )

-- The first four words spell the sender.
pub sender_of : (text : List ℕ) (words : List ℕ × (List ℕ × (List ℕ × (List ℕ × List ℕ)))) (heard : HeardDatagram) → HasWords text words → HasHeardFields text heard → HaveSender words.0 words.1.0 words.1.1.0 words.1.1.1.0 (heard.node, (heard.iface, (heard.source, heard.now)))
sender_of text words heard (one, is_node, (two, is_iface, (three, is_source, (four, is_now, is_hex)))) (one', node, (two', iface, (three', source, (four', now, octets)))) =
    (rw (sym is_node) node, rw (sym is_iface) iface, rw (sym is_source) source, rw (sym is_now) now)
