-- A text without five words, or whose first four spell no sender, spells no datagram.
use Rattle.std.proofs.Common.{refl}
use Rattle.babel_config.proofs.HeardTexts.{words_of, sender_of}
use Rattle.babel_config.proofs.heard.parse_heard.Goals as goal

pub returns-in_default : goal.returns-in_default
returns-in_default c = λ heard fields.
    let found = words_of c.args.text.now heard fields in
    c.in_default.ensures.none refl found.0 found.1

pub returns-in_default-parse_sender : goal.returns-in_default-parse_sender
returns-in_default-parse_sender c = λ heard fields.
    let w = c.in-Some.words in
    c.in_default-parse_sender.ensures (heard.node, (heard.iface, (heard.source, heard.now)))
    (sender_of c.args.text.now (w.node.now, (w.iface.now, (w.source.now, (w.moment.now, w.hex.now)))) heard c.in-Some.ensures.some fields)
