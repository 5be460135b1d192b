-- The words are those that the iterator takes.
use Rattle.std.proofs.Common.{◌≡◌, ◌<◌, length, ap, sym, subst, ◌∙◌, ◌∷◌, codes, nat_eq, arith}
use Rattle.std.specs.List.{starts_with}
use Rattle.std.specs.Str.Iter.{split_ascii_whitespace_text}
use Rattle.babel_control.specs.Words.{words_of, have_no_command}
use Rattle.babel_control.proofs.Words.{no_word, first_word}
use Rattle.babel_control.proofs.commands.words_in.Goals as goal

pub returns-in_default : goal.returns-in_default
returns-in_default c =
    let at : words_of c.args.line.now ≡ words_of (split_ascii_whitespace_text c.split_ascii_whitespace-words.result) = ap (λ t. words_of t) (sym c.split_ascii_whitespace-words.ensures.text) in
    let none = no_word (split_ascii_whitespace_text c.split_ascii_whitespace-words.result) (split_ascii_whitespace_text c.next.new.self) (c.in_default.ensures.steps) in
    ap (λ w. have_no_command w) (at ∙ none)

pub returns-then-starts_with : goal.returns-then-starts_with
returns-then-starts_with c =
    let at : words_of c.args.line.now ≡ words_of (split_ascii_whitespace_text c.split_ascii_whitespace-words.result) = ap (λ t. words_of t) (sym c.split_ascii_whitespace-words.ensures.text) in
    let one = first_word (split_ascii_whitespace_text c.split_ascii_whitespace-words.result) (split_ascii_whitespace_text c.next.new.self) c.in-Some.word (c.in-Some.ensures.steps) in
    ap (λ w. have_no_command w) (at ∙ one) ∙ (ap (λ w. starts_with nat_eq w (codes "#")) (sym c.as_bytes.ensures.value) ∙ (sym c.starts_with.ensures.value ∙ c.if-starts_with.true))

pub returns-in_default-next : goal.returns-in_default-next
returns-in_default-next c =
    let at : words_of c.args.line.now ≡ words_of (split_ascii_whitespace_text c.split_ascii_whitespace-words.result) = ap (λ t. words_of t) (sym c.split_ascii_whitespace-words.ensures.text) in
    let one = first_word (split_ascii_whitespace_text c.split_ascii_whitespace-words.result) (split_ascii_whitespace_text c.next.new.self) c.in-Some.word (c.in-Some.ensures.steps) in
    let none = no_word (split_ascii_whitespace_text c.next.new.self) (split_ascii_whitespace_text c.next-2.new.self) (c.in_default-next.ensures.steps) in
    let plain = ap (λ w. starts_with nat_eq w (codes "#")) (sym c.as_bytes.ensures.value) ∙ (sym c.starts_with.ensures.value ∙ c.if-starts_with.false) in
    let is = at ∙ (one ∙ ap (λ w. c.in-Some.word.now ∷ w) none) in
    (is, ap (λ w. have_no_command w) is ∙ plain)

pub returns-in-None : goal.returns-in-None
returns-in-None c =
    let at : words_of c.args.line.now ≡ words_of (split_ascii_whitespace_text c.split_ascii_whitespace-words.result) = ap (λ t. words_of t) (sym c.split_ascii_whitespace-words.ensures.text) in
    let one = first_word (split_ascii_whitespace_text c.split_ascii_whitespace-words.result) (split_ascii_whitespace_text c.next.new.self) c.in-Some.word (c.in-Some.ensures.steps) in
    let two = first_word (split_ascii_whitespace_text c.next.new.self) (split_ascii_whitespace_text c.next-2.new.self) c.in-Some-next.argument (c.in-Some-next.ensures.steps) in
    let none = no_word (split_ascii_whitespace_text c.next-2.new.self) (split_ascii_whitespace_text c.next-3.new.self) (c.in-None.ensures.steps) in
    let plain = ap (λ w. starts_with nat_eq w (codes "#")) (sym c.as_bytes.ensures.value) ∙ (sym c.starts_with.ensures.value ∙ c.if-starts_with.false) in
    let is = at ∙ (one ∙ ap (λ w. c.in-Some.word.now ∷ w) (two ∙ ap (λ w. c.in-Some-next.argument.now ∷ w) none)) in
    (is, ap (λ w. have_no_command w) is ∙ plain)

pub returns-in-Some-next-2 : goal.returns-in-Some-next-2
returns-in-Some-next-2 c =
    let at : words_of c.args.line.now ≡ words_of (split_ascii_whitespace_text c.split_ascii_whitespace-words.result) = ap (λ t. words_of t) (sym c.split_ascii_whitespace-words.ensures.text) in
    let one = first_word (split_ascii_whitespace_text c.split_ascii_whitespace-words.result) (split_ascii_whitespace_text c.next.new.self) c.in-Some.word (c.in-Some.ensures.steps) in
    let two = first_word (split_ascii_whitespace_text c.next.new.self) (split_ascii_whitespace_text c.next-2.new.self) c.in-Some-next.argument (c.in-Some-next.ensures.steps) in
    let three = first_word (split_ascii_whitespace_text c.next-2.new.self) (split_ascii_whitespace_text c.next-3.new.self) c.in-Some-next-2.field-0 (c.in-Some-next-2.ensures.steps) in
    let plain = ap (λ w. starts_with nat_eq w (codes "#")) (sym c.as_bytes.ensures.value) ∙ (sym c.starts_with.ensures.value ∙ c.if-starts_with.false) in
    let is = at ∙ (one ∙ ap (λ w. c.in-Some.word.now ∷ w) (two ∙ ap (λ w. c.in-Some-next.argument.now ∷ w) three)) in
    (subst (λ w. 2 < length w) (sym is) (omega arith), ap (λ w. have_no_command w) is ∙ plain)
