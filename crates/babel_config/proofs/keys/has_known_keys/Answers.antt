-- One more key, which is known or not.
use Rattle.std.proofs.Common.{◌≡◌, [], ◌∷◌, ◌++◌, sym, ap, ◌∙◌, append_assoc}
use Rattle.toml.proofs.Views.{Entry}
use Rattle.babel_config.proofs.Tables.{keys_push, keys_fail}
use Rattle.babel_config.proofs.keys.has_known_keys.Goals as goal

pub loop-key-preserved : goal.loop-key-preserved
loop-key-preserved c =
    let l = c.loop-key in
    let done = l.invariant.0 in
    let e : Entry = (c.in-Some.key.now, c.in-Some._value.now) in
    let left = c.next.new.self in
    let all : c.args.table.now.entries ≡ done ++ e ∷ left = l.invariant.1 ∙ ap (λ es. done ++ es) c.in-Some.ensures.steps in
    (done ++ e ∷ [], all ∙ sym (append_assoc done (e ∷ []) left), keys_push c.args.kind done e l.invariant.2 (cc))

pub returns-then-not-has_key : goal.returns-then-not-has_key
returns-then-not-has_key c =
    let l = c.loop-key in
    let done = l.invariant.0 in
    let e : Entry = (c.in-Some.key.now, c.in-Some._value.now) in
    let left = c.next.new.self in
    let all : c.args.table.now.entries ≡ done ++ e ∷ left = l.invariant.1 ∙ ap (λ es. done ++ es) c.in-Some.ensures.steps in
    rw all (sym (keys_fail c.args.kind done e left l.invariant.2 (cc)))
