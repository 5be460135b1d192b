-- Either way the marks are cut once more when the new one is added.
use Rattle.std.proofs.Common.{◌≡◌, ◌∙◌, ◌∷◌, true, false, leb, ap, arith}
use Rattle.std.proofs.lemmas.Bool.Decides.{nat_tests}
use Rattle.babel_link.specs.Histories.{newest}
use Rattle.babel_link.proofs.WordLemmas.{newest_newest}
use Rattle.babel_link.proofs.words.Word.hear.Goals as goal
use Rattle.babel_link.proofs.words.Word.hear.Goals.{then-ahead-le-NEAR, else-ahead-le-NEAR}

pub returns : goal.returns
returns c = elim c.if-ahead-le-NEAR.branch [
  | then-ahead-le-NEAR w ↦
      let near : leb c.args.ahead 16 ≡ true = grind (arith, nat_tests) in
      rw near (c.push.ensures ∙ ap (λ marks. newest (true ∷ marks)) (w.self-is ∙ w.push_missed.ensures) ∙ newest_newest true _)
  | else-ahead-le-NEAR w ↦
      let far : leb c.args.ahead 16 ≡ false = grind (arith, nat_tests) in
      rw far (c.push.ensures ∙ ap (λ marks. newest (true ∷ marks)) (w.self-is ∙ w.forget.ensures))
]
