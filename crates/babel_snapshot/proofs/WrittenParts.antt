-- Octets after a first part are written over.
use Rattle.std.specs.Prelude.{◌≡◌, ℕ, List, ◌++◌, length, take, drop}
use Rattle.std.proofs.Common.{ap, ◌∙◌, arith, take_at, drop_at, append-nil}
use Rattle.std.proofs.lemmas.List.{drop_all}

pub written_over : (first second new : List ℕ) (n k : ℕ) → length first ≡ n → length second ≡ k →
    take n (first ++ second) ++ (new ++ drop k (drop n (first ++ second))) ≡ first ++ new
written_over first second new n k one two =
    (λ i. take_at first second n one i ++ (new ++ drop k (drop_at first second n one i)))
    ∙ ap (λ xs. first ++ (new ++ xs)) (drop_all k second (omega (arith, two)))
    ∙ ap (λ xs. first ++ xs) (append-nil new)
