-- Ten octets are their first, their second and so on.
use Rattle.std.proofs.Common.{◌≡◌, ℕ, List, [], ◌∷◌, length, drop, slice_index_or, drop-cons, ap, arith}
use Rattle.std.proofs.lemmas.List.{drop_all}
use Rattle.babel_message.specs.Layout as layout
use Rattle.babel_build.proofs.tlvs.update_start.Goals as goal

ten : (xs : List ℕ) → length xs ≡ 10 → slice_index_or xs 0 0 ∷ slice_index_or xs 1 0 ∷ slice_index_or xs 2 0 ∷ slice_index_or xs 3 0 ∷ slice_index_or xs 4 0 ∷ slice_index_or xs 5 0 ∷ slice_index_or xs 6 0 ∷ slice_index_or xs 7 0 ∷ slice_index_or xs 8 0 ∷ slice_index_or xs 9 0 ∷ [] ≡ xs
ten xs long =
    let e0 : drop 0 xs ≡ slice_index_or xs 0 0 ∷ drop 1 xs = drop-cons xs 0 0 (omega arith) in
    let e1 : drop 1 xs ≡ slice_index_or xs 1 0 ∷ drop 2 xs = drop-cons xs 1 0 (omega arith) in
    let e2 : drop 2 xs ≡ slice_index_or xs 2 0 ∷ drop 3 xs = drop-cons xs 2 0 (omega arith) in
    let e3 : drop 3 xs ≡ slice_index_or xs 3 0 ∷ drop 4 xs = drop-cons xs 3 0 (omega arith) in
    let e4 : drop 4 xs ≡ slice_index_or xs 4 0 ∷ drop 5 xs = drop-cons xs 4 0 (omega arith) in
    let e5 : drop 5 xs ≡ slice_index_or xs 5 0 ∷ drop 6 xs = drop-cons xs 5 0 (omega arith) in
    let e6 : drop 6 xs ≡ slice_index_or xs 6 0 ∷ drop 7 xs = drop-cons xs 6 0 (omega arith) in
    let e7 : drop 7 xs ≡ slice_index_or xs 7 0 ∷ drop 8 xs = drop-cons xs 7 0 (omega arith) in
    let e8 : drop 8 xs ≡ slice_index_or xs 8 0 ∷ drop 9 xs = drop-cons xs 8 0 (omega arith) in
    let e9 : drop 9 xs ≡ slice_index_or xs 9 0 ∷ drop 10 xs = drop-cons xs 9 0 (omega arith) in
    let end : drop 10 xs ≡ [] = drop_all 10 xs (omega arith) in
    cc

pub returns : goal.returns
returns c = ap (λ (fields : List ℕ). layout.update ∷ c.args.length ∷ fields) (ten c.args.fields (omega arith))
