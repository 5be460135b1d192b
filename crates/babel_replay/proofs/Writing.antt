-- What is written bit by bit.
use Rattle.std.proofs.Common.{◌≡◌, ℕ, List, [], ◌++◌, Option, Some, None, sym, ap, ◌∙◌, subst, append_assoc}
use Rattle.std.proofs.lemmas.List.{append-nil}
use Rattle.std.specs.Io.KnownBytes.{Appends, Keeps}

-- The known bytes grew, so that the rest makes the whole text complete.
pub record IsWritten (old new : Option (List ℕ)) (rest all : List ℕ) : Type 0 where
  pub text : List ℕ
  pub written : Appends old new text
  pub whole : text ++ rest ≡ all

pub appends_none : (a : Option (List ℕ)) → Appends a a []
appends_none None = tt
appends_none (Some x) = sym (append-nil x)

pub appends_more : (a b c : Option (List ℕ)) (xs ys : List ℕ) → Appends a b xs → Appends b c ys → Appends a c (xs ++ ys)
appends_more None b c xs ys first then = tt
appends_more (Some x) None c xs ys first then = absurd first
appends_more (Some x) (Some y) None xs ys first then = absurd then
appends_more (Some x) (Some y) (Some z) xs ys first then = then ∙ ap (λ l. l ++ ys) first ∙ append_assoc x xs ys

-- One bit more.
pub more : (a b c : Option (List ℕ)) (before bit rest all : List ℕ) → IsWritten a b before all → before ≡ bit ++ rest → Appends b c bit → IsWritten a c rest all
more a b c before bit rest all so same goes = record {
  text = so.text ++ bit;
  written = appends_more a b c so.text bit so.written goes;
  whole = append_assoc so.text bit rest ∙ ap (λ l. so.text ++ l) (sym same) ∙ so.whole;
}

-- Nothing is left.
pub ended : (a b : Option (List ℕ)) (rest all : List ℕ) → IsWritten a b rest all → rest ≡ [] → Appends a b all
ended a b rest all so none = subst (Appends a b) (sym (append-nil so.text) ∙ ap (λ l. so.text ++ l) (sym none) ∙ so.whole) so.written

pub appends_kept : (a b c : Option (List ℕ)) (xs : List ℕ) → Appends a b xs → Keeps b c → Appends a c xs
appends_kept None b c xs first then = tt
appends_kept (Some x) None c xs first then = absurd first
appends_kept (Some x) (Some y) None xs first then = absurd then
appends_kept (Some x) (Some y) (Some z) xs first then = then ∙ first
