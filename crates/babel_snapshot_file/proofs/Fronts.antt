-- A file that is shorter than what may be read of it is read as a whole.
use Rattle.std.proofs.Common.{◌≡◌, ℕ, ◌<◌, List, [], ◌++◌, length, take, Option, Some, None, IfSome, arith, min, subst}
use Rattle.std.specs.Option.{option_map}
use Rattle.std.proofs.lemmas.List.{length-take, take_all}

short_front_is_whole : (file : List ℕ) (limit : ℕ) → length (take limit file) < limit → take limit file ≡ file
short_front_is_whole file limit short =
    let len : length (take limit file) ≡ min limit (length file) = length-take limit file in
    take_all limit file (omega (arith, len, short))

whole_front : (remaining : Option (List ℕ)) (octets : List ℕ) (limit : ℕ) → length octets < limit → IfSome (option_map (take limit) remaining) (λ front. octets ≡ front) → IfSome remaining (λ file. octets ≡ file)
whole_front (Some file) octets limit short is_front =
    let short_front : length (take limit file) < limit = rw (← is_front) short in
    rw is_front (short_front_is_whole file limit short_front)
whole_front None octets limit short is_front = is_front

-- `R` is a type of readers. `before` is what the list has before the reading: nothing.
pub whole_file : {R : Type 0} (remaining : R → Option (List ℕ)) (inner input : R) (limit most : ℕ) (before octets : List ℕ) → inner ≡ input → limit ≡ most → before ≡ [] → length octets < most → IfSome (option_map (take limit) (remaining inner)) (λ front. octets ≡ before ++ front) → IfSome (remaining input) (λ file. octets ≡ file)
whole_file remaining inner input limit most before octets same_inner same_limit empty short is_front =
    let at_input : IfSome (option_map (take limit) (remaining input)) (λ front. octets ≡ before ++ front) = rw (← same_inner) is_front in
    let at_empty : IfSome (option_map (take limit) (remaining input)) (λ front. octets ≡ [] ++ front) = subst (λ x. IfSome (option_map (take limit) (remaining input)) (λ front. octets ≡ x ++ front)) empty at_input in
    whole_front (remaining input) octets limit (rw same_limit short) at_empty
