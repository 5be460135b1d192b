-- What the reading of a table shows of the file.
use Rattle.std.proofs.Common.{◌≡◌, ℕ, ◌<◌, List, [], ◌++◌, length, take, min, Option, Some, None, Result, Ok, Err, IfSome, IfErr, inr, ap, ◌∙◌, arith}
use Rattle.std.specs.Option.{option_map}
use Rattle.std.proofs.lemmas.List.{length-take, take_all}
use Rattle.toml.specs.Data.{Data}
use Rattle.babel_toml.specs.declared.errors.FileFault.{FileFault}
use Rattle.babel_toml.specs.Faults.{IsCaused}
use Rattle.babel_config.specs.Files.{IsFileOf, HasFileFault}

module _ {A : Type 0} (Means : Data → A → Type 0) (HasFault : Data → FileFault → Type 0) (octets : List ℕ) (d : Data) where
  pub file_refused : (r : Result A FileFault) → IsFileOf (λ e. e ≡ d) octets → IfErr r (IsCaused (HasFault d)) → IfErr r (IsCaused (HasFileFault HasFault octets))
  file_refused (Ok a) file h = tt
  file_refused (Err fault) (short, utf8, (members, parsed, same)) h = λ other. inr (short, utf8, (members, parsed, rw same (h other)))

  pub file_only : ((e : Data) (fault : FileFault) → HasFault e fault → (a : A) → ¬ (Means e a)) → (r : Result A FileFault) → IsFileOf (λ e. e ≡ d) octets → IfErr r (IsCaused (HasFault d)) → IfErr r (IsCaused (λ _. (a : A) → ¬ (IsFileOf (λ e. Means e a) octets)))
  file_only never (Ok a) file h = tt
  file_only never (Err fault) (short, utf8, (members, parsed, same)) h = λ other a (short', utf8', (members', parsed', k)).
      let equal : members' ≡ members = cc in
      never d fault (h other) a (rw (← same, ← equal) k)

-- What was read of a front of the file is the whole file, if it is shorter than the front may be.
pub front_is_whole : (remaining : Option (List ℕ)) (limit : ℕ) (octets : List ℕ) → length octets < limit → IfSome (option_map (take limit) remaining) (λ front. octets ≡ [] ++ front) → IfSome remaining (λ file. octets ≡ file)
front_is_whole None limit octets short is_front = is_front
front_is_whole (Some file) limit octets short is_front =
    let len : length (take limit file) ≡ min limit (length file) = length-take limit file in
    let same : length octets ≡ length (take limit file) = ap length is_front in
    is_front ∙ take_all limit file (omega (arith, len, same, short))
