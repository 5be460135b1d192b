-- The table of owners, address by address.
use Rattle.std.proofs.Common.{◌≡◌, ◌<◌, ◌+◌, ℕ, suc, List, ◌∷◌, Option, Some, option_map, length, drop, get_or, cond, sym, ap, ◌∙◌, arith}
use Rattle.std.proofs.Math.Seq.{drop-cons}
use Rattle.babel_value.specs.declared.addresses.Addr.{Addr}
use Rattle.babel_state.specs.declared.configs.Config.{Config}
use Rattle.babel_machine.specs.Owners.{has_addr, addresses_of, owner_of}
use Rattle.babel_owners.proofs.SharedAddresses.{owner_before}

-- one more configuration, before those that the table has
pub owner_step : (configs : List Config) (i n : ℕ) (c : Config) (addr : Addr) (before after : Option ℕ) → i + 1 ≡ n → i < length configs → c ≡ get_or configs i c → before ≡ option_map (λ k. k + n) (owner_of (drop n configs) addr) → after ≡ cond (has_addr addr (addresses_of c)) (Some i) before → after ≡ option_map (λ k. k + i) (owner_of (drop i configs) addr)
owner_step configs i n c addr before after next inside is was put =
    put
    ∙ ap (cond (has_addr addr (addresses_of c)) (Some i)) (was ∙ ap (λ m. option_map (λ k. k + m) (owner_of (drop m configs) addr)) (sym next))
    ∙ owner_before i c (drop (i + 1) configs) addr
    ∙ ap (λ (cs : List Config). option_map (λ k. k + i) (owner_of cs addr)) (sym first)
  where
    same : (m : ℕ) → suc m ≡ m + 1
    same m = omega arith

    first : drop i configs ≡ c ∷ drop (i + 1) configs
    first = drop-cons configs i c inside ∙ ap (λ (d : Config). d ∷ drop (suc i) configs) (sym is) ∙ ap (λ m. c ∷ drop m configs) (same i)
