-- What a configuration without a fault has room for.
use Rattle.std.specs.Prelude.{◌≡◌, ◌≤◌, true, false, ◌&&◌, nat_le, nat_lt, List, [], ◌∷◌, map, length, None}
use Rattle.std.specs.List.{list_any}
use Rattle.std.proofs.Common.{refl, sym, ap, subst, ◌∙◌}
use Rattle.std.proofs.lemmas.Bool.{and_parts, or_parts, ltb-false, not-false}
use Rattle.std.proofs.lemmas.List.{length-map}
use Rattle.babel_state.specs.declared.configs.Config.{Config}
use Rattle.babel_state.specs.declared.configs.Interface.{Interface}
use Rattle.babel_state.specs.declared.errors.ConfigFault.TheVariants.{ReservedRouterId, InterfaceCount, NominalCost, HelloInterval, Prefixes, InterfaceAddresses}
use Rattle.babel_state.specs.Configs.{is_up_to, has_bad_hello, repeats, has_cause, config_fault}
use Rattle.babel_state.specs.Calls.{new_interface}
use Rattle.babel_state.proofs.NewState.{first_head, few_of}
use Rattle.babel_speaker.specs.ShortHellos.{have_short_hellos}

-- Whether each cause that the room depends on is absent.
causes : (c : Config) → config_fault c ≡ None → (has_cause c InterfaceCount ≡ false) × (has_cause c HelloInterval ≡ false) × (has_cause c Prefixes ≡ false)
unfolding config_fault
causes c none =
    let a = first_head (has_cause c) ReservedRouterId (InterfaceCount ∷ NominalCost ∷ HelloInterval ∷ Prefixes ∷ InterfaceAddresses ∷ []) none in
    let b = first_head (has_cause c) InterfaceCount (NominalCost ∷ HelloInterval ∷ Prefixes ∷ InterfaceAddresses ∷ []) a.1 in
    let d = first_head (has_cause c) NominalCost (HelloInterval ∷ Prefixes ∷ InterfaceAddresses ∷ []) b.1 in
    let e = first_head (has_cause c) HelloInterval (Prefixes ∷ InterfaceAddresses ∷ []) d.1 in
    let f = first_head (has_cause c) Prefixes (InterfaceAddresses ∷ []) e.1 in
    (b.0, e.0, f.0)

pub few_interfaces : (c : Config) → config_fault c ≡ None → length (map new_interface c.interfaces.items) ≤ 8
few_interfaces c none =
    let count = few_of (length c.interfaces.items) 8 (not-false (is_up_to 8 (length c.interfaces.items)) (causes c none).0) in
    subst (λ n. n ≤ 8) (sym (length-map c.interfaces.items new_interface)) count

pub few_prefixes : (c : Config) → config_fault c ≡ None → length c.prefixes.items ≤ 64
few_prefixes c none =
    ltb-false 64 (length c.prefixes.items) (or_parts (nat_lt 64 (length c.prefixes.items)) (repeats c.prefixes.items) (causes c none).2).0

short_one : (i : Interface) → has_bad_hello i ≡ false → nat_le i.hello 4000 ≡ true
unfolding has_bad_hello
short_one i good = (and_parts (nat_le 1 i.hello) (nat_le i.hello 4000) (not-false (is_up_to 4000 i.hello) good)).1

all_short : (is : List Interface) → list_any has_bad_hello is ≡ false → have_short_hellos (map new_interface is) ≡ true
all_short [] good = refl
all_short (i ∷ is) good =
    let parts = or_parts (has_bad_hello i) (list_any has_bad_hello is) good in
    ap (λ b. b && have_short_hellos (map new_interface is)) (short_one i parts.0) ∙ all_short is parts.1

pub short_hellos : (c : Config) → config_fault c ≡ None → have_short_hellos (map new_interface c.interfaces.items) ≡ true
short_hellos c none = all_short c.interfaces.items (causes c none).1
