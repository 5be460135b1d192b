-- Looking back finds the latest: a law above the definitions by recursion, in the words of RFC 8966, section 4.5. Lists of places have the latest first.
use Rattle.std.specs.Prelude.{◌≡◌, ℕ, List, [], ◌∷◌, ◌++◌, Option, Some, None, ◌⊎◌}
use Rattle.babel_value.specs.declared.addresses.Addr.{Addr}
use Rattle.babel_tlv.specs.Place.{Place}
use Rattle.babel_message.specs.Layout as layout
use Rattle.babel_packet.specs.NextHops.{named_hop4, named_hop6}
use Rattle.babel_packet.specs.LookBack.{own_default, default_before, own_router, router_before, source4, source6, hop4_before, hop6_before}

-- None of these places sets anything. `sets` gives what a place sets, from the places before it; `older` are the places before all of these.
abbrev pub NoneSets : {X : Type 0} → (List Place → Place → Option X) → List Place → List Place → Type 0
NoneSets sets [] older = Unit {0}
NoneSets sets (t ∷ ts) older = (sets (ts ++ older) t ≡ None) × NoneSets sets ts older

-- x is what the latest of the places that set anything sets.
pub record IsLatest {X : Type 0} (sets : List Place → Place → Option X) (places : List Place) (x : X) : Type 0 where
  pub newer : List Place
  pub at : Place
  pub older : List Place
  pub parts : places ≡ newer ++ (at ∷ older)
  pub set : sets older at ≡ Some x
  pub later : NoneSets sets newer (at ∷ older)

-- After the places, the value is that of the latest place that sets one, or the first value if none does.
abbrev pub FindsLatest : {X : Type 0} → (List Place → Place → Option X) → Option X → (List Place → Option X) → Type 0
FindsLatest {X} sets first found =
    (places : List Place) → ((x : X) × IsLatest sets places x × (found places ≡ Some x)) ⊎ (NoneSets sets places [] × (found places ≡ first))

-- The default prefix of an AE is that of the latest earlier Update that sets one.
abbrev pub DefaultIsLatest : Type 0
DefaultIsLatest =
    (ae size : ℕ) → FindsLatest (λ older t. own_default ae size (default_before ae size older) t.kind t.payload) None (default_before ae size)

-- The router-id is that of the latest earlier Router-Id, or Update that sets one.
abbrev pub RouterIsLatest : Type 0
RouterIsLatest =
    FindsLatest (λ older t. own_router (default_before layout.ae_ipv4 layout.ipv4_len older) (default_before layout.ae_ipv6 layout.ipv6_len older) t.kind t.payload) None router_before

-- The next hop of a family is that of the latest earlier Next Hop of the family, else the source address, if it is of the family.
abbrev pub NextHopIsLatest : Type 0
NextHopIsLatest =
    (source : Addr) → FindsLatest (λ older t. named_hop4 t.kind t.payload) (source4 source) (hop4_before source) ×
    FindsLatest (λ older t. named_hop6 t.kind t.payload) (source6 source) (hop6_before source)
