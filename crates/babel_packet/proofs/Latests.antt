-- What is found by recursion over the places is what the latest of them sets.
use Rattle.std.proofs.Common.{◌≡◌, List, [], ◌∷◌, Option, Some, None, ◌⊎◌, inl, inr, refl, ap, ◌∙◌, append-nil}
use Rattle.std.specs.Option.{option_or}
use Rattle.babel_tlv.specs.Place.{Place}
use Rattle.babel_packet.specs.Latest.{NoneSets, IsLatest, FindsLatest}

-- the search's outcome after these places
abbrev Outcome : {X : Type 0} → (List Place → Place → Option X) → Option X → (List Place → Option X) → List Place → Type 0
Outcome {X} sets first found places =
    ((x : X) × IsLatest sets places x × (found places ≡ Some x)) ⊎ (NoneSets sets places [] × (found places ≡ first))

-- A place that sets something is the latest.
found_here : {X : Type 0} (sets : List Place → Place → Option X) (first : Option X) (found : List Place → Option X) (t : Place) (older : List Place) (x : X) →
    sets older t ≡ Some x → found (t ∷ older) ≡ Some x → Outcome sets first found (t ∷ older)
found_here sets first found t older x set same =
    inl (x, record { newer = []; at = t; older = older; parts = refl; set = set; later = tt }, same)

-- A place that sets nothing leaves the outcome.
found_following : {X : Type 0} (sets : List Place → Place → Option X) (first : Option X) (found : List Place → Option X) (t : Place) (older : List Place) →
    sets older t ≡ None → found (t ∷ older) ≡ found older → Outcome sets first found older → Outcome sets first found (t ∷ older)
found_following sets first found t older nothing same (inl w) =
    inl (
      w.0,
      record {
        newer = t ∷ w.1.newer;
        at = w.1.at;
        older = w.1.older;
        parts = ap (λ ps. t ∷ ps) w.1.parts;
        set = w.1.set;
        later = (rw (← w.1.parts) nothing, w.1.later);
      },
      same ∙ w.2,
    )
found_following sets first found t older nothing same (inr w) = inr ((rw (append-nil older) nothing, w.0), same ∙ w.1)

by_setting : {X : Type 0} (sets : List Place → Place → Option X) (first : Option X) (found : List Place → Option X) (t : Place) (older : List Place) →
    (o : Option X) → sets older t ≡ o → found (t ∷ older) ≡ option_or o (found older) → Outcome sets first found older →
    Outcome sets first found (t ∷ older)
by_setting sets first found t older (Some x) set same following = found_here sets first found t older x set same
by_setting sets first found t older None set same following = found_following sets first found t older set same following

pub finds_latest : {X : Type 0} (sets : List Place → Place → Option X) (first : Option X) (found : List Place → Option X) → found [] ≡ first →
    ((t : Place) (older : List Place) → found (t ∷ older) ≡ option_or (sets older t) (found older)) → FindsLatest sets first found
finds_latest sets first found start step [] = inr (tt, start)
finds_latest sets first found start step (t ∷ older) =
    by_setting sets first found t older (sets older t) refl (step t older) (finds_latest sets first found start step older)
