-- A retraction of all that a neighbour advertised changes nothing if it advertised nothing.
use Rattle.std.proofs.Common.{◌≡◌, ℕ, Bool, true, false, ◌||◌, [], ◌∷◌, if◌then◌else◌, refl, sym, ap}
use Rattle.std.proofs.lemmas.Bool.{false≢true}
use Rattle.babel_value.specs.declared.keys.Peer.{Peer}
use Rattle.babel_choice.specs.Routes.{RouteEntries, is_from, has_routes_from, retracted_entry, retracted_all}

pub nothing_retracted : (now : ℕ) (peer : Peer) (es : RouteEntries) → has_routes_from peer es ≡ false → retracted_all now peer es ≡ es
nothing_retracted now peer [] none = refl
nothing_retracted now peer (e ∷ es) none = by (is_from peer e.0) none (nothing_retracted now peer es)
  where
    by : (b : Bool) → b || has_routes_from peer es ≡ false → (has_routes_from peer es ≡ false → retracted_all now peer es ≡ es) → (e.0, if b then retracted_entry now e.1 else e.1) ∷ retracted_all now peer es ≡ e ∷ es
    by true none rest = absurd (false≢true (sym none))
    by false none rest = ap (λ fs. e ∷ fs) (rest none)
