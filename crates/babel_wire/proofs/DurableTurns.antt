-- Lists of durable turns.
use Rattle.std.proofs.Common.{◌≡◌, List, [], ◌∷◌, ◌++◌, Option, refl, sym, ap, ◌∙◌, subst, append_assoc}
use Rattle.babel_state.specs.Restarts.{Snapshot, snapshot_of}
use Rattle.babel_state.specs.State.{State}
use Rattle.babel_wire.specs.Keeping.{DurableTurn, AreDurableTurns, last_kept, calls_of, calls_of_turn}
use Rattle.babel_wire.specs.DurableLaws.{DurableTurnsGoOn}

joined : (last mid later : Option Snapshot) (old state new : State) (first rest : List DurableTurn) →
    AreDurableTurns last old first mid state → AreDurableTurns mid state rest later new → AreDurableTurns last old (first ++ rest) later new
joined last mid later old state new [] rest (kept, same) after =
    subst (λ (l : Option Snapshot). AreDurableTurns l old rest later new) kept (subst (λ (s : State). AreDurableTurns mid s rest later new) same after)
joined last mid later old state new (t ∷ ts) rest (next, turn, first) after =
    (next, turn, joined (last_kept last (snapshot_of next) t.keeping) mid later next state new ts rest first after)

calls_joined : (first rest : List DurableTurn) → calls_of (first ++ rest) ≡ calls_of first ++ calls_of rest
calls_joined [] rest = refl
calls_joined (t ∷ ts) rest =
    ap (λ cs. calls_of_turn t ++ cs) (calls_joined ts rest) ∙ sym (append_assoc (calls_of_turn t) (calls_of ts) (calls_of rest))

pub turns_go_on : DurableTurnsGoOn
turns_go_on last mid later old state new first rest one other =
    (joined last mid later old state new first rest one other, calls_joined first rest)
