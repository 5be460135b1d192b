-- The snapshot of a restored speaker.
use Rattle.std.proofs.Common.{◌≡◌, ℕ, List, [], ◌∷◌, map, refl, sym, ap, ◌∙◌}
use Rattle.babel_value.specs.declared.distances.Distance.{Distance}
use Rattle.babel_value.specs.declared.keys.Source.{Source}
use Rattle.babel_state.specs.Calls.{first_state}
use Rattle.babel_state.specs.Restarts.{Snapshot, snapshot_of, kept_source, restored, restored_source}
use Rattle.babel_wire.specs.DurableLaws.{RestoredHaveTheSnapshot}

sources_kept : (now : ℕ) (es : List (Source × Distance)) → map kept_source (map (restored_source now) es) ≡ es
sources_kept now [] = refl
sources_kept now (e ∷ es) = ap (λ ds. e ∷ ds) (sources_kept now es)

pub same_snapshot : RestoredHaveTheSnapshot
unfolding snapshot_of restored first_state
same_snapshot now config snapshot same =
    ap (λ r. let s : Snapshot = record { router = r; seqno = snapshot.seqno; raises = snapshot.raises; sources = map kept_source (map (restored_source now) snapshot.sources) } in s) (sym same)
    ∙ ap (λ es. let s : Snapshot = record { router = snapshot.router; seqno = snapshot.seqno; raises = snapshot.raises; sources = es } in s) (sources_kept now snapshot.sources)
