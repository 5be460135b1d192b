-- A restart keeps what a snapshot has, and is otherwise a new speaker.
use Rattle.std.specs.Prelude.{◌≡◌, ℕ, ◌≤◌, Bool, true, false, cond, ◌&&◌, List, [], ◌∷◌, map, Some}
use Rattle.std.specs.Option.{option_map}
use Rattle.std.specs.declared.cmp.Ordering.{Ordering}
use Rattle.std.specs.Ordering.{eq_by_cmp, is_lt}
use Rattle.std.specs.FinMap.{find, is_sorted}
use Rattle.std.specs.FinMap.Entries.{below_all}
use Rattle.std.proofs.Common.{refl, sym, ap, subst, ◌∙◌, arith}
use Rattle.std.proofs.lemmas.List.{length-map}
use Rattle.std.proofs.lemmas.List.Elements.{All-map}
use Rattle.std.proofs.lemmas.Option.{none-some}
use Rattle.babel_value.specs.declared.keys.Source.{Source}
use Rattle.babel_value.specs.Orders.{source_cmp}
use Rattle.babel_route.specs.Selections.{IsCurrent}
use Rattle.babel_sources.specs.Sources.{Sources, pair_of}
use Rattle.babel_state.specs.declared.configs.Config.{Config}
use Rattle.babel_state.specs.Calls.{first_state, selected_route}
use Rattle.babel_state.specs.Configs.{config_fault}
use Rattle.babel_state.specs.Invariants.{IsFinite}
use Rattle.babel_state.specs.Restarts.{Snapshot, kept_source, snapshot_of, IsFinitePair, restored_source, restored_sources, restored, IsRestarted, SnapshotsAreSeen, RestartsAreSeen, SnapshotsAreWhole, RestoredAreWellFormed, RestartsAreWellFormed, RestoredAreCurrent}
use Rattle.babel_state.specs.Seen.{seen}
use Rattle.babel_state.specs.State.{State, announces, cost_at}
use Rattle.babel_state.proofs.NewState.{new_well}
use Rattle.babel_state.proofs.SeeingLaws.{new_is_new}

-- ---- lists of entries whose keys stay

module _ {K V W : Type 0} (R : K → K → Ordering) (f : K × V → W) where
  abbrev revalued : K × V → K × W
  revalued e = (e.0, f e)

  below_revalued : (k : K) (es : List (K × V)) → below_all R k (map revalued es) ≡ below_all R k es
  below_revalued k [] = refl
  below_revalued k (e ∷ es) = ap (λ b. is_lt (R k e.0) && b) (below_revalued k es)

  sorted_revalued : (es : List (K × V)) → is_sorted R (map revalued es) ≡ is_sorted R es
  sorted_revalued [] = refl
  sorted_revalued (e ∷ es) = λ i. below_revalued e.0 es i && sorted_revalued es i

-- ---- the source that is found keeps its distance

pairs_kept : (now : ℕ) (source : Source) (es : Sources) → pair_of source (restored_sources now (map kept_source es)) ≡ pair_of source es
pairs_kept now source [] = refl
pairs_kept now source (e ∷ es) = by (eq_by_cmp source_cmp source e.0) (pairs_kept now source es)
  where
    by : (b : Bool) → pair_of source (restored_sources now (map kept_source es)) ≡ pair_of source es → option_map (λ s. s.distance) (cond b (Some (restored_source now (kept_source e)).1) (find source_cmp source (restored_sources now (map kept_source es)))) ≡ option_map (λ s. s.distance) (cond b (Some e.1) (find source_cmp source es))
    by true rest = refl
    by false rest = rest

-- ---- what a network sees

restarted_seen : (now : ℕ) (c : Config) (old : State) → IsRestarted c (seen old) (seen (restored now c (snapshot_of old)))
unfolding first_state seen selected_route restored snapshot_of
restarted_seen now c old = let new = new_is_new c in record {
  router = refl;
  collects = refl;
  transports = new.transports;
  addresses = new.addresses;
  seqno = refl;
  raises = refl;
  announces = new.announces;
  sources = λ prefix router. pairs_kept now (record { prefix = prefix; router = router }) old.sources;
  entries = λ prefix from. refl;
  selected = λ prefix. refl;
}

pub snapshots_seen : SnapshotsAreSeen
snapshots_seen now c snapshot old is = subst (λ (s : Snapshot). IsRestarted c (seen old) (seen (restored now c s))) is (restarted_seen now c old)

pub restarts_seen : RestartsAreSeen
restarts_seen now c s well valid = restarted_seen now c s

-- ---- well-formed states

pub snapshots_whole : SnapshotsAreWhole
unfolding snapshot_of
snapshots_whole s well = record {
  seqno = well.tables.seqno;
  raises = well.tables.raises;
  few = subst (λ n. n ≤ 512) (sym (length-map s.sources kept_source)) well.tables.sources.few;
  finite = All-map IsFinitePair kept_source s.sources well.tables.sources.finite;
  in_order = sorted_revalued source_cmp (λ e. e.1.distance) s.sources ∙ well.tables.sources.in_order;
}

pub restored_well : RestoredAreWellFormed
unfolding first_state config_fault restored
restored_well now c snapshot valid kept =
    let new = new_well (record c { seqno = 0 }) (omega arith) valid in
    record {
      tables = record {
        interfaces = new.tables.interfaces;
        neighbours = new.tables.neighbours;
        announced = new.tables.announced;
        sources = record {
          few = subst (λ n. n ≤ 512) (sym (length-map snapshot.sources (restored_source now))) kept.few;
          finite = All-map IsFinite (restored_source now) snapshot.sources kept.finite;
          in_order = sorted_revalued source_cmp (λ e. (restored_source now e).1) snapshot.sources ∙ kept.in_order;
        };
        routes = new.tables.routes;
        requests = new.tables.requests;
        pending = new.tables.pending;
        seqno = kept.seqno;
        raises = kept.raises;
        left_out = new.tables.left_out;
      };
      selections = λ prefix route at. absurd (none-some route at);
    }

pub restarts_well : RestartsAreWellFormed
restarts_well now c s well valid = restored_well now c (snapshot_of s) valid (snapshots_whole s well)

pub restored_current : RestoredAreCurrent
unfolding first_state restored
restored_current now c snapshot p = by (announces p (restored now c snapshot))
  where
    by : (local : Bool) → IsCurrent (restored_sources now snapshot.sources) (cost_at (restored now c snapshot)) p local (record { entries = []; selections = [] })
    by true = refl
    by false = refl
