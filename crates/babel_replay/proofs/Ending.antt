-- What is written at the end of a log.
use Rattle.std.proofs.Common.{◌≡◌, ◌+◌, ◌⊎◌, inl, inr, ℕ, List, [], length, Option, IsNone, Result, Ok, Err, IsOk, OnOk, IfErr, sym, subst, true≢false}
use Rattle.std.proofs.lemmas.Result.{IfErr-at_err}
use Rattle.std.specs.Io.KnownBytes.{Appends}
use Rattle.babel_value.specs.Prefixes.{PrefixValue}
use Rattle.babel_state.specs.declared.errors.ConfigFault.{ConfigFault}
use Rattle.babel_state.specs.State.{State}
use Rattle.babel_text.specs.declared.errors.LineFault.{LineFault}
use Rattle.babel_text.specs.declared.errors.LineFault.TheVariants.{Write}
use Rattle.babel_replay.specs.declared.errors.ReplayFault.{ReplayFault}
use Rattle.babel_replay.specs.declared.errors.ReplayFault.TheVariants.{Config, Line}
use Rattle.babel_replay.specs.LogReports.{Ending, OfAllLines, OfLinesBefore, IsLogReport, IsReplayFault, IsStopped, Writes, whole_report, routes_after}
use Rattle.babel_replay.specs.Report.{table_lines}
use Rattle.babel_replay.specs.Routes.{route_lines}
use Rattle.babel_replay.specs.Seen.{SeenPrefix}
use Rattle.babel_replay.specs.Taking.{IsReported, LeadsTo}
use Rattle.babel_replay.proofs.Logs.{all_weaker, before_weaker, write_failed}
use Rattle.babel_replay.proofs.Writing.{appends_more}

-- ---- the whole log

pub ended_well : (log : Option (List ℕ)) (P Q : List (List ℕ) → Type 0) (A : Type 0) (taken : Result Unit LineFault) →
    (A → (texts : List (List ℕ)) → P texts → Q texts) → OnOk taken (OfAllLines log P) → IsOk taken × A → OfAllLines log Q
ended_well log P Q A (Ok u) go all (is, a) = all_weaker log P Q (go a) all
ended_well log P Q A (Err fault) go all (is, a) = absurd (true≢false (sym is))

-- ---- up to a fault

pub ended_at : (log : Option (List ℕ)) (number : ℕ) (fault : LineFault) (P Q : List (List ℕ) → Type 0) (A : Type 0) (taken : Result Unit LineFault) →
    ((texts : List (List ℕ)) → P texts → number ≡ length texts + 1) → (A → (texts : List (List ℕ)) → P texts → Q texts) →
    OnOk taken (OfAllLines log P) → IfErr taken (λ f. OfLinesBefore log number f P) →
    (fault ≡ Write) ⊎ ((taken ≡ Err fault) × A) → OfLinesBefore log number fault Q
ended_at log number fault P Q A taken count go all before (inl same) =
    subst (λ f. OfLinesBefore log number f Q) (sym same) (write_failed log number P Q taken count all before)
ended_at log number fault P Q A taken count go all before (inr (is, a)) =
    before_weaker log number fault P Q (go a) (IfErr-at_err (λ f. OfLinesBefore log number f P) is before)

-- ---- what was written

pub counted : (number : ℕ) (old : State) (seen : List SeenPrefix) (new : State) (later : List SeenPrefix) (a b : Option (List ℕ)) (texts : List (List ℕ)) →
    IsReported number old seen new later a b texts → number ≡ length texts + 1
counted number old seen new later a b texts so = so.before_it

pub reported_whole : (number : ℕ) (first : State) (seen : List SeenPrefix) (s : State) (later : List SeenPrefix) (a b c : Option (List ℕ)) →
    seen ≡ [] → Appends b c (table_lines s later) → (texts : List (List ℕ)) → IsReported number first seen s later a b texts → Writes whole_report first a c texts
reported_whole number first seen s later a b c none table texts so = record {
  last = s;
  seen = later;
  report = so.report;
  reported = subst (λ es. IsLogReport texts first es s later so.report) none so.reported;
  written = appends_more a b c so.report (table_lines s later) so.written table;
}

pub counted_led : (number : ℕ) (old new : State) (texts : List (List ℕ)) → LeadsTo number old new texts → number ≡ length texts + 1
counted_led number old new texts so = so.before_it

pub routes_written : (number : ℕ) (prefix : PrefixValue) (first s : State) (a b : Option (List ℕ)) →
    Appends a b (route_lines prefix s) → (texts : List (List ℕ)) → LeadsTo number first s texts → Writes (routes_after prefix) first a b texts
routes_written number prefix first s a b routes texts so = record { last = s; seen = so.seen; report = so.report; reported = so.reported; written = routes }

-- ---- with a speaker of the configuration

pub from_first : (ending : Ending) (first s : State) (log a b : Option (List ℕ)) (ended : Result Unit ReplayFault) → s ≡ first →
    OnOk ended (OfAllLines log (Writes ending s a b)) → OnOk ended (OfAllLines log (Writes ending first a b))
from_first ending first s log a b ended is = subst (λ t. OnOk ended (OfAllLines log (Writes ending t a b))) is

pub stopped_from_first : (ending : Ending) (first s : State) (cause : Option ConfigFault) (log left a b : Option (List ℕ)) (ended : Result Unit ReplayFault) →
    s ≡ first → IsNone cause → IfErr ended (IsStopped ending s log a b) → IfErr ended (IsReplayFault ending first cause log left a b)
stopped_from_first ending first s cause log left a b (Ok u) is valid stopped = tt
stopped_from_first ending first s cause log left a b (Err (Config fault)) is valid stopped = absurd stopped
stopped_from_first ending first s cause log left a b (Err (Line number fault)) is valid stopped =
    (valid, subst (λ t. OfLinesBefore log number fault (Writes ending t a b)) is stopped)
