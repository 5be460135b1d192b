-- Durable turns, one after another.
use Rattle.std.proofs.Common.{◌≡◌, ◌+◌, ◌≤◌, ℕ, Bool, true, false, List, [], ◌∷◌, ◌++◌, map, length, All, Option, Some, None, add-zero, refl, sym, ap, ◌∙◌, subst, arith, append_assoc, true≢false, if◌then◌else◌}
use Rattle.std.proofs.lemmas.List.{length-append, length-map, append-nil}
use Rattle.std.proofs.lemmas.List.Elements.{All-push}
use Rattle.std.proofs.lemmas.List.Sums.{sum_by_push}
use Rattle.std.proofs.lemmas.Option.{none-some}
use Rattle.babel_state.specs.Restarts.{Snapshot, snapshot_of}
use Rattle.babel_state.specs.Ticks.{ticked}
use Rattle.babel_speaker.specs.Versions.{SpeakerValue, CountsChanges}
use Rattle.babel_wire.specs.declared.report.Report.{Report}
use Rattle.babel_wire.specs.Calls.{Call, Recv, Now, Send, Sending, Receipt, Grows}
use Rattle.babel_wire.specs.Turns.{IsReceived, SendsPending, received_by, refused_by, failed_by, sent_by, lost_by}
use Rattle.babel_wire.proofs.Sendings.{grows_more}
use Rattle.babel_wire.specs.declared.durable.report.DurableReport.{DurableReport}
use Rattle.babel_wire.specs.Keeping.{DurableTurn, Keeping, Unchanged, IsDurableTurn, calls_of, calls_of_turn, calls_of_keeping, is_kept, last_kept}
use Rattle.babel_wire.specs.DurableRuns.{Fits, IsKept, IsKeeping, IsDurableRun, IsOneDurableTurn, AreGiven, counts_of, counts_of_turn, failed_keep, unsent_by, kept_version, together}
use Rattle.babel_wire.specs.Taken.{Taken, waiting}
use Rattle.babel_wire.proofs.Keepings.{keepers_fit_on, fits_after, some_same}
use Rattle.babel_wire.proofs.Takings.{pending_given, all_waiting}
use Rattle.babel_wire.proofs.DurableTurns.{turns_go_on}

-- ---- one turn

-- The counts of a turn, by whether its snapshot is kept.
abbrev counts_if : Bool → Receipt → Bool → List Sending → DurableReport
counts_if kept receipt is_refused xs = record {
  report = record {
    received = received_by receipt;
    sent = sent_by (if kept then xs else []);
    refused = refused_by is_refused;
    faults = failed_by receipt + lost_by (if kept then xs else []);
  };
  failed_keeps = if kept then 0 else 1;
  lost = if kept then 0 else length xs;
}

abbrev pub lost_counts : Report → ℕ → DurableReport
lost_counts q count = record { report = q; failed_keeps = 1; lost = count }

abbrev pub kept_counts : Report → Report → DurableReport
kept_counts q r = record {
  report = record { received = q.received; sent = r.sent; refused = q.refused; faults = q.faults + r.faults };
  failed_keeps = 0;
  lost = 0;
}

abbrev receipt_counts : Receipt → Bool → Report
receipt_counts receipt is_refused = record { received = received_by receipt; sent = 0; refused = refused_by is_refused; faults = failed_by receipt }

abbrev with_faults : Receipt → Bool → ℕ → Report
with_faults receipt is_refused n = record { received = received_by receipt; sent = 0; refused = refused_by is_refused; faults = n }

lost_counted : (receipt : Receipt) (is_refused kept : Bool) (taken : List Taken) (q : Report) (count : ℕ) → q ≡ receipt_counts receipt is_refused →
    count ≡ length taken → kept ≡ false → lost_counts q count ≡ counts_if kept receipt is_refused (map waiting taken)
lost_counted receipt is_refused kept taken q count took many not =
    ap (λ q. lost_counts q count) took
    ∙ ap (λ n. lost_counts (receipt_counts receipt is_refused) n) (many ∙ sym (length-map taken waiting))
    ∙ ap (λ n. lost_counts (with_faults receipt is_refused n) (length (map waiting taken))) (sym (add-zero (failed_by receipt)))
    ∙ ap (λ (k : Bool). counts_if k receipt is_refused (map waiting taken)) (sym not)

kept_counted : (receipt : Receipt) (is_refused kept : Bool) (xs : List Sending) (q r : Report) → q ≡ receipt_counts receipt is_refused →
    r ≡ record { received = 0; sent = sent_by xs; refused = 0; faults = lost_by xs } → kept ≡ true → kept_counts q r ≡ counts_if kept receipt is_refused xs
kept_counted receipt is_refused kept xs q r took given is =
    ap (λ q. kept_counts q r) took
    ∙ ap (λ r. kept_counts (receipt_counts receipt is_refused) r) given
    ∙ ap (λ (k : Bool). counts_if k receipt is_refused xs) (sym is)

-- The calls of a turn, by whether its snapshot is kept.
abbrev calls_if : Bool → Receipt → ℕ → Keeping → List Sending → List Call
calls_if kept receipt now keeping xs = Recv receipt ∷ Now now ∷ calls_of_keeping keeping ++ map Send (if kept then xs else [])

calls_until : (receipt : Receipt) (now : ℕ) (keeping : Keeping) (h h1 h2 h3 : Option (List Call)) →
    Grows h (Recv receipt ∷ []) h1 → Grows h1 (Now now ∷ []) h2 → Grows h2 (calls_of_keeping keeping) h3 →
    Grows h (Recv receipt ∷ Now now ∷ calls_of_keeping keeping) h3
calls_until receipt now keeping h h1 h2 h3 asked moment keep =
    grows_more h (Recv receipt ∷ Now now ∷ []) h2 (calls_of_keeping keeping) h3 (grows_more h (Recv receipt ∷ []) h1 (Now now ∷ []) h2 asked moment) keep

pub lost_turn : (now : ℕ) (receipt : Receipt) (old received ready new : SpeakerValue) (known later : Option ℕ) (h h1 h2 h3 : Option (List Call)) (q : Report)
    (taken : List Taken) (count : ℕ) (is_done : Bool) →
    Grows h (Recv receipt ∷ []) h1 → Grows h1 (Now now ∷ []) h2 → IsReceived now receipt old.state received.state q → ready.state ≡ ticked now received.state →
    SendsPending now ready.state (map waiting taken) new.state → IsKeeping new known h2 later h3 is_done → CountsChanges old new →
    is_done ≡ false → count ≡ length taken → IsOneDurableTurn known old h later new h3 (lost_counts q count)
lost_turn now receipt old received ready new known later h h1 h2 h3 q taken count is_done asked moment took tick pending k counted not many =
    let kept_not : is_kept k.keeping ≡ false = sym k.done ∙ not in
    let calls : Grows h (Recv receipt ∷ Now now ∷ calls_of_keeping k.keeping) h3 = calls_until receipt now k.keeping h h1 h2 h3 asked moment k.calls in
    record {
      turn = record { turn = record { receipt = receipt; is_refused = took.is_refused; now = now; sendings = map waiting taken }; keeping = k.keeping };
      speaker = λ last fits. record {
        turn = record { received = received.state; receives = took.speaker; sends = subst (λ s. SendsPending now s (map waiting taken) new.state) tick pending };
        keeps = k.keeps last (keepers_fit_on last known old new fits counted);
        lost = λ _. all_waiting taken;
      };
      keeper = k.keeper;
      calls = subst (λ (b : Bool). Grows h (calls_if b receipt now k.keeping (map waiting taken)) h3) (sym kept_not)
          (subst (λ cs. Grows h (Recv receipt ∷ Now now ∷ cs) h3) (sym (append-nil (calls_of_keeping k.keeping))) calls);
      counts = lost_counted receipt took.is_refused (is_kept k.keeping) taken q count took.counts many kept_not;
      quiet = k.quiet;
    }

pub kept_turn : (now : ℕ) (receipt : Receipt) (old received ready new : SpeakerValue) (known later : Option ℕ) (h h1 h2 h3 h4 : Option (List Call)) (q r : Report)
    (taken : List Taken) (is_done : Bool) →
    Grows h (Recv receipt ∷ []) h1 → Grows h1 (Now now ∷ []) h2 → IsReceived now receipt old.state received.state q → ready.state ≡ ticked now received.state →
    SendsPending now ready.state (map waiting taken) new.state → IsKeeping new known h2 later h3 is_done → CountsChanges old new →
    is_done ≡ true → AreGiven taken h3 h4 r → IsOneDurableTurn known old h later new h4 (kept_counts q r)
kept_turn now receipt old received ready new known later h h1 h2 h3 h4 q r taken is_done asked moment took tick pending k counted is given =
    let kept : is_kept k.keeping ≡ true = sym k.done ∙ is in
    let sent : SendsPending now ready.state given.sendings new.state = pending_given now ready.state new.state taken given.sendings given.same pending in
    record {
      turn = record { turn = record { receipt = receipt; is_refused = took.is_refused; now = now; sendings = given.sendings }; keeping = k.keeping };
      speaker = λ last fits. record {
        turn = record { received = received.state; receives = took.speaker; sends = subst (λ s. SendsPending now s given.sendings new.state) tick sent };
        keeps = k.keeps last (keepers_fit_on last known old new fits counted);
        lost = λ not. absurd (true≢false (sym kept ∙ not));
      };
      keeper = k.keeper;
      calls = subst (λ (b : Bool). Grows h (calls_if b receipt now k.keeping given.sendings) h4) (sym kept)
          (grows_more h (Recv receipt ∷ Now now ∷ calls_of_keeping k.keeping) h3 (map Send given.sendings) h4
          (calls_until receipt now k.keeping h h1 h2 h3 asked moment k.calls) given.calls);
      counts = kept_counted receipt took.is_refused (is_kept k.keeping) given.sendings q r took.counts given.counts kept;
      quiet = k.quiet;
    }

-- ---- turn after turn

abbrev six : ℕ → ℕ → ℕ → ℕ → ℕ → ℕ → DurableReport
six a b c d e f = record { report = record { received = a; sent = b; refused = c; faults = d }; failed_keeps = e; lost = f }

sixes : (a a' b b' c c' d d' e e' f f' : ℕ) → a ≡ a' → b ≡ b' → c ≡ c' → d ≡ d' → e ≡ e' → f ≡ f' → six a b c d e f ≡ six a' b' c' d' e' f'
sixes a a' b b' c c' d d' e e' f f' p q r s t u =
    ap (λ x. six x b c d e f) p ∙ ap (λ x. six a' x c d e f) q ∙ ap (λ x. six a' b' x d e f) r ∙ ap (λ x. six a' b' c' x e f) s
    ∙ ap (λ x. six a' b' c' d' x f) t ∙ ap (λ x. six a' b' c' d' e' x) u

report_more : (ts : List DurableTurn) (t : DurableTurn) → together (counts_of ts) (counts_of_turn t) ≡ counts_of (ts ++ t ∷ [])
report_more ts t = sixes _ _ _ _ _ _ _ _ _ _ _ _
    (sym (sum_by_push (λ (t : DurableTurn). (counts_of_turn t).report.received) ts t))
    (sym (sum_by_push (λ (t : DurableTurn). (counts_of_turn t).report.sent) ts t))
    (sym (sum_by_push (λ (t : DurableTurn). (counts_of_turn t).report.refused) ts t))
    (sym (sum_by_push (λ (t : DurableTurn). (counts_of_turn t).report.faults) ts t))
    (sym (sum_by_push (λ (t : DurableTurn). failed_keep t.keeping) ts t))
    (sym (sum_by_push unsent_by ts t))

known_at_most : (last : Option Snapshot) (known : Option ℕ) (s : SpeakerValue) (count : ℕ) → Fits last known s → known ≡ Some count → count ≤ s.snapshot_version
known_at_most None None s count fits same = absurd (none-some count same)
known_at_most (Some snapshot) None s count fits same = absurd fits
known_at_most None (Some version) s count fits same = absurd fits
known_at_most (Some snapshot) (Some version) s count fits same = omega (arith, fits.0, some_same version count same)

calls_more : (ts : List DurableTurn) (t : DurableTurn) → calls_of (ts ++ t ∷ []) ≡ calls_of ts ++ calls_of_turn t
calls_more [] t = append-nil (calls_of_turn t)
calls_more (u ∷ us) t = ap (λ cs. calls_of_turn u ++ cs) (calls_more us t) ∙ sym (append_assoc (calls_of_turn u) (calls_of us) (calls_of_turn t))

pub run_goes : (count : ℕ) (last : Option Snapshot) (known : Option ℕ) (old : SpeakerValue) (h : Option (List Call)) (held : Option ℕ) (mid : SpeakerValue)
    (h1 : Option (List Call)) (r : DurableReport) (later : Option ℕ) (new : SpeakerValue) (h2 : Option (List Call)) (q : DurableReport) →
    Fits last known old → CountsChanges old mid → CountsChanges mid new →
    IsDurableRun count last known old h held mid h1 r → IsOneDurableTurn held mid h1 later new h2 q →
    IsDurableRun (count + 1) last known old h later new h2 (together r q)
run_goes count last known old h held mid h1 r later new h2 q fits first second run one =
    let t : DurableTurn = one.turn in
    let turn : IsDurableTurn run.kept mid.state t new.state = one.speaker run.kept run.fits in
    let after : Option Snapshot = last_kept run.kept (snapshot_of new.state) t.keeping in
    record {
      turns = run.turns ++ t ∷ [];
      kept = after;
      so_many = length-append run.turns (t ∷ []) ∙ ap (λ n. n + 1) run.so_many;
      speaker = (turns_go_on last run.kept after old.state mid.state new.state run.turns (t ∷ []) run.speaker (new.state, turn, (refl, refl))).0;
      fits = subst (λ (v : Option ℕ). Fits after v new) (sym one.keeper) (fits_after run.kept held new t.keeping (keepers_fit_on run.kept held mid new run.fits second));
      calls = subst (λ cs. Grows h cs h2) (sym (calls_more run.turns t)) (grows_more h (calls_of run.turns) h1 (calls_of_turn t) h2 run.calls one.calls);
      counts = ap (λ r. together r q) run.counts ∙ ap (λ q. together (counts_of run.turns) q) one.counts ∙ report_more run.turns t;
      quiet = λ kept.
          let most : new.snapshot_version ≤ mid.snapshot_version =
          known_at_most last known mid new.snapshot_version (keepers_fit_on last known old mid fits first) kept.0 in
          let same : new.snapshot_version ≡ mid.snapshot_version = omega (arith, most, second.snapshot_grows) in
          let before : All (λ (t : DurableTurn). t.keeping ≡ Unchanged) run.turns × (held ≡ known) = run.quiet (subst (IsKept known) same kept) in
          let now : t.keeping ≡ Unchanged = one.quiet (before.1 ∙ kept.0, kept.1) in (
            All-push (λ (t : DurableTurn). t.keeping ≡ Unchanged) run.turns t before.0 now,
            one.keeper ∙ ap (kept_version held new.snapshot_version) now ∙ before.1,
          );
    }
