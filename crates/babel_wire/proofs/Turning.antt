-- Turns, one after another.
use Rattle.std.proofs.Common.{◌≡◌, ◌+◌, ℕ, List, [], ◌∷◌, ◌++◌, map, Option, refl, sym, ap, ◌∙◌, subst, append_assoc}
use Rattle.std.proofs.lemmas.List.{length-append, append-nil}
use Rattle.std.proofs.lemmas.List.Sums.{sum_by_push}
use Rattle.babel_state.specs.State.{State}
use Rattle.babel_state.specs.Ticks.{ticked}
use Rattle.babel_wire.specs.declared.report.Report.{Report}
use Rattle.babel_wire.specs.Calls.{Call, Recv, Now, Send, Receipt, Grows}
use Rattle.babel_wire.specs.Turns.{Turn, IsTurn, AreTurns, calls_of_turn, calls_of, counts_of, counts_of_turn, received_by, refused_by, failed_by, sent_by, lost_by, IsRun, IsOneTurn, IsReceived, IsSent, SendsPending}
use Rattle.babel_wire.proofs.Sendings.{grows_more}

-- One turn more.
pub turns_more : (old mid new : State) (ts : List Turn) (t : Turn) → AreTurns old ts mid → IsTurn mid t new → AreTurns old (ts ++ t ∷ []) new
turns_more old mid new [] t same turn = (new, subst (λ s. IsTurn s t new) same turn, refl)
turns_more old mid new (u ∷ us) t (first, step, rest) turn = (first, step, turns_more first mid new us t rest turn)

calls_more : (ts : List Turn) (t : Turn) → calls_of (ts ++ t ∷ []) ≡ calls_of ts ++ calls_of_turn t
calls_more [] t = append-nil (calls_of_turn t)
calls_more (u ∷ us) t = ap (λ cs. calls_of_turn u ++ cs) (calls_more us t) ∙ sym (append_assoc (calls_of_turn u) (calls_of us) (calls_of_turn t))

-- The counts of two reports together.
abbrev pub together : Report → Report → Report
together a b = record { received = a.received + b.received; sent = a.sent + b.sent; refused = a.refused + b.refused; faults = a.faults + b.faults }

report_more : (ts : List Turn) (t : Turn) → together (counts_of ts) (counts_of_turn t) ≡ counts_of (ts ++ t ∷ [])
report_more ts t =
    rw (
      sum_by_push (λ (t : Turn). received_by t.receipt) ts t,
      sum_by_push (λ (t : Turn). sent_by t.sendings) ts t,
      sum_by_push (λ (t : Turn). refused_by t.is_refused) ts t,
      sum_by_push (λ (t : Turn). failed_by t.receipt + lost_by t.sendings) ts t,
    ) refl

pub run_goes : (count : ℕ) (old : State) (h : Option (List Call)) (mid : State) (h1 : Option (List Call)) (r : Report) (new : State) (h2 : Option (List Call)) (q : Report) →
    IsRun count old h mid h1 r → IsOneTurn mid h1 new h2 q → IsRun (count + 1) old h new h2 (together r q)
run_goes count old h mid h1 r new h2 q run one = record {
  turns = run.turns ++ one.turn ∷ [];
  so_many = length-append run.turns (one.turn ∷ []) ∙ ap (λ n. n + 1) run.so_many;
  speaker = turns_more old mid new run.turns one.turn run.speaker one.speaker;
  calls = subst (λ cs. Grows h cs h2) (sym (calls_more run.turns one.turn)) (grows_more h (calls_of run.turns) h1 (calls_of_turn one.turn) h2 run.calls one.calls);
  counts = ap (λ r. together r q) run.counts ∙ ap (λ q. together (counts_of run.turns) q) one.counts ∙ report_more run.turns one.turn;
}

-- A turn of its parts.
abbrev pub turn_counts : Report → Report → Report
turn_counts receipt sends = record { received = receipt.received; sent = sends.sent; refused = receipt.refused; faults = receipt.faults + sends.faults }

pub turn_of_parts : (now : ℕ) (receipt : Receipt) (old : State) (h : Option (List Call)) (h1 : Option (List Call)) (received : State) (h2 : Option (List Call))
    (q : Report) (ready new : State) (h3 : Option (List Call)) (r : Report) →
    Grows h (Recv receipt ∷ []) h1 → Grows h1 (Now now ∷ []) h2 → IsReceived now receipt old received q → ready ≡ ticked now received →
    IsSent now ready h2 new h3 r → IsOneTurn old h new h3 (turn_counts q r)
turn_of_parts now receipt old h h1 received h2 q ready new h3 r asked moment took tick sends = record {
  turn = record { receipt = receipt; is_refused = took.is_refused; now = now; sendings = sends.sendings };
  speaker = record { received = received; receives = took.speaker; sends = subst (λ s. SendsPending now s sends.sendings new) tick sends.speaker };
  calls = grows_more h (Recv receipt ∷ Now now ∷ []) h2 (map Send sends.sendings) h3 (grows_more h (Recv receipt ∷ []) h1 (Now now ∷ []) h2 asked moment) sends.calls;
  counts = ap (λ q. turn_counts q r) took.counts ∙ ap (λ r. turn_counts (record { received = received_by receipt; sent = 0; refused = refused_by took.is_refused; faults = failed_by receipt }) r) sends.counts;
}
