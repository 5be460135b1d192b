-- Datagrams that are sent one after another.
use Rattle.std.proofs.Common.{◌≡◌, ◌+◌, ℕ, Bool, true, false, not, cond, List, [], ◌∷◌, ◌++◌, map, Option, Some, None, Result, Ok, Err, add-zero, refl, sym, ap, ◌∙◌, subst, arith, append_assoc}
use Rattle.std.proofs.lemmas.List.{map-append, length-append, append-nil}
use Rattle.std.proofs.lemmas.List.Sums.{sum_by_push}
use Rattle.babel_state.specs.declared.items.Target.{Target}
use Rattle.babel_state.specs.Addresses.{transport_at}
use Rattle.babel_state.specs.State.{State}
use Rattle.babel_speaker.specs.Sending.{IsBuiltFrom, MeansFrom, draft_at}
use Rattle.babel_wire.specs.declared.errors.WireFault.{WireFault}
use Rattle.babel_wire.specs.declared.report.Report.{Report}
use Rattle.babel_wire.specs.Calls.{Call, Send, Sending, Grows, call_of_send, sending_of, failures}
use Rattle.babel_wire.specs.Turns.{IsDraftSent, AreSent, AreSentSoFar, sent_by, lost_by}

-- One datagram more.
pub sent_more : (now : ℕ) (old mid : State) (xs : List Sending) (x : Sending) → AreSent now old xs mid → IsDraftSent now mid x →
    AreSent now old (xs ++ x ∷ []) (draft_at now mid).state
sent_more now old mid [] x same sent = (subst (λ s. IsDraftSent now s x) same sent, ap (λ s. (draft_at now s).state) same)
sent_more now old mid (y ∷ ys) x (first, rest) sent = (first, sent_more now (draft_at now old).state mid ys x rest sent)

-- No calls.
pub grows_not : (a : Option (List Call)) → Grows a [] a
grows_not None = tt
grows_not (Some a) = sym (append-nil a)

-- Calls, and then more of them.
pub grows_more : (a : Option (List Call)) (xs : List Call) (b : Option (List Call)) (ys : List Call) (c : Option (List Call)) →
    Grows a xs b → Grows b ys c → Grows a (xs ++ ys) c
grows_more a xs b ys None first later = tt
grows_more a xs None ys (Some c) first later = absurd later
grows_more None xs (Some b) ys (Some c) first later = absurd first
grows_more (Some a) xs (Some b) ys (Some c) first later = later ∙ ap (λ h. h ++ ys) first ∙ append_assoc a xs ys

-- What a datagram adds to the counts.
abbrev pub counted : Report → Sending → Report
counted r x = cond x.is_sent (record r { sent = r.sent + 1 }) (record r { faults = r.faults + 1 })

abbrev pub counts_of : List Sending → Report
counts_of xs = record { received = 0; sent = sent_by xs; refused = 0; faults = lost_by xs }

abbrev four : ℕ → ℕ → Report
four sent faults = record { received = 0; sent = sent; refused = 0; faults = faults }

counted_by : (is_sent : Bool) (n m : ℕ) → cond is_sent (four (n + 1) m) (four n (m + 1)) ≡ four (n + cond is_sent 1 0) (m + cond (not is_sent) 1 0)
counted_by true n m = ap (λ k. four (n + 1) k) (sym (add-zero m))
counted_by false n m = ap (λ k. four k (m + 1)) (sym (add-zero n))

pub counted_more : (xs : List Sending) (x : Sending) → counted (counts_of xs) x ≡ counts_of (xs ++ x ∷ [])
counted_more xs x =
    rw (sum_by_push (λ (y : Sending). cond y.is_sent 1 0) xs x, sum_by_push (λ (y : Sending). cond (not y.is_sent) 1 0) xs x) (counted_by x.is_sent (sent_by xs) (lost_by xs))

pub faults_counted : (r : Report) (target : Target) (octets : List ℕ) (result : Result Unit WireFault) →
    (counted r (sending_of target octets result)).faults ≡ r.faults + failures result
faults_counted r target octets (Ok u) = sym (add-zero r.faults)
faults_counted r target octets (Err fault) = refl

pub all_counted : (r : Report) (target : Target) (octets : List ℕ) (result : Result Unit WireFault) →
    (counted r (sending_of target octets result)).sent + (counted r (sending_of target octets result)).faults ≡ r.sent + r.faults + 1
all_counted r target octets (Ok u) = omega arith
all_counted r target octets (Err fault) = omega arith

pub sending_begins : (now : ℕ) (s : State) (h : Option (List Call)) → AreSentSoFar 0 now s h s h (counts_of [])
sending_begins now s h = record { sendings = []; so_many = refl; each = refl; calls = grows_not h; counts = refl }

-- The next datagram was sent, or failed.
pub sending_goes : (count now : ℕ) (old : State) (h : Option (List Call)) (mid : State) (h1 : Option (List Call)) (r : Report)
    (target : Target) (out octets : List ℕ) (new : State) (result : Result Unit WireFault) (h2 : Option (List Call)) (q : Report) →
    AreSentSoFar count now old h mid h1 r →
    Some target ≡ (draft_at now mid).target →
    MeansFrom (transport_at target.iface mid) out (draft_at now mid).messages →
    IsBuiltFrom (transport_at target.iface mid) out (draft_at now mid).messages →
    octets ≡ out → new ≡ (draft_at now mid).state →
    Grows h1 (call_of_send target octets result ∷ []) h2 → q ≡ counted r (sending_of target octets result) →
    AreSentSoFar (count + 1) now old h new h2 q
sending_goes count now old h mid h1 r target out octets new result h2 q so goes means built same state grows counts = record {
  sendings = so.sendings ++ sending_of target octets result ∷ [];
  so_many = length-append so.sendings (sending_of target octets result ∷ []) ∙ ap (λ n. n + 1) so.so_many;
  each = subst (λ s. AreSent now old (so.sendings ++ sending_of target octets result ∷ []) s) (sym state) (sent_more now old mid so.sendings (sending_of target octets result) so.each (record {
    target = sym goes;
    octets = subst (λ o. MeansFrom (transport_at target.iface mid) o (draft_at now mid).messages) (sym same) means;
    built = subst (λ o. IsBuiltFrom (transport_at target.iface mid) o (draft_at now mid).messages) (sym same) built;
  }));
  calls = subst (λ cs. Grows h cs h2) (sym (map-append Send so.sendings (sending_of target octets result ∷ []))) (grows_more h (map Send so.sendings) h1 (Send (sending_of target octets result) ∷ []) h2 so.calls grows);
  counts = counts ∙ ap (λ r. counted r (sending_of target octets result)) so.counts ∙ counted_more so.sendings (sending_of target octets result);
}
