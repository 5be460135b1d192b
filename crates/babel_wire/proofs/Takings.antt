-- Datagrams that are taken, and given to the wire later.
use Rattle.std.proofs.Common.{◌≡◌, ◌+◌, ℕ, false, List, [], ◌∷◌, ◌++◌, map, take, All, Option, Some, Result, refl, sym, ap, ◌∙◌, subst}
use Rattle.std.proofs.lemmas.List.{map-append, length-append, length-map}
use Rattle.std.proofs.lemmas.List.Elements.{All-nil, All-cons}
use Rattle.babel_state.specs.declared.items.Target.{Target}
use Rattle.babel_state.specs.Addresses.{transport_at}
use Rattle.babel_state.specs.State.{State}
use Rattle.babel_speaker.specs.Sending.{IsBuiltFrom, MeansFrom, draft_at}
use Rattle.babel_wire.specs.declared.errors.WireFault.{WireFault}
use Rattle.babel_wire.specs.declared.report.Report.{Report}
use Rattle.babel_wire.specs.Calls.{Call, Send, Sending, Grows, call_of_send, sending_of}
use Rattle.babel_wire.specs.Turns.{AreSent, SendsPending, Ends}
use Rattle.babel_wire.proofs.Sendings.{sent_more, grows_more, counted, counted_more}
use Rattle.babel_wire.specs.declared.durable.outbox.Datagram.{Datagram}
use Rattle.babel_wire.specs.Taken.{Taken, taken_of, waiting, datagram_of}
use Rattle.babel_wire.specs.DurableRuns.{AreTakenSoFar, AreGiven}

-- The next datagram was taken.
pub taking_goes : (count now : ℕ) (old mid : State) (taken : List Taken) (target : Target) (octets : List ℕ) (new : State) (later : List Taken) →
    AreTakenSoFar count now old taken mid →
    Some target ≡ (draft_at now mid).target →
    MeansFrom (transport_at target.iface mid) octets (draft_at now mid).messages →
    IsBuiltFrom (transport_at target.iface mid) octets (draft_at now mid).messages →
    new ≡ (draft_at now mid).state → later ≡ taken ++ record { target = target; octets = octets } ∷ [] →
    AreTakenSoFar (count + 1) now old later new
taking_goes count now old mid taken target octets new later so goes means built state more =
    let one : Taken = record { target = target; octets = octets } in
    subst (λ ts. AreTakenSoFar (count + 1) now old ts new) (sym more) (record {
      so_many = length-append taken (one ∷ []) ∙ ap (λ n. n + 1) so.so_many;
      each = subst (λ xs. AreSent now old xs new) (sym (map-append waiting taken (one ∷ [])))
          (subst (λ s. AreSent now old (map waiting taken ++ waiting one ∷ []) s) (sym state)
          (sent_more now old mid (map waiting taken) (waiting one) so.each (record { target = sym goes; octets = means; built = built })));
    })

-- ---- the datagrams are given to the wire

-- The next one was given.
given_more : (taken : List Taken) (h h1 : Option (List Call)) (r : Report) (one : Taken) (octets : List ℕ) (result : Result Unit WireFault)
    (h2 : Option (List Call)) (q : Report) →
    AreGiven taken h h1 r → octets ≡ one.octets → Grows h1 (call_of_send one.target octets result ∷ []) h2 → q ≡ counted r (sending_of one.target octets result) →
    AreGiven (taken ++ one ∷ []) h h2 q
given_more taken h h1 r one octets result h2 q so same grows counts =
    let x : Sending = sending_of one.target octets result in
    record {
      sendings = so.sendings ++ x ∷ [];
      same = map-append datagram_of so.sendings (x ∷ []) ∙ ap (λ ts. ts ++ datagram_of x ∷ []) so.same
          ∙ ap (λ (o : List ℕ). taken ++ record { target = one.target; octets = o } ∷ []) same;
      calls = subst (λ cs. Grows h cs h2) (sym (map-append Send so.sendings (x ∷ []))) (grows_more h (map Send so.sendings) h1 (Send x ∷ []) h2 so.calls grows);
      counts = counts ∙ ap (λ r. counted r x) so.counts ∙ counted_more so.sendings x;
    }

pub given_next : (datagrams : List Datagram) (index : ℕ) (one : Datagram) (h h1 : Option (List Call)) (r : Report) (octets : List ℕ)
    (result : Result Unit WireFault) (h2 : Option (List Call)) (q : Report) →
    AreGiven (map taken_of (take index datagrams)) h h1 r → take (index + 1) datagrams ≡ take index datagrams ++ one ∷ [] → octets ≡ one.octets.items →
    Grows h1 (call_of_send one.target octets result ∷ []) h2 → q ≡ counted r (sending_of one.target octets result) →
    AreGiven (map taken_of (take (index + 1) datagrams)) h h2 q
given_next datagrams index one h h1 r octets result h2 q so next same grows counts =
    subst (λ ts. AreGiven ts h h2 q) (sym (ap (map taken_of) next ∙ map-append taken_of (take index datagrams) (one ∷ [])))
    (given_more (map taken_of (take index datagrams)) h h1 r (taken_of one) octets result h2 q so same grows counts)

-- ---- what was taken is what was sent

sent_same : (now : ℕ) (s new : State) (xs : List Sending) → AreSent now s (map waiting (map datagram_of xs)) new → AreSent now s xs new
sent_same now s new [] same = same
sent_same now s new (x ∷ xs) (first, rest) = (record { target = first.target; octets = first.octets; built = first.built }, sent_same now (draft_at now s).state new xs rest)

-- Datagrams that were taken, and given to the wire afterwards.
pub pending_given : (now : ℕ) (old new : State) (taken : List Taken) (xs : List Sending) → map datagram_of xs ≡ taken →
    SendsPending now old (map waiting taken) new → SendsPending now old xs new
pending_given now old new taken xs same pending =
    let p : SendsPending now old (map waiting (map datagram_of xs)) new = subst (λ ts. SendsPending now old (map waiting ts) new) (sym same) pending in
    record {
      last = p.last;
      each = sent_same now old p.last xs p.each;
      ends = subst (λ n. Ends now n p.last new) (length-map (map datagram_of xs) waiting ∙ length-map xs datagram_of) p.ends;
    }

-- None of them is sent if they aren't given to it.
pub all_waiting : (taken : List Taken) → All (λ (x : Sending). x.is_sent ≡ false) (map waiting taken)
all_waiting [] = All-nil (λ (x : Sending). x.is_sent ≡ false)
all_waiting (d ∷ ds) = All-cons (λ (x : Sending). x.is_sent ≡ false) (waiting d) (map waiting ds) refl (all_waiting ds)
