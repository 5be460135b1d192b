-- No message brings in a route with the own router-id.
use Rattle.std.specs.Prelude.{◌≡◌, ◌⊎◌, ℕ, Bool, true, false, List, [], ◌∷◌, Contains, Some, if◌then◌else◌}
use Rattle.std.proofs.Common.{refl, sym, ◌∙◌, ap, inl, inr, arith}
use Rattle.std.proofs.lemmas.List.Elements.{Contains-push_cases}
use Rattle.babel_value.specs.declared.addresses.Addr.{Addr}
use Rattle.babel_value.specs.declared.distances.Distance.{Distance}
use Rattle.babel_value.specs.declared.keys.Peer.{Peer}
use Rattle.babel_value.specs.Prefixes.{PrefixValue}
use Rattle.babel_message.specs.declared.messages.Message.{Message}
use Rattle.babel_message.specs.declared.messages.Message.TheVariants as messages
use Rattle.babel_state.specs.declared.notes.Verdict.TheVariants as verdicts
use Rattle.babel_state.specs.CurrentSelections.{AreRoutesInOrder}
use Rattle.babel_state.specs.Hellos.{Step}
use Rattle.babel_state.specs.Messages.{handle_message}
use Rattle.babel_state.specs.Sameness.{is_same_router}
use Rattle.babel_state.specs.Seen.{UpdateValue, HeardValue, update_of, heard_at, seen, IsHeardFrom, NamesOthers}
use Rattle.babel_state.specs.State.{State, is_neighbour}
use Rattle.babel_state.specs.StepLaws.{OwnValue, own_of, KeepsOwn, GrowsOnce}
use Rattle.babel_state.specs.Updates.{handle_update}
use Rattle.babel_state.proofs.Hearing.{messages_heard}
use Rattle.babel_state.proofs.Keeping.{message_own}
use Rattle.babel_state.proofs.SettledLemmas.{same_router}

pub nothing_in : {X : Type 0} → (x : X) → Contains [] x → ⊥
nothing_in x h = omega (arith, h.1)

only_one : {X : Type 0} → (y x : X) → Contains (y ∷ []) x → y ≡ x
only_one y x h = by (Contains-push_cases [] y x h)
  where
    by : (Contains [] x ⊎ (y ≡ x)) → y ≡ x
    by (inl none) = absurd (nothing_in x none)
    by (inr same) = same

-- ---- if nothing is heard

pub none_heard : (peer : Peer) (old new : State) → new.router ≡ old.router →
    ((prefix : PrefixValue) (from : Peer) (h : HeardValue) → heard_at prefix from new ≡ Some h → (heard_at prefix from old ≡ Some h) ⊎ IsHeardFrom peer [] prefix from h) →
    NamesOthers (seen old) → NamesOthers (seen new)
unfolding seen
none_heard peer old new same entries before prefix from h is named = by (entries prefix from h is)
  where
    by : ((heard_at prefix from old ≡ Some h) ⊎ IsHeardFrom peer [] prefix from h) → ⊥
    by (inl there) = before prefix from h there (named ∙ same)
    by (inr heard) = nothing_in _ heard.1

-- ---- an update with the own router-id

own_update : (now : ℕ) (peer : Peer) (prefix : PrefixValue) (router : List ℕ) (next_hop : Addr) (distance : Distance) (interval : ℕ) (s : State) → router ≡ s.router →
    (handle_update now peer prefix router next_hop distance interval s).0 ≡ s
unfolding handle_update
own_update now peer prefix router next_hop distance interval s same = by (is_same_router router s.router) _ (ap (λ r. is_same_router router r) (sym same) ∙ same_router router)
  where
    by : (b : Bool) (other : Step) → b ≡ true → (if b then (s, verdicts.OwnRouterId) else other).0 ≡ s
    by true other is = refl
    by false other is = ap (λ c. (if c then (s, verdicts.OwnRouterId) else other).0) is

-- it changes nothing
own_ignored : (now : ℕ) (peer : Peer) (message : Message) (s : State) (u : UpdateValue) → Contains (update_of message) u → u.router ≡ s.router → (handle_message now peer message s).0 ≡ s
unfolding handle_message
own_ignored now peer (messages.Update prefix router next_hop seqno metric interval) s u there same = by (is_neighbour peer s)
  where
    by : (b : Bool) → (if b then handle_update now peer prefix router next_hop (record { seqno = seqno; metric = metric }) interval s else (s, verdicts.UnknownNeighbour)).0 ≡ s
    by true = own_update now peer prefix router next_hop (record { seqno = seqno; metric = metric }) interval s (ap (λ (v : UpdateValue). v.router) (only_one _ u there) ∙ same)
    by false = refl
own_ignored now peer (messages.AckRequest opaque interval) s u there same = absurd (nothing_in u there)
own_ignored now peer (messages.Ack opaque) s u there same = absurd (nothing_in u there)
own_ignored now peer (messages.Hello unicast seqno interval) s u there same = absurd (nothing_in u there)
own_ignored now peer (messages.Ihu to rxcost interval) s u there same = absurd (nothing_in u there)
own_ignored now peer (messages.Retraction prefix interval) s u there same = absurd (nothing_in u there)
own_ignored now peer (messages.RetractAll interval) s u there same = absurd (nothing_in u there)
own_ignored now peer (messages.RouteRequest prefix) s u there same = absurd (nothing_in u there)
own_ignored now peer messages.DumpRequest s u there same = absurd (nothing_in u there)
own_ignored now peer (messages.SeqnoRequest prefix router seqno hops) s u there same = absurd (nothing_in u there)

-- ---- any message

router_kept : (s t : State) → KeepsOwn s t ⊎ GrowsOnce s t → t.router ≡ s.router
unfolding own_of
router_kept s t (inl same) = ap (λ (o : OwnValue). o.router) same
router_kept s t (inr same) = ap (λ (o : OwnValue). o.router) same

pub message_others : (now : ℕ) (peer : Peer) (message : Message) (s : State) → AreRoutesInOrder s →
    NamesOthers (seen s) → NamesOthers (seen (handle_message now peer message s).0)
unfolding seen
message_others now peer message s sorted before prefix from h is named = by ((messages_heard now peer message s sorted).1 prefix from h is)
  where
    own : h.router ≡ s.router
    own = named ∙ router_kept s (handle_message now peer message s).0 (message_own now peer message s)

    by : ((heard_at prefix from s ≡ Some h) ⊎ IsHeardFrom peer (update_of message) prefix from h) → ⊥
    by (inl there) = before prefix from h there own
    by (inr heard) = before prefix from h (ap (heard_at prefix from) (sym (own_ignored now peer message s _ heard.1 own)) ∙ is) own
