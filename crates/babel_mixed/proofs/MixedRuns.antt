-- Lists of events among routers of others, one after the other.
use Rattle.std.proofs.Common.{◌≡◌, ◌<◌, ◌+◌, ℕ, length, take, get_or, List, [], ◌∷◌, ◌++◌, All, None, refl, sym, ap, ◌∙◌, subst}
use Rattle.std.proofs.Math.Seq.{take-length}
use Rattle.std.proofs.lemmas.List.{take_more}
use Rattle.std.proofs.lemmas.List.Elements.{All-nil, All-cons, All-append}
use Rattle.std.proofs.lemmas.Option.{slice_get_read}
use Rattle.babel_mixed.specs.declared.events.MixedEvent.{MixedEvent}
use Rattle.babel_mixed.specs.declared.events.MixedFault.{MixedFault}
use Rattle.babel_mixed.specs.MixedNetworks.{MixedState}
use Rattle.babel_mixed.specs.Mixed.{HasNoLoopOfOurs, HasNoForwardingLoopOfOurs}
use Rattle.babel_mixed.specs.MixedRuns.{MakesMixed, mixed_fault, IsMixedFault, MakeAllMixed, last_mixed, RanMixed, StopsMixedAt}

-- ---- one more event

make_more : (done : List MixedEvent) (event : MixedEvent) (old mid new : MixedState) (networks : List MixedState) → MakeAllMixed done old networks → last_mixed old networks ≡ mid → MakesMixed event mid new → mixed_fault event mid ≡ None → MakeAllMixed (done ++ event ∷ []) old (networks ++ new ∷ [])
make_more [] event old mid new [] h last made ok =
    (subst (λ (n : MixedState). MakesMixed event n new) (sym last) made, subst (λ (n : MixedState). mixed_fault event n ≡ None) (sym last) ok, tt)
make_more [] event old mid new (n ∷ ns) h last made ok = absurd h
make_more (e ∷ es) event old mid new [] h last made ok = absurd h
make_more (e ∷ es) event old mid new (n ∷ ns) h last made ok = (h.0, h.1, make_more es event n mid new ns h.2 last made ok)

last_more : (old new : MixedState) (networks : List MixedState) → last_mixed old (networks ++ new ∷ []) ≡ new
last_more old new [] = refl
last_more old new (n ∷ ns) = last_more n new ns

all_more : (P : MixedState → Type 0) (networks : List MixedState) (new : MixedState) → All P networks → P new → All P (networks ++ new ∷ [])
all_more P networks new all now = All-append P networks (new ∷ []) all (All-cons P new [] now (All-nil P))

ran_more : (done : List MixedEvent) (event : MixedEvent) (old mid new : MixedState) → RanMixed done old mid → MakesMixed event mid new → mixed_fault event mid ≡ None → HasNoLoopOfOurs new → HasNoForwardingLoopOfOurs new → RanMixed (done ++ event ∷ []) old new
ran_more done event old mid new ran made ok no_loop no_forwarding_loop = record {
  networks = ran.networks ++ new ∷ [];
  made = make_more done event old mid new ran.networks ran.made ran.last made ok;
  last = last_more old new ran.networks;
  no_loop = all_more HasNoLoopOfOurs ran.networks new ran.no_loop no_loop;
  no_forwarding_loop = all_more HasNoForwardingLoopOfOurs ran.networks new ran.no_forwarding_loop no_forwarding_loop;
}

pub ran_none : (n : MixedState) → RanMixed [] n n
ran_none n = record { networks = []; made = tt; last = refl; no_loop = All-nil HasNoLoopOfOurs; no_forwarding_loop = All-nil HasNoForwardingLoopOfOurs }

-- ---- a loop over events

pub ran_step : (events : List MixedEvent) (i : ℕ) (event : MixedEvent) (old mid new : MixedState) → i < length events → event ≡ get_or events i event → RanMixed (take i events) old mid → MakesMixed event mid new → mixed_fault event mid ≡ None → HasNoLoopOfOurs new → HasNoForwardingLoopOfOurs new → RanMixed (take (i + 1) events) old new
ran_step events i event old mid new inside is ran made ok no_loop no_forwarding_loop =
    subst (λ (es : List MixedEvent). RanMixed es old new)
    (sym (take_more events i event inside ∙ ap (λ (e : MixedEvent). take i events ++ e ∷ []) (sym is)))
    (ran_more (take i events) event old mid new ran made ok no_loop no_forwarding_loop)

pub ran_all : (events : List MixedEvent) (i : ℕ) (old new : MixedState) → i ≡ length events → RanMixed (take i events) old new → RanMixed events old new
ran_all events i old new end ran = subst (λ (es : List MixedEvent). RanMixed es old new) (ap (λ n. take n events) end ∙ take-length events) ran

pub stops : (events : List MixedEvent) (i : ℕ) (event : MixedEvent) (fault : MixedFault) (old mid new : MixedState) → i < length events → event ≡ get_or events i event → RanMixed (take i events) old mid → new ≡ mid → IsMixedFault event mid fault → StopsMixedAt events i fault old new
stops events i event fault old mid new inside is ran same refused =
    subst (StopsMixedAt events i fault old) (sym same) (record {
      event = event;
      is = slice_get_read events (length events) i event refl inside is;
      ran = ran;
      refused = refused;
    })
