-- Accepted configurations make a network.
use Rattle.std.proofs.Common.{◌≡◌, ◌<◌, ◌+◌, ℕ, Bool, true, false, List, [], ◌∷◌, ◌++◌, All, Option, Some, None, option_map, length, map, nat_lt, get_or, drop, take, suc, cond, refl, sym, ap, ◌∙◌, subst, arith}
use Rattle.std.proofs.Math.Seq.{drop-cons}
use Rattle.std.proofs.lemmas.List.{length-map, take_more, map-append}
use Rattle.std.proofs.lemmas.List.Elements.{All-nil, All-cons, All-head, All-tail, All-map, All-append}
use Rattle.std.proofs.lemmas.Option.{none-some, slice_get-map}
use Rattle.babel_state.specs.declared.configs.Config.{Config}
use Rattle.babel_state.specs.declared.errors.ConfigFault.{ConfigFault}
use Rattle.babel_state.specs.Calls.{first_state}
use Rattle.babel_state.specs.Configs.{config_fault}
use Rattle.babel_state.specs.Invariants.{IsWellFormed, NewSpeakersAreWellFormed}
use Rattle.babel_state.specs.Seen.{seen, IsNew}
use Rattle.babel_state.specs.SeenLaws.{NewSpeakersAreNew}
use Rattle.babel_state.specs.State.{State}
use Rattle.babel_machine.specs.declared.errors.NetFault.{NetFault}
use Rattle.babel_machine.specs.declared.errors.NetFault.TheVariants.{TooManyNodes, BadConfig}
use Rattle.babel_machine.specs.Acceptance.{bad_or, first_bad_from, fault_or, fault_together, net_fault, AcceptedAreApart}
use Rattle.babel_machine.specs.NetworkLaws.{FirstIsSound}
use Rattle.babel_machine.specs.Worlds.{IsFirst}
use Rattle.babel_net.specs.Networks.{world_of}
use Rattle.babel_net.specs.Invariants.{IsReadable}
use Rattle.babel_net.specs.Laws.{FirstNetworksAreSound}
use Rattle.babel_net.specs.Promises.{first_network}
use Rattle.babel_net.proofs.SeenWorlds.{speaker_seen}

-- What is proved of one new speaker, and of networks that are seen.
pub record FirstLaws : Type 0 where
  pub apart : AcceptedAreApart
  pub sound : FirstIsSound
  pub new : NewSpeakersAreNew
  pub well_formed : NewSpeakersAreWellFormed

abbrev AreValid : List Config → Type 0
AreValid = All (λ (c : Config). config_fault c ≡ None)

abbrev HaveWords : List Config → Type 0
HaveWords = All (λ (c : Config). c.seqno < 65536)

all_valid : (node : ℕ) (configs : List Config) → first_bad_from node configs ≡ None → AreValid configs
all_valid node [] h = All-nil (λ (c : Config). config_fault c ≡ None)
all_valid node (c ∷ cs) h = by (config_fault c) refl (all_valid (node + 1) cs) h
  where
    by : (o : Option ConfigFault) → config_fault c ≡ o → (first_bad_from (node + 1) cs ≡ None → AreValid cs) → bad_or node o (first_bad_from (node + 1) cs) ≡ None → AreValid (c ∷ cs)
    by None is more h = All-cons (λ (d : Config). config_fault d ≡ None) c cs is (more h)
    by (Some fault) is more h = absurd (none-some (BadConfig node fault) (sym h))

pub none_bad : (configs : List Config) → net_fault configs ≡ None → first_bad_from 0 configs ≡ None
none_bad configs h = by (nat_lt 64 (length configs)) (first_bad_from 0 configs) h
  where
    by : (many : Bool) (bad : Option NetFault) → cond many (Some TooManyNodes) (fault_or bad (fault_together configs)) ≡ None → bad ≡ None
    by true bad h = absurd (none-some TooManyNodes (sym h))
    by false None h = refl
    by false (Some fault) h = absurd (none-some fault (sym h))

all_well : FirstLaws → (configs : List Config) → AreValid configs → HaveWords configs → All (λ (c : Config). IsWellFormed (first_state c)) configs
all_well laws [] valid words = All-nil (λ (c : Config). IsWellFormed (first_state c))
all_well laws (c ∷ cs) valid words =
    All-cons (λ (d : Config). IsWellFormed (first_state d)) c cs
    (laws.well_formed c (All-head (λ (d : Config). d.seqno < 65536) c cs words) (All-head (λ (d : Config). config_fault d ≡ None) c cs valid))
    (all_well laws cs (All-tail (λ (d : Config). config_fault d ≡ None) c cs valid) (All-tail (λ (d : Config). d.seqno < 65536) c cs words))

pub is_first : FirstLaws → (configs : List Config) → IsFirst configs (world_of (first_network configs))
is_first laws configs = record {
  size = length-map (map first_state configs) seen ∙ length-map configs first_state;
  new = λ node c is. subst (IsNew c) (sym (speaker_seen (first_network configs) node (first_state c) (slice_get-map first_state configs node ∙ ap (option_map first_state) is))) (laws.new c);
  sent = refl;
}

pub first_sound : FirstLaws → FirstNetworksAreSound
first_sound laws configs accepted words =
    let apart = laws.apart configs accepted words in
    let valid = all_valid 0 configs (none_bad configs accepted) in
    record {
      size = length-map configs first_state;
      valid = valid;
      apart = apart;
      well_formed = All-map IsWellFormed first_state configs (all_well laws configs valid words);
      readable = All-nil IsReadable;
      sound = laws.sound configs (world_of (first_network configs)) apart (is_first laws configs);
    }

-- ---- a loop over configurations

pub bad_step : (configs : List Config) (i : ℕ) (c : Config) → i < length configs → c ≡ get_or configs i c → config_fault c ≡ None → first_bad_from i (drop i configs) ≡ first_bad_from (i + 1) (drop (i + 1) configs)
bad_step configs i c inside is none =
    ap (first_bad_from i) (drop-cons configs i c inside ∙ ap (λ (d : Config). d ∷ drop (suc i) configs) (sym is))
    ∙ ap (λ (o : Option ConfigFault). bad_or i o (first_bad_from (i + 1) (drop (suc i) configs))) none
    ∙ ap (λ n. first_bad_from (i + 1) (drop n configs)) (next i)
  where
    next : (n : ℕ) → suc n ≡ n + 1
    next n = omega arith

pub bad_at : (configs : List Config) (i : ℕ) (c : Config) (fault : ConfigFault) → i < length configs → c ≡ get_or configs i c → config_fault c ≡ Some fault → first_bad_from i (drop i configs) ≡ Some (BadConfig i fault)
bad_at configs i c fault inside is bad =
    ap (first_bad_from i) (drop-cons configs i c inside ∙ ap (λ (d : Config). d ∷ drop (suc i) configs) (sym is))
    ∙ ap (λ (o : Option ConfigFault). bad_or i o (first_bad_from (i + 1) (drop (suc i) configs))) bad

-- so far none is bad, and so is the next one
pub good_at : (configs : List Config) (i : ℕ) (c : Config) → i < length configs → c ≡ get_or configs i c → first_bad_from i (drop i configs) ≡ None → config_fault c ≡ None
good_at configs i c inside is none = by (config_fault c) refl
  where
    by : (o : Option ConfigFault) → config_fault c ≡ o → o ≡ None
    by None _ = refl
    by (Some fault) bad = absurd (none-some (BadConfig i fault) (sym none ∙ bad_at configs i c fault inside is bad))

-- so far each seqno has 16 bits, and so has the next one
pub words_more : (configs : List Config) (i : ℕ) (c : Config) → i < length configs → c ≡ get_or configs i c → c.seqno < 65536 → All (λ (d : Config). d.seqno < 65536) (take i configs) → All (λ (d : Config). d.seqno < 65536) (take (i + 1) configs)
words_more configs i c inside is word all =
    subst (All (λ (d : Config). d.seqno < 65536))
    (sym (take_more configs i c inside ∙ ap (λ (d : Config). take i configs ++ d ∷ []) (sym is)))
    (All-append (λ (d : Config). d.seqno < 65536) (take i configs) (c ∷ []) all (All-cons (λ (d : Config). d.seqno < 65536) c [] word (All-nil (λ (d : Config). d.seqno < 65536))))

-- so far each configuration has its speaker, and so has the next one
pub states_more : (configs : List Config) (i : ℕ) (c : Config) (states new : List State) (s : State) → i < length configs → c ≡ get_or configs i c → states ≡ map first_state (take i configs) → s ≡ first_state c → new ≡ states ++ s ∷ [] → new ≡ map first_state (take (i + 1) configs)
states_more configs i c states new s inside is done made next =
    next ∙ ap (λ (x : State). states ++ x ∷ []) made ∙ ap (λ (xs : List State). xs ++ first_state c ∷ []) done
    ∙ sym (ap (map first_state) (take_more configs i c inside ∙ ap (λ (d : Config). take i configs ++ d ∷ []) (sym is)) ∙ map-append first_state (take i configs) (c ∷ []))

pub none_more : (configs : List Config) (i : ℕ) (c : Config) → i < length configs → c ≡ get_or configs i c → first_bad_from i (drop i configs) ≡ None → first_bad_from (i + 1) (drop (i + 1) configs) ≡ None
none_more configs i c inside is none = sym (bad_step configs i c inside is (good_at configs i c inside is none)) ∙ none
