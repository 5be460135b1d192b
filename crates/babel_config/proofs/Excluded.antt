-- A value with a fault cannot be read.
use Rattle.std.proofs.Common.{◌≡◌, ◌⊎◌, ℕ, false, List, [], Option, Some, None, codes, inl, inr}
use Rattle.std.proofs.lemmas.Bool.{both_ways}
use Rattle.toml.specs.Data.{Data, get}
use Rattle.babel_state.specs.declared.configs.Config.{Config}
use Rattle.babel_state.specs.declared.configs.Interface.{Interface}
use Rattle.babel_value.specs.Texts.{IsAddrText}
use Rattle.babel_text.specs.Prefixes.{IsPrefixText}
use Rattle.babel_text.specs.RouterIds.{IsRouterIdText}
use Rattle.babel_toml.specs.declared.errors.FileFault.{FileFault}
use Rattle.babel_config.specs.declared.keys.TableKind.TheVariants as kinds
use Rattle.babel_config.specs.declared.scenarios.Scenario.{Scenario}
use Rattle.babel_config.specs.Keys.{is_table_of}
use Rattle.babel_toml.specs.Values.{IsText, IsRequired, IsOptional, IsGivenOr, IsList}
use Rattle.babel_toml.specs.Faults.{HasFormFault, HasTextFault, HasListFault, HasRequiredFault, HasGivenFault}
use Rattle.babel_config.specs.Scalars.{IsNumber, IsFlag, IsTransport, IsIpv4NetworkText, IsIpv6AddrText}
use Rattle.babel_config.specs.Configs.{IsInterface, IsConfig, HasInterfaceFault, HasConfigFault}
use Rattle.babel_config.specs.declared.scenario_events.ScenarioEvent.{ScenarioEvent}
use Rattle.babel_config.specs.ScenarioEvents.{IsScenarioEventText}
use Rattle.babel_config.specs.Scenarios.{IsScenario, HasEventFault, HasScenarioFault}
use Rattle.babel_config.proofs.Faults.{items_read}

first_or_later : {P Q R : Type 0} → P ⊎ (Q × R) → (P → ⊥) → (R → ⊥) → ⊥
first_or_later (inl p) never later = never p
first_or_later (inr (q, r)) never later = later r

form : {A : Type 0} (Means : Data → A → Type 0) (d : Data) (fault : FileFault) → HasFormFault Means d fault → (a : A) → ¬ (Means d a)
form Means d fault h a k = h.1 (a, k)

text : {A : Type 0} (Spells : List ℕ → A → Type 0) (d : Data) (fault : FileFault) → HasTextFault Spells d fault → (a : A) → ¬ (IsText Spells d a)
text Spells d fault (inl (is, none)) a (t, some, spelled) = absurd (cc)
text Spells d fault (inr (is, (t, some, never))) a (u, other, spelled) = let same : u ≡ t = cc in never a (rw same at spelled)

event : (n : ℕ) (d : Data) (fault : FileFault) → HasEventFault n d fault → (e : ScenarioEvent) → ¬ (IsText IsScenarioEventText d e)
event n d fault (inl (is, none)) e (t, some, spelled) = absurd (cc)
event n d fault (inr (is, (t, some, never))) e (u, other, spelled) = let same : u ≡ t = cc in never e (rw same at spelled)

module _ {A : Type 0} (Means : Data → A → Type 0) (HasFault : ℕ → Data → FileFault → Type 0) (never : (n : ℕ) (d : Data) (fault : FileFault) → HasFault n d fault → (a : A) → ¬ (Means d a)) where
  list : (d : Data) (fault : FileFault) → HasListFault Means HasFault d fault → (l : List A) → ¬ (IsList Means d l)
  list d fault (inl (is, none)) l (items, some, each) = absurd (cc)
  list d fault (inr (items, some, (n, e, got, h, earlier))) l (others, other, each) =
      let same : others ≡ items = cc in
      let read = items_read Means items l (rw same at each) n e got in
      never n e fault h read.0 read.1

module _ {A : Type 0} (Means : Data → A → Type 0) (HasFault : Data → FileFault → Type 0) (never : (d : Data) (fault : FileFault) → HasFault d fault → (a : A) → ¬ (Means d a)) where
  required : (o : Option Data) (fault : FileFault) (a : A) → IsRequired Means o a → ¬ (HasRequiredFault HasFault o fault)
  required None fault a k h = k
  required (Some d) fault a k h = never d fault h a k

  given : (o : Option Data) (fault : FileFault) (default a : A) → IsGivenOr Means default o a → ¬ (HasGivenFault HasFault o fault)
  given None fault default a k h = h
  given (Some d) fault default a k h = never d fault h a k

  optional : (o : Option Data) (fault : FileFault) (x : Option A) → IsOptional Means o x → ¬ (HasGivenFault HasFault o fault)
  optional None fault x k h = h
  optional (Some d) fault None k h = k
  optional (Some d) fault (Some a) k h = never d fault h a k

texts : {A : Type 0} (Spells : List ℕ → A → Type 0) (d : Data) (fault : FileFault) → HasListFault (IsText Spells) (λ _. HasTextFault Spells) d fault → (l : List A) → ¬ (IsList (IsText Spells) d l)
texts Spells = list (IsText Spells) (λ _. HasTextFault Spells) (λ _. text Spells)

interface : (d : Data) (fault : FileFault) → HasInterfaceFault d fault → (i : Interface) → ¬ (IsInterface d i)
interface d fault h i k =
    first_or_later h (λ other. both_ways (is_table_of kinds.Interface d) other.1 k.keys) (λ at_transport.
    first_or_later at_transport (required IsTransport (HasFormFault IsTransport) (form IsTransport) (get (codes "transport") d) fault i.transport k.transport) (λ at_ipv4.
    first_or_later at_ipv4 (optional (IsText IsIpv4NetworkText) (HasTextFault IsIpv4NetworkText) (text IsIpv4NetworkText) (get (codes "ipv4") d) fault i.ipv4 k.ipv4) (λ at_ipv6.
    first_or_later at_ipv6 (optional (IsText IsIpv6AddrText) (HasTextFault IsIpv6AddrText) (text IsIpv6AddrText) (get (codes "ipv6") d) fault i.ipv6 k.ipv6) (λ at_peers.
    first_or_later at_peers (given (IsList (IsText IsAddrText)) (HasListFault (IsText IsAddrText) (λ _. HasTextFault IsAddrText)) (texts IsAddrText) (get (codes "peers") d) fault [] i.peers.items k.peers) (λ at_cost.
    first_or_later at_cost (given IsNumber (HasFormFault IsNumber) (form IsNumber) (get (codes "cost") d) fault 96 i.cost k.cost) (λ at_hello.
    first_or_later at_hello (given IsNumber (HasFormFault IsNumber) (form IsNumber) (get (codes "hello") d) fault 400 i.hello k.hello) (λ none. none)))))))

pub config : (d : Data) (fault : FileFault) → HasConfigFault d fault → (c : Config) → ¬ (IsConfig d c)
config d fault h c k =
    first_or_later h (λ other. both_ways (is_table_of kinds.Config d) other.1 k.keys) (λ at_router_id.
    first_or_later at_router_id (required (IsText IsRouterIdText) (HasTextFault IsRouterIdText) (text IsRouterIdText) (get (codes "router-id") d) fault c.router_id k.router_id) (λ at_seqno.
    first_or_later at_seqno (given IsNumber (HasFormFault IsNumber) (form IsNumber) (get (codes "seqno") d) fault 0 c.seqno k.seqno) (λ at_collect.
    first_or_later at_collect (given IsFlag (HasFormFault IsFlag) (form IsFlag) (get (codes "collect") d) fault false c.collect k.collect) (λ at_prefixes.
    first_or_later at_prefixes (given (IsList (IsText IsPrefixText)) (HasListFault (IsText IsPrefixText) (λ _. HasTextFault IsPrefixText)) (texts IsPrefixText) (get (codes "prefixes") d) fault [] c.prefixes.items k.prefixes) (λ at_interface.
    first_or_later at_interface (given (IsList IsInterface) (HasListFault IsInterface (λ _. HasInterfaceFault)) (list IsInterface (λ _. HasInterfaceFault) (λ _. interface)) (get (codes "interface") d) fault [] c.interfaces.items k.interfaces) (λ none. none))))))

pub scenario : (d : Data) (fault : FileFault) → HasScenarioFault d fault → (s : Scenario) → ¬ (IsScenario d s)
scenario d fault h s k =
    first_or_later h (λ other. both_ways (is_table_of kinds.Scenario d) other.1 k.keys) (λ at_events.
    first_or_later at_events (given (IsList (IsText IsScenarioEventText)) (HasListFault (IsText IsScenarioEventText) HasEventFault) (list (IsText IsScenarioEventText) HasEventFault event) (get (codes "events") d) fault [] s.events.items k.events) (λ at_node.
    first_or_later at_node (given (IsList IsConfig) (HasListFault IsConfig (λ _. HasConfigFault)) (list IsConfig (λ _. HasConfigFault) (λ _. config)) (get (codes "node") d) fault [] s.configs.items k.configs) (λ none. none)))
