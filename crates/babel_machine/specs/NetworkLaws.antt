-- What is proved of networks (profile). The speakers are known only by what the network sees of them.
use Rattle.std.specs.Prelude.{◌≡◌, ◌<◌, ◌≤◌, ◌↔◌, ℕ, List, [], ◌∷◌, length, map, Contains, All, Some, true}
use Rattle.babel_value.specs.Prefixes.{PrefixValue}
use Rattle.babel_value.specs.Distances.{is_better}
use Rattle.babel_state.specs.declared.configs.Config.{Config}
use Rattle.babel_state.specs.Seen.{UpdateValue, is_of_source}
use Rattle.babel_machine.specs.declared.events.Event.{Event}
use Rattle.babel_machine.specs.declared.events.Event.TheVariants as events
use Rattle.babel_machine.specs.declared.machine.step.Step.{Step}
use Rattle.babel_machine.specs.declared.machine.step.Step.TheVariants.{Drop}
use Rattle.babel_machine.specs.Machine.{IsBetterPair, SourceState, MachineRun, Run, first_state}
use Rattle.babel_machine.specs.Cycle.{NoCycle, next_hop_of}
use Rattle.babel_machine.specs.Owners.{AreApart, Lists}
use Rattle.babel_machine.specs.Worlds.{World, IsFirst, speaker_at, updates_of, next_hop_in, router_in, NoLoopNaming, NoLoop}
use Rattle.babel_machine.specs.Happenings.{Happens, HappenAll, last_world}
use Rattle.babel_machine.specs.Views.{max_raises, NetSource, IsSource, IsCounted, IsRun, RunsThrough, lifted, view}
use Rattle.babel_machine.specs.Invariants.{IsInvariant}

-- ---- one event

-- A network in which nothing has happened yet keeps the invariant, and is the machine's first state.
abbrev pub FirstIsSound : Type 0
FirstIsSound = (configs : List Config) (first : World) → AreApart configs → IsFirst configs first → IsInvariant configs first

abbrev pub FirstViews : Type 0
FirstViews =
    (configs : List Config) (first : World) (s : NetSource) → IsFirst configs first → IsSource configs s →
    view configs s first ≡ first_state (length configs) s.owner

-- Every event keeps the invariant.
abbrev pub EventsAreSound : Type 0
EventsAreSound =
    (configs : List Config) (event : Event) (old new : World) →
    AreApart configs → IsInvariant configs old → Happens configs event old new → IsInvariant configs new

-- For a source that is counted after it, every event is a list of machine steps and leaves no cycle.
abbrev pub EventsAreRuns : Type 0
EventsAreRuns =
    (configs : List Config) (event : Event) (old new : World) (s : NetSource) →
    AreApart configs → IsInvariant configs old → Happens configs event old new →
    IsSource configs s → IsCounted s new → IsRun configs s old new

-- A restart drops the node's picks, and changes nothing else: neither what was sent, nor how often a router-id was raised.
abbrev pub RestartsAreDrops : Type 0
RestartsAreDrops =
    (configs : List Config) (node now : ℕ) (old new : World) (s : NetSource) →
    AreApart configs → IsInvariant configs old → Happens configs (events.Restart node now) old new →
    Run (view configs s old) (Drop node ∷ []) (view configs s new)

-- On all that was ever sent for a counted source, the circular order of seqnos is that of whole numbers.
abbrev pub OrdersAgree : Type 0
OrdersAgree =
    (configs : List Config) (w : World) (s : NetSource) (one other : ℕ) (u v : UpdateValue) →
    AreApart configs → IsInvariant configs w → IsSource configs s → IsCounted s w →
    Contains (updates_of one w.sent) u → is_of_source s.prefix s.router u ≡ true →
    Contains (updates_of other w.sent) v → is_of_source s.prefix s.router v ≡ true →
    ((is_better u.distance v.distance ≡ true) ↔ IsBetterPair (lifted s u.distance) (lifted s v.distance))

-- ---- next hops

-- The next hop of a selected route that names the source is the node of the view's pick.
abbrev pub NextHopsArePicks : Type 0
NextHopsArePicks =
    (configs : List Config) (w : World) (s : NetSource) (node : ℕ) → node < length w.speakers →
    router_in w s.prefix node ≡ Some s.router →
    next_hop_of (view configs s w) node ≡ next_hop_in configs w s.prefix node

-- ---- any events

-- After any events, for each prefix and each router-id that lists it and made at most 32,767 raises: all that happened
-- is a run of the machine, and no loop is made of selected routes that name the router-id.
abbrev pub NoLoopAfterAnyEvents : Type 0
NoLoopAfterAnyEvents =
    (configs : List Config) (first : World) (events : List Event) (worlds : List World) (s : NetSource) →
    AreApart configs → IsFirst configs first → HappenAll configs events first worlds →
    IsSource configs s → IsCounted s (last_world first worlds) →
    RunsThrough configs s first worlds × NoLoopNaming configs (last_world first worlds) s.prefix s.router

-- The node alone lists the prefix.
abbrev pub ListsAlone : List Config → ℕ → PrefixValue → Type 0
ListsAlone configs node prefix = Lists configs node prefix × ((other : ℕ) → Lists configs other prefix → other ≡ node)

-- If one configuration alone lists the prefix and its router-id made at most 32,767 raises, the selected next hops for
-- the prefix contain no loop.
abbrev pub NoLoopWithOneOrigin : Type 0
NoLoopWithOneOrigin =
    (configs : List Config) (first : World) (events : List Event) (worlds : List World) (prefix : PrefixValue) (origin : ℕ) →
    AreApart configs → IsFirst configs first → HappenAll configs events first worlds →
    ListsAlone configs origin prefix → (speaker_at (last_world first worlds) origin).raises ≤ max_raises →
    NoLoop configs (last_world first worlds) prefix

-- ---- every world that keeps the invariant

-- No loop is made of selected routes for a prefix that name a router-id that lists it and made at most 32,767 raises.
abbrev pub SoundHasNoLoop : Type 0
SoundHasNoLoop =
    (configs : List Config) (w : World) (s : NetSource) →
    IsInvariant configs w → IsSource configs s → IsCounted s w → NoLoopNaming configs w s.prefix s.router

-- The selected next hops for a prefix contain no loop, if one configuration alone lists it and its router-id made at most
-- 32,767 raises.
abbrev pub SoundHasNoLoopWithOneOrigin : Type 0
SoundHasNoLoopWithOneOrigin =
    (configs : List Config) (w : World) (prefix : PrefixValue) (origin : ℕ) →
    IsInvariant configs w → ListsAlone configs origin prefix → (speaker_at w origin).raises ≤ max_raises → NoLoop configs w prefix

-- ---- several sources

-- The views of some sources.
abbrev pub views : List Config → List NetSource → World → List SourceState
views configs sources w = map (λ s. view configs s w) sources

-- One run of the machine leads from the views of the sources in one world to those in the other.
abbrev pub RunTogether : List Config → List NetSource → World → World → Type 0
RunTogether configs sources old new = (steps : List (ℕ × Step)) × MachineRun (views configs sources old) steps (views configs sources new)

abbrev pub RunTogetherThrough : List Config → List NetSource → World → List World → Type 0
RunTogetherThrough configs sources w [] = Unit {0}
RunTogetherThrough configs sources w (next ∷ rest) = RunTogether configs sources w next × RunTogetherThrough configs sources next rest

-- One run of the machine joins the views of all counted sources after each of the events.
abbrev pub SourcesRunTogether : Type 0
SourcesRunTogether =
    (configs : List Config) (first : World) (events : List Event) (worlds : List World) (sources : List NetSource) →
    AreApart configs → IsFirst configs first → HappenAll configs events first worlds →
    All (λ s. IsSource configs s × IsCounted s (last_world first worlds)) sources →
    RunTogetherThrough configs sources first worlds × All NoCycle (views configs sources (last_world first worlds))

-- The same from any world that keeps the invariant.
abbrev pub SoundRunsTogether : Type 0
SoundRunsTogether =
    (configs : List Config) (first : World) (events : List Event) (worlds : List World) (sources : List NetSource) →
    AreApart configs → IsInvariant configs first → HappenAll configs events first worlds →
    All (λ s. IsSource configs s × IsCounted s (last_world first worlds)) sources →
    RunTogetherThrough configs sources first worlds × All NoCycle (views configs sources (last_world first worlds))
