-- The prefixes that a replay has seen, and the routes that are printed of them (profile).
use Rattle.std.specs.Prelude.{◌≡◌, ℕ, Bool, true, false, ◌&&◌, List, [], ◌∷◌, map, count_by, nat_eq, Option, Some, None, is_some, if◌then◌else◌}
use Rattle.std.specs.Cmp.Lexicographic.{pointwise}
use Rattle.std.specs.Option.{option_map, option_map_or}
use Rattle.babel_value.specs.Prefixes.{PrefixValue}
use Rattle.babel_message.specs.declared.messages.Message.TheVariants as messages
use Rattle.babel_message.specs.declared.placements.Content.{Content}
use Rattle.babel_message.specs.declared.placements.Content.TheVariants as contents
use Rattle.babel_message.specs.declared.placements.Placed.{Placed}
use Rattle.babel_state.specs.declared.notes.Note.{Note}
use Rattle.babel_state.specs.declared.notes.Verdict.{Verdict}
use Rattle.babel_state.specs.declared.notes.Verdict.TheVariants as verdicts
use Rattle.babel_state.specs.Calls.{choice_of, selected_route}
use Rattle.babel_state.specs.Sameness.{is_same_peer, is_same_prefix}
use Rattle.babel_state.specs.State.{State}
use Rattle.babel_state.specs.declared.selected.Choice.{Choice}

-- ---- what is printed of a route

-- The selected route of a prefix, if it has one.
abbrev pub choice_at : State → PrefixValue → Option Choice
choice_at s prefix = option_map choice_of (selected_route prefix s)

abbrev pub is_same_route : Choice → Choice → Bool
is_same_route a b = is_same_peer a.peer b.peer && (nat_eq a.metric b.metric && (pointwise nat_eq a.router b.router && nat_eq a.seqno b.seqno))

abbrev pub is_same_choice : Option Choice → Option Choice → Bool
is_same_choice None None = true
is_same_choice None (Some b) = false
is_same_choice (Some a) None = false
is_same_choice (Some a) (Some b) = is_same_route a b

-- ---- the seen prefixes

-- A prefix with what was last printed of it. None: that it has no route, or nothing yet.
abbrev pub SeenPrefix : Type 0
SeenPrefix = PrefixValue × Option Choice

-- An Update's prefix.
abbrev pub updated : Content → Option PrefixValue
updated (contents.Message (messages.Update prefix router next_hop seqno metric interval)) = Some prefix
updated content = None

-- How many of the places are Updates.
abbrev pub updates_in : List Placed → ℕ
updates_in = count_by (λ p. is_some (updated p.content))

-- V1 and V2: the route was stored.
abbrev pub is_stored : Verdict → Bool
is_stored verdicts.Taken = true
is_stored (verdicts.Unfeasible d) = true
is_stored verdict = false

-- The prefix of an Update that was stored.
abbrev pub stored : Placed × Note → Option PrefixValue
stored (placed, note) = if is_stored note.verdict then updated placed.content else None

-- With one prefix more, unless it was seen before. They are in the order in which each was seen first.
abbrev pub with_seen : PrefixValue → List SeenPrefix → List SeenPrefix
with_seen p [] = (p, None) ∷ []
with_seen p (e ∷ es) = if is_same_prefix p e.0 then e ∷ es else e ∷ with_seen p es

-- With the prefixes of the Updates that were stored.
abbrev pub seen_after : List (Placed × Note) → List SeenPrefix → List SeenPrefix
seen_after [] es = es
seen_after (x ∷ xs) es = seen_after xs (option_map_or (λ p. with_seen p es) (stored x) es)

-- What was last printed of it after its route was compared: that route, since it's printed unless it's the same.
abbrev pub choice_printed : State → SeenPrefix → Option Choice
choice_printed s e = choice_at s e.0

abbrev pub printed : State → SeenPrefix → SeenPrefix
printed s e = (e.0, choice_printed s e)

abbrev pub printed_all : State → List SeenPrefix → List SeenPrefix
printed_all s es = map (printed s) es

-- What was last printed of each is its selected route. After each line it is so.
abbrev pub ArePrinted : State → List SeenPrefix → Type 0
ArePrinted s es = es ≡ printed_all s es

-- ---- what the code keeps of them

-- The seen prefixes, and for how many more there is room.
pub record SeenTable : Type 0 where
  pub entries : List SeenPrefix
  pub room : ℕ
