-- Groups of items: all items stay, and those to a target stay in their order.
use Rattle.std.specs.Prelude.{◌≡◌, ℕ, zero, suc, Bool, true, false, not, ◌+◌, ◌*◌, List, [], ◌∷◌, ◌++◌, filter, All, length, Option, Some, None, if◌then◌else◌}
use Rattle.std.proofs.Common.{refl, sym, ap, ◌∙◌, subst, arith, length-append}
use Rattle.std.proofs.lemmas.List.Elements.{All-append, All-filter, filter-append}
use Rattle.std.proofs.lemmas.List.Filters.{length-filter_both}
use Rattle.std.proofs.lemmas.Bool.{false_from_ne_true, false≢true}
use Rattle.std.proofs.lemmas.List.{append-nil}
use Rattle.babel_value.specs.declared.addresses.Addr.{Addr}
use Rattle.babel_value.specs.Addresses.{family_of}
use Rattle.babel_value.specs.Prefixes.{PrefixValue}
use Rattle.babel_message.specs.declared.messages.Message.TheVariants as messages
use Rattle.babel_state.specs.declared.interfaces.InterfaceEntry.{InterfaceEntry}
use Rattle.babel_state.specs.declared.items.Item.{Item}
use Rattle.babel_state.specs.declared.items.Item.TheVariants as items
use Rattle.babel_state.specs.declared.items.Outgoing.{Outgoing}
use Rattle.babel_state.specs.declared.items.Outgoing.TheVariants as outgoings
use Rattle.babel_state.specs.declared.items.Target.{Target}
use Rattle.babel_state.specs.Addresses.{address_of}
use Rattle.babel_state.specs.CurrentSelections.{GroupingKeepsCurrent}
use Rattle.babel_state.specs.Grouping.{item_target, goes_to, goes_elsewhere, first_group, other_items, in_groups, most_groups, items_grouped, GoesTo, ItemsGoToTargets, TargetsKeepTheirItems}
use Rattle.babel_state.specs.Invariants.{HasHops, AreTables, GroupingKeepsWellFormed}
use Rattle.babel_state.specs.NextDatagram.{is_same_target}
use Rattle.babel_state.specs.OutgoingMessages.{Advertisement, advertisement, is_source_too_many, outgoing_ihu, outgoing_finite, outgoing_advertisement, outgoing_update, outgoing_over, outgoing}
use Rattle.babel_state.specs.SeenLaws.{GroupingMoves}
use Rattle.babel_state.specs.State.{State, interface_at, is_neighbour}
use Rattle.babel_state.specs.StepLaws.{kept_of, GroupingKeepsSettings}
use Rattle.babel_state.proofs.KeptStates.{selectable_kept, current_kept, settings_kept, moves_kept}
use Rattle.babel_state.proofs.Targets.{same_target, target_itself}

-- ---- an item's message goes to its target

over_goes : (to : Target) (f : InterfaceEntry → Outgoing) → ((i : InterfaceEntry) → GoesTo to (f i)) → (m : Option InterfaceEntry) → GoesTo to (outgoing_over f m)
over_goes to f each None = tt
over_goes to f each (Some i) = each i

finite_goes : (s : State) (target : Target) (prefix : PrefixValue) (t : Advertisement) (i : InterfaceEntry) (hop : Option Addr) → GoesTo target (outgoing_finite target prefix t i s hop)
finite_goes s target prefix t i None = tt
finite_goes s target prefix t i (Some hop) = by (is_source_too_many (record { prefix = prefix; router = t.router }) s.sources)
  where
    by : (b : Bool) → GoesTo target (if b then outgoings.LeftOut else outgoings.Message target (messages.Update prefix t.router hop t.distance.seqno t.distance.metric (4 * i.hello)))
    by true = tt
    by false = refl

update_goes : (s : State) (target : Target) (prefix : PrefixValue) (i : InterfaceEntry) → GoesTo target (outgoing_update target prefix s i)
update_goes s target prefix i = by (advertisement prefix s)
  where
    by : (m : Option Advertisement) → GoesTo target (outgoing_advertisement target prefix s i m)
    by None = refl
    by (Some t) = finite_goes s target prefix t i (address_of (family_of prefix.addr) i)

pub items_go : ItemsGoToTargets
unfolding outgoing
items_go s (items.Hello iface) = over_goes _ _ (λ i. refl) (interface_at iface s)
items_go s (items.Ihu peer) = by (is_neighbour peer s)
  where
    by : (b : Bool) → GoesTo (item_target (items.Ihu peer)) (if b then outgoing_over (outgoing_ihu peer s) (interface_at peer.iface s) else outgoings.Nothing)
    by true = over_goes _ (outgoing_ihu peer s) (λ i. refl) (interface_at peer.iface s)
    by false = tt
items_go s (items.Update target prefix) = over_goes target (outgoing_update target prefix s) (λ i. update_goes s target prefix i) (interface_at target.iface s)
items_go s (items.Request peer source seqno hops) = over_goes _ _ (λ i. refl) (interface_at peer.iface s)
items_go s (items.Ack peer opaque) = over_goes _ _ (λ i. refl) (interface_at peer.iface s)

-- ---- none is lost, and none comes

all_grouped : (P : Item → Type 0) (n : ℕ) (xs : List Item) → All P xs → All P (in_groups n xs)
all_grouped P zero xs all = all
all_grouped P (suc n) [] all = all_grouped P n [] all
all_grouped P (suc n) (x ∷ xs) all =
    All-append P _ _ (All-filter (goes_to (item_target x)) P (x ∷ xs) all)
    (all_grouped P n _ (All-filter (goes_elsewhere (item_target x)) P (x ∷ xs) all))

-- A group and the others are all.
pub parts_length : (xs : List Item) → length (first_group xs) + length (other_items xs) ≡ length xs
parts_length [] = refl
parts_length (x ∷ xs) = length-filter_both (goes_to (item_target x)) (goes_elsewhere (item_target x)) (λ y. refl) (x ∷ xs)

length_grouped : (n : ℕ) (xs : List Item) → length (in_groups n xs) ≡ length xs
length_grouped zero xs = refl
length_grouped (suc n) [] = length_grouped n []
length_grouped (suc n) (x ∷ xs) =
    length-append (first_group (x ∷ xs)) (in_groups n (other_items (x ∷ xs)))
    ∙ ap (λ k. length (first_group (x ∷ xs)) + k) (length_grouped n (other_items (x ∷ xs)))
    ∙ parts_length (x ∷ xs)

-- ---- each target's items stay in their order

-- A filter of what passes p, if all that passes f passes p, or if none of it does.
all_pass : (f p : Item → Bool) → ((y : Item) → f y ≡ true → p y ≡ true) → (xs : List Item) → filter f (filter p xs) ≡ filter f xs
all_pass f p each [] = refl
all_pass f p each (y ∷ ys) = by (p y) refl (f y) refl (all_pass f p each ys)
  where
    by : (b : Bool) → p y ≡ b → (c : Bool) → f y ≡ c → filter f (filter p ys) ≡ filter f ys → filter f (filter p (y ∷ ys)) ≡ filter f (y ∷ ys)
    by true passes true goes rest = rw (passes, goes) (ap (λ l. y ∷ l) rest)
    by true passes false goes rest = rw (passes, goes) rest
    by false passes true goes rest = let other : p y ≡ true = each y goes in cc
    by false passes false goes rest = rw (passes, goes) rest

none_pass : (f p : Item → Bool) → ((y : Item) → f y ≡ true → p y ≡ false) → (xs : List Item) → filter f (filter p xs) ≡ []
none_pass f p each [] = refl
none_pass f p each (y ∷ ys) = by (p y) refl (f y) refl (none_pass f p each ys)
  where
    by : (b : Bool) → p y ≡ b → (c : Bool) → f y ≡ c → filter f (filter p ys) ≡ [] → filter f (filter p (y ∷ ys)) ≡ []
    by true passes true goes rest = let other : p y ≡ false = each y goes in cc
    by true passes false goes rest = rw (passes, goes) rest
    by false passes c goes rest = rw passes rest

-- What goes to the target is in the first group, or all of it is among the others.
parted : (target to : Target) (xs : List Item) →
    filter (goes_to target) (filter (goes_to to) xs) ++ filter (goes_to target) (filter (goes_elsewhere to) xs) ≡ filter (goes_to target) xs
parted target to xs = by (is_same_target target to) refl
  where
    by : (b : Bool) → is_same_target target to ≡ b →
        filter (goes_to target) (filter (goes_to to) xs) ++ filter (goes_to target) (filter (goes_elsewhere to) xs) ≡ filter (goes_to target) xs
    by true same =
        let here : target ≡ to = same_target target to same in
        let passes : (y : Item) → goes_to target y ≡ true → goes_to to y ≡ true = λ y goes. subst (λ t. goes_to t y ≡ true) here goes in
        ap (λ l. l ++ filter (goes_to target) (filter (goes_elsewhere to) xs)) (all_pass (goes_to target) (goes_to to) passes xs)
        ∙ ap (λ l. filter (goes_to target) xs ++ l) (none_pass (goes_to target) (goes_elsewhere to) (λ y goes. ap not (passes y goes)) xs)
        ∙ append-nil (filter (goes_to target) xs)
    by false other =
        let goes_there : (y : Item) → goes_to target y ≡ true → goes_to to y ≡ true → ⊥ =
        λ y goes there.
        let same : target ≡ to = same_target target (item_target y) goes ∙ sym (same_target to (item_target y) there) in
        let itself : is_same_target target to ≡ true = subst (λ t. is_same_target target t ≡ true) same (target_itself target) in
        false≢true (sym other ∙ itself)
        in
        let passes : (y : Item) → goes_to target y ≡ true → goes_to to y ≡ false = λ y goes. false_from_ne_true (goes_to to y) (goes_there y goes) in
        ap (λ l. l ++ filter (goes_to target) (filter (goes_elsewhere to) xs)) (none_pass (goes_to target) (goes_to to) passes xs)
        ∙ all_pass (goes_to target) (goes_elsewhere to) (λ y goes. ap not (passes y goes)) xs

in_order : (target : Target) (n : ℕ) (xs : List Item) → filter (goes_to target) (in_groups n xs) ≡ filter (goes_to target) xs
in_order target zero xs = refl
in_order target (suc n) [] = in_order target n []
in_order target (suc n) (x ∷ xs) =
    filter-append (goes_to target) (first_group (x ∷ xs)) (in_groups n (other_items (x ∷ xs)))
    ∙ ap (λ l. filter (goes_to target) (first_group (x ∷ xs)) ++ l) (in_order target n (other_items (x ∷ xs)))
    ∙ parted target (item_target x) (x ∷ xs)

pub targets_keep : TargetsKeepTheirItems
unfolding items_grouped
targets_keep target s = in_order target most_groups s.pending.items

-- ---- what follows

pub grouped_kept : (s : State) → kept_of (items_grouped s) ≡ kept_of s
unfolding kept_of items_grouped
grouped_kept s = refl

grouped_tables : (s : State) → AreTables s → AreTables (items_grouped s)
unfolding items_grouped
grouped_tables s t = record {
  interfaces = t.interfaces;
  neighbours = t.neighbours;
  announced = t.announced;
  sources = t.sources;
  routes = t.routes;
  requests = t.requests;
  pending = record {
    few = omega (arith, t.pending.few, length_grouped most_groups s.pending.items);
    hops = all_grouped HasHops most_groups s.pending.items t.pending.hops;
    dropped = t.pending.dropped;
  };
  seqno = t.seqno;
  raises = t.raises;
  left_out = t.left_out;
}

pub grouped_well : GroupingKeepsWellFormed
grouped_well s well = record {
  tables = grouped_tables s well.tables;
  selections = selectable_kept s (items_grouped s) (grouped_kept s) well.selections;
}

pub grouped_current : GroupingKeepsCurrent
grouped_current s = current_kept s (items_grouped s) (grouped_kept s)

pub grouped_settings : GroupingKeepsSettings
grouped_settings s = settings_kept s (items_grouped s) (grouped_kept s)

pub grouped_moves : GroupingMoves
grouped_moves s well = moves_kept s (items_grouped s) (grouped_kept s) well (grouped_well s well)
