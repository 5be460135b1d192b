-- A deadline that changes alone changes no choice: neither the candidates nor their order depend on it.
use Rattle.std.proofs.Common.{◌≡◌, ℕ, Bool, true, false, cond, ◌||◌, if◌then◌else◌, List, [], ◌∷◌, map, filter, Option, Some, None, option_map, is_some, refl, sym, ap, subst, ◌∙◌}
use Rattle.std.proofs.Math.Bool.{or-true}
use Rattle.std.proofs.lemmas.Bool.{false≢true}
use Rattle.std.proofs.lemmas.Option.{same_Some, none-some}
use Rattle.std.specs.declared.cmp.Ordering.{Ordering}
use Rattle.std.specs.declared.cmp.Ordering.TheVariants.{Less, Equal, Greater}
use Rattle.std.specs.Ordering.{is_lt, is_eq, eq_by_cmp, ordering_then}
use Rattle.std.specs.Cmp.{tied_itself}
use Rattle.std.specs.FinMap.{find, put, is_sorted}
use Rattle.babel_value.specs.declared.keys.Peer.{Peer}
use Rattle.babel_value.specs.Prefixes.{PrefixValue}
use Rattle.babel_value.specs.Orders.{prefix_cmp, peer_cmp}
use Rattle.babel_value.proofs.OrderLaws.{prefix_total, peer_total}
use Rattle.babel_value.proofs.Orderings.{equal}
use Rattle.babel_table.specs.Entries.{with_value}
use Rattle.babel_table.specs.Firsts.{first_from, first_of}
use Rattle.babel_table.specs.Places.{are_greater}
use Rattle.babel_table.proofs.LookupLemmas.{eq_turned}
use Rattle.babel_table.proofs.PlaceLemmas.{find_gap, greater_from, head_greater, tail_greater, tail_sorted, others_greater}
use Rattle.babel_choice.specs.declared.entries.RouteKey.{RouteKey}
use Rattle.babel_choice.specs.declared.entries.Entry.{Entry}
use Rattle.babel_choice.specs.declared.entries.Selection.{Selection}
use Rattle.babel_choice.specs.RouteKeys.{route_cmp, route_total, route_exact}
use Rattle.babel_choice.specs.Routes.{Route, RouteEntries, key_of}
use Rattle.babel_sources.specs.Sources.{Sources}
use Rattle.babel_choice.specs.Choices.{is_of, routes_of, has_entry, is_candidate, preference, peer_before, selection_of, choice}
use Rattle.babel_route.specs.Selections.{RoutesValue, selection_at, reselected, IsCurrent}
use Rattle.babel_route.specs.Repeats.{is_repeated, refreshed}
use Rattle.babel_route.proofs.CurrencyLemmas.{same_entry}

-- ---- lists whose items change in what a test or an order doesn't see
filter_mapped : {X : Type 0} (p : X → Bool) (f : X → X) → ((x : X) → p (f x) ≡ p x) → (xs : List X) → filter p (map f xs) ≡ map f (filter p xs)
filter_mapped p f same [] = refl
filter_mapped p f same (x ∷ xs) =
    ap (λ b. cond b (f x ∷ filter p (map f xs)) (filter p (map f xs))) (same x) ∙ by (p x) (filter_mapped p f same xs)
  where
    by : (b : Bool) → filter p (map f xs) ≡ map f (filter p xs) → cond b (f x ∷ filter p (map f xs)) (filter p (map f xs)) ≡ map f (cond b (x ∷ filter p xs) (filter p xs))
    by true rest = ap (λ ys. f x ∷ ys) rest
    by false rest = rest

first_mapped : {X : Type 0} (order : X → X → Ordering) (f : X → X) → ((x y : X) → order (f x) (f y) ≡ order x y) → (found : Option X) (xs : List X) → first_from order (option_map f found) (map f xs) ≡ option_map f (first_from order found xs)
first_mapped order f same found [] = refl
first_mapped order f same None (x ∷ xs) = first_mapped order f same (Some x) xs
first_mapped order f same (Some y) (x ∷ xs) =
    ap (λ o. first_from order (Some (if is_lt o then f x else f y)) (map f xs)) (same x y)
    ∙ by (is_lt (order x y)) (first_mapped order f same (Some x) xs) (first_mapped order f same (Some y) xs)
  where
    by : (b : Bool) → first_from order (Some (f x)) (map f xs) ≡ option_map f (first_from order (Some x) xs) → first_from order (Some (f y)) (map f xs) ≡ option_map f (first_from order (Some y) xs) → first_from order (Some (if b then f x else f y)) (map f xs) ≡ option_map f (first_from order (Some (if b then x else y)) xs)
    by true one other = one
    by false one other = other

-- ---- the entry of a key
abbrev at_key : RouteKey → ℕ → Route → Route
at_key key deadline route =
    (route.0, record route.1 { deadline = if eq_by_cmp route_cmp key route.0 then deadline else route.1.deadline })

none_at_key : (key : RouteKey) (deadline : ℕ) (es : RouteEntries) → are_greater route_cmp key es ≡ true → es ≡ map (at_key key deadline) es
none_at_key key deadline [] all = refl
none_at_key key deadline (e ∷ es) all =
    let here : route_cmp key e.0 ≡ Less = head_greater route_cmp key e es all in
    rw here (ap (λ fs. e ∷ fs) (none_at_key key deadline es (tail_greater route_cmp key e es all)))

put_at_key : (key : RouteKey) (deadline : ℕ) (old : Entry) (es : RouteEntries) → is_sorted route_cmp es ≡ true → find route_cmp key es ≡ Some old → put route_cmp key (record old { deadline = deadline }) es ≡ map (at_key key deadline) es
put_at_key key deadline old [] sorted found = absurd (none-some old found)
put_at_key key deadline old (e ∷ es) sorted found =
    by (route_cmp key e.0) refl found (put_at_key key deadline old es (tail_sorted route_cmp e es sorted))
  where
    by : (r : Ordering) → route_cmp key e.0 ≡ r → cond (is_eq r) (Some e.1) (find route_cmp key es) ≡ Some old → (find route_cmp key es ≡ Some old → put route_cmp key (record old { deadline = deadline }) es ≡ map (at_key key deadline) es) → put route_cmp key (record old { deadline = deadline }) (e ∷ es) ≡ map (at_key key deadline) (e ∷ es)
    by Less is here rest =
        let greater = greater_from route_cmp route_total key (e ∷ es) 0 e sorted refl is in
        absurd (none-some old (sym (find_gap route_cmp key (e ∷ es) 0 refl greater) ∙ found))
    by Equal is here rest =
        let same : old ≡ e.1 = sym (same_Some e.1 old here) in
        let greater : are_greater route_cmp key es ≡ true = subst (λ k. are_greater route_cmp k es ≡ true) (sym (route_exact key e.0 is)) (others_greater route_cmp e es sorted) in
        let others = none_at_key key deadline es greater in
        let whole : (e.0, record old { deadline = deadline }) ∷ es ≡ (e.0, record e.1 { deadline = deadline }) ∷ map (at_key key deadline) es = λ i. (e.0, record (same i) { deadline = deadline }) ∷ others i in
        rw is whole
    by Greater is here rest = rw is (ap (λ fs. e ∷ fs) (rest here))

-- ---- the routes of a prefix
abbrev of_peer : Peer → ℕ → Route → Route
of_peer peer deadline route =
    (route.0, record route.1 { deadline = if eq_by_cmp peer_cmp route.0.peer peer then deadline else route.1.deadline })

same_test : (prefix : PrefixValue) (peer : Peer) (key : RouteKey) → eq_by_cmp prefix_cmp key.prefix prefix ≡ true → eq_by_cmp route_cmp (key_of prefix peer) key ≡ eq_by_cmp peer_cmp key.peer peer
same_test prefix peer key here =
    let tied : prefix_cmp prefix key.prefix ≡ Equal = equal (prefix_cmp prefix key.prefix) (eq_turned prefix_cmp prefix_total prefix key.prefix ∙ here) in
    ap (λ o. is_eq (ordering_then o (peer_cmp peer key.peer))) tied ∙ eq_turned peer_cmp peer_total peer key.peer

routes_mapped : (prefix : PrefixValue) (peer : Peer) (deadline : ℕ) (es : RouteEntries) → routes_of prefix (map (at_key (key_of prefix peer) deadline) es) ≡ map (of_peer peer deadline) (routes_of prefix es)
routes_mapped prefix peer deadline [] = refl
routes_mapped prefix peer deadline (e ∷ es) = by (is_of prefix e) refl (routes_mapped prefix peer deadline es)
  where
    by : (b : Bool) → is_of prefix e ≡ b → routes_of prefix (map (at_key (key_of prefix peer) deadline) es) ≡ map (of_peer peer deadline) (routes_of prefix es) → cond b (at_key (key_of prefix peer) deadline e ∷ routes_of prefix (map (at_key (key_of prefix peer) deadline) es)) (routes_of prefix (map (at_key (key_of prefix peer) deadline) es)) ≡ map (of_peer peer deadline) (cond b (e ∷ routes_of prefix es) (routes_of prefix es))
    by true here rest =
        let same = same_test prefix peer e.0 here in
        λ i. (e.0, record e.1 { deadline = if same i then deadline else e.1.deadline }) ∷ rest i
    by false here rest = rest

-- ---- choices
choice_mapped : (sources : Sources) (cost : Peer → ℕ) (prefix : PrefixValue) (local : Bool) (before : Option Selection) (peer : Peer) (deadline : ℕ) (es : RouteEntries) → choice sources cost prefix local before (map (at_key (key_of prefix peer) deadline) es) ≡ option_map (refreshed peer deadline) (choice sources cost prefix local before es)
choice_mapped sources cost prefix true before peer deadline es = refl
choice_mapped sources cost prefix false before peer deadline es =
    let order = preference cost (peer_before before) in
    let passes = is_candidate sources cost in
    ap (λ routes. option_map selection_of (first_of order (filter passes routes))) (routes_mapped prefix peer deadline es)
    ∙ ap (λ routes. option_map selection_of (first_of order routes)) (filter_mapped passes (of_peer peer deadline) (λ x. refl) (routes_of prefix es))
    ∙ ap (option_map selection_of) (first_mapped order (of_peer peer deadline) (λ x y. refl) None (filter passes (routes_of prefix es)))
    ∙ selected (first_of order (filter passes (routes_of prefix es)))
  where
    selected : (first : Option Route) → option_map selection_of (option_map (of_peer peer deadline) first) ≡ option_map (refreshed peer deadline) (option_map selection_of first)
    selected None = refl
    selected (Some route) = refl

-- after an update that repeats its entry the choice is the same, with the new deadline if it is of the neighbour
choice_refreshed : (sources : Sources) (cost : Peer → ℕ) (prefix : PrefixValue) (local : Bool) (before : Option Selection) (peer : Peer) (new : Entry) (es : RouteEntries) → is_sorted route_cmp es ≡ true → is_repeated new (find route_cmp (key_of prefix peer) es) ≡ true → choice sources cost prefix local before (put route_cmp (key_of prefix peer) new es) ≡ option_map (refreshed peer new.deadline) (choice sources cost prefix local before es)
choice_refreshed sources cost prefix local before peer new es sorted repeated =
    by (find route_cmp (key_of prefix peer) es) refl repeated
  where
    by : (found : Option Entry) → find route_cmp (key_of prefix peer) es ≡ found → is_repeated new found ≡ true → choice sources cost prefix local before (put route_cmp (key_of prefix peer) new es) ≡ option_map (refreshed peer new.deadline) (choice sources cost prefix local before es)
    by None is same = absurd (false≢true same)
    by (Some old) is same =
        let entry : record old { deadline = new.deadline } ≡ new = same_entry (record old { deadline = new.deadline }) new same in
        ap (λ e. choice sources cost prefix local before (put route_cmp (key_of prefix peer) e es)) (sym entry)
        ∙ ap (choice sources cost prefix local before) (put_at_key (key_of prefix peer) new.deadline old es sorted is)
        ∙ choice_mapped sources cost prefix local before peer new.deadline es

-- so a selection that was current needs no other choice
pub refresh_reselects : (prefix : PrefixValue) (peer : Peer) (new : Entry) (old now : RoutesValue) → is_sorted route_cmp old.entries ≡ true → is_repeated new (find route_cmp (key_of prefix peer) old.entries) ≡ true → now ≡ record { entries = put route_cmp (key_of prefix peer) new old.entries; selections = with_value prefix_cmp prefix (option_map (refreshed peer new.deadline) (selection_at prefix old)) old.selections } → (sources : Sources) (cost : Peer → ℕ) (local : Bool) → IsCurrent sources cost prefix local old → now ≡ reselected sources cost prefix local (record old { entries = put route_cmp (key_of prefix peer) new old.entries })
refresh_reselects prefix peer new old now sorted repeated is sources cost local current =
    let es = put route_cmp (key_of prefix peer) new old.entries in
    let chosen = choice_refreshed sources cost prefix local (selection_at prefix old) peer new old.entries sorted repeated in
    is
    ∙ ap (λ value. record { entries = es; selections = with_value prefix_cmp prefix value old.selections })
    (ap (option_map (refreshed peer new.deadline)) current ∙ sym chosen)

-- ---- the selection
pub refreshed_other : (peer : Peer) (deadline : ℕ) (s : Selection) → eq_by_cmp peer_cmp s.peer peer ≡ false → refreshed peer deadline s ≡ s
refreshed_other peer deadline s other =
    ap (λ b. record s { entry = record s.entry { deadline = if b then deadline else s.entry.deadline } }) other

-- ---- the prefix has an entry
pub put_has_entry : (prefix : PrefixValue) (peer : Peer) (new : Entry) (es : RouteEntries) → has_entry (put route_cmp (key_of prefix peer) new es) prefix ≡ true
put_has_entry prefix peer new [] = ap (λ o. is_eq o || false) (tied_itself prefix_total prefix)
put_has_entry prefix peer new (e ∷ es) = by (route_cmp (key_of prefix peer) e.0) refl (put_has_entry prefix peer new es)
  where
    here : (others : Bool) → eq_by_cmp prefix_cmp prefix prefix || others ≡ true
    here others = ap (λ o. is_eq o || others) (tied_itself prefix_total prefix)

    by : (r : Ordering) → route_cmp (key_of prefix peer) e.0 ≡ r → has_entry (put route_cmp (key_of prefix peer) new es) prefix ≡ true → has_entry (put route_cmp (key_of prefix peer) new (e ∷ es)) prefix ≡ true
    by Less is rest = rw is (here (has_entry (e ∷ es) prefix))
    by Equal is rest =
        rw is (subst (λ (k : RouteKey). eq_by_cmp prefix_cmp k.prefix prefix || has_entry es prefix ≡ true) (route_exact (key_of prefix peer) e.0 is) (here (has_entry es prefix)))
    by Greater is rest = rw is (ap (λ b. eq_by_cmp prefix_cmp e.0.prefix prefix || b) rest ∙ or-true (eq_by_cmp prefix_cmp e.0.prefix prefix))

-- an update that repeats an entry has one
pub repeated_is_known : (new : Entry) (found : Option Entry) → is_repeated new found ≡ true → is_some found ≡ true
repeated_is_known new None same = same
repeated_is_known new (Some old) same = refl
