-- A selection that is chosen is an entry and a candidate, and stays so at all other prefixes; so it is with the selections that are current.
use Rattle.std.specs.Prelude.{◌≡◌, ℕ, Bool, true, false, cond, ◌&&◌, not, [], ◌∷◌, Option, Some, is_some, if◌then◌else◌}
use Rattle.std.specs.List.{filter}
use Rattle.std.specs.Option.{option_map}
use Rattle.std.specs.declared.cmp.Ordering.{Ordering}
use Rattle.std.specs.declared.cmp.Ordering.TheVariants.{Less, Equal, Greater}
use Rattle.std.specs.Ordering.{eq_by_cmp, is_eq}
use Rattle.std.specs.Cmp.{tied_itself}
use Rattle.std.specs.FinMap.{find, put, is_sorted}
use Rattle.std.specs.FinMap.Entries.{by_order, find-put}
use Rattle.std.proofs.Common.{refl, sym, ap, subst, ◌∙◌}
use Rattle.std.proofs.lemmas.Bool.{and_from, false≢true, or_left}
use Rattle.babel_value.specs.declared.keys.Peer.{Peer}
use Rattle.babel_value.specs.Orders.{prefix_cmp}
use Rattle.babel_value.proofs.OrderLaws.{prefix_total, prefix_exact}
use Rattle.babel_value.specs.Prefixes.{PrefixValue}
use Rattle.babel_value.proofs.Orderings.{equal}
use Rattle.babel_choice.specs.declared.entries.Entry.{Entry}
use Rattle.babel_choice.specs.declared.entries.Selection.{Selection}
use Rattle.babel_choice.specs.declared.entries.RouteKey.{RouteKey}
use Rattle.babel_choice.specs.RouteKeys.{route_cmp, route_total, route_exact}
use Rattle.babel_choice.specs.Routes.{RouteEntries, key_of}
use Rattle.babel_table.specs.Firsts.{first_of}
use Rattle.babel_route.specs.RouteLaws.{is_among}
use Rattle.babel_choice.specs.Choices.{is_of, routes_of, is_candidate, choice, selection_of, peer_before, preference}
use Rattle.babel_route.specs.Selections.{choice_at, selection_at}
use Rattle.babel_route.proofs.CurrentLemmas.{all_current, chosen_is_candidate}
use Rattle.babel_table.proofs.LookupLemmas.{find_with_value}
use Rattle.babel_state.specs.State.{State, PrefixSet, announces, entry_at, selected_at, cost_at}
use Rattle.babel_state.specs.Reselection.{select, reselect_all}
use Rattle.babel_state.specs.CurrentSelections.{IsCurrentAt, AreCurrent, AreRoutesInOrder}
use Rattle.babel_state.specs.Invariants.{IsSelectable, AreSelectable}
use Rattle.babel_state.proofs.CurrentLaws.{reselections_current}

-- ---- what is chosen

chosen_selectable : (prefix : PrefixValue) (s : State) (before : Option Selection) (route : Selection) → AreRoutesInOrder s →
    choice s.sources (cost_at s) prefix (announces prefix s) before s.routes.entries ≡ Some route → IsSelectable prefix s route
chosen_selectable prefix s before route sorted chosen =
    let c = chosen_is_candidate s.sources (cost_at s) prefix (announces prefix s) before s.routes.entries route sorted chosen in
    (c.1, and_from (not (announces prefix s)) (is_candidate s.sources (cost_at s) (key_of prefix route.peer, route.entry)) (ap not c.0) c.2)

pub current_selectable : (s : State) → AreRoutesInOrder s → AreCurrent s → AreSelectable s
current_selectable s sorted current prefix route at =
    chosen_selectable prefix s (selected_at prefix s) route sorted (sym (current prefix) ∙ at)

pub all_selectable : (now : ℕ) (s : State) → AreRoutesInOrder s → AreRoutesInOrder (reselect_all now s) → AreSelectable (reselect_all now s)
all_selectable now s sorted after = current_selectable (reselect_all now s) after (reselections_current now s sorted)

-- ---- one prefix selected, after a change at that prefix

abbrev pub changed : PrefixSet → RouteEntries → State → State
changed announced entries s = record s { announced = announced; routes = record s.routes { entries = entries } }

-- At all other prefixes nothing changed.
pub record IsSameElsewhere (p : PrefixValue) (announced : PrefixSet) (entries : RouteEntries) (s : State) : Type 0 where
  pub in_order : is_sorted route_cmp entries ≡ true
  pub local : (q : PrefixValue) → eq_by_cmp prefix_cmp q p ≡ false → is_some (find prefix_cmp q announced) ≡ announces q s
  pub entry : (q : PrefixValue) (peer : Peer) → eq_by_cmp prefix_cmp q p ≡ false → find route_cmp (key_of q peer) entries ≡ entry_at q peer s
  pub routes : (q : PrefixValue) → eq_by_cmp prefix_cmp q p ≡ false → routes_of q entries ≡ routes_of q s.routes.entries

pub selected_after : (q p : PrefixValue) (s : State) → selected_at q (select p s) ≡ cond (eq_by_cmp prefix_cmp q p) (choice_at s.sources (cost_at s) p (announces p s) s.routes) (selected_at q s)
selected_after q p s = find_with_value prefix_cmp prefix_total prefix_exact q p (choice_at s.sources (cost_at s) p (announces p s) s.routes) s.routes.selections

pub same_prefix : (q p : PrefixValue) → eq_by_cmp prefix_cmp q p ≡ true → q ≡ p
same_prefix q p e = prefix_exact q p (equal (prefix_cmp q p) e)

pub selected_selectable : (p : PrefixValue) (announced : PrefixSet) (entries : RouteEntries) (s : State) → IsSameElsewhere p announced entries s → AreSelectable s → AreSelectable (select p (changed announced entries s))
selected_selectable p announced entries s same good q route at = by (eq_by_cmp prefix_cmp q p) refl (sym (selected_after q p (changed announced entries s)) ∙ at)
  where
    t : State
    t = changed announced entries s

    by : (b : Bool) → eq_by_cmp prefix_cmp q p ≡ b → cond b (choice_at t.sources (cost_at t) p (announces p t) t.routes) (selected_at q s) ≡ Some route → IsSelectable q (select p t) route
    by true e is =
        let here : IsSelectable p t route = chosen_selectable p t (selection_at p t.routes) route same.in_order is in
        subst (λ r. IsSelectable r (select p t) route) (sym (same_prefix q p e)) here
    by false e is =
        let old = good q route is in
        (same.entry q route.peer e ∙ old.0, ap (λ b. not b && is_candidate s.sources (cost_at s) (key_of q route.peer, route.entry)) (same.local q e) ∙ old.1)

-- the choice, by the routes of its prefix
abbrev choice_among : State → PrefixValue → Option Selection → Bool → RouteEntries → Option Selection
choice_among s prefix before local routes =
    option_map selection_of (first_of (preference (cost_at s) (peer_before before)) (if local then [] else filter (is_candidate s.sources (cost_at s)) routes))

pub selected_current : (p : PrefixValue) (announced : PrefixSet) (entries : RouteEntries) (s : State) → IsSameElsewhere p announced entries s → (q : PrefixValue) → IsCurrentAt q s → IsCurrentAt q (select p (changed announced entries s))
selected_current p announced entries s same q current = by (eq_by_cmp prefix_cmp q p) refl
  where
    t : State
    t = changed announced entries s

    among : is_among p (p ∷ []) ≡ true
    among = or_left (eq_by_cmp prefix_cmp p p) false (ap is_eq (tied_itself prefix_total p))

    by : (b : Bool) → eq_by_cmp prefix_cmp q p ≡ b → IsCurrentAt q (select p t)
    by true e =
        subst (λ r. IsCurrentAt r (select p t)) (sym (same_prefix q p e))
        (all_current t.sources (cost_at t) (λ r. announces r t) (p ∷ []) t.routes p same.in_order (λ there. among))
    by false e =
        let kept : selected_at q (select p t) ≡ selected_at q s =
        selected_after q p t ∙ ap (λ b. cond b (choice_at t.sources (cost_at t) p (announces p t) t.routes) (selected_at q s)) e
        in
        let chosen : choice s.sources (cost_at s) q (announces q s) (selected_at q s) s.routes.entries ≡ choice s.sources (cost_at s) q (announces q t) (selected_at q s) entries =
        λ i. choice_among s q (selected_at q s) (sym (same.local q e) i) (sym (same.routes q e) i)
        in
        subst (λ m. m ≡ choice s.sources (cost_at s) q (announces q t) m entries) (sym kept) (current ∙ chosen)

-- ---- what changes at one prefix alone

other_key : (q p : PrefixValue) (a b : Peer) → eq_by_cmp prefix_cmp q p ≡ false → eq_by_cmp route_cmp (key_of q a) (key_of p b) ≡ false
other_key q p a b e = by (eq_by_cmp route_cmp (key_of q a) (key_of p b)) refl
  where
    by : (c : Bool) → eq_by_cmp route_cmp (key_of q a) (key_of p b) ≡ c → c ≡ false
    by false is = refl
    by true is =
        let same : key_of q a ≡ key_of p b = route_exact (key_of q a) (key_of p b) (equal (route_cmp (key_of q a) (key_of p b)) is) in
        absurd (false≢true (sym e ∙ ap (λ (k : RouteKey). eq_by_cmp prefix_cmp k.prefix p) same ∙ ap is_eq (tied_itself prefix_total p)))

pub put_elsewhere : (q p : PrefixValue) (a b : Peer) (e : Entry) (es : RouteEntries) → eq_by_cmp prefix_cmp q p ≡ false → find route_cmp (key_of q a) (put route_cmp (key_of p b) e es) ≡ find route_cmp (key_of q a) es
put_elsewhere q p a b e es other =
    find-put route_cmp route_total (key_of q a) (key_of p b) e es ∙ ap (λ c. cond c (Some e) (find route_cmp (key_of q a) es)) (other_key q p a b other)

pub routes_put : (q p : PrefixValue) (b : Peer) (e : Entry) (es : RouteEntries) → eq_by_cmp prefix_cmp p q ≡ false → routes_of q (put route_cmp (key_of p b) e es) ≡ routes_of q es
routes_put q p b e [] other = ap (λ c. cond c ((key_of p b, e) ∷ []) []) other
routes_put q p b e (x ∷ es) other = by (route_cmp (key_of p b) x.0) refl (routes_put q p b e es other)
  where
    skip : (ys : RouteEntries) → routes_of q ((key_of p b, e) ∷ ys) ≡ routes_of q ys
    skip ys = ap (λ c. cond c ((key_of p b, e) ∷ routes_of q ys) (routes_of q ys)) other

    by : (r : Ordering) → route_cmp (key_of p b) x.0 ≡ r → routes_of q (put route_cmp (key_of p b) e es) ≡ routes_of q es →
        routes_of q (by_order r ((key_of p b, e) ∷ x ∷ es) ((x.0, e) ∷ es) (x ∷ put route_cmp (key_of p b) e es)) ≡ routes_of q (x ∷ es)
    by Less is rest = skip (x ∷ es)
    by Equal is rest =
        let same : key_of p b ≡ x.0 = route_exact (key_of p b) x.0 is in
        let not_of : is_of q x ≡ false = ap (λ (k : RouteKey). eq_by_cmp prefix_cmp k.prefix q) (sym same) ∙ other in
        ap (λ c. cond c ((x.0, e) ∷ routes_of q es) (routes_of q es)) not_of ∙ ap (λ c. cond c (x ∷ routes_of q es) (routes_of q es)) (sym not_of)
    by Greater is rest = ap (λ ys. cond (is_of q x) (x ∷ ys) ys) rest
