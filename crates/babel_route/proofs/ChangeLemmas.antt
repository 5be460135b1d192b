-- What a selection that is exchanged was, and what doesn't change.
use Rattle.std.proofs.Common.{◌≡◌, ℕ, true, false, ◌&&◌, if◌then◌else◌, Option, Some, None, IsNone, is_some, option_map, slice_get, refl, sym, ap, ◌∙◌}
use Rattle.std.proofs.lemmas.Option.{same_Some}
use Rattle.std.proofs.lemmas.Bool.{and_from, eq-eqb}
use Rattle.std.specs.Prelude.{nat_eq}
use Rattle.std.specs.Cmp.{IsTotalOrder, tied_itself}
use Rattle.std.specs.declared.cmp.Ordering.{Ordering}
use Rattle.std.specs.Ordering.{is_eq, eq_by_cmp}
use Rattle.std.specs.FinMap.{find, is_sorted}
use Rattle.babel_value.specs.declared.keys.Peer.{Peer}
use Rattle.babel_value.specs.Orders.{prefix_cmp, octets_cmp, addr_cmp, peer_cmp}
use Rattle.babel_value.specs.Prefixes.{PrefixValue}
use Rattle.babel_value.proofs.OrderLaws.{prefix_total, prefix_exact, octets_total, addr_total, peer_total}
use Rattle.babel_table.specs.Entries.{with_value}
use Rattle.babel_table.specs.Places.{IsAt}
use Rattle.babel_table.proofs.PlaceLemmas.{find_hit}
use Rattle.babel_table.proofs.LookupLemmas.{with_value_same}
use Rattle.babel_choice.specs.declared.entries.Selection.{Selection}
use Rattle.babel_choice.specs.Choices.{Selections, peer_before}
use Rattle.babel_route.specs.declared.routes.changes.OriginChange.TheVariants.{Same, New}
use Rattle.babel_route.specs.declared.routes.changes.Report.TheVariants.{Alike, Other}
use Rattle.babel_route.specs.declared.routes.changes.SelectionChange.{SelectionChange}
use Rattle.babel_route.specs.Currency.{is_same_distance}
use Rattle.babel_route.specs.Repeats.{refreshed}
use Rattle.babel_route.specs.SelectionChanges.{is_alike, are_alike, origin_change, selection_change}

pub found_at : (p : PrefixValue) (ss : Selections) (i : ℕ) (s : PrefixValue × Selection) → is_sorted prefix_cmp ss ≡ true → IsAt p ss i → Some s ≡ slice_get ss i → find prefix_cmp p ss ≡ Some s.1
found_at p ss i s sorted at here =
    find_hit prefix_cmp prefix_total ss i (p, at.0) sorted at.1 ∙ ap (λ (t : PrefixValue × Selection). Some t.1) (sym (same_Some s (p, at.0) (here ∙ at.1)))

-- ---- what stays

same_key : {K : Type 0} (R : K → K → Ordering) → IsTotalOrder R → (k : K) → eq_by_cmp R k k ≡ true
same_key R total k = ap is_eq (tied_itself total k)

-- a selection is like itself, whatever its interval and its deadline become
pub like_itself : (s t : Selection) → t.peer ≡ s.peer → t.entry.router ≡ s.entry.router → t.entry.next_hop ≡ s.entry.next_hop → t.entry.distance ≡ s.entry.distance → is_alike s t ≡ true
like_itself s t peer router next_hop distance =
    let distances : is_same_distance s.entry.distance s.entry.distance ≡ true = and_from (nat_eq s.entry.distance.seqno s.entry.distance.seqno) _ (eq-eqb _ _ refl) (eq-eqb s.entry.distance.metric s.entry.distance.metric refl) in
    let itself : is_alike s s ≡ true =
    and_from (eq_by_cmp peer_cmp s.peer s.peer) _ (same_key peer_cmp peer_total s.peer)
    (and_from (eq_by_cmp octets_cmp s.entry.router s.entry.router) _ (same_key octets_cmp octets_total s.entry.router)
    (and_from (eq_by_cmp addr_cmp s.entry.next_hop s.entry.next_hop) _ (same_key addr_cmp addr_total s.entry.next_hop) distances)) in
    (λ i. eq_by_cmp peer_cmp s.peer (peer i) && (eq_by_cmp octets_cmp s.entry.router (router i) && (eq_by_cmp addr_cmp s.entry.next_hop (next_hop i) && is_same_distance s.entry.distance (distance i)))) ∙ itself

-- the change of a selection that stays
abbrev pub kept_change : Option Peer → SelectionChange
kept_change before = record { before = before; origin = Same; report = Alike }

alike_change : (s t : Selection) → t.peer ≡ s.peer → t.entry.router ≡ s.entry.router → t.entry.next_hop ≡ s.entry.next_hop → t.entry.distance ≡ s.entry.distance → kept_change (Some s.peer) ≡ selection_change (Some s) (Some t)
alike_change s t peer router next_hop distance =
    let origin : Same ≡ origin_change (Some s) (Some t) = sym (ap (λ q. if eq_by_cmp octets_cmp s.entry.router q then Same else New) router ∙ ap (λ b. if b then Same else New) (same_key octets_cmp octets_total s.entry.router)) in
    let report : Alike ≡ (if are_alike (Some s) (Some t) then Alike else Other) = sym (ap (λ b. if b then Alike else Other) (like_itself s t peer router next_hop distance)) in
    λ i. record { before = Some s.peer; origin = origin i; report = report i }

pub same_change : (s t : Selection) → s ≡ t → kept_change (Some s.peer) ≡ selection_change (Some s) (Some t)
same_change s t same =
    alike_change s t (ap (λ (u : Selection). u.peer) (sym same)) (ap (λ (u : Selection). u.entry.router) (sym same)) (ap (λ (u : Selection). u.entry.next_hop) (sym same)) (ap (λ (u : Selection). u.entry.distance) (sym same))

-- nothing changes of what a reselection leaves
pub no_change : (s : Option Selection) → kept_change (peer_before s) ≡ selection_change s s
no_change None = refl
no_change (Some s) = same_change s s refl

-- a deadline alone changes nothing that counts
pub refreshed_change : (peer : Peer) (deadline : ℕ) (s : Option Selection) → kept_change (peer_before s) ≡ selection_change s (option_map (refreshed peer deadline) s)
refreshed_change peer deadline None = refl
refreshed_change peer deadline (Some s) = alike_change s (refreshed peer deadline s) refl refl refl refl

-- a selection that stays, stays where it is
pub stays : (p : PrefixValue) (ss : Selections) (s t : Selection) → is_sorted prefix_cmp ss ≡ true → find prefix_cmp p ss ≡ Some s → s ≡ t → ss ≡ with_value prefix_cmp p (Some t) ss
stays p ss s t sorted found same =
    sym (with_value_same prefix_cmp prefix_total prefix_exact p (Some t) ss sorted (found ∙ ap (λ u. Some u) same))

pub none_of : {A : Type 0} (o : Option A) → is_some o ≡ false → IsNone o
none_of None none = refl
none_of (Some x) none = cc
