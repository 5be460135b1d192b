-- The prefixes that a replay has seen, in the code's table.
use Rattle.std.proofs.Common.{◌≡◌, ℕ, zero, suc, ◌<◌, Bool, true, false, ◌&&◌, cond, true≢false, nat_eq, List, [], ◌∷◌, Option, Some, None, is_some, slice_get, refl, sym, ap, ◌∙◌, length, arith}
use Rattle.std.proofs.lemmas.Bool.{and_from, eqb-true, eq-eqb}
use Rattle.std.specs.Cmp.{tied_itself}
use Rattle.std.proofs.lemmas.Option.{same_Some}
use Rattle.std.specs.Cmp.Lexicographic.{pointwise, same_text}
use Rattle.std.specs.declared.cmp.Ordering.{Ordering}
use Rattle.std.specs.declared.cmp.Ordering.TheVariants.{Less, Equal, Greater}
use Rattle.std.specs.Map.{lookup}
use Rattle.std.specs.Option.{option_map_or, unwrap_or}
use Rattle.std.specs.Ordering.{is_eq}
use Rattle.indexmap.specs.IndexMap.{insert_entry, set_value_at}
use Rattle.babel_value.specs.declared.keys.Peer.{Peer}
use Rattle.babel_value.specs.Orders.{peer_cmp}
use Rattle.babel_value.specs.Prefixes.{PrefixValue}
use Rattle.babel_value.proofs.OrderLaws.{peer_total, peer_exact}
use Rattle.babel_state.specs.Sameness.{is_same_peer, is_same_prefix}
use Rattle.babel_state.specs.State.{State}
use Rattle.babel_state.specs.declared.selected.Choice.{Choice}
use Rattle.babel_replay.specs.Seen.{SeenPrefix, choice_at, choice_printed, is_same_route, is_same_choice, with_seen}

inserted_first : (here : Bool) (same : Bool) (p : PrefixValue) (e : SeenPrefix) (es rest more : List SeenPrefix) (found : Option (Option Choice)) → here ≡ same →
    is_some (cond here (Some e.1) found) ≡ false → (is_some found ≡ false → rest ≡ more) → cond here ((e.0, None) ∷ es) (e ∷ rest) ≡ cond same (e ∷ es) (e ∷ more)
inserted_first true same p e es rest more found is none go = absurd (true≢false none)
inserted_first false true p e es rest more found is none go = absurd (true≢false (sym is))
inserted_first false false p e es rest more found is none go = ap (λ r. e ∷ r) (go none)

-- A prefix that isn't among the keys goes last.
pub inserted : (eq : PrefixValue → PrefixValue → Bool) → ((p q : PrefixValue) → eq p q ≡ is_same_prefix p q) → (p : PrefixValue) (es : List SeenPrefix) →
    is_some (lookup (eq p) es) ≡ false → insert_entry eq es p None ≡ with_seen p es
inserted eq same p [] none = refl
inserted eq same p (e ∷ es) none =
    inserted_first (eq p e.0) (is_same_prefix p e.0) p e es (insert_entry eq es p None) (with_seen p es) (lookup (eq p) es) (same p e.0) none (inserted eq same p es)

kept_first : (here : Bool) (same : Bool) (e : SeenPrefix) (es more : List SeenPrefix) (found : Option (Option Choice)) → here ≡ same →
    is_some (cond here (Some e.1) found) ≡ true → (is_some found ≡ true → es ≡ more) → e ∷ es ≡ cond same (e ∷ es) (e ∷ more)
kept_first here true e es more found is some go = refl
kept_first true false e es more found is some go = absurd (true≢false is)
kept_first false false e es more found is some go = ap (λ r. e ∷ r) (go some)

-- One that is there stays.
pub kept : (eq : PrefixValue → PrefixValue → Bool) → ((p q : PrefixValue) → eq p q ≡ is_same_prefix p q) → (p : PrefixValue) (es : List SeenPrefix) →
    is_some (lookup (eq p) es) ≡ true → es ≡ with_seen p es
kept eq same p [] some = absurd (true≢false (sym some))
kept eq same p (e ∷ es) some =
    kept_first (eq p e.0) (is_same_prefix p e.0) e es (with_seen p es) (lookup (eq p) es) (same p e.0) some (kept eq same p es)

-- So does the one at an index.
pub kept_at : (p : PrefixValue) (es : List SeenPrefix) (i : ℕ) (e : SeenPrefix) → slice_get es i ≡ Some e → is_same_prefix p e.0 ≡ true → with_seen p es ≡ es
kept_at p [] i e at same = cc
kept_at p (x ∷ es) zero e at same = ap (λ b. cond b (x ∷ es) (x ∷ with_seen p es)) (ap (λ (o : Option SeenPrefix). is_same_prefix p (unwrap_or o x).0) at ∙ same)
kept_at p (x ∷ es) (suc i) e at same = by (is_same_prefix p x.0) (kept_at p es i e at same)
  where
    by : (b : Bool) → with_seen p es ≡ es → cond b (x ∷ es) (x ∷ with_seen p es) ≡ x ∷ es
    by true rest = refl
    by false rest = ap (λ r. x ∷ r) rest

-- Past the end nothing is set.
pub set_past : {X : Type 0} (es : List (PrefixValue × X)) (i : ℕ) (w : X) → (i < length es → false ≡ true) → es ≡ set_value_at es i w
set_past [] i w past = refl
set_past (e ∷ es) zero w past = absurd (true≢false (sym (past (omega arith))))
set_past (e ∷ es) (suc i) w past = ap (λ rest. e ∷ rest) (set_past es i w (λ (within : i < length es). past (omega (arith, within))))

-- ---- what was last printed

both : (a b : Bool) → a && b ≡ true → (a ≡ true) × (b ≡ true)
both true true is = (refl, refl)
both true false is = absurd (true≢false (sym is))
both false b is = absurd (true≢false (sym is))

pub tied : (r : Ordering) → is_eq r ≡ true → r ≡ Equal
tied Less is = absurd (true≢false (sym is))
tied Equal is = refl
tied Greater is = absurd (true≢false (sym is))

pub same_route : (a b : Choice) → is_same_route a b ≡ true → a ≡ b
same_route a b same =
    let (peer, rest) = both (is_same_peer a.peer b.peer) _ same in
    let (metric, others) = both (nat_eq a.metric b.metric) _ rest in
    let (router, seqno) = both (pointwise nat_eq a.router b.router) (nat_eq a.seqno b.seqno) others in
    ap (λ (p : Peer). record { peer = p; metric = a.metric; router = a.router; seqno = a.seqno }) (peer_exact a.peer b.peer (tied (peer_cmp a.peer b.peer) peer))
    ∙ ap (λ (m : ℕ). record { peer = b.peer; metric = m; router = a.router; seqno = a.seqno }) (eqb-true a.metric b.metric metric)
    ∙ ap (λ (r : List ℕ). record { peer = b.peer; metric = b.metric; router = r; seqno = a.seqno }) (same_text a.router b.router (sym router))
    ∙ ap (λ (n : ℕ). record { peer = b.peer; metric = b.metric; router = b.router; seqno = n }) (eqb-true a.seqno b.seqno seqno)

same_choice : (a b : Option Choice) → is_same_choice a b ≡ true → a ≡ b
same_choice None None same = refl
same_choice None (Some b) same = absurd (true≢false (sym same))
same_choice (Some a) None same = absurd (true≢false (sym same))
same_choice (Some a) (Some b) same = ap Some (same_route a b same)

-- Each choice is the same as itself.
itself : (xs : List ℕ) → pointwise nat_eq xs xs ≡ true
itself [] = refl
itself (x ∷ xs) = and_from (nat_eq x x) (pointwise nat_eq xs xs) (eq-eqb x x refl) (itself xs)

pub is_itself : (c : Option Choice) → is_same_choice c c ≡ true
is_itself None = refl
is_itself (Some a) =
    and_from (is_same_peer a.peer a.peer) _ (ap is_eq (tied_itself peer_total a.peer))
    (and_from (nat_eq a.metric a.metric) _ (eq-eqb a.metric a.metric refl)
    (and_from (pointwise nat_eq a.router a.router) (nat_eq a.seqno a.seqno) (itself a.router) (eq-eqb a.seqno a.seqno refl)))

set_itself : (es : List SeenPrefix) (i : ℕ) (e : SeenPrefix) → slice_get es i ≡ Some e → es ≡ set_value_at es i e.1
set_itself [] zero e at = refl
set_itself [] (suc i) e at = refl
set_itself (d ∷ es) zero e at = ap (λ (f : SeenPrefix). (d.0, f.1) ∷ es) (same_Some d e at)
set_itself (d ∷ es) (suc i) e at = ap (λ rest. d ∷ rest) (set_itself es i e at)

-- If the same is printed, nothing changes.
pub set_same : (s : State) (es later : List SeenPrefix) (i : ℕ) (got : Option SeenPrefix) (p : PrefixValue) (last now : Option Choice) (same : Bool) →
    later ≡ es → got ≡ slice_get es i → got ≡ Some (p, last) → now ≡ choice_at s p → same ≡ is_same_choice now last → same ≡ true →
    later ≡ option_map_or (λ e. set_value_at es i (choice_printed s e)) (slice_get es i) es
set_same s es later i got p last now same kept at is chosen tested true_so =
    kept
    ∙ set_itself es i (p, last) (sym at ∙ is)
    ∙ ap (set_value_at es i) (sym (same_choice now last (sym tested ∙ true_so)) ∙ chosen)
    ∙ ap (λ m. option_map_or (λ e. set_value_at es i (choice_printed s e)) m es) (sym is ∙ at)
