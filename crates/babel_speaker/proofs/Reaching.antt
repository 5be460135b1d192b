-- The next of the prefixes that are announced or selected.
use Rattle.std.proofs.Common.{◌≡◌, ℕ, ◌+◌, ◌≤◌, zero, suc, Bool, true, List, [], ◌∷◌, ◌++◌, map, drop, length, slice_get, option_map, Option, Some, None, refl, sym, ap, subst, ◌∙◌, arith}
use Rattle.std.specs.Prelude.{⊤}
use Rattle.std.specs.List.{list_all}
use Rattle.std.specs.declared.cmp.Ordering.{Ordering}
use Rattle.std.specs.declared.cmp.Ordering.TheVariants.{Less, Equal, Greater}
use Rattle.std.specs.Ordering.{is_lt, ordering_reverse}
use Rattle.std.specs.FinMap.{put, is_sorted}
use Rattle.std.specs.FinMap.Entries.{by_order}
use Rattle.std.proofs.lemmas.Bool.{and_parts, and_from}
use Rattle.std.proofs.lemmas.List.{length-map}
use Rattle.babel_value.specs.Orders.{prefix_cmp}
use Rattle.babel_value.specs.Prefixes.{PrefixValue}
use Rattle.babel_value.proofs.OrderLaws.{prefix_total, prefix_exact}
use Rattle.babel_value.proofs.Orderings.{less}
use Rattle.babel_table.specs.Places.{are_greater}
use Rattle.babel_table.proofs.PlaceLemmas.{turned, turned_back, head_greater, others_greater, tail_sorted, greater_from}
use Rattle.babel_choice.specs.Choices.{Selections}
use Rattle.babel_choice.specs.declared.entries.Selection.{Selection}
use Rattle.babel_choice.proofs.RunLemmas.{drop_at, drop_past}
use Rattle.babel_state.specs.State.{PrefixSet, gathered, prefixes_in}
use Rattle.babel_speaker.specs.Reaching.{reachable_of}
use Rattle.babel_speaker.proofs.Gathering.{gathered_both}

-- ---- prefixes after another one

abbrev are_after : PrefixValue → List PrefixValue → Bool
are_after p = list_all (λ q. is_lt (prefix_cmp p q))

after_keys : {V : Type 0} (p : PrefixValue) (es : List (PrefixValue × V)) → are_greater prefix_cmp p es ≡ true → are_after p (map (λ e. e.0) es) ≡ true
after_keys p [] h = refl
after_keys p (e ∷ es) h =
    let parts = and_parts (is_lt (prefix_cmp p e.0)) (are_greater prefix_cmp p es) h in
    and_from (is_lt (prefix_cmp p e.0)) (are_after p (map (λ e. e.0) es)) parts.0 (after_keys p es parts.1)

after_both : (p : PrefixValue) (ps qs : List PrefixValue) → are_after p ps ≡ true → are_after p qs ≡ true → are_after p (ps ++ qs) ≡ true
after_both p [] qs a b = b
after_both p (x ∷ xs) qs a b =
    let parts = and_parts (is_lt (prefix_cmp p x)) (are_after p xs) a in
    and_from (is_lt (prefix_cmp p x)) (are_after p (xs ++ qs)) parts.0 (after_both p xs qs parts.1 b)

greater_put : (p q : PrefixValue) (es : PrefixSet) → is_lt (prefix_cmp p q) ≡ true → are_greater prefix_cmp p es ≡ true → are_greater prefix_cmp p (put prefix_cmp q tt es) ≡ true
greater_put p q [] one all = and_from (is_lt (prefix_cmp p q)) true one refl
greater_put p q (e ∷ es) one all = by (prefix_cmp q e.0) (greater_put p q es one (and_parts (is_lt (prefix_cmp p e.0)) (are_greater prefix_cmp p es) all).1)
  where
    by : (o : Ordering) → are_greater prefix_cmp p (put prefix_cmp q tt es) ≡ true → are_greater prefix_cmp p (by_order o ((q, tt) ∷ e ∷ es) ((e.0, tt) ∷ es) (e ∷ put prefix_cmp q tt es)) ≡ true
    by Less rest = and_from (is_lt (prefix_cmp p q)) (are_greater prefix_cmp p (e ∷ es)) one all
    by Equal rest = all
    by Greater rest = and_from (is_lt (prefix_cmp p e.0)) (are_greater prefix_cmp p (put prefix_cmp q tt es)) (and_parts (is_lt (prefix_cmp p e.0)) (are_greater prefix_cmp p es) all).0 rest

greater_gathered : (p : PrefixValue) (ps : List PrefixValue) (es : PrefixSet) → are_after p ps ≡ true → are_greater prefix_cmp p es ≡ true → are_greater prefix_cmp p (gathered ps es) ≡ true
greater_gathered p [] es h all = all
greater_gathered p (q ∷ qs) es h all =
    let parts = and_parts (is_lt (prefix_cmp p q)) (are_after p qs) h in
    greater_gathered p qs (put prefix_cmp q tt es) parts.1 (greater_put p q es parts.0 all)

-- ---- the first of a set

least_put : (p : PrefixValue) (es : PrefixSet) → are_greater prefix_cmp p es ≡ true → put prefix_cmp p tt es ≡ (p, tt) ∷ es
least_put p [] h = refl
least_put p (e ∷ es) h = ap (λ o. by_order o ((p, tt) ∷ e ∷ es) ((e.0, tt) ∷ es) (e ∷ put prefix_cmp p tt es)) (head_greater prefix_cmp p e es h)

put_first : (p q : PrefixValue) (es : PrefixSet) (o : Ordering) → prefix_cmp q p ≡ o → put prefix_cmp q tt ((p, tt) ∷ es) ≡ by_order o ((q, tt) ∷ (p, tt) ∷ es) ((p, tt) ∷ es) ((p, tt) ∷ put prefix_cmp q tt es)
put_first p q es o is = ap (λ r. by_order r ((q, tt) ∷ (p, tt) ∷ es) ((p, tt) ∷ es) ((p, tt) ∷ put prefix_cmp q tt es)) is

first_stays : (p : PrefixValue) (ps : List PrefixValue) (es : PrefixSet) → are_after p ps ≡ true → gathered ps ((p, tt) ∷ es) ≡ (p, tt) ∷ gathered ps es
first_stays p [] es h = refl
first_stays p (q ∷ qs) es h =
    let parts = and_parts (is_lt (prefix_cmp p q)) (are_after p qs) h in
    ap (gathered qs) (put_first p q es Greater (turned prefix_total p q (less (prefix_cmp p q) parts.0)))
    ∙ first_stays p qs (put prefix_cmp q tt es) parts.1

own_first : (p : PrefixValue) (ps qs : List PrefixValue) → are_after p ps ≡ true → are_after p qs ≡ true → gathered (p ∷ ps ++ qs) [] ≡ (p, tt) ∷ gathered (ps ++ qs) []
own_first p ps qs a b = first_stays p (ps ++ qs) [] (after_both p ps qs a b)

selected_first : (q : PrefixValue) (ps qs : List PrefixValue) → are_after q ps ≡ true → are_after q qs ≡ true → gathered (ps ++ q ∷ qs) [] ≡ (q, tt) ∷ gathered (ps ++ qs) []
selected_first q ps qs a b =
    gathered_both ps (q ∷ qs) []
    ∙ ap (gathered qs) (least_put q (gathered ps []) (greater_gathered q ps [] a refl))
    ∙ first_stays q qs (gathered ps []) b
    ∙ ap (λ es. (q, tt) ∷ es) (sym (gathered_both ps qs []))

both_first : (p q : PrefixValue) (ps qs : List PrefixValue) → prefix_cmp q p ≡ Equal → are_after p ps ≡ true → are_after p qs ≡ true → gathered (p ∷ ps ++ q ∷ qs) [] ≡ (p, tt) ∷ gathered (ps ++ qs) []
both_first p q ps qs same a b =
    gathered_both ps (q ∷ qs) ((p, tt) ∷ [])
    ∙ ap (λ es. gathered qs (put prefix_cmp q tt es)) (first_stays p ps [] a)
    ∙ ap (gathered qs) (put_first p q (gathered ps []) Equal same)
    ∙ first_stays p qs (gathered ps []) b
    ∙ ap (λ es. (p, tt) ∷ es) (sym (gathered_both ps qs []))

-- ---- one step of the walk

drop_sorted : {V : Type 0} (es : List (PrefixValue × V)) (i : ℕ) → is_sorted prefix_cmp es ≡ true → is_sorted prefix_cmp (drop i es) ≡ true
drop_sorted es zero h = h
drop_sorted [] (suc i) h = refl
drop_sorted (e ∷ es) (suc i) h = drop_sorted es i (tail_sorted prefix_cmp e es h)

later_after : {V : Type 0} (es : List (PrefixValue × V)) (i : ℕ) (e : PrefixValue × V) → is_sorted prefix_cmp es ≡ true → slice_get es i ≡ Some e → are_after e.0 (map (λ e. e.0) (drop (i + 1) es)) ≡ true
later_after es i e sorted at =
    after_keys e.0 (drop (i + 1) es) (others_greater prefix_cmp e (drop (i + 1) es) (subst (λ xs. is_sorted prefix_cmp xs ≡ true) (drop_at es i e at) (drop_sorted es i sorted)))

greater_past : {V : Type 0} (p : PrefixValue) (es : List (PrefixValue × V)) (i : ℕ) → slice_get es i ≡ None → are_greater prefix_cmp p (drop i es) ≡ true
greater_past p es i past = ap (are_greater prefix_cmp p) (drop_past es i past)

-- An entry of a set is its prefix.
entry_at : (es : PrefixSet) (i : ℕ) (p : PrefixValue) → option_map (λ e. e.0) (slice_get es i) ≡ Some p → slice_get es i ≡ Some (p, tt)
entry_at es i p is = by (slice_get es i) is
  where
    by : (m : Option (PrefixValue × ⊤)) → option_map (λ e. e.0) m ≡ Some p → m ≡ Some (p, tt)
    by None is = cc
    by (Some e) is = ap (option_map (λ q. (q, tt))) is

none_at : (es : PrefixSet) (i : ℕ) → option_map (λ e. e.0) (slice_get es i) ≡ None → slice_get es i ≡ None
none_at es i is = by (slice_get es i) is
  where
    by : (m : Option (PrefixValue × ⊤)) → option_map (λ e. e.0) m ≡ None → m ≡ None
    by None is = refl
    by (Some e) is = cc

-- With no announced prefix they are those of the selections.
only_selections : (es : Selections) → is_sorted prefix_cmp es ≡ true → reachable_of [] es ≡ map (λ e. e.0) es
only_selections [] h = refl
only_selections (e ∷ es) h =
    ap prefixes_in (selected_first e.0 [] (map (λ e. e.0) es) refl (after_keys e.0 es (others_greater prefix_cmp e es h)))
    ∙ ap (λ ps. e.0 ∷ ps) (only_selections es (tail_sorted prefix_cmp e es h))

-- They are no fewer than the selections.
after_first : (f : PrefixValue × Selection) (s : Selections) → is_sorted prefix_cmp (f ∷ s) ≡ true → are_after f.0 (map (λ e. e.0) s) ≡ true
after_first f s h = after_keys f.0 s (others_greater prefix_cmp f s h)

after_lesser : (p : PrefixValue) (f : PrefixValue × Selection) (s : Selections) → is_sorted prefix_cmp (f ∷ s) ≡ true → prefix_cmp f.0 p ≡ Greater → are_after p (map (λ e. e.0) s) ≡ true
after_lesser p f s h later =
    let greater = greater_from prefix_cmp prefix_total p (f ∷ s) 0 f h refl (turned_back prefix_total f.0 p later) in
    after_keys p s (and_parts (is_lt (prefix_cmp p f.0)) (are_greater prefix_cmp p s) greater).1

no_fewer_put : (f : PrefixValue × Selection) (s : Selections) (e : PrefixValue × ⊤) (es : PrefixSet) (o : Ordering) → is_sorted prefix_cmp (f ∷ s) ≡ true → prefix_cmp f.0 e.0 ≡ o →
    length s ≤ length (gathered (map (λ e. e.0) s) (e ∷ es)) →
    length s ≤ length (gathered (map (λ e. e.0) s) es) →
    length s + 1 ≤ length (gathered (map (λ e. e.0) s) (put prefix_cmp f.0 tt es)) →
    length s + 1 ≤ length (gathered (map (λ e. e.0) s) (by_order o ((f.0, tt) ∷ e ∷ es) ((e.0, tt) ∷ es) (e ∷ put prefix_cmp f.0 tt es)))
no_fewer_put f s e es Less h is before same after =
    omega (arith, before, ap length (first_stays f.0 (map (λ e. e.0) s) (e ∷ es) (after_first f s h)))
no_fewer_put f s e es Equal h is before same after =
    let later : are_after e.0 (map (λ e. e.0) s) ≡ true = subst (λ p. are_after p (map (λ e. e.0) s) ≡ true) (prefix_exact f.0 e.0 is) (after_first f s h) in
    omega (arith, same, ap length (first_stays e.0 (map (λ e. e.0) s) es later))
no_fewer_put f s e es Greater h is before same after =
    omega (arith, after, ap length (first_stays e.0 (map (λ e. e.0) s) (put prefix_cmp f.0 tt es) (after_lesser e.0 f s h is)))

no_fewer_gathered : (s : Selections) (es : PrefixSet) → is_sorted prefix_cmp s ≡ true → length s ≤ length (gathered (map (λ e. e.0) s) es)
no_fewer_gathered [] es h = omega arith
no_fewer_gathered (f ∷ s) [] h =
    omega (arith, no_fewer_gathered s [] (tail_sorted prefix_cmp f s h), ap length (first_stays f.0 (map (λ e. e.0) s) [] (after_first f s h)))
no_fewer_gathered (f ∷ s) (e ∷ es) h =
    let rest = tail_sorted prefix_cmp f s h in
    let more = no_fewer_put f s e es (prefix_cmp f.0 e.0) h refl (no_fewer_gathered s (e ∷ es) rest) (no_fewer_gathered s es rest) (omega (arith, no_fewer_gathered (f ∷ s) es h)) in
    omega (arith, more)

-- The prefixes that come after so many of each table.
abbrev pub left : PrefixSet → Selections → ℕ → ℕ → List PrefixValue
left announced selections i j = reachable_of (drop i announced) (drop j selections)

module _ (announced : PrefixSet) (selections : Selections) (i j : ℕ) where
  own_step : (p : PrefixValue) → is_sorted prefix_cmp announced ≡ true → slice_get announced i ≡ Some (p, tt) → are_greater prefix_cmp p (drop j selections) ≡ true → left announced selections i j ≡ p ∷ left announced selections (i + 1) j
  own_step p sorted at greater =
      ap (λ es. reachable_of es (drop j selections)) (drop_at announced i (p, tt) at)
      ∙ ap prefixes_in (own_first p (prefixes_in (drop (i + 1) announced)) (map (λ e. e.0) (drop j selections)) (later_after announced i (p, tt) sorted at) (after_keys p (drop j selections) greater))

  selected_step : (f : PrefixValue × Selection) → is_sorted prefix_cmp selections ≡ true → slice_get selections j ≡ Some f → are_greater prefix_cmp f.0 (drop i announced) ≡ true → left announced selections i j ≡ f.0 ∷ left announced selections i (j + 1)
  selected_step f sorted at greater =
      ap (reachable_of (drop i announced)) (drop_at selections j f at)
      ∙ ap prefixes_in (selected_first f.0 (prefixes_in (drop i announced)) (map (λ e. e.0) (drop (j + 1) selections)) (after_keys f.0 (drop i announced) greater) (later_after selections j f sorted at))

  pub ends : option_map (λ e. e.0) (slice_get announced i) ≡ None → slice_get selections j ≡ None → left announced selections i j ≡ []
  ends own selected =
      ap (λ es. reachable_of es (drop j selections)) (drop_past announced i (none_at announced i own)) ∙ ap (reachable_of []) (drop_past selections j selected)

  pub no_fewer : is_sorted prefix_cmp selections ≡ true → length (map (λ e. e.0) (drop j selections)) ≤ length (left announced selections i j)
  no_fewer sorted =
      let own = prefixes_in (drop i announced) in
      let chosen = map (λ e. e.0) (drop j selections) in
      omega (
        arith,
        no_fewer_gathered (drop j selections) (gathered own []) (drop_sorted selections j sorted),
        ap length (gathered_both own chosen []),
        length-map (drop j selections) (λ e. e.0),
        length-map (gathered (own ++ chosen) []) (λ e. e.0),
      )

  pub rest_selected : is_sorted prefix_cmp selections ≡ true → option_map (λ e. e.0) (slice_get announced i) ≡ None → left announced selections i j ≡ map (λ e. e.0) (drop j selections)
  rest_selected sorted own =
      ap (λ es. reachable_of es (drop j selections)) (drop_past announced i (none_at announced i own)) ∙ only_selections (drop j selections) (drop_sorted selections j sorted)

  pub only_selected : (f : PrefixValue × Selection) → is_sorted prefix_cmp selections ≡ true → option_map (λ e. e.0) (slice_get announced i) ≡ None → slice_get selections j ≡ Some f → left announced selections i j ≡ f.0 ∷ left announced selections i (j + 1)
  only_selected f sorted own at = selected_step f sorted at (greater_past f.0 announced i (none_at announced i own))

  pub only_own : (p : PrefixValue) → is_sorted prefix_cmp announced ≡ true → option_map (λ e. e.0) (slice_get announced i) ≡ Some p → slice_get selections j ≡ None → left announced selections i j ≡ p ∷ left announced selections (i + 1) j
  only_own p sorted own past = own_step p sorted (entry_at announced i p own) (greater_past p selections j past)

  module _ (p : PrefixValue) (f : PrefixValue × Selection) (own_sorted : is_sorted prefix_cmp announced ≡ true) (sorted : is_sorted prefix_cmp selections ≡ true) (own : option_map (λ e. e.0) (slice_get announced i) ≡ Some p) (at : slice_get selections j ≡ Some f) where
    pub own_less : prefix_cmp p f.0 ≡ Less → left announced selections i j ≡ p ∷ left announced selections (i + 1) j
    own_less first = own_step p own_sorted (entry_at announced i p own) (greater_from prefix_cmp prefix_total p selections j f sorted at first)

    pub selected_less : prefix_cmp p f.0 ≡ Greater → left announced selections i j ≡ f.0 ∷ left announced selections i (j + 1)
    selected_less first =
        selected_step f sorted at (greater_from prefix_cmp prefix_total f.0 announced i (p, tt) own_sorted (entry_at announced i p own) (turned_back prefix_total p f.0 first))

    pub both_same : prefix_cmp p f.0 ≡ Equal → left announced selections i j ≡ p ∷ left announced selections (i + 1) (j + 1)
    both_same same =
        ap (λ es. reachable_of es (drop j selections)) (drop_at announced i (p, tt) (entry_at announced i p own))
        ∙ ap (reachable_of ((p, tt) ∷ drop (i + 1) announced)) (drop_at selections j f at)
        ∙ ap prefixes_in
        (both_first p f.0 (prefixes_in (drop (i + 1) announced)) (map (λ e. e.0) (drop (j + 1) selections)) (prefix_total.antisymm f.0 p ∙ ap ordering_reverse same)
        (later_after announced i (p, tt) own_sorted (entry_at announced i p own))
        (subst (λ q. are_after q (map (λ e. e.0) (drop (j + 1) selections)) ≡ true) (sym (prefix_exact p f.0 same)) (later_after selections j f sorted at)))
