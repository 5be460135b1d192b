-- One more item of a list.
use Rattle.std.proofs.Common.{◌≡◌, ℕ, ◌+◌, ◌<◌, List, [], ◌∷◌, ◌++◌, take, length, get_or, sym, ap, ◌∙◌}
use Rattle.std.proofs.lemmas.List.{take_more}
use Rattle.toml.specs.Data.{Data}
use Rattle.toml.specs.declared.value.Value.{Value}
use Rattle.toml.specs.View.{view, items_view}
use Rattle.babel_toml.specs.Values.{IsItems}

module _ {A : Type 0} (Means : Data → A → Type 0) where
  pub items_push : (vs : List Value) (v : Value) (list : List A) (a : A) → IsItems Means (items_view vs) list → Means (view v) a → IsItems Means (items_view (vs ++ v ∷ [])) (list ++ a ∷ [])
  items_push [] v [] a h m = (m, tt)
  items_push [] v (b ∷ list) a h m = absurd h
  items_push (w ∷ vs) v [] a h m = absurd h
  items_push (w ∷ vs) v (b ∷ list) a h m = (h.0, items_push vs v list a h.1 m)

  pub items_grow : (values : List Value) (i : ℕ) (v : Value) (list more : List A) (a : A) → i < length values → v ≡ get_or values i v → more ≡ list ++ a ∷ [] → IsItems Means (items_view (take i values)) list → Means (view v) a → IsItems Means (items_view (take (i + 1) values)) more
  items_grow values i v list more a inside is grown h m =
      let next : take (i + 1) values ≡ take i values ++ v ∷ [] = take_more values i v inside ∙ ap (λ x. take i values ++ x ∷ []) (sym is) in
      rw (next, grown) (items_push (take i values) v list a h m)
