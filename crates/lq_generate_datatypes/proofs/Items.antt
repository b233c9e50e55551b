-- Rows to which an item is added.
use Rattle.std.proofs.Common.{◌≡◌, ◌≢◌, ◌∙◌, ℕ, ◌<◌, ◌==◌, cond, List, [], ◌∷◌, ◌++◌, length, map, set, get_or, slice_index_or, refl, sym, ap, subst, inl, inr, append-nil, get_or-set_same, get_or-set_other}
use Rattle.std.proofs.lemmas.Bool.{cases_eq, eq-eqb, ne_eqb}
use Rattle.std.proofs.lemmas.List.{length-map, map-set, get_or-map}
use Rattle.std.specs.Global.{Vec}
use Rattle.lq_generate_operations.specs.Basis.Basis.{items_at}

module _ {X : Type 0} (rows : List (Vec X)) (w : ℕ) (row y : Vec X) (x : X) (h : w < length rows) (r : row ≡ get_or rows w row) (q : y.items ≡ row.items ++ x ∷ []) where
  abbrev items : Vec X → List X
  items v = v.items

  here : items_at (set rows w y) w ≡ items_at rows w ++ x ∷ []
  here =
      let inside : w < length (map items rows) = subst (λ n. w < n) (sym (length-map rows items)) h in
      ap (λ l. slice_index_or l w []) (map-set items rows w y) ∙ get_or-set_same (map items rows) w (items y) [] inside ∙ q
      ∙ ap (λ l. l ++ x ∷ []) (ap items r ∙ sym (get_or-map items rows w row [] h))

  elsewhere : (i : ℕ) → i ≢ w → items_at (set rows w y) i ≡ items_at rows i
  elsewhere i n = ap (λ l. slice_index_or l i []) (map-set items rows w y) ∙ get_or-set_other (map items rows) w i (items y) [] n

  pub items-set : (i : ℕ) → items_at (set rows w y) i ≡ items_at rows i ++ cond (w == i) (x ∷ []) []
  items-set i = elim (cases_eq i w) [
    | inl e ↦ subst (λ k. items_at (set rows w y) k ≡ items_at rows k ++ cond (w == k) (x ∷ []) []) (sym e)
        (here ∙ ap (λ b. items_at rows w ++ cond b (x ∷ []) []) (sym (eq-eqb w w refl)))
    | inr m ↦ elsewhere i m ∙ sym (append-nil (items_at rows i))
        ∙ ap (λ b. items_at rows i ++ cond b (x ∷ []) []) (sym (ne_eqb w i (λ e. m (sym e))))
  ]
