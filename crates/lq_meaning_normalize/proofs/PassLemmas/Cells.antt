-- A list literal, from its last item on.
use Rattle.std.proofs.Common.{◌≡◌, ℕ, List, [], ◌∷◌, ◌++◌, map, refl, sym, ap, ◌∙◌}
use Rattle.std.proofs.lemmas.List.{map-append}
use Rattle.lq_base_names.specs.declared.place.Place.{Place}
use Rattle.lq_text_tree.specs.Tree.{Tree}
use Rattle.lq_meaning_normalize.specs.Pass.Forming.{Formed, cell, cells}

cells_last : (i : ℕ) (p : Place) (xs : List Tree) (x : Tree) (F : Formed) → cells i p (xs ++ x ∷ []) F ≡ cells i p xs (cell i p x F)
cells_last i p [] x F = refl
cells_last i p (y ∷ xs) x F = ap (cell i p y) (cells_last i p xs x F)

pub cells_popped : {X : Type 0} (f : X → Tree) (i : ℕ) (p : Place) (old new : List X) (x : X) (F G : Formed) → old ≡ new ++ x ∷ [] → G ≡ cell i p (f x) F
    → cells i p (map f new) G ≡ cells i p (map f old) F
cells_popped f i p old new x F G popped is =
    ap (cells i p (map f new)) is
    ∙ sym (cells_last i p (map f new) (f x) F)
    ∙ ap (λ ts. cells i p ts F) (sym (map-append f new (x ∷ [])) ∙ ap (map f) (sym popped))
