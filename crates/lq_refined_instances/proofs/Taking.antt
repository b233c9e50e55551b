-- One more of a list that is seen.
use Rattle.std.proofs.Common.{◌≡◌, ℕ, ◌+◌, ◌<◌, length, List, [], ◌∷◌, ◌++◌, map, take, get_or, sym, ap, ◌∙◌}
use Rattle.std.proofs.lemmas.List.{map-append, take_more}

pub seen-more : {X Y : Type 0} (view : X → Y) (xs : List X) (i : ℕ) (x d : X) → i < length xs → x ≡ get_or xs i d → map view (take (i + 1) xs) ≡ map view (take i xs) ++ view x ∷ []
seen-more {X} {Y} view xs i x d less is =
    ap (map view) (take_more xs i d less) ∙ map-append view (take i xs) (get_or xs i d ∷ []) ∙ ap (λ (y : X). map view (take i xs) ++ view y ∷ []) (sym is)
