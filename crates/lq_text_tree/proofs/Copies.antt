-- A row that is copied, one more element at a time.
use Rattle.std.proofs.Common.{◌≡◌, ℕ, ◌+◌, ◌<◌, List, [], ◌∷◌, ◌++◌, map, take, get_or, length, sym, ap, ◌∙◌}
use Rattle.std.proofs.lemmas.List.{map_push, map_more}

pub copied_more : {X Y : Type 0} (f : X → Y) (done new xs : List X) (i : ℕ) (d y : X) → map f done ≡ map f (take i xs) → new ≡ done ++ y ∷ [] → i < length xs → f y ≡ f (get_or xs i d) → map f new ≡ map f (take (i + 1) xs)
copied_more f done new xs i d y so_far pushed within same =
    let a = map_push f done y in
    let b = map_more f xs i d within in
    ap (map f) pushed ∙ a ∙ ap (λ l. l ++ f y ∷ []) so_far ∙ ap (λ z. map f (take i xs) ++ z ∷ []) same ∙ sym b
