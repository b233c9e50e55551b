-- Lists that are there where a test says so.
use Rattle.std.proofs.Common.{◌≡◌, ◌∙◌, ℕ, ◌+◌, ◌<◌, Bool, true, false, cond, List, [], ◌∷◌, ◌++◌, length, map, take, get_or, refl, sym, ap, ap₂, append_assoc, append-nil}
use Rattle.std.proofs.lemmas.List.{map-append, take_more}

pub cond-none : {X : Type 0} (b : Bool) (xs : List X) → xs ++ cond b [] [] ≡ xs
cond-none true xs = append-nil xs
cond-none false xs = append-nil xs

pub cond-both : {X : Type 0} (b : Bool) (xs ys : List X) → cond b xs [] ++ cond b ys [] ≡ cond b (xs ++ ys) []
cond-both true xs ys = refl
cond-both false xs ys = refl

pub map-cond : {X Y : Type 0} (f : X → Y) (b : Bool) (xs : List X) → map f (cond b xs []) ≡ cond b (map f xs) []
map-cond f true xs = refl
map-cond f false xs = refl

-- one more, of a row that has had so many
pub one-more : {X Y : Type 0} (f : X → Y) (b : Bool) (before now after items : List X) (i : ℕ) (x y : X) → after ≡ now ++ cond b (x ∷ []) [] → f x ≡ f y
    → y ≡ get_or items i y → i < length items → map f now ≡ map f before ++ cond b (map f (take i items)) []
    → map f after ≡ map f before ++ cond b (map f (take (i + 1) items)) []
one-more f b before now after items i x y e g h l k =
    ap (map f) e ∙ map-append f now (cond b (x ∷ []) [])
    ∙ ap₂ (λ u v. u ++ v) k (map-cond f b (x ∷ []) ∙ ap (λ z. cond b (z ∷ []) []) g)
    ∙ append_assoc (map f before) (cond b (map f (take i items)) []) (cond b (f y ∷ []) [])
    ∙ ap (λ u. map f before ++ u) (cond-both b (map f (take i items)) (f y ∷ []))
    ∙ ap (λ u. map f before ++ cond b u [])
    (sym (ap (map f) (take_more items i y l ∙ ap (λ z. take i items ++ z ∷ []) (sym h)) ∙ map-append f (take i items) (y ∷ [])))

pub items-more : {X : Type 0} (b : Bool) (before now after items : List X) (i : ℕ) (d : X) → after ≡ now ++ cond b (get_or items i d ∷ []) []
    → i < length items → now ≡ before ++ cond b (take i items) [] → after ≡ before ++ cond b (take (i + 1) items) []
items-more b before now after items i d e l k =
    e ∙ ap (λ u. u ++ cond b (get_or items i d ∷ []) []) k ∙ append_assoc before (cond b (take i items) []) (cond b (get_or items i d ∷ []) [])
    ∙ ap (λ u. before ++ u) (cond-both b (take i items) (get_or items i d ∷ []))
    ∙ ap (λ u. before ++ cond b u []) (sym (take_more items i d l))
