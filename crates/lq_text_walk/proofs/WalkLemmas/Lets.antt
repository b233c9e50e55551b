-- The one arm of a match that was written as a `let`.
use Rattle.std.proofs.Common.{◌≡◌, ℕ, suc, Bool, true, false, List, [], ◌∷◌, map, length, slice_get, Option, Some, None, refl, sym, ap, subst, ◌∙◌, if◌then◌else◌, arith}
use Rattle.std.proofs.lemmas.Option.{slice_get_within}
use Rattle.lq_base_names.specs.declared.place.Place.{Place}
use Rattle.lq_text_tree.specs.Tree.{Tree}
use Rattle.lq_text_tree.specs.TreeView.{Case}
use Rattle.lq_text_walk.specs.Walk.Parts.{let_case}
use Rattle.lq_text_walk.specs.Walk.Visits.{is_before, place_of, place_of_pattern}

pub one_arm : {X : Type 0} (f : X → Case) (e : Tree) (xs : List X) (x : X) → length xs ≡ 1 → slice_get xs 0 ≡ Some x
    → let_case e (map f xs) ≡ (if is_before (place_of_pattern (f x).pattern) (place_of e) then Some (f x) else None)
one_arm f e [] x one is = absurd (omega (arith, one))
one_arm {X} f e (y ∷ []) x one is =
    let same : y ≡ x = cc in
    ap (λ (z : X). if is_before (place_of_pattern (f z).pattern) (place_of e) then Some (f z) else None) same
one_arm f e (y ∷ (z ∷ xs)) x one is = absurd (omega (arith, one))

pub here : {X : Type 0} (f : X → Case) (e : Tree) (xs : List X) (x : X) (p q : Place) (b : Bool) → length xs ≡ 1 → slice_get xs 0 ≡ Some x
    → place_of_pattern (f x).pattern ≡ p → place_of e ≡ q → b ≡ is_before p q → b ≡ true → Some (f x) ≡ let_case e (map f xs)
here f e xs x p q b one is first second test holds =
    let t : is_before (place_of_pattern (f x).pattern) (place_of e) ≡ true = cc in
    sym (one_arm f e xs x one is ∙ ap (λ (c : Bool). if c then Some (f x) else None) t)

pub not_here : {X : Type 0} (f : X → Case) (e : Tree) (xs : List X) (x : X) (p q : Place) (b : Bool) → length xs ≡ 1 → slice_get xs 0 ≡ Some x
    → place_of_pattern (f x).pattern ≡ p → place_of e ≡ q → b ≡ is_before p q → b ≡ false → None ≡ let_case e (map f xs)
not_here f e xs x p q b one is first second test fails =
    let t : is_before (place_of_pattern (f x).pattern) (place_of e) ≡ false = cc in
    sym (one_arm f e xs x one is ∙ ap (λ (c : Bool). if c then Some (f x) else None) t)

pub several : {X : Type 0} (f : X → Case) (e : Tree) (xs : List X) → (length xs ≡ 1 → ⊥) → None ≡ let_case e (map f xs)
several f e [] other = refl
several f e (x ∷ []) other = absurd (other refl)
several f e (x ∷ (y ∷ xs)) other = refl
