-- Which parts stand at the places of a program.
use Rattle.std.proofs.Common.{◌≡◌, ◌∙◌, ℕ, zero, suc, ◌+◌, ◌-◌, List, [], ◌∷◌, ◌++◌, Some, get_or, length, map, reverse, slice_get, sym, ap, arith}
use Rattle.std.proofs.lemmas.List.{get_or-reverse, length-reverse, reverse-append}
use Rattle.std.proofs.lemmas.Option.{get_or_from_slice_get, same_Some, slice_get-get_or}
use Rattle.std.specs.Option.{option_and_then, option_map}
use Rattle.lq_refined_substitution.specs.Implications.Views.{environment_in, implication_view}
use Rattle.lq_refined_substitution.specs.declared.implications.implication.Implication as code
use Rattle.lq_refined_types.specs.Parts.Assignment.{Assignment, part_under}
use Rattle.lq_refined_types.specs.Parts.Constraint.{Constraint}
use Rattle.lq_refined_types.specs.Parts.Part.{Part, Parts}
use Rattle.lq_refined_substitution.specs.Substitution.Views.{part_view, parts_view}
use Rattle.lq_refined_types.specs.Subtyping.Implication.{constraint_of}
use Rattle.lq_solve_facts.specs.Store.Places.{StandAtLeft, StandsAt, formula_at, part_before}
use Rattle.lq_solve_facts.specs.declared.store.store.PartPlace.TheVariants.{Environment, Goal}

get_front : {X : Type 0} (xs ys : List X) (i : ℕ) (x : X) → slice_get xs i ≡ Some x → slice_get (xs ++ ys) i ≡ Some x
get_front [] ys i x e = absurd (cc)
get_front (y ∷ xs) ys zero x e = e
get_front (y ∷ xs) ys (suc i) x e = get_front xs ys i x e

pub get_mapped : {X Y : Type 0} (f : X → Y) (xs : List X) (at : ℕ) (x : X) → slice_get xs at ≡ Some x → slice_get (map f xs) at ≡ Some (f x)
get_mapped f [] at x e = absurd (cc)
get_mapped f (a ∷ xs) zero x e = ap (λ y. Some (f y)) (same_Some a x e)
get_mapped f (a ∷ xs) (suc at) x e = get_mapped f xs at x e

get_reversed : {X : Type 0} (xs : List X) (i j : ℕ) (x : X) → slice_get xs i ≡ Some x → i + j + 1 ≡ length xs → slice_get (reverse xs) j ≡ Some x
get_reversed xs i j x e w =
    let n = length-reverse xs in
    let back : length xs - 1 - j ≡ i = omega (arith, w) in
    slice_get-get_or (reverse xs) j x (omega (arith, w, n)) ∙ ap Some (get_or-reverse xs j x (omega (arith, w)) ∙ ap (λ k. get_or xs k x) back ∙ get_or_from_slice_get xs i x x e)

-- the last part
pub last_stands : (I : Assignment) (es : List Parts) (cs : List Constraint) (env : ℕ) (xs : Parts) (q : Part) → environment_in es env ≡ xs ++ q ∷ []
    → StandsAt (formula_at I es cs) I (Environment env) q
last_stands I es cs env xs q e n = ap (option_and_then (λ x. slice_get (part_under I x) n)) here
  where
    here : part_before (environment_in es env) 0 ≡ Some q
    here = ap (λ l. slice_get (reverse l) 0) e ∙ ap (λ l. slice_get l 0) (reverse-append xs (q ∷ []))

constraint_there : (es : List Parts) (is : List code.Implication) (at : ℕ) (item : code.Implication) → Some item ≡ slice_get is at
    → slice_get (map constraint_of (map (implication_view es) is)) at ≡ Some (constraint_of (implication_view es item))
constraint_there es is at item e = get_mapped constraint_of (map (implication_view es) is) at (implication_view es item) (get_mapped (implication_view es) is at item (sym e))

pub goal_stands : (I : Assignment) (es : List Parts) (is : List code.Implication) (at : ℕ) (item : code.Implication) → Some item ≡ slice_get is at
    → StandsAt (formula_at I es (map constraint_of (map (implication_view es) is))) I (Goal at) (part_view item.goal)
goal_stands I es is at item e n = ap (λ o. option_and_then (λ x. slice_get (part_under I x) n) (option_map (λ (c : Constraint). c.goal) o)) (constraint_there es is at item e)

pub left_stands : (I : Assignment) (es : List Parts) (is : List code.Implication) (at : ℕ) (item : code.Implication) → Some item ≡ slice_get is at
    → StandAtLeft (formula_at I es (map constraint_of (map (implication_view es) is))) I at (parts_view item.left)
left_stands I es is at item e = λ i behind q h w n.
    let hs = environment_in es item.env in
    let left = parts_view item.left in
    let here : part_before (hs ++ left) behind ≡ Some q
    = ap (λ l. slice_get l behind) (reverse-append hs left) ∙ get_front (reverse left) (reverse hs) behind q (get_reversed left i behind q h w) in
    ap (λ o. option_and_then (λ x. slice_get (part_under I x) n) (option_and_then (λ (c : Constraint). part_before c.hypotheses behind) o)) (constraint_there es is at item e)
    ∙ ap (option_and_then (λ x. slice_get (part_under I x) n)) here
