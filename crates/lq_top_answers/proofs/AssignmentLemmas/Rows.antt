-- Rows of types under an assignment.
use Rattle.std.proofs.Common.{◌≡◌, ℕ, ◌+◌, ◌<◌, List, [], ◌∷◌, ◌++◌, All, get_or, length, map, take, refl, sym, ap, ap₂, ◌∙◌}
use Rattle.std.proofs.lemmas.List.{map_push, take_more}
use Rattle.std.proofs.lemmas.List.Elements.{All-head, All-tail}
use Rattle.lq_refined_types.specs.Parts.Assignment.{Assignment}
use Rattle.lq_refined_types.specs.Parts.Part.{Scopes}
use Rattle.lq_refined_types.specs.Types.Operations.{all_under, under}
use Rattle.lq_refined_types.specs.Types.Refined.{Refined, more}
use Rattle.lq_refined_subtyping.specs.declared.table.table.Row.{Row}
use Rattle.lq_refined_subtyping.specs.Table.Forms.{at, each, row_of}
use Rattle.lq_refined_subtyping.specs.Table.Growing.{extends-at}
use Rattle.lq_refined_subtyping.specs.Table.Rows.{grown, Extends}

pub map-grown : (scopes : Scopes) (old new : List Row) (is : List ℕ) → Extends old new → All (λ p. p < length old) is
    → map (at (grown scopes [] new)) is ≡ map (at (grown scopes [] old)) is
map-grown scopes old new [] e h = refl
map-grown scopes old new (i ∷ is) e h =
    ap₂ (λ t ts. t ∷ ts) (extends-at scopes old new i e (All-head (λ p. p < length old) i is h))
    (map-grown scopes old new is e (All-tail (λ p. p < length old) i is h))

-- one more type behind those that were made
pub made-more : (F : ℕ → Refined) (now : List Refined) (made longer types : List ℕ) (i x d : ℕ) → map (at now) made ≡ map F (take i types)
    → longer ≡ made ++ x ∷ [] → at now x ≡ F (get_or types i d) → i < length types → map (at now) longer ≡ map F (take (i + 1) types)
made-more F now made longer types i x d h e v l =
    ap (map (at now)) e ∙ map_push (at now) made x ∙ ap₂ (λ ts t. ts ++ t ∷ []) h v
    ∙ sym (ap (map F) (take_more types i d l) ∙ map_push F (take i types) (get_or types i d))

pub each-under : (A : Assignment) (all : List Refined) (ps : List ℕ) → row_of (map (λ p. under A (at all p)) ps) ≡ all_under A (each all ps)
each-under A all [] = refl
each-under A all (p ∷ ps) = ap (more (under A (at all p))) (each-under A all ps)
