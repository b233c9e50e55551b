-- Types under an assignment, one more at a time.
use Rattle.std.proofs.Common.{◌≡◌, ℕ, ◌+◌, ◌<◌, List, [], ◌∷◌, ◌++◌, get_or, length, map, take, refl, sym, ap, ap₂, ◌∙◌}
use Rattle.std.proofs.lemmas.List.{map_push, take_more}
use Rattle.lq_refined_types.specs.Parts.Assignment.{Assignment}
use Rattle.lq_refined_types.specs.Types.Operations.{all_under, under}
use Rattle.lq_refined_types.specs.Types.Refined.{Refined, more}
use Rattle.lq_refined_subtyping.specs.Table.Forms.{at, each, row_of}
use Rattle.lq_top_answers.specs.TypeText.ShownView.{shown_view}
use Rattle.lq_top_answers.specs.declared.type_text.tree.Shown.{Shown}

pub shown-more : (F : ℕ → Refined) (made longer : List Shown) (types : List ℕ) (i : ℕ) (x : Shown) (d : ℕ) → map shown_view made ≡ map F (take i types)
    → longer ≡ made ++ x ∷ [] → shown_view x ≡ F (get_or types i d) → i < length types → map shown_view longer ≡ map F (take (i + 1) types)
shown-more F made longer types i x d h e v l =
    ap (map shown_view) e ∙ map_push shown_view made x ∙ ap₂ (λ ts t. ts ++ t ∷ []) h v
    ∙ sym (ap (map F) (take_more types i d l) ∙ map_push F (take i types) (get_or types i d))

pub each-under : (A : Assignment) (all : List Refined) (ps : List ℕ) → row_of (map (λ p. under A (at all p)) ps) ≡ all_under A (each all ps)
each-under A all [] = refl
each-under A all (p ∷ ps) = ap (more (under A (at all p))) (each-under A all ps)
