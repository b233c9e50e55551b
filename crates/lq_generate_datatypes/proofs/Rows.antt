-- Rows of types without refinements.
use Rattle.std.proofs.Common.{◌≡◌, ◌∙◌, ℕ, ◌+◌, ◌<◌, List, [], ◌∷◌, ◌++◌, All, length, map, take, slice_get, Some, refl, sym, ap, ap₂, rules}
use Rattle.std.proofs.lemmas.List.{map-append}
use Rattle.std.proofs.lemmas.List.Elements.{All-head, All-tail}
use Rattle.lq_generate_fresh.proofs.FreshLemmas.Known.{found_front}
use Rattle.lq_refined_types.specs.Parts.Part.{Scopes}
use Rattle.lq_refined_types.specs.Types.Refined.{Refined, more}
use Rattle.lq_refined_subtyping.specs.declared.table.table.Row.{Row}
use Rattle.lq_refined_subtyping.specs.Table.Forms.{at, row_of}
use Rattle.lq_refined_subtyping.specs.Table.Growing.{extends-at}
use Rattle.lq_refined_subtyping.specs.Table.Rows.{grown, Extends}
use Rattle.lq_refined_subtyping.specs.Table.Unfolding.{all_plain, plain}
use Rattle.lq_text_tree.specs.MlType.{MlType}
use Rattle.lq_text_tree.specs.SimpleTypeView.{simple_type_view, types_of}
use Rattle.lq_text_tree.specs.MlType as ml
use Rattle.lq_text_tree.specs.declared.simple_type.SimpleType.{SimpleType, Arrow, the_lemmas}

pub map-grown : (scopes : Scopes) (old new : List Row) (is : List ℕ) → Extends old new → All (λ p. p < length old) is
    → map (at (grown scopes [] new)) is ≡ map (at (grown scopes [] old)) is
map-grown scopes old new [] e h = refl
map-grown scopes old new (i ∷ is) e h =
    ap₂ (λ t ts. t ∷ ts) (extends-at scopes old new i e (All-head (λ p. p < length old) i is h))
    (map-grown scopes old new is e (All-tail (λ p. p < length old) i is h))

-- one more row behind those that were made
pub plain-more : (now : List Refined) (made longer : List ℕ) (items : List SimpleType) (i x : ℕ) (t : SimpleType)
    → map (at now) made ≡ map plain (take i (map simple_type_view items)) → longer ≡ made ++ x ∷ [] → slice_get items i ≡ Some t
    → at now x ≡ plain (simple_type_view t) → map (at now) longer ≡ map plain (take (i + 1) (map simple_type_view items))
plain-more now made longer items i x t h e f a =
    ap (map (at now)) e ∙ map-append (at now) made (x ∷ []) ∙ ap₂ (λ l y. l ++ y ∷ []) h a
    ∙ sym (ap (map plain) (found_front simple_type_view items i t f) ∙ map-append plain (take i (map simple_type_view items)) (simple_type_view t ∷ []))

pub rows-plain : (ts : List MlType) → row_of (map plain ts) ≡ all_plain (types_of ts)
rows-plain [] = refl
rows-plain (t ∷ ts) = ap (more (plain t)) (rows-plain ts)

pub arrow-seen : (t : SimpleType) (a b : _) → t ≡ Arrow a b → simple_type_view t ≡ ml.arrow (simple_type_view a.value) (simple_type_view b.value)
arrow-seen t a b e = ap simple_type_view e ∙ search (rules, the_lemmas)
