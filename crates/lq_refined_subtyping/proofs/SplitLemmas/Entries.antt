-- The implications of the entries of a matrix, one after another.
use Rattle.std.proofs.Common.{◌≡◌, ℕ, ◌+◌, ◌-◌, ◌^◌, ◌<◌, List, [], ◌∷◌, ◌++◌, get_or, length, map, min, take, refl, sym, ap, ap₂, ◌∙◌, append_assoc}
use Rattle.std.proofs.lemmas.List.{append-nil, map_push, take_more}
use Rattle.lq_refined_types.specs.Parts.Part.{Parts}
use Rattle.lq_refined_types.specs.Types.Context.{Context}
use Rattle.lq_refined_types.specs.Types.Refined.{Cell, Matrix, Refineds}
use Rattle.lq_refined_types.specs.Types.Unfolding.{cell}
use Rattle.lq_refined_subtyping.specs.declared.table.forms.Cell as code
use Rattle.lq_refined_subtyping.specs.Table.Forms.{cell_view}
use Rattle.lq_refined_types.specs.Subtyping.Implication.{Origin, Implication, goals}
use Rattle.lq_refined_types.specs.Subtyping.Splitting.{cells}
use Rattle.lq_refined_types.specs.Subtyping.Subtype.{Setting, cell_context, facts}
use Rattle.lq_refined_subtyping.specs.Split.Appending.{IsMore}
use Rattle.lq_refined_subtyping.proofs.SplitLemmas.Appending.{goals-more, more-same}

module _ (P : Setting) (o : Origin) (Γ : Context) (d : ℕ) (ts : Refineds) (m : Matrix) where
  pub cell-more : (before now after : List Implication) (n k j : ℕ) (e : Cell) (hs ls qs : Parts) → now ≡ before → k ≡ n
      → facts P (cell_context P Γ d ts m e) ≡ hs → ls ≡ cell m e.constructor e.field e.parameter → qs ≡ e.parts
      → after ≡ take 262144 (now ++ goals hs ls qs o) → j ≡ min (k + length (goals hs ls qs o)) (2 ^ 64 - 1)
      → IsMore before after n j (cells P o Γ d ts m (e ∷ []))
  cell-more before now after n k j e hs ls qs same same_count h l q a c =
      let all = goals (facts P (cell_context P Γ d ts m e)) (cell m e.constructor e.field e.parameter) e.parts o in
      more-same before after n j all (all ++ []) (sym (append-nil all))
      (goals-more before now after n k j (facts P (cell_context P Γ d ts m e)) hs (cell m e.constructor e.field e.parameter) ls e.parts qs o
      same same_count (sym h) l q a c)

  cells-append : (n : Matrix) (e : Cell) → cells P o Γ d ts m (n ++ e ∷ []) ≡ cells P o Γ d ts m n ++ cells P o Γ d ts m (e ∷ [])
  cells-append [] e = refl
  cells-append (x ∷ n) e =
      let first = goals (facts P (cell_context P Γ d ts m x)) (cell m x.constructor x.field x.parameter) x.parts o in
      ap (λ l. first ++ l) (cells-append n e) ∙ sym (append_assoc first (cells P o Γ d ts m n) (cells P o Γ d ts m (e ∷ [])))

  pub cells-more : (us : Refineds) (all : List code.Cell) (i : ℕ) (x : code.Cell) → us ≡ ts → i < length all → x ≡ get_or all i x
      → cells P o Γ d ts m (map cell_view (take i all)) ++ cells P o Γ d us m (cell_view x ∷ []) ≡ cells P o Γ d ts m (map cell_view (take (i + 1) all))
  cells-more us all i x same h e =
      ap₂ (λ vs y. cells P o Γ d ts m (map cell_view (take i all)) ++ cells P o Γ d vs m (cell_view y ∷ [])) same e
      ∙ sym (cells-append (map cell_view (take i all)) (cell_view (get_or all i x)))
      ∙ ap (cells P o Γ d ts m) (sym (ap (map cell_view) (take_more all i x h) ∙ map_push cell_view (take i all) (get_or all i x)))
