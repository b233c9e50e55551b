-- The types inside a type are smaller.
use Rattle.std.proofs.Common.{◌≡◌, ℕ, zero, suc, ◌<◌, List, [], ◌∷◌, get_or, length, refl, arith}
use Rattle.lq_refined_types.specs.Parts.Part.{Parts}
use Rattle.lq_refined_types.specs.Types.Refined.{Refined}
use Rattle.lq_refined_subtyping.specs.declared.table.forms.Form.{Form}
use Rattle.lq_refined_subtyping.specs.declared.table.forms.Form.TheVariants as form
use Rattle.lq_refined_subtyping.specs.Table.Forms.{at, each, form_type}
use Rattle.lq_top_answers.specs.Assignment.Sizes.{size, row_size}

pub size-inside : (all : List Refined) (ps : List ℕ) (i d : ℕ) → i < length ps → size (at all (get_or ps i d)) < row_size (each all ps)
size-inside all [] i d h = absurd (omega arith)
size-inside all (p ∷ ps) zero d h = omega arith
size-inside all (p ∷ ps) (suc i) d h = let k = size-inside all ps i d (omega arith) in omega arith
