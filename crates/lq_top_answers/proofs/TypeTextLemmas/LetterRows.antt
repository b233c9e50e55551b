-- The letters of a row of types, one more at a time.
use Rattle.std.proofs.Common.{◌≡◌, ℕ, List, [], ◌∷◌, ◌++◌, refl}
use Rattle.lq_refined_types.specs.Types.Refined.{Refined}
use Rattle.lq_refined_subtyping.specs.Table.Forms.{row_of}
use Rattle.lq_top_answers.specs.TypeText.Letters.{seen_in, seen_in_all}

pub seen_in_all-push : (seen : List ℕ) (ts : List Refined) (t : Refined) → seen_in_all seen (row_of (ts ++ t ∷ [])) ≡ seen_in (seen_in_all seen (row_of ts)) t
seen_in_all-push seen [] t = refl
seen_in_all-push seen (u ∷ us) t = seen_in_all-push (seen_in seen u) us t
