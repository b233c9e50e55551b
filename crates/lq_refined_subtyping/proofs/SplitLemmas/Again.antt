-- When a field without refinements is the datatype again.
use Rattle.std.proofs.Common.{◌≡◌, ℕ, zero, suc, ◌+◌, ◌<◌, Bool, true, false, ◌&&◌, ◌==◌, List, [], ◌∷◌, drop, get_or, length, map, refl, sym, ap, ap₂, ◌∙◌}
use Rattle.std.proofs.Math.Dec.{eqb-suc-suc, eqb-suc-zero, eqb-zero-suc}
use Rattle.std.proofs.Math.Numerals.{add-one}
use Rattle.std.proofs.Math.Seq.{drop-cons}
use Rattle.std.proofs.lemmas.Bool.{eq-eqb, ne_eqb}
use Rattle.lq_text_tree.specs.MlType as ml
use Rattle.lq_text_tree.specs.MlType.{MlType, MlTypes}
use Rattle.lq_refined_types.specs.Parts.Part.{Parts}
use Rattle.lq_refined_types.specs.Types.Refined.{Matrix, Refined, data_with, count}
use Rattle.lq_refined_types.specs.Types.Unfolding.{are_parameters, is_again}
use Rattle.lq_refined_subtyping.specs.Table.Forms.{at, each}
use Rattle.lq_refined_subtyping.specs.Table.Unfolding.{plain, all_plain, AreFields}
use Rattle.lq_refined_subtyping.specs.declared.table.unfolding.Field.{Field}
use Rattle.lq_refined_subtyping.specs.Split.Recursive.{again, are_variables, is_variable}

and-swap : (a b v : Bool) → (a && (b && v)) ≡ (b && (a && v))
and-swap true true v = refl
and-swap true false v = refl
and-swap false true v = refl
and-swap false false v = refl

and-false : (a : Bool) → (a && false) ≡ false
and-false true = refl
and-false false = refl

not-empty : (m : ℕ) (b : Bool) → (suc m == 0 && b) ≡ false
not-empty m b = ap (λ e. e && b) (eqb-suc-zero m)

no-variable : (m n : ℕ) → (suc m == suc n && false) ≡ false
no-variable m n = and-false (suc m == suc n)

-- the variables from this one on, of which there are so many
parameters-plain : (i n : ℕ) (ts : MlTypes) → (count (all_plain ts) == n && are_variables i (all_plain ts)) ≡ are_parameters i n ts
parameters-plain i zero ml.no_types = refl
parameters-plain i (suc n) ml.no_types = ap (λ e. e && true) (eqb-zero-suc n)
parameters-plain i zero (ml.more_types ml.int ts) = not-empty (count (all_plain ts)) false
parameters-plain i zero (ml.more_types ml.bool ts) = not-empty (count (all_plain ts)) false
parameters-plain i zero (ml.more_types ml.unit ts) = not-empty (count (all_plain ts)) false
parameters-plain i zero (ml.more_types (ml.arrow a b) ts) = not-empty (count (all_plain ts)) false
parameters-plain i zero (ml.more_types (ml.tuple us) ts) = not-empty (count (all_plain ts)) false
parameters-plain i zero (ml.more_types (ml.array a) ts) = not-empty (count (all_plain ts)) false
parameters-plain i zero (ml.more_types (ml.named d us) ts) = not-empty (count (all_plain ts)) false
parameters-plain i zero (ml.more_types (ml.map_of a) ts) = not-empty (count (all_plain ts)) false
parameters-plain i zero (ml.more_types (ml.var j) ts) = not-empty (count (all_plain ts)) (i == j && are_variables (suc i) (all_plain ts))
parameters-plain i (suc n) (ml.more_types ml.int ts) = no-variable (count (all_plain ts)) n
parameters-plain i (suc n) (ml.more_types ml.bool ts) = no-variable (count (all_plain ts)) n
parameters-plain i (suc n) (ml.more_types ml.unit ts) = no-variable (count (all_plain ts)) n
parameters-plain i (suc n) (ml.more_types (ml.arrow a b) ts) = no-variable (count (all_plain ts)) n
parameters-plain i (suc n) (ml.more_types (ml.tuple us) ts) = no-variable (count (all_plain ts)) n
parameters-plain i (suc n) (ml.more_types (ml.array a) ts) = no-variable (count (all_plain ts)) n
parameters-plain i (suc n) (ml.more_types (ml.named d us) ts) = no-variable (count (all_plain ts)) n
parameters-plain i (suc n) (ml.more_types (ml.map_of a) ts) = no-variable (count (all_plain ts)) n
parameters-plain i (suc n) (ml.more_types (ml.var j) ts) =
    ap (λ e. e && (i == j && are_variables (suc i) (all_plain ts))) (eqb-suc-suc (count (all_plain ts)) n)
    ∙ and-swap (count (all_plain ts) == n) (i == j) (are_variables (suc i) (all_plain ts)) ∙ ap (λ b. i == j && b) (parameters-plain (suc i) n ts)

again-plain : (d n : ℕ) (f : MlType) → again d n (plain f) ≡ is_again d n f
again-plain d n ml.int = refl
again-plain d n ml.bool = refl
again-plain d n ml.unit = refl
again-plain d n (ml.var i) = refl
again-plain d n (ml.arrow a b) = refl
again-plain d n (ml.tuple ts) = refl
again-plain d n (ml.array a) = refl
again-plain d n (ml.named e ts) = ap (λ b. d == e && b) (parameters-plain 0 n ts)
again-plain d n (ml.map_of a) = refl

-- the field of this number
abbrev pub field_at : List Refined → ℕ → ℕ → ℕ → Field
field_at all d n p = record { plain = p; is_again = again d n (at all p) }

pub are-fields : (all now : List Refined) (d n : ℕ) (ps : List ℕ) (fs : MlTypes) → each all ps ≡ all_plain fs → each now ps ≡ all_plain fs
    → AreFields now d n (map (field_at all d n) ps) fs
are-fields all now d n [] ml.no_types e h = tt
are-fields all now d n [] (ml.more_types f fs) e h = absurd (cc)
are-fields all now d n (p ∷ ps) ml.no_types e h = absurd (cc)
are-fields all now d n (p ∷ ps) (ml.more_types f fs) e h =
    let first : at all p ≡ plain f = cc in
    let rest : each all ps ≡ all_plain fs = cc in
    let first_now : at now p ≡ plain f = cc in
    let rest_now : each now ps ≡ all_plain fs = cc in
    (first_now, ap (again d n) first ∙ again-plain d n f, are-fields all now d n ps fs rest rest_now)

-- ---- the variables of a row, one after another

variables-first : (all : List Refined) (row : List ℕ) (i d : ℕ) → i < length row
    → are_variables i (each all (drop i row)) ≡ (is_variable i (at all (get_or row i d)) && are_variables (i + 1) (each all (drop (i + 1) row)))
variables-first all row i d h =
    ap (λ l. are_variables i (each all l)) (drop-cons row i d h)
    ∙ ap (λ k. is_variable i (at all (get_or row i d)) && are_variables k (each all (drop k row))) (sym (add-one i))

pub variables-no : (all : List Refined) (row : List ℕ) (i d : ℕ) → i < length row → is_variable i (at all (get_or row i d)) ≡ false
    → are_variables i (each all (drop i row)) ≡ false
variables-no all row i d h e = variables-first all row i d h ∙ ap (λ b. b && are_variables (i + 1) (each all (drop (i + 1) row))) e

pub variables-yes : (all : List Refined) (row : List ℕ) (i d : ℕ) → i < length row → is_variable i (at all (get_or row i d)) ≡ true
    → are_variables i (each all (drop i row)) ≡ are_variables (i + 1) (each all (drop (i + 1) row))
variables-yes all row i d h e = variables-first all row i d h ∙ ap (λ b. b && are_variables (i + 1) (each all (drop (i + 1) row))) e

count-each : (all : List Refined) (row : List ℕ) → count (each all row) ≡ length row
count-each all [] = refl
count-each all (p ∷ row) = ap suc (count-each all row)

-- the datatype of this name, with so many arguments
module _ (all : List Refined) (d e n : ℕ) (row : List ℕ) (m : Matrix) (p : Parts) where
  pub again-data : e ≡ d → length row ≡ n → again d n (data_with e (each all row) m p) ≡ are_variables 0 (each all row)
  again-data h k =
      ap₂ (λ x y. x && (y && are_variables 0 (each all row))) (eq-eqb d e (sym h)) (eq-eqb (count (each all row)) n (count-each all row ∙ k))

  pub again-longer : (length row ≡ n → ⊥) → again d n (data_with e (each all row) m p) ≡ false
  again-longer h =
      ap (λ y. d == e && (y && are_variables 0 (each all row))) (ne_eqb (count (each all row)) n (λ k. h (sym (count-each all row) ∙ k)))
      ∙ and-false (d == e)
