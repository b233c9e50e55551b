-- What holds of fresh templates.
use Rattle.std.specs.Prelude.{◌≡◌, ℕ, suc, zero, List, [], ◌∷◌, ◌++◌, length, Option}
use Rattle.lq_refined_instances.specs.Scopes.{Scope}
use Rattle.lq_refined_types.specs.Parts.Part.{known, unknown, Parts}
use Rattle.lq_refined_types.specs.Types.Refined.{Matrix, Refined, int_with, bool_with, unit_type, function, tuple_of, array_with, data_with, map_with, type_variable, Refineds, none, more, erased}
use Rattle.lq_refined_templates.specs.Templates.Fresh.{fresh}
use Rattle.lq_text_tree.specs.MlType.{MlType}
use Rattle.lq_text_tree.specs.Types.{Signature}

-- a template has the type that it was made for
abbrev pub TemplatesErase : Type 0
TemplatesErase = (g : Signature) (constructors : ℕ → List ℕ) (n : ℕ) (Γ : Scope) (xs : List (Option ℕ)) (t : MlType) → erased (fresh g constructors n Γ xs t).type ≡ t

-- the numbers of unknowns of parts, of a matrix and of a type, in the order in which they stand: what is inside, the matrix, the top
abbrev pub part_unknowns : Parts → List ℕ
part_unknowns [] = []
part_unknowns (known p ∷ ps) = part_unknowns ps
part_unknowns (unknown u σ ∷ ps) = u ∷ part_unknowns ps

abbrev pub matrix_unknowns : Matrix → List ℕ
matrix_unknowns [] = []
matrix_unknowns (e ∷ m) = part_unknowns e.parts ++ matrix_unknowns m

abbrev mutual
  pub type_unknowns : Refined → List ℕ
  type_unknowns (int_with p) = part_unknowns p
  type_unknowns (bool_with p) = part_unknowns p
  type_unknowns unit_type = []
  type_unknowns (function x a b) = type_unknowns a ++ type_unknowns b
  type_unknowns (tuple_of ts) = types_unknowns ts
  type_unknowns (array_with e p) = type_unknowns e ++ part_unknowns p
  type_unknowns (data_with d ts m p) = types_unknowns ts ++ (matrix_unknowns m ++ part_unknowns p)
  type_unknowns (map_with e p) = type_unknowns e ++ part_unknowns p
  type_unknowns (type_variable i) = []

  pub types_unknowns : Refineds → List ℕ
  types_unknowns none = []
  types_unknowns (more t ts) = type_unknowns t ++ types_unknowns ts

-- so many numbers from n on
abbrev pub numbers_from : ℕ → ℕ → List ℕ
numbers_from n zero = []
numbers_from n (suc k) = n ∷ numbers_from (suc n) k

-- the unknowns of a template have the numbers from the first one on, in the order of its list
abbrev pub TemplatesNumber : Type 0
TemplatesNumber =
    (g : Signature) (constructors : ℕ → List ℕ) (n : ℕ) (Γ : Scope) (xs : List (Option ℕ)) (t : MlType)
    → type_unknowns (fresh g constructors n Γ xs t).type ≡ numbers_from n (length (fresh g constructors n Γ xs t).unknowns)
