-- What a matrix needs to know of the fields of constructors, and the unknowns of a matrix by that.
use Rattle.std.specs.Prelude.{◌≡◌, ℕ, suc, ◌+◌, Bool, false, ◌==◌, ◌||◌, cond, List, [], ◌∷◌, length, slice_index_or}
use Rattle.lq_refined_instances.specs.Scopes.{Scope}
use Rattle.lq_refined_types.specs.Types.Unfolding.{is_again}
use Rattle.lq_text_qualifiers.specs.Faults.Shapes.{Shape, data_of, other, shape_of}
use Rattle.lq_refined_types.specs.Subtyping.Subtype.{fields_of}
use Rattle.lq_refined_templates.specs.Templates.Cells.{Cells, both_cells, cell_of_shape, no_cells}
use Rattle.lq_refined_templates.specs.Templates.Scopes.{with_position}
use Rattle.lq_text_tree.specs.MlType.{MlType, MlTypes, no_types, more_types}
use Rattle.lq_text_tree.specs.Types.{Signature, put, type_at}

-- The datatype with the first so many parameters in their order; a type of this shape, whatever the parameters are; a parameter.
pub data Field : Type 0 where
  again : ℕ → Field
  shaped : Shape → Field
  parameter : ℕ → Field

-- where the datatype has so many arguments
abbrev pub is_field_again : ℕ → Field → Bool
is_field_again n (again m) = m == n
is_field_again n (shaped s) = false
is_field_again n (parameter i) = false

abbrev pub any_again : ℕ → List Field → Bool
any_again n [] = false
any_again n (x ∷ xs) = is_field_again n x || any_again n xs

-- where the arguments have these shapes
abbrev pub shape_in : ℕ → List Shape → Field → Shape
shape_in d ss (again m) = data_of d
shape_in d ss (shaped s) = s
shape_in d ss (parameter i) = slice_index_or ss i other

abbrev pub shapes_of : MlTypes → List Shape
shapes_of no_types = []
shapes_of (more_types t ts) = shape_of t ∷ shapes_of ts

-- it is known right of a field of the datatype d that has this type
pub record IsField (d : ℕ) (f : MlType) (x : Field) : Type 0 where
  pub again : (n : ℕ) → is_again d n f ≡ is_field_again n x
  pub shape : (us : MlTypes) → shape_of (put (type_at us) f) ≡ shape_in d (shapes_of us) x

abbrev pub AreFields : ℕ → MlTypes → List Field → Type 0
AreFields d no_types [] = Unit {0}
AreFields d (more_types f fs) (x ∷ xs) = IsField d f x × AreFields d fs xs
AreFields d no_types (x ∷ xs) = ⊥
AreFields d (more_types f fs) [] = ⊥

-- constructors with their fields, in their order
abbrev pub AreConstructors : Signature → ℕ → List ℕ → List (ℕ × List Field) → Type 0
AreConstructors g d [] [] = Unit {0}
AreConstructors g d (c ∷ cs) (k ∷ ks) = (k.0 ≡ c) × AreFields d (fields_of (g c)) k.1 × AreConstructors g d cs ks
AreConstructors g d [] (k ∷ ks) = ⊥
AreConstructors g d (c ∷ cs) [] = ⊥

-- ---- the unknowns of a matrix, where the arguments have the shapes ss

abbrev pub scope_of_fields : ℕ → List Shape → ℕ → List Field → Scope → Scope
scope_of_fields d ss j [] Γ = Γ
scope_of_fields d ss j (x ∷ xs) Γ =
    scope_of_fields d ss (suc j) xs (cond (is_field_again (length ss) x) Γ (with_position j (shape_in d ss x) Γ))

abbrev pub cells_of_parameters : ℕ → Scope → ℕ → ℕ → ℕ → List Shape → Cells
cells_of_parameters n Γ c j i [] = no_cells
cells_of_parameters n Γ c j i (s ∷ ss) =
    let a = cell_of_shape n Γ c j i s in both_cells a (cells_of_parameters (n + length a.unknowns) Γ c j (suc i) ss)

abbrev pub cells_of_field : ℕ → Scope → ℕ → List Shape → ℕ → Field → Cells
cells_of_field n Γ c ss j x = cond (is_field_again (length ss) x) (cells_of_parameters n Γ c j 0 ss) no_cells

abbrev pub cells_of_fields : ℕ → Scope → ℕ → List Shape → ℕ → List Field → Cells
cells_of_fields n Γ c ss j [] = no_cells
cells_of_fields n Γ c ss j (x ∷ xs) =
    let a = cells_of_field n Γ c ss j x in both_cells a (cells_of_fields (n + length a.unknowns) Γ c ss (suc j) xs)

abbrev pub cells_of_constructors : ℕ → ℕ → List Shape → List (ℕ × List Field) → Cells
cells_of_constructors n d ss [] = no_cells
cells_of_constructors n d ss (k ∷ ks) =
    let a = cells_of_fields n (scope_of_fields d ss 0 k.1 []) k.0 ss 0 k.1 in
    both_cells a (cells_of_constructors (n + length a.unknowns) d ss ks)
