-- The unknowns of a matrix.
use Rattle.std.specs.Prelude.{ℕ, suc, ◌+◌, cond, List, [], ◌∷◌, ◌++◌, length}
use Rattle.lq_refined_instances.specs.Scopes.{Scope}
use Rattle.lq_refined_types.specs.Parts.Part.{Parts, unknown}
use Rattle.lq_refined_types.specs.Types.Refined.{Matrix}
use Rattle.lq_refined_types.specs.Types.Unfolding.{is_again}
use Rattle.lq_text_qualifiers.specs.Faults.Shapes.{Shape, int, bool, array, data_of, other, shape_of}
use Rattle.lq_refined_types.specs.Subtyping.Subtype.{fields_of}
use Rattle.lq_refined_templates.specs.Templates.Scopes.{Unknown, with_position}
use Rattle.lq_text_tree.specs.MlType.{MlTypes, no_types, more_types}
use Rattle.lq_text_tree.specs.Types.{Signature, count_types, put, type_at}

-- parts with nothing but the unknown of this number
abbrev pub one_unknown : ℕ → Parts
one_unknown n = unknown n [] ∷ []

-- The fields of a constructor from the one behind the first j on, those aside that are the datatype again: what an entry of its matrix may
-- speak of.
abbrev pub field_scope : ℕ → MlTypes → ℕ → MlTypes → Scope → Scope
field_scope d us j no_types Γ = Γ
field_scope d us j (more_types f fs) Γ =
    field_scope d us (suc j) fs (cond (is_again d (count_types us) f) Γ (with_position j (shape_of (put (type_at us) f)) Γ))

-- entries, and their unknowns in the order of their numbers
pub record Cells : Type 0 where
  pub matrix : Matrix
  pub unknowns : List Unknown

abbrev pub no_cells : Cells
no_cells = record { matrix = []; unknowns = [] }

abbrev pub cell_for : ℕ → Scope → ℕ → ℕ → ℕ → Shape → Cells
cell_for n Γ c j i s =
    record { matrix = record { constructor = c; field = j; parameter = i; parts = one_unknown n } ∷ []; unknowns = (Γ, s) ∷ [] }

abbrev pub cell_of_shape : ℕ → Scope → ℕ → ℕ → ℕ → Shape → Cells
cell_of_shape n Γ c j i int = cell_for n Γ c j i int
cell_of_shape n Γ c j i bool = cell_for n Γ c j i bool
cell_of_shape n Γ c j i array = cell_for n Γ c j i array
cell_of_shape n Γ c j i (data_of d) = cell_for n Γ c j i (data_of d)
cell_of_shape n Γ c j i other = no_cells

abbrev pub both_cells : Cells → Cells → Cells
both_cells a b = record { matrix = a.matrix ++ b.matrix; unknowns = a.unknowns ++ b.unknowns }

-- of one recursive field: an entry for each parameter from the i-th on whose argument predicates speak of
abbrev pub parameter_cells : ℕ → Scope → ℕ → ℕ → ℕ → MlTypes → Cells
parameter_cells n Γ c j i no_types = no_cells
parameter_cells n Γ c j i (more_types u us) =
    let a = cell_of_shape n Γ c j i (shape_of u) in both_cells a (parameter_cells (n + length a.unknowns) Γ c j (suc i) us)

-- of one constructor: its recursive fields from the j-th on
abbrev pub field_cells : ℕ → Scope → ℕ → ℕ → MlTypes → ℕ → MlTypes → Cells
field_cells n Γ d c us j no_types = no_cells
field_cells n Γ d c us j (more_types f fs) =
    let a = cond (is_again d (count_types us) f) (parameter_cells n Γ c j 0 us) no_cells in both_cells a (field_cells (n + length a.unknowns) Γ d c us (suc j) fs)

-- of a datatype with these arguments: its constructors in the order of their definition
abbrev pub constructor_cells : Signature → ℕ → ℕ → MlTypes → List ℕ → Cells
constructor_cells g n d us [] = no_cells
constructor_cells g n d us (c ∷ cs) =
    let fs = fields_of (g c) in
    let a = field_cells n (field_scope d us 0 fs []) d c us 0 fs in both_cells a (constructor_cells g (n + length a.unknowns) d us cs)
