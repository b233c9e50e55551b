-- What a program is checked over, where it stands in memory.
use Rattle.std.specs.Prelude.{◌≡◌, ℕ, ◌<◌, List, [], All, map, slice_index_or}
use Rattle.std.specs.Global.{Vec}
use Rattle.lq_refined_rules.specs.Checks.Basis as checks
use Rattle.lq_base_names.specs.declared.name.Name.{Name}
use Rattle.lq_refined_types.specs.Parts.Part.{Scopes}
use Rattle.lq_logic_predicates.specs.PredView.{formula_of}
use Rattle.lq_logic_predicates.specs.declared.pred.Pred.{Pred}
use Rattle.lq_refined_types.specs.Types.Refined.{Refined, Refineds}
use Rattle.lq_refined_subtyping.specs.Table.Forms.{each}
use Rattle.lq_refined_subtyping.specs.Table.Whole.{types_of}
use Rattle.lq_refined_subtyping.specs.declared.table.table.RefinedTypes.{RefinedTypes}
use Rattle.lq_refined_subtyping.specs.Split.Fields.{AreThere, KnowsFields}
use Rattle.lq_refined_substitution.specs.Substitution.Views.{scopes_view}
use Rattle.lq_refined_types.specs.Subtyping.Splitting.{first_of}
use Rattle.lq_generate_operations.specs.declared.basis.basis.Basis.{Basis}
use Rattle.lq_generate_operations.specs.declared.basis.basis.Declared.{Declared}

-- the row of this number
abbrev pub items_at : {A : Type 0} → List (Vec A) → ℕ → List A
items_at rows i = slice_index_or (map (λ row. row.items) rows) i []

-- the constructors of the datatype of this number
abbrev pub names_at : Declared → ℕ → List Name
names_at D d = items_at D.constructors.items d

abbrev pub constructors_at : Declared → ℕ → List ℕ
constructors_at D d = map (λ n. n.0) (names_at D d)

-- the equations of the constructor of this number
abbrev pub equations_at : Declared → ℕ → List Pred
equations_at D c = items_at D.equations.items c

-- the rows of the point of this number
abbrev pub rows_at : List (Vec ℕ) → ℕ → List ℕ
rows_at rows p = items_at rows p

-- the types of its rows, and that of the first one; unit where there is none
abbrev pub arguments_at : List Refined → List (Vec ℕ) → ℕ → Refineds
arguments_at all rows p = each all (rows_at rows p)

abbrev pub template_at : List Refined → List (Vec ℕ) → ℕ → Refined
template_at all rows p = first_of (arguments_at all rows p)

abbrev pub scopes_of : Basis → Scopes
scopes_of b = scopes_view b.scopes.now

-- the types where the unknowns have the scopes of the basis
abbrev pub types_in : Basis → RefinedTypes → List Refined
types_in b types = types_of (scopes_of b) types

-- what a basis of the rules is where it stands in memory so
pub record Stands (P : checks.Basis) (b : Basis) (types : RefinedTypes) : Type 0 where
  pub scopes : P.setting.scopes ≡ scopes_of b
  pub fields : KnowsFields (types_in b types) b.fields.now P.setting.constructors
  pub constructors : (d : ℕ) → constructors_at b.declared.now d ≡ P.constructors_of d
  pub equations : (c : ℕ) → map formula_of (equations_at b.declared.now c) ≡ P.equations c
  pub template : (p : ℕ) → template_at (types_in b types) b.templates.now p ≡ P.template p
  pub type_arguments : (i : ℕ) → arguments_at (types_in b types) b.templates.now i ≡ P.type_arguments i

-- its types are those of so many numbers
pub record IsThere (n : ℕ) (b : Basis) : Type 0 where
  pub fields : AreThere n b.fields.now
  pub templates : (p : ℕ) → All (λ r. r < n) (rows_at b.templates.now p)
