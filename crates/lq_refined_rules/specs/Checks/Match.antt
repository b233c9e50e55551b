-- The environments of a match's arms.
use Rattle.std.specs.Prelude.{ℕ, suc, Bool, true, false, List, [], ◌∷◌}
use Rattle.lq_refined_types.specs.Parts.Part.{Scopes, parts_by}
use Rattle.lq_refined_types.specs.Parts.Substitution.{Swap, of_sum, swap, Subst}
use Rattle.lq_logic_predicates.specs.Sum.{var}
use Rattle.lq_logic_predicates.specs.declared.symbol.Symbol.TheVariants.{Value, Position}
use Rattle.lq_refined_types.specs.Types.Context.{Context}
use Rattle.lq_refined_types.specs.Types.Operations.{atom_of, symbol_of}
use Rattle.lq_refined_types.specs.Types.Refined.{Refined, data_with, Refineds, kind, top, components_of, arguments_of, matrix_of, with_top}
use Rattle.lq_refined_types.specs.Types.Unfolding.{unfolded}
use Rattle.lq_refined_types.specs.Subtyping.Splitting.{first_of, rest_of}
use Rattle.lq_refined_types.specs.Subtyping.Subtype.{fields_of, with_guards}
use Rattle.lq_refined_rules.specs.Checks.Basis.{Basis}
use Rattle.lq_refined_rules.specs.Checks.Operation.{datatype_of, equations_by, bind}
use Rattle.lq_refined_rules.specs.Checks.Pure.{type_of_use, variable_type}
use Rattle.lq_refined_rules.specs.Checks.Tree.{Use, Pattern, pattern_any, pattern_name, pattern_unit, pattern_tuple, pattern_build}

abbrev pub is_datatype : Refined → Bool
is_datatype (data_with d ts m p) = true
is_datatype _ = false

-- a name for the position behind the first j
abbrev pub name_for : ℕ → ℕ → Refined → Swap
name_for j x t = swap (Position (suc j)) (atom_of (kind t) (symbol_of x))

abbrev pub names_for : ℕ → List ℕ → Refineds → Subst
names_for j [] ts = []
names_for j (x ∷ xs) ts = name_for j x (first_of ts) ∷ names_for (suc j) xs (rest_of ts)

abbrev pub bind_all : List ℕ → Refineds → Context → Context
bind_all [] ts Γ = Γ
bind_all (x ∷ xs) ts Γ = bind_all xs (rest_of ts) (bind x (first_of ts) Γ)

-- the components from the one behind the first j on, with the names of earlier ones for `#k` in their tops
abbrev pub bind_components : Scopes → Subst → ℕ → List ℕ → Refineds → Context → Context
bind_components scopes θ j [] ts Γ = Γ
bind_components scopes θ j (x ∷ xs) ts Γ =
    let t = first_of ts in
    bind_components scopes (name_for j x t ∷ θ) (suc j) xs (rest_of ts) (bind x (with_top (parts_by scopes θ (top t)) t) Γ)

-- a name for `v`
abbrev pub value_as : ℕ → Swap
value_as x = swap Value (of_sum (var (symbol_of x)))

module _ (P : Basis) (Γ : Context) (x : ℕ) (t : Refined) where
  -- the fields of a constructor whose value has the type t, with something put for `#k`
  abbrev pub fields_by : ℕ → Subst → Refineds
  fields_by c θ =
      unfolded P.setting.scopes θ (datatype_of t) (arguments_of t) (matrix_of t) c (fields_of (P.setting.constructors c))

  -- the fields by their names, then the constructor's equations of x
  abbrev pub build_context : ℕ → List ℕ → Context
  build_context c xs =
      let θ = names_for 0 xs (fields_by c []) in
      with_guards (equations_by P c (value_as x ∷ θ)) (bind_all xs (fields_by c θ) Γ)

  -- of an arm of a match on the variable x, which has the type t
  abbrev pub arm_context : Pattern → Context
  arm_context pattern_any = Γ
  arm_context (pattern_name y) = bind y (variable_type P.setting.scopes x t) Γ
  arm_context pattern_unit = Γ
  arm_context (pattern_tuple ys) = bind_components P.setting.scopes [] 0 ys (components_of t) Γ
  arm_context (pattern_build c ys) = build_context c ys

-- ---- of a match on a use of a variable

-- the type of the match's variable is a datatype
abbrev pub is_data_match : Basis → Context → Use → Bool
is_data_match P Γ u = is_datatype (type_of_use P Γ u)

-- the constructors of the match's variable, in the order of their definition
abbrev pub matched_constructors : Basis → Context → Use → List ℕ
matched_constructors P Γ u = P.constructors_of (datatype_of (type_of_use P Γ u))

abbrev pub in_arm : Basis → Context → Use → Pattern → Context
in_arm P Γ u q = arm_context P Γ u.name (type_of_use P Γ u) q

-- in which a constructor that no arm names is to be impossible: its equations of the variable, with `#k` for its fields
abbrev pub missing_context : Basis → Context → Use → ℕ → Context
missing_context P Γ u c = with_guards (equations_by P c (value_as u.name ∷ [])) Γ
