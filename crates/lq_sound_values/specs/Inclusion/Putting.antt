-- What is put for names, and the values that it has.
use Rattle.std.specs.Prelude.{◌≡◌, ℕ, suc, pos, false, Option, Some, None}
use Rattle.lq_logic_predicates.specs.declared.symbol.Symbol.{Symbol}
use Rattle.lq_logic_predicates.specs.declared.symbol.Symbol.TheVariants as symbol
use Rattle.lq_logic_predicates.specs.Formula.{flag}
use Rattle.lq_logic_predicates.specs.Sum.{same_symbol, var}
use Rattle.lq_logic_predicates.specs.Truth.{object_of, term_value, truth_of}
use Rattle.lq_meaning_steps.specs.Model.Core.{Value}
use Rattle.lq_refined_types.specs.Parts.Substitution.{Atom, of_sum, of_formula, Subst, sum_at, flag_at}
use Rattle.lq_refined_types.specs.Types.Operations.{symbol_of}
use Rattle.lq_refined_types.specs.Types.Refined.{Refined, Refineds, int_with, bool_with, unit_type, function, tuple_of, array_with, data_with, map_with, type_variable, none, more}
use Rattle.lq_sound_values.specs.Inhabitants.Truth.{Givens, value_at, as_number, as_flag, as_object, Objects, meaning_of}
use Rattle.lq_sound_values.specs.Inclusion.Symbols.{other_than, SumOn, FormulaOn}

-- what is put for a symbol has the number, the truth value and the object of the value
abbrev pub StandsFor : Objects → Givens → Atom → Value → Type 0
StandsFor O σ (of_sum t) v =
    (term_value (meaning_of O σ) t ≡ as_number (Some v)) × (as_flag (Some v) ≡ false) × (object_of (meaning_of O σ) t ≡ as_object O (Some v))
StandsFor O σ (of_formula p) v =
    (as_number (Some v) ≡ pos 0) × (truth_of (meaning_of O σ) p ≡ as_flag (Some v)) × (as_object O (Some v) ≡ 0)

-- the substitution puts, under the one values, for each symbol what it has among the others
pub record Stands (O : Objects) (θ : Subst) (σ τ : Givens) : Type 0 where
  pub number : (y : Symbol) → term_value (meaning_of O σ) (sum_at θ y) ≡ as_number (value_at τ y)
  pub holds : (y : Symbol) → truth_of (meaning_of O σ) (flag_at θ y) ≡ as_flag (value_at τ y)
  pub object : (y : Symbol) → object_of (meaning_of O σ) (sum_at θ y) ≡ as_object O (value_at τ y)

-- nothing is put for the symbol, and what is put for others doesn't speak of it
pub record LeavesAlone (θ : Subst) (z : Symbol) : Type 0 where
  pub own_sum : sum_at θ z ≡ var z
  pub own_flag : flag_at θ z ≡ flag z
  pub sums : (y : Symbol) → same_symbol z y ≡ false → SumOn (other_than z) (sum_at θ y)
  pub flags : (y : Symbol) → same_symbol z y ≡ false → FormulaOn (other_than z) (flag_at θ y)

abbrev pub LeavesSome : Subst → Option ℕ → Type 0
LeavesSome θ None = Unit {0}
LeavesSome θ (Some x) = LeavesAlone θ (symbol_of x)

-- the same of each name that a function inside the type has for its argument
abbrev mutual
  pub LeavesNames : Subst → Refined → Type 0
  LeavesNames θ (int_with p) = Unit {0}
  LeavesNames θ (bool_with p) = Unit {0}
  LeavesNames θ unit_type = Unit {0}
  LeavesNames θ (function x A T) = LeavesSome θ x × LeavesNames θ A × LeavesNames θ T
  LeavesNames θ (tuple_of Ts) = LeaveNames θ Ts
  LeavesNames θ (array_with E p) = LeavesNames θ E
  LeavesNames θ (data_with d As M p) = LeaveNames θ As
  LeavesNames θ (map_with E p) = Unit {0}
  LeavesNames θ (type_variable a) = Unit {0}

  pub LeaveNames : Subst → Refineds → Type 0
  LeaveNames θ none = Unit {0}
  LeaveNames θ (more T Ts) = LeavesNames θ T × LeaveNames θ Ts

-- v, the fields and components, and those names
pub record Leaves (θ : Subst) (T : Refined) : Type 0 where
  pub value : LeavesAlone θ symbol.Value
  pub positions : (k : ℕ) → LeavesAlone θ (symbol.Position (suc k))
  pub names : LeavesNames θ T
