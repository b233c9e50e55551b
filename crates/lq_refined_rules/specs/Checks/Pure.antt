-- What pure expressions are in predicates, and the types that they have.
use Rattle.std.specs.Prelude.{ℕ, suc, pos, true, false, List, [], ◌∷◌, Option, Some, None}
use Rattle.lq_refined_types.specs.Parts.Part.{Scopes}
use Rattle.lq_refined_types.specs.Parts.Substitution.{Atom, of_sum, of_formula, swap, Subst}
use Rattle.lq_logic_predicates.specs.Formula as f
use Rattle.lq_logic_predicates.specs.Sum as s
use Rattle.lq_logic_predicates.specs.declared.symbol.Symbol.TheVariants.{Position}
use Rattle.lq_refined_types.specs.Types.Context.{Context, type_in}
use Rattle.lq_refined_types.specs.Types.Operations.{instantiated, symbol_of, atom_of, self_type, twin}
use Rattle.lq_refined_types.specs.Types.Refined.{Refined, int_with, bool_with, unit_type, Refineds, none, more, Kind, number, truth_value, object, other, kind}
use Rattle.lq_refined_rules.specs.Checks.Basis.{Basis}
use Rattle.lq_refined_rules.specs.Checks.Tree.{Use, Pure, whole, flag, unit, use_of, negated, add, subtract, multiply, length_of, compare, not_of, and_of, or_of}

abbrev pub literal : ℕ → s.Sum
literal n = s.whole (pos n)

-- as a number or an object, and as a truth value
abbrev pub sum_of : Pure → s.Sum
sum_of (whole n) = s.whole n
sum_of (use_of u) = s.var (symbol_of u.name)
sum_of (negated a) = s.neg (sum_of a)
sum_of (add a b) = s.add (sum_of a) (sum_of b)
sum_of (subtract a b) = s.sub (sum_of a) (sum_of b)
sum_of (multiply a b) = s.mul (sum_of a) (sum_of b)
sum_of (length_of a) = s.len (sum_of a)
sum_of _ = literal 0

abbrev pub formula_of : Pure → f.Formula
formula_of (flag true) = f.truth
formula_of (flag false) = f.falsity
formula_of (use_of u) = f.flag (symbol_of u.name)
formula_of (compare o a b) = f.compare o (sum_of a) (sum_of b)
formula_of (not_of p) = f.negation (formula_of p)
formula_of (and_of p q) = f.conjunction (formula_of p) (formula_of q)
formula_of (or_of p q) = f.disjunction (formula_of p) (formula_of q)
formula_of _ = f.truth

-- `{v = t}` and `{v <=> p}`
abbrev pub number_type : Pure → Refined
number_type e = self_type (int_with []) (of_sum (sum_of e))

abbrev pub truth_type : Pure → Refined
truth_type e = self_type (bool_with []) (of_formula (formula_of e))

-- The type of a variable, by its type in the environment: that its value is the variable, where it is a number, a truth value or an object;
-- else its type with twins.
abbrev pub variable_by : Scopes → Kind → ℕ → Refined → Refined
variable_by scopes number x t = self_type t (atom_of number (symbol_of x))
variable_by scopes truth_value x t = self_type t (atom_of truth_value (symbol_of x))
variable_by scopes object x t = self_type t (atom_of object (symbol_of x))
variable_by scopes other x t = twin scopes t

abbrev pub variable_type : Scopes → ℕ → Refined → Refined
variable_type scopes x t = variable_by scopes (kind t) x t

-- what stands for an expression of a kind
abbrev pub atom_by : Kind → Pure → Atom
atom_by number e = of_sum (sum_of e)
atom_by truth_value e = of_formula (formula_of e)
atom_by object e = of_sum (sum_of e)
atom_by other e = of_sum (sum_of e)

module _ (P : Basis) (Γ : Context) where
  -- the type of the name in the environment, in which the use of a generalised name has types for its variables
  abbrev pub instance_of : Option ℕ → Refined → Refined
  instance_of None t = t
  instance_of (Some i) t = instantiated (P.type_arguments i) t

  abbrev pub type_of_use : Use → Refined
  type_of_use u = instance_of u.type_arguments (type_in Γ (symbol_of u.name))

  abbrev pub pure_type : Pure → Refined
  pure_type (whole n) = number_type (whole n)
  pure_type (flag b) = truth_type (flag b)
  pure_type unit = unit_type
  pure_type (use_of u) = variable_type P.setting.scopes u.name (type_of_use u)
  pure_type (negated a) = number_type (negated a)
  pure_type (add a b) = number_type (add a b)
  pure_type (subtract a b) = number_type (subtract a b)
  pure_type (multiply a b) = number_type (multiply a b)
  pure_type (length_of a) = number_type (length_of a)
  pure_type (compare o a b) = truth_type (compare o a b)
  pure_type (not_of a) = truth_type (not_of a)
  pure_type (and_of a b) = truth_type (and_of a b)
  pure_type (or_of a b) = truth_type (or_of a b)

  abbrev pub pure_types : List Pure → Refineds
  pure_types [] = none
  pure_types (e ∷ es) = more (pure_type e) (pure_types es)

  abbrev pub pure_atom : Pure → Atom
  pure_atom e = atom_by (kind (pure_type e)) e

  -- expressions for `#k`, from the one behind the first j on
  abbrev pub operands_for : ℕ → List Pure → Subst
  operands_for j [] = []
  operands_for j (e ∷ es) = swap (Position (suc j)) (pure_atom e) ∷ operands_for (suc j) es
