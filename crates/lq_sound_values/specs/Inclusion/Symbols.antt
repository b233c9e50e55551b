-- Of which symbols predicates and types speak.
use Rattle.std.specs.Prelude.{◌≡◌, ℕ, suc, Bool, true, not, ◌||◌, List, [], ◌∷◌, Option, Some, None}
use Rattle.lq_logic_predicates.specs.declared.symbol.Symbol.{Symbol}
use Rattle.lq_logic_predicates.specs.declared.symbol.Symbol.TheVariants.{Value, Position}
use Rattle.lq_logic_predicates.specs.Sum.{Sum, whole, var, neg, add, sub, mul, div, rem, len, measure, same_symbol}
use Rattle.lq_logic_predicates.specs.Formula.{Formula, truth, falsity, flag, compare, objects, negation, conjunction, disjunction, equivalence}
use Rattle.lq_refined_types.specs.Parts.Assignment.{Assignment, parts_under}
use Rattle.lq_refined_types.specs.Parts.Part.{Parts}
use Rattle.lq_refined_types.specs.Types.Operations.{symbol_of}
use Rattle.lq_refined_types.specs.Types.Refined.{Refined, Refineds, int_with, bool_with, unit_type, function, tuple_of, array_with, data_with, map_with, type_variable, none, more, top}
use Rattle.lq_sound_values.specs.Inhabitants.Truth.{Givens, value_at}

-- a set of symbols, by its test
abbrev pub Symbols : Type 0
Symbols = Symbol → Bool

-- every symbol but this one
abbrev pub other_than : Symbol → Symbols
other_than x y = not (same_symbol x y)

-- these and one more
abbrev pub with_symbol : Symbols → Symbol → Symbols
with_symbol P x y = P y || same_symbol x y

abbrev pub with_some : Symbols → Option ℕ → Symbols
with_some P None = P
with_some P (Some x) = with_symbol P (symbol_of x)

-- each symbol in it is one of these
abbrev pub SumOn : Symbols → Sum → Type 0
SumOn P (whole n) = Unit {0}
SumOn P (var x) = P x ≡ true
SumOn P (neg a) = SumOn P a
SumOn P (add a b) = SumOn P a × SumOn P b
SumOn P (sub a b) = SumOn P a × SumOn P b
SumOn P (mul a b) = SumOn P a × SumOn P b
SumOn P (div a b) = SumOn P a × SumOn P b
SumOn P (rem a b) = SumOn P a × SumOn P b
SumOn P (len a) = SumOn P a
SumOn P (measure f a) = SumOn P a

abbrev pub FormulaOn : Symbols → Formula → Type 0
FormulaOn P truth = Unit {0}
FormulaOn P falsity = Unit {0}
FormulaOn P (flag x) = P x ≡ true
FormulaOn P (compare o a b) = SumOn P a × SumOn P b
FormulaOn P (objects a b) = SumOn P a × SumOn P b
FormulaOn P (negation p) = FormulaOn P p
FormulaOn P (conjunction p q) = FormulaOn P p × FormulaOn P q
FormulaOn P (disjunction p q) = FormulaOn P p × FormulaOn P q
FormulaOn P (equivalence p q) = FormulaOn P p × FormulaOn P q

abbrev pub EachOn : Symbols → List Formula → Type 0
EachOn P [] = Unit {0}
EachOn P (p ∷ ps) = FormulaOn P p × EachOn P ps

-- parts, under an assignment
abbrev pub PartsOn : Assignment → Symbols → Parts → Type 0
PartsOn A P ps = EachOn P (parts_under A ps)

-- no part speaks of the symbol
abbrev pub Lacks : Assignment → Symbol → Parts → Type 0
Lacks A x ps = PartsOn A (other_than x) ps

-- ---- types

-- the parts of the top speak of these and of v
abbrev pub TopOn : Assignment → Refined → Symbols → Type 0
TopOn A T P = PartsOn A (with_symbol P Value) (top T)

-- What is inside the type speaks of these, of its functions' names of their arguments and of v, and the tops of components of the earlier
-- `#1`, `#2`, ..
abbrev mutual
  pub InsideOn : Assignment → Refined → Symbols → Type 0
  InsideOn A (int_with p) P = Unit {0}
  InsideOn A (bool_with p) P = Unit {0}
  InsideOn A unit_type P = Unit {0}
  InsideOn A (function x U T) P = InsideOn A U P × TopOn A U P × InsideOn A T (with_some P x) × TopOn A T (with_some P x)
  InsideOn A (tuple_of Ts) P = ComponentsOn A Ts P 0 P
  InsideOn A (array_with E p) P = InsideOn A E P × TopOn A E P
  InsideOn A (data_with d As M p) P = ArgumentsOn A As P
  InsideOn A (map_with E p) P = Unit {0}
  InsideOn A (type_variable a) P = Unit {0}

  pub ArgumentsOn : Assignment → Refineds → Symbols → Type 0
  ArgumentsOn A none P = Unit {0}
  ArgumentsOn A (more T Ts) P = InsideOn A T P × TopOn A T P × ArgumentsOn A Ts P

  pub ComponentsOn : Assignment → Refineds → Symbols → ℕ → Symbols → Type 0
  ComponentsOn A none P k Q = Unit {0}
  ComponentsOn A (more T Ts) P k Q = InsideOn A T P × TopOn A T Q × ComponentsOn A Ts P (suc k) (with_symbol Q (Position (suc k)))

abbrev pub TypeOn : Assignment → Refined → Symbols → Type 0
TypeOn A T P = InsideOn A T P × TopOn A T P

-- ---- values

-- two lists of values give these symbols the same values
abbrev pub Agree : Symbols → Givens → Givens → Type 0
Agree P σ τ = (y : Symbol) → P y ≡ true → value_at σ y ≡ value_at τ y
