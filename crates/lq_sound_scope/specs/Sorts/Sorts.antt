-- Well sorted predicates: numbers where numbers are asked for, truth values as flags, and objects as variables alone.
use Rattle.std.specs.Prelude.{◌≡◌, ◌⊎◌, ℕ, Bool, true, false, ◌&&◌, ◌||◌, List, [], ◌∷◌}
use Rattle.lq_sound_scope.specs.Scopes.Over.{kind_of}
use Rattle.lq_sound_values.specs.Inclusion.Symbols.{Symbols}
use Rattle.lq_refined_instances.specs.Scopes.{Scope}
use Rattle.lq_refined_types.specs.Parts.Assignment.{Assignment}
use Rattle.lq_refined_types.specs.Parts.Substitution.{Atom, of_sum, of_formula, Subst, sum_at, flag_at}
use Rattle.lq_logic_predicates.specs.Formula.{Formula, truth, falsity, flag, compare, objects, negation, conjunction, disjunction, equivalence}
use Rattle.lq_logic_predicates.specs.Sum.{Sum, whole, var, neg, add, sub, mul, div, rem, len, measure, same_symbol}
use Rattle.lq_logic_predicates.specs.declared.symbol.Symbol.{Symbol}
use Rattle.lq_logic_predicates.specs.declared.symbol.Symbol.TheVariants.{Value}
use Rattle.lq_refined_types.specs.Types.Operations.{symbol_of}
use Rattle.lq_refined_types.specs.Types.Refined.{Kind, number, truth_value, object, other}
use Rattle.lq_refined_templates.specs.Templates.Scopes.{Unknown}

-- which symbols stand for values of each kind
abbrev pub Sorts : Type 0
Sorts = Kind → Symbols

abbrev pub no_sorts : Sorts
no_sorts k y = false

-- the same kind, of which predicates speak
abbrev pub is_one : Kind → Kind → Bool
is_one number number = true
is_one number truth_value = false
is_one number object = false
is_one number other = false
is_one truth_value number = false
is_one truth_value truth_value = true
is_one truth_value object = false
is_one truth_value other = false
is_one object number = false
is_one object truth_value = false
is_one object object = true
is_one object other = false
is_one other k = false

-- one more symbol, for values of a kind of which predicates speak
abbrev pub with_kind : Sorts → Kind → Symbol → Sorts
with_kind N k x j y = N j y || (is_one k j && same_symbol x y)

-- each symbol of the first sorts has the same sort in the second ones
abbrev pub IsWithin : Sorts → Sorts → Type 0
IsWithin N M = (k : Kind) (x : Symbol) → N k x ≡ true → M k x ≡ true

-- a name stands for values of the kind, or for none of which predicates speak
abbrev pub HasName : Sorts → Kind → ℕ → Type 0
HasName N k x = (N k (symbol_of x) ≡ true) ⊎ (N other (symbol_of x) ≡ true)

-- ---- predicates

-- an object is a variable
abbrev pub IsObject : Sorts → Sum → Type 0
IsObject N (whole n) = ⊥
IsObject N (var x) = N object x ≡ true
IsObject N (neg a) = ⊥
IsObject N (add a b) = ⊥
IsObject N (sub a b) = ⊥
IsObject N (mul a b) = ⊥
IsObject N (div a b) = ⊥
IsObject N (rem a b) = ⊥
IsObject N (len a) = ⊥
IsObject N (measure f a) = ⊥

-- numbers are made of numbers, of lengths and of measures of objects
abbrev pub IsNumber : Sorts → Sum → Type 0
IsNumber N (whole n) = Unit {0}
IsNumber N (var x) = N number x ≡ true
IsNumber N (neg a) = IsNumber N a
IsNumber N (add a b) = IsNumber N a × IsNumber N b
IsNumber N (sub a b) = IsNumber N a × IsNumber N b
IsNumber N (mul a b) = IsNumber N a × IsNumber N b
IsNumber N (div a b) = IsNumber N a × IsNumber N b
IsNumber N (rem a b) = IsNumber N a × IsNumber N b
IsNumber N (len a) = IsObject N a
IsNumber N (measure f a) = IsObject N a

abbrev pub IsWellSorted : Sorts → Formula → Type 0
IsWellSorted N truth = Unit {0}
IsWellSorted N falsity = Unit {0}
IsWellSorted N (flag x) = N truth_value x ≡ true
IsWellSorted N (compare o a b) = IsNumber N a × IsNumber N b
IsWellSorted N (objects a b) = IsObject N a × IsObject N b
IsWellSorted N (negation p) = IsWellSorted N p
IsWellSorted N (conjunction p q) = IsWellSorted N p × IsWellSorted N q
IsWellSorted N (disjunction p q) = IsWellSorted N p × IsWellSorted N q
IsWellSorted N (equivalence p q) = IsWellSorted N p × IsWellSorted N q

abbrev pub AreWellSorted : Sorts → List Formula → Type 0
AreWellSorted N [] = Unit {0}
AreWellSorted N (p ∷ ps) = IsWellSorted N p × AreWellSorted N ps

-- ---- what is put for symbols

-- it stands for values of the kind; predicates speak of none of another kind
abbrev pub IsAtomOf : Sorts → Kind → Atom → Type 0
IsAtomOf N number (of_sum t) = IsNumber N t
IsAtomOf N number (of_formula p) = ⊥
IsAtomOf N truth_value (of_sum t) = ⊥
IsAtomOf N truth_value (of_formula p) = IsWellSorted N p
IsAtomOf N object (of_sum t) = IsObject N t
IsAtomOf N object (of_formula p) = ⊥
IsAtomOf N other a = Unit {0}

-- what stands for a symbol of a kind is of this kind
abbrev pub StandsAt : Sorts → Subst → Kind → Symbol → Type 0
StandsAt N θ number x = IsNumber N (sum_at θ x)
StandsAt N θ truth_value x = IsWellSorted N (flag_at θ x)
StandsAt N θ object x = IsObject N (sum_at θ x)
StandsAt N θ other x = Unit {0}

abbrev pub ScopeStands : Sorts → Subst → Scope → Type 0
ScopeStands N θ [] = Unit {0}
ScopeStands N θ (e ∷ Γ) = StandsAt N θ (kind_of e.1) e.0 × ScopeStands N θ Γ

-- ---- unknowns

-- the symbols of a scope, and with them v, at their sorts
abbrev pub scope_sorts : Scope → Sorts
scope_sorts [] = no_sorts
scope_sorts (e ∷ Γ) = with_kind (scope_sorts Γ) (kind_of e.1) e.0

abbrev pub unknown_sorts : Unknown → Sorts
unknown_sorts u = with_kind (scope_sorts u.0) (kind_of u.1) Value

-- the instances of each unknown are well sorted over the symbols of its scope and v
abbrev pub AreInstancesSorted : (ℕ → Unknown) → Assignment → Type 0
AreInstancesSorted unknowns A = (u : ℕ) → AreWellSorted (unknown_sorts (unknowns u)) (A u)
