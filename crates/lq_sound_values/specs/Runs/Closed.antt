-- Environments whose types and guards speak of their own names alone.
use Rattle.std.specs.Prelude.{◌≡◌, ℕ, true, false, List, [], ◌∷◌}
use Rattle.lq_logic_predicates.specs.declared.symbol.Symbol.{Symbol}
use Rattle.lq_logic_predicates.specs.declared.symbol.Symbol.TheVariants as symbol
use Rattle.lq_logic_predicates.specs.Sum.{same_symbol}
use Rattle.lq_logic_predicates.specs.Formula.{Formula, truth, falsity, flag, compare, objects, negation, conjunction, disjunction, equivalence}
use Rattle.lq_refined_types.specs.Parts.Assignment.{Assignment, parts_under}
use Rattle.lq_refined_types.specs.Parts.Part.{Parts}
use Rattle.lq_refined_types.specs.Types.Context.{Context, name, guard, IsNew}
use Rattle.lq_refined_types.specs.Types.Operations.{symbol_of}
use Rattle.lq_refined_types.specs.Types.Refined.{Refined, Kind, number, truth_value, object, other, kind, top}
use Rattle.lq_sound_values.specs.Inhabitants.Truth.{Scene}
use Rattle.lq_sound_values.specs.Inclusion.Symbols.{Symbols, with_symbol, SumOn, PartsOn, TopOn, InsideOn, TypeOn}

-- a variable of the program with its type
abbrev pub bound : ℕ → Refined → Context → Context
bound x t Γ = name (symbol_of x) t ∷ Γ

-- the names of an environment
abbrev pub names_in : Context → Symbols
names_in [] y = false
names_in (name x t ∷ Γ) y = with_symbol (names_in Γ) x y
names_in (guard p ∷ Γ) y = names_in Γ y

-- the terms in it speak of these symbols, and its flags are these
abbrev pub SortedOn : Symbols → Symbols → Formula → Type 0
SortedOn P Q truth = Unit {0}
SortedOn P Q falsity = Unit {0}
SortedOn P Q (flag x) = Q x ≡ true
SortedOn P Q (compare o a b) = SumOn P a × SumOn P b
SortedOn P Q (objects a b) = SumOn P a × SumOn P b
SortedOn P Q (negation p) = SortedOn P Q p
SortedOn P Q (conjunction p q) = SortedOn P Q p × SortedOn P Q q
SortedOn P Q (disjunction p q) = SortedOn P Q p × SortedOn P Q q
SortedOn P Q (equivalence p q) = SortedOn P Q p × SortedOn P Q q

abbrev pub EachSorted : Symbols → Symbols → List Formula → Type 0
EachSorted P Q [] = Unit {0}
EachSorted P Q (p ∷ ps) = SortedOn P Q p × EachSorted P Q ps

-- these and v
abbrev pub with_value : Symbols → Symbols
with_value P = with_symbol P symbol.Value

-- parts of a type of the kind, under an assignment: they speak of these symbols, and of v at the kind's sort alone
abbrev pub PartsSorted : Assignment → Kind → Symbols → Parts → Type 0
PartsSorted A number P ps = EachSorted (with_value P) P (parts_under A ps)
PartsSorted A truth_value P ps = EachSorted P (with_value P) (parts_under A ps)
PartsSorted A object P ps = EachSorted (with_value P) P (parts_under A ps)
PartsSorted A other P ps = EachSorted (with_value P) P (parts_under A ps)

-- the type speaks of these symbols, and the parts of its top of v at the kind's sort
abbrev pub IsTypeOver : Scene → Symbols → Refined → Type 0
IsTypeOver S P t = TypeOn S.assignment t P × PartsSorted S.assignment (kind t) P (top t)

-- the same, where what is inside the type may speak of more, the second symbols
abbrev pub IsTypeIn : Scene → Symbols → Symbols → Refined → Type 0
IsTypeIn S P N t = (InsideOn S.assignment t N × TopOn S.assignment t P) × PartsSorted S.assignment (kind t) P (top t)

-- Each name is new, and each guard and the top of each type speaks of the names before it; what is inside the types speaks of these symbols.
abbrev pub IsClosedIn : Scene → Symbols → Context → Type 0
IsClosedIn S N [] = Unit {0}
IsClosedIn S N (name x t ∷ Γ) = (same_symbol x symbol.Value ≡ false) × IsNew x Γ × IsTypeIn S (names_in Γ) N t × IsClosedIn S N Γ
IsClosedIn S N (guard p ∷ Γ) = PartsOn S.assignment (names_in Γ) (p ∷ []) × IsClosedIn S N Γ

-- What is inside the types may speak of all names: that of a constructor's field may speak of the fields behind it.
abbrev pub IsClosed : Scene → Context → Type 0
IsClosed S Γ = IsClosedIn S (names_in Γ) Γ

-- the name is new in a closed environment, and the type speaks of its names
abbrev pub Binds : Scene → Symbol → Refined → Context → Type 0
Binds S x t Γ = (same_symbol x symbol.Value ≡ false) × IsNew x Γ × IsTypeOver S (names_in Γ) t × IsClosed S Γ
