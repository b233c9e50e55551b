-- What is put for the names of a predicate.
use Rattle.std.specs.Prelude.{Bool, not, ◌&&◌, cond, List, [], ◌∷◌}
use Rattle.std.specs.List.{list_any}
use Rattle.lq_logic_predicates.specs.declared.symbol.Symbol.{Symbol}
use Rattle.lq_logic_predicates.specs.Sum.{Sum, whole, var, neg, add, sub, mul, div, rem, len, measure, same_symbol}
use Rattle.lq_logic_predicates.specs.Formula.{Formula, truth, falsity, flag, compare, objects, negation, conjunction, disjunction, equivalence}

-- what is put for a symbol: a term where it is a number or an object, a predicate where it is a flag
pub data Atom : Type 0 where
  of_sum : Sum → Atom
  of_formula : Formula → Atom

pub data Swap : Type 0 where
  swap : Symbol → Atom → Swap

abbrev pub Subst : Type 0
Subst = List Swap

-- what stands for a symbol at the place of a term, and at the place of a flag
abbrev pub sum_at : Subst → Symbol → Sum
sum_at [] x = var x
sum_at (swap y (of_sum t) ∷ θ) x = cond (same_symbol y x) t (sum_at θ x)
sum_at (swap y (of_formula p) ∷ θ) x = sum_at θ x

abbrev pub flag_at : Subst → Symbol → Formula
flag_at [] x = flag x
flag_at (swap y (of_sum t) ∷ θ) x = flag_at θ x
flag_at (swap y (of_formula p) ∷ θ) x = cond (same_symbol y x) p (flag_at θ x)

-- all symbols replaced at once
abbrev pub sum_by : Subst → Sum → Sum
sum_by θ (whole n) = whole n
sum_by θ (var x) = sum_at θ x
sum_by θ (neg a) = neg (sum_by θ a)
sum_by θ (add a b) = add (sum_by θ a) (sum_by θ b)
sum_by θ (sub a b) = sub (sum_by θ a) (sum_by θ b)
sum_by θ (mul a b) = mul (sum_by θ a) (sum_by θ b)
sum_by θ (div a b) = div (sum_by θ a) (sum_by θ b)
sum_by θ (rem a b) = rem (sum_by θ a) (sum_by θ b)
sum_by θ (len a) = len (sum_by θ a)
sum_by θ (measure f a) = measure f (sum_by θ a)

abbrev pub formula_by : Subst → Formula → Formula
formula_by θ truth = truth
formula_by θ falsity = falsity
formula_by θ (flag x) = flag_at θ x
formula_by θ (compare o a b) = compare o (sum_by θ a) (sum_by θ b)
formula_by θ (objects a b) = objects (sum_by θ a) (sum_by θ b)
formula_by θ (negation p) = negation (formula_by θ p)
formula_by θ (conjunction p q) = conjunction (formula_by θ p) (formula_by θ q)
formula_by θ (disjunction p q) = disjunction (formula_by θ p) (formula_by θ q)
formula_by θ (equivalence p q) = equivalence (formula_by θ p) (formula_by θ q)

abbrev pub atom_by : Subst → Atom → Atom
atom_by θ (of_sum t) = of_sum (sum_by θ t)
atom_by θ (of_formula p) = of_formula (formula_by θ p)

-- first the second, then the first
abbrev pub after : Subst → Subst → Subst
after θ [] = θ
after θ (swap x a ∷ σ) = swap x (atom_by θ a) ∷ after θ σ

abbrev pub is_in : List Symbol → Symbol → Bool
is_in xs x = list_any (λ y. same_symbol y x) xs

-- a name of the scope for which nothing was put yet
abbrev pub is_new : List Symbol → List Symbol → Symbol → Bool
is_new scope done x = is_in scope x && not (is_in done x)

-- Of what is put for names, what counts for those of a scope: for each the first term and the first predicate, but for names for which
-- there is a term, or a predicate, already.
abbrev pub kept : List Symbol → List Symbol → List Symbol → Subst → Subst
kept scope terms flags [] = []
kept scope terms flags (swap x (of_sum t) ∷ σ) = cond (is_new scope terms x) (swap x (of_sum t) ∷ kept scope (x ∷ terms) flags σ) (kept scope terms flags σ)
kept scope terms flags (swap x (of_formula p) ∷ σ) =
    cond (is_new scope flags x) (swap x (of_formula p) ∷ kept scope terms (x ∷ flags) σ) (kept scope terms flags σ)

abbrev pub restricted : List Symbol → Subst → Subst
restricted scope = kept scope [] []
