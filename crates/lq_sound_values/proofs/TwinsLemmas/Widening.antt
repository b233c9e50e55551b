-- Types that speak of some symbols speak of more.
use Rattle.std.proofs.Common.{◌≡◌, ℕ, suc, ◌||◌, Bool, true, false, List, [], ◌∷◌, Option, Some, None, refl}
use Rattle.lq_logic_predicates.specs.declared.symbol.Symbol.{Symbol}
use Rattle.lq_logic_predicates.specs.declared.symbol.Symbol.TheVariants as symbol
use Rattle.lq_logic_predicates.specs.Formula.{Formula, truth, falsity, flag, compare, objects, negation, conjunction, disjunction, equivalence}
use Rattle.lq_logic_predicates.specs.Sum.{Sum, whole, var, neg, add, sub, mul, div, rem, len, measure, same_symbol}
use Rattle.lq_refined_types.specs.Parts.Assignment.{Assignment, parts_under}
use Rattle.lq_refined_types.specs.Types.Operations.{symbol_of}
use Rattle.lq_refined_types.specs.Types.Refined.{Refined, Refineds, int_with, bool_with, unit_type, function, tuple_of, array_with, data_with, map_with, type_variable, none, more, top}
use Rattle.lq_sound_values.specs.Inclusion.Symbols.{Symbols, with_symbol, with_some, SumOn, FormulaOn, EachOn, TopOn, InsideOn, ArgumentsOn, ComponentsOn, TypeOn}

abbrev pub Within : Symbols → Symbols → Type 0
Within P Q = (y : Symbol) → P y ≡ true → Q y ≡ true

pub or_left : (a b : Bool) → a ≡ true → a || b ≡ true
or_left true b h = refl
or_left false b h = absurd (cc)

pub or_right : (a b : Bool) → b ≡ true → a || b ≡ true
or_right true b h = refl
or_right false b h = h

pub or_parts : (R : Type 0) (a b : Bool) → a || b ≡ true → (a ≡ true → R) → (b ≡ true → R) → R
or_parts R true b h f g = f refl
or_parts R false b h f g = g h

pub within_with : (P : Symbols) (x : Symbol) → Within P (with_symbol P x)
within_with P x y h = or_left (P y) (same_symbol x y) h

pub with_within : (P Q : Symbols) (x : Symbol) → Within P Q → Within (with_symbol P x) (with_symbol Q x)
with_within P Q x f y h =
    or_parts (with_symbol Q x y ≡ true) (P y) (same_symbol x y) h (λ p. or_left (Q y) (same_symbol x y) (f y p)) (λ s. or_right (Q y) (same_symbol x y) s)

some_within : (P Q : Symbols) (x : Option ℕ) → Within P Q → Within (with_some P x) (with_some Q x)
some_within P Q None f = f
some_within P Q (Some x) f = with_within P Q (symbol_of x) f

pub sum_more : (P Q : Symbols) → Within P Q → (t : Sum) → SumOn P t → SumOn Q t
sum_more P Q f (whole n) h = tt
sum_more P Q f (var x) h = f x h
sum_more P Q f (neg a) h = sum_more P Q f a h
sum_more P Q f (add a b) h = (sum_more P Q f a h.0, sum_more P Q f b h.1)
sum_more P Q f (sub a b) h = (sum_more P Q f a h.0, sum_more P Q f b h.1)
sum_more P Q f (mul a b) h = (sum_more P Q f a h.0, sum_more P Q f b h.1)
sum_more P Q f (div a b) h = (sum_more P Q f a h.0, sum_more P Q f b h.1)
sum_more P Q f (rem a b) h = (sum_more P Q f a h.0, sum_more P Q f b h.1)
sum_more P Q f (len a) h = sum_more P Q f a h
sum_more P Q f (measure g a) h = sum_more P Q f a h

pub formula_more : (P Q : Symbols) → Within P Q → (p : Formula) → FormulaOn P p → FormulaOn Q p
formula_more P Q f truth h = tt
formula_more P Q f falsity h = tt
formula_more P Q f (flag x) h = f x h
formula_more P Q f (compare o a b) h = (sum_more P Q f a h.0, sum_more P Q f b h.1)
formula_more P Q f (objects a b) h = (sum_more P Q f a h.0, sum_more P Q f b h.1)
formula_more P Q f (negation p) h = formula_more P Q f p h
formula_more P Q f (conjunction p q) h = (formula_more P Q f p h.0, formula_more P Q f q h.1)
formula_more P Q f (disjunction p q) h = (formula_more P Q f p h.0, formula_more P Q f q h.1)
formula_more P Q f (equivalence p q) h = (formula_more P Q f p h.0, formula_more P Q f q h.1)

pub each_more : (P Q : Symbols) → Within P Q → (ps : List Formula) → EachOn P ps → EachOn Q ps
each_more P Q f [] h = tt
each_more P Q f (p ∷ ps) h = (formula_more P Q f p h.0, each_more P Q f ps h.1)

-- ---- types

module _ (A : Assignment) where
  top_more : (t : Refined) (P Q : Symbols) → Within P Q → TopOn A t P → TopOn A t Q
  top_more t P Q f h = each_more (with_symbol P symbol.Value) (with_symbol Q symbol.Value) (with_within P Q symbol.Value f) (parts_under A (top t)) h

  mutual
    inside_more : (t : Refined) (P Q : Symbols) → Within P Q → InsideOn A t P → InsideOn A t Q
    inside_more (int_with p) P Q f h = tt
    inside_more (bool_with p) P Q f h = tt
    inside_more unit_type P Q f h = tt
    inside_more (function x a b) P Q f h =
        let g = some_within P Q x f in
        (inside_more a P Q f h.0, top_more a P Q f h.1, inside_more b (with_some P x) (with_some Q x) g h.2, top_more b (with_some P x) (with_some Q x) g h.3)
    inside_more (tuple_of ts) P Q f h = components_more ts P Q f 0 P Q f h
    inside_more (array_with e p) P Q f h = (inside_more e P Q f h.0, top_more e P Q f h.1)
    inside_more (data_with d ts m p) P Q f h = arguments_more ts P Q f h
    inside_more (map_with e p) P Q f h = tt
    inside_more (type_variable i) P Q f h = tt

    arguments_more : (ts : Refineds) (P Q : Symbols) → Within P Q → ArgumentsOn A ts P → ArgumentsOn A ts Q
    arguments_more none P Q f h = tt
    arguments_more (more t ts) P Q f h = (inside_more t P Q f h.0, top_more t P Q f h.1, arguments_more ts P Q f h.2)

    components_more : (ts : Refineds) (P Q : Symbols) → Within P Q → (k : ℕ) (R T : Symbols) → Within R T → ComponentsOn A ts P k R → ComponentsOn A ts Q k T
    components_more none P Q f k R T g h = tt
    components_more (more t ts) P Q f k R T g h =
        (inside_more t P Q f h.0, top_more t R T g h.1, components_more ts P Q f (suc k) (with_symbol R (symbol.Position (suc k))) (with_symbol T (symbol.Position (suc k))) (with_within R T (symbol.Position (suc k)) g) h.2)

  pub type_more : (t : Refined) (P Q : Symbols) → Within P Q → TypeOn A t P → TypeOn A t Q
  type_more t P Q f h = (inside_more t P Q f h.0, top_more t P Q f h.1)
