-- Types each of whose parts speaks of some symbols alone: so do their twins, and they with something over those symbols put for names.
use Rattle.std.proofs.Common.{◌≡◌, ℕ, suc, ◌==◌, Bool, true, false, cond, List, [], ◌∷◌, map, Option, Some, None, refl, sym, subst}
use Rattle.lq_logic_predicates.specs.declared.symbol.Symbol.{Symbol}
use Rattle.lq_logic_predicates.specs.declared.symbol.Symbol.TheVariants as symbol
use Rattle.lq_logic_predicates.specs.Formula.{Formula, truth, falsity, flag, compare, objects, negation, conjunction, disjunction, equivalence}
use Rattle.lq_logic_predicates.specs.Sum.{Sum, whole, var, neg, add, sub, mul, div, rem, len, measure, same_symbol}
use Rattle.lq_refined_types.specs.Parts.Assignment.{Assignment, IsScoped, parts_under}
use Rattle.lq_refined_types.specs.Parts.Laws.{UnderBy}
use Rattle.lq_refined_types.specs.Parts.Part.{Parts, Scopes, parts_by}
use Rattle.lq_refined_types.specs.Parts.Substitution.{Subst, swap, sum_at, flag_at, sum_by, formula_by}
use Rattle.lq_refined_types.specs.Types.Operations.{symbol_of, type_by, types_by, atom_of, twin_of, twin, twins}
use Rattle.lq_refined_types.specs.Types.Refined.{Refined, Refineds, int_with, bool_with, unit_type, function, tuple_of, array_with, data_with, map_with, type_variable, none, more, Kind, number, truth_value, object, other, kind, top}
use Rattle.lq_sound_values.specs.Inclusion.Symbols.{Symbols, with_symbol, with_some, SumOn, FormulaOn, EachOn, PartsOn, TopOn, InsideOn, ArgumentsOn, ComponentsOn, TypeOn}
use Rattle.lq_sound_values.proofs.InclusionLemmas.Truths.{same_symbol-is}
use Rattle.lq_sound_values.specs.Twins.Names.{with_twins, NamesApart, AllNamesApart}
use Rattle.lq_sound_values.proofs.TwinsLemmas.Leaving.{or_false}
use Rattle.lq_sound_values.proofs.TwinsLemmas.Widening.{Within, or_parts, within_with, each_more}

-- ---- predicates

-- what is put for these symbols speaks of these
pub record IsOver (Q : Symbols) (θ : Subst) : Type 0 where
  pub sums : (y : Symbol) → Q y ≡ true → SumOn Q (sum_at θ y)
  pub flags : (y : Symbol) → Q y ≡ true → FormulaOn Q (flag_at θ y)

module _ (Q : Symbols) (θ : Subst) (over : IsOver Q θ) where
  sum_put : (t : Sum) → SumOn Q t → SumOn Q (sum_by θ t)
  sum_put (whole n) h = tt
  sum_put (var x) h = over.sums x h
  sum_put (neg a) h = sum_put a h
  sum_put (add a b) h = (sum_put a h.0, sum_put b h.1)
  sum_put (sub a b) h = (sum_put a h.0, sum_put b h.1)
  sum_put (mul a b) h = (sum_put a h.0, sum_put b h.1)
  sum_put (div a b) h = (sum_put a h.0, sum_put b h.1)
  sum_put (rem a b) h = (sum_put a h.0, sum_put b h.1)
  sum_put (len a) h = sum_put a h
  sum_put (measure f a) h = sum_put a h

  formula_put : (p : Formula) → FormulaOn Q p → FormulaOn Q (formula_by θ p)
  formula_put truth h = tt
  formula_put falsity h = tt
  formula_put (flag x) h = over.flags x h
  formula_put (compare o a b) h = (sum_put a h.0, sum_put b h.1)
  formula_put (objects a b) h = (sum_put a h.0, sum_put b h.1)
  formula_put (negation p) h = formula_put p h
  formula_put (conjunction p q) h = (formula_put p h.0, formula_put q h.1)
  formula_put (disjunction p q) h = (formula_put p h.0, formula_put q h.1)
  formula_put (equivalence p q) h = (formula_put p h.0, formula_put q h.1)

  each_put : (ps : List Formula) → EachOn Q ps → EachOn Q (map (formula_by θ) ps)
  each_put [] h = tt
  each_put (p ∷ ps) h = (formula_put p h.0, each_put ps h.1)

sum_either : (Q : Symbols) (z y : Symbol) (b : Bool) → Q y ≡ true → (b ≡ true → Q z ≡ true) → SumOn Q (cond b (var z) (var y))
sum_either Q z y true m f = f refl
sum_either Q z y false m f = m

flag_either : (Q : Symbols) (z y : Symbol) (b : Bool) → Q y ≡ true → (b ≡ true → Q z ≡ true) → FormulaOn Q (cond b (flag z) (flag y))
flag_either Q z y true m f = f refl
flag_either Q z y false m f = m

-- a symbol of the set for one name, or any symbol for a name outside the set
pub swap_over : (Q : Symbols) (x z : Symbol) (k : Kind) → ((y : Symbol) → Q y ≡ true → same_symbol x y ≡ true → Q z ≡ true) → IsOver Q (swap x (atom_of k z) ∷ [])
swap_over Q x z number f = record { sums = λ y m. sum_either Q z y (same_symbol x y) m (f y m); flags = λ y m. m }
swap_over Q x z truth_value f = record { sums = λ y m. m; flags = λ y m. flag_either Q z y (same_symbol x y) m (f y m) }
swap_over Q x z object f = record { sums = λ y m. sum_either Q z y (same_symbol x y) m (f y m); flags = λ y m. m }
swap_over Q x z other f = record { sums = λ y m. sum_either Q z y (same_symbol x y) m (f y m); flags = λ y m. m }

-- ---- types

module _ (A : Assignment) (Q : Symbols) where
  -- each part in the type speaks of these symbols alone
  abbrev mutual
    pub Everywhere : Refined → Type 0
    Everywhere (int_with p) = PartsOn A Q p
    Everywhere (bool_with p) = PartsOn A Q p
    Everywhere unit_type = Unit {0}
    Everywhere (function x a b) = Everywhere a × Everywhere b
    Everywhere (tuple_of ts) = AllEverywhere ts
    Everywhere (array_with e p) = Everywhere e × PartsOn A Q p
    Everywhere (data_with d ts m p) = AllEverywhere ts × PartsOn A Q p
    Everywhere (map_with e p) = PartsOn A Q p
    Everywhere (type_variable i) = Unit {0}

    pub AllEverywhere : Refineds → Type 0
    AllEverywhere none = Unit {0}
    AllEverywhere (more t ts) = Everywhere t × AllEverywhere ts

-- such a type speaks of these symbols
module _ (A : Assignment) (Q : Symbols) where
  top_on : (t : Refined) (R : Symbols) → Within Q R → Everywhere A Q t → TopOn A t R
  top_on t R f h = each_more Q (with_symbol R symbol.Value) (λ y m. within_with R symbol.Value y (f y m)) (parts_under A (top t)) (own_top t h)
    where
      own_top : (u : Refined) → Everywhere A Q u → PartsOn A Q (top u)
      own_top (int_with p) h = h
      own_top (bool_with p) h = h
      own_top unit_type h = tt
      own_top (function x a b) h = tt
      own_top (tuple_of ts) h = tt
      own_top (array_with e p) h = h.1
      own_top (data_with d ts m p) h = h.1
      own_top (map_with e p) h = h
      own_top (type_variable i) h = tt

  some_more : (R : Symbols) (x : Option ℕ) → Within Q R → Within Q (with_some R x)
  some_more R None f = f
  some_more R (Some x) f = λ y m. within_with R (symbol_of x) y (f y m)

  mutual
    inside_on : (t : Refined) (R : Symbols) → Within Q R → Everywhere A Q t → InsideOn A t R
    inside_on (int_with p) R f h = tt
    inside_on (bool_with p) R f h = tt
    inside_on unit_type R f h = tt
    inside_on (function x a b) R f h =
        (inside_on a R f h.0, top_on a R f h.0, inside_on b (with_some R x) (some_more R x f) h.1, top_on b (with_some R x) (some_more R x f) h.1)
    inside_on (tuple_of ts) R f h = components_on ts R f 0 R f h
    inside_on (array_with e p) R f h = (inside_on e R f h.0, top_on e R f h.0)
    inside_on (data_with d ts m p) R f h = arguments_on ts R f h.0
    inside_on (map_with e p) R f h = tt
    inside_on (type_variable i) R f h = tt

    arguments_on : (ts : Refineds) (R : Symbols) → Within Q R → AllEverywhere A Q ts → ArgumentsOn A ts R
    arguments_on none R f h = tt
    arguments_on (more t ts) R f h = (inside_on t R f h.0, top_on t R f h.0, arguments_on ts R f h.1)

    components_on : (ts : Refineds) (R : Symbols) → Within Q R → (k : ℕ) (T : Symbols) → Within Q T → AllEverywhere A Q ts → ComponentsOn A ts R k T
    components_on none R f k T g h = tt
    components_on (more t ts) R f k T g h =
        (inside_on t R f h.0, top_on t T g h.0, components_on ts R f (suc k) (with_symbol T (symbol.Position (suc k))) (λ y m. within_with T (symbol.Position (suc k)) y (g y m)) h.1)

  pub type_on : (t : Refined) → Everywhere A Q t → TypeOn A t Q
  type_on t h = (inside_on t Q (λ y m. m) h, top_on t Q (λ y m. m) h)

-- symbols that are none of more are none of fewer
further : (Q R : Symbols) (x : ℕ) → ((y : Symbol) → R y ≡ false → Q y ≡ true) → (y : Symbol) → with_twins R x y ≡ false → Q y ≡ true
further Q R x g y e =
    g y (or_false (R y) (same_symbol (symbol_of x) y) (or_false (with_symbol R (symbol_of x) y) (same_symbol (symbol_of (twin_of x)) y) e))

-- a type over some of these symbols, where v, the positions and its functions' names are of them too
module _ (A : Assignment) (Q : Symbols) (own : Q symbol.Value ≡ true) (places : (k : ℕ) → Q (symbol.Position (suc k)) ≡ true) where
  one_more : (P : Symbols) (x : Symbol) → Within P Q → Q x ≡ true → Within (with_symbol P x) Q
  one_more P x f m y h = or_parts (Q y ≡ true) (P y) (same_symbol x y) h (f y) (λ e. subst (λ z. Q z ≡ true) (same_symbol-is x y e) m)

  parts_all : (P : Symbols) → Within P Q → (p : Parts) → PartsOn A (with_symbol P symbol.Value) p → PartsOn A Q p
  parts_all P f p h = each_more (with_symbol P symbol.Value) Q (one_more P symbol.Value f own) (parts_under A p) h

  -- what is inside it speaks of the first ones, and its top of the second ones
  mutual
    pub everywhere : (t : Refined) (R : Symbols) → ((y : Symbol) → R y ≡ false → Q y ≡ true) → NamesApart A R t → (P : Symbols) → Within P Q → InsideOn A t P → (T : Symbols) → Within T Q → TopOn A t T → Everywhere A Q t
    everywhere (int_with p) R g a P f o T q h = parts_all T q p h
    everywhere (bool_with p) R g a P f o T q h = parts_all T q p h
    everywhere unit_type R g a P f o T q h = tt
    everywhere (function None c b) R g a P f o T q h = (everywhere c R g a.0 P f o.0 P f o.1, everywhere b R g a.1 P f o.2 P f o.3)
    everywhere (function (Some x) c b) R g a P f o T q h =
        let more_names = one_more P (symbol_of x) f (g (symbol_of x) a.0) in
        (everywhere c R g a.3 P f o.0 P f o.1, everywhere b (with_twins R x) (further Q R x g) a.4 (with_symbol P (symbol_of x)) more_names o.2 (with_symbol P (symbol_of x)) more_names o.3)
    everywhere (tuple_of ts) R g a P f o T q h = components_everywhere ts R g a P f 0 P f o
    everywhere (array_with e p) R g a P f o T q h = (everywhere e R g a P f o.0 P f o.1, parts_all T q p h)
    everywhere (data_with d ts m p) R g a P f o T q h = (arguments_everywhere ts R g a P f o, parts_all T q p h)
    everywhere (map_with e p) R g a P f o T q h = parts_all T q p h
    everywhere (type_variable i) R g a P f o T q h = tt

    arguments_everywhere : (ts : Refineds) (R : Symbols) → ((y : Symbol) → R y ≡ false → Q y ≡ true) → AllNamesApart A R ts → (P : Symbols) → Within P Q → ArgumentsOn A ts P → AllEverywhere A Q ts
    arguments_everywhere none R g a P f o = tt
    arguments_everywhere (more t ts) R g a P f o = (everywhere t R g a.0 P f o.0 P f o.1, arguments_everywhere ts R g a.1 P f o.2)

    components_everywhere : (ts : Refineds) (R : Symbols) → ((y : Symbol) → R y ≡ false → Q y ≡ true) → AllNamesApart A R ts → (P : Symbols) → Within P Q → (k : ℕ) (T : Symbols) → Within T Q → ComponentsOn A ts P k T → AllEverywhere A Q ts
    components_everywhere none R g a P f k T q o = tt
    components_everywhere (more t ts) R g a P f k T q o =
        (everywhere t R g a.0 P f o.0 T q o.1, components_everywhere ts R g a.1 P f (suc k) (with_symbol T (symbol.Position (suc k))) (one_more T (symbol.Position (suc k)) q (places k)) o.2)

-- ---- what is put, and twins

module _ (under : UnderBy) (scopes : Scopes) (A : Assignment) (scoped : IsScoped scopes A) (Q : Symbols) where
  module _ (θ : Subst) (over : IsOver Q θ) where
    parts_put : (p : Parts) → PartsOn A Q p → PartsOn A Q (parts_by scopes θ p)
    parts_put p h = subst (EachOn Q) (sym (under scopes A θ p scoped)) (each_put Q θ over (parts_under A p) h)

    mutual
      pub put_everywhere : (t : Refined) → Everywhere A Q t → Everywhere A Q (type_by scopes θ t)
      put_everywhere (int_with p) h = parts_put p h
      put_everywhere (bool_with p) h = parts_put p h
      put_everywhere unit_type h = tt
      put_everywhere (function x c b) h = (put_everywhere c h.0, put_everywhere b h.1)
      put_everywhere (tuple_of ts) h = all_put_everywhere ts h
      put_everywhere (array_with e p) h = (put_everywhere e h.0, parts_put p h.1)
      put_everywhere (data_with d ts m p) h = (all_put_everywhere ts h.0, parts_put p h.1)
      put_everywhere (map_with e p) h = parts_put p h
      put_everywhere (type_variable i) h = tt

      all_put_everywhere : (ts : Refineds) → AllEverywhere A Q ts → AllEverywhere A Q (types_by scopes θ ts)
      all_put_everywhere none h = tt
      all_put_everywhere (more t ts) h = (put_everywhere t h.0, all_put_everywhere ts h.1)

  everywhere_if : (b : Bool) (t : Refined) (θ : Subst) → IsOver Q θ → Everywhere A Q t → Everywhere A Q (cond b t (type_by scopes θ t))
  everywhere_if true t θ v h = h
  everywhere_if false t θ v h = put_everywhere θ v t h

  -- where the twins of its functions' names are of these symbols
  mutual
    pub twin_everywhere : (t : Refined) (R : Symbols) → ((y : Symbol) → R y ≡ false → Q y ≡ true) → NamesApart A R t → Everywhere A Q t → Everywhere A Q (twin scopes t)
    twin_everywhere (int_with p) R g a h = h
    twin_everywhere (bool_with p) R g a h = h
    twin_everywhere unit_type R g a h = tt
    twin_everywhere (function None c b) R g a h = (twin_everywhere c R g a.0 h.0, twin_everywhere b R g a.1 h.1)
    twin_everywhere (function (Some x) c b) R g a h = (
      twin_everywhere c R g a.3 h.0,
      everywhere_if (x == twin_of x) (twin scopes b) (swap (symbol_of x) (atom_of (kind c) (symbol_of (twin_of x))) ∷ []) (swap_over Q (symbol_of x) (symbol_of (twin_of x)) (kind c) (λ y m e. g (symbol_of (twin_of x)) a.1)) (twin_everywhere b (with_twins R x) (further Q R x g) a.4 h.1),
    )
    twin_everywhere (tuple_of ts) R g a h = twins_everywhere ts R g a h
    twin_everywhere (array_with e p) R g a h = (twin_everywhere e R g a h.0, h.1)
    twin_everywhere (data_with d ts m p) R g a h = (twins_everywhere ts R g a h.0, h.1)
    twin_everywhere (map_with e p) R g a h = h
    twin_everywhere (type_variable i) R g a h = tt

    twins_everywhere : (ts : Refineds) (R : Symbols) → ((y : Symbol) → R y ≡ false → Q y ≡ true) → AllNamesApart A R ts → AllEverywhere A Q ts → AllEverywhere A Q (twins scopes ts)
    twins_everywhere none R g a h = tt
    twins_everywhere (more t ts) R g a h = (twin_everywhere t R g a.0 h.0, twins_everywhere ts R g a.1 h.1)
