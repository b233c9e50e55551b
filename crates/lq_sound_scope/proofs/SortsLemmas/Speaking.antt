-- Well sorted predicates speak of names at their sorts: numbers and objects are terms, truth values flags.
use Rattle.std.proofs.Common.{◌≡◌, Bool, true, false, ◌&&◌, ◌||◌, List, [], ◌∷◌, refl}
use Rattle.lq_sound_scope.specs.Scopes.Over.{Names, kind_of, unknown_names, scope_names, with_sort}
use Rattle.lq_sound_scope.proofs.ScopesLemmas.Symbols.{or_left, or_right}
use Rattle.lq_sound_values.specs.Inclusion.Symbols.{SumOn}
use Rattle.lq_refined_instances.specs.Scopes.{Scope}
use Rattle.lq_logic_predicates.specs.Formula.{Formula, truth, falsity, flag, compare, objects, negation, conjunction, disjunction, equivalence}
use Rattle.lq_logic_predicates.specs.Sum.{Sum, whole, var, neg, add, sub, mul, div, rem, len, measure, same_symbol}
use Rattle.lq_logic_predicates.specs.declared.symbol.Symbol.{Symbol}
use Rattle.lq_logic_predicates.specs.declared.symbol.Symbol.TheVariants.{Value}
use Rattle.lq_refined_types.specs.Types.Refined.{Kind, number, truth_value, object, other}
use Rattle.lq_sound_values.specs.Runs.Closed.{EachSorted, SortedOn}
use Rattle.lq_refined_templates.specs.Templates.Scopes.{Unknown}
use Rattle.lq_sound_scope.specs.Sorts.Laws.{InstancesSpeakAtSorts}
use Rattle.lq_sound_scope.specs.Sorts.Sorts.{AreWellSorted, IsNumber, IsObject, IsWellSorted, Sorts, scope_sorts, unknown_sorts, with_kind}

-- numbers and objects are terms of these names, truth values flags
record AreOf (N : Sorts) (M : Names) : Type 0 where
  numbers : (x : Symbol) → N number x ≡ true → M.terms x ≡ true
  objects : (x : Symbol) → N object x ≡ true → M.terms x ≡ true
  flags : (x : Symbol) → N truth_value x ≡ true → M.flags x ≡ true

module _ (N : Sorts) (M : Names) (w : AreOf N M) where
  object_on : (t : Sum) → IsObject N t → SumOn M.terms t
  object_on (whole n) h = tt
  object_on (var x) h = w.objects x h
  object_on (neg a) h = absurd h
  object_on (add a b) h = absurd h
  object_on (sub a b) h = absurd h
  object_on (mul a b) h = absurd h
  object_on (div a b) h = absurd h
  object_on (rem a b) h = absurd h
  object_on (len a) h = absurd h
  object_on (measure f a) h = absurd h

  number_on : (t : Sum) → IsNumber N t → SumOn M.terms t
  number_on (whole n) h = tt
  number_on (var x) h = w.numbers x h
  number_on (neg a) h = number_on a h
  number_on (add a b) h = (number_on a h.0, number_on b h.1)
  number_on (sub a b) h = (number_on a h.0, number_on b h.1)
  number_on (mul a b) h = (number_on a h.0, number_on b h.1)
  number_on (div a b) h = (number_on a h.0, number_on b h.1)
  number_on (rem a b) h = (number_on a h.0, number_on b h.1)
  number_on (len a) h = object_on a h
  number_on (measure f a) h = object_on a h

  sorted_on : (p : Formula) → IsWellSorted N p → SortedOn M.terms M.flags p
  sorted_on truth h = tt
  sorted_on falsity h = tt
  sorted_on (flag x) h = w.flags x h
  sorted_on (compare o a b) h = (number_on a h.0, number_on b h.1)
  sorted_on (objects a b) h = (object_on a h.0, object_on b h.1)
  sorted_on (negation p) h = sorted_on p h
  sorted_on (conjunction p q) h = (sorted_on p h.0, sorted_on q h.1)
  sorted_on (disjunction p q) h = (sorted_on p h.0, sorted_on q h.1)
  sorted_on (equivalence p q) h = (sorted_on p h.0, sorted_on q h.1)

  each_on : (ps : List Formula) → AreWellSorted N ps → EachSorted M.terms M.flags ps
  each_on [] h = tt
  each_on (p ∷ ps) h = (sorted_on p h.0, each_on ps h.1)

-- one more on both sides
more_of : (a b c : Bool) → (a || c) ≡ true → (a ≡ true → b ≡ true) → (b || c) ≡ true
more_of true b c h f = or_left b c (f refl)
more_of false b c h f = or_right b c h

no_more : (a b c : Bool) → (a || (false && c)) ≡ true → (a ≡ true → b ≡ true) → b ≡ true
no_more true b c h f = f refl
no_more false b c h f = cc

with_one : (N : Sorts) (M : Names) → AreOf N M → (k : Kind) (x : Symbol) → AreOf (with_kind N k x) (with_sort M k x)
with_one N M w number x =
    record {
      numbers = λ y h. more_of (N number y) (M.terms y) (same_symbol x y) h (w.numbers y);
      objects = λ y h. or_left (M.terms y) (same_symbol x y) (no_more (N object y) (M.terms y) (same_symbol x y) h (w.objects y));
      flags = λ y h. no_more (N truth_value y) (M.flags y) (same_symbol x y) h (w.flags y);
    }
with_one N M w truth_value x =
    record {
      numbers = λ y h. no_more (N number y) (M.terms y) (same_symbol x y) h (w.numbers y);
      objects = λ y h. no_more (N object y) (M.terms y) (same_symbol x y) h (w.objects y);
      flags = λ y h. more_of (N truth_value y) (M.flags y) (same_symbol x y) h (w.flags y);
    }
with_one N M w object x =
    record {
      numbers = λ y h. or_left (M.terms y) (same_symbol x y) (no_more (N number y) (M.terms y) (same_symbol x y) h (w.numbers y));
      objects = λ y h. more_of (N object y) (M.terms y) (same_symbol x y) h (w.objects y);
      flags = λ y h. no_more (N truth_value y) (M.flags y) (same_symbol x y) h (w.flags y);
    }
with_one N M w other x =
    record {
      numbers = λ y h. no_more (N number y) (M.terms y) (same_symbol x y) h (w.numbers y);
      objects = λ y h. no_more (N object y) (M.terms y) (same_symbol x y) h (w.objects y);
      flags = λ y h. no_more (N truth_value y) (M.flags y) (same_symbol x y) h (w.flags y);
    }

of_scope : (Γ : Scope) → AreOf (scope_sorts Γ) (scope_names Γ)
of_scope [] = record { numbers = λ x h. cc; objects = λ x h. cc; flags = λ x h. cc }
of_scope (e ∷ Γ) = with_one (scope_sorts Γ) (scope_names Γ) (of_scope Γ) (kind_of e.1) e.0

pub instances_speak : InstancesSpeakAtSorts
instances_speak unknowns A h u =
    let x : Unknown = unknowns u in
    each_on (unknown_sorts x) (unknown_names x) (with_one (scope_sorts x.0) (scope_names x.0) (of_scope x.0) (kind_of x.1) Value) (A u) (h u)
