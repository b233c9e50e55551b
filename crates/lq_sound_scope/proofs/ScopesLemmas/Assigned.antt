-- Types over names, under an assignment of instances that speak of what their unknowns may speak of.
use Rattle.std.proofs.Common.{◌≡◌, ℕ, suc, Bool, true, false, ◌||◌, List, [], ◌∷◌, ◌++◌, map, Option, Some, None, refl, subst}
use Rattle.lq_logic_predicates.specs.declared.symbol.Symbol.{Symbol}
use Rattle.lq_logic_predicates.specs.declared.symbol.Symbol.TheVariants.{Value, Position}
use Rattle.lq_logic_predicates.specs.Sum.{Sum, whole, var, neg, add, sub, mul, div, rem, len, measure, same_symbol}
use Rattle.lq_logic_predicates.specs.Formula.{Formula, truth, falsity, flag, compare, objects, negation, conjunction, disjunction, equivalence}
use Rattle.lq_refined_instances.specs.Scopes.{Scope}
use Rattle.lq_refined_types.specs.Parts.Assignment.{Assignment, part_under, parts_under}
use Rattle.lq_refined_types.specs.Parts.Part.{Part, known, unknown, Parts}
use Rattle.lq_refined_types.specs.Parts.Substitution.{Subst, sum_at, flag_at, sum_by, formula_by}
use Rattle.lq_refined_types.specs.Types.Operations.{symbol_of}
use Rattle.lq_refined_types.specs.Types.Refined.{Refined, int_with, bool_with, unit_type, function, tuple_of, array_with, data_with, map_with, type_variable, Refineds, none, more, Kind, number, truth_value, object, other, kind, top}
use Rattle.lq_text_qualifiers.specs.Faults.Shapes.{Shape, int, bool, array, data_of}
use Rattle.lq_text_qualifiers.specs.Faults.Shapes as shape
use Rattle.lq_text_tree.specs.Types.{Signature}
use Rattle.lq_sound_values.specs.Inclusion.Symbols.{Symbols, with_symbol, with_some, SumOn, FormulaOn, EachOn, InsideOn, TopOn, ArgumentsOn, ComponentsOn}
use Rattle.lq_sound_values.specs.Runs.Closed.{SortedOn, EachSorted, PartsSorted, with_value}
use Rattle.lq_refined_templates.specs.Templates.Scopes.{Unknown}
use Rattle.lq_sound_scope.specs.Scopes.Laws.{TypesAreOver}
use Rattle.lq_sound_scope.specs.Scopes.Over.{IsWithin, Names, AreSorted, SymbolOver, ScopeOver, scope_names, unknown_names, kind_of, of_any_sort, with_sort, with_argument, PartOver, PartsOver, TopOver, InsideOver, TypesOver, ComponentsOver}
use Rattle.lq_sound_scope.proofs.ScopesLemmas.Symbols.{or_left, or_right, same_is, within_one}

pub or_cases : (a b : Bool) (P : Type 0) → (a || b) ≡ true → (a ≡ true → P) → (b ≡ true → P) → P
or_cases true b P h f g = f refl
or_cases false b P h f g = g h

-- ---- wider names

pub sum_within : (T U : Symbols) → IsWithin T U → (t : Sum) → SumOn T t → SumOn U t
sum_within T U w (whole n) h = tt
sum_within T U w (var x) h = w x h
sum_within T U w (neg a) h = sum_within T U w a h
sum_within T U w (add a b) h = (sum_within T U w a h.0, sum_within T U w b h.1)
sum_within T U w (sub a b) h = (sum_within T U w a h.0, sum_within T U w b h.1)
sum_within T U w (mul a b) h = (sum_within T U w a h.0, sum_within T U w b h.1)
sum_within T U w (div a b) h = (sum_within T U w a h.0, sum_within T U w b h.1)
sum_within T U w (rem a b) h = (sum_within T U w a h.0, sum_within T U w b h.1)
sum_within T U w (len a) h = sum_within T U w a h
sum_within T U w (measure f a) h = sum_within T U w a h

pub sorted_within : (T F U G : Symbols) → IsWithin T U → IsWithin F G → (p : Formula) → SortedOn T F p → SortedOn U G p
sorted_within T F U G w v truth h = tt
sorted_within T F U G w v falsity h = tt
sorted_within T F U G w v (flag x) h = v x h
sorted_within T F U G w v (compare o a b) h = (sum_within T U w a h.0, sum_within T U w b h.1)
sorted_within T F U G w v (objects a b) h = (sum_within T U w a h.0, sum_within T U w b h.1)
sorted_within T F U G w v (negation p) h = sorted_within T F U G w v p h
sorted_within T F U G w v (conjunction p q) h = (sorted_within T F U G w v p h.0, sorted_within T F U G w v q h.1)
sorted_within T F U G w v (disjunction p q) h = (sorted_within T F U G w v p h.0, sorted_within T F U G w v q h.1)
sorted_within T F U G w v (equivalence p q) h = (sorted_within T F U G w v p h.0, sorted_within T F U G w v q h.1)

pub each_within : (T F U G : Symbols) → IsWithin T U → IsWithin F G → (ps : List Formula) → EachSorted T F ps → EachSorted U G ps
each_within T F U G w v [] h = tt
each_within T F U G w v (p ∷ ps) h = (sorted_within T F U G w v p h.0, each_within T F U G w v ps h.1)

-- whatever its sort
formula_on : (T F U : Symbols) → IsWithin T U → IsWithin F U → (p : Formula) → SortedOn T F p → FormulaOn U p
formula_on T F U w v truth h = tt
formula_on T F U w v falsity h = tt
formula_on T F U w v (flag x) h = v x h
formula_on T F U w v (compare o a b) h = (sum_within T U w a h.0, sum_within T U w b h.1)
formula_on T F U w v (objects a b) h = (sum_within T U w a h.0, sum_within T U w b h.1)
formula_on T F U w v (negation p) h = formula_on T F U w v p h
formula_on T F U w v (conjunction p q) h = (formula_on T F U w v p h.0, formula_on T F U w v q h.1)
formula_on T F U w v (disjunction p q) h = (formula_on T F U w v p h.0, formula_on T F U w v q h.1)
formula_on T F U w v (equivalence p q) h = (formula_on T F U w v p h.0, formula_on T F U w v q h.1)

pub each_on : (T F U : Symbols) → IsWithin T U → IsWithin F U → (ps : List Formula) → EachSorted T F ps → EachOn U ps
each_on T F U w v [] h = tt
each_on T F U w v (p ∷ ps) h = (formula_on T F U w v p h.0, each_on T F U w v ps h.1)

each_joined : (T F : Symbols) (ps qs : List Formula) → EachSorted T F ps → EachSorted T F qs → EachSorted T F (ps ++ qs)
each_joined T F [] qs h w = w
each_joined T F (p ∷ ps) qs h w = (h.0, each_joined T F ps qs h.1 w)

-- ---- what is put for names

module _ (M N : Names) (θ : Subst) (terms : (x : Symbol) → M.terms x ≡ true → SumOn N.terms (sum_at θ x))
    (flags : (x : Symbol) → M.flags x ≡ true → SortedOn N.terms N.flags (flag_at θ x)) where
  pub sum_put : (t : Sum) → SumOn M.terms t → SumOn N.terms (sum_by θ t)
  sum_put (whole n) h = tt
  sum_put (var x) h = terms x h
  sum_put (neg a) h = sum_put a h
  sum_put (add a b) h = (sum_put a h.0, sum_put b h.1)
  sum_put (sub a b) h = (sum_put a h.0, sum_put b h.1)
  sum_put (mul a b) h = (sum_put a h.0, sum_put b h.1)
  sum_put (div a b) h = (sum_put a h.0, sum_put b h.1)
  sum_put (rem a b) h = (sum_put a h.0, sum_put b h.1)
  sum_put (len a) h = sum_put a h
  sum_put (measure f a) h = sum_put a h

  pub formula_put : (p : Formula) → SortedOn M.terms M.flags p → SortedOn N.terms N.flags (formula_by θ p)
  formula_put truth h = tt
  formula_put falsity h = tt
  formula_put (flag x) h = flags x h
  formula_put (compare o a b) h = (sum_put a h.0, sum_put b h.1)
  formula_put (objects a b) h = (sum_put a h.0, sum_put b h.1)
  formula_put (negation p) h = formula_put p h
  formula_put (conjunction p q) h = (formula_put p h.0, formula_put q h.1)
  formula_put (disjunction p q) h = (formula_put p h.0, formula_put q h.1)
  formula_put (equivalence p q) h = (formula_put p h.0, formula_put q h.1)

  each_put : (ps : List Formula) → EachSorted M.terms M.flags ps → EachSorted N.terms N.flags (map (formula_by θ) ps)
  each_put [] h = tt
  each_put (p ∷ ps) h = (formula_put p h.0, each_put ps h.1)

-- ---- instances

-- what stands for the symbols of names
record Stands (N : Names) (θ : Subst) (M : Names) : Type 0 where
  terms : (x : Symbol) → M.terms x ≡ true → SumOn N.terms (sum_at θ x)
  flags : (x : Symbol) → M.flags x ≡ true → SortedOn N.terms N.flags (flag_at θ x)

module _ (N : Names) (θ : Subst) where
  term_more : (M : Symbols) (x : Symbol) → ((y : Symbol) → M y ≡ true → SumOn N.terms (sum_at θ y)) → SumOn N.terms (sum_at θ x)
      → (y : Symbol) → with_symbol M x y ≡ true → SumOn N.terms (sum_at θ y)
  term_more M x h w y e =
      or_cases (M y) (same_symbol x y) (SumOn N.terms (sum_at θ y)) e (h y) (λ k. subst (λ (z : Symbol). SumOn N.terms (sum_at θ z)) (same_is x y k) w)

  flag_more : (M : Symbols) (x : Symbol) → ((y : Symbol) → M y ≡ true → SortedOn N.terms N.flags (flag_at θ y)) → SortedOn N.terms N.flags (flag_at θ x)
      → (y : Symbol) → with_symbol M x y ≡ true → SortedOn N.terms N.flags (flag_at θ y)
  flag_more M x h w y e =
      or_cases (M y) (same_symbol x y) (SortedOn N.terms N.flags (flag_at θ y)) e (h y)
      (λ k. subst (λ (z : Symbol). SortedOn N.terms N.flags (flag_at θ z)) (same_is x y k) w)

  stands_more : (M : Names) (s : Shape) (x : Symbol) → Stands N θ M → SymbolOver N θ s x → Stands N θ (with_sort M (kind_of s) x)
  stands_more M int x h w = record { terms = term_more M.terms x h.terms w; flags = h.flags }
  stands_more M bool x h w = record { terms = h.terms; flags = flag_more M.flags x h.flags w }
  stands_more M array x h w = record { terms = term_more M.terms x h.terms w; flags = h.flags }
  stands_more M (data_of d) x h w = record { terms = term_more M.terms x h.terms w; flags = h.flags }
  stands_more M shape.other x h w = h

  stands_scope : (Γ : Scope) → ScopeOver N θ Γ → Stands N θ (scope_names Γ)
  stands_scope [] h = record { terms = λ x e. absurd (no e); flags = λ x e. absurd (no e) }
    where
      no : false ≡ true → ⊥
      no z = cc
  stands_scope (e ∷ Γ) h = stands_more (scope_names Γ) e.1 e.0 (stands_scope Γ h.1) h.0

module _ (unknowns : ℕ → Unknown) (A : Assignment) (sorted : AreSorted unknowns A) where
  part_over : (N : Names) (q : Part) → PartOver unknowns N q → EachSorted N.terms N.flags (part_under A q)
  part_over N (known p) h = (h, tt)
  part_over N (unknown u θ) h =
      let s : Stands N θ (unknown_names (unknowns u)) = stands_more N θ (scope_names (unknowns u).0) (unknowns u).1 Value (stands_scope N θ (unknowns u).0 h.1) h.0 in
      each_put (unknown_names (unknowns u)) N θ s.terms s.flags (A u) (sorted u)

  pub parts_over : (N : Names) (ps : Parts) → PartsOver unknowns N ps → EachSorted N.terms N.flags (parts_under A ps)
  parts_over N [] h = tt
  parts_over N (q ∷ qs) h = each_joined N.terms N.flags (part_under A q) (parts_under A qs) (part_over N q h.0) (parts_over N qs h.1)

-- ---- types

-- these names are all of the set
record AreOf (N : Names) (Q : Symbols) : Type 0 where
  terms : IsWithin N.terms Q
  flags : IsWithin N.flags Q

pub wider : (T Q : Symbols) (x : Symbol) → IsWithin T Q → IsWithin (with_symbol T x) (with_symbol Q x)
wider T Q x w y h = or_cases (T y) (same_symbol x y) (with_symbol Q x y ≡ true) h (λ k. or_left (Q y) (same_symbol x y) (w y k)) (λ k. or_right (Q y) (same_symbol x y) k)

of_sort : (N : Names) (Q : Symbols) (k : Kind) (x : Symbol) → AreOf N Q → AreOf (with_sort N k x) (with_symbol Q x)
of_sort N Q number x h = record { terms = wider N.terms Q x h.terms; flags = λ y e. within_one Q x y (h.flags y e) }
of_sort N Q truth_value x h = record { terms = λ y e. within_one Q x y (h.terms y e); flags = wider N.flags Q x h.flags }
of_sort N Q object x h = record { terms = wider N.terms Q x h.terms; flags = λ y e. within_one Q x y (h.flags y e) }
of_sort N Q other x h = record { terms = λ y e. within_one Q x y (h.terms y e); flags = λ y e. within_one Q x y (h.flags y e) }

of_argument : (N : Names) (Q : Symbols) (x : Option ℕ) (k : Kind) → AreOf N Q → AreOf (with_argument N x k) (with_some Q x)
of_argument N Q None k h = h
of_argument N Q (Some x) k h = of_sort N Q k (symbol_of x) h

module _ (g : Signature) (unknowns : ℕ → Unknown) (A : Assignment) (sorted : AreSorted unknowns A) where
  top_on : (N : Names) (Q : Symbols) (t : Refined) → AreOf N Q → TopOver unknowns N t → TopOn A t Q
  top_on N Q t w h =
      let M : Names = with_sort N (kind t) Value in
      let v : AreOf M (with_symbol Q Value) = of_sort N Q (kind t) Value w in
      each_on M.terms M.flags (with_symbol Q Value) v.terms v.flags (parts_under A (top t)) (parts_over unknowns A sorted M (top t) h)

  mutual
    inside_on : (N : Names) (Q : Symbols) (t : Refined) → AreOf N Q → InsideOver g unknowns N t → InsideOn A t Q
    inside_on N Q (int_with p) w h = tt
    inside_on N Q (bool_with p) w h = tt
    inside_on N Q unit_type w h = tt
    inside_on N Q (function x a b) w h =
        let M : Names = with_argument N x (kind a) in
        let v : AreOf M (with_some Q x) = of_argument N Q x (kind a) w in
        (inside_on N Q a w h.0, top_on N Q a w h.1, inside_on M (with_some Q x) b v h.2, top_on M (with_some Q x) b v h.3)
    inside_on N Q (tuple_of ts) w h = components_on N N Q Q 0 ts w w h
    inside_on N Q (array_with e p) w h = (inside_on N Q e w h.0, top_on N Q e w h.1)
    inside_on N Q (data_with d ts m p) w h = arguments_on N Q ts w h.0
    inside_on N Q (map_with e p) w h = tt
    inside_on N Q (type_variable i) w h = tt

    arguments_on : (N : Names) (Q : Symbols) (ts : Refineds) → AreOf N Q → TypesOver g unknowns N ts → ArgumentsOn A ts Q
    arguments_on N Q none w h = tt
    arguments_on N Q (more t ts) w h = (inside_on N Q t w h.0, top_on N Q t w h.1, arguments_on N Q ts w h.2)

    components_on : (N M : Names) (Q R : Symbols) (k : ℕ) (ts : Refineds) → AreOf N Q → AreOf M R → ComponentsOver g unknowns N M k ts → ComponentsOn A ts Q k R
    components_on N M Q R k none w v h = tt
    components_on N M Q R k (more t ts) w v h = (
      inside_on N Q t w h.0,
      top_on M R t v h.1,
      components_on N (with_sort M (kind t) (Position (suc k))) Q (with_symbol R (Position (suc k))) (suc k) ts w (of_sort M R (kind t) (Position (suc k)) v) h.2,
    )

  top_sorted : (N : Symbols) (k : Kind) (ps : Parts) → PartsOver unknowns (with_sort (of_any_sort N) k Value) ps → PartsSorted A k N ps
  top_sorted N number ps h = parts_over unknowns A sorted (with_sort (of_any_sort N) number Value) ps h
  top_sorted N truth_value ps h = parts_over unknowns A sorted (with_sort (of_any_sort N) truth_value Value) ps h
  top_sorted N object ps h = parts_over unknowns A sorted (with_sort (of_any_sort N) object Value) ps h
  top_sorted N other ps h =
      each_within N N (with_value N) N (within_one N Value) (λ y e. e) (parts_under A ps) (parts_over unknowns A sorted (of_any_sort N) ps h)

pub types_over : TypesAreOver
types_over g unknowns S sorted N t h =
    let own : AreOf (of_any_sort N) N = record { terms = λ x e. e; flags = λ x e. e } in (
      (inside_on g unknowns S.assignment sorted (of_any_sort N) N t own h.0, top_on g unknowns S.assignment sorted (of_any_sort N) N t own h.1),
      top_sorted g unknowns S.assignment sorted N (kind t) (top t) h.1,
    )
