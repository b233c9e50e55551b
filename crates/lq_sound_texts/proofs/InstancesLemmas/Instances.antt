-- Instances of sorted qualifiers speak of names at their sorts.
use Rattle.std.proofs.Common.{◌≡◌, ℕ, zero, suc, Bool, true, false, if◌then◌else◌, cond, List, [], ◌∷◌, ◌++◌, map, filter, slice_get, slice_index_or, unwrap_or, Option, Some, None, refl, sym, ap, subst}
use Rattle.std.proofs.lemmas.Bool.{eqb-true}
use Rattle.std.specs.List.{flat_map}
use Rattle.lq_sound_scope.specs.Scopes.Over.{kind_of, unknown_in}
use Rattle.lq_refined_instances.specs.Instances.{all_instances_of, firsts, has_formula, instances_of, made_of, of_shape, replacements}
use Rattle.lq_refined_instances.specs.Made.{constant_by, instance_by, measure_by, operated, or_value, symbol_by, term_by}
use Rattle.lq_refined_instances.specs.Scopes.{Scope, symbols_of}
use Rattle.lq_base_names.specs.declared.operation.ArithOp.{ArithOp}
use Rattle.lq_base_names.specs.declared.operation.ArithOp.TheVariants as op
use Rattle.lq_refined_types.specs.Parts.Flowing.{assigned, picked}
use Rattle.lq_logic_predicates.specs.Formula.{Formula}
use Rattle.lq_logic_predicates.specs.Sum.{Sum}
use Rattle.lq_logic_predicates.specs.declared.symbol.Symbol.{Symbol}
use Rattle.lq_logic_predicates.specs.declared.symbol.Symbol.TheVariants.{Value}
use Rattle.lq_refined_types.specs.Types.Refined.{object}
use Rattle.lq_text_qualifiers.specs.Sorting.Sorted as sorted
use Rattle.lq_text_qualifiers.specs.Sorting.Sorted.{Predicate, Qualifier, Term, Variable}
use Rattle.lq_text_qualifiers.specs.Faults.Shapes.{Shape, int, bool, array, data_of, other, is_same}
use Rattle.lq_refined_templates.specs.Templates.Scopes.{Unknown}
use Rattle.lq_sound_scope.specs.Sorts.Laws.{InstancesSpeakAtSorts}
use Rattle.lq_sound_scope.specs.Sorts.Sorts.{AreWellSorted, IsNumber, IsWellSorted, IsWithin, Sorts, StandsAt, scope_sorts, unknown_sorts, with_kind}
use Rattle.lq_sound_scope.proofs.SortsLemmas.Basics.{own_stands, stands_within, within_kind}
use Rattle.lq_sound_texts.specs.Instances.Laws.{InstancesAreSorted, InstancesAreWellSorted}
use Rattle.lq_sound_texts.specs.Instances.Sorts.{AreSortedQualifiers, HasShape, IsSortedPredicate, IsSortedQualifier, IsSortedTerm}

same_shape : (s g : Shape) → is_same s g ≡ true → s ≡ g
same_shape int int h = refl
same_shape int bool h = cc
same_shape int array h = cc
same_shape int (data_of e) h = cc
same_shape int other h = cc
same_shape bool int h = cc
same_shape bool bool h = refl
same_shape bool array h = cc
same_shape bool (data_of e) h = cc
same_shape bool other h = cc
same_shape array int h = cc
same_shape array bool h = cc
same_shape array array h = refl
same_shape array (data_of e) h = cc
same_shape array other h = cc
same_shape (data_of d) int h = cc
same_shape (data_of d) bool h = cc
same_shape (data_of d) array h = cc
same_shape (data_of d) (data_of e) h = ap data_of (eqb-true d e h)
same_shape (data_of d) other h = cc
same_shape other int h = cc
same_shape other bool h = cc
same_shape other array h = cc
same_shape other (data_of e) h = cc
same_shape other other h = refl

-- ---- symbols of scopes

abbrev IsIn : Sorts → Shape → Symbol → Type 0
IsIn N s x = StandsAt N [] (kind_of s) x

-- each of the symbols has the shape's sort
abbrev AreIn : Sorts → Shape → List Symbol → Type 0
AreIn N s [] = Unit {0}
AreIn N s (x ∷ xs) = IsIn N s x × AreIn N s xs

are_within : (N M : Sorts) → IsWithin N M → (s : Shape) (xs : List Symbol) → AreIn N s xs → AreIn M s xs
are_within N M w s [] h = tt
are_within N M w s (x ∷ xs) h = (stands_within N M w [] (kind_of s) x h.0, are_within N M w s xs h.1)

shown : (Γ : Scope) (s : Shape) → AreIn (scope_sorts Γ) s (symbols_of Γ s)
shown [] s = tt
shown (e ∷ Γ) s =
    let N = scope_sorts Γ in
    let M = with_kind N (kind_of e.1) e.0 in
    by (is_same s e.1) (λ h. subst (λ g. IsIn M g e.0) (sym (same_shape s e.1 h)) (own_stands N (kind_of e.1) e.0))
    (are_within N M (within_kind N (kind_of e.1) e.0) s (symbols_of Γ s) (shown Γ s))
  where
    by : (b : Bool) → (b ≡ true → IsIn (scope_sorts (e ∷ Γ)) s e.0) → AreIn (scope_sorts (e ∷ Γ)) s (symbols_of Γ s)
        → AreIn (scope_sorts (e ∷ Γ)) s (map (λ d. d.0) (if b then e ∷ filter (λ d. is_same s d.1) Γ else filter (λ d. is_same s d.1) Γ))
    by true here rest = (here refl, rest)
    by false here rest = rest

-- ---- replacements

-- a symbol of each shape
abbrev Replaces : Sorts → List Shape → List Symbol → Type 0
Replaces N [] xs = Unit {0}
Replaces N (s ∷ ss) [] = ⊥
Replaces N (s ∷ ss) (x ∷ xs) = IsIn N s x × Replaces N ss xs

abbrev AllReplace : Sorts → List Shape → List (List Symbol) → Type 0
AllReplace N ss [] = Unit {0}
AllReplace N ss (xs ∷ xss) = Replaces N ss xs × AllReplace N ss xss

append_all : (N : Sorts) (ss : List Shape) (xss yss : List (List Symbol)) → AllReplace N ss xss → AllReplace N ss yss → AllReplace N ss (xss ++ yss)
append_all N ss [] yss a b = b
append_all N ss (xs ∷ xss) yss a b = (a.0, append_all N ss xss yss a.1 b)

before_all : (N : Sorts) (s : Shape) (ss : List Shape) (x : Symbol) (xss : List (List Symbol)) → IsIn N s x → AllReplace N ss xss
    → AllReplace N (s ∷ ss) (map (λ xs. x ∷ xs) xss)
before_all N s ss x [] h a = tt
before_all N s ss x (xs ∷ xss) h a = ((h, a.0), before_all N s ss x xss h a.1)

each_before : (N : Sorts) (s : Shape) (ss : List Shape) (xs : List Symbol) (xss : List (List Symbol)) → AreIn N s xs → AllReplace N ss xss
    → AllReplace N (s ∷ ss) (flat_map (λ x. map (λ ys. x ∷ ys) xss) xs)
each_before N s ss [] xss h a = tt
each_before N s ss (x ∷ xs) xss h a =
    append_all N (s ∷ ss) (map (λ ys. x ∷ ys) xss) (flat_map (λ y. map (λ ys. y ∷ ys) xss) xs) (before_all N s ss x xss h.0 a)
    (each_before N s ss xs xss h.1 a)

replaced : (N : Sorts) (Γ : Scope) → IsWithin (scope_sorts Γ) N → (ss : List Shape) → AllReplace N ss (replacements Γ ss)
replaced N Γ w [] = (tt, tt)
replaced N Γ w (s ∷ ss) =
    each_before N s ss (symbols_of Γ s) (replacements Γ ss) (are_within (scope_sorts Γ) N w s (symbols_of Γ s) (shown Γ s)) (replaced N Γ w ss)

placed : (N : Sorts) (ss : List Shape) (xs : List Symbol) (n : ℕ) (g : Shape) → Replaces N ss xs → slice_get ss n ≡ Some g
    → IsIn N g (or_value (slice_get xs n))
placed N [] xs n g h e = cc
placed N (s ∷ ss) [] n g h e = absurd h
placed N (s ∷ ss) (x ∷ xs) zero g h e = subst (λ z. IsIn N z x) (ap (λ o. unwrap_or o s) e) h.0
placed N (s ∷ ss) (x ∷ xs) (suc n) g h e = placed N ss xs n g h.1 e

-- ---- instances

-- of a qualifier with placeholders of these shapes, at an unknown's scope and shape
module _ (Γ : Scope) (own : Shape) (ms : List ℕ) where
  abbrev N : Sorts
  N = unknown_sorts (Γ, own)

  own_scope : IsWithin (scope_sorts Γ) N
  own_scope = within_kind (scope_sorts Γ) (kind_of own) Value

  module _ (ss : List Shape) (xs : List Symbol) (h : Replaces N ss xs) where
    symbol_in : (g : Shape) (v : Variable) → HasShape own ss g v → IsIn N g (symbol_by xs v)
    symbol_in g sorted.value k = subst (λ z. IsIn N z Value) (sym k) (own_stands (scope_sorts Γ) (kind_of own) Value)
    symbol_in g (sorted.field_at n) k = absurd k
    symbol_in g (sorted.placeholder_at n) k = placed N ss xs n g h k

    measured_on : (o : Option ℕ) (x : Symbol) → N object x ≡ true → IsNumber N (measure_by o x)
    measured_on (Some f) x k = k
    measured_on None x k = tt

    operated_on : (o : ArithOp) (a b : Sum) → IsNumber N a → IsNumber N b → IsNumber N (operated o a b)
    operated_on op.Add a b k l = (k, l)
    operated_on op.Sub a b k l = (k, l)
    operated_on op.Mul a b k l = (k, l)
    operated_on op.Div a b k l = (k, l)
    operated_on op.Mod a b k l = (k, l)

    term_on : (t : Term) → IsSortedTerm own ss t → IsNumber N (term_by ms xs t)
    term_on (sorted.literal n) k = tt
    term_on (sorted.variable v) k = symbol_in int v k
    term_on (sorted.length_of v) k = symbol_in array v k
    term_on (sorted.measured n v) k = measured_on (slice_get ms n) (symbol_by xs v) (symbol_in (data_of k.0) v k.1)
    term_on (sorted.operation o a b) k = operated_on o (term_by ms xs a) (term_by ms xs b) (term_on a k.0) (term_on b k.1)
    term_on (sorted.negative a) k = term_on a k

    constant_on : (b : Bool) → IsWellSorted N (constant_by b)
    constant_on true = tt
    constant_on false = tt

    instance_on : (p : Predicate) → IsSortedPredicate own ss p → IsWellSorted N (instance_by ms xs p)
    instance_on (sorted.constant b) k = constant_on b
    instance_on (sorted.holds v) k = symbol_in bool v k
    instance_on (sorted.comparison o a b) k = (term_on a k.0, term_on b k.1)
    instance_on (sorted.negation p) k = instance_on p k
    instance_on (sorted.conjunction p q) k = (instance_on p k.0, instance_on q k.1)
    instance_on (sorted.disjunction p q) k = (instance_on p k.0, instance_on q k.1)
    instance_on (sorted.equivalence p q) k = (instance_on p k.0, instance_on q k.1)

  abbrev Each : List Formula → Type 0
  Each ps = AreWellSorted N ps

  append_each : (ps qs : List Formula) → Each ps → Each qs → Each (ps ++ qs)
  append_each [] qs a b = b
  append_each (p ∷ ps) qs a b = (a.0, append_each ps qs a.1 b)

  each_instance : (ss : List Shape) (p : Predicate) → IsSortedPredicate own ss p → (xss : List (List Symbol)) → AllReplace N ss xss
      → Each (map (λ xs. instance_by ms xs p) xss)
  each_instance ss p k [] h = tt
  each_instance ss p k (xs ∷ xss) h = (instance_on ss xs h.0 p k, each_instance ss p k xss h.1)

  made_each : (q : Qualifier) → own ≡ q.shape → IsSortedQualifier q → Each (made_of ms Γ q)
  made_each q e k =
      each_instance q.placeholders q.predicate (subst (λ s. IsSortedPredicate s q.placeholders q.predicate) (sym e) k) (replacements Γ q.placeholders)
      (replaced N Γ own_scope q.placeholders)

  all_each : (qs : List Qualifier) → AreSortedQualifiers qs → Each (flat_map (made_of ms Γ) (of_shape qs own))
  all_each [] h = tt
  all_each (q ∷ qs) h = by (is_same own q.shape) (λ e. made_each q (same_shape own q.shape e) h.0) (all_each qs h.1)
    where
      by : (b : Bool) → (b ≡ true → Each (made_of ms Γ q)) → Each (flat_map (made_of ms Γ) (of_shape qs own))
          → Each (flat_map (made_of ms Γ) (if b then q ∷ filter (λ r. is_same own r.shape) qs else filter (λ r. is_same own r.shape) qs))
      by true here rest = append_each (made_of ms Γ q) (flat_map (made_of ms Γ) (of_shape qs own)) (here refl) rest
      by false here rest = rest

  firsts_each : (before ps : List Formula) → Each ps → Each (firsts before ps)
  firsts_each before [] h = tt
  firsts_each before (p ∷ ps) h = by (has_formula before p) (λ bs. firsts_each bs ps h.1)
    where
      by : (b : Bool) → ((bs : List Formula) → Each (firsts bs ps)) → Each (if b then firsts before ps else p ∷ firsts (before ++ p ∷ []) ps)
      by true rest = rest before
      by false rest = (h.0, rest (before ++ p ∷ []))

  instances_each : (qs : List Qualifier) → AreSortedQualifiers qs → Each (instances_of ms qs Γ own)
  instances_each qs h = firsts_each [] (flat_map (made_of ms Γ) (of_shape qs own)) (all_each qs h)

  picked_each : (f : ℕ → Bool) (k : ℕ) (ps : List Formula) → Each ps → Each (picked f k ps)
  picked_each f k [] h = tt
  picked_each f k (p ∷ ps) h = by (f k) (picked_each f (suc k) ps h.1)
    where
      by : (b : Bool) → Each (picked f (suc k) ps) → Each (cond b (p ∷ picked f (suc k) ps) (picked f (suc k) ps))
      by true rest = (h.0, rest)
      by false rest = rest

-- of an unknown by its number
abbrev EachOf : Unknown → List Formula → Type 0
EachOf u ps = let N = unknown_sorts u in AreWellSorted N ps

there : (ms : List ℕ) (qs : List Qualifier) → AreSortedQualifiers qs → (us : List Unknown) (u : ℕ)
    → EachOf (unknown_in us u) (slice_index_or (all_instances_of ms qs us) u [])
there ms qs h [] u = tt
there ms qs h (x ∷ us) zero = instances_each x.0 x.1 ms qs h
there ms qs h (x ∷ us) (suc u) = there ms qs h us u

pub instances_sorted : InstancesAreWellSorted
instances_sorted us ms qs c h u =
    let x = unknown_in us u in
    picked_each x.0 x.1 ms (c u) 0 (slice_index_or (all_instances_of ms qs us) u []) (there ms qs h us u)

-- so each speaks of names at their sorts
pub instances_speak : InstancesSpeakAtSorts → InstancesAreSorted
instances_speak speak us ms qs c h =
    speak (unknown_in us) (assigned (λ u. slice_index_or (all_instances_of ms qs us) u []) c) (instances_sorted us ms qs c h)
