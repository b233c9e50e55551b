-- The truth of predicates: under values that agree, and of a valid implication's goal.
use Rattle.std.proofs.Common.{◌≡◌, append_assoc, map, ℕ, pos, ◌+ℤ◌, ◌-ℤ◌, ◌*ℤ◌, ◌==◌, ◌&&◌, ◌||◌, not, Bool, true, false, cond, List, [], ◌∷◌, ◌++◌, Option, Some, refl, sym, ap, ap₂, ◌∙◌, subst}
use Rattle.std.proofs.lemmas.Bool.{eqb-true, eq-eqb}
use Rattle.lq_base_names.specs.declared.name.Name.{Name}
use Rattle.lq_logic_predicates.specs.declared.symbol.Symbol.{Symbol}
use Rattle.lq_logic_predicates.specs.declared.symbol.Symbol.TheVariants as symbol
use Rattle.lq_logic_predicates.specs.Sum.{Sum, whole, var, neg, add, sub, mul, div, rem, len, measure, same_symbol}
use Rattle.lq_logic_predicates.specs.Formula.{Formula, truth, falsity, flag, compare, objects, negation, conjunction, disjunction, equivalence}
use Rattle.lq_logic_predicates.specs.Truth.{Meaning, object_of, term_value, truth_of, quotient, remainder, compares, same_truth, IsTrueIn}
use Rattle.lq_logic_predicates.specs.ClosedImplication.{ClosedImplication, IsValid, EachTrueIn}
use Rattle.lq_refined_types.specs.Parts.Assignment.{Assignment, part_under, parts_under, joined, all_joined, goal_under, Implied}
use Rattle.lq_refined_types.specs.Parts.Laws.{UnderBy}
use Rattle.lq_refined_types.specs.Parts.Values.{TruthBy}
use Rattle.lq_refined_types.specs.Parts.Part.{Part, known, unknown, Parts}
use Rattle.lq_refined_types.specs.Parts.Substitution.{formula_by}
use Rattle.lq_refined_types.specs.Subtyping.Implication.{EachImplied}
use Rattle.lq_meaning_steps.specs.Model.Core.{Value}
use Rattle.lq_sound_values.specs.Inhabitants.Truth.{Givens, given, value_at, as_number, as_flag, as_object, Objects, meaning_of, Scene, AreTrue}
use Rattle.lq_sound_values.specs.Inclusion.Symbols.{Symbols, other_than, with_symbol, SumOn, FormulaOn, EachOn, PartsOn, Lacks, Agree}

-- two meanings that are one on these symbols
pub record SameOn (P : Symbols) (m o : Meaning) : Type 0 where
  pub number : (x : Symbol) → P x ≡ true → m.number x ≡ o.number x
  pub holds : (x : Symbol) → P x ≡ true → m.holds x ≡ o.holds x
  pub object : (x : Symbol) → P x ≡ true → m.object x ≡ o.object x
  pub length : (i : ℕ) → m.length i ≡ o.length i
  pub measured : (f : Name) (i : ℕ) → m.measured f i ≡ o.measured f i

module _ (P : Symbols) (m o : Meaning) (s : SameOn P m o) where
  pub object_same : (t : Sum) → SumOn P t → object_of m t ≡ object_of o t
  object_same (var x) h = s.object x h
  object_same (whole n) h = refl
  object_same (neg a) h = refl
  object_same (add a b) h = refl
  object_same (sub a b) h = refl
  object_same (mul a b) h = refl
  object_same (div a b) h = refl
  object_same (rem a b) h = refl
  object_same (len a) h = refl
  object_same (measure f a) h = refl

  pub value_same : (t : Sum) → SumOn P t → term_value m t ≡ term_value o t
  value_same (whole n) h = refl
  value_same (var x) h = s.number x h
  value_same (neg a) h = ap (λ n. pos 0 -ℤ n) (value_same a h)
  value_same (add a b) h = ap₂ (λ k n. k +ℤ n) (value_same a h.0) (value_same b h.1)
  value_same (sub a b) h = ap₂ (λ k n. k -ℤ n) (value_same a h.0) (value_same b h.1)
  value_same (mul a b) h = ap₂ (λ k n. k *ℤ n) (value_same a h.0) (value_same b h.1)
  value_same (div a b) h = ap₂ quotient (value_same a h.0) (value_same b h.1)
  value_same (rem a b) h = ap₂ remainder (value_same a h.0) (value_same b h.1)
  value_same (len a) h = s.length (object_of m a) ∙ ap o.length (object_same a h)
  value_same (measure f a) h = s.measured f (object_of m a) ∙ ap (o.measured f) (object_same a h)

  pub truth_same : (p : Formula) → FormulaOn P p → truth_of m p ≡ truth_of o p
  truth_same truth h = refl
  truth_same falsity h = refl
  truth_same (flag x) h = s.holds x h
  truth_same (compare c a b) h = ap₂ (compares c) (value_same a h.0) (value_same b h.1)
  truth_same (objects a b) h = ap₂ (λ k n. k == n) (object_same a h.0) (object_same b h.1)
  truth_same (negation p) h = ap not (truth_same p h)
  truth_same (conjunction p q) h = ap₂ (λ a b. a && b) (truth_same p h.0) (truth_same q h.1)
  truth_same (disjunction p q) h = ap₂ (λ a b. a || b) (truth_same p h.0) (truth_same q h.1)
  truth_same (equivalence p q) h = ap₂ same_truth (truth_same p h.0) (truth_same q h.1)

  pub each_same : (ps : List Formula) → EachOn P ps → EachTrueIn m ps → EachTrueIn o ps
  each_same [] h t = tt
  each_same (p ∷ ps) h t = (sym (truth_same p h.0) ∙ t.0, each_same ps h.1 t.1)

pub each_append : (m : Meaning) (ps qs : List Formula) → EachTrueIn m ps → EachTrueIn m qs → EachTrueIn m (ps ++ qs)
each_append m [] qs h k = k
each_append m (p ∷ ps) qs h k = (h.0, each_append m ps qs h.1 k)

pub each_first : (m : Meaning) (ps qs : List Formula) → EachTrueIn m (ps ++ qs) → EachTrueIn m ps
each_first m [] qs h = tt
each_first m (p ∷ ps) qs h = (h.0, each_first m ps qs h.1)

pub each_second : (m : Meaning) (ps qs : List Formula) → EachTrueIn m (ps ++ qs) → EachTrueIn m qs
each_second m [] qs h = h
each_second m (p ∷ ps) qs h = each_second m ps qs h.1

pub under-append : (A : Assignment) (ps qs : Parts) → parts_under A (ps ++ qs) ≡ parts_under A ps ++ parts_under A qs
under-append A [] qs = refl
under-append A (p ∷ ps) qs = ap (λ l. part_under A p ++ l) (under-append A ps qs) ∙ sym (append_assoc (part_under A p) (parts_under A ps) (parts_under A qs))

pub parts_append : (S : Scene) (σ : Givens) (ps qs : Parts) → AreTrue S σ ps → AreTrue S σ qs → AreTrue S σ (ps ++ qs)
parts_append S σ ps qs h k =
    subst (EachTrueIn (meaning_of S.objects σ)) (sym (under-append S.assignment ps qs)) (each_append (meaning_of S.objects σ) (parts_under S.assignment ps) (parts_under S.assignment qs) h k)

pub parts_first : (S : Scene) (σ : Givens) (q : Part) (qs : Parts) → AreTrue S σ (q ∷ qs) → AreTrue S σ (q ∷ [])
parts_first S σ q qs h =
    each_append (meaning_of S.objects σ) (part_under S.assignment q) [] (each_first (meaning_of S.objects σ) (part_under S.assignment q) (parts_under S.assignment qs) h) tt

pub parts_rest : (S : Scene) (σ : Givens) (q : Part) (qs : Parts) → AreTrue S σ (q ∷ qs) → AreTrue S σ qs
parts_rest S σ q qs h = each_second (meaning_of S.objects σ) (part_under S.assignment q) (parts_under S.assignment qs) h

and_first : (a b : Bool) → a && b ≡ true → a ≡ true
and_first true b h = refl
and_first false b h = h

and_second : (a b : Bool) → a && b ≡ true → b ≡ true
and_second true b h = h
and_second false b h = absurd (cc)

joined_first : (m : Meaning) (p : Formula) (ps : List Formula) → IsTrueIn m (joined p ps) → IsTrueIn m p × EachTrueIn m ps
joined_first m p [] h = (h, tt)
joined_first m p (q ∷ qs) h =
    let r = joined_first m (conjunction p q) qs h in
    (and_first (truth_of m p) (truth_of m q) r.0, (and_second (truth_of m p) (truth_of m q) r.0, r.1))

all_joined_true : (m : Meaning) (ps : List Formula) → IsTrueIn m (all_joined ps) → EachTrueIn m ps
all_joined_true m [] h = tt
all_joined_true m (p ∷ ps) h = joined_first m p ps h

goal_true : (m : Meaning) (A : Assignment) (q : Part) → IsTrueIn m (goal_under A q) → EachTrueIn m (part_under A q)
goal_true m A (known p) h = (h, tt)
goal_true m A (unknown u σ) h = all_joined_true m (map (formula_by σ) (A u)) h

-- a valid implication whose hypotheses are true of values has a true goal
abbrev pub ValidIsTrue : Type 0
ValidIsTrue = (m : Meaning) (i : ClosedImplication) → IsValid i → EachTrueIn m i.hypotheses → IsTrueIn m i.goal

-- what the crates below say of predicates and of substitutions
pub record Lower : Type 0 where
  pub valid : ValidIsTrue
  pub truth-by : TruthBy
  pub under-by : UnderBy

pub implied_true : Lower → (S : Scene) (σ : Givens) (hs : Parts) (q : Part) → Implied S.assignment hs q → AreTrue S σ hs → EachTrueIn (meaning_of S.objects σ) (part_under S.assignment q)
implied_true law S σ hs q v h =
    let A = S.assignment in
    goal_true (meaning_of S.objects σ) A q (law.valid (meaning_of S.objects σ) record { hypotheses = parts_under A hs; goal = goal_under A q } v h)

pub each_implied_true : Lower → (S : Scene) (σ : Givens) (hs qs : Parts) → EachImplied S.assignment hs qs → AreTrue S σ hs → AreTrue S σ qs
each_implied_true law S σ hs [] v h = tt
each_implied_true law S σ hs (q ∷ qs) v h =
    each_append (meaning_of S.objects σ) (part_under S.assignment q) (parts_under S.assignment qs) (implied_true law S σ hs q v.0 h) (each_implied_true law S σ hs qs v.1 h)

-- ---- values for symbols

pub same_symbol-refl : (x : Symbol) → same_symbol x x ≡ true
same_symbol-refl symbol.Value = refl
same_symbol-refl (symbol.Bound x) = eq-eqb x.0 x.0 refl
same_symbol-refl (symbol.Position i) = eq-eqb i i refl

pub same_symbol-is : (x y : Symbol) → same_symbol x y ≡ true → x ≡ y
same_symbol-is symbol.Value symbol.Value h = refl
same_symbol-is (symbol.Bound x) (symbol.Bound y) h = ap (λ n. symbol.Bound (record { 0 = n })) (eqb-true x.0 y.0 h)
same_symbol-is (symbol.Position i) (symbol.Position j) h = ap symbol.Position (eqb-true i j h)
same_symbol-is symbol.Value (symbol.Bound y) h = absurd (cc)
same_symbol-is symbol.Value (symbol.Position j) h = absurd (cc)
same_symbol-is (symbol.Bound x) symbol.Value h = absurd (cc)
same_symbol-is (symbol.Bound x) (symbol.Position j) h = absurd (cc)
same_symbol-is (symbol.Position i) symbol.Value h = absurd (cc)
same_symbol-is (symbol.Position i) (symbol.Bound y) h = absurd (cc)

-- the value that a symbol has where it is the first
pub at_self : (σ : Givens) (x : Symbol) (v : Value) → value_at (given x v ∷ σ) x ≡ Some v
at_self σ x v = ap (λ b. cond b (Some v) (value_at σ x)) (same_symbol-refl x)

pub at_but : (σ : Givens) (x y : Symbol) (v : Value) → same_symbol x y ≡ false → value_at (given x v ∷ σ) y ≡ value_at σ y
at_but σ x y v h = ap (λ b. cond b (Some v) (value_at σ y)) h

pub not_false : (b : Bool) → not b ≡ true → b ≡ false
not_false true h = absurd (cc)
not_false false h = refl

pub false_not : (b : Bool) → b ≡ false → not b ≡ true
false_not true h = absurd (cc)
false_not false h = refl

-- by cases of a test
pub decide : (R : Type 0) (b : Bool) → (b ≡ true → R) → (b ≡ false → R) → R
decide R true f g = f refl
decide R false f g = g refl

pub agree_other : (σ : Givens) (x : Symbol) (v : Value) → Agree (other_than x) σ (given x v ∷ σ)
agree_other σ x v y h = sym (at_but σ x y v (not_false (same_symbol x y) h))

pub agree_back : (P : Symbols) (σ τ : Givens) → Agree P σ τ → Agree P τ σ
agree_back P σ τ f y h = sym (f y h)

cond_same : (b p : Bool) (v : Value) (o q : Option Value) → (p ≡ true → o ≡ q) → p || b ≡ true → cond b (Some v) o ≡ cond b (Some v) q
cond_same true p v o q f h = refl
cond_same false true v o q f h = f refl
cond_same false false v o q f h = absurd (cc)

-- one more symbol with one value
pub agree_with : (P : Symbols) (σ τ : Givens) (x : Symbol) (v : Value) → Agree P σ τ → Agree (with_symbol P x) (given x v ∷ σ) (given x v ∷ τ)
agree_with P σ τ x v f y h = cond_same (same_symbol x y) (P y) v (value_at σ y) (value_at τ y) (f y) h

pub same_agree : (O : Objects) (P : Symbols) (σ τ : Givens) → Agree P σ τ → SameOn P (meaning_of O σ) (meaning_of O τ)
same_agree O P σ τ f =
    record { number = λ y h. ap as_number (f y h); holds = λ y h. ap as_flag (f y h); object = λ y h. ap (as_object O) (f y h); length = λ i. refl; measured = λ g i. refl }

-- parts that speak of these symbols alone are true of values that agree on them
pub parts_same : (S : Scene) (P : Symbols) (σ τ : Givens) (ps : Parts) → Agree P σ τ → PartsOn S.assignment P ps → AreTrue S σ ps → AreTrue S τ ps
parts_same S P σ τ ps f o h =
    each_same P (meaning_of S.objects σ) (meaning_of S.objects τ) (same_agree S.objects P σ τ f) (parts_under S.assignment ps) o h

-- a value for a symbol of which nothing is said
pub still_true : (S : Scene) (σ : Givens) (x : Symbol) (v : Value) (ps : Parts) → Lacks S.assignment x ps → AreTrue S σ ps → AreTrue S (given x v ∷ σ) ps
still_true S σ x v ps l h = parts_same S (other_than x) σ (given x v ∷ σ) ps (agree_other σ x v) l h
