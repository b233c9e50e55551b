-- Of which names the hypotheses of a closed environment speak, and that a new name may be bound.
use Rattle.std.proofs.Common.{◌≡◌, ℕ, suc, Option, Some, None, ◌⊎◌, inl, inr, ◌||◌, Bool, true, false, cond, map, List, [], ◌∷◌, ◌++◌, refl, sym, subst}
use Rattle.lq_logic_predicates.specs.declared.symbol.Symbol.{Symbol}
use Rattle.lq_logic_predicates.specs.declared.symbol.Symbol.TheVariants as symbol
use Rattle.lq_logic_predicates.specs.Formula.{Formula, truth, falsity, flag, compare, objects, negation, conjunction, disjunction, equivalence}
use Rattle.lq_logic_predicates.specs.Sum.{Sum, whole, var, neg, add, sub, mul, div, rem, len, measure, same_symbol}
use Rattle.lq_refined_types.specs.Parts.Assignment.{Assignment, parts_under}
use Rattle.lq_refined_types.specs.Parts.Part.{Parts, parts_by}
use Rattle.lq_refined_types.specs.Parts.Substitution.{Subst, swap, sum_by, formula_by}
use Rattle.lq_refined_types.specs.Types.Context.{Context, name, guard, IsNew}
use Rattle.lq_refined_types.specs.Types.Operations.{symbol_of, atom_of}
use Rattle.lq_refined_types.specs.Types.Refined.{Refined, Refineds, int_with, bool_with, unit_type, function, tuple_of, array_with, data_with, map_with, type_variable, none, more, Kind, number, truth_value, object, other, kind, top}
use Rattle.lq_refined_types.specs.Subtyping.Subtype.{facts}
use Rattle.lq_sound_values.specs.Inhabitants.Truth.{Givens, given, Scene}
use Rattle.lq_meaning_steps.specs.Model.Core.{Value}
use Rattle.lq_sound_values.specs.Inclusion.Symbols.{Symbols, other_than, with_symbol, with_some, SumOn, FormulaOn, EachOn, PartsOn, Lacks, TopOn, InsideOn, ArgumentsOn, ComponentsOn, TypeOn, Agree}
use Rattle.lq_sound_values.specs.Inclusion.Apart.{MayBind}
use Rattle.lq_sound_values.specs.Inclusion.Laws.{IsScene}
use Rattle.lq_sound_values.proofs.InclusionLemmas.Truths.{same_symbol-is, same_symbol-refl, under-append, at_but, decide, false_not}
use Rattle.lq_sound_values.specs.Runs.Closed.{names_in, with_value, SortedOn, EachSorted, PartsSorted, IsClosedIn, IsClosed, Binds}
use Rattle.lq_sound_values.proofs.RunsLemmas.Lower.{Lower}

-- ---- sets of symbols

abbrev pub Within : Symbols → Symbols → Type 0
Within P Q = (y : Symbol) → P y ≡ true → Q y ≡ true

pub or_left : (a b : Bool) → a ≡ true → a || b ≡ true
or_left true b h = refl
or_left false b h = absurd (cc)

pub or_right : (a b : Bool) → b ≡ true → a || b ≡ true
or_right true b h = refl
or_right false b h = h

pub or_parts : (R : Type 0) (a b : Bool) → a || b ≡ true → (a ≡ true → R) → (b ≡ true → R) → R
or_parts R true b h f g = f refl
or_parts R false b h f g = g h

pub within_with : (P : Symbols) (x : Symbol) → Within P (with_symbol P x)
within_with P x y h = or_left (P y) (same_symbol x y) h

pub with_within : (P Q : Symbols) (x : Symbol) → Within P Q → Within (with_symbol P x) (with_symbol Q x)
with_within P Q x f y h =
    or_parts (with_symbol Q x y ≡ true) (P y) (same_symbol x y) h (λ p. or_left (Q y) (same_symbol x y) (f y p)) (λ s. or_right (Q y) (same_symbol x y) s)

some_within : (P Q : Symbols) (x : Option ℕ) → Within P Q → Within (with_some P x) (with_some Q x)
some_within P Q None f = f
some_within P Q (Some x) f = with_within P Q (symbol_of x) f

pub sum_more : (P Q : Symbols) → Within P Q → (t : Sum) → SumOn P t → SumOn Q t
sum_more P Q f (whole n) h = tt
sum_more P Q f (var x) h = f x h
sum_more P Q f (neg a) h = sum_more P Q f a h
sum_more P Q f (add a b) h = (sum_more P Q f a h.0, sum_more P Q f b h.1)
sum_more P Q f (sub a b) h = (sum_more P Q f a h.0, sum_more P Q f b h.1)
sum_more P Q f (mul a b) h = (sum_more P Q f a h.0, sum_more P Q f b h.1)
sum_more P Q f (div a b) h = (sum_more P Q f a h.0, sum_more P Q f b h.1)
sum_more P Q f (rem a b) h = (sum_more P Q f a h.0, sum_more P Q f b h.1)
sum_more P Q f (len a) h = sum_more P Q f a h
sum_more P Q f (measure g a) h = sum_more P Q f a h

pub formula_more : (P Q : Symbols) → Within P Q → (p : Formula) → FormulaOn P p → FormulaOn Q p
formula_more P Q f truth h = tt
formula_more P Q f falsity h = tt
formula_more P Q f (flag x) h = f x h
formula_more P Q f (compare o a b) h = (sum_more P Q f a h.0, sum_more P Q f b h.1)
formula_more P Q f (objects a b) h = (sum_more P Q f a h.0, sum_more P Q f b h.1)
formula_more P Q f (negation p) h = formula_more P Q f p h
formula_more P Q f (conjunction p q) h = (formula_more P Q f p h.0, formula_more P Q f q h.1)
formula_more P Q f (disjunction p q) h = (formula_more P Q f p h.0, formula_more P Q f q h.1)
formula_more P Q f (equivalence p q) h = (formula_more P Q f p h.0, formula_more P Q f q h.1)

pub each_more : (P Q : Symbols) → Within P Q → (ps : List Formula) → EachOn P ps → EachOn Q ps
each_more P Q f [] h = tt
each_more P Q f (p ∷ ps) h = (formula_more P Q f p h.0, each_more P Q f ps h.1)

each_append : (P : Symbols) (ps qs : List Formula) → EachOn P ps → EachOn P qs → EachOn P (ps ++ qs)
each_append P [] qs h k = k
each_append P (p ∷ ps) qs h k = (h.0, each_append P ps qs h.1 k)

pub parts_append : (A : Assignment) (P : Symbols) (ps qs : Parts) → PartsOn A P ps → PartsOn A P qs → PartsOn A P (ps ++ qs)
parts_append A P ps qs h k = subst (EachOn P) (sym (under-append A ps qs)) (each_append P (parts_under A ps) (parts_under A qs) h k)

-- ---- types

module _ (A : Assignment) where
  pub top_more : (t : Refined) (P Q : Symbols) → Within P Q → TopOn A t P → TopOn A t Q
  top_more t P Q f h = each_more (with_symbol P symbol.Value) (with_symbol Q symbol.Value) (with_within P Q symbol.Value f) (parts_under A (top t)) h

  mutual
    pub inside_more : (t : Refined) (P Q : Symbols) → Within P Q → InsideOn A t P → InsideOn A t Q
    inside_more (int_with p) P Q f h = tt
    inside_more (bool_with p) P Q f h = tt
    inside_more unit_type P Q f h = tt
    inside_more (function x a b) P Q f h =
        let g = some_within P Q x f in
        (inside_more a P Q f h.0, top_more a P Q f h.1, inside_more b (with_some P x) (with_some Q x) g h.2, top_more b (with_some P x) (with_some Q x) g h.3)
    inside_more (tuple_of ts) P Q f h = components_more ts P Q f 0 P Q f h
    inside_more (array_with e p) P Q f h = (inside_more e P Q f h.0, top_more e P Q f h.1)
    inside_more (data_with d ts m p) P Q f h = arguments_more ts P Q f h
    inside_more (map_with e p) P Q f h = tt
    inside_more (type_variable i) P Q f h = tt

    arguments_more : (ts : Refineds) (P Q : Symbols) → Within P Q → ArgumentsOn A ts P → ArgumentsOn A ts Q
    arguments_more none P Q f h = tt
    arguments_more (more t ts) P Q f h = (inside_more t P Q f h.0, top_more t P Q f h.1, arguments_more ts P Q f h.2)

    components_more : (ts : Refineds) (P Q : Symbols) → Within P Q → (k : ℕ) (R T : Symbols) → Within R T → ComponentsOn A ts P k R → ComponentsOn A ts Q k T
    components_more none P Q f k R T g h = tt
    components_more (more t ts) P Q f k R T g h =
        (inside_more t P Q f h.0, top_more t R T g h.1, components_more ts P Q f (suc k) (with_symbol R (symbol.Position (suc k))) (with_symbol T (symbol.Position (suc k))) (with_within R T (symbol.Position (suc k)) g) h.2)

  pub type_more : (t : Refined) (P Q : Symbols) → Within P Q → TypeOn A t P → TypeOn A t Q
  type_more t P Q f h = (inside_more t P Q f h.0, top_more t P Q f h.1)

-- ---- names of an environment

same-sym : (x y : Symbol) → same_symbol x y ≡ false → same_symbol y x ≡ false
same-sym x y h =
    decide (same_symbol y x ≡ false) (same_symbol y x) (λ e. absurd (clash (same_symbol x y) h (subst (λ z. same_symbol x z ≡ true) (sym (same_symbol-is y x e)) (same_symbol-refl x)))) (λ e. e)
  where
    clash : (b : Bool) → b ≡ false → b ≡ true → ⊥
    clash true p q = cc
    clash false p q = cc

-- a new name is none of the names
pub new_name : (Γ : Context) (x y : Symbol) → IsNew x Γ → names_in Γ y ≡ true → same_symbol x y ≡ false
new_name [] x y n h = absurd (cc)
new_name (name z t ∷ Γ) x y n h =
    or_parts (same_symbol x y ≡ false) (names_in Γ y) (same_symbol z y) h (λ p. new_name Γ x y n.1 p) (λ s. subst (λ k. same_symbol x k ≡ false) (same_symbol-is z y s) (same-sym z x n.0))
new_name (guard p ∷ Γ) x y n h = new_name Γ x y n h

pub agree_new : (Γ : Context) (x : Symbol) (v : Value) (σ : Givens) → IsNew x Γ → Agree (names_in Γ) (given x v ∷ σ) σ
agree_new Γ x v σ n y h = at_but σ x y v (new_name Γ x y n h)

-- nor is v
value_apart_in : (S : Scene) (N : Symbols) (Γ : Context) → IsClosedIn S N Γ → (y : Symbol) → names_in Γ y ≡ true → same_symbol symbol.Value y ≡ false
value_apart_in S N [] c y h = absurd (cc)
value_apart_in S N (name z t ∷ Γ) c y h =
    or_parts (same_symbol symbol.Value y ≡ false) (names_in Γ y) (same_symbol z y) h (λ p. value_apart_in S N Γ c.3 y p) (λ s. subst (λ k. same_symbol symbol.Value k ≡ false) (same_symbol-is z y s) (same-sym z symbol.Value c.0))
value_apart_in S N (guard p ∷ Γ) c y h = value_apart_in S N Γ c.1 y h

pub value_apart : (S : Scene) (Γ : Context) → IsClosed S Γ → (y : Symbol) → names_in Γ y ≡ true → same_symbol symbol.Value y ≡ false
value_apart S Γ c y h = value_apart_in S (names_in Γ) Γ c y h

-- ---- more names

-- what is inside may speak of more
pub closed_more : (S : Scene) (M N : Symbols) → Within M N → (Γ : Context) → IsClosedIn S M Γ → IsClosedIn S N Γ
closed_more S M N f [] c = tt
closed_more S M N f (name x t ∷ Γ) c = (c.0, c.1, ((inside_more S.assignment t M N f c.2.0.0, c.2.0.1), c.2.1), closed_more S M N f Γ c.3)
closed_more S M N f (guard p ∷ Γ) c = (c.0, closed_more S M N f Γ c.1)

-- so an environment with one more name is closed
pub closed_bind : (S : Scene) (x : Symbol) (t : Refined) (Γ : Context) → Binds S x t Γ → IsClosed S (name x t ∷ Γ)
closed_bind S x t Γ c =
    let f = within_with (names_in Γ) x in
    (c.0, c.1, ((inside_more S.assignment t (names_in Γ) (with_symbol (names_in Γ) x) f c.2.0.0, c.2.0.1), c.2.1), closed_more S (names_in Γ) (with_symbol (names_in Γ) x) f Γ c.3)

-- ---- hypotheses

module _ (P : Symbols) (x : Symbol) where
  named_sum : (t : Sum) → SumOn (with_value P) t → SumOn (with_symbol P x) (sum_by (swap symbol.Value (atom_of number x) ∷ []) t)
  named_sum (whole n) h = tt
  named_sum (var y) h =
      at_place (same_symbol symbol.Value y) (or_parts ((same_symbol symbol.Value y ≡ true) ⊎ (P y ≡ true)) (P y) (same_symbol symbol.Value y) h (λ p. inr p) (λ s. inl s))
    where
      at_place : (b : Bool) → (b ≡ true) ⊎ (P y ≡ true) → SumOn (with_symbol P x) (cond b (var x) (var y))
      at_place true k = or_right (P x) (same_symbol x x) (same_symbol-refl x)
      at_place false (inl e) = absurd (cc)
      at_place false (inr p) = or_left (P y) (same_symbol x y) p
  named_sum (neg a) h = named_sum a h
  named_sum (add a b) h = (named_sum a h.0, named_sum b h.1)
  named_sum (sub a b) h = (named_sum a h.0, named_sum b h.1)
  named_sum (mul a b) h = (named_sum a h.0, named_sum b h.1)
  named_sum (div a b) h = (named_sum a h.0, named_sum b h.1)
  named_sum (rem a b) h = (named_sum a h.0, named_sum b h.1)
  named_sum (len a) h = named_sum a h
  named_sum (measure f a) h = named_sum a h

  -- with a term for v
  named_term : (p : Formula) → SortedOn (with_value P) P p → FormulaOn (with_symbol P x) (formula_by (swap symbol.Value (atom_of number x) ∷ []) p)
  named_term truth h = tt
  named_term falsity h = tt
  named_term (flag y) h = or_left (P y) (same_symbol x y) h
  named_term (compare o a b) h = (named_sum a h.0, named_sum b h.1)
  named_term (objects a b) h = (named_sum a h.0, named_sum b h.1)
  named_term (negation p) h = named_term p h
  named_term (conjunction p q) h = (named_term p h.0, named_term q h.1)
  named_term (disjunction p q) h = (named_term p h.0, named_term q h.1)
  named_term (equivalence p q) h = (named_term p h.0, named_term q h.1)

  kept_sum : (t : Sum) → SumOn P t → SumOn (with_symbol P x) (sum_by (swap symbol.Value (atom_of truth_value x) ∷ []) t)
  kept_sum (whole n) h = tt
  kept_sum (var y) h = or_left (P y) (same_symbol x y) h
  kept_sum (neg a) h = kept_sum a h
  kept_sum (add a b) h = (kept_sum a h.0, kept_sum b h.1)
  kept_sum (sub a b) h = (kept_sum a h.0, kept_sum b h.1)
  kept_sum (mul a b) h = (kept_sum a h.0, kept_sum b h.1)
  kept_sum (div a b) h = (kept_sum a h.0, kept_sum b h.1)
  kept_sum (rem a b) h = (kept_sum a h.0, kept_sum b h.1)
  kept_sum (len a) h = kept_sum a h
  kept_sum (measure f a) h = kept_sum a h

  -- with a flag for v
  named_flag : (p : Formula) → SortedOn P (with_value P) p → FormulaOn (with_symbol P x) (formula_by (swap symbol.Value (atom_of truth_value x) ∷ []) p)
  named_flag truth h = tt
  named_flag falsity h = tt
  named_flag (flag y) h =
      at_place (same_symbol symbol.Value y) (or_parts ((same_symbol symbol.Value y ≡ true) ⊎ (P y ≡ true)) (P y) (same_symbol symbol.Value y) h (λ p. inr p) (λ s. inl s))
    where
      at_place : (b : Bool) → (b ≡ true) ⊎ (P y ≡ true) → FormulaOn (with_symbol P x) (cond b (flag x) (flag y))
      at_place true k = or_right (P x) (same_symbol x x) (same_symbol-refl x)
      at_place false (inl e) = absurd (cc)
      at_place false (inr p) = or_left (P y) (same_symbol x y) p
  named_flag (compare o a b) h = (kept_sum a h.0, kept_sum b h.1)
  named_flag (objects a b) h = (kept_sum a h.0, kept_sum b h.1)
  named_flag (negation p) h = named_flag p h
  named_flag (conjunction p q) h = (named_flag p h.0, named_flag q h.1)
  named_flag (disjunction p q) h = (named_flag p h.0, named_flag q h.1)
  named_flag (equivalence p q) h = (named_flag p h.0, named_flag q h.1)

  each_term : (ps : List Formula) → EachSorted (with_value P) P ps → EachOn (with_symbol P x) (map (formula_by (swap symbol.Value (atom_of number x) ∷ [])) ps)
  each_term [] h = tt
  each_term (p ∷ ps) h = (named_term p h.0, each_term ps h.1)

  each_flag : (ps : List Formula) → EachSorted P (with_value P) ps → EachOn (with_symbol P x) (map (formula_by (swap symbol.Value (atom_of truth_value x) ∷ [])) ps)
  each_flag [] h = tt
  each_flag (p ∷ ps) h = (named_flag p h.0, each_flag ps h.1)

  each_named : (A : Assignment) (k : Kind) (ps : Parts) → PartsSorted A k P ps → EachOn (with_symbol P x) (map (formula_by (swap symbol.Value (atom_of k x) ∷ [])) (parts_under A ps))
  each_named A number ps h = each_term (parts_under A ps) h
  each_named A truth_value ps h = each_flag (parts_under A ps) h
  each_named A object ps h = each_term (parts_under A ps) h
  each_named A other ps h = each_term (parts_under A ps) h

module _ (law : Lower) (S : Scene) (is : IsScene S) where
  -- the hypotheses of a closed environment speak of its names
  facts_in : (N : Symbols) (Γ : Context) → IsClosedIn S N Γ → PartsOn S.assignment (names_in Γ) (facts S.setting Γ)
  facts_in N [] c = tt
  facts_in N (name x t ∷ Γ) c =
      let θ : Subst = swap symbol.Value (atom_of (kind t) x) ∷ [] in
      parts_append S.assignment (with_symbol (names_in Γ) x) (facts S.setting Γ) (parts_by S.setting.scopes θ (top t)) (each_more (names_in Γ) (with_symbol (names_in Γ) x) (within_with (names_in Γ) x) (parts_under S.assignment (facts S.setting Γ)) (facts_in N Γ c.3)) (subst (EachOn (with_symbol (names_in Γ) x)) (sym (law.under-by S.setting.scopes S.assignment θ (top t) is.scoped)) (each_named (names_in Γ) x S.assignment (kind t) (top t) c.2.1))
  facts_in N (guard p ∷ Γ) c =
      parts_append S.assignment (names_in Γ) (facts S.setting Γ) (p ∷ []) (facts_in N Γ c.1) c.0

  pub facts_on : (Γ : Context) → IsClosed S Γ → PartsOn S.assignment (names_in Γ) (facts S.setting Γ)
  facts_on Γ c = facts_in (names_in Γ) Γ c

  lacks_value_in : (N : Symbols) (Γ : Context) → IsClosedIn S N Γ → Lacks S.assignment symbol.Value (facts S.setting Γ)
  lacks_value_in N Γ c =
      each_more (names_in Γ) (other_than symbol.Value) (λ y h. false_not (same_symbol symbol.Value y) (value_apart_in S N Γ c y h)) (parts_under S.assignment (facts S.setting Γ)) (facts_in N Γ c)

  pub lacks_value : (Γ : Context) → IsClosed S Γ → Lacks S.assignment symbol.Value (facts S.setting Γ)
  lacks_value Γ c = lacks_value_in (names_in Γ) Γ c

  -- so a new name may be bound
  pub may_bind_in : (N : Symbols) (Γ : Context) (x : Symbol) (t : Refined) → IsClosedIn S N (name x t ∷ Γ) → MayBind S x t Γ
  may_bind_in N Γ x t c = (
    each_more (names_in Γ) (other_than x) (λ y h. false_not (same_symbol x y) (new_name Γ x y c.1 h)) (parts_under S.assignment (facts S.setting Γ)) (facts_in N Γ c.3),
    each_more (with_symbol (names_in Γ) symbol.Value) (other_than x) (λ y h. or_parts (other_than x y ≡ true) (names_in Γ y) (same_symbol symbol.Value y) h (λ p. false_not (same_symbol x y) (new_name Γ x y c.1 p)) (λ s. subst (λ z. other_than x z ≡ true) (same_symbol-is symbol.Value y s) (false_not (same_symbol x symbol.Value) c.0))) (parts_under S.assignment (top t)) c.2.0.1,
    c.0,
    lacks_value_in N (name x t ∷ Γ) c,
  )

  pub may_bind : (Γ : Context) (x : Symbol) (t : Refined) → Binds S x t Γ → MayBind S x t Γ
  may_bind Γ x t c = may_bind_in (with_symbol (names_in Γ) x) Γ x t (closed_bind S x t Γ c)
