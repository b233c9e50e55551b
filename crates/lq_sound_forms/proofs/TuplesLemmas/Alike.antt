-- Types read at values that no predicate tells apart, as where one more name has a function or a tuple for its value.
use Rattle.std.proofs.Common.{◌≡◌, ◌⊎◌, inl, inr, ℕ, suc, pos, Bool, true, false, cond, List, [], ◌∷◌, Option, Some, None, refl, sym, ap, ◌∙◌, subst}
use Rattle.lq_logic_predicates.specs.declared.symbol.Symbol.{Symbol}
use Rattle.lq_logic_predicates.specs.declared.symbol.Symbol.TheVariants as symbol
use Rattle.lq_logic_predicates.specs.Formula.{Formula, truth, falsity, flag, compare, objects, negation, conjunction, disjunction, equivalence}
use Rattle.lq_logic_predicates.specs.Sum.{Sum, whole, var, neg, add, sub, mul, div, rem, len, measure, same_symbol}
use Rattle.lq_meaning_steps.specs.Model.Core.{Value, v_fun, v_rec, v_tuple}
use Rattle.lq_refined_types.specs.Parts.Assignment.{parts_under}
use Rattle.lq_refined_types.specs.Parts.Part.{Parts, Scopes}
use Rattle.lq_refined_types.specs.Types.Operations.{symbol_of}
use Rattle.lq_refined_types.specs.Types.Refined.{Refined, Refineds, int_with, bool_with, unit_type, function, tuple_of, array_with, data_with, map_with, type_variable, none, more, top}
use Rattle.lq_refined_rules.specs.Checks.Pure.{variable_type}
use Rattle.lq_sound_values.specs.Inhabitants.Truth.{Givens, given, value_at, as_number, as_flag, as_object, Objects, meaning_of, Scene, AreTrue}
use Rattle.lq_sound_values.specs.Inhabitants.Shut.{shut, Shuts, with_argument, position}
use Rattle.lq_sound_values.specs.Inhabitants.Inhabits.{Table, Inhabits}
use Rattle.lq_sound_values.specs.Inhabitants.Below.{Below}
use Rattle.lq_sound_values.specs.Inhabitants.Datatypes.{DatatypesFit}
use Rattle.lq_sound_values.specs.Inclusion.Laws.{IsScene}
use Rattle.lq_sound_values.specs.Inclusion.Like.{TopGives, Like, like_int, like_bool, like_unit, like_function, like_tuple, like_array, like_data, like_map, like_below, LikeAll, like_none, like_more, LikeComponents, like_no_component, like_component}
use Rattle.lq_sound_values.specs.Inclusion.Symbols.{Symbols, SumOn, FormulaOn, EachOn, InsideOn}
use Rattle.lq_sound_values.proofs.InclusionLemmas.Likes.{inside_like}
use Rattle.lq_sound_values.proofs.InclusionLemmas.Putting.{every}
use Rattle.lq_sound_values.proofs.InclusionLemmas.Truths.{each_same, same_symbol-is, decide, at_but}

-- ---- values

-- each symbol has the same number, the same truth value and the same object
record Alike (O : Objects) (σ τ : Givens) : Type 0 where
  number : (y : Symbol) → as_number (value_at σ y) ≡ as_number (value_at τ y)
  holds : (y : Symbol) → as_flag (value_at σ y) ≡ as_flag (value_at τ y)
  object : (y : Symbol) → as_object O (value_at σ y) ≡ as_object O (value_at τ y)

alike_back : (O : Objects) (σ τ : Givens) → Alike O σ τ → Alike O τ σ
alike_back O σ τ a = record { number = λ y. sym (a.number y); holds = λ y. sym (a.holds y); object = λ y. sym (a.object y) }

kept : (X : Type 0) (f : Option Value → X) (b : Bool) (v : Value) (o q : Option Value) → f o ≡ f q → f (cond b (Some v) o) ≡ f (cond b (Some v) q)
kept X f true v o q h = refl
kept X f false v o q h = h

alike_with : (O : Objects) (σ τ : Givens) (x : Symbol) (v : Value) → Alike O σ τ → Alike O (given x v ∷ σ) (given x v ∷ τ)
alike_with O σ τ x v a =
    record { number = λ y. kept _ as_number (same_symbol x y) v (value_at σ y) (value_at τ y) (a.number y); holds = λ y. kept _ as_flag (same_symbol x y) v (value_at σ y) (value_at τ y) (a.holds y); object = λ y. kept _ (as_object O) (same_symbol x y) v (value_at σ y) (value_at τ y) (a.object y) }

alike_some : (O : Objects) (σ τ : Givens) (x : Option ℕ) (v : Value) → Alike O σ τ → Alike O (with_argument x v σ) (with_argument x v τ)
alike_some O σ τ None v a = a
alike_some O σ τ (Some x) v a = alike_with O σ τ (symbol_of x) v a

-- a value has no number, no truth value and no object
abbrev pub IsPlain : Objects → Value → Type 0
IsPlain O v = (as_number (Some v) ≡ pos 0) × (as_flag (Some v) ≡ false) × (as_object O (Some v) ≡ 0)

alike_new : (O : Objects) (σ : Givens) (x : Symbol) (v : Value) → value_at σ x ≡ None → IsPlain O v → Alike O σ (given x v ∷ σ)
alike_new O σ x v absent p =
    record { number = new _ as_number (sym p.0); holds = new _ as_flag (sym p.1); object = new _ (as_object O) (sym p.2) }
  where
    new : (X : Type 0) (f : Option Value → X) → f None ≡ f (Some v) → (y : Symbol) → f (value_at σ y) ≡ f (value_at (given x v ∷ σ) y)
    new X f e y =
        decide _ (same_symbol x y) (λ s. ap f (subst (λ z. value_at σ z ≡ None) (same_symbol-is x y s) absent) ∙ e ∙ sym (ap (λ b. f (cond b (Some v) (value_at σ y))) s)) (λ s. ap f (sym (at_but σ x y v s)))

-- ---- predicates

sum_every : (t : Sum) → SumOn every t
sum_every (whole n) = tt
sum_every (var x) = refl
sum_every (neg a) = sum_every a
sum_every (add a b) = (sum_every a, sum_every b)
sum_every (sub a b) = (sum_every a, sum_every b)
sum_every (mul a b) = (sum_every a, sum_every b)
sum_every (div a b) = (sum_every a, sum_every b)
sum_every (rem a b) = (sum_every a, sum_every b)
sum_every (len a) = sum_every a
sum_every (measure f a) = sum_every a

formula_every : (p : Formula) → FormulaOn every p
formula_every truth = tt
formula_every falsity = tt
formula_every (flag x) = refl
formula_every (compare o a b) = (sum_every a, sum_every b)
formula_every (objects a b) = (sum_every a, sum_every b)
formula_every (negation p) = formula_every p
formula_every (conjunction p q) = (formula_every p, formula_every q)
formula_every (disjunction p q) = (formula_every p, formula_every q)
formula_every (equivalence p q) = (formula_every p, formula_every q)

each_every : (ps : List Formula) → EachOn every ps
each_every [] = tt
each_every (p ∷ ps) = (formula_every p, each_every ps)

-- ---- types

module _ (S : Scene) (by : Shuts) where
  true_alike : (σ τ : Givens) → Alike S.objects σ τ → (ps : Parts) → AreTrue S σ ps → AreTrue S τ ps
  true_alike σ τ a ps h =
      each_same every (meaning_of S.objects σ) (meaning_of S.objects τ) record { number = λ y i. a.number y; holds = λ y i. a.holds y; object = λ y i. a.object y; length = λ i. refl; measured = λ g i. refl } (parts_under S.assignment ps) (each_every (parts_under S.assignment ps)) h

  top_alike : (T : Refined) (σ τ : Givens) → Alike S.objects σ τ → TopGives S σ τ T T
  top_alike T σ τ a v is h =
      true_alike (given symbol.Value v ∷ σ) (given symbol.Value v ∷ τ) (alike_with S.objects σ τ symbol.Value v a) (top T) h

  mutual
    type_alike : (T : Refined) (σ τ : Givens) → Alike S.objects σ τ → Like S σ τ by by T T
    type_alike (int_with p) σ τ a = like_int
    type_alike (bool_with p) σ τ a = like_bool
    type_alike unit_type σ τ a = like_unit
    type_alike (function x A T) σ τ a =
        let back = alike_back S.objects σ τ a in
        like_function (type_alike A τ σ back) (top_alike A τ σ back) (λ u is. type_alike T (with_argument x u σ) (with_argument x u τ) (alike_some S.objects σ τ x u a)) (λ u is. top_alike T (with_argument x u σ) (with_argument x u τ) (alike_some S.objects σ τ x u a))
    type_alike (tuple_of Ts) σ τ a = like_tuple (components_alike Ts 0 σ τ a σ τ a)
    type_alike (array_with E p) σ τ a =
        let back = alike_back S.objects σ τ a in
        like_array (type_alike E σ τ a) (top_alike E σ τ a) (type_alike E τ σ back) (top_alike E τ σ back)
    type_alike (data_with d As M p) σ τ a = like_data (all_alike As σ τ a)
    type_alike (map_with E p) σ τ a = like_map
    type_alike (type_variable i) σ τ a = like_below (λ κ μ t n W v h. h)

    all_alike : (Ts : Refineds) (σ τ : Givens) → Alike S.objects σ τ → LikeAll S σ τ by by Ts Ts
    all_alike none σ τ a = like_none
    all_alike (more T Ts) σ τ a = like_more (type_alike T σ τ a) (top_alike T σ τ a) (all_alike Ts σ τ a)

    components_alike : (Ts : Refineds) (k : ℕ) (σ τ : Givens) → Alike S.objects σ τ → (κ μ : Givens) → Alike S.objects κ μ → LikeComponents S σ τ by by κ μ k Ts Ts
    components_alike none k σ τ a κ μ b = like_no_component
    components_alike (more T Ts) k σ τ a κ μ b =
        like_component (type_alike T σ τ a) (top_alike T κ μ b) (λ v is. components_alike Ts (suc k) σ τ a (position k v κ) (position k v μ) (alike_with S.objects κ μ (symbol.Position (suc k)) v b))

-- a symbol without a value gets one that says nothing of it
pub plain_below : DatatypesFit → (S : Scene) → IsScene S → (by : Shuts) (σ : Givens) (x : Symbol) (v : Value) → value_at σ x ≡ None → IsPlain S.objects v → (t : Refined) → Below S (shut σ by t) (shut (given x v ∷ σ) by t)
plain_below fit S is by σ x v absent p t =
    let τ = given x v ∷ σ in
    let a = alike_new S.objects σ x v absent p in
    inside_like fit S is.covariant (type_alike S by t σ τ a) σ τ (top_alike S by t σ τ a)

-- ---- variables' own types

function_plain : (S : Scene) (n : ℕ) (W : Table) (σ : Givens) (by : Shuts) (x : Option ℕ) (a b : Refined) (v : Value) → Inhabits S n W (shut σ by (function x a b)) v → IsPlain S.objects v
function_plain S n W σ by x a b (v_fun p c) h = (refl, refl, refl)
function_plain S n W σ by x a b (v_rec f p c) h = (refl, refl, refl)
function_plain S n W σ by x a b _ h = absurd h.0

tuple_plain : (S : Scene) (n : ℕ) (W : Table) (σ : Givens) (by : Shuts) (ts : Refineds) (v : Value) → Inhabits S n W (shut σ by (tuple_of ts)) v → IsPlain S.objects v
tuple_plain S n W σ by ts (v_tuple vs) h = (refl, refl, refl)
tuple_plain S n W σ by ts _ h = absurd h.0

-- what is inside a variable's own type speaks of what it does in the variable's type, or no predicate says anything of the type's values
pub own_inside : (S : Scene) (scopes : Scopes) (x : ℕ) (N : Symbols) (t : Refined) → InsideOn S.assignment t N → InsideOn S.assignment (variable_type scopes x t) N ⊎ ((n : ℕ) (W : Table) (σ : Givens) (by : Shuts) (v : Value) → Inhabits S n W (shut σ by (variable_type scopes x t)) v → IsPlain S.objects v)
own_inside S scopes x N (int_with p) i = inl tt
own_inside S scopes x N (bool_with p) i = inl tt
own_inside S scopes x N unit_type i = inl tt
own_inside S scopes x N (function y a b) i = inr (λ n W σ by v h. function_plain S n W σ by _ _ _ v h)
own_inside S scopes x N (tuple_of ts) i = inr (λ n W σ by v h. tuple_plain S n W σ by _ v h)
own_inside S scopes x N (array_with e p) i = inl i
own_inside S scopes x N (data_with d ts m p) i = inl i
own_inside S scopes x N (map_with e p) i = inl tt
own_inside S scopes x N (type_variable j) i = inl tt
