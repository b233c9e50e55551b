-- A type with something put for names, and the type where the names have the values of that; and a type at values that agree.
use Rattle.std.proofs.Common.{◌≡◌, ℕ, suc, true, false, List, [], ◌∷◌, Option, Some, None, refl, sym, ap, ◌∙◌, subst}
use Rattle.lq_logic_predicates.specs.declared.symbol.Symbol.{Symbol}
use Rattle.lq_logic_predicates.specs.declared.symbol.Symbol.TheVariants as symbol
use Rattle.lq_logic_predicates.specs.Formula.{Formula, truth, falsity, flag, compare, objects, negation, conjunction, disjunction, equivalence}
use Rattle.lq_logic_predicates.specs.Sum.{Sum, whole, var, neg, add, sub, mul, div, rem, len, measure, same_symbol}
use Rattle.lq_logic_predicates.specs.Truth.{object_of, term_value, truth_of}
use Rattle.lq_meaning_steps.specs.Model.Core.{Value}
use Rattle.lq_refined_types.specs.Parts.Assignment.{IsScoped, parts_under}
use Rattle.lq_refined_types.specs.Parts.Part.{parts_by}
use Rattle.lq_refined_types.specs.Parts.Substitution.{Subst, sum_at, flag_at}
use Rattle.lq_refined_types.specs.Parts.Values.{meaning_by}
use Rattle.lq_refined_types.specs.Types.Operations.{symbol_of, type_by, types_by}
use Rattle.lq_refined_types.specs.Types.Refined.{Refined, Refineds, int_with, bool_with, unit_type, function, tuple_of, array_with, data_with, map_with, type_variable, none, more, top}
use Rattle.lq_sound_values.specs.Inhabitants.Truth.{Givens, given, value_at, as_number, as_flag, as_object, Objects, meaning_of, Scene, AreTrue}
use Rattle.lq_sound_values.specs.Inhabitants.Shut.{Shuts, with_argument, position}
use Rattle.lq_sound_values.specs.Inclusion.Symbols.{Symbols, other_than, with_symbol, with_some, SumOn, FormulaOn, EachOn, TopOn, InsideOn, ArgumentsOn, ComponentsOn, Agree}
use Rattle.lq_sound_values.specs.Inclusion.Like.{TopGives, Like, like_int, like_bool, like_unit, like_function, like_tuple, like_array, like_data, like_map, like_below, LikeAll, like_none, like_more, LikeComponents, like_no_component, like_component}
use Rattle.lq_sound_values.specs.Inclusion.Putting.{Stands, LeavesAlone, LeavesSome, LeavesNames, LeaveNames}
use Rattle.lq_sound_values.proofs.InclusionLemmas.Truths.{Lower, SameOn, value_same, object_same, truth_same, same_agree, parts_same, same_symbol-is, decide, at_self, at_but, agree_other, agree_back, agree_with}
use Rattle.lq_sound_values.proofs.InclusionLemmas.Knowing.{put_true, put_back}

-- ---- at values that agree

pub agree_some : (P : Symbols) (σ τ : Givens) (x : Option ℕ) (v : Value) → Agree P σ τ → Agree (with_some P x) (with_argument x v σ) (with_argument x v τ)
agree_some P σ τ None v f = f
agree_some P σ τ (Some x) v f = agree_with P σ τ (symbol_of x) v f

module _ (S : Scene) (by : Shuts) where
  pub top_same : (T : Refined) (P : Symbols) → TopOn S.assignment T P → (σ τ : Givens) → Agree P σ τ → TopGives S σ τ T T
  top_same T P o σ τ f v is h =
      parts_same S (with_symbol P symbol.Value) (given symbol.Value v ∷ σ) (given symbol.Value v ∷ τ) (top T) (agree_with P σ τ symbol.Value v f) o h

  mutual
    pub same_like : (T : Refined) (P : Symbols) → InsideOn S.assignment T P → (σ τ : Givens) → Agree P σ τ → Like S σ τ by by T T
    same_like (int_with p) P o σ τ f = like_int
    same_like (bool_with p) P o σ τ f = like_bool
    same_like unit_type P o σ τ f = like_unit
    same_like (function x A T) P o σ τ f =
        like_function (same_like A P o.0 τ σ (agree_back P σ τ f)) (top_same A P o.1 τ σ (agree_back P σ τ f)) (λ a is. same_like T (with_some P x) o.2 (with_argument x a σ) (with_argument x a τ) (agree_some P σ τ x a f)) (λ a is. top_same T (with_some P x) o.3 (with_argument x a σ) (with_argument x a τ) (agree_some P σ τ x a f))
    same_like (tuple_of Ts) P o σ τ f = like_tuple (same_components Ts P 0 P o σ τ f σ τ f)
    same_like (array_with E p) P o σ τ f =
        like_array (same_like E P o.0 σ τ f) (top_same E P o.1 σ τ f) (same_like E P o.0 τ σ (agree_back P σ τ f)) (top_same E P o.1 τ σ (agree_back P σ τ f))
    same_like (data_with d As M p) P o σ τ f = like_data (same_all As P o σ τ f)
    same_like (map_with E p) P o σ τ f = like_map
    same_like (type_variable a) P o σ τ f = like_below (λ κ μ t n W v h. h)

    same_all : (Ts : Refineds) (P : Symbols) → ArgumentsOn S.assignment Ts P → (σ τ : Givens) → Agree P σ τ → LikeAll S σ τ by by Ts Ts
    same_all none P o σ τ f = like_none
    same_all (more T Ts) P o σ τ f = like_more (same_like T P o.0 σ τ f) (top_same T P o.1 σ τ f) (same_all Ts P o.2 σ τ f)

    same_components : (Ts : Refineds) (P : Symbols) (k : ℕ) (Q : Symbols) → ComponentsOn S.assignment Ts P k Q → (σ τ : Givens) → Agree P σ τ → (κ μ : Givens) → Agree Q κ μ → LikeComponents S σ τ by by κ μ k Ts Ts
    same_components none P k Q o σ τ f κ μ g = like_no_component
    same_components (more T Ts) P k Q o σ τ f κ μ g =
        like_component (same_like T P o.0 σ τ f) (top_same T Q o.1 κ μ g) (λ v is. same_components Ts P (suc k) (with_symbol Q (symbol.Position (suc k))) o.2 σ τ f (position k v κ) (position k v μ) (agree_with Q κ μ (symbol.Position (suc k)) v g))

-- ---- with something put for names

abbrev pub every : Symbols
every y = true

module _ (O : Objects) (θ : Subst) where
  same_stands : (σ τ : Givens) → Stands O θ σ τ → SameOn every (meaning_by (meaning_of O σ) θ) (meaning_of O τ)
  same_stands σ τ s = record { number = λ y h. s.number y; holds = λ y h. s.holds y; object = λ y h. s.object y; length = λ i. refl; measured = λ g i. refl }

  stands_same : (σ τ : Givens) → Stands O θ σ τ → SameOn every (meaning_of O τ) (meaning_by (meaning_of O σ) θ)
  stands_same σ τ s = record { number = λ y h. sym (s.number y); holds = λ y h. sym (s.holds y); object = λ y h. sym (s.object y); length = λ i. refl; measured = λ g i. refl }

  same_beyond : (z : Symbol) (a : Value) (σ : Givens) → SameOn (other_than z) (meaning_of O (given z a ∷ σ)) (meaning_of O σ)
  same_beyond z a σ = same_agree O (other_than z) (given z a ∷ σ) σ (agree_back (other_than z) σ (given z a ∷ σ) (agree_other σ z a))

  -- one more symbol with one value, of which the substitution says nothing
  stands_with : (z : Symbol) (a : Value) (σ τ : Givens) → LeavesAlone θ z → Stands O θ σ τ → Stands O θ (given z a ∷ σ) (given z a ∷ τ)
  stands_with z a σ τ l s =
      record { number = λ y. decide _ (same_symbol z y) (number_here y) (number_there y); holds = λ y. decide _ (same_symbol z y) (holds_here y) (holds_there y); object = λ y. decide _ (same_symbol z y) (object_here y) (object_there y) }
    where
      number_here : (y : Symbol) → same_symbol z y ≡ true → term_value (meaning_of O (given z a ∷ σ)) (sum_at θ y) ≡ as_number (value_at (given z a ∷ τ) y)
      number_here y e =
          subst (λ x. term_value (meaning_of O (given z a ∷ σ)) (sum_at θ x) ≡ as_number (value_at (given z a ∷ τ) x)) (same_symbol-is z y e) (ap (term_value (meaning_of O (given z a ∷ σ))) l.own_sum ∙ ap as_number (at_self σ z a) ∙ sym (ap as_number (at_self τ z a)))

      number_there : (y : Symbol) → same_symbol z y ≡ false → term_value (meaning_of O (given z a ∷ σ)) (sum_at θ y) ≡ as_number (value_at (given z a ∷ τ) y)
      number_there y e =
          value_same (other_than z) (meaning_of O (given z a ∷ σ)) (meaning_of O σ) (same_beyond z a σ) (sum_at θ y) (l.sums y e) ∙ s.number y ∙ sym (ap as_number (at_but τ z y a e))

      holds_here : (y : Symbol) → same_symbol z y ≡ true → truth_of (meaning_of O (given z a ∷ σ)) (flag_at θ y) ≡ as_flag (value_at (given z a ∷ τ) y)
      holds_here y e =
          subst (λ x. truth_of (meaning_of O (given z a ∷ σ)) (flag_at θ x) ≡ as_flag (value_at (given z a ∷ τ) x)) (same_symbol-is z y e) (ap (truth_of (meaning_of O (given z a ∷ σ))) l.own_flag ∙ ap as_flag (at_self σ z a) ∙ sym (ap as_flag (at_self τ z a)))

      holds_there : (y : Symbol) → same_symbol z y ≡ false → truth_of (meaning_of O (given z a ∷ σ)) (flag_at θ y) ≡ as_flag (value_at (given z a ∷ τ) y)
      holds_there y e =
          truth_same (other_than z) (meaning_of O (given z a ∷ σ)) (meaning_of O σ) (same_beyond z a σ) (flag_at θ y) (l.flags y e) ∙ s.holds y ∙ sym (ap as_flag (at_but τ z y a e))

      object_here : (y : Symbol) → same_symbol z y ≡ true → object_of (meaning_of O (given z a ∷ σ)) (sum_at θ y) ≡ as_object O (value_at (given z a ∷ τ) y)
      object_here y e =
          subst (λ x. object_of (meaning_of O (given z a ∷ σ)) (sum_at θ x) ≡ as_object O (value_at (given z a ∷ τ) x)) (same_symbol-is z y e) (ap (object_of (meaning_of O (given z a ∷ σ))) l.own_sum ∙ ap (as_object O) (at_self σ z a) ∙ sym (ap (as_object O) (at_self τ z a)))

      object_there : (y : Symbol) → same_symbol z y ≡ false → object_of (meaning_of O (given z a ∷ σ)) (sum_at θ y) ≡ as_object O (value_at (given z a ∷ τ) y)
      object_there y e =
          object_same (other_than z) (meaning_of O (given z a ∷ σ)) (meaning_of O σ) (same_beyond z a σ) (sum_at θ y) (l.sums y e) ∙ s.object y ∙ sym (ap (as_object O) (at_but τ z y a e))

  stands_some : (x : Option ℕ) (a : Value) (σ τ : Givens) → LeavesSome θ x → Stands O θ σ τ → Stands O θ (with_argument x a σ) (with_argument x a τ)
  stands_some None a σ τ l s = s
  stands_some (Some x) a σ τ l s = stands_with (symbol_of x) a σ τ l s

-- each predicate speaks of some symbols
sum_every : (t : Sum) → SumOn every t
sum_every (whole n) = tt
sum_every (var x) = refl
sum_every (neg a) = sum_every a
sum_every (add a b) = (sum_every a, sum_every b)
sum_every (sub a b) = (sum_every a, sum_every b)
sum_every (mul a b) = (sum_every a, sum_every b)
sum_every (div a b) = (sum_every a, sum_every b)
sum_every (rem a b) = (sum_every a, sum_every b)
sum_every (len a) = sum_every a
sum_every (measure f a) = sum_every a

formula_every : (p : Formula) → FormulaOn every p
formula_every truth = tt
formula_every falsity = tt
formula_every (flag x) = refl
formula_every (compare o a b) = (sum_every a, sum_every b)
formula_every (objects a b) = (sum_every a, sum_every b)
formula_every (negation p) = formula_every p
formula_every (conjunction p q) = (formula_every p, formula_every q)
formula_every (disjunction p q) = (formula_every p, formula_every q)
formula_every (equivalence p q) = (formula_every p, formula_every q)

each_every : (ps : List Formula) → EachOn every ps
each_every [] = tt
each_every (p ∷ ps) = (formula_every p, each_every ps)

module _ (law : Lower) (S : Scene) (scoped : IsScoped S.setting.scopes S.assignment) (by : Shuts) (θ : Subst) (alone : LeavesAlone θ symbol.Value) (apart : (k : ℕ) → LeavesAlone θ (symbol.Position (suc k))) where
  top-by : (T : Refined) → top (type_by S.setting.scopes θ T) ≡ parts_by S.setting.scopes θ (top T)
  top-by (int_with p) = refl
  top-by (bool_with p) = refl
  top-by unit_type = refl
  top-by (function x A T) = refl
  top-by (tuple_of Ts) = refl
  top-by (array_with E p) = refl
  top-by (data_with d As M p) = refl
  top-by (map_with E p) = refl
  top-by (type_variable a) = refl

  -- the top with what is put, and the top at its values
  pub top_forth : (T : Refined) (σ τ : Givens) → Stands S.objects θ σ τ → TopGives S σ τ (type_by S.setting.scopes θ T) T
  top_forth T σ τ s v is h =
      put_back law S scoped every (given symbol.Value v ∷ τ) (given symbol.Value v ∷ σ) θ (top T) (same_stands S.objects θ (given symbol.Value v ∷ σ) (given symbol.Value v ∷ τ) (stands_with S.objects θ symbol.Value v σ τ alone s)) (each_every (parts_under S.assignment (top T))) (subst (AreTrue S (given symbol.Value v ∷ σ)) (top-by T) h)

  pub top_back : (T : Refined) (σ τ : Givens) → Stands S.objects θ σ τ → TopGives S τ σ T (type_by S.setting.scopes θ T)
  top_back T σ τ s v is h =
      subst (AreTrue S (given symbol.Value v ∷ σ)) (sym (top-by T)) (put_true law S scoped every (given symbol.Value v ∷ τ) (given symbol.Value v ∷ σ) θ (top T) (stands_same S.objects θ (given symbol.Value v ∷ σ) (given symbol.Value v ∷ τ) (stands_with S.objects θ symbol.Value v σ τ alone s)) (each_every (parts_under S.assignment (top T))) h)

  mutual
    pub forth_like : (T : Refined) → LeavesNames θ T → (σ τ : Givens) → Stands S.objects θ σ τ → Like S σ τ by by (type_by S.setting.scopes θ T) T
    forth_like (int_with p) l σ τ s = like_int
    forth_like (bool_with p) l σ τ s = like_bool
    forth_like unit_type l σ τ s = like_unit
    forth_like (function x A T) l σ τ s =
        like_function (back_like A l.1 σ τ s) (top_back A σ τ s) (λ a is. forth_like T l.2 (with_argument x a σ) (with_argument x a τ) (stands_some S.objects θ x a σ τ l.0 s)) (λ a is. top_forth T (with_argument x a σ) (with_argument x a τ) (stands_some S.objects θ x a σ τ l.0 s))
    forth_like (tuple_of Ts) l σ τ s = like_tuple (forth_components Ts l 0 σ τ s σ τ s)
    forth_like (array_with E p) l σ τ s = like_array (forth_like E l σ τ s) (top_forth E σ τ s) (back_like E l σ τ s) (top_back E σ τ s)
    forth_like (data_with d As M p) l σ τ s = like_data (forth_all As l σ τ s)
    forth_like (map_with E p) l σ τ s = like_map
    forth_like (type_variable a) l σ τ s = like_below (λ κ μ t n W v h. h)

    forth_all : (Ts : Refineds) → LeaveNames θ Ts → (σ τ : Givens) → Stands S.objects θ σ τ → LikeAll S σ τ by by (types_by S.setting.scopes θ Ts) Ts
    forth_all none l σ τ s = like_none
    forth_all (more T Ts) l σ τ s = like_more (forth_like T l.0 σ τ s) (top_forth T σ τ s) (forth_all Ts l.1 σ τ s)

    forth_components : (Ts : Refineds) → LeaveNames θ Ts → (k : ℕ) (σ τ : Givens) → Stands S.objects θ σ τ → (κ μ : Givens) → Stands S.objects θ κ μ → LikeComponents S σ τ by by κ μ k (types_by S.setting.scopes θ Ts) Ts
    forth_components none l k σ τ s κ μ r = like_no_component
    forth_components (more T Ts) l k σ τ s κ μ r =
        like_component (forth_like T l.0 σ τ s) (top_forth T κ μ r) (λ v is. forth_components Ts l.1 (suc k) σ τ s (position k v κ) (position k v μ) (stands_with S.objects θ (symbol.Position (suc k)) v κ μ (apart k) r))

    pub back_like : (T : Refined) → LeavesNames θ T → (σ τ : Givens) → Stands S.objects θ σ τ → Like S τ σ by by T (type_by S.setting.scopes θ T)
    back_like (int_with p) l σ τ s = like_int
    back_like (bool_with p) l σ τ s = like_bool
    back_like unit_type l σ τ s = like_unit
    back_like (function x A T) l σ τ s =
        like_function (forth_like A l.1 σ τ s) (top_forth A σ τ s) (λ a is. back_like T l.2 (with_argument x a σ) (with_argument x a τ) (stands_some S.objects θ x a σ τ l.0 s)) (λ a is. top_back T (with_argument x a σ) (with_argument x a τ) (stands_some S.objects θ x a σ τ l.0 s))
    back_like (tuple_of Ts) l σ τ s = like_tuple (back_components Ts l 0 σ τ s σ τ s)
    back_like (array_with E p) l σ τ s = like_array (back_like E l σ τ s) (top_back E σ τ s) (forth_like E l σ τ s) (top_forth E σ τ s)
    back_like (data_with d As M p) l σ τ s = like_data (back_all As l σ τ s)
    back_like (map_with E p) l σ τ s = like_map
    back_like (type_variable a) l σ τ s = like_below (λ κ μ t n W v h. h)

    back_all : (Ts : Refineds) → LeaveNames θ Ts → (σ τ : Givens) → Stands S.objects θ σ τ → LikeAll S τ σ by by Ts (types_by S.setting.scopes θ Ts)
    back_all none l σ τ s = like_none
    back_all (more T Ts) l σ τ s = like_more (back_like T l.0 σ τ s) (top_back T σ τ s) (back_all Ts l.1 σ τ s)

    back_components : (Ts : Refineds) → LeaveNames θ Ts → (k : ℕ) (σ τ : Givens) → Stands S.objects θ σ τ → (κ μ : Givens) → Stands S.objects θ κ μ → LikeComponents S τ σ by by μ κ k Ts (types_by S.setting.scopes θ Ts)
    back_components none l k σ τ s κ μ r = like_no_component
    back_components (more T Ts) l k σ τ s κ μ r =
        like_component (back_like T l.0 σ τ s) (top_back T κ μ r) (λ v is. back_components Ts l.1 (suc k) σ τ s (position k v κ) (position k v μ) (stands_with S.objects θ (symbol.Position (suc k)) v κ μ (apart k) r))
