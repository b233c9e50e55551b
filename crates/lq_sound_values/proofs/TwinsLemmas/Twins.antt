-- A type has the inhabitants of its twin.
use Rattle.std.proofs.Common.{◌≡◌, ◌⊎◌, inl, inr, ℕ, suc, ◌||◌, not, Bool, true, false, cond, ◌==◌, [], ◌∷◌, Some, None, refl, sym, ap, ◌∙◌, subst}
use Rattle.std.proofs.lemmas.Bool.{eqb-true}
use Rattle.lq_logic_predicates.specs.declared.symbol.Symbol.{Symbol}
use Rattle.lq_logic_predicates.specs.declared.symbol.Symbol.TheVariants as symbol
use Rattle.lq_logic_predicates.specs.Sum.{same_symbol}
use Rattle.lq_meaning_steps.specs.Model.Core.{Value, v_whole, v_flag, v_unit, v_fun, v_rec, v_tuple, v_array, v_build, Values, no_values, more_values}
use Rattle.lq_refined_types.specs.Parts.Assignment.{Assignment}
use Rattle.lq_refined_types.specs.Parts.Laws.{UnderBy}
use Rattle.lq_refined_types.specs.Parts.Substitution.{Subst, swap}
use Rattle.lq_refined_types.specs.Types.Operations.{symbol_of, type_by, atom_of, twin_of, twin, twins}
use Rattle.lq_refined_types.specs.Types.Refined.{Refined, Refineds, int_with, bool_with, unit_type, function, tuple_of, array_with, data_with, map_with, type_variable, none, more, Kind, number, truth_value, object, other, kind}
use Rattle.lq_sound_values.specs.Inhabitants.Truth.{Givens, given, value_at, as_number, as_flag, as_object, Objects, Scene}
use Rattle.lq_sound_values.specs.Inhabitants.Shut.{shut, read_at, Shuts, shut_all, position, components}
use Rattle.lq_sound_values.specs.Inhabitants.Inhabits.{Table, Inhabits}
use Rattle.lq_sound_values.specs.Inhabitants.Below.{Below, AllBelow}
use Rattle.lq_sound_values.specs.Inhabitants.Datatypes.{DatatypesFit}
use Rattle.lq_sound_values.proofs.InhabitantsLemmas.Keeping.{AllFit}
use Rattle.lq_sound_values.specs.Inclusion.Laws.{IsScene, TypesThin, PutTypesFit}
use Rattle.lq_sound_values.specs.Inclusion.Putting.{StandsFor, Stands, Leaves}
use Rattle.lq_sound_values.specs.Inclusion.Symbols.{Symbols, other_than, with_symbol, InsideOn, ArgumentsOn, ComponentsOn, TypeOn, Agree}
use Rattle.lq_sound_values.proofs.InclusionLemmas.Forms.{function_below, array_below, tuple_below}
use Rattle.lq_sound_values.proofs.InclusionLemmas.Subtypes.{data_by}
use Rattle.lq_sound_values.proofs.InclusionLemmas.Truths.{same_symbol-is, same_symbol-refl, decide, not_false, false_not, at_self, at_but, agree_with}
use Rattle.lq_sound_values.specs.Twins.Laws.{IsNeutralFor}
use Rattle.lq_sound_values.specs.Twins.Names.{AtomOn, IsNoVariable, with_twins, NamesApart, AllNamesApart, IsNeutralAt, IsNeutral, AreNeutral}
use Rattle.lq_sound_values.proofs.TwinsLemmas.Leaving.{apart_from, twin_leaves, or_false, or_second, or_none, apart_outside}
use Rattle.lq_sound_values.proofs.TwinsLemmas.Speaking.{swap_over, Everywhere, type_on, everywhere, put_everywhere, twin_everywhere}
use Rattle.lq_sound_values.proofs.TwinsLemmas.Standing.{leaves_alone, one_stands}
use Rattle.lq_sound_values.proofs.TwinsLemmas.Widening.{Within, or_left, or_right, type_more}

-- ---- an argument's value for its name's twin

pub no_flag : (S : Scene) (n : ℕ) (W : Table) (σ : Givens) (by : Shuts) (t : Refined) → IsNoVariable t → (kind t ≡ truth_value → ⊥) → (v : Value) → Inhabits S n W (shut σ by t) v → as_flag (Some v) ≡ false
no_flag S n W σ by t i k (v_whole z) h = refl
no_flag S n W σ by t i k v_unit h = refl
no_flag S n W σ by t i k (v_fun q b) h = refl
no_flag S n W σ by t i k (v_rec f q b) h = refl
no_flag S n W σ by t i k (v_tuple vs) h = refl
no_flag S n W σ by t i k (v_array r z) h = refl
no_flag S n W σ by t i k (v_build c vs) h = refl
no_flag S n W σ by (int_with p) i k (v_flag b) h = absurd h.0
no_flag S n W σ by (bool_with p) i k (v_flag b) h = absurd (k refl)
no_flag S n W σ by unit_type i k (v_flag b) h = absurd h.0
no_flag S n W σ by (function x c d) i k (v_flag b) h = absurd h.0
no_flag S n W σ by (tuple_of ts) i k (v_flag b) h = absurd h.0
no_flag S n W σ by (array_with e p) i k (v_flag b) h = absurd h.0
no_flag S n W σ by (data_with d ts m p) i k (v_flag b) h = absurd h.0
no_flag S n W σ by (map_with e p) i k (v_flag b) h = absurd h.0
no_flag S n W σ by (type_variable j) i k (v_flag b) h = absurd i

-- an atom of a kind stands for the value of a symbol
sum_for : (O : Objects) (ρ : Givens) (y : Symbol) (v : Value) → value_at ρ y ≡ Some v → as_flag (Some v) ≡ false → StandsFor O ρ (atom_of number y) v
sum_for O ρ y v e f = (ap as_number e, f, ap (as_object O) e)

atom_for : (S : Scene) (n : ℕ) (W : Table) (σ : Givens) (by : Shuts) (t : Refined) → IsNoVariable t → (ρ : Givens) (y : Symbol) (v : Value) → value_at ρ y ≡ Some v → Inhabits S n W (shut σ by t) v → StandsFor S.objects ρ (atom_of (kind t) y) v
atom_for S n W σ by (int_with p) i ρ y v e h = sum_for S.objects ρ y v e (no_flag S n W σ by (int_with p) i (λ z. cc) v h)
atom_for S n W σ by (bool_with p) i ρ y (v_flag b) e h = (refl, ap as_flag e, refl)
atom_for S n W σ by (bool_with p) i ρ y _ e h = absurd h.0
atom_for S n W σ by unit_type i ρ y v e h = sum_for S.objects ρ y v e (no_flag S n W σ by unit_type i (λ z. cc) v h)
atom_for S n W σ by (function x c d) i ρ y v e h = sum_for S.objects ρ y v e (no_flag S n W σ by (function x c d) i (λ z. cc) v h)
atom_for S n W σ by (tuple_of ts) i ρ y v e h = sum_for S.objects ρ y v e (no_flag S n W σ by (tuple_of ts) i (λ z. cc) v h)
atom_for S n W σ by (array_with a p) i ρ y v e h = sum_for S.objects ρ y v e (no_flag S n W σ by (array_with a p) i (λ z. cc) v h)
atom_for S n W σ by (data_with d ts m p) i ρ y v e h = sum_for S.objects ρ y v e (no_flag S n W σ by (data_with d ts m p) i (λ z. cc) v h)
atom_for S n W σ by (map_with a p) i ρ y v e h = sum_for S.objects ρ y v e (no_flag S n W σ by (map_with a p) i (λ z. cc) v h)
atom_for S n W σ by (type_variable j) i ρ y v e h = absurd i

neutral_for : (O : Objects) (ρ : Givens) (k : Kind) (y : Symbol) (x : ℕ) → IsNeutralAt O ρ k (symbol_of x) → IsNeutralFor O ρ (atom_of k y) x
neutral_for O ρ number y x h = h
neutral_for O ρ truth_value y x h = h
neutral_for O ρ object y x h = h
neutral_for O ρ other y x h = h

neutral_with : (O : Objects) (σ : Givens) (k : Kind) (x y : Symbol) (v : Value) → same_symbol y x ≡ false → IsNeutralAt O σ k x → IsNeutralAt O (given y v ∷ σ) k x
neutral_with O σ number x y v e h = ap as_flag (at_but σ y x v e) ∙ h
neutral_with O σ truth_value x y v e h = (ap as_number (at_but σ y x v e) ∙ h.0, ap (as_object O) (at_but σ y x v e) ∙ h.1)
neutral_with O σ object x y v e h = ap as_flag (at_but σ y x v e) ∙ h
neutral_with O σ other x y v e h = ap as_flag (at_but σ y x v e) ∙ h

-- a value of no sort
unit_for : (O : Objects) (ρ : Givens) (k : Kind) (y : Symbol) → value_at ρ y ≡ Some v_unit → StandsFor O ρ (atom_of k y) v_unit
unit_for O ρ number y e = sum_for O ρ y v_unit e refl
unit_for O ρ truth_value y e = (refl, ap as_flag e, refl)
unit_for O ρ object y e = sum_for O ρ y v_unit e refl
unit_for O ρ other y e = sum_for O ρ y v_unit e refl

unit_neutral : (O : Objects) (ρ : Givens) (k : Kind) (x : Symbol) → value_at ρ x ≡ Some v_unit → IsNeutralAt O ρ k x
unit_neutral O ρ number x e = ap as_flag e
unit_neutral O ρ truth_value x e = (ap as_number e, ap (as_object O) e)
unit_neutral O ρ object x e = ap as_flag e
unit_neutral O ρ other x e = ap as_flag e

-- more values leave a type's names neutral, where they are of other symbols
module _ (A : Assignment) (O : Objects) (y : Symbol) (v : Value) where
  mutual
    neutral_more : (P : Symbols) → P y ≡ true → (t : Refined) → NamesApart A P t → (σ : Givens) → IsNeutral O σ t → IsNeutral O (given y v ∷ σ) t
    neutral_more P m (int_with p) a σ h = tt
    neutral_more P m (bool_with p) a σ h = tt
    neutral_more P m unit_type a σ h = tt
    neutral_more P m (function None b c) a σ h = (neutral_more P m b a.0 σ h.0, neutral_more P m c a.1 σ h.1)
    neutral_more P m (function (Some x) b c) a σ h = (
      λ i. neutral_with O σ (kind b) (symbol_of x) y v (apart_from P y (symbol_of x) m a.0) (h.0 i),
      at_but σ y (symbol_of (twin_of x)) v (apart_from P y (symbol_of (twin_of x)) m a.1) ∙ h.1,
      neutral_more P m b a.3 σ h.2,
      neutral_more (with_twins P x) (or_left (with_symbol P (symbol_of x) y) (same_symbol (symbol_of (twin_of x)) y) (or_left (P y) (same_symbol (symbol_of x) y) m)) c a.4 σ h.3,
    )
    neutral_more P m (tuple_of ts) a σ h = all_neutral_more P m ts a σ h
    neutral_more P m (array_with e p) a σ h = neutral_more P m e a σ h
    neutral_more P m (data_with d ts n p) a σ h = all_neutral_more P m ts a σ h
    neutral_more P m (map_with e p) a σ h = tt
    neutral_more P m (type_variable i) a σ h = tt

    all_neutral_more : (P : Symbols) → P y ≡ true → (ts : Refineds) → AllNamesApart A P ts → (σ : Givens) → AreNeutral O σ ts → AreNeutral O (given y v ∷ σ) ts
    all_neutral_more P m none a σ h = tt
    all_neutral_more P m (more t ts) a σ h = (neutral_more P m t a.0 σ h.0, all_neutral_more P m ts a.1 σ h.1)

never : (b : Bool) → b ≡ false → b ≡ true → ⊥
never true p q = cc
never false p q = cc

same-sym : (x y : Symbol) → same_symbol x y ≡ false → same_symbol y x ≡ false
same-sym x y h =
    decide (same_symbol y x ≡ false) (same_symbol y x) (λ e. absurd (never (same_symbol x y) h (subst (λ z. same_symbol x z ≡ true) (sym (same_symbol-is y x e)) (same_symbol-refl x)))) (λ e. e)

-- ---- a type and its twin

within_twins : (P : Symbols) (x : ℕ) → Within (with_symbol P (symbol_of x)) (with_twins P x)
within_twins P x y h = or_left (with_symbol P (symbol_of x) y) (same_symbol (symbol_of (twin_of x)) y) h

same_self : (x : ℕ) → same_symbol (symbol_of x) (symbol_of x) ≡ true
same_self x = same_symbol-refl (symbol_of x)

-- both ways, whatever the values at which the top is read
abbrev Both : Scene → Givens → Shuts → Refined → Refined → Type 0
Both S σ by t u = (κ : Givens) → Below S (read_at κ σ by t) (read_at κ σ by u) × Below S (read_at κ σ by u) (read_at κ σ by t)

module _ (thin : TypesThin) (put : PutTypesFit) (fit : DatatypesFit) (under : UnderBy) (S : Scene) (is : IsScene S) (by : Shuts) where
  -- the results of a function type and of its twin, where the name isn't its own twin
  module _ (P : Symbols) (x : ℕ) (a b : Refined) (on : TypeOn S.assignment b (with_symbol P (symbol_of x))) (apart : NamesApart S.assignment P (function (Some x) a b)) (σ : Givens) (neutral : IsNeutral S.objects σ (function (Some x) a b)) (differ : same_symbol (symbol_of (twin_of x)) (symbol_of x) ≡ false) where
    abbrev result_subst : Subst
    result_subst = swap (symbol_of x) (atom_of (kind a) (symbol_of (twin_of x))) ∷ []

    here : with_twins P x (symbol_of x) ≡ true
    here = or_left (with_symbol P (symbol_of x) (symbol_of x)) (same_symbol (symbol_of (twin_of x)) (symbol_of x)) (or_right (P (symbol_of x)) (same_symbol (symbol_of x) (symbol_of x)) (same_self x))

    there : with_twins P x (symbol_of (twin_of x)) ≡ true
    there = or_right (with_symbol P (symbol_of x) (symbol_of (twin_of x))) (same_symbol (symbol_of (twin_of x)) (symbol_of (twin_of x))) (same_self (twin_of x))

    atom_over : AtomOn (with_twins P x) (atom_of (kind a) (symbol_of (twin_of x)))
    atom_over = by_kind (kind a)
      where
        by_kind : (k : Kind) → AtomOn (with_twins P x) (atom_of k (symbol_of (twin_of x)))
        by_kind number = there
        by_kind truth_value = there
        by_kind object = there
        by_kind other = there

    leaves : Leaves result_subst (twin S.setting.scopes b)
    leaves =
        record { value = leaves_alone (symbol_of x) symbol.Value (atom_of (kind a) (symbol_of (twin_of x))) refl (value_over (kind a)); positions = λ k. leaves_alone (symbol_of x) (symbol.Position (suc k)) (atom_of (kind a) (symbol_of (twin_of x))) refl (position_over (kind a) k); names = twin_leaves S.setting.scopes (with_twins P x) (symbol_of x) (atom_of (kind a) (symbol_of (twin_of x))) here atom_over b (apart_outside S.assignment (with_twins P x) b apart.4) }
      where
        value_over : (k : Kind) → AtomOn (other_than symbol.Value) (atom_of k (symbol_of (twin_of x)))
        value_over number = refl
        value_over truth_value = refl
        value_over object = refl
        value_over other = refl

        position_over : (k : Kind) (j : ℕ) → AtomOn (other_than (symbol.Position (suc j))) (atom_of k (symbol_of (twin_of x)))
        position_over number j = refl
        position_over truth_value j = refl
        position_over object j = refl
        position_over other j = refl

    -- where the argument is of no variable type
    module _ (known : IsNoVariable a) (v : Value) (n : ℕ) (W : Table) (h : Inhabits S n W (shut σ by a) v) where
      abbrev ρ : Givens
      ρ = given (symbol_of (twin_of x)) v ∷ σ

      stands : Stands S.objects result_subst ρ (given (symbol_of x) v ∷ ρ)
      stands =
          one_stands S.objects ρ x v (atom_of (kind a) (symbol_of (twin_of x))) (atom_for S n W σ by a known ρ (symbol_of (twin_of x)) v (at_self σ (symbol_of (twin_of x)) v) h) (neutral_for S.objects ρ (kind a) (symbol_of (twin_of x)) x (neutral_with S.objects σ (kind a) (symbol_of x) (symbol_of (twin_of x)) v differ (neutral.0 known)))

      put_both : Below S (shut ρ by (type_by S.setting.scopes result_subst (twin S.setting.scopes b))) (shut (given (symbol_of x) v ∷ ρ) by (twin S.setting.scopes b)) × Below S (shut (given (symbol_of x) v ∷ ρ) by (twin S.setting.scopes b)) (shut ρ by (type_by S.setting.scopes result_subst (twin S.setting.scopes b)))
      put_both = put S is result_subst (twin S.setting.scopes b) leaves ρ (given (symbol_of x) v ∷ ρ) by stands

      agree : Agree (with_symbol P (symbol_of x)) (given (symbol_of x) v ∷ σ) (given (symbol_of x) v ∷ ρ)
      agree =
          agree_with P σ ρ (symbol_of x) v (λ y m. sym (at_but σ (symbol_of (twin_of x)) y v (not_same y m)))
        where
          not_same : (y : Symbol) → P y ≡ true → same_symbol (symbol_of (twin_of x)) y ≡ false
          not_same y m = same-sym y (symbol_of (twin_of x)) (apart_from P y (symbol_of (twin_of x)) m apart.1)

      thin_forth : Below S (shut (given (symbol_of x) v ∷ σ) by b) (shut (given (symbol_of x) v ∷ ρ) by b)
      thin_forth = thin S is b (with_symbol P (symbol_of x)) on (given (symbol_of x) v ∷ σ) (given (symbol_of x) v ∷ ρ) by agree

      thin_back : Below S (shut (given (symbol_of x) v ∷ ρ) by b) (shut (given (symbol_of x) v ∷ σ) by b)
      thin_back = thin S is b (with_symbol P (symbol_of x)) on (given (symbol_of x) v ∷ ρ) (given (symbol_of x) v ∷ σ) by (λ y m. sym (agree y m))

      still_neutral : IsNeutral S.objects (given (symbol_of x) v ∷ ρ) b
      still_neutral =
          neutral_more S.assignment S.objects (symbol_of x) v (with_twins P x) here b apart.4 ρ (neutral_more S.assignment S.objects (symbol_of (twin_of x)) v (with_twins P x) there b apart.4 σ neutral.3)

    -- where the result doesn't speak of it: whatever the name and its twin stand for
    module _ (less : TypeOn S.assignment b P) (v : Value) where
      abbrev κ : Givens
      κ = given (symbol_of x) v_unit ∷ given (symbol_of (twin_of x)) v_unit ∷ σ

      abbrev beyond : Symbols
      beyond y = not (same_symbol (symbol_of x) y || same_symbol (symbol_of (twin_of x)) y)

      -- these symbols are neither
      name_off : (y : Symbol) → P y ≡ true → same_symbol (symbol_of x) y ≡ false
      name_off y m = same-sym y (symbol_of x) (apart_from P y (symbol_of x) m apart.0)

      twin_off : (y : Symbol) → P y ≡ true → same_symbol (symbol_of (twin_of x)) y ≡ false
      twin_off y m = same-sym y (symbol_of (twin_of x)) (apart_from P y (symbol_of (twin_of x)) m apart.1)

      name_beyond : (y : Symbol) → beyond y ≡ true → same_symbol (symbol_of x) y ≡ false
      name_beyond y m =
          or_false (same_symbol (symbol_of x) y) (same_symbol (symbol_of (twin_of x)) y) (not_false (same_symbol (symbol_of x) y || same_symbol (symbol_of (twin_of x)) y) m)

      twin_beyond : (y : Symbol) → beyond y ≡ true → same_symbol (symbol_of (twin_of x)) y ≡ false
      twin_beyond y m =
          or_second (same_symbol (symbol_of x) y) (same_symbol (symbol_of (twin_of x)) y) (not_false (same_symbol (symbol_of x) y || same_symbol (symbol_of (twin_of x)) y) m)

      is_beyond : (y : Symbol) → same_symbol (symbol_of x) y ≡ false → same_symbol (symbol_of (twin_of x)) y ≡ false → beyond y ≡ true
      is_beyond y c d =
          false_not (same_symbol (symbol_of x) y || same_symbol (symbol_of (twin_of x)) y) (or_none (same_symbol (symbol_of x) y) (same_symbol (symbol_of (twin_of x)) y) c d)

      within_beyond : Within P beyond
      within_beyond y m = is_beyond y (name_off y m) (twin_off y m)

      outside_beyond : (y : Symbol) → with_twins P x y ≡ false → beyond y ≡ true
      outside_beyond y e =
          is_beyond y (or_second (P y) (same_symbol (symbol_of x) y) (or_false (with_symbol P (symbol_of x) y) (same_symbol (symbol_of (twin_of x)) y) e)) (or_second (with_symbol P (symbol_of x) y) (same_symbol (symbol_of (twin_of x)) y) e)

      -- neither does the twin's result speak of them
      twin_over : Everywhere S.assignment beyond (twin S.setting.scopes b)
      twin_over =
          twin_everywhere under S.setting.scopes S.assignment is.scoped beyond b (with_twins P x) outside_beyond apart.4 (everywhere S.assignment beyond refl (λ k. refl) b (with_twins P x) outside_beyond apart.4 P within_beyond less.0 P within_beyond less.1)

      result_over : TypeOn S.assignment (type_by S.setting.scopes result_subst (twin S.setting.scopes b)) beyond
      result_over =
          type_on S.assignment beyond (type_by S.setting.scopes result_subst (twin S.setting.scopes b)) (put_everywhere under S.setting.scopes S.assignment is.scoped beyond result_subst (swap_over beyond (symbol_of x) (symbol_of (twin_of x)) (kind a) (λ y m e. absurd (never (same_symbol (symbol_of x) y) (name_beyond y m) e))) (twin S.setting.scopes b) twin_over)

      -- the name and its twin stand for one value, which is of no sort
      unit_stand : Stands S.objects result_subst κ (given (symbol_of x) v_unit ∷ κ)
      unit_stand =
          one_stands S.objects κ x v_unit (atom_of (kind a) (symbol_of (twin_of x))) (unit_for S.objects κ (kind a) (symbol_of (twin_of x)) (at_but (given (symbol_of (twin_of x)) v_unit ∷ σ) (symbol_of x) (symbol_of (twin_of x)) v_unit (same-sym (symbol_of (twin_of x)) (symbol_of x) differ) ∙ at_self σ (symbol_of (twin_of x)) v_unit)) (neutral_for S.objects κ (kind a) (symbol_of (twin_of x)) x (unit_neutral S.objects κ (kind a) (symbol_of x) (at_self (given (symbol_of (twin_of x)) v_unit ∷ σ) (symbol_of x) v_unit)))

      unit_both : Below S (shut κ by (type_by S.setting.scopes result_subst (twin S.setting.scopes b))) (shut (given (symbol_of x) v_unit ∷ κ) by (twin S.setting.scopes b)) × Below S (shut (given (symbol_of x) v_unit ∷ κ) by (twin S.setting.scopes b)) (shut κ by (type_by S.setting.scopes result_subst (twin S.setting.scopes b)))
      unit_both = put S is result_subst (twin S.setting.scopes b) leaves κ (given (symbol_of x) v_unit ∷ κ) by unit_stand

      unit_is_neutral : IsNeutral S.objects (given (symbol_of x) v_unit ∷ κ) b
      unit_is_neutral =
          neutral_more S.assignment S.objects (symbol_of x) v_unit (with_twins P x) here b apart.4 κ (neutral_more S.assignment S.objects (symbol_of x) v_unit (with_twins P x) here b apart.4 (given (symbol_of (twin_of x)) v_unit ∷ σ) (neutral_more S.assignment S.objects (symbol_of (twin_of x)) v_unit (with_twins P x) there b apart.4 σ neutral.3))

      less_agree : Agree P (given (symbol_of x) v ∷ σ) (given (symbol_of x) v_unit ∷ κ)
      less_agree y m =
          at_but σ (symbol_of x) y v (name_off y m) ∙ sym (at_but κ (symbol_of x) y v_unit (name_off y m) ∙ at_but (given (symbol_of (twin_of x)) v_unit ∷ σ) (symbol_of x) y v_unit (name_off y m) ∙ at_but σ (symbol_of (twin_of x)) y v_unit (twin_off y m))

      result_agree : Agree beyond (given (symbol_of (twin_of x)) v ∷ σ) κ
      result_agree y m =
          at_but σ (symbol_of (twin_of x)) y v (twin_beyond y m) ∙ sym (at_but (given (symbol_of (twin_of x)) v_unit ∷ σ) (symbol_of x) y v_unit (name_beyond y m) ∙ at_but σ (symbol_of (twin_of x)) y v_unit (twin_beyond y m))

      less_both : Below S (shut (given (symbol_of x) v ∷ σ) by b) (shut (given (symbol_of x) v_unit ∷ κ) by b) × Below S (shut (given (symbol_of x) v_unit ∷ κ) by b) (shut (given (symbol_of x) v ∷ σ) by b)
      less_both =
          (thin S is b P less (given (symbol_of x) v ∷ σ) (given (symbol_of x) v_unit ∷ κ) by less_agree, thin S is b P less (given (symbol_of x) v_unit ∷ κ) (given (symbol_of x) v ∷ σ) by (λ y m. sym (less_agree y m)))

      results_both : Below S (shut (given (symbol_of (twin_of x)) v ∷ σ) by (type_by S.setting.scopes result_subst (twin S.setting.scopes b))) (shut κ by (type_by S.setting.scopes result_subst (twin S.setting.scopes b))) × Below S (shut κ by (type_by S.setting.scopes result_subst (twin S.setting.scopes b))) (shut (given (symbol_of (twin_of x)) v ∷ σ) by (type_by S.setting.scopes result_subst (twin S.setting.scopes b)))
      results_both =
          let R = type_by S.setting.scopes result_subst (twin S.setting.scopes b) in
          (thin S is R beyond result_over (given (symbol_of (twin_of x)) v ∷ σ) κ by result_agree, thin S is R beyond result_over κ (given (symbol_of (twin_of x)) v ∷ σ) by (λ y m. sym (result_agree y m)))

  -- the result at an argument, where the name isn't its own twin
  differ_both : (P : Symbols) (x : ℕ) (a b : Refined) → TypeOn S.assignment b (with_symbol P (symbol_of x)) → NamesApart S.assignment P (function (Some x) a b) → (σ : Givens) → IsNeutral S.objects σ (function (Some x) a b) → ((τ : Givens) → IsNeutral S.objects τ b → Both S τ by b (twin S.setting.scopes b)) → same_symbol (symbol_of (twin_of x)) (symbol_of x) ≡ false → IsNoVariable a ⊎ TypeOn S.assignment b P → (v : Value) (n : ℕ) (W : Table) → Inhabits S n W (shut σ by a) v → Below S (shut (given (symbol_of x) v ∷ σ) by b) (shut (given (symbol_of (twin_of x)) v ∷ σ) by (type_by S.setting.scopes (swap (symbol_of x) (atom_of (kind a) (symbol_of (twin_of x))) ∷ []) (twin S.setting.scopes b))) × Below S (shut (given (symbol_of (twin_of x)) v ∷ σ) by (type_by S.setting.scopes (swap (symbol_of x) (atom_of (kind a) (symbol_of (twin_of x))) ∷ []) (twin S.setting.scopes b))) (shut (given (symbol_of x) v ∷ σ) by b)
  differ_both P x a b on apart σ neutral ih differ (inl known) v n W h =
      let τ = given (symbol_of x) v ∷ given (symbol_of (twin_of x)) v ∷ σ in
      let r = ih τ (still_neutral P x a b on apart σ neutral differ known v n W h) τ in
      let p = put_both P x a b on apart σ neutral differ known v n W h in
      let f = thin_forth P x a b on apart σ neutral differ known v n W h in
      let g = thin_back P x a b on apart σ neutral differ known v n W h in
      (λ k V u q. p.1 k V u (r.0 k V u (f k V u q)), λ k V u q. g k V u (r.1 k V u (p.0 k V u q)))
  differ_both P x a b on apart σ neutral ih differ (inr less) v n W h =
      let τ = given (symbol_of x) v_unit ∷ given (symbol_of x) v_unit ∷ given (symbol_of (twin_of x)) v_unit ∷ σ in
      let r = ih τ (unit_is_neutral P x a b on apart σ neutral differ less v) τ in
      let p = unit_both P x a b on apart σ neutral differ less v in
      let f = less_both P x a b on apart σ neutral differ less v in
      let g = results_both P x a b on apart σ neutral differ less v in
      (λ k V u q. g.1 k V u (p.1 k V u (r.0 k V u (f.0 k V u q))), λ k V u q. f.1 k V u (r.1 k V u (p.0 k V u (g.0 k V u q))))

  -- the result at an argument, where the name is its own twin and where it isn't
  result_both : (P : Symbols) (x : ℕ) (a b : Refined) → TypeOn S.assignment b (with_symbol P (symbol_of x)) → NamesApart S.assignment P (function (Some x) a b) → (σ : Givens) → IsNeutral S.objects σ (function (Some x) a b) → ((τ : Givens) → IsNeutral S.objects τ b → Both S τ by b (twin S.setting.scopes b)) → (c : Bool) → (x == twin_of x) ≡ c → (v : Value) (n : ℕ) (W : Table) → Inhabits S n W (shut σ by a) v → Below S (shut (given (symbol_of x) v ∷ σ) by b) (shut (given (symbol_of (twin_of x)) v ∷ σ) by (cond c (twin S.setting.scopes b) (type_by S.setting.scopes (swap (symbol_of x) (atom_of (kind a) (symbol_of (twin_of x))) ∷ []) (twin S.setting.scopes b)))) × Below S (shut (given (symbol_of (twin_of x)) v ∷ σ) by (cond c (twin S.setting.scopes b) (type_by S.setting.scopes (swap (symbol_of x) (atom_of (kind a) (symbol_of (twin_of x))) ∷ []) (twin S.setting.scopes b)))) (shut (given (symbol_of x) v ∷ σ) by b)
  result_both P x a b on apart σ neutral ih true e v n W h =
      let τ = given (symbol_of x) v ∷ σ in
      let own : with_twins P x (symbol_of x) ≡ true = or_left (with_symbol P (symbol_of x) (symbol_of x)) (same_symbol (symbol_of (twin_of x)) (symbol_of x)) (or_right (P (symbol_of x)) (same_symbol (symbol_of x) (symbol_of x)) (same_self x)) in
      let r = ih τ (neutral_more S.assignment S.objects (symbol_of x) v (with_twins P x) own b apart.4 σ neutral.3) τ in
      let z = eqb-true x (twin_of x) e in (
        subst (λ y. Below S (shut (given (symbol_of x) v ∷ σ) by b) (shut (given (symbol_of y) v ∷ σ) by (twin S.setting.scopes b))) z r.0,
        subst (λ y. Below S (shut (given (symbol_of y) v ∷ σ) by (twin S.setting.scopes b)) (shut (given (symbol_of x) v ∷ σ) by b)) z r.1,
      )
  result_both P x a b on apart σ neutral ih false e v n W h =
      differ_both P x a b on apart σ neutral ih (same-sym (symbol_of x) (symbol_of (twin_of x)) e) apart.2 v n W h

  mutual
    pub twin_both : (t : Refined) (P : Symbols) → InsideOn S.assignment t P → NamesApart S.assignment P t → (σ : Givens) → IsNeutral S.objects σ t → Both S σ by t (twin S.setting.scopes t)
    twin_both (int_with p) P o a σ n = λ κ. (λ k W v h. h, λ k W v h. h)
    twin_both (bool_with p) P o a σ n = λ κ. (λ k W v h. h, λ k W v h. h)
    twin_both unit_type P o a σ n = λ κ. (λ k W v h. h, λ k W v h. h)
    twin_both (map_with e p) P o a σ n = λ κ. (λ k W v h. h, λ k W v h. h)
    twin_both (type_variable i) P o a σ n = λ κ. (λ k W v h. h, λ k W v h. h)
    twin_both (function None c b) P o a σ n =
        let l = twin_both c P o.0 a.0 σ n.0 σ in
        let r = twin_both b P o.2 a.1 σ n.1 σ in
        λ κ. (function_below S κ κ σ σ by by None None c b (twin S.setting.scopes c) (twin S.setting.scopes b) l.1 (λ m Y v h. r.0), function_below S κ κ σ σ by by None None (twin S.setting.scopes c) (twin S.setting.scopes b) c b l.0 (λ m Y v h. r.1))
    twin_both (function (Some x) c b) P o a σ n =
        let l = twin_both c P o.0 a.3 σ n.2 σ in
        let on : TypeOn S.assignment b (with_twins P x) = type_more S.assignment b (with_symbol P (symbol_of x)) (with_twins P x) (within_twins P x) (o.2, o.3) in
        let ih : (τ : Givens) → IsNeutral S.objects τ b → Both S τ by b (twin S.setting.scopes b) = λ τ m. twin_both b (with_twins P x) on.0 a.4 τ m in
        let R = cond (x == twin_of x) (twin S.setting.scopes b) (type_by S.setting.scopes (swap (symbol_of x) (atom_of (kind c) (symbol_of (twin_of x))) ∷ []) (twin S.setting.scopes b)) in
        λ κ. (function_below S κ κ σ σ by by (Some x) (Some (twin_of x)) c b (twin S.setting.scopes c) R l.1 (λ m Y v h. (result_both P x c b (o.2, o.3) a σ n ih (x == twin_of x) refl v m Y (l.1 m Y v h)).0), function_below S κ κ σ σ by by (Some (twin_of x)) (Some x) (twin S.setting.scopes c) R c b l.0 (λ m Y v h. (result_both P x c b (o.2, o.3) a σ n ih (x == twin_of x) refl v m Y h).1))
    twin_both (tuple_of ts) P o a σ n =
        λ κ. (tuple_below S κ κ σ σ by by ts (twins S.setting.scopes ts) (λ k W vs h. components_forth ts P 0 P o a σ n σ k W vs h), tuple_below S κ κ σ σ by by (twins S.setting.scopes ts) ts (λ k W vs h. components_back ts P 0 P o a σ n σ k W vs h))
    twin_both (array_with e p) P o a σ n =
        let r = twin_both e P o.0 a σ n σ in
        λ κ. (array_below S κ κ σ σ by by e (twin S.setting.scopes e) p p (λ v i h. h) r.0 r.1, array_below S κ κ σ σ by by (twin S.setting.scopes e) e p p (λ v i h. h) r.1 r.0)
    twin_both (data_with d ts m p) P o a σ n =
        let r = twins_both ts P o a σ n in
        λ κ. (data_by fit S is.covariant κ κ σ σ by by d ts (twins S.setting.scopes ts) m m p p (λ c k vs i h j z u g q. q) r.0 (λ v i h. h), data_by fit S is.covariant κ κ σ σ by by d (twins S.setting.scopes ts) ts m m p p (λ c k vs i h j z u g q. q) r.1 (λ v i h. h))

    twins_both : (ts : Refineds) (P : Symbols) → ArgumentsOn S.assignment ts P → AllNamesApart S.assignment P ts → (σ : Givens) → AreNeutral S.objects σ ts → AllBelow S (shut_all σ by ts) (shut_all σ by (twins S.setting.scopes ts)) × AllBelow S (shut_all σ by (twins S.setting.scopes ts)) (shut_all σ by ts)
    twins_both none P o a σ n = (tt, tt)
    twins_both (more t ts) P o a σ n =
        let l = twin_both t P o.0 a.0 σ n.0 σ in
        let r = twins_both ts P o.2 a.1 σ n.1 in
        ((l.0, r.0), (l.1, r.1))

    components_forth : (ts : Refineds) (P : Symbols) (k : ℕ) (Q : Symbols) → ComponentsOn S.assignment ts P k Q → AllNamesApart S.assignment P ts → (σ : Givens) → AreNeutral S.objects σ ts → (τ : Givens) (i : ℕ) (W : Table) (vs : Values) → AllFit S i W (components σ by τ k ts vs) vs → AllFit S i W (components σ by τ k (twins S.setting.scopes ts) vs) vs
    components_forth none P k Q o a σ n τ i W vs h = h
    components_forth (more t ts) P k Q o a σ n τ i W no_values h = absurd h
    components_forth (more t ts) P k Q o a σ n τ i W (more_values v vs) h =
        ((twin_both t P o.0 a.0 σ n.0 τ).0 i W v h.0, components_forth ts P (suc k) (with_symbol Q (symbol.Position (suc k))) o.2 a.1 σ n.1 (position k v τ) i W vs h.1)

    components_back : (ts : Refineds) (P : Symbols) (k : ℕ) (Q : Symbols) → ComponentsOn S.assignment ts P k Q → AllNamesApart S.assignment P ts → (σ : Givens) → AreNeutral S.objects σ ts → (τ : Givens) (i : ℕ) (W : Table) (vs : Values) → AllFit S i W (components σ by τ k (twins S.setting.scopes ts) vs) vs → AllFit S i W (components σ by τ k ts vs) vs
    components_back none P k Q o a σ n τ i W vs h = h
    components_back (more t ts) P k Q o a σ n τ i W no_values h = absurd h
    components_back (more t ts) P k Q o a σ n τ i W (more_values v vs) h =
        ((twin_both t P o.0 a.0 σ n.0 τ).1 i W v h.0, components_back ts P (suc k) (with_symbol Q (symbol.Position (suc k))) o.2 a.1 σ n.1 (position k v τ) i W vs h.1)
