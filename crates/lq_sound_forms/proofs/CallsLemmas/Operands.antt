-- Operands run to values of their types, for which their atoms stand.
use Rattle.std.proofs.Common.{◌≡◌, ℕ, suc, Bool, true, false, ◌||◌, cond, [], ◌∷◌, Option, Some, None, refl, sym, ap, ◌∙◌, subst}
use Rattle.lq_logic_predicates.specs.declared.symbol.Symbol.{Symbol}
use Rattle.lq_logic_predicates.specs.Sum.{same_symbol}
use Rattle.lq_logic_predicates.specs.Truth.{object_of, term_value, truth_of}
use Rattle.lq_meaning_steps.specs.Model.Core.{Value, v_whole, v_flag, v_unit}
use Rattle.lq_refined_types.specs.Parts.Assignment.{Assignment}
use Rattle.lq_refined_types.specs.Parts.Substitution.{of_sum, of_formula}
use Rattle.lq_text_tree.specs.MlType as ml
use Rattle.lq_text_tree.specs.MlType.{MlType}
use Rattle.lq_refined_types.specs.Types.Context.{Context, name, guard, type_in}
use Rattle.lq_refined_types.specs.Types.Operations.{symbol_of, twin, twin_of}
use Rattle.lq_refined_types.specs.Types.Refined.{Refined, Refineds, int_with, bool_with, unit_type, function, tuple_of, array_with, data_with, map_with, type_variable, none, more, Kind, number, truth_value, object, other, kind}
use Rattle.lq_refined_rules.specs.Checks.Basis.{Basis}
use Rattle.lq_refined_rules.specs.Checks.Fitting.{Fits}
use Rattle.lq_refined_rules.specs.Checks.Pure.{sum_of, formula_of, variable_type, atom_by, pure_type, pure_atom}
use Rattle.lq_refined_rules.specs.Checks.Pure as pures
use Rattle.lq_refined_rules.specs.Checks.Tree as tree
use Rattle.lq_refined_rules.specs.Checks.Tree.{Use, Pure}
use Rattle.lq_refined_rules.specs.Checks.Typing.{Points, AreTemplates, Types}
use Rattle.lq_sound_values.specs.Inhabitants.Truth.{Givens, value_at, as_number, as_flag, as_object, Objects, meaning_of, Scene}
use Rattle.lq_sound_values.specs.Inhabitants.Shut.{shut, Shuts, no_form}
use Rattle.lq_sound_values.specs.Inhabitants.Inhabits.{Table, CallsBelow, SameBelow, Inhabits}
use Rattle.lq_sound_values.proofs.InhabitantsLemmas.Topped.{form_has}
use Rattle.lq_sound_values.specs.Inclusion.Laws.{IsScene}
use Rattle.lq_sound_values.specs.Inclusion.Putting.{StandsFor}
use Rattle.lq_sound_values.proofs.InclusionLemmas.Truths.{decide}
use Rattle.lq_sound_values.specs.Twins.Laws.{TwinTypesFit}
use Rattle.lq_sound_values.specs.Twins.Names.{IsNoVariable, TwinsOutside, AllTwinsOutside, IsNeutralAt, IsNeutral, AreNeutral}
use Rattle.lq_sound_values.proofs.TwinsLemmas.Twins.{no_flag}
use Rattle.lq_sound_values.specs.Runs.Closed.{names_in, IsClosed}
use Rattle.lq_sound_values.specs.Runs.Meets.{Variables, Named}
use Rattle.lq_sound_values.proofs.RunsLemmas.Lower.{Lower}
use Rattle.lq_sound_values.proofs.RunsLemmas.Meeting.{look}
use Rattle.lq_sound_forms.specs.Pures.Cores.{pure_core}
use Rattle.lq_sound_forms.specs.Pures.Pures.{KnowsLengths, scene_of, UseIn, PureIn}
use Rattle.lq_sound_forms.proofs.PuresLemmas.Pures.{Instancing, PureIs, names_of, number_runs, condition_runs, value_exact, look_up, runs_variable}
use Rattle.lq_sound_forms.proofs.PuresLemmas.Values.{sum_over, formula_over, number_fits, truth_fits, own_value}
use Rattle.lq_sound_forms.specs.Calls.Operands.{HasTerm, RunsToOperand, KindsAgree, AllKindsAgree, IsTwinReady, IsUsable, IsUsablePure}

-- ---- values of names

or_false_left : (a b : Bool) → a || b ≡ false → a ≡ false
or_false_left true b h = h
or_false_left false b h = refl

or_false_right : (a b : Bool) → a || b ≡ false → b ≡ false
or_false_right true b h = absurd (cc)
or_false_right false b h = h

-- what is no name of the environment has no value
pub no_value : (S : Scene) (by : Variables) (n : ℕ) (W : Table) (ρ : Givens) (Γ : Context) (σ : Givens) → Named S by n W ρ Γ σ → (y : Symbol) → names_in Γ y ≡ false → value_at σ y ≡ None
no_value S by n W ρ [] [] h y e = refl
no_value S by n W ρ [] (g ∷ σ) h y e = absurd h
no_value S by n W ρ (name x t ∷ Γ) [] h y e = absurd h
no_value S by n W ρ (name x t ∷ Γ) (g ∷ σ) h y e =
    skip (same_symbol g.symbol y) (subst (λ z. same_symbol z y ≡ false) (sym h.0) (or_false_right (names_in Γ y) (same_symbol x y) e)) (no_value S by n W ρ Γ σ h.2 y (or_false_left (names_in Γ y) (same_symbol x y) e))
  where
    skip : (b : Bool) → b ≡ false → value_at σ y ≡ None → cond b (Some g.value) (value_at σ y) ≡ None
    skip true z r = absurd (cc)
    skip false z r = r
no_value S by n W ρ (guard p ∷ Γ) σ h y e = no_value S by n W ρ Γ σ h y e

-- ---- names of arguments are neutral

neutral_value : (S : Scene) (n : ℕ) (W : Table) (σ : Givens) (by : Shuts) (t : Refined) → IsNoVariable t → (x : Symbol) (v : Value) → value_at σ x ≡ Some v → Inhabits S n W (shut σ by t) v → IsNeutralAt S.objects σ (kind t) x
neutral_value S n W σ by (bool_with p) i x (v_flag b) e h = (ap as_number e, ap (as_object S.objects) e)
neutral_value S n W σ by (bool_with p) i x _ e h = absurd h.0
neutral_value S n W σ by (int_with p) i x v e h = ap as_flag e ∙ no_flag S n W σ by (int_with p) i (λ z. cc) v h
neutral_value S n W σ by unit_type i x v e h = ap as_flag e ∙ no_flag S n W σ by unit_type i (λ z. cc) v h
neutral_value S n W σ by (function y c d) i x v e h = ap as_flag e ∙ no_flag S n W σ by (function y c d) i (λ z. cc) v h
neutral_value S n W σ by (tuple_of ts) i x v e h = ap as_flag e ∙ no_flag S n W σ by (tuple_of ts) i (λ z. cc) v h
neutral_value S n W σ by (array_with a p) i x v e h = ap as_flag e ∙ no_flag S n W σ by (array_with a p) i (λ z. cc) v h
neutral_value S n W σ by (data_with d ts m p) i x v e h = ap as_flag e ∙ no_flag S n W σ by (data_with d ts m p) i (λ z. cc) v h
neutral_value S n W σ by (map_with a p) i x v e h = ap as_flag e ∙ no_flag S n W σ by (map_with a p) i (λ z. cc) v h
neutral_value S n W σ by (type_variable j) i x v e h = absurd i

neutral_none : (O : Objects) (σ : Givens) (k : Kind) (x : Symbol) → value_at σ x ≡ None → IsNeutralAt O σ k x
neutral_none O σ number x e = ap as_flag e
neutral_none O σ truth_value x e = (ap as_number e, ap (as_object O) e)
neutral_none O σ object x e = ap as_flag e
neutral_none O σ other x e = ap as_flag e

module _ (law : Lower) (S : Scene) (is : IsScene S) (by : Variables) (n : ℕ) (W : Table) (Γ : Context) (σ : Givens) (closed : IsClosed S Γ) (named : Named S by n W σ Γ σ) where
  neutral_at : (x : Symbol) (k : Kind) → (names_in Γ x ≡ true → (kind (type_in Γ x) ≡ k) × IsNoVariable (type_in Γ x)) → IsNeutralAt S.objects σ k x
  neutral_at x k f =
      decide (IsNeutralAt S.objects σ k x) (names_in Γ x) (λ e.
      let l = look S by n W Γ σ closed named x e in
      let z = f e in
      subst (λ j. IsNeutralAt S.objects σ j x) z.0 (neutral_value S n W σ l.fits.some (type_in Γ x) z.1 x l.value l.is l.fits.fits)) (λ e. neutral_none S.objects σ k x (no_value S by n W σ Γ σ named x e))

  mutual
    pub type_neutral : (t : Refined) → KindsAgree Γ t → TwinsOutside (names_in Γ) t → IsNeutral S.objects σ t
    type_neutral (int_with p) k o = tt
    type_neutral (bool_with p) k o = tt
    type_neutral unit_type k o = tt
    type_neutral (function None a b) k o = (type_neutral a k.0 o.0, type_neutral b k.1 o.1)
    type_neutral (function (Some x) a b) k o =
        (λ i. neutral_at (symbol_of x) (kind a) (λ e. k.0 e i), no_value S by n W σ Γ σ named (symbol_of (twin_of x)) o.0, type_neutral a k.1 o.1, type_neutral b k.2 o.2)
    type_neutral (tuple_of ts) k o = types_neutral ts k o
    type_neutral (array_with e p) k o = type_neutral e k o
    type_neutral (data_with d ts m p) k o = types_neutral ts k o
    type_neutral (map_with e p) k o = tt
    type_neutral (type_variable i) k o = tt

    types_neutral : (ts : Refineds) → AllKindsAgree Γ ts → AllTwinsOutside (names_in Γ) ts → AreNeutral S.objects σ ts
    types_neutral none k o = tt
    types_neutral (more t ts) k o = (type_neutral t k.0 o.0, types_neutral ts k.1 o.1)

  -- ---- a variable's value has the variable's own type, and the variable stands for it

  twin_value : TwinTypesFit → (t : Refined) → IsTwinReady S Γ t → (v : Value) → Inhabits S n W (shut σ by.types t) v → Inhabits S n W (shut σ by.types (twin S.setting.scopes t)) v
  twin_value twins t r v h = (twins S is t r.over r.on r.apart σ (type_neutral t r.kinds r.outside) by.types).0 n W v h

  usable_value : TwinTypesFit → (x : ℕ) (v : Value) → value_at σ (symbol_of x) ≡ Some v → (t : Refined) → IsUsable S Γ t → Inhabits S n W (shut σ by.types t) v → Inhabits S n W (shut σ by.types (variable_type S.setting.scopes x t)) v
  usable_value twins x v e (int_with p) u h = own_value S n W σ by.types S.setting.scopes x v e (int_with p) tt h
  usable_value twins x v e (bool_with p) u h = own_value S n W σ by.types S.setting.scopes x v e (bool_with p) tt h
  usable_value twins x v e unit_type u h = own_value S n W σ by.types S.setting.scopes x v e unit_type tt h
  usable_value twins x v e (function y c d) u h = twin_value twins (function y c d) u v h
  usable_value twins x v e (tuple_of ts) u h = twin_value twins (tuple_of ts) u v h
  usable_value twins x v e (array_with a p) u h = own_value S n W σ by.types S.setting.scopes x v e (array_with a p) tt h
  usable_value twins x v e (data_with d ts m p) u h = own_value S n W σ by.types S.setting.scopes x v e (data_with d ts m p) tt h
  usable_value twins x v e (map_with a p) u h = absurd (form_has S (CallsBelow S n) (SameBelow S n) W no_form v h.0)
  usable_value twins x v e (type_variable j) u h = h

  -- as a term, but for a truth value
  term_stands : (u : Use) (v : Value) → value_at σ (symbol_of u.name) ≡ Some v → as_flag (Some v) ≡ false → StandsFor S.objects σ (of_sum (sum_of (tree.use_of u))) v
  term_stands u v e f = (ap as_number e, f, ap (as_object S.objects) e)

  -- and so for each value but that of a variable's type
  usable_term : (u : Use) (v : Value) → value_at σ (symbol_of u.name) ≡ Some v → (k : Kind) → HasTerm S.objects σ (atom_by k (tree.use_of u)) v
  usable_term u v e number = (ap as_number e, ap (as_object S.objects) e)
  usable_term u v e truth_value = tt
  usable_term u v e object = (ap as_number e, ap (as_object S.objects) e)
  usable_term u v e other = (ap as_number e, ap (as_object S.objects) e)

  usable_stands : (u : Use) (v : Value) → value_at σ (symbol_of u.name) ≡ Some v → (t : Refined) → IsNoVariable (variable_type S.setting.scopes u.name t) → Inhabits S n W (shut σ by.types t) v → StandsFor S.objects σ (atom_by (kind (variable_type S.setting.scopes u.name t)) (tree.use_of u)) v
  usable_stands u (v_flag b) e (bool_with p) k h = (refl, ap as_flag e, refl)
  usable_stands u _ e (bool_with p) k h = absurd h.0
  usable_stands u v e (int_with p) k h = term_stands u v e (no_flag S n W σ by.types (int_with p) tt (λ z. cc) v h)
  usable_stands u v e unit_type k h = term_stands u v e (no_flag S n W σ by.types unit_type tt (λ z. cc) v h)
  usable_stands u v e (function y c d) k h = function_stands y c d u v e (no_flag S n W σ by.types (function y c d) tt (λ z. cc) v h)
    where
      function_stands : (y : Option ℕ) (c d : Refined) (u : Use) (v : Value) → value_at σ (symbol_of u.name) ≡ Some v → as_flag (Some v) ≡ false → StandsFor S.objects σ (atom_by (kind (twin S.setting.scopes (function y c d))) (tree.use_of u)) v
      function_stands y c d u v e f = term_stands u v e f
  usable_stands u v e (tuple_of ts) k h = term_stands u v e (no_flag S n W σ by.types (tuple_of ts) tt (λ z. cc) v h)
  usable_stands u v e (array_with a p) k h = term_stands u v e (no_flag S n W σ by.types (array_with a p) tt (λ z. cc) v h)
  usable_stands u v e (data_with d ts m p) k h = term_stands u v e (no_flag S n W σ by.types (data_with d ts m p) tt (λ z. cc) v h)
  usable_stands u v e (map_with a p) k h = absurd (form_has S (CallsBelow S n) (SameBelow S n) W no_form v h.0)
  usable_stands u v e (type_variable j) k h = absurd k

-- ---- operands

module _ (law : Lower) (inst : Instancing) (twins : TwinTypesFit) (P : Basis) (A : Assignment) (O : Objects) (is : IsScene (scene_of P A O)) (lengths : KnowsLengths O) (by : Variables) (Q : Points) (are : AreTemplates P Q) (Δ : Types) (Γ : Context) (fits : Fits Δ Γ) (closed : IsClosed (scene_of P A O) Γ) where
  -- a number, for which its term stands
  number_operand : (e : Pure) → PureIs Q Δ e ml.int → PureIn P A by Γ e → ((σ : Givens) → object_of (meaning_of O σ) (sum_of e) ≡ 0) → RunsToOperand (scene_of P A O) by Γ (pure_core e) (pures.number_type e) (of_sum (sum_of e))
  number_operand e h o z n W σ m =
      let S = scene_of P A O in
      let runs = number_runs law inst P A O is lengths by Q are Δ Γ fits closed e h o in
      let v = v_whole (term_value (meaning_of O σ) (sum_of e)) in
      (v, number_fits law S by Γ closed (sum_of e) (sum_over (names_in Γ) e (names_of P A by Γ e o)) (suc n) W σ, ((λ i. (refl, refl, z σ)), (refl, z σ)), runs n W σ m)

  truth_operand : (e : Pure) → PureIs Q Δ e ml.bool → PureIn P A by Γ e → RunsToOperand (scene_of P A O) by Γ (pure_core e) (pures.truth_type e) (of_formula (formula_of e))
  truth_operand e h o n W σ m =
      let S = scene_of P A O in
      let runs = condition_runs law inst P A O is lengths by Q are Δ Γ fits closed e h o in
      let v = v_flag (truth_of (meaning_of O σ) (formula_of e)) in
      (v, truth_fits law S by Γ closed (formula_of e) (formula_over (names_in Γ) e (names_of P A by Γ e o)) (suc n) W σ, ((λ i. (refl, refl, refl)), tt), runs n W σ m)

  use_operand : (u : Use) → UseIn P A by Γ u → IsUsable (scene_of P A O) Γ (pures.type_of_use P Γ u) → RunsToOperand (scene_of P A O) by Γ (pure_core (tree.use_of u)) (pure_type P Γ (tree.use_of u)) (pure_atom P Γ (tree.use_of u))
  use_operand u o k n W σ m =
      let S = scene_of P A O in
      let t = pures.type_of_use P Γ u in
      let l = look_up law inst P A O is lengths by Q are Δ Γ fits closed (suc n) W σ m u o in (
        l.value,
        usable_value law S is by (suc n) W Γ σ closed m.named twins u.name l.value l.is t k l.fits,
        ((λ i. usable_stands law S is by (suc n) W Γ σ closed m.named u l.value l.is t i l.fits), usable_term law S is by (suc n) W Γ σ closed m.named u l.value l.is (kind (variable_type P.setting.scopes u.name t))),
        λ j w. runs_variable j σ u.name l.value w l.is,
      )

  pub operand_runs : (e : Pure) (a : MlType) → PureIs Q Δ e a → PureIn P A by Γ e → IsUsablePure P (scene_of P A O) Γ e → RunsToOperand (scene_of P A O) by Γ (pure_core e) (pure_type P Γ e) (pure_atom P Γ e)
  operand_runs (tree.use_of u) a h o k = use_operand u o k
  operand_runs (tree.whole i) a h o k = number_operand (tree.whole i) refl o (λ σ. refl)
  operand_runs (tree.flag c) a h o k = truth_operand (tree.flag c) refl o
  operand_runs tree.unit a h o k = λ n W σ m. (v_unit, (tt, tt), ((λ i. (refl, refl, refl)), (refl, refl)), value_exact law (scene_of P A O) by Γ v_unit n W σ m)
  operand_runs (tree.negated d) a h o k = number_operand (tree.negated d) (refl, h.1) o (λ σ. refl)
  operand_runs (tree.add c d) a h o k = number_operand (tree.add c d) (refl, h.1, h.2) o (λ σ. refl)
  operand_runs (tree.subtract c d) a h o k = number_operand (tree.subtract c d) (refl, h.1, h.2) o (λ σ. refl)
  operand_runs (tree.multiply c d) a h o k = number_operand (tree.multiply c d) (refl, h.1, h.2) o (λ σ. refl)
  operand_runs (tree.length_of d) a h o k = number_operand (tree.length_of d) (refl, h.1) o (λ σ. refl)
  operand_runs (tree.compare z c d) a h o k = truth_operand (tree.compare z c d) (refl, h.1, h.2) o
  operand_runs (tree.not_of d) a h o k = truth_operand (tree.not_of d) (refl, h.1) o
  operand_runs (tree.and_of c d) a h o k = truth_operand (tree.and_of c d) (refl, h.1, h.2) o
  operand_runs (tree.or_of c d) a h o k = truth_operand (tree.or_of c d) (refl, h.1, h.2) o
