-- Operands in a row, and a tuple of them.
use Rattle.std.proofs.Common.{◌≡◌, ℕ, suc, List, [], ◌∷◌, sym, ◌∙◌, subst, arith as numbers, refl, Bool, true, false}
use Rattle.lq_logic_predicates.specs.declared.symbol.Symbol.{Symbol}
use Rattle.lq_logic_predicates.specs.declared.symbol.Symbol.TheVariants as symbol
use Rattle.lq_logic_predicates.specs.Sum.{var, same_symbol}
use Rattle.lq_logic_predicates.specs.Formula.{flag}
use Rattle.lq_meaning_steps.specs.Model.Core as core
use Rattle.lq_meaning_steps.specs.Model.Core.{Row, row, Value, Values, no_values, more_values, v_tuple, row_value, close, close_all}
use Rattle.lq_meaning_steps.specs.Model.Operations.{World}
use Rattle.lq_refined_types.specs.Parts.Assignment.{Assignment}
use Rattle.lq_text_tree.specs.MlType.{MlTypes}
use Rattle.lq_refined_types.specs.Types.Context.{Context}
use Rattle.lq_refined_types.specs.Types.Operations.{symbol_of}
use Rattle.lq_refined_types.specs.Types.Refined.{Refined, int_with, bool_with, unit_type, function, tuple_of, array_with, data_with, map_with, type_variable, top}
use Rattle.lq_refined_rules.specs.Checks.Basis.{Basis}
use Rattle.lq_refined_rules.specs.Checks.Fitting.{Fits}
use Rattle.lq_refined_rules.specs.Checks.Pure.{sum_of, formula_of, variable_type, pure_type, pure_types}
use Rattle.lq_refined_rules.specs.Checks.Pure as pures
use Rattle.lq_refined_rules.specs.Checks.Tree as tree
use Rattle.lq_refined_rules.specs.Checks.Tree.{Use, Pure}
use Rattle.lq_refined_rules.specs.Checks.Typing.{Points, AreTemplates, Types, HavePures, have_none, have_more}
use Rattle.lq_sound_values.specs.Inhabitants.Truth.{Givens, given, Objects}
use Rattle.lq_sound_values.specs.Inhabitants.Shut.{shut, shut_all, position, components}
use Rattle.lq_sound_values.specs.Inhabitants.Inhabits.{Table, Inhabits, Agrees}
use Rattle.lq_sound_values.specs.Inhabitants.Runs.{RunsWell, LandsIn}
use Rattle.lq_sound_values.proofs.InhabitantsLemmas.Running.{runs_map}
use Rattle.lq_sound_values.proofs.InhabitantsLemmas.Staying.{all_fit_down}
use Rattle.lq_sound_values.proofs.InhabitantsLemmas.Keeping.{AllFit}
use Rattle.lq_sound_values.specs.Inclusion.Laws.{IsScene}
use Rattle.lq_sound_values.specs.Inclusion.Symbols.{Symbols, TopOn, Agree}
use Rattle.lq_sound_values.proofs.InclusionLemmas.Truths.{parts_same, agree_with, at_but}
use Rattle.lq_sound_values.specs.Runs.Closed.{names_in, with_value, IsClosed}
use Rattle.lq_sound_values.specs.Runs.Meets.{pairs, Variables, Meets}
use Rattle.lq_sound_values.specs.Runs.Runs.{Exactly, RunsTo}
use Rattle.lq_sound_values.proofs.RunsLemmas.Closing.{or_left, or_right}
use Rattle.lq_sound_values.proofs.RunsLemmas.Lower.{Lower}
use Rattle.lq_sound_values.proofs.RunsLemmas.Meeting.{extends_self}
use Rattle.lq_sound_forms.proofs.FieldsLemmas.Bare.{retop}
use Rattle.lq_sound_forms.specs.Pures.Cores.{pure_cores}
use Rattle.lq_sound_forms.specs.Pures.Pures.{KnowsLengths, scene_of, UseOver, PureOver, MayUse}
use Rattle.lq_sound_forms.proofs.PuresLemmas.Pures.{Instancing, both_uses, names_over, no_position}
use Rattle.lq_sound_forms.proofs.PuresLemmas.Values.{sum_over, formula_over, number_over, truth_over, used_on}
use Rattle.lq_sound_forms.specs.Calls.Operands.{OperandsRun}
use Rattle.lq_sound_forms.specs.Tuples.Tuples.{AreUsable, MayUseAll, OperandsStand}
use Rattle.lq_sound_forms.proofs.TuplesLemmas.Rows.{AllExactly, row_exact}

-- ---- tops of operands' types

module _ (inst : Instancing) (P : Basis) (A : Assignment) (O : Objects) (Γ : Context) (closed : IsClosed (scene_of P A O) Γ) where
  object_on : (N : Symbols) (x : ℕ) → N (symbol_of x) ≡ true → (with_value N symbol.Value ≡ true) × (with_value N (symbol_of x) ≡ true)
  object_on N x o = (or_right (N symbol.Value) true refl, or_left (N (symbol_of x)) false o)

  variable_top : (x : ℕ) (t : Refined) → TopOn A t (names_in Γ) → names_in Γ (symbol_of x) ≡ true → TopOn A (variable_type P.setting.scopes x t) (names_in Γ)
  variable_top x (int_with p) u o = (number_over (scene_of P A O) (names_in Γ) (var (symbol_of x)) o).0.1
  variable_top x (bool_with p) u o = (truth_over (scene_of P A O) (names_in Γ) (flag (symbol_of x)) o).0.1
  variable_top x unit_type u o = tt
  variable_top x (function y a b) u o = tt
  variable_top x (tuple_of ts) u o = tt
  variable_top x (array_with e p) u o = (object_on (names_in Γ) x o, tt)
  variable_top x (data_with d ts m p) u o = (object_on (names_in Γ) x o, tt)
  variable_top x (map_with e p) u o = u
  variable_top x (type_variable i) u o = tt

  number_top : (e : Pure) → PureOver P A Γ e → TopOn A (pures.number_type e) (names_in Γ)
  number_top e o = (number_over (scene_of P A O) (names_in Γ) (sum_of e) (sum_over (names_in Γ) e (names_over P A Γ e o))).0.1

  truth_top : (e : Pure) → PureOver P A Γ e → TopOn A (pures.truth_type e) (names_in Γ)
  truth_top e o = (truth_over (scene_of P A O) (names_in Γ) (formula_of e) (formula_over (names_in Γ) e (names_over P A Γ e o))).0.1

  pub pure_top : (e : Pure) → PureOver P A Γ e → TopOn A (pure_type P Γ e) (names_in Γ)
  pure_top (tree.use_of u) o = variable_top u.name (pures.type_of_use P Γ u) (used_on inst P A O Γ closed u o).1 o.0
  pure_top (tree.whole i) o = number_top (tree.whole i) o
  pure_top (tree.flag b) o = truth_top (tree.flag b) o
  pure_top tree.unit o = tt
  pure_top (tree.negated a) o = number_top (tree.negated a) o
  pure_top (tree.add a b) o = number_top (tree.add a b) o
  pure_top (tree.subtract a b) o = number_top (tree.subtract a b) o
  pure_top (tree.multiply a b) o = number_top (tree.multiply a b) o
  pure_top (tree.length_of a) o = number_top (tree.length_of a) o
  pure_top (tree.compare z a b) o = truth_top (tree.compare z a b) o
  pure_top (tree.not_of a) o = truth_top (tree.not_of a) o
  pure_top (tree.and_of a b) o = truth_top (tree.and_of a b) o
  pure_top (tree.or_of a b) o = truth_top (tree.or_of a b) o

-- ---- rows and tuples

module _ (law : Lower) (inst : Instancing) (operands : OperandsRun) (P : Basis) (A : Assignment) (O : Objects) (is : IsScene (scene_of P A O)) (lengths : KnowsLengths O) (by : Variables) (Q : Points) (are : AreTemplates P Q) (Δ : Types) (Γ : Context) (fits : Fits Δ Γ) (closed : IsClosed (scene_of P A O) Γ) where
  abbrev Operands : List Pure → ℕ → Table → Givens → Type 0
  Operands es n W σ =
      (vs : Values) × AllFit (scene_of P A O) (suc n) W (shut_all σ by.types (pure_types P Γ es)) vs × OperandsStand P Γ O σ es vs × ((w : World) → AllExactly w (close_all (pairs σ) (pure_cores es)) vs)

  operands_row : {es : List Pure} {us : MlTypes} → HavePures Q Δ es us → AreUsable P A O Γ es → MayUseAll by es → (n : ℕ) (W : Table) (σ : Givens) → Meets (scene_of P A O) by (suc n) W Γ σ → Operands es n W σ
  operands_row have_none u y n W σ m = (no_values, tt, tt, λ w. tt)
  operands_row (have_more {e = e} {u = a} h hs) u y n W σ m =
      let r = operands P A O is lengths by Q are Δ Γ fits closed e a h (both_uses (UseOver P A Γ) (MayUse by) e u.0 y.0) u.1 n W σ m in
      let rest = operands_row hs u.2 y.1 n W σ m in
      (more_values r.0 rest.0, (r.1, rest.1), (r.2, rest.2), λ w. ((λ k. r.3 k w), rest.3 w))

  pub rows_run : (es : List Pure) (us : MlTypes) → HavePures Q Δ es us → AreUsable P A O Γ es → MayUseAll by es → (r : Row) (n : ℕ) (W : Table) (σ : Givens) → Meets (scene_of P A O) by (suc n) W Γ σ → (vs : Values) × AllFit (scene_of P A O) (suc n) W (shut_all σ by.types (pure_types P Γ es)) vs × OperandsStand P Γ O σ es vs × ((k : ℕ) (w : World) → RunsWell k (close (pairs σ) (row r (pure_cores es))) w (Exactly (row_value r vs) w))
  rows_run es us h u y r n W σ m =
      let o = operands_row h u y n W σ m in
      (o.0, o.1, o.2, λ k w. row_exact law r w (close_all (pairs σ) (pure_cores es)) o.0 (o.3 w) k)

  -- the components, with the earlier ones as `#1`, `#2`, ..
  agree_position : (σ κ : Givens) (j : ℕ) (v : Value) → Agree (names_in Γ) σ κ → Agree (names_in Γ) σ (position j v κ)
  agree_position σ κ j v f y h = f y h ∙ sym (at_but κ (symbol.Position (suc j)) y v (apart y h))
    where
      apart : (y : Symbol) → names_in Γ y ≡ true → same_symbol (symbol.Position (suc j)) y ≡ false
      apart symbol.Value e = refl
      apart (symbol.Bound b) e = refl
      apart (symbol.Position i) e = absurd (clash (names_in Γ (symbol.Position i)) (no_position Δ Γ fits i) e)
        where
          clash : (b : Bool) → b ≡ false → b ≡ true → ⊥
          clash true p q = cc
          clash false p q = cc

  tuple_components : (es : List Pure) → AreUsable P A O Γ es → (n : ℕ) (W : Table) (σ : Givens) (vs : Values) → AllFit (scene_of P A O) n W (shut_all σ by.types (pure_types P Γ es)) vs → (j : ℕ) (κ : Givens) → Agree (names_in Γ) σ κ → AllFit (scene_of P A O) n W (components σ by.types κ j (pure_types P Γ es) vs) vs
  tuple_components [] u n W σ no_values h j κ f = h
  tuple_components [] u n W σ (more_values v vs) h j κ f = absurd h
  tuple_components (e ∷ es) u n W σ no_values h j κ f = absurd h
  tuple_components (e ∷ es) u n W σ (more_values v vs) h j κ f =
      let S = scene_of P A O in
      let T = pure_type P Γ e in
      ((h.0.0, retop S _ σ κ v T (λ t. parts_same S (with_value (names_in Γ)) (given symbol.Value v ∷ σ) (given symbol.Value v ∷ κ) (top T) (agree_with (names_in Γ) σ κ symbol.Value v f) (pure_top inst P A O Γ closed e u.0) t) h.0.1), tuple_components es u.2 n W σ vs h.1 (suc j) (position j v κ) (agree_position σ κ j v f))

  pub tuple_runs : (es : List Pure) (us : MlTypes) → HavePures Q Δ es us → AreUsable P A O Γ es → MayUseAll by es → RunsTo (scene_of P A O) by Γ (row core.tuple (pure_cores es)) (tuple_of (pure_types P Γ es))
  tuple_runs es us h u y n W σ w m ag =
      let S = scene_of P A O in
      let r = rows_run es us h u y core.tuple n W σ m in
      let T = tuple_of (pure_types P Γ es) in
      runs_map n (close (pairs σ) (row core.tuple (pure_cores es))) w (Exactly (v_tuple r.0) w) (LandsIn S W (shut σ by.types T)) (λ k v z le q.
      let own : Inhabits S k W (shut σ by.types T) (v_tuple r.0) = (tuple_components es u k W σ r.0 (all_fit_down S (suc n) k W (shut_all σ by.types (pure_types P Γ es)) r.0 (omega (numbers, le)) r.1) 0 σ (λ y i. refl), tt) in
      (W, extends_self W, subst (Inhabits S k W (shut σ by.types T)) (sym q.0) own, subst (Agrees S k W) (sym q.1) (law.stores S n k W w le ag))) (r.3 n w)
