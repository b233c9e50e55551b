-- Operations and blocks that check run to their types.
use Rattle.std.proofs.Common.{◌≡◌, inl, inr, ℕ, suc, ◌==◌, Bool, false, true, cond, [], ◌∷◌, Option, Some, None, ap, ◌∙◌, refl, sym, subst, arith as numbers}
use Rattle.std.proofs.lemmas.Bool.{eq-eqb}
use Rattle.lq_base_names.specs.declared.place.Place.{Place}
use Rattle.lq_logic_predicates.specs.Formula.{falsity, negation}
use Rattle.lq_refined_types.specs.Parts.Assignment.{Assignment, Implied}
use Rattle.lq_refined_types.specs.Parts.Part.{Part, Parts, known}
use Rattle.lq_text_tree.specs.MlType as ml
use Rattle.lq_text_tree.specs.MlType.{MlType}
use Rattle.lq_refined_types.specs.Types.Context.{Context, guard, IsNew}
use Rattle.lq_refined_types.specs.Types.Operations.{symbol_of, atom_of, type_by, renamed}
use Rattle.lq_refined_types.specs.Parts.Substitution.{swap}
use Rattle.lq_refined_types.specs.Types.Refined.{Refined, int_with, bool_with, unit_type, function, tuple_of, array_with, data_with, map_with, type_variable, Kind, kind, argument_of, element_of, erased}
use Rattle.lq_refined_types.specs.Subtyping.Subtype.{facts, IsSubtype}
use Rattle.lq_meaning_steps.specs.Model.Core.{Core, use_of, match_on, variable, fun, let_rec, v_rec, without, close}
use Rattle.lq_refined_rules.specs.Checks.Basis.{Basis}
use Rattle.lq_refined_rules.specs.Checks.Checks.{Against, IsCase, IsDefault, IsFirst}
use Rattle.lq_refined_rules.specs.Checks.Fitting.{Fits, fits_bind, fits_guard, GiveSimpleTypes}
use Rattle.lq_refined_rules.specs.Checks.Match.{is_data_match, matched_constructors, in_arm}
use Rattle.lq_refined_rules.specs.Checks.Operation.{type_of, bind, body_context, body_type, recursive_context, recursive_type}
use Rattle.lq_refined_rules.specs.Checks.Pure.{sum_of, formula_of, pure_type}
use Rattle.lq_refined_rules.specs.Checks.Tree as tree
use Rattle.lq_refined_rules.specs.Checks.Tree.{passes_on, is_arm_of, takes_all, has_default, Use, Pure, Arms, Operation, Block}
use Rattle.lq_refined_rules.specs.Checks.Typing.{Points, AreTemplates, Types, HaveArms, HasPure, HasOperation, HasBlock}
use Rattle.lq_sound_values.specs.Inhabitants.Truth.{Givens, given, Objects}
use Rattle.lq_sound_values.specs.Inhabitants.Shut.{shut}
use Rattle.lq_sound_values.specs.Inhabitants.Inhabits.{Table, Inhabits, Agrees}
use Rattle.lq_sound_values.specs.Inhabitants.Runs.{LandsIn}
use Rattle.lq_sound_values.proofs.InhabitantsLemmas.Running.{runs_map}
use Rattle.lq_sound_values.specs.Inclusion.Apart.{Turns, Apart}
use Rattle.lq_sound_values.specs.Inclusion.Symbols.{Symbols, with_symbol, TypeOn}
use Rattle.lq_sound_values.specs.Inhabitants.Below.{Below}
use Rattle.lq_sound_values.proofs.RunsLemmas.Closing.{agree_new, closed_bind}
use Rattle.lq_sound_values.specs.Inclusion.Laws.{IsScene}
use Rattle.lq_sound_values.proofs.InclusionLemmas.Truths as truths
use Rattle.lq_sound_values.proofs.InclusionLemmas.Truths.{implied_true}
use Rattle.lq_sound_values.specs.Runs.Closed.{names_in, IsClosed, Binds}
use Rattle.lq_sound_values.specs.Runs.Meets.{pairs, Variables, Meets}
use Rattle.lq_sound_values.specs.Runs.Runs.{RunsTo, RunsToValue, Exactly}
use Rattle.lq_sound_values.proofs.RunsLemmas.Lower as lower
use Rattle.lq_sound_values.proofs.RunsLemmas.Meeting.{extends_self}
use Rattle.lq_sound_values.specs.Runs.Forms.{SubtypeRuns, LetRuns, ReadRuns, IfRuns, AssertRuns, PrintRuns, FunctionRuns, RecursionRuns, RecursiveValuesFit}
use Rattle.lq_sound_forms.specs.Quotients.Quotients.{QuotientRuns, RemainderRuns}
use Rattle.lq_sound_forms.proofs.PuresLemmas.Values.{sum_over}
use Rattle.lq_sound_forms.specs.Pures.Cores.{pure_core, operation_core, block_core, arms_core}
use Rattle.lq_sound_forms.specs.Pures.Pures.{KnowsLengths, scene_of, EachUse, UseOver, PureOver, MayUse, UseIn, PureIn, NumbersRun, ConditionsRun, UnitsRun}
use Rattle.lq_sound_forms.specs.Pures.Values.{ConditionsGuard}
use Rattle.lq_sound_forms.specs.Calls.Operands.{IsUsable, IsUsablePure, OperandsRun, CallsRun}
use Rattle.lq_sound_forms.specs.Arrays.Arrays.{IsArrayAt, FetchRuns, MakeRuns, StoreRuns}
use Rattle.lq_sound_forms.specs.Tuples.Tuples.{HasComponentsOver, TuplesRun, FirstArmRuns}
use Rattle.lq_sound_forms.specs.Builds.Builds.{BuildsRun}
use Rattle.lq_sound_forms.specs.Matches.Matches.{CaseRuns, DefaultRuns, MatchRuns}
use Rattle.lq_sound_forms.proofs.PuresLemmas.Pures.{Instancing, each_use, both_uses, names_over, use_type, look_up}
use Rattle.lq_refined_rules.specs.Checks.Pure as pures
use Rattle.lq_refined_rules.specs.Checks.Typing as typing
use Rattle.lq_refined_types.specs.Types.Laws.{KeepSimpleTypes}
use Rattle.lq_sound_programs.specs.Safety.Programs.{with_names, IsUse, UsesOnly, BlockUsesOnly, ArmsUseOnly, Allows}
use Rattle.lq_sound_programs.specs.Safety.Scoped.{IsIn, AreDatatypesFor, IsScopedCase, IsScopedDefault, IsScopedFirst, NamesArgument, IsScoped, IsScopedBlock}
use Rattle.lq_sound_programs.proofs.SafetyLemmas.Allowing.{may_use, may_all, allows_bind, allows_arm}
use Rattle.lq_sound_programs.proofs.SafetyLemmas.Parts.{arms_have, where_true, where_false, where_both, case_parts, default_parts, first_parts, case_of, ObeysParts, obeys_parts, against_parts, OperationHas, operation_has, block_has}

abbrev predicates : lower.Lower → truths.Lower
predicates law = record { valid = law.valid; truth-by = law.truth-by; under-by = law.under-by }

-- what the crates below say of forms and of pure expressions
pub record Forms : Type 0 where
  pub law : lower.Lower
  pub inst : Instancing
  pub subtypes : SubtypeRuns
  pub lets : LetRuns
  pub reads : ReadRuns
  pub ifs : IfRuns
  pub asserts : AssertRuns
  pub prints : PrintRuns
  pub numbers : NumbersRun
  pub conditions : ConditionsRun
  pub units : UnitsRun
  pub operands : OperandsRun
  pub calls : CallsRun
  pub functions : FunctionRuns
  pub recursions : RecursionRuns
  pub recursive_values : RecursiveValuesFit
  pub erasing : KeepSimpleTypes
  pub fetches : FetchRuns
  pub makes : MakeRuns
  pub stores : StoreRuns
  pub tuples : TuplesRun
  pub firsts : FirstArmRuns
  pub builds : BuildsRun
  pub matches : MatchRuns
  pub guards : ConditionsGuard
  pub quotients : QuotientRuns
  pub remainders : RemainderRuns

module _ (forms : Forms) (P : Basis) (A : Assignment) (O : Objects) (is : IsScene (scene_of P A O)) (lengths : KnowsLengths O) (Q : Points) (are : AreTemplates P Q) (simple : GiveSimpleTypes P Q) (by : Variables) where
  -- a pure expression as an operation
  pure_ok : (Γ : Context) (c : Core) (t : Refined) → RunsToValue (scene_of P A O) by Γ c t → RunsTo (scene_of P A O) by Γ c t
  pure_ok Γ c t runs n W σ w m ag =
      let S = scene_of P A O in
      let r = runs n W σ m in
      runs_map n (close (pairs σ) c) w (Exactly r.0 w) (LandsIn S W (shut σ by.types t)) (λ k v u le q.
      (W, extends_self W, subst (Inhabits S k W (shut σ by.types t)) (sym q.0) (forms.law.smaller S (suc n) k W (shut σ by.types t) r.0 (omega (numbers, le)) r.1), subst (Agrees S k W) (sym q.1) (forms.law.stores S n k W w le ag))) (r.2 n w)

  -- what is impossible runs as it likes
  impossible_ok : (Γ : Context) (c : Core) (t : Refined) → Implied A (facts P.setting Γ) (known falsity) → RunsTo (scene_of P A O) by Γ c t
  impossible_ok Γ c t v n W σ w m ag =
      absurd (false_true (implied_true (predicates forms.law) (scene_of P A O) σ (facts P.setting Γ) (known falsity) v m.known.true_facts).0)
    where
      false_true : false ≡ true → ⊥
      false_true e = cc

  -- ---- functions

  pub argument_erased : (t : Refined) (s u : MlType) → erased t ≡ ml.arrow s u → erased (argument_of t) ≡ s
  argument_erased (function x c d) s u e = ap first_of e
    where
      first_of : MlType → MlType
      first_of (ml.arrow s u) = s
      first_of _ = ml.unit
  argument_erased (int_with p) s u e = absurd (cc)
  argument_erased (bool_with p) s u e = absurd (cc)
  argument_erased unit_type s u e = absurd (cc)
  argument_erased (tuple_of ts) s u e = absurd (cc)
  argument_erased (array_with c p) s u e = absurd (cc)
  argument_erased (data_with d ts m p) s u e = absurd (cc)
  argument_erased (map_with c p) s u e = absurd (cc)
  argument_erased (type_variable i) s u e = absurd (cc)

  renamed_erased : (x : Option ℕ) (y : ℕ) (k : Kind) (t : Refined) → erased (renamed P.setting.scopes x (Some y) k t) ≡ erased t
  renamed_erased None y k t = refl
  renamed_erased (Some x) y k t = by_test (x == y)
    where
      by_test : (b : Bool) → erased (cond b t (type_by P.setting.scopes (swap (symbol_of x) (atom_of k (symbol_of y)) ∷ []) t)) ≡ erased t
      by_test true = refl
      by_test false = forms.erasing.putting P.setting.scopes (swap (symbol_of x) (atom_of k (symbol_of y)) ∷ []) t

  pub body_erased : (y : ℕ) (t : Refined) (s u : MlType) → erased t ≡ ml.arrow s u → erased (body_type P.setting.scopes y t) ≡ u
  body_erased y (function x c d) s u e = renamed_erased x y (kind c) d ∙ ap second_of e
    where
      second_of : MlType → MlType
      second_of (ml.arrow s u) = u
      second_of _ = ml.unit
  body_erased y (int_with p) s u e = absurd (cc)
  body_erased y (bool_with p) s u e = absurd (cc)
  body_erased y unit_type s u e = absurd (cc)
  body_erased y (tuple_of ts) s u e = absurd (cc)
  body_erased y (array_with c p) s u e = absurd (cc)
  body_erased y (data_with d ts m p) s u e = absurd (cc)
  body_erased y (map_with c p) s u e = absurd (cc)
  body_erased y (type_variable i) s u e = absurd (cc)

  -- a body's type turns into the result's
  body_turns : (Γ : Context) (y : ℕ) (x : Option ℕ) (c d : Refined) → IsNew (symbol_of y) Γ → NamesArgument A (names_in Γ) y (function x c d) → Turns (scene_of P A O) c (Some y) (renamed P.setting.scopes x (Some y) (kind c) d) x d
  body_turns Γ y None c d new o σ by v i absent = forms.law.thin (scene_of P A O) is d (names_in Γ) o (given (symbol_of y) v ∷ σ) σ by (agree_new Γ (symbol_of y) v σ new)
  body_turns Γ y (Some x) c d new e σ by v i absent =
      let S = scene_of P A O in
      let w = type_by P.setting.scopes (swap (symbol_of x) (atom_of (kind c) (symbol_of y)) ∷ []) d in
      subst (λ z. Below S (shut (given (symbol_of y) v ∷ σ) by z) (shut (given (symbol_of x) v ∷ σ) by d)) (sym (chosen (x == y) d w (eq-eqb x y e))) (subst (λ z. Below S (shut (given (symbol_of z) v ∷ σ) by d) (shut (given (symbol_of x) v ∷ σ) by d)) e (λ n W u h. h))
    where
      chosen : (b : Bool) (t u : Refined) → b ≡ true → cond b t u ≡ t
      chosen true t u z = refl
      chosen false t u z = absurd (cc)

  function_runs : (Γ : Context) (y : ℕ) (b : Core) (t : Refined) → IsClosed (scene_of P A O) Γ → NamesArgument A (names_in Γ) y t → Binds (scene_of P A O) (symbol_of y) (argument_of t) Γ → RunsTo (scene_of P A O) by (body_context Γ y t) b (body_type P.setting.scopes y t) → RunsTo (scene_of P A O) by Γ (fun (variable y) b) t
  function_runs Γ y b (function x c d) closed o inner runs =
      forms.functions (scene_of P A O) is by Γ y b x c d (renamed P.setting.scopes x (Some y) (kind c) d) inner (body_turns Γ y x c d inner.1 o) runs
  function_runs Γ y b (int_with p) closed o inner runs = absurd o
  function_runs Γ y b (bool_with p) closed o inner runs = absurd o
  function_runs Γ y b unit_type closed o inner runs = absurd o
  function_runs Γ y b (tuple_of ts) closed o inner runs = absurd o
  function_runs Γ y b (array_with c p) closed o inner runs = absurd o
  function_runs Γ y b (data_with d ts m p) closed o inner runs = absurd o
  function_runs Γ y b (map_with c p) closed o inner runs = absurd o
  function_runs Γ y b (type_variable i) closed o inner runs = absurd o

  recursion_runs : (Γ : Context) (g y : ℕ) (b : Core) (t : Refined) → NamesArgument A (names_in Γ) y t → Binds (scene_of P A O) (symbol_of g) t Γ → Binds (scene_of P A O) (symbol_of y) (argument_of t) (bind g t Γ) → TypeOn A t (names_in Γ) → RunsTo (scene_of P A O) by (bind y (argument_of t) (bind g t Γ)) b (body_type P.setting.scopes y t) → (e : Core) (u : Refined) → TypeOn A u (names_in Γ) → RunsTo (scene_of P A O) by (bind g t Γ) e u → RunsTo (scene_of P A O) by Γ (let_rec g (variable y) b e) u
  recursion_runs Γ g y b (function x c d) o own inner on runs e u k rest =
      forms.recursions (scene_of P A O) is by Γ g y b x c d (renamed P.setting.scopes x (Some y) (kind c) d) own inner on (body_turns Γ y x c d inner.1.1 o) runs e u k rest
  recursion_runs Γ g y b (int_with p) o own inner on runs e u k rest = absurd o
  recursion_runs Γ g y b (bool_with p) o own inner on runs e u k rest = absurd o
  recursion_runs Γ g y b unit_type o own inner on runs e u k rest = absurd o
  recursion_runs Γ g y b (tuple_of ts) o own inner on runs e u k rest = absurd o
  recursion_runs Γ g y b (array_with c p) o own inner on runs e u k rest = absurd o
  recursion_runs Γ g y b (data_with d ts m p) o own inner on runs e u k rest = absurd o
  recursion_runs Γ g y b (map_with c p) o own inner on runs e u k rest = absurd o
  recursion_runs Γ g y b (type_variable i) o own inner on runs e u k rest = absurd o

  pub recursion_fits : (Γ : Context) (g y : ℕ) (b : Core) (t : Refined) → NamesArgument A (names_in Γ) y t → Binds (scene_of P A O) (symbol_of g) t Γ → Binds (scene_of P A O) (symbol_of y) (argument_of t) (bind g t Γ) → TypeOn A t (names_in Γ) → RunsTo (scene_of P A O) by (bind y (argument_of t) (bind g t Γ)) b (body_type P.setting.scopes y t) → (n : ℕ) (W : Table) (σ : Givens) → Meets (scene_of P A O) by n W Γ σ → Inhabits (scene_of P A O) n W (shut σ by.types t) (v_rec g (variable y) (close (without (g ∷ y ∷ []) (pairs σ)) b))
  recursion_fits Γ g y b (function x c d) o own inner on runs n W σ m =
      forms.recursive_values (scene_of P A O) is by Γ g y b x c d (renamed P.setting.scopes x (Some y) (kind c) d) own inner on (body_turns Γ y x c d inner.1.1 o) runs n W σ m
  recursion_fits Γ g y b (int_with p) o own inner on runs n W σ m = absurd o
  recursion_fits Γ g y b (bool_with p) o own inner on runs n W σ m = absurd o
  recursion_fits Γ g y b unit_type o own inner on runs n W σ m = absurd o
  recursion_fits Γ g y b (tuple_of ts) o own inner on runs n W σ m = absurd o
  recursion_fits Γ g y b (array_with c p) o own inner on runs n W σ m = absurd o
  recursion_fits Γ g y b (data_with d ts z p) o own inner on runs n W σ m = absurd o
  recursion_fits Γ g y b (map_with c p) o own inner on runs n W σ m = absurd o
  recursion_fits Γ g y b (type_variable i) o own inner on runs n W σ m = absurd o

  -- ---- arrays

  array_form : (t : Refined) (a : MlType) → erased t ≡ ml.array a → (e : Refined) × (p : Parts) × (t ≡ array_with e p)
  array_form (array_with e p) a h = (e, p, refl)
  array_form (int_with p) a h = absurd (cc)
  array_form (bool_with p) a h = absurd (cc)
  array_form unit_type a h = absurd (cc)
  array_form (function x c d) a h = absurd (cc)
  array_form (tuple_of ts) a h = absurd (cc)
  array_form (data_with d ts m p) a h = absurd (cc)
  array_form (map_with c p) a h = absurd (cc)
  array_form (type_variable i) a h = absurd (cc)

  -- ---- uses

  use_in : (G V : Symbols) (Γ : Context) → Allows by G V Γ → (u : Use) → UseOver P A Γ u → IsUse G V u → UseIn P A by Γ u
  use_in G V Γ al u o k = (o, may_use by G V Γ al u k)

  pure_in : (G V : Symbols) (Γ : Context) → Allows by G V Γ → (d : Pure) → PureOver P A Γ d → EachUse (IsUse G V) d → PureIn P A by Γ d
  pure_in G V Γ al d o k = both_uses (UseOver P A Γ) (MayUse by) d o (each_use (IsUse G V) (MayUse by) (may_use by G V Γ al) d k)

  operand_value : (Δ : Types) (Γ : Context) → Fits Δ Γ → IsClosed (scene_of P A O) Γ → (d : Pure) (a : MlType) → HasPure Q Δ d a → PureIn P A by Γ d → IsUsablePure P (scene_of P A O) Γ d → RunsToValue (scene_of P A O) by Γ (pure_core d) (pure_type P Γ d)
  operand_value Δ Γ f c d a h o s = λ n W σ m. let r = forms.operands P A O is lengths by Q are Δ Γ f c d a h o s n W σ m in (r.0, r.1, r.3)

  -- what a use is whose type is that of an array
  array_at : (Δ : Types) (Γ : Context) → Fits Δ Γ → IsClosed (scene_of P A O) Γ → (u : Use) → UseIn P A by Γ u → (e : Refined) (p : Parts) → pures.type_of_use P Γ u ≡ array_with e p → IsArrayAt (scene_of P A O) by Γ u.name e p
  array_at Δ Γ f c u o e p same n W σ m =
      let l = look_up forms.law forms.inst P A O is lengths by Q are Δ Γ f c n W σ m u o in
      record { value = l.value; is = l.is; fits = subst (λ t. Inhabits (scene_of P A O) n W (shut σ by.types t) l.value) same l.fits }

  used_form : (Δ : Types) (Γ : Context) → Fits Δ Γ → IsClosed (scene_of P A O) Γ → (u : Use) (a : MlType) → typing.type_of_use Q Δ u ≡ ml.array a → (e : Refined) × (p : Parts) × (pures.type_of_use P Γ u ≡ array_with e p)
  used_form Δ Γ f c u a h =
      array_form (pures.type_of_use P Γ u) a (use_type forms.law forms.inst P A O is lengths by Q are Δ Γ f c u ∙ h)

  -- the type to which an operation runs
  abbrev result_of : Context → Operation → Refined → Refined
  result_of Γ o t = cond (passes_on o) t (type_of P Γ o)

  last_ok : (z : Bool) (Γ : Context) (e : Core) (t u : Refined) → (z ≡ false → IsSubtype P.setting A Γ u t) → (z ≡ false → (d : IsSubtype P.setting A Γ u t) → Apart (scene_of P A O) d) → RunsTo (scene_of P A O) by Γ e (cond z t u) → RunsTo (scene_of P A O) by Γ e t
  last_ok true Γ e t u d a h = h
  last_ok false Γ e t u d a h = forms.subtypes (scene_of P A O) is by Γ e u t (d refl) (a refl (d refl)) h

  pub bound_ok : (z : Bool) (Γ : Context) (e : Core) (u : Refined) → RunsTo (scene_of P A O) by Γ e (cond z u u) → RunsTo (scene_of P A O) by Γ e u
  bound_ok true Γ e u h = h
  bound_ok false Γ e u h = h

  mutual
    pub operation_runs : (o : Operation) (l : Place) (Δ : Types) (Γ : Context) (t : Refined) (a : MlType) → Fits Δ Γ → IsClosed (scene_of P A O) Γ → OperationHas P Q Δ o a → (passes_on o ≡ true → erased t ≡ a) → ObeysParts P A Γ o t → IsScoped P A O Γ o t → (G V : Symbols) → Allows by G V Γ → UsesOnly G V o → RunsTo (scene_of P A O) by Γ (operation_core l o) (result_of Γ o t)
    operation_runs (tree.pure d) l Δ Γ t a f c h e r s G V al k =
        pure_ok Γ (pure_core d) (pure_type P Γ d) (operand_value Δ Γ f c d a h (pure_in G V Γ al d s.0 k) s.1)
    operation_runs (tree.if_else p z d b) l Δ Γ t a f c h e r s G V al k =
        let S = scene_of P A O in
        let g = forms.guards S Γ c z (names_over P A Γ z s.0) in
        let more : (q : Part) → Allows by G V (guard q ∷ Γ) = λ q. record { within = al.within; shown = al.shown; general = al.general } in
        forms.ifs S is by Γ (pure_core z) (block_core d) (block_core b) (formula_of z) t g.0 g.1 (forms.conditions P A O is lengths by Q are Δ Γ f c z h.0 (pure_in G V Γ al z s.0 k.0)) (block_runs d Δ (guard (known (formula_of z)) ∷ Γ) t a (fits_guard f) g.0 h.1 (e refl) r.0 s.1 G V (more (known (formula_of z))) k.1) (block_runs b Δ (guard (known (negation (formula_of z))) ∷ Γ) t a (fits_guard f) g.1 h.2 (e refl) r.1 s.2 G V (more (known (negation (formula_of z)))) k.2)
    operation_runs (tree.fun p y b) l Δ Γ t a f c h e r s G V al k =
        let shape : erased t ≡ ml.arrow h.0 h.1 = e refl ∙ h.2 in
        function_runs Γ y (block_core b) t c s.0 s.1 (block_runs b ((y, h.0) ∷ Δ) (body_context Γ y t) (body_type P.setting.scopes y t) h.1 (fits_bind (argument_erased t h.0 h.1 shape) f) (closed_bind (scene_of P A O) (symbol_of y) (argument_of t) Γ s.1) h.3 (body_erased y t h.0 h.1 shape) r s.2 G (with_symbol V (symbol_of y)) (allows_bind by G V Γ (symbol_of y) (argument_of t) s.1.1 al) k)
    operation_runs (tree.call g z) l Δ Γ t a f c h e r s G V al k =
        forms.calls P A O is lengths by Q are Δ Γ f c g z h.0 a h.1 h.2 (pure_in G V Γ al g s.0.0 k.0) (pure_in G V Γ al z s.1.0 k.1) s.0.1 s.1.1 r (s.2 r)
    operation_runs (tree.assert z) l Δ Γ t a f c h e r s G V al k =
        forms.asserts (scene_of P A O) by Γ l (pure_core z) (formula_of z) (forms.conditions P A O is lengths by Q are Δ Γ f c z h (pure_in G V Γ al z s k)) r
    operation_runs (tree.assert_false p) l Δ Γ t a f c h e r s G V al k = impossible_ok Γ (operation_core l (tree.assert_false p)) (P.template p) r
    operation_runs (tree.read z) l Δ Γ t a f c h e r s G V al k =
        forms.reads (scene_of P A O) by Γ l (pure_core z) (forms.units P A O is lengths by Q are Δ Γ f c z h (pure_in G V Γ al z s k))
    operation_runs (tree.print z) l Δ Γ t a f c h e r s G V al k =
        forms.prints (scene_of P A O) by Γ (pure_core z) (sum_of z) (forms.numbers P A O is lengths by Q are Δ Γ f c z h (pure_in G V Γ al z s k))
    operation_runs (tree.divide x y) l Δ Γ t a f c h e r s G V al k =
        forms.quotients (scene_of P A O) by Γ l (pure_core x) (pure_core y) (sum_of x) (sum_of y) c (sum_over (names_in Γ) x (names_over P A Γ x s.0)) (sum_over (names_in Γ) y (names_over P A Γ y s.1)) (forms.numbers P A O is lengths by Q are Δ Γ f c x h.0 (pure_in G V Γ al x s.0 k.0)) (forms.numbers P A O is lengths by Q are Δ Γ f c y h.1 (pure_in G V Γ al y s.1 k.1)) r
    operation_runs (tree.remainder x y) l Δ Γ t a f c h e r s G V al k =
        forms.remainders (scene_of P A O) by Γ l (pure_core x) (pure_core y) (sum_of x) (sum_of y) c (sum_over (names_in Γ) x (names_over P A Γ x s.0)) (sum_over (names_in Γ) y (names_over P A Γ y s.1)) (forms.numbers P A O is lengths by Q are Δ Γ f c x h.0 (pure_in G V Γ al x s.0 k.0)) (forms.numbers P A O is lengths by Q are Δ Γ f c y h.1 (pure_in G V Γ al y s.1 k.1)) r
    operation_runs (tree.match_on p u arms) l Δ Γ t a f c h e (inl r) s G V al k =
        let own = pures.type_of_use P Γ u in
        let q = where_true (is_data_match P Γ u) (AreDatatypesFor P A O Γ u × ((i : ℕ) → IsIn (matched_constructors P Γ u) i → IsScopedCase P A O Γ u i t arms) × IsScopedDefault P A O Γ u t arms) (HasComponentsOver A (names_in Γ) own × IsScopedFirst P A O Γ u t arms) r.0 s.3 in
        forms.matches P A O is lengths q.0.0 by Q are Δ Γ f c l u arms t a (use_in G V Γ al u s.0 k.0) s.1 h r.0 q.0.2 s.2 (λ i j makes.
        let listed : IsIn (matched_constructors P Γ u) i = subst (λ d. IsIn (P.constructors_of d) i) makes.1 (q.0.1 i j makes.0) in
        case_runs arms Δ Γ u i (has_default arms) t a f h (e refl) (case_of P A Γ u arms t (matched_constructors P Γ u) i listed r.1) (q.1 i listed) G V al k.1) (default_runs arms Δ Γ u t a f h (e refl) r.2 q.2 G V al k.1)
    operation_runs (tree.match_on p u arms) l Δ Γ t a f c h e (inr r) s G V al k =
        let q = where_false (is_data_match P Γ u) (AreDatatypesFor P A O Γ u × ((i : ℕ) → IsIn (matched_constructors P Γ u) i → IsScopedCase P A O Γ u i t arms) × IsScopedDefault P A O Γ u t arms) (HasComponentsOver A (names_in Γ) (pures.type_of_use P Γ u) × IsScopedFirst P A O Γ u t arms) r.0 s.3 in
        first_runs arms l Δ Γ u t a f c s.0 s.1 h (e refl) r.0 q.0 s.2 r.1 q.1 G V al k
    operation_runs (tree.tuple es) l Δ Γ t a f c h e r s G V al k = forms.tuples P A O is lengths by Q are Δ Γ f c es h.0 h.1 s (may_all by G V Γ al es k)
    operation_runs (tree.build p i es) l Δ Γ t a f c h e r s G V al k =
        forms.builds P A O is lengths s.2 by Q are Δ Γ f c p i es h.0 h.1 h.2 (are.templates p ∙ h.3) h.4 s.0 (may_all by G V Γ al es k) r s.1 (s.3 h.0 h.2)
    operation_runs (tree.make p n z) l Δ Γ t a f c h e r s G V al k =
        let S = scene_of P A O in
        forms.makes S lengths by Γ l (pure_core n) (pure_core z) (sum_of n) (pure_type P Γ z) (P.template p) c (sum_over (names_in Γ) n (names_over P A Γ n s.0)) (forms.numbers P A O is lengths by Q are Δ Γ f c n h.1 (pure_in G V Γ al n s.0 k.0)) (operand_value Δ Γ f c z h.0 h.2 (pure_in G V Γ al z s.1.0 k.1) s.1.1) (λ σ m. forms.law.subtypes S is Γ (pure_type P Γ z) (P.template p) r.1 (s.2 r.1) σ by.types m) r.0
    operation_runs (tree.fetch u i) l Δ Γ t a f c h e r s G V al k =
        let S = scene_of P A O in
        let T = used_form Δ Γ f c u a h.0 in
        subst (RunsTo S by Γ (operation_core l (tree.fetch u i))) (sym (ap element_of T.2)) (forms.fetches S is lengths by Γ l u.name (pure_core i) (sum_of i) T.0 T.1 c (array_at Δ Γ f c u (use_in G V Γ al u s.0 k.0) T.0 T.1 T.2) (forms.numbers P A O is lengths by Q are Δ Γ f c i h.1 (pure_in G V Γ al i s.1 k.1)) r)
    operation_runs (tree.store u i z) l Δ Γ t a f c h e r s G V al k =
        let S = scene_of P A O in
        let T = used_form Δ Γ f c u h.0 h.1 in
        forms.stores S is lengths by Γ l u.name (pure_core i) (pure_core z) (sum_of i) (pure_type P Γ z) T.0 T.1 c (array_at Δ Γ f c u (use_in G V Γ al u s.0 k.0) T.0 T.1 T.2) (forms.numbers P A O is lengths by Q are Δ Γ f c i h.2 (pure_in G V Γ al i s.1 k.1)) (operand_value Δ Γ f c z h.0 h.3 (pure_in G V Γ al z s.2.0 k.2) s.2.1) (λ σ m. subst (λ y. Below S (shut σ by.types (pure_type P Γ z)) (shut σ by.types y)) (ap element_of T.2) (forms.law.subtypes S is Γ (pure_type P Γ z) (element_of (pures.type_of_use P Γ u)) r.1 (s.3 r.1) σ by.types m)) r.0
    operation_runs (tree.map_empty p) l Δ Γ t a f c h e r s G V al k = absurd k
    operation_runs (tree.map_add p i z m) l Δ Γ t a f c h e r s G V al k = absurd k
    operation_runs (tree.map_find i m) l Δ Γ t a f c h e r s G V al k = absurd k

    pub block_runs : (b : Block) (Δ : Types) (Γ : Context) (t : Refined) (a : MlType) → Fits Δ Γ → IsClosed (scene_of P A O) Γ → HasBlock P Q Δ b a → erased t ≡ a → Against P A Γ b t → IsScopedBlock P A O Γ b t → (G V : Symbols) → Allows by G V Γ → BlockUsesOnly G V b → RunsTo (scene_of P A O) by Γ (block_core b) t
    block_runs (tree.last l o) Δ Γ t a f c h e r s G V al k =
        let q = against_parts P A r in
        last_ok (passes_on o) Γ (operation_core l o) t (type_of P Γ o) q.1 s.1 (operation_runs o l Δ Γ t a f c (operation_has P Q (block_has P Q h)) (λ z. e) (obeys_parts P A q.0) s.0 G V al k)
    block_runs (tree.binding x l o b) Δ Γ t a f c h e r s G V al k =
        let S = scene_of P A O in
        let q = against_parts P A r in
        let i = block_has P Q h in
        let u = type_of P Γ o in
        let same = simple.operations Δ Γ o i.0 f i.1 i.2 in
        forms.lets S is by Γ x (operation_core l o) (block_core b) u t s.1 s.2 (bound_ok (passes_on o) Γ (operation_core l o) u (operation_runs o l Δ Γ u i.0 f c (operation_has P Q i.1) (λ z. same) (obeys_parts P A q.0) s.0 G V al k.0)) (block_runs b ((x, i.0) ∷ Δ) (bind x u Γ) t a (fits_bind same f) (closed_bind S (symbol_of x) u Γ s.1) i.3 e q.1 s.3 G (with_symbol V (symbol_of x)) (allows_bind by G V Γ (symbol_of x) u s.1.1 al) k.1)
    block_runs (tree.recursive g p y b d) Δ Γ t a f c h e r s G V al k =
        let S = scene_of P A O in
        let q = against_parts P A r in
        let i = block_has P Q h in
        let T = P.template p in
        let shape : erased T ≡ ml.arrow i.0.0 i.0.1 = are.templates p ∙ i.0.2 in
        let inner = fits_bind {x = g} (are.templates p) f in
        let more = allows_bind by G V Γ (symbol_of g) T s.2.1 al in
        recursion_runs Γ g y (block_core b) T s.1 s.2 s.3 s.4 (block_runs b ((y, i.0.0) ∷ (g, Q.point p) ∷ Δ) (recursive_context P Γ g p y) (recursive_type P p y) i.0.1 (fits_bind (argument_erased T i.0.0 i.0.1 shape) inner) (closed_bind S (symbol_of y) (argument_of T) (bind g T Γ) s.3) i.0.3 (body_erased y T i.0.0 i.0.1 shape) q.0 s.0 G (with_symbol (with_symbol V (symbol_of g)) (symbol_of y)) (allows_bind by G (with_symbol V (symbol_of g)) (bind g T Γ) (symbol_of y) (argument_of T) s.3.1 more) k.0) (block_core d) t s.5 (block_runs d ((g, Q.point p) ∷ Δ) (bind g T Γ) t a inner (closed_bind S (symbol_of g) T Γ s.2) i.1 e q.1 s.6 G (with_symbol V (symbol_of g)) more k.1)

    -- ---- arms

    case_runs : (arms : Arms) (Δ : Types) (Γ : Context) (u : Use) (i : ℕ) (d : Bool) (t : Refined) (a : MlType) → Fits Δ Γ → HaveArms P Q Δ (typing.type_of_use Q Δ u) arms a → erased t ≡ a → IsCase P A Γ u d i t arms → IsScopedCase P A O Γ u i t arms → (G V : Symbols) → Allows by G V Γ → ArmsUseOnly G V arms → CaseRuns P A O by Γ u t d i arms
    case_runs tree.no_arms Δ Γ u i d t a f h e r s G V al k = case_parts P A r
    case_runs (tree.arm q b arms) Δ Γ u i d t a f h e r s G V al k =
        let S = scene_of P A O in
        let g = arms_have P Q h in
        where_both (is_arm_of i q) (Against P A (in_arm P Γ u q) b t) (IsCase P A Γ u d i t arms) (IsClosed S (in_arm P Γ u q) × IsScopedBlock P A O (in_arm P Γ u q) b t) (IsScopedCase P A O Γ u i t arms) (IsClosed S (in_arm P Γ u q) × RunsTo S by (in_arm P Γ u q) (block_core b) t) (CaseRuns P A O by Γ u t d i arms) (λ x y. (y.0, block_runs b g.0 (in_arm P Γ u q) t a (simple.arms Δ g.0 Γ u q f g.1) y.0 g.2 e x y.1 G (with_names V (tree.names_of q)) (allows_arm P A O by G V Γ u q y.0 al) k.0)) (λ x y. case_runs arms Δ Γ u i d t a f g.3 e x y G V al k.1) (case_parts P A r) s

    default_runs : (arms : Arms) (Δ : Types) (Γ : Context) (u : Use) (t : Refined) (a : MlType) → Fits Δ Γ → HaveArms P Q Δ (typing.type_of_use Q Δ u) arms a → erased t ≡ a → IsDefault P A Γ u arms t → IsScopedDefault P A O Γ u t arms → (G V : Symbols) → Allows by G V Γ → ArmsUseOnly G V arms → DefaultRuns P A O by Γ u t arms
    default_runs tree.no_arms Δ Γ u t a f h e r s G V al k = tt
    default_runs (tree.arm q b arms) Δ Γ u t a f h e r s G V al k =
        let S = scene_of P A O in
        let g = arms_have P Q h in
        where_both (takes_all q) (Against P A (in_arm P Γ u q) b t) (IsDefault P A Γ u arms t) (IsClosed S (in_arm P Γ u q) × IsScopedBlock P A O (in_arm P Γ u q) b t) (IsScopedDefault P A O Γ u t arms) (IsClosed S (in_arm P Γ u q) × RunsTo S by (in_arm P Γ u q) (block_core b) t) (DefaultRuns P A O by Γ u t arms) (λ x y. (y.0, block_runs b g.0 (in_arm P Γ u q) t a (simple.arms Δ g.0 Γ u q f g.1) y.0 g.2 e x y.1 G (with_names V (tree.names_of q)) (allows_arm P A O by G V Γ u q y.0 al) k.0)) (λ x y. default_runs arms Δ Γ u t a f g.3 e x y G V al k.1) (default_parts P A r) s

    first_runs : (arms : Arms) (l : Place) (Δ : Types) (Γ : Context) (u : Use) (t : Refined) (a : MlType) → Fits Δ Γ → IsClosed (scene_of P A O) Γ → UseOver P A Γ u → IsUsable (scene_of P A O) Γ (pures.type_of_use P Γ u) → HaveArms P Q Δ (typing.type_of_use Q Δ u) arms a → erased t ≡ a → is_data_match P Γ u ≡ false → HasComponentsOver A (names_in Γ) (pures.type_of_use P Γ u) → TypeOn A t (names_in Γ) → IsFirst P A Γ u arms t → IsScopedFirst P A O Γ u t arms → (G V : Symbols) → Allows by G V Γ → IsUse G V u × ArmsUseOnly G V arms → RunsTo (scene_of P A O) by Γ (match_on l (use_of u.name) (arms_core arms)) t
    first_runs tree.no_arms l Δ Γ u t a f c o usable h e other comps on r s G V al k = absurd s
    first_runs (tree.arm q b arms) l Δ Γ u t a f c o usable h e other comps on r s G V al k =
        let g = arms_have P Q h in
        forms.firsts P A O is lengths by Q are Δ Γ f c l u q (block_core b) (arms_core arms) g.0 t (use_in G V Γ al u o k.0) usable g.1 other comps s.0 on (block_runs b g.0 (in_arm P Γ u q) t a (simple.arms Δ g.0 Γ u q f g.1) s.0 g.2 e (first_parts P A r) s.1 G (with_names V (tree.names_of q)) (allows_arm P A O by G V Γ u q s.0 al) k.1.0)
