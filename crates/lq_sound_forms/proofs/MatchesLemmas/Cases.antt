-- A match on a value of a datatype goes to the first arm that fits it.
use Rattle.std.proofs.Common.{◌≡◌, ℕ, suc, ◌==◌, Bool, true, false, List, [], ◌∷◌, ◌++◌, length, Some, None, refl, sym, ap, ◌∙◌, subst, arith as numbers, if◌then◌else◌}
use Rattle.std.proofs.lemmas.Bool.{eqb-true, eq-eqb}
use Rattle.lq_base_names.specs.declared.place.Place.{Place}
use Rattle.lq_logic_predicates.specs.declared.symbol.Symbol.TheVariants as symbol
use Rattle.lq_logic_predicates.specs.Formula.{falsity}
use Rattle.lq_logic_predicates.specs.Sum.{var}
use Rattle.lq_meaning_steps.specs.Model.Core as core
use Rattle.lq_meaning_steps.specs.Model.Core.{Core, use_of, match_on, Value, v_build, Values, no_values, more_values, Pairs, close, close_arms}
use Rattle.lq_meaning_steps.specs.Model.Operations.{World, fits, fits_all}
use Rattle.lq_meaning_steps.specs.Model.Step.{goes, first_arm}
use Rattle.lq_refined_types.specs.Parts.Assignment.{Assignment}
use Rattle.lq_refined_types.specs.Parts.Part.{Parts, known}
use Rattle.lq_refined_types.specs.Parts.Substitution.{of_sum, Subst}
use Rattle.lq_text_tree.specs.MlType as ml
use Rattle.lq_text_tree.specs.MlType.{MlType, MlTypes}
use Rattle.lq_text_tree.specs.Types.{Constructor, count_types}
use Rattle.lq_refined_types.specs.Types.Context.{Context}
use Rattle.lq_refined_types.specs.Types.Operations.{symbol_of}
use Rattle.lq_refined_types.specs.Types.Refined.{Matrix, Refined, Refineds, int_with, bool_with, unit_type, function, tuple_of, array_with, data_with, map_with, type_variable, object, count, erased}
use Rattle.lq_refined_types.specs.Types.Unfolding as open_types
use Rattle.lq_refined_types.specs.Subtyping.Subtype.{fields_of, with_guards, facts}
use Rattle.lq_refined_rules.specs.Checks.Basis.{Basis}
use Rattle.lq_refined_rules.specs.Checks.Checks.{Demanded}
use Rattle.lq_refined_rules.specs.Checks.Fitting.{Fits}
use Rattle.lq_refined_rules.specs.Checks.Match.{is_datatype, is_data_match, in_arm, arm_context, names_for, bind_all, value_as, missing_context}
use Rattle.lq_refined_rules.specs.Checks.Operation.{datatype_of, equations_by, bind}
use Rattle.lq_refined_rules.specs.Checks.Ready.{Where}
use Rattle.lq_refined_rules.specs.Checks.Pure.{variable_type, pure_type}
use Rattle.lq_refined_rules.specs.Checks.Pure as pures
use Rattle.lq_refined_rules.specs.Checks.Tree as tree
use Rattle.lq_refined_rules.specs.Checks.Tree.{Use, Pattern, pattern_any, pattern_name, pattern_unit, pattern_tuple, pattern_build, has_default, Arms, no_arms, arm, Block}
use Rattle.lq_refined_rules.specs.Checks.Typing as typing
use Rattle.lq_refined_rules.specs.Checks.Typing.{Points, AreTemplates, Types, HaveArms, have_no_arms, have_arm}
use Rattle.lq_sound_values.specs.Inhabitants.Truth.{Givens, given, value_at, as_number, as_object, Objects, Scene, AreTrue}
use Rattle.lq_sound_values.specs.Inhabitants.Shut.{shut, shut_all, Shuts, field_values, unfolded}
use Rattle.lq_sound_values.specs.Inhabitants.Inhabits.{Table, Inhabits, Agrees, Makes}
use Rattle.lq_sound_values.specs.Inhabitants.Runs.{RunsWell, LandsIn}
use Rattle.lq_sound_values.proofs.InhabitantsLemmas.Keeping.{AllFit}
use Rattle.lq_sound_values.specs.Inclusion.Laws.{IsScene}
use Rattle.lq_sound_values.specs.Inclusion.Symbols.{Symbols, InsideOn, TypeOn, Agree}
use Rattle.lq_sound_values.proofs.InclusionLemmas.Truths.{implied_true, parts_same}
use Rattle.lq_sound_values.specs.Runs.Closed.{names_in, with_value, IsClosed, Binds}
use Rattle.lq_sound_values.specs.Runs.Meets.{pairs, Variables, Meets}
use Rattle.lq_sound_values.specs.Runs.Runs.{RunsTo}
use Rattle.lq_sound_values.proofs.RunsLemmas.Closing.{agree_new, facts_on}
use Rattle.lq_sound_values.proofs.RunsLemmas.Lower.{Lower}
use Rattle.lq_sound_values.proofs.RunsLemmas.Meeting.{extends_self, meets_less, meets_bind}
use Rattle.lq_sound_forms.specs.Fields.Fields.{KnowsMeasures, IsDatatypeFor, FieldsFit, EquationsAreTrue, terms_from, flags_from}
use Rattle.lq_sound_forms.specs.Fields.Standing.{StandsOn}
use Rattle.lq_sound_forms.proofs.FieldsLemmas.Stands.{HaveValues, stands_cons, names_stand, names_put, terms_not_value, flags_not_value}
use Rattle.lq_sound_forms.proofs.FieldsLemmas.Unfolded.{count-unfolded}
use Rattle.lq_sound_forms.specs.Pures.Cores.{arm_pattern, name_patterns, block_core, arms_core}
use Rattle.lq_sound_forms.specs.Pures.Pures.{KnowsLengths, scene_of, UseIn}
use Rattle.lq_sound_forms.proofs.PuresLemmas.Pures.{Instancing, no_position, use_type, look_up}
use Rattle.lq_sound_forms.specs.Calls.Operands.{IsUsable, OperandsRun}
use Rattle.lq_sound_forms.proofs.TuplesLemmas.Arms.{Closings, match_goes, arm_runs}
use Rattle.lq_sound_forms.proofs.TuplesLemmas.Binding.{onto, count_values, agree_all, have_values, meets_all, zipped, names_fit, same_pairs}
use Rattle.lq_sound_forms.proofs.TuplesLemmas.Matching.{predicates, exact_is, PatternHas, pattern_has}
use Rattle.lq_sound_forms.specs.Matches.Matches.{CaseRuns, DefaultRuns}
use Rattle.lq_sound_forms.proofs.MatchesLemmas.Guards.{closed_without, guards_true, meets_guards, fields_apart, fields_here, name_behind}

-- the patterns of arms
abbrev pub PatternsHave : Basis → MlType → Arms → Type 0
PatternsHave P a no_arms = Unit {0}
PatternsHave P a (arm q b arms) = PatternHas P a q × PatternsHave P a arms

pub patterns_have : {P : Basis} {Q : Points} {Δ : Types} {a c : MlType} {arms : Arms} → HaveArms P Q Δ a arms c → PatternsHave P a arms
patterns_have have_no_arms = tt
patterns_have {P = P} (have_arm h b rest) = (pattern_has P h, patterns_have rest)

-- a datatype
pub data_form : (t : Refined) → is_datatype t ≡ true → (d : ℕ) × (Ts : Refineds) × (M : Matrix) × (p : Parts) × (t ≡ data_with d Ts M p)
data_form (data_with d Ts M p) h = (d, Ts, M, p, refl)
data_form (int_with p) h = absurd (cc)
data_form (bool_with p) h = absurd (cc)
data_form unit_type h = absurd (cc)
data_form (function x a b) h = absurd (cc)
data_form (tuple_of ts) h = absurd (cc)
data_form (array_with e p) h = absurd (cc)
data_form (map_with e p) h = absurd (cc)
data_form (type_variable i) h = absurd (cc)

-- what inhabits a datatype is a constructor's value
build_of_it : (S : Scene) (n : ℕ) (W : Table) (σ : Givens) (by : Shuts) (d : ℕ) (Ts : Refineds) (M : Matrix) (p : Parts) (v : Value) → Inhabits S n W (shut σ by (data_with d Ts M p)) v → (c : ℕ) × (vs : Values) × (k : Constructor) × (v ≡ v_build c vs) × Makes S.setting.constructors d c k
build_of_it S n W σ by d Ts M p (v_build c vs) h = (c, vs, h.0.0, refl, h.0.1)
build_of_it S n W σ by d Ts M p _ h = absurd h.0

count-fields : (S : Scene) (n : ℕ) (W : Table) (κ : Givens) (d : ℕ) (As : Shuts) (M : Matrix) (c j : ℕ) (fs : MlTypes) (vs : Values) → AllFit S n W (unfolded κ d As M c j fs) vs → count_types fs ≡ count_values vs
count-fields S n W κ d As M c j ml.no_types no_values h = refl
count-fields S n W κ d As M c j ml.no_types (more_values v vs) h = absurd h
count-fields S n W κ d As M c j (ml.more_types f fs) no_values h = absurd h
count-fields S n W κ d As M c j (ml.more_types f fs) (more_values v vs) h = ap suc (count-fields S n W κ d As M c (suc j) fs vs h.1)

-- two constructors of one name are one
same_some : (X : Type 0) (a b : X) → Some a ≡ Some b → a ≡ b
same_some X a b e = cc

no_unit : (t : Refined) → is_datatype t ≡ true → erased t ≡ ml.unit → ⊥
no_unit unit_type h e = absurd (cc)
no_unit (data_with d ts m p) h e = absurd (cc)
no_unit (int_with p) h e = absurd (cc)
no_unit (bool_with p) h e = absurd (cc)
no_unit (function x a b) h e = absurd (cc)
no_unit (tuple_of ts) h e = absurd (cc)
no_unit (array_with f p) h e = absurd (cc)
no_unit (map_with f p) h e = absurd (cc)
no_unit (type_variable i) h e = absurd (cc)

no_tuple : (t : Refined) (us : MlTypes) → is_datatype t ≡ true → erased t ≡ ml.tuple us → ⊥
no_tuple (tuple_of ts) us h e = absurd (cc)
no_tuple unit_type us h e = absurd (cc)
no_tuple (data_with d ts m p) us h e = absurd (cc)
no_tuple (int_with p) us h e = absurd (cc)
no_tuple (bool_with p) us h e = absurd (cc)
no_tuple (function x a b) us h e = absurd (cc)
no_tuple (array_with f p) us h e = absurd (cc)
no_tuple (map_with f p) us h e = absurd (cc)
no_tuple (type_variable i) us h e = absurd (cc)

false_true : false ≡ true → ⊥
false_true e = cc

module _ (law : Lower) (inst : Instancing) (closings : Closings) (operands : OperandsRun) (fields : FieldsFit) (equations : EquationsAreTrue) (P : Basis) (A : Assignment) (O : Objects) (is : IsScene (scene_of P A O)) (lengths : KnowsLengths O) (knows : KnowsMeasures P O) (by : Variables) (Q : Points) (are : AreTemplates P Q) (Δ : Types) (Γ : Context) (fits_in : Fits Δ Γ) (closed : IsClosed (scene_of P A O) Γ) (l : Place) (u : Use) (over : UseIn P A by Γ u) (t : Refined) (on : TypeOn A t (names_in Γ)) where
  abbrev S : Scene
  S = scene_of P A O

  abbrev own : Refined
  own = pures.type_of_use P Γ u

  simple-is : erased own ≡ typing.type_of_use Q Δ u
  simple-is = use_type law inst P A O is lengths by Q are Δ Γ fits_in closed u

  -- where the match goes, in a world in which as many steps are left
  pub record Goes (n : ℕ) (W : Table) (σ : Givens) (w : World) (v : Value) (arms : core.Arms) : Type 0 where
    pub next : Core
    pub step : first_arm l (close_arms (pairs σ) arms) v w ≡ goes next w
    pub runs : (k : ℕ) → n ≡ suc k → RunsWell k next w (LandsIn S W (shut σ by.types t))

  -- an arm whose pattern fits and whose names have good values
  taken : (q : core.Pattern) (b : Core) (rest : core.Arms) (Θ : Context) → RunsTo S by Θ b t → (n : ℕ) (W : Table) (σ τ : Givens) (w : World) → Agrees S n W w → (v : Value) (ps : Pairs) → fits q v ≡ Some ps → Agree (names_in Γ) τ σ → ((y : ℕ) → core.value_in (ps ++ pairs σ) y ≡ core.value_in (pairs τ) y) → Meets S by (suc n) W Θ τ → Goes n W σ w v (core.more_arms q b rest)
  taken q b rest Θ runs n W σ τ w ag v ps fit agree same m =
      record { next = close ps (close (core.without (core.variables_of q) (pairs σ)) b); step = rw fit; runs = λ k eq. arm_runs law closings S is by Γ Θ t b runs on σ τ agree q v ps fit same k W w (meets_less law S by (suc n) (suc k) W W Θ τ (omega (numbers, eq)) (extends_self W) m) (law.stores S n k W w (omega (numbers, eq)) ag) }

  -- an arm whose pattern doesn't fit
  skipped : (q : core.Pattern) (b : Core) (rest : core.Arms) (n : ℕ) (W : Table) (σ : Givens) (w : World) (v : Value) → fits q v ≡ None → Goes n W σ w v rest → Goes n W σ w v (core.more_arms q b rest)
  skipped q b rest n W σ w v absent g = record { next = g.next; step = rw (absent, g.step); runs = g.runs }

  module _ (d : ℕ) (Ts : Refineds) (M : Matrix) (p : Parts) (shape : own ≡ data_with d Ts M p) (good : (c : ℕ) (k : Constructor) → Makes P.setting.constructors d c k → IsDatatypeFor S P c k (data_with d Ts M p)) (n : ℕ) (W : Table) (σ : Givens) (w : World) (ag : Agrees S n W w) (m : Meets S by (suc n) W Γ σ) (c : ℕ) (vs : Values) (k : Constructor) (makes : Makes P.setting.constructors d c k) (at : value_at σ (symbol_of u.name) ≡ Some (v_build c vs)) (fit : Inhabits S (suc n) W (shut σ by.types (data_with d Ts M p)) (v_build c vs)) (own_on : TypeOn A (data_with d Ts M p) (names_in Γ)) where
    abbrev N : Symbols
    N = names_in Γ

    abbrev v : Value
    v = v_build c vs

    -- the constructor is one
    same_constructor : (j : Constructor) → Makes P.setting.constructors d c j → j ≡ k
    same_constructor j h = same_some Constructor j k (sym h.0 ∙ makes.0)

    abbrev ts : Refineds
    ts = open_types.unfolded P.setting.scopes [] d Ts M c k.fields

    -- the fields' values at other values of names that agree
    fields_at : (τ : Givens) → Agree N σ τ → AllFit S (suc n) W (unfolded (field_values 0 vs) d (shut_all τ by.types Ts) M c 0 k.fields) vs
    fields_at τ agree =
        let h = law.thin S is (data_with d Ts M p) N own_on σ τ by.types agree (suc n) W v fit in
        subst (λ j. AllFit S (suc n) W (unfolded (field_values 0 vs) d (shut_all τ by.types Ts) M c 0 j.fields) vs) (same_constructor h.0.0 h.0.1) h.0.2

    counted : count_types k.fields ≡ count_values vs
    counted = count-fields S (suc n) W (field_values 0 vs) d (shut_all σ by.types Ts) M c 0 k.fields vs (fields_at σ (λ y h. refl))

    -- the constructor's equations, where the variable and the fields have these values
    equations_true : (θ : Subst) (τ : Givens) → value_at τ (symbol_of u.name) ≡ Some v → StandsOn O θ (terms_from 0 ts) (flags_from 0 ts) τ (field_values 0 vs) → AreTrue S τ (equations_by P c (value_as u.name ∷ θ))
    equations_true θ τ here s =
        equations S P knows (value_as u.name ∷ θ) (with_value (terms_from 0 ts)) (flags_from 0 ts) τ c vs (stands_cons O θ (terms_from 0 ts) (flags_from 0 ts) τ (field_values 0 vs) symbol.Value v (terms_not_value ts 0) (flags_not_value ts 0) s object (of_sum (var (symbol_of u.name))) (ap as_number here, ap (as_object O) here)) (good c k makes).equations

    -- a constructor that is impossible under its equations
    missing : Demanded P A (missing_context P Γ u c) falsity → ⊥
    missing demanded =
        let τ = field_values 0 vs ++ σ in
        let agree : Agree N σ τ = fields_apart N (no_position Δ Γ fits_in) vs 0 σ in
        let facts_there : AreTrue S τ (facts P.setting Γ) = parts_same S N σ τ (facts P.setting Γ) agree (facts_on law S is Γ closed) m.known.true_facts in
        let stands = fields_here σ O ts vs (count-unfolded P.setting.scopes [] d Ts M c 0 k.fields ∙ counted) in
        let eqs = equations_true [] τ (name_behind σ u.name vs 0 ∙ at) stands in
        false_true (implied_true (predicates law) S τ (facts P.setting (missing_context P Γ u c)) (known falsity) demanded (guards_true S τ (equations_by P c (value_as u.name ∷ [])) Γ facts_there eqs)).0

    -- the arm of the constructor
    built : (xs : List ℕ) (b : Core) (rest : core.Arms) → length xs ≡ count_types k.fields → IsClosed S (in_arm P Γ u (pattern_build c xs)) → RunsTo S by (in_arm P Γ u (pattern_build c xs)) b t → fits (arm_pattern (pattern_build c xs)) v ≡ fits_all (name_patterns xs) vs → Goes n W σ w v (core.more_arms (arm_pattern (pattern_build c xs)) b rest)
    built xs b rest e c1 runs fitting =
        let θ = names_for 0 xs ts in
        let us = open_types.unfolded P.setting.scopes θ d Ts M c k.fields in
        let gs = equations_by P c (value_as u.name ∷ θ) in
        let Θ = with_guards gs (bind_all xs us Γ) in
        let E : in_arm P Γ u (pattern_build c xs) ≡ Θ = ap (λ z. arm_context P Γ u.name z (pattern_build c xs)) shape ∙ ap (λ o. with_guards (equations_by P c (value_as u.name ∷ names_for 0 xs (open_types.unfolded P.setting.scopes [] d Ts M c (fields_of o)))) (bind_all xs (open_types.unfolded P.setting.scopes (names_for 0 xs (open_types.unfolded P.setting.scopes [] d Ts M c (fields_of o))) d Ts M c (fields_of o)) Γ)) makes.0 in
        let c2 : IsClosed S Θ = subst (IsClosed S) E c1 in
        let c3 : IsClosed S (bind_all xs us Γ) = closed_without S gs (bind_all xs us Γ) c2 in
        let τ = onto xs vs σ in
        let agree : Agree N τ σ = agree_all S xs us vs Γ σ c3 in
        let back : Agree N σ τ = λ y i. sym (agree y i) in
        let valued : length xs ≡ count_values vs = e ∙ counted in
        let sized : length xs ≡ count us = e ∙ sym (count-unfolded P.setting.scopes θ d Ts M c 0 k.fields) in
        let tsized : length xs ≡ count ts = e ∙ sym (count-unfolded P.setting.scopes [] d Ts M c 0 k.fields) in
        let have : HaveValues τ xs vs = have_values S xs us vs Γ σ valued c3 in
        let opened = (fields S is d Ts M c k makes (good c k makes).matrix θ τ by.types vs (names_put O τ xs ts vs tsized have) (suc n) W).0 (fields_at τ back) in
        let bound = meets_all S law is by (suc n) (suc n) W (omega numbers) xs us vs sized Γ σ closed c3 m opened in
        let here : value_at τ (symbol_of u.name) ≡ Some v = agree (symbol_of u.name) over.0.0 ∙ at in
        let eqs = equations_true θ τ here (names_stand O τ xs ts vs tsized have 0) in
        let met = meets_guards law S is by (suc n) W gs (bind_all xs us Γ) τ c2 bound eqs in
        taken (arm_pattern (pattern_build c xs)) b rest Θ (subst (λ z. RunsTo S by z b t) E runs) n W σ τ w ag v (zipped xs vs) (fitting ∙ names_fit xs vs valued) agree (same_pairs S xs us vs Γ σ c3) met

    -- an arm of a constructor: it is the value's, or the next ones are looked at
    by_test : (i : ℕ) (xs : List ℕ) (b : Block) (arms : Arms) → PatternHas P (typing.type_of_use Q Δ u) (pattern_build i xs) → (z : Bool) → (i == c) ≡ z → Where z (IsClosed S (in_arm P Γ u (pattern_build i xs)) × RunsTo S by (in_arm P Γ u (pattern_build i xs)) (block_core b) t) (CaseRuns P A O by Γ u t (has_default arms) c arms) → (CaseRuns P A O by Γ u t (has_default arms) c arms → Goes n W σ w v (arms_core arms)) → Goes n W σ w v (arms_core (arm (pattern_build i xs) b arms))
    by_test i xs b arms h true e case rest =
        let same : i ≡ c = eqb-true i c e in
        let sized : length xs ≡ count_types k.fields = h.5 ∙ ap (λ j. count_types j.fields) (same_some Constructor h.0 k (sym h.3 ∙ ap P.setting.constructors same ∙ makes.0)) in
        subst (λ j. IsClosed S (in_arm P Γ u (pattern_build j xs)) × RunsTo S by (in_arm P Γ u (pattern_build j xs)) (block_core b) t → Goes n W σ w v (arms_core (arm (pattern_build j xs) b arms))) (sym same) (λ o. built xs (block_core b) (arms_core arms) sized o.0 o.1 (ap (λ z. if z then fits_all (name_patterns xs) vs else None) (eq-eqb c c refl))) case
    by_test i xs b arms h false e case rest =
        skipped (arm_pattern (pattern_build i xs)) (block_core b) (arms_core arms) n W σ w v (ap (λ z. if z then fits_all (name_patterns xs) vs else None) e) (rest case)

    -- all arms, one after another
    pub arms_go : (arms : Arms) → PatternsHave P (typing.type_of_use Q Δ u) arms → IsUsable S Γ own → is_datatype own ≡ true → CaseRuns P A O by Γ u t (has_default arms) c arms → DefaultRuns P A O by Γ u t arms → Goes n W σ w v (arms_core arms)
    arms_go no_arms h k is_data case default = absurd (missing case)
    arms_go (arm pattern_any b arms) h k is_data case default =
        taken core.any (block_core b) (arms_core arms) Γ default.1 n W σ σ w ag v [] refl (λ y i. refl) (λ y. refl) m
    arms_go (arm (pattern_name y) b arms) h k is_data case default =
        let T = pure_type P Γ (tree.use_of u) in
        let inner : InsideOn A T N = subst (λ z. InsideOn A (variable_type P.setting.scopes u.name z) N) (sym shape) own_on.0 in
        let c1 = default.0 in
        let binds : Binds S (symbol_of y) T Γ = (c1.0, c1.1, ((inner, c1.2.0.1), c1.2.1), closed) in
        let r = operands P A O is lengths by Q are Δ Γ fits_in closed (tree.use_of u) (typing.type_of_use Q Δ u) typing.has_use over k n W σ m in
        let own_fit : Inhabits S (suc n) W (shut σ by.types T) v = subst (Inhabits S (suc n) W (shut σ by.types T)) (sym (exact_is σ u.name v r.0 w at (r.3 0 w))) r.1 in
        taken (core.bind y) (block_core b) (arms_core arms) (bind y T Γ) default.1 n W σ (given (symbol_of y) v ∷ σ) w ag v ((y, v) ∷ []) refl (agree_new Γ (symbol_of y) v σ default.0.1) (λ z. refl) (meets_bind law S is by (suc n) (suc n) W W Γ σ (symbol_of y) T v (omega numbers) (extends_self W) binds m own_fit)
    arms_go (arm pattern_unit b arms) h k is_data case default = absurd (no_unit own is_data (simple-is ∙ h.0))
    arms_go (arm (pattern_tuple xs) b arms) h k is_data case default = absurd (no_tuple own h.0.0 is_data (simple-is ∙ h.0.1))
    arms_go (arm (pattern_build i xs) b arms) h k1 is_data case default =
        by_test i xs b arms h.0 (i == c) refl case (λ q. arms_go arms h.1 k1 is_data q default)

  -- the whole match
  pub match_runs : (arms : Arms) → PatternsHave P (typing.type_of_use Q Δ u) arms → IsUsable S Γ own → is_data_match P Γ u ≡ true → ((c : ℕ) (k : Constructor) → Makes P.setting.constructors (datatype_of own) c k → IsDatatypeFor S P c k own) → ((c : ℕ) (k : Constructor) → Makes P.setting.constructors (datatype_of own) c k → CaseRuns P A O by Γ u t (has_default arms) c arms) → DefaultRuns P A O by Γ u t arms → RunsTo S by Γ (match_on l (use_of u.name) (arms_core arms)) t
  match_runs arms h usable known_data good cases default n W σ w m ag =
      let f = look_up law inst P A O is lengths by Q are Δ Γ fits_in closed (suc n) W σ m u over in
      let is_data : is_datatype own ≡ true = known_data in
      let D = data_form own is_data in
      let d = D.0 in
      let T = data_with D.0 D.1 D.2 D.3 in
      let fit : Inhabits S (suc n) W (shut σ by.types T) f.value = subst (λ z. Inhabits S (suc n) W (shut σ by.types z) f.value) D.4 f.fits in
      let B = build_of_it S (suc n) W σ by.types D.0 D.1 D.2 D.3 f.value fit in
      let good2 = subst (λ z. (c : ℕ) (k : Constructor) → Makes P.setting.constructors (datatype_of z) c k → IsDatatypeFor S P c k z) D.4 good in
      let cases2 = subst (λ z. (c : ℕ) (k : Constructor) → Makes P.setting.constructors (datatype_of z) c k → CaseRuns P A O by Γ u t (has_default arms) c arms) D.4 cases in
      let at : value_at σ (symbol_of u.name) ≡ Some (v_build B.0 B.1) = f.is ∙ ap Some B.3 in
      let g = arms_go D.0 D.1 D.2 D.3 D.4 good2 n W σ w ag m B.0 B.1 B.2 B.4 at (subst (Inhabits S (suc n) W (shut σ by.types T)) B.3 fit) (subst (λ z. TypeOn A z (names_in Γ)) D.4 f.over) arms h usable is_data (cases2 B.0 B.2 B.4) default in
      match_goes l u.name (arms_core arms) σ (v_build B.0 B.1) at n w g.next (LandsIn S W (shut σ by.types t)) g.step g.runs
