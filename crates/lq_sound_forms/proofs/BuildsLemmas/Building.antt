-- A constructor on operands whose types are subtypes of its unfolded fields.
use Rattle.std.proofs.Common.{◌≡◌, ℕ, suc, Bool, true, false, cond, List, [], ◌∷◌, length, Some, refl, sym, ap, ◌∙◌, subst, arith as numbers}
use Rattle.lq_logic_predicates.specs.declared.symbol.Symbol.TheVariants as symbol
use Rattle.lq_logic_predicates.specs.Formula.{flag}
use Rattle.lq_logic_predicates.specs.Sum.{var}
use Rattle.lq_meaning_steps.specs.Model.Core as core
use Rattle.lq_meaning_steps.specs.Model.Core.{row, Value, v_build, Values, no_values, more_values, close}
use Rattle.lq_refined_types.specs.Parts.Assignment.{Assignment}
use Rattle.lq_refined_types.specs.Parts.Substitution.{Atom, of_sum, of_formula, swap, Subst, sum_at, flag_at}
use Rattle.lq_text_tree.specs.MlType as ml
use Rattle.lq_text_tree.specs.MlType.{MlType, MlTypes}
use Rattle.lq_text_tree.specs.Types as types
use Rattle.lq_text_tree.specs.Types.{Constructor, put_all, count_types}
use Rattle.lq_refined_types.specs.Types.Context.{Context}
use Rattle.lq_refined_types.specs.Types.Refined.{Matrix, Refined, Refineds, int_with, bool_with, unit_type, function, tuple_of, array_with, data_with, map_with, type_variable, none, more, Kind, number, truth_value, object, other, kind, count, arguments_of, matrix_of, erased}
use Rattle.lq_refined_types.specs.Types.Unfolding.{bare, is_again, unfolded_from}
use Rattle.lq_refined_types.specs.Types.Unfolding as open_types
use Rattle.lq_refined_types.specs.Subtyping.Splitting.{first_of}
use Rattle.lq_refined_types.specs.Subtyping.Subtype.{Setting, fields_of, IsSubtype, sub, in_int, in_bool, in_unit, in_variable, in_function, in_tuple, in_array, in_data, in_map}
use Rattle.lq_refined_rules.specs.Checks.Basis.{Basis}
use Rattle.lq_refined_rules.specs.Checks.Checks.{AreArguments}
use Rattle.lq_refined_rules.specs.Checks.Fitting.{Fits}
use Rattle.lq_refined_rules.specs.Checks.Operation.{datatype_of, built_arguments, built_type, field_types}
use Rattle.lq_refined_rules.specs.Checks.Pure.{sum_of, formula_of, atom_by, pure_type, pure_types, pure_atom, operands_for}
use Rattle.lq_refined_rules.specs.Checks.Tree.{Pure}
use Rattle.lq_refined_rules.specs.Checks.Typing.{Points, AreTemplates, Types, fields_at, HavePures, have_none, have_more}
use Rattle.lq_sound_values.specs.Inhabitants.Truth.{Givens, given, Objects, meaning_of, Scene}
use Rattle.lq_sound_values.specs.Inhabitants.Shut.{shut, shut_all, Shuts, field_values, unfolded}
use Rattle.lq_sound_values.specs.Inhabitants.Inhabits.{Table, Inhabits, Agrees, Makes}
use Rattle.lq_sound_values.specs.Inhabitants.Runs.{LandsIn}
use Rattle.lq_sound_values.proofs.InhabitantsLemmas.Running.{runs_map}
use Rattle.lq_sound_values.proofs.InhabitantsLemmas.Staying.{fit_down}
use Rattle.lq_sound_values.proofs.InhabitantsLemmas.Keeping.{AllFit}
use Rattle.lq_sound_values.specs.Inclusion.Apart.{IsKnown}
use Rattle.lq_sound_values.specs.Inclusion.Laws.{IsScene}
use Rattle.lq_sound_values.specs.Inclusion.Putting.{StandsFor}
use Rattle.lq_sound_values.proofs.InclusionLemmas.Truths.{SameOn, value_same, object_same, truth_same, same_agree, at_but}
use Rattle.lq_sound_values.specs.Runs.Closed.{names_in, with_value, IsClosed}
use Rattle.lq_sound_values.specs.Runs.Meets.{pairs, Variables}
use Rattle.lq_sound_values.specs.Runs.Runs.{Exactly, RunsTo}
use Rattle.lq_sound_values.proofs.RunsLemmas.Closing.{or_left, value_apart}
use Rattle.lq_sound_values.proofs.RunsLemmas.Lower.{Lower}
use Rattle.lq_sound_values.proofs.RunsLemmas.Meeting.{extends_self}
use Rattle.lq_sound_forms.specs.Fields.Fields.{KnowsMeasures, IsDatatypeFor, FieldsFit, EquationsAreTrue, terms_from, flags_from}
use Rattle.lq_sound_forms.specs.Fields.Standing.{StandsOn}
use Rattle.lq_sound_forms.proofs.FieldsLemmas.Stands.{AtomStands, stands_cons, stands_value, stands_nothing, terms_new, flags_new}
use Rattle.lq_sound_forms.proofs.FieldsLemmas.Unfolded.{count-unfolded}
use Rattle.lq_sound_forms.specs.Pures.Cores.{pure_cores}
use Rattle.lq_sound_forms.specs.Pures.Pures.{KnowsLengths, scene_of, PureOver}
use Rattle.lq_sound_forms.proofs.PuresLemmas.Pures.{names_over}
use Rattle.lq_sound_forms.proofs.PuresLemmas.Values.{sum_over, formula_over}
use Rattle.lq_sound_forms.specs.Calls.Operands.{HasTerm, HasAtom}
use Rattle.lq_sound_forms.specs.Tuples.Tuples.{AreUsable, MayUseAll, OperandsStand, RowsRun}
use Rattle.lq_sound_forms.specs.Builds.Builds.{ArgumentsApart}

-- a subtype is of the same kind
same_kind : {P : Setting} {A : Assignment} {Γ : Context} {l r : Refined} → IsSubtype P A Γ l r → kind l ≡ kind r
same_kind (sub e in_int) = refl
same_kind (sub e in_bool) = refl
same_kind (sub e in_unit) = refl
same_kind (sub e in_variable) = refl
same_kind (sub e (in_function a b)) = refl
same_kind (sub e (in_tuple c)) = refl
same_kind (sub e (in_array a b)) = refl
same_kind (sub e (in_data a b)) = refl
same_kind (sub e (in_map a)) = refl

-- a field's kind doesn't depend on what is put for names
kind-opened : (b : Bool) (d : ℕ) (Us Vs : Refineds) (M : Matrix) (t : Refined) → kind (cond b (data_with d Us M []) t) ≡ kind (cond b (data_with d Vs M []) t)
kind-opened true d Us Vs M t = refl
kind-opened false d Us Vs M t = refl

-- what stands for an operand stands for it at its kind; that of a variable's type as a term
atom_for : (O : Objects) (σ : Givens) (k : Kind) (e : Pure) (v : Value) → StandsFor O σ (atom_by k e) v → AtomStands O σ k (atom_by k e) v
atom_for O σ number e v h = (h.0, h.2)
atom_for O σ truth_value e v h = h.1
atom_for O σ object e v h = (h.0, h.2)
atom_for O σ other e v h = (h.0, h.2)

atom_at : (O : Objects) (σ : Givens) (t : Refined) (e : Pure) (v : Value) → HasAtom O σ t (atom_by (kind t) e) v → AtomStands O σ (kind t) (atom_by (kind t) e) v
atom_at O σ (int_with p) e v h = atom_for O σ number e v (h.0 tt)
atom_at O σ (bool_with p) e v h = atom_for O σ truth_value e v (h.0 tt)
atom_at O σ unit_type e v h = atom_for O σ other e v (h.0 tt)
atom_at O σ (function x a b) e v h = atom_for O σ other e v (h.0 tt)
atom_at O σ (tuple_of ts) e v h = atom_for O σ other e v (h.0 tt)
atom_at O σ (array_with a p) e v h = atom_for O σ object e v (h.0 tt)
atom_at O σ (data_with d ts m p) e v h = atom_for O σ object e v (h.0 tt)
atom_at O σ (map_with a p) e v h = atom_for O σ other e v (h.0 tt)
atom_at O σ (type_variable i) e v h = h.1

pub own_sum_atom : (a : Atom) (j : ℕ) (θ : Subst) → sum_at θ symbol.Value ≡ var symbol.Value → sum_at (swap (symbol.Position j) a ∷ θ) symbol.Value ≡ var symbol.Value
own_sum_atom (of_sum t) j θ h = h
own_sum_atom (of_formula p) j θ h = h

pub own_flag_atom : (a : Atom) (j : ℕ) (θ : Subst) → flag_at θ symbol.Value ≡ flag symbol.Value → flag_at (swap (symbol.Position j) a ∷ θ) symbol.Value ≡ flag symbol.Value
own_flag_atom (of_sum t) j θ h = h
own_flag_atom (of_formula p) j θ h = h

count-put : (f : ℕ → MlType) (fs : MlTypes) → count_types (put_all f fs) ≡ count_types fs
count-put f ml.no_types = refl
count-put f (ml.more_types t fs) = ap suc (count-put f fs)

count-pures : {Q : Points} {Δ : Types} {es : List Pure} {us : MlTypes} → HavePures Q Δ es us → length es ≡ count_types us
count-pures have_none = refl
count-pures (have_more h hs) = ap suc (count-pures hs)

-- the datatype of a type by its simple type
datatype-is : (t : Refined) (d : ℕ) (us : MlTypes) → erased t ≡ ml.named d us → datatype_of t ≡ d
datatype-is (data_with d ts m p) c us e = ap named_by e
  where
    named_by : MlType → ℕ
    named_by (ml.named b vs) = b
    named_by _ = 0
datatype-is (int_with p) c us e = absurd (cc)
datatype-is (bool_with p) c us e = absurd (cc)
datatype-is unit_type c us e = absurd (cc)
datatype-is (function x a b) c us e = absurd (cc)
datatype-is (tuple_of ts) c us e = absurd (cc)
datatype-is (array_with f p) c us e = absurd (cc)
datatype-is (map_with f p) c us e = absurd (cc)
datatype-is (type_variable i) c us e = absurd (cc)

module _ (law : Lower) (P : Basis) (A : Assignment) (O : Objects) (is : IsScene (scene_of P A O)) (by : Variables) (Γ : Context) (closed : IsClosed (scene_of P A O) Γ) where
  abbrev S : Scene
  S = scene_of P A O

  -- operands' values inhabit the fields' types
  arguments_fit : (σ : Givens) → IsKnown S Γ σ → (es : List Pure) (ts : Refineds) (vs : Values) → length es ≡ count ts → AreArguments P A Γ es ts → ArgumentsApart P A O Γ es ts → (n : ℕ) (W : Table) → AllFit S n W (shut_all σ by.types (pure_types P Γ es)) vs → AllFit S n W (shut_all σ by.types ts) vs
  arguments_fit σ known [] none vs e d a n W h = h
  arguments_fit σ known [] (more t ts) vs e d a n W h = absurd (omega (numbers, e))
  arguments_fit σ known (c ∷ es) none vs e d a n W h = absurd (omega (numbers, e))
  arguments_fit σ known (c ∷ es) (more t ts) no_values e d a n W h = absurd h
  arguments_fit σ known (c ∷ es) (more t ts) (more_values v vs) e d a n W h =
      (law.subtypes S is Γ (pure_type P Γ c) t d.0 (a.0 d.0) σ by.types known n W v h.0, arguments_fit σ known es ts vs (omega (numbers, e)) d.1 a.1 n W h.1)

  -- atoms stand for the same at another v
  beyond : (σ : Givens) (u : Value) → SameOn (names_in Γ) (meaning_of O (given symbol.Value u ∷ σ)) (meaning_of O σ)
  beyond σ u = same_agree O (names_in Γ) (given symbol.Value u ∷ σ) σ (λ y h. at_but σ symbol.Value y u (value_apart S Γ closed y h))

  sum_there : (σ : Givens) (u : Value) (e : Pure) → PureOver P A Γ e → (v : Value) → HasTerm O σ (of_sum (sum_of e)) v → HasTerm O (given symbol.Value u ∷ σ) (of_sum (sum_of e)) v
  sum_there σ u e o v h =
      let s = sum_over (names_in Γ) e (names_over P A Γ e o) in
      (value_same (names_in Γ) (meaning_of O (given symbol.Value u ∷ σ)) (meaning_of O σ) (beyond σ u) (sum_of e) s ∙ h.0, object_same (names_in Γ) (meaning_of O (given symbol.Value u ∷ σ)) (meaning_of O σ) (beyond σ u) (sum_of e) s ∙ h.1)

  sum_beyond : (σ : Givens) (u : Value) (e : Pure) → PureOver P A Γ e → (v : Value) → StandsFor O σ (of_sum (sum_of e)) v → StandsFor O (given symbol.Value u ∷ σ) (of_sum (sum_of e)) v
  sum_beyond σ u e o v h = let s = sum_there σ u e o v (h.0, h.2) in (s.0, h.1, s.1)

  atom_beyond : (σ : Givens) (u : Value) (k : Kind) (e : Pure) → PureOver P A Γ e → (v : Value) → StandsFor O σ (atom_by k e) v → StandsFor O (given symbol.Value u ∷ σ) (atom_by k e) v
  atom_beyond σ u number e o v h = sum_beyond σ u e o v h
  atom_beyond σ u object e o v h = sum_beyond σ u e o v h
  atom_beyond σ u other e o v h = sum_beyond σ u e o v h
  atom_beyond σ u truth_value e o v h =
      (h.0, truth_same (names_in Γ) (meaning_of O (given symbol.Value u ∷ σ)) (meaning_of O σ) (beyond σ u) (formula_of e) (formula_over (names_in Γ) e (names_over P A Γ e o)) ∙ h.1, h.2)

  term_beyond : (σ : Givens) (u : Value) (k : Kind) (e : Pure) → PureOver P A Γ e → (v : Value) → HasTerm O σ (atom_by k e) v → HasTerm O (given symbol.Value u ∷ σ) (atom_by k e) v
  term_beyond σ u number e o v h = sum_there σ u e o v h
  term_beyond σ u object e o v h = sum_there σ u e o v h
  term_beyond σ u other e o v h = sum_there σ u e o v h
  term_beyond σ u truth_value e o v h = tt

  all_beyond : (σ : Givens) (u : Value) (es : List Pure) → AreUsable P A O Γ es → (vs : Values) → OperandsStand P Γ O σ es vs → OperandsStand P Γ O (given symbol.Value u ∷ σ) es vs
  all_beyond σ u [] o no_values h = h
  all_beyond σ u [] o (more_values v vs) h = absurd h
  all_beyond σ u (e ∷ es) o no_values h = absurd h
  all_beyond σ u (e ∷ es) o (more_values v vs) h = (((λ i. atom_beyond σ u (kind (pure_type P Γ e)) e o.0 v (h.0.0 i)), term_beyond σ u (kind (pure_type P Γ e)) e o.0 v h.0.1), all_beyond σ u es o.2 vs h.1)

  own_sums : (es : List Pure) (j : ℕ) → sum_at (operands_for P Γ j es) symbol.Value ≡ var symbol.Value
  own_sums [] j = refl
  own_sums (e ∷ es) j = own_sum_atom (pure_atom P Γ e) (suc j) (operands_for P Γ (suc j) es) (own_sums es (suc j))

  own_flags : (es : List Pure) (j : ℕ) → flag_at (operands_for P Γ j es) symbol.Value ≡ flag symbol.Value
  own_flags [] j = refl
  own_flags (e ∷ es) j = own_flag_atom (pure_atom P Γ e) (suc j) (operands_for P Γ (suc j) es) (own_flags es (suc j))

  -- operands stand for fields
  module _ (θ : Subst) (d : ℕ) (Ts : Refineds) (M : Matrix) (c : ℕ) where
    abbrev open_from : Subst → ℕ → MlTypes → Refineds
    open_from η j fs = unfolded_from P.setting.scopes η d Ts M c j fs

    fields_stand : (σ : Givens) (fs : MlTypes) (es : List Pure) (vs : Values) (j : ℕ) → length es ≡ count_types fs → AreArguments P A Γ es (open_from θ j fs) → OperandsStand P Γ O σ es vs → StandsOn O (operands_for P Γ j es) (terms_from j (open_from [] j fs)) (flags_from j (open_from [] j fs)) σ (field_values j vs)
    fields_stand σ ml.no_types [] no_values j e a h = stands_nothing O σ
    fields_stand σ ml.no_types [] (more_values v vs) j e a h = absurd h
    fields_stand σ ml.no_types (z ∷ es) vs j e a h = absurd (omega (numbers, e))
    fields_stand σ (ml.more_types f fs) [] vs j e a h = absurd (omega (numbers, e))
    fields_stand σ (ml.more_types f fs) (z ∷ es) no_values j e a h = absurd h
    fields_stand σ (ml.more_types f fs) (z ∷ es) (more_values v vs) j e a h =
        let t = first_of (open_from [] j (ml.more_types f fs)) in
        let k : kind (pure_type P Γ z) ≡ kind t = same_kind a.0 ∙ kind-opened (is_again d (count Ts) f) d (open_types.pushed P.setting.scopes θ M c j 0 Ts) (open_types.pushed P.setting.scopes [] M c j 0 Ts) M (bare Ts f) in
        stands_cons O (operands_for P Γ (suc j) es) (terms_from (suc j) (open_from [] (suc j) fs)) (flags_from (suc j) (open_from [] (suc j) fs)) σ (field_values (suc j) vs) (symbol.Position (suc j)) v (terms_new (open_from [] (suc j) fs) j) (flags_new (open_from [] (suc j) fs) j) (fields_stand σ fs es vs (suc j) (omega (numbers, e)) a.1 h.1) (kind t) (pure_atom P Γ z) (subst (λ y. AtomStands O σ y (pure_atom P Γ z) v) k (atom_at O σ (pure_type P Γ z) z v h.0))

  -- without a field the arguments don't count
  other_arguments : (κ : Givens) (d : ℕ) (As Bs : Shuts) (M : Matrix) (c : ℕ) (fs : MlTypes) (vs : Values) (n : ℕ) (W : Table) → count_types fs ≡ 0 → AllFit S n W (unfolded κ d As M c 0 fs) vs → AllFit S n W (unfolded κ d Bs M c 0 fs) vs
  other_arguments κ d As Bs M c ml.no_types vs n W e h = h
  other_arguments κ d As Bs M c (ml.more_types f fs) vs n W e h = absurd (omega (numbers, e))

  built_fields : (es : List Pure) (σ κ : Givens) (d : ℕ) (Ts : Refineds) (M : Matrix) (c : ℕ) (fs : MlTypes) (vs : Values) (n : ℕ) (W : Table) → length es ≡ count_types fs → AllFit S n W (unfolded κ d (shut_all σ by.types Ts) M c 0 fs) vs → AllFit S n W (unfolded κ d (shut_all σ by.types (built_arguments es Ts)) M c 0 fs) vs
  built_fields [] σ κ d Ts M c fs vs n W e h = other_arguments κ d (shut_all σ by.types Ts) (shut_all σ by.types (built_arguments [] Ts)) M c fs vs n W (sym e) h
  built_fields (z ∷ es) σ κ d Ts M c fs vs n W e h = h

  pub build_runs : RowsRun → FieldsFit → EquationsAreTrue → KnowsLengths O → KnowsMeasures P O → (Q : Points) → AreTemplates P Q → (Δ : Types) → Fits Δ Γ → (p c : ℕ) (es : List Pure) (k : Constructor) (us : MlTypes) → P.setting.constructors c ≡ Some k → erased (P.template p) ≡ ml.named k.datatype us → HavePures Q Δ es (fields_at us k) → AreUsable P A O Γ es → MayUseAll by es → AreArguments P A Γ es (field_types P Γ p c es) → ArgumentsApart P A O Γ es (field_types P Γ p c es) → IsDatatypeFor S P c k (P.template p) → RunsTo S by Γ (row (core.build c) (pure_cores es)) (built_type P Γ p c es)
  build_runs rows fields equations lengths knows Q are Δ fits p c es k us at shape h o may args apart good n W σ w m ag =
      let r = rows P A O is lengths by Q are Δ Γ fits closed es (fields_at us k) h o may (core.build c) n W σ m in
      let vs = r.0 in
      let T = P.template p in
      let d = datatype_of T in
      let Ts = arguments_of T in
      let M = matrix_of T in
      let θ = operands_for P Γ 0 es in
      let v = v_build c vs in
      let makes : Makes P.setting.constructors d c k = (at, sym (datatype-is T k.datatype us shape)) in
      let E : field_types P Γ p c es ≡ open_types.unfolded P.setting.scopes θ d Ts M c k.fields = ap (λ z. open_types.unfolded P.setting.scopes θ d Ts M c (fields_of z)) at in
      let counted : length es ≡ count_types k.fields = count-pures h ∙ count-put (types.type_at us) k.fields in
      let sized : length es ≡ count (open_types.unfolded P.setting.scopes θ d Ts M c k.fields) = counted ∙ sym (count-unfolded P.setting.scopes θ d Ts M c 0 k.fields) in
      let args2 = subst (AreArguments P A Γ es) E args in
      let apart2 = subst (ArgumentsApart P A O Γ es) E apart in
      let opened = arguments_fit σ m.known es (open_types.unfolded P.setting.scopes θ d Ts M c k.fields) vs sized args2 apart2 (suc n) W r.1 in
      let ts = open_types.unfolded P.setting.scopes [] d Ts M c k.fields in
      let puts : (u : Value) → StandsOn O θ (with_value (terms_from 0 ts)) (with_value (flags_from 0 ts)) (given symbol.Value u ∷ σ) (given symbol.Value u ∷ field_values 0 vs) = λ u.
      stands_value O θ (terms_from 0 ts) (flags_from 0 ts) σ (field_values 0 vs) u (own_sums es 0) (own_flags es 0) (fields_stand θ d Ts M c (given symbol.Value u ∷ σ) k.fields es vs 0 counted args2 (all_beyond σ u es o vs r.2)) in
      let inside = (fields S is d Ts M c k makes good.matrix θ σ by.types vs puts (suc n) W).1 opened in
      let own = built_fields es σ (field_values 0 vs) d Ts M c k.fields vs (suc n) W counted inside in
      let s = puts v in
      let top = equations S P knows θ (with_value (terms_from 0 ts)) (flags_from 0 ts) (given symbol.Value v ∷ σ) c vs record { number = s.number; object = s.object; holds = λ y i. s.holds y (or_left (flags_from 0 ts y) _ i) } good.equations in
      let whole : Inhabits S (suc n) W (shut σ by.types (built_type P Γ p c es)) v = ((k, makes, own), (top, tt)) in
      runs_map n (close (pairs σ) (row (core.build c) (pure_cores es))) w (Exactly v w) (LandsIn S W (shut σ by.types (built_type P Γ p c es))) (λ i y z le q.
      (W, extends_self W, subst (Inhabits S i W (shut σ by.types (built_type P Γ p c es))) (sym q.0) (fit_down S (suc n) i W (shut σ by.types (built_type P Γ p c es)) v (omega (numbers, le)) whole), subst (Agrees S i W) (sym q.1) (law.stores S n i W w le ag))) (r.3 n w)
