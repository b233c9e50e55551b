-- Calls run to the result's type, with the operand for the name of the argument.
use Rattle.std.proofs.Common.{◌≡◌, ◌⊎◌, inl, inr, ℕ, suc, Bool, true, false, not, cond, ◌||◌, ◌==◌, [], ◌∷◌, Some, None, refl, sym, ap, ◌∙◌, subst}
use Rattle.lq_logic_predicates.specs.declared.symbol.Symbol.{Symbol}
use Rattle.lq_logic_predicates.specs.declared.symbol.Symbol.TheVariants as symbol
use Rattle.lq_logic_predicates.specs.Sum.{Sum, same_symbol}
use Rattle.lq_meaning_steps.specs.Model.Core as core
use Rattle.lq_meaning_steps.specs.Model.Core.{Core, Value, v_whole, v_flag, v_unit, v_fun, v_rec, v_tuple, v_array, v_build, close}
use Rattle.lq_refined_types.specs.Parts.Assignment.{Assignment, IsScoped}
use Rattle.lq_refined_types.specs.Parts.Laws.{UnderBy}
use Rattle.lq_refined_types.specs.Parts.Part.{Scopes}
use Rattle.lq_refined_types.specs.Parts.Substitution.{Atom, of_sum, of_formula, swap}
use Rattle.lq_text_tree.specs.MlType as ml
use Rattle.lq_text_tree.specs.MlType.{MlType}
use Rattle.lq_refined_types.specs.Types.Context.{Context}
use Rattle.lq_refined_types.specs.Types.Operations.{symbol_of, type_by, atom_of, renamed, twin, twin_of}
use Rattle.lq_refined_types.specs.Types.Refined.{Refined, Refineds, int_with, bool_with, unit_type, function, tuple_of, array_with, data_with, map_with, type_variable, none, more, Kind, number, truth_value, object, other, kind, argument_of, result_of, erased}
use Rattle.lq_refined_types.specs.Subtyping.Subtype.{Setting, IsSubtype, sub, in_int, in_bool, in_unit, in_variable, in_function, in_tuple, in_array, in_data, in_map}
use Rattle.lq_refined_rules.specs.Checks.Basis.{Basis}
use Rattle.lq_refined_rules.specs.Checks.Fitting.{Fits}
use Rattle.lq_refined_rules.specs.Checks.Operation.{called_type}
use Rattle.lq_refined_rules.specs.Checks.Pure.{sum_of, formula_of, variable_type, atom_by, pure_type, pure_atom}
use Rattle.lq_refined_rules.specs.Checks.Pure as pures
use Rattle.lq_refined_rules.specs.Checks.Tree as tree
use Rattle.lq_refined_rules.specs.Checks.Tree.{Use, Pure}
use Rattle.lq_refined_rules.specs.Checks.Typing.{Points, AreTemplates, Types, type_of_use}
use Rattle.lq_sound_values.specs.Inhabitants.Truth.{Givens, given, value_at, as_number, as_flag, as_object, Objects}
use Rattle.lq_sound_values.specs.Inhabitants.Shut.{shut}
use Rattle.lq_sound_values.specs.Inhabitants.Runs.{LandsIn}
use Rattle.lq_sound_values.specs.Inhabitants.Below.{Below}
use Rattle.lq_sound_values.proofs.InhabitantsLemmas.Running.{runs_map}
use Rattle.lq_sound_values.specs.Inclusion.Apart.{Apart}
use Rattle.lq_sound_values.specs.Inclusion.Laws.{IsScene}
use Rattle.lq_sound_values.specs.Inclusion.Putting.{StandsFor, LeavesAlone}
use Rattle.lq_sound_values.specs.Inclusion.Symbols.{Symbols, with_symbol, TypeOn}
use Rattle.lq_sound_values.proofs.InclusionLemmas.Truths.{same_symbol-is, same_symbol-refl, decide, at_but}
use Rattle.lq_sound_values.specs.Twins.Laws.{TwinTypesFit, AppliedTypesFit, IsNeutralFor}
use Rattle.lq_sound_values.specs.Twins.Names.{AtomOn, IsNoVariable, with_twins, NamesApart, TwinsOutside, AllTwinsOutside}
use Rattle.lq_sound_values.proofs.TwinsLemmas.Leaving.{atom_more, apart_from, leaves_outside, names_if, twin_leaves, apart_outside}
use Rattle.lq_sound_values.proofs.TwinsLemmas.Speaking.{swap_over, Everywhere, type_on, everywhere, put_everywhere, twin_everywhere}
use Rattle.lq_sound_values.specs.Runs.Closed.{names_in, IsClosed}
use Rattle.lq_sound_values.specs.Runs.Forms.{CallRuns}
use Rattle.lq_sound_values.specs.Runs.Meets.{pairs, Variables}
use Rattle.lq_sound_values.specs.Runs.Runs.{RunsTo, RunsToValue}
use Rattle.lq_sound_values.proofs.RunsLemmas.Closing.{or_right, within_with}
use Rattle.lq_sound_values.proofs.RunsLemmas.Lower.{Lower}
use Rattle.lq_sound_forms.specs.Pures.Cores.{pure_core}
use Rattle.lq_sound_forms.specs.Pures.Pures.{KnowsLengths, scene_of, EachUse, IsOf, UseIn, PureIn}
use Rattle.lq_sound_forms.proofs.PuresLemmas.Pures.{Instancing, PureIs, names_of, no_position, no_v, use_type}
use Rattle.lq_sound_forms.proofs.PuresLemmas.Values.{sum_over, formula_over}
use Rattle.lq_sound_forms.specs.Calls.Operands.{HasTerm, HasAtom, RunsToOperand, IsTwinReady, IsUsable, IsUsablePure}
use Rattle.lq_sound_forms.proofs.CallsLemmas.Operands.{no_value, operand_runs}

atom_over : (P : Symbols) (k : Kind) (e : Pure) → EachUse (IsOf P) e → AtomOn P (atom_by k e)
atom_over P number e o = sum_over P e o
atom_over P truth_value e o = formula_over P e o
atom_over P object e o = sum_over P e o
atom_over P other e o = sum_over P e o

-- twins outside two sets are outside a third one
module _ (P Q R : Symbols) (f : (y : Symbol) → P y ≡ false → Q y ≡ false → R y ≡ false) where
  mutual
    outside_both : (t : Refined) → TwinsOutside P t → TwinsOutside Q t → TwinsOutside R t
    outside_both (int_with p) h k = tt
    outside_both (bool_with p) h k = tt
    outside_both unit_type h k = tt
    outside_both (function None a b) h k = (outside_both a h.0 k.0, outside_both b h.1 k.1)
    outside_both (function (Some x) a b) h k = (f (symbol_of (twin_of x)) h.0 k.0, outside_both a h.1 k.1, outside_both b h.2 k.2)
    outside_both (tuple_of ts) h k = all_outside_both ts h k
    outside_both (array_with e p) h k = outside_both e h k
    outside_both (data_with d ts m p) h k = all_outside_both ts h k
    outside_both (map_with e p) h k = tt
    outside_both (type_variable i) h k = tt

    all_outside_both : (ts : Refineds) → AllTwinsOutside P ts → AllTwinsOutside Q ts → AllTwinsOutside R ts
    all_outside_both none h k = tt
    all_outside_both (more t ts) h k = (outside_both t h.0 k.0, all_outside_both ts h.1 k.1)

neutral_none : (O : Objects) (σ : Givens) (a : Atom) (x : ℕ) → value_at σ (symbol_of x) ≡ None → IsNeutralFor O σ a x
neutral_none O σ (of_sum t) x e = ap as_flag e
neutral_none O σ (of_formula p) x e = (ap as_number e, ap (as_object O) e)

both_false : (a b : Bool) → a ≡ false → b ≡ false → a || b ≡ false
both_false true b h k = absurd (cc)
both_false false b h k = k

-- ---- a result that doesn't speak of the argument

either_false : (a b : Bool) → a ≡ false → b ≡ false → not (a || b) ≡ true
either_false true b h k = absurd (cc)
either_false false b h k = ap not k

first_false : (a b : Bool) → not (a || b) ≡ true → a ≡ false
first_false true b h = absurd (cc)
first_false false b h = refl

second_false : (a b : Bool) → not (a || b) ≡ true → b ≡ false
second_false true b h = absurd (cc)
second_false false true h = absurd (cc)
second_false false false h = refl

or_first : (a b : Bool) → a || b ≡ false → a ≡ false
or_first true b h = absurd (cc)
or_first false b h = refl

or_last : (a b : Bool) → a || b ≡ false → b ≡ false
or_last true b h = absurd (cc)
or_last false b h = h

module _ (under : UnderBy) (scopes : Scopes) (A : Assignment) (scoped : IsScoped scopes A) (P : Symbols) (x : ℕ) (k : Kind) (b : Refined) (apart : NamesApart A (with_twins P x) b) (less : TypeOn A b P) (off_name : P (symbol_of x) ≡ false) (off_twin : P (symbol_of (twin_of x)) ≡ false) where
  abbrev beyond : Symbols
  beyond y = not (same_symbol (symbol_of x) y || same_symbol (symbol_of (twin_of x)) y)

  within_beyond : (y : Symbol) → P y ≡ true → beyond y ≡ true
  within_beyond y m =
      either_false (same_symbol (symbol_of x) y) (same_symbol (symbol_of (twin_of x)) y) (other_way (symbol_of x) (apart_from P y (symbol_of x) m off_name)) (other_way (symbol_of (twin_of x)) (apart_from P y (symbol_of (twin_of x)) m off_twin))
    where
      other_way : (z : Symbol) → same_symbol y z ≡ false → same_symbol z y ≡ false
      other_way z h =
          decide (same_symbol z y ≡ false) (same_symbol z y) (λ e. absurd (clash (same_symbol y z) h (subst (λ q. same_symbol y q ≡ true) (sym (same_symbol-is z y e)) (same_symbol-refl y)))) (λ e. e)
        where
          clash : (c : Bool) → c ≡ false → c ≡ true → ⊥
          clash true p q = cc
          clash false p q = cc

  outside_beyond : (y : Symbol) → with_twins P x y ≡ false → beyond y ≡ true
  outside_beyond y e =
      either_false (same_symbol (symbol_of x) y) (same_symbol (symbol_of (twin_of x)) y) (or_last (P y) (same_symbol (symbol_of x) y) (or_first (with_symbol P (symbol_of x) y) (same_symbol (symbol_of (twin_of x)) y) e)) (or_last (with_symbol P (symbol_of x) y) (same_symbol (symbol_of (twin_of x)) y) e)

  twin_over : Everywhere A beyond (twin scopes b)
  twin_over =
      twin_everywhere under scopes A scoped beyond b (with_twins P x) outside_beyond apart (everywhere A beyond refl (λ j. refl) b (with_twins P x) outside_beyond apart P within_beyond less.0 P within_beyond less.1)

  pub renamed_on : TypeOn A (renamed scopes (Some x) (Some (twin_of x)) k (twin scopes b)) beyond
  renamed_on = at (x == twin_of x)
    where
      at : (c : Bool) → TypeOn A (cond c (twin scopes b) (type_by scopes (swap (symbol_of x) (atom_of k (symbol_of (twin_of x))) ∷ []) (twin scopes b))) beyond
      at true = type_on A beyond (twin scopes b) twin_over
      at false =
          type_on A beyond (type_by scopes (swap (symbol_of x) (atom_of k (symbol_of (twin_of x))) ∷ []) (twin scopes b)) (put_everywhere under scopes A scoped beyond (swap (symbol_of x) (atom_of k (symbol_of (twin_of x))) ∷ []) (swap_over beyond (symbol_of x) (symbol_of (twin_of x)) k (λ y m e. absurd (clash (same_symbol (symbol_of x) y) (first_false (same_symbol (symbol_of x) y) (same_symbol (symbol_of (twin_of x)) y) m) e))) (twin scopes b) twin_over)
        where
          clash : (c : Bool) → c ≡ false → c ≡ true → ⊥
          clash true p q = cc
          clash false p q = cc

-- a value that is no truth value, of the same number and object
stand_in : (O : Objects) (σ : Givens) (t : Sum) (v : Value) → HasTerm O σ (of_sum t) v → (w : Value) × StandsFor O σ (of_sum t) w
stand_in O σ t (v_flag b) h = (v_unit, (h.0, refl, h.1))
stand_in O σ t (v_whole n) h = (v_whole n, (h.0, refl, h.1))
stand_in O σ t v_unit h = (v_unit, (h.0, refl, h.1))
stand_in O σ t (v_fun q b) h = (v_fun q b, (h.0, refl, h.1))
stand_in O σ t (v_rec f q b) h = (v_rec f q b, (h.0, refl, h.1))
stand_in O σ t (v_tuple vs) h = (v_tuple vs, (h.0, refl, h.1))
stand_in O σ t (v_array r n) h = (v_array r n, (h.0, refl, h.1))
stand_in O σ t (v_build c vs) h = (v_build c vs, (h.0, refl, h.1))

-- a type is a variable, or none
variable_or : (t : Refined) → IsNoVariable t ⊎ ((i : ℕ) × (t ≡ type_variable i))
variable_or (int_with p) = inl tt
variable_or (bool_with p) = inl tt
variable_or unit_type = inl tt
variable_or (function x a b) = inl tt
variable_or (tuple_of ts) = inl tt
variable_or (array_with e p) = inl tt
variable_or (data_with d ts m p) = inl tt
variable_or (map_with e p) = inl tt
variable_or (type_variable i) = inr (i, refl)

-- a variable's supertypes are it alone, so what has no variable isn't one
abbrev is_variable : Refined → Bool
is_variable (type_variable i) = true
is_variable _ = false

same_variable : {P : Setting} {A : Assignment} {Γ : Context} {l r : Refined} → IsSubtype P A Γ l r → is_variable l ≡ is_variable r
same_variable (sub e in_int) = refl
same_variable (sub e in_bool) = refl
same_variable (sub e in_unit) = refl
same_variable (sub e in_variable) = refl
same_variable (sub e (in_function a b)) = refl
same_variable (sub e (in_tuple c)) = refl
same_variable (sub e (in_array a b)) = refl
same_variable (sub e (in_data a b)) = refl
same_variable (sub e (in_map a)) = refl

twin_variable : (scopes : Scopes) (c : Refined) → IsNoVariable c → is_variable (twin scopes c) ≡ false
twin_variable scopes (int_with p) h = refl
twin_variable scopes (bool_with p) h = refl
twin_variable scopes unit_type h = refl
twin_variable scopes (function x a b) h = refl
twin_variable scopes (tuple_of ts) h = refl
twin_variable scopes (array_with a p) h = refl
twin_variable scopes (data_with d ts m p) h = refl
twin_variable scopes (map_with a p) h = refl
twin_variable scopes (type_variable j) h = absurd h

true_false : (b : Bool) → true ≡ b → b ≡ false → ⊥
true_false true e f = cc
true_false false e f = cc

no_variable_above : {P : Setting} {A : Assignment} {Γ : Context} {i : ℕ} (scopes : Scopes) (c : Refined) → IsNoVariable c → IsSubtype P A Γ (type_variable i) (twin scopes c) → ⊥
no_variable_above scopes c h d = true_false (is_variable (twin scopes c)) (same_variable d) (twin_variable scopes c h)

module _ (law : Lower) (calls : CallRuns) (twins : TwinTypesFit) (put : AppliedTypesFit) (P : Basis) (A : Assignment) (O : Objects) (is : IsScene (scene_of P A O)) (by : Variables) (Δ : Types) (Γ : Context) (fits : Fits Δ Γ) (closed : IsClosed (scene_of P A O) Γ) where
  -- the result with the operand for the name of the argument
  result_below : (x : ℕ) (c r : Refined) → IsTwinReady (scene_of P A O) Γ (function (Some x) c r) → (e : Pure) → EachUse (IsOf (names_in Γ)) e → (k : Kind) (σ : Givens) (v : Value) → value_at σ (symbol_of (twin_of x)) ≡ None → StandsFor O σ (atom_by k e) v → Below (scene_of P A O) (shut (given (symbol_of (twin_of x)) v ∷ σ) by.types (result_of (twin P.setting.scopes (function (Some x) c r)))) (shut σ by.types (type_by P.setting.scopes (swap (symbol_of (twin_of x)) (atom_by k e) ∷ []) (result_of (twin P.setting.scopes (function (Some x) c r)))))
  result_below x c r ready e o k σ v absent stands =
      let S = scene_of P A O in
      let z = symbol_of (twin_of x) in
      let N = with_symbol (names_in Γ) z in
      let a = atom_by k e in
      let own : N z ≡ true = or_right (names_in Γ z) (same_symbol z z) (same_symbol-refl z) in
      let over : AtomOn N a = atom_more (names_in Γ) N (within_with (names_in Γ) z) a (atom_over (names_in Γ) k e o) in
      let deep : TwinsOutside (with_twins ready.over x) r = apart_outside S.assignment (with_twins ready.over x) r ready.apart.4 in
      let outer : TwinsOutside N r = outside_both (names_in Γ) (with_twins ready.over x) N (λ y h q. both_false (names_in Γ y) (same_symbol z y) h (apart_from (with_twins ready.over x) z y (or_right (with_symbol ready.over (symbol_of x) z) (same_symbol z z) (same_symbol-refl z)) q)) r ready.outside.2 deep in
      let leaves = names_if P.setting.scopes (swap z a ∷ []) (x == twin_of x) (twin P.setting.scopes r) (swap (symbol_of x) (atom_of (kind c) z) ∷ []) (twin_leaves P.setting.scopes N z a own over r outer) in
      let apart_v = leaves_outside N z symbol.Value a own over (both_false (names_in Γ symbol.Value) false (no_v Δ Γ fits) refl) in
      let apart_k : (j : ℕ) → LeavesAlone (swap z a ∷ []) (symbol.Position (suc j)) = λ j. leaves_outside N z (symbol.Position (suc j)) a own over (both_false (names_in Γ (symbol.Position (suc j))) false (no_position Δ Γ fits (suc j)) refl) in
      (put S is (result_of (twin P.setting.scopes (function (Some x) c r))) (twin_of x) a leaves apart_v apart_k σ v stands (neutral_none O σ a (twin_of x) absent) by.types).0

  -- the same where the operand's type is a variable: the result doesn't speak of the argument, so another value may stand for its name
  result_less : (x : ℕ) (c r : Refined) → (ready : IsTwinReady (scene_of P A O) Γ (function (Some x) c r)) → TypeOn A r ready.over → (e : Pure) → EachUse (IsOf (names_in Γ)) e → (σ : Givens) (v : Value) → value_at σ (symbol_of (twin_of x)) ≡ None → HasTerm O σ (of_sum (sum_of e)) v → Below (scene_of P A O) (shut (given (symbol_of (twin_of x)) v ∷ σ) by.types (result_of (twin P.setting.scopes (function (Some x) c r)))) (shut σ by.types (type_by P.setting.scopes (swap (symbol_of (twin_of x)) (of_sum (sum_of e)) ∷ []) (result_of (twin P.setting.scopes (function (Some x) c r)))))
  result_less x c r ready less e o σ v absent stands =
      let S = scene_of P A O in
      let z = symbol_of (twin_of x) in
      let R = result_of (twin P.setting.scopes (function (Some x) c r)) in
      let w = stand_in O σ (sum_of e) v stands in
      let on = renamed_on law.under-by P.setting.scopes A is.scoped ready.over x (kind c) r ready.apart.4 less ready.apart.0 ready.apart.1 in
      let thinner = law.thin S is R (beyond law.under-by P.setting.scopes A is.scoped ready.over x (kind c) r ready.apart.4 less ready.apart.0 ready.apart.1) on (given z v ∷ σ) (given z w.0 ∷ σ) by.types (λ y m. let off = second_false (same_symbol (symbol_of x) y) (same_symbol z y) m in at_but σ z y v off ∙ sym (at_but σ z y w.0 off)) in
      let further = result_below x c r ready e o other σ w.0 absent w.1 in
      λ n W u h. further n W u (thinner n W u h)

  -- either way
  result_at : (x : ℕ) (c r : Refined) → IsTwinReady (scene_of P A O) Γ (function (Some x) c r) → (e : Pure) → EachUse (IsOf (names_in Γ)) e → (σ : Givens) (v : Value) → value_at σ (symbol_of (twin_of x)) ≡ None → HasAtom O σ (pure_type P Γ e) (pure_atom P Γ e) v → IsSubtype P.setting A Γ (pure_type P Γ e) (twin P.setting.scopes c) → Below (scene_of P A O) (shut (given (symbol_of (twin_of x)) v ∷ σ) by.types (result_of (twin P.setting.scopes (function (Some x) c r)))) (shut σ by.types (called_type P Γ (twin P.setting.scopes (function (Some x) c r)) e))
  result_at x c r ready e o σ v absent atom d = at (variable_or (pure_type P Γ e))
    where
      T : Refined
      T = twin P.setting.scopes (function (Some x) c r)

      at : IsNoVariable (pure_type P Γ e) ⊎ ((i : ℕ) × (pure_type P Γ e ≡ type_variable i)) → Below (scene_of P A O) (shut (given (symbol_of (twin_of x)) v ∷ σ) by.types (result_of T)) (shut σ by.types (called_type P Γ T e))
      at (inl i) = result_below x c r ready e o (kind (pure_type P Γ e)) σ v absent (atom.0 i)
      at (inr i) = less_at ready.apart.2
        where
          less_at : IsNoVariable c ⊎ TypeOn A r ready.over → Below (scene_of P A O) (shut (given (symbol_of (twin_of x)) v ∷ σ) by.types (result_of T)) (shut σ by.types (called_type P Γ T e))
          less_at (inl isnt) = absurd (no_variable_above P.setting.scopes c isnt (subst (λ t. IsSubtype P.setting A Γ t (twin P.setting.scopes c)) i.1 d))
          less_at (inr less) =
              let own : HasTerm O σ (of_sum (sum_of e)) v = subst (λ t. HasTerm O σ (atom_by (kind t) e) v) i.1 atom.1 in
              subst (λ t. Below (scene_of P A O) (shut (given (symbol_of (twin_of x)) v ∷ σ) by.types (result_of T)) (shut σ by.types (type_by P.setting.scopes (swap (symbol_of (twin_of x)) (atom_by (kind t) e) ∷ []) (result_of T)))) (sym i.1) (result_less x c r ready less e o σ v absent own)

  -- a call of a function whose type is known to be one
  call_with : (t : Refined) → (s : MlType) (q : MlType) → erased t ≡ ml.arrow s q → IsUsable (scene_of P A O) Γ t → (g : Core) → RunsToValue (scene_of P A O) by Γ g (twin P.setting.scopes t) → (e : Pure) → EachUse (IsOf (names_in Γ)) e → RunsToOperand (scene_of P A O) by Γ (pure_core e) (pure_type P Γ e) (pure_atom P Γ e) → (d : IsSubtype P.setting A Γ (pure_type P Γ e) (argument_of (twin P.setting.scopes t))) → Apart (scene_of P A O) d → RunsTo (scene_of P A O) by Γ (core.call g (pure_core e)) (called_type P Γ (twin P.setting.scopes t) e)
  call_with (function None c r) s q i ready g runs e o operand d apart n W σ w m ag =
      let S = scene_of P A O in
      let a = operand n W σ m in
      calls S by Γ g (pure_core e) None (twin P.setting.scopes c) (pure_type P Γ e) (twin P.setting.scopes r) runs (λ τ k. law.subtypes S is Γ (pure_type P Γ e) (twin P.setting.scopes c) d apart τ by.types k) n W σ w m ag a.0 a.1 a.3
  call_with (function (Some x) c r) s q i ready g runs e o operand d apart n W σ w m ag =
      let S = scene_of P A O in
      let a = operand n W σ m in
      let T = twin P.setting.scopes (function (Some x) c r) in
      let Z = shut (given (symbol_of (twin_of x)) a.0 ∷ σ) by.types (result_of T) in
      runs_map n (close (pairs σ) (core.call g (pure_core e))) w (LandsIn S W Z) (LandsIn S W (shut σ by.types (called_type P Γ T e))) (λ k v u le z.
      (z.0, z.1, result_at x c r ready e o σ a.0 (no_value S by (suc n) W σ Γ σ m.named (symbol_of (twin_of x)) ready.outside.0) a.2 d k z.0 v z.2, z.3)) (calls S by Γ g (pure_core e) (Some (twin_of x)) (twin P.setting.scopes c) (pure_type P Γ e) (result_of T) runs (λ τ k. law.subtypes S is Γ (pure_type P Γ e) (twin P.setting.scopes c) d apart τ by.types k) n W σ w m ag a.0 a.1 a.3)
  call_with (int_with p) s q i ready g runs e o operand d apart n W σ w meets ag = absurd (cc)
  call_with (bool_with p) s q i ready g runs e o operand d apart n W σ w meets ag = absurd (cc)
  call_with unit_type s q i ready g runs e o operand d apart n W σ w meets ag = absurd (cc)
  call_with (tuple_of ts) s q i ready g runs e o operand d apart n W σ w meets ag = absurd (cc)
  call_with (array_with c p) s q i ready g runs e o operand d apart n W σ w meets ag = absurd (cc)
  call_with (data_with j ts m p) s q i ready g runs e o operand d apart n W σ w meets ag = absurd (cc)
  call_with (map_with c p) s q i ready g runs e o operand d apart n W σ w meets ag = absurd (cc)
  call_with (type_variable j) s q i ready g runs e o operand d apart n W σ w meets ag = absurd (cc)

is_twin : (scopes : Scopes) (x : ℕ) (t : Refined) (s q : MlType) → erased t ≡ ml.arrow s q → variable_type scopes x t ≡ twin scopes t
is_twin scopes x (function y c r) s q e = refl
is_twin scopes x (int_with p) s q e = absurd (cc)
is_twin scopes x (bool_with p) s q e = absurd (cc)
is_twin scopes x unit_type s q e = absurd (cc)
is_twin scopes x (tuple_of ts) s q e = absurd (cc)
is_twin scopes x (array_with c p) s q e = absurd (cc)
is_twin scopes x (data_with j ts m p) s q e = absurd (cc)
is_twin scopes x (map_with c p) s q e = absurd (cc)
is_twin scopes x (type_variable j) s q e = absurd (cc)

module _ (law : Lower) (inst : Instancing) (calls : CallRuns) (twins : TwinTypesFit) (put : AppliedTypesFit) (P : Basis) (A : Assignment) (O : Objects) (is : IsScene (scene_of P A O)) (lengths : KnowsLengths O) (by : Variables) (Q : Points) (are : AreTemplates P Q) (Δ : Types) (Γ : Context) (fits : Fits Δ Γ) (closed : IsClosed (scene_of P A O) Γ) where
  -- a variable that is a function
  use_call : (u : Use) (s q : MlType) → ml.arrow s q ≡ type_of_use Q Δ u → UseIn P A by Γ u → IsUsable (scene_of P A O) Γ (pures.type_of_use P Γ u) → (e : Pure) (a : MlType) → PureIs Q Δ e a → PureIn P A by Γ e → IsUsablePure P (scene_of P A O) Γ e → (d : IsSubtype P.setting A Γ (pure_type P Γ e) (argument_of (pure_type P Γ (tree.use_of u)))) → Apart (scene_of P A O) d → RunsTo (scene_of P A O) by Γ (core.call (pure_core (tree.use_of u)) (pure_core e)) (called_type P Γ (pure_type P Γ (tree.use_of u)) e)
  use_call u s q i o k e a h p z d apart =
      let S = scene_of P A O in
      let t = pures.type_of_use P Γ u in
      let g = pure_core (tree.use_of u) in
      let shape : erased t ≡ ml.arrow s q = use_type law inst P A O is lengths by Q are Δ Γ fits closed u ∙ sym i in
      let E : pure_type P Γ (tree.use_of u) ≡ twin P.setting.scopes t = is_twin P.setting.scopes u.name t s q shape in
      let operand = operand_runs law inst twins P A O is lengths by Q are Δ Γ fits closed e a h p z in
      let own = operand_runs law inst twins P A O is lengths by Q are Δ Γ fits closed (tree.use_of u) (ml.arrow s q) i o k in
      let value : RunsToValue S by Γ g (pure_type P Γ (tree.use_of u)) = λ n W σ m. let r = own n W σ m in (r.0, r.1, r.3) in
      subst (λ X. (y : IsSubtype P.setting A Γ (pure_type P Γ e) (argument_of X)) → Apart S y → RunsToValue S by Γ g X → RunsTo S by Γ (core.call g (pure_core e)) (called_type P Γ X e)) (sym E) (λ y v r. call_with law calls twins put P A O is by Δ Γ fits closed t s q shape k g r e (names_of P A by Γ e p) operand y v) d apart value

  pub calls_run : (g e : Pure) (s q : MlType) → PureIs Q Δ g (ml.arrow s q) → PureIs Q Δ e s → PureIn P A by Γ g → PureIn P A by Γ e → IsUsablePure P (scene_of P A O) Γ g → IsUsablePure P (scene_of P A O) Γ e → (d : IsSubtype P.setting A Γ (pure_type P Γ e) (argument_of (pure_type P Γ g))) → Apart (scene_of P A O) d → RunsTo (scene_of P A O) by Γ (core.call (pure_core g) (pure_core e)) (called_type P Γ (pure_type P Γ g) e)
  calls_run (tree.use_of u) e s q i h o p k z d apart = use_call u s q i o k e s h p z d apart
  calls_run (tree.whole j) e s q i h o p k z d apart = absurd (cc)
  calls_run (tree.flag b) e s q i h o p k z d apart = absurd (cc)
  calls_run tree.unit e s q i h o p k z d apart = absurd (cc)
  calls_run (tree.negated c) e s q i h o p k z d apart = let y = i.0 in absurd (cc)
  calls_run (tree.add b c) e s q i h o p k z d apart = let y = i.0 in absurd (cc)
  calls_run (tree.subtract b c) e s q i h o p k z d apart = let y = i.0 in absurd (cc)
  calls_run (tree.multiply b c) e s q i h o p k z d apart = let y = i.0 in absurd (cc)
  calls_run (tree.length_of c) e s q i h o p k z d apart = let y = i.0 in absurd (cc)
  calls_run (tree.compare j b c) e s q i h o p k z d apart = let y = i.0 in absurd (cc)
  calls_run (tree.not_of c) e s q i h o p k z d apart = let y = i.0 in absurd (cc)
  calls_run (tree.and_of b c) e s q i h o p k z d apart = let y = i.0 in absurd (cc)
  calls_run (tree.or_of b c) e s q i h o p k z d apart = let y = i.0 in absurd (cc)
