-- What is known when a name gets a value.
use Rattle.std.proofs.Common.{◌≡◌, Bool, true, false, not, List, [], ◌∷◌, map, Some, None, refl, sym, ap, ◌∙◌, subst}
use Rattle.lq_logic_predicates.specs.declared.symbol.Symbol.{Symbol}
use Rattle.lq_logic_predicates.specs.declared.symbol.Symbol.TheVariants as symbol
use Rattle.lq_logic_predicates.specs.Sum.{same_symbol}
use Rattle.lq_logic_predicates.specs.Formula.{Formula}
use Rattle.lq_logic_predicates.specs.Truth.{Meaning, truth_of, object_of, term_value}
use Rattle.lq_logic_predicates.specs.ClosedImplication.{EachTrueIn}
use Rattle.lq_refined_types.specs.Parts.Assignment.{IsScoped, parts_under}
use Rattle.lq_refined_types.specs.Parts.Part.{Parts, parts_by}
use Rattle.lq_refined_types.specs.Parts.Substitution.{Subst, swap, sum_at, flag_at, formula_by}
use Rattle.lq_refined_types.specs.Parts.Values.{meaning_by}
use Rattle.lq_refined_types.specs.Types.Context.{Context, name}
use Rattle.lq_refined_types.specs.Types.Operations.{atom_of}
use Rattle.lq_refined_types.specs.Types.Refined.{Refined, int_with, bool_with, unit_type, function, tuple_of, array_with, data_with, map_with, type_variable, Kind, kind, number, truth_value, object, top}
use Rattle.lq_refined_types.specs.Subtyping.Subtype.{facts}
use Rattle.lq_meaning_steps.specs.Model.Core.{Value, v_whole, v_flag, v_array, v_build}
use Rattle.lq_sound_values.specs.Inhabitants.Truth.{Givens, given, value_at, as_number, as_flag, as_object, Objects, meaning_of, Scene, AreTrue}
use Rattle.lq_sound_values.specs.Inhabitants.Datatypes.{HasKind, TypeHas}
use Rattle.lq_sound_values.specs.Inclusion.Symbols.{Symbols, other_than, PartsOn, Lacks}
use Rattle.lq_sound_values.specs.Inclusion.Apart.{IsKnown, MayBind}
use Rattle.lq_sound_values.proofs.InclusionLemmas.Truths.{Lower, SameOn, each_same, parts_append, still_true, at_self, at_but, not_false}

abbrev pub swapped : Objects → Givens → Symbol → Value → Kind → Meaning
swapped O σ x v k = meaning_by (meaning_of O (given x v ∷ σ)) (swap symbol.Value (atom_of k x) ∷ [])

module _ (O : Objects) (σ : Givens) (x : Symbol) (absent : value_at σ symbol.Value ≡ None) (off : same_symbol x symbol.Value ≡ false) where
  without_it : (v : Value) → value_at (given x v ∷ σ) symbol.Value ≡ None
  without_it v = at_but σ x symbol.Value v off ∙ absent

  same_number : (v : Value) → as_flag (Some v) ≡ false → SameOn (other_than x) (meaning_of O (given symbol.Value v ∷ σ)) (swapped O σ x v number)
  same_number v f =
      record { number = numbers; holds = flags; object = things; length = λ i. refl; measured = λ g i. refl }
    where
      numbers : (y : Symbol) → not (same_symbol x y) ≡ true → as_number (value_at (given symbol.Value v ∷ σ) y) ≡ term_value (meaning_of O (given x v ∷ σ)) (sum_at (swap symbol.Value (atom_of number x) ∷ []) y)
      numbers symbol.Value h = sym (ap as_number (at_self σ x v))
      numbers (symbol.Bound b) h = sym (ap as_number (at_but σ x (symbol.Bound b) v (not_false (same_symbol x (symbol.Bound b)) h)))
      numbers (symbol.Position j) h = sym (ap as_number (at_but σ x (symbol.Position j) v (not_false (same_symbol x (symbol.Position j)) h)))

      flags : (y : Symbol) → not (same_symbol x y) ≡ true → as_flag (value_at (given symbol.Value v ∷ σ) y) ≡ truth_of (meaning_of O (given x v ∷ σ)) (flag_at (swap symbol.Value (atom_of number x) ∷ []) y)
      flags symbol.Value h = f ∙ sym (ap as_flag (without_it v))
      flags (symbol.Bound b) h = sym (ap as_flag (at_but σ x (symbol.Bound b) v (not_false (same_symbol x (symbol.Bound b)) h)))
      flags (symbol.Position j) h = sym (ap as_flag (at_but σ x (symbol.Position j) v (not_false (same_symbol x (symbol.Position j)) h)))

      things : (y : Symbol) → not (same_symbol x y) ≡ true → as_object O (value_at (given symbol.Value v ∷ σ) y) ≡ object_of (meaning_of O (given x v ∷ σ)) (sum_at (swap symbol.Value (atom_of number x) ∷ []) y)
      things symbol.Value h = sym (ap (as_object O) (at_self σ x v))
      things (symbol.Bound b) h = sym (ap (as_object O) (at_but σ x (symbol.Bound b) v (not_false (same_symbol x (symbol.Bound b)) h)))
      things (symbol.Position j) h = sym (ap (as_object O) (at_but σ x (symbol.Position j) v (not_false (same_symbol x (symbol.Position j)) h)))

  same_flag : (b : Bool) → SameOn (other_than x) (meaning_of O (given symbol.Value (v_flag b) ∷ σ)) (swapped O σ x (v_flag b) truth_value)
  same_flag t =
      record { number = numbers; holds = flags; object = things; length = λ i. refl; measured = λ g i. refl }
    where
      numbers : (y : Symbol) → not (same_symbol x y) ≡ true → as_number (value_at (given symbol.Value (v_flag t) ∷ σ) y) ≡ term_value (meaning_of O (given x (v_flag t) ∷ σ)) (sum_at (swap symbol.Value (atom_of truth_value x) ∷ []) y)
      numbers symbol.Value h = sym (ap as_number (without_it (v_flag t)))
      numbers (symbol.Bound b) h = sym (ap as_number (at_but σ x (symbol.Bound b) (v_flag t) (not_false (same_symbol x (symbol.Bound b)) h)))
      numbers (symbol.Position j) h = sym (ap as_number (at_but σ x (symbol.Position j) (v_flag t) (not_false (same_symbol x (symbol.Position j)) h)))

      flags : (y : Symbol) → not (same_symbol x y) ≡ true → as_flag (value_at (given symbol.Value (v_flag t) ∷ σ) y) ≡ truth_of (meaning_of O (given x (v_flag t) ∷ σ)) (flag_at (swap symbol.Value (atom_of truth_value x) ∷ []) y)
      flags symbol.Value h = sym (ap as_flag (at_self σ x (v_flag t)))
      flags (symbol.Bound b) h = sym (ap as_flag (at_but σ x (symbol.Bound b) (v_flag t) (not_false (same_symbol x (symbol.Bound b)) h)))
      flags (symbol.Position j) h = sym (ap as_flag (at_but σ x (symbol.Position j) (v_flag t) (not_false (same_symbol x (symbol.Position j)) h)))

      things : (y : Symbol) → not (same_symbol x y) ≡ true → as_object O (value_at (given symbol.Value (v_flag t) ∷ σ) y) ≡ object_of (meaning_of O (given x (v_flag t) ∷ σ)) (sum_at (swap symbol.Value (atom_of truth_value x) ∷ []) y)
      things symbol.Value h = sym (ap (as_object O) (without_it (v_flag t)))
      things (symbol.Bound b) h = sym (ap (as_object O) (at_but σ x (symbol.Bound b) (v_flag t) (not_false (same_symbol x (symbol.Bound b)) h)))
      things (symbol.Position j) h = sym (ap (as_object O) (at_but σ x (symbol.Position j) (v_flag t) (not_false (same_symbol x (symbol.Position j)) h)))

module _ (law : Lower) (S : Scene) (scoped : IsScoped S.setting.scopes S.assignment) where
  each_by : (m : Meaning) (θ : Subst) (ps : List Formula) → EachTrueIn (meaning_by m θ) ps → EachTrueIn m (map (formula_by θ) ps)
  each_by m θ [] h = tt
  each_by m θ (p ∷ ps) h = (law.truth-by m θ p ∙ h.0, each_by m θ ps h.1)

  by_each : (m : Meaning) (θ : Subst) (ps : List Formula) → EachTrueIn m (map (formula_by θ) ps) → EachTrueIn (meaning_by m θ) ps
  by_each m θ [] h = tt
  by_each m θ (p ∷ ps) h = (sym (law.truth-by m θ p) ∙ h.0, by_each m θ ps h.1)

  -- parts with something put for their names are true where the parts are true under its values
  pub put_true : (P : Symbols) (σ τ : Givens) (θ : Subst) (ps : Parts) → SameOn P (meaning_of S.objects σ) (meaning_by (meaning_of S.objects τ) θ) → PartsOn S.assignment P ps → AreTrue S σ ps → AreTrue S τ (parts_by S.setting.scopes θ ps)
  put_true P σ τ θ ps s o h =
      subst (EachTrueIn (meaning_of S.objects τ)) (sym (law.under-by S.setting.scopes S.assignment θ ps scoped)) (each_by (meaning_of S.objects τ) θ (parts_under S.assignment ps) (each_same P (meaning_of S.objects σ) (meaning_by (meaning_of S.objects τ) θ) s (parts_under S.assignment ps) o h))

  pub put_back : (P : Symbols) (σ τ : Givens) (θ : Subst) (ps : Parts) → SameOn P (meaning_by (meaning_of S.objects τ) θ) (meaning_of S.objects σ) → PartsOn S.assignment P ps → AreTrue S τ (parts_by S.setting.scopes θ ps) → AreTrue S σ ps
  put_back P σ τ θ ps s o h =
      each_same P (meaning_by (meaning_of S.objects τ) θ) (meaning_of S.objects σ) s (parts_under S.assignment ps) o (by_each (meaning_of S.objects τ) θ (parts_under S.assignment ps) (subst (EachTrueIn (meaning_of S.objects τ)) (law.under-by S.setting.scopes S.assignment θ ps scoped) h))

  own_by : (σ : Givens) (x : Symbol) (v : Value) (k : Kind) (ps : Parts) → SameOn (other_than x) (meaning_of S.objects (given symbol.Value v ∷ σ)) (swapped S.objects σ x v k) → Lacks S.assignment x ps → AreTrue S (given symbol.Value v ∷ σ) ps → AreTrue S (given x v ∷ σ) (parts_by S.setting.scopes (swap symbol.Value (atom_of k x) ∷ []) ps)
  own_by σ x v k ps s l h = put_true (other_than x) (given symbol.Value v ∷ σ) (given x v ∷ σ) (swap symbol.Value (atom_of k x) ∷ []) ps s l h

  own_number : (σ : Givens) (x : Symbol) (ps : Parts) (v : Value) → value_at σ symbol.Value ≡ None → same_symbol x symbol.Value ≡ false → Lacks S.assignment x ps → HasKind number v → AreTrue S (given symbol.Value v ∷ σ) ps → AreTrue S (given x v ∷ σ) (parts_by S.setting.scopes (swap symbol.Value (atom_of number x) ∷ []) ps)
  own_number σ x ps (v_whole i) absent off l k h = own_by σ x (v_whole i) number ps (same_number S.objects σ x absent off (v_whole i) refl) l h
  own_number σ x ps _ absent off l k h = absurd k

  own_flag : (σ : Givens) (x : Symbol) (ps : Parts) (v : Value) → value_at σ symbol.Value ≡ None → same_symbol x symbol.Value ≡ false → Lacks S.assignment x ps → HasKind truth_value v → AreTrue S (given symbol.Value v ∷ σ) ps → AreTrue S (given x v ∷ σ) (parts_by S.setting.scopes (swap symbol.Value (atom_of truth_value x) ∷ []) ps)
  own_flag σ x ps (v_flag b) absent off l k h = own_by σ x (v_flag b) truth_value ps (same_flag S.objects σ x absent off b) l h
  own_flag σ x ps _ absent off l k h = absurd k

  own_object : (σ : Givens) (x : Symbol) (ps : Parts) (v : Value) → value_at σ symbol.Value ≡ None → same_symbol x symbol.Value ≡ false → Lacks S.assignment x ps → HasKind object v → AreTrue S (given symbol.Value v ∷ σ) ps → AreTrue S (given x v ∷ σ) (parts_by S.setting.scopes (swap symbol.Value (atom_of object x) ∷ []) ps)
  own_object σ x ps (v_array r i) absent off l k h = own_by σ x (v_array r i) object ps (same_number S.objects σ x absent off (v_array r i) refl) l h
  own_object σ x ps (v_build c vs) absent off l k h = own_by σ x (v_build c vs) object ps (same_number S.objects σ x absent off (v_build c vs) refl) l h
  own_object σ x ps _ absent off l k h = absurd k

  own_true : (σ : Givens) (x : Symbol) (T : Refined) (v : Value) → value_at σ symbol.Value ≡ None → same_symbol x symbol.Value ≡ false → Lacks S.assignment x (top T) → TypeHas T v → AreTrue S (given symbol.Value v ∷ σ) (top T) → AreTrue S (given x v ∷ σ) (parts_by S.setting.scopes (swap symbol.Value (atom_of (kind T) x) ∷ []) (top T))
  own_true σ x (int_with p) v absent off l k h = own_number σ x p v absent off l k h
  own_true σ x (bool_with p) v absent off l k h = own_flag σ x p v absent off l k h
  own_true σ x unit_type v absent off l k h = tt
  own_true σ x (function y A T) v absent off l k h = tt
  own_true σ x (tuple_of Ts) v absent off l k h = tt
  own_true σ x (array_with E p) v absent off l k h = own_object σ x p v absent off l k h
  own_true σ x (data_with d As M p) v absent off l k h = own_object σ x p v absent off l k h
  own_true σ x (map_with E p) v absent off l k h = absurd k
  own_true σ x (type_variable a) v absent off l k h = tt

  -- the environment with the name, where the name has a value that has the type's top
  pub known_bind : (Γ : Context) (σ : Givens) (x : Symbol) (T : Refined) (v : Value) → MayBind S x T Γ → IsKnown S Γ σ → TypeHas T v → AreTrue S (given symbol.Value v ∷ σ) (top T) → IsKnown S (name x T ∷ Γ) (given x v ∷ σ)
  known_bind Γ σ x T v m k is h =
      record { true_facts = parts_append S (given x v ∷ σ) (facts S.setting Γ) (parts_by S.setting.scopes (swap symbol.Value (atom_of (kind T) x) ∷ []) (top T)) (still_true S σ x v (facts S.setting Γ) m.0 k.true_facts) (own_true σ x T v k.no_value m.2 m.1 is h); no_value = at_but σ x symbol.Value v m.2 ∙ k.no_value; lacks_value = m.3 }
