-- An index of an array finds an element of its type.
use Rattle.std.proofs.Common.{◌≡◌, ℕ, suc, ◌<◌, ℤ, pos, negsuc, true, not, ◌&&◌, ltb, List, slice_get, Some, refl, sym, ap, ◌∙◌, subst, arith as numbers}
use Rattle.std.proofs.lemmas.Bool.{ltb-true, and_parts}
use Rattle.std.specs.Int.Signed.{lt_z}
use Rattle.lq_base_names.specs.declared.place.Place.{Place}
use Rattle.lq_logic_predicates.specs.Sum.{Sum}
use Rattle.lq_logic_predicates.specs.Truth.{term_value, truth_of}
use Rattle.lq_refined_types.specs.Parts.Assignment.{Implied}
use Rattle.lq_refined_types.specs.Parts.Part.{Parts, known}
use Rattle.lq_refined_types.specs.Types.Context.{Context}
use Rattle.lq_refined_types.specs.Types.Operations.{symbol_of}
use Rattle.lq_refined_types.specs.Types.Refined.{Refined, array_with}
use Rattle.lq_refined_types.specs.Subtyping.Subtype.{facts}
use Rattle.lq_meaning_steps.specs.Model.Core.{Core, val, use_of, two, fetch, Value, v_whole, v_array, close, as_value}
use Rattle.lq_meaning_steps.specs.Model.Operations.{World, gives, fetch_act}
use Rattle.lq_meaning_steps.specs.Model.Step.{goes, in_left, in_right}
use Rattle.lq_meaning_steps.specs.Model.StepFunction.{step}
use Rattle.lq_sound_values.specs.Inhabitants.Truth.{Givens, value_at, as_object, meaning_of, Scene}
use Rattle.lq_sound_values.specs.Inhabitants.Shut.{shut}
use Rattle.lq_sound_values.specs.Inhabitants.Inhabits.{Slot, Table, SameBelow, Inhabits, Agrees}
use Rattle.lq_sound_values.specs.Inhabitants.Runs.{RunsWell, LandsIn}
use Rattle.lq_sound_values.proofs.InhabitantsLemmas.Running.{runs_value, runs_step}
use Rattle.lq_sound_values.proofs.InhabitantsLemmas.Numbers.{same_at}
use Rattle.lq_sound_values.proofs.InclusionLemmas.Truths as below
use Rattle.lq_sound_values.proofs.InclusionLemmas.Truths.{implied_true}
use Rattle.lq_sound_values.specs.Runs.Meets.{pairs, Variables, Meets}
use Rattle.lq_sound_values.specs.Runs.Runs.{Exactly, RunsTo, RunsToNumber}
use Rattle.lq_sound_values.proofs.RunsLemmas.Framing.{runs_in}
use Rattle.lq_sound_values.proofs.RunsLemmas.Lower.{Lower}
use Rattle.lq_sound_values.proofs.RunsLemmas.Meeting.{extends_self}
use Rattle.lq_sound_forms.specs.Pures.Pures.{KnowsLengths}
use Rattle.lq_sound_forms.proofs.PuresLemmas.Pures.{runs_variable}
use Rattle.lq_sound_forms.specs.Arrays.Arrays.{index_in, IsArrayAt}
use Rattle.lq_sound_forms.proofs.ArraysLemmas.Lists.{get_within}

abbrev pub predicates : Lower → below.Lower
predicates law = record { valid = law.valid; truth-by = law.truth-by; under-by = law.under-by }

-- a number that isn't below 0, and is below the length
pub in_bounds : (i : ℤ) (n : ℕ) → not (lt_z i (pos 0)) && lt_z i (pos n) ≡ true → (k : ℕ) × (i ≡ pos k) × (k < n)
in_bounds (pos k) n h = (k, refl, ltb-true k n (and_parts (not (ltb k 0)) (ltb k n) h).1)
in_bounds (negsuc k) n h = absurd (cc)

-- what is found at an index of the array of a variable: the array, its slot, its elements, and the element
pub record Found (S : Scene) (by : Variables) (n : ℕ) (W : Table) (σ : Givens) (w : World) (x : ℕ) (e : Refined) (i : ℤ) : Type 0 where
  pub reference : ℕ
  pub size : ℕ
  pub place : ℕ
  pub slot : Slot
  pub row : List Value
  pub element : Value
  pub is : value_at σ (symbol_of x) ≡ Some (v_array reference size)
  pub index : i ≡ pos place
  pub has_slot : slice_get W reference ≡ Some slot
  pub has_row : slice_get w.arrays reference ≡ Some row
  pub has_element : slice_get row place ≡ Some element
  pub kept : SameBelow S (suc n) W slot (shut σ by.types e)

module _ (law : Lower) (S : Scene) (lengths : KnowsLengths S.objects) (by : Variables) (Γ : Context) (x : ℕ) (i : Sum) (e : Refined) (p : Parts) (array : IsArrayAt S by Γ x e p) (demanded : Implied S.assignment (facts S.setting Γ) (known (index_in x i))) where
  found_at : (n : ℕ) (W : Table) (σ : Givens) (w : World) → Agrees S n W w → (v : Value) → value_at σ (symbol_of x) ≡ Some v → Inhabits S (suc n) W (shut σ by.types (array_with e p)) v → truth_of (meaning_of S.objects σ) (index_in x i) ≡ true → Found S by n W σ w x e (term_value (meaning_of S.objects σ) i)
  found_at n W σ w ag (v_array r z) at h t =
      let size_is : S.objects.length (as_object S.objects (value_at σ (symbol_of x))) ≡ pos z = ap (λ o. S.objects.length (as_object S.objects o)) at ∙ lengths r z in
      let b = in_bounds (term_value (meaning_of S.objects σ) i) z (subst (λ l. not (lt_z (term_value (meaning_of S.objects σ) i) (pos 0)) && lt_z (term_value (meaning_of S.objects σ) i) l ≡ true) size_is t) in
      let K = h.0.0 in
      let row = ag.0.1 r K h.0.1 in
      let element = get_within Value row.0 b.0 (subst (λ m. b.0 < m) (sym (row.2 ∙ h.0.2)) b.2) in
      record { reference = r; size = z; place = b.0; slot = K; row = row.0; element = element.0; is = at; index = b.1; has_slot = h.0.1; has_row = row.1; has_element = element.1; kept = h.0.3 }
  found_at n W σ w ag _ at h t = absurd h.0

  pub found : (n : ℕ) (W : Table) (σ : Givens) (w : World) → Meets S by (suc n) W Γ σ → Agrees S n W w → Found S by n W σ w x e (term_value (meaning_of S.objects σ) i)
  found n W σ w m ag =
      let l = array (suc n) W σ m in
      found_at n W σ w ag l.value l.is l.fits (implied_true (predicates law) S σ (facts S.setting Γ) (known (index_in x i)) demanded m.known.true_facts).0

  pub fetch_ok : (l : Place) (c : Core) → RunsToNumber S by Γ c i → RunsTo S by Γ (two (fetch l) (use_of x) c) e
  fetch_ok l c runs n W σ w m ag =
      let f = found n W σ w m ag in
      let C = close (pairs σ) c in
      let a = v_array f.reference f.size in
      let k = v_whole (term_value (meaning_of S.objects σ) i) in
      let R = LandsIn S W (shut σ by.types e) in
      runs_in law (in_left (fetch l) C) tt n (close (pairs σ) (use_of x)) w (Exactly a w) R (runs_variable n σ x a w f.is) (λ j d u z le at q.
      let at1 : as_value d ≡ Some a = at ∙ ap Some q.0 in
      subst (λ y. RunsWell j (two (fetch l) d C) y R) (sym q.1) (runs_in law (in_right (fetch l) d) (a, at1) j C w (Exactly k w) R (runs n W σ m j w) (λ g h u2 z2 le2 is2 q2.
      let at2 : as_value h ≡ Some (v_whole (pos f.place)) = is2 ∙ ap Some q2.0 ∙ ap (λ y. Some (v_whole y)) f.index in
      let act : fetch_act l a (v_whole (pos f.place)) w ≡ Some (gives f.element w) = rw (f.has_row, f.has_element) in
      let go : step (two (fetch l) d h) w ≡ Some (goes (val f.element) w) = rw (at1, at2, act) in
      subst (λ y. RunsWell g (two (fetch l) d h) y R) (sym q2.1) (runs_step g (two (fetch l) d h) (val f.element) w w R refl go (λ b eq.
      let own : Inhabits S b W f.slot.kind f.element = (law.elements S n W w).0 ag.1 b (omega (numbers, le, le2, eq)) f.reference f.place f.slot f.row f.element f.has_slot f.has_row f.has_element in
      let same = same_at S W f.slot (shut σ by.types e) (suc n) b (omega (numbers, le, le2, eq)) f.kept W f.element (extends_self W) in
      runs_value b (val f.element) w f.element R refl (W, extends_self W, same.0 own, law.stores S n b W w (omega (numbers, le, le2, eq)) ag))))))
