-- A store at an index of an array.
use Rattle.std.proofs.Common.{◌≡◌, ℕ, suc, ◌<◌, pos, List, length, slice_get, slice_set, Some, ◌⊎◌, inl, inr, refl, sym, ap, ◌∙◌, subst, arith as numbers}
use Rattle.lq_base_names.specs.declared.place.Place.{Place}
use Rattle.lq_logic_predicates.specs.Sum.{Sum}
use Rattle.lq_logic_predicates.specs.Truth.{term_value}
use Rattle.lq_refined_types.specs.Parts.Assignment.{Implied}
use Rattle.lq_refined_types.specs.Parts.Part.{Parts, known}
use Rattle.lq_refined_types.specs.Types.Context.{Context}
use Rattle.lq_refined_types.specs.Types.Refined.{Refined, unit_type}
use Rattle.lq_refined_types.specs.Subtyping.Subtype.{facts}
use Rattle.lq_meaning_steps.specs.Model.Core.{Core, val, use_of, three, store, Value, v_whole, v_unit, v_array, close, as_value}
use Rattle.lq_meaning_steps.specs.Model.Operations.{World, gives, store_act}
use Rattle.lq_meaning_steps.specs.Model.Step.{goes, in_start, in_middle, in_end}
use Rattle.lq_meaning_steps.specs.Model.StepFunction.{step}
use Rattle.lq_sound_values.specs.Inhabitants.Truth.{Givens, meaning_of, Scene}
use Rattle.lq_sound_values.specs.Inhabitants.Shut.{shut}
use Rattle.lq_sound_values.specs.Inhabitants.Inhabits.{Slot, Table, Inhabits, Agrees}
use Rattle.lq_sound_values.specs.Inhabitants.Runs.{RunsWell, LandsIn}
use Rattle.lq_sound_values.specs.Inhabitants.Below.{Below}
use Rattle.lq_sound_values.proofs.InhabitantsLemmas.Running.{runs_value, runs_step}
use Rattle.lq_sound_values.proofs.InhabitantsLemmas.Numbers.{same_at}
use Rattle.lq_sound_values.specs.Inclusion.Apart.{IsKnown}
use Rattle.lq_sound_values.specs.Runs.Meets.{pairs, Variables}
use Rattle.lq_sound_values.specs.Runs.Runs.{Exactly, RunsTo, RunsToNumber, RunsToValue}
use Rattle.lq_sound_values.proofs.RunsLemmas.Framing.{runs_in}
use Rattle.lq_sound_values.proofs.RunsLemmas.Lower.{Lower}
use Rattle.lq_sound_values.proofs.RunsLemmas.Meeting.{extends_self}
use Rattle.lq_sound_forms.specs.Pures.Pures.{KnowsLengths}
use Rattle.lq_sound_forms.proofs.PuresLemmas.Pures.{runs_variable}
use Rattle.lq_sound_forms.specs.Arrays.Arrays.{index_in, IsArrayAt}
use Rattle.lq_sound_forms.proofs.ArraysLemmas.Fetching.{found}
use Rattle.lq_sound_forms.proofs.ArraysLemmas.Lists.{length_set, get_set, set_get}

some_same : (X : Type 0) (a b : X) → Some a ≡ Some b → a ≡ b
some_same X a b e = cc

abbrev with_arrays : World → List (List Value) → World
with_arrays w rows = record w { arrays = rows }

module _ (law : Lower) (S : Scene) where
  -- a store that agrees still does where an element of the slot's type is put into an array
  stored : (n : ℕ) (W : Table) (w : World) (r j : ℕ) (K : Slot) (row : List Value) (u : Value) → slice_get W r ≡ Some K → slice_get w.arrays r ≡ Some row → Agrees S n W w → ((m : ℕ) → m < n → Inhabits S m W K.kind u) → Agrees S n W (with_arrays w (slice_set w.arrays r (slice_set row j u)))
  stored n W w r j K row u has_slot has_row ag fit = (
    (ag.0.0 ∙ sym (length_set (List Value) w.arrays r (slice_set row j u)), λ q L h. let z = ag.0.1 q L h in rows q L z.0 z.1 z.2 (set_get (List Value) w.arrays r (slice_set row j u) q z.0 z.1)),
    (law.elements S n W (with_arrays w (slice_set w.arrays r (slice_set row j u)))).1 (λ m lt q k L rw x h i a. elements m lt q k L rw x h (get_set (List Value) w.arrays r (slice_set row j u) q rw i) a),
  )
    where
      rows : (q : ℕ) (L : Slot) (old : List Value) → slice_get w.arrays q ≡ Some old → length old ≡ L.size → (slice_get (slice_set w.arrays r (slice_set row j u)) q ≡ Some old) ⊎ ((q ≡ r) × (slice_get (slice_set w.arrays r (slice_set row j u)) q ≡ Some (slice_set row j u))) → (now : List Value) × (slice_get (slice_set w.arrays r (slice_set row j u)) q ≡ Some now) × (length now ≡ L.size)
      rows q L old h s (inl e) = (old, e, s)
      rows q L old h s (inr e) =
          let same : row ≡ old = some_same (List Value) row old (sym has_row ∙ ap (slice_get w.arrays) (sym e.0) ∙ h) in
          (slice_set row j u, e.1, length_set Value row j u ∙ ap length same ∙ s)

      within_row : (m : ℕ) → m < n → (k : ℕ) (x : Value) → (slice_get row k ≡ Some x) ⊎ ((k ≡ j) × (x ≡ u)) → Inhabits S m W K.kind x
      within_row m lt k x (inl h) = (law.elements S n W w).0 ag.1 m lt r k K row x has_slot has_row h
      within_row m lt k x (inr h) = subst (Inhabits S m W K.kind) (sym h.1) (fit m lt)

      elements : (m : ℕ) → m < n → (q k : ℕ) (L : Slot) (rw : List Value) (x : Value) → slice_get W q ≡ Some L → (slice_get w.arrays q ≡ Some rw) ⊎ ((q ≡ r) × (rw ≡ slice_set row j u)) → slice_get rw k ≡ Some x → Inhabits S m W L.kind x
      elements m lt q k L rw x h (inl i) a = (law.elements S n W w).0 ag.1 m lt q k L rw x h i a
      elements m lt q k L rw x h (inr i) a =
          let same : K ≡ L = some_same Slot K L (sym has_slot ∙ ap (slice_get W) (sym i.0) ∙ h) in
          subst (λ s. Inhabits S m W s.kind x) same (within_row m lt k x (get_set Value row j u k x (subst (λ z. slice_get z k ≡ Some x) i.1 a)))

  module _ (lengths : KnowsLengths S.objects) (by : Variables) (Γ : Context) (x : ℕ) (i : Sum) (e : Refined) (p : Parts) (array : IsArrayAt S by Γ x e p) (demanded : Implied S.assignment (facts S.setting Γ) (known (index_in x i))) where
    pub store_ok : (l : Place) (c d : Core) (t : Refined) → RunsToNumber S by Γ c i → RunsToValue S by Γ d t → ((σ : Givens) → IsKnown S Γ σ → Below S (shut σ by.types t) (shut σ by.types e)) → RunsTo S by Γ (three (store l) (use_of x) c d) unit_type
    store_ok l c d t first second leq n W σ w m ag =
        let f = found law S lengths by Γ x i e p array demanded n W σ w m ag in
        let u = second n W σ m in
        let C = close (pairs σ) c in
        let D = close (pairs σ) d in
        let a = v_array f.reference f.size in
        let k = v_whole (term_value (meaning_of S.objects σ) i) in
        let R = LandsIn S W (shut σ by.types unit_type) in
        let z = with_arrays w (slice_set w.arrays f.reference (slice_set f.row f.place u.0)) in
        runs_in law (in_start (store l) C D) tt n (close (pairs σ) (use_of x)) w (Exactly a w) R (runs_variable n σ x a w f.is) (λ j g v1 z1 le at q.
        let at1 : as_value g ≡ Some a = at ∙ ap Some q.0 in
        subst (λ y. RunsWell j (three (store l) g C D) y R) (sym q.1) (runs_in law (in_middle (store l) g D) (a, at1) j C w (Exactly k w) R (first n W σ m j w) (λ b h v2 z2 le2 is2 q2.
        let at2 : as_value h ≡ Some (v_whole (pos f.place)) = is2 ∙ ap Some q2.0 ∙ ap (λ y. Some (v_whole y)) f.index in
        subst (λ y. RunsWell b (three (store l) g h D) y R) (sym q2.1) (runs_in law (in_end (store l) g h) ((a, at1), (v_whole (pos f.place), at2)) b D w (Exactly u.0 w) R (u.2 b w) (λ o y v3 z3 le3 is3 q3.
        let at3 : as_value y ≡ Some u.0 = is3 ∙ ap Some q3.0 in
        let act : store_act l a (v_whole (pos f.place)) u.0 w ≡ Some (gives v_unit z) = rw (f.has_row, f.has_element) in
        let go : step (three (store l) g h y) w ≡ Some (goes (val v_unit) z) = rw (at1, at2, at3, act) in
        subst (λ s. RunsWell o (three (store l) g h y) s R) (sym q3.1) (runs_step o (three (store l) g h y) (val v_unit) w z R refl go (λ s eq.
        let fit : (m2 : ℕ) → m2 < s → Inhabits S m2 W f.slot.kind u.0 = λ m2 lt2.
        (same_at S W f.slot (shut σ by.types e) (suc n) m2 (omega (numbers, le, le2, le3, eq, lt2)) f.kept W u.0 (extends_self W)).1 (leq σ m.known m2 W u.0 (law.smaller S (suc n) m2 W (shut σ by.types t) u.0 (omega (numbers, le, le2, le3, eq, lt2)) u.1)) in
        runs_value s (val v_unit) z v_unit R refl (W, extends_self W, (tt, tt), stored s W w f.reference f.place f.slot f.row u.0 f.has_slot f.has_row (law.stores S n s W w (omega (numbers, le, le2, le3, eq)) ag) fit))))))))
