-- A new array, and a store into one.
use Rattle.std.proofs.Common.{◌≡◌, ℕ, zero, suc, ◌<◌, ◌≤◌, ℤ, pos, negsuc, true, not, List, [], ◌∷◌, ◌++◌, length, slice_get, Some, ◌⊎◌, inl, inr, refl, sym, ap, ◌∙◌, subst, arith as numbers}
use Rattle.std.proofs.lemmas.Bool.Decides.{Decides-int_eq}
use Rattle.std.specs.Int.Signed.{lt_z}
use Rattle.lq_base_names.specs.declared.operation.CompareOp.TheVariants.{Eq, Le}
use Rattle.lq_base_names.specs.declared.place.Place.{Place}
use Rattle.lq_logic_predicates.specs.declared.symbol.Symbol.TheVariants as symbol
use Rattle.lq_logic_predicates.specs.Formula.{compare}
use Rattle.lq_logic_predicates.specs.Sum.{Sum, len, same_symbol}
use Rattle.lq_logic_predicates.specs.Truth.{term_value}
use Rattle.lq_refined_types.specs.Parts.Assignment.{Implied}
use Rattle.lq_refined_types.specs.Parts.Part.{known}
use Rattle.lq_refined_types.specs.Types.Context.{Context}
use Rattle.lq_refined_types.specs.Types.Refined.{Refined, array_with}
use Rattle.lq_refined_types.specs.Subtyping.Subtype.{facts}
use Rattle.lq_refined_rules.specs.Checks.Operation.{value}
use Rattle.lq_refined_rules.specs.Checks.Pure.{literal}
use Rattle.lq_meaning_steps.specs.Model.Core.{Core, val, two, make, Value, v_whole, v_array, close, as_value}
use Rattle.lq_meaning_steps.specs.Model.Operations.{World, copies}
use Rattle.lq_meaning_steps.specs.Model.Step.{goes, in_left, in_right}
use Rattle.lq_meaning_steps.specs.Model.StepFunction.{step}
use Rattle.lq_sound_values.specs.Inhabitants.Truth.{Givens, given, meaning_of, Scene}
use Rattle.lq_sound_values.specs.Inhabitants.Shut.{shut, Shut, Shuts}
use Rattle.lq_sound_values.specs.Inhabitants.Inhabits.{Slot, Table, Extends, Inhabits, Agrees}
use Rattle.lq_sound_values.specs.Inhabitants.Runs.{RunsWell, LandsIn}
use Rattle.lq_sound_values.specs.Inhabitants.Below.{Below}
use Rattle.lq_sound_values.proofs.InhabitantsLemmas.Running.{runs_value, runs_step}
use Rattle.lq_sound_values.proofs.InhabitantsLemmas.Numbers.{same_make}
use Rattle.lq_sound_values.specs.Inclusion.Apart.{IsKnown}
use Rattle.lq_sound_values.specs.Inclusion.Symbols.{other_than, SumOn}
use Rattle.lq_sound_values.proofs.InclusionLemmas.Truths.{implied_true, value_same, same_agree, agree_back, agree_other, false_not}
use Rattle.lq_sound_values.specs.Runs.Closed.{names_in, IsClosed}
use Rattle.lq_sound_values.specs.Runs.Meets.{pairs, Variables}
use Rattle.lq_sound_values.specs.Runs.Runs.{Exactly, RunsTo, RunsToNumber, RunsToValue}
use Rattle.lq_sound_values.proofs.RunsLemmas.Closing.{sum_more, value_apart}
use Rattle.lq_sound_values.proofs.RunsLemmas.Framing.{runs_in}
use Rattle.lq_sound_values.proofs.RunsLemmas.Lower.{Lower}
use Rattle.lq_sound_forms.specs.Pures.Pures.{KnowsLengths}
use Rattle.lq_sound_forms.proofs.ArraysLemmas.Fetching.{predicates}
use Rattle.lq_sound_forms.proofs.ArraysLemmas.Lists.{get_first, get_last, get_either, length_more, length_copies, get_copies}

not_negative : (n : ℤ) → not (lt_z n (pos 0)) ≡ true → (k : ℕ) × (n ≡ pos k)
not_negative (pos k) h = (k, refl)
not_negative (negsuc k) h = absurd (cc)

abbrev slot_of : ℕ → Shut → Slot
slot_of n E = record { size = n; kind = E }

module _ (law : Lower) (S : Scene) where
  -- the table with a slot more, and the store with an array more
  grown : (n : ℕ) (W : Table) (w : World) (k : ℕ) (E : Shut) (v : Value) → Agrees S n W w → ((m : ℕ) → m < n → Inhabits S m W E v) → Agrees S n (W ++ slot_of k E ∷ []) (record w { arrays = w.arrays ++ copies k v ∷ [] })
  grown n W w k E v ag fit =
      let V = W ++ slot_of k E ∷ [] in
      let u : World = record w { arrays = w.arrays ++ copies k v ∷ [] } in
      let wide : Extends W V = (slot_of k E ∷ [], refl) in (
        (length_more Slot W (slot_of k E) ∙ ap suc ag.0.0 ∙ sym (length_more (List Value) w.arrays (copies k v)), λ r K h. rows r K (get_either Slot W (slot_of k E) r K h)),
        (law.elements S n V u).1 (λ m lt r j K row x h i a.
            elements m lt r j K row x (get_either Slot W (slot_of k E) r K h) (get_either (List Value) w.arrays (copies k v) r row i) a wide),
      )
    where
      rows : (r : ℕ) (K : Slot) → (slice_get W r ≡ Some K) ⊎ ((r ≡ length W) × (K ≡ slot_of k E)) → (row : List Value) × (slice_get (w.arrays ++ copies k v ∷ []) r ≡ Some row) × (length row ≡ K.size)
      rows r K (inl h) = let z = ag.0.1 r K h in (z.0, get_first (List Value) w.arrays (copies k v ∷ []) r z.0 z.1, z.2)
      rows r K (inr h) =
          (copies k v, ap (slice_get (w.arrays ++ copies k v ∷ [])) (h.0 ∙ ag.0.0) ∙ get_last (List Value) w.arrays (copies k v), length_copies k v ∙ ap (λ s. s.size) (sym h.1))

      within_old : (r : ℕ) (K : Slot) → slice_get W r ≡ Some K → r ≡ length w.arrays → ⊥
      within_old r K h e = no_more W r K h (e ∙ sym ag.0.0)
        where
          no_more : (U : Table) (r : ℕ) (K : Slot) → slice_get U r ≡ Some K → r ≡ length U → ⊥
          no_more [] r K h e = absurd (cc)
          no_more (s ∷ U) zero K h e = absurd (omega (numbers, e))
          no_more (s ∷ U) (suc r) K h e = no_more U r K h (omega (numbers, e))

      old_row : (r : ℕ) (row : List Value) → slice_get w.arrays r ≡ Some row → r ≡ length W → ⊥
      old_row r row h e = no_more w.arrays r row h (e ∙ ag.0.0)
        where
          no_more : (U : List (List Value)) (r : ℕ) (K : List Value) → slice_get U r ≡ Some K → r ≡ length U → ⊥
          no_more [] r K h e = absurd (cc)
          no_more (s ∷ U) zero K h e = absurd (omega (numbers, e))
          no_more (s ∷ U) (suc r) K h e = no_more U r K h (omega (numbers, e))

      elements : (m : ℕ) → m < n → (r j : ℕ) (K : Slot) (row : List Value) (x : Value) → (slice_get W r ≡ Some K) ⊎ ((r ≡ length W) × (K ≡ slot_of k E)) → (slice_get w.arrays r ≡ Some row) ⊎ ((r ≡ length w.arrays) × (row ≡ copies k v)) → slice_get row j ≡ Some x → Extends W (W ++ slot_of k E ∷ []) → Inhabits S m (W ++ slot_of k E ∷ []) K.kind x
      elements m lt r j K row x (inl h) (inl i) a wide =
          law.extended S m W (W ++ slot_of k E ∷ []) K.kind x wide ((law.elements S n W w).0 ag.1 m lt r j K row x h i a)
      elements m lt r j K row x (inl h) (inr i) a wide = absurd (within_old r K h i.0)
      elements m lt r j K row x (inr h) (inl i) a wide = absurd (old_row r row i h.0)
      elements m lt r j K row x (inr h) (inr i) a wide =
          let same : x ≡ v = get_copies k v j x (subst (λ z. slice_get z j ≡ Some x) i.1 a) in
          subst (λ s. Inhabits S m (W ++ slot_of k E ∷ []) s.kind x) (sym h.1) (subst (Inhabits S m (W ++ slot_of k E ∷ []) E) (sym same) (law.extended S m W (W ++ slot_of k E ∷ []) E v wide (fit m lt)))

  pub make_ok : KnowsLengths S.objects → (by : Variables) (Γ : Context) (l : Place) (c d : Core) (z : Sum) (t e : Refined) → IsClosed S Γ → SumOn (names_in Γ) z → RunsToNumber S by Γ c z → RunsToValue S by Γ d t → ((σ : Givens) → IsKnown S Γ σ → Below S (shut σ by.types t) (shut σ by.types e)) → Implied S.assignment (facts S.setting Γ) (known (compare Le (literal 0) z)) → RunsTo S by Γ (two (make l) c d) (array_with e (known (compare Eq (len value) z) ∷ []))
  make_ok lengths by Γ l c d z t e closed over first second leq demanded n W σ w m ag =
      let k = term_value (meaning_of S.objects σ) z in
      let b = not_negative k (implied_true (predicates law) S σ (facts S.setting Γ) (known (compare Le (literal 0) z)) demanded m.known.true_facts).0 in
      let a = second n W σ m in
      let D = close (pairs σ) d in
      let R = LandsIn S W (shut σ by.types (array_with e (known (compare Eq (len value) z) ∷ []))) in
      let r = length w.arrays in
      let u : World = record w { arrays = w.arrays ++ copies b.0 a.0 ∷ [] } in
      let V = W ++ slot_of b.0 (shut σ by.types e) ∷ [] in
      runs_in law (in_left (make l) D) tt n (close (pairs σ) c) w (Exactly (v_whole k) w) R (first n W σ m n w) (λ j g x y le at q.
      let at1 : as_value g ≡ Some (v_whole (pos b.0)) = at ∙ ap Some q.0 ∙ ap (λ s. Some (v_whole s)) b.1 in
      subst (λ s. RunsWell j (two (make l) g D) s R) (sym q.1) (runs_in law (in_right (make l) g) (v_whole (pos b.0), at1) j D w (Exactly a.0 w) R (a.2 j w) (λ i h x2 y2 le2 is2 q2.
      let at2 : as_value h ≡ Some a.0 = is2 ∙ ap Some q2.0 in
      let go : step (two (make l) g h) w ≡ Some (goes (val (v_array r b.0)) u) = rw (at1, at2) in
      subst (λ s. RunsWell i (two (make l) g h) s R) (sym q2.1) (runs_step i (two (make l) g h) (val (v_array r b.0)) w u R refl go (λ f eq.
      let fit : (p : ℕ) → p ≤ n → Inhabits S p W (shut σ by.types e) a.0 = λ p lp. leq σ m.known p W a.0 (law.smaller S (suc n) p W (shut σ by.types t) a.0 (omega (numbers, lp)) a.1) in
      runs_value f (val (v_array r b.0)) u (v_array r b.0) R refl (V, (slot_of b.0 (shut σ by.types e) ∷ [], refl), made f σ by.types W w r b.0 e z k closed over lengths ag.0.0 b.1 refl, grown f W w b.0 (shut σ by.types e) a.0 (law.stores S n f W w (omega (numbers, le, le2, eq)) ag) (λ p lp. fit p (omega (numbers, le, le2, eq, lp)))))))))
    where
      -- the new array inhabits the type
      made : (f : ℕ) (σ : Givens) (by : Shuts) (W : Table) (w : World) (r q : ℕ) (e : Refined) (z : Sum) (k : ℤ) → IsClosed S Γ → SumOn (names_in Γ) z → KnowsLengths S.objects → length W ≡ length w.arrays → k ≡ pos q → k ≡ term_value (meaning_of S.objects σ) z → Inhabits S f (W ++ slot_of q (shut σ by e) ∷ []) (shut σ by (array_with e (known (compare Eq (len value) z) ∷ []))) (v_array (length w.arrays) q)
      made f σ by W w r q e z k closed over lengths same is this =
          let v = v_array (length w.arrays) q in
          let still : term_value (meaning_of S.objects (given symbol.Value v ∷ σ)) z ≡ term_value (meaning_of S.objects σ) z = value_same (other_than symbol.Value) (meaning_of S.objects (given symbol.Value v ∷ σ)) (meaning_of S.objects σ) (same_agree S.objects (other_than symbol.Value) (given symbol.Value v ∷ σ) σ (agree_back (other_than symbol.Value) σ (given symbol.Value v ∷ σ) (agree_other σ symbol.Value v))) z (sum_more (names_in Γ) (other_than symbol.Value) (λ y h. false_not (same_symbol symbol.Value y) (value_apart S Γ closed y h)) z over) in (
            (slot_of q (shut σ by e), ap (slice_get (W ++ slot_of q (shut σ by e) ∷ [])) (sym same) ∙ get_last Slot W (slot_of q (shut σ by e)), refl, same_make S (W ++ slot_of q (shut σ by e) ∷ []) (slot_of q (shut σ by e)) (shut σ by e) f (λ p lp U u x. (λ h. h, λ h. h))),
            (((Decides-int_eq (S.objects.length (S.objects.number_of v)) (term_value (meaning_of S.objects (given symbol.Value v ∷ σ)) z)).1 (lengths (length w.arrays) q ∙ sym is ∙ this ∙ sym still), tt), tt),
          )
