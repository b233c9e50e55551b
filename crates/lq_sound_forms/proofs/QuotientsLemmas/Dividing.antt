-- Quotients and remainders run to values of their types.
use Rattle.std.proofs.Common.{◌≡◌, ℕ, suc, Bool, true, false, [], ◌∷◌, Some, refl, sym, ap, ap₂, ◌∙◌, subst, arith as numbers, int_div, int_rem, if◌then◌else◌}
use Rattle.std.proofs.Math.IntN.{ℤ, pos, ◌*ℤ◌}
use Rattle.std.specs.Ordering.{int_eq}
use Rattle.std.proofs.lemmas.Bool.Decides.{Decides-int_eq}
use Rattle.lq_base_names.specs.declared.operation.CompareOp.TheVariants.{Eq, Ne}
use Rattle.lq_base_names.specs.declared.place.Place.{Place}
use Rattle.lq_logic_predicates.specs.declared.symbol.Symbol.TheVariants as symbol
use Rattle.lq_logic_predicates.specs.Formula.{compare}
use Rattle.lq_logic_predicates.specs.Sum as s
use Rattle.lq_logic_predicates.specs.Sum.{Sum, same_symbol}
use Rattle.lq_logic_predicates.specs.Truth as truths
use Rattle.lq_logic_predicates.specs.Truth.{Meaning, term_value, truth_of}
use Rattle.lq_refined_types.specs.Parts.Assignment.{Implied}
use Rattle.lq_refined_types.specs.Parts.Part.{Parts, known}
use Rattle.lq_refined_types.specs.Types.Context.{Context}
use Rattle.lq_refined_types.specs.Types.Refined.{int_with}
use Rattle.lq_refined_types.specs.Subtyping.Subtype.{facts}
use Rattle.lq_refined_rules.specs.Checks.Operation.{value, quotient_facts, remainder_fact}
use Rattle.lq_refined_rules.specs.Checks.Pure.{literal}
use Rattle.lq_meaning_steps.specs.Model.Core.{Core, val, two, Binary, arithmetic, quotient, remainder, Value, v_whole, close, as_value}
use Rattle.lq_meaning_steps.specs.Model.Operations.{World, gives, faults, binary_act}
use Rattle.lq_meaning_steps.specs.declared.model.fault.FaultKind.TheVariants.{ZeroDivisor}
use Rattle.lq_meaning_steps.specs.Model.Step.{goes, in_left, in_right}
use Rattle.lq_meaning_steps.specs.Model.StepFunction.{step}
use Rattle.lq_sound_values.specs.Inhabitants.Truth.{Givens, given, meaning_of, Scene, AreTrue}
use Rattle.lq_sound_values.specs.Inhabitants.Shut.{shut}
use Rattle.lq_sound_values.specs.Inhabitants.Inhabits.{Table}
use Rattle.lq_sound_values.specs.Inhabitants.Runs.{RunsWell, LandsIn}
use Rattle.lq_sound_values.proofs.InhabitantsLemmas.Running.{runs_value, runs_step}
use Rattle.lq_sound_values.specs.Inclusion.Symbols.{other_than, SumOn}
use Rattle.lq_sound_values.proofs.InclusionLemmas.Truths as below
use Rattle.lq_sound_values.proofs.InclusionLemmas.Truths.{implied_true, value_same, same_agree, agree_back, agree_other, not_false, false_not}
use Rattle.lq_sound_values.specs.Runs.Closed.{names_in, IsClosed}
use Rattle.lq_sound_values.specs.Runs.Meets.{pairs, Variables, Meets}
use Rattle.lq_sound_values.specs.Runs.Runs.{Exactly, RunsTo, RunsToNumber}
use Rattle.lq_sound_values.proofs.RunsLemmas.Closing.{sum_more, value_apart}
use Rattle.lq_sound_values.proofs.RunsLemmas.Framing.{runs_in}
use Rattle.lq_sound_values.proofs.RunsLemmas.Lower.{Lower}
use Rattle.lq_sound_values.proofs.RunsLemmas.Meeting.{extends_self}
use Rattle.lq_sound_forms.proofs.QuotientsLemmas.Bounds.{quotient_bound, remainder_bound}

abbrev predicates : Lower → below.Lower
predicates law = record { valid = law.valid; truth-by = law.truth-by; under-by = law.under-by }

int_same : (n m : ℤ) → n ≡ m → int_eq n m ≡ true
int_same n m e = (Decides-int_eq n m).1 e

-- with a divisor that isn't 0
by_test : (b : Bool) (x : ℤ) → b ≡ false → (if b then pos 0 else x) ≡ x
by_test false x e = refl
by_test true x e = absurd (cc)

module _ (law : Lower) (S : Scene) (by : Variables) (Γ : Context) (c d : Core) (x y : Sum) (closed : IsClosed S Γ) (left_on : SumOn (names_in Γ) x) (right_on : SumOn (names_in Γ) y) (left : RunsToNumber S by Γ c x) (right : RunsToNumber S by Γ d y) (demanded : Implied S.assignment (facts S.setting Γ) (known (compare Ne y (literal 0)))) where
  -- the value of a term of the environment's names doesn't depend on v
  still : (σ : Givens) (v : Value) (t : Sum) → SumOn (names_in Γ) t → term_value (meaning_of S.objects (given symbol.Value v ∷ σ)) t ≡ term_value (meaning_of S.objects σ) t
  still σ v t o =
      value_same (other_than symbol.Value) (meaning_of S.objects (given symbol.Value v ∷ σ)) (meaning_of S.objects σ) (same_agree S.objects (other_than symbol.Value) (given symbol.Value v ∷ σ) σ (agree_back (other_than symbol.Value) σ (given symbol.Value v ∷ σ) (agree_other σ symbol.Value v))) t (sum_more (names_in Γ) (other_than symbol.Value) (λ z h. false_not (same_symbol symbol.Value z) (value_apart S Γ closed z h)) t o)

  not_zero_at : (n : ℕ) (W : Table) (σ : Givens) → Meets S by n W Γ σ → int_eq (term_value (meaning_of S.objects σ) y) (pos 0) ≡ false
  not_zero_at n W σ m =
      not_false (int_eq (term_value (meaning_of S.objects σ) y) (pos 0)) (implied_true (predicates law) S σ (facts S.setting Γ) (known (compare Ne y (literal 0))) demanded m.known.true_facts).0

  -- an operation that gives this number, of a type that has it
  number_at : (o : Binary) (t : Parts) (k : Givens → ℤ) → ((n : ℕ) (W : Table) (σ : Givens) → Meets S by n W Γ σ → (w : World) → binary_act o (v_whole (term_value (meaning_of S.objects σ) x)) (v_whole (term_value (meaning_of S.objects σ) y)) w ≡ Some (gives (v_whole (k σ)) w)) → ((n : ℕ) (W : Table) (σ : Givens) → Meets S by n W Γ σ → AreTrue S (given symbol.Value (v_whole (k σ)) ∷ σ) t) → RunsTo S by Γ (two o c d) (int_with t)
  number_at o t k acts true_at n W σ w m ag =
      let D = close (pairs σ) d in
      let a = v_whole (term_value (meaning_of S.objects σ) x) in
      let b = v_whole (term_value (meaning_of S.objects σ) y) in
      let R = LandsIn S W (shut σ by.types (int_with t)) in
      runs_in law (in_left o D) tt n (close (pairs σ) c) w (Exactly a w) R (left n W σ m n w) (λ j e u z le is q.
      let at : as_value e ≡ Some a = is ∙ ap Some q.0 in
      subst (λ r. RunsWell j (two o e D) r R) (sym q.1) (runs_in law (in_right o e) (a, at) j D w (Exactly b w) R (right n W σ m j w) (λ i f u2 z2 le2 is2 q2.
      let at2 : as_value f ≡ Some b = is2 ∙ ap Some q2.0 in
      let go : step (two o e f) w ≡ Some (goes (val (v_whole (k σ))) w) = rw (at, at2, acts (suc n) W σ m w) in
      subst (λ r. RunsWell i (two o e f) r R) (sym q2.1) (runs_step i (two o e f) (val (v_whole (k σ))) w w R refl go (λ g eq.
      runs_value g (val (v_whole (k σ))) w (v_whole (k σ)) R refl (W, extends_self W, (tt, (true_at (suc n) W σ m, tt)), law.stores S n g W w (omega (numbers, le, le2, eq)) ag))))))

  -- what the rules say of the quotient
  facts_true : (z : Sum) (σ : Givens) (q : ℤ) → z ≡ y → q ≡ int_div (term_value (meaning_of S.objects σ) x) (term_value (meaning_of S.objects σ) y) → AreTrue S (given symbol.Value (v_whole q) ∷ σ) (quotient_facts x z)
  facts_true (s.whole (pos (suc k))) σ q same is =
      let m = meaning_of S.objects (given symbol.Value (v_whole q) ∷ σ) in
      let n : pos (suc k) ≡ term_value (meaning_of S.objects σ) y = ap (term_value (meaning_of S.objects σ)) same in
      let a : term_value m x ≡ term_value (meaning_of S.objects σ) x = still σ (v_whole q) x left_on in
      (quotient_bound (term_value m x) k (pos (suc k) *ℤ q) q refl (is ∙ ap₂ int_div (sym a) (sym n)), tt)
  facts_true _ σ q same is = tt

  pub quotient_ok : (l : Place) → RunsTo S by Γ (two (arithmetic (quotient l)) c d) (int_with (known (compare Eq value (s.div x y)) ∷ quotient_facts x y))
  quotient_ok l =
      number_at (arithmetic (quotient l)) (known (compare Eq value (s.div x y)) ∷ quotient_facts x y) (λ σ. int_div (term_value (meaning_of S.objects σ) x) (term_value (meaning_of S.objects σ) y)) (λ n W σ m w. acts (int_eq (term_value (meaning_of S.objects σ) y) (pos 0)) (not_zero_at n W σ m) σ w) (λ n W σ m.
      let q = int_div (term_value (meaning_of S.objects σ) x) (term_value (meaning_of S.objects σ) y) in
      (equal_at n W σ m q refl, facts_true y σ q refl refl))
    where
      acts : (b : Bool) → b ≡ false → (σ : Givens) (w : World) → Some (if b then faults ZeroDivisor l else gives (v_whole (int_div (term_value (meaning_of S.objects σ) x) (term_value (meaning_of S.objects σ) y))) w) ≡ Some (gives (v_whole (int_div (term_value (meaning_of S.objects σ) x) (term_value (meaning_of S.objects σ) y))) w)
      acts false e σ w = refl
      acts true e σ w = absurd (cc)

      equal_at : (n : ℕ) (W : Table) (σ : Givens) → Meets S by n W Γ σ → (q : ℤ) → q ≡ int_div (term_value (meaning_of S.objects σ) x) (term_value (meaning_of S.objects σ) y) → int_eq q (term_value (meaning_of S.objects (given symbol.Value (v_whole q) ∷ σ)) (s.div x y)) ≡ true
      equal_at n W σ m q is =
          let v = v_whole q in
          int_same q (term_value (meaning_of S.objects (given symbol.Value v ∷ σ)) (s.div x y)) (is ∙ sym (ap₂ truths.quotient (still σ v x left_on) (still σ v y right_on) ∙ by_test (int_eq (term_value (meaning_of S.objects σ) y) (pos 0)) (int_div (term_value (meaning_of S.objects σ) x) (term_value (meaning_of S.objects σ) y)) (not_zero_at n W σ m)))

  pub remainder_ok : (l : Place) → RunsTo S by Γ (two (arithmetic (remainder l)) c d) (int_with (known (compare Eq value (s.rem x y)) ∷ known (remainder_fact x y) ∷ []))
  remainder_ok l =
      number_at (arithmetic (remainder l)) (known (compare Eq value (s.rem x y)) ∷ known (remainder_fact x y) ∷ []) (λ σ. int_rem (term_value (meaning_of S.objects σ) x) (term_value (meaning_of S.objects σ) y)) (λ n W σ m w. acts (int_eq (term_value (meaning_of S.objects σ) y) (pos 0)) (not_zero_at n W σ m) σ w) (λ n W σ m.
      let r = int_rem (term_value (meaning_of S.objects σ) x) (term_value (meaning_of S.objects σ) y) in
      (equal_at n W σ m r refl, (bound_at n W σ m r refl, tt)))
    where
      acts : (b : Bool) → b ≡ false → (σ : Givens) (w : World) → Some (if b then faults ZeroDivisor l else gives (v_whole (int_rem (term_value (meaning_of S.objects σ) x) (term_value (meaning_of S.objects σ) y))) w) ≡ Some (gives (v_whole (int_rem (term_value (meaning_of S.objects σ) x) (term_value (meaning_of S.objects σ) y))) w)
      acts false e σ w = refl
      acts true e σ w = absurd (cc)

      equal_at : (n : ℕ) (W : Table) (σ : Givens) → Meets S by n W Γ σ → (r : ℤ) → r ≡ int_rem (term_value (meaning_of S.objects σ) x) (term_value (meaning_of S.objects σ) y) → int_eq r (term_value (meaning_of S.objects (given symbol.Value (v_whole r) ∷ σ)) (s.rem x y)) ≡ true
      equal_at n W σ m r is =
          let v = v_whole r in
          int_same r (term_value (meaning_of S.objects (given symbol.Value v ∷ σ)) (s.rem x y)) (is ∙ sym (ap₂ truths.remainder (still σ v x left_on) (still σ v y right_on) ∙ by_test (int_eq (term_value (meaning_of S.objects σ) y) (pos 0)) (int_rem (term_value (meaning_of S.objects σ) x) (term_value (meaning_of S.objects σ) y)) (not_zero_at n W σ m)))

      bound_at : (n : ℕ) (W : Table) (σ : Givens) → Meets S by n W Γ σ → (r : ℤ) → r ≡ int_rem (term_value (meaning_of S.objects σ) x) (term_value (meaning_of S.objects σ) y) → truth_of (meaning_of S.objects (given symbol.Value (v_whole r) ∷ σ)) (remainder_fact x y) ≡ true
      bound_at n W σ m r is =
          let v = v_whole r in
          let a : term_value (meaning_of S.objects (given symbol.Value v ∷ σ)) x ≡ term_value (meaning_of S.objects σ) x = still σ v x left_on in
          let b : term_value (meaning_of S.objects (given symbol.Value v ∷ σ)) y ≡ term_value (meaning_of S.objects σ) y = still σ v y right_on in
          remainder_bound (term_value (meaning_of S.objects (given symbol.Value v ∷ σ)) x) (term_value (meaning_of S.objects (given symbol.Value v ∷ σ)) y) r (ap (λ z. int_eq z (pos 0)) b ∙ not_zero_at n W σ m) (is ∙ ap₂ int_rem (sym a) (sym b))
