-- Programs that mean the same have the same outcomes.
use Rattle.std.proofs.Common.{◌≡◌, ℕ, zero, suc, ◌+◌, ◌-◌, ◌≤◌, ℤ, List, [], ◌++◌, ◌⊎◌, inl, inr, ⊎_elim, refl, sym, ap, subst, ◌∙◌, arith, append-nil, append_assoc, add-zero}
use Rattle.lq_base_names.specs.declared.place.Place.{Place}
use Rattle.lq_meaning_steps.specs.declared.model.fault.FaultKind.{FaultKind}
use Rattle.lq_meaning_steps.specs.Model.Program.{Item, started, outcome_from, Ending, running, finished, input_ended, fault, stuck, Outcome, outcome, IsCalm, IsNeverStuck}
use Rattle.lq_meaning_steps.specs.Model.Laws.{IsOver, StaysOver, OutputGrows, OutputPasses}
use Rattle.lq_meaning_steps.specs.Model.Meaning.{program_meaning}
use Rattle.lq_meaning_steps.proofs.ModelLemmas.Runs.{stays_over, output_grows, output_passes}
use Rattle.lq_meaning_steps.proofs.ModelLemmas.Programs.{adequate_of_programs, complete_of_programs}
use Rattle.lq_meaning_steps.specs.Model.Outcomes.{ComesTo, Outputs, IsEndless, MeanTheSame, SameMeaningSameOutcomes, NeverStuckByMeaning, SafeWithoutFaults}

-- ---- the laws of runs

over_stays : StaysOver
over_stays is input n m h = stays_over n m (started is input) h

grows : OutputGrows
grows is input n =
    let g = output_grows n (started is input) in
    let one : n + 1 ≡ suc n = omega arith in
    (g.more, g.few, ap (λ k. (outcome_from k (started is input)).output) one ∙ g.is)

passes : OutputPasses
passes is input n o more h = output_passes (started is input) refl n o more h

le_or : (a b : ℕ) → (a ≤ b) ⊎ (b ≤ a)
le_or zero b = inl (omega arith)
le_or (suc a) zero = inr (omega arith)
le_or (suc a) (suc b) = ⊎_elim (λ h. inl (omega (arith, h))) (λ h. inr (omega (arith, h))) (le_or a b)

-- the meanings are equal, at each bound
abbrev AreSame : List Item → List Item → List ℤ → Type 0
AreSame is js input = (n : ℕ) → program_meaning n is input ≡ program_meaning n js input

over_to : (is js : List Item) (input : List ℤ) (o : Outcome) → AreSame is js input → IsOver o.ending → ComesTo is input o → ComesTo js input o
over_to is js input o same h c =
    let m = adequate_of_programs js input c.0 in
    (m.0, m.1 ∙ sym (same c.0) ∙ complete_of_programs is input c.0 (subst (λ x. IsOver x.ending) (sym c.1) h) ∙ c.1)

-- later outputs begin with earlier ones
later_output : (k : ℕ) (is : List Item) (input : List ℤ) (n : ℕ) → (more : List ℤ) × ((outcome is input (n + k)).output ≡ (outcome is input n).output ++ more)
later_output zero is input n = ([], ap (λ x. (outcome is input x).output) (add-zero n) ∙ sym (append-nil (outcome is input n).output))
later_output (suc k) is input n =
    let a = later_output k is input n in
    let b = grows is input (n + k) in (
      a.0 ++ b.0,
      ap (λ x. (outcome is input x).output) (add_more n k) ∙ b.2 ∙ ap (λ l. l ++ b.0) a.1 ∙ append_assoc (outcome is input n).output a.0 b.0,
    )
  where
    add_more : (n k : ℕ) → n + suc k ≡ (n + k) + 1
    add_more n k = omega arith

-- an output from which the output of a meaning begins is reached
begun : (js : List Item) (input : List ℤ) (n : ℕ) (o more : List ℤ) → (program_meaning n js input).output ≡ o ++ more → Outputs js input o
begun js input n o more h =
    let m = adequate_of_programs js input n in
    let k = passes js input m.0 o more (ap (λ x. x.output) m.1 ∙ h) in
    (k.0, k.2)

outputs_to : (is js : List Item) (input o : List ℤ) → AreSame is js input → Outputs is input o → Outputs js input o
outputs_to is js input o same c =
    let m = adequate_of_programs is input c.0 in
    by m.0 m.1 m.2
  where
    reached : (m : ℕ) → outcome is input m ≡ program_meaning c.0 is input → c.0 ≤ m → Outputs js input o
    reached m e le =
        let a = later_output (m - c.0) is input c.0 in
        let sum : c.0 + (m - c.0) ≡ m = omega (arith, le) in
        begun js input c.0 o a.0
        (ap (λ x. x.output) (sym (same c.0) ∙ sym e) ∙ ap (λ x. (outcome is input x).output) (sym sum) ∙ a.1 ∙ ap (λ l. l ++ a.0) c.1)

    earlier : (m : ℕ) → outcome is input m ≡ program_meaning c.0 is input → IsOver (program_meaning c.0 is input).ending → m ≤ c.0 → Outputs js input o
    earlier m e h le =
        let sum : m + (c.0 - m) ≡ c.0 = omega (arith, le) in
        let stays = over_stays is input m (c.0 - m) (subst (λ x. IsOver x.ending) (sym e) h) in
        begun js input c.0 o []
        (ap (λ x. x.output) (sym (same c.0) ∙ sym e ∙ sym stays) ∙ ap (λ x. (outcome is input x).output) sum ∙ c.1 ∙ sym (append-nil o))

    by : (m : ℕ) → outcome is input m ≡ program_meaning c.0 is input → IsOver (program_meaning c.0 is input).ending ⊎ (c.0 ≤ m) → Outputs js input o
    by m e w = ⊎_elim (λ h. ⊎_elim (λ le. reached m e le) (λ le. earlier m e h le) (le_or c.0 m)) (λ le. reached m e le) w

running_or : (e : Ending) → (e ≡ running) ⊎ IsOver e
running_or running = inl refl
running_or finished = inr tt
running_or (input_ended p) = inr tt
running_or (fault k p) = inr tt
running_or stuck = inr tt

not_over : (e : Ending) → e ≡ running → IsOver e → ⊥
not_over e h k = subst IsOver h k

endless_to : (is js : List Item) (input : List ℤ) → AreSame is js input → AreSame js is input → IsEndless is input → IsEndless js input
endless_to is js input same back h n =
    ⊎_elim (λ e. e)
    (λ over.
    let c = over_to js is input (outcome js input n) back over (n, refl) in
    absurd (not_over (outcome is input c.0).ending (h c.0) (subst (λ x. IsOver x.ending) (sym c.1) over)))
    (running_or (outcome js input n).ending)

are_same : (is js : List Item) → MeanTheSame is js → IsNeverStuck is → (input : List ℤ) → AreSame is js input
are_same is js means never input n =
    ⊎_elim (λ h. let m = adequate_of_programs is input n in absurd (never input m.0 (ap (λ x. x.ending) m.1 ∙ h))) (λ e. e) (means n input)

pub same_outcomes : SameMeaningSameOutcomes
same_outcomes is js means never =
    let same = are_same is js means never in
    record {
      over = λ input o h. (over_to is js input o (same input) h, over_to js is input o (λ n. sym (same input n)) h);
      endless = λ input. (endless_to is js input (same input) (λ n. sym (same input n)), endless_to js is input (λ n. sym (same input n)) (same input));
      outputs = λ input o. (outputs_to is js input o (same input), outputs_to js is input o (λ n. sym (same input n)));
    }

pub never_stuck_by_meaning : NeverStuckByMeaning
never_stuck_by_meaning is = (
  λ never input n h. let m = adequate_of_programs is input n in never input m.0 (ap (λ x. x.ending) m.1 ∙ h),
  λ never input n h.
      never input n (ap (λ x. x.ending) (complete_of_programs is input n (subst IsOver (sym h) tt)) ∙ h),
)

calm_or : (e : Ending) → (e ≡ stuck → ⊥) → ((k : FaultKind) (p : Place) → e ≡ fault k p → ⊥) → IsCalm e
calm_or running h k = tt
calm_or finished h k = tt
calm_or (input_ended p) h k = tt
calm_or (fault f p) h k = k f p refl
calm_or stuck h k = h refl

pub safe_without_faults : SafeWithoutFaults
safe_without_faults is never = (
  λ safe input n k p h. subst IsCalm h (safe input n),
  λ none input n. calm_or (outcome is input n).ending (never input n) (none input n),
)
