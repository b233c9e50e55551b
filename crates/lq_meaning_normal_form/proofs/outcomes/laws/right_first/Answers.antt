use Rattle.std.proofs.Common.{◌≡◌, refl, ℕ, ◌+◌, ◌-◌, List, [], ◌∷◌, ⊎_elim, sym, ap, subst, ◌∙◌, arith}
use Rattle.std.proofs.Math.IntN.{ℤ, pos, negsuc}
use Rattle.std.proofs.lemmas.Bool.{cases_lt}
use Rattle.lq_meaning_steps.specs.Model.Program.{Item, Outcome, outcome}
use Rattle.lq_meaning_steps.specs.Model.Laws.{IsOver, StaysOver}
use Rattle.lq_meaning_steps.specs.Model.Outcomes.{HaveSameOutcomes}
use Rattle.lq_meaning_normal_form.proofs.outcomes.laws.right_first.Goals as goal

-- two outcomes that are over are one
one_outcome : StaysOver → (is : List Item) (input : List ℤ) (n m : ℕ) → IsOver (outcome is input n).ending → IsOver (outcome is input m).ending → outcome is input n ≡ outcome is input m
one_outcome stays is input n m over also =
    ⊎_elim
    (λ lt. let d : m ≡ n + (m - n) = omega (arith, lt) in sym (ap (λ k. outcome is input k) d ∙ stays is input n (m - n) over))
    (λ le. let d : n ≡ m + (n - m) = omega (arith, le) in ap (λ k. outcome is input k) d ∙ stays is input m (n - m) also)
    (cases_lt n m)

-- what the one comes to, the other comes to
same_end : (is js : List Item) → HaveSameOutcomes is js → (input : List ℤ) (n : ℕ) → IsOver (outcome is input n).ending → (m : ℕ) × (outcome js input m ≡ outcome is input n)
same_end is js h input n over = (h.over input (outcome is input n) over).0 (n, refl)

differ : pos 2 ∷ [] ≡ negsuc 1 ∷ [] → ⊥
differ e = cc

pub returns : goal.returns
returns c = λ p q r s h.
    let input : List ℤ = pos 5 ∷ pos 3 ∷ [] in
    let there = same_end _ _ h input 10 tt in
    let same = one_outcome c.over_stays.ensures _ input there.0 12 (subst (λ (o : Outcome). IsOver o.ending) (sym there.1) tt) tt in
    differ (ap (λ (o : Outcome). o.output) (sym there.1 ∙ same))
