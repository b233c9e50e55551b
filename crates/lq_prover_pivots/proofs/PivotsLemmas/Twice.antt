-- No configuration comes twice: the greatest variable that leaves in a cycle, where it leaves and where it enters next.
use Rattle.std.proofs.Common.{◌≡◌, ℕ, zero, suc, ◌+◌, ◌-◌, ◌<◌, ◌≤◌, ◌⊎◌, inl, inr, arith, refl, sym, ap, subst, ◌∙◌, Bool, true, false, List}
use Rattle.std.proofs.lemmas.Bool.{cases_eq, cases_lt}
use Rattle.lq_base_numbers.specs.Rationals.Rational.{ℚ, ◌*ℚ◌}
use Rattle.lq_prover_pivots.specs.Pivots.Ranges.{only_if, combine}
use Rattle.lq_logic_rows.specs.Row.{Row}
use Rattle.lq_logic_rows.specs.declared.bound.Side.{Side}
use Rattle.lq_logic_rows.specs.Bounds.{other, Within, Beyond}
use Rattle.lq_prover_pivots.specs.Pivots.Rows.{Variables, size, Gives}
use Rattle.lq_prover_pivots.specs.Pivots.Configurations.{Configuration, Free, Same}
use Rattle.lq_prover_pivots.specs.Pivots.Pivots.{moves_to, Pivot, IsChain}
use Rattle.lq_prover_pivots.specs.Pivots.Laws.{NoneTwice}
use Rattle.lq_prover_pivots.proofs.PivotsLemmas.Sharing.{free_or_basic, shared}
use Rattle.lq_prover_pivots.proofs.PivotsLemmas.Signs.{within_same, within_from_not, within_stable, within_other, within_sum, clash, other_side, blocked, nothing_moves}
use Rattle.lq_prover_pivots.proofs.PivotsLemmas.Steps.{not_both, leaving_is, entering_is, keeps_value, none_below, LeavesAt, EntersAt, EntersIn, enters_or_stays, NeverLeaves, was_free, Greatest, greatest}

-- a step at which the variable leaves, and the bound that it takes there, which is this value
record Taken (vs : Variables) (standing : List Row) (chain : ℕ → Configuration) (a b k : ℕ) (x : ℚ) : Type 0 where
  step : ℕ
  from : a ≤ step
  to : step < b
  leaves : LeavesAt vs chain step k
  side : Side
  given : Gives vs standing side k x
  beyond : Beyond side ((chain step).value k) x

abbrev FreeIsTaken : Variables → List Row → (ℕ → Configuration) → ℕ → ℕ → ℕ → ℕ → Type 0
FreeIsTaken vs standing chain a b k m = Free vs (chain m) k → Taken vs standing chain a b k ((chain m).value k)

taken_now : (vs : Variables) (standing : List Row) (chain : ℕ → Configuration) (a b k m : ℕ) → a ≤ m → m < b → LeavesAt vs chain m k
    → (p : Pivot vs standing (chain m) (chain (suc m))) → Taken vs standing chain a b k ((chain (suc m)).value k)
taken_now vs standing chain a b k m h l w p =
    let q : k ≡ p.leaving = leaving_is vs standing (chain m) (chain (suc m)) k p w.0 w.1 in
    let e : (chain (suc m)).value k ≡ p.breaks.bound = ap (chain (suc m)).value q ∙ p.takes in
    record {
      step = m;
      from = h;
      to = l;
      leaves = w;
      side = p.breaks.side;
      given = subst (λ x. Gives vs standing p.breaks.side k x) (sym e) (subst (λ j. Gives vs standing p.breaks.side j p.breaks.bound) (sym q) p.breaks.given);
      beyond = subst (λ x. Beyond p.breaks.side ((chain m).value k) x) (sym e)
          (subst (λ j. Beyond p.breaks.side ((chain m).value j) p.breaks.bound) (sym q) p.breaks.beyond);
    }

taken_later : (vs : Variables) (listed standing : List Row) (n : ℕ) (chain : ℕ → Configuration) (a b k m : ℕ) → IsChain vs listed standing n chain → b ≤ n → a ≤ m → m < b
    → FreeIsTaken vs standing chain a b k m → FreeIsTaken vs standing chain a b k (suc m)
taken_later vs listed standing n chain a b k m ch l h t taken f =
    let p = ch.pivot m (omega arith) in
    elim (free_or_basic (chain m) k) [
      | inl g ↦ subst (Taken vs standing chain a b k) (sym (keeps_value vs standing (chain m) (chain (suc m)) k p (f.0, g) f.1)) (taken (f.0, g))
      | inr g ↦ taken_now vs standing chain a b k m h t ((f.0, g), f.1) p
    ]

taken_on : (vs : Variables) (listed standing : List Row) (n : ℕ) (chain : ℕ → Configuration) (a b k c m d : ℕ) → IsChain vs listed standing n chain → b ≤ n → a ≤ c → m ≤ b
    → c + d ≡ m → FreeIsTaken vs standing chain a b k c → FreeIsTaken vs standing chain a b k m
taken_on vs listed standing n chain a b k c m zero ch l h t e taken = subst (FreeIsTaken vs standing chain a b k) (let q : c ≡ m = omega arith in q) taken
taken_on vs listed standing n chain a b k c m (suc d) ch l h t e taken =
    subst (FreeIsTaken vs standing chain a b k) (let q : suc (c + d) ≡ m = omega arith in q)
    (taken_later vs listed standing n chain a b k (c + d) ch l (omega arith) (omega arith)
    (taken_on vs listed standing n chain a b k c (c + d) d ch l h (omega arith) refl taken))

-- ---- the two configurations
only_within : (side : Side) (b : Bool) (x y : ℚ) → (b ≡ true → Within side x y) → Within side (only_if b x) (only_if b y)
only_within side true x y h = h refl
only_within side false x y h = within_same side _ _ refl

-- the greatest one leaves at one, with the bound that it stands at where it enters; greater ones have the same values at both
record Meeting (vs : Variables) (listed standing : List Row) (n : ℕ) (chain : ℕ → Configuration) (top leaving_at entering_at : ℕ) : Type 0 where
  is : IsChain vs listed standing n chain
  first : leaving_at < n
  second : entering_at < n
  leaves : LeavesAt vs chain leaving_at top
  enters : EntersAt vs chain entering_at top
  side : Side
  given : Gives vs standing side top ((chain entering_at).value top)
  beyond : Beyond side ((chain leaving_at).value top) ((chain entering_at).value top)
  greater : (j : ℕ) → top < j → Free vs (chain entering_at) j → (chain leaving_at).value j ≡ (chain entering_at).value j
  most : (k : ℕ) → LeavesAt vs chain entering_at k → k ≤ top

-- no smaller one breaks a bound where the greatest leaves
keeps_there : (vs : Variables) (listed standing : List Row) (n : ℕ) (chain : ℕ → Configuration) (t z y k : ℕ) (side : Side) (bound : ℚ) → Meeting vs listed standing n chain t z y
    → k < size vs → k < t → Gives vs standing side k bound → Within side ((chain z).value k) bound
keeps_there vs listed standing n chain t z y k side bound m l h given =
    let p = m.is.pivot z m.first in
    let q : t ≡ p.leaving = leaving_is vs standing (chain z) (chain (suc z)) t p m.leaves.0 m.leaves.1 in
    within_from_not side ((chain z).value k) bound
    (λ beyond. none_below vs standing (chain z) (chain (suc z)) k p l (omega arith) (record { side = side; bound = bound; given = given; beyond = beyond }))

-- so no entry helps the one that leaves where the greatest enters
none_helps : (vs : Variables) (listed standing : List Row) (n : ℕ) (chain : ℕ → Configuration) (t z y : ℕ) (m : Meeting vs listed standing n chain t z y)
    (p : Pivot vs standing (chain y) (chain (suc y))) (j : ℕ) → Free vs (chain y) j
    → Within (other p.breaks.side) ((chain y).entry p.leaving j *ℚ (chain z).value j) ((chain y).entry p.leaving j *ℚ (chain y).value j)
none_helps vs listed standing n chain t z y m p j f = by (cases_lt j t) (cases_eq j t)
  where
    a : ℚ
    a = (chain y).entry p.leaving j

    by : (j < t) ⊎ (t ≤ j) → (j ≡ t) ⊎ (j ≡ t → ⊥)
        → Within (other p.breaks.side) ((chain y).entry p.leaving j *ℚ (chain z).value j) ((chain y).entry p.leaving j *ℚ (chain y).value j)
    by (inl less) same =
        let q : t ≡ p.entering = entering_is vs standing (chain y) (chain (suc y)) t p m.enters.0 m.enters.1 in
        within_stable (other p.breaks.side) _ _
        (λ no. p.first j (omega arith)
        (record {
          free = f;
          some = λ e. no (nothing_moves (other p.breaks.side) ((chain y).entry p.leaving j) ((chain y).value j) ((chain z).value j) e);
          away = λ g. no (blocked p.breaks.side ((chain y).entry p.leaving j) ((chain y).value j) ((chain z).value j)
              (keeps_there vs listed standing n chain t z y j (moves_to p.breaks.side ((chain y).entry p.leaving j)) ((chain y).value j) m f.0 less g));
        }))
    by (inr more) (inl same) =
        let q : j ≡ p.entering = same ∙ entering_is vs standing (chain y) (chain (suc y)) t p m.enters.0 m.enters.1 in
        let away : ¬ Gives vs standing (moves_to p.breaks.side ((chain y).entry p.leaving j)) j ((chain y).value j) =
        subst (λ k. ¬ Gives vs standing (moves_to p.breaks.side ((chain y).entry p.leaving k)) k ((chain y).value k)) (sym q) p.enters.away in
        let given : Gives vs standing m.side j ((chain y).value j) = subst (λ k. Gives vs standing m.side k ((chain y).value k)) (sym same) m.given in
        let beyond : Beyond m.side ((chain z).value j) ((chain y).value j) = subst (λ k. Beyond m.side ((chain z).value k) ((chain y).value k)) (sym same) m.beyond in
        let side : moves_to p.breaks.side ((chain y).entry p.leaving j) ≡ other m.side =
        other_side _ _ (λ e. away (subst (λ s. Gives vs standing s j ((chain y).value j)) (sym e) given)) in
        blocked p.breaks.side ((chain y).entry p.leaving j) ((chain y).value j) ((chain z).value j)
        (subst (λ s. Within s ((chain z).value j) ((chain y).value j)) (sym side) (within_other m.side ((chain z).value j) ((chain y).value j) beyond))
    by (inr more) (inr apart) =
        within_same (other p.breaks.side) _ _ (ap (λ x. (chain y).entry p.leaving j *ℚ x) (m.greater j (omega arith) f))

meeting_clash : (vs : Variables) (listed standing : List Row) (n : ℕ) (chain : ℕ → Configuration) (t z y : ℕ) → Meeting vs listed standing n chain t z y → ⊥
meeting_clash vs listed standing n chain t z y m =
    let p = m.is.pivot y m.second in
    let most : p.leaving ≤ t = m.most p.leaving (p.basic, p.left) in
    let apart : ¬ (p.leaving ≡ t) = λ e. not_both (chain y) p.leaving (ap (chain y).is_free e ∙ m.enters.0.1) p.basic.1 in
    let less : p.leaving < t = omega (arith, apart) in
    let row_then = (m.is.each y (omega arith)).valued p.leaving p.basic in
    let row_there = shared vs listed (chain z) (chain y) t p.leaving (m.is.each z (omega arith)) (m.is.each y (omega arith)) m.leaves.0 p.basic in
    clash p.breaks.side ((chain y).value p.leaving) ((chain z).value p.leaving) p.breaks.bound p.breaks.beyond
    (keeps_there vs listed standing n chain t z y p.leaving p.breaks.side p.breaks.bound m p.basic.0 less p.breaks.given)
    (subst (λ x. Within (other p.breaks.side) x ((chain y).value p.leaving)) (sym row_there)
    (subst (λ x. Within (other p.breaks.side) (combine (size vs) (chain y).is_free ((chain y).entry p.leaving) (chain z).value) x) (sym row_then)
    (within_sum (other p.breaks.side) (size vs) _ _
    (λ j l. only_within (other p.breaks.side) ((chain y).is_free j) _ _ (λ e. none_helps vs listed standing n chain t z y m p j (l, e))))))

-- ---- the cycle
-- where the greatest one enters
entered_in : (vs : Variables) (chain : ℕ → Configuration) (a b : ℕ) → Same vs (chain a) (chain b) → (g : Greatest vs chain a b) → EntersIn vs chain a b g.it
entered_in vs chain a b same g =
    let low = g.from in let high = g.to in
    let inside : g.it < size vs = g.leaves.0.0 in
    elim (enters_or_stays vs chain (suc g.step) b g.it (b - suc g.step) (omega arith) (inside, g.leaves.1)) [
      | inl i ↦ record { step = i.step; from = (let f = i.from in omega arith); to = i.to; enters = i.enters }
      | inr f ↦ elim (enters_or_stays vs chain a g.step g.it (g.step - a) (omega arith) (inside, same.free g.it inside ∙ f.1)) [
        | inl i ↦ record { step = i.step; from = i.from; to = (let t = i.to in omega arith); enters = i.enters }
        | inr h ↦ absurd (not_both (chain g.step) g.it h.1 g.leaves.0.1)
      ]
    ]

pub none_twice : NoneTwice
none_twice vs listed standing n chain ch a b h l same =
    let g = greatest vs listed standing n chain a b (b - suc a) ch l (omega arith) in
    let low = g.from in let high = g.to in
    let inside : g.it < size vs = g.leaves.0.0 in
    let i = entered_in vs chain a b same g in
    let from = i.from in let to = i.to in
    let none : FreeIsTaken vs standing chain a b g.it g.step = λ f. absurd (not_both (chain g.step) g.it f.1 g.leaves.0.1) in
    let last : FreeIsTaken vs standing chain a b g.it b = taken_on vs listed standing n chain a b g.it g.step b (b - g.step) ch l low (omega arith) (omega arith) none in
    let first : FreeIsTaken vs standing chain a b g.it a =
    λ f. subst (Taken vs standing chain a b g.it) (sym (same.values g.it f)) (last (inside, sym (same.free g.it inside) ∙ f.1)) in
    let taken = taken_on vs listed standing n chain a b g.it a i.step (i.step - a) ch l (omega arith) (omega arith) (omega arith) first i.enters.0 in
    let taken_from = taken.from in let taken_to = taken.to in
    let never : (j : ℕ) → g.it < j → NeverLeaves vs chain a b j = λ j more m p q w. let r = g.most m j p q w in absurd (omega arith) in
    meeting_clash vs listed standing n chain g.it taken.step i.step
    (record {
      is = ch;
      first = omega arith;
      second = omega arith;
      leaves = taken.leaves;
      enters = i.enters;
      side = taken.side;
      given = taken.given;
      beyond = taken.beyond;
      greater = λ j more f.
          let never_yet : NeverLeaves vs chain a i.step j = λ m p q w. never j more m p (omega arith) w in
          let back = was_free vs listed standing n chain a i.step j (i.step - a) a ch (omega arith) never_yet f (omega arith) (omega arith) in
          let there = was_free vs listed standing n chain a b j (b - taken.step) taken.step ch l (never j more) (f.0, sym (same.free j f.0) ∙ back.0.1) (omega arith) (omega arith) in
          there.1 ∙ sym (same.values j back.0) ∙ back.1;
      most = λ k w. g.most i.step k from to w;
    })
