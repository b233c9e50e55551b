-- Rows and a number of terms determine how many variables there are.
use Rattle.std.proofs.Common.{◌≡◌, ◌≢◌, ℕ, zero, suc, ◌+◌, ◌*◌, ◌^◌, ◌<◌, ◌≤◌, ◌⊎◌, inl, inr, arith, refl, sym, ap, subst, ◌∙◌, true, List, []}
use Rattle.std.proofs.lemmas.Bool.{cases_lt}
use Rattle.lq_logic_rows.specs.Row.{Row}
use Rattle.lq_logic_rows.specs.Contradiction.{Tagged}
use Rattle.lq_prover_pivots.specs.Pivots.Ranges.{count_below}
use Rattle.lq_prover_pivots.specs.Pivots.Rows.{Variables, size, form}
use Rattle.lq_prover_pivots.specs.Pivots.Variables.{AreVariables}
use Rattle.lq_prover_pivots.specs.Pivots.Laws.{choose, AtMostSoMany}
use Rattle.lq_prover_simplex.specs.Table.{IsSpent}
use Rattle.lq_prover_simplex.proofs.Counting.{counted}
use Rattle.lq_prover_simplex.proofs.Multiples.{multiples_once, multiple_both, times_none}
use Rattle.lq_prover_simplex.proofs.Appearing.{own_multiple}
use Rattle.lq_prover_simplex.proofs.Naming.{at_place}

-- one of the others has the variable's form
record Matches (vs ws : Variables) (k : ℕ) : Type 0 where
  place : ℕ
  inside : place < size ws
  same : form vs k ≡ form ws place

matching : (rows : List Row) (vs ws : Variables) → AreVariables rows vs → AreVariables rows ws → vs.terms ≡ ws.terms → (k : ℕ) → k < size vs → Matches vs ws k
matching rows vs ws a b e k h =
    elim (cases_lt k vs.terms) [
      | inl l ↦ record { place = k; inside = (let t = b.terms_in in omega arith); same = a.named k l ∙ sym (b.named k (omega arith)) }
      | inr m ↦
          let c = a.comes k m h in let row = c.1.0 in let is = c.1.2 in
          let some : row.parts ≢ [] = (λ n. times_none is.factor (form vs k) (a.normal k h).above (sym is.is ∙ n)) in
          let x = b.has row (at_place rows c.0 row c.1.1) some in
          record {
            place = x.0;
            inside = x.1;
            same = multiples_once row.parts row.parts (form vs k) (form ws x.0) (a.normal k h) (b.normal x.0 x.1)
                (multiple_both row.parts (form vs k) is) (multiple_both row.parts (form ws x.0) x.2) (own_multiple row.parts);
          }
    ]

all_counted : (n : ℕ) → count_below n (λ k. true) ≡ n
all_counted zero = refl
all_counted (suc n) = let k = all_counted n in omega arith

place_of : (rows : List Row) (vs ws : Variables) → AreVariables rows vs → AreVariables rows ws → vs.terms ≡ ws.terms → ℕ → ℕ
place_of rows vs ws a b e k = elim (cases_lt k (size vs)) [ inl h ↦ (matching rows vs ws a b e k h).place | inr m ↦ 0 ]

placed : (rows : List Row) (vs ws : Variables) (a : AreVariables rows vs) (b : AreVariables rows ws) (e : vs.terms ≡ ws.terms) (k : ℕ) → k < size vs
    → (place_of rows vs ws a b e k < size ws) × (form vs k ≡ form ws (place_of rows vs ws a b e k))
unfolding place_of
placed rows vs ws a b e k h = by (cases_lt k (size vs))
  where
    by : (c : (k < size vs) ⊎ (size vs ≤ k)) → (elim c [ inl h ↦ (matching rows vs ws a b e k h).place | inr m ↦ 0 ] < size ws)
        × (form vs k ≡ form ws (elim c [ inl h ↦ (matching rows vs ws a b e k h).place | inr m ↦ 0 ]))
    by (inl h) = let m = matching rows vs ws a b e k h in (m.inside, m.same)
    by (inr m) = absurd (omega arith)

same_size : (rows : List Row) (vs ws : Variables) → AreVariables rows vs → AreVariables rows ws → vs.terms ≡ ws.terms → size vs ≡ size ws
same_size rows vs ws a b e =
    sym (counted (size ws) (size vs) (λ k. true) (place_of rows vs ws a b e) (record {
      below = λ k h. (placed rows vs ws a b e k h).0;
      admits = λ k h. refl;
      all = λ j h q.
          let m = matching rows ws vs b a (sym e) j h in
          let p = placed rows vs ws a b e m.place m.inside in
          (m.place, m.inside, b.once (place_of rows vs ws a b e m.place) j p.0 h (sym p.1 ∙ sym m.same));
      once = λ j k h g q.
          let p = placed rows vs ws a b e j h in let r = placed rows vs ws a b e k g in
          a.once j k h g (p.1 ∙ ap (form ws) q ∙ sym r.1);
    }))
    ∙ all_counted (size ws)

pub spent_small : AtMostSoMany → (terms limit : ℕ) (standing : Tagged) (ever : List Row) → (spent : IsSpent terms limit standing ever)
    → limit + 1 ≤ 3 ^ terms * choose (size spent.variables) terms
spent_small law terms limit standing ever spent =
    subst (λ n. limit + 1 ≤ 3 ^ n * choose (size spent.variables) n) spent.over (law spent.variables ever _ limit spent.chain spent.pivots)

pub spent_determined : AtMostSoMany → (vs : Variables) (limit : ℕ) (standing : Tagged) (ever : List Row) → AreVariables ever vs → IsSpent vs.terms limit standing ever
    → limit + 1 ≤ 3 ^ vs.terms * choose (size vs) vs.terms
spent_determined law vs limit standing ever a spent =
    subst (λ n. limit + 1 ≤ 3 ^ vs.terms * choose n vs.terms) (same_size ever spent.variables vs spent.listed a spent.over) (spent_small law vs.terms limit standing ever spent)
