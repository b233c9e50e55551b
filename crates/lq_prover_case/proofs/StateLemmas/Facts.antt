-- The facts of a path: one more comes, and the last ones go.
use Rattle.std.proofs.Common.{◌≡◌, ℕ, zero, suc, ◌+◌, ◌≤◌, List, [], ◌∷◌, ◌++◌, Bool, refl, sym, ap, ap₂, subst, ◌∙◌, arith, length, take}
use Rattle.std.specs.Option.{IsNone}
use Rattle.lq_logic_rows.specs.Contradiction.{Tagged, tagged}
use Rattle.lq_logic_rows.specs.Row.{Row as LinearRow}
use Rattle.lq_logic_predicates.specs.Sum.{Sum}
use Rattle.lq_logic_predicates.specs.declared.symbol.Symbol.{Symbol}
use Rattle.lq_prover_proof_tree.specs.Trees.Path.{Fact, row_fact, flag_fact, objects_fact, never}
use Rattle.lq_prover_proof_tree.specs.Trees.Proves.{rows_from}
use Rattle.lq_prover_case.specs.State.PathState.{facts_by, facts_of, numbered_by, AreNumbered}
use Rattle.lq_prover_case.specs.declared.state.state.Kind.{Kind}
use Rattle.lq_prover_case.specs.declared.state.state.Kind.TheVariants.{Row, Flag, Same}
use Rattle.lq_prover_case.specs.declared.state.state.Step.{Step}
use Rattle.lq_prover_case.proofs.StateLemmas.Evidence.{cons_none}

pub facts-length : (name : ℕ → Sum) (steps : List Step) (rows : Tagged) → length (facts_of name steps rows) ≡ length steps
facts-length name [] rows = refl
facts-length name (s ∷ steps) rows = by s.kind rows (facts-length name steps)
  where
    by : (k : Kind) (rows : Tagged) → ((rows : Tagged) → length (facts_of name steps rows) ≡ length steps) → length (facts_by name k (facts_of name steps) rows) ≡ suc (length steps)
    by (Flag x value) rows h = ap suc (h rows)
    by (Same x y b) rows h = ap suc (h rows)
    by Row [] h = ap suc (h [])
    by Row (r ∷ rows) h = ap suc (h rows)

pub flag-push : (name : ℕ → Sum) (steps : List Step) (s : Step) (x : Symbol) (value : Bool) (rows : Tagged) → s.kind ≡ Flag x value → facts_of name (steps ++ s ∷ []) rows ≡ facts_of name steps rows ++ flag_fact x value ∷ []
flag-push name [] s x value rows e = ap (λ k. facts_by name k (λ l. []) rows) e
flag-push name (t ∷ steps) s x value rows e = by t.kind rows (λ l. flag-push name steps s x value l e)
  where
    by : (k : Kind) (rows : Tagged) → ((rows : Tagged) → facts_of name (steps ++ s ∷ []) rows ≡ facts_of name steps rows ++ flag_fact x value ∷ [])
        → facts_by name k (facts_of name (steps ++ s ∷ [])) rows ≡ facts_by name k (facts_of name steps) rows ++ flag_fact x value ∷ []
    by (Flag y b) rows h = ap (λ l. flag_fact y b ∷ l) (h rows)
    by (Same x y b) rows h = ap (λ l. objects_fact (name x) (name y) b ∷ l) (h rows)
    by Row [] h = ap (λ l. never ∷ l) (h [])
    by Row (r ∷ rows) h = ap (λ l. row_fact r.1 ∷ l) (h rows)

pub same-push : (name : ℕ → Sum) (steps : List Step) (s : Step) (a b : ℕ) (one : Bool) (rows : Tagged) → s.kind ≡ Same a b one
    → facts_of name (steps ++ s ∷ []) rows ≡ facts_of name steps rows ++ objects_fact (name a) (name b) one ∷ []
same-push name [] s a b one rows e = ap (λ k. facts_by name k (λ l. []) rows) e
same-push name (t ∷ steps) s a b one rows e = by t.kind rows (λ l. same-push name steps s a b one l e)
  where
    by : (k : Kind) (rows : Tagged) → ((rows : Tagged) → facts_of name (steps ++ s ∷ []) rows ≡ facts_of name steps rows ++ objects_fact (name a) (name b) one ∷ [])
        → facts_by name k (facts_of name (steps ++ s ∷ [])) rows ≡ facts_by name k (facts_of name steps) rows ++ objects_fact (name a) (name b) one ∷ []
    by (Flag y v) rows h = ap (λ l. flag_fact y v ∷ l) (h rows)
    by (Same x y v) rows h = ap (λ l. objects_fact (name x) (name y) v ∷ l) (h rows)
    by Row [] h = ap (λ l. never ∷ l) (h [])
    by Row (r ∷ rows) h = ap (λ l. row_fact r.1 ∷ l) (h rows)

-- ---- the rows under the numbers of their facts
pub rows_numbered : (name : ℕ → Sum) (n : ℕ) (steps : List Step) (rows : Tagged) → AreNumbered n steps rows → rows ≡ rows_from n (facts_of name steps rows)
rows_numbered name n [] rows h = h
rows_numbered name n (s ∷ steps) rows h = by s.kind rows (rows_numbered name (suc n) steps) h
  where
    by : (k : Kind) (rows : Tagged) → ((rows : Tagged) → AreNumbered (suc n) steps rows → rows ≡ rows_from (suc n) (facts_of name steps rows))
        → numbered_by k n (AreNumbered (suc n) steps) rows → rows ≡ rows_from n (facts_by name k (facts_of name steps) rows)
    by (Flag x value) rows f h = f rows h
    by (Same x y b) rows f h = f rows h
    by Row [] f h = absurd h
    by Row (r ∷ rows) f h = ap₂ (λ (t : ℕ) (l : Tagged). (t, r.1) ∷ l) h.0 (f rows h.1)

pub flag_numbered : (n : ℕ) (steps : List Step) (s : Step) (x : Symbol) (value : Bool) (rows : Tagged) → s.kind ≡ Flag x value → AreNumbered n steps rows → AreNumbered n (steps ++ s ∷ []) rows
flag_numbered n [] s x value rows e h = subst (λ k. numbered_by k n (λ l. l ≡ []) rows) (sym e) h
flag_numbered n (t ∷ steps) s x value rows e h = by t.kind rows (λ l. flag_numbered (suc n) steps s x value l e) h
  where
    by : (k : Kind) (rows : Tagged) → ((rows : Tagged) → AreNumbered (suc n) steps rows → AreNumbered (suc n) (steps ++ s ∷ []) rows)
        → numbered_by k n (AreNumbered (suc n) steps) rows → numbered_by k n (AreNumbered (suc n) (steps ++ s ∷ [])) rows
    by (Flag y b) rows f h = f rows h
    by (Same x y b) rows f h = f rows h
    by Row [] f h = absurd h
    by Row (r ∷ rows) f h = (h.0, f rows h.1)

pub same_numbered : (n : ℕ) (steps : List Step) (s : Step) (a b : ℕ) (one : Bool) (rows : Tagged) → s.kind ≡ Same a b one → AreNumbered n steps rows → AreNumbered n (steps ++ s ∷ []) rows
same_numbered n [] s a b one rows e h = subst (λ k. numbered_by k n (λ l. l ≡ []) rows) (sym e) h
same_numbered n (t ∷ steps) s a b one rows e h = by t.kind rows (λ l. same_numbered (suc n) steps s a b one l e) h
  where
    by : (k : Kind) (rows : Tagged) → ((rows : Tagged) → AreNumbered (suc n) steps rows → AreNumbered (suc n) (steps ++ s ∷ []) rows)
        → numbered_by k n (AreNumbered (suc n) steps) rows → numbered_by k n (AreNumbered (suc n) (steps ++ s ∷ [])) rows
    by (Flag y v) rows f h = f rows h
    by (Same x y v) rows f h = f rows h
    by Row [] f h = absurd h
    by Row (r ∷ rows) f h = (h.0, f rows h.1)

pub row_numbered : (n t : ℕ) (steps : List Step) (s : Step) (row : LinearRow) (rows : Tagged) → s.kind ≡ Row → t ≡ n + length steps → AreNumbered n steps rows
    → AreNumbered n (steps ++ s ∷ []) (rows ++ (t, row) ∷ [])
row_numbered n t [] s row rows k e h =
    let z : t ≡ n = omega arith in
    subst (λ l. AreNumbered n (s ∷ []) (l ++ (t, row) ∷ [])) (sym h) (subst (λ j. numbered_by j n (λ l. l ≡ []) ((t, row) ∷ [])) (sym k) (z, refl))
row_numbered n t (u ∷ steps) s row rows k e h =
    let z : t ≡ suc n + length steps = omega arith in by u.kind rows (λ l. row_numbered (suc n) t steps s row l k z) h
  where
    by : (k : Kind) (rows : Tagged) → ((rows : Tagged) → AreNumbered (suc n) steps rows → AreNumbered (suc n) (steps ++ s ∷ []) (rows ++ (t, row) ∷ []))
        → numbered_by k n (AreNumbered (suc n) steps) rows → numbered_by k n (AreNumbered (suc n) (steps ++ s ∷ [])) (rows ++ (t, row) ∷ [])
    by (Flag y b) rows f h = f rows h
    by (Same x y b) rows f h = f rows h
    by Row [] f h = absurd h
    by Row (r ∷ rows) f h = (h.0, f rows h.1)

pub row-push : (name : ℕ → Sum) (n t : ℕ) (steps : List Step) (s : Step) (row : LinearRow) (rows : Tagged) → s.kind ≡ Row → AreNumbered n steps rows
    → facts_of name (steps ++ s ∷ []) (rows ++ (t, row) ∷ []) ≡ facts_of name steps rows ++ row_fact row ∷ []
row-push name n t [] s row rows k h = ap (λ (l : Tagged). facts_of name (s ∷ []) (l ++ (t, row) ∷ [])) h ∙ ap (λ j. facts_by name j (λ l. []) ((t, row) ∷ [])) k
row-push name n t (u ∷ steps) s row rows k h = by u.kind rows (λ l. row-push name (suc n) t steps s row l k) h
  where
    by : (k : Kind) (rows : Tagged) → ((rows : Tagged) → AreNumbered (suc n) steps rows → facts_of name (steps ++ s ∷ []) (rows ++ (t, row) ∷ []) ≡ facts_of name steps rows ++ row_fact row ∷ [])
        → numbered_by k n (AreNumbered (suc n) steps) rows → facts_by name k (facts_of name (steps ++ s ∷ [])) (rows ++ (t, row) ∷ []) ≡ facts_by name k (facts_of name steps) rows ++ row_fact row ∷ []
    by (Flag y b) rows f h = ap (λ l. flag_fact y b ∷ l) (f rows h)
    by (Same x y b) rows f h = ap (λ l. objects_fact (name x) (name y) b ∷ l) (f rows h)
    by Row [] f h = absurd h
    by Row (r ∷ rows) f h = ap (λ l. row_fact r.1 ∷ l) (f rows h.1)

pub fresh_number : (n t : ℕ) (steps : List Step) (rows : Tagged) → AreNumbered n steps rows → n + length steps ≤ t → IsNone (tagged rows t)
fresh_number n t [] rows h l = subst (λ (k : Tagged). IsNone (tagged k t)) (sym h) refl
fresh_number n t (s ∷ steps) rows h l = by s.kind rows (λ k g. fresh_number (suc n) t steps k g (omega arith)) h
  where
    by : (k : Kind) (rows : Tagged) → ((rows : Tagged) → AreNumbered (suc n) steps rows → IsNone (tagged rows t)) → numbered_by k n (AreNumbered (suc n) steps) rows → IsNone (tagged rows t)
    by (Flag y b) rows f h = f rows h
    by (Same x y b) rows f h = f rows h
    by Row [] f h = absurd h
    by Row (r ∷ rows) f h = cons_none r rows t (λ e. let d = h.0 in absurd (omega arith)) (f rows h.1)

-- ---- the first facts
abbrev used : ℕ → ℕ → List Fact → ℕ
used n k facts = length (rows_from n (take k facts))

pub take_numbered : (name : ℕ → Sum) (n k : ℕ) (steps : List Step) (rows : Tagged) → AreNumbered n steps rows → AreNumbered n (take k steps) (take (used n k (facts_of name steps rows)) rows)
take_numbered name n zero steps rows h = refl
take_numbered name n (suc k) [] rows h = refl
take_numbered name n (suc k) (s ∷ steps) rows h = by s.kind rows (take_numbered name (suc n) k steps) h
  where
    by : (j : Kind) (rows : Tagged) → ((rows : Tagged) → AreNumbered (suc n) steps rows → AreNumbered (suc n) (take k steps) (take (used (suc n) k (facts_of name steps rows)) rows))
        → numbered_by j n (AreNumbered (suc n) steps) rows → numbered_by j n (AreNumbered (suc n) (take k steps)) (take (used n (suc k) (facts_by name j (facts_of name steps) rows)) rows)
    by (Flag y b) rows f h = f rows h
    by (Same x y b) rows f h = f rows h
    by Row [] f h = absurd h
    by Row (r ∷ rows) f h = (h.0, f rows h.1)

pub take-facts : (name : ℕ → Sum) (n k : ℕ) (steps : List Step) (rows : Tagged) → AreNumbered n steps rows → facts_of name (take k steps) (take (used n k (facts_of name steps rows)) rows) ≡ take k (facts_of name steps rows)
take-facts name n zero steps rows h = refl
take-facts name n (suc k) [] rows h = refl
take-facts name n (suc k) (s ∷ steps) rows h = by s.kind rows (take-facts name (suc n) k steps) h
  where
    by : (j : Kind) (rows : Tagged) → ((rows : Tagged) → AreNumbered (suc n) steps rows → facts_of name (take k steps) (take (used (suc n) k (facts_of name steps rows)) rows) ≡ take k (facts_of name steps rows))
        → numbered_by j n (AreNumbered (suc n) steps) rows → facts_by name j (facts_of name (take k steps)) (take (used n (suc k) (facts_by name j (facts_of name steps) rows)) rows) ≡ take (suc k) (facts_by name j (facts_of name steps) rows)
    by (Flag y b) rows f h = ap (λ l. flag_fact y b ∷ l) (f rows h)
    by (Same x y b) rows f h = ap (λ l. objects_fact (name x) (name y) b ∷ l) (f rows h)
    by Row [] f h = absurd h
    by Row (r ∷ rows) f h = ap (λ l. row_fact r.1 ∷ l) (f rows h.1)
