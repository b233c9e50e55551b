-- Facts with equations after them: what their rows say, their sizes, and the stops.
use Rattle.std.proofs.Common.{◌≡◌, ◌⊎◌, inl, inr, ℕ, zero, suc, pos, negsuc, ◌≤◌, List, [], ◌∷◌, ◌++◌, All, Some, map, slice_get, refl, sym, ap, subst, ◌∙◌, arith, append-nil, append_assoc}
use Rattle.std.proofs.lemmas.List.{map-append}
use Rattle.std.proofs.lemmas.List.Elements.{All-append, All-cons, All-head, All-nil, All-tail}
use Rattle.lq_prover_case.specs.State.RowState.{AreDifferences, MayStop}
use Rattle.lq_prover_case.specs.State.Stored.{StopsInTableau}
use Rattle.lq_prover_proof_tree.specs.Trees.Path.{Fact, row_fact, flag_fact, objects_fact, never}
use Rattle.lq_prover_proof_tree.specs.Trees.Proves.{rows_among, rows_from}
use Rattle.lq_prover_differences.specs.Stops.{StopsBy}
use Rattle.lq_prover_differences.specs.Table.{constants}
use Rattle.lq_logic_rows.specs.Contradiction.{Solves}
use Rattle.lq_logic_rows.specs.Row.{Row, RowHolds, Valuation}
use Rattle.lq_logic_rows.specs.declared.engine.LinearStop.{LinearStop}
use Rattle.lq_logic_rows.specs.declared.engine.LinearStop.TheVariants.{Number, Pivots, Memory}
use Rattle.lq_base_numbers.specs.Rationals.Rational.{ℚ, whole, ◌+ℚ◌, ◌*ℚ◌}
use Rattle.lq_base_numbers.specs.Rationals.Solver.{var, con, ◌⊕◌, ◌⊗◌, solve}
use Rattle.lq_logic_predicates.specs.Sum.{Sum}
use Rattle.lq_prover_case.specs.Equations.Equating.{AddsEquations, AreOneFunction, Grows, equation, equation_fact}

-- ---- what rows say

pub solves_fewer : (v : Valuation) (n : ℕ) (fs gs : List Fact) → Solves v (rows_from n (fs ++ gs)) → Solves v (rows_from n fs)
solves_fewer v n [] gs h = tt
solves_fewer v n (row_fact r ∷ fs) gs h = (h.0, solves_fewer v (suc n) fs gs h.1)
solves_fewer v n (flag_fact x value ∷ fs) gs h = solves_fewer v (suc n) fs gs h
solves_fewer v n (objects_fact a b one ∷ fs) gs h = solves_fewer v (suc n) fs gs h
solves_fewer v n (never ∷ fs) gs h = solves_fewer v (suc n) fs gs h

pub last_holds : (v : Valuation) (n : ℕ) (fs : List Fact) (r : Row) → Solves v (rows_from n (fs ++ row_fact r ∷ [])) → RowHolds v r
last_holds v n [] r h = h.0
last_holds v n (row_fact s ∷ fs) r h = last_holds v (suc n) fs r h.1
last_holds v n (flag_fact x value ∷ fs) r h = last_holds v (suc n) fs r h
last_holds v n (objects_fact a b one ∷ fs) r h = last_holds v (suc n) fs r h
last_holds v n (never ∷ fs) r h = last_holds v (suc n) fs r h

same_numbers : (x y : ℚ) → (whole (pos 1) *ℚ x +ℚ (whole (negsuc 0) *ℚ y +ℚ whole (pos 0))) +ℚ whole (pos 0) ≡ whole (pos 0) → x ≡ y
same_numbers x y e =
    solve (x ∷ y ∷ []) (var 0) ((((con (pos 1) ⊗ var 0) ⊕ ((con (negsuc 0) ⊗ var 1) ⊕ con (pos 0))) ⊕ con (pos 0)) ⊕ var 1) refl ∙ ap (λ z. z +ℚ y) e
    ∙ solve (y ∷ []) (con (pos 0) ⊕ var 0) (var 0) refl

pub equation_says : (v : Valuation) (i j : ℕ) → RowHolds v (equation (i, j)) → v i ≡ v j
equation_says v i j h = same_numbers (v i) (v j) h

-- ---- facts that get equations

pub adds_none : (terms : List Sum) (fs : List Fact) → AddsEquations terms fs fs
adds_none terms fs = record { pairs = []; each = All-nil (AreOneFunction terms); is = sym (append-nil fs) }

pub adds_one : (terms : List Sum) (old new : List Fact) (p : ℕ × ℕ) → AreOneFunction terms p → new ≡ old ++ equation_fact p ∷ [] → AddsEquations terms old new
adds_one terms old new p one e = record { pairs = p ∷ []; each = All-cons (AreOneFunction terms) p [] one (All-nil (AreOneFunction terms)); is = e }

pub adds_then : (terms : List Sum) (a b c : List Fact) → AddsEquations terms a b → AddsEquations terms b c → AddsEquations terms a c
adds_then terms a b c p q = record {
  pairs = p.pairs ++ q.pairs;
  each = All-append (AreOneFunction terms) p.pairs q.pairs p.each q.each;
  is = q.is ∙ ap (λ l. l ++ map equation_fact q.pairs) p.is ∙ append_assoc a (map equation_fact p.pairs) (map equation_fact q.pairs)
      ∙ ap (λ l. a ++ l) (sym (map-append equation_fact p.pairs q.pairs));
}

pub solves_one : (v : Valuation) (old new : List Fact) (p : ℕ × ℕ) → new ≡ old ++ equation_fact p ∷ [] → Solves v (rows_among new) → Solves v (rows_among old)
solves_one v old new p e h = solves_fewer v 1 old (equation_fact p ∷ []) (subst (λ l. Solves v (rows_among l)) e h)

pub adds_solves : (terms : List Sum) (v : Valuation) (old new : List Fact) → AddsEquations terms old new → Solves v (rows_among new) → Solves v (rows_among old)
adds_solves terms v old new p h = solves_fewer v 1 old (map equation_fact p.pairs) (subst (λ l. Solves v (rows_among l)) p.is h)

-- ---- sizes and stops

pub fewer_constants : (n : ℕ) (fs gs : List Fact) → constants (rows_from n fs) ≤ constants (rows_from n (fs ++ gs))
fewer_constants n [] gs = omega arith
fewer_constants n (row_fact r ∷ fs) gs = let k = fewer_constants (suc n) fs gs in omega arith
fewer_constants n (flag_fact x value ∷ fs) gs = fewer_constants (suc n) fs gs
fewer_constants n (objects_fact a b one ∷ fs) gs = fewer_constants (suc n) fs gs
fewer_constants n (never ∷ fs) gs = fewer_constants (suc n) fs gs

no_constants : (n : ℕ) (pairs : List (ℕ × ℕ)) → constants (rows_from n (map equation_fact pairs)) ≡ 0
no_constants n [] = refl
no_constants n (p ∷ pairs) = let k = no_constants (suc n) pairs in omega (arith, k)

same_constants : (n : ℕ) (fs : List Fact) (pairs : List (ℕ × ℕ)) → constants (rows_from n (fs ++ map equation_fact pairs)) ≡ constants (rows_from n fs)
same_constants n [] pairs = no_constants n pairs
same_constants n (row_fact r ∷ fs) pairs = let k = same_constants (suc n) fs pairs in omega arith
same_constants n (flag_fact x value ∷ fs) pairs = same_constants (suc n) fs pairs
same_constants n (objects_fact a b one ∷ fs) pairs = same_constants (suc n) fs pairs
same_constants n (never ∷ fs) pairs = same_constants (suc n) fs pairs

all_differences : (n : ℕ) (pairs : List (ℕ × ℕ)) → AreDifferences (rows_from n (map equation_fact pairs))
all_differences n [] = tt
all_differences n (p ∷ pairs) = (inl (refl, refl), all_differences (suc n) pairs)

more_differences : (n : ℕ) (fs : List Fact) (pairs : List (ℕ × ℕ)) → AreDifferences (rows_from n fs) → AreDifferences (rows_from n (fs ++ map equation_fact pairs))
more_differences n [] pairs h = all_differences n pairs
more_differences n (row_fact r ∷ fs) pairs h = (h.0, more_differences (suc n) fs pairs h.1)
more_differences n (flag_fact x value ∷ fs) pairs h = more_differences (suc n) fs pairs h
more_differences n (objects_fact a b one ∷ fs) pairs h = more_differences (suc n) fs pairs h
more_differences n (never ∷ fs) pairs h = more_differences (suc n) fs pairs h

pub stops_at_more : (n m : ℕ) (stop : LinearStop) → n ≤ m → StopsBy n stop → StopsBy m stop
stops_at_more n m (Number e) l h = (h.0, (let k = h.1 in omega arith))
stops_at_more n m (Pivots k) l h = h
stops_at_more n m Memory l h = tt

pub adds_constants : (terms : List Sum) (old new : List Fact) → AddsEquations terms old new → constants (rows_among new) ≡ constants (rows_among old)
adds_constants terms old new p = ap (λ l. constants (rows_among l)) p.is ∙ same_constants 1 old p.pairs

pub adds_stops : (terms : List Sum) (old new : List Fact) (stop : LinearStop) → AddsEquations terms old new → StopsBy (constants (rows_among new)) stop → StopsBy (constants (rows_among old)) stop
adds_stops terms old new stop p h = subst (λ n. StopsBy n stop) (adds_constants terms old new p) h

pub stops_one : (old new : List Fact) (p : ℕ × ℕ) (stop : LinearStop) → new ≡ old ++ equation_fact p ∷ [] → StopsBy (constants (rows_among new)) stop → StopsBy (constants (rows_among old)) stop
stops_one old new p stop e h = subst (λ n. StopsBy n stop) (ap (λ l. constants (rows_among l)) e ∙ same_constants 1 old (p ∷ [])) h

pub adds_grows : (terms : List Sum) (old new : List Fact) → AddsEquations terms old new → Grows old new
adds_grows terms old new p = record { more = map equation_fact p.pairs; is = p.is }

pub may_stop_by : (terms limit : ℕ) (ever : List Row) (P : Row → Type 0) (facts : List Fact) (stop : LinearStop) → StopsBy (constants (rows_among facts)) stop
    → MayStop terms limit ever P (rows_among facts) stop
may_stop_by terms limit ever P facts stop h = record { differences = λ d. h; any = inl h }

pub adds_may_stop : (ts : List Sum) (terms limit : ℕ) (ever : List Row) (P : Row → Type 0) (old new : List Fact) (stop : LinearStop) → AddsEquations ts old new
    → MayStop terms limit ever P (rows_among new) stop → MayStop terms limit ever P (rows_among old) stop
adds_may_stop ts terms limit ever P old new stop p h = record {
  differences = λ d. adds_stops ts old new stop p (h.differences (subst (λ l. AreDifferences (rows_among l)) (sym p.is) (more_differences 1 old p.pairs d)));
  any = by h.any;
}
  where
    by : StopsBy (constants (rows_among new)) stop ⊎ StopsInTableau terms limit ever P stop → StopsBy (constants (rows_among old)) stop ⊎ StopsInTableau terms limit ever P stop
    by (inl k) = inl (adds_stops ts old new stop p k)
    by (inr k) = inr k

-- ---- rows

rows_each : (ts : List Sum) (P : Row → Type 0) (n : ℕ) (old : List Fact) (pairs : List (ℕ × ℕ)) → All (AreOneFunction ts) pairs → ((k : ℕ) (r : Row) → slice_get old k ≡ Some (row_fact r) → P r)
    → ((p : ℕ × ℕ) (r : Row) → AreOneFunction ts p → r ≡ equation p → P r) → All (λ (r : ℕ × Row). P r.1) (rows_from n (old ++ map equation_fact pairs))
rows_each ts P n [] [] a f g = All-nil (λ (r : ℕ × Row). P r.1)
rows_each ts P n [] (p ∷ pairs) a f g =
    All-cons (λ (r : ℕ × Row). P r.1) (n, equation p) (rows_from (suc n) (map equation_fact pairs)) (g p (equation p) (All-head (AreOneFunction ts) p pairs a) refl)
    (rows_each ts P (suc n) [] pairs (All-tail (AreOneFunction ts) p pairs a) (λ k r e. cc) g)
rows_each ts P n (row_fact r ∷ fs) pairs a f g =
    All-cons (λ (r : ℕ × Row). P r.1) (n, r) (rows_from (suc n) (fs ++ map equation_fact pairs)) (f zero r refl) (rows_each ts P (suc n) fs pairs a (λ k. f (suc k)) g)
rows_each ts P n (flag_fact x value ∷ fs) pairs a f g = rows_each ts P (suc n) fs pairs a (λ k. f (suc k)) g
rows_each ts P n (objects_fact x y one ∷ fs) pairs a f g = rows_each ts P (suc n) fs pairs a (λ k. f (suc k)) g
rows_each ts P n (never ∷ fs) pairs a f g = rows_each ts P (suc n) fs pairs a (λ k. f (suc k)) g

-- what holds of each earlier row and of each equation
pub added_rows : (ts : List Sum) (P : Row → Type 0) (old new : List Fact) → AddsEquations ts old new → ((k : ℕ) (r : Row) → slice_get old k ≡ Some (row_fact r) → P r)
    → ((p : ℕ × ℕ) (r : Row) → AreOneFunction ts p → r ≡ equation p → P r) → All (λ (r : ℕ × Row). P r.1) (rows_among new)
added_rows ts P old new p f g = subst (λ l. All (λ (r : ℕ × Row). P r.1) (rows_among l)) (sym p.is) (rows_each ts P 1 old p.pairs p.each f g)
