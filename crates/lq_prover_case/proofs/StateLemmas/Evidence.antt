-- Rows found by their tags, and contradictions of some of the rows.
use Rattle.std.proofs.Common.{◌≡◌, ◌≢◌, ◌⊎◌, inl, inr, ℕ, suc, zero, ◌≤◌, List, [], ◌∷◌, ◌++◌, Option, Some, None, Bool, true, false, if◌then◌else◌, ◌==◌, refl, sym, ap, ap₂, subst, ◌∙◌, arith, take, slice_get}
use Rattle.std.specs.Option.{IsNone}
use Rattle.std.proofs.lemmas.Bool.{eqb-true}
use Rattle.lq_base_numbers.specs.Rationals.Rational.{ℚ, ◌+ℚ◌, ◌*ℚ◌}
use Rattle.lq_logic_rows.specs.Contradiction.{Tagged, tagged, IsFair, AllFair, level_of, weighted, IsContradiction}
use Rattle.lq_logic_rows.specs.Row.{Row, Valuation}
use Rattle.lq_logic_rows.specs.declared.engine.LinearStop.{LinearStop}
use Rattle.lq_logic_rows.specs.declared.engine.LinearStop.TheVariants.{Number, Pivots, Memory}
use Rattle.lq_prover_differences.specs.Stops.{PastBy, StopsBy}
use Rattle.lq_prover_case.specs.State.Stored.{AreApart}

-- where some rows are found, they are found among others
pub record AreFound (some all : Tagged) : Type 0 where
  pub each : (t : ℕ) (r : Row) → tagged some t ≡ Some r → tagged all t ≡ Some r

fair_found : (some all : Tagged) (t : ℕ) (m : ℚ) (o : Option Row) → AreFound some all → tagged some t ≡ o → IsFair o m → tagged all t ≡ o
fair_found some all t m (Some r) f e h = f.each t r e
fair_found some all t m None f e h = absurd h

found_at : (some all : Tagged) (t : ℕ) (m : ℚ) → AreFound some all → IsFair (tagged some t) m → tagged some t ≡ tagged all t
found_at some all t m f h = sym (fair_found some all t m (tagged some t) f refl h)

fair_more : (some all : Tagged) (ms : List (ℕ × ℚ)) → AreFound some all → AllFair some ms → AllFair all ms
fair_more some all [] f h = tt
fair_more some all (m ∷ ms) f h = (subst (λ o. IsFair o m.1) (found_at some all m.0 m.1 f h.0) h.0, fair_more some all ms f h.1)

weighted_more : (v : Valuation) (some all : Tagged) (ms : List (ℕ × ℚ)) → AreFound some all → AllFair some ms → weighted v some ms ≡ weighted v all ms
weighted_more v some all [] f h = refl
weighted_more v some all (m ∷ ms) f h =
    ap₂ (λ o x. m.1 *ℚ level_of v o +ℚ x) (found_at some all m.0 m.1 f h.0) (weighted_more v some all ms f h.1)

pub contradiction_more : (some all : Tagged) (ms : List (ℕ × ℚ)) → AreFound some all → IsContradiction some ms → IsContradiction all ms
contradiction_more some all ms f c = record {
  fair = fair_more some all ms f c.fair;
  once = c.once;
  gap = c.gap;
  above = c.above;
  sum = λ v. sym (weighted_more v some all ms f c.fair) ∙ c.sum v;
}

-- ---- tags that no row has
same_tag : (n : ℕ) → (n == n) ≡ true
same_tag n = grind arith

pub tagged_head : (t : ℕ) (row : Row) (rows : Tagged) → tagged ((t, row) ∷ rows) t ≡ Some row
tagged_head t row rows = ap (λ b. if b then Some row else tagged rows t) (same_tag t)

some_none : {T : Type 0} (o : Option T) (x : T) → o ≡ Some x → IsNone o → ⊥
some_none o x e h = let k = subst IsNone e h in cc

pub tail_none : (r : ℕ × Row) (rows : Tagged) (t : ℕ) → IsNone (tagged (r ∷ rows) t) → (r.0 ≢ t) × IsNone (tagged rows t)
tail_none r rows t h = (λ e. some_none (tagged (r ∷ rows) t) r.1 (subst (λ n. tagged (r ∷ rows) n ≡ Some r.1) e (tagged_head r.0 r.1 rows)) h, by (r.0 == t) refl h)
  where
    by : (b : Bool) → (r.0 == t) ≡ b → IsNone (if b then Some r.1 else tagged rows t) → IsNone (tagged rows t)
    by true e k = absurd (cc)
    by false e k = k

pub cons_none : (r : ℕ × Row) (rows : Tagged) (t : ℕ) → r.0 ≢ t → IsNone (tagged rows t) → IsNone (tagged (r ∷ rows) t)
cons_none r rows t d h = by (r.0 == t) refl
  where
    by : (b : Bool) → (r.0 == t) ≡ b → IsNone (if b then Some r.1 else tagged rows t)
    by true e = absurd (d (eqb-true r.0 t e))
    by false e = h

pub push_none : (rows : Tagged) (u : ℕ) (row : Row) (t : ℕ) → u ≢ t → IsNone (tagged rows t) → IsNone (tagged (rows ++ (u, row) ∷ []) t)
push_none [] u row t d h = cons_none (u, row) [] t d refl
push_none (r ∷ rows) u row t d h =
    let k = tail_none r rows t h in cons_none r (rows ++ (u, row) ∷ []) t k.0 (push_none rows u row t d k.1)

pub take_none : (rows : Tagged) (k t : ℕ) → IsNone (tagged rows t) → IsNone (tagged (take k rows) t)
take_none rows zero t h = refl
take_none [] (suc k) t h = refl
take_none (r ∷ rows) (suc k) t h = let p = tail_none r rows t h in cons_none r (take k rows) t p.0 (take_none rows k t p.1)

pub push_apart : (rows : Tagged) (t : ℕ) (row : Row) → AreApart rows → IsNone (tagged rows t) → AreApart (rows ++ (t, row) ∷ [])
push_apart [] t row a h = (refl, tt)
push_apart (r ∷ rows) t row a h =
    let k = tail_none r rows t h in (push_none rows t row r.0 (λ e. k.0 (sym e)) a.0, push_apart rows t row a.1 k.1)

pub take_apart : (rows : Tagged) (k : ℕ) → AreApart rows → AreApart (take k rows)
take_apart rows zero a = tt
take_apart [] (suc k) a = tt
take_apart (r ∷ rows) (suc k) a = (take_none rows k r.0 a.0, take_apart rows k a.1)

there : (rows : Tagged) (k t : ℕ) (row : Row) → slice_get rows k ≡ Some (t, row) → IsNone (tagged rows t) → ⊥
there [] k t row e h = cc
there (r ∷ rows) zero t row e h = (tail_none r rows t h).0 (let p : r ≡ (t, row) = cc in ap (λ (x : ℕ × Row). x.0) p)
there (r ∷ rows) (suc k) t row e h = there rows k t row e (tail_none r rows t h).1

-- the tag of a row is fresh among those before it
pub fresh_at : (rows : Tagged) (k t : ℕ) (row : Row) → AreApart rows → slice_get rows k ≡ Some (t, row) → IsNone (tagged (take k rows) t)
fresh_at rows zero t row a e = refl
fresh_at [] (suc k) t row a e = refl
fresh_at (r ∷ rows) (suc k) t row a e =
    cons_none r (take k rows) t (λ f. there rows k t row e (subst (λ n. IsNone (tagged rows n)) f a.0)) (fresh_at rows k t row a.1 e)

-- ---- stops at larger sizes
pub stops_more : (n m : ℕ) (stop : LinearStop) → n ≤ m → StopsBy n stop → StopsBy m stop
stops_more n m (Number e) l h = (h.0, (let k = h.1 in omega arith))
stops_more n m (Pivots k) l h = absurd h
stops_more n m Memory l h = tt

pub past_stops : (n : ℕ) (stop : LinearStop) → PastBy n stop → StopsBy n stop
past_stops n (Number e) h = h
past_stops n (Pivots k) h = absurd h
past_stops n Memory h = tt

pub stops_either : (n : ℕ) (stop : LinearStop) → (stop ≡ Memory) ⊎ ((rows : List Row) → Unit {0} → PastBy n stop) → StopsBy n stop
stops_either n (Number e) (inl h) = absurd (cc)
stops_either n (Pivots k) (inl h) = absurd (cc)
stops_either n Memory (inl h) = tt
stops_either n stop (inr f) = past_stops n stop (f [] tt)
