-- The row that two terms are equal which apply one function is that of one of the pairs of terms.
use Rattle.std.proofs.Common.{◌≡◌, ℕ, zero, suc, ◌<◌, List, [], ◌∷◌, Bool, Option, Some, None, slice_get, refl, sym, subst, arith, eq-eqb, if◌then◌else◌}
use Rattle.std.specs.List.{Contains}
use Rattle.std.proofs.lemmas.List.Elements.{Contains-append_left, Contains-append_right}
use Rattle.lq_base_names.specs.declared.name.Name.{Name}
use Rattle.lq_logic_predicates.specs.Comparison.{Comparison}
use Rattle.lq_logic_predicates.specs.Literals.{all_pairs, equal_row, pair_rows, rows_with}
use Rattle.lq_logic_predicates.specs.Sum.{Sum, measure}
use Rattle.lq_prover_case.specs.Equations.Equating.{AreOneFunction, applied}

abbrev AreIn : List Comparison → List Comparison → Type 0
AreIn xs ys = (c : Comparison) → Contains xs c → Contains ys c

term_with : (s : Sum) (ts : List Sum) (k : ℕ) (t : Sum) → slice_get ts k ≡ Some t → AreIn (pair_rows s t) (rows_with s ts)
term_with s [] k t e = cc
term_with s (x ∷ ts) zero t e = λ c m. let same : t ≡ x = cc in Contains-append_left (pair_rows s x) (rows_with s ts) c (subst (λ z. Contains (pair_rows s z) c) same m)
term_with s (x ∷ ts) (suc k) t e = λ c m. Contains-append_right (pair_rows s x) (rows_with s ts) c (term_with s ts k t e c m)

terms_among : (ts : List Sum) (j k : ℕ) (s t : Sum) → j < k → slice_get ts j ≡ Some s → slice_get ts k ≡ Some t → AreIn (pair_rows s t) (all_pairs ts)
terms_among [] j k s t l e f = cc
terms_among (x ∷ ts) zero zero s t l e f = absurd (omega (arith, l))
terms_among (x ∷ ts) zero (suc k) s t l e f = λ c m.
    let same : s ≡ x = cc in Contains-append_left (rows_with x ts) (all_pairs ts) c (term_with x ts k t f c (subst (λ z. Contains (pair_rows z t) c) same m))
terms_among (x ∷ ts) (suc j) zero s t l e f = absurd (omega (arith, l))
terms_among (x ∷ ts) (suc j) (suc k) s t l e f = λ c m.
    let w : j < k = omega (arith, l) in Contains-append_right (rows_with x ts) (all_pairs ts) c (terms_among ts j k s t w e f c m)

applied_rows : (m : Option Name) (a b : Sum) → Contains (pair_rows (applied m a) (applied m b)) (equal_row (applied m a) (applied m b))
applied_rows None a b = (0, omega arith, refl)
applied_rows (Some f) a b =
    subst (λ (q : Bool). Contains (if q then equal_row (measure f a) (measure f b) ∷ [] else []) (equal_row (measure f a) (measure f b))) (sym (eq-eqb f.0 f.0 refl)) (0, omega arith, refl)

pub equation_among : (terms : List Sum) (p : ℕ × ℕ) → (one : AreOneFunction terms p) → Contains (all_pairs terms) (equal_row (applied one.function one.left) (applied one.function one.right))
equation_among terms p one =
    terms_among terms p.0 p.1 (applied one.function one.left) (applied one.function one.right) one.before one.is_left one.is_right
    (equal_row (applied one.function one.left) (applied one.function one.right)) (applied_rows one.function one.left one.right)
