use Rattle.std.specs.Fmt.{digits}
use Rattle.std.specs.Prelude.{codes}
use Rattle.std.proofs.Common.{◌≡◌, ℕ, ◌++◌, pos, List, [], ◌∷◌, sym, ap, ◌∙◌, arith}
use Rattle.std.proofs.Math.Nat.{eq-one_of_dvd-one}
use Rattle.lq_base_numbers.specs.Rationals.LowestTerms.{IsLowest}
use Rattle.lq_base_numbers.specs.Rationals.Rational.{ℚ, ratio}
use Rattle.lq_logic_predicates.specs.Formula.{Formula}
use Rattle.lq_logic_predicates.specs.Points.{Point}
use Rattle.lq_logic_predicates.specs.Sum.{len}
use Rattle.lq_logic_predicates.specs.declared.symbol.Symbol.TheVariants.{Bound}
use Rattle.lq_logic_text.specs.Predicates.{formula_text}
use Rattle.lq_top_answers.specs.Failure.Examples.{example, bound, demand_at, flow_at, half, lengths}
use Rattle.lq_top_answers.specs.Failure.Failures.{rejected_lines, sides_text}
use Rattle.lq_top_answers.specs.Failure.Heads.{line_at}
use Rattle.lq_top_answers.specs.Failure.Occurrences.{Valued, number, object, shown}
use Rattle.lq_top_answers.specs.Failure.PointLines.{PointValue, at_number, at_class, classes_among, valued_lines, ShowsPoint}
use Rattle.lq_top_answers.proofs.FailureLemmas.Shown.{read, read_none, number_is, first_class}
use Rattle.lq_top_answers.proofs.failure.laws.examples.Goals as goal

half_lowest : (x : ℚ) → x ≡ ratio (pos 1) 2 → IsLowest x (pos 1) 2
half_lowest x e = record { positive = omega arith; lowest = λ k p q. eq-one_of_dvd-one p; same = sym e }

whole_lowest : (x : ℚ) (n : ℕ) → x ≡ ratio (pos n) 1 → IsLowest x (pos n) 1
whole_lowest x n e = record { positive = omega arith; lowest = λ k p q. eq-one_of_dvd-one q; same = sym e }

half_lines : (p : Point) (lines : List ℕ) → p.number (bound 0) ≡ ratio (pos 1) 2 → ShowsPoint example half p lines → lines ≡ valued_lines example ((number (bound 0), at_number (pos 1) 2) ∷ [])
half_lines p lines e s =
    let ks = classes_among p (shown half) in
    let a = read p ks (number (bound 0)) [] s.lines s.valued.of s.valued.values in
    let v = number_is p ks (bound 0) a.value (pos 1) 2 (half_lowest (p.number (bound 0)) e) a.holds in
    s.written ∙ ap (valued_lines example) (a.is ∙ ap (λ (l : List (Valued × PointValue)). (number (bound 0), a.value) ∷ l) (read_none a.rest a.of) ∙ ap (λ (w : PointValue). (number (bound 0), w) ∷ []) v)

length_lines : (p : Point) (lines : List ℕ) → p.number (len (bound 1)) ≡ ratio (pos 3) 1 → p.number (bound 2) ≡ ratio (pos 0) 1 → ShowsPoint example lengths p lines
    → lines ≡ valued_lines example ((object (Bound record { 0 = 1 }), at_class 1) ∷ (number (len (bound 1)), at_number (pos 3) 1) ∷ (number (bound 2), at_number (pos 0) 1) ∷ [])
length_lines p lines e f s =
    let ks = classes_among p (shown lengths) in
    let o = object (Bound record { 0 = 1 }) in
    let l = number (len (bound 1)) in
    let b = number (bound 2) in
    let x = read p ks o (l ∷ b ∷ []) s.lines s.valued.of s.valued.values in
    let y = read p ks l (b ∷ []) x.rest x.of x.values in
    let z = read p ks b [] y.rest y.of y.values in
    let v = first_class p (Bound record { 0 = 1 }) [] x.value x.holds in
    let w = number_is p ks (len (bound 1)) y.value (pos 3) 1 (whole_lowest (p.number (len (bound 1))) 3 e) y.holds in
    let u = number_is p ks (bound 2) z.value (pos 0) 1 (whole_lowest (p.number (bound 2)) 0 f) z.holds in
    s.written ∙ ap (valued_lines example)
    (x.is ∙ ap (λ (m : List (Valued × PointValue)). (o, x.value) ∷ m) (y.is ∙ ap (λ (m : List (Valued × PointValue)). (l, y.value) ∷ m) (z.is ∙ ap (λ (m : List (Valued × PointValue)). (b, z.value) ∷ m) (read_none z.rest z.of)))
    ∙ ap (λ (q : PointValue). (o, q) ∷ (l, y.value) ∷ (b, z.value) ∷ []) v
    ∙ ap (λ (q : PointValue). (o, at_class 1) ∷ (l, q) ∷ (b, z.value) ∷ []) w
    ∙ ap (λ (q : PointValue). (o, at_class 1) ∷ (l, at_number (pos 3) 1) ∷ (b, q) ∷ []) u)

pub returns-clause-half : goal.returns-clause-half
unfolding digits
returns-clause-half c = λ p text e is.
    is.written ∙ ap (λ (l : List ℕ). l ++ sides_text example half) (is.fails.written ∙ ap (λ (l : List ℕ). rejected_lines (demand_at 1 48 ∷ []) 0 ++ l) (half_lines p is.fails.lines e is.fails.shows))

pub returns-clause-length : goal.returns-clause-length
unfolding digits
returns-clause-length c = λ p text e f is.
    is.written ∙ ap (λ (l : List ℕ). rejected_lines (demand_at 1 1 ∷ flow_at 2 1 ∷ demand_at 2 5 ∷ demand_at 3 1 ∷ demand_at 4 10 ∷ []) 4 ++ l) (length_lines p is.lines e f is.shows)

pub returns-clause-large : goal.returns-clause-large
unfolding digits
returns-clause-large c = λ pred e.
    ap (λ (q : Formula). codes "undecided\n" ++ line_at (demand_at 1 1 ∷ demand_at 2 7 ∷ []) 1 ++ (codes "number past in " ++ formula_text example q ++ codes "\n")) e
