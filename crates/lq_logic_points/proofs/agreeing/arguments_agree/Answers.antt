use Rattle.std.proofs.Common.{◌≡◌, [], ◌∷◌, Err, IfErr, refl, sym, subst, rules}
use Rattle.lq_base_numbers.specs.Rationals.Rational.{◌-ℚ◌}
use Rattle.lq_base_numbers.specs.Fractions.Value.{value_of}
use Rattle.lq_base_numbers.specs.declared.fractions.past.NumberPast.{NumberPast}
use Rattle.lq_logic_predicates.specs.Literals.{equal_row}
use Rattle.lq_logic_predicates.specs.Points.{form_at}
use Rattle.lq_logic_predicates.specs.TableView.{terms_of}
use Rattle.lq_logic_predicates.specs.TermView.{sum_of}
use Rattle.lq_logic_points.specs.declared.error.PointError.{PointError}
use Rattle.lq_logic_points.specs.declared.error.PointError.TheVariants.{Past}
use Rattle.lq_logic_points.specs.Evaluation.{IsStepOf}
use Rattle.lq_logic_points.specs.Values.{point_from}
use Rattle.lq_logic_points.proofs.Agreement.{IsApart, first_apart, second_apart, near}
use Rattle.lq_logic_points.proofs.Reading.{widened, contains_first, contains_second}
use Rattle.lq_logic_points.proofs.agreeing.arguments_agree.Goals as goal

pub returns-in_err-first-clause-step : goal.returns-in_err-first-clause-step
returns-in_err-first-clause-step c =
    let a = equal_row (sum_of c.args.left.0.now) (sum_of c.args.right.0.now) in let b = equal_row (sum_of c.args.left.1.now) (sum_of c.args.right.1.now) in
    let terms = terms_of c.args.table.now in let numbers = c.args.numbers.now in
    let P = λ (x : PointError). (n : NumberPast) → x ≡ Past n → IsStepOf (a ∷ (b ∷ [])) terms numbers n in
    let was : c.from_residual.result ≡ Err c.in_err-first.field-0.0 = search rules in
    let here : P c.in_err-first.field-0.0 = λ n h. widened (a ∷ []) (a ∷ (b ∷ [])) terms numbers n (contains_first a b) (c.in_err-first.ensures.step n h) in
    subst (λ r. IfErr r P) (sym was) here

pub returns-in_err-second-clause-step : goal.returns-in_err-second-clause-step
returns-in_err-second-clause-step c =
    let a = equal_row (sum_of c.args.left.0.now) (sum_of c.args.right.0.now) in let b = equal_row (sum_of c.args.left.1.now) (sum_of c.args.right.1.now) in
    let terms = terms_of c.args.table.now in let numbers = c.args.numbers.now in
    let P = λ (x : PointError). (n : NumberPast) → x ≡ Past n → IsStepOf (a ∷ (b ∷ [])) terms numbers n in
    let was : c.from_residual-in_err-second.result ≡ Err c.in_err-second.field-0.0 = search rules in
    let here : P c.in_err-second.field-0.0 =
    λ n h. widened (b ∷ []) (a ∷ (b ∷ [])) terms numbers n (contains_second a b) (subst (λ l. IsStepOf (b ∷ []) l numbers n) c.in_ok-first.ensures.same (c.in_err-second.ensures.step n h)) in
    subst (λ r. IfErr r P) (sym was) here

pub returns-then-is_apart-clause-answer : goal.returns-then-is_apart-clause-answer
returns-then-is_apart-clause-answer c = λ flags classes r s same.
    let p = point_from (terms_of c.args.table.now) c.args.numbers.now flags classes in
    let apart = c.is_apart.ensures.0 c.if-is_apart.true in (
      λ _. first_apart p (sum_of c.args.left.0.now) (sum_of c.args.left.1.now) (sum_of c.args.right.0.now) (sum_of c.args.right.1.now) r s
          (value_of c.in_ok-first.first) (c.in_ok-first.ensures.value flags classes) apart,
      λ _. refl,
    )

pub returns-then-is_apart-2-clause-answer : goal.returns-then-is_apart-2-clause-answer
returns-then-is_apart-2-clause-answer c = λ flags classes r s same.
    let terms = terms_of c.args.table.now in let numbers = c.args.numbers.now in
    let p = point_from terms numbers flags classes in
    let apart = c.is_apart-2.ensures.0 c.if-is_apart-2.true in
    let b = sum_of c.args.left.1.now in let d = sum_of c.args.right.1.now in let y = value_of c.in_ok-second.second in
    let value : y ≡ form_at p b -ℚ form_at p d =
    subst (λ l. y ≡ form_at (point_from l numbers flags classes) b -ℚ form_at (point_from l numbers flags classes) d) c.in_ok-first.ensures.same (c.in_ok-second.ensures.value flags classes) in
    (λ _. second_apart p (sum_of c.args.left.0.now) b (sum_of c.args.right.0.now) d r s y value apart, λ _. refl)

pub returns-then-are_zero-clause-answer : goal.returns-then-are_zero-clause-answer
returns-then-are_zero-clause-answer c = λ flags classes r s same.
    let terms = terms_of c.args.table.now in let numbers = c.args.numbers.now in
    let p = point_from terms numbers flags classes in
    let b = sum_of c.args.left.1.now in let d = sum_of c.args.right.1.now in let y = value_of c.in_ok-second.second in
    let value : y ≡ form_at p b -ℚ form_at p d =
    subst (λ l. y ≡ form_at (point_from l numbers flags classes) b -ℚ form_at (point_from l numbers flags classes) d) c.in_ok-first.ensures.same (c.in_ok-second.ensures.value flags classes) in
    let not_first : ¬ IsApart (value_of c.in_ok-first.first) = λ h. let t = c.is_apart.ensures.1 h in cc (t, c.if-is_apart.false) in
    let not_second : ¬ IsApart y = λ h. let t = c.is_apart-2.ensures.1 h in cc (t, c.if-is_apart-2.false) in
    let both = near p (sum_of c.args.left.0.now) b (sum_of c.args.right.0.now) d r s (value_of c.in_ok-first.first) y (c.in_ok-first.ensures.value flags classes) value not_first not_second in
    let zero = c.are_zero.ensures.0 c.if-are_zero.true in
    (λ h. both.0 zero.0 zero.1 (same.0 h), λ h. same.1 ((both.1 h).2))

pub returns-else-are_zero-clause-answer : goal.returns-else-are_zero-clause-answer
returns-else-are_zero-clause-answer c = λ flags classes r s same.
    let terms = terms_of c.args.table.now in let numbers = c.args.numbers.now in
    let p = point_from terms numbers flags classes in
    let b = sum_of c.args.left.1.now in let d = sum_of c.args.right.1.now in let y = value_of c.in_ok-second.second in
    let value : y ≡ form_at p b -ℚ form_at p d =
    subst (λ l. y ≡ form_at (point_from l numbers flags classes) b -ℚ form_at (point_from l numbers flags classes) d) c.in_ok-first.ensures.same (c.in_ok-second.ensures.value flags classes) in
    let not_first : ¬ IsApart (value_of c.in_ok-first.first) = λ h. let t = c.is_apart.ensures.1 h in cc (t, c.if-is_apart.false) in
    let not_second : ¬ IsApart y = λ h. let t = c.is_apart-2.ensures.1 h in cc (t, c.if-is_apart-2.false) in
    let both = near p (sum_of c.args.left.0.now) b (sum_of c.args.right.0.now) d r s (value_of c.in_ok-first.first) y (c.in_ok-first.ensures.value flags classes) value not_first not_second in
    (λ h. let f = c.if-are_zero.false in cc, λ h. let m = both.1 h in c.are_zero.ensures.1 (m.0, m.1))
