use Rattle.std.proofs.Common.{◌≡◌, true, false, sym, subst}
use Rattle.lq_logic_predicates.specs.ClosedImplication.{IsPoint}
use Rattle.lq_logic_predicates.specs.PredView.{implication_of}
use Rattle.lq_logic_predicates.specs.TableView.{terms_of}
use Rattle.lq_logic_points.specs.Values.{point_from, flags_of, classes_of}
use Rattle.lq_logic_points.proofs.point.Point.new.Goals as goal

pub returns-then-not-meets-clause-none : goal.returns-then-not-meets-clause-none
returns-then-not-meets-clause-none c = λ p.
    let i = implication_of c.args.implication.now in let values = c.args.values in
    let both = c.in_ok-meets.ensures.answer (flags_of values) in
    let yes : c.in_ok-meets.meets ≡ true =
    both.1 (subst (λ l. IsPoint i (point_from (terms_of values.table) l (flags_of values) (classes_of values))) (sym c.as_slice.ensures.value) p) in
    let no : c.in_ok-meets.meets ≡ false = c.if-not-meets.true in cc

pub returns-clause-some : goal.returns-clause-some
returns-clause-some c =
    let i = implication_of c.args.implication.now in let values = c.args.values in
    let both = c.in_ok-meets.ensures.answer (flags_of values) in
    subst (λ l. IsPoint i (point_from l values.numbers.items (flags_of values) (classes_of values))) (sym c.in_ok-meets.ensures.same)
    (subst (λ l. IsPoint i (point_from (terms_of values.table) l (flags_of values) (classes_of values))) c.as_slice.ensures.value (both.0 c.if-not-meets.false))
