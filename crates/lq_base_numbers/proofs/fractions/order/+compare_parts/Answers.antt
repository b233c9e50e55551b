use Rattle.std.proofs.Common.{◌*◌, ◌/◌, ◌%◌, ◌<◌, arith, ap, ◌∙◌}
use Rattle.std.proofs.Math.Nat.{mul-pos}
use Rattle.lq_base_numbers.proofs.FractionsLemmas.Quotients.{below_by_quotient, same_quotient, Less-from, Greater-from, Equal-from, same_order}
use Rattle.lq_base_numbers.proofs.fractions.order.+compare_parts.Goals as goal

pub returns-then-whole-other_whole : goal.returns-then-whole-other_whole
returns-then-whole-other_whole t c = Less-from _ _ (below_by_quotient _ _ _ _ c.requires.first c.requires.second c.if-whole-other_whole.true)

pub returns-then-other_whole-whole : goal.returns-then-other_whole-whole
returns-then-other_whole-whole t c = Greater-from _ _ (below_by_quotient _ _ _ _ c.requires.second c.requires.first c.if-other_whole-whole.true)

pub returns-then-other_rest-eq0 : goal.returns-then-other_rest-eq0
returns-then-other_rest-eq0 t c =
    let s = same_quotient c.args.a c.args.b c.args.c c.args.d (omega arith) in
    Equal-from (c.args.a * c.args.d) (c.args.c * c.args.b) (omega (arith, s, ap (λ n. n * c.args.d) c.if-rest-eq0.true, ap (λ n. n * c.args.b) c.if-other_rest-eq0.true))

pub returns-else-other_rest-eq0 : goal.returns-else-other_rest-eq0
returns-else-other_rest-eq0 t c =
    let s = same_quotient c.args.a c.args.b c.args.c c.args.d (omega arith) in
    let some : 0 < c.args.c % c.args.d = omega arith in
    Less-from (c.args.a * c.args.d) (c.args.c * c.args.b) (omega (arith, s, ap (λ n. n * c.args.d) c.if-rest-eq0.true, mul-pos some c.requires.first))

pub returns-then-other_rest-eq0-2 : goal.returns-then-other_rest-eq0-2
returns-then-other_rest-eq0-2 t c =
    let s = same_quotient c.args.a c.args.b c.args.c c.args.d (omega arith) in
    let some : 0 < c.args.a % c.args.b = omega arith in
    Greater-from (c.args.a * c.args.d) (c.args.c * c.args.b) (omega (arith, s, ap (λ n. n * c.args.b) c.if-other_rest-eq0-2.true, mul-pos some c.requires.second))

pub returns-else-other_rest-eq0-2 : goal.returns-else-other_rest-eq0-2
returns-else-other_rest-eq0-2 t c =
    let s = same_quotient c.args.a c.args.b c.args.c c.args.d (omega arith) in
    c.compare_parts.ensures
    ∙ same_order (c.args.a / c.args.b * c.args.b * c.args.d) (c.args.a % c.args.b * c.args.d) (c.args.c % c.args.d * c.args.b)
    (c.args.d * (c.args.a % c.args.b)) (c.args.b * (c.args.c % c.args.d)) (c.args.a * c.args.d) (c.args.c * c.args.b)
    (omega arith) (omega arith) s.0 s.1
