use Rattle.std.proofs.Common.{arith}
use Rattle.lq_text_lexer.proofs.Numbers.{next_digit}
use Rattle.lq_text_lexer.proofs.front.value_of.Goals as goal

pub returns-then-value-digit : goal.returns-then-value-digit
returns-then-value-digit c = λ small.
    let more = next_digit c.args.digits.now c.loop-b.b-index c.loop-b.value c.loop-b-test.true c.if-b-ne95.true in
    omega (arith, more, small, c.loop-b.invariant.1, c.saturating_sub.ensures, c.from-digit.ensures)
