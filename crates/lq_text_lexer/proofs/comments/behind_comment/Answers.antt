use Rattle.std.proofs.Common.{arith}
use Rattle.lq_text_lexer.proofs.Ends.{by_opening, by_closing, by_other, is_open, has_ended}
use Rattle.lq_text_lexer.proofs.comments.behind_comment.Goals as goal

pub nested-preserved-in-Opening : goal.nested-preserved-in-Opening
nested-preserved-in-Opening c = record {
  stands = c.behind-cursor.ensures.stands;
  further = omega (arith, c.behind-cursor.ensures.at, c.nested.invariant.further);
  shallow = omega (arith, c.behind-cursor.ensures.at, c.nested.invariant.shallow);
  same = by_opening _ _ _ _ _ c.nested-test.true c.in-Opening.ensures.mark c.behind-cursor.ensures.at c.nested.invariant.same;
}

pub nested-preserved-in-Closing : goal.nested-preserved-in-Closing
nested-preserved-in-Closing c = record {
  stands = c.behind-cursor-in-Closing.ensures.stands;
  further = omega (arith, c.behind-cursor-in-Closing.ensures.at, c.nested.invariant.further);
  shallow = omega (arith, c.behind-cursor-in-Closing.ensures.at, c.nested.invariant.shallow);
  same = by_closing _ _ _ _ _ c.nested-test.true c.in-Closing.ensures.mark c.behind-cursor-in-Closing.ensures.at c.nested.invariant.same;
}

pub nested-preserved : goal.nested-preserved
nested-preserved c = record {
  stands = c.next-cursor.ensures.stands;
  further = omega (arith, c.next-cursor.ensures.at, c.nested.invariant.further);
  shallow = omega (arith, c.next-cursor.ensures.at, c.nested.invariant.shallow);
  same = by_other _ _ _ _ _ c.nested-test.true c.in-Other.ensures.mark c.next-cursor.ensures.at c.nested.invariant.same;
}

pub returns-in-End-clause-open : goal.returns-in-End-clause-open
returns-in-End-clause-open c = is_open _ _ _ c.nested-test.true c.in-End.ensures.mark c.nested.invariant.same

pub returns-clause-ends : goal.returns-clause-ends
returns-clause-ends c = has_ended _ _ _ (omega (arith, c.nested-test.false)) c.nested.invariant.same
