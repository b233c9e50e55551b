use Rattle.std.proofs.Common.{◌≡◌, ◌<◌, arith, drop, length, subst, sym}
use Rattle.lq_solve_fixpoint.specs.Weakening.Index.{IsWithinOne, spans_at}
use Rattle.lq_solve_fixpoint.proofs.QuestionsLemmas.Covering.{written}
use Rattle.lq_solve_fixpoint.proofs.questions.spans.unknown_spans.Goals as goal

pub add_all-requires-clause-below : goal.add_all-requires-clause-below
add_all-requires-clause-below c u at k here speaks =
    let h : u < c.args.unknowns = c.requires u at k here speaks in omega (arith, h)

pub returns : goal.returns
returns c u at k here speaks =
    let new = c.add_all.new.spans in
    let old = c.in_ok-spans.spans.items in
    let n = c.in_ok-spans.spans.len in
    let l : length new ≡ n = omega arith in
    subst (λ xs. IsWithinOne (spans_at xs u) at) (sym (written new (drop (length new) old) n l)) (c.in_ok-add_all.ensures u at k here speaks)
