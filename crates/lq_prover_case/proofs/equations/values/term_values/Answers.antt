use Rattle.lq_prover_case.specs.State.RowState.{row_point}
use Rattle.lq_prover_case.proofs.EquationsLemmas.Numbers.{count_push, numbers_push}
use Rattle.lq_prover_case.proofs.equations.values.term_values.Goals as goal

pub loop-term-preserved : goal.loop-term-preserved
loop-term-preserved c =
    let old = c.loop-term.numbers.items in
    let new = c.push.new.self.items in
    let x = c.value.result in record {
      count = count_push old new x c.loop-term.term c.in_ok-push.ensures.items c.loop-term.invariant.count;
      each = numbers_push old new x (row_point c.args.state.now.rows) c.loop-term.term c.in_ok-push.ensures.items c.loop-term.invariant.count c.value.ensures c.loop-term.invariant.each;
    }
