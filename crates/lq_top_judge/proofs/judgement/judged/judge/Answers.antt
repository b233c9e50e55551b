use Rattle.lq_text_front.specs.Bytes.Stages.{bytes_of}
use Rattle.lq_top_judge.proofs.JudgementLemmas.Answering.{decided_of, exact_ok}
use Rattle.lq_top_judge.proofs.judgement.judged.judge.Goals as goal

pub returns-clause-decided : goal.returns-clause-decided
returns-clause-decided c =
    let b = bytes_of c.args.program.now c.args.measures.now c.args.quals.now in
    let due = c.in_ok-judged.ensures.judged in
    decided_of c.small_are_decided.ensures c.args.limit b c.in_ok-judged.judged.judgement (due.0, due.1, due.2)

pub returns-clause-exact : goal.returns-clause-exact
returns-clause-exact c =
    let b = bytes_of c.args.program.now c.args.measures.now c.args.quals.now in
    let due = c.in_ok-judged.ensures.judged in
    exact_ok c.one_judgement.ensures c.args.limit b c.in_ok-judged.judged.judgement (due.0, due.1, due.2)
