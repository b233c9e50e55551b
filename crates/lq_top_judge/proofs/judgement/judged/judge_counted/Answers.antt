use Rattle.lq_text_front.specs.Bytes.Stages.{bytes_of}
use Rattle.lq_top_judge.proofs.JudgementLemmas.Answering.{safe_of}
use Rattle.lq_top_judge.proofs.judgement.judged.judge_counted.Goals as goal

pub returns-in-Err-clause-refused : goal.returns-in-Err-clause-refused
returns-in-Err-clause-refused c =
    c.refusal_of.ensures c.args.limit (bytes_of c.args.program.now c.args.measures.now c.args.quals.now) c.in-Err.ensures.refused

pub returns-clause-safe : goal.returns-clause-safe
returns-clause-safe c =
    let b = bytes_of c.args.program.now c.args.measures.now c.args.quals.now in
    let posed = c.in-Ok.ensures.posed in
    safe_of c.accepted_are_safe.ensures c.in-Ok.posed c.args.limit b c.requires.program posed.0 c.in_ok-judged.judged.judgement posed.1 posed.2
    (c.in_ok-judged.ensures posed.0 posed.2).0
