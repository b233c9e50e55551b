use Rattle.lq_top_judge.proofs.JudgementLemmas.Safe.{decided}
use Rattle.lq_top_judge.proofs.judgement.laws.small_are_decided.Goals as goal

pub returns : goal.returns
returns c = decided
