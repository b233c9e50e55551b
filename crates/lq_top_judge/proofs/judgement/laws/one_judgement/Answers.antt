use Rattle.lq_top_judge.proofs.JudgementLemmas.Agreement.{one_verdict}
use Rattle.lq_top_judge.proofs.judgement.laws.one_judgement.Goals as goal

pub returns : goal.returns
returns c =
    one_verdict
    record {
      past = c.sources_have_the_literals.ensures.past;
      first = c.some_instances_gather.ensures.first;
      failures = c.failures_differ_in_values.ensures.failures;
      explanations = c.failures_differ_in_values.ensures.explanations;
    }
    c.one_posing.ensures
