use Rattle.lq_top_judge.proofs.JudgementLemmas.Safe.{safe}
use Rattle.lq_top_judge.proofs.judgement.laws.accepted_are_safe.Goals as goal

pub returns : goal.returns
returns c =
    safe
    record {
      known = c.noted_are_known.ensures;
      scoped = c.instances_are_scoped.ensures;
      safe = c.texts_are_safe.ensures;
      qualifiers = c.qualifiers_are_sorted.ensures;
      instances = c.instances_are_sorted.ensures;
      covariant = c.named_programs_are_covariant.ensures;
    }
