use Rattle.lq_refined_substitution.proofs.ImplicationsLemmas.Environments.{first-there, first-empty}
use Rattle.lq_refined_substitution.proofs.implications.list.Implications.no_hypotheses.Goals as goal

pub invariant_of-result : goal.invariant_of-result
invariant_of-result c = record { there = first-there c.args.self.now.environments.entries.items }

pub returns : goal.returns
returns c = first-empty c.args.self.now.parts.items c.args.self.now.environments.entries.items
