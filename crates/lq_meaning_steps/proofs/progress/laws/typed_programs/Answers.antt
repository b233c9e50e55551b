use Rattle.lq_meaning_steps.proofs.ProgressLemmas.Running.{typed_is_never_stuck}
use Rattle.lq_meaning_steps.proofs.ProgressLemmas.FromTrees.{annotated_is_never_stuck}
use Rattle.lq_meaning_steps.proofs.progress.laws.typed_programs.Goals as goal

pub returns-clause-items : goal.returns-clause-items
returns-clause-items c = typed_is_never_stuck

pub returns-clause-never_stuck : goal.returns-clause-never_stuck
returns-clause-never_stuck c = annotated_is_never_stuck
