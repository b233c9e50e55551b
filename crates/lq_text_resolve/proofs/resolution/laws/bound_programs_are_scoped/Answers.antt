use Rattle.lq_text_resolve.proofs.ResolutionLemmas.Programs.{bound_programs_are_scoped}
use Rattle.lq_text_resolve.proofs.resolution.laws.bound_programs_are_scoped.Goals as goal

pub returns : goal.returns
returns c = bound_programs_are_scoped
