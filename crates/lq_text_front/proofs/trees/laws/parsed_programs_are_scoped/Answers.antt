use Rattle.lq_text_front.proofs.TreesLemmas.Parsed.{are-scoped}
use Rattle.lq_text_front.proofs.trees.laws.parsed_programs_are_scoped.Goals as goal

pub returns : goal.returns
returns c = are-scoped c.same_trees.ensures.programs c.bound_programs_are_scoped.ensures c.few_tokens.ensures
