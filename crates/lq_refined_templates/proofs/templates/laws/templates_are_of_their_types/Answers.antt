use Rattle.lq_refined_templates.proofs.TemplatesLemmas.Erasing.{fresh_erased}
use Rattle.lq_refined_templates.proofs.templates.laws.templates_are_of_their_types.Goals as goal

pub returns : goal.returns
returns c = fresh_erased
