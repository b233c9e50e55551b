use Rattle.lq_refined_templates.proofs.TemplatesLemmas.Numbering.{fresh_numbered}
use Rattle.lq_refined_templates.proofs.templates.laws.templates_number_their_unknowns.Goals as goal

pub returns : goal.returns
returns c = fresh_numbered
