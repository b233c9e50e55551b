use Rattle.lq_refined_templates.proofs.PointsLemmas.Numbering.{points_numbered}
use Rattle.lq_refined_templates.proofs.points.laws.unknowns_are_numbered.Goals as goal

pub returns : goal.returns
returns c = λ D ps. points_numbered c.templates_number_their_unknowns.ensures D 0 ps
