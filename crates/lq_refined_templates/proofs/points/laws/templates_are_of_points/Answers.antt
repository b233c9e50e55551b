use Rattle.lq_refined_templates.proofs.PointsLemmas.Erasing.{points_erased, template_erased}
use Rattle.lq_refined_templates.proofs.points.laws.templates_are_of_points.Goals as goal

pub returns : goal.returns
returns c = λ D ps. let law = c.templates_are_of_their_types.ensures in
    record { templates = λ p. template_erased law D 0 ps p; type_arguments = λ i. points_erased law D 0 ps i }
