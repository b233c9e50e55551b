use Rattle.lq_refined_templates.specs.Points.Templates.{basis_of}
use Rattle.lq_sound_adequacy.proofs.points.laws.templates_are_subtypes_of_themselves.Goals as goal

pub returns : goal.returns
returns c =
    λ D w ps A Γ p. c.subtyping_is_reflexive.ensures (basis_of D ps).setting A Γ ((basis_of D ps).template p) (c.templates_have_own_places.ensures D w ps p)
