use Rattle.lq_refined_templates.specs.Points.Reading.{program_of}
use Rattle.lq_refined_templates.specs.Points.Templates.{basis_of, points_of}
use Rattle.lq_sound_readiness.proofs.programs.laws.normal_programs_are_ready.Goals as goal

pub returns : goal.returns
returns c D n is normal typed uses differ =
    let p = program_of n is in
    c.typed_is_ready.ensures (basis_of D p.points) (points_of p.points) p.read (c.templates_are_of_points.ensures D p.points)
    (c.what_is_read_is_typed.ensures D n is normal typed uses) differ
