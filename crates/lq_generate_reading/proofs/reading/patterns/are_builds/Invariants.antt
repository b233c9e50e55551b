use Rattle.std.proofs.Common.{◌≡◌, drop}
use Rattle.lq_refined_templates.specs.Points.Reading.{are_builds}
use Rattle.lq_generate_reading.specs.Reading.Blocks.{patterns_view}
use Rattle.lq_generate_reading.proofs.reading.patterns.are_builds.Given as goal

abbrev pub invariant-loop-arm : goal.invariant-loop-arm
invariant-loop-arm l = are_builds (patterns_view l.arms) ≡ are_builds (patterns_view (drop l.arm-index l.arms))
