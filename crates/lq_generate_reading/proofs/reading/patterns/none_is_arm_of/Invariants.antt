use Rattle.std.proofs.Common.{◌≡◌, drop}
use Rattle.lq_refined_templates.specs.Points.Reading.{none_is_arm_of}
use Rattle.lq_generate_reading.specs.Reading.Blocks.{patterns_view}
use Rattle.lq_generate_reading.proofs.reading.patterns.none_is_arm_of.Given as goal

abbrev pub invariant-loop-arm : goal.invariant-loop-arm
invariant-loop-arm l = none_is_arm_of l.name.0 (patterns_view l.arms) ≡ none_is_arm_of l.name.0 (patterns_view (drop l.arm-index l.arms))
