-- The pure expression that one in memory stands for.
use Rattle.std.specs.Prelude.{List, map}
use Rattle.lq_refined_rules.specs.Checks.Tree as t
use Rattle.lq_refined_templates.specs.declared.programs.pure.Pure.{Pure, fold-Pure}
use Rattle.lq_refined_templates.specs.declared.programs.pure.Pure.TheOpen.{Pure-F}
use Rattle.lq_refined_templates.specs.declared.programs.pure.RingOp.{RingOp}
use Rattle.lq_refined_templates.specs.declared.programs.pure.RingOp.TheVariants as ring
use Rattle.lq_refined_templates.specs.declared.programs.pure.Use.{Use}

abbrev pub use_view : Use → t.Use
use_view u = record { name = u.name.0; type_arguments = u.type_arguments }

abbrev pub ring_view : RingOp → t.Pure → t.Pure → t.Pure
ring_view ring.Add a b = t.add a b
ring_view ring.Sub a b = t.subtract a b
ring_view ring.Mul a b = t.multiply a b

-- one level, with each expression inside already seen
abbrev pub pure_step : Pure-F t.Pure → t.Pure
pure_step (Pure-F.Whole n) = t.whole n
pure_step (Pure-F.Flag b) = t.flag b
pure_step Pure-F.Unit = t.unit
pure_step (Pure-F.Use u) = t.use_of (use_view u)
pure_step (Pure-F.Neg a) = t.negated a.value
pure_step (Pure-F.Ring o a b) = ring_view o a.value b.value
pure_step (Pure-F.Length a) = t.length_of a.value
pure_step (Pure-F.Compare o a b) = t.compare o a.value b.value
pure_step (Pure-F.Not a) = t.not_of a.value
pure_step (Pure-F.And a b) = t.and_of a.value b.value
pure_step (Pure-F.Or a b) = t.or_of a.value b.value

abbrev pub pure_view : Pure → t.Pure
pure_view = fold-Pure t.Pure pure_step

abbrev pub pures_view : List Pure → List t.Pure
pures_view = map pure_view
