use Rattle.std.specs.Prelude.{slice_index}
use Rattle.std.proofs.Common.{◌≡◌, suc, ◌-◌, ◌^◌, [], drop, ap, arith}
use Rattle.std.proofs.lemmas.List.{drop_all}
use Rattle.lq_types_infer.specs.Annotation.Measuring.{total}
use Rattle.lq_types_infer.proofs.AnnotationLemmas.Measuring.{at_end}
use Rattle.lq_types_infer.proofs.annotation.measures.size_over.Goals as goal

pub returns : goal.returns
returns c =
    let none : drop c.loop-part.part-index c.args.parts.now ≡ [] = drop_all c.loop-part.part-index c.args.parts.now
    (omega (arith, c.loop-part-test.false)) in
    at_end c.loop-part.size (total (λ p. slice_index c.args.sizes.now p) (drop c.loop-part.part-index c.args.parts.now))
    (suc (total (λ p. slice_index c.args.sizes.now p) c.args.parts.now)) (2 ^ 64 - 1) (ap (total (λ p. slice_index c.args.sizes.now p)) none)
    c.loop-part.invariant.small c.loop-part.invariant.goes
