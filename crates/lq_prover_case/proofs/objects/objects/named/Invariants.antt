use Rattle.std.proofs.Common.{◌≡◌}
use Rattle.lq_prover_case.specs.Objects.Objects.{names}
use Rattle.lq_prover_case.proofs.objects.objects.named.Given as goal

abbrev pub invariant-loop-object : goal.invariant-loop-object
invariant-loop-object l = l.classes ≡ names 0 l.object
