use Rattle.std.proofs.Common.{refl, sym, subst, arith}
use Rattle.lq_types_unify.specs.Knowing.{Knows}
use Rattle.lq_types_infer.specs.Inference.Copying.{AreClear}
use Rattle.lq_types_infer.proofs.inference.equations.Equations.new.Goals as goal

pub returns-clause-kept : goal.returns-clause-kept
returns-clause-kept c = λ nodes. record {
  system = c.in_ok-system.ensures.system;
  knows = subst (λ es. Knows c.in_ok-system.system.arena es c.in_ok-solver.solver) (sym c.in_ok-system.ensures.empty) c.in_ok-solver.ensures;
  clear = subst AreClear (sym c.new-3.ensures.items) (λ v. refl);
  told = record { low = omega arith; others = λ j l. absurd (omega arith) };
}
