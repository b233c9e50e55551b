use Rattle.lq_types_unify.specs.Solved.{types_of}
use Rattle.lq_types_rules.specs.Equations.Solved.{written}
use Rattle.lq_types_infer.proofs.InferenceLemmas.Reading.{principal_read, writes}
use Rattle.lq_types_infer.proofs.inference.equations.Equations.solved.Goals as goal

pub solution-requires-clause-knows : goal.solution-requires-clause-knows
solution-requires-clause-knows c = (c.args.self.system.equations.items, c.requires.knows)

pub returns-in-Some-clause-principal : goal.returns-in-Some-clause-principal
returns-in-Some-clause-principal c =
    principal_read c.args.self.system (types_of c.args.self.system.arena c.in-Some.solution) c.requires.system ((rw c.in-Some.is at c.in_ok-solution.ensures.principal) c.args.self.system.equations.items c.requires.knows)

pub returns-in-Some-clause-ordered : goal.returns-in-Some-clause-ordered
returns-in-Some-clause-ordered c = rw c.in-Some.is at c.in_ok-solution.ensures.ordered

pub returns-in-None-clause-none : goal.returns-in-None-clause-none
returns-in-None-clause-none c = λ types h.
    (rw c.in-None.is at c.in_ok-solution.ensures.none) c.args.self.system.equations.items c.requires.knows (λ i. written (types i)) (writes c.args.self.system c.args.self.system.equations.items types c.requires.system h)
