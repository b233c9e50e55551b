use Rattle.lq_types_unify.specs.Solved.{types_of}
use Rattle.lq_types_rules.proofs.EquationsLemmas.Reading.{principal_read, none_read}
use Rattle.lq_types_rules.proofs.equations.system.System.solved.Goals as goal

pub returns-in-Some-clause-principal : goal.returns-in-Some-clause-principal
returns-in-Some-clause-principal c =
    principal_read c.args.self.now c.deref.result.now (types_of c.args.self.now.arena c.in-Some.found) c.requires c.deref.ensures.value (rw c.in-Some.is at c.in_ok-found.ensures.principal)

pub returns-in-None-clause-none : goal.returns-in-None-clause-none
returns-in-None-clause-none c = none_read c.args.self.now c.deref.result.now c.requires c.deref.ensures.value (rw c.in-None.is at c.in_ok-found.ensures.none)
