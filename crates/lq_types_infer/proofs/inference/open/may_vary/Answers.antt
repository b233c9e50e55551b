use Rattle.std.proofs.Common.{[], length, arith}
use Rattle.lq_types_infer.proofs.InferenceLemmas.Sharing.{none_from, none_determined}
use Rattle.lq_types_infer.proofs.inference.open.may_vary.Goals as goal

pub returns-then-is_empty-clause-knows : goal.returns-then-is_empty-clause-knows
returns-then-is_empty-clause-knows c = c.in_ok-classes.ensures.knows c.args.system.now.equations.items c.requires.knows

pub returns-then-is_empty-clause-determined : goal.returns-then-is_empty-clause-determined
returns-then-is_empty-clause-determined c = λ e.
    none_determined c.args.system.now c.requires.system [] c.args.node c.args.solver.now.parents.items c.args.solver.now.shapes.items c.args.solver.now.found.items c.requires.knows.known
    c.in_ok-classes.classes.items c.in_ok-classes.ensures.open
    (none_from c.is_empty.result c.in_ok-classes.classes.len (length c.in_ok-classes.classes.items) c.is_empty.ensures c.if-is_empty.true (omega (arith, c.in_ok-classes.classes.ok)))

pub returns-clause-knows : goal.returns-clause-knows
returns-clause-knows c = c.in_ok-classes.ensures.knows c.args.system.now.equations.items c.requires.knows
