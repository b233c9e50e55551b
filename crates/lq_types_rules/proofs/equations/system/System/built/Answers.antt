use Rattle.std.proofs.Common.{sym, arith}
use Rattle.lq_types_rules.proofs.EquationsLemmas.Copying.{built_offers, not_built, not_so_many}
use Rattle.lq_types_rules.proofs.equations.system.System.built.Goals as goal
use Rattle.lq_types_rules.proofs.equations.system.System.built.Goals.{in_default-via-in-Some+else-len-count, in_default-via-in_default}

pub returns-in_ok-instance-in-Some-clause-offers : goal.returns-in_ok-instance-in-Some-clause-offers
returns-in_ok-instance-in-Some-clause-offers c = λ g h.
    built_offers c.args.constructors.now g c.args.name.0 c.in-Some.template.now c.args.self.now c.instance.new.self c.in_ok-instance-in-Some.field-0.items c.args.slot h c.in-Some.ensures c.in_ok-instance-in-Some.ensures.offers

pub returns-in_ok-never-in_default-clause-none : goal.returns-in_ok-never-in_default-clause-none
returns-in_ok-never-in_default-clause-none c = λ g h ts a l b. elim c.in_default.branch [
  | in_default-via-in-Some+else-len-count w ↦ not_so_many c.args.constructors.now g c.args.name.0 c.args.count w.in-Some.template.now h w.in-Some.ensures (λ e. w.if-len-count.false (let x = w.len.ensures in omega arith)) ts a l b
  | in_default-via-in_default w ↦ not_built c.args.constructors.now g c.args.name.0 h (sym w.in_default.ensures) ts a b
]
