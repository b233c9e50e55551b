use Rattle.lq_types_rules.proofs.EquationsLemmas.Shaping.{chain_unit, chain_last}
use Rattle.lq_types_rules.proofs.equations.system.System.add_chain.Goals as goal

pub returns-then-count-eq0 : goal.returns-then-count-eq0
returns-then-count-eq0 c = chain_unit c.args.self.now c.is.new.self c.args.parts.now c.args.at c.if-count-eq0.true c.in_ok-is.ensures

pub returns : goal.returns
returns c = chain_last c.args.self.now c.same.new.self c.args.parts.now c.args.at c.if-count-eq0.false c.in_ok-same.ensures
