use Rattle.std.proofs.Common.{◌-◌, arith}
use Rattle.lq_prover_differences.proofs.Rows.{standing_back, standing_cleared, standing_first, standing_kept}
use Rattle.lq_prover_differences.proofs.table.keep.Goals as goal

pub returns-then-rows-graph-clause-standing : goal.returns-then-rows-graph-clause-standing
returns-then-rows-graph-clause-standing c = λ found h.
    standing_cleared c.args.edges.now.items c.truncate.new.self.items c.args.graph.now c.clear.new.self c.args.conflict.now found c.args.rows h c.truncate.ensures.items
    c.clear.ensures.graph c.clear.ensures.vertices c.clear.ensures.arcs c.clear.ensures.starts c.clear.ensures.base

pub returns-then-rows-admitted-2-clause-standing : goal.returns-then-rows-admitted-2-clause-standing
returns-then-rows-admitted-2-clause-standing c = λ found h.
    standing_back c.args.edges.now.items c.truncate.new.self.items c.args.graph.now c.back_to.new.self c.args.conflict.now found c.args.rows (c.args.rows - c.args.graph.now.base) h
    (let f = c.if-rows-graph.false in omega arith)
    (let f = c.if-rows-graph.false in let t = c.if-rows-admitted-2.true in let e = c.admitted-else-rows-graph.ensures in omega arith)
    c.truncate.ensures.items c.back_to.ensures.graph c.back_to.ensures.vertices c.back_to.ensures.arcs c.back_to.ensures.starts c.back_to.ensures.base

pub returns-else-rows-admitted-2-clause-standing : goal.returns-else-rows-admitted-2-clause-standing
returns-else-rows-admitted-2-clause-standing c = λ found h.
    standing_first c.args.edges.now.items c.truncate.new.self.items c.args.graph.now c.args.conflict.now found c.args.rows h
    (let t = c.if-rows-admitted.true in let a = c.admitted.ensures in let f = c.if-rows-admitted-2.false in let e = c.admitted-else-rows-graph.ensures in omega arith)
    c.truncate.ensures.items

pub returns-else-rows-admitted-clause-standing : goal.returns-else-rows-admitted-clause-standing
returns-else-rows-admitted-clause-standing c = λ found h.
    standing_kept c.args.edges.now.items c.truncate.new.self.items c.args.graph.now c.args.conflict.now found c.args.rows h
    (let f = c.if-rows-admitted.false in let a = c.admitted.ensures in omega arith) c.requires.within c.truncate.ensures.items
