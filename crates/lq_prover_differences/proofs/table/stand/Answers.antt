use Rattle.std.proofs.Common.{sym, subst, length, arith, List}
use Rattle.lq_prover_differences.specs.declared.arc.Edge.{Edge}
use Rattle.lq_prover_differences.specs.Graphs.{HasRoom}
use Rattle.lq_prover_differences.specs.Table.{IsStanding}
use Rattle.lq_prover_differences.proofs.Rows.{standing_behind, decided_behind, no_conflict, room_for}
use Rattle.lq_prover_differences.proofs.table.stand.Goals as goal

pub catch_up-requires-clause-standing : goal.catch_up-requires-clause-standing
catch_up-requires-clause-standing c =
    subst (λ (l : List Edge). IsStanding l c.args.graph.now c.args.conflict.now c.args.found.now.items) (sym c.deref.ensures.value)
    (standing_behind c.args.edges.now.items c.push_reserved.new.self.items c.args.graph.now c.args.conflict.now c.args.found.now.items c.args.edge c.requires.standing c.push_reserved.ensures.items
    c.requires.from_in c.requires.to_in c.requires.fresh)

pub catch_up-requires-clause-no_conflict : goal.catch_up-requires-clause-no_conflict
catch_up-requires-clause-no_conflict c =
    no_conflict c.args.edges.now.items c.args.graph.now c.args.conflict.now c.args.found.now.items c.requires.standing
    (let f = c.if-behind.false in let a = c.admitted.ensures in let n = c.len-before.ensures in let k = c.args.edges.now.ok.0 in omega arith)

pub catch_up-requires-clause-room : goal.catch_up-requires-clause-room
catch_up-requires-clause-room c =
    subst (λ (l : List Edge). HasRoom c.args.graph.now (length l)) (sym c.deref.ensures.value)
    (room_for c.args.graph.now c.args.edges.now.items c.push_reserved.new.self.items c.args.edge c.push_reserved.ensures.items c.requires.room)

pub returns-then-behind-clause-standing : goal.returns-then-behind-clause-standing
returns-then-behind-clause-standing c =
    standing_behind c.args.edges.now.items c.push_reserved.new.self.items c.args.graph.now c.args.conflict.now c.args.found.now.items c.args.edge c.requires.standing c.push_reserved.ensures.items
    c.requires.from_in c.requires.to_in c.requires.fresh

pub returns-then-behind-clause-decided : goal.returns-then-behind-clause-decided
returns-then-behind-clause-decided c =
    decided_behind c.args.edges.now.items c.push_reserved.new.self.items c.args.graph.now c.args.conflict.now c.args.edge c.requires.decided
    (let t = c.if-behind.true in let a = c.admitted.ensures in let n = c.len-before.ensures in let k = c.args.edges.now.ok.0 in omega arith) c.push_reserved.ensures.items
