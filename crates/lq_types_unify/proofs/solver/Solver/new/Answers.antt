use Rattle.std.proofs.Common.{◌≡◌, length, rules}
use Rattle.lq_types_unify.proofs.Knowing.{begun}
use Rattle.lq_types_unify.proofs.solver.Solver.new.Goals as goal

pub returns : goal.returns
returns c =
    let p = c.in_ok-apart.ensures in
    let s = c.in_ok-apart-2.ensures in
    let r = c.in_ok-apart-3.ensures in
    let e : c.len-count.result ≡ length c.args.arena.now.nodes.items = search rules in
    begun c.args.arena.now _ c.len-count.result e p.length p.own s.length s.own r.length r.own c.new.ensures.items
