use Rattle.std.proofs.Common.{◌≡◌, [], length, vec_len, arith}
use Rattle.lq_types_table.proofs.Growing.{length-grown}
use Rattle.lq_types_table.proofs.type_table.TypeTable.len.Goals as goal

pub returns-clause-count : goal.returns-clause-count
returns-clause-count c =
    let v : vec_len c.args.self.now.rows ≡ length c.args.self.now.rows.items = c.args.self.now.rows.ok.0 in
    let k = length-grown c.args.self.now.parts.items [] c.args.self.now.rows.items in
    let n = c.len.ensures in omega arith
