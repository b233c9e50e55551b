use Rattle.std.proofs.Common.{◌≡◌, [], length, vec_len, arith, ◌∙◌, ap}
use Rattle.lq_types_table.specs.declared.type_table.Row.TheVariants.{Var}
use Rattle.lq_types_table.specs.Nodes.{grown}
use Rattle.lq_types_table.proofs.Growing.{length-grown, grown-push}
use Rattle.lq_types_table.proofs.type_table.TypeTable.push_variable.Goals as goal

pub returns-clause-added : goal.returns-clause-added
returns-clause-added c =
    ap (grown c.args.self.now.parts.items []) c.in_ok-push.ensures.items
    ∙ grown-push c.args.self.now.parts.items [] c.args.self.now.rows.items (Var c.args.variable)

pub returns-clause-number : goal.returns-clause-number
returns-clause-number c =
    let v : vec_len c.args.self.now.rows ≡ length c.args.self.now.rows.items = c.args.self.now.rows.ok.0 in
    let k = length-grown c.args.self.now.parts.items [] c.args.self.now.rows.items in
    let n = c.len-next.ensures in omega arith
