use Rattle.std.proofs.Common.{◌+◌, ◌<◌, ◌≤◌, [], length, vec_len, All, sym, subst, ◌∙◌, rules}
use Rattle.lq_types_table.specs.Nodes.{grown}
use Rattle.lq_types_table.proofs.Reading.{made_read, variable_read, row_there}
use Rattle.lq_types_table.proofs.type_table.TypeTable.node.Goals as goal

pub index-requires : goal.index-requires
index-requires c = row_there c.args.self.now.parts.items c.args.self.now.rows.items c.args.row
    (vec_len c.args.self.now.rows) c.args.self.now.rows.ok.0 c.requires

pub slice_bounds-node_of-end : goal.slice_bounds-node_of-end
slice_bounds-node_of-end c =
    let there = row_there c.args.self.now.parts.items c.args.self.now.rows.items c.args.row
    (vec_len c.args.self.now.rows) c.args.self.now.rows.ok.0 c.requires in
    let m = made_read c.args.self.now.parts.items c.args.self.now.rows.items c.args.row
    (vec_len c.args.self.now.rows) c.index.result.now c.in-Made.head c.in-Made.first c.in-Made.count c.args.self.now.earlier
    c.args.self.now.rows.ok.0 there c.index.ensures c.in-Made.is c.deref.result.now c.deref.ensures.value in
    let fits : c.in-Made.first + c.in-Made.count ≤ length c.deref.result.now =
    subst (λ l. c.in-Made.first + c.in-Made.count ≤ length l) (sym c.deref.ensures.value) m.fits in search rules

pub node_of-requires : goal.node_of-requires
node_of-requires c =
    let there = row_there c.args.self.now.parts.items c.args.self.now.rows.items c.args.row
    (vec_len c.args.self.now.rows) c.args.self.now.rows.ok.0 c.requires in
    let m = made_read c.args.self.now.parts.items c.args.self.now.rows.items c.args.row
    (vec_len c.args.self.now.rows) c.index.result.now c.in-Made.head c.in-Made.first c.in-Made.count c.args.self.now.earlier
    c.args.self.now.rows.ok.0 there c.index.ensures c.in-Made.is c.deref.result.now c.deref.ensures.value in m.right

pub returns-in-Var-clause-types : goal.returns-in-Var-clause-types
returns-in-Var-clause-types c =
    let there = row_there c.args.self.now.parts.items c.args.self.now.rows.items c.args.row
    (vec_len c.args.self.now.rows) c.args.self.now.rows.ok.0 c.requires in
    sym (variable_read c.args.self.now.parts.items c.args.self.now.rows.items c.args.row
    (vec_len c.args.self.now.rows) c.index.result.now c.in-Var.variable c.args.self.now.rows.ok.0 there c.index.ensures c.in-Var.is)

pub returns-in-Made-clause-types : goal.returns-in-Made-clause-types
returns-in-Made-clause-types c =
    let there = row_there c.args.self.now.parts.items c.args.self.now.rows.items c.args.row
    (vec_len c.args.self.now.rows) c.args.self.now.rows.ok.0 c.requires in
    let m = made_read c.args.self.now.parts.items c.args.self.now.rows.items c.args.row
    (vec_len c.args.self.now.rows) c.index.result.now c.in-Made.head c.in-Made.first c.in-Made.count c.args.self.now.earlier
    c.args.self.now.rows.ok.0 there c.index.ensures c.in-Made.is c.deref.result.now c.deref.ensures.value in
    c.node_of.ensures.types (grown c.args.self.now.parts.items [] c.args.self.now.rows.items) ∙ sym m.type

pub returns-in-Made-clause-earlier : goal.returns-in-Made-clause-earlier
returns-in-Made-clause-earlier c =
    let there = row_there c.args.self.now.parts.items c.args.self.now.rows.items c.args.row
    (vec_len c.args.self.now.rows) c.args.self.now.rows.ok.0 c.requires in
    let m = made_read c.args.self.now.parts.items c.args.self.now.rows.items c.args.row
    (vec_len c.args.self.now.rows) c.index.result.now c.in-Made.head c.in-Made.first c.in-Made.count c.args.self.now.earlier
    c.args.self.now.rows.ok.0 there c.index.ensures c.in-Made.is c.deref.result.now c.deref.ensures.value in
    subst (All (λ p. p < c.args.row)) (sym c.node_of.ensures.parts) m.below
