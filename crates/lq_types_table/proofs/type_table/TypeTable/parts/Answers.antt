use Rattle.std.proofs.Common.{◌+◌, ◌≤◌, length, vec_len, inl, inr, refl, sym, subst, rules}
use Rattle.lq_types_table.proofs.Reading.{made_read, variable_read, row_there}
use Rattle.lq_types_table.proofs.type_table.TypeTable.parts.Goals as goal

pub index-requires : goal.index-requires
index-requires c = row_there c.args.self.now.parts.items c.args.self.now.rows.items c.args.row
    (vec_len c.args.self.now.rows) c.args.self.now.rows.ok.0 c.requires

pub slice_bounds-result-end-in-Made : goal.slice_bounds-result-end-in-Made
slice_bounds-result-end-in-Made c =
    let there = row_there c.args.self.now.parts.items c.args.self.now.rows.items c.args.row
    (vec_len c.args.self.now.rows) c.args.self.now.rows.ok.0 c.requires in
    let m = made_read c.args.self.now.parts.items c.args.self.now.rows.items c.args.row
    (vec_len c.args.self.now.rows) c.index.result.now c.in-Made.field-0 c.in-Made.first c.in-Made.count c.args.self.now.earlier
    c.args.self.now.rows.ok.0 there c.index.ensures c.in-Made.is c.deref.result.now c.deref.ensures.value in
    let fits : c.in-Made.first + c.in-Made.count ≤ length c.deref.result.now =
    subst (λ l. c.in-Made.first + c.in-Made.count ≤ length l) (sym c.deref.ensures.value) m.fits in search rules

pub returns-in-Var-clause-over : goal.returns-in-Var-clause-over
returns-in-Var-clause-over c =
    let there = row_there c.args.self.now.parts.items c.args.self.now.rows.items c.args.row
    (vec_len c.args.self.now.rows) c.args.self.now.rows.ok.0 c.requires in
    inl (
      c.in-Var.field-0,
      variable_read c.args.self.now.parts.items c.args.self.now.rows.items c.args.row
          (vec_len c.args.self.now.rows) c.index.result.now c.in-Var.field-0 c.args.self.now.rows.ok.0 there c.index.ensures c.in-Var.is,
      refl,
    )

pub returns-in-Made-clause-over : goal.returns-in-Made-clause-over
returns-in-Made-clause-over c =
    let there = row_there c.args.self.now.parts.items c.args.self.now.rows.items c.args.row
    (vec_len c.args.self.now.rows) c.args.self.now.rows.ok.0 c.requires in
    let m = made_read c.args.self.now.parts.items c.args.self.now.rows.items c.args.row
    (vec_len c.args.self.now.rows) c.index.result.now c.in-Made.field-0 c.in-Made.first c.in-Made.count c.args.self.now.earlier
    c.args.self.now.rows.ok.0 there c.index.ensures c.in-Made.is c.deref.result.now c.deref.ensures.value in
    inr (c.in-Made.field-0, m.type, m.right)

pub returns-in-Made-clause-earlier : goal.returns-in-Made-clause-earlier
returns-in-Made-clause-earlier c =
    let there = row_there c.args.self.now.parts.items c.args.self.now.rows.items c.args.row
    (vec_len c.args.self.now.rows) c.args.self.now.rows.ok.0 c.requires in
    let m = made_read c.args.self.now.parts.items c.args.self.now.rows.items c.args.row
    (vec_len c.args.self.now.rows) c.index.result.now c.in-Made.field-0 c.in-Made.first c.in-Made.count c.args.self.now.earlier
    c.args.self.now.rows.ok.0 there c.index.ensures c.in-Made.is c.deref.result.now c.deref.ensures.value in m.below
