use Rattle.std.proofs.Common.{◌≡◌, [], map, sym, ap, subst, ◌∙◌, rules}
use Rattle.std.specs.Vec.{with_items}
use Rattle.std.proofs.lemmas.List.{with_items_is}
use Rattle.lq_types_table.specs.Nodes.{grown, IsTable, renamed}
use Rattle.lq_types_table.proofs.Renaming.{grown-renamed, table-renamed}
use Rattle.lq_types_table.proofs.type_table.TypeTable.rename.Goals as goal

pub invariant_of-self : goal.invariant_of-self
invariant_of-self c =
    let p : (with_items c.args.self.now.rows c.rename_rows.new.rows).items ≡ c.rename_rows.new.rows =
    with_items_is c.args.self.now.rows c.rename_rows.new.rows (search rules) in
    record {
      earlier = subst (IsTable c.args.self.now.parts.items)
          (sym (p ∙ c.rename_rows.ensures ∙ ap (map (renamed c.args.names.now)) c.deref_mut.ensures.value))
          (table-renamed c.args.self.now.parts.items c.args.names.now c.args.self.now.rows.items c.args.self.now.earlier);
    }

pub returns : goal.returns
returns c =
    let p : (with_items c.args.self.now.rows c.rename_rows.new.rows).items ≡ c.rename_rows.new.rows =
    with_items_is c.args.self.now.rows c.rename_rows.new.rows (search rules) in
    ap (grown c.args.self.now.parts.items []) (p ∙ c.rename_rows.ensures ∙ ap (map (renamed c.args.names.now)) c.deref_mut.ensures.value)
    ∙ grown-renamed c.args.self.now.parts.items c.args.names.now [] c.args.self.now.rows.items
