use Rattle.std.proofs.Common.{◌<◌, length, set, get_or, ap, ◌∙◌, arith}
use Rattle.std.proofs.lemmas.List.{get_or_default}
use Rattle.std.proofs.lemmas.List.Edits.{map_over_more}
use Rattle.lq_types_table.specs.declared.type_table.Row.TheVariants.{Var}
use Rattle.lq_types_table.specs.Nodes.{renamed}
use Rattle.lq_types_table.proofs.type_table.rename_rows.Goals as goal

pub loop-at-preserved : goal.loop-at-preserved
loop-at-preserved c =
    let rows = c.loop-at.rows in
    let here : c.loop-at.at < length c.loop-at.rows = let e = c.loop-at.auto.rows in let t = c.loop-at-test.true in omega arith in
    ap (set rows c.loop-at.at) c.row_of.ensures
    ∙ map_over_more (renamed c.args.names.now) c.args.rows.now rows c.loop-at.at
    (get_or rows c.loop-at.at (Var 0)) c.loop-at-test.true c.loop-at.invariant
    (get_or_default rows c.loop-at.at (Var 0) (get_or rows c.loop-at.at (Var 0)) here)
