use Rattle.std.proofs.Common.{map, sym, ap, ◌∙◌, arith}
use Rattle.lq_text_tree.specs.Items.{parameter_view}
use Rattle.lq_text_tree.specs.Signatures.{written}
use Rattle.lq_text_tree.specs.SimpleTypeView.{simple_types_items}
use Rattle.lq_text_tree.specs.MlType.{MlType}
use Rattle.lq_text_tree.specs.TypeView.{type_exprs_items, type_view}
use Rattle.lq_text_tree.specs.declared.type_expr.TypeExpr.{TypeExpr}
use Rattle.lq_text_datatypes.specs.Views.{types_in}
use Rattle.lq_text_datatypes.proofs.Rows.{made_all, made_more, made_none}
use Rattle.lq_text_datatypes.proofs.datatypes.row_written.Goals as goal
use Rattle.lq_text_datatypes.proofs.datatypes.row_written.Goals.{in-Some+in_ok-written+in_ok-push, in_default}

pub loop-at-preserved : goal.loop-at-preserved
loop-at-preserved c =
    let ps = map parameter_view c.args.parameters.now in
    let by : TypeExpr → MlType = λ t. written ps (type_view t) in
    let row = type_exprs_items c.args.row.now in
    elim c.match-get.branch [
      | in-Some+in_ok-written+in_ok-push w ↦
          ap (λ ts. types_in (simple_types_items ts)) w.types-is ∙ ap types_in w.in_ok-push.ensures.ok
          ∙ made_more by row c.loop-at.at w.in-Some.part.now (simple_types_items c.loop-at.types) _ (sym w.in-Some.ensures) w.in_ok-written.ensures c.loop-at.invariant
      | in_default w ↦
          ap (λ ts. types_in (simple_types_items ts)) w.types-is ∙ c.loop-at.invariant ∙ made_none by row c.loop-at.at (sym w.in_default.ensures)
    ]

pub returns : goal.returns
returns c = made_all (map parameter_view c.args.parameters.now) c.args.row.now c.loop-at.at c.loop-at.types (omega (arith, c.loop-at-test.false, c.len-at-end.ensures)) c.loop-at.invariant
