use Rattle.std.proofs.Common.{◌++◌, ap, ◌∙◌}
use Rattle.lq_refined_rules.specs.Checks.Tree.{no_items}
use Rattle.lq_refined_templates.specs.Programs.BlockView.{item_view}
use Rattle.lq_refined_subtyping.specs.Table.Growing.{extends-count, Extends-trans}
use Rattle.lq_refined_subtyping.specs.Table.Whole.{count_of}
use Rattle.lq_top_answers.specs.Inferred.Lines.{Inferred, types_text_of}
use Rattle.lq_top_answers.specs.Inferred.Views.{solution_view}
use Rattle.lq_top_answers.proofs.InferredLemmas.Texts.{same_solution, text_more, there_kept}
use Rattle.lq_top_answers.proofs.inferred.lines.push_items.Goals as goal

pub push_item-requires : goal.push_item-requires
push_item-requires c =
    let init = c.args.types.now in
    let now = c.loop-item.types in
    there_kept (count_of init) (count_of now) (extends-count init.rows.items now.rows.items c.loop-item.invariant.grows) c.args.solution.now.templates.now c.requires

pub loop-item-preserved : goal.loop-item-preserved
loop-item-preserved c =
    let init = c.args.types.now in
    let now = c.loop-item.types in
    let s = c.args.solution.now in
    let x = c.item-item.result in
    record {
      grows = Extends-trans init.rows.items now.rows.items c.push_item.new.types.rows.items c.loop-item.invariant.grows c.push_item.ensures.grows;
      text = text_more (solution_view init s) c.args.program.now c.loop-item.item-index x c.args.text.now.items c.loop-item.text.items _
          c.loop-item-test.true c.item-item.is c.loop-item.invariant.text
          (c.in_ok-push_item.ensures.text
          ∙ ap (λ (i : Inferred). c.loop-item.text.items ++ types_text_of i (item_view x no_items)) (same_solution init now s c.loop-item.invariant.grows c.requires));
    }
