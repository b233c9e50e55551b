use Rattle.std.proofs.Common.{◌∷◌, ◌+◌, map, drop, sym, ap, ◌∙◌}
use Rattle.lq_text_tree.specs.Items.{constructor_view}
use Rattle.lq_text_scope.specs.Complaints.{least_with}
use Rattle.lq_text_scope.specs.Datatypes.{of_constructors, with_constructors}
use Rattle.lq_text_scope.specs.Known.{defined}
use Rattle.lq_text_scope.specs.Spots.{frame_view}
use Rattle.lq_text_scope.specs.Views.{found_view}
use Rattle.lq_text_scope.proofs.Constructing.{drop_by, one_constructor}
use Rattle.lq_text_scope.proofs.TypeRows.{types_count}
use Rattle.lq_text_scope.proofs.datatypes.note_constructors.Goals as goal

pub loop-constructor-preserved : goal.loop-constructor-preserved
loop-constructor-preserved c =
    let this = c.constructor-item.result in
    let rest = map constructor_view (drop (c.loop-constructor.constructor-index + 1) c.args.constructors.now) in
    let here = ap (map constructor_view) (drop_by c.args.constructors.now c.loop-constructor.constructor-index this c.loop-constructor-test.true c.constructor-item.is) in
    let known = c.in_ok-show.ensures.shown ∙ ap (λ n. defined this.name.0 n ∷ c.loop-constructor.known) (c.len.ensures ∙ types_count this.fields) in (
      ap (λ l. with_constructors l rest) known ∙ sym (ap (with_constructors c.loop-constructor.known) here) ∙ c.loop-constructor.invariant.0,
      one_constructor (frame_view c.args.frame.now) c.loop-constructor.known _ (constructor_view this) rest (found_view c.loop-constructor.least.found) _ _ known c.note_again.ensures c.in_ok-note_fields.ensures
          ∙ sym (ap (λ l. least_with (found_view c.loop-constructor.least.found) (of_constructors (frame_view c.args.frame.now) c.loop-constructor.known l)) here) ∙ c.loop-constructor.invariant.1,
    )
