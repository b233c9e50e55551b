use Rattle.std.proofs.Common.{sym, ap, ◌∙◌}
use Rattle.lq_text_walk.specs.Walk.Shape as shape
use Rattle.lq_text_walk.specs.Walk.View.{row_view}
use Rattle.lq_text_scope.specs.Uses.{as_arguments}
use Rattle.lq_text_scope.proofs.Building.{parts_of, tuple_given}
use Rattle.lq_text_scope.proofs.checker.as_arguments.Goals as goal

pub returns-then-wanted-gt1 : goal.returns-then-wanted-gt1
returns-then-wanted-gt1 c =
    tuple_given c.args.wanted c.len.result c.in-Row-Tuple-default.parts.now c.len.ensures c.if-wanted-gt1.true
    ∙ ap (λ h. as_arguments c.args.wanted (shape.row (row_view h) (parts_of c.in-Row-Tuple-default.parts.now))) (sym c.in-Row-Tuple-default.field-0-is)
    ∙ ap (as_arguments c.args.wanted) c.in-Row-Tuple-default.ensures
