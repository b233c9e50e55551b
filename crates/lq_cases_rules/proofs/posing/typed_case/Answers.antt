use Rattle.std.specs.Prelude.{IfSome}
use Rattle.std.proofs.Common.{ap, subst, ◌∙◌}
use Rattle.lq_types_infer.specs.Annotation.Whole as annotated
use Rattle.lq_text_walk.specs.Scoped.Whole.{scoped_view}
use Rattle.lq_cases_rules.specs.Cases.{IsBound}
use Rattle.lq_cases_rules.proofs.Posable.{posable}
use Rattle.lq_cases_rules.proofs.posing.typed_case.Goals as goal

pub returns : goal.returns
returns c =
    let bound = subst (λ o. IfSome o IsBound) c.in-Some.is c.in_ok-texts.ensures in
    let same =
    ap (λ i. annotated.program_of i.annotated) c.in_ok-noted.ensures.program ∙ ap annotated.program_of c.in_ok-program.ensures ∙ c.in-Ok.ensures.program in
    posable c.typed_texts_have_rules.ensures c.noted_are_known.ensures c.noted_texts_are_ready.ensures _ (scoped_view c.in-Some.texts.program) c.in-Ok.annotated
    bound.of_text bound.differ c.in-Ok.ensures.typed same c.in_ok-normal.ensures.tree
