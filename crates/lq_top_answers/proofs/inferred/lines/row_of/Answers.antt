use Rattle.std.specs.Prelude.{slice_get}
use Rattle.std.proofs.Common.{ℕ, List, sym, ap, ◌∙◌}
use Rattle.lq_top_answers.specs.Inferred.Views.{at_or_unit}
use Rattle.lq_top_answers.proofs.InferredLemmas.Texts.{first_below, no_row, some_row}
use Rattle.lq_top_answers.proofs.inferred.lines.row_of.Goals as goal

pub returns-in-Some-clause-template : goal.returns-in-Some-clause-template
returns-in-Some-clause-template c = λ types.
    some_row types c.args.templates.now c.args.point c.in-Some.row.now (sym c.in-Some.ensures)
    ∙ ap (λ (l : List ℕ). at_or_unit types (slice_get l 0)) (sym c.as_slice.ensures.value) ∙ ap (at_or_unit types) (sym c.first_of.ensures)

pub returns-in-Some-clause-below : goal.returns-in-Some-clause-below
returns-in-Some-clause-below c = λ n there.
    first_below n c.args.templates.now c.args.point c.in-Some.row.now there (sym c.in-Some.ensures) c.first_of.result
    (c.first_of.ensures ∙ ap (λ (l : List ℕ). slice_get l 0) c.as_slice.ensures.value)

pub returns-in-None-clause-template : goal.returns-in-None-clause-template
returns-in-None-clause-template c = λ types. no_row types c.args.templates.now c.args.point (sym c.in-None.ensures)
