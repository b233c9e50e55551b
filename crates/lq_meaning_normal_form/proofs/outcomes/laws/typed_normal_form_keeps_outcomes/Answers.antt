use Rattle.lq_meaning_normal_form.proofs.outcomes.laws.typed_normal_form_keeps_outcomes.Goals as goal

pub returns : goal.returns
returns c = λ n k is typed avoids apart. c.normal_form_keeps_outcomes.ensures k is avoids apart (c.typed_programs.ensures.never_stuck n is typed)
