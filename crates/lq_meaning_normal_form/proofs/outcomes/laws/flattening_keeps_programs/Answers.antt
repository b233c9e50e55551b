use Rattle.lq_meaning_normal_form.proofs.OutcomesLemmas.FlatPrograms.{flattening_keeps_programs}
use Rattle.lq_meaning_normal_form.proofs.outcomes.laws.flattening_keeps_programs.Goals as goal

pub returns : goal.returns
returns c =
    flattening_keeps_programs (record { closed = c.environments.ensures.closed; behind = c.closing.ensures.behind; binds = c.closing.ensures.binds; one = c.closing.ensures.one; together = c.closing.ensures.together })
