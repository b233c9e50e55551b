use Rattle.lq_solve_fixpoint.specs.Weakening.Chosen.{chosen_in}
use Rattle.lq_top_judge.proofs.VerdictLemmas.Posed.{accepted_is}
use Rattle.lq_top_judge.proofs.verdict.verdict.accepted.Goals as goal

pub returns : goal.returns
returns c =
    λ limit t view.
    accepted_is c.args.posed.now t view limit (chosen_in c.args.chosen.now) c.in_ok-text.text c.requires.gathered c.requires.strongest c.in_ok-text.ensures
