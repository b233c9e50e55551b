-- Each term is found under its signature.
use Rattle.std.proofs.Common.{sym, ap, ◌∙◌}
use Rattle.lq_prover_congruence.specs.Classes.Terms.{find_in}
use Rattle.lq_prover_congruence.specs.Classes.Standing.{core_of}
use Rattle.lq_prover_congruence.proofs.ClassesLemmas.Represented.{not-none}
use Rattle.lq_prover_congruence.proofs.classes.state.State.representative.Goals as goal

pub returns-in_default-clause-none : goal.returns-in_default-clause-none
returns-in_default-clause-none c = λ some.
    let s = c.args.self.now in
    absurd (not-none (core_of s) c.args.term c.requires.found c.requires.term (sym (c.find.ensures ∙ ap (find_in s.filed) c.in_ok-key.ensures) ∙ c.in_default.is))
