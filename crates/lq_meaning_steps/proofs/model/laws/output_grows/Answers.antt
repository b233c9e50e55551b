use Rattle.std.proofs.Common.{◌≡◌, ℕ, suc, ◌+◌, refl, ap, ◌∙◌, arith}
use Rattle.lq_meaning_steps.specs.Model.Program.{started, outcome_from}
use Rattle.lq_meaning_steps.proofs.ModelLemmas.Runs.{output_grows, output_passes}
use Rattle.lq_meaning_steps.proofs.model.laws.output_grows.Goals as goal

one : (n : ℕ) → n + 1 ≡ suc n
one n = omega arith

pub returns-clause-by_one : goal.returns-clause-by_one
returns-clause-by_one c = λ is input n.
    let g = output_grows n (started is input) in (g.more, g.few, ap (λ k. (outcome_from k (started is input)).output) (one n) ∙ g.is)

pub returns-clause-through : goal.returns-clause-through
returns-clause-through c = λ is input n o more h. output_passes (started is input) refl n o more h
