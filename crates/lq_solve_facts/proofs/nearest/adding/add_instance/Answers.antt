use Rattle.std.proofs.Common.{◌≡◌, sym, subst, true, false}
use Rattle.lq_solve_facts.specs.Facts.Plain.{IsPlain}
use Rattle.lq_logic_predicates.specs.Points.{Meets}
use Rattle.lq_logic_predicates.specs.Reading.{reading_of}
use Rattle.lq_solve_facts.proofs.nearest.adding.add_instance.Goals as goal

pub returns-then-not-is_chosen-clause-read : goal.returns-then-not-is_chosen-clause-read
returns-then-not-is_chosen-clause-read c = λ v p a m. (m, λ t. let f : c.args.is_chosen ≡ false = c.if-not-is_chosen.true in absurd (cc))

pub returns-clause-held : goal.returns-clause-held
returns-clause-held c = λ p h m. c.add.ensures.held p h (subst (λ q. Meets p (reading_of true q)) (sym c.in_ok-made.ensures) (m c.if-not-is_chosen.false))

pub returns-clause-read : goal.returns-clause-read
returns-clause-read c = λ v p a m.
    let read = c.in_ok-add.ensures.read v p a m in (read.0, λ _. subst (λ q. Meets p (reading_of true q) × IsPlain q) c.in_ok-made.ensures read.1)
