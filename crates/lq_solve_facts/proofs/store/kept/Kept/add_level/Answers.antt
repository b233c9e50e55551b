use Rattle.std.proofs.Common.{sym, subst}
use Rattle.lq_refined_substitution.specs.Implications.Views.{environment_in}
use Rattle.lq_solve_fixpoint.specs.Questions.Assigned.{assignment_of, instances_in}
use Rattle.lq_refined_substitution.specs.Substitution.Views.{part_view}
use Rattle.lq_solve_facts.proofs.NearestLemmas.Meeting.{last_split}
use Rattle.lq_solve_facts.specs.Store.Kept.{AreRight, AreThere, HoldsAt}
use Rattle.lq_solve_facts.specs.Store.Places.{formula_at}
use Rattle.lq_solve_facts.specs.declared.store.level.Level.{Level}
use Rattle.lq_solve_facts.proofs.StoreLemmas.Levels.{noted_last, right_added, right_grown, there_added}
use Rattle.lq_solve_facts.proofs.StoreLemmas.Standing.{last_stands}
use Rattle.lq_solve_facts.proofs.StoreLemmas.Ways.{told_part}
use Rattle.lq_solve_facts.proofs.store.kept.Kept.add_level.Goals as goal

pub returns-in_err-add_part-clause-kept : goal.returns-in_err-add_part-clause-kept
returns-in_err-add_part-clause-kept c = λ es cs at r k s e.
    right_grown (assignment_of c.args.instances.now c.args.chosen.now) es c.args.self.now.known c.add_part.new.known c.args.self.now.levels.items c.add_part.ensures.keeps k

pub returns-in_err-push-clause-kept : goal.returns-in_err-push-clause-kept
returns-in_err-push-clause-kept c = λ es cs at r k s e.
    let A = assignment_of c.args.instances.now c.args.chosen.now in
    subst (AreRight A es c.add_part.new.known) (sym c.in_err-push.ensures.items) (right_grown A es c.args.self.now.known c.add_part.new.known c.args.self.now.levels.items c.add_part.ensures.keeps k)

pub returns-clause-stands : goal.returns-clause-stands
returns-clause-stands c = λ es cs at r s e.
    let A = assignment_of c.args.instances.now c.args.chosen.now in
    let step = c.args.step.now in
    let I = instances_in c.args.instances.now in
    let stands = last_stands I es cs step.env (environment_in es at) (part_view step.part.now) e in
    let known = c.add_part.new.known in
    let levels = c.args.self.now.levels.items in
    let top : Level = record { env = step.env; unknown = c.unknown_of-unknown.result; mark = c.mark-mark.result; readings = c.reading_count-readings.result } in
    subst (λ ls. AreThere A es known ls step.env) (sym c.in_ok-push.ensures.items)
    (there_added A es known levels top
    (λ p m. let m2 = last_split A p (environment_in es step.env) (environment_in es at) (part_view step.part.now) e m in c.in_ok-add_part.ensures.held (formula_at I es cs) r stands p (s.holds p m2.0) m2.1)
    (told_part A c.args.self.now.known known (environment_in es step.env) (environment_in es at) (part_view step.part.now) e c.add_part.ensures.keeps s.reads (c.in_ok-add_part.ensures.read (formula_at I es cs) r stands))
    (noted_last levels top (environment_in es at) (environment_in es step.env) (part_view step.part.now) e c.unknown_of-unknown.ensures s.named))

pub returns-clause-kept : goal.returns-clause-kept
returns-clause-kept c = λ es cs at r k s e.
    let A = assignment_of c.args.instances.now c.args.chosen.now in
    let step = c.args.step.now in
    let I = instances_in c.args.instances.now in
    let stands = last_stands I es cs step.env (environment_in es at) (part_view step.part.now) e in
    let known = c.add_part.new.known in
    let levels = c.args.self.now.levels.items in
    let top : Level = record { env = step.env; unknown = c.unknown_of-unknown.result; mark = c.mark-mark.result; readings = c.reading_count-readings.result } in
    let here : HoldsAt A es known top =
    λ p m. let m2 = last_split A p (environment_in es step.env) (environment_in es at) (part_view step.part.now) e m in c.mark-mark.ensures.all p (c.in_ok-add_part.ensures.held (formula_at I es cs) r stands p (s.holds p m2.0) m2.1) in
    subst (AreRight A es known) (sym c.in_ok-push.ensures.items)
    (right_added A es known levels top c.mark-mark.ensures.count c.reading_count-readings.ensures here
    (told_part A c.args.self.now.known known (environment_in es step.env) (environment_in es at) (part_view step.part.now) e c.add_part.ensures.keeps s.reads (c.in_ok-add_part.ensures.read (formula_at I es cs) r stands))
    (noted_last levels top (environment_in es at) (environment_in es step.env) (part_view step.part.now) e c.unknown_of-unknown.ensures s.named)
    (right_grown A es c.args.self.now.known known levels c.add_part.ensures.keeps k))

pub returns-in_err-add_part-clause-stored : goal.returns-in_err-add_part-clause-stored
returns-in_err-add_part-clause-stored c = λ es cs at r e.
    let step = c.args.step.now in
    c.add_part.ensures.stored (formula_at (instances_in c.args.instances.now) es cs) r (last_stands (instances_in c.args.instances.now) es cs step.env (environment_in es at) (part_view step.part.now) e)

pub returns-in_err-push-clause-stored : goal.returns-in_err-push-clause-stored
returns-in_err-push-clause-stored c = λ es cs at r e.
    let step = c.args.step.now in
    c.add_part.ensures.stored (formula_at (instances_in c.args.instances.now) es cs) r (last_stands (instances_in c.args.instances.now) es cs step.env (environment_in es at) (part_view step.part.now) e)

pub returns-clause-stored : goal.returns-clause-stored
returns-clause-stored c = λ es cs at r e.
    let step = c.args.step.now in
    c.add_part.ensures.stored (formula_at (instances_in c.args.instances.now) es cs) r (last_stands (instances_in c.args.instances.now) es cs step.env (environment_in es at) (part_view step.part.now) e)
