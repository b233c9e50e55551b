use Rattle.std.proofs.Common.{IfOk, IsTrue, false, map, subst, sym}
use Rattle.lq_refined_instances.specs.Views.{instances_view, list_view}
use Rattle.lq_solve_facts.specs.Facts.Known.{Hold}
use Rattle.lq_refined_types.specs.Parts.Assignment.{all_joined, goal_under}
use Rattle.lq_refined_types.specs.Parts.Flowing.{picked}
use Rattle.lq_refined_types.specs.Parts.Substitution.{formula_by}
use Rattle.lq_logic_predicates.specs.Points.{Meets, Point}
use Rattle.lq_logic_predicates.specs.Reading.{reading_of}
use Rattle.lq_solve_fixpoint.specs.Questions.Assigned.{assignment_of}
use Rattle.lq_refined_substitution.specs.Substitution.Views.{part_view, subst_view}
use Rattle.lq_refined_substitution.specs.declared.substitution.parts.Part as code
use Rattle.lq_solve_fixpoint.specs.Weakening.Chosen.{chosen_in}
use Rattle.lq_solve_facts.proofs.NearestLemmas.Meeting.{listed, unlisted}
use Rattle.lq_solve_facts.proofs.nearest.aiming.proves_part.Goals as goal

pub returns-in-Known-clause-proved : goal.returns-in-Known-clause-proved
returns-in-Known-clause-proved c = λ b p h m.
    c.proves.ensures.proved b p h (subst (λ (q : code.Part). Meets p (reading_of false (goal_under (assignment_of c.args.instances.now c.args.chosen.now) (part_view q)))) c.in-Known.is m)

pub returns-in-Some-clause-proved : goal.returns-in-Some-clause-proved
returns-in-Some-clause-proved c =
    let f = formula_by (subst_view c.in-Unknown.by) in
    let chosen = chosen_in c.args.chosen.now c.in-Unknown.unknown in
    let all = instances_view c.args.instances.now in
    let l = list_view c.in-Some.list.now in
    subst (λ (q : code.Part). IfOk c.proves_list.result (λ b. IsTrue b → (p : Point) → Hold c.args.known.now p
    → Meets p (reading_of false (goal_under (assignment_of c.args.instances.now c.args.chosen.now) (part_view q))) → ⊥)) (sym c.in-Unknown.is)
    (subst (λ x. IfOk c.proves_list.result (λ b. IsTrue b → (p : Point) → Hold c.args.known.now p → Meets p (reading_of false (all_joined (map f (picked chosen 0 x)))) → ⊥))
    (sym (listed all c.in-Unknown.unknown l c.in-Some.ensures)) c.proves_list.ensures.proved)

pub returns-in-None-clause-proved : goal.returns-in-None-clause-proved
returns-in-None-clause-proved c = λ _ p h m.
    let f = formula_by (subst_view c.in-Unknown.by) in
    let chosen = chosen_in c.args.chosen.now c.in-Unknown.unknown in
    subst (λ l. Meets p (reading_of false (all_joined (map f (picked chosen 0 l))))) (unlisted (instances_view c.args.instances.now) c.in-Unknown.unknown c.in-None.ensures)
    (subst (λ (q : code.Part). Meets p (reading_of false (goal_under (assignment_of c.args.instances.now c.args.chosen.now) (part_view q)))) c.in-Unknown.is m)
