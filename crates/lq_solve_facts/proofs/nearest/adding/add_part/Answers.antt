use Rattle.std.proofs.Common.{OnOk, map, subst, sym}
use Rattle.lq_refined_instances.specs.Views.{instances_view, list_view}
use Rattle.lq_solve_facts.specs.Facts.Known.{Hold}
use Rattle.lq_refined_types.specs.Parts.Assignment.{part_under}
use Rattle.lq_refined_types.specs.Parts.Flowing.{picked}
use Rattle.lq_refined_types.specs.Parts.Substitution.{formula_by}
use Rattle.lq_logic_predicates.specs.ClosedImplication.{MeetsEach}
use Rattle.lq_logic_predicates.specs.Points.{Point}
use Rattle.lq_solve_fixpoint.specs.Questions.Assigned.{assignment_of}
use Rattle.lq_refined_substitution.specs.Substitution.Views.{part_view, subst_view}
use Rattle.lq_refined_substitution.specs.declared.substitution.parts.Part as code
use Rattle.lq_solve_fixpoint.specs.Weakening.Chosen.{chosen_in}
use Rattle.lq_solve_facts.specs.Nearest.Reading.{AreRead, EachPlain}
use Rattle.lq_solve_facts.proofs.NearestLemmas.Meeting.{listed, unlisted}
use Rattle.lq_solve_facts.proofs.nearest.adding.add_part.Goals as goal

pub returns-in_ok-add-in-Known-clause-held : goal.returns-in_ok-add-in-Known-clause-held
returns-in_ok-add-in-Known-clause-held c = λ p h m.
    c.add.ensures.held p h (subst (λ (q : code.Part). MeetsEach p (part_under (assignment_of c.args.instances.now c.args.chosen.now) (part_view q))) c.in-Known.is m).0

pub returns-in-Some-clause-held : goal.returns-in-Some-clause-held
returns-in-Some-clause-held c =
    let f = formula_by (subst_view c.in-Unknown.by) in
    let chosen = chosen_in c.args.chosen.now c.in-Unknown.unknown in
    let all = instances_view c.args.instances.now in
    let l = list_view c.in-Some.list.now in
    subst (λ (q : code.Part). OnOk c.add_list.result ((p : Point) → Hold c.args.known.now p
    → MeetsEach p (part_under (assignment_of c.args.instances.now c.args.chosen.now) (part_view q)) → Hold c.add_list.new.known p)) (sym c.in-Unknown.is)
    (subst (λ x. OnOk c.add_list.result ((p : Point) → Hold c.args.known.now p → MeetsEach p (map f (picked chosen 0 x)) → Hold c.add_list.new.known p))
    (sym (listed all c.in-Unknown.unknown l c.in-Some.ensures)) c.add_list.ensures.held)

pub returns-in_ok-add-in-Known-clause-read : goal.returns-in_ok-add-in-Known-clause-read
returns-in_ok-add-in-Known-clause-read c = λ v p a m.
    let A = assignment_of c.args.instances.now c.args.chosen.now in
    let read = c.in_ok-add-in-Known.ensures.read v p a m in
    (read.0, subst (λ (q : code.Part). MeetsEach p (part_under A (part_view q)) × EachPlain (part_under A (part_view q))) (sym c.in-Known.is) ((read.1.0, tt), (read.1.1, tt)))

pub returns-in-Some-clause-read : goal.returns-in-Some-clause-read
returns-in-Some-clause-read c =
    let A = assignment_of c.args.instances.now c.args.chosen.now in
    let f = formula_by (subst_view c.in-Unknown.by) in
    let chosen = chosen_in c.args.chosen.now c.in-Unknown.unknown in
    let all = instances_view c.args.instances.now in
    let l = list_view c.in-Some.list.now in
    subst (λ (q : code.Part). OnOk c.add_list.result (AreRead c.args.known.now c.add_list.new.known (part_under A (part_view q)))) (sym c.in-Unknown.is)
    (subst (λ x. OnOk c.add_list.result (AreRead c.args.known.now c.add_list.new.known (map f (picked chosen 0 x)))) (sym (listed all c.in-Unknown.unknown l c.in-Some.ensures)) c.add_list.ensures.read)

pub returns-in-None-clause-read : goal.returns-in-None-clause-read
returns-in-None-clause-read c = λ v p a m.
    let A = assignment_of c.args.instances.now c.args.chosen.now in
    let f = formula_by (subst_view c.in-Unknown.by) in
    let chosen = chosen_in c.args.chosen.now c.in-Unknown.unknown in (
      m,
      subst (λ (q : code.Part). MeetsEach p (part_under A (part_view q)) × EachPlain (part_under A (part_view q))) (sym c.in-Unknown.is)
          (subst (λ l. MeetsEach p (map f (picked chosen 0 l)) × EachPlain (map f (picked chosen 0 l))) (sym (unlisted (instances_view c.args.instances.now) c.in-Unknown.unknown c.in-None.ensures)) (tt, tt)),
    )
