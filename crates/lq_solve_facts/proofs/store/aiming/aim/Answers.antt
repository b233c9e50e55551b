use Rattle.std.proofs.Common.{List, [], false, refl, subst, sym}
use Rattle.lq_refined_instances.specs.Views.{instances_view, list_view}
use Rattle.lq_solve_facts.proofs.FactsLemmas.Holding.{keeps_then}
use Rattle.lq_solve_facts.proofs.NearestLemmas.Meeting.{listed, unlisted}
use Rattle.lq_refined_types.specs.Parts.Part as parts
use Rattle.lq_logic_predicates.specs.Formula.{Formula}
use Rattle.lq_logic_predicates.specs.Points.{Meets}
use Rattle.lq_logic_predicates.specs.PredView.{formula_of}
use Rattle.lq_logic_predicates.specs.Reading.{reading_of}
use Rattle.lq_solve_fixpoint.specs.Questions.Assigned.{assignment_of, instances_in}
use Rattle.lq_refined_substitution.specs.Substitution.Views.{part_view, subst_view}
use Rattle.lq_refined_substitution.specs.declared.substitution.parts.Part as code
use Rattle.lq_solve_fixpoint.specs.Weakening.Chosen.{chosen_in}
use Rattle.lq_solve_facts.proofs.StoreLemmas.Failing.{holds_by, holds_here, none_refuted, refutable_before, refuted_by}
use Rattle.lq_solve_facts.proofs.StoreLemmas.Parts.{known_goal, known_stands, unknown_goal, unknown_stands}
use Rattle.lq_solve_facts.proofs.StoreLemmas.Readings.{stored_kept}
use Rattle.lq_solve_facts.specs.Store.Aiming.{AreRefutable, IsGoalRefuted}
use Rattle.lq_solve_facts.specs.Store.Reads.{AreReads}
use Rattle.lq_solve_facts.proofs.store.aiming.aim.Goals as goal

pub returns-in_ok-read-in-Known-clause-holds : goal.returns-in_ok-read-in-Known-clause-holds
returns-in_ok-read-in-Known-clause-holds c =
    let I = instances_in c.args.instances.now in
    let A = assignment_of c.args.instances.now c.args.chosen.now in
    let pred = c.in-Known.pred in
    holds_here c.aim_at_known.result _ _
    (λ f F a s p h m. f (formula_of pred) (c.in_ok-read-in-Known.ensures.read F a (known_stands F I c.args.place c.args.goal.now pred c.in-Known.is s)) p (c.in_ok-read-in-Known.ensures.kept p h)
    (subst (λ x. Meets p (reading_of false x)) (known_goal A c.args.goal.now pred c.in-Known.is) m)) c.aim_at_known.ensures.holds

pub returns-in_ok-read-in-Known-clause-refuted : goal.returns-in_ok-read-in-Known-clause-refuted
returns-in_ok-read-in-Known-clause-refuted c = none_refuted c.aim_at_known.result _ c.aim_at_known.ensures.refuted

pub returns-in_ok-read-in-Known-clause-stored : goal.returns-in_ok-read-in-Known-clause-stored
returns-in_ok-read-in-Known-clause-stored c = λ F a s.
    stored_kept F c.read_known.new.known c.aim_at_known.new.known c.read_known.new.store c.aim_at_known.ensures.keeps
    (c.read_known.ensures.stored F a (known_stands F (instances_in c.args.instances.now) c.args.place c.args.goal.now c.in-Known.pred c.in-Known.is s))

pub returns-in_ok-read-in-Known-clause-keeps : goal.returns-in_ok-read-in-Known-clause-keeps
returns-in_ok-read-in-Known-clause-keeps c = keeps_then _ _ _ c.read_known.ensures.keeps c.aim_at_known.ensures.keeps

pub returns-in_err-read-in-Known-clause-stored : goal.returns-in_err-read-in-Known-clause-stored
returns-in_err-read-in-Known-clause-stored c = λ F a s.
    c.read_known.ensures.stored F a (known_stands F (instances_in c.args.instances.now) c.args.place c.args.goal.now c.in-Known.pred c.in-Known.is s)

pub returns-in_ok-reads-in-Some-clause-holds : goal.returns-in_ok-reads-in-Some-clause-holds
returns-in_ok-reads-in-Some-clause-holds c =
    let I = instances_in c.args.instances.now in
    let u = c.in-Unknown.unknown in
    let by = c.in-Unknown.by in
    let f = chosen_in c.args.chosen.now in
    let qs = list_view c.in-Some.list.now in
    let is = listed (instances_view c.args.instances.now) u qs c.in-Some.ensures in
    holds_by c.aim_at_list.result _ _
    (λ g F a s p h m. g (f u) (subst_view by) qs (subst (AreReads c.read_chosen.new.known (f u) (subst_view by) qs) (sym c.as_slice.ensures.value) (c.in_ok-reads-in-Some.ensures.reads F a (unknown_stands F I c.args.place c.args.goal.now u by qs c.in-Unknown.is is s))) p (c.in_ok-reads-in-Some.ensures.kept p h)
    (subst (λ x. Meets p (reading_of false x)) (unknown_goal I f c.args.goal.now u by qs c.in-Unknown.is is) m)) c.aim_at_list.ensures.holds

pub returns-in_ok-reads-in-Some-clause-refuted : goal.returns-in_ok-reads-in-Some-clause-refuted
returns-in_ok-reads-in-Some-clause-refuted c =
    let I = instances_in c.args.instances.now in
    let u = c.in-Unknown.unknown in
    let by = c.in-Unknown.by in
    let σ = subst_view by in
    let f = chosen_in c.args.chosen.now in
    let qs = list_view c.in-Some.list.now in
    let known = c.args.known.now in
    let is = listed (instances_view c.args.instances.now) u qs c.in-Some.ensures in
    refuted_by c.aim_at_list.result _ _
    (λ numbers g F a s.
    let r = g (f u) σ qs (subst (AreReads c.read_chosen.new.known (f u) (subst_view by) qs) (sym c.as_slice.ensures.value) (c.in_ok-reads-in-Some.ensures.reads F a (unknown_stands F I c.args.place c.args.goal.now u by qs c.in-Unknown.is is s))) in
    subst (λ (q : code.Part). IsGoalRefuted known I f (part_view q) numbers) (sym c.in-Unknown.is) (record {
      number = u;
      by = σ;
      is = refl;
      refutable = subst (λ (x : List Formula). AreRefutable known (f u) σ x numbers) (sym is) (refutable_before known c.read_chosen.new.known (f u) σ qs numbers c.in_ok-reads-in-Some.ensures.keeps c.in_ok-reads-in-Some.ensures.same r);
    }))
    c.aim_at_list.ensures.refuted

pub returns-in_ok-reads-in-Some-clause-stored : goal.returns-in_ok-reads-in-Some-clause-stored
returns-in_ok-reads-in-Some-clause-stored c = λ F a s.
    let qs = list_view c.in-Some.list.now in
    stored_kept F c.read_chosen.new.known c.aim_at_list.new.known c.read_chosen.new.store c.aim_at_list.ensures.keeps
    (c.read_chosen.ensures.stored F a
    (unknown_stands F (instances_in c.args.instances.now) c.args.place c.args.goal.now c.in-Unknown.unknown c.in-Unknown.by qs c.in-Unknown.is (listed (instances_view c.args.instances.now) c.in-Unknown.unknown qs c.in-Some.ensures) s))

pub returns-in_ok-reads-in-Some-clause-keeps : goal.returns-in_ok-reads-in-Some-clause-keeps
returns-in_ok-reads-in-Some-clause-keeps c = keeps_then _ _ _ c.read_chosen.ensures.keeps c.aim_at_list.ensures.keeps

pub returns-in_err-reads-in-Some-clause-stored : goal.returns-in_err-reads-in-Some-clause-stored
returns-in_err-reads-in-Some-clause-stored c = λ F a s.
    let qs = list_view c.in-Some.list.now in
    c.read_chosen.ensures.stored F a
    (unknown_stands F (instances_in c.args.instances.now) c.args.place c.args.goal.now c.in-Unknown.unknown c.in-Unknown.by qs c.in-Unknown.is (listed (instances_view c.args.instances.now) c.in-Unknown.unknown qs c.in-Some.ensures) s)

pub returns-in-None-clause-holds : goal.returns-in-None-clause-holds
returns-in-None-clause-holds c = λ F a s p h m.
    subst (λ x. Meets p (reading_of false x))
    (unknown_goal (instances_in c.args.instances.now) (chosen_in c.args.chosen.now) c.args.goal.now c.in-Unknown.unknown c.in-Unknown.by [] c.in-Unknown.is
    (unlisted (instances_view c.args.instances.now) c.in-Unknown.unknown c.in-None.ensures)) m
