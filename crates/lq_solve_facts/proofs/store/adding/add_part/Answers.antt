use Rattle.std.proofs.Common.{[], subst, sym}
use Rattle.lq_refined_instances.specs.Views.{instances_view, list_view}
use Rattle.lq_solve_facts.proofs.FactsLemmas.Holding.{keeps_then}
use Rattle.lq_solve_facts.specs.Facts.Values.{MeetsEachRow}
use Rattle.lq_solve_facts.specs.Nearest.Reading.{EachPlain}
use Rattle.lq_solve_facts.proofs.NearestLemmas.Meeting.{listed, unlisted}
use Rattle.lq_logic_predicates.specs.ClosedImplication.{MeetsEach}
use Rattle.lq_logic_predicates.specs.PredView.{formula_of}
use Rattle.lq_solve_fixpoint.specs.Questions.Assigned.{assignment_of, instances_in}
use Rattle.lq_refined_substitution.specs.Substitution.Views.{subst_view}
use Rattle.lq_solve_fixpoint.specs.Weakening.Chosen.{chosen_in}
use Rattle.lq_solve_facts.proofs.StoreLemmas.Parts.{known_stands, known_under, unknown_stands, unknown_under}
use Rattle.lq_solve_facts.proofs.StoreLemmas.Readings.{stored_kept}
use Rattle.lq_solve_facts.specs.Store.Reads.{AreReads}
use Rattle.lq_solve_facts.proofs.store.adding.add_part.Goals as goal

pub returns-in_ok-add_read-in-Known-clause-held : goal.returns-in_ok-add_read-in-Known-clause-held
returns-in_ok-add_read-in-Known-clause-held c = λ F a s p h m.
    let I = instances_in c.args.instances.now in
    let A = assignment_of c.args.instances.now c.args.chosen.now in
    let pred = c.in-Known.pred in
    c.add_read.ensures.held (formula_of pred) (c.in_ok-read-in-Known.ensures.read F a (known_stands F I c.args.place c.args.part.now pred c.in-Known.is s)) p (c.in_ok-read-in-Known.ensures.kept p h)
    (subst (MeetsEach p) (known_under A c.args.part.now pred c.in-Known.is) m).0

pub returns-in_ok-add_read-in-Known-clause-read : goal.returns-in_ok-add_read-in-Known-clause-read
returns-in_ok-add_read-in-Known-clause-read c = λ F a s v p g m.
    let I = instances_in c.args.instances.now in
    let A = assignment_of c.args.instances.now c.args.chosen.now in
    let pred = c.in-Known.pred in
    let now = c.in_ok-add_read-in-Known.ensures.read (formula_of pred) (c.in_ok-read-in-Known.ensures.read F a (known_stands F I c.args.place c.args.part.now pred c.in-Known.is s)) v p g m in
    (subst (MeetsEachRow v p) c.in_ok-read-in-Known.ensures.same now.0, subst (λ l. MeetsEach p l × EachPlain l) (sym (known_under A c.args.part.now pred c.in-Known.is)) ((now.1.0, tt), (now.1.1, tt)))

pub returns-in_ok-add_read-in-Known-clause-stored : goal.returns-in_ok-add_read-in-Known-clause-stored
returns-in_ok-add_read-in-Known-clause-stored c = λ F a s.
    stored_kept F c.read_known.new.known c.add_read.new.self c.read_known.new.store c.add_read.ensures.keeps
    (c.read_known.ensures.stored F a (known_stands F (instances_in c.args.instances.now) c.args.place c.args.part.now c.in-Known.pred c.in-Known.is s))

pub returns-in_ok-add_read-in-Known-clause-keeps : goal.returns-in_ok-add_read-in-Known-clause-keeps
returns-in_ok-add_read-in-Known-clause-keeps c = keeps_then _ _ _ c.read_known.ensures.keeps c.add_read.ensures.keeps

pub returns-in_err-add_read-in-Known-clause-stored : goal.returns-in_err-add_read-in-Known-clause-stored
returns-in_err-add_read-in-Known-clause-stored c = λ F a s.
    stored_kept F c.read_known.new.known c.add_read.new.self c.read_known.new.store c.add_read.ensures.keeps
    (c.read_known.ensures.stored F a (known_stands F (instances_in c.args.instances.now) c.args.place c.args.part.now c.in-Known.pred c.in-Known.is s))

pub returns-in_err-add_read-in-Known-clause-keeps : goal.returns-in_err-add_read-in-Known-clause-keeps
returns-in_err-add_read-in-Known-clause-keeps c = keeps_then _ _ _ c.read_known.ensures.keeps c.add_read.ensures.keeps

pub returns-in_err-read-in-Known-clause-stored : goal.returns-in_err-read-in-Known-clause-stored
returns-in_err-read-in-Known-clause-stored c = λ F a s.
    c.read_known.ensures.stored F a (known_stands F (instances_in c.args.instances.now) c.args.place c.args.part.now c.in-Known.pred c.in-Known.is s)

pub returns-in_ok-add_each-in-Some-clause-held : goal.returns-in_ok-add_each-in-Some-clause-held
returns-in_ok-add_each-in-Some-clause-held c = λ F a s p h m.
    let I = instances_in c.args.instances.now in
    let u = c.in-Unknown.unknown in
    let by = c.in-Unknown.by in
    let f = chosen_in c.args.chosen.now in
    let qs = list_view c.in-Some.list.now in
    let is = listed (instances_view c.args.instances.now) u qs c.in-Some.ensures in
    c.in_ok-add_each-in-Some.ensures.held (f u) (subst_view by) qs (subst (AreReads c.read_chosen.new.known (f u) (subst_view by) qs) (sym c.as_slice.ensures.value) (c.in_ok-reads-in-Some.ensures.reads F a (unknown_stands F I c.args.place c.args.part.now u by qs c.in-Unknown.is is s))) p (c.in_ok-reads-in-Some.ensures.kept p h)
    (subst (MeetsEach p) (unknown_under I f c.args.part.now u by qs c.in-Unknown.is is) m)

pub returns-in_ok-add_each-in-Some-clause-read : goal.returns-in_ok-add_each-in-Some-clause-read
returns-in_ok-add_each-in-Some-clause-read c = λ F a s v p g m.
    let I = instances_in c.args.instances.now in
    let u = c.in-Unknown.unknown in
    let by = c.in-Unknown.by in
    let f = chosen_in c.args.chosen.now in
    let qs = list_view c.in-Some.list.now in
    let is = listed (instances_view c.args.instances.now) u qs c.in-Some.ensures in
    let now = c.in_ok-add_each-in-Some.ensures.read (f u) (subst_view by) qs (subst (AreReads c.read_chosen.new.known (f u) (subst_view by) qs) (sym c.as_slice.ensures.value) (c.in_ok-reads-in-Some.ensures.reads F a (unknown_stands F I c.args.place c.args.part.now u by qs c.in-Unknown.is is s))) v p g m in
    (subst (MeetsEachRow v p) c.in_ok-reads-in-Some.ensures.same now.0, subst (λ l. MeetsEach p l × EachPlain l) (sym (unknown_under I f c.args.part.now u by qs c.in-Unknown.is is)) now.1)

pub returns-in_ok-add_each-in-Some-clause-stored : goal.returns-in_ok-add_each-in-Some-clause-stored
returns-in_ok-add_each-in-Some-clause-stored c = λ F a s.
    let qs = list_view c.in-Some.list.now in
    stored_kept F c.read_chosen.new.known c.add_each.new.known c.read_chosen.new.store c.add_each.ensures.keeps
    (c.read_chosen.ensures.stored F a
    (unknown_stands F (instances_in c.args.instances.now) c.args.place c.args.part.now c.in-Unknown.unknown c.in-Unknown.by qs c.in-Unknown.is (listed (instances_view c.args.instances.now) c.in-Unknown.unknown qs c.in-Some.ensures) s))

pub returns-in_ok-add_each-in-Some-clause-keeps : goal.returns-in_ok-add_each-in-Some-clause-keeps
returns-in_ok-add_each-in-Some-clause-keeps c = keeps_then _ _ _ c.read_chosen.ensures.keeps c.add_each.ensures.keeps

pub returns-in_err-add_each-in-Some-clause-stored : goal.returns-in_err-add_each-in-Some-clause-stored
returns-in_err-add_each-in-Some-clause-stored c = λ F a s.
    let qs = list_view c.in-Some.list.now in
    stored_kept F c.read_chosen.new.known c.add_each.new.known c.read_chosen.new.store c.add_each.ensures.keeps
    (c.read_chosen.ensures.stored F a
    (unknown_stands F (instances_in c.args.instances.now) c.args.place c.args.part.now c.in-Unknown.unknown c.in-Unknown.by qs c.in-Unknown.is (listed (instances_view c.args.instances.now) c.in-Unknown.unknown qs c.in-Some.ensures) s))

pub returns-in_err-add_each-in-Some-clause-keeps : goal.returns-in_err-add_each-in-Some-clause-keeps
returns-in_err-add_each-in-Some-clause-keeps c = keeps_then _ _ _ c.read_chosen.ensures.keeps c.add_each.ensures.keeps

pub returns-in_err-reads-in-Some-clause-stored : goal.returns-in_err-reads-in-Some-clause-stored
returns-in_err-reads-in-Some-clause-stored c = λ F a s.
    let qs = list_view c.in-Some.list.now in
    c.read_chosen.ensures.stored F a
    (unknown_stands F (instances_in c.args.instances.now) c.args.place c.args.part.now c.in-Unknown.unknown c.in-Unknown.by qs c.in-Unknown.is (listed (instances_view c.args.instances.now) c.in-Unknown.unknown qs c.in-Some.ensures) s)

pub returns-in-None-clause-read : goal.returns-in-None-clause-read
returns-in-None-clause-read c = λ F a s v p g m.
    let is = unlisted (instances_view c.args.instances.now) c.in-Unknown.unknown c.in-None.ensures in
    (m, subst (λ l. MeetsEach p l × EachPlain l) (sym (unknown_under (instances_in c.args.instances.now) (chosen_in c.args.chosen.now) c.args.part.now c.in-Unknown.unknown c.in-Unknown.by [] c.in-Unknown.is is)) (tt, tt))
