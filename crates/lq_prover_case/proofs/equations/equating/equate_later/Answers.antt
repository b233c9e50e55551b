use Rattle.std.proofs.Common.{refl, subst}
use Rattle.lq_prover_case.specs.State.PathState.{facts_in}
use Rattle.lq_prover_proof_tree.specs.Trees.Proves.{rows_among}
use Rattle.lq_prover_case.specs.Equations.Equating.{equation}
use Rattle.lq_prover_case.specs.Equations.Naming.{name_in, objects_of}
use Rattle.lq_prover_case.proofs.EquationsLemmas.Equated.{each_next}
use Rattle.lq_prover_case.proofs.EquationsLemmas.Equations.{adds_none, adds_one, equation_says, last_holds, solves_one}
use Rattle.lq_prover_case.proofs.EquationsLemmas.Joining.{fourth, object_within, one_function, second_of_four, third_of_four}
use Rattle.lq_prover_case.proofs.EquationsLemmas.Sides.{on_ok}
use Rattle.lq_logic_rows.specs.Contradiction.{Solves}
use Rattle.lq_logic_predicates.specs.TableView.{terms_of}
use Rattle.lq_prover_case.proofs.equations.equating.equate_later.Goals as goal

pub equate-requires-clause-function : goal.equate-requires-clause-function
equate-requires-clause-function c =
    second_of_four ((rw c.in-Ok-Some.field-0-is at c.in-Ok-Some.ensures.some) (objects_of c.args.objects.now) (terms_of c.args.table.now) c.args.classes.now c.requires.firsts)

pub equate-requires-clause-before : goal.equate-requires-clause-before
equate-requires-clause-before c =
    fourth ((rw c.in-Ok-Some.field-0-is at c.in-Ok-Some.ensures.some) (objects_of c.args.objects.now) (terms_of c.args.table.now) c.args.classes.now c.requires.firsts)

pub equate-requires-clause-one : goal.equate-requires-clause-one
equate-requires-clause-one c =
    let objects = objects_of c.args.objects.now in
    let terms = terms_of c.args.table.now in
    let f = (rw c.in-Ok-Some.field-0-is at c.in-Ok-Some.ensures.some) objects terms c.args.classes.now c.requires.firsts in
    c.requires.one c.in-Ok-Some.first.object c.args.later.object (object_within objects terms c.in-Ok-Some.first _ refl f.0) (object_within objects terms c.args.later _ refl c.requires.later) (third_of_four f)

pub returns-in-Ok-Some-clause-firsts : goal.returns-in-Ok-Some-clause-firsts
returns-in-Ok-Some-clause-firsts c =
    on_ok c.equate.result (λ _. c.in-Ok-Some.ensures.firsts (objects_of c.args.objects.now) (terms_of c.args.table.now) c.args.classes.now refl c.requires.firsts c.requires.later) c.equate.ensures.wraps

pub returns-in-Ok-Some-clause-adds : goal.returns-in-Ok-Some-clause-adds
returns-in-Ok-Some-clause-adds c =
    let objects = objects_of c.args.objects.now in
    let terms = terms_of c.args.table.now in
    let first = c.in-Ok-Some.first in
    let later = c.args.later in
    let f = (rw c.in-Ok-Some.field-0-is at c.in-Ok-Some.ensures.some) objects terms c.args.classes.now c.requires.firsts in
    let one = one_function objects terms first later c.requires.distinct f.0 c.requires.later (second_of_four f) (fourth f) in
    on_ok c.equate.result (λ a name. adds_one terms (facts_in name c.args.state.now) (facts_in name c.equate.new.state) (first.term, later.term) one (a name)) c.equate.ensures.adds

pub returns-in-Ok-Some-clause-equated : goal.returns-in-Ok-Some-clause-equated
returns-in-Ok-Some-clause-equated c =
    let objects = objects_of c.args.objects.now in
    let terms = terms_of c.args.table.now in
    let name = name_in objects in
    let old = facts_in name c.args.state.now in
    let new = facts_in name c.equate.new.state in
    let first = c.in-Ok-Some.first in
    let later = c.args.later in
    on_ok c.equate.result
    (λ a. each_next objects terms c.args.classes.now later.index c.args.equations.now.firsts.entries c.first_of.new.firsts.entries old new later first c.in-Ok-Some.ensures.keeps
    (λ v. solves_one v old new (first.term, later.term) (a name)) c.requires.later refl (rw c.in-Ok-Some.field-0-is at c.in-Ok-Some.ensures.found)
    (λ v s. equation_says v first.term later.term (last_holds v 1 old (equation (first.term, later.term)) (subst (λ l. Solves v (rows_among l)) (a name) s))))
    c.equate.ensures.adds

pub returns-in-Ok-None-clause-firsts : goal.returns-in-Ok-None-clause-firsts
returns-in-Ok-None-clause-firsts c = c.in-Ok-None.ensures.firsts (objects_of c.args.objects.now) (terms_of c.args.table.now) c.args.classes.now refl c.requires.firsts c.requires.later

pub returns-in-Ok-None-clause-adds : goal.returns-in-Ok-None-clause-adds
returns-in-Ok-None-clause-adds c = λ name. adds_none (terms_of c.args.table.now) (facts_in name c.args.state.now)

pub returns-in-Ok-None-clause-equated : goal.returns-in-Ok-None-clause-equated
returns-in-Ok-None-clause-equated c =
    let objects = objects_of c.args.objects.now in
    let terms = terms_of c.args.table.now in
    let facts = facts_in (name_in objects) c.args.state.now in
    let later = c.args.later in
    each_next objects terms c.args.classes.now later.index c.args.equations.now.firsts.entries c.first_of.new.firsts.entries facts facts later later c.in-Ok-None.ensures.keeps (λ v s. s)
    c.requires.later refl (rw c.in-Ok-None.field-0-is at c.in-Ok-None.ensures.found) (λ v s. refl)
