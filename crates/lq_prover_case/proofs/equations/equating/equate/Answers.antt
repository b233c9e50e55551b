use Rattle.std.proofs.Common.{◌∷◌, [], ◌++◌, ◌+◌, ◌∙◌, refl, sym, ap, subst}
use Rattle.lq_prover_case.specs.State.PathState.{facts_in}
use Rattle.lq_prover_case.specs.State.RowState.{terms_of as row_terms}
use Rattle.lq_prover_proof_tree.specs.Trees.Path.{row_fact}
use Rattle.lq_prover_case.specs.Equations.Equating.{Wraps, numbering_by}
use Rattle.lq_prover_case.specs.Equations.Naming.{name_in, objects_of}
use Rattle.lq_prover_case.specs.declared.equations.chain.Joint.{Joint}
use Rattle.lq_prover_case.proofs.EquationsLemmas.Chains.{wraps_push}
use Rattle.lq_prover_case.proofs.EquationsLemmas.Equations.{stops_one}
use Rattle.lq_prover_case.proofs.EquationsLemmas.Joining.{joint_of, object_within, parts_below, rises}
use Rattle.lq_prover_case.proofs.EquationsLemmas.Sides.{if_err, on_ok}
use Rattle.lq_logic_predicates.specs.TableView.{terms_of}
use Rattle.lq_prover_case.proofs.equations.equating.equate.Goals as goal

pub joined-requires-clause-left_in : goal.joined-requires-clause-left_in
joined-requires-clause-left_in c = object_within (objects_of c.args.objects.now) (terms_of c.args.table.now) c.args.first c.args.state.now.objects.count c.requires.count c.requires.first

pub joined-requires-clause-right_in : goal.joined-requires-clause-right_in
joined-requires-clause-right_in c = object_within (objects_of c.args.objects.now) (terms_of c.args.table.now) c.args.later c.args.state.now.objects.count c.requires.count c.requires.later

pub unreachable-requires : goal.unreachable-requires
unreachable-requires c = (rw c.in_default-joined.is at c.in-Ok.ensures.none) c.requires.one

pub equal_row-requires : goal.equal_row-requires
equal_row-requires c = rises (objects_of c.args.objects.now) (terms_of c.args.table.now) c.args.first c.args.later c.requires.first c.requires.later c.requires.before

pub take_row-requires : goal.take_row-requires
take_row-requires c =
    parts_below (objects_of c.args.objects.now) (terms_of c.args.table.now) c.args.first c.args.later (row_terms c.args.state.now.rows) c.in-Ok-equal_row.row c.requires.terms c.requires.first c.requires.later
    c.in-Ok-equal_row.ensures

pub returns-clause-adds : goal.returns-clause-adds
returns-clause-adds c =
    on_ok c.take_row.result (λ s name. s name ∙ ap (λ r. facts_in name c.args.state.now ++ row_fact r ∷ []) c.in-Ok-equal_row.ensures) c.take_row.ensures.stands

pub returns-clause-stop : goal.returns-clause-stop
returns-clause-stop c =
    let name = name_in (objects_of c.args.objects.now) in
    let facts = facts_in name c.args.state.now in
    let row = c.in-Ok-equal_row.row in
    if_err c.take_row.result
    (λ e s. stops_one facts (facts ++ row_fact row ∷ []) (c.args.first.term, c.args.later.term) e (ap (λ r. facts ++ row_fact r ∷ []) c.in-Ok-equal_row.ensures) (s name))
    c.take_row.ensures.stop

pub returns-clause-wraps : goal.returns-clause-wraps
returns-clause-wraps c =
    let objects = objects_of c.args.objects.now in
    let terms = terms_of c.args.table.now in
    let name = name_in objects in
    let facts = facts_in name c.args.state.now in
    let row = c.in-Ok-equal_row.row in
    let joint : Joint = record { left = c.args.first.index + 1; right = c.args.later.index + 1; tags = c.in-Some.tags } in
    let joined = rw c.in-Some.is at c.in-Ok.ensures.some in
    let is = joint_of objects terms facts c.args.first c.args.later joint row c.requires.distinct c.requires.first c.requires.later c.requires.function c.requires.before refl refl (joined name) c.in-Ok-equal_row.ensures in
    on_ok c.take_row.result
    (λ s whole choices w. subst (Wraps (numbering_by terms) whole choices c.push.new.self.items) (sym (s name))
    (subst (λ joints. Wraps (numbering_by terms) whole choices joints (facts ++ row_fact row ∷ [])) (sym c.in-Ok-push.ensures.items)
    (wraps_push (numbering_by terms) whole choices c.args.joints.now.items joint facts row is w)))
    c.take_row.ensures.stands
