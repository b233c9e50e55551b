use Rattle.std.proofs.Common.{◌∙◌, ◌^◌, ◌<◌, List, length, refl, ap, arith}
use Rattle.std.proofs.lemmas.List.{length-map}
use Rattle.std.proofs.lemmas.Result.{err_from_is_err_and}
use Rattle.lq_prover_proof_tree.specs.Trees.Path.{taken}
use Rattle.lq_prover_proof_tree.specs.Trees.TreeView.{tree_view}
use Rattle.lq_prover_case.specs.Equations.Equating.{numbering_by}
use Rattle.lq_prover_case.specs.Equations.Naming.{name_in}
use Rattle.lq_prover_search.specs.declared.path.choice.Choice.{Choice}
use Rattle.lq_logic_predicates.specs.NnfView.{nnf_view}
use Rattle.lq_prover_search.specs.Search.Parts.{facts_of as part_facts, part_fact, path_by}
use Rattle.lq_prover_search.specs.Search.SearchPath.{path_of, scope_of}
use Rattle.lq_prover_search.specs.declared.search.search_path.SearchPath.{SearchPath}
use Rattle.lq_prover_search.proofs.SearchLemmas.Ready.{IsTakenFrom, is_taken, ready_taken}
use Rattle.lq_prover_search.proofs.SearchLemmas.Reaching.{taking_stops}
use Rattle.lq_prover_search.proofs.SearchLemmas.Steps.{leaf_taken, parts_are, parts_below, parts_sides}
use Rattle.lq_prover_search.proofs.search.reading.take_reading.Goals as goal

pub take_parts-requires-clause-sides : goal.take_parts-requires-clause-sides
take_parts-requires-clause-sides c =
    let s = scope_of c.args.givens.now in
    let r = nnf_view c.args.reading.now in
    let parts = parts_are r c.new-parts.result.items c.add_parts.new.parts.items c.args.path.now.choices.items c.add_parts.new.choices.items c.new-parts.ensures.items c.in-Ok.ensures.taken in
    parts_sides s r c.deref.result.now c.requires.within (ap part_facts c.deref.ensures.value ∙ parts)

pub take_parts-requires-clause-below : goal.take_parts-requires-clause-below
take_parts-requires-clause-below c =
    let s = scope_of c.args.givens.now in
    let r = nnf_view c.args.reading.now in
    let parts = parts_are r c.new-parts.result.items c.add_parts.new.parts.items c.args.path.now.choices.items c.add_parts.new.choices.items c.new-parts.ensures.items c.in-Ok.ensures.taken in
    parts_below s r c.deref.result.now c.args.path.now.state.rows.distances.terms c.requires.ready.terms_are c.requires.within (ap part_facts c.deref.ensures.value ∙ parts)

pub returns-in-Some-clause-tree : goal.returns-in-Some-clause-tree
returns-in-Some-clause-tree c =
    let s = scope_of c.args.givens.now in
    let r = nnf_view c.args.reading.now in
    let parts = parts_are r c.new-parts.result.items c.add_parts.new.parts.items c.args.path.now.choices.items c.add_parts.new.choices.items c.new-parts.ensures.items c.in-Ok.ensures.taken in
    leaf_taken (numbering_by s.terms) (path_of s c.args.path.now) r c.deref.result.now (tree_view c.in-Some.leaf) (ap part_facts c.deref.ensures.value ∙ parts)
    (rw c.in-Some.is at c.in_ok-leaf.ensures.leaf)

pub returns-in-Some-clause-longer : goal.returns-in-Some-clause-longer
returns-in-Some-clause-longer c =
    let e = c.in_ok-leaf.ensures in
    let adds = c.in-Ok.ensures.adds in
    record { facts = e.grows; more = adds.more; choices_are = adds.is; pairs_are = refl {A = List Choice}; limits = e.limits }

pub returns-clause-longer : goal.returns-clause-longer
returns-clause-longer c =
    let e = c.in_ok-leaf.ensures in
    let adds = c.in-Ok.ensures.adds in
    record { facts = e.grows; more = adds.more; choices_are = adds.is; pairs_are = refl {A = List Choice}; limits = e.limits }

pub returns-clause-taken : goal.returns-clause-taken
returns-clause-taken c =
    let s = scope_of c.args.givens.now in
    let r = nnf_view c.args.reading.now in
    let p = c.args.path.now in
    let e = c.in_ok-leaf.ensures in
    let q : SearchPath = record { state = c.take_parts.new.state; choices = c.add_parts.new.choices; pairs = c.args.path.now.pairs; order = c.args.path.now.order } in
    let is : IsTakenFrom s r p q = record {
      parts = c.deref.result.now;
      facts = rw c.in_default-2.is at e.stands;
      may_hold = rw c.in_default-2.is at e.may_hold;
      path = ap (λ l. path_by l c.add_parts.new.choices.items) c.deref.ensures.value ∙ c.in-Ok.ensures.taken ∙ ap (λ l. taken (path_by l p.choices.items) r) c.new-parts.ensures.items;
      adds = c.in-Ok.ensures.adds;
      pairs_are = refl {A = List Choice};
      told = (rw c.in_default-2.is at e.told) c.requires.ready.told;
      limits = e.limits;
    } in
    is_taken s r p q is

pub returns-clause-ready : goal.returns-clause-ready
returns-clause-ready c =
    let s = scope_of c.args.givens.now in
    let r = nnf_view c.args.reading.now in
    let p = c.args.path.now in
    let e = c.in_ok-leaf.ensures in
    let q : SearchPath = record { state = c.take_parts.new.state; choices = c.add_parts.new.choices; pairs = c.args.path.now.pairs; order = c.args.path.now.order } in
    let is : IsTakenFrom s r p q = record {
      parts = c.deref.result.now;
      facts = rw c.in_default-2.is at e.stands;
      may_hold = rw c.in_default-2.is at e.may_hold;
      path = ap (λ l. path_by l c.add_parts.new.choices.items) c.deref.ensures.value ∙ c.in-Ok.ensures.taken ∙ ap (λ l. taken (path_by l p.choices.items) r) c.new-parts.ensures.items;
      adds = c.in-Ok.ensures.adds;
      pairs_are = refl {A = List Choice};
      told = (rw c.in_default-2.is at e.told) c.requires.ready.told;
      limits = e.limits;
    } in
    ready_taken s c.args.givens.now.pairs.now r p q c.requires.ready c.requires.within is

pub returns-in_err-leaf-clause-stop : goal.returns-in_err-leaf-clause-stop
returns-in_err-leaf-clause-stop c =
    let p = err_from_is_err_and c.from_residual.result c.from_residual.ensures.1 in
    let s = scope_of c.args.givens.now in
    let r = nnf_view c.args.reading.now in
    let parts = parts_are r c.new-parts.result.items c.add_parts.new.parts.items c.args.path.now.choices.items c.add_parts.new.choices.items c.new-parts.ensures.items c.in-Ok.ensures.taken in
    let short : length (part_facts c.deref.result.now) < 2 ^ 63 =
    (let n = length-map c.deref.result.now part_fact in let m = ap length c.deref.ensures.value in let v = c.add_parts.new.parts.ok in let w = c.add_parts.new.parts.small in
    omega (arith, n, m, v, w)) in
    rw (p.1, p.2) (taking_stops s c.args.givens.now.pairs.now r c.args.path.now (part_facts c.deref.result.now) c.in_err-leaf.field-0.0 (ap part_facts c.deref.ensures.value ∙ parts)
    (c.facts_are_few.ensures (name_in s.objects)) short c.in_err-leaf.ensures.stop)
