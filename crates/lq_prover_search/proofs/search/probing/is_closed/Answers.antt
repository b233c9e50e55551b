use Rattle.std.proofs.Common.{◌∙◌, ap}
use Rattle.lq_prover_case.specs.State.PathState.{facts_in}
use Rattle.lq_logic_predicates.specs.NnfView.{nnf_view}
use Rattle.lq_prover_search.specs.Search.Parts.{facts_of as part_facts}
use Rattle.lq_prover_search.specs.Search.SearchPath.{scope_of}
use Rattle.lq_prover_search.proofs.SearchLemmas.Steps.{parts_are, parts_below, parts_sides}
use Rattle.lq_prover_search.proofs.SearchLemmas.Unmoved.{grown_back, grown_longer}
use Rattle.lq_prover_search.proofs.search.probing.is_closed.Goals as goal

pub take_parts-taken-requires-clause-sides : goal.take_parts-taken-requires-clause-sides
take_parts-taken-requires-clause-sides c =
    let s = scope_of c.args.givens.now in
    let r = nnf_view c.args.member.now in
    let parts = parts_are r c.new-parts.result.items c.add_parts.new.parts.items c.new-choices.result.items c.add_parts.new.choices.items c.new-parts.ensures.items c.in-Ok.ensures.taken in
    parts_sides s r c.deref.result.now c.requires.within (ap part_facts c.deref.ensures.value ∙ parts)

pub take_parts-taken-requires-clause-below : goal.take_parts-taken-requires-clause-below
take_parts-taken-requires-clause-below c =
    let s = scope_of c.args.givens.now in
    let r = nnf_view c.args.member.now in
    let parts = parts_are r c.new-parts.result.items c.add_parts.new.parts.items c.new-choices.result.items c.add_parts.new.choices.items c.new-parts.ensures.items c.in-Ok.ensures.taken in
    parts_below s r c.deref.result.now c.args.state.now.rows.distances.terms c.requires.terms c.requires.within (ap part_facts c.deref.ensures.value ∙ parts)

pub back_to-requires : goal.back_to-requires
back_to-requires c = λ name.
    grown_longer (facts_in name c.args.state.now) (facts_in name c.take_parts-taken.new.state) c.mark-before.result.0 (c.mark-before.ensures name) (c.take_parts-taken.ensures.grows name)

pub returns : goal.returns
returns c =
    let t = c.take_parts-taken.ensures in
    let b = c.back_to.ensures in
    record {
      facts = λ name. b.facts name ∙ grown_back (facts_in name c.args.state.now) (facts_in name c.take_parts-taken.new.state) c.mark-before.result.0 (c.mark-before.ensures name) (t.grows name);
      limits = (b.limits.0 ∙ t.limits.0, b.limits.1 ∙ t.limits.1, b.limits.2 ∙ t.limits.2);
      handed = λ ever h. b.handed ever (t.handed ever h);
    }
