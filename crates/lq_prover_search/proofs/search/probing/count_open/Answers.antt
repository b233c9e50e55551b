use Rattle.std.proofs.Common.{◌∙◌, subst, sym}
use Rattle.lq_prover_search.proofs.PathLemmas.Readings.{view_items}
use Rattle.lq_logic_predicates.specs.NnfView.{nnf_items, nnf_view}
use Rattle.lq_prover_search.specs.Search.Scope.{AreWithin, IsWithin}
use Rattle.lq_prover_search.specs.Search.SearchPath.{scope_of}
use Rattle.lq_prover_search.proofs.SearchLemmas.Steps.{member_inside, member_is}
use Rattle.lq_prover_search.proofs.SearchLemmas.Unmoved.{unmoved_itself, unmoved_then}
use Rattle.lq_prover_search.proofs.SearchLemmas.Within.{item_within}
use Rattle.lq_prover_search.proofs.search.probing.count_open.Goals as goal

pub loop-member-init : goal.loop-member-init
loop-member-init c = unmoved_itself c.args.state.now

pub is_closed-requires-clause-within : goal.is_closed-requires-clause-within
is_closed-requires-clause-within c =
    let s = scope_of c.args.givens.now in
    let items = c.as_slice-member-items.result.now in
    let i = c.loop-member.member-index in
    let n = c.member-item.result in
    let e = c.as_slice-member-items.ensures in
    subst (λ m. IsWithin s (nnf_view m)) (sym (member_is c.args.members.now items i n e c.member-item.is))
    (item_within s (nnf_items c.args.members.now) i n (member_inside c.args.members.now items i e c.loop-member-test.true) (subst (AreWithin s) (view_items c.args.members.now) c.requires.within))

pub is_closed-requires-clause-terms : goal.is_closed-requires-clause-terms
is_closed-requires-clause-terms c = c.loop-member.invariant.limits.0 ∙ c.requires.terms

pub is_closed-requires-clause-count : goal.is_closed-requires-clause-count
is_closed-requires-clause-count c = c.loop-member.invariant.limits.2 ∙ c.requires.count

pub loop-member-preserved : goal.loop-member-preserved
loop-member-preserved c = unmoved_then c.args.state.now c.loop-member.state c.is_closed.new.state c.loop-member.invariant c.is_closed.ensures
