use Rattle.std.proofs.Common.{All, map, sym, subst}
use Rattle.std.proofs.lemmas.List.Elements.{All-weaker}
use Rattle.lq_prover_case.specs.State.RowState.{terms_of}
use Rattle.lq_prover_search.specs.Path.Readings.{AreOver}
use Rattle.lq_prover_search.specs.declared.path.choice.Choice.{Choice}
use Rattle.lq_logic_predicates.specs.NnfView.{nnfs_view}
use Rattle.lq_logic_predicates.specs.TermView.{sum_of}
use Rattle.lq_prover_search.specs.Search.Scope.{AreWithin}
use Rattle.lq_prover_search.specs.Search.SearchPath.{scope_of}
use Rattle.lq_prover_search.proofs.SearchLemmas.Taken.{pairs_within}
use Rattle.lq_prover_search.proofs.SearchLemmas.Within.{are_over}
use Rattle.lq_prover_search.proofs.search.probing.probed_pair.Goals as goal

pub broken-places-requires-clause-over : goal.broken-places-requires-clause-over
broken-places-requires-clause-over c =
    let s = scope_of c.args.givens.now in
    let P : Choice → Type 0 = λ x. AreOver (terms_of c.args.path.now.state.rows) (map sum_of c.as_set-objects.result.now.keys) (nnfs_view x.members.now) in
    subst (All P) (sym c.deref.ensures.value)
    (All-weaker (λ (x : Choice). AreWithin s (nnfs_view x.members.now)) P
    (λ x h. subst (λ os. AreOver (terms_of c.args.path.now.state.rows) os (nnfs_view x.members.now)) (sym c.as_set-objects.ensures)
    (subst (λ n. AreOver n s.objects (nnfs_view x.members.now)) (sym c.requires.ready.terms_are) (are_over s (nnfs_view x.members.now) h)))
    c.args.path.now.pairs.items (pairs_within s c.args.givens.now.pairs.now c.args.path.now.pairs.items c.requires.ready.pairs_are c.requires.given.within))

pub probe_pairs-requires-clause-within : goal.probe_pairs-requires-clause-within
probe_pairs-requires-clause-within c =
    let s = scope_of c.args.givens.now in
    subst (All (λ (x : Choice). AreWithin s (nnfs_view x.members.now))) (sym c.deref-2.ensures.value)
    (pairs_within s c.args.givens.now.pairs.now c.args.path.now.pairs.items c.requires.ready.pairs_are c.requires.given.within)
