use Rattle.std.proofs.Common.{◌∙◌, ◌<◌, All, length, map, sym, subst}
use Rattle.std.proofs.lemmas.List.Elements.{All-weaker}
use Rattle.std.proofs.lemmas.Option.{slice_get_within}
use Rattle.lq_prover_case.specs.State.RowState.{terms_of}
use Rattle.lq_prover_search.specs.Path.Readings.{AreOver}
use Rattle.lq_prover_search.specs.declared.path.choice.Choice.{Choice}
use Rattle.lq_logic_predicates.specs.NnfView.{nnfs_view}
use Rattle.lq_logic_predicates.specs.TermView.{sum_of}
use Rattle.lq_prover_search.specs.Search.Scope.{AreWithin}
use Rattle.lq_prover_search.specs.Search.SearchPath.{scope_of}
use Rattle.lq_prover_search.proofs.SearchLemmas.Taken.{pairs_within}
use Rattle.lq_prover_search.proofs.SearchLemmas.Within.{are_over}
use Rattle.lq_prover_search.proofs.search.open.next_open.Goals as goal

pub first_open-requires-clause-over : goal.first_open-requires-clause-over
first_open-requires-clause-over c =
    let s = scope_of c.args.givens.now in
    let P : Choice → Type 0 = λ x. AreOver (terms_of c.args.path.now.state.rows) (map sum_of c.as_set-objects.result.now.keys) (nnfs_view x.members.now) in
    subst (All P) (sym c.deref.ensures.value)
    (All-weaker (λ (x : Choice). AreWithin s (nnfs_view x.members.now)) P
    (λ x h. subst (λ os. AreOver (terms_of c.args.path.now.state.rows) os (nnfs_view x.members.now)) (sym c.as_set-objects.ensures)
    (subst (λ n. AreOver n s.objects (nnfs_view x.members.now)) (sym c.requires.ready.terms_are) (are_over s (nnfs_view x.members.now) h)))
    c.args.path.now.choices.items c.requires.ready.choices_in)

pub best_choice-best-requires-clause-over : goal.best_choice-best-requires-clause-over
best_choice-best-requires-clause-over c =
    let s = scope_of c.args.givens.now in
    let P : Choice → Type 0 = λ x. AreOver (terms_of c.args.path.now.state.rows) (map sum_of c.as_set-objects.result.now.keys) (nnfs_view x.members.now) in
    subst (All P) (sym c.deref-in-Some.ensures.value)
    (All-weaker (λ (x : Choice). AreWithin s (nnfs_view x.members.now)) P
    (λ x h. subst (λ os. AreOver (terms_of c.args.path.now.state.rows) os (nnfs_view x.members.now)) (sym c.as_set-objects.ensures)
    (subst (λ n. AreOver n s.objects (nnfs_view x.members.now)) (sym c.requires.ready.terms_are) (are_over s (nnfs_view x.members.now) h)))
    c.args.path.now.choices.items c.requires.ready.choices_in)

pub best_choice-best-requires-clause-within : goal.best_choice-best-requires-clause-within
best_choice-best-requires-clause-within c =
    let first_one = c.in-Some.ensures.some in
    subst (λ l. c.in-Some.first < length l) (c.deref.ensures.value ∙ sym c.deref-in-Some.ensures.value)
    (slice_get_within c.deref.result.now c.in-Some.first first_one.choice first_one.here)

pub first_open-requires-2-clause-over : goal.first_open-requires-2-clause-over
first_open-requires-2-clause-over c =
    let s = scope_of c.args.givens.now in
    let P : Choice → Type 0 = λ x. AreOver (terms_of c.args.path.now.state.rows) (map sum_of c.as_set-objects.result.now.keys) (nnfs_view x.members.now) in
    subst (All P) (sym c.deref-2.ensures.value)
    (All-weaker (λ (x : Choice). AreWithin s (nnfs_view x.members.now)) P
    (λ x h. subst (λ os. AreOver (terms_of c.args.path.now.state.rows) os (nnfs_view x.members.now)) (sym c.as_set-objects.ensures)
    (subst (λ n. AreOver n s.objects (nnfs_view x.members.now)) (sym c.requires.ready.terms_are) (are_over s (nnfs_view x.members.now) h)))
    c.args.path.now.pairs.items (pairs_within s c.args.givens.now.pairs.now c.args.path.now.pairs.items c.requires.ready.pairs_are c.requires.given.within))
