use Rattle.std.proofs.Common.{sym, subst}
use Rattle.lq_prover_proof_tree.specs.Trees.Proves.{Proves}
use Rattle.lq_prover_proof_tree.specs.Trees.TreeView.{tree_view}
use Rattle.lq_prover_search.specs.Search.Splits.{span}
use Rattle.lq_prover_search.proofs.SearchLemmas.Splitting.{reading_gone}
use Rattle.lq_prover_search.proofs.search.sparing.without_reading.Goals as goal

pub returns-clause-proves : goal.returns-clause-proves
returns-clause-proves c = λ n p reading facts choices more_facts more_choices proves.
    let before = c.args.before in let added = c.args.added in
    subst (Proves n p) (sym c.in_ok-without.ensures)
    (reading_gone c.spared_facts_can_go.ensures n p reading (span before.facts added.facts) (span before.choices added.choices) (tree_view c.args.tree.now) facts choices more_facts more_choices
    (c.spares.ensures.0 c.if-not-spares.false) proves)
