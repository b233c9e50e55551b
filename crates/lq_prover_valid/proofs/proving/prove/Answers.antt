use Rattle.std.proofs.Common.{◌≡◌, ◌≤◌, ◌∙◌, All, true, ap, sym, subst}
use Rattle.lq_prover_case.specs.Equations.Naming.{Keeps, objects_of}
use Rattle.lq_prover_proof_tree.specs.Literals.Gathered.{sizes}
use Rattle.lq_logic_points.specs.Agreeing.{HasAllArguments}
use Rattle.lq_logic_points.proofs.Covers.{all_arguments}
use Rattle.lq_logic_points.proofs.Literal.{all_among, pair_literal}
use Rattle.lq_logic_predicates.specs.ClosedImplication.{terms_in}
use Rattle.lq_logic_predicates.specs.Comparison.{CanGather}
use Rattle.lq_logic_predicates.specs.Literals.{all_pairs, implication_literals}
use Rattle.lq_logic_predicates.specs.NnfView.{nnf_view}
use Rattle.lq_logic_predicates.specs.PredView.{implication_of}
use Rattle.lq_logic_predicates.specs.Table.{all_differ}
use Rattle.lq_logic_predicates.specs.TableView.{terms_of}
use Rattle.lq_prover_search.specs.Search.Pairs.{AreOrdered, IsPair}
use Rattle.lq_prover_search.specs.Search.Scope.{Scope}
use Rattle.lq_prover_search.specs.Search.SearchPath.{ways_of}
use Rattle.lq_prover_search.specs.Search.Sizes.{most_of_each}
use Rattle.lq_prover_valid.proofs.Naming.{implication_names}
use Rattle.lq_prover_valid.proofs.Opening.{opening_within}
use Rattle.lq_prover_valid.proofs.Pairs.{pairs_within}
use Rattle.lq_prover_valid.proofs.Small.{SizesFit, if_fits}
use Rattle.lq_prover_valid.proofs.Stopped.{if_small}
use Rattle.lq_prover_valid.proofs.proving.prove.Goals as goal

pub all_pairs-requires-clause-arguments : goal.all_pairs-requires-clause-arguments
all_pairs-requires-clause-arguments c =
    let i = implication_of c.args.implication.now in
    subst (λ l. HasAllArguments l l) (sym c.requires.terms) (all_arguments (terms_in i) i (λ t h. h))

pub all_pairs-requires-clause-fits : goal.all_pairs-requires-clause-fits
all_pairs-requires-clause-fits c =
    let i = implication_of c.args.implication.now in
    subst (λ l. All CanGather (all_pairs l)) (sym c.requires.terms) (all_among (implication_literals i) (all_pairs (terms_in i)) c.requires.gathers (pair_literal i))

pub prove_given-requires-clause-within : goal.prove_given-requires-clause-within
prove_given-requires-clause-within c =
    let i = implication_of c.args.implication.now in
    let s : Scope = record { terms = terms_of c.args.table.now; objects = objects_of c.in-Ok-object_table.objects; flags = c.in-Ok-flags.flags.keys } in
    opening_within c.rows_say_what_comparisons_say.ensures.within s i (nnf_view c.args.reading.now)
    (implication_names s i c.in-Ok-flags.ensures (subst (λ l. Keeps l (objects_of c.in-Ok-object_table.objects)) c.in-Ok.ensures c.in-Ok-object_table.ensures.named)) c.requires.opening

pub prove_given-requires-clause-given : goal.prove_given-requires-clause-given
prove_given-requires-clause-given c =
    let s : Scope = record { terms = terms_of c.args.table.now; objects = objects_of c.in-Ok-object_table.objects; flags = c.in-Ok-flags.flags.keys } in
    let each = subst (All (IsPair s.terms)) (sym c.deref.ensures.value) c.in-Ok-all_pairs.ensures.pairs.each in
    record { arguments = c.in-Ok-object_table.ensures.arguments; each = each; within = pairs_within c.rows_say_what_comparisons_say.ensures.within s c.deref.result.now each }

pub prove_given-requires-clause-ordered : goal.prove_given-requires-clause-ordered
prove_given-requires-clause-ordered c = subst AreOrdered (sym c.deref.ensures.value) c.in-Ok-all_pairs.ensures.ordered

pub prove_given-requires-clause-sizes : goal.prove_given-requires-clause-sizes
prove_given-requires-clause-sizes c =
    subst (λ l. most_of_each (ways_of l) ≤ sizes (all_pairs (terms_of c.args.table.now))) (sym c.deref.ensures.value) c.in-Ok-all_pairs.ensures.sizes

pub returns-clause-small : goal.returns-clause-small
returns-clause-small c = if_small c.args.limit (implication_of c.args.implication.now) c.prove_given.result c.prove_given.ensures.stop

pub returns-clause-fits : goal.returns-clause-fits
returns-clause-fits c =
    let i = implication_of c.args.implication.now in
    let e = c.small_rows_fit.ensures in
    let laws : SizesFit = record {
      work = e.work;
      placed = e.placed;
      near = e.near;
      sums = e.sums;
      there = c.rows_are_there.ensures.there;
      sizes = c.rows_are_there.ensures.sizes;
      agree = c.levels_agree.ensures;
      within = c.rows_say_what_comparisons_say.ensures.within;
    } in
    let distinct : all_differ (terms_in i) ≡ true = ap all_differ (sym c.requires.terms) ∙ c.len-terms.ensures.distinct in
    if_fits c.args.limit i c.prove_given.result laws distinct c.prove_given.ensures.stop
