use Rattle.std.proofs.Common.{All, subst, sym}
use Rattle.lq_prover_case.specs.Equations.Naming.{objects_of}
use Rattle.lq_logic_points.specs.Agreeing.{HasAllArguments}
use Rattle.lq_logic_points.proofs.Covers.{all_arguments}
use Rattle.lq_logic_points.proofs.Literal.{all_among, pair_literal}
use Rattle.lq_logic_predicates.specs.ClosedImplication.{terms_in}
use Rattle.lq_logic_predicates.specs.Comparison.{CanGather}
use Rattle.lq_logic_predicates.specs.Literals.{all_pairs, implication_literals}
use Rattle.lq_logic_predicates.specs.PredView.{implication_of}
use Rattle.lq_logic_predicates.specs.TableView.{terms_of}
use Rattle.lq_prover_valid.proofs.Pairs.{pairs_within}
use Rattle.lq_prover_search.specs.Search.Pairs.{IsPair}
use Rattle.lq_prover_search.specs.Search.Scope.{Scope}
use Rattle.lq_cases_prover.proofs.prover.asking.outcome_with.Goals as goal

pub all_pairs-requires-clause-arguments : goal.all_pairs-requires-clause-arguments
all_pairs-requires-clause-arguments c =
    let i = implication_of c.args.implication.now in
    subst (λ l. HasAllArguments l l) (sym c.requires.terms) (all_arguments (terms_in i) i (λ t h. h))

pub all_pairs-requires-clause-fits : goal.all_pairs-requires-clause-fits
all_pairs-requires-clause-fits c =
    let i = implication_of c.args.implication.now in
    subst (λ l. All CanGather (all_pairs l)) (sym c.requires.terms) (all_among (implication_literals i) (all_pairs (terms_in i)) c.requires.gathers (pair_literal i))

pub outcome_given-requires-clause-given : goal.outcome_given-requires-clause-given
outcome_given-requires-clause-given c =
    let s : Scope = record { terms = terms_of c.args.terms.now; objects = objects_of c.args.objects.now; flags = c.in_ok-flags.flags.keys } in
    let each = subst (All (IsPair s.terms)) (sym c.deref.ensures.value) c.in_ok-pairs.ensures.pairs.each in
    record { arguments = c.requires.arguments; each = each; within = pairs_within c.rows_say_what_comparisons_say.ensures.within s c.deref.result.now each }

pub outcome_given-requires-clause-hypotheses : goal.outcome_given-requires-clause-hypotheses
outcome_given-requires-clause-hypotheses c =
    let s : Scope = record { terms = terms_of c.args.terms.now; objects = objects_of c.args.objects.now; flags = c.in_ok-flags.flags.keys } in
    c.requires.hypotheses s (record { terms = c.requires.terms; flags = c.in_ok-flags.ensures; objects = c.requires.named })

pub outcome_given-requires-clause-goals : goal.outcome_given-requires-clause-goals
outcome_given-requires-clause-goals c =
    let s : Scope = record { terms = terms_of c.args.terms.now; objects = objects_of c.args.objects.now; flags = c.in_ok-flags.flags.keys } in
    c.requires.goals s (record { terms = c.requires.terms; flags = c.in_ok-flags.ensures; objects = c.requires.named })
