use Rattle.std.proofs.Common.{◌≡◌, ◌∙◌, ◌^◌, ◌<◌, arith, ap, length, map, sym, subst}
use Rattle.std.specs.List.{filter}
use Rattle.std.proofs.lemmas.List.{length-map}
use Rattle.lq_prover_proof_tree.specs.Trees.Proves.{Proves}
use Rattle.lq_prover_proof_tree.specs.Trees.TreeView.{tree_view}
use Rattle.lq_prover_decide.specs.Case.{Case, fact_of, numbering_of, path_of}
use Rattle.lq_prover_decide.specs.CaseView.{case_of}
use Rattle.lq_prover_decide.specs.Deciding.{Fits}
use Rattle.lq_prover_decide.specs.Stopping.{StopsOnRows}
use Rattle.lq_prover_case.specs.Equations.Equating.{numbering_by}
use Rattle.lq_prover_case.specs.Equations.Naming.{AllBelow, HasAllArguments, HasAllSides, name_in, objects_of}
use Rattle.lq_prover_decide.proofs.Holding.{all_below}
use Rattle.lq_prover_case.proofs.EquationsLemmas.Joining.{second}
use Rattle.lq_prover_decide.proofs.Stopped.{stops}
use Rattle.lq_prover_proof_tree.specs.Literals.Parts.{is_application}
use Rattle.lq_logic_predicates.specs.Table.{all_differ}
use Rattle.lq_prover_decide.proofs.deciding.decide_case.Goals as goal

pub decide_by-requires-clause-empty : goal.decide_by-requires-clause-empty
decide_by-requires-clause-empty c = c.in-Ok-new.ensures.facts (name_in (objects_of c.in-Ok.objects))

pub decide_by-requires-clause-sides : goal.decide_by-requires-clause-sides
decide_by-requires-clause-sides c = subst (HasAllSides (objects_of c.in-Ok.objects)) (ap (map fact_of) c.as_slice.ensures ∙ c.facts.ensures) c.in-Ok.ensures.sides

pub decide_by-requires-clause-arguments : goal.decide_by-requires-clause-arguments
decide_by-requires-clause-arguments c = subst (HasAllArguments (objects_of c.in-Ok.objects)) c.table-table.ensures c.in-Ok.ensures.arguments

pub decide_by-requires-clause-below : goal.decide_by-requires-clause-below
decide_by-requires-clause-below c =
    let case = case_of c.args.literals.now in
    let n = c.in-Ok-new.ensures.limits.0 ∙ c.len-2.ensures.count ∙ ap length c.table-table.ensures in
    subst (λ k. AllBelow k case.facts) (sym n) (all_below (length case.terms) case.facts c.requires.fits.below)

pub decide_by-requires-clause-terms : goal.decide_by-requires-clause-terms
decide_by-requires-clause-terms c = c.in-Ok-new.ensures.limits.0 ∙ c.len-2.ensures.count ∙ ap length c.table-table.ensures

pub decide_by-requires-clause-limit : goal.decide_by-requires-clause-limit
decide_by-requires-clause-limit c = second c.in-Ok-new.ensures.limits
