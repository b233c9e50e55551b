use Rattle.std.proofs.Common.{◌∙◌, sym, ap, ◌++◌, ◌∷◌, [], if◌then◌else◌}
use Rattle.lq_prover_proof_tree.specs.Literals.Parts.{is_application}
use Rattle.lq_prover_proof_tree.proofs.LiteralsLemmas.Adding.{places-more}
use Rattle.lq_logic_predicates.specs.TableView.{terms_of}
use Rattle.lq_logic_predicates.specs.TermView.{sum_of}
use Rattle.lq_prover_proof_tree.proofs.literals.parts.applications.Goals as goal

pub loop-at-preserved : goal.loop-at-preserved
loop-at-preserved c =
    c.in_ok-add_number.ensures ∙ ap (λ l. l ++ (if is_application (sum_of c.term.result.now) then c.loop-at.at ∷ [] else [])) c.loop-at.invariant
    ∙ sym (places-more (terms_of c.args.terms.now) c.loop-at.at (sum_of c.term.result.now) c.term.ensures)
