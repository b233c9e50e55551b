-- What a search ends with, said of the implication.
use Rattle.std.proofs.Common.{◌≡◌, subst, List}
use Rattle.std.specs.List.{filter}
use Rattle.lq_prover_proof_tree.specs.Trees.Path.{nothing, taken}
use Rattle.lq_prover_proof_tree.specs.Trees.Proves.{Proves}
use Rattle.lq_prover_proof_tree.specs.Trees.Tree.{Tree}
use Rattle.lq_prover_case.specs.Equations.Equating.{numbering_by}
use Rattle.lq_logic_rows.specs.Row.{Row}
use Rattle.lq_prover_proof_tree.specs.Literals.Parts.{is_application}
use Rattle.lq_logic_predicates.specs.ClosedImplication.{ClosedImplication, terms_in}
use Rattle.lq_logic_predicates.specs.Reading.{Reading}
use Rattle.lq_logic_predicates.specs.Sum.{Sum}
use Rattle.lq_prover_valid.specs.Answers.{ProvesImplication}
use Rattle.lq_prover_valid.specs.Openings.{IsOpeningReading}
use Rattle.lq_prover_valid.proofs.Opening.{is_opening}

pub proves_implication : (terms : List Sum) (i : ClosedImplication) (r : Reading Row) (t : Tree) → terms ≡ terms_in i → IsOpeningReading terms i r
    → Proves (numbering_by terms) (taken nothing r) t → ProvesImplication i t
proves_implication terms i r t e o p = record {
  path = taken nothing r;
  opening = is_opening (terms_in i) i r (subst (λ ts. IsOpeningReading ts i r) e o);
  proves = subst (λ ts. Proves (record { terms = ts; applications = filter is_application ts }) (taken nothing r) t) e p;
}
