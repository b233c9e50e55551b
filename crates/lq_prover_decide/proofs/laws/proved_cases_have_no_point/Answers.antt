use Rattle.lq_prover_decide.specs.Case.{numbering_of, path_of}
use Rattle.lq_prover_decide.proofs.Applications.{each_agree}
use Rattle.lq_prover_decide.proofs.laws.proved_cases_have_no_point.Goals as goal

pub returns : goal.returns
returns c = λ k tree v p differ agree point hold proof.
    c.proved_paths_have_no_point.ensures.none (numbering_of k) v p (path_of k) tree differ agree
    (each_agree k.implication p point) (record { facts = hold; choices = tt }) proof
