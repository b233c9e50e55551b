use Rattle.lq_prover_proof_tree.proofs.TreesLemmas.Meeting.{meets_taken, taken_meets}
use Rattle.lq_prover_proof_tree.proofs.TreesLemmas.Refuting.{refuted}
use Rattle.lq_prover_proof_tree.proofs.trees.laws.proved_paths_have_no_point.Goals as goal

pub returns-clause-none : goal.returns-clause-none
returns-clause-none c = λ n v p path tree d g a m h.
    refuted n v p path tree (record {
      row_holds = λ k r is holds. (c.rows_say_what_comparisons_say.ensures.row n.terms v p k r d g is).1 holds;
      agree = a;
      solved = λ rows ms s k. c.conflict_or_point.ensures v rows ms s k;
    }) m h

pub returns-clause-taken : goal.returns-clause-taken
returns-clause-taken c = λ v p path r. (taken_meets v p path r, λ h. meets_taken v p path r h.0 h.1)
