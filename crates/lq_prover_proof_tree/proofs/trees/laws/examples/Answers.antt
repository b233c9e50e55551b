use Rattle.std.specs.Prelude.{true, false, [], ◌∷◌, refl}
use Rattle.lq_logic_predicates.specs.Reading.{flag_is, any_of, gathers_flag, gathers_any, gather_none, gather_more}
use Rattle.lq_prover_proof_tree.specs.Trees.Path.{with_fact, flag_fact}
use Rattle.lq_prover_proof_tree.specs.Trees.Proves.{by_any, by_clash, flags_clash, each_none, each_more}
use Rattle.lq_prover_proof_tree.specs.Trees.Examples.{both_path, itself_path, one_is_false}
use Rattle.lq_prover_proof_tree.proofs.trees.laws.examples.Goals as goal

pub returns-clause-itself : goal.returns-clause-itself
returns-clause-itself c = λ x. (
  record {
    hypotheses = flag_is x true ∷ [];
    goal = flag_is x false;
    are_hypotheses = (gathers_flag x true, tt);
    is_goal = gathers_flag x false;
    is = refl;
  },
  by_clash (itself_path x) _ (flags_clash 1 2 x true refl refl),
)

pub returns-clause-both : goal.returns-clause-both
returns-clause-both c = λ x y. (
  record {
    hypotheses = flag_is x true ∷ (flag_is y true ∷ []);
    goal = any_of (one_is_false x y);
    are_hypotheses = (gathers_flag x true, (gathers_flag y true, tt));
    is_goal = gathers_any _ _ (gather_more _ _ _ _ (gathers_flag x false) (gather_more _ _ _ _ (gathers_flag y false) gather_none));
    is = refl;
  },
  by_any (both_path x y) 1 (one_is_false x y) _ refl
      (each_more (both_path x y) (flag_is x false) _ _ _ (by_clash (with_fact (both_path x y) (flag_fact x false)) _ (flags_clash 1 3 x true refl refl))
      (each_more (both_path x y) (flag_is y false) _ _ _ (by_clash (with_fact (both_path x y) (flag_fact y false)) _ (flags_clash 2 3 y true refl refl))
      (each_none (both_path x y)))),
)
