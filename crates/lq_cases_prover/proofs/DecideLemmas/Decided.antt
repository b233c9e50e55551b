-- Where no two terms apply one of `*`, `/` and `mod`, there are no two to decide.
use Rattle.std.proofs.Common.{◌≡◌, ◌+◌, suc, true, refl, arith}
use Rattle.std.proofs.lemmas.Option.{slice_get_within}
use Rattle.lq_prover_proof_tree.specs.Trees.Proves.{ApplyTwo, products, quotients, remainders}
use Rattle.lq_prover_decide.specs.Case.{Case}
use Rattle.lq_prover_decide.specs.Deciding.{PairsAreDecided}
use Rattle.lq_cases_prover.specs.Decide.Pairs.{AreAlone, apply_one}
use Rattle.lq_logic_predicates.specs.Sum.{Sum}

two_apply_one : (s a b t d e : Sum) → ApplyTwo s a b t d e → apply_one s t ≡ true
two_apply_one _ _ _ _ _ _ (products a b c d n m) = refl
two_apply_one _ _ _ _ _ _ (quotients a b c d) = refl
two_apply_one _ _ _ _ _ _ (remainders a b c d) = refl

pub decided : (c : Case) → AreAlone c.terms → PairsAreDecided c
decided c h = λ i j s a b t d e g k w. absurd (h (i + suc j) (slice_get_within c.terms (i + suc j) t k) i s t (omega arith) g k (two_apply_one s a b t d e w))
