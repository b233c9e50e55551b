use Rattle.std.proofs.Common.{◌≡◌, map, subst, ap, ◌∙◌, IfOk, IfSome, IfNone}
use Rattle.lq_prover_proof_tree.specs.Literals.Gathered.{AllGathered, CanBeGathered, IsFirstPast}
use Rattle.lq_prover_proof_tree.specs.Literals.Leaves.{leaves_in}
use Rattle.lq_prover_proof_tree.specs.Literals.LeafView.{leaf_views}
use Rattle.lq_prover_proof_tree.specs.Literals.Sources.{leaf_source, row_source}
use Rattle.lq_prover_proof_tree.proofs.LiteralsLemmas.Leading.{first_left, lift_some, lift_none}
use Rattle.lq_logic_predicates.specs.ClosedImplication.{terms_in}
use Rattle.lq_logic_predicates.specs.Literals.{all_pairs}
use Rattle.lq_logic_predicates.specs.PredView.{formula_of, implication_of}
use Rattle.lq_prover_proof_tree.proofs.literals.ungathered.first_past.Goals as goal

pub returns-in-Some-clause-some : goal.returns-in-Some-clause-some
returns-in-Some-clause-some c =
    let i = implication_of c.args.implication.now in
    let is : leaf_views c.as_slice.result.now ≡ leaves_in i = ap leaf_views c.as_slice.ensures.value ∙ c.in_ok-leaves.ensures in
    first_left (map leaf_source (leaves_in i)) (map row_source (all_pairs (terms_in i))) (formula_of c.in-Some.pred)
    (subst (λ l. IsFirstPast (map leaf_source l) (formula_of c.in-Some.pred)) is
    (subst (λ o. IfSome o (λ p. IsFirstPast (map leaf_source (leaf_views c.as_slice.result.now)) (formula_of p))) c.in-Some.is c.in_ok-pred.ensures.some))

pub returns-clause-some : goal.returns-clause-some
returns-clause-some c =
    let i = implication_of c.args.implication.now in
    let is : leaf_views c.as_slice.result.now ≡ leaves_in i = ap leaf_views c.as_slice.ensures.value ∙ c.in_ok-leaves.ensures in
    let all : AllGathered (map leaf_source (leaves_in i)) =
    subst (λ l. AllGathered (map leaf_source l)) is (subst (λ o. IfNone o (AllGathered (map leaf_source (leaf_views c.as_slice.result.now)))) c.in-None.is c.in_ok-pred.ensures.none) in
    lift_some c.first_past_pair.result (map leaf_source (leaves_in i)) (map row_source (all_pairs (terms_in i))) all
    (subst (λ t. IfOk c.first_past_pair.result (λ o. IfSome o (λ p. IsFirstPast (map row_source (all_pairs t)) (formula_of p)))) c.in_ok-terms.ensures c.first_past_pair.ensures.some)

pub returns-clause-none : goal.returns-clause-none
returns-clause-none c =
    let i = implication_of c.args.implication.now in
    let is : leaf_views c.as_slice.result.now ≡ leaves_in i = ap leaf_views c.as_slice.ensures.value ∙ c.in_ok-leaves.ensures in
    let all : AllGathered (map leaf_source (leaves_in i)) =
    subst (λ l. AllGathered (map leaf_source l)) is (subst (λ o. IfNone o (AllGathered (map leaf_source (leaf_views c.as_slice.result.now)))) c.in-None.is c.in_ok-pred.ensures.none) in
    lift_none c.first_past_pair.result (map leaf_source (leaves_in i)) (map row_source (all_pairs (terms_in i))) (CanBeGathered i) all
    (λ h. (c.sources_have_the_literals.ensures.gathered i).0 h)
    (subst (λ t. IfOk c.first_past_pair.result (λ o. IfNone o (AllGathered (map row_source (all_pairs t))))) c.in_ok-terms.ensures c.first_past_pair.ensures.none)
