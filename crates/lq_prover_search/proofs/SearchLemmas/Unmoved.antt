-- The state of a path that comes back to where it was.
use Rattle.std.proofs.Common.{◌≡◌, ◌∙◌, ℕ, List, [], ◌∷◌, ◌++◌, ◌≤◌, length, take, refl, ap, arith}
use Rattle.std.proofs.lemmas.List.{length-append}
use Rattle.lq_prover_case.specs.State.PathState.{PathState}
use Rattle.lq_prover_proof_tree.specs.Trees.Path.{Fact}
use Rattle.lq_prover_case.specs.Equations.Equating.{Grows}
use Rattle.lq_prover_search.specs.Search.Unmoved.{IsUnmoved}

pub unmoved_itself : (s : PathState) → IsUnmoved s s
unmoved_itself s = record { facts = λ name. refl; limits = (refl, refl, refl); handed = λ ever h. h }

pub unmoved_then : (s t u : PathState) → IsUnmoved s t → IsUnmoved t u → IsUnmoved s u
unmoved_then s t u a b = record {
  facts = λ name. b.facts name ∙ a.facts name;
  limits = (b.limits.0 ∙ a.limits.0, b.limits.1 ∙ a.limits.1, b.limits.2 ∙ a.limits.2);
  handed = λ ever h. b.handed ever (a.handed ever h);
}

take_front : (xs ys : List Fact) → take (length xs) (xs ++ ys) ≡ xs
take_front [] ys = refl
take_front (x ∷ xs) ys = ap (λ l. x ∷ l) (take_front xs ys)

pub grown_back : (old new : List Fact) (n : ℕ) → n ≡ length old → Grows old new → take n new ≡ old
grown_back old new n e g = ap (λ k. take k new) e ∙ ap (take (length old)) g.is ∙ take_front old g.more

pub grown_longer : (old new : List Fact) (n : ℕ) → n ≡ length old → Grows old new → n ≤ length new
grown_longer old new n e g = let k = ap length g.is in let m = length-append old g.more in omega (arith, e, k, m)
