-- One more that stands.
use Rattle.std.proofs.Common.{ℕ, ◌<◌, List, [], ◌∷◌, ◌++◌, length, sym, subst}
use Rattle.lq_prover_congruence.specs.Classes.Core.{AllBelow}
use Rattle.lq_prover_congruence.specs.Classes.Steps.{terms_of}
use Rattle.lq_cases_engines.proofs.classes.commands.args_of.Goals as goal

below-last : (n : ℕ) (xs : List ℕ) (x : ℕ) → AllBelow n xs → x < n → AllBelow n (xs ++ x ∷ [])
below-last n [] x h k = (k, tt)
below-last n (y ∷ xs) x h k = (h.0, below-last n xs x h.1 k)

pub loop-word-preserved : goal.loop-word-preserved
loop-word-preserved c =
    let n = length (terms_of c.args.classes.now) in
    let P : List ℕ → Type 0 = λ l. AllBelow n l in
    subst P (sym c.in_ok-push.ensures.ok) (below-last n c.loop-word.args c.in-Some-term_of.term c.loop-word.invariant c.in-Some-term_of.ensures)
