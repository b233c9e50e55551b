-- Two terms and their sum, with coefficients of size at most 1.
use Rattle.std.proofs.Common.{◌≡◌, ℕ, zero, suc, pos, ◌<◌, ◌≤◌, arith, refl, [], ◌∷◌, unsigned_abs}
use Rattle.lq_prover_pivots.specs.Pivots.Rows.{form}
use Rattle.lq_prover_pivots.specs.Pivots.Configurations.{IsConfiguration}
use Rattle.lq_prover_pivots.specs.Pivots.Example.{variables, rows, after}
use Rattle.lq_prover_pivots.proofs.PivotsLemmas.Example.{is_chain}
use Rattle.lq_prover_pivots.specs.Cramer.Entries.{coefficient, IsSized}

named : (t : ℕ) → t < 2 → form variables t ≡ (t, pos 1) ∷ []
named zero l = refl
named (suc zero) l = refl
named (suc (suc t)) l = absurd (omega arith)

sized : (k t : ℕ) → k < 3 → t < 2 → unsigned_abs (coefficient (form variables k) t) ≤ 1
sized zero zero l m = omega arith
sized zero (suc zero) l m = omega arith
sized (suc zero) zero l m = omega arith
sized (suc zero) (suc zero) l m = omega arith
sized (suc (suc zero)) zero l m = omega arith
sized (suc (suc zero)) (suc zero) l m = omega arith
sized k (suc (suc t)) l m = absurd (omega arith)
sized (suc (suc (suc k))) t l m = absurd (omega arith)

pub is_sized : IsSized variables 1 1
is_sized = record { count = refl; named = named; sized = sized }

pub is_configuration : IsConfiguration variables rows after
is_configuration = is_chain.each 1 (omega arith)
