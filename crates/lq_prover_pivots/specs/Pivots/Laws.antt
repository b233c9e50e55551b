-- What holds of chains of pivots.
use Rattle.std.specs.Prelude.{◌≡◌, ℕ, zero, suc, ◌+◌, ◌*◌, ◌^◌, ◌<◌, ◌≤◌, ◌⊎◌, List}
use Rattle.lq_logic_rows.specs.Row.{Row}
use Rattle.lq_logic_rows.specs.declared.bound.Side.TheVariants.{Lower, Upper}
use Rattle.lq_prover_pivots.specs.Pivots.Rows.{Variables, size, Gives}
use Rattle.lq_prover_pivots.specs.Pivots.Configurations.{Configuration, Free, Same}
use Rattle.lq_prover_pivots.specs.Pivots.Pivots.{IsChain}

-- no two configurations of a chain are the same
abbrev pub NoneTwice : Type 0
NoneTwice =
    (vs : Variables) (listed standing : List Row) (last : ℕ) (chain : ℕ → Configuration) → IsChain vs listed standing last chain
    → (i j : ℕ) → i < j → j ≤ last → ¬ Same vs (chain i) (chain j)

-- the variable was free at the start, with this value
abbrev pub HadAtStart : Variables → (ℕ → Configuration) → ℕ → Configuration → Type 0
HadAtStart vs chain j c = Free vs (chain 0) j × (c.value j ≡ (chain 0).value j)

-- each free one stands at its lower bound, at its upper bound or at the value that it had at the start
abbrev pub AllStand : Type 0
AllStand =
    (vs : Variables) (listed standing : List Row) (last : ℕ) (chain : ℕ → Configuration) → IsChain vs listed standing last chain
    → (i j : ℕ) → i ≤ last → Free vs (chain i) j
    → Gives vs standing Lower j ((chain i).value j) ⊎ Gives vs standing Upper j ((chain i).value j) ⊎ HadAtStart vs chain j (chain i)

-- in how many ways k of n things can be chosen
abbrev pub choose : ℕ → ℕ → ℕ
choose n zero = 1
choose zero (suc k) = 0
choose (suc n) (suc k) = choose n k + choose n (suc k)

-- a chain over n terms and m forms has at most 3^n * C(m + n, n) configurations: those from number 0 to the last
abbrev pub AtMostSoMany : Type 0
AtMostSoMany =
    (vs : Variables) (listed standing : List Row) (last : ℕ) (chain : ℕ → Configuration) → IsChain vs listed standing last chain
    → last + 1 ≤ 3 ^ vs.terms * choose (size vs) vs.terms
