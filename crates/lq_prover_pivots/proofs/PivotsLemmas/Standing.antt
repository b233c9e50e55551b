-- Each free one stands at a bound or at the value that it had at the start.
use Rattle.std.proofs.Common.{◌≡◌, ℕ, zero, suc, ◌⊎◌, inl, inr, arith, refl, sym, subst, List}
use Rattle.lq_base_numbers.specs.Rationals.Rational.{ℚ}
use Rattle.lq_logic_rows.specs.Row.{Row}
use Rattle.lq_logic_rows.specs.declared.bound.Side.{Side}
use Rattle.lq_logic_rows.specs.declared.bound.Side.TheVariants.{Lower, Upper}
use Rattle.lq_prover_pivots.specs.Pivots.Rows.{Variables, Gives}
use Rattle.lq_prover_pivots.specs.Pivots.Configurations.{Configuration, Free}
use Rattle.lq_prover_pivots.specs.Pivots.Laws.{AllStand}
use Rattle.lq_prover_pivots.proofs.PivotsLemmas.Sharing.{free_or_basic}
use Rattle.lq_prover_pivots.proofs.PivotsLemmas.Steps.{leaving_is, keeps_value}

abbrev Stands : Variables → List Row → (ℕ → Configuration) → ℕ → ℚ → Type 0
Stands vs standing chain j x = Gives vs standing Lower j x ⊎ Gives vs standing Upper j x ⊎ (Free vs (chain 0) j × (x ≡ (chain 0).value j))

by_side : (vs : Variables) (standing : List Row) (chain : ℕ → Configuration) (j : ℕ) (x : ℚ) (side : Side) → Gives vs standing side j x → Stands vs standing chain j x
by_side vs standing chain j x Lower g = inl g
by_side vs standing chain j x Upper g = inr (inl g)

pub all_stand : AllStand
all_stand vs listed standing n chain ch zero j h f = inr (inr (f, refl))
all_stand vs listed standing n chain ch (suc i) j h f =
    let p = ch.pivot i (omega arith) in
    elim (free_or_basic (chain i) j) [
      | inl g ↦ subst (Stands vs standing chain j) (sym (keeps_value vs standing (chain i) (chain (suc i)) j p (f.0, g) f.1))
          (all_stand vs listed standing n chain ch i j (omega arith) (f.0, g))
      | inr b ↦
          let q : j ≡ p.leaving = leaving_is vs standing (chain i) (chain (suc i)) j p (f.0, b) f.1 in
          subst (λ k. Stands vs standing chain k ((chain (suc i)).value k)) (sym q)
          (subst (Stands vs standing chain p.leaving) (sym p.takes) (by_side vs standing chain p.leaving p.breaks.bound p.breaks.side p.breaks.given))
    ]
