use Rattle.std.proofs.Common.{◌≡◌, ◌∙◌, ◌+◌, ◌++◌, ◌∷◌, [], sym, ap, subst, take, rules, FitsSigned, MatchBool, pos, to_z, of_z, Bool}
use Rattle.std.specs.Int.{w128}
use Rattle.std.proofs.lemmas.Int.{to_z-of_z}
use Rattle.std.proofs.lemmas.List.{take_more}
use Rattle.std.proofs.Math.IntN.{ℤ}
use Rattle.lq_base_numbers.specs.Rationals.Rational.{whole, ◌*ℚ◌}
use Rattle.lq_base_numbers.specs.Rationals.RationalOrder.{◌<ℚ◌, ◌≤ℚ◌, NotNegative}
use Rattle.lq_base_numbers.specs.Fractions.Value.{value_of}
use Rattle.lq_prover_simplex.specs.declared.row.Standing.{Standing}
use Rattle.lq_prover_simplex.specs.Standing.{AllBare}
use Rattle.lq_prover_simplex.proofs.Tables.{bare_contradicts, bare_push, bare_none, bare_read, is_none_read}
use Rattle.lq_prover_simplex.proofs.Values.{there}
use Rattle.lq_prover_simplex.proofs.tableau.refuted.Goals as goal
use Rattle.lq_prover_simplex.proofs.tableau.refuted.Goals.{then-is_none+in_default, else-is_none}

pub returns-in-Some-clause-contradicted : goal.returns-in-Some-clause-contradicted
returns-in-Some-clause-contradicted c =
    let s : Standing = c.standing-item.result in
    let fits : FitsSigned w128 c.constant.result = search rules in
    let constant : to_z w128 (of_z w128 c.constant.result) ≡ s.row.constant = to_z-of_z w128 c.constant.result fits ∙ c.constant.ensures in
    rw c.in_ok-single.ensures
    (bare_contradicts c.requires.read.0 c.args.rows.now c.loop-standing.standing-index s c.in-Some.multiplier c.requires.read.1 c.requires.apart
    (there c.args.rows.now c.loop-standing.standing-index s c.loop-standing-test.true c.standing-item.is) (is_none_read s.bound c.is_none.result c.is_none.ensures c.if-is_none.true)
    (subst (λ (z : ℤ). whole (pos 0) <ℚ (value_of c.in-Some.multiplier *ℚ whole z)) constant c.in-Some.ensures.above)
    (subst (λ (b : Bool). MatchBool b (Unit {0}) (NotNegative (value_of c.in-Some.multiplier))) c.equal.ensures c.in-Some.ensures.fair))

pub loop-standing-preserved : goal.loop-standing-preserved
loop-standing-preserved c =
    let rows = c.args.rows.now in let i = c.loop-standing.standing-index in let s : Standing = c.standing-item.result in
    let more : take (i + 1) rows ≡ take i rows ++ s ∷ [] = take_more rows i s c.loop-standing-test.true ∙ ap (λ (t : Standing). take i rows ++ t ∷ []) (sym c.standing-item.is) in
    subst AllBare (sym more)
    (elim c.if-is_none.branch [
      | then-is_none+in_default w ↦
          let fits : FitsSigned w128 w.constant.result = search rules in
          let constant : to_z w128 (of_z w128 w.constant.result) ≡ s.row.constant = to_z-of_z w128 w.constant.result fits ∙ w.constant.ensures in
          bare_push (take i rows) s c.loop-standing.invariant
          (bare_none s.row s.bound (is_none_read s.bound c.is_none.result c.is_none.ensures w.if-is_none.true)
          (subst (λ (b : Bool). MatchBool b (whole s.row.constant ≡ whole (pos 0)) (whole s.row.constant ≤ℚ whole (pos 0))) w.equal.ensures
          (subst (λ (z : ℤ). MatchBool w.equal.result (whole z ≡ whole (pos 0)) (whole z ≤ℚ whole (pos 0))) constant w.in_default.ensures.none)))
      | else-is_none w ↦ bare_push (take i rows) s c.loop-standing.invariant (bare_read s.row s.bound c.is_none.result c.is_none.ensures w.if-is_none.false)
    ])
