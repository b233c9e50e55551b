-- The work of a tableau over some rows of small sizes, and rows at numbers.
use Rattle.std.proofs.Common.{◌∙◌, ℕ, ◌+◌, ◌^◌, ◌<◌, List, sym, subst, arith}
use Rattle.lq_prover_pivots.proofs.CramerLemmas.Sizes.{mul_at_most}
use Rattle.lq_logic_rows.specs.Row.{Row}
use Rattle.lq_base_numbers.specs.Rationals.Rational.{ℚ}
use Rattle.lq_base_numbers.specs.Fractions.Value.{value_of}
use Rattle.lq_base_numbers.specs.declared.fractions.past.NumOp.{NumOp}
use Rattle.lq_prover_simplex.specs.Working.{IsWorkOver}
use Rattle.lq_prover_pivots.specs.Work.Part.{AreAmong, IsWorkOn}
use Rattle.lq_prover_pivots.specs.Work.Sizes.{largest_constant}
use Rattle.lq_prover_pivots.specs.Work.Work.{IsReading}
use Rattle.lq_prover_pivots.proofs.WorkLemmas.Laws.{readings_fit, whole_levels_fit}
use Rattle.lq_prover_pivots.proofs.WorkLemmas.Levels.{levels_agree}
use Rattle.lq_prover_pivots.proofs.WorkLemmas.OnPart.{work_on_parts_fits}
use Rattle.lq_prover_pivots.proofs.WorkLemmas.Rows.{constant_some}
use Rattle.lq_prover_small_rows.specs.Laws.{WorkOverFits, PlacedLevelsFit, NearLevelsFit}

reading_more : (part all : List Row) (op : NumOp) (x y : ℚ) → AreAmong all part → IsReading part op x y → IsReading all op x y
reading_more part all _ _ _ among (IsReading.negated_constant row there) = IsReading.negated_constant row (among row there)
reading_more part all _ _ _ among (IsReading.negated_coefficient row k term z there at) = IsReading.negated_coefficient row k term z (among row there) at
reading_more part all _ _ _ among (IsReading.bound row g z there is either) = IsReading.bound row g z (among row there) is either

pub work_over_fits : WorkOverFits
work_over_fits all vs terms ever e small among (IsWorkOver.reading reads) =
    readings_fit vs all e small.small (reading_more ever all e.op (value_of e.left) (value_of e.right) among reads)
work_over_fits all vs terms ever e small among (IsWorkOver.at us c over listed configured work) =
    work_on_parts_fits all vs ever us c e small.small (record { among = among; variables = listed; terms = over ∙ sym small.over }) configured (IsWorkOn.work work)

pub placed_fits : PlacedLevelsFit
placed_fits all vs terms ever v row e small among there over p step =
    work_on_parts_fits all vs ever p.variables p.configuration e small.small (record { among = among; variables = p.listed; terms = p.over ∙ sym small.over }) p.is
    (IsWorkOn.level (record {
      row = row;
      there = there;
      step = levels_agree terms v p.configuration.value row e.op (value_of e.left) (value_of e.right) over (λ t l. sym (p.values t)) step;
    }))

pub near_fits : NearLevelsFit
near_fits all vs terms most count v row e small there sum product few near step =
    whole_levels_fit vs all e small.small (record {
      row = row;
      there = there;
      values = v;
      whole_values = record {
        at = near.at;
        is = λ t l. near.whole_at t (inside t l);
        within = λ t l. let a = near.value t (inside t l) in omega (arith, a, sum);
        below = λ t l.
            let a = near.value t (inside t l) in
            let some = constant_some all in
            let more = mul_at_most (count + 1) (largest_constant all) (2 ^ 63) (largest_constant all) (omega (arith, few)) (omega arith) in
            omega (arith, a, product, some, more);
      };
      step = step;
    })
  where
    inside : (t : ℕ) → t < vs.terms → t < terms
    inside t l = subst (λ k. t < k) small.over l
