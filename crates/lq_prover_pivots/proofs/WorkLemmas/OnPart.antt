-- What is done at a configuration of a part, and sums of constants.
use Rattle.std.proofs.Common.{◌-◌, ◌*◌, ◌^◌, ◌≤◌, arith, subst, List, length}
use Rattle.lq_base_numbers.specs.Fractions.Value.{value_of}
use Rattle.lq_logic_rows.specs.Row.{Row}
use Rattle.lq_prover_pivots.specs.Pivots.Rows.{Variables}
use Rattle.lq_prover_pivots.proofs.CramerLemmas.Sizes.{mul_at_most}
use Rattle.lq_prover_pivots.specs.Work.Sizes.{largest_constant, AreSmall}
use Rattle.lq_prover_pivots.specs.Work.Part.{IsWorkOn, WorkOnPartsFits, SmallSumsAreSmall}
use Rattle.lq_prover_pivots.proofs.WorkLemmas.Fits.{small_fit}
use Rattle.lq_prover_pivots.proofs.WorkLemmas.Forming.{products_in}
use Rattle.lq_prover_pivots.proofs.WorkLemmas.Levels.{level_of_another}
use Rattle.lq_prover_pivots.proofs.WorkLemmas.Laws.{most, small_scene, small_rows, whole_levels_fit, work_fits}
use Rattle.lq_prover_pivots.proofs.WorkLemmas.Part.{parts_are_small, sum_no_more}

pub work_on_parts_fits : WorkOnPartsFits
work_on_parts_fits all vs part us c e small is configured (IsWorkOn.work w) = work_fits us part c e (parts_are_small all vs part us small is) configured w
work_on_parts_fits all vs part us c e small is configured (IsWorkOn.level l) =
    let scene = small_scene us part c (parts_are_small all vs part us small is) configured in
    small_fit (2 ^ 81) (2 ^ 40) e (omega arith) (omega arith)
    (level_of_another vs us all part c most is.terms (small_rows vs all small) scene e.op (value_of e.left) (value_of e.right) l)
work_on_parts_fits all vs part us c e small is configured (IsWorkOn.whole_level w) = whole_levels_fit vs all e small w

-- ---- constants
constant_small : (vs : Variables) (rows : List Row) → AreSmall rows vs → largest_constant rows ≤ 2 ^ 40
constant_small vs rows small =
    let s = small_rows vs rows small in
    subst (λ k. k ≤ most) s.constant_is (products_in vs rows most s).constant

pub small_sums_are_small : SmallSumsAreSmall
small_sums_are_small all vs small =
    let largest = constant_small vs all small in
    record {
      largest = largest;
      sum = λ some among short.
          let few = sum_no_more all some among in
          let product : length some * largest_constant all ≤ (2 ^ 63 - 1) * 2 ^ 40 =
          mul_at_most (length some) (largest_constant all) (2 ^ 63 - 1) (2 ^ 40) (omega arith) largest in
          omega arith;
    }
