-- The laws, from what the sizes say of a configuration.
use Rattle.std.proofs.Common.{ℕ, ℤ, ◌+◌, ◌*◌, ◌≤◌, ◌^◌, arith, sym, subst, List}
use Rattle.lq_base_numbers.specs.Rationals.Rational.{ℚ, whole}
use Rattle.lq_base_numbers.specs.Fractions.Value.{value_of}
use Rattle.lq_base_numbers.specs.declared.fractions.past.NumOp.{NumOp}
use Rattle.lq_base_numbers.specs.declared.fractions.past.NumOp.TheVariants.{Add, Sub, Mul, Div, Neg}
use Rattle.lq_logic_rows.specs.Row.{Row}
use Rattle.lq_prover_pivots.specs.Pivots.Rows.{Variables}
use Rattle.lq_prover_pivots.specs.Pivots.Configurations.{Configuration, IsConfiguration}
use Rattle.lq_prover_pivots.specs.Cramer.Sizes.{WithinWhole}
use Rattle.lq_prover_pivots.proofs.CramerLemmas.Sizes.{within_same}
use Rattle.lq_prover_pivots.specs.Work.Needs.{LowestWithin, TogetherWithin, Needs}
use Rattle.lq_prover_pivots.specs.Work.Sizes.{largest_constant, AreSmall}
use Rattle.lq_prover_pivots.specs.Work.Work.{IsWholeLevel, IsWork}
use Rattle.lq_prover_pivots.specs.Work.Laws.{ReadingIsSmall, FormingIsSmall, ExchangingIsSmall, MovingIsSmall, SharingIsSmall, LevelIsSmall, WholeLevelIsSmall, WorkIsSmall, WorkFits}
use Rattle.lq_prover_pivots.specs.Work.Part.{ReadingsFit, WholeLevelsFit}
use Rattle.lq_prover_pivots.proofs.WorkLemmas.Fits.{small_fit}
use Rattle.lq_prover_pivots.proofs.WorkLemmas.Scene.{Listed, Scene}
use Rattle.lq_prover_pivots.proofs.WorkLemmas.Over.{within_whole}
use Rattle.lq_prover_pivots.proofs.WorkLemmas.Forming.{reading_is_small, forming_is_small}
use Rattle.lq_prover_pivots.proofs.WorkLemmas.Exchanging.{exchanging_is_small, sharing_is_small}
use Rattle.lq_prover_pivots.proofs.WorkLemmas.Levels.{level_is_small, whole_level_is_small}
use Rattle.lq_prover_pivots.proofs.WorkLemmas.Moving.{moving_is_small}
use Rattle.lq_prover_pivots.proofs.WorkLemmas.Values.{listed_of, scene_of}

abbrev pub most : ℕ
most = 2 ^ 40

pub small_scene : (vs : Variables) (rows : List Row) (c : Configuration) → AreSmall rows vs → IsConfiguration vs rows c → Scene vs rows c most
small_scene vs rows c small is = scene_of vs rows c most small.sized small.small is

pub small_rows : (vs : Variables) (rows : List Row) → AreSmall rows vs → Listed vs rows most
small_rows vs rows small = listed_of vs rows most small.sized small.small

pub reading : ReadingIsSmall
reading vs rows c op x y small is work = reading_is_small vs rows most (small_rows vs rows small) op x y work

pub readings_fit : ReadingsFit
readings_fit vs rows e small work =
    small_fit most most e (omega arith) (omega arith)
    (reading_is_small vs rows most (small_rows vs rows small) e.op (value_of e.left) (value_of e.right) work)

pub forming : FormingIsSmall
forming vs rows c op x y small is work = forming_is_small vs rows c most (small_scene vs rows c small is) op x y work

pub exchanging : ExchangingIsSmall
exchanging vs rows c op x y small is work = exchanging_is_small vs rows c most (small_scene vs rows c small is) op x y work

pub moving : MovingIsSmall
moving vs rows c op x y small is work = moving_is_small vs rows c most (small_scene vs rows c small is) op x y work

pub sharing : SharingIsSmall
sharing vs rows c op x y small is work = sharing_is_small vs rows c most (small_scene vs rows c small is) op x y work

pub level : LevelIsSmall
level vs rows c op x y small is work = level_is_small vs rows c most (small_scene vs rows c small is) op x y work

-- whatever the configuration
whole_needs : (vs : Variables) (rows : List Row) (op : NumOp) (x y : ℚ) → AreSmall rows vs → IsWholeLevel vs rows op x y → Needs (2 ^ 103 + 2 ^ 40) 1 op x y
whole_needs vs rows op x y small work =
    let s = small_rows vs rows small in
    let high : ℕ = 2 ^ 63 * largest_constant rows in
    whole_level_is_small vs rows most (2 ^ 63) s work.row work.values work.there
    (λ t l.
    let below = work.whole_values.below t l in
    subst (λ k. WithinWhole (2 ^ 63 * k) (work.values t)) (sym s.constant_is)
    (within_same high (work.values t) (whole (work.whole_values.at t)) (work.whole_values.is t l) (within_whole high (work.whole_values.at t) (omega arith))))
    op x y work.step

pub whole_level : WholeLevelIsSmall
whole_level vs rows c op x y small is work = whole_needs vs rows op x y small work

pub whole_levels_fit : WholeLevelsFit
whole_levels_fit vs rows e small work =
    small_fit (2 ^ 103 + 2 ^ 40) 1 e (omega arith) (omega arith) (whole_needs vs rows e.op (value_of e.left) (value_of e.right) small work)

-- ---- all kinds
lowest_more : (n d m k : ℕ) (x : ℚ) → n ≤ m → d ≤ k → LowestWithin n d x → LowestWithin m k x
lowest_more n d m k x l o h a b low =
    let w = h a b low in
    let above = w.above in
    let below = w.below in
    record { above = omega arith; below = omega arith }

together_more : (n d m k : ℕ) (op : ℤ → ℤ → ℤ) (x y : ℚ) → n ≤ m → d ≤ k → TogetherWithin n d op x y → TogetherWithin m k op x y
together_more n d m k op x y l o h a c b e j p q least =
    let w = h a c b e j p q least in
    let multiple = w.multiple in
    let first = w.first in
    let second = w.second in
    let total = w.total in
    record { multiple = omega arith; first = omega arith; second = omega arith; total = omega arith }

needs_more : (n d m k : ℕ) (op : NumOp) (x y : ℚ) → n ≤ m → d ≤ k → Needs n d op x y → Needs m k op x y
needs_more n d m k Add x y l o h = together_more n d m k _ x y l o h
needs_more n d m k Sub x y l o h = together_more n d m k _ x y l o h
needs_more n d m k Mul x y l o h = lowest_more n d m k _ l o h
needs_more n d m k Div x y l o h = lowest_more n d m k _ l o h
needs_more n d m k Neg x y l o h = lowest_more n d m k _ l o h

abbrev widest : ℕ
widest = 2 ^ 103 + 2 ^ 40

pub work_is_small : WorkIsSmall
work_is_small vs rows c op x y small is (IsWork.reading w) = needs_more (2 ^ 40) (2 ^ 40) widest (2 ^ 80) op x y (omega arith) (omega arith) (reading vs rows c op x y small is w)
work_is_small vs rows c op x y small is (IsWork.forming w) = needs_more (2 ^ 80) (2 ^ 40) widest (2 ^ 80) op x y (omega arith) (omega arith) (forming vs rows c op x y small is w)
work_is_small vs rows c op x y small is (IsWork.exchanging w) = needs_more (2 ^ 81) (2 ^ 80) widest (2 ^ 80) op x y (omega arith) (omega arith) (exchanging vs rows c op x y small is w)
work_is_small vs rows c op x y small is (IsWork.moving w) = needs_more (2 ^ 82) (2 ^ 80) widest (2 ^ 80) op x y (omega arith) (omega arith) (moving vs rows c op x y small is w)
work_is_small vs rows c op x y small is (IsWork.sharing w) = needs_more (2 ^ 40) (2 ^ 40) widest (2 ^ 80) op x y (omega arith) (omega arith) (sharing vs rows c op x y small is w)
work_is_small vs rows c op x y small is (IsWork.level w) = needs_more (2 ^ 80 + 2 ^ 40) (2 ^ 40) widest (2 ^ 80) op x y (omega arith) (omega arith) (level vs rows c op x y small is w)
work_is_small vs rows c op x y small is (IsWork.whole_level w) = needs_more widest 1 widest (2 ^ 80) op x y (omega arith) (omega arith) (whole_level vs rows c op x y small is w)

pub work_fits : WorkFits
work_fits vs rows c e small is work =
    small_fit widest (2 ^ 80) e (omega arith) (omega arith) (work_is_small vs rows c e.op (value_of e.left) (value_of e.right) small is work)
