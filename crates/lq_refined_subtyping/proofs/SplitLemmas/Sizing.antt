-- How large a simple type is: the calls that split a subtyping go down it.
use Rattle.std.proofs.Common.{ℕ, zero, suc, ◌+◌, ◌<◌, List, [], ◌∷◌, get_or, length, arith}
use Rattle.lq_text_tree.specs.MlType as ml
use Rattle.lq_text_tree.specs.MlType.{MlType, MlTypes}
use Rattle.lq_refined_types.specs.Types.Refined.{Refined, all_erased, erased}
use Rattle.lq_refined_subtyping.specs.Table.Forms.{at, each}

abbrev mutual
  pub size : MlType → ℕ
  size ml.int = 1
  size ml.bool = 1
  size ml.unit = 1
  size (ml.var i) = 1
  size (ml.arrow a b) = suc (size a + size b)
  size (ml.tuple ts) = suc (row_size ts)
  size (ml.array a) = suc (size a)
  size (ml.named d ts) = suc (row_size ts)
  size (ml.map_of a) = suc (size a)

  pub row_size : MlTypes → ℕ
  row_size ml.no_types = 0
  row_size (ml.more_types t ts) = suc (size t + row_size ts)

pub size-inside : (all : List Refined) (ps : List ℕ) (i d : ℕ) → i < length ps → size (erased (at all (get_or ps i d))) < row_size (all_erased (each all ps))
size-inside all [] i d h = absurd (omega arith)
size-inside all (p ∷ ps) zero d h = omega arith
size-inside all (p ∷ ps) (suc i) d h = let k = size-inside all ps i d (omega arith) in omega arith
