-- The size of a reading, which falls from a row of readings to each of them.
use Rattle.std.proofs.Common.{ℕ, zero, suc, ◌+◌, ◌<◌, List, [], ◌∷◌, length, map, get_or, arith}
use Rattle.lq_logic_rows.specs.Row.{Row}
use Rattle.lq_logic_predicates.specs.declared.nnf.Nnf.{Nnf}
use Rattle.lq_logic_predicates.specs.NnfView.{nnf_view, readings_of}
use Rattle.lq_logic_predicates.specs.Reading.{Reading, Readings, yes, no, row, flag_is, objects_are, all_of, any_of, none, more}

abbrev mutual
  pub size : Reading Row → ℕ
  size yes = 0
  size no = 0
  size (row r) = 0
  size (flag_is x sign) = 0
  size (objects_are a b sign) = 0
  size (all_of rs) = suc (size_each rs)
  size (any_of rs) = suc (size_each rs)

  pub size_each : Readings Row → ℕ
  size_each none = 0
  size_each (more r rs) = suc (size r + size_each rs)

pub item_smaller : (items : List Nnf) (k : ℕ) (d : Nnf) → k < length items → size (nnf_view (get_or items k d)) < size_each (readings_of (map nnf_view items))
item_smaller [] k d h = absurd (omega (arith, h))
item_smaller (n ∷ items) zero d h = omega arith
item_smaller (n ∷ items) (suc k) d h = let r = item_smaller items k d (omega (arith, h)) in omega (arith, r)
