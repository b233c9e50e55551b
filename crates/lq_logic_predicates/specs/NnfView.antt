-- The reading that a tightened reading of the code stands for.
use Rattle.std.specs.Prelude.{Bool, true, false, List, [], ◌∷◌}
use Rattle.lq_logic_rows.specs.Row.{Row}
use Rattle.lq_logic_predicates.specs.Reading.{Reading, yes, no, row, flag_is, objects_are, all_of, any_of, Readings, none, more, pair_of}
use Rattle.lq_logic_predicates.specs.TermView.{sum_of}
use Rattle.lq_logic_predicates.specs.declared.nnf.Nnf.{Nnf, fold-Nnf}
use Rattle.lq_logic_predicates.specs.declared.nnf.Nnfs.{Nnfs, fold-Nnfs}
use Rattle.lq_logic_predicates.specs.declared.nnf.Nnf.TheOpen.{Nnf-F, Nnfs-F}

abbrev pub readings_of : List (Reading Row) → Readings Row
readings_of [] = none
readings_of (r ∷ rs) = more r (readings_of rs)

-- one level, with each reading inside already seen
abbrev pub nnf_step : Nnf-F (Reading Row) (Readings Row) → Reading Row
nnf_step Nnf-F.Yes = yes
nnf_step Nnf-F.No = no
nnf_step (Nnf-F.Row r) = row r
nnf_step (Nnf-F.Flag x b) = flag_is x b
nnf_step (Nnf-F.Same a b sign) = objects_are (sum_of a) (sum_of b) sign
nnf_step (Nnf-F.All rs) = all_of rs
nnf_step (Nnf-F.Any rs) = any_of rs

abbrev pub nnfs_step : Nnfs-F (Reading Row) (Readings Row) → Readings Row
nnfs_step rs = readings_of rs.items.items

abbrev pub nnf_view : Nnf → Reading Row
nnf_view = fold-Nnf (Reading Row) (Readings Row) nnf_step nnfs_step

abbrev pub nnfs_view : Nnfs → Readings Row
nnfs_view = fold-Nnfs (Reading Row) (Readings Row) nnf_step nnfs_step

-- the readings of a row of readings
abbrev pub nnf_items : Nnfs → List Nnf
nnf_items rs = rs.items.items

-- what always or never holds
abbrev pub constant_reading : Bool → Reading Row
constant_reading true = yes
constant_reading false = no

-- all or any of two readings
abbrev pub joined_reading : {L : Type 0} → Bool → Reading L → Reading L → Reading L
joined_reading true a b = all_of (pair_of a b)
joined_reading false a b = any_of (pair_of a b)
