-- The refined type that one in memory stands for.
use Rattle.std.specs.Prelude.{List, map}
use Rattle.lq_refined_types.specs.Parts.Part.{Parts, known}
use Rattle.lq_logic_predicates.specs.PredView.{formula_of, pred_items}
use Rattle.lq_logic_predicates.specs.declared.pred.Preds.{Preds}
use Rattle.lq_refined_types.specs.Types.Refined as refined
use Rattle.lq_refined_types.specs.Types.Refined.{Refined, Refineds, int_with, bool_with, unit_type, function, tuple_of, array_with, data_with, map_with, type_variable}
use Rattle.lq_refined_subtyping.specs.Table.Forms.{binder_view, row_of}
use Rattle.lq_top_answers.specs.declared.type_text.tree.Entry.{Entry}
use Rattle.lq_top_answers.specs.declared.type_text.tree.Shown.{Shown, fold-Shown}
use Rattle.lq_top_answers.specs.declared.type_text.tree.Shown.TheOpen.{Shown-F}

abbrev pub preds_view : Preds → Parts
preds_view ps = map known (map formula_of (pred_items ps))

abbrev pub entry_view : Entry → refined.Cell
entry_view e = record { constructor = e.constructor.0; field = e.field; parameter = e.parameter; parts = preds_view e.preds }

abbrev pub entries_view : List Entry → refined.Matrix
entries_view = map entry_view

-- one level, with what is inside already seen
abbrev pub shown_step : Shown-F Refined → Refined
shown_step (Shown-F.Int ps) = int_with (preds_view ps)
shown_step (Shown-F.Bool ps) = bool_with (preds_view ps)
shown_step Shown-F.Unit = unit_type
shown_step (Shown-F.Function x a b) = function (binder_view x) a.value b.value
shown_step (Shown-F.Tuple ts) = tuple_of (row_of ts.items)
shown_step (Shown-F.Array e ps) = array_with e.value (preds_view ps)
shown_step (Shown-F.Data d ts m ps) = data_with d.0 (row_of ts.items) (entries_view m.items) (preds_view ps)
shown_step (Shown-F.Map e ps) = map_with e.value (preds_view ps)
shown_step (Shown-F.Variable i) = type_variable i

abbrev pub shown_view : Shown → Refined
shown_view = fold-Shown Refined shown_step

abbrev pub row_view : List Shown → Refineds
row_view ts = row_of (map shown_view ts)
