use Rattle.std.proofs.Common.{map, take}
use Rattle.lq_text_tree.specs.SimpleTypeView.{simple_type_view, simple_types_items, types_of}
use Rattle.lq_generate_fresh.specs.Fresh.Fields.{AreFields}
use Rattle.lq_generate_fresh.specs.Fresh.Views.{field_view}
use Rattle.lq_generate_fresh.proofs.fresh.defined.fields_of.Given as goal

abbrev pub invariant-loop-at : goal.invariant-loop-at
invariant-loop-at l =
    AreFields l.datatype.0 (types_of (take l.at (map simple_type_view (simple_types_items l.row)))) (map field_view l.fields.items)
