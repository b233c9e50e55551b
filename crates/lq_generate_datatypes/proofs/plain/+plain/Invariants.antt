use Rattle.std.proofs.Common.{◌≡◌, ◌<◌, All, map, take}
use Rattle.lq_refined_types.specs.Parts.Part.{Scopes as ScopeLists}
use Rattle.lq_refined_subtyping.specs.Table.Forms.{at}
use Rattle.lq_refined_subtyping.specs.Table.Unfolding.{plain}
use Rattle.lq_refined_subtyping.specs.Table.Whole.{count_of, types_of, Grows}
use Rattle.lq_text_tree.specs.SimpleTypeView.{simple_type_view, simple_types_items}
use Rattle.lq_generate_datatypes.proofs.plain.+plain.Given as goal

abbrev pub invariant-all_plain-loop-at : goal.invariant-all_plain-loop-at
invariant-all_plain-loop-at l = record {
  refined : (scopes : ScopeLists) → map (at (types_of scopes l.types)) l.rows.items
      ≡ map plain (take l.at (map simple_type_view (simple_types_items l.written)));
  there : All (λ p. p < count_of l.types) l.rows.items;
  grows : Grows l.initial.types l.types;
}
