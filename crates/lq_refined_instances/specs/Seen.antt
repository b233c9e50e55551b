-- What is visible, as it stands in memory.
use Rattle.std.specs.Prelude.{Option}
use Rattle.std.specs.Option.{option_map}
use Rattle.lq_text_qualifiers.specs.Sorting.Views.{shape_view}
use Rattle.lq_refined_instances.specs.Scopes as scopes
use Rattle.lq_refined_instances.specs.declared.scope.Visible.{Visible}
use Rattle.lq_refined_instances.specs.declared.scopes.Addition.{Addition}

abbrev pub visible_view : Visible → scopes.Visible
visible_view v = (v.symbol, shape_view v.shape)

abbrev pub hidden_view : Option Visible → Option scopes.Visible
hidden_view = option_map visible_view

abbrev pub added_view : Addition → scopes.Added
added_view a = record { parent = a.parent; visible = visible_view a.visible; hidden = hidden_view a.hidden }
