-- The program that stands in memory.
use Rattle.std.specs.Prelude.{map}
use Rattle.lq_text_walk.specs.Scoped.Scoping.{Scoping, scoping}
use Rattle.lq_text_walk.specs.Scoped.Views.{data_view, scoped_items, source_view}
use Rattle.lq_text_walk.specs.declared.scoped.scoped.Scoped.{Scoped}

abbrev pub scoped_view : Scoped → Scoping
scoped_view s = scoping (scoped_items s.items.items) (map data_view s.datatypes.items) (map source_view s.sources.items)
