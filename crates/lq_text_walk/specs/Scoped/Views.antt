-- What stands in memory.
use Rattle.std.specs.Prelude.{ℕ, List, map, Option}
use Rattle.std.specs.Option.{option_map}
use Rattle.lq_base_names.specs.declared.name.Binder.{Binder}
use Rattle.lq_base_names.specs.declared.name.Name.{Name}
use Rattle.lq_text_tree.specs.Items.{ItemTree, items_view}
use Rattle.lq_text_tree.specs.SimpleTypeView.{simple_types_view}
use Rattle.lq_text_tree.specs.declared.item.Item.{Item}
use Rattle.lq_text_walk.specs.Scoped.Signature.{ConstructorTree, DataTree}
use Rattle.lq_text_walk.specs.declared.scoped.datatype.ConstructorType.{ConstructorType}
use Rattle.lq_text_walk.specs.declared.scoped.datatype.DataType.{DataType}

abbrev pub name_number : Name → ℕ
name_number x = x.0

abbrev pub constructor_view : ConstructorType → ConstructorTree
constructor_view c = record { name = c.name.0; fields = simple_types_view c.fields }

abbrev pub data_view : DataType → DataTree
data_view d = record { name = d.name.0; parameters = map name_number d.parameters.items; constructors = map constructor_view d.constructors.items }

abbrev pub source_view : Option Name → Option ℕ
source_view = option_map name_number

-- the items of a scoped program
abbrev pub scoped_items : List (Item Binder) → List ItemTree
scoped_items = items_view Binder (λ b. b.0)
