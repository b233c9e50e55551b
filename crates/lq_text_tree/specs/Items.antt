-- What the items of a program are, without the memory that holds them. A name or a binder is its number.
use Rattle.std.specs.Prelude.{ℕ, List, map}
use Rattle.lq_text_tree.specs.Pattern.{Pattern}
use Rattle.lq_text_tree.specs.PatternView.{pat_view}
use Rattle.lq_text_tree.specs.Tree.{Tree}
use Rattle.lq_text_tree.specs.TreeView.{Recursive, tree_view, function_view}
use Rattle.lq_text_tree.specs.TypeTree.{TypeTrees}
use Rattle.lq_text_tree.specs.TypeView.{types_view}
use Rattle.lq_text_tree.specs.declared.item.Constructor.{Constructor}
use Rattle.lq_text_tree.specs.declared.item.Item.{Item}
use Rattle.lq_text_tree.specs.declared.item.ItemNode.{ItemNode}
use Rattle.lq_text_tree.specs.declared.item.ItemNode.TheVariants as node
use Rattle.lq_text_tree.specs.declared.item.TypeDefinition.{TypeDefinition}
use Rattle.lq_text_tree.specs.declared.item.TypeParameter.{TypeParameter}
use Rattle.lq_base_names.specs.declared.name.Name.{Name}
use Rattle.lq_base_names.specs.declared.place.Place.{Place}

-- a name where it is defined
pub record Named : Type 0 where
  pub name : ℕ
  pub place : Place

-- a constructor and the types of its fields
pub record Construct : Type 0 where
  pub name : ℕ
  pub place : Place
  pub fields : TypeTrees

-- a definition of a datatype
pub record Datatype : Type 0 where
  pub name : ℕ
  pub place : Place
  pub parameters : List Named
  pub constructors : List Construct

pub data ItemForm : Type 0 where
  type_of : Datatype → ItemForm
  let_of : Pattern → Tree → ItemForm
  let_rec_of : ℕ → Recursive → ItemForm

-- an item and the place of its first token
pub record ItemTree : Type 0 where
  pub place : Place
  pub form : ItemForm

abbrev pub parameter_view : TypeParameter → Named
parameter_view p = record { name = p.name.0; place = p.place }

abbrev pub constructor_view : Constructor → Construct
constructor_view c = record { name = c.name.0; place = c.place; fields = types_view c.fields }

abbrev pub definition_view : TypeDefinition → Datatype
definition_view d =
    record { name = d.name.0; place = d.place; parameters = map parameter_view d.parameters.items; constructors = map constructor_view d.constructors.items }

module _ (B : Type 0) (number : B → ℕ) where
  abbrev pub item_form_view : ItemNode B → ItemForm
  item_form_view (node.Type d) = type_of (definition_view d)
  item_form_view (node.Let p e) = let_of (pat_view B number p) (tree_view B number e)
  item_form_view (node.LetRec f r) = let_rec_of (number f) (function_view B number r)

  abbrev pub item_view : Item B → ItemTree
  item_view i = record { place = i.place; form = item_form_view i.node }

  abbrev pub items_view : List (Item B) → List ItemTree
  items_view = map item_view

-- the items of a parsed program
abbrev pub parsed_items : List (Item Name) → List ItemTree
parsed_items = items_view Name (λ n. n.0)
