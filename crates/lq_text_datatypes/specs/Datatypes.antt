-- The datatypes that items define.
use Rattle.std.specs.Prelude.{ℕ, List, [], ◌∷◌, ◌++◌}
use Rattle.lq_text_tree.specs.Items.{Construct, Named, ItemTree, ItemForm, type_of, let_of, let_rec_of}
use Rattle.lq_text_walk.specs.Scoped.Signature.{ConstructorTree, DataTree, data_tree}
use Rattle.lq_text_walk.specs.Scoped.Views.{constructor_view}
use Rattle.lq_text_walk.specs.declared.scoped.datatype.ConstructorType.{ConstructorType}
use Rattle.lq_text_tree.specs.Signatures.{all_written}

abbrev pub datatype_in : ItemForm → List DataTree
datatype_in (type_of d) = data_tree d ∷ []
datatype_in (let_of p e) = []
datatype_in (let_rec_of f r) = []

-- in their order
abbrev pub datatypes_in : List ItemTree → List DataTree
datatypes_in [] = []
datatypes_in (i ∷ is) = datatype_in i.form ++ datatypes_in is

abbrev pub parameter_name : Named → ℕ
parameter_name p = p.name

-- a constructor by the types of its fields, under these parameters, and as it stands in memory
abbrev pub constructor_with : List Named → Construct → ConstructorTree
constructor_with ps c = record { name = c.name; fields = all_written ps c.fields }

abbrev pub constructor_type_view : ConstructorType → ConstructorTree
constructor_type_view = constructor_view
