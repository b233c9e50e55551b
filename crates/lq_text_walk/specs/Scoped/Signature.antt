-- Datatypes by the types of their constructors' fields, and the signature that they are.
use Rattle.std.specs.Prelude.{ℕ, List, [], ◌∷◌, ◌++◌, length, map}
use Rattle.lq_text_tree.specs.Items.{Construct, Datatype}
use Rattle.lq_text_tree.specs.MlType.{MlTypes}
use Rattle.lq_text_tree.specs.Signatures.{all_written, constructor_in, predeclared}
use Rattle.lq_text_tree.specs.Types.{Constructor, Signature}

-- a constructor and the types of its fields, in which the parameters are the variables 0, 1, ..
pub record ConstructorTree : Type 0 where
  pub name : ℕ
  pub fields : MlTypes

pub record DataTree : Type 0 where
  pub name : ℕ
  pub parameters : List ℕ
  pub constructors : List ConstructorTree

abbrev pub signed : DataTree → ConstructorTree → ℕ × Constructor
signed d c = (c.name, record { datatype = d.name; parameters = length d.parameters; fields = c.fields })

abbrev pub constructors_in : List DataTree → List (ℕ × Constructor)
constructors_in [] = []
constructors_in (d ∷ ds) = map (signed d) d.constructors ++ constructors_in ds

-- what constructors stand for where these datatypes are defined
abbrev pub signature_in : List DataTree → Signature
signature_in ds = constructor_in (predeclared ++ constructors_in ds)

-- the datatype that a definition is
abbrev pub constructor_tree : Datatype → Construct → ConstructorTree
constructor_tree d c = record { name = c.name; fields = all_written d.parameters c.fields }

abbrev pub data_tree : Datatype → DataTree
data_tree d = record { name = d.name; parameters = map (λ p. p.name) d.parameters; constructors = map (constructor_tree d) d.constructors }
