-- The datatypes of a program's items, and the constructors by which its types are judged.
use Rattle.std.specs.Prelude.{◌≡◌, ℕ, List}
use Rattle.lq_text_tree.specs.Items.{ItemTree}
use Rattle.lq_text_tree.specs.Signatures.{signature_of}
use Rattle.lq_text_walk.specs.Scoped.Signature.{signature_in}
use Rattle.lq_text_datatypes.specs.Datatypes.{datatypes_in}

-- under each name there is the same constructor, or none
abbrev pub SignaturesAgree : Type 0
SignaturesAgree = (is : List ItemTree) (c : ℕ) → signature_in (datatypes_in is) c ≡ signature_of is c
