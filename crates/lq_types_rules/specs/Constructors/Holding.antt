-- Tables of constructors.
use Rattle.std.specs.Prelude.{ℕ, List}
use Rattle.lq_text_tree.specs.Signatures.{constructor_in}
use Rattle.lq_text_tree.specs.Types.{Constructor}
use Rattle.lq_types_rules.specs.Equations.Templates.{AreWhole, HasSignature}
use Rattle.lq_types_rules.specs.declared.equations.template.Constructors.{Constructors}

-- the table has these constructors, of those of one name the first
pub record Holds (cs : Constructors) (ks : List (ℕ × Constructor)) : Type 0 where
  pub whole : AreWhole cs
  pub has : HasSignature cs (constructor_in ks)
