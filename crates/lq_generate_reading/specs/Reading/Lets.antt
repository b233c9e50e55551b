-- What is known of a block that begins with a binding.
use Rattle.std.specs.Prelude.{◌≡◌, ℕ, []}
use Rattle.lq_refined_templates.specs.Points.Annotation.{Annotation, type_of}
use Rattle.lq_refined_templates.specs.Points.Reading.{written_names}
use Rattle.lq_text_walk.specs.Scoped.Numbers.{number_of}
use Rattle.lq_text_tree.specs.Tree.{Tree}

-- a let with this number
pub record IsLet (n : Annotation) (i : ℕ) (t : Tree) : Type 0 where
  pub number : number_of t ≡ i
  pub type : type_of n t ≡ n.types i
  pub names : written_names n t ≡ []
