-- Laws of how programs are resolved.
use Rattle.std.specs.Prelude.{◌≡◌, ℕ, true, List, [], length}
use Rattle.std.specs.Option.{option_map}
use Rattle.lq_text_tree.specs.Items.{ItemTree}
use Rattle.lq_text_scope.specs.Known as known
use Rattle.lq_text_scope.specs.Uses.{of_program}
use Rattle.lq_text_walk.specs.Scoped.Numbers.{AreFrom, binders_of_items, nodes_of_items}
use Rattle.lq_text_walk.specs.Scoped.Uses.{are_scoped}
use Rattle.lq_text_resolve.specs.Binding.Heads as heads
use Rattle.lq_text_resolve.specs.Binding.Heads.{Given, done, lacking, lack_of}
use Rattle.lq_text_resolve.specs.Binding.Making.{Bound_tree, program_made}
use Rattle.lq_text_resolve.specs.Binding.Whole.{nodes_made}
use Rattle.lq_text_resolve.specs.Resolution.Parameters.{have_places}

-- Definitions whose names are bound, and so many nodes: nodes and binders have the numbers from 0 on, each binder has an entry among the
-- source names, and each variable is bound where it stands.
pub record AreBound (b : Bound_tree) (count : ℕ) : Type 0 where
  pub nodes : AreFrom 0 (nodes_of_items b.items)
  pub counted : length (nodes_of_items b.items) ≡ count
  pub binders : AreFrom 0 (binders_of_items b.items)
  pub named : length (binders_of_items b.items) ≡ length b.sources
  pub scoped : are_scoped [] b.items ≡ true

-- what a program without complaints becomes
abbrev pub BoundProgramsAreScoped : Type 0
BoundProgramsAreScoped = (names : List (List ℕ)) (is : List ItemTree) → of_program names is ≡ [] → have_places is ≡ true → AreBound (program_made names is) (nodes_made names is)

-- how many arguments a primitive lacks, none where it is a form already
abbrev pub lacks : Given → ℕ
lacks (done f) = 0
lacks (lacking h) = lack_of h

-- A name is a primitive to both crates or to neither, and lacks as many arguments as are wanted.
pub record PrimitivesAgree : Type 0 where
  pub alone : (text : List ℕ) → option_map lacks (heads.primitive_named text) ≡ known.primitive text
  pub behind : (front text : List ℕ) → option_map lacks (heads.primitive_in front text) ≡ known.primitive_in front text
