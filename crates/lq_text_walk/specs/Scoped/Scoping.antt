-- A program whose names are bound.
use Rattle.std.specs.Prelude.{◌≡◌, ℕ, ◌<◌, ◌≤◌, ◌^◌, true, List, [], length, Option}
use Rattle.lq_text_tree.specs.Items.{ItemTree}
use Rattle.lq_text_walk.specs.Scoped.Numbers.{AreFrom, nodes_of_items, binders_of_items}
use Rattle.lq_text_walk.specs.Scoped.Signature.{DataTree}
use Rattle.lq_text_walk.specs.Scoped.Uses.{are_scoped}

pub record Scoping : Type 0 where
  -- the definitions in order, without those of datatypes
  pub items : List ItemTree
  pub datatypes : List DataTree
  -- the source name of each binder; one that was made has none
  pub sources : List (Option ℕ)

abbrev pub scoping : List ItemTree → List DataTree → List (Option ℕ) → Scoping
scoping is ds ns = record { items = is; datatypes = ds; sources = ns }

-- Nodes and binders have the numbers from 0 on in their orders, each variable is bound, and the forms are those of a scoped program.
pub record IsScoped (s : Scoping) : Type 0 where
  pub nodes : AreFrom 0 (nodes_of_items s.items)
  pub few_nodes : length (nodes_of_items s.items) < 2 ^ 32
  pub binders : AreFrom 0 (binders_of_items s.items)
  pub named : length (binders_of_items s.items) ≡ length s.sources
  pub few_binders : length s.sources ≤ 2 ^ 31
  pub scoped : are_scoped [] s.items ≡ true
