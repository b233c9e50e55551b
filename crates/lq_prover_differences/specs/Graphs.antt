-- A graph of arcs that were admitted.
use Rattle.std.specs.Prelude.{◌≡◌, ℕ, ◌+◌, ◌*◌, ◌<◌, ◌≤◌, List, [], length, vec_capacity}
use Rattle.lq_prover_differences.specs.declared.arc.Arc.{Arc}
use Rattle.lq_prover_differences.specs.declared.vertex.Vertex.{Vertex}
use Rattle.lq_prover_differences.specs.declared.trail.Note.{Note}
use Rattle.lq_prover_differences.specs.declared.graph.Start.{Start}
use Rattle.lq_prover_differences.specs.declared.graph.Graph.{Graph}
use Rattle.lq_prover_differences.specs.Passes.{vertex_at, order_at, AtRest}
use Rattle.lq_prover_differences.specs.Links.{kept}
use Rattle.lq_prover_differences.specs.Trail.{NotesBelow, IsReached, start_at, HasStarts}

-- the trail leads back to each start
pub record LeadsBack (arcs : List Arc) (links : List ℕ) (vertices : List Vertex) (order : List ℕ) (trail : List Note) (starts : List Start) : Type 0 where
  pub ordered : length order ≡ length vertices
  pub below : NotesBelow trail (length vertices)
  pub links_in : (i : ℕ) → i < length starts → (start_at starts i).arcs ≤ length links
  pub led : HasStarts starts arcs links trail (kept (vertex_at vertices))

-- and no arc is being admitted
pub record Rests (arcs : List Arc) (links : List ℕ) (vertices : List Vertex) (order fallen : List ℕ) (trail : List Note) (starts : List Start) : Type 0 where
  pub back : LeadsBack arcs links vertices order trail starts
  pub rest : (v : ℕ) → AtRest (vertex_at vertices) (order_at order) v
  pub empty : fallen ≡ []

-- and all of the arcs are solved
pub record Stands (arcs : List Arc) (links : List ℕ) (vertices : List Vertex) (order fallen : List ℕ) (trail : List Note) (starts : List Start) : Type 0 where
  pub rests : Rests arcs links vertices order fallen trail starts
  pub same : length links ≡ length arcs
  pub reached : IsReached arcs links (length arcs) (kept (vertex_at vertices))

abbrev pub HasTrail : Graph → Type 0
HasTrail g = LeadsBack g.arcs.items g.links.items g.vertices.items g.order.items g.trail.items g.starts.items

abbrev pub IsAtRest : Graph → Type 0
IsAtRest g = Rests g.arcs.items g.links.items g.vertices.items g.order.items g.fallen.items g.trail.items g.starts.items

abbrev pub IsGraph : Graph → Type 0
IsGraph g = Stands g.arcs.items g.links.items g.vertices.items g.order.items g.fallen.items g.trail.items g.starts.items

-- how many rows' arcs were admitted
abbrev pub admitted : Graph → ℕ
admitted g = g.base + length g.starts.items

-- the lists have room for so many rows, whose arcs are at most two each, and for the notes of one row at least
pub record HasRoom (g : Graph) (rows : ℕ) : Type 0 where
  pub arcs : 2 * rows ≤ vec_capacity g.arcs
  pub links : 2 * rows ≤ vec_capacity g.links
  pub starts : rows ≤ vec_capacity g.starts
  pub fallen : length g.vertices.items ≤ vec_capacity g.fallen
  pub notes : 2 * (vec_capacity g.fallen + 2) ≤ vec_capacity g.trail

-- there is room for the notes of one row more
abbrev pub HasNotes : Graph → Type 0
HasNotes g = length g.trail.items + 2 * (vec_capacity g.fallen + 2) ≤ vec_capacity g.trail

-- there is room for what the arcs of one row more may need
pub record HasPlace (g : Graph) : Type 0 where
  pub arcs : length g.arcs.items + 2 ≤ vec_capacity g.arcs
  pub links : length g.arcs.items + 2 ≤ vec_capacity g.links
  pub fallen : length g.vertices.items ≤ vec_capacity g.fallen
  pub notes : HasNotes g

pub record SameRoom (old new : Graph) : Type 0 where
  pub arcs : vec_capacity new.arcs ≡ vec_capacity old.arcs
  pub links : vec_capacity new.links ≡ vec_capacity old.links
  pub starts : vec_capacity new.starts ≡ vec_capacity old.starts
  pub fallen : vec_capacity new.fallen ≡ vec_capacity old.fallen
  pub trail : vec_capacity new.trail ≡ vec_capacity old.trail

pub record SameItems (old new : Graph) : Type 0 where
  pub arcs : new.arcs.items ≡ old.arcs.items
  pub links : new.links.items ≡ old.links.items
  pub vertices : new.vertices.items ≡ old.vertices.items
  pub order : new.order.items ≡ old.order.items
  pub fallen : new.fallen.items ≡ old.fallen.items
  pub trail : new.trail.items ≡ old.trail.items
  pub base : new.base ≡ old.base
  pub starts : new.starts.items ≡ old.starts.items
