-- What a table is seen as, and what always holds of one.
use Rattle.std.specs.Prelude.{◌≡◌, ℕ, suc, ℤ, pos, negsuc, ◌+◌, ◌<◌, ◌≤◌, ◌-ℤ◌, Bool, true, false, List, [], ◌∷◌, Option, Some, None, length, take, slice_get, if◌then◌else◌, unsigned_abs, FitsSigned}
use Rattle.std.specs.Int.{w128}
use Rattle.lq_base_numbers.specs.Rationals.Rational.{ℚ, whole}
use Rattle.lq_logic_rows.specs.Row.{Row, Valuation}
use Rattle.lq_logic_rows.specs.Contradiction.{Tagged}
use Rattle.lq_logic_rows.specs.Answers.{Last, last_of}
use Rattle.lq_logic_rows.specs.declared.engine.Answer.{Answer}
use Rattle.lq_logic_rows.specs.declared.engine.Answer.TheVariants.{Solved, Contradicted}
pub use Rattle.lq_logic_rows.specs.Difference.{IsDifference, TermsBelow}
use Rattle.lq_logic_rows.specs.declared.engine.LinearStop.{LinearStop}
use Rattle.lq_prover_differences.specs.declared.arc.Edge.{Edge}
use Rattle.lq_prover_differences.specs.declared.vertex.Vertex.{Vertex}
use Rattle.lq_prover_differences.specs.declared.graph.Graph.{Graph}
use Rattle.lq_prover_differences.specs.Trail.{start_at}
use Rattle.lq_prover_differences.specs.Graphs.{HasRoom, IsGraph, admitted}
use Rattle.lq_prover_differences.specs.Passes.{vertex_at, values}
use Rattle.lq_prover_differences.specs.Edges.{standing_of, arcs_of, sizes, EdgesInRange, TagsApart}
use Rattle.lq_prover_differences.specs.Cycles.{IsNegativeCycle}
use Rattle.lq_prover_differences.specs.Stops.{PastBy}
use Rattle.lq_logic_rows.specs.declared.limits.TheConstants.{SUM_LIMIT}

-- the rows that stand, the potentials, whether a conflict is known and the steps of the last one, the last answer, and the limits
pub record Table : Type 0 where
  pub edges : List Edge
  pub vertices : List Vertex
  pub conflict : Bool
  pub found : List (ℕ × Bool)
  pub answer : Answer
  pub terms : ℕ
  pub rows : ℕ

abbrev pub table_rows : Table → Tagged
table_rows t = standing_of t.edges

abbrev pub table_limits : Table → List ℕ
table_limits t = t.terms ∷ t.rows ∷ []

abbrev pub table_last : Table → Last
table_last t = last_of t.answer

-- a vertex's potential over that of the number 0, and 0 where there is no such vertex
abbrev pub over_zero : Option Vertex → ℤ → ℤ
over_zero (Some vertex) zero = vertex.kept.value -ℤ zero
over_zero None zero = pos 0

abbrev pub value_at : Table → ℕ → ℤ
value_at t term = over_zero (slice_get t.vertices (suc term)) (values (vertex_at t.vertices) 0)

abbrev pub table_point : Table → Valuation
table_point t term = whole (value_at t term)

abbrev pub multiplier_of : ℕ × Bool → ℕ × ℚ
multiplier_of m = (m.0, if m.1 then whole (pos 1) else whole (negsuc 0))

abbrev pub multipliers_of : List (ℕ × Bool) → List (ℕ × ℚ)
multipliers_of [] = []
multipliers_of (m ∷ ms) = multiplier_of m ∷ multipliers_of ms

abbrev pub table_multipliers : Table → List (ℕ × ℚ)
table_multipliers t = multipliers_of t.found

abbrev pub TakesRow : List ℕ → Tagged → Row → Type 0
TakesRow [] rows row = ⊥
TakesRow (terms ∷ []) rows row = ⊥
TakesRow (terms ∷ most ∷ more) rows row = IsDifference row.parts × TermsBelow terms row.parts × (length rows < most)

-- the sizes of the constants that stand, in all
abbrev pub constants : Tagged → ℕ
constants [] = 0
constants (r ∷ rows) = unsigned_abs r.1.constant + constants rows

abbrev pub MayStop : List ℕ → Tagged → List Row → LinearStop → Type 0
MayStop limits rows ever stop = PastBy (constants rows) stop

-- the arcs of the first rows were admitted; where a conflict is known, it is one of the first row that wasn't
pub record IsStanding (edges : List Edge) (g : Graph) (conflict : Bool) (found : List (ℕ × Bool)) : Type 0 where
  pub graph : IsGraph g
  pub in_range : EdgesInRange edges (length g.vertices.items)
  pub apart : TagsApart edges
  pub rows : admitted g ≤ length edges
  pub arcs : g.arcs.items ≡ arcs_of (take (admitted g) edges)
  pub starts : (i : ℕ) → i < length g.starts.items → (start_at g.starts.items i).arcs ≡ length (arcs_of (take (g.base + i) edges))
  pub more : conflict ≡ true → admitted g < length edges
  pub known : conflict ≡ true → IsNegativeCycle (arcs_of (take (suc (admitted g)) edges)) found

-- where no conflict is known and the sizes of the constants sum to less than the limit, all were admitted
abbrev pub IsDecided : List Edge → Graph → Bool → Type 0
IsDecided edges g conflict = conflict ≡ false → sizes edges < SUM_LIMIT → admitted g ≡ length edges

-- each potential's difference from that of the number 0 can be written
abbrev pub AllFit : List Vertex → Type 0
AllFit vertices = (v : ℕ) → v < length vertices → FitsSigned w128 (values (vertex_at vertices) v -ℤ values (vertex_at vertices) 0)

-- with room for so many edges, and so many steps of a cycle
pub record IsTable (t : Table) (g : Graph) (edge_room step_room : ℕ) : Type 0 where
  pub fits : t.terms < 18446744073709551615
  pub same : g.vertices.items ≡ t.vertices
  pub sized : length t.vertices ≡ t.terms + 1
  pub standing : IsStanding t.edges g t.conflict t.found
  pub decided : IsDecided t.edges g t.conflict
  pub few : length t.edges ≤ t.rows
  pub place : t.rows ≤ edge_room
  pub room : HasRoom g t.rows
  pub steps : t.terms + 1 < step_room
  pub all : t.answer ≡ Solved → admitted g ≡ length t.edges
  pub fit : t.answer ≡ Solved → AllFit t.vertices
  pub solved : t.answer ≡ Solved → t.conflict ≡ false
  pub contradicted : t.answer ≡ Contradicted → t.conflict ≡ true
