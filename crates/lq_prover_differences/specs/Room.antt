-- How much may yet be put into the lists of a table.
use Rattle.std.specs.Prelude.{ℕ, ◌-◌, ◌-ℤ◌, List, sum_by}
use borrow.Author.Differences.{down}
use Rattle.lq_prover_differences.specs.declared.vertex.Vertex.{Vertex}

-- 0 of a vertex to which less than its potential is offered, and else 1
abbrev pub may_fall : Vertex → ℕ
may_fall v = 1 - down (v.next -ℤ v.kept.value)

-- how many vertices haven't fallen
abbrev pub unfallen : List Vertex → ℕ
unfallen vertices = sum_by may_fall vertices
