use Rattle.std.proofs.Common.{◌≡◌, ℕ, ◌==◌, ◌++◌, [], cond, take}
use Rattle.lq_generate_operations.specs.Basis.Basis.{items_at}
use Rattle.lq_generate_datatypes.proofs.building.add_fields.Given as goal

abbrev pub invariant-loop-row : goal.invariant-loop-row
invariant-loop-row l =
    (c : ℕ) → items_at l.fields.items c ≡ items_at l.fn.fields.items c ++ cond (l.name.0 == c) (take l.row-index l.rows) []
