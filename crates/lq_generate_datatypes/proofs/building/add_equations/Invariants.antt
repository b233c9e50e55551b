use Rattle.std.proofs.Common.{◌≡◌, ℕ, ◌==◌, ◌++◌, [], cond, map, take}
use Rattle.lq_generate_operations.specs.Basis.Basis.{items_at}
use Rattle.lq_logic_predicates.specs.PredView.{formula_of}
use Rattle.lq_generate_datatypes.proofs.building.add_equations.Given as goal

abbrev pub invariant-loop-fact : goal.invariant-loop-fact
invariant-loop-fact l =
    (c : ℕ) → map formula_of (items_at l.equations.items c)
    ≡ map formula_of (items_at l.fn.equations.items c) ++ cond (l.name.0 == c) (map formula_of (take l.fact-index l.fact-items)) []
