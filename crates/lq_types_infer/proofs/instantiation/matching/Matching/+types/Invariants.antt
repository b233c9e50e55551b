use Rattle.std.proofs.Common.{ℕ, ◌+◌, ◌*◌}
use Rattle.lq_text_tree.specs.MlType.{MlType}
use Rattle.lq_types_table.specs.Whole.{types_of}
use Rattle.lq_types_infer.specs.Instantiation.Matching.{Becomes, AreMet, IsMatching, IsSameTurn}
use Rattle.lq_types_infer.proofs.InstantiationLemmas.Walking.{PartsWalked}
use Rattle.lq_types_infer.proofs.instantiation.matching.Matching.+types.Given as goal

abbrev pub decreases-walk : goal.decreases-walk
decreases-walk l = 3 * l.definition + 2

abbrev pub decreases-enter : goal.decreases-enter
decreases-enter l = 3 * l.definition + 1

abbrev pub decreases-walk_parts : goal.decreases-walk_parts
decreases-walk_parts l = 3 * l.definition

abbrev pub invariant-walk_parts-loop-at : goal.invariant-walk_parts-loop-at
invariant-walk_parts-loop-at l = record {
  matching : IsMatching (types_of l.table) l.self;
  same : IsSameTurn l.initial.self l.self;
  walked : (by : ℕ → MlType) → Becomes (types_of l.table) by l.definition l.used → AreMet (types_of l.table) by l.initial.self
      → PartsWalked (types_of l.table) by l.initial.self l.self l.parts l.at;
}
