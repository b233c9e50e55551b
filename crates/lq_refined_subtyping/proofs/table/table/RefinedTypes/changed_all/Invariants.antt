use Rattle.std.proofs.Common.{◌≡◌, ◌<◌, All, map, take}
use Rattle.lq_refined_types.specs.Parts.Part.{Scopes}
use Rattle.lq_refined_subtyping.specs.Table.Changes.{changed}
use Rattle.lq_refined_subtyping.specs.Table.Whole.{count_of, refined_at, types_of, Grows}
use Rattle.lq_refined_subtyping.proofs.table.table.RefinedTypes.changed_all.Given as goal

abbrev pub invariant-loop-at : goal.invariant-loop-at
invariant-loop-at l = record {
  refined : (scopes : Scopes) → map (refined_at scopes l.self) l.made.items
      ≡ map (λ p. changed scopes (types_of scopes l.initial.self) l.change.value (refined_at scopes l.initial.self p)) (take l.at-index l.types);
  there : All (λ p. p < count_of l.self) l.made.items;
  grows : Grows l.initial.self l.self;
}
