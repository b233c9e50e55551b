use Rattle.std.proofs.Common.{◌≡◌, ◌-◌, length, reverse}
use Rattle.lq_refined_instances.specs.Views.{scopes_view}
use Rattle.lq_generate_reading.specs.Visibility.Fits.{Fits}
use Rattle.lq_generate_reading.specs.Visibility.Levels.{top_of}
use Rattle.lq_generate_reading.specs.Visibility.Scopes.{Longer}
use Rattle.lq_generate_reading.specs.Visibility.Spans.{IsIn}
use Rattle.lq_generate_reading.proofs.visibility.bound.Bound.scope_at.Given as goal

abbrev pub invariant-loop-alloc : goal.invariant-loop-alloc
invariant-loop-alloc l = record {
  fits : Fits l.notes (scopes_view l.scopes) l.self;
  holds : IsIn (top_of (reverse l.self.levels.items)).span l.node;
  kept : l.self.entries ≡ l.initial.self.entries;
  grown : Longer (scopes_view l.initial.scopes) (scopes_view l.scopes);
}

abbrev pub decreases-loop-alloc : goal.decreases-loop-alloc
decreases-loop-alloc l = length l.self.entries.items - length l.self.levels.items
