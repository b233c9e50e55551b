-- Patterns whose scopes are counted for a qualifier.
use Rattle.std.specs.Prelude.{◌≡◌, ℕ, ◌<◌, List, true, false, length, slice_index_or}
use Rattle.lq_refined_instances.specs.Counting.{count_of}
use Rattle.lq_refined_instances.specs.Scopes.{Scope}
use Rattle.lq_refined_instances.specs.Views.{scopes_view, unknowns_view}
use Rattle.lq_refined_instances.specs.declared.unknowns.Unknowns.{Unknowns}
use Rattle.lq_text_qualifiers.specs.Sorting.Sorted.{Qualifier}
use Rattle.lq_refined_copies.specs.Completed.{all_completed}
use Rattle.lq_refined_copies.specs.Counting.{AreColumns, AreMarks}
use Rattle.lq_refined_copies.specs.Groups.{groups_view}
use Rattle.lq_refined_copies.specs.declared.patterns.Inner.{Inner}

-- where an unknown has the qualifier's shape, its scopes are counted; else there is nothing to count
pub record IsInner (q : Qualifier) (p : Unknowns) (c : Inner) : Type 0 where
  pub columns : c.is_asked ≡ true → AreColumns q.placeholders (scopes_view p.scopes) c.columns.items
  pub marks : c.is_asked ≡ true → AreMarks (scopes_view p.scopes) c.marks.items
  pub groups : c.is_asked ≡ true → groups_view (scopes_view p.scopes) c.groups.items ≡ unknowns_view p
  pub nothing : c.is_asked ≡ false → (Γ : Scope) → count_of q (all_completed Γ (unknowns_view p)) ≡ 0

pub record AreInner (q : Qualifier) (ps : List Unknowns) (cs : List Inner) : Type 0 where
  pub count : length cs ≡ length ps
  pub each : (k : ℕ) (p : Unknowns) (c : Inner) → k < length cs → IsInner q (slice_index_or ps k p) (slice_index_or cs k c)
