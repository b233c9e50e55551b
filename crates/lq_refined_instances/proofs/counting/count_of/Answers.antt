use Rattle.std.proofs.Common.{◌≡◌, ℕ, List, Bool, ◌+◌, ◌-◌, ◌^◌, min, [], map, slice_get, get_or, if◌then◌else◌, sym, ap, ◌∙◌}
use Rattle.lq_text_qualifiers.specs.Sorting.Views.{qualifier_view, shape_view}
use Rattle.lq_text_qualifiers.specs.declared.sorting.shape.Shape.{Shape}
use Rattle.lq_text_qualifiers.specs.declared.sorting.shape.Shape.TheVariants.{Int}
use Rattle.lq_refined_instances.specs.Counting.{or_first, replaced_count}
use Rattle.lq_refined_instances.specs.Seen.{added_view}
use Rattle.lq_refined_instances.specs.Views.{scopes_view}
use Rattle.lq_refined_instances.specs.declared.unknowns.Unknown.{Unknown}
use Rattle.lq_refined_instances.proofs.CountSteps.{count-step}
use Rattle.lq_refined_instances.proofs.Tables.{grown-starts}
use Rattle.lq_refined_instances.proofs.counting.count_of.Goals as goal
use Rattle.lq_refined_instances.proofs.counting.count_of.Goals.{then-is_same, else-is_same}

pub loop-unknown-preserved : goal.loop-unknown-preserved
loop-unknown-preserved c =
    let none : Unknown = record { scope = 0; shape = Int } in
    let q = qualifier_view c.args.qualifier.now in
    let U = c.deref-unknown-items.result.now in
    let i = c.loop-unknown.unknown-index in
    let x : Unknown = get_or U i none in
    let counts = c.in_ok-counts.counts.items in
    let starts = grown-starts [] [] (map added_view c.args.unknowns.now.scopes.additions.items) in
    let column : counts ≡ map (replaced_count q.placeholders) (scopes_view c.args.unknowns.now.scopes) =
    c.in_ok-counts.ensures ∙ ap (λ (l : List Shape). map (replaced_count (map shape_view l)) (scopes_view c.args.unknowns.now.scopes)) c.deref.ensures.value
    in
    let lent : U ≡ c.args.unknowns.now.unknowns.items = c.deref-unknown-items.ensures.value in
    let next : c.if-is_same.total ≡ (if c.is_same.result then min (c.loop-unknown.total + or_first (slice_get counts x.scope) counts) (2 ^ 64 - 1) else c.loop-unknown.total) =
    elim c.if-is_same.branch [
      | then-is_same w ↦ let value : c.if-is_same.total ≡ min (c.loop-unknown.total + or_first (slice_get counts x.scope) counts) (2 ^ 64 - 1) =
          w.total-is ∙ w.saturating_add-total.ensures
          ∙ ap (λ (n : ℕ). min (c.loop-unknown.total + n) (2 ^ 64 - 1)) (w.count_at.ensures ∙ ap (λ (l : List ℕ). or_first (slice_get l x.scope) l) w.deref-then-is_same.ensures.value)
          in
          value ∙ sym (ap (λ (b : Bool). if b then min (c.loop-unknown.total + or_first (slice_get counts x.scope) counts) (2 ^ 64 - 1) else c.loop-unknown.total) w.if-is_same.true)
      | else-is_same w ↦ w.total-is
          ∙ sym (ap (λ (b : Bool). if b then min (c.loop-unknown.total + or_first (slice_get counts x.scope) counts) (2 ^ 64 - 1) else c.loop-unknown.total) w.if-is_same.false)
    ]
    in
    count-step q (scopes_view c.args.unknowns.now.scopes) starts.0 c.args.unknowns.now.unknowns.items U i none counts c.is_same.result c.loop-unknown.total c.if-is_same.total lent starts.1
    c.loop-unknown-test.true c.loop-unknown.invariant column (sym c.is_same.ensures) next
