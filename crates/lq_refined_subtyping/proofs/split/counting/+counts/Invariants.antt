use Rattle.std.proofs.Common.{◌≡◌, ◌+◌, ◌*◌, ◌-◌, ◌^◌, [], min, take}
use Rattle.lq_refined_types.specs.Types.Refined.{all_erased, erased}
use Rattle.lq_refined_subtyping.specs.Table.Forms.{each, form_type}
use Rattle.lq_refined_subtyping.specs.Table.Whole.{refined_at, types_of, Grows}
use Rattle.lq_refined_substitution.specs.Substitution.Views.{scopes_view}
use Rattle.lq_refined_subtyping.specs.Split.Counting.{all_on_left, all_on_right}
use Rattle.lq_refined_subtyping.proofs.SplitLemmas.Sizing.{size, row_size}
use Rattle.lq_refined_subtyping.proofs.split.counting.+counts.Given as goal

abbrev pub decreases-counts : goal.decreases-counts
decreases-counts l = 2 * size (erased (refined_at (scopes_view l.scopes.now) l.types.now l.at)) + 1

abbrev pub decreases-form_counts : goal.decreases-form_counts
decreases-form_counts l = 2 * size (erased (form_type (types_of (scopes_view l.scopes.now) l.types.now) l.form.now []))

abbrev pub decreases-row_counts : goal.decreases-row_counts
decreases-row_counts l = 2 * row_size (all_erased (each (types_of (scopes_view l.scopes.now) l.types.now) l.row.now))

abbrev pub invariant-row_counts-loop-at : goal.invariant-row_counts-loop-at
invariant-row_counts-loop-at l =
    let all = types_of (scopes_view l.scopes) l.initial.types in
    record {
      right : l.right ≡ min (all_on_right (each all (take l.at-index l.row))) (2 ^ 64 - 1);
      left : l.left ≡ min (all_on_left (each all (take l.at-index l.row))) (2 ^ 64 - 1);
      grows : Grows l.initial.types l.types;
    }
