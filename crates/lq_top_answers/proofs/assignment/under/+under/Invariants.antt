use Rattle.std.proofs.Common.{◌≡◌, ◌+◌, ◌*◌, ◌<◌, [], All, map, take}
use Rattle.lq_refined_types.specs.Types.Operations.{under}
use Rattle.lq_refined_subtyping.specs.Table.Forms.{each, form_type}
use Rattle.lq_refined_subtyping.specs.Table.Whole.{count_of, refined_at, types_of, Grows}
use Rattle.lq_refined_substitution.specs.Substitution.Views.{scopes_view}
use Rattle.lq_top_answers.specs.Assignment.Sizes.{size, row_size}
use Rattle.lq_top_answers.specs.Assignment.Views.{assignment_view}
use Rattle.lq_top_answers.proofs.assignment.under.+under.Given as goal

abbrev pub decreases-types_under : goal.decreases-types_under
decreases-types_under l = 2 * size (refined_at (scopes_view l.given.now.scopes.now) l.types.now l.at) + 1

abbrev pub decreases-form_under : goal.decreases-form_under
decreases-form_under l = 2 * size (form_type (types_of (scopes_view l.given.now.scopes.now) l.types.now) l.form [])

abbrev pub decreases-all_under : goal.decreases-all_under
decreases-all_under l = 2 * row_size (each (types_of (scopes_view l.given.now.scopes.now) l.types.now) l.parts.now)

abbrev pub invariant-all_under-loop-at : goal.invariant-all_under-loop-at
invariant-all_under-loop-at l =
    let S = scopes_view l.given.scopes.now in
    record {
      refined : map (refined_at S l.types) l.made.items
          ≡ map (λ p. under (assignment_view l.given.assignment.now) (refined_at S l.initial.types p)) (take l.at-index l.parts);
      there : All (λ p. p < count_of l.types) l.made.items;
      grows : Grows l.initial.types l.types;
    }
