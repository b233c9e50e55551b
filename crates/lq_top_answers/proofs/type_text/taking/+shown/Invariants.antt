use Rattle.std.proofs.Common.{◌≡◌, ◌+◌, ◌*◌, [], map, take}
use Rattle.lq_refined_types.specs.Types.Operations.{under}
use Rattle.lq_refined_subtyping.specs.Table.Forms.{each, form_type}
use Rattle.lq_refined_subtyping.specs.Table.Whole.{refined_at, types_of, Grows}
use Rattle.lq_refined_substitution.specs.Substitution.Views.{scopes_view}
use Rattle.lq_top_answers.specs.Assignment.Sizes.{size, row_size}
use Rattle.lq_top_answers.specs.Assignment.Views.{assignment_view}
use Rattle.lq_top_answers.specs.TypeText.ShownView.{shown_view}
use Rattle.lq_top_answers.proofs.type_text.taking.+shown.Given as goal

abbrev pub decreases-shown : goal.decreases-shown
decreases-shown l = 3 * size (refined_at (scopes_view l.given.now.scopes.now) l.types.now l.at) + 1

abbrev pub decreases-boxed : goal.decreases-boxed
decreases-boxed l = 3 * size (refined_at (scopes_view l.given.now.scopes.now) l.types.now l.at) + 2

abbrev pub decreases-form_shown : goal.decreases-form_shown
decreases-form_shown l = 3 * size (form_type (types_of (scopes_view l.given.now.scopes.now) l.types.now) l.form [])

abbrev pub decreases-all_shown : goal.decreases-all_shown
decreases-all_shown l = 3 * row_size (each (types_of (scopes_view l.given.now.scopes.now) l.types.now) l.parts.now)

abbrev pub invariant-all_shown-loop-at : goal.invariant-all_shown-loop-at
invariant-all_shown-loop-at l =
    let S = scopes_view l.given.scopes.now in
    record {
      shown : map shown_view l.made.items ≡ map (λ p. under (assignment_view l.given.assignment.now) (refined_at S l.initial.types p)) (take l.at-index l.parts);
      grows : Grows l.initial.types l.types;
    }
