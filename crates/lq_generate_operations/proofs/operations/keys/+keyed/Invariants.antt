use Rattle.std.proofs.Common.{◌≡◌, ◌+◌, ◌*◌, ◌<◌, [], All, map, take}
use Rattle.lq_refined_rules.specs.Checks.Operation.{keyed}
use Rattle.lq_refined_types.specs.Types.Refined.{all_erased, erased}
use Rattle.lq_refined_subtyping.specs.Table.Forms.{each, form_type}
use Rattle.lq_refined_subtyping.specs.Table.Whole.{count_of, refined_at, types_of, Grows}
use Rattle.lq_refined_subtyping.proofs.SplitLemmas.Sizing.{size, row_size}
use Rattle.lq_refined_substitution.specs.Substitution.Views.{scopes_view, subst_view}
use Rattle.lq_generate_operations.proofs.operations.keys.+keyed.Given as goal

abbrev pub decreases-keyed : goal.decreases-keyed
decreases-keyed l = 2 * size (erased (refined_at (scopes_view l.scopes.now) l.types.now l.at)) + 1

abbrev pub decreases-keyed_form : goal.decreases-keyed_form
decreases-keyed_form l = 2 * size (erased (form_type (types_of (scopes_view l.scopes.now) l.types.now) l.form []))

abbrev pub decreases-keyed_row : goal.decreases-keyed_row
decreases-keyed_row l = 2 * row_size (all_erased (each (types_of (scopes_view l.scopes.now) l.types.now) l.row.now))

abbrev pub invariant-keyed_row-loop-at : goal.invariant-keyed_row-loop-at
invariant-keyed_row-loop-at l =
    let S = scopes_view l.scopes in
    record {
      refined : map (refined_at S l.types) l.made.items ≡ map (λ p. keyed S (subst_view l.by) (refined_at S l.initial.types p)) (take l.at-index l.row);
      there : All (λ p. p < count_of l.types) l.made.items;
      grows : Grows l.initial.types l.types;
    }
