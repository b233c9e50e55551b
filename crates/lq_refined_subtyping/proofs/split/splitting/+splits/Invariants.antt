use Rattle.std.proofs.Common.{◌≡◌, ◌+◌, ◌*◌, ◌<◌, [], length, take}
use Rattle.lq_refined_subtyping.specs.Contexts.Growing.{HasMore}
use Rattle.lq_refined_substitution.specs.Implications.Growing.{Continues}
use Rattle.lq_refined_substitution.specs.Implications.Views.{environment_at, environment_lists}
use Rattle.lq_refined_types.specs.Types.Context.{Context, hypotheses_of}
use Rattle.lq_refined_types.specs.Types.Refined.{all_erased, erased}
use Rattle.lq_refined_subtyping.specs.Table.Forms.{each, form_type}
use Rattle.lq_refined_subtyping.specs.Table.Whole.{refined_at, types_of, Grows}
use Rattle.lq_refined_types.specs.Subtyping.Splitting.{arguments, components}
use Rattle.lq_refined_types.specs.Subtyping.Subtype.{with_fields}
use Rattle.lq_refined_subtyping.specs.Split.Appending.{Appends}
use Rattle.lq_refined_subtyping.specs.Split.Given.{origin_of, scopes_of, Over}
use Rattle.lq_refined_subtyping.proofs.SplitLemmas.Sizing.{size, row_size}
use Rattle.lq_refined_subtyping.proofs.split.splitting.+splits.Given as goal

abbrev pub decreases-subtypes : goal.decreases-subtypes
decreases-subtypes l = 4 * size (erased (refined_at (scopes_of l.given.now) l.types.now l.sides.1)) + 1

abbrev pub decreases-inside : goal.decreases-inside
decreases-inside l = 4 * size (erased (form_type (types_of (scopes_of l.given.now) l.types.now) l.right.now []))

abbrev pub decreases-functions : goal.decreases-functions
decreases-functions l =
    let S = scopes_of l.given.now in
    4 * (size (erased (refined_at S l.types.now l.right.argument)) + size (erased (refined_at S l.types.now l.right.result))) + 3

abbrev pub decreases-arrays : goal.decreases-arrays
decreases-arrays l = 4 * size (erased (refined_at (scopes_of l.given.now) l.types.now l.elements.1)) + 3

abbrev pub decreases-both_ways : goal.decreases-both_ways
decreases-both_ways l = 4 * size (erased (refined_at (scopes_of l.given.now) l.types.now l.elements.1)) + 2

abbrev pub decreases-datatypes : goal.decreases-datatypes
decreases-datatypes l = 4 * row_size (all_erased (each (types_of (scopes_of l.given.now) l.types.now) l.right.now)) + 1

abbrev pub decreases-arguments : goal.decreases-arguments
decreases-arguments l = 4 * row_size (all_erased (each (types_of (scopes_of l.given.now) l.types.now) l.right.now))

abbrev pub decreases-components : goal.decreases-components
decreases-components l = 4 * row_size (all_erased (each (types_of (scopes_of l.given.now) l.types.now) l.right.now))

abbrev pub invariant-arguments-loop-at : goal.invariant-arguments-loop-at
invariant-arguments-loop-at l =
    let all = types_of (scopes_of l.given) l.initial.types in
    record {
      added : Over l.given l.initial.types l.initial.list l.env (λ P Γ. Appends l.initial.list l.list
          (arguments P (origin_of l.given) (all_erased (each all (take l.at l.right))) Γ (each all (take l.at l.left)) (each all (take l.at l.right))));
      environments : HasMore (environment_lists l.initial.list) (environment_lists l.list);
      continues : Continues l.initial.list l.list;
      grows : Grows l.initial.types l.types;
    }

abbrev pub invariant-components-loop-at : goal.invariant-components-loop-at
invariant-components-loop-at l =
    let S = scopes_of l.given in
    let all = types_of S l.initial.types in
    record {
      added : Over l.given l.initial.types l.initial.list l.env (λ P Γ. Appends l.initial.list l.list
          (components P (origin_of l.given) (all_erased (each all (take l.at l.right))) Γ Γ 0 (each all (take l.at l.left)) (each all (take l.at l.right))));
      position : l.position ≡ l.at;
      facts : (Γ : Context) → hypotheses_of S Γ ≡ environment_at l.initial.list l.env
          → hypotheses_of S (with_fields 0 (each all (take l.at l.left)) Γ) ≡ environment_at l.list l.outer;
      there : l.outer < length (environment_lists l.list);
      environments : HasMore (environment_lists l.initial.list) (environment_lists l.list);
      continues : Continues l.initial.list l.list;
      grows : Grows l.initial.types l.types;
    }
