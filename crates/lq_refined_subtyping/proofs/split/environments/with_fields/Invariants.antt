use Rattle.std.proofs.Common.{◌≡◌, ◌<◌, length, take}
use Rattle.lq_refined_subtyping.specs.Contexts.Growing.{HasMore}
use Rattle.lq_refined_substitution.specs.Implications.Views.{count_of, environment_at, environment_lists, implications_of}
use Rattle.lq_refined_types.specs.Types.Context.{Context, hypotheses_of}
use Rattle.lq_refined_subtyping.specs.Table.Forms.{each}
use Rattle.lq_refined_subtyping.specs.Table.Whole.{types_of, Grows}
use Rattle.lq_refined_substitution.specs.Substitution.Views.{scopes_view}
use Rattle.lq_refined_types.specs.Subtyping.Subtype.{with_fields}
use Rattle.lq_refined_subtyping.proofs.split.environments.with_fields.Given as goal

abbrev pub invariant-loop-field : goal.invariant-loop-field
invariant-loop-field l =
    let S = scopes_view l.scopes in
    record {
      position : l.position ≡ l.field-index;
      facts : (Γ : Context) → hypotheses_of S Γ ≡ environment_at l.initial.list l.env
          → hypotheses_of S (with_fields 0 (each (types_of S l.initial.types) (take l.field-index l.fields)) Γ) ≡ environment_at l.list l.at;
      there : l.at < length (environment_lists l.list);
      environments : HasMore (environment_lists l.initial.list) (environment_lists l.list);
      implications : implications_of l.list ≡ implications_of l.initial.list;
      count : count_of l.list ≡ count_of l.initial.list;
      grows : Grows l.initial.types l.types;
    }
