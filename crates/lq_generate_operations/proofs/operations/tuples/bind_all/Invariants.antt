use Rattle.std.proofs.Common.{◌≡◌, ◌<◌, length, take}
use Rattle.lq_refined_rules.specs.Checks.Match.{bind_all}
use Rattle.lq_refined_subtyping.specs.Contexts.Growing.{HasMore}
use Rattle.lq_refined_substitution.specs.Implications.Views.{count_of as implication_count, environment_lists, implications_of}
use Rattle.lq_refined_templates.specs.Programs.BlockView.{names_view}
use Rattle.lq_refined_types.specs.Types.Context.{Context}
use Rattle.lq_refined_subtyping.specs.Table.Forms.{each}
use Rattle.lq_refined_subtyping.specs.Table.Whole.{count_of, Grows}
use Rattle.lq_generate_operations.specs.Basis.Basis.{types_in}
use Rattle.lq_generate_operations.specs.Basis.Knowing.{AreBelow}
use Rattle.lq_generate_operations.specs.Basis.Names.{IsLonger}
use Rattle.lq_generate_operations.specs.Operations.Over.{IsContext}
use Rattle.lq_generate_operations.proofs.operations.tuples.bind_all.Given as goal

abbrev pub invariant-loop-index : goal.invariant-loop-index
invariant-loop-index l = record {
  context : (Γ : Context) → IsContext Γ l.initial.names l.basis l.initial.types l.initial.list l.env
      → IsContext (bind_all (names_view (take l.index l.fields)) (each (types_in l.basis l.initial.types) l.rows) Γ) l.names l.basis l.types l.list l.at;
  longer : IsLonger l.initial.names l.names;
  below : AreBelow (count_of l.types) l.names;
  there : l.at < length (environment_lists l.list);
  environments : HasMore (environment_lists l.initial.list) (environment_lists l.list);
  implications : implications_of l.list ≡ implications_of l.initial.list;
  count : implication_count l.list ≡ implication_count l.initial.list;
  grows : Grows l.initial.types l.types;
}
