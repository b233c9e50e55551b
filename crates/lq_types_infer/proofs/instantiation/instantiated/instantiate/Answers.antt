use Rattle.std.proofs.Common.{subst}
use Rattle.std.proofs.Math.Logic.{∥∥₁_map}
use Rattle.lq_text_walk.specs.Scoped.Scoping.{IsScoped}
use Rattle.lq_types_rules.specs.Typings.Principal.{node_count}
use Rattle.lq_types_infer.specs.Annotation.Whole.{program_of, table_of, types_of}
use Rattle.lq_types_infer.specs.Instantiation.Uses.{uses_of}
use Rattle.lq_types_infer.proofs.InstantiationLemmas.Ahead.{ahead_first}
use Rattle.lq_types_infer.proofs.InstantiationLemmas.Reading.{parts_merely}
use Rattle.lq_types_infer.proofs.instantiation.instantiated.instantiate.Goals as goal

pub over-requires : goal.over-requires
over-requires c =
    let a = c.args.annotated in
    ∥∥₁_map c.scoped.ensures.typed
    (ahead_first c.visits_are_rules.ensures c.scoped_visits_are_in.ensures (program_of a) (types_of a)
    (subst IsScoped c.scoped.ensures.program c.items.ensures.scoped))

pub invariant_of-result : goal.invariant_of-result
invariant_of-result c =
    let a = c.args.annotated in
    let p = c.in_ok-pass.pass in
    record {
      parts = parts_merely (table_of a) (node_count (program_of a)) (types_of a) (uses_of (program_of a)) p.rows.items p.starts.items
          (node_count (program_of a)) c.in_ok-pass.ensures;
      found = c.in_ok-pass.ensures;
    }
