use Rattle.lq_refined_rules.specs.Checks.Operation.{bind}
use Rattle.lq_refined_subtyping.specs.Table.Whole.{count_of, refined_at}
use Rattle.lq_generate_operations.specs.Basis.Basis.{scopes_of}
use Rattle.lq_generate_operations.specs.Basis.Growing.{are_below-bound, knows-bound, knows-grown, longer-bound}
use Rattle.lq_generate_operations.proofs.operations.contexts.bind.Goals as goal

pub returns-clause-context : goal.returns-clause-context
returns-clause-context c =
    let old = c.args.types.now in
    let new = c.with_name.new.types in
    let b = c.args.basis.now in
    let names = c.args.names.now in
    let more = c.bind.new.self in
    let x = c.args.name.0 in
    let at = c.args.at in
    let t = refined_at (scopes_of b) old at in
    λ Γ k. record {
      knows = knows-grown (bind x t Γ) more b old new c.with_name.ensures.grows
          (are_below-bound (count_of old) names more x at c.in_ok-bind.ensures.ok c.requires.at c.requires.names)
          (knows-bound Γ names more b old x at c.in_ok-bind.ensures.ok k.knows);
      facts = c.in_ok-added.ensures.facts Γ k.facts;
    }

pub returns-clause-longer : goal.returns-clause-longer
returns-clause-longer c = longer-bound c.args.names.now c.bind.new.self c.args.name.0 c.args.at c.in_ok-bind.ensures.ok
