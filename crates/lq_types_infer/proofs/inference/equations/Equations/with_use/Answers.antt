use Rattle.std.proofs.Common.{◌+◌, inr, refl, sym, subst, arith}
use Rattle.lq_types_unify.specs.Knowing.{Knows}
use Rattle.lq_types_rules.specs.Visits.Owning.{binder_slots}
use Rattle.lq_types_infer.specs.Inference.Defining.{first_of}
use Rattle.lq_types_infer.proofs.InferenceLemmas.Visiting.{use_added}
use Rattle.lq_types_infer.proofs.inference.equations.Equations.with_use.Goals as goal

pub returns-clause-used : goal.returns-clause-used
returns-clause-used c = inr (record {
  arena_is = c.in_ok-add_same.ensures.arena;
  definition_in = c.requires.definition;
  node_in = c.requires.node;
  equations_are = c.in_ok-add_same.ensures.equations;
  determined = λ types others a b h. c.in_ok-may_vary.ensures.determined c.if-branch.false types others a b (λ k d l. absurd (omega arith));
})

pub returns-clause-added : goal.returns-clause-added
returns-clause-added c =
    use_added c.args.nodes c.args.self _ (binder_slots c.args.nodes (first_of c.args.self.definitions.plain.items c.args.found.before)) (c.args.nodes + c.args.found.binder) c.args.found.node c.requires.kept.system
    (subst (λ a. Knows a c.args.self.system.equations.items c.may_vary.new.solver) (sym c.in_ok-add_same.ensures.arena) c.in_ok-may_vary.ensures.knows) c.requires.kept.clear refl c.requires.kept.told (returns-clause-used c)
