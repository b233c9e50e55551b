use Rattle.std.proofs.Common.{sym, subst}
use Rattle.lq_base_names.specs.declared.name.Binder.{Binder}
use Rattle.lq_text_walk.specs.Walk.View.{leaf_view}
use Rattle.lq_types_rules.specs.Equations.Adding.{Adds}
use Rattle.lq_types_rules.specs.Equations.Rows.{LeafIs}
use Rattle.lq_types_rules.proofs.EquationsLemmas.Composing.{adds_nothing}
use Rattle.lq_types_rules.proofs.equations.system.System.add_leaf.Goals as goal

pub returns-in-AssertFalse : goal.returns-in-AssertFalse
returns-in-AssertFalse c =
    subst (λ l. Adds c.args.self.now c.args.self.now (LeafIs c.args.nodes (leaf_view Binder (λ b. b.0) l) c.args.at)) (sym c.in-AssertFalse.is) (adds_nothing c.args.self.now c.requires.system)
