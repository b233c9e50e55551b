use Rattle.std.proofs.lemmas.Result.{IfOk-weaker}
use Rattle.lq_refined_subtyping.proofs.TableLemmas.Entries.{pushed_type, pushed_node, pushed_there}
use Rattle.lq_refined_subtyping.proofs.table.table.RefinedTypes.push.Goals as goal

pub returns-clause-refined : goal.returns-clause-refined
returns-clause-refined c =
    IfOk-weaker c.add.result _ _
    (λ n e scopes. pushed_type scopes c.args.self.now.rows.items c.add.new.self.rows.items _ e.1 n e.0) c.add.ensures.added

pub returns-clause-node : goal.returns-clause-node
returns-clause-node c =
    IfOk-weaker c.add.result _ _
    (λ n e. pushed_node c.args.self.now.rows.items c.add.new.self.rows.items _ n e.1 e.0) c.add.ensures.added

pub returns-clause-there : goal.returns-clause-there
returns-clause-there c =
    IfOk-weaker c.add.result _ _
    (λ n e. pushed_there c.args.self.now.rows.items c.add.new.self.rows.items _ n e.1 e.0) c.add.ensures.added
