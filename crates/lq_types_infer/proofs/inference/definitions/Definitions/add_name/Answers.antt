use Rattle.std.proofs.Common.{sym, subst, OnOk}
use Rattle.lq_types_infer.specs.Inference.Defining.{HasKnown}
use Rattle.lq_types_rules.specs.Typings.Uses.{Known, with_name}
use Rattle.lq_types_infer.proofs.inference.definitions.Definitions.add_name.Goals as goal

pub returns-then-value : goal.returns-then-value
returns-then-value c = subst (λ v. OnOk c.add_general.result ((k : Known) → HasKnown c.args.self.now k → HasKnown c.add_general.new.self (with_name k c.args.binder v))) (sym c.if-value.true) c.add_general.ensures

pub returns-else-value : goal.returns-else-value
returns-else-value c = subst (λ v. OnOk c.add_plain.result ((k : Known) → HasKnown c.args.self.now k → HasKnown c.add_plain.new.self (with_name k c.args.binder v))) (sym c.if-value.false) c.add_plain.ensures
