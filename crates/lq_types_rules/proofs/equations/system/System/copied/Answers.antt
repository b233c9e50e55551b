use Rattle.std.proofs.Common.{◌≡◌, length, subst, arith}
use Rattle.lq_types_rules.specs.Equations.Adding.{count_of}
use Rattle.lq_types_rules.specs.Equations.Templates.{IsCopied}
use Rattle.lq_types_rules.proofs.EquationsLemmas.Copying.{copied_none, copied_more}
use Rattle.lq_types_rules.proofs.equations.system.System.copied.Goals as goal

pub loop-at-init : goal.loop-at-init
loop-at-init c = subst (λ b. IsCopied c.args.self.now c.args.self.now c.args.types.now b 0) (let e : count_of c.args.self.now ≡ c.len-base.result = let x = c.len-base.ensures in omega arith in e) (copied_none c.args.self.now c.args.types.now c.requires.system)

pub loop-at-preserved : goal.loop-at-preserved
loop-at-preserved c =
    copied_more c.args.self.now c.loop-at.self c.copy_node.new.self c.args.types.now c.len-base.result c.loop-at.at c.loop-at.invariant c.in_ok-copy_node.ensures.added c.in_ok-copy_node.ensures.equations

pub returns : goal.returns
returns c =
    let e : c.loop-at.at ≡ length c.args.types.now.nodes.items = let a = c.loop-at-test.false in let b = c.loop-at.auto.at-end in let d = c.len-at-end.ensures in omega arith in
    subst (λ n. IsCopied c.args.self.now c.loop-at.self c.args.types.now c.len-base.result n) e c.loop-at.invariant
