use Rattle.std.proofs.Common.{◌+◌, sym, subst, arith}
use Rattle.lq_base_names.specs.declared.name.Binder.{Binder}
use Rattle.lq_text_tree.specs.TreeView.{case_view, arms_items}
use Rattle.lq_types_rules.specs.Equations.Adding.{count_of}
use Rattle.lq_types_rules.proofs.EquationsLemmas.Composing.{adds_nothing, longer_none, longer_after}
use Rattle.lq_types_rules.proofs.EquationsLemmas.Seen.{past}
use Rattle.lq_types_rules.proofs.EquationsLemmas.ArmGoals.{IsArmStep, arm_in, case_wider, arm_step, arms_done}
use Rattle.lq_types_rules.proofs.equations.system.System.add_match.Goals as goal
use Rattle.lq_types_rules.proofs.equations.system.System.add_match.Goals.{in-Some+in_ok-add_arm, in_default}

pub loop-next-init : goal.loop-next-init
loop-next-init c = record { longer = longer_none c.args.self.now c.requires.system; adds = λ g h. adds_nothing c.args.self.now c.requires.system }

pub add_arm-requires-clause-arm : goal.add_arm-requires-clause-arm
add_arm-requires-clause-arm c =
    case_wider c.args.nodes (count_of c.args.self.now) (count_of c.loop-next.self) (case_view Binder (λ b. b.0) c.in-Some.arm.now) c.loop-next.invariant.longer.longer
    (arm_in c.args.nodes (count_of c.args.self.now) c.args.arms.now c.loop-next.next c.in-Some.arm.now (sym c.in-Some.ensures) c.requires.arms)

pub loop-next-preserved : goal.loop-next-preserved
loop-next-preserved c =
    let i = c.loop-next.invariant in
    let old = c.args.self.now in
    elim c.match-get.branch [
      | in-Some+in_ok-add_arm w ↦
          subst (λ s. IsArmStep old s c.args.constructors.now c.args.nodes c.args.arms.now c.args.matched c.args.at (c.loop-next.next + 1)) (sym w.self-is) (record {
            longer = longer_after old c.loop-next.self w.add_arm.new.self i.longer w.in_ok-add_arm.ensures.grows;
            adds = λ g h. arm_step g c.args.nodes old c.loop-next.self w.add_arm.new.self c.args.arms.now c.args.matched c.args.at c.loop-next.next w.in-Some.arm.now (sym w.in-Some.ensures) c.requires.at c.requires.matched
                (arm_in c.args.nodes (count_of old) c.args.arms.now c.loop-next.next w.in-Some.arm.now (sym w.in-Some.ensures) c.requires.arms) (i.adds g h) (w.in_ok-add_arm.ensures.adds g h);
          })
      | in_default w ↦
          absurd {A = IsArmStep old c.match-get.self c.args.constructors.now c.args.nodes c.args.arms.now c.args.matched c.args.at (c.loop-next.next + 1)}
          (let far = past (arms_items Binder c.args.arms.now) c.loop-next.next (sym w.in_default.ensures) in let a = c.loop-next-test.true in let b = c.len-next-end.ensures in omega arith)
    ]

pub returns-clause-adds : goal.returns-clause-adds
returns-clause-adds c = λ g h.
    arms_done g c.args.nodes c.args.self.now c.loop-next.self c.args.arms.now c.args.matched c.args.at c.loop-next.next
    (let a = c.loop-next-test.false in let b = c.len-next-end.ensures in omega arith) (c.loop-next.invariant.adds g h)
