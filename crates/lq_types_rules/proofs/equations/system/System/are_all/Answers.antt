use Rattle.std.proofs.Common.{ℕ, subst}
use Rattle.lq_text_tree.specs.Types.{AreAll}
use Rattle.lq_types_rules.specs.Equations.Solutions.{each}
use Rattle.lq_types_rules.specs.Equations.Adding.{Adds}
use Rattle.lq_types_rules.proofs.EquationsLemmas.Composing.{adds_nothing}
use Rattle.std.proofs.Common.{List, get_or, arith}
use Rattle.std.proofs.lemmas.List.{take_all}
use Rattle.lq_types_rules.proofs.EquationsLemmas.Composing.{longer_none, longer_after, longer_of}
use Rattle.lq_types_rules.proofs.EquationsLemmas.RowRules.{alike_more}
use Rattle.lq_types_rules.proofs.equations.system.System.are_all.Goals as goal

pub loop-at-init : goal.loop-at-init
loop-at-init c = record { longer = longer_none c.args.self.now c.requires.system; adds = adds_nothing c.args.self.now c.requires.system }

pub loop-at-preserved : goal.loop-at-preserved
loop-at-preserved c = record {
  longer = longer_after c.args.self.now c.loop-at.self c.same.new.self c.loop-at.invariant.longer (longer_of c.loop-at.self c.same.new.self _ c.in_ok-same.ensures);
  adds = alike_more c.args.self.now c.loop-at.self c.same.new.self c.args.parts.now (get_or c.args.one.now 0 0) c.loop-at.at c.loop-at-test.true (c.requires.one 0 0 (let z = c.requires.single in omega arith)) c.requires.parts c.loop-at.invariant.adds c.in_ok-same.ensures;
}

pub returns : goal.returns
returns c = subst (λ (ps : List ℕ). Adds c.args.self.now c.loop-at.self (λ t. AreAll (t (get_or c.args.one.now 0 0)) (each t ps)))
    (take_all c.loop-at.at c.args.parts.now (let a = c.loop-at-test.false in omega arith)) c.loop-at.invariant.adds
