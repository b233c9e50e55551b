use Rattle.std.proofs.Common.{◌≡◌, refl, sym, ap, ◌∙◌}
use Rattle.lq_text_tree.specs.MlType as ml
use Rattle.lq_text_tree.specs.MlType.{MlType, MlTypes}
use Rattle.lq_types_rules.specs.Equations.Solutions.{each}
use Rattle.lq_types_rules.proofs.EquationsLemmas.Composing.{adds_as, adds_nothing}
use Rattle.std.proofs.Common.{take, length, ◌≤◌, arith}
use Rattle.std.proofs.lemmas.List.{take_all}
use Rattle.lq_types_rules.proofs.EquationsLemmas.Composing.{longer_none, longer_after, longer_of}
use Rattle.lq_types_rules.proofs.EquationsLemmas.RowRules.{same_more}
use Rattle.lq_types_rules.proofs.equations.system.System.are_same.Goals as goal

pub loop-at-init : goal.loop-at-init
loop-at-init c = record {
  longer = longer_none c.args.self.now c.requires.system;
  adds = adds_as c.args.self.now c.args.self.now (λ t. Unit {0}) (λ t. ml.no_types ≡ ml.no_types) (adds_nothing c.args.self.now c.requires.system) (λ t e. refl) (λ t e. tt);
}

pub loop-at-preserved : goal.loop-at-preserved
loop-at-preserved c = record {
  longer = longer_after c.args.self.now c.loop-at.self c.same.new.self c.loop-at.invariant.longer (longer_of c.loop-at.self c.same.new.self _ c.in_ok-same.ensures);
  adds = same_more c.args.self.now c.loop-at.self c.same.new.self c.args.lefts.now c.args.rights.now c.loop-at.at c.loop-at-test.true c.requires.count c.requires.lefts c.requires.rights c.loop-at.invariant.adds c.in_ok-same.ensures;
}

pub returns : goal.returns
returns c =
    let a : length c.args.lefts.now ≤ c.loop-at.at = c.loop-at-test.false in
    adds_as c.args.self.now c.loop-at.self (λ t. each t (take c.loop-at.at c.args.lefts.now) ≡ each t (take c.loop-at.at c.args.rights.now)) (λ t. each t c.args.lefts.now ≡ each t c.args.rights.now) c.loop-at.invariant.adds
    (λ t e. sym (ap (each t) (take_all c.loop-at.at c.args.lefts.now a)) ∙ e ∙ ap (each t) (take_all c.loop-at.at c.args.rights.now (let q = c.requires.count in omega arith)))
    (λ t e. ap (each t) (take_all c.loop-at.at c.args.lefts.now a) ∙ e ∙ sym (ap (each t) (take_all c.loop-at.at c.args.rights.now (let q = c.requires.count in omega arith))))
