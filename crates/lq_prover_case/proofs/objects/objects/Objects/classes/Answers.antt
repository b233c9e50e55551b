use Rattle.std.proofs.Common.{◌∙◌, subst}
use Rattle.lq_prover_case.specs.Objects.Objects.{Objects, IsObjects}
use Rattle.lq_prover_case.proofs.ObjectsLemmas.Chains.{classes_hold, names_in, objects_tell}
use Rattle.lq_prover_case.proofs.objects.objects.Objects.classes.Goals as goal

pub returns-clause-each : goal.returns-clause-each
returns-clause-each c =
    let h : IsObjects c.args.self.now.count c.args.self.now.facts c.self.inside.classes =
    subst (λ (s : Objects). IsObjects s.count s.facts c.self.inside.classes) c.self.view_is c.self.invariant in
    c.labels.ensures.each ∙ names_in c.args.self.now.count c.args.self.now.facts c.self.inside.classes h

pub returns-clause-one : goal.returns-clause-one
returns-clause-one c =
    let h : IsObjects c.args.self.now.count c.args.self.now.facts c.self.inside.classes =
    subst (λ (s : Objects). IsObjects s.count s.facts c.self.inside.classes) c.self.view_is c.self.invariant in
    objects_tell c.args.self.now.count c.args.self.now.facts c.self.inside.classes c.labels.result.now h c.labels.ensures.same

pub returns-clause-holds : goal.returns-clause-holds
returns-clause-holds c =
    let h : IsObjects c.args.self.now.count c.args.self.now.facts c.self.inside.classes =
    subst (λ (s : Objects). IsObjects s.count s.facts c.self.inside.classes) c.self.view_is c.self.invariant in
    classes_hold c.args.self.now.count c.args.self.now.facts c.labels.result.now h.within
    (objects_tell c.args.self.now.count c.args.self.now.facts c.self.inside.classes c.labels.result.now h c.labels.ensures.same)
