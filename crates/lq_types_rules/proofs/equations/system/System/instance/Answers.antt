use Rattle.std.proofs.Common.{◌+◌, ◌<◌, map, length, All, sym, ap, subst, ◌∙◌, arith}
use Rattle.lq_types_rules.specs.Equations.Adding.{count_of}
use Rattle.lq_types_rules.proofs.EquationsLemmas.Opening.{upto_inside}
use Rattle.lq_types_rules.proofs.EquationsLemmas.Copying.{copied_system, raised_inside, instance_offers}
use Rattle.lq_types_rules.proofs.equations.system.System.instance.Goals as goal

pub is-requires-clause-system : goal.is-requires-clause-system
is-requires-clause-system c = copied_system c.args.self.now c.copied.new.self c.args.template.now.types c.in_ok-base.base c.requires.system c.requires.whole.store c.in_ok-base.ensures

pub is-requires-clause-parts : goal.is-requires-clause-parts
is-requires-clause-parts c =
    subst (All (λ p. p < count_of c.copied.new.self)) (sym (c.deref.ensures.value ∙ c.in_ok-parameters.ensures))
    (upto_inside c.args.template.now.parameters c.in_ok-base.base (count_of c.copied.new.self) (let x = c.in_ok-base.ensures.long in let y = c.requires.whole.room in omega arith))

pub returns-clause-inside : goal.returns-clause-inside
returns-clause-inside c =
    let b = c.in_ok-base.ensures in
    let n = length c.args.template.now.types.nodes.items in
    subst (All (λ r. r < count_of c.is.new.self)) (sym (c.in_ok-roots.ensures ∙ ap (map (λ p. c.in_ok-base.base + p)) c.deref-2.ensures.value))
    (raised_inside n (count_of c.is.new.self) c.in_ok-base.base c.args.template.now.fields.items (let x = b.long in let y = c.in_ok-is.ensures.grows.longer in omega arith) c.requires.whole.fields_in)

pub returns-clause-offers : goal.returns-clause-offers
returns-clause-offers c = λ k h.
    instance_offers c.args.self.now c.copied.new.self c.is.new.self c.args.template.now k c.in_ok-base.base c.args.slot c.deref.result.now c.in_ok-roots.roots.items c.requires.system c.requires.whole h c.in_ok-base.ensures c.requires.slot
    (c.deref.ensures.value ∙ c.in_ok-parameters.ensures) (c.in_ok-roots.ensures ∙ ap (map (λ p. c.in_ok-base.base + p)) c.deref-2.ensures.value) c.in_ok-is.ensures
