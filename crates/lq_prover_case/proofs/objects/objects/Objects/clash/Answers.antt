use Rattle.std.proofs.Common.{ℕ, List, sym, subst, ap, ◌∙◌}
use Rattle.lq_prover_case.specs.Objects.Joined.{AllWithin, Says, differ}
use Rattle.std.proofs.Common.{false}
use Rattle.lq_prover_case.specs.Objects.Objects.{Objects, IsObjects}
use Rattle.lq_prover_case.specs.declared.objects.fact.ObjectFact.{ObjectFact}
use Rattle.lq_prover_case.proofs.ObjectsLemmas.Chains.{chain_in, name_in, named_in, names_in, no_clash, says_within}
use Rattle.lq_prover_case.proofs.objects.objects.Objects.clash.Goals as goal

pub false_difference-requires : goal.false_difference-requires
false_difference-requires c =
    let l = names_in c.self.inside.count c.self.inside.facts.items c.self.inside.classes c.self.invariant in
    subst (λ (n : ℕ). AllWithin n c.deref.result.now) (sym l) (subst (AllWithin c.self.inside.count) (sym c.deref.ensures.value) c.self.invariant.within)

pub chain-requires-clause-merges : goal.chain-requires-clause-merges
chain-requires-clause-merges c = named_in c.self.inside.count c.self.inside.facts.items c.self.inside.classes c.self.invariant

pub chain-requires-clause-left_name : goal.chain-requires-clause-left_name
chain-requires-clause-left_name c =
    let s = subst (λ (l : List ObjectFact). Says l c.in-Some.fact.left c.in-Some.fact.right false c.in-Some.fact.number) c.deref.ensures.value c.in-Some.ensures.some.1 in
    let w = says_within c.self.inside.count c.self.inside.facts.items c.in-Some.fact.left c.in-Some.fact.right false c.in-Some.fact.number c.self.invariant.within s in
    name_in c.self.inside.count c.self.inside.facts.items c.self.inside.classes c.in-Some.fact.left c.self.invariant w.0

pub chain-requires-clause-right_name : goal.chain-requires-clause-right_name
chain-requires-clause-right_name c =
    let s = subst (λ (l : List ObjectFact). Says l c.in-Some.fact.left c.in-Some.fact.right false c.in-Some.fact.number) c.deref.ensures.value c.in-Some.ensures.some.1 in
    let w = says_within c.self.inside.count c.self.inside.facts.items c.in-Some.fact.left c.in-Some.fact.right false c.in-Some.fact.number c.self.invariant.within s in
    name_in c.self.inside.count c.self.inside.facts.items c.self.inside.classes c.in-Some.fact.right c.self.invariant w.1

pub returns-in_ok-tags-in-Some-clause-some : goal.returns-in_ok-tags-in-Some-clause-some
returns-in_ok-tags-in-Some-clause-some c =
    let h : IsObjects c.args.self.now.count c.args.self.now.facts c.self.inside.classes =
    subst (λ (s : Objects). IsObjects s.count s.facts c.self.inside.classes) c.self.view_is c.self.invariant in
    let v = ap (λ (s : Objects). s.facts) c.self.view_is in
    let s = subst (λ (l : List ObjectFact). Says l c.in-Some.fact.left c.in-Some.fact.right false c.in-Some.fact.number) (c.deref.ensures.value ∙ v) c.in-Some.ensures.some.1 in
    differ c.in-Some.fact.number _ c.in-Some.fact.left c.in-Some.fact.right s
    (chain_in c.args.self.now.count c.args.self.now.facts c.self.inside.classes _ c.in-Some.fact.left c.in-Some.fact.right h c.in_ok-tags-in-Some.ensures)

pub returns-in-None-clause-none : goal.returns-in-None-clause-none
returns-in-None-clause-none c =
    let h : IsObjects c.args.self.now.count c.args.self.now.facts c.self.inside.classes =
    subst (λ (s : Objects). IsObjects s.count s.facts c.self.inside.classes) c.self.view_is c.self.invariant in
    let v = ap (λ (s : Objects). s.facts) c.self.view_is in
    no_clash c.args.self.now.count c.args.self.now.facts c.self.inside.classes h
    (λ a b t s. c.in-None.ensures.none a b t (subst (λ (l : List ObjectFact). Says l a b false t) (sym (c.deref.ensures.value ∙ v)) s))
