use Rattle.std.proofs.Common.{arith, subst}
use Rattle.lq_prover_case.specs.Objects.Objects.{Objects, IsObjects}
use Rattle.lq_prover_case.proofs.ObjectsLemmas.Chains.{chain_in, name_in, named_in, names_in, not_both, one_in}
use Rattle.lq_prover_case.proofs.objects.objects.Objects.joined.Goals as goal

pub same-requires-clause-a_in : goal.same-requires-clause-a_in
same-requires-clause-a_in c =
    let h : IsObjects c.args.self.now.count c.args.self.now.facts c.self.inside.classes =
    subst (λ (s : Objects). IsObjects s.count s.facts c.self.inside.classes) c.self.view_is c.self.invariant in
    let e = names_in c.args.self.now.count c.args.self.now.facts c.self.inside.classes h in omega (arith, c.requires.left_in)

pub same-requires-clause-b_in : goal.same-requires-clause-b_in
same-requires-clause-b_in c =
    let h : IsObjects c.args.self.now.count c.args.self.now.facts c.self.inside.classes =
    subst (λ (s : Objects). IsObjects s.count s.facts c.self.inside.classes) c.self.view_is c.self.invariant in
    let e = names_in c.args.self.now.count c.args.self.now.facts c.self.inside.classes h in omega (arith, c.requires.right_in)

pub chain-requires-clause-merges : goal.chain-requires-clause-merges
chain-requires-clause-merges c = named_in c.self.inside.count c.self.inside.facts.items c.self.inside.classes c.self.invariant

pub chain-requires-clause-left_name : goal.chain-requires-clause-left_name
chain-requires-clause-left_name c =
    let h : IsObjects c.args.self.now.count c.args.self.now.facts c.self.inside.classes =
    subst (λ (s : Objects). IsObjects s.count s.facts c.self.inside.classes) c.self.view_is c.self.invariant in
    name_in c.args.self.now.count c.args.self.now.facts c.self.inside.classes c.args.left h c.requires.left_in

pub chain-requires-clause-right_name : goal.chain-requires-clause-right_name
chain-requires-clause-right_name c =
    let h : IsObjects c.args.self.now.count c.args.self.now.facts c.self.inside.classes =
    subst (λ (s : Objects). IsObjects s.count s.facts c.self.inside.classes) c.self.view_is c.self.invariant in
    name_in c.args.self.now.count c.args.self.now.facts c.self.inside.classes c.args.right h c.requires.right_in

pub returns-in_ok-chain-clause-some : goal.returns-in_ok-chain-clause-some
returns-in_ok-chain-clause-some c =
    let h : IsObjects c.args.self.now.count c.args.self.now.facts c.self.inside.classes =
    subst (λ (s : Objects). IsObjects s.count s.facts c.self.inside.classes) c.self.view_is c.self.invariant in
    chain_in c.args.self.now.count c.args.self.now.facts c.self.inside.classes _ c.args.left c.args.right h c.in_ok-chain.ensures

pub returns-else-same-clause-none : goal.returns-else-same-clause-none
returns-else-same-clause-none c =
    let h : IsObjects c.args.self.now.count c.args.self.now.facts c.self.inside.classes =
    subst (λ (s : Objects). IsObjects s.count s.facts c.self.inside.classes) c.self.view_is c.self.invariant in
    λ o. not_both _ (c.same.ensures.1 (one_in c.args.self.now.count c.args.self.now.facts c.self.inside.classes c.args.left c.args.right h o)) c.if-same.false
