use Rattle.std.proofs.Common.{◌≡◌, ◌+◌, ◌-◌, ◌∙◌, length, take, vec_len, ap, arith}
use Rattle.lq_prover_case.specs.Objects.Objects.{Objects}
use Rattle.lq_prover_case.proofs.ObjectsLemmas.Chains.{length_in, objects_first}
use Rattle.lq_prover_case.proofs.objects.objects.Objects.back_to.Goals as goal

pub overflow_sub-names : goal.overflow_sub-names
overflow_sub-names c =
    let e = length_in c.self.inside.count c.self.inside.facts.items c.self.inside.classes c.self.invariant in
    let v : vec_len c.self.inside.facts ≡ length c.self.inside.facts.items = c.self.inside.facts.ok.0 in
    omega (arith, c.mark.ensures, c.len.ensures)

pub back_to-requires : goal.back_to-requires
back_to-requires c =
    let e = length_in c.self.inside.count c.self.inside.facts.items c.self.inside.classes c.self.invariant in
    let v : vec_len c.self.inside.facts ≡ length c.self.inside.facts.items = c.self.inside.facts.ok.0 in
    let f = ap (λ (s : Objects). length s.facts) c.self.view_is in
    omega (arith, c.mark.ensures, c.len.ensures, c.requires)

pub overflow_add-names : goal.overflow_add-names
overflow_add-names c =
    let e = length_in c.self.inside.count c.self.inside.facts.items c.self.inside.classes c.self.invariant in
    let v : vec_len c.self.inside.facts ≡ length c.self.inside.facts.items = c.self.inside.facts.ok.0 in
    let f = ap (λ (s : Objects). length s.facts) c.self.view_is in
    let b = c.mark.type_inv in
    omega (arith, c.mark.ensures, c.len.ensures, c.requires)

pub invariant_of-self : goal.invariant_of-self
invariant_of-self c =
    let e = length_in c.self.inside.count c.self.inside.facts.items c.self.inside.classes c.self.invariant in
    let v : vec_len c.self.inside.facts ≡ length c.self.inside.facts.items = c.self.inside.facts.ok.0 in
    let n : c.mark.result.0 - c.len.result + c.args.mark.0 ≡ c.self.inside.count + c.args.mark.0 = omega (arith, c.mark.ensures, c.len.ensures) in
    objects_first c.self.inside.count c.args.mark.0 c.self.inside.facts.items c.truncate.new.self.items c.self.inside.classes c.back_to.new.self c.self.invariant
    c.truncate.ensures.items (c.back_to.ensures ∙ ap (λ k. take k c.self.inside.classes) n)
