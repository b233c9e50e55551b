use Rattle.std.proofs.Common.{◌∷◌, ◌++◌, ◌∙◌, [], ap, arith}
use Rattle.lq_prover_case.specs.Objects.Objects.{Objects}
use Rattle.lq_prover_case.specs.declared.objects.fact.ObjectFact.{ObjectFact}
use Rattle.lq_prover_case.proofs.ObjectsLemmas.Chains.{names_in, objects_more}
use Rattle.lq_prover_case.proofs.objects.objects.Objects.take.Goals as goal

pub tell-requires-clause-left_in : goal.tell-requires-clause-left_in
tell-requires-clause-left_in c =
    let e = names_in c.self.inside.count c.self.inside.facts.items c.self.inside.classes c.self.invariant in
    let f = ap (λ (s : Objects). s.count) c.self.view_is in
    omega (arith, c.requires.left_in)

pub tell-requires-clause-right_in : goal.tell-requires-clause-right_in
tell-requires-clause-right_in c =
    let e = names_in c.self.inside.count c.self.inside.facts.items c.self.inside.classes c.self.invariant in
    let f = ap (λ (s : Objects). s.count) c.self.view_is in
    omega (arith, c.requires.right_in)

pub invariant_of-self-2 : goal.invariant_of-self-2
invariant_of-self-2 c =
    let fact : ObjectFact = record { left = c.args.left; right = c.args.right; one = c.args.one; number = c.args.number } in
    let f = ap (λ (s : Objects). s.count) c.self.view_is in
    objects_more c.self.inside.count c.self.inside.facts.items c.push_reserved.new.self.items c.self.inside.classes c.tell.new.classes fact c.self.invariant
    (c.push_reserved.ensures.items ∙ ap (λ l. l ++ fact ∷ []) c.reserve.ensures.items) c.in_ok-tell.ensures.ok (omega (arith, c.requires.left_in)) (omega (arith, c.requires.right_in))
