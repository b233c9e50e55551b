use Rattle.std.proofs.Common.{◌≡◌, ◌∙◌, ◌+◌, ◌∷◌, ◌++◌, [], ap, refl, sym, arith, length}
use Rattle.lq_prover_proof_tree.specs.Trees.Path.{objects_fact}
use Rattle.lq_prover_case.specs.State.PathState.{PathState, facts_in, objects_in}
use Rattle.lq_prover_case.specs.declared.state.state.Kind.TheVariants.{Same}
use Rattle.lq_prover_case.specs.declared.state.state.Step.{Step}
use Rattle.lq_prover_case.proofs.StateLemmas.Objects.{objects_more, clash_by_name, none_clash}
use Rattle.lq_prover_case.proofs.StateLemmas.Pathing.{state_same}
use Rattle.lq_prover_case.proofs.state.state.PathState.take_same.Goals as goal

pub invariant_of-self-2 : goal.invariant_of-self-2
invariant_of-self-2 c =
    let s : Step = record { kind = Same c.args.left c.args.right c.args.one; rows = c.mark.result.0; flags = c.len.result; objects = c.mark-2.result.0; clash = c.self.inside.clash } in
    let n : c.len-2.result + 1 ≡ 1 + length c.self.inside.steps.items = (let v = c.self.inside.steps.ok in let e = c.len-2.ensures in let f = c.reserve.ensures.len in omega arith) in record {
      paths = λ name. (state_same name c.self.inside.steps.items c.push_reserved.new.self.items c.self.inside.rows.rows c.self.inside.flags.entries c.self.inside.clash s c.args.left c.args.right c.args.one
          (c.self.invariant.paths name) (record { rows_are = c.mark.ensures; flags_are = c.len.ensures.len; clash_is = refl }) refl (c.push_reserved.ensures.items ∙ ap (λ l. l ++ s ∷ []) c.reserve.ensures.items)).0;
      objects_are = objects_more c.self.inside.steps.items c.push_reserved.new.self.items c.self.inside.objects.facts c.tell.new.objects.facts s c.self.invariant.objects_are c.mark-2.ensures
          (c.push_reserved.ensures.items ∙ ap (λ l. l ++ s ∷ []) c.reserve.ensures.items)
          (c.in_ok-clash.ensures.stands ∙ ap (λ i. c.self.inside.objects.facts ++ record { left = c.args.left; right = c.args.right; one = c.args.one; number = i } ∷ []) n);
    }

pub returns-clause-stands : goal.returns-clause-stands
returns-clause-stands c = λ name.
    let s : Step = record { kind = Same c.args.left c.args.right c.args.one; rows = c.mark.result.0; flags = c.len.result; objects = c.mark-2.result.0; clash = c.self.inside.clash } in
    (state_same name c.self.inside.steps.items c.push_reserved.new.self.items c.self.inside.rows.rows c.self.inside.flags.entries c.self.inside.clash s c.args.left c.args.right c.args.one
    (c.self.invariant.paths name) (record { rows_are = c.mark.ensures; flags_are = c.len.ensures.len; clash_is = refl }) refl (c.push_reserved.ensures.items ∙ ap (λ l. l ++ s ∷ []) c.reserve.ensures.items)).1 ∙ ap (λ (s : PathState). facts_in name s ++ objects_fact (name c.args.left) (name c.args.right) c.args.one ∷ []) c.self.view_is

pub returns-clause-clash : goal.returns-clause-clash
returns-clause-clash c = clash_by_name c.in_ok-clash.clash c.push_reserved.new.self.items c.self.inside.rows.rows c.tell.new.objects.facts c.objects_say_what_facts_say.ensures.clash
    (invariant_of-self-2 c).objects_are.standing c.in_ok-clash.ensures.clash

pub returns-clause-apart : goal.returns-clause-apart
returns-clause-apart c = none_clash c.in_ok-clash.clash c.tell.new.objects.facts c.push_reserved.new.self.items (invariant_of-self-2 c).objects_are.standing c.in_ok-clash.ensures.none

pub returns-clause-told : goal.returns-clause-told
returns-clause-told c =
    let n : c.len-2.result + 1 ≡ length c.self.inside.steps.items + 1 = (let v = c.self.inside.steps.ok in let e = c.len-2.ensures in let f = c.reserve.ensures.len in omega arith) in
    sym (invariant_of-self-2 c).objects_are.standing ∙ c.in_ok-clash.ensures.stands
    ∙ ap (λ i. c.self.inside.objects.facts ++ record { left = c.args.left; right = c.args.right; one = c.args.one; number = i } ∷ []) n
    ∙ ap (λ l. l ++ record { left = c.args.left; right = c.args.right; one = c.args.one; number = length c.self.inside.steps.items + 1 } ∷ []) c.self.invariant.objects_are.standing
    ∙ ap (λ (s : PathState). objects_in s ++ record { left = c.args.left; right = c.args.right; one = c.args.one; number = length s.steps + 1 } ∷ []) c.self.view_is
