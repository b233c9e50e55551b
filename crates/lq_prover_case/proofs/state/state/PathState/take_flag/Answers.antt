use Rattle.std.proofs.Common.{append-nil, ◌≡◌, ◌∙◌, ◌+◌, ◌∷◌, ◌++◌, [], suc, ap, refl, sym, subst, arith, length}
use Rattle.std.specs.Option.{IfSome}
use Rattle.lq_prover_proof_tree.specs.Trees.Path.{flag_fact}
use Rattle.lq_prover_proof_tree.specs.Trees.Proves.{Clashes}
use Rattle.lq_prover_proof_tree.specs.Trees.TreeView.{clash_of}
use Rattle.lq_prover_case.specs.State.PathState.{PathState, IsPathState, facts_in, facts_of, objects_in}
use Rattle.lq_prover_case.specs.declared.state.state.Kind.TheVariants.{Flag}
use Rattle.lq_prover_case.specs.declared.state.state.Step.{Step}
use Rattle.lq_prover_case.proofs.StateLemmas.Facts.{facts-length}
use Rattle.lq_prover_case.proofs.StateLemmas.Objects.{objects_more}
use Rattle.lq_prover_case.proofs.StateLemmas.Pathing.{some_flags, some_name, state_flag}
use Rattle.lq_prover_case.proofs.state.state.PathState.take_flag.Goals as goal

pub invariant_of-self-2 : goal.invariant_of-self-2
invariant_of-self-2 c =
    let s : Step = record { kind = Flag c.args.flag c.args.value; rows = c.mark.result.0; flags = c.len.result; objects = c.mark-2.result.0; clash = c.self.inside.clash } in
    let n : c.len-2.result + 1 ≡ 1 + length c.self.inside.steps.items = (let v = c.self.inside.steps.ok in let e = c.len-2.ensures in let f = c.reserve.ensures.len in omega arith) in record {
      paths = λ name. subst (IsPathState name c.push_reserved.new.self.items c.self.inside.rows.rows c.give.new.flags.entries) (sym c.known-self-inside.ensures)
          (state_flag name c.self.inside.steps.items c.push_reserved.new.self.items c.self.inside.rows.rows c.self.inside.flags.entries c.give.new.flags.entries c.self.inside.clash s c.args.flag c.args.value (c.len-2.result + 1)
          c.in_ok-other.other (c.self.invariant.paths name) (record { rows_are = c.mark.ensures; flags_are = c.len.ensures.len; clash_is = refl }) refl n
          (c.push_reserved.ensures.items ∙ ap (λ l. l ++ s ∷ []) c.reserve.ensures.items) c.in_ok-other.ensures.ok).0;
      objects_are = objects_more c.self.inside.steps.items c.push_reserved.new.self.items c.self.inside.objects.facts c.self.inside.objects.facts s c.self.invariant.objects_are c.mark-2.ensures
          (c.push_reserved.ensures.items ∙ ap (λ l. l ++ s ∷ []) c.reserve.ensures.items) (sym (append-nil c.self.inside.objects.facts));
    }

pub returns-clause-stands : goal.returns-clause-stands
returns-clause-stands c = λ name.
    let s : Step = record { kind = Flag c.args.flag c.args.value; rows = c.mark.result.0; flags = c.len.result; objects = c.mark-2.result.0; clash = c.self.inside.clash } in
    let n : c.len-2.result + 1 ≡ 1 + length c.self.inside.steps.items = (let v = c.self.inside.steps.ok in let e = c.len-2.ensures in let f = c.reserve.ensures.len in omega arith) in
    (state_flag name c.self.inside.steps.items c.push_reserved.new.self.items c.self.inside.rows.rows c.self.inside.flags.entries c.give.new.flags.entries c.self.inside.clash s c.args.flag c.args.value (c.len-2.result + 1)
    c.in_ok-other.other (c.self.invariant.paths name) (record { rows_are = c.mark.ensures; flags_are = c.len.ensures.len; clash_is = refl }) refl n
    (c.push_reserved.ensures.items ∙ ap (λ l. l ++ s ∷ []) c.reserve.ensures.items) c.in_ok-other.ensures.ok).1 ∙ ap (λ (s : PathState). facts_in name s ++ flag_fact c.args.flag c.args.value ∷ []) c.self.view_is

pub returns-clause-clash : goal.returns-clause-clash
returns-clause-clash c = some_name c.by_flags.result c.push_reserved.new.self.items c.self.inside.rows.rows (λ name.
    let s : Step = record { kind = Flag c.args.flag c.args.value; rows = c.mark.result.0; flags = c.len.result; objects = c.mark-2.result.0; clash = c.self.inside.clash } in
    let n : c.len-2.result + 1 ≡ 1 + length c.self.inside.steps.items = (let v = c.self.inside.steps.ok in let e = c.len-2.ensures in let f = c.reserve.ensures.len in omega arith) in
    let m : c.len-2.result + 1 ≡ suc (length (facts_of name c.self.inside.steps.items c.self.inside.rows.rows)) = (let k = facts-length name c.self.inside.steps.items c.self.inside.rows.rows in omega arith) in
    subst (λ l. IfSome c.by_flags.result (λ p. Clashes l (clash_of p))) (sym (state_flag name c.self.inside.steps.items c.push_reserved.new.self.items c.self.inside.rows.rows c.self.inside.flags.entries
    c.give.new.flags.entries c.self.inside.clash s c.args.flag c.args.value (c.len-2.result + 1)
    c.in_ok-other.other (c.self.invariant.paths name) (record { rows_are = c.mark.ensures; flags_are = c.len.ensures.len; clash_is = refl }) refl n
    (c.push_reserved.ensures.items ∙ ap (λ l. l ++ s ∷ []) c.reserve.ensures.items) c.in_ok-other.ensures.ok).1)
    (some_flags (facts_of name c.self.inside.steps.items c.self.inside.rows.rows) c.self.inside.flags.entries c.give.new.flags.entries c.self.inside.clash c.args.flag c.args.value (c.len-2.result + 1)
    c.in_ok-other.other c.by_flags.result (c.self.invariant.paths name).flags m c.in_ok-other.ensures.ok c.by_flags.ensures))

pub returns-clause-objects : goal.returns-clause-objects
returns-clause-objects c = sym (invariant_of-self-2 c).objects_are.standing ∙ c.self.invariant.objects_are.standing ∙ ap objects_in c.self.view_is
