use Rattle.std.proofs.Common.{append-nil, sym, ℕ, ◌≡◌, ◌∙◌, ◌+◌, ◌∷◌, ◌++◌, [], ap, refl, subst, arith, length}
use Rattle.std.proofs.lemmas.Result.{err_from_is_err_and}
use Rattle.lq_prover_proof_tree.specs.Trees.Path.{row_fact}
use Rattle.lq_prover_proof_tree.specs.Trees.Proves.{rows_among}
use Rattle.lq_prover_differences.specs.Stops.{StopsBy}
use Rattle.lq_prover_differences.specs.Table.{constants}
use Rattle.lq_logic_predicates.specs.Sum.{Sum}
use Rattle.lq_prover_case.specs.State.PathState.{PathState, facts_in, objects_in}
use Rattle.lq_prover_case.specs.declared.state.state.Kind.TheVariants.{Row}
use Rattle.lq_prover_case.specs.declared.state.state.Step.{Step}
use Rattle.lq_prover_case.proofs.StateLemmas.Facts.{fresh_number}
use Rattle.lq_prover_case.proofs.StateLemmas.Objects.{objects_more}
use Rattle.lq_prover_case.proofs.StateLemmas.Pathing.{any_name, rows_after, some_name, some_rows, state_row}
use Rattle.lq_prover_case.proofs.state.state.PathState.take_row.Goals as goal

pub take_row-requires-clause-fresh : goal.take_row-requires-clause-fresh
take_row-requires-clause-fresh c =
    fresh_number 1 (c.len-2.result + 1) c.self.inside.steps.items c.self.inside.rows.rows (c.self.invariant.paths any_name).numbered
    (let v = c.self.inside.steps.ok in let e = c.len-2.ensures in let f = c.reserve.ensures.len in omega arith)

pub returns-in_err-clash-clause-stop : goal.returns-in_err-clash-clause-stop
returns-in_err-clash-clause-stop c =
    let p = err_from_is_err_and c.from_residual.result c.from_residual.ensures.1 in
    let n : c.len-2.result + 1 ≡ 1 + length c.self.inside.steps.items = (let v = c.self.inside.steps.ok in let e = c.len-2.ensures in let f = c.reserve.ensures.len in omega arith) in
    rw (p.1, p.2) (λ (name : ℕ → Sum). subst (λ l. StopsBy (constants l) c.in_err-clash.field-0.0)
    (rows_after name c.self.inside.steps.items c.self.inside.rows.rows (c.len-2.result + 1) c.args.row.now (c.self.invariant.paths name).numbered n
    ∙ ap (λ (s : PathState). rows_among (facts_in name s ++ row_fact c.args.row.now ∷ [])) c.self.view_is)
    c.in_err-clash.ensures.stop)

pub invariant_of-self-2 : goal.invariant_of-self-2
invariant_of-self-2 c =
    let s : Step = record { kind = Row; rows = c.mark.result.0; flags = c.len.result; objects = c.mark-2.result.0; clash = c.self.inside.clash } in
    let n : c.len-2.result + 1 ≡ 1 + length c.self.inside.steps.items = (let v = c.self.inside.steps.ok in let e = c.len-2.ensures in let f = c.reserve.ensures.len in omega arith) in record {
      paths = λ name. (state_row name c.self.inside.steps.items c.push_reserved.new.self.items c.self.inside.rows.rows c.take_row.new.self.rows c.self.inside.flags.entries c.self.inside.clash s (c.len-2.result + 1) c.args.row.now
          (c.self.invariant.paths name) (record { rows_are = c.mark.ensures; flags_are = c.len.ensures.len; clash_is = refl }) refl n (c.push_reserved.ensures.items ∙ ap (λ l. l ++ s ∷ []) c.reserve.ensures.items)
          c.in_ok-clash.ensures.stands).0;
      objects_are = objects_more c.self.inside.steps.items c.push_reserved.new.self.items c.self.inside.objects.facts c.self.inside.objects.facts s c.self.invariant.objects_are c.mark-2.ensures
          (c.push_reserved.ensures.items ∙ ap (λ l. l ++ s ∷ []) c.reserve.ensures.items) (sym (append-nil c.self.inside.objects.facts));
    }

pub returns-clause-stands : goal.returns-clause-stands
returns-clause-stands c = λ name.
    let s : Step = record { kind = Row; rows = c.mark.result.0; flags = c.len.result; objects = c.mark-2.result.0; clash = c.self.inside.clash } in
    let n : c.len-2.result + 1 ≡ 1 + length c.self.inside.steps.items = (let v = c.self.inside.steps.ok in let e = c.len-2.ensures in let f = c.reserve.ensures.len in omega arith) in
    (state_row name c.self.inside.steps.items c.push_reserved.new.self.items c.self.inside.rows.rows c.take_row.new.self.rows c.self.inside.flags.entries c.self.inside.clash s (c.len-2.result + 1) c.args.row.now
    (c.self.invariant.paths name) (record { rows_are = c.mark.ensures; flags_are = c.len.ensures.len; clash_is = refl }) refl n (c.push_reserved.ensures.items ∙ ap (λ l. l ++ s ∷ []) c.reserve.ensures.items)
    c.in_ok-clash.ensures.stands).1 ∙ ap (λ (s : PathState). facts_in name s ++ row_fact c.args.row.now ∷ []) c.self.view_is

pub returns-clause-clash : goal.returns-clause-clash
returns-clause-clash c =
    some_name c.by_rows.result c.push_reserved.new.self.items c.take_row.new.self.rows
    (λ name. some_rows name c.push_reserved.new.self.items c.take_row.new.self.rows c.in_ok-clash.clash c.by_rows.result ((invariant_of-self-2 c).paths name).numbered c.by_rows.ensures c.in_ok-clash.ensures.clash)

pub returns-clause-objects : goal.returns-clause-objects
returns-clause-objects c = sym (invariant_of-self-2 c).objects_are.standing ∙ c.self.invariant.objects_are.standing ∙ ap objects_in c.self.view_is
