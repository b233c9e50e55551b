use Rattle.std.proofs.Common.{◌∙◌, ◌∷◌, ◌++◌, [], ap, ap₂, refl, sym, subst, arith, length, MatchBool}
use Rattle.std.specs.Option.{IsNone}
use Rattle.std.proofs.lemmas.Result.{err_from_is_err_and}
use Rattle.lq_logic_rows.specs.Contradiction.{tagged}
use Rattle.lq_logic_rows.specs.Difference.{IsDifference}
use Rattle.lq_prover_proof_tree.specs.Trees.TreeView.{multiplier_items, multiplier_views}
use Rattle.lq_prover_differences.specs.Table.{constants, table_rows}
use Rattle.lq_prover_case.specs.State.Stored.{tagged_rows}
use Rattle.lq_prover_case.proofs.StateLemmas.Evidence.{stops_more}
use Rattle.lq_prover_case.proofs.StateLemmas.Kept.{both_lengths, constants_among, fresh_difference, constants_push}
use Rattle.lq_prover_case.proofs.StateLemmas.Keeping.{kept_odd, kept_even, kept_clash, new_row, some_weaker, stands_now}
use Rattle.lq_prover_case.proofs.state.stored.add.Goals as goal

pub returns-then-stored-clause-kept : goal.returns-then-stored-clause-kept
returns-then-stored-clause-kept c =
    kept_odd c.args.rows.now.items c.push_reserved.new.self.items c.args.odd.now.items c.push.new.self.items c.args.distances.now c.in-Ok.stored c.requires.kept
    (new_row c.args.rows.now.items c.args.odd.now.items c.args.distances.now.terms c.in-Ok.stored c.args.row.now c.args.tag c.requires.below c.requires.fresh c.in-Ok.ensures.row.0 c.in-Ok.ensures.row.1
    c.in-Ok.ensures.kind (c.in-Ok.ensures.row.2 ∙ c.len.ensures ∙ c.args.odd.now.ok.0))
    c.if-stored.true (c.push_reserved.ensures.items ∙ ap (λ l. l ++ c.in-Ok.stored ∷ []) c.reserve.ensures.items)
    (c.in-Ok-push.ensures.items ∙ ap (λ n. c.args.odd.now.items ++ n ∷ []) (c.len-then-stored.ensures ∙ c.reserve.ensures.len ∙ c.args.rows.now.ok.0))

pub returns-then-stored-clause-stands : goal.returns-then-stored-clause-stands
returns-then-stored-clause-stands c =
    stands_now c.args.rows.now.items c.push_reserved.new.self.items c.in-Ok.stored c.args.row.now c.args.tag c.in-Ok.ensures.row.0 c.in-Ok.ensures.row.1
    (c.push_reserved.ensures.items ∙ ap (λ l. l ++ c.in-Ok.stored ∷ []) c.reserve.ensures.items)

pub admit-requires-clause-difference : goal.admit-requires-clause-difference
admit-requires-clause-difference c =
    subst (λ b. MatchBool b (IsDifference c.args.row.now.parts → ⊥) (IsDifference c.args.row.now.parts)) c.if-stored.false c.in-Ok.ensures.kind

pub admit-requires-clause-few : goal.admit-requires-clause-few
admit-requires-clause-few c = let e = ap length c.requires.kept.standing in let b = both_lengths 0 c.args.rows.now.items in let v = c.args.rows.now.ok in omega arith

pub admit-requires-clause-fresh : goal.admit-requires-clause-fresh
admit-requires-clause-fresh c =
    subst (λ l. IsNone (tagged l c.args.tag)) (sym c.requires.kept.standing) (fresh_difference c.args.rows.now.items c.args.tag c.requires.fresh)

pub returns-in_err-clash-clause-stop : goal.returns-in_err-clash-clause-stop
returns-in_err-clash-clause-stop c =
    let p = err_from_is_err_and c.from_residual.result c.from_residual.ensures.1 in
    rw (p.1, p.2) (stops_more _ _ c.in_err-clash.field-0.0 (let e = constants_push (table_rows c.args.distances.now) (c.args.tag, c.args.row.now) in
    let f = constants_push (tagged_rows c.args.rows.now.items) (c.args.tag, c.args.row.now) in let k = ap constants c.requires.kept.standing in
    let m = constants_among c.args.rows.now.items in omega arith) c.in_err-clash.ensures.stop)

pub returns-clause-kept : goal.returns-clause-kept
returns-clause-kept c =
    kept_even c.args.rows.now.items c.push_reserved-2.new.self.items c.args.odd.now.items c.args.distances.now c.admit.new.distances c.in-Ok.stored c.requires.kept
    (new_row c.args.rows.now.items c.args.odd.now.items c.args.distances.now.terms c.in-Ok.stored c.args.row.now c.args.tag c.requires.below c.requires.fresh c.in-Ok.ensures.row.0 c.in-Ok.ensures.row.1
    c.in-Ok.ensures.kind (c.in-Ok.ensures.row.2 ∙ c.len.ensures ∙ c.args.odd.now.ok.0))
    c.if-stored.false (c.push_reserved-2.ensures.items ∙ ap (λ l. l ++ c.in-Ok.stored ∷ []) c.reserve.ensures.items) c.admit.ensures.terms
    (c.in_ok-clash.ensures.stands ∙ ap₂ (λ t r. table_rows c.args.distances.now ++ (t, r) ∷ []) (sym c.in-Ok.ensures.row.1) (sym c.in-Ok.ensures.row.0)) c.admit.ensures.going

pub returns-clause-stands : goal.returns-clause-stands
returns-clause-stands c =
    stands_now c.args.rows.now.items c.push_reserved-2.new.self.items c.in-Ok.stored c.args.row.now c.args.tag c.in-Ok.ensures.row.0 c.in-Ok.ensures.row.1
    (c.push_reserved-2.ensures.items ∙ ap (λ l. l ++ c.in-Ok.stored ∷ []) c.reserve.ensures.items)

pub returns-clause-clash : goal.returns-clause-clash
returns-clause-clash c =
    some_weaker c.in_ok-clash.clash (λ ms h. kept_clash c.push_reserved-2.new.self.items c.args.odd.now.items c.admit.new.distances (table_rows c.admit.new.distances)
    (multiplier_views (multiplier_items ms)) (returns-clause-kept c) refl h) c.in_ok-clash.ensures.clash
