use Rattle.std.proofs.Common.{◌≡◌, ◌∙◌, ℕ, ◌∷◌, ◌++◌, [], All, ap, sym, subst, arith, take, Some, slice_get, refl}
use Rattle.std.proofs.lemmas.List.{take_all}
use Rattle.std.proofs.lemmas.List.Elements.{All-take}
use Rattle.std.proofs.lemmas.Option.{slice_get-get_or}
use Rattle.std.proofs.lemmas.Result.{err_from_is_err_and}
use Rattle.std.specs.Option.{IsNone}
use Rattle.lq_logic_rows.specs.Contradiction.{tagged}
use Rattle.lq_logic_rows.specs.Difference.{TermsBelow}
use Rattle.lq_logic_rows.specs.Row.{Row}
use Rattle.lq_prover_simplex.specs.Table.{table_rows}
use Rattle.lq_prover_case.specs.declared.state.stored.StoredRow.{StoredRow}
use Rattle.lq_prover_case.specs.State.Stored.{Stands, tagged_rows}
use Rattle.lq_prover_case.proofs.StateLemmas.Evidence.{fresh_at}
use Rattle.lq_prover_case.proofs.StateLemmas.Fronts.{front_within}
use Rattle.lq_prover_case.proofs.StateLemmas.Handing.{all_stand, hands_kept, hands_row, hands_then, stops_row}
use Rattle.lq_prover_case.proofs.StateLemmas.Kept.{below_at, tagged-get, tagged-length}
use Rattle.lq_prover_case.proofs.StateLemmas.Reading.{take_next}
use Rattle.lq_prover_case.proofs.state.filling.hand.Goals as goal

pub loop-at-init : goal.loop-at-init
loop-at-init c = record {
  within = let h = front_within _ _ c.requires.front in let n = tagged-length c.args.rows.now in let e = c.mark-first.ensures in omega arith;
  standing = subst (λ n. table_rows c.args.tableau.now ≡ take n (tagged_rows c.args.rows.now)) (sym c.mark-first.ensures) c.requires.front;
  going = c.requires.going;
  limits = refl;
  handed = hands_kept (Stands (tagged_rows c.args.rows.now)) (Some c.args.tableau.now) (Some c.args.tableau.now) (λ ever h. h);
}

pub assert_row-requires-clause-takes : goal.assert_row-requires-clause-takes
assert_row-requires-clause-takes c =
    let s : StoredRow = c.index-rows-at.result in
    let at : slice_get c.args.rows.now c.loop-at.at ≡ Some s = slice_get-get_or c.args.rows.now c.loop-at.at s c.loop-at-test.true ∙ ap Some (sym c.index-rows-at.is) in
    let e : c.loop-at.tableau.system.terms ≡ c.args.tableau.now.system.terms = let l = c.loop-at.invariant.limits in cc in
    subst (λ n. TermsBelow n s.row.parts) (sym e) (below_at c.args.tableau.now.system.terms c.args.rows.now c.loop-at.at s c.requires.below at)

pub assert_row-requires-clause-fresh : goal.assert_row-requires-clause-fresh
assert_row-requires-clause-fresh c =
    let s : StoredRow = c.index-rows-at.result in
    let at : slice_get c.args.rows.now c.loop-at.at ≡ Some s = slice_get-get_or c.args.rows.now c.loop-at.at s c.loop-at-test.true ∙ ap Some (sym c.index-rows-at.is) in
    subst (λ t. IsNone (tagged t s.tag)) (sym c.loop-at.invariant.standing)
    (fresh_at (tagged_rows c.args.rows.now) c.loop-at.at s.tag s.row c.requires.apart
    (tagged-get c.args.rows.now c.loop-at.at s at))

pub returns-in_err-assert_row-clause-handed : goal.returns-in_err-assert_row-clause-handed
returns-in_err-assert_row-clause-handed c =
    hands_then (Stands (tagged_rows c.args.rows.now)) (Some c.args.tableau.now) (Some c.loop-at.tableau) (Some c.assert_row.new.self) c.loop-at.invariant.handed
    (hands_kept (Stands (tagged_rows c.args.rows.now)) (Some c.loop-at.tableau) (Some c.assert_row.new.self) c.in_err-assert_row.ensures.refused)

pub returns-in_err-assert_row-clause-stop : goal.returns-in_err-assert_row-clause-stop
returns-in_err-assert_row-clause-stop c =
    let p = err_from_is_err_and c.from_residual.result c.from_residual.ensures.1 in
    let s : StoredRow = c.index-rows-at.result in
    let at : slice_get c.args.rows.now c.loop-at.at ≡ Some s = slice_get-get_or c.args.rows.now c.loop-at.at s c.loop-at-test.true ∙ ap Some (sym c.index-rows-at.is) in
    let rows = tagged_rows c.args.rows.now in
    rw (p.1, p.2) (stops_row (Stands rows) c.args.tableau.now c.loop-at.tableau (table_rows c.loop-at.tableau) s.tag s.row c.in_err-assert_row.field-0.0
    (record { at = c.loop-at.at; tag = s.tag; is = tagged-get c.args.rows.now c.loop-at.at s at })
    (subst (All {X = ℕ × Row} (λ q. Stands rows q.1)) (sym c.loop-at.invariant.standing) (All-take {X = ℕ × Row} (λ q. Stands rows q.1) c.loop-at.at rows (all_stand rows)))
    c.loop-at.invariant.handed c.loop-at.invariant.limits c.in_err-assert_row.ensures.stop)

pub loop-at-preserved : goal.loop-at-preserved
loop-at-preserved c =
    let i = c.loop-at.at in
    let s : StoredRow = c.index-rows-at.result in
    let at : slice_get c.args.rows.now i ≡ Some s = slice_get-get_or c.args.rows.now i s c.loop-at-test.true ∙ ap Some (sym c.index-rows-at.is) in
    record {
      within = let h = c.loop-at-test.true in omega arith;
      standing = c.in_ok-assert_row.ensures.stands ∙ ap (λ l. l ++ (s.tag, s.row) ∷ []) c.loop-at.invariant.standing
          ∙ sym (take_next (tagged_rows c.args.rows.now) i (s.tag, s.row) (tagged-get c.args.rows.now i s at));
      going = λ h. absurd (cc (h, c.in_ok-assert_row.ensures.last));
      limits = c.assert_row.ensures.limits ∙ c.loop-at.invariant.limits;
      handed = hands_row (Stands (tagged_rows c.args.rows.now)) (Some c.args.tableau.now) (Some c.loop-at.tableau) (Some c.assert_row.new.self) s.row
          (record { at = i; tag = s.tag; is = tagged-get c.args.rows.now i s at }) c.loop-at.invariant.handed c.in_ok-assert_row.ensures.handed;
    }

pub returns-clause-all : goal.returns-clause-all
returns-clause-all c = c.loop-at.invariant.standing ∙ take_all c.loop-at.at (tagged_rows c.args.rows.now) (let n = tagged-length c.args.rows.now in let h = c.loop-at-test.false in omega arith)
