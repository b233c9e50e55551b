use Rattle.std.proofs.Common.{◌≡◌, ◌∙◌, List, refl, rules, sym, subst}
use Rattle.std.proofs.lemmas.Result.{err_from_is_err_and}
use Rattle.lq_logic_rows.specs.Row.{Row}
use Rattle.lq_prover_proof_tree.specs.Trees.TreeView.{multiplier_items, multiplier_views}
use Rattle.lq_prover_differences.specs.Table.{table_point, table_rows}
use Rattle.lq_prover_case.specs.State.RowState.{RowState, MayStop, terms_of}
use Rattle.lq_prover_case.specs.State.Stored.{HandsMore, MayBeFilled, SolvesBy, Stands, StopsInTableau, WasHanded, tagged_rows}
use Rattle.lq_prover_case.proofs.StateLemmas.Handing.{hands_kept}
use Rattle.lq_prover_case.proofs.StateLemmas.Keeping.{kept_again, kept_clash, held, kept_solves, stops_distances, stops_tableau}
use Rattle.lq_prover_case.proofs.StateLemmas.Nearing.{none_of, not_all}
use Rattle.lq_prover_case.proofs.state.rows.LinearRows.check.Goals as goal

pub returns-in_err-clash-clause-stop : goal.returns-in_err-clash-clause-stop
returns-in_err-clash-clause-stop c =
    let p = err_from_is_err_and c.from_residual.result c.from_residual.ensures.1 in
    rw (p.1, p.2) (subst (λ (s : RowState). (ever : List Row) → WasHanded s.tableau ever → MayStop (terms_of s) s.pivots ever (Stands s.rows) s.rows c.in_err-clash.field-0.0) c.self.view_is
    (λ ever h. stops_distances c.self.inside.distances.terms c.self.inside.pivots ever c.self.inside.rows.items c.self.inside.odd.items c.self.inside.distances c.in_err-clash.field-0.0 c.self.invariant.1.kept
    c.in_err-clash.ensures.stop))

pub returns-in-Some-clause-some : goal.returns-in-Some-clause-some
returns-in-Some-clause-some c =
    kept_clash c.self.inside.rows.items c.self.inside.odd.items c.self.inside.distances (table_rows c.decide.new.engine) (multiplier_views (multiplier_items c.in-Some.clash)) c.self.invariant.1.kept
    c.decide.ensures.stands (rw c.in-Some.is at c.in_ok-clash.ensures.some)

pub invariant_of-self-then-all_hold : goal.invariant_of-self-then-all_hold
invariant_of-self-then-all_hold c =
    let stored = c.self.inside.rows.items in let odd = c.self.inside.odd.items in let d = c.self.inside.distances in let e = c.decide.new.engine in
    let none = rw c.in_default.is at c.in_ok-clash.ensures.none in
    let terms : d.terms ≡ e.terms = let l = c.decide.ensures.limits in cc in (
      sym terms ∙ c.self.invariant.0,
      record {
        kept = kept_again stored odd d e c.self.invariant.1.kept c.decide.ensures.limits c.decide.ensures.stands c.decide.ensures.going;
        filled = subst (λ n. MayBeFilled n c.self.inside.pivots (tagged_rows stored) c.self.inside.tableau) terms c.self.invariant.1.filled;
        found_by = (
          none.0,
          kept_solves (table_point e) stored odd d (table_rows e) c.self.invariant.1.kept c.decide.ensures.stands none.1
              (held (table_point e) c.deref.result.now stored c.deref-2.result.now odd c.deref.ensures.value c.deref-2.ensures.value (c.all_hold.ensures.hold c.if-all_hold.true)),
        );
      },
    )

pub returns-then-all_hold-clause-none : goal.returns-then-all_hold-clause-none
returns-then-all_hold-clause-none c =
    let none = rw c.in_default.is at c.in_ok-clash.ensures.none in (
      refl,
      kept_solves (table_point c.decide.new.engine) c.self.inside.rows.items c.self.inside.odd.items c.self.inside.distances (table_rows c.decide.new.engine) c.self.invariant.1.kept c.decide.ensures.stands none.1
          (held (table_point c.decide.new.engine) c.deref.result.now c.self.inside.rows.items c.deref-2.result.now c.self.inside.odd.items c.deref.ensures.value c.deref-2.ensures.value
          (c.all_hold.ensures.hold c.if-all_hold.true)),
    )

pub returns-in_err-clash-2-clause-stop : goal.returns-in_err-clash-2-clause-stop
returns-in_err-clash-2-clause-stop c =
    let p = err_from_is_err_and c.from_residual-in_err-clash-2.result c.from_residual-in_err-clash-2.ensures.1 in
    let stop = c.in_err-clash-2.field-0.0 in
    rw (p.1, p.2) (subst (λ (s : RowState). (ever : List Row) → WasHanded s.tableau ever → MayStop (terms_of s) s.pivots ever (Stands s.rows) s.rows stop) c.self.view_is
    (λ ever h. stops_tableau c.self.inside.distances.terms c.self.inside.pivots ever c.self.inside.rows.items c.self.inside.odd.items c.self.inside.distances stop c.self.invariant.1.kept
    (λ e. let t = c.all_hold.ensures.none (c.deref-2.ensures.value ∙ e) in let f = c.if-all_hold.false in absurd (cc))
    (subst (λ n. StopsInTableau n c.self.inside.pivots ever (Stands (tagged_rows c.self.inside.rows.items)) stop) (sym c.self.invariant.0)
    (subst (λ l. StopsInTableau c.self.inside.terms c.self.inside.pivots ever (Stands (tagged_rows l)) stop) c.deref-3.ensures.value (c.in_err-clash-2.ensures.stop ever h)))))

pub invariant_of-self-then-is_none : goal.invariant_of-self-then-is_none
invariant_of-self-then-is_none c =
    let stored = c.self.inside.rows.items in let odd = c.self.inside.odd.items in let d = c.self.inside.distances in let e = c.decide.new.engine in
    let terms : d.terms ≡ e.terms = let l = c.decide.ensures.limits in cc in
    let solves : SolvesBy (tagged_rows c.deref-3.result.now) c.decide_by.new.tableau = none_of c.in_ok-clash-2.clash (let n = c.is_none.ensures in let t = c.if-is_none.true in cc) c.in_ok-clash-2.ensures.none in
    let rows = c.deref-3.ensures.value in (
      sym terms ∙ c.self.invariant.0,
      record {
        kept = kept_again stored odd d e c.self.invariant.1.kept c.decide.ensures.limits c.decide.ensures.stands c.decide.ensures.going;
        filled = subst (λ l. MayBeFilled e.terms c.self.inside.pivots (tagged_rows l) c.decide_by.new.tableau) rows
            (subst (λ n. MayBeFilled n c.self.inside.pivots (tagged_rows c.deref-3.result.now) c.decide_by.new.tableau) (sym c.self.invariant.0 ∙ terms) c.decide_by.ensures.filled);
        found_by = (
          subst (λ l. SolvesBy (tagged_rows l) c.decide_by.new.tableau) rows solves,
          not_all stored odd d c.self.invariant.1.kept (λ x. let t = c.all_hold.ensures.none (c.deref-2.ensures.value ∙ x) in let f = c.if-all_hold.false in absurd (cc)),
        );
      },
    )

-- ---- what the tableau is handed

pub returns-in_err-clash-clause-handed : goal.returns-in_err-clash-clause-handed
returns-in_err-clash-clause-handed c =
    subst (λ (s : RowState). HandsMore (Stands s.rows) s.tableau c.self.inside.tableau) c.self.view_is
    (hands_kept (Stands (tagged_rows c.self.inside.rows.items)) c.self.inside.tableau c.self.inside.tableau (λ ever h. h))

pub returns-in-Some-clause-handed : goal.returns-in-Some-clause-handed
returns-in-Some-clause-handed c =
    subst (λ (s : RowState). HandsMore (Stands s.rows) s.tableau c.self.inside.tableau) c.self.view_is
    (hands_kept (Stands (tagged_rows c.self.inside.rows.items)) c.self.inside.tableau c.self.inside.tableau (λ ever h. h))

pub returns-then-all_hold-clause-handed : goal.returns-then-all_hold-clause-handed
returns-then-all_hold-clause-handed c =
    subst (λ (s : RowState). HandsMore (Stands s.rows) s.tableau c.self.inside.tableau) c.self.view_is
    (hands_kept (Stands (tagged_rows c.self.inside.rows.items)) c.self.inside.tableau c.self.inside.tableau (λ ever h. h))

pub returns-in_err-clash-2-clause-handed : goal.returns-in_err-clash-2-clause-handed
returns-in_err-clash-2-clause-handed c =
    subst (λ (s : RowState). HandsMore (Stands s.rows) s.tableau c.decide_by.new.tableau) c.self.view_is
    (subst (λ l. HandsMore (Stands (tagged_rows l)) c.self.inside.tableau c.decide_by.new.tableau) c.deref-3.ensures.value c.decide_by.ensures.handed)

pub returns-clause-handed : goal.returns-clause-handed
returns-clause-handed c =
    let same : c.decide_by.new.tableau ≡ c.if-is_none.self.tableau = search rules in
    subst (λ t. HandsMore (Stands c.args.self.now.rows) c.args.self.now.tableau t) same
    (subst (λ (s : RowState). HandsMore (Stands s.rows) s.tableau c.decide_by.new.tableau) c.self.view_is
    (subst (λ l. HandsMore (Stands (tagged_rows l)) c.self.inside.tableau c.decide_by.new.tableau) c.deref-3.ensures.value c.decide_by.ensures.handed))
