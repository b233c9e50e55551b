use Rattle.std.proofs.Common.{◌≡◌, ℕ, List, ap, sym, subst, true}
use Rattle.std.specs.Option.{IfNone}
use Rattle.std.proofs.lemmas.Result.{err_from_is_err_and}
use Rattle.lq_prover_proof_tree.specs.Trees.Proves.{Clashes, rows_among}
use Rattle.lq_prover_proof_tree.specs.Trees.Tree.{flags}
use Rattle.lq_logic_rows.specs.Contradiction.{Solves}
use Rattle.lq_logic_rows.specs.Row.{Row}
use Rattle.lq_logic_predicates.specs.Sum.{Sum}
use Rattle.lq_prover_case.specs.State.PathState.{PathState, AreNumbered, HasHanded, HasStops, NoObjectsClash, facts_in, facts_of}
use Rattle.lq_prover_case.specs.State.RowState.{MayStop, is_solved, row_point, terms_of}
use Rattle.lq_prover_case.specs.State.Stored.{HandsMore, Stands}
use Rattle.lq_prover_case.proofs.StateLemmas.Facts.{rows_numbered}
use Rattle.lq_prover_case.proofs.StateLemmas.Handing.{hands_kept}
use Rattle.lq_prover_case.proofs.StateLemmas.Objects.{still_apart}
use Rattle.lq_prover_case.proofs.StateLemmas.Pathing.{any_name, clash_known, none_rows, solved_name, some_name, some_rows}
use Rattle.lq_prover_case.proofs.state.state.PathState.check.Goals as goal

pub returns-in-Some-clause-some : goal.returns-in-Some-clause-some
returns-in-Some-clause-some c = λ name.
    subst (λ l. Clashes l (flags c.in-Some.clash.first c.in-Some.clash.second)) (ap (facts_in name) c.self.view_is)
    (clash_known (facts_of name c.self.inside.steps.items c.self.inside.rows.rows) c.in-Some.clash (rw c.in-Some.is at (c.self.invariant.paths name).flags.is_clash))

pub returns-clause-some : goal.returns-clause-some
returns-clause-some c =
    some_name c.by_rows.result c.self.inside.steps.items c.check.new.self.rows
    (λ name. some_rows name c.self.inside.steps.items c.check.new.self.rows c.in_ok-found.found c.by_rows.result
    (subst (AreNumbered 1 c.self.inside.steps.items) (sym c.check.ensures.rows) (c.self.invariant.paths name).numbered) c.by_rows.ensures c.in_ok-found.ensures.some)

pub returns-in_err-found-clause-stop : goal.returns-in_err-found-clause-stop
returns-in_err-found-clause-stop c =
    let p = err_from_is_err_and c.from_residual.result c.from_residual.ensures.1 in
    rw (p.1, p.2) (subst (λ (s : PathState). (name : ℕ → Sum) (ever : List Row) → HasHanded s ever → HasStops (terms_of s.rows) s.rows.pivots ever (Stands (rows_among (facts_in name s))) (facts_in name s) c.in_err-found.field-0.0)
    c.self.view_is (λ name ever h. subst (λ l. MayStop (terms_of c.self.inside.rows) c.self.inside.rows.pivots ever (Stands l) l c.in_err-found.field-0.0)
    (rows_numbered name 1 c.self.inside.steps.items c.self.inside.rows.rows (c.self.invariant.paths name).numbered) (c.in_err-found.ensures.stop ever h)))

pub returns-clause-solves : goal.returns-clause-solves
returns-clause-solves c =
    none_rows ((is_solved c.check.new.self ≡ true) × ((name : ℕ → Sum) → Solves (row_point c.check.new.self) (rows_among (facts_of name c.self.inside.steps.items c.check.new.self.rows))))
    c.in_ok-found.found c.by_rows.result c.by_rows.ensures
    (solved_name c.in_ok-found.found c.self.inside.steps.items c.check.new.self (subst (AreNumbered 1 c.self.inside.steps.items) (sym c.check.ensures.rows) (c.self.invariant.paths any_name).numbered)
    c.in_ok-found.ensures.none)

pub returns-clause-apart : goal.returns-clause-apart
returns-clause-apart c =
    still_apart (NoObjectsClash (record { steps = c.self.inside.steps.items; rows = c.check.new.self; flags = c.self.inside.flags.entries; objects = c.self.inside.objects }))
    c.in-Ok.clash c.by_rows.result c.in_default-clash.not-Some (subst (λ (s : PathState). IfNone c.in-Ok.clash (NoObjectsClash s)) (sym c.self.view_is) c.in-Ok.ensures.none)

-- ---- what the tableau is handed

pub returns-in-Some-clause-handed : goal.returns-in-Some-clause-handed
returns-in-Some-clause-handed c = λ name.
    hands_kept (Stands (rows_among (facts_in name c.args.self.now))) c.args.self.now.rows.tableau c.args.self.now.rows.tableau (λ ever h. h)

pub returns-in_err-found-clause-handed : goal.returns-in_err-found-clause-handed
returns-in_err-found-clause-handed c = λ name.
    subst (λ (s : PathState). HandsMore (Stands (rows_among (facts_in name s))) s.rows.tableau c.check.new.self.tableau) c.self.view_is
    (subst (λ l. HandsMore (Stands l) c.self.inside.rows.tableau c.check.new.self.tableau)
    (rows_numbered name 1 c.self.inside.steps.items c.self.inside.rows.rows (c.self.invariant.paths name).numbered) c.check.ensures.handed)

pub returns-clause-handed : goal.returns-clause-handed
returns-clause-handed c = λ name.
    subst (λ (s : PathState). HandsMore (Stands (rows_among (facts_in name s))) s.rows.tableau c.check.new.self.tableau) c.self.view_is
    (subst (λ l. HandsMore (Stands l) c.self.inside.rows.tableau c.check.new.self.tableau)
    (rows_numbered name 1 c.self.inside.steps.items c.self.inside.rows.rows (c.self.invariant.paths name).numbered) c.check.ensures.handed)
