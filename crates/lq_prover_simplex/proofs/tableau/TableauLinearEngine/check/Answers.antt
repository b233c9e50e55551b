use Rattle.std.proofs.Common.{sym, subst, List}
use Rattle.lq_prover_simplex.specs.declared.row.Standing.{Standing}
use Rattle.lq_prover_simplex.specs.Standing.{standing_of}
use Rattle.lq_prover_simplex.specs.Table.{Table, Handed, FailsBy, StopsAt, table_rows}
use Rattle.lq_prover_simplex.proofs.Histories.{history_tight}
use Rattle.lq_prover_simplex.proofs.tableau.TableauLinearEngine.check.Goals as goal

pub decide-requires-clause-tightest : goal.decide-requires-clause-tightest
decide-requires-clause-tightest c =
    rw c.deref.ensures.value
    (history_tight c.self.inside.rows.items c.self.inside.limits.intervals.items c.self.inside.limits.changes.items c.self.invariant.history)

pub returns-in-Ok-None-clause-handed : goal.returns-in-Ok-None-clause-handed
returns-in-Ok-None-clause-handed c = λ rows h.
    let t : Table = record { system = c.self.inside.basis; rows = c.self.inside.rows.items; limits = c.self.inside.limits; found = c.self.inside.found.items; answer = c.self.inside.answer; limit = c.self.inside.limit } in
    let before : Handed t rows = subst (λ u. Handed u rows) (sym c.self.view_is) h in
    record { forms = rw c.decide.ensures.terms (rw c.decide.ensures.forms before.forms); among = before.among; rests = c.decide.ensures.rests rows (rw c.deref.ensures.value before.among) before.rests }

pub returns-in-Ok-Some-clause-handed : goal.returns-in-Ok-Some-clause-handed
returns-in-Ok-Some-clause-handed c = λ rows h.
    let t : Table = record { system = c.self.inside.basis; rows = c.self.inside.rows.items; limits = c.self.inside.limits; found = c.self.inside.found.items; answer = c.self.inside.answer; limit = c.self.inside.limit } in
    let before : Handed t rows = subst (λ u. Handed u rows) (sym c.self.view_is) h in
    record { forms = rw c.decide.ensures.terms (rw c.decide.ensures.forms before.forms); among = before.among; rests = c.decide.ensures.rests rows (rw c.deref.ensures.value before.among) before.rests }

pub returns-in-Err-clause-handed : goal.returns-in-Err-clause-handed
returns-in-Err-clause-handed c = λ rows h.
    let t : Table = record { system = c.self.inside.basis; rows = c.self.inside.rows.items; limits = c.self.inside.limits; found = c.self.inside.found.items; answer = c.self.inside.answer; limit = c.self.inside.limit } in
    let before : Handed t rows = subst (λ u. Handed u rows) (sym c.self.view_is) h in
    record { forms = rw c.decide.ensures.terms (rw c.decide.ensures.forms before.forms); among = before.among; rests = c.decide.ensures.rests rows (rw c.deref.ensures.value before.among) before.rests }

pub returns-in-Err-clause-stop : goal.returns-in-Err-clause-stop
returns-in-Err-clause-stop c = λ ever h.
    let t : Table = record { system = c.self.inside.basis; rows = c.self.inside.rows.items; limits = c.self.inside.limits; found = c.self.inside.found.items; answer = c.self.inside.answer; limit = c.self.inside.limit } in
    let before : Handed t ever = subst (λ u. Handed u ever) (sym c.self.view_is) h in
    let fails : FailsBy t.system.terms t.limit (table_rows t) ever c.in-Err.stop =
    subst (λ (rows : List Standing). FailsBy t.system.terms t.limit (standing_of rows) ever c.in-Err.stop) c.deref.ensures.value
    (c.in-Err.ensures.stop ever before.forms (rw c.deref.ensures.value before.among) before.rests) in
    subst (λ (u : Table). StopsAt u.system.terms u.limit (table_rows u) ever c.stop_of.result) c.self.view_is (c.stop_of.ensures t.system.terms (table_rows t) ever fails)
