use Rattle.std.proofs.Common.{◌∷◌, ◌++◌, [], sym, subst}
use Rattle.lq_prover_simplex.specs.Configurations.{AllAmong}
use Rattle.lq_prover_simplex.specs.Table.{Table, Handed, StopsAt, table_rows}
use Rattle.lq_prover_simplex.proofs.Resting.{rests_more}
use Rattle.lq_prover_simplex.proofs.Chaining.{work_fails}
use Rattle.lq_prover_simplex.proofs.tableau.TableauLinearEngine.assert_row.Goals as goal

pub returns-in-Ok-clause-handed : goal.returns-in-Ok-clause-handed
returns-in-Ok-clause-handed c = λ rows h.
    let t : Table = record { system = c.self.inside.basis; rows = c.self.inside.rows.items; limits = c.self.inside.limits; found = c.self.inside.found.items; answer = c.self.inside.answer; limit = c.self.inside.limit } in
    let before : Handed t rows = subst (λ u. Handed u rows) (sym c.self.view_is) h in
    record {
      forms = c.in-Ok.ensures.forms rows before.forms;
      among = c.in-Ok.ensures.among rows before.among;
      rests = rests_more rows (c.args.row.now ∷ []) c.stand.new.basis (c.in-Ok.ensures.rests rows before.rests);
    }

pub returns-in-Err-clause-refused : goal.returns-in-Err-clause-refused
returns-in-Err-clause-refused c = λ rows h.
    let t : Table = record { system = c.self.inside.basis; rows = c.self.inside.rows.items; limits = c.self.inside.limits; found = c.self.inside.found.items; answer = c.self.inside.answer; limit = c.self.inside.limit } in
    let before : Handed t rows = subst (λ u. Handed u rows) (sym c.self.view_is) h in
    record {
      forms = rw c.in-Err.ensures.refused before.forms;
      among = subst (λ l. AllAmong rows l) (sym c.in-Err.ensures.kept) before.among;
      rests = rw c.in-Err.ensures.refused before.rests;
    }

pub returns-in-Err-clause-stop : goal.returns-in-Err-clause-stop
returns-in-Err-clause-stop c = λ ever h.
    let t : Table = record { system = c.self.inside.basis; rows = c.self.inside.rows.items; limits = c.self.inside.limits; found = c.self.inside.found.items; answer = c.self.inside.answer; limit = c.self.inside.limit } in
    let before : Handed t ever = subst (λ u. Handed u ever) (sym c.self.view_is) h in
    let standing = table_rows t ++ (c.args.tag, c.args.row.now) ∷ [] in let rows = ever ++ c.args.row.now ∷ [] in
    subst (λ (u : Table). StopsAt u.system.terms u.limit (table_rows u ++ (c.args.tag, c.args.row.now) ∷ []) rows c.stop_of.result) c.self.view_is
    (c.stop_of.ensures t.system.terms standing rows
    (work_fails t.system.terms t.limit standing rows c.in-Err.stop (c.in-Err.ensures.stop ever before.forms before.rests)))
