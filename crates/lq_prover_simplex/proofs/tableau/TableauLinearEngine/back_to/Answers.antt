use Rattle.std.proofs.Common.{◌∙◌, sym, ap, subst, take}
use Rattle.std.specs.List.{Contains}
use Rattle.std.proofs.lemmas.List.Elements.{All-take}
use Rattle.lq_prover_simplex.specs.declared.row.Standing.{Standing}
use Rattle.lq_prover_simplex.specs.Standing.{standing_of}
use Rattle.lq_prover_simplex.specs.Table.{Table, table_rows, Handed}
use Rattle.lq_prover_simplex.proofs.Tables.{standing_take, apart_take, read_take}
use Rattle.lq_prover_simplex.proofs.tableau.TableauLinearEngine.back_to.Goals as goal

pub back_to-requires : goal.back_to-requires
back_to-requires c = (c.self.inside.rows.items, c.self.invariant.history)

pub invariant_of-self : goal.invariant_of-self
invariant_of-self c = rw c.truncate.ensures.items (record {
  read = read_take c.self.inside.basis.forms c.args.mark.0 c.self.inside.rows.items c.self.invariant.read;
  apart = apart_take c.args.mark.0 c.self.inside.rows.items c.self.invariant.apart;
  placed = c.back_to.ensures.count ∙ c.self.invariant.placed;
  history = c.back_to.ensures.history c.self.inside.rows.items c.self.invariant.history;
  solved = λ e. absurd (let k : ⊥ = cc in k);
  contradicted = λ e. absurd (let k : ⊥ = cc in k);
})

pub returns-clause-stands : goal.returns-clause-stands
returns-clause-stands c =
    ap standing_of c.truncate.ensures.items ∙ standing_take c.args.mark.0 c.self.inside.rows.items ∙ ap (λ (t : Table). take c.args.mark.0 (table_rows t)) c.self.view_is

pub returns-clause-handed : goal.returns-clause-handed
returns-clause-handed c = λ rows h.
    let t : Table = record { system = c.self.inside.basis; rows = c.self.inside.rows.items; limits = c.self.inside.limits; found = c.self.inside.found.items; answer = c.self.inside.answer; limit = c.self.inside.limit } in
    let before : Handed t rows = subst (λ u. Handed u rows) (sym c.self.view_is) h in
    rw c.truncate.ensures.items
    (record { forms = before.forms; among = All-take (λ (s : Standing). Contains rows s.row) c.args.mark.0 t.rows before.among; rests = before.rests })
