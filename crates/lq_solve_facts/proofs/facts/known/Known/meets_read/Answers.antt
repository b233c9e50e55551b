use Rattle.std.proofs.Common.{◌≡◌, true, sym, subst}
use Rattle.lq_prover_case.specs.State.RowState.{row_point}
use Rattle.lq_logic_predicates.specs.TableView.{terms_of}
use Rattle.lq_solve_facts.specs.Facts.Read.{IsReadOver}
use Rattle.lq_solve_facts.specs.declared.facts.read.ReadPred.{ReadPred}
use Rattle.lq_solve_facts.proofs.FactsLemmas.Holding.{if_some_map}
use Rattle.lq_solve_facts.proofs.facts.known.Known.meets_read.Goals as goal

pub returns-in-Some : goal.returns-in-Some
returns-in-Some c =
    if_some_map c.evaluate.result _ _
    (λ b f h r. (
      r.plain (subst (λ (x : ReadPred). x.is_plain ≡ true) c.as_ref-read.ensures c.if-not-read.false),
      λ p at.
          let ts = terms_of c.args.self.now.table in
          let met = f p at.flags in
          let rows = c.in-Some.ensures ts h (subst (λ x. IsReadOver ts x h) (sym c.as_ref-read.ensures) r) (row_point c.args.self.now.state.rows) p at.terms in (λ e. rows.0 (met.0 e), λ m. met.1 (rows.1 m)),
    )) c.evaluate.ensures
