use Rattle.std.proofs.Common.{arith, refl}
use Rattle.lq_logic_predicates.specs.NnfView.{nnf_view}
use Rattle.lq_logic_predicates.specs.PredView.{formula_of}
use Rattle.lq_logic_predicates.specs.Reading.{reading_of}
use Rattle.lq_logic_predicates.specs.TableView.{terms_of}
use Rattle.lq_prover_case.specs.State.RowState.{row_point}
use Rattle.lq_solve_facts.proofs.FactsLemmas.Holding.{agrees_before, if_some_map, keeps_self}
use Rattle.lq_solve_facts.proofs.facts.known.Known.meets.Goals as goal

pub returns-in-Ok-clause-answer : goal.returns-in-Ok-clause-answer
returns-in-Ok-clause-answer c =
    if_some_map c.evaluate.result _ _
    (λ b f. (
      c.is_plain.ensures c.if-not-is_plain.false,
      λ p at.
          let met = f p at.flags in
          let rows = c.rows_say_what_comparisons_say.ensures.reading (terms_of c.tighten.new.table) (row_point c.args.self.now.state.rows) p (reading_of c.args.positive (formula_of c.args.pred.now)) (nnf_view c.in-Ok.reading)
          c.len-count.ensures.distinct at.terms c.in-Ok.ensures.reading in (λ e. rows.0 (met.0 e), λ m. met.1 (rows.1 m)),
    )) c.evaluate.ensures

pub returns-then-not-is_plain-clause-keeps : goal.returns-then-not-is_plain-clause-keeps
returns-then-not-is_plain-clause-keeps c = keeps_self _

pub returns-in-Ok-clause-keeps : goal.returns-in-Ok-clause-keeps
returns-in-Ok-clause-keeps c = record {
  count = omega arith;
  first = λ n p w h v a. h v (agrees_before (terms_of c.args.self.now.table) (terms_of c.tighten.new.table) v p c.tighten.ensures.grows a);
  reading_count = omega arith;
  readings = λ n w. refl;
  terms = c.tighten.ensures.grows;
}

pub returns-in-Ok-clause-at : goal.returns-in-Ok-clause-at
returns-in-Ok-clause-at c = λ p at. record { terms = agrees_before (terms_of c.args.self.now.table) (terms_of c.tighten.new.table) (row_point c.args.self.now.state.rows) p c.tighten.ensures.grows at.terms; flags = at.flags }

pub returns-in-Err-Past-clause-keeps : goal.returns-in-Err-Past-clause-keeps
returns-in-Err-Past-clause-keeps c = record {
  count = omega arith;
  first = λ n p w h v a. h v (agrees_before (terms_of c.args.self.now.table) (terms_of c.tighten.new.table) v p c.tighten.ensures.grows a);
  reading_count = omega arith;
  readings = λ n w. refl;
  terms = c.tighten.ensures.grows;
}

pub returns-in-Err-Past-clause-at : goal.returns-in-Err-Past-clause-at
returns-in-Err-Past-clause-at c = λ p at. record { terms = agrees_before (terms_of c.args.self.now.table) (terms_of c.tighten.new.table) (row_point c.args.self.now.state.rows) p c.tighten.ensures.grows at.terms; flags = at.flags }

pub returns-in-Err-Memory-clause-keeps : goal.returns-in-Err-Memory-clause-keeps
returns-in-Err-Memory-clause-keeps c = record {
  count = omega arith;
  first = λ n p w h v a. h v (agrees_before (terms_of c.args.self.now.table) (terms_of c.tighten.new.table) v p c.tighten.ensures.grows a);
  reading_count = omega arith;
  readings = λ n w. refl;
  terms = c.tighten.ensures.grows;
}

pub returns-in-Err-Memory-clause-at : goal.returns-in-Err-Memory-clause-at
returns-in-Err-Memory-clause-at c = λ p at. record { terms = agrees_before (terms_of c.args.self.now.table) (terms_of c.tighten.new.table) (row_point c.args.self.now.state.rows) p c.tighten.ensures.grows at.terms; flags = at.flags }
