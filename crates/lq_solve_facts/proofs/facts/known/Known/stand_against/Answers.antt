use Rattle.std.proofs.Common.{false, arith, refl}
use Rattle.lq_logic_predicates.specs.NnfView.{nnf_view}
use Rattle.lq_logic_predicates.specs.PredView.{formula_of}
use Rattle.lq_logic_predicates.specs.Reading.{reading_of}
use Rattle.lq_logic_predicates.specs.TableView.{terms_of}
use Rattle.lq_solve_facts.specs.Facts.Facts.{facts_of}
use Rattle.lq_logic_predicates.specs.RowMeaning.{numbers_at}
use Rattle.lq_solve_facts.proofs.FactsLemmas.Holding.{agrees_before, first_more, grows_length, hold_same}
use Rattle.lq_solve_facts.proofs.facts.known.Known.stand_against.Goals as goal

pub returns-in-Ok-clause-proved : goal.returns-in-Ok-clause-proved
returns-in-Ok-clause-proved c = λ e p h m.
    let ts = terms_of c.tighten.new.table in
    let v = numbers_at ts p in
    let a = c.rows_say_what_comparisons_say.ensures.valuation ts p in
    c.settle.ensures.refuted e v p (h v (agrees_before (terms_of c.args.self.now.table) ts v p c.in-Ok.ensures.grows a))
    ((c.rows_say_what_comparisons_say.ensures.reading ts v p (reading_of false (formula_of c.args.goal.now)) (nnf_view c.in-Ok.reading) c.len-count.ensures.distinct a c.in-Ok.ensures.reading).1 m)

pub returns-in-Ok-clause-kept : goal.returns-in-Ok-clause-kept
returns-in-Ok-clause-kept c = λ e p h v a.
    hold_same v p (facts_of c.args.self.now.state) (facts_of c.settle.new.state) (c.settle.ensures.proved e) (h v (agrees_before (terms_of c.args.self.now.table) (terms_of c.tighten.new.table) v p c.in-Ok.ensures.grows a))

pub returns-in-Ok-clause-unknown : goal.returns-in-Ok-clause-unknown
returns-in-Ok-clause-unknown c = λ e p h v a.
    hold_same v p (facts_of c.args.self.now.state) (facts_of c.settle.new.state) (c.settle.ensures.unknown e) (h v (agrees_before (terms_of c.args.self.now.table) (terms_of c.tighten.new.table) v p c.in-Ok.ensures.grows a))

pub returns-in-Ok-clause-keeps : goal.returns-in-Ok-clause-keeps
returns-in-Ok-clause-keeps c =
    let old = facts_of c.args.self.now.state in let new = facts_of c.settle.new.state in record {
      count = grows_length old new c.settle.ensures.grows;
      first = λ n p w h v a.
          first_more v p old new n c.settle.ensures.grows w (h v (agrees_before (terms_of c.args.self.now.table) (terms_of c.tighten.new.table) v p c.in-Ok.ensures.grows a));
      reading_count = omega arith;
      readings = λ n w. refl;
      terms = c.tighten.ensures.grows;
    }

pub returns-in-Err-clause-unknown : goal.returns-in-Err-clause-unknown
returns-in-Err-clause-unknown c = λ e p h v a. h v (agrees_before (terms_of c.args.self.now.table) (terms_of c.tighten.new.table) v p c.in-Err.ensures.grows a)

pub returns-in-Err-clause-keeps : goal.returns-in-Err-clause-keeps
returns-in-Err-clause-keeps c = record {
  count = omega arith;
  first = λ n p w h v a. h v (agrees_before (terms_of c.args.self.now.table) (terms_of c.tighten.new.table) v p c.in-Err.ensures.grows a);
  reading_count = omega arith;
  readings = λ n w. refl;
  terms = c.tighten.ensures.grows;
}
