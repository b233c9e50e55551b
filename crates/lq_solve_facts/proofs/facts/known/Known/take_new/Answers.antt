use Rattle.std.proofs.Common.{true, arith, refl}
use Rattle.lq_logic_predicates.specs.NnfView.{nnf_view}
use Rattle.lq_logic_predicates.specs.PredView.{formula_of}
use Rattle.lq_logic_predicates.specs.Reading.{reading_of}
use Rattle.lq_logic_predicates.specs.TableView.{terms_of}
use Rattle.lq_solve_facts.specs.Facts.Facts.{facts_of}
use Rattle.lq_solve_facts.proofs.FactsLemmas.Holding.{agrees_before, first_more, grows_length}
use Rattle.lq_solve_facts.proofs.FactsLemmas.Members.{plain_met}
use Rattle.lq_solve_facts.specs.Facts.Plain.{IsPlain}
use Rattle.lq_solve_facts.proofs.facts.known.Known.take_new.Goals as goal

pub returns-in-Ok-clause-held : goal.returns-in-Ok-clause-held
returns-in-Ok-clause-held c = λ p h m v a.
    let ts = terms_of c.tighten.new.table in
    c.take_unless.ensures.held v p (h v (agrees_before (terms_of c.args.self.now.table) ts v p c.in-Ok.ensures.grows a))
    ((c.rows_say_what_comparisons_say.ensures.reading ts v p (reading_of true (formula_of c.args.hypothesis.now)) (nnf_view c.in-Ok.reading) c.len-count.ensures.distinct a c.in-Ok.ensures.reading).1 m)

pub returns-in-Err-clause-held : goal.returns-in-Err-clause-held
returns-in-Err-clause-held c = λ p h m v a. h v (agrees_before (terms_of c.args.self.now.table) (terms_of c.tighten.new.table) v p c.in-Err.ensures.grows a)

pub returns-in-Ok-clause-keeps : goal.returns-in-Ok-clause-keeps
returns-in-Ok-clause-keeps c =
    let old = facts_of c.args.self.now.state in let new = facts_of c.take_unless.new.state in record {
      count = grows_length old new c.take_unless.ensures.grows;
      first = λ n p w h v a.
          first_more v p old new n c.take_unless.ensures.grows w (h v (agrees_before (terms_of c.args.self.now.table) (terms_of c.tighten.new.table) v p c.in-Ok.ensures.grows a));
      reading_count = omega arith;
      readings = λ n w. refl;
      terms = c.tighten.ensures.grows;
    }

pub returns-in-Err-clause-keeps : goal.returns-in-Err-clause-keeps
returns-in-Err-clause-keeps c = record {
  count = omega arith;
  first = λ n p w h v a. h v (agrees_before (terms_of c.args.self.now.table) (terms_of c.tighten.new.table) v p c.in-Err.ensures.grows a);
  reading_count = omega arith;
  readings = λ n w. refl;
  terms = c.tighten.ensures.grows;
}

pub returns-in-Ok-clause-read : goal.returns-in-Ok-clause-read
returns-in-Ok-clause-read c = λ v p a m.
    let both = plain_met v p c.is_plain.result c.in-Ok.reading (IsPlain (formula_of c.args.hypothesis.now)) c.is_plain.ensures m in (
      (c.rows_say_what_comparisons_say.ensures.reading (terms_of c.tighten.new.table) v p (reading_of true (formula_of c.args.hypothesis.now)) (nnf_view c.in-Ok.reading) c.len-count.ensures.distinct a
          c.in-Ok.ensures.reading).0 both.0,
      both.1,
    )

pub returns-in-Err-clause-read : goal.returns-in-Err-clause-read
returns-in-Err-clause-read c = λ v p a m. absurd m
