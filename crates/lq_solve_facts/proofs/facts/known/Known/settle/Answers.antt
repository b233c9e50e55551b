use Rattle.std.proofs.Common.{arith, refl}
use Rattle.lq_logic_predicates.specs.RowMeaning.{numbers_at}
use Rattle.lq_logic_predicates.specs.TableView.{terms_of}
use Rattle.lq_solve_facts.specs.Facts.Facts.{facts_of}
use Rattle.lq_solve_facts.proofs.FactsLemmas.Holding.{count_same, extends_self, first_same, hold_same}
use Rattle.lq_solve_facts.proofs.facts.known.Known.settle.Goals as goal

pub returns-clause-clash : goal.returns-clause-clash
returns-clause-clash c = λ e p h.
    let ts = terms_of c.args.self.now.table in let v = numbers_at ts p in
    c.settle_facts.ensures.clash e v p (h v (c.rows_say_what_comparisons_say.ensures.valuation ts p))

pub returns-clause-kept : goal.returns-clause-kept
returns-clause-kept c = λ p h v a. hold_same v p (facts_of c.args.self.now.state) (facts_of c.settle_facts.new.state) c.settle_facts.ensures.same (h v a)

pub returns-clause-keeps : goal.returns-clause-keeps
returns-clause-keeps c =
    let old = facts_of c.args.self.now.state in let new = facts_of c.settle_facts.new.state in record {
      count = count_same old new c.settle_facts.ensures.same;
      first = λ n p w h v a. first_same v p old new n c.settle_facts.ensures.same (h v a);
      reading_count = omega arith;
      readings = λ n w. refl;
      terms = extends_self _;
    }
