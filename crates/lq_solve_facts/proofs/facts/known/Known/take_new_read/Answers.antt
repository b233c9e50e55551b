use Rattle.std.proofs.Common.{arith, refl}
use Rattle.lq_logic_predicates.specs.TableView.{terms_of}
use Rattle.lq_solve_facts.specs.Facts.Facts.{facts_of}
use Rattle.lq_solve_facts.proofs.FactsLemmas.Holding.{extends_self, first_more, grows_length, keeps_self}
use Rattle.lq_solve_facts.proofs.facts.known.Known.take_new_read.Goals as goal

pub returns-in-Some-clause-held : goal.returns-in-Some-clause-held
returns-in-Some-clause-held c = λ h r p k m v a. c.take_unless.ensures.held v p (k v a) ((c.in-Some.ensures (terms_of c.args.self.now.table) h r v p a).1 m)

pub returns-in-Some-clause-keeps : goal.returns-in-Some-clause-keeps
returns-in-Some-clause-keeps c =
    let old = facts_of c.args.self.now.state in let new = facts_of c.take_unless.new.state in record {
      count = grows_length old new c.take_unless.ensures.grows;
      first = λ n p w h v a. first_more v p old new n c.take_unless.ensures.grows w (h v a);
      reading_count = omega arith;
      readings = λ n w. refl;
      terms = extends_self _;
    }

pub returns-in-None-clause-keeps : goal.returns-in-None-clause-keeps
returns-in-None-clause-keeps c = keeps_self _
