use Rattle.std.proofs.Common.{refl}
use Rattle.lq_logic_predicates.specs.NnfView.{nnf_view}
use Rattle.lq_logic_predicates.specs.PredView.{formula_of}
use Rattle.lq_logic_predicates.specs.Reading.{reading_of}
use Rattle.lq_logic_predicates.specs.TableView.{terms_of}
use Rattle.lq_solve_facts.proofs.FactsLemmas.Holding.{agrees_before, keeps_table}
use Rattle.lq_solve_facts.proofs.facts.known.Known.reading.Goals as goal

pub returns-in-Ok-clause-reading : goal.returns-in-Ok-clause-reading
returns-in-Ok-clause-reading c = λ v p a.
    c.rows_say_what_comparisons_say.ensures.reading (terms_of c.tighten.new.table) v p (reading_of c.args.positive (formula_of c.args.pred.now)) (nnf_view c.in-Ok.reading) c.len-count.ensures.distinct a c.in-Ok.ensures.reading

pub returns-in-Ok-clause-kept : goal.returns-in-Ok-clause-kept
returns-in-Ok-clause-kept c = λ p h v a. h v (agrees_before (terms_of c.args.self.now.table) (terms_of c.tighten.new.table) v p c.tighten.ensures.grows a)

pub returns-in-Ok-clause-keeps : goal.returns-in-Ok-clause-keeps
returns-in-Ok-clause-keeps c = keeps_table _ _ refl refl c.tighten.ensures.grows

pub returns-in-Err-clause-kept : goal.returns-in-Err-clause-kept
returns-in-Err-clause-kept c = λ p h v a. h v (agrees_before (terms_of c.args.self.now.table) (terms_of c.tighten.new.table) v p c.tighten.ensures.grows a)

pub returns-in-Err-clause-keeps : goal.returns-in-Err-clause-keeps
returns-in-Err-clause-keeps c = keeps_table _ _ refl refl c.tighten.ensures.grows
