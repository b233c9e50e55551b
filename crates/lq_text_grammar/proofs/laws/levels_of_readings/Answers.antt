use Rattle.lq_text_grammar.proofs.Opened.{same_length, same_level}
use Rattle.lq_text_grammar.proofs.laws.levels_of_readings.Goals as goal

pub returns-clause-each : goal.returns-clause-each
returns-clause-each c = λ start ks es d. same_length d

pub returns-clause-same : goal.returns-clause-same
returns-clause-same c = λ start ks es d at k l e. same_level start ks es d at k l e
