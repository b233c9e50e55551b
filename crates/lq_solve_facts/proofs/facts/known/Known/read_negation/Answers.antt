use Rattle.lq_solve_facts.proofs.facts.known.Known.read_negation.Goals as goal

pub returns-clause-read : goal.returns-clause-read
returns-clause-read c = record {
  met = tt;
  against = c.reading-against.ensures.reading;
  plain = c.is_plain.ensures;
}
