use Rattle.lq_text_parser.proofs.SyntaxLemmas.Samples.{difference, build, qualifier}
use Rattle.lq_text_parser.proofs.syntax.laws.examples.Goals as goal

pub returns-clause-difference : goal.returns-clause-difference
returns-clause-difference c = difference

pub returns-clause-build : goal.returns-clause-build
returns-clause-build c = build

pub returns-clause-qualifier : goal.returns-clause-qualifier
returns-clause-qualifier c = qualifier
