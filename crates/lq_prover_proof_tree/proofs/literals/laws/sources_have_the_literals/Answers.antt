use Rattle.lq_prover_proof_tree.proofs.LiteralsLemmas.Fits.{sources_literals, sources_gathered}
use Rattle.lq_prover_proof_tree.proofs.LiteralsLemmas.Leading.{first_not}
use Rattle.lq_prover_proof_tree.specs.Literals.Sources.{sources_of}
use Rattle.lq_prover_proof_tree.proofs.literals.laws.sources_have_the_literals.Goals as goal

pub returns-clause-literals : goal.returns-clause-literals
returns-clause-literals c = sources_literals

pub returns-clause-gathered : goal.returns-clause-gathered
returns-clause-gathered c = sources_gathered

pub returns-clause-past : goal.returns-clause-past
returns-clause-past c = λ i p f h. first_not (sources_of i) p f ((sources_gathered i).1 h)
