use Rattle.lq_prover_case.proofs.ObjectsLemmas.Chains.{path_clash, path_joined}
use Rattle.lq_prover_case.proofs.objects.laws.objects_say_what_facts_say.Goals as goal

pub returns-clause-joined : goal.returns-clause-joined
returns-clause-joined c = path_joined

pub returns-clause-clash : goal.returns-clause-clash
returns-clause-clash c = path_clash
