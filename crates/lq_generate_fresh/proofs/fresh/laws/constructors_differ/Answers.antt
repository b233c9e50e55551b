use Rattle.lq_generate_fresh.proofs.FreshLemmas.Differing.{constructors_differ}
use Rattle.lq_generate_fresh.proofs.fresh.laws.constructors_differ.Goals as goal

pub returns : goal.returns
returns c = λ names is h. constructors_differ names is h
