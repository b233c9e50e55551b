use Rattle.lq_top_words.proofs.InputsLemmas.First.{faults, fault_or_handed, handed}
use Rattle.lq_top_words.proofs.inputs.laws.one_fault.Goals as goal

pub returns : goal.returns
returns c = record { faults = faults; either = fault_or_handed; handed = handed }
