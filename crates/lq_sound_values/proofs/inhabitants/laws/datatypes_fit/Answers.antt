use Rattle.lq_sound_values.proofs.InhabitantsLemmas.Keeping.{data_below, field_below}
use Rattle.lq_sound_values.proofs.inhabitants.laws.datatypes_fit.Goals as goal

pub returns-clause-datatypes : goal.returns-clause-datatypes
returns-clause-datatypes c = data_below

pub returns-clause-fields : goal.returns-clause-fields
returns-clause-fields c = λ S cov f o As Bs h. field_below S cov f o As Bs h
