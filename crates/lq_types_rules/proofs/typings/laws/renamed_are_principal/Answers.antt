use Rattle.lq_types_rules.proofs.TypingsLemmas.Renaming.{renamed_are_principal}
use Rattle.lq_types_rules.proofs.typings.laws.renamed_are_principal.Goals as goal

pub returns : goal.returns
returns c = renamed_are_principal
