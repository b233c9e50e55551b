-- The number that the entries give.
use Rattle.std.proofs.Common.{◌∙◌, ap}
use Rattle.lq_prover_congruence.specs.Classes.Terms.{find_in}
use Rattle.lq_prover_congruence.specs.Classes.Keys.{term_of}
use Rattle.lq_prover_congruence.proofs.ClassesLemmas.Tables.{lookup-find, key-eq}
use Rattle.lq_prover_congruence.proofs.classes.table.Table.find.Goals as goal

pub returns : goal.returns
returns c =
    c.copied.ensures ∙ c.get.ensures.value ∙ lookup-find _ (term_of c.args.key.now) (λ k. key-eq c.args.key.now k) c.self.inside.entries.entries ∙ ap (λ es. find_in es (term_of c.args.key.now)) c.self.view_is
