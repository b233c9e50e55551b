-- A new term goes last.
use Rattle.std.proofs.Common.{◌∙◌, ap}
use Rattle.indexmap.proofs.CallerLemmas.{insert_entry-new}
use Rattle.lq_prover_congruence.specs.Classes.Terms.{find_in}
use Rattle.lq_prover_congruence.specs.Classes.Keys.{term_of}
use Rattle.lq_prover_congruence.proofs.ClassesLemmas.Tables.{lookup-find, key-eq, inserted}
use Rattle.lq_prover_congruence.proofs.classes.table.Table.insert.Goals as goal

pub returns-clause-ok : goal.returns-clause-ok
returns-clause-ok c =
    let none = lookup-find _ (term_of c.args.key) (λ k. key-eq c.args.key k) c.self.inside.entries.entries ∙ ap (λ es. find_in es (term_of c.args.key)) c.self.view_is ∙ c.requires in
    inserted c.self.inside.entries.entries c.insert.new.self.entries c.args.key c.args.number c.args.self.now c.self.view_is (c.in_ok-insert.ensures.entries ∙ insert_entry-new _ c.self.inside.entries c.args.key c.args.number none)
