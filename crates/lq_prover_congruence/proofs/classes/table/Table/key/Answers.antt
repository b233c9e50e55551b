-- The entry at a place.
use Rattle.std.proofs.Common.{◌∙◌, arith, sym, ap, length, option_map}
use Rattle.lq_prover_congruence.specs.Classes.Terms.{term_in}
use Rattle.lq_prover_congruence.proofs.ClassesLemmas.Tables.{length-entries, term-entry}
use Rattle.lq_prover_congruence.proofs.classes.table.Table.key.Goals as goal

pub unwrap-requires : goal.unwrap-requires
unwrap-requires c = c.get_index.ensures.found.1 (omega (arith, length-entries c.self.inside.entries.entries, ap length c.self.view_is))

pub returns : goal.returns
returns c =
    let h = sym c.get_index.ensures.entry ∙ ap (option_map (λ p. (p.0.now, p.1.now))) c.unwrap.ensures in
    term-entry c.self.inside.entries.entries c.args.at c.unwrap.result.0.now c.unwrap.result.1.now h ∙ ap (λ es. term_in es c.args.at) c.self.view_is
