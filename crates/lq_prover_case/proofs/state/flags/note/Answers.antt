use Rattle.std.proofs.Common.{◌∙◌}
use Rattle.indexmap.proofs.CallerLemmas.{insert_entry-new}
use Rattle.lq_prover_case.proofs.StateLemmas.Giving.{lookup_same}
use Rattle.lq_prover_case.proofs.state.flags.note.Goals as goal

pub returns-clause-ok : goal.returns-clause-ok
returns-clause-ok c = c.in_ok-insert.ensures.entries ∙ insert_entry-new _ c.args.flags.now c.args.flag c.args.given (lookup_same c.args.flag c.args.flags.now.entries ∙ c.requires)
