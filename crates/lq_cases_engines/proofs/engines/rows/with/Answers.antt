use Rattle.std.proofs.Common.{◌∙◌, sym, to_z, of_z, FitsSigned, rules}
use Rattle.std.specs.Int.{w128}
use Rattle.std.proofs.lemmas.Int.{to_z-of_z}
use Rattle.lq_cases_engines.proofs.EnginesLemmas.Making.{row_push}
use Rattle.lq_cases_engines.proofs.engines.rows.with.Goals as goal

pub returns-in-Ok : goal.returns-in-Ok
returns-in-Ok c =
    let fits : FitsSigned w128 c.args.coefficient = search rules in
    rw c.in-Ok.ensures.items
    (row_push c.args.next c.args.term c.args.parts.items (to_z w128 (of_z w128 c.args.coefficient)) c.requires.below c.requires.order
    (λ e. c.requires.some (sym (to_z-of_z w128 c.args.coefficient fits) ∙ e)))
