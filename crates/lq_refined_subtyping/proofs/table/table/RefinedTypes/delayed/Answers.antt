use Rattle.std.proofs.Common.{◌<◌, ◌∷◌, All, sym, subst}
use Rattle.lq_refined_subtyping.specs.Table.Changes.{change_rows}
use Rattle.lq_refined_subtyping.specs.Table.Rows.{row_rows}
use Rattle.lq_refined_subtyping.proofs.table.table.RefinedTypes.delayed.Goals as goal

pub returns-in_ok-clone-in-Delayed-clause-earlier : goal.returns-in_ok-clone-in-Delayed-clause-earlier
returns-in_ok-clone-in-Delayed-clause-earlier c =
    subst (λ d. All (λ p. p < c.args.at) (c.in-Delayed.inner ∷ change_rows d)) (sym c.in_ok-clone-in-Delayed.ensures.cases)
    (subst (λ r. All (λ p. p < c.args.at) (row_rows r)) c.in-Delayed.is c.row.ensures.earlier)
