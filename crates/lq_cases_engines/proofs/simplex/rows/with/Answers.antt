use Rattle.std.proofs.Common.{◌∙◌, ap, sym, to_z, of_z, FitsSigned, rules}
use Rattle.std.specs.Int.{w128}
use Rattle.std.proofs.lemmas.Int.{to_z-of_z}
use Rattle.lq_cases_engines.proofs.SimplexLemmas.Making.{row_push, row_skip}
use Rattle.lq_cases_engines.proofs.simplex.rows.with.Goals as goal
use Rattle.lq_cases_engines.proofs.simplex.rows.with.Goals.{then-coefficient-ne0+in_ok-push, else-coefficient-ne0}

pub returns : goal.returns
returns c =
    let fits : FitsSigned w128 c.args.coefficient = search rules in
    elim c.if-coefficient-ne0.branch [
      | then-coefficient-ne0+in_ok-push w ↦ rw (w.parts-is, w.in_ok-push.ensures.items)
          (row_push c.args.term c.args.parts.items (to_z w128 (of_z w128 c.args.coefficient)) c.requires
          (λ e. w.if-coefficient-ne0.true (ap (of_z w128) (sym (to_z-of_z w128 c.args.coefficient fits) ∙ e))))
      | else-coefficient-ne0 w ↦ rw w.parts-is (row_skip c.args.term c.args.parts.items c.requires)
    ]
