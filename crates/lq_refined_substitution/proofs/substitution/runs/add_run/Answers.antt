use Rattle.std.proofs.Common.{◌++◌, ap, ◌∙◌}
use Rattle.lq_refined_substitution.specs.Substitution.Views.{run_list}
use Rattle.lq_refined_substitution.proofs.SubstitutionLemmas.Sharing.{run_list-push}
use Rattle.lq_refined_substitution.proofs.substitution.runs.add_run.Goals as goal

pub returns : goal.returns
returns c =
    let made = c.args.made.now.items in
    ap run_list c.in_ok-push.ensures.items ∙ run_list-push made c.in_ok-of.field-0 ∙ ap (λ l. run_list made ++ l) c.in_ok-of.ensures
