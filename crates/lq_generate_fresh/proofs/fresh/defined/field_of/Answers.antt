use Rattle.std.proofs.Common.{sym, subst}
use Rattle.lq_text_tree.specs.MlType as ml
use Rattle.lq_generate_fresh.specs.Fresh.Fields.{parameter, IsField}
use Rattle.lq_generate_fresh.proofs.FreshLemmas.Known.{parameter_is, var_seen}
use Rattle.lq_generate_fresh.proofs.fresh.defined.field_of.Goals as goal

pub returns-in_ok-narrowed-in-Var : goal.returns-in_ok-narrowed-in-Var
returns-in_ok-narrowed-in-Var c =
    let d = c.args.datatype.0 in
    subst (λ t. IsField d t (parameter c.in_ok-narrowed-in-Var.field-0)) (sym (var_seen c.args.written.now c.in-Var.parameter c.in-Var.is))
    (subst (λ i. IsField d (ml.var c.in-Var.parameter) (parameter i)) (sym c.in_ok-narrowed-in-Var.ensures) (parameter_is d c.in-Var.parameter))
