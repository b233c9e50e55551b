use Rattle.lq_refined_types.specs.Parts.Substitution.{flag_at}
use Rattle.lq_logic_predicates.specs.PredView.{formula_of}
use Rattle.lq_refined_substitution.proofs.SubstitutionLemmas.Finding.{found}
use Rattle.lq_refined_substitution.proofs.substitution.rows.Rows.pred.Goals as goal

pub returns : goal.returns
returns c =
    let self = c.args.self.now in
    found (λ θ. flag_at θ c.args.symbol) (λ x. formula_of x.now) self.front.items self.back.items c.deref.result.now c.deref-2.result.now c.pred_in-2.result
    c.deref.ensures.value c.deref-2.ensures.value c.in_default.ensures c.pred_in-2.ensures
