use Rattle.std.proofs.Common.{sym, ap, ◌∙◌}
use Rattle.lq_refined_types.specs.Parts.Substitution.{flag_at}
use Rattle.lq_logic_predicates.specs.PredView.{formula_of}
use Rattle.lq_refined_substitution.specs.Substitution.Listed.{listed_items}
use Rattle.lq_refined_substitution.proofs.SubstitutionLemmas.Finding.{found-alone}
use Rattle.lq_refined_substitution.proofs.substitution.listed.Listed.pred.Goals as goal

pub returns-in-Few : goal.returns-in-Few
returns-in-Few c =
    found-alone (λ θ. flag_at θ c.args.symbol) (λ x. formula_of x.now) (listed_items c.args.self.now) c.deref.result.now c.pred_among.result
    (c.deref.ensures.value ∙ sym (ap listed_items c.in-Few.is)) c.pred_among.ensures
