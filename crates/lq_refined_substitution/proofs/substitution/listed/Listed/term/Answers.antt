use Rattle.std.proofs.Common.{sym, ap, ◌∙◌}
use Rattle.lq_refined_types.specs.Parts.Substitution.{sum_at}
use Rattle.lq_logic_predicates.specs.TermView.{sum_of}
use Rattle.lq_refined_substitution.specs.Substitution.Listed.{listed_items}
use Rattle.lq_refined_substitution.proofs.SubstitutionLemmas.Finding.{found-alone}
use Rattle.lq_refined_substitution.proofs.substitution.listed.Listed.term.Goals as goal

pub returns-in-Few : goal.returns-in-Few
returns-in-Few c =
    found-alone (λ θ. sum_at θ c.args.symbol) (λ x. sum_of x.now) (listed_items c.args.self.now) c.deref.result.now c.term_among.result
    (c.deref.ensures.value ∙ sym (ap listed_items c.in-Few.is)) c.term_among.ensures
