use Rattle.std.proofs.Common.{◌∙◌, List, ◌||◌, ap, ap₂, sym}
use Rattle.lq_refined_types.specs.Parts.Substitution.{is_in}
use Rattle.lq_logic_predicates.specs.declared.symbol.Symbol.{Symbol}
use Rattle.lq_refined_substitution.specs.Substitution.Placed.{place_list, places_of}
use Rattle.lq_refined_substitution.specs.Substitution.Views.{scope_lists}
use Rattle.lq_refined_substitution.proofs.SubstitutionLemmas.Placing.{nothing-at}
use Rattle.lq_refined_substitution.proofs.substitution.scopes.Scopes.has.Goals as goal

pub returns-in-None : goal.returns-in-None
returns-in-None c =
    let self = c.args.self.now in
    sym
    (ap₂ (λ a b. a || b) (sym c.is_same_symbol.ensures ∙ c.if-is_same_symbol.false)
    (ap (λ (xs : List Symbol). is_in xs c.args.symbol)
    (nothing-at (place_list (scope_lists self)) (places_of self.places) c.args.unknown (sym c.in-None.ensures))))
