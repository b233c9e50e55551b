use Rattle.std.proofs.Common.{◌≡◌, List, ℕ, subst, ◌∙◌}
use Rattle.lq_text_tree.specs.Types.{count_types}
use Rattle.lq_types_rules.specs.Equations.Solutions.{made, each}
use Rattle.lq_types_rules.specs.Equations.Adding.{Adds}
use Rattle.lq_types_rules.proofs.EquationsLemmas.Composing.{offer_then}
use Rattle.lq_types_rules.proofs.equations.system.System.opened.Goals as goal

pub returns-clause-offers : goal.returns-clause-offers
returns-clause-offers c =
    offer_then c.args.self.now c.fresh.new.self c.is.new.self c.in_ok-roots.roots.items (λ t ts. count_types ts ≡ c.args.count) (λ t ts. t c.args.slot ≡ made c.args.head ts) c.in_ok-roots.ensures.offers
    (subst (λ (ps : List ℕ). Adds c.fresh.new.self c.is.new.self (λ t. t c.args.slot ≡ made c.args.head (each t ps))) c.deref.ensures.value c.in_ok-is.ensures)
    (λ ts types later g e. g c.args.slot c.requires.slot ∙ e)
