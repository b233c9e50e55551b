use Rattle.std.proofs.Common.{ℕ, List, get_or, subst}
use Rattle.lq_text_tree.specs.Types.{AreAll}
use Rattle.lq_types_rules.specs.Equations.Solutions.{each}
use Rattle.lq_types_rules.specs.Equations.Adding.{Adds}
use Rattle.lq_types_rules.proofs.EquationsLemmas.Shaping.{list_adds}
use Rattle.lq_types_rules.proofs.equations.system.System.add_list.Goals as goal

pub returns : goal.returns
returns c =
    list_adds c.args.self.now c.opened.new.self c.are_all.new.self c.in_ok-element.element.items c.args.parts.now c.args.at c.in_ok-element.ensures.count c.requires.parts c.in_ok-element.ensures.offers
    (subst (λ (rs : List ℕ). Adds c.opened.new.self c.are_all.new.self (λ t. AreAll (t (get_or rs 0 0)) (each t c.args.parts.now))) c.deref.ensures.value c.in_ok-are_all.ensures)
