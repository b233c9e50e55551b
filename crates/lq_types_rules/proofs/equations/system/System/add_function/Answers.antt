use Rattle.std.proofs.Common.{◌≡◌, ℕ, List, get_or, subst}
use Rattle.lq_base_names.specs.declared.name.Binder.{Binder}
use Rattle.lq_text_tree.specs.PatternView.{pat_view}
use Rattle.lq_text_tree.specs.TypingRules.{PatternIs}
use Rattle.lq_types_rules.specs.Equations.Adding.{Adds}
use Rattle.lq_types_rules.specs.Equations.Rows.{annotation_of}
use Rattle.lq_types_rules.proofs.EquationsLemmas.Composing.{longer_after}
use Rattle.lq_types_rules.proofs.EquationsLemmas.Shaping.{function_adds}
use Rattle.lq_types_rules.proofs.equations.system.System.add_function.Goals as goal

pub returns-clause-grows : goal.returns-clause-grows
returns-clause-grows c =
    let g = c.in_ok-sides.ensures.offers.grows in
    longer_after c.args.self.now c.opened.new.self c.add_sides.new.self (record { system = g.system; longer = g.longer }) c.in_ok-add_sides.ensures.grows

pub returns-clause-adds : goal.returns-clause-adds
returns-clause-adds c = λ g h.
    let q = pat_view Binder (λ b. b.0) c.args.parameter.now in
    function_adds g c.args.nodes c.args.self.now c.opened.new.self c.add_sides.new.self c.in_ok-sides.sides.items q c.args.body c.args.at c.in_ok-sides.ensures.count c.requires.body c.requires.names c.in_ok-sides.ensures.offers
    (subst (λ (rs : List ℕ). Adds c.opened.new.self c.add_sides.new.self (λ t. (t (get_or rs 1 0) ≡ t c.args.body) × PatternIs g (annotation_of c.args.nodes t) q (t (get_or rs 0 0)))) c.deref.ensures.value (c.in_ok-add_sides.ensures.adds g h))
