use Rattle.std.proofs.Common.{◌≡◌}
use Rattle.lq_base_names.specs.declared.name.Binder.{Binder}
use Rattle.lq_text_tree.specs.PatternView.{pat_view}
use Rattle.lq_text_tree.specs.TypingRules.{PatternIs}
use Rattle.lq_types_rules.specs.Equations.Adding.{count_of}
use Rattle.lq_types_rules.specs.Equations.Rows.{annotation_of}
use Rattle.lq_types_rules.proofs.EquationsLemmas.Composing.{after, longer_of, longer_after}
use Rattle.lq_types_rules.proofs.EquationsLemmas.Patterning.{pattern_at_depends}
use Rattle.lq_types_rules.proofs.equations.system.System.add_let.Goals as goal

pub returns-clause-grows : goal.returns-clause-grows
returns-clause-grows c = longer_after c.args.self.now c.same.new.self c.add_pattern.new.self (longer_of c.args.self.now c.same.new.self _ c.in_ok-same.ensures) c.in_ok-add_pattern.ensures.grows

pub returns-clause-adds : goal.returns-clause-adds
returns-clause-adds c = λ g h.
    let q = pat_view Binder (λ b. b.0) c.args.pattern.now in
    after c.args.self.now c.same.new.self c.add_pattern.new.self (λ t. t c.args.at ≡ t c.args.body) (λ t. PatternIs g (annotation_of c.args.nodes t) q (t c.args.bound)) c.in_ok-same.ensures (c.in_ok-add_pattern.ensures.adds g h)
    (pattern_at_depends g c.args.nodes (count_of c.args.self.now) q c.args.bound c.requires.names c.requires.bound)
