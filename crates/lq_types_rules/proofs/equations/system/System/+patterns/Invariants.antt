use Rattle.lq_base_names.specs.declared.name.Binder.{Binder}
use Rattle.lq_text_tree.specs.PatternView.{pat_view, pat_form_view, pats_view}
use Rattle.lq_types_rules.proofs.EquationsLemmas.PatternGoals.{IsStep}
use Rattle.lq_types_rules.proofs.EquationsLemmas.Sizes.{size, form_size, row_size}
use Rattle.lq_types_rules.proofs.equations.system.System.+patterns.Given as goal

abbrev pub decreases-add_pattern : goal.decreases-add_pattern
decreases-add_pattern l = size (pat_view Binder (λ b. b.0) l.pattern.now)

abbrev pub decreases-add_form : goal.decreases-add_form
decreases-add_form l = form_size (pat_form_view Binder (λ b. b.0) l.form.now)

abbrev pub decreases-add_row : goal.decreases-add_row
decreases-add_row l = row_size (pats_view Binder (λ b. b.0) l.row.now)

abbrev pub invariant-add_row-loop-at : goal.invariant-add_row-loop-at
invariant-add_row-loop-at l = IsStep l.initial.self l.self l.constructors l.nodes l.row l.roots l.at
