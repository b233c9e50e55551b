use Rattle.std.proofs.Common.{◌++◌, map, ap, ◌∙◌}
use Rattle.lq_base_names.specs.declared.name.Name.{Name}
use Rattle.lq_text_tree.specs.PatternView.{pat_view}
use Rattle.lq_text_scope.specs.Patterns.{binders_in}
use Rattle.lq_text_scope.specs.Views.{binding_view}
use Rattle.lq_text_resolve.proofs.BindingLemmas.PatternRows.{names_are}
use Rattle.lq_text_resolve.proofs.binding.resolver.Resolver.read_names.Goals as goal

pub returns-clause-names : goal.returns-clause-names
returns-clause-names c =
    let q = pat_view Name (λ n. n.0) c.args.pattern.now in
    names_are q c.push_binders.new.found.items (c.in_ok-push_binders.ensures.bound ∙ ap (λ bs. map binding_view bs ++ binders_in q) c.clear.ensures.items)
