use Rattle.std.proofs.Common.{◌++◌, map, refl, ap, ◌∙◌}
use Rattle.lq_base_names.specs.declared.name.Name.{Name}
use Rattle.lq_text_tree.specs.PatternView.{pat_view}
use Rattle.lq_text_scope.specs.Views.{binding_view}
use Rattle.lq_text_scope.proofs.Steps.{shown, known_same}
use Rattle.lq_text_scope.proofs.checker.Checker.show.Goals as goal

pub returns : goal.returns
returns c =
    let p = pat_view Name (λ n. n.0) c.args.pattern.now in
    let are = c.in_ok-push_binders.ensures.bound ∙ ap (λ bs. map binding_view bs ++ Rattle.lq_text_scope.specs.Patterns.binders_in p) c.clear.ensures.items in
    record {
      names = refl;
      known = known_same _ _ _ _ (shown p c.push_binders.new.found.items c.args.self.now.variables c.show_all.new.known are
          (c.in_ok-show_all.ensures ∙ ap (λ bs. Rattle.lq_text_scope.specs.Patterns.shown_names (map binding_view bs) ++ c.args.self.now.variables) c.deref.ensures.value));
      open_ = refl;
      best = refl;
      seen = c.requires;
    }
