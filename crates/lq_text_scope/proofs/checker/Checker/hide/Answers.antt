use Rattle.std.proofs.Common.{◌≡◌, ◌++◌, map, length, refl, ap, ◌∙◌}
use Rattle.lq_base_names.specs.declared.name.Name.{Name}
use Rattle.lq_text_tree.specs.PatternView.{pat_view}
use Rattle.lq_text_scope.specs.Views.{binding_view}
use Rattle.lq_text_scope.proofs.Steps.{hidden, known_same}
use Rattle.lq_text_scope.proofs.checker.Checker.hide.Goals as goal

pub returns : goal.returns
returns c =
    let p = pat_view Name (λ n. n.0) c.args.pattern.now in
    let are = c.in_ok-push_binders.ensures.bound ∙ ap (λ bs. map binding_view bs ++ Rattle.lq_text_scope.specs.Patterns.binders_in p) c.clear.ensures.items in
    let counted : c.len.result ≡ length c.push_binders.new.found.items = let ok = c.push_binders.new.found.ok in let is = c.len.ensures in cc in
    record {
      names = refl;
      known = known_same _ _ _ _ (hidden p c.push_binders.new.found.items c.len.result c.args.self.now.variables c.hide.new.self are counted c.hide.ensures);
      open_ = refl;
      best = refl;
      seen = c.requires;
    }
