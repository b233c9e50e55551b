use Rattle.std.proofs.Common.{◌≡◌, ◌++◌, map, length, refl, ap, ◌∙◌}
use Rattle.std.proofs.lemmas.List.{length-map}
use Rattle.lq_base_names.specs.declared.name.Name.{Name}
use Rattle.lq_text_tree.specs.PatternView.{pat_view}
use Rattle.lq_text_scope.specs.Views.{binding_view, found_view}
use Rattle.lq_text_scope.proofs.Steps.{declared, back}
use Rattle.lq_text_scope.proofs.checker.Checker.declare.Goals as goal

pub returns : goal.returns
returns c =
    let p = pat_view Name (λ n. n.0) c.args.pattern.now in
    let are = c.in_ok-push_binders.ensures.bound ∙ ap (λ bs. map binding_view bs ++ Rattle.lq_text_scope.specs.Patterns.binders_in p) c.clear.ensures.items in
    let bound = ap (map binding_view) c.deref.ensures.value ∙ are in
    let counted : c.len.result ≡ length (map binding_view c.deref.result.now) =
    let ok = c.push_binders.new.found.ok in let is = c.len.ensures in let same = c.deref.ensures.value in let mapped = length-map c.deref.result.now binding_view in cc
    in
    record {
      names = refl;
      known = refl;
      open_ = refl;
      best = declared c.args.self.now.constructors p (map binding_view c.deref.result.now) c.args.self.now.seen (found_view c.args.self.now.least.found) _ _ bound c.requires c.note_built.ensures
          c.in_ok-note_repeated.ensures.found;
      seen = c.hide.ensures ∙ back (map binding_view c.deref.result.now) c.len.result c.args.self.now.seen c.note_repeated.new.known counted c.requires c.in_ok-note_repeated.ensures.shown;
    }
