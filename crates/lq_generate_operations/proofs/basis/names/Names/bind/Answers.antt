use Rattle.std.proofs.Common.{◌≡◌, ◌<◌, length, None, [], refl, arith, ap, subst, sym, ◌∙◌}
use Rattle.std.proofs.lemmas.List.{get_or_read_under}
use Rattle.lq_generate_operations.specs.Basis.Undoing.{bound_on, row_in, AreUndone, IsRight}
use Rattle.lq_generate_operations.specs.declared.basis.names.Bound.{Bound}
use Rattle.lq_generate_operations.proofs.BasisLemmas.Binding.{bound_on-push, right-push, undone-push}
use Rattle.lq_generate_operations.proofs.basis.names.Names.bind.Goals as goal

pub invariant_of-self-2 : goal.invariant_of-self-2
invariant_of-self-2 c =
    let rows = c.with_place.new.rows in
    let old = c.args.self.now.bindings.items in
    let before = c.index-before.result.now in
    let b : Bound = record { name = c.args.name; row = c.args.row; before = before } in
    let v = rows.ok.0 in
    let t = c.in_ok-with_place.ensures.there in
    let l : c.args.name.0 < length rows.items = omega arith in
    let e : before ≡ row_in (bound_on [] old) c.args.name.0 =
    get_or_read_under rows.items c.args.name.0 (length rows.items) before None c.index-before.ensures l refl ∙ c.in_ok-with_place.ensures.kept c.args.name.0
    ∙ c.args.self.now.right c.args.name.0 in
    record {
      right = subst (IsRight _) (sym c.in_ok-push.ensures.items)
          (right-push rows.items old b (λ x. c.in_ok-with_place.ensures.kept x ∙ c.args.self.now.right x) l);
      undone = subst AreUndone (sym c.in_ok-push.ensures.items) (undone-push old b c.args.self.now.undone e);
    }

pub returns-clause-ok : goal.returns-clause-ok
returns-clause-ok c =
    ap (bound_on []) c.in_ok-push.ensures.items
    ∙ bound_on-push [] c.args.self.now.bindings.items record { name = c.args.name; row = c.args.row; before = c.index-before.result.now }
