use Rattle.std.proofs.Common.{drop, [], arith, ap, subst, sym, ◌∙◌}
use Rattle.lq_generate_operations.specs.Basis.Undoing.{bound_on, AreUndone, IsRight}
use Rattle.lq_generate_operations.proofs.BasisLemmas.Binding.{bound_on-push, placed, right-pop, undone-pop}
use Rattle.lq_generate_operations.proofs.basis.names.Names.back.Goals as goal

pub index_mut-requires : goal.index_mut-requires
index_mut-requires c =
    let rows = c.args.self.now.rows in
    let v = rows.ok.0 in
    let r = subst (IsRight rows.items) c.in-Some.ensures.items c.args.self.now.right in
    let l = placed rows.items c.pop.new.self.items c.in-Some.last r in omega arith

pub invariant_of-self : goal.invariant_of-self
invariant_of-self c =
    let rows = c.args.self.now.rows in
    let u = undone-pop c.pop.new.self.items c.in-Some.last (subst AreUndone c.in-Some.ensures.items c.args.self.now.undone) in
    record {
      right = right-pop rows.items c.pop.new.self.items c.in-Some.last (subst (IsRight rows.items) c.in-Some.ensures.items c.args.self.now.right) u.1;
      undone = u.0;
    }

pub returns-in-Some : goal.returns-in-Some
returns-in-Some c =
    sym (ap (λ bs. drop 1 (bound_on [] bs)) c.in-Some.ensures.items ∙ ap (drop 1) (bound_on-push [] c.pop.new.self.items c.in-Some.last))
