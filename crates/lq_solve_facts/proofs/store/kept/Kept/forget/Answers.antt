use Rattle.std.proofs.Common.{◌≡◌, ◌∙◌, ◌+◌, ◌-◌, ◌<◌, ℕ, Some, ap, arith, length, slice_get, subst, sym, take, vec_len}
use Rattle.std.proofs.lemmas.Option.{slice_get_within}
use Rattle.lq_solve_facts.proofs.StoreLemmas.Levels.{NoneFirst, right_alike, right_before}
use Rattle.lq_solve_facts.specs.Store.Kept.{AreRight}
use Rattle.lq_solve_facts.specs.declared.store.level.Level.{Level}
use Rattle.lq_solve_facts.proofs.store.kept.Kept.forget.Goals as goal

pub returns-then-count-len : goal.returns-then-count-len
returns-then-count-len c = record {
  stored = λ I es cs h. h;
  kept = λ A B es a k.
      let levels = c.args.self.now.levels in
      let v : vec_len levels ≡ length levels.items = levels.ok.0 in
      let same = c.if-count-len.true in
      let len = c.len.ensures in
      let below : (i : ℕ) (l : Level) → slice_get levels.items i ≡ Some l → i < c.count_before-count.result = λ i l e. let w = slice_get_within levels.items i l e in omega (arith, w, v, same, len) in
      right_alike c.args.unknown A B es c.args.self.now.known levels.items a
      (λ i l e s. c.count_before-count.ensures.others i l (below i l e) (subst (λ ls. slice_get ls i ≡ Some l) (sym c.as_slice.ensures.value) e) s) k;
}

pub returns : goal.returns
returns c = record {
  stored = c.back_to_level.ensures.stored;
  kept = λ A B es a k.
      let levels = c.args.self.now.levels.items in
      let known = c.back_to_level.new.self.known in
      let n = c.count_before-count.result in
      let some = c.if-count-eq0.false in
      let next : n - 1 + 1 ≡ n = omega (arith, some) in
      let is : c.back_to_level.new.self.levels.items ≡ take n levels = c.back_to_level.ensures.levels ∙ ap (λ j. take j levels) next in
      let none : NoneFirst levels n c.args.unknown = λ i l w e s. c.count_before-count.ensures.others i l w (subst (λ ls. slice_get ls i ≡ Some l) (sym c.as_slice.ensures.value) e) s in
      subst (AreRight B es known) (sym is) (right_before c.args.unknown A B es known levels n a none (subst (AreRight A es known) is (c.back_to_level.ensures.kept A es k)));
}
