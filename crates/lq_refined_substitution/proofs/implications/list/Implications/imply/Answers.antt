use Rattle.std.proofs.Common.{◌≡◌, ◌-◌, ◌^◌, ◌<◌, length, min, refl, ap, ◌∙◌, arith}
use Rattle.std.proofs.lemmas.List.{length-map}
use Rattle.lq_refined_substitution.specs.Substitution.Views.{parts_view}
use Rattle.lq_refined_substitution.specs.Implications.Growing.{Continues-refl, Continues-trans}
use Rattle.lq_refined_substitution.specs.Implications.Views.{count_of, environment_at, environment_in, implications_of, origin_view}
use Rattle.lq_refined_substitution.proofs.ImplicationsLemmas.Goals.{added-more, counted-more}
use Rattle.lq_refined_substitution.proofs.ImplicationsLemmas.Limits.{kept-nothing}
use Rattle.lq_refined_substitution.proofs.implications.list.Implications.imply.Goals as goal

pub loop-goal-init : goal.loop-goal-init
loop-goal-init c =
    let self = c.args.self.now in
    let n : length (implications_of self) ≡ length self.items.items = length-map self.items.items _ in
    let k : length self.items.items ≡ min (count_of self) 262144 = self.counted in
    let m : count_of self < 2 ^ 64 = self.small in
    record {
      added = kept-nothing 262144 (implications_of self) (omega arith);
      counted = omega arith;
      continues = Continues-refl self;
      environments = refl;
    }

pub loop-goal-preserved : goal.loop-goal-preserved
loop-goal-preserved c =
    let self = c.args.self.now in
    let now = c.loop-goal.self in
    let next = c.imply_one.new.self in
    let same = ap (λ l. environment_in l c.args.env) c.loop-goal.invariant.environments in
    record {
      added = added-more 262144 (implications_of self) (implications_of now) (implications_of next) (environment_at self c.args.env) (environment_at now c.args.env)
          (parts_view c.args.left.now) (origin_view c.args.origin.0 c.args.origin.1) c.args.right.now c.loop-goal.goal-index c.goal-item.result
          same c.loop-goal-test.true c.goal-item.is c.loop-goal.invariant.added c.in_ok-imply_one.ensures.added;
      counted = counted-more 262144 (implications_of self) (implications_of now) (implications_of next) (environment_at self c.args.env) (environment_at now c.args.env)
          (parts_view c.args.left.now) (origin_view c.args.origin.0 c.args.origin.1) c.args.right.now c.loop-goal.goal-index c.goal-item.result
          same c.loop-goal-test.true c.goal-item.is (2 ^ 64 - 1) (count_of self) (count_of now) (count_of next) c.loop-goal.invariant.counted
          c.in_ok-imply_one.ensures.counted;
      continues = Continues-trans self now next c.loop-goal.invariant.continues c.imply_one.ensures.continues;
      environments = c.imply_one.ensures.environments ∙ c.loop-goal.invariant.environments;
    }

pub returns-in_err-imply_one-clause-continues : goal.returns-in_err-imply_one-clause-continues
returns-in_err-imply_one-clause-continues c =
    Continues-trans c.args.self.now c.loop-goal.self c.imply_one.new.self c.loop-goal.invariant.continues c.imply_one.ensures.continues
