use Rattle.std.proofs.Common.{◌≡◌, ◌++◌, [], ◌∷◌, arith, refl, sym, subst}
use Rattle.lq_refined_substitution.specs.Implications.Views.{environment_in, environment_lists}
use Rattle.lq_refined_substitution.specs.Substitution.Views.{part_view}
use Rattle.lq_solve_facts.specs.Store.Way.{LeadsTo}
use Rattle.lq_solve_facts.specs.declared.store.way.Step.{Step}
use Rattle.lq_solve_facts.proofs.StoreLemmas.Ways.{way_added}
use Rattle.lq_solve_facts.proofs.store.kept.Kept.way_to.Goals as goal

pub loop-found-init : goal.loop-found-init
loop-found-init c =
    let es = environment_lists c.args.implications.now in record {
      inside = c.requires;
      way = subst (λ l. LeadsTo es c.args.env l c.args.env) (sym c.new-steps.ensures.items) refl;
      kept = λ A k. c.back_to-found.ensures.kept A es k;
      stands = λ b A k. c.back_to-found.ensures.stands b A es k;
      stored = c.back_to-found.ensures.stored;
    }

pub returns-in_default-clause-way : goal.returns-in_default-clause-way
returns-in_default-clause-way c = λ A k.
    let es = environment_lists c.args.implications.now in
    record { at = c.loop-found.at; kept = c.reset.ensures.kept A es; stands = c.reset.ensures.nothing A es c.loop-found.at c.in_default.ensures.hypotheses; way = c.loop-found.invariant.way }

pub loop-found-preserved : goal.loop-found-preserved
loop-found-preserved c =
    let es = environment_lists c.args.implications.now in
    let before = c.loop-found.invariant in
    let at = c.loop-found.at in
    let parent = c.in-Some.parent in
    let step : Step = record { env = at; part = c.in-Some.part } in
    let e : environment_in es at ≡ environment_in es parent ++ part_view c.in-Some.part.now ∷ [] = c.in-Some.ensures.hypotheses in
    record {
      inside = let a = before.inside in let b = c.in-Some.ensures.earlier in omega (arith, a, b);
      way = subst (λ l. LeadsTo es parent l c.args.env) (sym c.in_ok-push.ensures.items) (way_added es c.loop-found.steps.items step parent c.args.env before.way e);
      kept = λ A k. c.back_to-found-in-loop-found.ensures.kept A es (before.kept A k);
      stands = λ b A k. c.back_to-found-in-loop-found.ensures.stands b A es (before.kept A k);
      stored = λ I fs cs h. c.back_to-found-in-loop-found.ensures.stored I fs cs (before.stored I fs cs h);
    }

pub returns-clause-way : goal.returns-clause-way
returns-clause-way c = λ A k.
    let before = c.loop-found.invariant in record { at = c.loop-found.at; kept = before.kept A k; stands = before.stands c.loop-found-test.false A k; way = before.way }

pub returns-in_default-clause-stored : goal.returns-in_default-clause-stored
returns-in_default-clause-stored c = λ I es cs h. c.reset.ensures.stored I es cs (c.loop-found.invariant.stored I es cs h)

pub returns-in_err-push-clause-stored : goal.returns-in_err-push-clause-stored
returns-in_err-push-clause-stored c = c.loop-found.invariant.stored

pub returns-clause-stored : goal.returns-clause-stored
returns-clause-stored c = c.loop-found.invariant.stored
