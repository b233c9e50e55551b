use Rattle.std.proofs.Common.{◌∙◌, List, ◌++◌, get_or, map, sym, ap, ap₂, subst}
use Rattle.std.proofs.lemmas.List.Elements.{All-get_or}
use Rattle.lq_refined_instances.specs.Views.{scopes_view, unknowns_view}
use Rattle.lq_refined_instances.specs.declared.unknowns.Unknowns.{Unknowns}
use Rattle.lq_text_qualifiers.specs.declared.sorting.shape.Shape.TheVariants.{Int}
use Rattle.lq_refined_copies.specs.Runs.{run_view, AreInside, IsInside}
use Rattle.lq_refined_copies.specs.declared.unknowns.Run.{Run}
use Rattle.lq_refined_copies.specs.declared.unknowns.Run.TheVariants.{One}
use Rattle.lq_refined_copies.proofs.Longer.{longer_same, longer_trans, run_kept, runs_more}
use Rattle.lq_refined_copies.proofs.unknowns.SharedUnknowns.flat.Goals as goal

pub loop-run-preserved : goal.loop-run-preserved
loop-run-preserved c =
    let none : Run = One (record { scope = 0; shape = Int }) in
    let old = scopes_view c.args.self.scopes in
    let all = scopes_view c.loop-run.flat.scopes in
    let new = scopes_view c.add_run.new.flat.scopes in
    let ps = map unknowns_view c.args.self.patterns.items in
    let rs = c.deref-run-items.result.now in
    let i = c.loop-run.run-index in
    let r : Run = get_or rs i none in
    let h = c.loop-run.invariant in
    let inside : AreInside old ps rs = subst (AreInside old ps) (sym c.deref-run-items.ensures.value) c.args.self.inside in
    record {
      longer = longer_trans old all new h.longer c.in_ok-add_run.ensures.longer;
      there = c.in_ok-add_run.ensures.there;
      unknowns = c.in_ok-add_run.ensures.unknowns
          ∙ ap₂ (λ xs ys. xs ++ ys) h.unknowns
          (ap (λ (l : List Unknowns). run_view all (map unknowns_view l) r) c.deref.ensures.value
          ∙ run_kept old all ps ps h.longer (longer_same ps) r (All-get_or (IsInside old ps) rs i none c.loop-run-test.true inside))
          ∙ sym (runs_more old ps rs i none c.loop-run-test.true);
    }
