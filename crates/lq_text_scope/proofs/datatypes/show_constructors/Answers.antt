use Rattle.std.proofs.Common.{◌∷◌, ◌+◌, map, drop, refl, sym, ap, ◌∙◌}
use Rattle.lq_text_tree.specs.Items.{constructor_view}
use Rattle.lq_text_scope.specs.Datatypes.{with_constructors}
use Rattle.lq_text_scope.specs.Growing.{StaysUnder-refl, StaysUnder-one}
use Rattle.lq_text_scope.specs.Known.{defined}
use Rattle.lq_text_scope.proofs.Constructing.{drop_by}
use Rattle.lq_text_scope.proofs.TypeRows.{types_count}
use Rattle.lq_text_scope.proofs.datatypes.show_constructors.Goals as goal

pub loop-constructor-init : goal.loop-constructor-init
loop-constructor-init c = record { shown = refl; stays = StaysUnder-refl _ }

pub loop-constructor-preserved : goal.loop-constructor-preserved
loop-constructor-preserved c =
    let this = c.constructor-item.result in
    let rest = map constructor_view (drop (c.loop-constructor.constructor-index + 1) c.args.constructors.now) in
    let here = ap (map constructor_view) (drop_by c.args.constructors.now c.loop-constructor.constructor-index this c.loop-constructor-test.true c.constructor-item.is) in
    let known = c.in_ok-show.ensures.shown ∙ ap (λ n. defined this.name.0 n ∷ c.loop-constructor.known) (c.len.ensures ∙ types_count this.fields) in
    record {
      shown = ap (λ l. with_constructors l rest) known ∙ sym (ap (with_constructors c.loop-constructor.known) here) ∙ c.loop-constructor.invariant.shown;
      stays = StaysUnder-one _ _ _ (defined this.name.0 _) c.loop-constructor.invariant.stays c.in_ok-show.ensures.shown;
    }
