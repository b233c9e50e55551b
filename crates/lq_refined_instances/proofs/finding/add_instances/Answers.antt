use Rattle.std.proofs.Common.{Vec, Global, List, map, take, sym, ap, ◌∙◌}
use Rattle.std.proofs.lemmas.List.{take_all}
use Rattle.lq_logic_predicates.specs.declared.symbol.Symbol.{Symbol}
use Rattle.lq_logic_predicates.specs.Formula.{Formula}
use Rattle.lq_text_qualifiers.specs.Sorting.Views.{predicate_view, shape_view}
use Rattle.lq_text_qualifiers.specs.declared.sorting.shape.Shape.{Shape}
use Rattle.lq_refined_instances.specs.Instances.{replacements}
use Rattle.lq_refined_instances.specs.Kept.{with_formula, kept}
use Rattle.lq_refined_instances.specs.Made.{instance_by}
use Rattle.lq_refined_instances.specs.Scopes.{scope_in}
use Rattle.lq_refined_instances.specs.Views.{list_view, measure_name, scopes_view}
use Rattle.lq_refined_instances.proofs.KeptSteps.{kept-step, map-twice}
use Rattle.lq_refined_instances.proofs.Taking.{seen-more}
use Rattle.lq_refined_instances.proofs.finding.add_instances.Goals as goal

pub loop-replacement-preserved : goal.loop-replacement-preserved
loop-replacement-preserved c =
    let ms = map measure_name c.args.measures.now in
    let p = predicate_view c.args.qualifier.now.predicate in
    let f : Vec Symbol Global → Formula = λ v. instance_by ms v.items p in
    let R = c.deref-replacement-items.result.now in
    let i = c.loop-replacement.replacement-index in
    let x = c.replacement-item.result in
    let before = list_view c.args.list.now in
    let now = list_view c.loop-replacement.list in
    kept-step before (map f (take i R)) (f x) now (list_view c.add.new.self) c.loop-replacement.invariant
    (c.in_ok-add.ensures ∙ ap (with_formula now) (c.in_ok-instance.ensures ∙ ap (λ (l : List Symbol). instance_by ms l p) c.deref-in-loop-replacement.ensures.value))
    ∙ ap (kept before) (sym (seen-more f R i x x c.loop-replacement-test.true c.replacement-item.is))

pub returns : goal.returns
returns c =
    let ms = map measure_name c.args.measures.now in
    let Γ = scope_in (scopes_view c.args.scopes.now) c.args.symbols.now.scope in
    let p = predicate_view c.args.qualifier.now.predicate in
    let items : Vec Symbol Global → List Symbol = λ v. v.items in
    let g : List Symbol → Formula = λ l. instance_by ms l p in
    let R = c.deref-replacement-items.result.now in
    let before = list_view c.args.list.now in
    c.loop-replacement.invariant ∙ ap (λ (l : List (Vec Symbol Global)). kept before (map (λ v. g v.items) l)) (take_all c.loop-replacement.replacement-index R c.loop-replacement-test.false)
    ∙ ap (kept before)
    (map-twice g items R ∙ ap (map g) (ap (map items) c.deref-replacement-items.ensures.value ∙ c.in_ok-row.ensures ∙ ap (λ (l : List Shape). replacements Γ (map shape_view l)) c.deref.ensures.value))
