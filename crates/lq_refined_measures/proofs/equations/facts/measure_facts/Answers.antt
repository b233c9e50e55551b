use Rattle.std.proofs.Common.{◌≡◌, ℕ, List, Bool, ◌++◌, map, take, if◌then◌else◌, sym, ap, ◌∙◌}
use Rattle.std.specs.List.{flat_map}
use Rattle.std.proofs.lemmas.List.{take_all}
use Rattle.lq_logic_predicates.specs.Formula.{Formula}
use Rattle.lq_logic_predicates.specs.PredView.{formula_of, pred_items}
use Rattle.lq_logic_predicates.specs.TermView.{sum_of, term_items}
use Rattle.lq_logic_predicates.specs.declared.pred.Preds.{Preds}
use Rattle.lq_text_qualifiers.specs.Sorting.Sorted.{Measure}
use Rattle.lq_text_qualifiers.specs.Sorting.Views.{measure_view}
use Rattle.lq_text_qualifiers.specs.declared.sorting.sorted.ScopedMeasure.{ScopedMeasure}
use Rattle.lq_refined_measures.specs.Equations.Facts.{equation_at, measures_of}
use Rattle.lq_refined_measures.specs.Equations.Views.{name_of}
use Rattle.lq_refined_measures.proofs.EquationsLemmas.Steps.{facts-step, names-seen, seen-more}
use Rattle.lq_refined_measures.proofs.equations.facts.measure_facts.Goals as goal
use Rattle.lq_refined_measures.proofs.equations.facts.measure_facts.Goals.{then-is_of+in_ok-add_equation, else-is_of}

pub loop-measure-preserved : goal.loop-measure-preserved
loop-measure-preserved c =
    let M = c.args.measures.now in
    let i = c.loop-measure.measure-index in
    let x = c.measure-item.result in
    let f : Measure → List Formula = equation_at (map name_of M) (map sum_of (term_items c.args.fields.now)) (sum_of c.args.value.now) c.args.constructor in
    let now = map formula_of (pred_items c.loop-measure.facts) in
    let more = now ++ f (measure_view x) in
    let next : map formula_of (pred_items c.if-is_of.facts) ≡ (if c.is_of.result then more else now) =
    elim c.if-is_of.branch [
      | then-is_of+in_ok-add_equation w ↦ ap (λ (p : Preds). map formula_of (pred_items p)) w.facts-is ∙ w.in_ok-add_equation.ensures
          ∙ sym (ap (λ (b : Bool). if b then more else now) w.if-is_of.true)
      | else-is_of w ↦ ap (λ (p : Preds). map formula_of (pred_items p)) w.facts-is ∙ sym (ap (λ (b : Bool). if b then more else now) w.if-is_of.false)
    ]
    in
    facts-step f (map measure_view (take i M)) (measure_view x) c.args.datatype.0 c.is_of.result now (map formula_of (pred_items c.if-is_of.facts)) (sym c.is_of.ensures)
    c.loop-measure.invariant next
    ∙ ap (λ (l : List Measure). flat_map f (measures_of l c.args.datatype.0)) (sym (seen-more measure_view M i x x c.loop-measure-test.true c.measure-item.is))

pub returns : goal.returns
returns c =
    let M = c.args.measures.now in
    let d = c.args.datatype.0 in
    let xs = map sum_of (term_items c.args.fields.now) in
    let v = sum_of c.args.value.now in
    let made = c.loop-measure.invariant
    ∙ ap (λ (l : List ScopedMeasure). flat_map (equation_at (map name_of M) xs v c.args.constructor) (measures_of (map measure_view l) d))
    (take_all c.loop-measure.measure-index M c.loop-measure-test.false)
    ∙ ap (λ (names : List ℕ). flat_map (equation_at names xs v c.args.constructor) (measures_of (map measure_view M) d)) (sym (names-seen M))
    in
    record { made = made }
