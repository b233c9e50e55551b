use Rattle.std.proofs.Common.{◌≡◌, Some, [], ◌∷◌, ◌++◌, map, slice_get, sym, ap, ◌∙◌}
use Rattle.std.specs.Option.{option_map}
use Rattle.std.proofs.lemmas.Result.{IfOk-weaker}
use Rattle.lq_logic_predicates.specs.PredView.{formula_of, pred_items}
use Rattle.lq_logic_predicates.specs.TermView.{sum_of, term_items}
use Rattle.lq_text_qualifiers.specs.Sorting.Views.{measure_view, term_view}
use Rattle.lq_refined_measures.specs.Equations.Facts.{equation_of}
use Rattle.lq_refined_measures.specs.Equations.Views.{name_of}
use Rattle.lq_refined_measures.proofs.EquationsLemmas.Steps.{equation-put, equation-none}
use Rattle.lq_refined_measures.proofs.equations.facts.add_equation.Goals as goal

pub returns-in-None : goal.returns-in-None
returns-in-None c =
    let M = c.args.measures.now in
    let m = measure_view c.args.measure.now in
    equation-none (map name_of M) (map sum_of (term_items c.args.fields.now)) (sum_of c.args.value.now) m.name (slice_get m.terms c.args.constructor)
    (pred_items c.args.facts.now) (sym c.term_of.ensures ∙ ap (option_map (λ t. term_view t.now)) c.in-None.is)

pub returns-in_ok-fact-in-Some : goal.returns-in_ok-fact-in-Some
returns-in_ok-fact-in-Some c =
    let M = c.args.measures.now in
    let m = measure_view c.args.measure.now in
    let ms = map name_of M in
    let xs = map sum_of (term_items c.args.fields.now) in
    let v = sum_of c.args.value.now in
    let found : slice_get m.terms c.args.constructor ≡ Some (term_view c.in-Some.term.now) = sym c.term_of.ensures ∙ ap (option_map (λ t. term_view t.now)) c.in-Some.is in
    IfOk-weaker c.push.result (λ _. pred_items c.push.new.self ≡ pred_items c.args.facts.now ++ c.in_ok-fact-in-Some.fact ∷ [])
    (λ _. map formula_of (pred_items c.push.new.self) ≡ map formula_of (pred_items c.args.facts.now) ++ equation_of ms xs v m.name (slice_get m.terms c.args.constructor))
    (λ _ put. equation-put ms xs v m.name (slice_get m.terms c.args.constructor) (term_view c.in-Some.term.now) (pred_items c.args.facts.now) (pred_items c.push.new.self)
    c.in_ok-fact-in-Some.fact found put c.in_ok-fact-in-Some.ensures) c.push.ensures.ok
