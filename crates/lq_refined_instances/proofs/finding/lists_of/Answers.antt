use Rattle.std.proofs.Common.{◌≡◌, ◌<◌, ◌≤◌, List, length, map, take, get_or, [], ◌∷◌, sym, ap, subst, ◌∙◌, arith}
use Rattle.std.proofs.lemmas.List.{take_all}
use Rattle.lq_text_qualifiers.specs.Faults.Shapes as plain
use Rattle.lq_text_qualifiers.specs.Sorting.Views.{qualifier_view, shape_view}
use Rattle.lq_text_qualifiers.specs.declared.sorting.shape.Shape.TheVariants.{Int}
use Rattle.lq_refined_instances.specs.Instances.{instances_of, all_instances_of}
use Rattle.lq_refined_instances.specs.Scopes.{Scope, scope_in}
use Rattle.lq_refined_instances.specs.Seen.{added_view}
use Rattle.lq_refined_instances.specs.Shaped.{AreListed}
use Rattle.lq_refined_instances.specs.Views.{list_view, measure_name, scopes_view, unknown_view}
use Rattle.lq_refined_instances.specs.declared.unknowns.Unknown.{Unknown}
use Rattle.lq_refined_instances.proofs.KeptSteps.{lists-step}
use Rattle.lq_refined_instances.proofs.Tables.{grown-keeps}
use Rattle.lq_refined_instances.proofs.Taking.{seen-more}
use Rattle.lq_refined_instances.proofs.finding.lists_of.Goals as goal

pub loop-unknown-preserved : goal.loop-unknown-preserved
loop-unknown-preserved c =
    let none : Unknown = record { scope = 0; shape = Int } in
    let ms = map measure_name c.args.measures.now in
    let Q = map qualifier_view c.args.qualifiers.now in
    let all = scopes_view c.args.unknowns.now.scopes in
    let U = c.deref-unknown-items.result.now in
    let V = c.args.unknowns.now.unknowns.items in
    let i = c.loop-unknown.unknown-index in
    let x : Unknown = get_or U i none in
    let lent : U ≡ V = c.deref-unknown-items.ensures.value in
    let long : i < length V = subst (λ (l : List Unknown). i < length l) lent c.loop-unknown-test.true in
    let is : list_view c.in_ok-list.list ≡ instances_of ms Q (scope_in all x.scope) (shape_view x.shape) =
    c.in_ok-list.ensures
    in
    let made = ap (map list_view) c.in_ok-push.ensures.items
    ∙ lists-step list_view (λ (u : Scope × plain.Shape). instances_of ms Q u.0 u.1) c.loop-unknown.lists.items (map (unknown_view all) (take i V)) c.in_ok-list.list (unknown_view all x)
    c.loop-unknown.invariant.made is
    ∙ ap (all_instances_of ms Q) (sym (seen-more (unknown_view all) V i x none long (ap (λ (l : List Unknown). get_or l i none) lent)))
    in
    record { made = made; known = c.in_ok-known-2.ensures }

pub loop-unknown-init : goal.loop-unknown-init
loop-unknown-init c =
    let all = scopes_view c.args.unknowns.now.scopes in
    let first : scope_in all 0 ≡ [] = grown-keeps ([] ∷ []) (map added_view c.args.unknowns.now.scopes.additions.items) 0 (omega arith) in
    record {
      made = ap (map list_view) c.new-lists.ensures.items;
      known = subst (λ (Γ : Scope). AreListed Γ c.in_ok-known.known.lists.items) (sym (ap (scope_in all) c.in_ok-known.ensures.scope ∙ first)) c.in_ok-known.ensures.lists;
    }

pub returns : goal.returns
returns c =
    let ms = map measure_name c.args.measures.now in
    let Q = map qualifier_view c.args.qualifiers.now in
    let all = scopes_view c.args.unknowns.now.scopes in
    let V = c.args.unknowns.now.unknowns.items in
    let i = c.loop-unknown.unknown-index in
    let done : length V ≤ i = subst (λ (l : List Unknown). length l ≤ i) c.deref-unknown-items.ensures.value c.loop-unknown-test.false in
    c.loop-unknown.invariant.made ∙ ap (λ (l : List Unknown). all_instances_of ms Q (map (unknown_view all) l)) (take_all i V done)
