use Rattle.std.proofs.Common.{◌≡◌, ◌∙◌, ◌<◌, ℕ, ◌∷◌, [], All, map, length, ap, ap₂, refl, arith}
use Rattle.std.proofs.lemmas.List.Elements.{All-cons}
use Rattle.lq_refined_types.specs.Types.Refined.{data_with, more, none, type_variable}
use Rattle.lq_refined_subtyping.specs.Table.Forms.{at, each, matrix_view}
use Rattle.lq_refined_subtyping.specs.Table.Growing.{extends-at, extends-there, length-grown, Extends-trans}
use Rattle.lq_refined_subtyping.specs.Table.Whole.{types_of}
use Rattle.lq_refined_substitution.specs.Substitution.Views.{parts_view}
use Rattle.lq_text_qualifiers.specs.Sorting.Views.{measure_view}
use Rattle.lq_text_tree.specs.MlType as ml
use Rattle.lq_text_tree.specs.Types.{list_type, Constructor}
use Rattle.lq_generate_datatypes.proofs.Holding.{holds-grown}
use Rattle.lq_generate_datatypes.proofs.building.Building.add_predeclared.Goals as goal

abbrev kind : ℕ → ml.MlTypes → Constructor
kind d fs = record { datatype = d; parameters = 1; fields = fs }

pub returns-clause-holds : goal.returns-clause-holds
returns-clause-holds c =
    let ms = map measure_view c.args.measures.now in
    let t0 = c.args.types.now in
    let t1 = c.push.new.self in
    let t2 = c.push-2.new.self in
    let nil = kind 4 ml.no_types in
    let cons = kind 4 (ml.more_types (ml.var 0) (ml.more_types (list_type (ml.var 0)) ml.no_types)) in
    let nothing = kind 5 ml.no_types in
    let some = kind 5 (ml.more_types (ml.var 0) ml.no_types) in
    λ scopes h.
    let T = types_of scopes t2 in
    let n = length-grown scopes [] t2.rows.items in
    let e : at T c.in_ok-element.element ≡ type_variable 0 =
    extends-at scopes t1.rows.items t2.rows.items c.in_ok-element.element c.push-2.ensures.grows c.in_ok-element.ensures.there
    ∙ c.in_ok-element.ensures.refined scopes in
    let l : at T c.in_ok-list.list ≡ data_with 4 (more (type_variable 0) none) [] [] =
    c.in_ok-list.ensures.refined scopes
    ∙ ap (λ is. data_with 4 (each (types_of scopes t1) is) (matrix_view c.new-2.result) (parts_view c.new-3.result)) c.in_ok-arguments.ensures.items
    ∙ ap (λ t. data_with 4 (more t none) (matrix_view c.new-2.result) (parts_view c.new-3.result)) (c.in_ok-element.ensures.refined scopes)
    ∙ ap₂ (λ m p. data_with 4 (more (type_variable 0) none) m p) c.new-2.ensures c.new-3.ensures in
    let below : c.in_ok-element.element < length T =
    let k = extends-there t1.rows.items t2.rows.items c.in_ok-element.element c.push-2.ensures.grows c.in_ok-element.ensures.there in omega arith in
    let list-below : c.in_ok-list.list < length T = let k = c.in_ok-list.ensures.there in omega arith in
    let none-low : All (λ p. p < length T) [] = λ i d k. absurd (omega arith) in
    c.in_ok-add-4.ensures T ((7, nil) ∷ (8, cons) ∷ (9, nothing) ∷ []) some refl (ap (λ t. more t none) e)
    (All-cons (λ p. p < length T) c.in_ok-element.element [] below none-low)
    (c.in_ok-add-3.ensures T ((7, nil) ∷ (8, cons) ∷ []) nothing refl refl none-low
    (c.in_ok-add-2.ensures T ((7, nil) ∷ []) cons refl (ap₂ (λ t u. more t (more u none)) e l) (All-cons (λ p. p < length T) c.in_ok-element.element (c.in_ok-list.list ∷ []) below
    (All-cons (λ p. p < length T) c.in_ok-list.list [] list-below none-low))
    (c.in_ok-add.ensures T [] nil refl refl none-low
    (holds-grown ms scopes t0.rows.items t2.rows.items c.args.self.now []
    (Extends-trans t0.rows.items t1.rows.items t2.rows.items c.push.ensures.grows c.push-2.ensures.grows) h))))
