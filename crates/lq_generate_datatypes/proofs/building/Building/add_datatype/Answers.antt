use Rattle.std.proofs.Common.{◌∙◌, ◌<◌, ℕ, ◌∷◌, [], ◌++◌, All, map, take, length, get_or, sym, ap, refl, subst, arith}
use Rattle.std.proofs.lemmas.List.{append_assoc}
use Rattle.std.proofs.lemmas.List.Elements.{All-weaker}
use Rattle.lq_generate_fresh.proofs.FreshLemmas.Known.{one_longer}
use Rattle.lq_refined_subtyping.specs.Table.Forms.{each}
use Rattle.lq_refined_subtyping.specs.Table.Growing.{length-grown, Extends-trans}
use Rattle.lq_refined_subtyping.specs.Table.Whole.{count_of, types_of}
use Rattle.lq_text_walk.specs.Scoped.Signature.{signed}
use Rattle.lq_text_walk.specs.Scoped.Views.{constructor_view, data_view}
use Rattle.lq_text_qualifiers.specs.Sorting.Views.{measure_view}
use Rattle.lq_generate_datatypes.specs.Views.{Holds}
use Rattle.lq_generate_datatypes.proofs.Holding.{holds-grown}
use Rattle.lq_generate_datatypes.proofs.building.Building.add_datatype.Goals as goal

pub loop-constructor-preserved : goal.loop-constructor-preserved
loop-constructor-preserved c =
    let d = c.args.datatype.now in
    let ms = map measure_view c.args.measures.now in
    let i : ℕ = c.loop-constructor.constructor-index in
    let x = c.constructor-item.result in
    let t0 = c.args.types.now in
    let t1 = c.loop-constructor.types in
    let t2 = c.all_plain.new.types in
    let front = map (signed (data_view d)) (map constructor_view (take i d.constructors.items)) in
    let value = c.deref-constructor-items.ensures.value in
    let inside : i < length d.constructors.items = subst (λ l. i < length l) value c.loop-constructor-test.true in
    let longer = one_longer (signed (data_view d)) constructor_view d.constructors.items i x (c.constructor-item.is ∙ ap (λ l. get_or l i x) value) inside in
    record {
      holds = λ scopes ks h.
          let n = length-grown scopes [] t2.rows.items in
          subst (Holds ms (types_of scopes t2) c.add.new.self)
          (append_assoc ks front (signed (data_view d) (constructor_view x) ∷ []) ∙ ap (λ l. ks ++ l) (sym longer))
          (c.in_ok-add.ensures (types_of scopes t2) (ks ++ front) (signed (data_view d) (constructor_view x)).1 refl (ap (each (types_of scopes t2)) c.deref.ensures.value ∙ c.in_ok-rows.ensures.refined scopes)
          (subst (All (λ p. p < length (types_of scopes t2))) (sym c.deref.ensures.value)
          (All-weaker (λ p. p < count_of t2) (λ p. p < length (types_of scopes t2)) (λ p l. omega arith) c.in_ok-rows.rows.items c.in_ok-rows.ensures.there))
          (holds-grown ms scopes t1.rows.items t2.rows.items c.loop-constructor.self (ks ++ front) c.all_plain.ensures.grows (c.loop-constructor.invariant.holds scopes ks h)));
      grows = Extends-trans t0.rows.items t1.rows.items t2.rows.items c.loop-constructor.invariant.grows c.all_plain.ensures.grows;
    }
