use Rattle.std.proofs.Common.{◌<◌, ℕ, ◌∷◌, [], ◌++◌, map, take, length, get_or, sym, ap, refl, subst, ◌∙◌}
use Rattle.std.proofs.lemmas.List.{append_assoc}
use Rattle.lq_text_walk.specs.Scoped.Signature.{signed}
use Rattle.lq_text_walk.specs.Scoped.Views.{constructor_view, data_view}
use Rattle.lq_generate_fresh.specs.Fresh.Defined.{Holds}
use Rattle.lq_generate_fresh.proofs.FreshLemmas.Known.{one_longer}
use Rattle.lq_generate_fresh.proofs.fresh.fields.Datatypes.add_datatype.Goals as goal

pub loop-constructor-preserved : goal.loop-constructor-preserved
loop-constructor-preserved c = λ ks h.
    let d = c.args.datatype.now in
    let i : ℕ = c.loop-constructor.constructor-index in
    let x = c.constructor-item.result in
    let front = map (signed (data_view d)) (map constructor_view (take i d.constructors.items)) in
    let value = c.deref-constructor-items.ensures.value in
    let inside : i < length d.constructors.items = subst (λ l. i < length l) value c.loop-constructor-test.true in
    let longer = one_longer (signed (data_view d)) constructor_view d.constructors.items i x (c.constructor-item.is ∙ ap (λ l. get_or l i x) value) inside in
    subst (Holds c.add.new.self)
    (append_assoc ks front (signed (data_view d) (constructor_view x) ∷ []) ∙ ap (λ l. ks ++ l) (sym longer))
    (c.in_ok-add.ensures (ks ++ front) (signed (data_view d) (constructor_view x)).1 refl c.in_ok-fields.ensures (c.loop-constructor.invariant ks h))
