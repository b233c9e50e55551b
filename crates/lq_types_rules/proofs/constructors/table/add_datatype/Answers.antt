use Rattle.std.proofs.Common.{◌≡◌, ◌<◌, ◌≤◌, ℕ, ◌∷◌, [], ◌++◌, map, take, length, get_or, sym, ap, subst, ◌∙◌, rules, take_all}
use Rattle.std.proofs.lemmas.List.{append_assoc, length-map}
use Rattle.lq_text_tree.specs.SimpleTypeView.{simple_types_view}
use Rattle.lq_text_walk.specs.Scoped.Signature.{signed}
use Rattle.lq_text_walk.specs.Scoped.Views.{constructor_view, data_view, name_number}
use Rattle.lq_types_rules.specs.Constructors.Holding.{Holds}
use Rattle.lq_types_rules.proofs.ConstructorsLemmas.Filing.{one_longer}
use Rattle.lq_types_rules.proofs.constructors.table.add_datatype.Goals as goal

pub loop-constructor-preserved : goal.loop-constructor-preserved
loop-constructor-preserved c = λ ks h.
    let d = c.args.datatype.now in
    let i : ℕ = c.loop-constructor.constructor-index in
    let x = c.constructor-item.result in
    let front = map (signed (data_view d)) (map constructor_view (take i d.constructors.items)) in
    let long : c.len-count.result ≡ length d.parameters.items = search rules in
    let count : c.len-count.result ≡ length (data_view d).parameters = long ∙ sym (length-map d.parameters.items name_number) in
    let value = c.deref-constructor-items.ensures.value in
    let inside : i < length d.constructors.items = subst (λ l. i < length l) value c.loop-constructor-test.true in
    let longer = one_longer (signed (data_view d)) constructor_view d.constructors.items i x (c.constructor-item.is ∙ ap (λ l. get_or l i x) value) inside in
    subst (Holds c.add.new.constructors)
    (append_assoc ks front _ ∙ ap (λ l. ks ++ l) (ap (λ (n : ℕ). front ++ (x.name.0, record { datatype = d.name.0; parameters = n; fields = simple_types_view x.fields }) ∷ []) count ∙ sym longer))
    (c.in_ok-add.ensures (ks ++ front) (c.loop-constructor.invariant ks h))

pub returns : goal.returns
returns c = λ ks h.
    let d = c.args.datatype.now in
    let past : length d.constructors.items ≤ c.loop-constructor.constructor-index = subst (λ l. length l ≤ c.loop-constructor.constructor-index) c.deref-constructor-items.ensures.value c.loop-constructor-test.false in
    subst (λ l. Holds c.loop-constructor.constructors (ks ++ map (signed (data_view d)) (map constructor_view l))) (take_all c.loop-constructor.constructor-index d.constructors.items past) (c.loop-constructor.invariant ks h)
