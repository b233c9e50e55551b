use Rattle.std.proofs.Common.{◌≡◌, [], map, ap, ◌∙◌}
use Rattle.lq_text_tree.specs.MlType as ml
use Rattle.lq_text_tree.specs.SimpleTypeView.{simple_type_view, simple_types_view, types_of}
use Rattle.lq_types_rules.proofs.ConstructorsLemmas.Rows.{row_seen}
use Rattle.lq_types_rules.proofs.ConstructorsLemmas.Filing.{none_held, four_held}
use Rattle.lq_types_rules.proofs.constructors.table.predeclared.Goals as goal

pub returns : goal.returns
returns c =
    let none : simple_types_view c.in_ok-none.none ≡ ml.no_types = row_seen c.in_ok-none.none ∙ ap (λ l. types_of (map simple_type_view l)) c.in_ok-none.ensures in
    four_held c.add-4.new.constructors (simple_types_view c.in_ok-none.none) (simple_types_view c.in_ok-two.two) (simple_types_view c.in_ok-none.none) (simple_types_view c.in_ok-one.one)
    none c.in_ok-two.ensures none c.in_ok-one.ensures
    (c.in_ok-add-4.ensures _ (c.in_ok-add-3.ensures _ (c.in_ok-add-2.ensures _ (c.in_ok-add.ensures [] (none_held _ c.new.ensures.items)))))
