use Rattle.std.proofs.Common.{[], ◌∷◌, refl}
use Rattle.lq_text_tree.specs.MlType as ml
use Rattle.lq_text_tree.specs.Types.{list_type}
use Rattle.lq_generate_fresh.proofs.FreshLemmas.Known.{filled_fields, kind, no_fields, none_held, some_fields}
use Rattle.lq_generate_fresh.proofs.fresh.fields.Datatypes.predeclared.Goals as goal

pub returns : goal.returns
returns c =
    let nil = kind 4 ml.no_types in
    let cons = kind 4 (ml.more_types (ml.var 0) (ml.more_types (list_type (ml.var 0)) ml.no_types)) in
    let none = kind 5 ml.no_types in
    let some = kind 5 (ml.more_types (ml.var 0) ml.no_types) in
    c.in_ok-add-4.ensures ((7, nil) ∷ (8, cons) ∷ (9, none) ∷ []) some refl (some_fields 5 c.in_ok-some.some.items c.in_ok-some.ensures.items)
    (c.in_ok-add-3.ensures ((7, nil) ∷ (8, cons) ∷ []) none refl (no_fields 5 c.new-3.result.items c.new-3.ensures.items)
    (c.in_ok-add-2.ensures ((7, nil) ∷ []) cons refl (filled_fields c.in_ok-filled.filled.items c.in_ok-filled.ensures.items)
    (c.in_ok-add.ensures [] nil refl (no_fields 4 c.new-2.result.items c.new-2.ensures.items) (none_held (record { rows = c.new.result }) c.new.ensures.items))))
