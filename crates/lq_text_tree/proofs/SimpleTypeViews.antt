-- A simple type, level by level.
use Rattle.std.proofs.Common.{◌≡◌, ℕ, ◌≤◌, List, map, take, length, sym, ap, ◌∙◌}
use Rattle.std.specs.declared.alloc.Global.{Global}
use Rattle.std.specs.declared.vec.Vec.{Vec}
use Rattle.std.proofs.lemmas.List.{take_all}
use Rattle.lq_text_tree.specs.MlType.{MlType, MlTypes}
use Rattle.lq_text_tree.specs.SimpleTypeView.{types_of, simple_type_view, simple_types_view, simple_type_step, simple_types_step}
use Rattle.lq_text_tree.specs.declared.simple_type.SimpleType.{SimpleType}
use Rattle.lq_text_tree.specs.declared.simple_type.SimpleTypes.{SimpleTypes, out-SimpleTypes, roll-SimpleTypes, fold-roll-SimpleTypes, fold_out-SimpleTypes}

pub simple_types_copied : (v : Vec SimpleType Global) (ts : SimpleTypes) (xs : List SimpleType) (i : ℕ) → map simple_type_view v.items ≡ map simple_type_view (take i xs) → length xs ≤ i → xs ≡ (out-SimpleTypes ts).items.items → simple_types_view (roll-SimpleTypes record { items = v }) ≡ simple_types_view ts
simple_types_copied v ts xs i same past is =
    fold-roll-SimpleTypes MlType MlTypes simple_type_step simple_types_step record { items = v }
    ∙ ap types_of (same ∙ ap (map simple_type_view) (take_all i xs past ∙ is))
    ∙ sym (fold_out-SimpleTypes MlType MlTypes simple_type_step simple_types_step ts)
