-- What a refusal tells.
use Rattle.std.specs.Prelude.{ℕ}
use Rattle.lq_base_names.specs.declared.name.Binder.{Binder}
use Rattle.lq_base_names.specs.declared.place.Place.{Place}
use Rattle.lq_text_tree.specs.Items.{item_view}
use Rattle.lq_text_tree.specs.declared.item.Item.{Item}
use Rattle.lq_types_rules.specs.Typings.Principal.{weak_place}
use Rattle.lq_types_infer.specs.declared.annotation.refusals.Large.{Large}

abbrev pub large_view : Large → Place × ℕ
large_view l = (l.place, l.size)

-- the place that is told of a weak definition
abbrev pub place_of : Item Binder → Place
place_of i = let t = item_view Binder (λ b. b.0) i in weak_place t.form t.place
