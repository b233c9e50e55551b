-- What types in memory are, form by form.
use Rattle.std.proofs.Common.{◌≡◌, ℕ, rules}
use Rattle.std.specs.declared.alloc.Global.{Global}
use Rattle.std.specs.declared.boxed.Box.{Box}
use Rattle.lq_base_names.specs.declared.name.Name.{Name}
use Rattle.lq_text_tree.specs.MlType as ml
use Rattle.lq_text_tree.specs.SimpleTypeView.{simple_type_view, simple_types_view}
use Rattle.lq_text_tree.specs.declared.simple_type.SimpleType.{SimpleType, Int, Bool, Unit, Var, Arrow, Tuple, Array, Named, Map, the_lemmas}
use Rattle.lq_text_tree.specs.declared.simple_type.SimpleTypes.{SimpleTypes}

pub int_seen : simple_type_view Int ≡ ml.int
int_seen = search (rules, the_lemmas)

pub bool_seen : simple_type_view Bool ≡ ml.bool
bool_seen = search (rules, the_lemmas)

pub unit_seen : simple_type_view Unit ≡ ml.unit
unit_seen = search (rules, the_lemmas)

pub var_seen : (n : ℕ) → simple_type_view (Var n) ≡ ml.var n
var_seen n = search (rules, the_lemmas)

pub arrow_seen : (a b : Box SimpleType Global) → simple_type_view (Arrow a b) ≡ ml.arrow (simple_type_view a.value) (simple_type_view b.value)
arrow_seen a b = search (rules, the_lemmas)

pub tuple_seen : (ts : SimpleTypes) → simple_type_view (Tuple ts) ≡ ml.tuple (simple_types_view ts)
tuple_seen ts = search (rules, the_lemmas)

pub array_seen : (a : Box SimpleType Global) → simple_type_view (Array a) ≡ ml.array (simple_type_view a.value)
array_seen a = search (rules, the_lemmas)

pub named_seen : (c : Name) (ts : SimpleTypes) → simple_type_view (Named c ts) ≡ ml.named c.0 (simple_types_view ts)
named_seen c ts = search (rules, the_lemmas)

pub map_seen : (a : Box SimpleType Global) → simple_type_view (Map a) ≡ ml.map_of (simple_type_view a.value)
map_seen a = search (rules, the_lemmas)
