use Rattle.std.proofs.Common.{ℕ, List, ◌++◌, map, take}
use Rattle.lq_text_tree.specs.Types.{Constructor}
use Rattle.lq_text_walk.specs.Scoped.Signature.{signed}
use Rattle.lq_text_walk.specs.Scoped.Views.{constructor_view, data_view}
use Rattle.lq_generate_fresh.specs.Fresh.Defined.{Holds}
use Rattle.lq_generate_fresh.proofs.fresh.fields.Datatypes.add_datatype.Given as goal

abbrev pub invariant-loop-constructor : goal.invariant-loop-constructor
invariant-loop-constructor l =
    (ks : List (ℕ × Constructor)) → Holds l.fn.self ks
    → Holds l.self (ks ++ map (signed (data_view l.datatype)) (map constructor_view (take l.constructor-index l.datatype.constructors.items)))
