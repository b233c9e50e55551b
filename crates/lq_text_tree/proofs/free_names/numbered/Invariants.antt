use Rattle.std.proofs.Common.{◌≡◌, map, take}
use Rattle.lq_text_tree.proofs.free_names.numbered.Given as goal

abbrev pub invariant-loop-n : goal.invariant-loop-n
invariant-loop-n g l = map g.B.Ident.number l.names ≡ take l.n-index l.n-items
