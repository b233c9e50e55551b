use Rattle.std.proofs.Common.{◌≡◌, ◌+◌, map, drop}
use Rattle.lq_text_tree.specs.Items.{parameter_view}
use Rattle.lq_text_tree.specs.Signatures.{place_of}
use Rattle.lq_text_datatypes.proofs.simple.place_of.Given as goal

abbrev pub invariant-loop-at : goal.invariant-loop-at
invariant-loop-at l = place_of (map parameter_view l.parameters) l.name.0 ≡ l.at + place_of (map parameter_view (drop l.at l.parameters)) l.name.0
