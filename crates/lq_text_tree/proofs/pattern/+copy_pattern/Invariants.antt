use Rattle.std.proofs.Common.{◌≡◌, map, take}
use Rattle.lq_text_tree.specs.PatternView.{pat_view}
use Rattle.lq_text_tree.proofs.pattern.+copy_pattern.Given as goal

abbrev pub invariant-Pats::copy-loop-p : goal.invariant-Pats::copy-loop-p
invariant-Pats::copy-loop-p g l =
    map (pat_view _ g.B.Ident.number) l.items.items ≡ map (pat_view _ g.B.Ident.number) (take l.p-index l.p-items)
