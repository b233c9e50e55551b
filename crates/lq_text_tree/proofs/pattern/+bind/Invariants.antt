use Rattle.std.proofs.Common.{◌≡◌, nat_eq, map, drop}
use Rattle.indexmap.specs.IndexSet.{insert_all}
use Rattle.lq_text_tree.specs.Pattern.{bound_in_all}
use Rattle.lq_text_tree.specs.PatternView.{pat_view, pats_view, patterns_of}
use Rattle.lq_text_tree.proofs.pattern.+bind.Given as goal

abbrev pub invariant-Pats::bind-loop-p : goal.invariant-Pats::bind-loop-p
invariant-Pats::bind-loop-p g l =
    insert_all nat_eq l.bound.keys (bound_in_all (patterns_of (map (pat_view _ g.B.Ident.number) (drop l.p-index l.p-items)))) ≡ insert_all nat_eq l.fn.bound.keys (bound_in_all (pats_view _ g.B.Ident.number l.self))
