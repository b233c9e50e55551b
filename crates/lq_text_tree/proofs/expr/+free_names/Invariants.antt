use Rattle.std.proofs.Common.{◌≡◌, map, drop}
use Rattle.lq_text_tree.specs.Finding.{found_in_all, found_in_cases}
use Rattle.lq_text_tree.specs.TreeView.{case_view, cases_view, cases_of, tree_view, trees_view, trees_of}
use Rattle.lq_text_tree.proofs.expr.+free_names.Given as goal

abbrev pub invariant-Exprs::find_free-loop-e : goal.invariant-Exprs::find_free-loop-e
invariant-Exprs::find_free-loop-e g l = record {
  bound : l.bound.keys ≡ l.fn.bound.keys;
  found : found_in_all l.fn.bound.keys l.found.keys (trees_of (map (tree_view _ g.B.Ident.number) (drop l.e-index l.e-items))) ≡ found_in_all l.fn.bound.keys l.fn.found.keys (trees_view _ g.B.Ident.number l.self);
}

abbrev pub invariant-Arms::find_free-loop-arm : goal.invariant-Arms::find_free-loop-arm
invariant-Arms::find_free-loop-arm g l = record {
  bound : l.bound.keys ≡ l.fn.bound.keys;
  found : found_in_cases l.fn.bound.keys l.found.keys (cases_of (map (case_view _ g.B.Ident.number) (drop l.arm-index l.arm-items))) ≡ found_in_cases l.fn.bound.keys l.fn.found.keys (cases_view _ g.B.Ident.number l.self);
}
