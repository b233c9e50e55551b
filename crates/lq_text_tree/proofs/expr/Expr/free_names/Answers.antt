use Rattle.std.proofs.Common.{◌≡◌, List, [], ℕ, map, IfOk, subst, ap, ◌∙◌}
use Rattle.lq_text_tree.specs.Finding.{found_in}
use Rattle.lq_text_tree.specs.FreeNames.{free_names}
use Rattle.lq_text_tree.specs.TreeView.{tree_view}
use Rattle.lq_text_tree.proofs.Frees.{found-free_names}
use Rattle.lq_text_tree.proofs.expr.Expr.free_names.Goals as goal

pub returns : goal.returns
returns g c =
    let tree = tree_view _ g.B.Ident.number c.args.self.now in
    let P : List ℕ → Type 0 = λ ks. IfOk c.numbered.result (λ names. map g.B.Ident.number names ≡ ks) in
    let all : c.find_free.new.found.keys ≡ free_names tree =
    c.in_ok-find_free.ensures.found
    ∙ ap (λ b. found_in b c.new-found.result.keys tree) c.new-bound.ensures.empty
    ∙ ap (λ f. found_in [] f tree) c.new-found.ensures.empty
    ∙ found-free_names tree
    in
    subst P all c.numbered.ensures
