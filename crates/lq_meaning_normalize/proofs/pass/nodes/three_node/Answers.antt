use Rattle.std.proofs.Common.{sym, ap, ap₂, ◌∙◌}
use Rattle.lq_meaning_normal_tree.specs.AtomView.{atom_view}
use Rattle.lq_text_tree.specs.Tree.{Tree, tree, if_else}
use Rattle.lq_text_walk.specs.Walk.View.{three_view}
use Rattle.lq_text_walk.specs.declared.walk.shape.Three.{Three}
use Rattle.lq_meaning_normalize.specs.Pass.Forming.{operates_as, three_node}
use Rattle.lq_meaning_normalize.proofs.pass.nodes.three_node.Goals as goal

pub returns-in_ok-otherwise-in-If : goal.returns-in_ok-otherwise-in-If
returns-in_ok-otherwise-in-If c =
    c.choice_node.ensures
    ∙ ap₂ (λ (t u : Tree). operates_as (tree c.args.id c.args.place (if_else (atom_view c.args.a) t u))) c.in_ok-then-in-If.ensures c.in_ok-otherwise-in-If.ensures
    ∙ ap (λ (h : Three). three_node (three_view h) c.args.id c.args.place (atom_view c.args.a) (atom_view c.args.b) (atom_view c.args.c)) (sym c.in-If.is)
