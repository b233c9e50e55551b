use Rattle.std.proofs.Common.{ℕ, List, All, ◌<◌, sym, subst, ◌∙◌}
use Rattle.lq_base_names.specs.declared.name.Binder.{Binder}
use Rattle.lq_text_tree.specs.PatternView.{pat_view}
use Rattle.lq_text_tree.specs.TreeView.{tree_view, trees_view, cases_view}
use Rattle.lq_text_walk.specs.Walk.Shape.{listed, listed_cases}
use Rattle.lq_text_walk.specs.Walk.View.{row_view, shape_view}
use Rattle.lq_types_rules.specs.Equations.Adding.{Adds, count_of}
use Rattle.lq_types_rules.specs.Equations.Rows.{number_of, RowIs, FunIs, LetIs, ArmsFit, ShapeIs}
use Rattle.lq_types_rules.specs.Equations.Within.{ShapeIn}
use Rattle.lq_types_rules.proofs.EquationsLemmas.Resting.{numbers_inside}
use Rattle.lq_types_rules.proofs.equations.system.System.add_shape.Goals as goal

pub add_row_of-requires-clause-parts : goal.add_row_of-requires-clause-parts
add_row_of-requires-clause-parts c =
    let n = count_of c.args.self.now in
    let within = subst (λ s. ShapeIn c.args.nodes n (shape_view Binder (λ b. b.0) s)) c.in-Row.is c.requires.within in
    subst (λ (ps : List ℕ). All (λ p. p < n) ps) (sym (c.deref.ensures.value ∙ c.in_ok-parts-in-Row.ensures)) (numbers_inside n (listed (trees_view Binder (λ b. b.0) c.in-Row.row.now)) within)

pub returns-in_ok-add_row_of-in-Row-clause-adds : goal.returns-in_ok-add_row_of-in-Row-clause-adds
returns-in_ok-add_row_of-in-Row-clause-adds c = λ g h.
    subst (λ s. Adds c.args.self.now c.add_row_of.new.self (ShapeIs g c.args.nodes (shape_view Binder (λ b. b.0) s) c.args.at)) (sym c.in-Row.is)
    (subst (λ (ps : List ℕ). Adds c.args.self.now c.add_row_of.new.self (RowIs g (row_view c.in-Row.head) ps c.args.at)) (c.deref.ensures.value ∙ c.in_ok-parts-in-Row.ensures) (c.in_ok-add_row_of-in-Row.ensures.adds g h))

pub returns-in_ok-add_function-in-Fun-clause-adds : goal.returns-in_ok-add_function-in-Fun-clause-adds
returns-in_ok-add_function-in-Fun-clause-adds c = λ g h.
    subst (λ s. Adds c.args.self.now c.add_function.new.self (ShapeIs g c.args.nodes (shape_view Binder (λ b. b.0) s) c.args.at)) (sym c.in-Fun.is)
    (subst (λ (b : ℕ). Adds c.args.self.now c.add_function.new.self (FunIs g c.args.nodes (pat_view Binder (λ b. b.0) c.in-Fun.parameter.now) b c.args.at)) c.number_of-in-Fun.ensures (c.in_ok-add_function-in-Fun.ensures.adds g h))

pub returns-in_ok-add_let-in-Let-clause-adds : goal.returns-in_ok-add_let-in-Let-clause-adds
returns-in_ok-add_let-in-Let-clause-adds c = λ g h.
    let q = pat_view Binder (λ b. b.0) c.in-Let.pattern.now in
    subst (λ s. Adds c.args.self.now c.add_let.new.self (ShapeIs g c.args.nodes (shape_view Binder (λ b. b.0) s) c.args.at)) (sym c.in-Let.is)
    (subst (λ (e : ℕ). Adds c.args.self.now c.add_let.new.self (LetIs g c.args.nodes q e (number_of (tree_view Binder (λ b. b.0) c.in-Let.body.now)) c.args.at)) c.number_of-bound.ensures
    (subst (λ (b : ℕ). Adds c.args.self.now c.add_let.new.self (LetIs g c.args.nodes q c.number_of-bound.result b c.args.at)) c.number_of-body.ensures (c.in_ok-add_let-in-Let.ensures.adds g h)))

pub returns-in_ok-add_match-in-Match-clause-adds : goal.returns-in_ok-add_match-in-Match-clause-adds
returns-in_ok-add_match-in-Match-clause-adds c = λ g h.
    let cs = listed_cases (cases_view Binder (λ b. b.0) c.in-Match.arms.now) in
    subst (λ s. Adds c.args.self.now c.add_match.new.self (ShapeIs g c.args.nodes (shape_view Binder (λ b. b.0) s) c.args.at)) (sym c.in-Match.is)
    (subst (λ (m : ℕ). Adds c.args.self.now c.add_match.new.self (ArmsFit g c.args.nodes cs m c.args.at)) c.number_of-in-Match.ensures (c.in_ok-add_match-in-Match.ensures.adds g h))
