-- What a match looks at, by whether it is a variable.
use Rattle.std.proofs.Common.{◌≡◌, ℕ, true, false, List, [], ◌∷◌, Option, Some, None, refl, sym, ap, ◌∙◌}
use Rattle.lq_base_names.specs.declared.name.Binder.{Binder}
use Rattle.lq_base_names.specs.declared.place.Place.{Place}
use Rattle.lq_text_tree.specs.Tree as form
use Rattle.lq_text_tree.specs.Tree.{Tree, tree, Form}
use Rattle.lq_text_tree.specs.TreeView.{scoped_view, form_view}
use Rattle.lq_text_tree.specs.declared.expr.Expr.{Expr, out-Expr}
use Rattle.lq_text_walk.specs.Walk.Shape.{shape_of}
use Rattle.lq_meaning_normal_form.specs.Outcomes.Naming.{is_use_form, id_of, place_of}
use Rattle.lq_meaning_normalize.specs.Pass.Forming.{Formed, FormedRow, named, operation}
use Rattle.lq_meaning_normalize.specs.Normalize.Frames.{looked_at, one_part, variable_in}
use Rattle.lq_meaning_normalize.proofs.NormalizeLemmas.Shapes.{tree_seen}
use Rattle.lq_meaning_normalize.proofs.NormalizeLemmas.Steps.{if_false}

variable_is : (f : Form) (x : ℕ) → variable_in (shape_of f) ≡ Some x → f ≡ form.use_of x
variable_is (form.use_of y) x e = cc
variable_is _ x e = cc

no_variable : (f : Form) → variable_in (shape_of f) ≡ None → is_use_form f ≡ false
no_variable (form.use_of y) e = cc
no_variable _ e = refl

abbrev node_of : Expr Binder → Form
node_of e = form_view Binder (λ b. b.0) (out-Expr Binder e).node
