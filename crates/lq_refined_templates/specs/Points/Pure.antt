-- Pure expressions, as the typing rules have them, with the points of their uses of generalised names.
use Rattle.std.specs.Prelude.{ℕ, ◌+◌, List, [], ◌∷◌, ◌++◌, length, Option, Some, None}
use Rattle.lq_refined_rules.specs.Checks.Tree as t
use Rattle.lq_refined_rules.specs.Checks.Tree.{Use, Pure}
use Rattle.lq_base_names.specs.declared.operation.ArithOp.{ArithOp}
use Rattle.lq_base_names.specs.declared.operation.ArithOp.TheVariants as op
use Rattle.lq_text_tree.specs.MlType.{MlTypes}
use Rattle.lq_text_tree.specs.Tree as form
use Rattle.lq_text_tree.specs.Tree.{Tree, tree, Form, Trees, no_trees, more_trees}
use Rattle.lq_refined_templates.specs.Points.Annotation.{Annotation, arguments_at}
use Rattle.lq_refined_templates.specs.Points.Point.{Point, each}
use Rattle.lq_refined_templates.specs.Points.Seen.{Seen, scope_at}

-- what was read, and its points in the order of their numbers
pub record Read (A : Type 0) : Type 0 where
  pub read : A
  pub points : List Point

abbrev pub without_points : {A : Type 0} → A → Read A
without_points x = record { read = x; points = [] }

-- the next point, where what was read has its points from k on
abbrev pub after : {A : Type 0} → ℕ → Read A → ℕ
after k x = k + length x.points

abbrev pub with_one : {A B : Type 0} → Read A → (A → B) → Read B
with_one x make = record { read = make x.read; points = x.points }

abbrev pub with_two : {A B C : Type 0} → Read A → Read B → (A → B → C) → Read C
with_two x y make = record { read = make x.read y.read; points = x.points ++ y.points }

-- quotients aren't pure, and stand in no pure expression
abbrev pub arithmetic_of : ArithOp → Pure → Pure → Pure
arithmetic_of op.Add a b = t.add a b
arithmetic_of op.Sub a b = t.subtract a b
arithmetic_of op.Mul a b = t.multiply a b
arithmetic_of op.Div a b = t.unit
arithmetic_of op.Mod a b = t.unit

module _ (n : Annotation) (Δ : List Seen) where
  abbrev pub use_with : ℕ → ℕ → ℕ → Option MlTypes → Read Use
  use_with k i x None = without_points record { name = x; type_arguments = None }
  use_with k i x (Some ts) = record { read = record { name = x; type_arguments = Some k }; points = each (scope_at n Δ i) ts ∷ [] }

  -- a use of x at the node i, where k is the next point
  abbrev pub use_at : ℕ → ℕ → ℕ → Read Use
  use_at k i x = use_with k i x (arguments_at n i x)

  -- an operand that is a variable
  abbrev pub variable_form : ℕ → ℕ → Form → Read Use
  variable_form k i (form.use_of x) = use_at k i x
  variable_form k i _ = without_points record { name = 0; type_arguments = None }

  abbrev pub variable_of : ℕ → Tree → Read Use
  variable_of k (tree i p f) = variable_form k i f

  -- from the point k on; what isn't pure stands nowhere here, and is read as `()`
  abbrev mutual
    pub pure_of : ℕ → Tree → Read Pure
    pure_of k (tree i p f) = pure_form k i f

    pub pure_form : ℕ → ℕ → Form → Read Pure
    pure_form k i (form.whole z) = without_points (t.whole z)
    pure_form k i (form.flag b) = without_points (t.flag b)
    pure_form k i (form.use_of x) = with_one (use_at k i x) t.use_of
    pure_form k i (form.arithmetic o a b) = let x = pure_of k a in with_two x (pure_of (after k x) b) (arithmetic_of o)
    pure_form k i (form.negated a) = with_one (pure_of k a) t.negated
    pure_form k i (form.compare o a b) = let x = pure_of k a in with_two x (pure_of (after k x) b) (t.compare o)
    pure_form k i (form.not_of a) = with_one (pure_of k a) t.not_of
    pure_form k i (form.and_of a b) = let x = pure_of k a in with_two x (pure_of (after k x) b) t.and_of
    pure_form k i (form.or_of a b) = let x = pure_of k a in with_two x (pure_of (after k x) b) t.or_of
    pure_form k i (form.length_of a) = with_one (pure_of k a) t.length_of
    pure_form k i _ = without_points t.unit

  abbrev pub pures_of : ℕ → Trees → Read (List Pure)
  pures_of k no_trees = without_points []
  pures_of k (more_trees e es) = let x = pure_of k e in with_two x (pures_of (after k x) es) (λ y ys. y ∷ ys)
