-- Scopes and pure expressions are read alike under both annotations.
use Rattle.std.proofs.Common.{◌≡◌, ◌∙◌, ℕ, cond, List, [], ◌∷◌, ◌++◌, Option, Some, None, refl, ap, ap₂}
use Rattle.lq_refined_instances.specs.Scopes.{Scope}
use Rattle.lq_refined_types.specs.Types.Operations.{symbol_of}
use Rattle.lq_text_qualifiers.specs.Faults.Shapes.{shape_of}
use Rattle.lq_refined_templates.specs.Templates.Scopes.{with_symbol}
use Rattle.lq_text_tree.specs.MlType.{MlType, MlTypes}
use Rattle.lq_text_tree.specs.Tree as form
use Rattle.lq_text_tree.specs.Tree.{Tree, tree, Form, Trees, no_trees, more_trees}
use Rattle.lq_refined_rules.specs.Checks.Tree as t
use Rattle.lq_refined_rules.specs.Checks.Tree.{Pure}
use Rattle.lq_refined_templates.specs.Points.Annotation.{Annotation, arguments_at, is_other_text}
use Rattle.lq_refined_templates.specs.Points.Point.{each}
use Rattle.lq_refined_templates.specs.Points.Pure.{Read, after, arithmetic_of, pure_form, pure_of, pures_of, use_at, use_with, variable_form, variable_of, with_one, with_two}
use Rattle.lq_refined_templates.specs.Points.Seen.{Seen, names_at, scope_at, symbols_of}
use Rattle.lq_generate_reading.specs.SourceNames.Laws.{AgreesOnTexts, with_names}

-- what is made of a first part, and of a second one that is read from behind it
pub then_same : {A B C : Type 0} (behind : A → ℕ) (make : A → B → C) {x y : A} {f g : ℕ → B} → x ≡ y → ((k : ℕ) → f k ≡ g k)
    → make x (f (behind x)) ≡ make y (g (behind y))
then_same behind make {x} {y} {f} {g} e h = ap (λ (z : _). make z (f (behind z))) e ∙ ap (make y) (h (behind y))

abbrev pub with_three : {A B C D : Type 0} → Read A → Read B → Read C → (A → B → C → D) → Read D
with_three x y z make = record { read = make x.read y.read z.read; points = x.points ++ (y.points ++ z.points) }

pub one_same : {A B : Type 0} (make : A → B) {x y : Read A} → x ≡ y → with_one x make ≡ with_one y make
one_same make e = ap (λ (z : Read _). with_one z make) e

pub two_same : {A B C : Type 0} (k : ℕ) (make : A → B → C) {x y : Read A} {f g : ℕ → Read B} → x ≡ y → ((j : ℕ) → f j ≡ g j)
    → with_two x (f (after k x)) make ≡ with_two y (g (after k y)) make
two_same k make e h = then_same (after k) (λ (x : Read _) (y : Read _). with_two x y make) e h

pub three_same : {A B C D : Type 0} (k : ℕ) (make : A → B → C → D) {x y : Read A} {f g : ℕ → Read B} {u v : ℕ → Read C} → x ≡ y → ((j : ℕ) → f j ≡ g j)
    → ((j : ℕ) → u j ≡ v j)
    → with_three x (f (after k x)) (u (after (after k x) (f (after k x)))) make ≡ with_three y (g (after k y)) (v (after (after k y) (g (after k y)))) make
three_same {A = A} {B = B} {C = C} {D = D} k make {f = f} {g = g} {u = u} {v = v} e h w =
    let behind : B → C → A → D = λ b c a. make a b c in
    then_same (after k) (λ (x : Read A) (y : Read (A → D)). with_two x y (λ (a : A) (rest : A → D). rest a)) {f = λ j. with_two (f j) (u (after j (f j))) behind}
    {g = λ j. with_two (g j) (v (after j (g j))) behind} e (λ j. two_same j behind (h j) w)

module _ (n : Annotation) (names : ℕ → MlType) (agree : AgreesOnTexts n names) where
  abbrev pub m : Annotation
  m = with_names n names

  symbols_same : (xs : List ℕ) → symbols_of m xs ≡ symbols_of n xs
  symbols_same [] = refl
  symbols_same (x ∷ xs) = ap₂ (λ (Γ Δ : Scope). Γ ++ Δ) (by (n.text x) refl) (symbols_same xs)
    where
      by : (s : Option ℕ) → n.text x ≡ s
          → cond (is_other_text n.value s) (with_symbol (symbol_of x) (shape_of (names x)) []) []
          ≡ cond (is_other_text n.value s) (with_symbol (symbol_of x) (shape_of (n.names x)) []) []
      by None e = refl
      by (Some s) e = ap (λ (a : MlType). cond (is_other_text n.value (Some s)) (with_symbol (symbol_of x) (shape_of a) []) []) (agree x s e)

  pub scope_same : (Δ : List Seen) (i : ℕ) → scope_at m Δ i ≡ scope_at n Δ i
  scope_same Δ i = symbols_same (names_at n Δ i)

  module _ (Δ : List Seen) where
    use_with_same : (k i x : ℕ) (ts : Option MlTypes) → use_with m Δ k i x ts ≡ use_with n Δ k i x ts
    use_with_same k i x None = refl
    use_with_same k i x (Some ts) = ap (λ (Γ : Scope). record { read = record { name = x; type_arguments = Some k }; points = each Γ ts ∷ [] }) (scope_same Δ i)

    use_same : (k i x : ℕ) → use_at m Δ k i x ≡ use_at n Δ k i x
    use_same k i x = use_with_same k i x (arguments_at n i x)

    variable_form_same : (k i : ℕ) (f : Form) → variable_form m Δ k i f ≡ variable_form n Δ k i f
    variable_form_same k i (form.use_of x) = use_same k i x
    variable_form_same k i _ = refl

    pub variable_same : (k : ℕ) (e : Tree) → variable_of m Δ k e ≡ variable_of n Δ k e
    variable_same k (tree i l f) = variable_form_same k i f

    mutual
      pub pure_same : (k : ℕ) (e : Tree) → pure_of m Δ k e ≡ pure_of n Δ k e
      pure_same k (tree i l f) = pure_form_same k i f

      pub pure_form_same : (k i : ℕ) (f : Form) → pure_form m Δ k i f ≡ pure_form n Δ k i f
      pure_form_same k i (form.use_of x) = one_same t.use_of (use_same k i x)
      pure_form_same k i (form.arithmetic o a b) = two_same k (arithmetic_of o) (pure_same k a) (λ j. pure_same j b)
      pure_form_same k i (form.negated a) = one_same t.negated (pure_same k a)
      pure_form_same k i (form.compare o a b) = two_same k (t.compare o) (pure_same k a) (λ j. pure_same j b)
      pure_form_same k i (form.not_of a) = one_same t.not_of (pure_same k a)
      pure_form_same k i (form.and_of a b) = two_same k t.and_of (pure_same k a) (λ j. pure_same j b)
      pure_form_same k i (form.or_of a b) = two_same k t.or_of (pure_same k a) (λ j. pure_same j b)
      pure_form_same k i (form.length_of a) = one_same t.length_of (pure_same k a)
      pure_form_same k i _ = refl

    pub pures_same : (k : ℕ) (es : Trees) → pures_of m Δ k es ≡ pures_of n Δ k es
    pures_same k no_trees = refl
    pures_same k (more_trees e es) = two_same k (λ (y : Pure) (ys : List Pure). y ∷ ys) (pure_same k e) (λ j. pures_same j es)
