-- The rule of a shape is the rule of the form.
use Rattle.std.proofs.Common.{◌≡◌, ℕ, ◌+◌, Some, None, map, refl, sym, ap, ap₂, subst, ◌∙◌, if◌then◌else◌, eq-eqb}
use Rattle.lq_text_tree.specs.MlType as ml
use Rattle.lq_text_tree.specs.MlType.{MlType, MlTypes}
use Rattle.lq_text_tree.specs.Tree as form
use Rattle.lq_text_tree.specs.Tree.{Tree, tree, Form, Trees, no_trees, more_trees, Cases, no_cases, more_cases}
use Rattle.lq_text_tree.specs.Types.{Signature, Builds, Lists, IsUsedAt, plain}
use Rattle.lq_text_tree.specs.TypingRules.{type_in, types_in, last_type, CasesFit}
use Rattle.lq_text_walk.specs.Walk.Shape.{listed, listed_cases, shape_of}
use Rattle.lq_types_rules.specs.Equations.Solutions.{each}
use Rattle.lq_types_rules.specs.Equations.Rows.{annotation_of, number_of, last_of, ArmsFit, ShapeIs, NodeIs}

module _ (nodes : ℕ) (t : ℕ → MlType) where
  pub numbered : (e : Tree) → type_in (annotation_of nodes t) e ≡ t (number_of e)
  numbered (tree i p f) = refl

  numbered_all : (es : Trees) → types_in (annotation_of nodes t) es ≡ each t (map number_of (listed es))
  numbered_all no_trees = refl
  numbered_all (more_trees e es) = ap₂ ml.more_types (numbered e) (numbered_all es)

  numbered_last : (e : Tree) (es : Trees) → last_type (annotation_of nodes t) e es ≡ t (last_of (number_of e) (map number_of (listed es)))
  numbered_last e no_trees = numbered e
  numbered_last e (more_trees d es) = numbered_last d es

  arms_to : (g : Signature) (cs : Cases) (e at : ℕ) → ArmsFit g nodes (listed_cases cs) e at t → CasesFit g (annotation_of nodes t) cs (t e) (t at)
  arms_to g no_cases e at h = tt
  arms_to g (more_cases q b cs) e at h = (h.0, numbered b ∙ h.1, arms_to g cs e at h.2)

  arms_from : (g : Signature) (cs : Cases) (e at : ℕ) → CasesFit g (annotation_of nodes t) cs (t e) (t at) → ArmsFit g nodes (listed_cases cs) e at t
  arms_from g no_cases e at h = tt
  arms_from g (more_cases q b cs) e at h = (h.0, sym (numbered b) ∙ h.1, arms_from g cs e at h.2)

  pub shape_to : (g : Signature) (at : ℕ) (f : Form) → ShapeIs g nodes (shape_of f) at t → NodeIs g nodes at f t
  shape_to g at (form.whole m) r = r
  shape_to g at (form.flag b) r = r
  shape_to g at form.unit r = r
  shape_to g at (form.use_of x) r = subst (λ b. IsUsedAt (if b then Some (plain (t (nodes + x))) else None) (t at)) (sym (eq-eqb x x refl)) r
  shape_to g at (form.qualified m x) r = r
  shape_to g at (form.fun q (tree b bp bf)) r = r
  shape_to g at (form.tuple es) r = r ∙ ap ml.tuple (sym (numbered_all es))
  shape_to g at (form.build c w es) r = subst (λ ts. Builds g c ts (t at)) (sym (numbered_all es)) r
  shape_to g at (form.list_of es) r = subst (λ ts. Lists ts (t at)) (sym (numbered_all es)) r
  shape_to g at (form.let_in q (tree e ep ef) (tree b bp bf)) r = r
  shape_to g at (form.let_rec f i p q (tree b bp bf) (tree e ep ef)) r = r
  shape_to g at (form.call (tree d dp df) (tree e ep ef)) r = r
  shape_to g at (form.arithmetic o (tree d dp df) (tree e ep ef)) r = r
  shape_to g at (form.negated (tree e ep ef)) r = r
  shape_to g at (form.compare o (tree d dp df) (tree e ep ef)) r = r
  shape_to g at (form.not_of (tree e ep ef)) r = r
  shape_to g at (form.and_of (tree d dp df) (tree e ep ef)) r = r
  shape_to g at (form.or_of (tree d dp df) (tree e ep ef)) r = r
  shape_to g at (form.if_else (tree c cp cf) (tree d dp df) (tree e ep ef)) r = r
  shape_to g at (form.match_on (tree e ep ef) cs) r = arms_to g cs e at r
  shape_to g at (form.chain no_trees) r = r
  shape_to g at (form.chain (more_trees e es)) r = r ∙ sym (numbered_last e es)
  shape_to g at (form.assert (tree e ep ef)) r = r
  shape_to g at form.assert_false r = r
  shape_to g at (form.make (tree d dp df) (tree e ep ef)) r = r
  shape_to g at (form.length_of (tree e ep ef)) r = r
  shape_to g at (form.fetch (tree d dp df) (tree i ip jf)) r = r
  shape_to g at (form.store (tree d dp df) (tree i ip jf) (tree e ep ef)) r = r
  shape_to g at (form.print (tree e ep ef)) r = r
  shape_to g at (form.read (tree e ep ef)) r = r
  shape_to g at form.map_empty r = r
  shape_to g at (form.map_add (tree d dp df) (tree i ip jf) (tree e ep ef)) r = r
  shape_to g at (form.map_find (tree d dp df) (tree e ep ef)) r = r

  pub shape_from : (g : Signature) (at : ℕ) (f : Form) → NodeIs g nodes at f t → ShapeIs g nodes (shape_of f) at t
  shape_from g at (form.whole m) r = r
  shape_from g at (form.flag b) r = r
  shape_from g at form.unit r = r
  shape_from g at (form.use_of x) r = subst (λ b. IsUsedAt (if b then Some (plain (t (nodes + x))) else None) (t at)) (eq-eqb x x refl) r
  shape_from g at (form.qualified m x) r = r
  shape_from g at (form.fun q (tree b bp bf)) r = r
  shape_from g at (form.tuple es) r = r ∙ ap ml.tuple (numbered_all es)
  shape_from g at (form.build c w es) r = subst (λ ts. Builds g c ts (t at)) (numbered_all es) r
  shape_from g at (form.list_of es) r = subst (λ ts. Lists ts (t at)) (numbered_all es) r
  shape_from g at (form.let_in q (tree e ep ef) (tree b bp bf)) r = r
  shape_from g at (form.let_rec f i p q (tree b bp bf) (tree e ep ef)) r = r
  shape_from g at (form.call (tree d dp df) (tree e ep ef)) r = r
  shape_from g at (form.arithmetic o (tree d dp df) (tree e ep ef)) r = r
  shape_from g at (form.negated (tree e ep ef)) r = r
  shape_from g at (form.compare o (tree d dp df) (tree e ep ef)) r = r
  shape_from g at (form.not_of (tree e ep ef)) r = r
  shape_from g at (form.and_of (tree d dp df) (tree e ep ef)) r = r
  shape_from g at (form.or_of (tree d dp df) (tree e ep ef)) r = r
  shape_from g at (form.if_else (tree c cp cf) (tree d dp df) (tree e ep ef)) r = r
  shape_from g at (form.match_on (tree e ep ef) cs) r = arms_from g cs e at r
  shape_from g at (form.chain no_trees) r = r
  shape_from g at (form.chain (more_trees e es)) r = r ∙ numbered_last e es
  shape_from g at (form.assert (tree e ep ef)) r = r
  shape_from g at form.assert_false r = r
  shape_from g at (form.make (tree d dp df) (tree e ep ef)) r = r
  shape_from g at (form.length_of (tree e ep ef)) r = r
  shape_from g at (form.fetch (tree d dp df) (tree i ip jf)) r = r
  shape_from g at (form.store (tree d dp df) (tree i ip jf) (tree e ep ef)) r = r
  shape_from g at (form.print (tree e ep ef)) r = r
  shape_from g at (form.read (tree e ep ef)) r = r
  shape_from g at form.map_empty r = r
  shape_from g at (form.map_add (tree d dp df) (tree i ip jf) (tree e ep ef)) r = r
  shape_from g at (form.map_find (tree d dp df) (tree e ep ef)) r = r
