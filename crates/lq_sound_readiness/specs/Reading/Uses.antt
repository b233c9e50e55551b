-- Uses of names that are in scope, at the types that an annotation gives them.
use Rattle.std.specs.Prelude.{◌≡◌, ◌⊎◌, ℕ, List, [], ◌∷◌, ◌++◌, Option, Some, None}
use Rattle.lq_text_tree.specs.Items.{ItemTree, ItemForm, type_of, let_of, let_rec_of}
use Rattle.lq_text_tree.specs.MlType.{MlType, MlTypes}
use Rattle.lq_text_tree.specs.Pattern.{bound_in}
use Rattle.lq_text_tree.specs.Tree as form
use Rattle.lq_text_tree.specs.Tree.{Tree, tree, Form, Trees, no_trees, more_trees, Cases, no_cases, more_cases}
use Rattle.lq_text_tree.specs.Types.{put, type_at}
use Rattle.lq_refined_templates.specs.Points.Annotation.{Annotation, arguments_at, type_of_form}

abbrev pub IsAmong : List ℕ → ℕ → Type 0
IsAmong [] x = ⊥
IsAmong (y ∷ ys) x = (y ≡ x) ⊎ IsAmong ys x

-- a type with types for its variables, where there are some
abbrev pub instance_by : Option MlTypes → MlType → MlType
instance_by None a = a
instance_by (Some ts) a = put (type_at ts) a

-- Each use is of a name in scope, and has the name's type, or the instance of it that the annotation gives at this node. A match has the type
-- of its node.
module _ (n : Annotation) where
  abbrev mutual
    pub UsesFit : List ℕ → Tree → Type 0
    UsesFit xs (tree i l f) = UsesFitForm xs i f

    pub UsesFitForm : List ℕ → ℕ → Form → Type 0
    UsesFitForm xs i (form.use_of x) = IsAmong xs x × (n.types i ≡ instance_by (arguments_at n i x) (n.names x))
    UsesFitForm xs i (form.fun q b) = UsesFit (bound_in q ++ xs) b
    UsesFitForm xs i (form.tuple es) = AllUsesFit xs es
    UsesFitForm xs i (form.build c w es) = AllUsesFit xs es
    UsesFitForm xs i (form.list_of es) = AllUsesFit xs es
    UsesFitForm xs i (form.let_in q e b) = UsesFit xs e × UsesFit (bound_in q ++ xs) b
    UsesFitForm xs i (form.let_rec f j m q b e) = UsesFit (bound_in q ++ f ∷ xs) b × UsesFit (f ∷ xs) e
    UsesFitForm xs i (form.call f a) = UsesFit xs f × UsesFit xs a
    UsesFitForm xs i (form.arithmetic o a b) = UsesFit xs a × UsesFit xs b
    UsesFitForm xs i (form.negated a) = UsesFit xs a
    UsesFitForm xs i (form.compare o a b) = UsesFit xs a × UsesFit xs b
    UsesFitForm xs i (form.not_of a) = UsesFit xs a
    UsesFitForm xs i (form.and_of a b) = UsesFit xs a × UsesFit xs b
    UsesFitForm xs i (form.or_of a b) = UsesFit xs a × UsesFit xs b
    UsesFitForm xs i (form.if_else c a b) = UsesFit xs c × UsesFit xs a × UsesFit xs b
    UsesFitForm xs i (form.match_on e cs) = (type_of_form n i (form.match_on e cs) ≡ n.types i) × UsesFit xs e × CaseUsesFit xs cs
    UsesFitForm xs i (form.chain es) = AllUsesFit xs es
    UsesFitForm xs i (form.assert e) = UsesFit xs e
    UsesFitForm xs i (form.make a b) = UsesFit xs a × UsesFit xs b
    UsesFitForm xs i (form.length_of a) = UsesFit xs a
    UsesFitForm xs i (form.fetch a b) = UsesFit xs a × UsesFit xs b
    UsesFitForm xs i (form.store a b c) = UsesFit xs a × UsesFit xs b × UsesFit xs c
    UsesFitForm xs i (form.print e) = UsesFit xs e
    UsesFitForm xs i (form.read e) = UsesFit xs e
    UsesFitForm xs i (form.map_add a b c) = UsesFit xs a × UsesFit xs b × UsesFit xs c
    UsesFitForm xs i (form.map_find a b) = UsesFit xs a × UsesFit xs b
    UsesFitForm xs i f = Unit {0}

    pub AllUsesFit : List ℕ → Trees → Type 0
    AllUsesFit xs no_trees = Unit {0}
    AllUsesFit xs (more_trees e es) = UsesFit xs e × AllUsesFit xs es

    pub CaseUsesFit : List ℕ → Cases → Type 0
    CaseUsesFit xs no_cases = Unit {0}
    CaseUsesFit xs (more_cases q b cs) = UsesFit (bound_in q ++ xs) b × CaseUsesFit xs cs

  -- a definition may use the names of those before it
  abbrev pub ItemUsesFit : List ℕ → ItemForm → (List ℕ → Type 0) → Type 0
  ItemUsesFit xs (type_of d) rest = rest xs
  ItemUsesFit xs (let_of q e) rest = UsesFit xs e × rest (bound_in q ++ xs)
  ItemUsesFit xs (let_rec_of f r) rest = UsesFit (bound_in r.parameter ++ f ∷ xs) r.body × rest (f ∷ xs)

  abbrev pub ItemsUsesFit : List ℕ → List ItemTree → Type 0
  ItemsUsesFit xs [] = Unit {0}
  ItemsUsesFit xs (i ∷ is) = ItemUsesFit xs i.form (λ ys. ItemsUsesFit ys is)
