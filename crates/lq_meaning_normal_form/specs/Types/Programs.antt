-- Programs in normal form, by the one pass over expressions, and when they obey the rules of types.
use Rattle.std.specs.Prelude.{◌≡◌, ℕ, List, [], ◌∷◌, ◌++◌}
use Rattle.lq_text_tree.specs.Items.{ItemTree, ItemForm, type_of, let_of, let_rec_of}
use Rattle.lq_text_tree.specs.MlType.{MlType}
use Rattle.lq_text_tree.specs.Types.{Signature, Scheme, plain, general, Names}
use Rattle.lq_text_tree.specs.TypingRules.{Annotation, Covers, IsTyped, ItemPatternIs, named}
use Rattle.lq_meaning_steps.specs.Model.FromTree.{items_of}
use Rattle.lq_meaning_normal_form.specs.Outcomes.Naming.{behind, parameter}
use Rattle.lq_meaning_normal_form.specs.Outcomes.OnePass.{body_under, normal, tree_of}
use Rattle.lq_meaning_normal_form.specs.Types.Made.{Given, domain, made, parameter_made}
use Rattle.lq_meaning_normal_form.specs.Types.Typing.{TakesAndGives, typing_of, used_by}

-- ---- normal forms, and the types of the names that are made

abbrev pub normal_item : ℕ → ItemForm → ItemForm
normal_item k (type_of d) = type_of d
normal_item k (let_of q e) = let_of q (tree_of (normal k e))
normal_item k (let_rec_of f r) =
    let body = tree_of (body_under k r.parameter (normal (behind k r.parameter) r.body)) in
    let_rec_of f (record { id = r.id; place = r.place; parameter = parameter k r.parameter; body = body })

abbrev pub next_item : ℕ → ItemForm → ℕ
next_item k (type_of d) = k
next_item k (let_of q e) = (normal k e).next
next_item k (let_rec_of f r) = (normal (behind k r.parameter) r.body).next

abbrev pub normal_items : ℕ → List ItemTree → List ItemTree
normal_items k [] = []
normal_items k (i ∷ is) = record { place = i.place; form = normal_item k i.form } ∷ normal_items (next_item k i.form) is

-- the made name behind the last one
abbrev pub next_items : ℕ → List ItemTree → ℕ
next_items k [] = k
next_items k (i ∷ is) = next_items (next_item k i.form) is

module _ (g : Signature) (nodes : ℕ → MlType) where
  abbrev pub item_made : ℕ → ItemForm → Given
  item_made k (type_of d) = []
  item_made k (let_of q e) = made g nodes k e
  item_made k (let_rec_of f r) = parameter_made g k r.parameter (domain (nodes r.id)) ++ made g nodes (behind k r.parameter) r.body

  abbrev pub items_made : ℕ → List ItemTree → Given
  items_made k [] = []
  items_made k (i ∷ is) = item_made k i.form ++ items_made (next_item k i.form) is

-- ---- the rules

module _ (g : Signature) (n : Annotation) where
  -- the scheme is the type alone, or the type for variables that stay fixed where names before have them
  abbrev pub IsSchemeOf : Names → MlType → Scheme → Type 0
  IsSchemeOf ns a (plain b) = b ≡ a
  IsSchemeOf ns a (general fixed b) = (b ≡ a) × Covers fixed ns

  -- A definition obeys the rules under the names of those before it, and so does what follows, under the names that are left to it.
  abbrev pub NormalItemIs : Names → ItemForm → (Names → Type 0) → Type 0
  NormalItemIs ns (type_of d) rest = rest ns
  NormalItemIs ns (let_of q e) rest =
      let T = typing_of g n (used_by n ns) e in
      (s : Scheme) × IsSchemeOf ns T.type s × ItemPatternIs n q T.type × T.obeys × rest (named q s ns)
  NormalItemIs ns (let_rec_of f r) rest =
      let T = typing_of g n (used_by n ns) r.body in
      (fixed : List ℕ) × Covers fixed ns × (n.nodes r.id ≡ n.binders f) × TakesAndGives g n (used_by n ns) r.parameter T.type (n.nodes r.id) × T.obeys
      × rest ((f, general fixed (n.binders f)) ∷ ns)

  abbrev pub NormalItemsAre : Names → List ItemTree → Type 0
  NormalItemsAre ns [] = Unit {0}
  NormalItemsAre ns (i ∷ is) = NormalItemIs ns i.form (λ ms. NormalItemsAre ms is)

-- ---- the source

-- The definitions have types: an annotation of them, behind definitions of datatypes alone, obeys the rules.
abbrev pub HaveTypes : List ItemTree → Type 0
HaveTypes is = (n : Annotation) × (types : List ItemTree) × (items_of types ≡ []) × IsTyped n (types ++ is)
