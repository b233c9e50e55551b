-- The normal form of a program's definitions obeys the rules of types.
use Rattle.std.proofs.Common.{◌≡◌, ℕ, ◌<◌, List, [], ◌∷◌, inl, refl, sym, ◌∙◌, subst}
use Rattle.lq_text_tree.specs.Items.{ItemTree, ItemForm, type_of, let_of, let_rec_of}
use Rattle.lq_text_tree.specs.MlType.{MlType}
use Rattle.lq_text_tree.specs.Pattern.{Pattern, pattern, any, bind, nothing, tuple_of, build_of, bound_in}
use Rattle.lq_text_tree.specs.Tree.{Tree}
use Rattle.lq_text_tree.specs.Types.{Signature, KnowsLists, Scheme, plain, general, Names}
use Rattle.lq_text_tree.specs.TypingRules.{Annotation, DefinesBy, ItemIs, ItemPatternIs, ItemsAre, named, type_in}
use Rattle.lq_meaning_normal_form.specs.Outcomes.Naming.{behind}
use Rattle.lq_meaning_normal_form.specs.Outcomes.OnePass.{normal, tree_of}
use Rattle.lq_meaning_normal_form.specs.Types.Laws.{ProgramsKeepGivenTypes, ProgramsKeepTypes}
use Rattle.lq_meaning_normal_form.specs.Types.Made.{Gives, domain, made, parameter_made, with_made}
use Rattle.lq_meaning_normal_form.specs.Types.Plain.{AreBelow, ItemIsPlain, ItemsArePlain}
use Rattle.lq_meaning_normal_form.specs.Types.Programs.{IsSchemeOf, NormalItemIs, NormalItemsAre, item_made, items_made, next_item, next_items, normal_item, normal_items}
use Rattle.lq_meaning_normal_form.specs.Types.Typing.{typing_of, used_by}
use Rattle.lq_meaning_normal_form.proofs.TypesLemmas.Given.{all-run, agrees-below, gives-made}
use Rattle.lq_meaning_normal_form.proofs.TypesLemmas.Keeps.{function-keeps, keeps, within-itself, within-one}
use Rattle.lq_meaning_normal_form.proofs.TypesLemmas.Parts.{gives-both, tree-good}

module _ (g : Signature) (n : Annotation) (binders : ℕ → MlType) (top : ℕ) (agree : (x : ℕ) → x < top → binders x ≡ n.binders x) (lists : KnowsLists g) where
  abbrev m : Annotation
  m = record { nodes = n.nodes; binders = binders }

  scheme-of : (ns : Names) (e : Tree) (a b : MlType) (s : Scheme) → a ≡ b → DefinesBy ns e b s → IsSchemeOf g m ns a s
  scheme-of ns e a b (plain c) same h = h.0 ∙ sym same
  scheme-of ns e a b (general fixed c) same h = (h.0 ∙ sym same, h.2)

  item-pattern : (q : Pattern) (a b : MlType) → AreBelow top (bound_in q) → b ≡ a → ItemPatternIs n q a → ItemPatternIs m q b
  item-pattern (pattern p any) a b low same h = tt
  item-pattern (pattern p (bind x)) a b low same h = agree x low.0 ∙ (h ∙ sym same)
  item-pattern (pattern p nothing) a b low same h = same ∙ h
  item-pattern (pattern p (tuple_of qs)) a b low same h = h
  item-pattern (pattern p (build_of c o qs)) a b low same h = h

  item-keeps : (f : ItemForm) (k : ℕ) (ns : Names) (rest later : Names → Type 0) → ((ms : Names) → rest ms → later ms) → ItemIsPlain top f
      → ItemIs g n ns f rest → Gives m (item_made g n.nodes k f) → NormalItemIs g m ns (normal_item k f) later
  item-keeps (type_of d) k ns rest later after fine h given = after ns h
  item-keeps (let_of q e) k ns rest later after fine h given =
      let used = used_by m ns in
      let T = tree-good g m used (normal k e) (type_in n e)
      (keeps g n binders top agree used lists (λ x. inl refl) e ns k (within-itself m ns) fine.1 h.3 given) in
      let scheme = scheme-of ns e (typing_of g m used (tree_of (normal k e))).type (type_in n e) h.0 T.1 h.1 in
      (h.0, scheme, item-pattern q (type_in n e) (typing_of g m used (tree_of (normal k e))).type fine.0 T.1 h.2, T.0, after (named q h.0 ns) h.4)
  item-keeps (let_rec_of f r) k ns rest later after fine h given =
      let used = used_by m ns in let q = r.parameter in let ms = (f, plain (n.binders f)) ∷ ns in
      let both = gives-both m (parameter_made g k q (domain (n.nodes r.id))) (made g n.nodes (behind k q) r.body) given in
      let w = within-one g n binders top agree used lists (λ x. inl refl) f ns fine.1.0 (within-itself m ns) in
      let F = function-keeps g n binders top agree used lists (λ x. inl refl) q r.body k (n.nodes r.id)
      (keeps g n binders top agree used lists (λ x. inl refl) r.body) ms w fine.0 fine.1.1 fine.2 (h.1, h.3 ∙ h.4, h.5) h.6 both.0 both.1 in
      let same = sym (agree f fine.1.0) in
      (h.0, h.2, h.3 ∙ same, F.0, F.1, subst (λ a. later ((f, general h.0 a) ∷ ns)) same (after ((f, general h.0 (n.binders f)) ∷ ns) h.7))

  items-keep : (is : List ItemTree) (k : ℕ) (ns : Names) → ItemsArePlain top is → ItemsAre g n ns is → Gives m (items_made g n.nodes k is)
      → NormalItemsAre g m ns (normal_items k is)
  items-keep [] k ns fine h given = tt
  items-keep (i ∷ is) k ns fine h given =
      let j = next_item k i.form in
      let both = gives-both m (item_made g n.nodes k i.form) (items_made g n.nodes j is) given in
      item-keeps i.form k ns (λ ms. ItemsAre g n ms is) (λ ms. NormalItemsAre g m ms (normal_items j is))
      (λ ms rest. items-keep is j ms fine.1 rest both.1) fine.0 h both.0

pub keep-types-of-programs : ProgramsKeepTypes
keep-types-of-programs g n k is lists fine h =
    let xs = items_made g n.nodes k is in let m = with_made k xs n in
    items-keep g n m.binders k (agrees-below n xs k) lists is k [] fine h (gives-made n xs k (next_items k is) (all-run g n.nodes is k))

pub keep-given-types-of-programs : ProgramsKeepGivenTypes
keep-given-types-of-programs g n k is lists fine h given = items-keep g n n.binders k (λ x low. refl) lists is k [] fine h given
