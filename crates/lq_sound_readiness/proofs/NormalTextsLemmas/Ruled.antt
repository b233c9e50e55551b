-- What is as texts have it, and has types, has a rule at each node.
use Rattle.std.proofs.Common.{◌≡◌, ℕ, ◌&&◌, true, List, [], ◌∷◌, ◌++◌, refl}
use Rattle.std.proofs.lemmas.Bool.{and_from}
use Rattle.lq_base_names.specs.declared.place.Place.{Place}
use Rattle.lq_text_tree.specs.Items.{ItemTree, ItemForm, type_of, let_of, let_rec_of}
use Rattle.lq_text_tree.specs.Pattern.{bound_in}
use Rattle.lq_text_tree.specs.Tree as form
use Rattle.lq_text_tree.specs.Tree.{Tree, tree, Form, Trees, no_trees, more_trees, Cases, no_cases, more_cases}
use Rattle.lq_text_tree.specs.Types.{Signature, plain, general, Names}
use Rattle.lq_text_tree.specs.TypingRules.{Annotation, TreeIs, TreesAre, CasesAre, RuleIs, PartsAre, Every, ItemIs, ItemsAre, plain_names, named}
use Rattle.lq_text_tree.specs.Signatures.{signature_of}
use Rattle.lq_text_walk.specs.Walk.Fold.{fold_all, fold_cases}
use Rattle.lq_meaning_steps.specs.Model.FromTree.{items_of, with_item}
use Rattle.lq_meaning_steps.specs.Model.Program.{Item}
use Rattle.lq_meaning_normalize.specs.Pass.Rules.{has_rules, form_has_rules, all_have_rules, cases_have_rules, item_has_rules, items_have_rules}
use Rattle.lq_sound_readiness.specs.NormalTexts.Laws.{TypedProgramsHaveRules}
use Rattle.lq_meaning_normal_form.specs.Types.Written.{Each, EachBody, IsWritten, being_written, ItemIsWritten, ItemsAreWritten}

module _ (g : Signature) (n : Annotation) where
  abbrev IsRuled : Tree → Type 0
  IsRuled t = (ns : Names) → IsWritten t → TreeIs g n Every ns t → has_rules t ≡ true

  two-ruled : (a b : Tree) → IsRuled a → IsRuled b → (ns : Names) → IsWritten a × IsWritten b → TreeIs g n Every ns a × TreeIs g n Every ns b
      → (has_rules a && has_rules b) ≡ true
  two-ruled a b go_a go_b ns h t = and_from (has_rules a) (has_rules b) (go_a ns h.0 t.0) (go_b ns h.1 t.1)

  three-ruled : (a b c : Tree) → IsRuled a → IsRuled b → IsRuled c → (ns : Names) → IsWritten a × IsWritten b × IsWritten c
      → TreeIs g n Every ns a × TreeIs g n Every ns b × TreeIs g n Every ns c → (has_rules a && (has_rules b && has_rules c)) ≡ true
  three-ruled a b c go_a go_b go_c ns h t =
      and_from (has_rules a) (has_rules b && has_rules c) (go_a ns h.0 t.0)
      (and_from (has_rules b) (has_rules c) (go_b ns h.1 t.1) (go_c ns h.2 t.2))

  mutual
    ruled : (t : Tree) → IsRuled t
    ruled (tree i p f) ns h t = form-ruled i p f ns h (t.0 tt) t.1

    form-ruled : (i : ℕ) (p : Place) (f : Form) (ns : Names) → IsWritten (tree i p f) → RuleIs g n ns f (n.nodes i) → PartsAre g n Every ns f
        → form_has_rules f ≡ true
    form-ruled i p (form.whole m) ns h r t = refl
    form-ruled i p (form.flag b) ns h r t = refl
    form-ruled i p form.unit ns h r t = refl
    form-ruled i p (form.use_of x) ns h r t = refl
    form-ruled i p (form.qualified m x) ns h r t = absurd r
    form-ruled i p (form.fun q b) ns h r t = ruled b (plain_names n (bound_in q) ++ ns) h t
    form-ruled i p (form.tuple es) ns h r t = all-ruled es ns h.1 t
    form-ruled i p (form.build c w es) ns h r t = all-ruled es ns h.1 t
    form-ruled i p (form.list_of es) ns h r t = all-ruled es ns h.1 t
    form-ruled i p (form.let_in q e b) ns h r t =
        and_from (has_rules e) (has_rules b) (ruled e ns h.1 t.0) (ruled b (plain_names n (bound_in q) ++ ns) h.2 t.1)
    form-ruled i p (form.let_rec f j m q b e) ns h r t =
        and_from (has_rules b) (has_rules e) (ruled b (plain_names n (bound_in q) ++ (f, plain (n.binders f)) ∷ ns) h.0 t.1)
        (ruled e ((f, plain (n.binders f)) ∷ ns) h.1 t.2)
    form-ruled i p (form.call a b) ns h r t = two-ruled a b (ruled a) (ruled b) ns h t
    form-ruled i p (form.arithmetic o a b) ns h r t = two-ruled a b (ruled a) (ruled b) ns h t
    form-ruled i p (form.negated a) ns h r t = ruled a ns h t
    form-ruled i p (form.compare o a b) ns h r t = two-ruled a b (ruled a) (ruled b) ns h t
    form-ruled i p (form.not_of a) ns h r t = ruled a ns h t
    form-ruled i p (form.and_of a b) ns h r t = two-ruled a b (ruled a) (ruled b) ns h t
    form-ruled i p (form.or_of a b) ns h r t = two-ruled a b (ruled a) (ruled b) ns h t
    form-ruled i p (form.if_else a b c) ns h r t = three-ruled a b c (ruled a) (ruled b) (ruled c) ns h t
    form-ruled i p (form.match_on e cs) ns h r t =
        and_from (has_rules e) (cases_have_rules cs) (ruled e ns h.0 t.0) (cases-ruled cs ns h.1 t.1)
    form-ruled i p (form.chain no_trees) ns h r t = absurd h.0
    form-ruled i p (form.chain (more_trees e es)) ns h r t = all-ruled (more_trees e es) ns h.1 t
    form-ruled i p (form.assert a) ns h r t = ruled a ns h t
    form-ruled i p form.assert_false ns h r t = refl
    form-ruled i p (form.make a b) ns h r t = two-ruled a b (ruled a) (ruled b) ns h t
    form-ruled i p (form.length_of a) ns h r t = ruled a ns h t
    form-ruled i p (form.fetch a b) ns h r t = two-ruled a b (ruled a) (ruled b) ns h t
    form-ruled i p (form.store a b c) ns h r t = three-ruled a b c (ruled a) (ruled b) (ruled c) ns h t
    form-ruled i p (form.print a) ns h r t = ruled a ns h t
    form-ruled i p (form.read a) ns h r t = ruled a ns h t
    form-ruled i p form.map_empty ns h r t = absurd r
    form-ruled i p (form.map_add a b c) ns h r t = absurd r
    form-ruled i p (form.map_find a b) ns h r t = absurd r

    all-ruled : (es : Trees) (ns : Names) → Each (fold_all being_written es) → TreesAre g n Every ns es → all_have_rules es ≡ true
    all-ruled no_trees ns h t = refl
    all-ruled (more_trees e es) ns h t =
        and_from (has_rules e) (all_have_rules es) (ruled e ns h.0 t.0) (all-ruled es ns h.1 t.1)

    cases-ruled : (cs : Cases) (ns : Names) → EachBody (fold_cases being_written cs) → CasesAre g n Every ns cs → cases_have_rules cs ≡ true
    cases-ruled no_cases ns h t = refl
    cases-ruled (more_cases q b cs) ns h t =
        and_from (has_rules b) (cases_have_rules cs) (ruled b (plain_names n (bound_in q) ++ ns) h.0 t.0) (cases-ruled cs ns h.1 t.1)

  -- an item, where what follows has its rules under all names
  item-ruled : (f : ItemForm) (ns : Names) (rest : Names → Type 0) → ItemIsWritten f → ItemIs g n ns f rest
      → (item_has_rules f ≡ true) × ((ms : Names) × rest ms)
  item-ruled (type_of d) ns rest h t = absurd h
  item-ruled (let_of q e) ns rest h t = (ruled e ns h t.3, (named q t.0 ns, t.4))
  item-ruled (let_rec_of f r) ns rest h t =
      (ruled r.body (plain_names n (bound_in r.parameter) ++ (f, plain (n.binders f)) ∷ ns) h t.6, ((f, general t.0 (n.binders f)) ∷ ns, t.7))

  pub items-ruled : (is : List ItemTree) (ns : Names) → ItemsAreWritten is → ItemsAre g n ns is → items_have_rules is ≡ true
  items-ruled [] ns h t = refl
  items-ruled (i ∷ is) ns h t =
      let both = item-ruled i.form ns (λ ms. ItemsAre g n ms is) h.0 t in
      and_from (item_has_rules i.form) (items_have_rules is) both.0 (items-ruled is both.1.0 h.1 both.1.1)

  -- a definition of a datatype is no item of the meaning
  behind-item : (f : ItemForm) (rest : Names → Type 0) (later : List Item) (ns : Names) → with_item f later ≡ [] → ItemIs g n ns f rest → (later ≡ []) × rest ns
  behind-item (type_of d) rest later ns none t = (none, t)
  behind-item (let_of q e) rest later ns none t = absurd (cc none)
  behind-item (let_rec_of f r) rest later ns none t = absurd (cc none)

  behind-types : (types is : List ItemTree) (ns : Names) → items_of types ≡ [] → ItemsAre g n ns (types ++ is) → ItemsAre g n ns is
  behind-types [] is ns none t = t
  behind-types (i ∷ types) is ns none t =
      let both = behind-item i.form (λ ms. ItemsAre g n ms (types ++ is)) (items_of types) ns none t in
      behind-types types is ns both.0 both.1

pub have-rules : TypedProgramsHaveRules
have-rules is parts types =
    let g = signature_of (types.1 ++ is) in
    items-ruled g types.0 is [] parts (behind-types g types.0 types.1 is [] types.2 types.3)
