-- An annotation of the trees of a program that obeys the rules gives its items types.
use Rattle.std.proofs.Common.{◌≡◌, ℕ, List, [], ◌∷◌, ◌++◌, refl, sym, ap, subst, ◌∙◌}
use Rattle.lq_base_names.specs.declared.place.Place.{Place}
use Rattle.lq_text_tree.specs.MlType as ml
use Rattle.lq_text_tree.specs.MlType.{MlType, MlTypes}
use Rattle.lq_text_tree.specs.Items.{ItemTree, ItemForm, type_of, let_of, let_rec_of}
use Rattle.lq_text_tree.specs.Pattern.{Pattern, pattern, PatternForm, any, bind, nothing, tuple_of, build_of, Patterns, no_patterns, more_patterns, bound_in, bound_in_form, bound_in_all}
use Rattle.lq_text_tree.specs.Tree as form
use Rattle.lq_text_tree.specs.Tree.{Tree, tree, Form, Trees, no_trees, more_trees, Cases, no_cases, more_cases}
use Rattle.lq_meaning_steps.specs.Model.Core.{Parameter, negate, invert, assert, length_of, print, read, arithmetic, comparison, make, fetch, store, tuple, build, list_of, Core}
use Rattle.lq_meaning_steps.specs.Model.Program.{Item}
use Rattle.lq_meaning_steps.specs.Model.FromTree.{pattern_of, patterns_of, parameter_of, arithmetic_at, core_of, core_form, cores_of, rest_of, arms_of, with_item, items_of}
use Rattle.lq_text_tree.specs.Signatures.{signature_of}
use Rattle.lq_text_tree.specs.Types.{put, put_all, Signature, KnowsLists, Scheme, plain, general, Names, IsInstance}
use Rattle.lq_meaning_steps.specs.Progress.Typing.{PatternHas, PatternsHave, ParameterHas, Has, AllHave, ArmsHave}
use Rattle.lq_meaning_steps.specs.Progress.Programs.{IsSyntactic, AreSyntactic, IsItemParameter, LetHas, FunctionHas, ItemsHave, AnnotatedIsNeverStuck}
use Rattle.lq_meaning_steps.specs.Progress.Programs as core
use Rattle.lq_text_tree.specs.TypingRules.{Annotation, type_in, types_in, last_type, plain_names, PatternIs, PatternFormIs, PatternsAre, CasesFit, RuleIs, TreeIs, PartsAre, Every, TreesAre, CasesAre, IsValueTree, IsValueForm, AreValueTrees, Covers, DefinesBy, ItemPatternIs, ItemIs, ItemsAre, named}
use Rattle.lq_meaning_steps.proofs.ProgressLemmas.Putting.{put-unary, put-binary, put-ternary, put-row, put_names, put_names-append, FixesAll, put-use, put-var, names-var, fixes-var, covered_stay, covered_fix}
use Rattle.lq_meaning_steps.proofs.ProgressLemmas.Running.{typed_is_never_stuck}

module _ (g : Signature) (n : Annotation) (by : ℕ → MlType) where
  -- the names that a pattern binds, with types put in
  abbrev bound_names : List ℕ → Names
  bound_names xs = put_names by (plain_names n xs)

  bound-append : (xs ys : List ℕ) → bound_names (xs ++ ys) ≡ bound_names xs ++ bound_names ys
  bound-append [] ys = refl
  bound-append (x ∷ xs) ys = ap (λ l. (x, plain (put by (n.binders x))) ∷ l) (bound-append xs ys)

  mutual
    pattern_has : (q : Pattern) (a : MlType) → PatternIs g n q a → PatternHas g (pattern_of q) (put by a) (bound_names (bound_in q))
    pattern_has (pattern p any) a h = refl
    pattern_has (pattern p (bind x)) a h = ap (λ b. (x, plain (put by b)) ∷ []) h
    pattern_has (pattern p nothing) a h = (ap (put by) h, refl)
    pattern_has (pattern p (tuple_of qs)) a h = (put_all by h.0, ap (put by) h.1, patterns_have qs h.0 h.2)
    pattern_has (pattern p (build_of c m qs)) a h = (put_all by h.0, put-row g (build c) h.0 a by h.1, patterns_have qs h.0 h.2)

    patterns_have : (qs : Patterns) (ts : MlTypes) → PatternsAre g n qs ts → PatternsHave g (patterns_of qs) (put_all by ts) (bound_names (bound_in_all qs))
    patterns_have no_patterns ts h = (ap (put_all by) h, refl)
    patterns_have (more_patterns q qs) ts h = (
      put by h.0,
      put_all by h.1,
      bound_names (bound_in q),
      bound_names (bound_in_all qs),
      ap (put_all by) h.2,
      bound-append (bound_in q) (bound_in_all qs),
      pattern_has q h.0 h.3,
      patterns_have qs h.1 h.4,
    )

  parameter_has : (q : Pattern) (a : MlType) → PatternIs g n q a → ParameterHas g (parameter_of q) (put by a) (bound_names (bound_in q))
  parameter_has (pattern p any) a h = refl
  parameter_has (pattern p (bind x)) a h = ap (λ b. (x, plain (put by b)) ∷ []) h
  parameter_has (pattern p nothing) a h = (ap (put by) h, refl)
  parameter_has (pattern p (tuple_of qs)) a h = pattern_has (pattern p (tuple_of qs)) a h
  parameter_has (pattern p (build_of c m qs)) a h = pattern_has (pattern p (build_of c m qs)) a h

  fixes_plain : (xs : List ℕ) (ns : Names) → FixesAll by ns → FixesAll by (plain_names n xs ++ ns)
  fixes_plain [] ns k = k
  fixes_plain (x ∷ xs) ns k = (tt, fixes_plain xs ns k)

  -- names in front
  behind_bound : (xs : List ℕ) (ns : Names) (e : Core) (a : MlType) → Has g [] (put_names by (plain_names n xs ++ ns)) e a → Has g [] (bound_names xs ++ put_names by ns) e a
  behind_bound xs ns e a h = subst (λ l. Has g [] l e a) (put_names-append (plain_names n xs) ns by) h

  is_put : (e : Core) (ns : Names) (a b : MlType) → a ≡ b → Has g [] ns e (put by a) → Has g [] ns e (put by b)
  is_put e ns a b h k = subst (λ x. Has g [] ns e (put by x)) h k

  mutual
    pub tree_has : (t : Tree) (ns : Names) → FixesAll by ns → TreeIs g n Every ns t → Has g [] (put_names by ns) (core_of t) (put by (type_in n t))
    tree_has (tree i p f) ns k h = node_has f p (n.nodes i) ns k (h.0 tt) h.1

    node_has : (f : Form) (p : Place) (a : MlType) (ns : Names) → FixesAll by ns → RuleIs g n ns f a → PartsAre g n Every ns f → Has g [] (put_names by ns) (core_form p f) (put by a)
    node_has (form.whole m) p a ns k h j = ap (put by) h
    node_has (form.flag b) p a ns k h j = ap (put by) h
    node_has form.unit p a ns k h j = ap (put by) h
    node_has (form.use_of x) p a ns k h j = put-use ns x a by k h
    node_has (form.qualified m x) p a ns k h j = absurd h
    node_has (form.fun q b) p a ns k h j = (
      put by h.0,
      put by (type_in n b),
      bound_names (bound_in q),
      ap (put by) h.1,
      parameter_has q h.0 h.2,
      behind_bound (bound_in q) ns (core_of b) (put by (type_in n b)) (tree_has b (plain_names n (bound_in q) ++ ns) (fixes_plain (bound_in q) ns k) j),
    )
    node_has (form.tuple es) p a ns k h j = (put_all by (types_in n es), trees_have es ns k j, put-row g tuple (types_in n es) a by h)
    node_has (form.build c r es) p a ns k h j = (put_all by (types_in n es), trees_have es ns k j, put-row g (build c) (types_in n es) a by h)
    node_has (form.list_of es) p a ns k h j = (put_all by (types_in n es), trees_have es ns k j, put-row g list_of (types_in n es) a by h)
    node_has (form.let_in q e b) p a ns k h j = (
      put by (type_in n e),
      bound_names (bound_in q),
      tree_has e ns k j.0,
      parameter_has q (type_in n e) h.1,
      behind_bound (bound_in q) ns (core_of b) (put by a)
          (is_put (core_of b) (put_names by (plain_names n (bound_in q) ++ ns)) (type_in n b) a (sym h.0) (tree_has b (plain_names n (bound_in q) ++ ns) (fixes_plain (bound_in q) ns k) j.1)),
    )
    node_has (form.let_rec f i r q b e) p a ns k h j =
        let function = j.0 tt in
        let arrow : n.binders f ≡ ml.arrow function.0 (type_in n b) = sym h.1 ∙ function.1 in (
          put by function.0,
          put by (type_in n b),
          bound_names (bound_in q),
          parameter_has q function.0 function.2,
          subst (λ x. Has g [] (bound_names (bound_in q) ++ (f, plain (put by x)) ∷ put_names by ns) (core_of b) (put by (type_in n b))) arrow
              (behind_bound (bound_in q) ((f, plain (n.binders f)) ∷ ns) (core_of b) (put by (type_in n b))
              (tree_has b (plain_names n (bound_in q) ++ (f, plain (n.binders f)) ∷ ns) (fixes_plain (bound_in q) ((f, plain (n.binders f)) ∷ ns) (tt, k)) j.1)),
          subst (λ x. Has g [] ((f, plain (put by x)) ∷ put_names by ns) (core_of e) (put by a)) arrow
              (is_put (core_of e) (put_names by ((f, plain (n.binders f)) ∷ ns)) (type_in n e) a (sym h.0) (tree_has e ((f, plain (n.binders f)) ∷ ns) (tt, k) j.2)),
        )
    node_has (form.call f e) p a ns k h j =
        (put by (type_in n e), is_put (core_of f) (put_names by ns) (type_in n f) (ml.arrow (type_in n e) a) h (tree_has f ns k j.0), tree_has e ns k j.1)
    node_has (form.arithmetic o d e) p a ns k h j =
        (put by (type_in n d), put by (type_in n e), tree_has d ns k j.0, tree_has e ns k j.1, put-binary (arithmetic (arithmetic_at p o)) (type_in n d) (type_in n e) a by h)
    node_has (form.negated e) p a ns k h j = (put by (type_in n e), tree_has e ns k j, put-unary negate (type_in n e) a by h)
    node_has (form.compare o d e) p a ns k h j =
        (put by (type_in n d), put by (type_in n e), tree_has d ns k j.0, tree_has e ns k j.1, put-binary (comparison o) (type_in n d) (type_in n e) a by h)
    node_has (form.not_of e) p a ns k h j = (put by (type_in n e), tree_has e ns k j, put-unary invert (type_in n e) a by h)
    node_has (form.and_of d e) p a ns k h j =
        (is_put (core_of d) (put_names by ns) (type_in n d) ml.bool h.0 (tree_has d ns k j.0), is_put (core_of e) (put_names by ns) (type_in n e) ml.bool h.1 (tree_has e ns k j.1), ap (put by) h.2)
    node_has (form.or_of d e) p a ns k h j =
        (is_put (core_of d) (put_names by ns) (type_in n d) ml.bool h.0 (tree_has d ns k j.0), is_put (core_of e) (put_names by ns) (type_in n e) ml.bool h.1 (tree_has e ns k j.1), ap (put by) h.2)
    node_has (form.if_else c d e) p a ns k h j = (
      is_put (core_of c) (put_names by ns) (type_in n c) ml.bool h.0 (tree_has c ns k j.0),
      is_put (core_of d) (put_names by ns) (type_in n d) a h.1 (tree_has d ns k j.1),
      is_put (core_of e) (put_names by ns) (type_in n e) a h.2 (tree_has e ns k j.2),
    )
    node_has (form.match_on e cs) p a ns k h j = (put by (type_in n e), tree_has e ns k j.0, cases_have cs (type_in n e) a ns k h j.1)
    node_has (form.chain no_trees) p a ns k h j = ap (put by) h
    node_has (form.chain (more_trees e es)) p a ns k h j =
        is_put (rest_of es (core_of e)) (put_names by ns) (last_type n e es) a (sym h) (rest_has es (core_of e) e ns k (tree_has e ns k j.0) j.1)
    node_has (form.assert e) p a ns k h j = (put by (type_in n e), tree_has e ns k j, put-unary (assert p) (type_in n e) a by h)
    node_has form.assert_false p a ns k h j = tt
    node_has (form.make d e) p a ns k h j =
        (put by (type_in n d), put by (type_in n e), tree_has d ns k j.0, tree_has e ns k j.1, put-binary (make p) (type_in n d) (type_in n e) a by h)
    node_has (form.length_of e) p a ns k h j = (put by (type_in n e), tree_has e ns k j, put-unary length_of (type_in n e) a by h)
    node_has (form.fetch d i) p a ns k h j =
        (put by (type_in n d), put by (type_in n i), tree_has d ns k j.0, tree_has i ns k j.1, put-binary (fetch p) (type_in n d) (type_in n i) a by h)
    node_has (form.store d i e) p a ns k h j = (
      put by (type_in n d),
      put by (type_in n i),
      put by (type_in n e),
      tree_has d ns k j.0,
      tree_has i ns k j.1,
      tree_has e ns k j.2,
      put-ternary (store p) (type_in n d) (type_in n i) (type_in n e) a by h,
    )
    node_has (form.print e) p a ns k h j = (put by (type_in n e), tree_has e ns k j, put-unary print (type_in n e) a by h)
    node_has (form.read e) p a ns k h j = (put by (type_in n e), tree_has e ns k j, put-unary (read p) (type_in n e) a by h)
    node_has form.map_empty p a ns k h j = absurd h
    node_has (form.map_add x e m) p a ns k h j = absurd h
    node_has (form.map_find x m) p a ns k h j = absurd h

    trees_have : (es : Trees) (ns : Names) → FixesAll by ns → TreesAre g n Every ns es → AllHave g [] (put_names by ns) (cores_of es) (put_all by (types_in n es))
    trees_have no_trees ns k j = refl
    trees_have (more_trees e es) ns k j = (put by (type_in n e), put_all by (types_in n es), refl, tree_has e ns k j.0, trees_have es ns k j.1)

    rest_has : (es : Trees) (c : Core) (e : Tree) (ns : Names) → FixesAll by ns → Has g [] (put_names by ns) c (put by (type_in n e)) → TreesAre g n Every ns es
        → Has g [] (put_names by ns) (rest_of es c) (put by (last_type n e es))
    rest_has no_trees c e ns k m j = m
    rest_has (more_trees d es) c e ns k m j = (put by (type_in n e), m, rest_has es (core_of d) d ns k (tree_has d ns k j.0) j.1)

    cases_have : (cs : Cases) (from a : MlType) (ns : Names) → FixesAll by ns → CasesFit g n cs from a → CasesAre g n Every ns cs → ArmsHave g [] (put_names by ns) (arms_of cs) (put by from) (put by a)
    cases_have no_cases from a ns k h j = tt
    cases_have (more_cases q e cs) from a ns k h j = (
      bound_names (bound_in q),
      pattern_has q from h.0,
      behind_bound (bound_in q) ns (core_of e) (put by a)
          (is_put (core_of e) (put_names by (plain_names n (bound_in q) ++ ns)) (type_in n e) a h.1 (tree_has e (plain_names n (bound_in q) ++ ns) (fixes_plain (bound_in q) ns k) j.0)),
      cases_have cs from a ns k h.2 j.1,
    )

-- ---- items

mutual
  syntactic : (t : Tree) → IsValueTree t → IsSyntactic (core_of t)
  syntactic (tree i p f) h = syntactic_form f p h

  syntactic_form : (f : Form) (p : Place) → IsValueForm f → IsSyntactic (core_form p f)
  syntactic_form (form.whole m) p h = tt
  syntactic_form (form.flag b) p h = tt
  syntactic_form form.unit p h = tt
  syntactic_form (form.use_of x) p h = tt
  syntactic_form (form.fun q b) p h = tt
  syntactic_form (form.tuple es) p h = all_syntactic es h
  syntactic_form (form.build c r es) p h = all_syntactic es h
  syntactic_form (form.list_of es) p h = all_syntactic es h
  syntactic_form _ p h = absurd h

  all_syntactic : (es : Trees) → AreValueTrees es → AreSyntactic (cores_of es)
  all_syntactic no_trees h = tt
  all_syntactic (more_trees e es) h = (syntactic e h.0, all_syntactic es h.1)

module _ (g : Signature) (n : Annotation) where
  -- at its own type
  has_own : (e : Tree) (ns : Names) → TreeIs g n Every ns e → Has g [] ns (core_of e) (type_in n e)
  has_own e ns h =
      subst (λ a. Has g [] ns (core_of e) a) (put-var (type_in n e))
      (subst (λ l. Has g [] l (core_of e) (put ml.var (type_in n e))) (names-var ns) (tree_has g n ml.var e ns (fixes-var ns) h))

  item_pattern : (q : Pattern) (a b : MlType) → b ≡ a → ItemPatternIs n q a → IsItemParameter (parameter_of q) b
  item_pattern (pattern p any) a b e h = tt
  item_pattern (pattern p (bind x)) a b e h = tt
  item_pattern (pattern p nothing) a b e h = e ∙ h
  item_pattern (pattern p (tuple_of qs)) a b e h = absurd h
  item_pattern (pattern p (build_of c m qs)) a b e h = absurd h

  let_has : (ns : Names) (q : Pattern) (e : Tree) (s : Scheme) → DefinesBy ns e (type_in n e) s → ItemPatternIs n q (type_in n e) → TreeIs g n Every ns e → LetHas g [] ns (parameter_of q) (core_of e) s
  let_has ns q e (plain b) d h k = (subst (λ a. Has g [] ns (core_of e) a) (sym d.0) (has_own e ns k), item_pattern q (type_in n e) b d.0 h)
  let_has ns q e (general fixed b) d h k = (
    syntactic e d.1,
    (λ c i. subst (λ a. Has g [] ns (core_of e) a) (ap (put i.0) (sym d.0) ∙ sym i.2)
        (subst (λ l. Has g [] l (core_of e) (put i.0 (type_in n e))) (covered_stay ns fixed i.0 i.1 d.2) (tree_has g n i.0 e ns (covered_fix ns fixed i.0 i.1 d.2) k))),
    item_pattern q (type_in n e) b d.0 h,
  )

  function_has : (ns : Names) (fixed : List ℕ) (f : ℕ) (q : Pattern) (b : Tree) (from c : MlType) → Covers fixed ns → n.binders f ≡ ml.arrow from (type_in n b) → PatternIs g n q from
      → TreeIs g n Every (plain_names n (bound_in q) ++ (f, plain (n.binders f)) ∷ ns) b → IsInstance (general fixed (n.binders f)) c → FunctionHas g [] ns f (parameter_of q) (core_of b) c
  function_has ns fixed f q b from c v e h k i =
      let all = covered_fix ns fixed i.0 i.1 v in (
        put i.0 from,
        put i.0 (type_in n b),
        put_names i.0 (plain_names n (bound_in q)),
        i.2 ∙ ap (put i.0) e,
        parameter_has g n i.0 q from h,
        subst (λ l. Has g [] (put_names i.0 (plain_names n (bound_in q)) ++ (f, plain (ml.arrow (put i.0 from) (put i.0 (type_in n b)))) ∷ l) (core_of b) (put i.0 (type_in n b))) (covered_stay ns fixed i.0 i.1 v)
            (subst (λ x. Has g [] (put_names i.0 (plain_names n (bound_in q)) ++ (f, plain (put i.0 x)) ∷ put_names i.0 ns) (core_of b) (put i.0 (type_in n b))) e
            (behind_bound g n i.0 (bound_in q) ((f, plain (n.binders f)) ∷ ns) (core_of b) (put i.0 (type_in n b))
            (tree_has g n i.0 b (plain_names n (bound_in q) ++ (f, plain (n.binders f)) ∷ ns) (fixes_plain g n i.0 (bound_in q) ((f, plain (n.binders f)) ∷ ns) (tt, all)) k))),
      )

  same_names : (q : Pattern) (s : Scheme) (ns : Names) → named q s ns ≡ core.named (parameter_of q) s ns
  same_names (pattern p any) s ns = refl
  same_names (pattern p (bind x)) s ns = refl
  same_names (pattern p nothing) s ns = refl
  same_names (pattern p (tuple_of qs)) s ns = refl
  same_names (pattern p (build_of c m qs)) s ns = refl

  item_has : (f : ItemForm) (ns : Names) (is : List Item) (rest : Names → Type 0) → ((ms : Names) → rest ms → ItemsHave g [] ms is) → ItemIs g n ns f rest → ItemsHave g [] ns (with_item f is)
  item_has (type_of d) ns is rest go h = go ns h
  item_has (let_of q e) ns is rest go h = (h.0, let_has ns q e h.0 h.1 h.2 h.3, subst (λ l. ItemsHave g [] l is) (same_names q h.0 ns) (go (named q h.0 ns) h.4))
  item_has (let_rec_of f r) ns is rest go h =
      (general h.0 (n.binders f), (λ c i. function_has ns h.0 f r.parameter r.body h.1 c h.2 h.4 h.5 h.6 i), go ((f, general h.0 (n.binders f)) ∷ ns) h.7)

  items_have : (is : List ItemTree) (ns : Names) → ItemsAre g n ns is → ItemsHave g [] ns (items_of is)
  items_have [] ns h = tt
  items_have (i ∷ is) ns h = item_has i.form ns (items_of is) (λ ms. ItemsAre g n ms is) (λ ms k. items_have is ms k) h

knows_lists : (is : List ItemTree) → KnowsLists (signature_of is)
knows_lists is = record { empty = refl; filled = refl }

pub annotated_is_never_stuck : AnnotatedIsNeverStuck
annotated_is_never_stuck n is h = typed_is_never_stuck (signature_of is) (items_of is) (knows_lists is) (items_have (signature_of is) n is [] h)
