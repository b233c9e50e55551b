-- The normal form of what obeys the rules of types obeys them.
use Rattle.std.proofs.Common.{◌≡◌, ℕ, ◌+◌, ◌<◌, Bool, true, false, ◌&&◌, ◌==◌, if◌then◌else◌, List, [], ◌∷◌, ◌++◌, Some, inl, inr, refl, sym, ap, ◌∙◌, subst}
use Rattle.std.proofs.lemmas.Bool.{eqb-true, and_parts}
use Rattle.lq_base_names.specs.declared.place.Place.{Place}
use Rattle.lq_text_tree.specs.MlType as ml
use Rattle.lq_text_tree.specs.MlType.{MlType, MlTypes}
use Rattle.lq_text_tree.specs.Pattern.{Pattern, pattern, any, bind, nothing, tuple_of, build_of, bound_in}
use Rattle.lq_text_tree.specs.Tree as form
use Rattle.lq_text_tree.specs.Tree.{Tree, tree, Form, Trees, no_trees, more_trees, Cases, no_cases, more_cases}
use Rattle.lq_text_tree.specs.Types.{Signature, Constructor, KnowsLists, plain, Names, scheme_in, IsUsedAt, AreAll, Builds, list_type}
use Rattle.lq_text_tree.specs.TypingRules.{Annotation, Every, TreeIs, TreesAre, CasesAre, CasesFit, RuleIs, PartsAre, PatternIs, FunctionIs, type_in, types_in, last_type, plain_names}
use Rattle.lq_text_walk.specs.Walk.Fold.{fold_all, fold_cases}
use Rattle.lq_text_walk.specs.Walk.Shape as shape
use Rattle.lq_text_walk.specs.Walk.Shape.{One, Two, Three, Row}
use Rattle.lq_meaning_normal_form.specs.Outcomes.Flattening.{Let, let_one}
use Rattle.lq_meaning_normal_form.specs.Outcomes.Naming.{is_pure, is_pure_form, is_pure_operator, stands, is_use, id_of, place_of, parameter, behind, named_pattern}
use Rattle.lq_meaning_normal_form.specs.Outcomes.OnePass.{Normal, tree_of, only, with_name, as_operand, as_scrutinee, body_under, list_of_atoms, normal, normal_of, all_operands, all_items, rest_of_chain, normal_cases}
use Rattle.lq_meaning_normal_form.specs.Types.Laws.{NormalFormKeepsTypes}
use Rattle.lq_meaning_normal_form.specs.Types.Made.{Given, Gives, pattern_made, parameter_made, domain, bound_made, operand_made, scrutinee_made, cells_made, made, made_in, made_operand, all_made, items_made, rest_made, cases_made}
use Rattle.lq_meaning_normal_form.specs.Types.Plain.{AreBelow, EachArm, IsPlain, being_plain}
use Rattle.lq_meaning_normal_form.specs.Types.Written.{Takes, Each}
use Rattle.lq_meaning_normal_form.specs.Types.Typing.{Uses, OneIs, TwoIs, RowIs, row_types, EachObeys, ArmsObey, typing, typing_of, used_by}
use Rattle.lq_meaning_normal_form.proofs.TypesLemmas.Parts.{gives-both, LetsAre, lets-both, Fits, IsGood, Good, tree-good, one-good, two-good, three-rule, with-name-good, choose}
use Rattle.lq_meaning_normal_form.proofs.TypesLemmas.Patterns.{pattern-fits, parameter-fits}

under-same : (q : Pattern) (k : ℕ) (N : Normal) → Takes q → body_under k q N ≡ N
under-same (pattern p any) k N takes = refl
under-same (pattern p (bind x)) k N takes = refl
under-same (pattern p nothing) k N takes = refl
under-same (pattern p (tuple_of qs)) k N takes = cc
under-same (pattern p (build_of c m qs)) k N takes = cc

pub own-type : (n : Annotation) (t : Tree) → n.nodes (id_of t) ≡ type_in n t
own-type n (tree i p f) = refl

-- a name may be used at each type that its scheme allows
abbrev pub IsWithin : Uses → Names → Type 0
IsWithin used ns = (x : ℕ) (a : MlType) → IsUsedAt (scheme_in ns x) a → used x a

-- The annotation of the source, and the types of names for the normal form, which are those of the source below a number. A name may be
-- used at its own type.
module _ (g : Signature) (n : Annotation) (binders : ℕ → MlType) (top : ℕ) (agree : (x : ℕ) → x < top → binders x ≡ n.binders x) (used : Uses)
    (lists : KnowsLists g) (own_use : (x : ℕ) → used x (binders x)) where
  abbrev target : Annotation
  target = record { nodes = n.nodes; binders = binders }

  -- ---- names

  at-name : (b : Bool) (x y : ℕ) (a : MlType) (ms : Names) → x < top → (b ≡ true → x ≡ y) → IsWithin used ms
      → IsUsedAt (if b then Some (plain (n.binders x)) else scheme_in ms y) a → used y a
  at-name true x y a ms low same w h = subst (λ z. used z a) (same refl) (subst (used x) (agree x low ∙ sym h) (own_use x))
  at-name false x y a ms low same w h = w y a h

  pub within-one : (x : ℕ) (ms : Names) → x < top → IsWithin used ms → IsWithin used ((x, plain (n.binders x)) ∷ ms)
  within-one x ms low w y a h = at-name (x == y) x y a ms low (eqb-true x y) w h

  within-plain : (xs : List ℕ) (ns : Names) → AreBelow top xs → IsWithin used ns → IsWithin used (plain_names n xs ++ ns)
  within-plain [] ns low w = w
  within-plain (x ∷ xs) ns low w = within-one x (plain_names n xs ++ ns) low.0 (within-plain xs ns low.1 w)

  -- ---- what is pure as it is written

  abbrev FitsItself : Tree → Type 0
  FitsItself t = Fits g target used t (type_in n t)

  abbrev PureFits : Tree → Type 0
  PureFits t = (ns : Names) → IsWithin used ns → TreeIs g n Every ns t → is_pure t ≡ true → FitsItself t

  pure-two : (s : Two) (a b : Tree) (r : MlType) → PureFits a → PureFits b → (ns : Names) → IsWithin used ns → TwoIs s (type_in n a) (type_in n b) r
      → TreeIs g n Every ns a × TreeIs g n Every ns b → (is_pure a && is_pure b) ≡ true
      → TwoIs s (typing_of g target used a).type (typing_of g target used b).type r × (typing_of g target used a).obeys × (typing_of g target used b).obeys
  pure-two s a b r go_a go_b ns w rule t h =
      let both = and_parts (is_pure a) (is_pure b) h in
      (two-good g target used s [] [] a b (type_in n a) (type_in n b) r (tt, go_a ns w t.0 both.0) (tt, go_b ns w t.1 both.1) rule).1.0

  pure-one : (s : One) (a : Tree) (r : MlType) → PureFits a → (ns : Names) → IsWithin used ns → OneIs s (type_in n a) r → TreeIs g n Every ns a
      → is_pure a ≡ true → OneIs s (typing_of g target used a).type r × (typing_of g target used a).obeys
  pure-one s a r go ns w rule t h = (one-good g target used s [] a (type_in n a) r (tt, go ns w t h) rule).1.0

  mutual
    pure-fits : (t : Tree) → PureFits t
    pure-fits (tree i p f) ns w t h = pure-form-fits i p f ns w (t.0 tt) t.1 h

    pure-form-fits : (i : ℕ) (p : Place) (f : Form) (ns : Names) → IsWithin used ns → RuleIs g n ns f (n.nodes i) → PartsAre g n Every ns f
        → is_pure_form f ≡ true → FitsItself (tree i p f)
    pure-form-fits i p (form.whole m) ns w r t h = (r, refl)
    pure-form-fits i p (form.flag b) ns w r t h = (r, refl)
    pure-form-fits i p form.unit ns w r t h = (r, refl)
    pure-form-fits i p (form.use_of x) ns w r t h = (w x (n.nodes i) r, refl)
    pure-form-fits i p (form.arithmetic o a b) ns w r t h =
        (pure-two (shape.arithmetic o) a b (n.nodes i) (pure-fits a) (pure-fits b) ns w r t (and_parts (is_pure_operator o) (is_pure a && is_pure b) h).1, refl)
    pure-form-fits i p (form.negated a) ns w r t h = (pure-one shape.negated a (n.nodes i) (pure-fits a) ns w r t h, refl)
    pure-form-fits i p (form.compare o a b) ns w r t h = (pure-two (shape.compare o) a b (n.nodes i) (pure-fits a) (pure-fits b) ns w r t h, refl)
    pure-form-fits i p (form.not_of a) ns w r t h = (pure-one shape.not_of a (n.nodes i) (pure-fits a) ns w r t h, refl)
    pure-form-fits i p (form.and_of a b) ns w r t h = (pure-two shape.and_of a b (n.nodes i) (pure-fits a) (pure-fits b) ns w r t h, refl)
    pure-form-fits i p (form.or_of a b) ns w r t h = (pure-two shape.or_of a b (n.nodes i) (pure-fits a) (pure-fits b) ns w r t h, refl)
    pure-form-fits i p (form.length_of a) ns w r t h = (pure-one shape.length_of a (n.nodes i) (pure-fits a) ns w r t h, refl)
    pure-form-fits i p (form.qualified m x) ns w r t h = absurd r
    pure-form-fits i p (form.fun q b) ns w r t h = cc
    pure-form-fits i p (form.tuple es) ns w r t h = cc
    pure-form-fits i p (form.build c a es) ns w r t h = cc
    pure-form-fits i p (form.list_of es) ns w r t h = cc
    pure-form-fits i p (form.let_in q e b) ns w r t h = cc
    pure-form-fits i p (form.let_rec f j m q b e) ns w r t h = cc
    pure-form-fits i p (form.call a b) ns w r t h = cc
    pure-form-fits i p (form.if_else c a b) ns w r t h = cc
    pure-form-fits i p (form.match_on e cs) ns w r t h = cc
    pure-form-fits i p (form.chain es) ns w r t h = cc
    pure-form-fits i p (form.assert e) ns w r t h = cc
    pure-form-fits i p form.assert_false ns w r t h = cc
    pure-form-fits i p (form.make a b) ns w r t h = cc
    pure-form-fits i p (form.fetch a b) ns w r t h = cc
    pure-form-fits i p (form.store a b c) ns w r t h = cc
    pure-form-fits i p (form.print e) ns w r t h = cc
    pure-form-fits i p (form.read e) ns w r t h = cc
    pure-form-fits i p form.map_empty ns w r t h = cc
    pure-form-fits i p (form.map_add a b c) ns w r t h = cc
    pure-form-fits i p (form.map_find a b) ns w r t h = cc

  -- one of two ways, the first of which makes no names
  either-way : (c : Bool) (N M : Normal) (l : Given) (a : MlType) → (c ≡ true → Good g target used N a) → (Gives target l → Good g target used M a)
      → Gives target (if c then [] else l) → Good g target used (if c then N else M) a
  either-way true N M l a first second given = first refl
  either-way false N M l a first second given = second given

  -- ---- cells of a list literal

  cells-good : (i : ℕ) (p : Place) (k : ℕ) (xs : Trees) (a : MlType) → n.nodes i ≡ list_type a → EachObeys (fold_all (typing g target used) xs)
      → AreAll a (row_types (fold_all (typing g target used) xs)) → Gives target (cells_made g n.nodes i p k xs) → Good g target used (list_of_atoms i p k xs) (n.nodes i)
  cells-good i p k no_trees a is obey all given =
      let row : Constructor = record { datatype = 4; parameters = 1; fields = ml.no_types } in
      let builds : Builds g 7 ml.no_types (n.nodes i) = (row, ml.more_types a ml.no_types, lists.empty, is, refl, refl) in
      (tt, ((builds, tt), refl))
  cells-good i p k (more_trees x xs) a is obey all given =
      let L = list_of_atoms i p k xs in
      let both = gives-both target (cells_made g n.nodes i p k xs) ((L.next, n.nodes i) ∷ []) given in
      let M = with-name-good g target used own_use i p L (n.nodes i) refl both.1.0 (cells-good i p k xs a is obey.1 all.1 both.0) in
      let row : Constructor = record { datatype = 4; parameters = 1; fields = ml.more_types (ml.var 0) (ml.more_types (list_type (ml.var 0)) ml.no_types) } in
      let types = ap (λ (t : MlType). ml.more_types t (ml.more_types (n.nodes i) ml.no_types)) all.0
      ∙ ap (λ (t : MlType). ml.more_types a (ml.more_types t ml.no_types)) is in
      let builds : Builds g 8 (ml.more_types (typing_of g target used x).type (ml.more_types (n.nodes i) ml.no_types)) (n.nodes i)
      = (row, ml.more_types a ml.no_types, lists.filled, is, types, refl) in
      (M.0, ((builds, (obey.0, (M.1.0, tt))), refl))

  -- ---- trees

  abbrev pub Keeps : Tree → Type 0
  Keeps t = (ns : Names) (k : ℕ) → IsWithin used ns → IsPlain top t → TreeIs g n Every ns t → Gives target (made g n.nodes k t) → Good g target used (normal k t) (type_in n t)

  abbrev KeepsOperand : Tree → Type 0
  KeepsOperand t = (ns : Names) (k : ℕ) → IsWithin used ns → IsPlain top t → TreeIs g n Every ns t → Gives target (made_operand g n.nodes k t)
      → Good g target used (as_operand t (normal k t)) (type_in n t)

  scrutinee-keeps : (t : Tree) → Keeps t → (ns : Names) (k : ℕ) → IsWithin used ns → IsPlain top t → TreeIs g n Every ns t
      → Gives target (made g n.nodes k t ++ scrutinee_made g n.nodes t (normal k t)) → Good g target used (as_scrutinee t (normal k t)) (type_in n t)
  scrutinee-keeps (tree i p f) keeps ns k w takes t given =
      let N = normal k (tree i p f) in
      let both = gives-both target (made g n.nodes k (tree i p f)) (scrutinee_made g n.nodes (tree i p f) N) given in
      choose g target used own_use (is_use (tree i p f)) i p N (n.nodes i) refl both.1 (keeps ns k w takes t both.0)

  -- what became of a tree is bound to a made name
  bound-keeps : (t : Tree) → Keeps t → (ns : Names) (k : ℕ) → IsWithin used ns → IsPlain top t → TreeIs g n Every ns t
      → Gives target (made g n.nodes k t ++ bound_made g n.nodes t (normal k t)) → Good g target used (with_name (id_of t) (place_of t) (normal k t)) (type_in n t)
  bound-keeps (tree i p f) keeps ns k w takes t given =
      let N = normal k (tree i p f) in
      let both = gives-both target (made g n.nodes k (tree i p f)) ((N.next, n.nodes i) ∷ []) given in
      with-name-good g target used own_use i p N (n.nodes i) refl both.1.0 (keeps ns k w takes t both.0)

  -- a row of operands
  abbrev RowFits : List Let → Trees → MlTypes → Type 0
  RowFits ls es ts = LetsAre g target used ls × EachObeys (fold_all (typing g target used) es) × (row_types (fold_all (typing g target used) es) ≡ ts)

  row-with : (ls ms : List Let) (x : Tree) (xs : Trees) (a : MlType) (ts : MlTypes) → IsGood g target used ls x a → RowFits ms xs ts
      → RowFits (ls ++ ms) (more_trees x xs) (ml.more_types a ts)
  row-with ls ms x xs a ts G R = (
    lets-both g target used ls ms G.0 R.0,
    (G.1.0, R.1),
    ap (λ (b : MlType). ml.more_types b (row_types (fold_all (typing g target used) xs))) G.1.1 ∙ ap (ml.more_types a) R.2,
  )

  abbrev RowKeeps : Trees → Type 0
  RowKeeps es = (ns : Names) (k : ℕ) → IsWithin used ns → Each (fold_all (being_plain top) es) → TreesAre g n Every ns es → Gives target (all_made g n.nodes k es)
      → RowFits (all_operands k es).lets (all_operands k es).atoms (types_in n es)

  abbrev ItemsKeep : Trees → Type 0
  ItemsKeep es = (ns : Names) (k : ℕ) → IsWithin used ns → Each (fold_all (being_plain top) es) → TreesAre g n Every ns es → Gives target (items_made g n.nodes k es)
      → RowFits (all_items k es).lets (all_items k es).atoms (types_in n es)

  -- a function's parameter and body
  pub function-keeps : (q : Pattern) (b : Tree) (k : ℕ) (a : MlType) → Keeps b → (ns : Names) → IsWithin used ns → Takes q → AreBelow top (bound_in q) → IsPlain top b
      → FunctionIs g n q b a → TreeIs g n Every (plain_names n (bound_in q) ++ ns) b → Gives target (parameter_made g k q (domain a)) → Gives target (made g n.nodes (behind k q) b)
      → let B = tree_of (body_under k q (normal (behind k q) b)) in
      ((from : MlType) × (a ≡ ml.arrow from (typing_of g target used B).type) × PatternIs g target (parameter k q) from) × (typing_of g target used B).obeys
  function-keeps q b k a keeps ns w takes low fine f t given inside =
      let G = keeps (plain_names n (bound_in q) ++ ns) (behind k q) (within-plain (bound_in q) ns low w) fine t inside in
      let B = subst (λ (N : Normal). Fits g target used (tree_of N) (type_in n b)) (sym (under-same q k (normal (behind k q) b) takes))
      (tree-good g target used (normal (behind k q) b) (type_in n b) G) in
      let named = subst (λ (c : MlType). Gives target (parameter_made g k q c)) (ap domain f.1) given in
      ((f.0, f.1 ∙ ap (ml.arrow f.0) (sym B.1), parameter-fits g n target top agree q k f.0 takes f.2 low named), B.0)

  -- ---- forms over operands

  one-keeps : (h : One) (e : Tree) (r : MlType) → KeepsOperand e → (ns : Names) (k : ℕ) → IsWithin used ns → IsPlain top e → OneIs h (type_in n e) r
      → TreeIs g n Every ns e → Gives target (made_operand g n.nodes k e)
      → let E = as_operand e (normal k e) in
      LetsAre g target used E.lets × ((OneIs h (typing_of g target used E.last).type r × (typing_of g target used E.last).obeys) × (r ≡ r))
  one-keeps h e r go ns k w fine rule t given =
      let E = as_operand e (normal k e) in one-good g target used h E.lets E.last (type_in n e) r (go ns k w fine t given) rule

  two-keeps : (h : Two) (a b : Tree) (r : MlType) → KeepsOperand a → KeepsOperand b → (ns : Names) (k : ℕ) → IsWithin used ns → IsPlain top a × IsPlain top b
      → TwoIs h (type_in n a) (type_in n b) r → TreeIs g n Every ns a × TreeIs g n Every ns b
      → Gives target (made_operand g n.nodes k a ++ made_operand g n.nodes (as_operand a (normal k a)).next b)
      → let A = as_operand a (normal k a) in let B = as_operand b (normal A.next b) in
      LetsAre g target used (A.lets ++ B.lets)
      × ((TwoIs h (typing_of g target used A.last).type (typing_of g target used B.last).type r × (typing_of g target used A.last).obeys × (typing_of g target used B.last).obeys) × (r ≡ r))
  two-keeps h a b r go_a go_b ns k w fine rule t given =
      let A = as_operand a (normal k a) in let B = as_operand b (normal A.next b) in
      let both = gives-both target (made_operand g n.nodes k a) (made_operand g n.nodes A.next b) given in
      two-good g target used h A.lets B.lets A.last B.last (type_in n a) (type_in n b) r (go_a ns k w fine.0 t.0 both.0) (go_b ns A.next w fine.1 t.1 both.1) rule

  -- the first side of `&&` or `||`, and the second as a block of its own
  connected : (a b : Tree) → KeepsOperand a → Keeps b → (ns : Names) (k : ℕ) → IsWithin used ns → IsPlain top a × IsPlain top b
      → TreeIs g n Every ns a × TreeIs g n Every ns b → Gives target (made_operand g n.nodes k a ++ made g n.nodes (as_operand a (normal k a)).next b)
      → let A = as_operand a (normal k a) in Good g target used A (type_in n a) × Fits g target used (tree_of (normal A.next b)) (type_in n b)
  connected a b go_a go_b ns k w fine t given =
      let A = as_operand a (normal k a) in let both = gives-both target (made_operand g n.nodes k a) (made g n.nodes A.next b) given in
      (go_a ns k w fine.0 t.0 both.0, tree-good g target used (normal A.next b) (type_in n b) (go_b ns A.next w fine.1 t.1 both.1))

  mutual
    pub keeps : (t : Tree) → Keeps t
    keeps (tree i p f) ns k w takes t given = form-keeps f i p ns k w takes (t.0 tt) t.1 given

    operand : (t : Tree) → KeepsOperand t
    operand (tree i p f) ns k w takes t given =
        let N = normal k (tree i p f) in
        let both = gives-both target (made_in g n.nodes k i p f) (operand_made g n.nodes (tree i p f) N) given in
        choose g target used own_use (stands (tree i p f)) i p N (n.nodes i) refl both.1 (form-keeps f i p ns k w takes (t.0 tt) t.1 both.0)

    form-keeps : (f : Form) (i : ℕ) (p : Place) (ns : Names) (k : ℕ) → IsWithin used ns → IsPlain top (tree i p f) → RuleIs g n ns f (n.nodes i)
        → PartsAre g n Every ns f → Gives target (made_in g n.nodes k i p f) → Good g target used (normal_of k i p f) (n.nodes i)
    form-keeps (form.whole m) i p ns k w takes r t given = (tt, (r, refl))
    form-keeps (form.flag b) i p ns k w takes r t given = (tt, (r, refl))
    form-keeps form.unit i p ns k w takes r t given = (tt, (r, refl))
    form-keeps (form.use_of x) i p ns k w takes r t given = (tt, (w x (n.nodes i) r, refl))
    form-keeps (form.qualified m x) i p ns k w takes r t given = absurd r
    form-keeps form.assert_false i p ns k w takes r t given = (tt, (tt, refl))
    form-keeps form.map_empty i p ns k w takes r t given = absurd r
    form-keeps (form.map_add a b c) i p ns k w takes r t given = absurd r
    form-keeps (form.map_find a b) i p ns k w takes r t given = absurd r
    form-keeps (form.negated e) i p ns k w takes r t given = one-keeps shape.negated e (n.nodes i) (operand e) ns k w takes r t given
    form-keeps (form.not_of e) i p ns k w takes r t given = one-keeps shape.not_of e (n.nodes i) (operand e) ns k w takes r t given
    form-keeps (form.length_of e) i p ns k w takes r t given = one-keeps shape.length_of e (n.nodes i) (operand e) ns k w takes r t given
    form-keeps (form.assert e) i p ns k w takes r t given = one-keeps shape.assert e (n.nodes i) (operand e) ns k w takes r t given
    form-keeps (form.print e) i p ns k w takes r t given = one-keeps shape.print e (n.nodes i) (operand e) ns k w takes r t given
    form-keeps (form.read e) i p ns k w takes r t given = one-keeps shape.read e (n.nodes i) (operand e) ns k w takes r t given
    form-keeps (form.call a b) i p ns k w takes r t given = two-keeps shape.call a b (n.nodes i) (operand a) (operand b) ns k w takes r t given
    form-keeps (form.arithmetic o a b) i p ns k w takes r t given = two-keeps (shape.arithmetic o) a b (n.nodes i) (operand a) (operand b) ns k w takes r t given
    form-keeps (form.compare o a b) i p ns k w takes r t given = two-keeps (shape.compare o) a b (n.nodes i) (operand a) (operand b) ns k w takes r t given
    form-keeps (form.make a b) i p ns k w takes r t given = two-keeps shape.make a b (n.nodes i) (operand a) (operand b) ns k w takes r t given
    form-keeps (form.fetch a b) i p ns k w takes r t given = two-keeps shape.fetch a b (n.nodes i) (operand a) (operand b) ns k w takes r t given
    form-keeps (form.and_of a b) i p ns k w takes r t given =
        let A = as_operand a (normal k a) in let B = normal A.next b in
        either-way (is_pure a && is_pure b) (only k (tree i p (form.and_of a b)))
        (record { lets = A.lets; last = tree i p (form.if_else A.last (tree_of B) (tree i p (form.flag false))); next = B.next })
        (made_operand g n.nodes k a ++ made g n.nodes A.next b) (n.nodes i)
        (λ h. (tt, (pure-two shape.and_of a b (n.nodes i) (pure-fits a) (pure-fits b) ns w r t h, refl)))
        (λ given. let both = connected a b (operand a) (keeps b) ns k w takes t given in
        (both.0.0, (((both.0.1.1 ∙ r.0, both.1.1 ∙ (r.1 ∙ sym r.2), refl), both.0.1.0, both.1.0, r.2), refl)))
        given
    form-keeps (form.or_of a b) i p ns k w takes r t given =
        let A = as_operand a (normal k a) in let B = normal A.next b in
        either-way (is_pure a && is_pure b) (only k (tree i p (form.or_of a b)))
        (record { lets = A.lets; last = tree i p (form.if_else A.last (tree i p (form.flag true)) (tree_of B)); next = B.next })
        (made_operand g n.nodes k a ++ made g n.nodes A.next b) (n.nodes i)
        (λ h. (tt, (pure-two shape.or_of a b (n.nodes i) (pure-fits a) (pure-fits b) ns w r t h, refl)))
        (λ given. let both = connected a b (operand a) (keeps b) ns k w takes t given in
        (both.0.0, (((both.0.1.1 ∙ r.0, refl, both.1.1 ∙ (r.1 ∙ sym r.2)), both.0.1.0, r.2, both.1.0), refl)))
        given
    form-keeps (form.if_else c a b) i p ns k w takes r t given =
        let C = as_operand c (normal k c) in let A = normal C.next a in let B = normal A.next b in
        let first = gives-both target (made_operand g n.nodes k c) (made g n.nodes C.next a ++ made g n.nodes A.next b) given in
        let second = gives-both target (made g n.nodes C.next a) (made g n.nodes A.next b) first.1 in
        let X = operand c ns k w takes.0 t.0 first.0 in
        let Y = tree-good g target used A (type_in n a) (keeps a ns C.next w takes.1 t.1 second.0) in
        let Z = tree-good g target used B (type_in n b) (keeps b ns A.next w takes.2 t.2 second.1) in
        (X.0, (three-rule g target used shape.if_else C.last (tree_of A) (tree_of B) (type_in n c) (type_in n a) (type_in n b) (n.nodes i) X.1 Y Z r, refl))
    form-keeps (form.store a m e) i p ns k w takes r t given =
        let A = as_operand a (normal k a) in let M = as_operand m (normal A.next m) in let E = as_operand e (normal M.next e) in
        let first = gives-both target (made_operand g n.nodes k a) (made_operand g n.nodes A.next m ++ made_operand g n.nodes M.next e) given in
        let second = gives-both target (made_operand g n.nodes A.next m) (made_operand g n.nodes M.next e) first.1 in
        let X = operand a ns k w takes.0 t.0 first.0 in let Y = operand m ns A.next w takes.1 t.1 second.0 in
        let Z = operand e ns M.next w takes.2 t.2 second.1 in (
          lets-both g target used A.lets (M.lets ++ E.lets) X.0 (lets-both g target used M.lets E.lets Y.0 Z.0),
          (three-rule g target used shape.store A.last M.last E.last (type_in n a) (type_in n m) (type_in n e) (n.nodes i) X.1 Y.1 Z.1 r, refl),
        )
    form-keeps (form.tuple es) i p ns k w takes r t given =
        let R = row es ns k w takes.1 t given in (R.0, ((subst (λ ts. RowIs g shape.tuple ts (n.nodes i)) (sym R.2) r, R.1), refl))
    form-keeps (form.build c v es) i p ns k w takes r t given =
        let R = row es ns k w takes.1 t given in (R.0, ((subst (λ ts. RowIs g (shape.build c v) ts (n.nodes i)) (sym R.2) r, R.1), refl))
    form-keeps (form.list_of es) i p ns k w takes r t given =
        let Q = all_items k es in
        let both = gives-both target (items_made g n.nodes k es) (cells_made g n.nodes i p Q.next Q.atoms) given in
        let R = list-items es ns k w takes.1 t both.0 in
        let L = cells-good i p Q.next Q.atoms r.0 r.1 R.1 (subst (AreAll r.0) (sym R.2) r.2) both.1 in
        (lets-both g target used Q.lets (list_of_atoms i p Q.next Q.atoms).lets R.0 L.0, L.1)
    form-keeps (form.fun q b) i p ns k w takes r t given =
        let both = gives-both target (parameter_made g k q (domain (n.nodes i))) (made g n.nodes (behind k q) b) given in
        let F = function-keeps q b k (n.nodes i) (keeps b) ns w takes.0 takes.1 takes.2 r t both.0 both.1 in (tt, ((F.0, F.1), refl))
    form-keeps (form.let_in q e b) i p ns k w takes r t given =
        let E = normal k e in let B = normal (behind E.next q) b in
        let first = gives-both target (made g n.nodes k e) (parameter_made g E.next q (n.nodes (id_of e)) ++ made g n.nodes (behind E.next q) b) given in
        let second = gives-both target (parameter_made g E.next q (n.nodes (id_of e))) (made g n.nodes (behind E.next q) b) first.1 in
        let X = keeps e ns k w takes.2 t.0 first.0 in
        let Y = keeps b (plain_names n (bound_in q) ++ ns) (behind E.next q) (within-plain (bound_in q) ns takes.1 w) takes.3 t.1 second.1 in
        let named = parameter-fits g n target top agree q E.next (type_in n e) takes.0 r.1 takes.1 (subst (λ (c : MlType). Gives target (parameter_made g E.next q c)) (own-type n e) second.0) in
        let U = subst (λ (N : Normal). Good g target used N (type_in n b)) (sym (under-same q E.next B takes.0)) Y in
        let whole = body_under E.next q B in (
          lets-both g target used E.lets (let_one i p (parameter E.next q) E.last ∷ whole.lets) X.0
              ((subst (PatternIs g target (parameter E.next q)) (sym X.1.1) named, X.1.0), U.0),
          (U.1.0, U.1.1 ∙ sym r.0),
        )
    form-keeps (form.let_rec f j m q b e) i p ns k w takes r t given =
        let B = normal (behind k q) b in
        let first = gives-both target (parameter_made g k q (domain (n.nodes j))) (made g n.nodes (behind k q) b ++ made g n.nodes B.next e) given in
        let second = gives-both target (made g n.nodes (behind k q) b) (made g n.nodes B.next e) first.1 in
        let ms = (f, plain (n.binders f)) ∷ ns in let v = within-one f ns takes.1.0 w in
        let F = function-keeps q b k (n.nodes j) (keeps b) ms v takes.0 takes.1.1 takes.2 (t.0 tt) t.1 first.0 second.0 in
        let X = keeps e ms B.next v takes.3 t.2 second.1 in
        (((r.1 ∙ sym (agree f takes.1.0), F.0, F.1), X.0), (X.1.0, X.1.1 ∙ sym r.0))
    form-keeps (form.match_on e cs) i p ns k w takes r t given =
        let E = as_scrutinee e (normal k e) in
        let both = gives-both target (made g n.nodes k e ++ scrutinee_made g n.nodes e (normal k e)) (cases_made g n.nodes E.next (n.nodes (id_of e)) cs) given in
        let X = scrutinee-keeps e (keeps e) ns k w takes.0 t.0 both.0 in
        let given = subst (λ (c : MlType). Gives target (cases_made g n.nodes E.next c cs)) (own-type n e) both.1 in
        let C = cases cs ns E.next w (type_in n e) (n.nodes i) takes.1 r t.1 given in
        (X.0, ((X.1.0, subst (λ c. ArmsObey g target used (fold_cases (typing g target used) (normal_cases E.next cs).cases) c (n.nodes i)) (sym X.1.1) C), refl))
    form-keeps (form.chain no_trees) i p ns k w takes r t given = absurd takes.0
    form-keeps (form.chain (more_trees e es)) i p ns k w takes r t given =
        let both = gives-both target (made g n.nodes k e) (rest_made g n.nodes (normal k e).next (n.nodes (id_of e)) es) given in
        let inside = subst (λ (c : MlType). Gives target (rest_made g n.nodes (normal k e).next c es)) (own-type n e) both.1 in
        let G = rest es i p (normal k e) e ns w takes.1.1 t.1 inside (keeps e ns k w takes.1.0 t.0 both.0) in
        (G.0, (G.1.0, G.1.1 ∙ sym r))

    row : (es : Trees) → RowKeeps es
    row no_trees ns k w fine t given = (tt, tt, refl)
    row (more_trees e es) ns k w fine t given =
        let E = as_operand e (normal k e) in let Q = all_operands E.next es in
        let both = gives-both target (made_operand g n.nodes k e) (all_made g n.nodes E.next es) given in
        row-with E.lets Q.lets E.last Q.atoms (type_in n e) (types_in n es) (operand e ns k w fine.0 t.0 both.0) (row es ns E.next w fine.1 t.1 both.1)

    list-items : (es : Trees) → ItemsKeep es
    list-items no_trees ns k w fine t given = (tt, tt, refl)
    list-items (more_trees e es) ns k w fine t given =
        let N = normal k e in let E = with_name (id_of e) (place_of e) N in let Q = all_items E.next es in
        let both = gives-both target (made g n.nodes k e ++ bound_made g n.nodes e N) (items_made g n.nodes (N.next + 1) es) given in
        row-with E.lets Q.lets E.last Q.atoms (type_in n e) (types_in n es) (bound-keeps e (keeps e) ns k w fine.0 t.0 both.0)
        (list-items es ns E.next w fine.1 t.1 both.1)

    -- what is left of a chain behind a part
    rest : (es : Trees) (i : ℕ) (p : Place) (N : Normal) (e : Tree) (ns : Names) → IsWithin used ns → Each (fold_all (being_plain top) es)
        → TreesAre g n Every ns es → Gives target (rest_made g n.nodes N.next (type_in n e) es) → Good g target used N (type_in n e)
        → Good g target used (rest_of_chain i p N es) (last_type n e es)
    rest no_trees i p N e ns w fine t given G = G
    rest (more_trees s ss) i p N e ns w fine t given G =
        let k = N.next + 1 in
        let both = gives-both target (made g n.nodes k s) (rest_made g n.nodes (normal k s).next (n.nodes (id_of s)) ss) given.1 in
        let inside = subst (λ (c : MlType). Gives target (rest_made g n.nodes (normal k s).next c ss)) (own-type n s) both.1 in
        let R = rest ss i p (normal k s) s ns w fine.1 t.1 inside (keeps s ns k w fine.0 t.0 both.0) in
        let lets = (rest_of_chain i p (normal k s) ss).lets in
        (lets-both g target used N.lets (let_one i p (pattern p (bind N.next)) N.last ∷ lets) G.0 ((given.0 ∙ sym G.1.1, G.1.0), R.0), R.1)

    cases : (cs : Cases) (ns : Names) (k : ℕ) → IsWithin used ns → (from a : MlType) → EachArm top (fold_cases (being_plain top) cs) → CasesFit g n cs from a
        → CasesAre g n Every ns cs → Gives target (cases_made g n.nodes k from cs) → ArmsObey g target used (fold_cases (typing g target used) (normal_cases k cs).cases) from a
    cases no_cases ns k w from a fine h t given = tt
    cases (more_cases q b cs) ns k w from a fine h t given =
        let j = (named_pattern k q).next in let B = normal j b in
        let first = gives-both target (pattern_made g k q from) (made g n.nodes j b ++ cases_made g n.nodes B.next from cs) given in
        let second = gives-both target (made g n.nodes j b) (cases_made g n.nodes B.next from cs) first.1 in
        let X = tree-good g target used B (type_in n b) (keeps b (plain_names n (bound_in q) ++ ns) j (within-plain (bound_in q) ns fine.0 w) fine.1 t.0 second.0) in
        (pattern-fits g n target top agree q k from h.0 fine.0 first.0, X.1 ∙ h.1, X.0, cases cs ns B.next w from a fine.2 h.2 t.1 second.1)

-- a name may be used at its own type, and as its scheme allows
pub within-itself : (n : Annotation) (ns : Names) → IsWithin (used_by n ns) ns
within-itself n ns x a h = inr h

pub keep-types : NormalFormKeepsTypes
keep-types g n binders top ns k t lists agree fine h given =
    let m : Annotation = record { nodes = n.nodes; binders = binders } in
    tree-good g m (used_by m ns) (normal k t) (type_in n t)
    (keeps g n binders top agree (used_by m ns) lists (λ x. inl refl) t ns k (within-itself m ns) fine h given)
