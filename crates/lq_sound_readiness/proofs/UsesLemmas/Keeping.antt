-- The normal form of a tree whose uses fit has uses that fit, where made names have no text and the types of what they stand for.
use Rattle.std.proofs.Common.{◌≡◌, ℕ, ◌+◌, ◌≤◌, Bool, true, false, ◌&&◌, if◌then◌else◌, List, [], ◌∷◌, ◌++◌, None, refl, sym, ap, ◌∙◌, subst, arith}
use Rattle.lq_base_names.specs.declared.place.Place.{Place}
use Rattle.lq_text_tree.specs.Items.{ItemTree, ItemForm, type_of, let_of, let_rec_of}
use Rattle.lq_text_tree.specs.MlType.{MlType}
use Rattle.lq_text_tree.specs.Pattern.{Pattern, pattern, any, bind, nothing, tuple_of, build_of}
use Rattle.lq_text_tree.specs.Tree as form
use Rattle.lq_text_tree.specs.Tree.{Tree, tree, Form, Trees, no_trees, more_trees, Cases, no_cases, more_cases}
use Rattle.lq_text_tree.specs.Types.{Signature}
use Rattle.lq_text_walk.specs.Walk.Fold.{fold_all, fold_cases}
use Rattle.lq_meaning_normal_form.specs.Outcomes.Flattening.{Let, let_one, let_function, put_in}
use Rattle.lq_meaning_normal_form.specs.Outcomes.Naming.{is_pure, stands, is_use, id_of, place_of, parameter, behind, named_pattern}
use Rattle.lq_meaning_normal_form.specs.Outcomes.OnePass.{Normal, tree_of, only, with_name, as_operand, as_scrutinee, body_under, list_of_atoms, normal, normal_of, all_operands, all_items, rest_of_chain, normal_cases}
use Rattle.lq_meaning_normal_form.specs.Types.Made.{Given, Gives, Runs, pattern_made, parameter_made, domain, bound_made, operand_made, scrutinee_made, cells_made, made, made_in, made_operand, all_made, items_made, rest_made, cases_made}
use Rattle.lq_meaning_normal_form.specs.Types.Plain.{EachArm, IsPlain, being_plain, ItemIsPlain, ItemsArePlain}
use Rattle.lq_meaning_normal_form.specs.Types.Programs as programs
use Rattle.lq_meaning_normal_form.specs.Types.Programs.{next_item, normal_item, normal_items}
use Rattle.lq_meaning_normal_form.specs.Types.Written.{Takes, Each, EachBody}
use Rattle.lq_refined_templates.specs.Points.Annotation.{Annotation, of_source, arguments_at}
use Rattle.lq_sound_readiness.specs.Reading.Laws.{types_of}
use Rattle.lq_sound_readiness.specs.Reading.Uses.{instance_by}
use Rattle.lq_sound_readiness.proofs.UsesLemmas.Fitting.{fitting, Fits, ItemFits, ItemsFit}

under_same : (q : Pattern) (k : ℕ) (N : Normal) → Takes q → body_under k q N ≡ N
under_same (pattern p any) k N takes = refl
under_same (pattern p (bind x)) k N takes = refl
under_same (pattern p nothing) k N takes = refl
under_same (pattern p (tuple_of qs)) k N takes = cc
under_same (pattern p (build_of c o qs)) k N takes = cc

module _ (n : Annotation) where
  -- ---- made names: they have these types, and no text

  abbrev pub AreMade : Given → Type 0
  AreMade [] = Unit {0}
  AreMade (x ∷ xs) = (n.names x.0 ≡ x.1) × (n.text x.0 ≡ None) × AreMade xs

  made_both : (xs ys : Given) → AreMade (xs ++ ys) → AreMade xs × AreMade ys
  made_both [] ys h = (tt, h)
  made_both (x ∷ xs) ys h = let both = made_both xs ys h.2 in ((h.0, h.1, both.0), both.1)

  pub are_made : (top k m : ℕ) (xs : Given) → top ≤ k → ((x : ℕ) → top ≤ x → n.text x ≡ None) → Runs k xs m → Gives (types_of n) xs → AreMade xs
  are_made top k m [] low none runs given = tt
  are_made top k m (x ∷ xs) low none runs given =
      let first = runs.0 in (given.0, none x.0 (omega (arith, low, first)), are_made top (k + 1) m xs (omega (arith, low)) none runs.1 given.1)

  -- ---- lets one after another

  abbrev LetFits : Let → Type 0
  LetFits (let_one i p q e) = Fits n e
  LetFits (let_function i p f j m q b) = Fits n b

  abbrev LetsFit : List Let → Type 0
  LetsFit [] = Unit {0}
  LetsFit (l ∷ ls) = LetFits l × LetsFit ls

  lets_both : (ls ms : List Let) → LetsFit ls → LetsFit ms → LetsFit (ls ++ ms)
  lets_both [] ms h k = k
  lets_both (l ∷ ls) ms h k = (h.0, lets_both ls ms h.1 k)

  put_fits : (ls : List Let) (t : Tree) → LetsFit ls → Fits n t → Fits n (put_in ls t)
  put_fits [] t h k = k
  put_fits (let_one i p q e ∷ ls) t h k = (h.0, put_fits ls t h.1 k)
  put_fits (let_function i p f j m q b ∷ ls) t h k = (h.0, put_fits ls t h.1 k)

  abbrev Good : Normal → Type 0
  Good N = LetsFit N.lets × Fits n N.last

  tree_fits : (N : Normal) → Good N → Fits n (tree_of N)
  tree_fits N h = put_fits N.lets N.last h.0 h.1

  -- a use of a made name has the number of what it stands for
  use_fits : (i x : ℕ) → n.names x ≡ n.types i → n.text x ≡ None → n.types i ≡ instance_by (arguments_at n i x) (n.names x)
  use_fits i x named none = sym named ∙ sym (ap (λ o. instance_by (of_source o (n.arguments i)) (n.names x)) none)

  with_name_fits : (i : ℕ) (p : Place) (N : Normal) → n.names N.next ≡ n.types i → n.text N.next ≡ None → Good N → Good (with_name i p N)
  with_name_fits i p N named none G =
      (lets_both N.lets (let_one i p (pattern p (bind N.next)) N.last ∷ []) G.0 (G.1, tt), use_fits i N.next named none)

  choose : (s : Bool) (i : ℕ) (p : Place) (N : Normal) → AreMade (if s then [] else (N.next, n.types i) ∷ []) → Good N → Good (if s then N else with_name i p N)
  choose true i p N m G = G
  choose false i p N m G = with_name_fits i p N m.0 m.1 G

  -- one of two ways, the first of which makes no names
  either_way : (c : Bool) (N M : Normal) (l : Given) → Good N → (AreMade l → Good M) → AreMade (if c then [] else l) → Good (if c then N else M)
  either_way true N M l first second m = first
  either_way false N M l first second m = second m

  abbrev RowGood : List Let → Trees → Type 0
  RowGood ls es = LetsFit ls × Each (fold_all (fitting n) es)

  row_with : (ls ms : List Let) (x : Tree) (xs : Trees) → LetsFit ls × Fits n x → RowGood ms xs → RowGood (ls ++ ms) (more_trees x xs)
  row_with ls ms x xs G R = (lets_both ls ms G.0 R.0, (G.1, R.1))

  module _ (g : Signature) (top : ℕ) where
    cells_good : (i : ℕ) (p : Place) (k : ℕ) (xs : Trees) → Each (fold_all (fitting n) xs) → AreMade (cells_made g n.types i p k xs) → Good (list_of_atoms i p k xs)
    cells_good i p k no_trees h m = (tt, tt)
    cells_good i p k (more_trees x xs) h m =
        let L = list_of_atoms i p k xs in
        let both = made_both (cells_made g n.types i p k xs) ((L.next, n.types i) ∷ []) m in
        let W = with_name_fits i p L both.1.0 both.1.1 (cells_good i p k xs h.1 both.0) in
        (W.0, (h.0, (W.1, tt)))

    -- ---- trees

    abbrev Keeps : Tree → Type 0
    Keeps t = (k : ℕ) → IsPlain top t → Fits n t → AreMade (made g n.types k t) → Good (normal k t)

    abbrev KeepsOperand : Tree → Type 0
    KeepsOperand t = (k : ℕ) → IsPlain top t → Fits n t → AreMade (made_operand g n.types k t) → Good (as_operand t (normal k t))

    scrutinee_keeps : (t : Tree) → Keeps t → (k : ℕ) → IsPlain top t → Fits n t → AreMade (made g n.types k t ++ scrutinee_made g n.types t (normal k t))
        → Good (as_scrutinee t (normal k t))
    scrutinee_keeps (tree i p f) keeps k plain h m =
        let N = normal k (tree i p f) in
        let both = made_both (made g n.types k (tree i p f)) (scrutinee_made g n.types (tree i p f) N) m in
        choose (is_use (tree i p f)) i p N both.1 (keeps k plain h both.0)

    -- what became of a tree is bound to a made name
    bound_keeps : (t : Tree) → Keeps t → (k : ℕ) → IsPlain top t → Fits n t → AreMade (made g n.types k t ++ bound_made g n.types t (normal k t))
        → Good (with_name (id_of t) (place_of t) (normal k t))
    bound_keeps (tree i p f) keeps k plain h m =
        let N = normal k (tree i p f) in
        let both = made_both (made g n.types k (tree i p f)) ((N.next, n.types i) ∷ []) m in
        with_name_fits i p N both.1.0 both.1.1 (keeps k plain h both.0)

    function_keeps : (q : Pattern) (b : Tree) (k : ℕ) → Keeps b → Takes q → IsPlain top b → Fits n b → AreMade (made g n.types (behind k q) b)
        → Fits n (tree_of (body_under k q (normal (behind k q) b)))
    function_keeps q b k keeps takes plain h m =
        let N = normal (behind k q) b in
        subst (λ (M : Normal). Fits n (tree_of M)) (sym (under_same q k N takes)) (tree_fits N (keeps (behind k q) plain h m))

    two_keep : (a b : Tree) → KeepsOperand a → KeepsOperand b → (k : ℕ) → IsPlain top a × IsPlain top b → Fits n a × Fits n b
        → AreMade (made_operand g n.types k a ++ made_operand g n.types (as_operand a (normal k a)).next b)
        → let A = as_operand a (normal k a) in let B = as_operand b (normal A.next b) in LetsFit (A.lets ++ B.lets) × (Fits n A.last × Fits n B.last)
    two_keep a b go_a go_b k plain h m =
        let A = as_operand a (normal k a) in let B = as_operand b (normal A.next b) in
        let both = made_both (made_operand g n.types k a) (made_operand g n.types A.next b) m in
        let X = go_a k plain.0 h.0 both.0 in let Y = go_b A.next plain.1 h.1 both.1 in
        (lets_both A.lets B.lets X.0 Y.0, (X.1, Y.1))

    -- the first side of `&&` or `||`, and the second as a block of its own
    connected : (a b : Tree) → KeepsOperand a → Keeps b → (k : ℕ) → IsPlain top a × IsPlain top b → Fits n a × Fits n b
        → AreMade (made_operand g n.types k a ++ made g n.types (as_operand a (normal k a)).next b)
        → let A = as_operand a (normal k a) in Good A × Fits n (tree_of (normal A.next b))
    connected a b go_a go_b k plain h m =
        let A = as_operand a (normal k a) in let both = made_both (made_operand g n.types k a) (made g n.types A.next b) m in
        (go_a k plain.0 h.0 both.0, tree_fits (normal A.next b) (go_b A.next plain.1 h.1 both.1))

    mutual
      keeps : (t : Tree) → Keeps t
      keeps (tree i p f) k plain h m = form_keeps f i p k plain h m

      operand : (t : Tree) → KeepsOperand t
      operand (tree i p f) k plain h m =
          let N = normal k (tree i p f) in
          let both = made_both (made_in g n.types k i p f) (operand_made g n.types (tree i p f) N) m in
          choose (stands (tree i p f)) i p N both.1 (form_keeps f i p k plain h both.0)

      form_keeps : (f : Form) (i : ℕ) (p : Place) (k : ℕ) → IsPlain top (tree i p f) → Fits n (tree i p f) → AreMade (made_in g n.types k i p f)
          → Good (normal_of k i p f)
      form_keeps (form.whole z) i p k plain h m = (tt, h)
      form_keeps (form.flag b) i p k plain h m = (tt, h)
      form_keeps form.unit i p k plain h m = (tt, h)
      form_keeps (form.use_of x) i p k plain h m = (tt, h)
      form_keeps (form.qualified o x) i p k plain h m = (tt, h)
      form_keeps form.assert_false i p k plain h m = (tt, h)
      form_keeps form.map_empty i p k plain h m = (tt, h)
      form_keeps (form.map_add a b c) i p k plain h m = (tt, h)
      form_keeps (form.map_find a b) i p k plain h m = (tt, h)
      form_keeps (form.negated e) i p k plain h m = operand e k plain h m
      form_keeps (form.not_of e) i p k plain h m = operand e k plain h m
      form_keeps (form.length_of e) i p k plain h m = operand e k plain h m
      form_keeps (form.assert e) i p k plain h m = operand e k plain h m
      form_keeps (form.print e) i p k plain h m = operand e k plain h m
      form_keeps (form.read e) i p k plain h m = operand e k plain h m
      form_keeps (form.call a b) i p k plain h m = two_keep a b (operand a) (operand b) k plain h m
      form_keeps (form.arithmetic o a b) i p k plain h m = two_keep a b (operand a) (operand b) k plain h m
      form_keeps (form.compare o a b) i p k plain h m = two_keep a b (operand a) (operand b) k plain h m
      form_keeps (form.make a b) i p k plain h m = two_keep a b (operand a) (operand b) k plain h m
      form_keeps (form.fetch a b) i p k plain h m = two_keep a b (operand a) (operand b) k plain h m
      form_keeps (form.and_of a b) i p k plain h m =
          let A = as_operand a (normal k a) in let B = normal A.next b in
          either_way (is_pure a && is_pure b) (only k (tree i p (form.and_of a b)))
          (record { lets = A.lets; last = tree i p (form.if_else A.last (tree_of B) (tree i p (form.flag false))); next = B.next })
          (made_operand g n.types k a ++ made g n.types A.next b) (tt, h)
          (λ made. let both = connected a b (operand a) (keeps b) k plain h made in (both.0.0, (both.0.1, both.1, tt))) m
      form_keeps (form.or_of a b) i p k plain h m =
          let A = as_operand a (normal k a) in let B = normal A.next b in
          either_way (is_pure a && is_pure b) (only k (tree i p (form.or_of a b)))
          (record { lets = A.lets; last = tree i p (form.if_else A.last (tree i p (form.flag true)) (tree_of B)); next = B.next })
          (made_operand g n.types k a ++ made g n.types A.next b) (tt, h)
          (λ made. let both = connected a b (operand a) (keeps b) k plain h made in (both.0.0, (both.0.1, tt, both.1))) m
      form_keeps (form.if_else c a b) i p k plain h m =
          let C = as_operand c (normal k c) in let A = normal C.next a in let B = normal A.next b in
          let first = made_both (made_operand g n.types k c) (made g n.types C.next a ++ made g n.types A.next b) m in
          let second = made_both (made g n.types C.next a) (made g n.types A.next b) first.1 in
          let X = operand c k plain.0 h.0 first.0 in
          (X.0, (X.1, tree_fits A (keeps a C.next plain.1 h.1 second.0), tree_fits B (keeps b A.next plain.2 h.2 second.1)))
      form_keeps (form.store a o e) i p k plain h m =
          let A = as_operand a (normal k a) in let O = as_operand o (normal A.next o) in let E = as_operand e (normal O.next e) in
          let first = made_both (made_operand g n.types k a) (made_operand g n.types A.next o ++ made_operand g n.types O.next e) m in
          let X = operand a k plain.0 h.0 first.0 in
          let Y = two_keep o e (operand o) (operand e) A.next (plain.1, plain.2) (h.1, h.2) first.1 in
          (lets_both A.lets (O.lets ++ E.lets) X.0 Y.0, (X.1, Y.1.0, Y.1.1))
      form_keeps (form.tuple es) i p k plain h m = row es k plain.1 h m
      form_keeps (form.build c w es) i p k plain h m = row es k plain.1 h m
      form_keeps (form.list_of es) i p k plain h m =
          let Q = all_items k es in let L = list_of_atoms i p Q.next Q.atoms in
          let both = made_both (items_made g n.types k es) (cells_made g n.types i p Q.next Q.atoms) m in
          let R = items es k plain.1 h both.0 in let C = cells_good i p Q.next Q.atoms R.1 both.1 in
          (lets_both Q.lets L.lets R.0 C.0, C.1)
      form_keeps (form.fun q b) i p k plain h m =
          let both = made_both (parameter_made g k q (domain (n.types i))) (made g n.types (behind k q) b) m in
          (tt, function_keeps q b k (keeps b) plain.0 plain.2 h both.1)
      form_keeps (form.let_in q e b) i p k plain h m =
          let E = normal k e in let B = normal (behind E.next q) b in
          let first = made_both (made g n.types k e) (parameter_made g E.next q (n.types (id_of e)) ++ made g n.types (behind E.next q) b) m in
          let second = made_both (parameter_made g E.next q (n.types (id_of e))) (made g n.types (behind E.next q) b) first.1 in
          let X = keeps e k plain.2 h.0 first.0 in let Y = keeps b (behind E.next q) plain.3 h.1 second.1 in
          let U = subst Good (sym (under_same q E.next B plain.0)) Y in let whole = body_under E.next q B in
          (lets_both E.lets (let_one i p (parameter E.next q) E.last ∷ whole.lets) X.0 (X.1, U.0), U.1)
      form_keeps (form.let_rec f j o q b e) i p k plain h m =
          let B = normal (behind k q) b in
          let first = made_both (parameter_made g k q (domain (n.types j))) (made g n.types (behind k q) b ++ made g n.types B.next e) m in
          let second = made_both (made g n.types (behind k q) b) (made g n.types B.next e) first.1 in
          let X = keeps e B.next plain.3 h.1 second.1 in
          ((function_keeps q b k (keeps b) plain.0 plain.2 h.0 second.0, X.0), X.1)
      form_keeps (form.match_on e cs) i p k plain h m =
          let E = as_scrutinee e (normal k e) in
          let both = made_both (made g n.types k e ++ scrutinee_made g n.types e (normal k e)) (cases_made g n.types E.next (n.types (id_of e)) cs) m in
          let X = scrutinee_keeps e (keeps e) k plain.0 h.1 both.0 in
          (X.0, (h.0, X.1, cases cs E.next (n.types (id_of e)) plain.1 h.2 both.1))
      form_keeps (form.chain no_trees) i p k plain h m = absurd plain.0
      form_keeps (form.chain (more_trees e es)) i p k plain h m =
          let both = made_both (made g n.types k e) (rest_made g n.types (normal k e).next (n.types (id_of e)) es) m in
          rest es i p (normal k e) (n.types (id_of e)) plain.1.1 h.1 both.1 (keeps e k plain.1.0 h.0 both.0)

      row : (es : Trees) (k : ℕ) → Each (fold_all (being_plain top) es) → Each (fold_all (fitting n) es) → AreMade (all_made g n.types k es)
          → RowGood (all_operands k es).lets (all_operands k es).atoms
      row no_trees k plain h m = (tt, tt)
      row (more_trees e es) k plain h m =
          let E = as_operand e (normal k e) in let Q = all_operands E.next es in
          let both = made_both (made_operand g n.types k e) (all_made g n.types E.next es) m in
          row_with E.lets Q.lets E.last Q.atoms (operand e k plain.0 h.0 both.0) (row es E.next plain.1 h.1 both.1)

      items : (es : Trees) (k : ℕ) → Each (fold_all (being_plain top) es) → Each (fold_all (fitting n) es) → AreMade (items_made g n.types k es)
          → RowGood (all_items k es).lets (all_items k es).atoms
      items no_trees k plain h m = (tt, tt)
      items (more_trees e es) k plain h m =
          let N = normal k e in let E = with_name (id_of e) (place_of e) N in let Q = all_items E.next es in
          let both = made_both (made g n.types k e ++ bound_made g n.types e N) (items_made g n.types (N.next + 1) es) m in
          row_with E.lets Q.lets E.last Q.atoms (bound_keeps e (keeps e) k plain.0 h.0 both.0) (items es E.next plain.1 h.1 both.1)

      -- what is left of a chain behind a part
      rest : (es : Trees) (i : ℕ) (p : Place) (N : Normal) (a : MlType) → Each (fold_all (being_plain top) es) → Each (fold_all (fitting n) es)
          → AreMade (rest_made g n.types N.next a es) → Good N → Good (rest_of_chain i p N es)
      rest no_trees i p N a plain h m G = G
      rest (more_trees e es) i p N a plain h m G =
          let k = N.next + 1 in let E = normal k e in
          let both = made_both (made g n.types k e) (rest_made g n.types E.next (n.types (id_of e)) es) m.2 in
          let R = rest es i p E (n.types (id_of e)) plain.1 h.1 both.1 (keeps e k plain.0 h.0 both.0) in
          (lets_both N.lets (let_one i p (pattern p (bind N.next)) N.last ∷ (rest_of_chain i p E es).lets) G.0 (G.1, R.0), R.1)

      cases : (cs : Cases) (k : ℕ) (a : MlType) → EachArm top (fold_cases (being_plain top) cs) → EachBody (fold_cases (fitting n) cs)
          → AreMade (cases_made g n.types k a cs) → EachBody (fold_cases (fitting n) (normal_cases k cs).cases)
      cases no_cases k a plain h m = tt
      cases (more_cases q b cs) k a plain h m =
          let j = (named_pattern k q).next in let B = normal j b in
          let first = made_both (pattern_made g k q a) (made g n.types j b ++ cases_made g n.types B.next a cs) m in
          let second = made_both (made g n.types j b) (cases_made g n.types B.next a cs) first.1 in
          (tree_fits B (keeps b j plain.1 h.0 second.0), cases cs B.next a plain.2 h.1 second.1)

    -- ---- programs

    item_keeps : (f : ItemForm) (k : ℕ) → ItemIsPlain top f → ItemFits n f → AreMade (programs.item_made g n.types k f) → ItemFits n (normal_item k f)
    item_keeps (type_of d) k plain h m = tt
    item_keeps (let_of q e) k plain h m = tree_fits (normal k e) (keeps e k plain.1 h m)
    item_keeps (let_rec_of f r) k plain h m =
        let q = r.parameter in
        let both = made_both (parameter_made g k q (domain (n.types r.id))) (made g n.types (behind k q) r.body) m in
        function_keeps q r.body k (keeps r.body) plain.0 plain.2 h both.1

    pub items_keep : (is : List ItemTree) (k : ℕ) → ItemsArePlain top is → ItemsFit n is → AreMade (programs.items_made g n.types k is)
        → ItemsFit n (normal_items k is)
    items_keep [] k plain h m = tt
    items_keep (i ∷ is) k plain h m =
        let j = next_item k i.form in
        let both = made_both (programs.item_made g n.types k i.form) (programs.items_made g n.types j is) m in
        (item_keeps i.form k plain.0 h.0 both.0, items_keep is j plain.1 h.1 both.1)
