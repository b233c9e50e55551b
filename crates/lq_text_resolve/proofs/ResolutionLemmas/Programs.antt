-- A program without complaints is scoped once its names are bound.
use Rattle.std.proofs.Common.{◌≡◌, ℕ, suc, Bool, true, false, List, [], ◌∷◌, ◌++◌, length, map, Option, Some, refl, sym, ap, subst, ◌∙◌, arith}
use Rattle.std.proofs.lemmas.Bool.{and_from, and_parts}
use Rattle.lq_base_names.specs.declared.place.Place.{Place}
use Rattle.lq_text_tree.specs.Items.{ItemTree, ItemForm, type_of, let_of, let_rec_of}
use Rattle.lq_text_tree.specs.Pattern.{Pattern, bound_in}
use Rattle.lq_text_tree.specs.Tree as form
use Rattle.lq_text_tree.specs.Tree.{Tree, tree, Form, Trees, no_trees, more_trees, Cases, no_cases, more_cases}
use Rattle.lq_text_tree.specs.TreeView.{Recursive}
use Rattle.lq_text_walk.specs.Walk.Fold.{fold_all, fold_cases}
use Rattle.lq_text_walk.specs.Walk.Shape as shape
use Rattle.lq_text_walk.specs.Walk.Visits.{leave, leave_item, leave_function, declare, show, show_name, place_of, under, in_match, in_function, has_let, visiting, visits_of, visits_of_form, visits_of_item, visits_of_items}
use Rattle.lq_text_scope.specs.Datatypes.{name_of, with_constructors, with_datatype}
use Rattle.lq_text_scope.specs.Known as known
use Rattle.lq_text_scope.specs.Known.{Known, predeclared_known}
use Rattle.lq_text_scope.specs.Patterns.{of_pattern}
use Rattle.lq_text_scope.specs.Uses.{behind, complaining, complaints_of, of_item, of_items, of_match, of_program, own}
use Rattle.lq_text_walk.specs.Scoped.Numbers.{binders_in, binders_of_items, nodes_of, nodes_of_form, nodes_of_items}
use Rattle.lq_text_walk.specs.Scoped.Uses.{are_scoped, is_parameter, is_scoped_form, is_scoped_tree, visible_behind}
use Rattle.lq_text_resolve.specs.Binding.Binding.{numbered, sources_of}
use Rattle.lq_text_resolve.specs.Binding.Making.{Frame, frame_with, first_frame, items_made, item_made, made, making, match_made, named, part, recursive_with, shown, taken}
use Rattle.lq_text_resolve.specs.Resolution.Laws.{BoundProgramsAreScoped}
use Rattle.lq_text_resolve.specs.Resolution.Parameters.{all_stand, have_places, is_taken}
use Rattle.lq_text_resolve.proofs.ResolutionLemmas.Fitting.{Fitting, FitsMade, RowFitting, leaf_fitting, more_fitting, none_both, one_fitting, part_of, row_fitting, stand_both, stand_inside, three_fitting, two_fitting}
use Rattle.lq_text_resolve.proofs.ResolutionLemmas.Nodes.{binders_append, binders_ended, binders_of, function_binders}
use Rattle.lq_text_resolve.proofs.ResolutionLemmas.Spanning.{Spans, Sees, one_more, pattern_spans, sees_more, sees_pattern, spans_append, spans_from, spans_length}
use Rattle.lq_text_resolve.proofs.ResolutionLemmas.Taking.{ArmsFitting, agree_named, agree_under, arm_fitting, function_fitting, let_fitting, let_match, let_rec_fitting, let_same, numbered_parameter, plain_match, stand_under, taken_fits}

module _ (names : List (List ℕ)) where
  abbrev FittingTree : Tree → Type 0
  FittingTree t = Fitting (place_of t) (made names t) (complaints_of names t) (visits_of t)

  abbrev FittingRow : Place → Trees → Type 0
  FittingRow p es = RowFitting p (fold_all (making names) es) (fold_all (complaining names) es) (fold_all visiting es)

  abbrev FittingArms : Place → Cases → Type 0
  FittingArms p cs = ArmsFitting p (fold_cases (making names) cs) (fold_cases (complaining names) cs) (fold_cases visiting cs)

  -- the bodies of arms
  abbrev Bodies : Cases → Type 0
  Bodies no_cases = Unit {0}
  Bodies (more_cases q b cs) = FittingTree b × Bodies cs

  arms_fit : (p : Place) (cs : Cases) → Bodies cs → FittingArms p cs
  arms_fit p no_cases fits = λ w k vs n s agree sees none stand. (refl, refl)
  arms_fit p (more_cases q b cs) fits =
      arm_fitting p (place_of b) q (made names b) (complaints_of names b) (visits_of b) (fold_cases (making names) cs) (fold_cases (complaining names) cs) (fold_cases visiting cs)
      fits.0 (arms_fit p cs fits.1)

  match_fits : (written : Bool) (p : Place) (e : Tree) (cs : Cases) → has_let e cs ≡ written → FittingTree e → Bodies cs
      → (w : Known) (k : Frame) (vs : List ℕ) (o n : ℕ) (s : List (Option ℕ)) → w.variables ≡ map name_of k.variables → Sees k.variables vs
      → of_match written w (complaints_of names e w 0) (fold_cases (complaining names) cs) ≡ [] → all_stand (in_match written (visits_of e) (fold_cases visiting cs)) ≡ true
      → FitsMade vs p o n (length s) (match_made written p (made names e) (fold_cases (making names) cs) k n s)
  match_fits true p e no_cases is first fits w k vs o n s agree sees none stand = absurd (let it = is in cc)
  match_fits true p e (more_cases q b no_cases) is first fits w k vs o n s agree sees none stand =
      let_match p e b q (place_of b) (made names e) (made names b) (complaints_of names e) (complaints_of names b) (visits_of e) (visits_of b) is first fits.0 w k vs o n s agree sees none stand
  match_fits true p e (more_cases q b (more_cases r c cs)) is first fits w k vs o n s agree sees none stand = absurd (let it = is in cc)
  match_fits false p e no_cases is first fits w k vs o n s agree sees none stand =
      plain_match p e (made names e) (complaints_of names e) (visits_of e) [] [] [] (λ l m r f at. refl) first (arms_fit p no_cases fits) w k vs o n s agree sees none stand
  match_fits false p e (more_cases q b no_cases) is first fits w k vs o n s agree sees none stand =
      let cs = more_cases q b no_cases in
      plain_match p e (made names e) (complaints_of names e) (visits_of e) (fold_cases (making names) cs) (fold_cases (complaining names) cs) (fold_cases visiting cs)
      (λ l m r f at. let_same e f q (length r) b (part p (made names b (shown (length r) q l) m (r ++ sources_of (bound_in q))).value) at ∙ is)
      first (arms_fit p cs fits) w k vs o n s agree sees none stand
  match_fits false p e (more_cases q b (more_cases r c cs)) is first fits w k vs o n s agree sees none stand =
      let ds = more_cases q b (more_cases r c cs) in
      plain_match p e (made names e) (complaints_of names e) (visits_of e) (fold_cases (making names) ds) (fold_cases (complaining names) ds) (fold_cases visiting ds)
      (λ l m t f at. refl) first (arms_fit p ds fits) w k vs o n s agree sees none stand

  one_fits : (i : ℕ) (p : Place) (f : Form) (h : shape.One) (a : Tree) → FittingTree a
      → Fitting p ((making names).one (tree i p f) h (made names a)) ((complaining names).one (tree i p f) h (complaints_of names a)) (visiting.one (tree i p f) h (visits_of a))
  one_fits i p f h a first = one_fitting names (tree i p f) h (place_of a) (made names a) (complaints_of names a) (visits_of a) first

  two_fits : (i : ℕ) (p : Place) (f : Form) (h : shape.Two) (a b : Tree) → FittingTree a → FittingTree b
      → Fitting p ((making names).two (tree i p f) h (made names a) (made names b)) ((complaining names).two (tree i p f) h (complaints_of names a) (complaints_of names b))
      (visiting.two (tree i p f) h (visits_of a) (visits_of b))
  two_fits i p f h a b first second =
      two_fitting names (tree i p f) h (place_of a) (place_of b) (made names a) (made names b) (complaints_of names a) (complaints_of names b) (visits_of a) (visits_of b) first second

  three_fits : (i : ℕ) (p : Place) (f : Form) (h : shape.Three) (a b c : Tree) → FittingTree a → FittingTree b → FittingTree c
      → Fitting p ((making names).three (tree i p f) h (made names a) (made names b) (made names c))
      ((complaining names).three (tree i p f) h (complaints_of names a) (complaints_of names b) (complaints_of names c))
      (visiting.three (tree i p f) h (visits_of a) (visits_of b) (visits_of c))
  three_fits i p f h a b c first second third =
      three_fitting names (tree i p f) h (place_of a) (place_of b) (place_of c) (made names a) (made names b) (made names c)
      (complaints_of names a) (complaints_of names b) (complaints_of names c) (visits_of a) (visits_of b) (visits_of c) first second third

  row_fits : (t : Tree) (h : shape.Row) (es : Trees) → FittingRow (place_of t) es
      → Fitting (place_of t) ((making names).row t h (fold_all (making names) es)) ((complaining names).row t h (fold_all (complaining names) es)) (visiting.row t h (fold_all visiting es))
  row_fits t h es others = row_fitting names t h (own names t) (fold_all (making names) es) (fold_all (complaining names) es) (fold_all visiting es) others

  mutual
    pub tree_fits : (t : Tree) → FittingTree t
    tree_fits (tree i p f) = form_fits i p f

    form_fits : (i : ℕ) (p : Place) (f : Form) → FittingTree (tree i p f)
    form_fits i p (form.whole m) = leaf_fitting names p (shape.whole m) (visits_of (tree i p (form.whole m)))
    form_fits i p (form.flag b) = leaf_fitting names p (shape.flag b) (visits_of (tree i p (form.flag b)))
    form_fits i p form.unit = leaf_fitting names p shape.unit (visits_of (tree i p form.unit))
    form_fits i p (form.use_of x) = leaf_fitting names p (shape.use_of x) (visits_of (tree i p (form.use_of x)))
    form_fits i p (form.qualified m x) = leaf_fitting names p (shape.qualified m x) (visits_of (tree i p (form.qualified m x)))
    form_fits i p form.assert_false = leaf_fitting names p shape.assert_false (visits_of (tree i p form.assert_false))
    form_fits i p form.map_empty = leaf_fitting names p shape.map_empty (visits_of (tree i p form.map_empty))
    form_fits i p (form.fun q b) = λ w k vs o n s agree sees none stand.
        let t = tree i p (form.fun q b) in
        let well = (and_parts (is_taken q) (all_stand ((declare q ∷ under q (visits_of b)) ++ leave t ∷ [])) stand).0 in
        function_fitting names t q (place_of b) (made names b) (complaints_of names b) (visits_of b) well (tree_fits b) w k vs o n s agree sees none stand
    form_fits i p (form.tuple es) = row_fits (tree i p (form.tuple es)) shape.tuple es (all_fit p es)
    form_fits i p (form.build c w es) = row_fits (tree i p (form.build c w es)) (shape.build c w) es (all_fit p es)
    form_fits i p (form.list_of es) = row_fits (tree i p (form.list_of es)) shape.list_of es (all_fit p es)
    form_fits i p (form.chain es) = row_fits (tree i p (form.chain es)) shape.chain es (all_fit p es)
    form_fits i p (form.let_in q e b) =
        let_fitting names (tree i p (form.let_in q e b)) q (place_of e) (place_of b) (made names e) (made names b) (complaints_of names e) (complaints_of names b) (visits_of e) (visits_of b)
        (tree_fits e) (tree_fits b)
    form_fits i p (form.let_rec f j r q e b) =
        let_rec_fitting names i p f j r q e b (place_of e) (place_of b) (made names e) (made names b) (complaints_of names e) (complaints_of names b) (visits_of e) (visits_of b)
        (tree_fits e) (tree_fits b)
    form_fits i p (form.call a b) = two_fits i p (form.call a b) shape.call a b (tree_fits a) (tree_fits b)
    form_fits i p (form.arithmetic o a b) = two_fits i p (form.arithmetic o a b) (shape.arithmetic o) a b (tree_fits a) (tree_fits b)
    form_fits i p (form.compare o a b) = two_fits i p (form.compare o a b) (shape.compare o) a b (tree_fits a) (tree_fits b)
    form_fits i p (form.and_of a b) = two_fits i p (form.and_of a b) shape.and_of a b (tree_fits a) (tree_fits b)
    form_fits i p (form.or_of a b) = two_fits i p (form.or_of a b) shape.or_of a b (tree_fits a) (tree_fits b)
    form_fits i p (form.make a b) = two_fits i p (form.make a b) shape.make a b (tree_fits a) (tree_fits b)
    form_fits i p (form.fetch a b) = two_fits i p (form.fetch a b) shape.fetch a b (tree_fits a) (tree_fits b)
    form_fits i p (form.map_find a b) = two_fits i p (form.map_find a b) shape.map_find a b (tree_fits a) (tree_fits b)
    form_fits i p (form.negated a) = one_fits i p (form.negated a) shape.negated a (tree_fits a)
    form_fits i p (form.not_of a) = one_fits i p (form.not_of a) shape.not_of a (tree_fits a)
    form_fits i p (form.assert a) = one_fits i p (form.assert a) shape.assert a (tree_fits a)
    form_fits i p (form.length_of a) = one_fits i p (form.length_of a) shape.length_of a (tree_fits a)
    form_fits i p (form.print a) = one_fits i p (form.print a) shape.print a (tree_fits a)
    form_fits i p (form.read a) = one_fits i p (form.read a) shape.read a (tree_fits a)
    form_fits i p (form.if_else a b c) = three_fits i p (form.if_else a b c) shape.if_else a b c (tree_fits a) (tree_fits b) (tree_fits c)
    form_fits i p (form.store a b c) = three_fits i p (form.store a b c) shape.store a b c (tree_fits a) (tree_fits b) (tree_fits c)
    form_fits i p (form.map_add a b c) = three_fits i p (form.map_add a b c) shape.map_add a b c (tree_fits a) (tree_fits b) (tree_fits c)
    form_fits i p (form.match_on e cs) = λ w k vs o n s agree sees none stand.
        let t = tree i p (form.match_on e cs) in
        match_fits (has_let e cs) p e cs refl (tree_fits e) (bodies_fit cs) w k vs o n s agree sees none
        (stand_inside t (in_match (has_let e cs) (visits_of e) (fold_cases visiting cs)) stand)

    all_fit : (p : Place) (es : Trees) → FittingRow p es
    all_fit p no_trees = λ w k vs n s agree sees none stand. (refl, refl)
    all_fit p (more_trees e es) =
        more_fitting p (place_of e) (made names e) (complaints_of names e) (visits_of e) (fold_all (making names) es) (fold_all (complaining names) es) (fold_all visiting es)
        (tree_fits e) (all_fit p es)

    bodies_fit : (cs : Cases) → Bodies cs
    bodies_fit no_cases = tt
    bodies_fit (more_cases q b cs) = (tree_fits b, bodies_fit cs)

  -- ---- items

  pub record ItemsFit (vs : List ℕ) (n b : ℕ) (is : List ItemTree) (m c : ℕ) : Type 0 where
    pub nodes : Spans n (nodes_of_items is) m
    pub binders : Spans b (binders_of_items is) c
    pub scoped : are_scoped vs is ≡ true

  item_more : (vs : List ℕ) (n b k d m c : ℕ) (i : ItemTree) (is : List ItemTree) → Spans n (nodes_of_form i.form) k → Spans b (binders_in (visits_of_form i.form)) d
      → is_scoped_form vs i.form ≡ true → ItemsFit (visible_behind vs i.form) k d is m c → ItemsFit vs n b (i ∷ is) m c
  item_more vs n b k d m c i is nodes binders scoped rest = record {
    nodes = spans_append n k m (nodes_of_form i.form) (nodes_of_items is) nodes rest.nodes;
    binders =
        subst (λ (xs : List ℕ). Spans b xs c)
        (sym (binders_append (visits_of_item i) (visits_of_items is) ∙ ap (λ (xs : List ℕ). xs ++ binders_of_items is) (binders_ended (visits_of_form i.form) (leave_item i) refl)))
        (spans_append b d c (binders_in (visits_of_form i.form)) (binders_of_items is) binders rest.binders);
    scoped = and_from (is_scoped_form vs i.form) (are_scoped (visible_behind vs i.form) is) scoped rest.scoped;
  }

  abbrev AllFit : List ItemTree → Type 0
  AllFit is =
      (w : Known) (k : Frame) (vs : List ℕ) (n : ℕ) (s : List (Option ℕ)) → w.variables ≡ map name_of k.variables → Sees k.variables vs → of_items names w is ≡ []
      → all_stand (visits_of_items is) ≡ true → (let x = items_made names k n s is in ItemsFit vs n (length s) x.items x.next (length x.sources))

  abbrev item_of : Place → ItemForm → ItemTree
  item_of p f = record { place = p; form = f }

  let_fits : (p : Place) (q : Pattern) (e : Tree) (is : List ItemTree) → AllFit is
      → (w : Known) (k : Frame) (vs : List ℕ) (n : ℕ) (s : List (Option ℕ)) → w.variables ≡ map name_of k.variables → Sees k.variables vs
      → of_item names w (let_of q e) ++ of_items names (behind w (let_of q e)) is ≡ [] → all_stand (visits_of_item (item_of p (let_of q e)) ++ visits_of_items is) ≡ true
      → (let x = item_made names p (let_of q e) k n s (λ l m r. items_made names l m r is) in ItemsFit vs n (length s) x.items x.next (length x.sources))
  let_fits p q e is rest w k vs n s agree sees none stand =
      let start = length s in let s1 = s ++ sources_of (bound_in q) in let x = made names e k n s1 in
      let y = items_made names (shown start q k) x.next x.sources is in
      let i = item_of p (let_of q e) in let j = item_of p (let_of (numbered start q) (part p x.value)) in
      let inner = declare q ∷ (visits_of e ++ show q ∷ []) in
      let nones = none_both (of_item names w (let_of q e)) (of_items names (known.under q w) is) none in
      let own_none = none_both (of_pattern w.constructors q) (complaints_of names e w 0) nones.0 in
      let stands = stand_both (visits_of_item i) (visits_of_items is) stand in
      let first = and_parts (is_parameter q) (all_stand (inner ++ leave_item i ∷ [])) stands.0 in
      let body = stand_both (visits_of e) (show q ∷ []) (stand_both inner (leave_item i ∷ []) first.1).0 in
      let fits = part_of vs (place_of e) p n (length s1) x.value x.next (length x.sources) (tree_fits e w k vs 0 n s1 agree sees own_none.1 body.0) in
      let plain = numbered_parameter start q ∙ first.0 in
      item_more vs n start x.next (length x.sources) y.next (length y.sources) j y.items fits.nodes
      (subst (λ (xs : List ℕ). Spans start (bound_in (numbered start q) ++ xs) (length x.sources)) (sym (binders_ended (visits_of (part p x.value)) (show (numbered start q)) refl))
      (spans_append start (length s1) (length x.sources) (bound_in (numbered start q)) (binders_of (part p x.value)) (pattern_spans s q) fits.binders))
      (and_from (is_parameter (numbered start q)) (is_scoped_tree vs (part p x.value)) plain fits.scoped)
      (rest (known.under q w) (shown start q k) (bound_in (numbered start q) ++ vs) x.next x.sources (agree_under q w k start agree) (sees_pattern q vs k.variables start sees) nones.1 stands.1)

  let_rec_fits : (p : Place) (f : ℕ) (r : Recursive) (is : List ItemTree) → AllFit is
      → (w : Known) (k : Frame) (vs : List ℕ) (n : ℕ) (s : List (Option ℕ)) → w.variables ≡ map name_of k.variables → Sees k.variables vs
      → of_item names w (let_rec_of f r) ++ of_items names (behind w (let_rec_of f r)) is ≡ [] → all_stand (visits_of_item (item_of p (let_rec_of f r)) ++ visits_of_items is) ≡ true
      → (let x = item_made names p (let_rec_of f r) k n s (λ l m r. items_made names l m r is) in ItemsFit vs n (length s) x.items x.next (length x.sources))
  let_rec_fits p f r is rest w k vs n s agree sees none stand =
      let q = r.parameter in let e = r.body in
      let start = length s in let s1 = s ++ Some f ∷ [] in let l = named start f k in let w1 = known.named f w in let vs1 = start ∷ vs in
      let x = taken r.place q (made names e) l n s1 in let y = items_made names l (suc x.next) x.sources is in
      let i = item_of p (let_rec_of f r) in let g = recursive_with x.next r.place x.parameter x.body in let j = item_of p (let_rec_of start g) in
      let inner = show_name f ∷ in_function r (visits_of e) in
      let nones = none_both (of_item names w (let_rec_of f r)) (of_items names w1 is) none in
      let own_none = none_both (of_pattern w.constructors q) (complaints_of names e (known.under q w1) 0) nones.0 in
      let stands = stand_both (visits_of_item i) (visits_of_items is) stand in
      let function = (stand_both inner (leave_item i ∷ []) stands.0).0 in
      let both = stand_both (under q (visits_of e)) (leave_function r ∷ []) function in
      let well = (and_parts (is_taken q) true both.1).0 in
      let agree1 = agree_named f w k start agree in let sees1 = sees_more k.variables vs f start sees in
      let fits = taken_fits r.place (place_of e) (made names e) (complaints_of names e) (visits_of e) q well (tree_fits e) w1 l vs1 n s1 agree1 sees1 own_none.1 (stand_under q (visits_of e) both.0) in
      let binders = subst (λ (m : ℕ). Spans m (binders_in (in_function g (visits_of x.body))) (length x.sources)) (one_more s (Some f)) (function_binders g (length s1) (length x.sources) fits.binders) in
      item_more vs n start (suc x.next) (length x.sources) y.next (length y.sources) j y.items
      (spans_append n x.next (suc x.next) (nodes_of x.body) (x.next ∷ []) fits.nodes (refl, refl)) (refl, binders)
      (and_from (is_parameter x.parameter) (is_scoped_tree (bound_in x.parameter ++ vs1) x.body) fits.parameter fits.scoped)
      (rest w1 l vs1 (suc x.next) x.sources agree1 sees1 nones.1 stands.1)

  item_fits : (p : Place) (f : ItemForm) (is : List ItemTree) → AllFit is
      → (w : Known) (k : Frame) (vs : List ℕ) (n : ℕ) (s : List (Option ℕ)) → w.variables ≡ map name_of k.variables → Sees k.variables vs
      → of_item names w f ++ of_items names (behind w f) is ≡ [] → all_stand (visits_of_item (item_of p f) ++ visits_of_items is) ≡ true
      → (let x = item_made names p f k n s (λ l m r. items_made names l m r is) in ItemsFit vs n (length s) x.items x.next (length x.sources))
  item_fits p (type_of d) is rest w k vs n s agree sees none stand =
      rest (with_datatype w d) (frame_with k.variables (with_constructors k.constructors d.constructors)) vs n s agree sees
      (none_both (of_item names w (type_of d)) (of_items names (with_datatype w d) is) none).1 (stand_both (visits_of_item (item_of p (type_of d))) (visits_of_items is) stand).1
  item_fits p (let_of q e) is rest w k vs n s agree sees none stand = let_fits p q e is rest w k vs n s agree sees none stand
  item_fits p (let_rec_of f r) is rest w k vs n s agree sees none stand = let_rec_fits p f r is rest w k vs n s agree sees none stand

  pub all_items_fit : (is : List ItemTree) → AllFit is
  all_items_fit [] w k vs n s agree sees none stand = record { nodes = refl; binders = refl; scoped = refl }
  all_items_fit (i ∷ is) w k vs n s agree sees none stand = item_fits i.place i.form is (all_items_fit is) w k vs n s agree sees none stand

  -- a whole program
  pub program_fits : (is : List ItemTree) → of_program names is ≡ [] → have_places is ≡ true
      → (let x = items_made names first_frame 0 [] is in ItemsFit [] 0 0 x.items x.next (length x.sources))
  program_fits is none stand = all_items_fit is predeclared_known first_frame [] 0 [] refl (λ x b found. absurd (let it = found in cc)) none stand

pub bound_programs_are_scoped : BoundProgramsAreScoped
bound_programs_are_scoped names is none stand =
    let x = items_made names first_frame 0 [] is in
    let fits = program_fits names is none stand in
    let nodes = spans_length 0 x.next (nodes_of_items x.items) fits.nodes in
    let binders = spans_length 0 (length x.sources) (binders_of_items x.items) fits.binders in
    record {
      nodes = spans_from 0 x.next (nodes_of_items x.items) fits.nodes;
      counted = omega (arith, nodes);
      binders = spans_from 0 (length x.sources) (binders_of_items x.items) fits.binders;
      named = omega (arith, binders);
      scoped = fits.scoped;
    }
