-- The rules of a tree hold under names exactly where those of its visits do, a case a shape.
use Rattle.std.specs.Prelude.{◌&&◌, ◌||◌, ◌==◌, if◌then◌else◌}
use Rattle.std.proofs.Common.{◌≡◌, ℕ, ◌+◌, Bool, true, false, List, [], ◌∷◌, ◌++◌, Some, None, refl, sym, subst}
use Rattle.std.proofs.lemmas.Bool.{and_parts, eqb-true, eq-eqb}
use Rattle.lq_base_names.specs.declared.place.Place.{Place}
use Rattle.lq_text_tree.specs.MlType.{MlType}
use Rattle.lq_text_tree.specs.Items.{ItemForm, type_of, let_of, let_rec_of}
use Rattle.lq_text_tree.specs.Pattern.{Pattern, bound_in}
use Rattle.lq_text_tree.specs.Tree as form
use Rattle.lq_text_tree.specs.Tree.{Tree, tree, Form, Trees, no_trees, more_trees, Cases, no_cases, more_cases}
use Rattle.lq_text_tree.specs.TreeView.{Recursive}
use Rattle.lq_text_tree.specs.Types.{Signature, Names, plain, scheme_in, IsUsedAt}
use Rattle.lq_text_tree.specs.TypingRules.{plain_names, TreeIs, TreesAre, CasesAre}
use Rattle.lq_text_walk.specs.Walk.Fold.{Arm, fold_all, fold_cases}
use Rattle.lq_text_walk.specs.Walk.Visits.{Visit, enter_item, leave_item, enter, leave, leave_function, declare, show, hide, show_name, hide_name, visiting, visits_of, visits_of_form, around, under, in_row, in_arms, in_match, in_function, is_let}
use Rattle.lq_text_walk.specs.Scoped.Numbers.{binders_at}
use Rattle.lq_text_walk.specs.Scoped.Uses.{is_visible, is_parameter, is_apart, scoping, is_scoped_form, is_scoped_tree, all_under, arms_under}
use Rattle.lq_types_rules.specs.Equations.Rows.{annotation_of, number_of}
use Rattle.lq_types_rules.specs.Typings.Uses.{Known, before_in, use_by, RuleBy, UseRule}
use Rattle.lq_types_rules.specs.Typings.Fronts.{NodesAre}
use Rattle.lq_types_rules.proofs.TypingsLemmas.Lists.{AllOf, all_both, all_left, all_right, all_in, all_out}

-- a visit inside of an item
abbrev pub Inner : Visit → Type 0
Inner (enter_item i) = ⊥
Inner (leave_item i) = ⊥
Inner (enter e) = Unit {0}
Inner (leave e) = Unit {0}
Inner (leave_function r) = Unit {0}
Inner (declare q) = Unit {0}
Inner (show q) = Unit {0}
Inner (hide q) = Unit {0}
Inner (show_name x) = Unit {0}
Inner (hide_name x) = Unit {0}

-- the rule of what is left is wanted
abbrev pub Wanted : (ℕ → Type 0) → Visit → Type 0
Wanted W (enter_item i) = Unit {0}
Wanted W (leave_item i) = Unit {0}
Wanted W (enter e) = Unit {0}
Wanted W (leave e) = W (number_of e)
Wanted W (leave_function r) = W r.id
Wanted W (declare q) = Unit {0}
Wanted W (show q) = Unit {0}
Wanted W (hide q) = Unit {0}
Wanted W (show_name x) = Unit {0}
Wanted W (hide_name x) = Unit {0}

module _ (g : Signature) (nodes : ℕ) (t : ℕ → MlType) (W : ℕ → Type 0) (k : Known) where
  abbrev pub Kept : Visit → Type 0
  Kept v = Wanted W v → UseRule g nodes k v t

  -- no binder of this number is that of a generalised definition
  abbrev pub IsLocal : ℕ → Type 0
  IsLocal x = before_in k.general x ≡ None

  abbrev pub Fresh : Visit → Type 0
  Fresh v = AllOf IsLocal (binders_at v)

  -- the rule of a use of a binder at a node
  abbrev pub UseOf : ℕ → ℕ → Type 0
  UseOf x i = RuleBy nodes (use_by i x (before_in k.general x)) t (IsUsedAt (scheme_in ((x, plain (t (nodes + x))) ∷ []) x) (t i))

  -- what names allow is the rule of the use, and the other way round
  abbrev pub AgreeTo : Names → List ℕ → Type 0
  AgreeTo ns vs = (x i : ℕ) → is_visible vs x ≡ true → IsUsedAt (scheme_in ns x) (t i) → UseOf x i

  abbrev pub AgreeBack : Names → List ℕ → Type 0
  AgreeBack ns vs = (x i : ℕ) → is_visible vs x ≡ true → UseOf x i → IsUsedAt (scheme_in ns x) (t i)

  -- ---- local names

  plain_to : (x i : ℕ) → IsLocal x → t i ≡ t (nodes + x) → UseOf x i
  plain_to x i none h =
      subst (λ o. RuleBy nodes (use_by i x o) t (IsUsedAt (scheme_in ((x, plain (t (nodes + x))) ∷ []) x) (t i))) (sym none)
      (subst (λ b. IsUsedAt (if b then Some (plain (t (nodes + x))) else None) (t i)) (sym (eq-eqb x x refl)) h)

  plain_from : (x i : ℕ) → IsLocal x → UseOf x i → t i ≡ t (nodes + x)
  plain_from x i none h =
      subst (λ b. IsUsedAt (if b then Some (plain (t (nodes + x))) else None) (t i)) (eq-eqb x x refl)
      (subst (λ o. RuleBy nodes (use_by i x o) t (IsUsedAt (scheme_in ((x, plain (t (nodes + x))) ∷ []) x) (t i))) none h)

  at_to : (x y i : ℕ) (ns : Names) (vs : List ℕ) (b : Bool) → (b ≡ true → x ≡ y) → IsLocal x → AgreeTo ns vs → (b || is_visible vs y) ≡ true
      → IsUsedAt (if b then Some (plain (t (nodes + x))) else scheme_in ns y) (t i) → UseOf y i
  at_to x y i ns vs true same none agree seen h = subst (λ z. UseOf z i) (same refl) (plain_to x i none h)
  at_to x y i ns vs false same none agree seen h = agree y i seen h

  at_back : (x y i : ℕ) (ns : Names) (vs : List ℕ) (b : Bool) → (b ≡ true → x ≡ y) → IsLocal x → AgreeBack ns vs → (b || is_visible vs y) ≡ true
      → UseOf y i → IsUsedAt (if b then Some (plain (t (nodes + x))) else scheme_in ns y) (t i)
  at_back x y i ns vs true same none agree seen h = plain_from x i none (subst (λ z. UseOf z i) (sym (same refl)) h)
  at_back x y i ns vs false same none agree seen h = agree y i seen h

  pub agree_to_one : (x : ℕ) (ns : Names) (vs : List ℕ) → IsLocal x → AgreeTo ns vs → AgreeTo ((x, plain (t (nodes + x))) ∷ ns) (x ∷ vs)
  agree_to_one x ns vs none agree y i seen h = at_to x y i ns vs (x == y) (eqb-true x y) none agree seen h

  pub agree_back_one : (x : ℕ) (ns : Names) (vs : List ℕ) → IsLocal x → AgreeBack ns vs → AgreeBack ((x, plain (t (nodes + x))) ∷ ns) (x ∷ vs)
  agree_back_one x ns vs none agree y i seen h = at_back x y i ns vs (x == y) (eqb-true x y) none agree seen h

  agree_to : (xs : List ℕ) (ns : Names) (vs : List ℕ) → AllOf IsLocal xs → AgreeTo ns vs
      → AgreeTo (plain_names (annotation_of nodes t) xs ++ ns) (xs ++ vs)
  agree_to [] ns vs h agree = agree
  agree_to (x ∷ xs) ns vs h agree = agree_to_one x (plain_names (annotation_of nodes t) xs ++ ns) (xs ++ vs) h.0 (agree_to xs ns vs h.1 agree)

  agree_back : (xs : List ℕ) (ns : Names) (vs : List ℕ) → AllOf IsLocal xs → AgreeBack ns vs
      → AgreeBack (plain_names (annotation_of nodes t) xs ++ ns) (xs ++ vs)
  agree_back [] ns vs h agree = agree
  agree_back (x ∷ xs) ns vs h agree = agree_back_one x (plain_names (annotation_of nodes t) xs ++ ns) (xs ++ vs) h.0 (agree_back xs ns vs h.1 agree)

  -- ---- shapes

  -- A statement under names holds exactly where visits keep their rules, if what is scoped is and binders are fresh.
  pub record Goes (A : Names → Type 0) (us : List Visit) (sc : List ℕ → Bool) : Type 0 where
    pub inner : AllOf Inner us
    pub to : (ns : Names) (vs : List ℕ) → AgreeTo ns vs → sc vs ≡ true → AllOf Fresh us → A ns → AllOf Kept us
    pub back : (ns : Names) (vs : List ℕ) → AgreeBack ns vs → sc vs ≡ true → AllOf Fresh us → AllOf Kept us → A ns

  none_goes : Goes (λ ns. Unit {0}) [] (λ vs. true)
  none_goes = record { inner = tt; to = λ ns vs agree scoped fresh h. tt; back = λ ns vs agree scoped fresh h. tt }

  map_goes : {A B : Names → Type 0} {us : List Visit} {sc : List ℕ → Bool} → ((ns : Names) → A ns → B ns) → ((ns : Names) → B ns → A ns)
      → Goes A us sc → Goes B us sc
  map_goes f f' h = record {
    inner = h.inner;
    to = λ ns vs agree scoped fresh x. h.to ns vs agree scoped fresh (f' ns x);
    back = λ ns vs agree scoped fresh x. f ns (h.back ns vs agree scoped fresh x);
  }

  guard_goes : {A : Names → Type 0} {us : List Visit} {sc : List ℕ → Bool} (b : Bool) → Goes A us sc → Goes A us (λ vs. b && sc vs)
  guard_goes {sc = sc} b h = record {
    inner = h.inner;
    to = λ ns vs agree scoped fresh x. h.to ns vs agree (and_parts b (sc vs) scoped).1 fresh x;
    back = λ ns vs agree scoped fresh x. h.back ns vs agree (and_parts b (sc vs) scoped).1 fresh x;
  }

  pair_goes : {A B : Names → Type 0} {us ws : List Visit} {sa sb : List ℕ → Bool} → Goes A us sa → Goes B ws sb
      → Goes (λ ns. A ns × B ns) (us ++ ws) (λ vs. sa vs && sb vs)
  pair_goes {us = us} {ws = ws} {sa = sa} {sb = sb} a b = record {
    inner = all_both Inner us ws a.inner b.inner;
    to = λ ns vs agree scoped fresh x.
        let both = and_parts (sa vs) (sb vs) scoped in
        all_both Kept us ws (a.to ns vs agree both.0 (all_left Fresh us ws fresh) x.0) (b.to ns vs agree both.1 (all_right Fresh us ws fresh) x.1);
    back = λ ns vs agree scoped fresh x.
        let both = and_parts (sa vs) (sb vs) scoped in
        (a.back ns vs agree both.0 (all_left Fresh us ws fresh) (all_left Kept us ws x), b.back ns vs agree both.1 (all_right Fresh us ws fresh) (all_right Kept us ws x));
  }

  triple_goes : {A B C : Names → Type 0} {us ws xs : List Visit} {sa sb sc : List ℕ → Bool} → Goes A us sa → Goes B ws sb → Goes C xs sc
      → Goes (λ ns. A ns × B ns × C ns) (us ++ (ws ++ xs)) (λ vs. sa vs && (sb vs && sc vs))
  triple_goes a b c = map_goes (λ ns x. (x.0, x.1.0, x.1.1)) (λ ns x. (x.0, (x.1, x.2))) (pair_goes a (pair_goes b c))

  -- a visit behind others
  ended_goes : {A : Names → Type 0} {us : List Visit} {sc : List ℕ → Bool} (v : Visit) → Inner v → Goes A us sc
      → Goes (λ ns. Kept v × A ns) (us ++ v ∷ []) sc
  ended_goes {us = us} v in_it h = record {
    inner = all_both Inner us (v ∷ []) h.inner (in_it, tt);
    to = λ ns vs agree scoped fresh x. all_both Kept us (v ∷ []) (h.to ns vs agree scoped (all_left Fresh us (v ∷ []) fresh) x.1) (x.0, tt);
    back = λ ns vs agree scoped fresh x.
        ((all_right Kept us (v ∷ []) x).0, h.back ns vs agree scoped (all_left Fresh us (v ∷ []) fresh) (all_left Kept us (v ∷ []) x));
  }

  -- a visit without a rule before others
  begun_goes : {A : Names → Type 0} {us : List Visit} {sc : List ℕ → Bool} (v : Visit) → Inner v → Kept v → Goes A us sc → Goes A (v ∷ us) sc
  begun_goes v in_it kept h = record {
    inner = (in_it, h.inner);
    to = λ ns vs agree scoped fresh x. (kept, h.to ns vs agree scoped fresh.1 x);
    back = λ ns vs agree scoped fresh x. h.back ns vs agree scoped fresh.1 x.1;
  }

  -- the parts of a node, with its own rule
  node_goes : {A : Names → Type 0} {us : List Visit} {sc : List ℕ → Bool} (b : Bool) (e : Tree) → Goes A us sc
      → Goes (λ ns. Kept (leave e) × A ns) (around e us) (λ vs. b && sc vs)
  node_goes b e h = begun_goes (enter e) tt (λ _. tt) (ended_goes (leave e) tt (guard_goes b h))

  leaf_goes : (b : Bool) (e : Tree) → Goes (λ ns. Kept (leave e) × Unit {0}) (around e []) (λ vs. b)
  leaf_goes true e = node_goes true e none_goes
  leaf_goes false e = node_goes false e none_goes

  use_goes : (i : ℕ) (p : Place) (x : ℕ)
      → Goes (λ ns. TreeIs g (annotation_of nodes t) W ns (tree i p (form.use_of x))) (around (tree i p (form.use_of x)) []) (λ vs. is_visible vs x)
  use_goes i p x = record {
    inner = (tt, (tt, tt));
    to = λ ns vs agree scoped fresh h. (λ _. tt, (λ w. agree x i scoped (h.0 w), tt));
    back = λ ns vs agree scoped fresh h. (λ w. agree x i scoped (h.1.0 w), tt);
  }

  let_goes : {A B : Names → Type 0} {us ws : List Visit} {sa sb : List ℕ → Bool} (q : Pattern) → Goes A us sa → Goes B ws sb
      → Goes (λ ns. A ns × B (plain_names (annotation_of nodes t) (bound_in q) ++ ns)) (declare q ∷ (us ++ under q ws)) (λ vs. sa vs && sb (bound_in q ++ vs))
  let_goes {us = us} {ws = ws} {sa = sa} {sb = sb} q a b = record {
    inner = (tt, all_both Inner us (under q ws) a.inner (tt, all_both Inner ws (hide q ∷ []) b.inner (tt, tt)));
    to = λ ns vs agree scoped fresh x.
        let both = and_parts (sa vs) (sb (bound_in q ++ vs)) scoped in
        let behind = all_left Fresh ws (hide q ∷ []) (all_right Fresh us (under q ws) fresh.1).1 in
        let body = b.to (plain_names (annotation_of nodes t) (bound_in q) ++ ns) (bound_in q ++ vs) (agree_to (bound_in q) ns vs fresh.0 agree) both.1 behind x.1 in
        (λ _. tt, all_both Kept us (under q ws) (a.to ns vs agree both.0 (all_left Fresh us (under q ws) fresh.1) x.0) (λ _. tt, all_both Kept ws (hide q ∷ []) body (λ _. tt, tt)));
    back = λ ns vs agree scoped fresh x.
        let both = and_parts (sa vs) (sb (bound_in q ++ vs)) scoped in
        let behind = all_left Fresh ws (hide q ∷ []) (all_right Fresh us (under q ws) fresh.1).1 in
        let body = all_left Kept ws (hide q ∷ []) (all_right Kept us (under q ws) x.1).1 in (
          a.back ns vs agree both.0 (all_left Fresh us (under q ws) fresh.1) (all_left Kept us (under q ws) x.1),
          b.back (plain_names (annotation_of nodes t) (bound_in q) ++ ns) (bound_in q ++ vs) (agree_back (bound_in q) ns vs fresh.0 agree) both.1 behind body,
        );
  }

  pub function_goes : {B : Names → Type 0} {ws : List Visit} {sb : List ℕ → Bool} (q : Pattern) → Goes B ws sb
      → Goes (λ ns. B (plain_names (annotation_of nodes t) (bound_in q) ++ ns)) (declare q ∷ under q ws) (λ vs. sb (bound_in q ++ vs))
  function_goes q b = map_goes (λ ns x. x.1) (λ ns x. (tt, x)) (let_goes q none_goes b)

  -- a name that is bound before others
  pub named_goes : {A : Names → Type 0} {us : List Visit} {sc : List ℕ → Bool} (f : ℕ) → Goes A us sc
      → Goes (λ ns. A ((f, plain (t (nodes + f))) ∷ ns)) (show_name f ∷ us) (λ vs. sc (f ∷ vs))
  named_goes f h = record {
    inner = (tt, h.inner);
    to = λ ns vs agree scoped fresh x. (λ _. tt, h.to ((f, plain (t (nodes + f))) ∷ ns) (f ∷ vs) (agree_to_one f ns vs fresh.0.0 agree) scoped fresh.1 x);
    back = λ ns vs agree scoped fresh x. h.back ((f, plain (t (nodes + f))) ∷ ns) (f ∷ vs) (agree_back_one f ns vs fresh.0.0 agree) scoped fresh.1 x.1;
  }

  -- a function behind its name
  pub body_goes : {B : Names → Type 0} {us : List Visit} {sb : List ℕ → Bool} (r : Recursive) → Goes B us sb
      → Goes (λ ns. Kept (leave_function r) × B (plain_names (annotation_of nodes t) (bound_in r.parameter) ++ ns)) (in_function r us) (λ vs. sb (bound_in r.parameter ++ vs))
  body_goes r b = ended_goes (leave_function r) tt (function_goes r.parameter b)

  rec_goes : {B E : Names → Type 0} {us ws : List Visit} {sb se : List ℕ → Bool} (f : ℕ) (r : Recursive) → Goes B us sb → Goes E ws se
      → Goes (λ ns. Kept (leave_function r) × B (plain_names (annotation_of nodes t) (bound_in r.parameter) ++ (f, plain (t (nodes + f))) ∷ ns) × E ((f, plain (t (nodes + f))) ∷ ns))
      (show_name f ∷ (in_function r us ++ (ws ++ hide_name f ∷ []))) (λ vs. sb (bound_in r.parameter ++ f ∷ vs) && se (f ∷ vs))
  rec_goes f r b e =
      map_goes (λ ns x. (x.0.0, x.0.1, x.1.1)) (λ ns x. ((x.0, x.1), (λ _. tt, x.2)))
      (named_goes f (pair_goes (body_goes r b) (ended_goes (hide_name f) tt e)))

  -- the first pattern of a match before what is matched
  match_goes : {A : Names → Type 0} {sc : List ℕ → Bool} (w : Bool) (us : List Visit) (as_ : List (Arm (List Visit))) → Goes A (us ++ in_arms as_) sc
      → Goes A (in_match w us as_) sc
  match_goes false us as_ h = h
  match_goes true us [] h = h
  match_goes true us (a ∷ as_) h =
      let rest = under a.pattern a.body ++ in_arms as_ in
      record {
        inner = all_out Inner (declare a.pattern) us rest h.inner;
        to = λ ns vs agree scoped fresh x. all_out Kept (declare a.pattern) us rest (h.to ns vs agree scoped (all_in Fresh (declare a.pattern) us rest fresh) x);
        back = λ ns vs agree scoped fresh x. h.back ns vs agree scoped (all_in Fresh (declare a.pattern) us rest fresh) (all_in Kept (declare a.pattern) us rest x);
      }

  -- ---- trees

  abbrev pub TreeGoes : Tree → Type 0
  TreeGoes e = Goes (λ ns. TreeIs g (annotation_of nodes t) W ns e) (visits_of e) (λ vs. is_scoped_tree vs e)

  mutual
    pub tree_goes : (e : Tree) → TreeGoes e
    tree_goes (tree i p f) = form_goes i p f

    form_goes : (i : ℕ) (p : Place) (f : Form) → TreeGoes (tree i p f)
    form_goes i p (form.whole m) = leaf_goes true (tree i p (form.whole m))
    form_goes i p (form.flag b) = leaf_goes true (tree i p (form.flag b))
    form_goes i p form.unit = leaf_goes true (tree i p form.unit)
    form_goes i p (form.use_of x) = use_goes i p x
    form_goes i p (form.qualified m x) = leaf_goes false (tree i p (form.qualified m x))
    form_goes i p (form.fun q b) = node_goes (is_parameter q) (tree i p (form.fun q b)) (function_goes q (tree_goes b))
    form_goes i p (form.tuple es) = node_goes true (tree i p (form.tuple es)) (row_goes es)
    form_goes i p (form.build c w es) = node_goes (is_apart w) (tree i p (form.build c w es)) (row_goes es)
    form_goes i p (form.list_of es) = node_goes true (tree i p (form.list_of es)) (row_goes es)
    form_goes i p (form.let_in q e b) = node_goes true (tree i p (form.let_in q e b)) (let_goes q (tree_goes e) (tree_goes b))
    form_goes i p (form.let_rec f j r q b e) =
        node_goes (is_parameter q) (tree i p (form.let_rec f j r q b e)) (rec_goes f (record { id = j; place = r; parameter = q; body = b }) (tree_goes b) (tree_goes e))
    form_goes i p (form.call d e) = node_goes true (tree i p (form.call d e)) (pair_goes (tree_goes d) (tree_goes e))
    form_goes i p (form.arithmetic o d e) = node_goes true (tree i p (form.arithmetic o d e)) (pair_goes (tree_goes d) (tree_goes e))
    form_goes i p (form.negated e) = node_goes true (tree i p (form.negated e)) (tree_goes e)
    form_goes i p (form.compare o d e) = node_goes true (tree i p (form.compare o d e)) (pair_goes (tree_goes d) (tree_goes e))
    form_goes i p (form.not_of e) = node_goes true (tree i p (form.not_of e)) (tree_goes e)
    form_goes i p (form.and_of d e) = node_goes true (tree i p (form.and_of d e)) (pair_goes (tree_goes d) (tree_goes e))
    form_goes i p (form.or_of d e) = node_goes true (tree i p (form.or_of d e)) (pair_goes (tree_goes d) (tree_goes e))
    form_goes i p (form.if_else c d e) = node_goes true (tree i p (form.if_else c d e)) (triple_goes (tree_goes c) (tree_goes d) (tree_goes e))
    form_goes i p (form.match_on e cs) =
        let o = tree i p (form.match_on e cs) in
        node_goes true o (match_goes (is_let o) (visits_of e) (fold_cases visiting cs) (pair_goes (tree_goes e) (cases_go cs)))
    form_goes i p (form.chain es) = node_goes true (tree i p (form.chain es)) (row_goes es)
    form_goes i p (form.assert e) = node_goes true (tree i p (form.assert e)) (tree_goes e)
    form_goes i p form.assert_false = leaf_goes true (tree i p form.assert_false)
    form_goes i p (form.make d e) = node_goes true (tree i p (form.make d e)) (pair_goes (tree_goes d) (tree_goes e))
    form_goes i p (form.length_of e) = node_goes true (tree i p (form.length_of e)) (tree_goes e)
    form_goes i p (form.fetch d e) = node_goes true (tree i p (form.fetch d e)) (pair_goes (tree_goes d) (tree_goes e))
    form_goes i p (form.store c d e) = node_goes true (tree i p (form.store c d e)) (triple_goes (tree_goes c) (tree_goes d) (tree_goes e))
    form_goes i p (form.print e) = node_goes true (tree i p (form.print e)) (tree_goes e)
    form_goes i p (form.read e) = node_goes true (tree i p (form.read e)) (tree_goes e)
    form_goes i p form.map_empty = leaf_goes true (tree i p form.map_empty)
    form_goes i p (form.map_add c d e) = node_goes true (tree i p (form.map_add c d e)) (triple_goes (tree_goes c) (tree_goes d) (tree_goes e))
    form_goes i p (form.map_find d e) = node_goes true (tree i p (form.map_find d e)) (pair_goes (tree_goes d) (tree_goes e))

    row_goes : (es : Trees) → Goes (λ ns. TreesAre g (annotation_of nodes t) W ns es) (in_row (fold_all visiting es)) (λ vs. all_under (fold_all scoping es) vs)
    row_goes no_trees = none_goes
    row_goes (more_trees e es) = pair_goes (tree_goes e) (row_goes es)

    cases_go : (cs : Cases) → Goes (λ ns. CasesAre g (annotation_of nodes t) W ns cs) (in_arms (fold_cases visiting cs)) (λ vs. arms_under (fold_cases scoping cs) vs)
    cases_go no_cases = none_goes
    cases_go (more_cases q e cs) = pair_goes (function_goes q (tree_goes e)) (cases_go cs)

  -- the nodes of an item
  pub nodes_go : (f : ItemForm) → Goes (λ ns. NodesAre g (annotation_of nodes t) W ns f) (visits_of_form f) (λ vs. is_scoped_form vs f)
  nodes_go (type_of d) = guard_goes false none_goes
  nodes_go (let_of q e) =
      guard_goes (is_parameter q) (begun_goes (declare q) tt (λ _. tt) (map_goes (λ ns x. x.1) (λ ns x. (λ _. tt, x)) (ended_goes (show q) tt (tree_goes e))))
  nodes_go (let_rec_of f r) = guard_goes (is_parameter r.parameter) (named_goes f (body_goes r (tree_goes r.body)))
