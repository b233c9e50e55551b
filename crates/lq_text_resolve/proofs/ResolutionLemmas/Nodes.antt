-- Trees whose nodes and binders have the numbers that follow one another, and the nodes that are made of such trees.
use Rattle.std.specs.Prelude.{◌&&◌}
use Rattle.std.proofs.Common.{◌≡◌, ℕ, suc, Bool, true, false, List, [], ◌∷◌, ◌++◌, refl, sym, ap, subst, ◌∙◌}
use Rattle.std.proofs.lemmas.Bool.{and_from}
use Rattle.std.proofs.lemmas.List.{append_assoc, append-nil}
use Rattle.lq_base_names.specs.declared.place.Place.{Place}
use Rattle.lq_text_tree.specs.declared.expr.Arguments.TheVariants.{Apart}
use Rattle.lq_text_tree.specs.Pattern.{Pattern, bound_in}
use Rattle.lq_text_tree.specs.Tree as form
use Rattle.lq_text_tree.specs.Tree.{Tree, tree, Form, Trees, Cases, no_cases, more_cases}
use Rattle.lq_text_tree.specs.TreeView.{Recursive, trees_of}
use Rattle.lq_text_walk.specs.Walk.Fold.{Algebra, fold, fold_all, fold_cases}
use Rattle.lq_text_walk.specs.Walk.Shape as shape
use Rattle.lq_text_walk.specs.Walk.Shape.{One, Two, Three}
use Rattle.lq_text_walk.specs.Walk.Visits.{Visit, leave, leave_function, declare, hide, show_name, hide_name, visits_of, visiting, around, under, in_row, in_arms, in_match, in_function, has_let}
use Rattle.lq_text_walk.specs.Scoped.Numbers.{numbering, nodes_of, numbers_in, numbers_in_arms, binders_at, binders_in}
use Rattle.lq_text_walk.specs.Scoped.Uses.{scoping, is_scoped_tree, is_parameter, all_under, arms_under}
use Rattle.lq_text_resolve.specs.Binding.Making.{one_form, two_form, three_form}
use Rattle.lq_text_resolve.proofs.ResolutionLemmas.Spanning.{Spans, spans_append}

-- ---- binders of visits

abbrev pub binders_of : Tree → List ℕ
binders_of t = binders_in (visits_of t)

pub binders_append : (us vs : List Visit) → binders_in (us ++ vs) ≡ binders_in us ++ binders_in vs
binders_append [] vs = refl
binders_append (u ∷ us) vs = ap (λ (xs : List ℕ). binders_at u ++ xs) (binders_append us vs) ∙ sym (append_assoc (binders_at u) (binders_in us) (binders_in vs))

-- a visit behind others that has no binder
pub binders_ended : (us : List Visit) (v : Visit) → binders_at v ≡ [] → binders_in (us ++ v ∷ []) ≡ binders_in us
binders_ended us v none = binders_append us (v ∷ []) ∙ ap (λ (xs : List ℕ). binders_in us ++ (xs ++ [])) none ∙ append-nil (binders_in us)

pub binders_around : (t : Tree) (us : List Visit) → binders_in (around t us) ≡ binders_in us
binders_around t us = binders_ended us (leave t) refl

pub binders_under : (q : Pattern) (us : List Visit) → binders_in (under q us) ≡ binders_in us
binders_under q us = binders_ended us (hide q) refl

-- ---- parts

-- the nodes of a tree have the numbers from n to before m, its binders those from b to before c, and it is scoped under these binders
pub record Part (vs : List ℕ) (n b : ℕ) (t : Tree) (m c : ℕ) : Type 0 where
  pub nodes : Spans n (nodes_of t) m
  pub binders : Spans b (binders_of t) c
  pub scoped : is_scoped_tree vs t ≡ true

-- trees one behind another
abbrev pub Parts : List ℕ → ℕ → ℕ → List Tree → ℕ → ℕ → Type 0
Parts vs n b [] m c = (n ≡ m) × (b ≡ c)
Parts vs n b (t ∷ ts) m c = (k : ℕ) × (d : ℕ) × Part vs n b t k d × Parts vs k d ts m c

pub single : {vs : List ℕ} {n b m c : ℕ} {t : Tree} → Part vs n b t m c → Parts vs n b (t ∷ []) m c
single {m = m} {c = c} is = (m, c, is, (refl, refl))

moved : {vs : List ℕ} {n b m c k d : ℕ} {t : Tree} → k ≡ m → d ≡ c → Part vs n b t k d → Part vs n b t m c
moved {vs = vs} {n = n} {b = b} {m = m} {c = c} {k = k} {d = d} {t = t} e f is =
    subst (λ (o : ℕ). Part vs n b t o c) e (subst (λ (o : ℕ). Part vs n b t k o) f is)

pub only : {vs : List ℕ} {n b m c : ℕ} {t : Tree} → Parts vs n b (t ∷ []) m c → Part vs n b t m c
only is = moved is.3.0 is.3.1 is.2

pub parts_more : (vs : List ℕ) (n b m c k d : ℕ) (ts : List Tree) (t : Tree) → Parts vs n b ts m c → Part vs m c t k d → Parts vs n b (ts ++ t ∷ []) k d
parts_more vs n b m c k d [] t is more =
    single (subst (λ (o : ℕ). Part vs o b t k d) (sym is.0) (subst (λ (o : ℕ). Part vs m o t k d) (sym is.1) more))
parts_more vs n b m c k d (u ∷ ts) t is more = (is.0, is.1, is.2, parts_more vs is.0 is.1 m c k d ts t is.3 more)

pub spans_nodes : (vs : List ℕ) (n b m c : ℕ) (ts : List Tree) → Parts vs n b ts m c → Spans n (numbers_in (fold_all numbering (trees_of ts))) m
spans_nodes vs n b m c [] is = is.0
spans_nodes vs n b m c (t ∷ ts) is = spans_append n is.0 m (nodes_of t) (numbers_in (fold_all numbering (trees_of ts))) is.2.nodes (spans_nodes vs is.0 is.1 m c ts is.3)

pub spans_binders : (vs : List ℕ) (n b m c : ℕ) (ts : List Tree) → Parts vs n b ts m c → Spans b (binders_in (in_row (fold_all visiting (trees_of ts)))) c
spans_binders vs n b m c [] is = is.1
spans_binders vs n b m c (t ∷ ts) is =
    subst (λ (xs : List ℕ). Spans b xs c) (sym (binders_append (visits_of t) (in_row (fold_all visiting (trees_of ts)))))
    (spans_append b is.1 c (binders_of t) (binders_in (in_row (fold_all visiting (trees_of ts)))) is.2.binders (spans_binders vs is.0 is.1 m c ts is.3))

pub all_scoped : (vs : List ℕ) (n b m c : ℕ) (ts : List Tree) → Parts vs n b ts m c → all_under (fold_all scoping (trees_of ts)) vs ≡ true
all_scoped vs n b m c [] is = refl
all_scoped vs n b m c (t ∷ ts) is =
    and_from (is_scoped_tree vs t) (all_under (fold_all scoping (trees_of ts)) vs) is.2.scoped (all_scoped vs is.0 is.1 m c ts is.3)

-- ---- what a function on trees makes of a node of one, two or three parts

pub one_folds : {A : Type 0} (g : Algebra A) (n : ℕ) (p : Place) (h : One) (a : Tree) → fold g (tree n p (one_form h a)) ≡ g.one (tree n p (one_form h a)) h (fold g a)
one_folds g n p shape.negated a = refl
one_folds g n p shape.not_of a = refl
one_folds g n p shape.assert a = refl
one_folds g n p shape.length_of a = refl
one_folds g n p shape.print a = refl
one_folds g n p shape.read a = refl

pub two_folds : {A : Type 0} (g : Algebra A) (n : ℕ) (p : Place) (h : Two) (a b : Tree) → fold g (tree n p (two_form h a b)) ≡ g.two (tree n p (two_form h a b)) h (fold g a) (fold g b)
two_folds g n p shape.call a b = refl
two_folds g n p (shape.arithmetic o) a b = refl
two_folds g n p (shape.compare o) a b = refl
two_folds g n p shape.and_of a b = refl
two_folds g n p shape.or_of a b = refl
two_folds g n p shape.make a b = refl
two_folds g n p shape.fetch a b = refl
two_folds g n p shape.map_find a b = refl

pub three_folds : {A : Type 0} (g : Algebra A) (n : ℕ) (p : Place) (h : Three) (a b c : Tree)
    → fold g (tree n p (three_form h a b c)) ≡ g.three (tree n p (three_form h a b c)) h (fold g a) (fold g b) (fold g c)
three_folds g n p shape.if_else a b c = refl
three_folds g n p shape.store a b c = refl
three_folds g n p shape.map_add a b c = refl

-- a node's number behind those of its parts
ended : (n m : ℕ) (xs : List ℕ) → Spans n xs m → Spans n (xs ++ m ∷ []) (suc m)
ended n m xs is = spans_append n m (suc m) xs (m ∷ []) is (refl, refl)

-- a node with no binder of its own
around_spans : (t : Tree) (us : List Visit) (b c : ℕ) → Spans b (binders_in us) c → Spans b (binders_in (around t us)) c
around_spans t us b c is = subst (λ (xs : List ℕ). Spans b xs c) (sym (binders_around t us)) is

pub one_node : (vs : List ℕ) (n b m c : ℕ) (p : Place) (h : One) (a : Tree) → Parts vs n b (a ∷ []) m c → Part vs n b (tree m p (one_form h a)) (suc m) c
one_node vs n b m c p h a parts =
    let is = only parts in let t = tree m p (one_form h a) in
    record {
      nodes = subst (λ (xs : List ℕ). Spans n xs (suc m)) (sym (one_folds numbering m p h a)) (ended n m (nodes_of a) is.nodes);
      binders = subst (λ (us : List Visit). Spans b (binders_in us) c) (sym (one_folds visiting m p h a)) (around_spans t (visits_of a) b c is.binders);
      scoped = ap (λ (f : List ℕ → Bool). f vs) (one_folds scoping m p h a) ∙ is.scoped;
    }

pub two_node : (vs : List ℕ) (n b m c : ℕ) (p : Place) (h : Two) (a e : Tree) → Parts vs n b (a ∷ e ∷ []) m c → Part vs n b (tree m p (two_form h a e)) (suc m) c
two_node vs n b m c p h a e parts =
    let k = parts.0 in let d = parts.1 in let is = parts.2 in let more = only parts.3 in let t = tree m p (two_form h a e) in
    record {
      nodes =
          subst (λ (xs : List ℕ). Spans n xs (suc m)) (sym (two_folds numbering m p h a e))
          (ended n m (nodes_of a ++ nodes_of e) (spans_append n k m (nodes_of a) (nodes_of e) is.nodes more.nodes));
      binders =
          subst (λ (us : List Visit). Spans b (binders_in us) c) (sym (two_folds visiting m p h a e))
          (around_spans t (visits_of a ++ visits_of e) b c
          (subst (λ (xs : List ℕ). Spans b xs c) (sym (binders_append (visits_of a) (visits_of e))) (spans_append b d c (binders_of a) (binders_of e) is.binders more.binders)));
      scoped = ap (λ (f : List ℕ → Bool). f vs) (two_folds scoping m p h a e) ∙ and_from (is_scoped_tree vs a) (is_scoped_tree vs e) is.scoped more.scoped;
    }

pub three_node : (vs : List ℕ) (n b m c : ℕ) (p : Place) (h : Three) (a e f : Tree) → Parts vs n b (a ∷ e ∷ f ∷ []) m c → Part vs n b (tree m p (three_form h a e f)) (suc m) c
three_node vs n b m c p h a e f parts =
    let k = parts.0 in let d = parts.1 in let is = parts.2 in let l = parts.3.0 in let g = parts.3.1 in let also = parts.3.2 in let more = only parts.3.3 in
    let t = tree m p (three_form h a e f) in
    record {
      nodes =
          subst (λ (xs : List ℕ). Spans n xs (suc m)) (sym (three_folds numbering m p h a e f))
          (ended n m (nodes_of a ++ (nodes_of e ++ nodes_of f))
          (spans_append n k m (nodes_of a) (nodes_of e ++ nodes_of f) is.nodes (spans_append k l m (nodes_of e) (nodes_of f) also.nodes more.nodes)));
      binders =
          subst (λ (us : List Visit). Spans b (binders_in us) c) (sym (three_folds visiting m p h a e f))
          (around_spans t (visits_of a ++ (visits_of e ++ visits_of f)) b c
          (subst (λ (xs : List ℕ). Spans b xs c)
          (sym (binders_append (visits_of a) (visits_of e ++ visits_of f) ∙ ap (λ (xs : List ℕ). binders_of a ++ xs) (binders_append (visits_of e) (visits_of f))))
          (spans_append b d c (binders_of a) (binders_of e ++ binders_of f) is.binders (spans_append d g c (binders_of e) (binders_of f) also.binders more.binders))));
      scoped =
          ap (λ (o : List ℕ → Bool). o vs) (three_folds scoping m p h a e f)
          ∙ and_from (is_scoped_tree vs a) (is_scoped_tree vs e && is_scoped_tree vs f) is.scoped (and_from (is_scoped_tree vs e) (is_scoped_tree vs f) also.scoped more.scoped);
    }

-- ---- rows

pub tuple_node : (vs : List ℕ) (n b m c : ℕ) (p : Place) (ts : List Tree) → Parts vs n b ts m c → Part vs n b (tree m p (form.tuple (trees_of ts))) (suc m) c
tuple_node vs n b m c p ts is = record {
  nodes = ended n m (numbers_in (fold_all numbering (trees_of ts))) (spans_nodes vs n b m c ts is);
  binders = around_spans (tree m p (form.tuple (trees_of ts))) (in_row (fold_all visiting (trees_of ts))) b c (spans_binders vs n b m c ts is);
  scoped = all_scoped vs n b m c ts is;
}

pub list_node : (vs : List ℕ) (n b m c : ℕ) (p : Place) (ts : List Tree) → Parts vs n b ts m c → Part vs n b (tree m p (form.list_of (trees_of ts))) (suc m) c
list_node vs n b m c p ts is = record {
  nodes = ended n m (numbers_in (fold_all numbering (trees_of ts))) (spans_nodes vs n b m c ts is);
  binders = around_spans (tree m p (form.list_of (trees_of ts))) (in_row (fold_all visiting (trees_of ts))) b c (spans_binders vs n b m c ts is);
  scoped = all_scoped vs n b m c ts is;
}

pub chain_node : (vs : List ℕ) (n b m c : ℕ) (p : Place) (ts : List Tree) → Parts vs n b ts m c → Part vs n b (tree m p (form.chain (trees_of ts))) (suc m) c
chain_node vs n b m c p ts is = record {
  nodes = ended n m (numbers_in (fold_all numbering (trees_of ts))) (spans_nodes vs n b m c ts is);
  binders = around_spans (tree m p (form.chain (trees_of ts))) (in_row (fold_all visiting (trees_of ts))) b c (spans_binders vs n b m c ts is);
  scoped = all_scoped vs n b m c ts is;
}

pub build_node : (vs : List ℕ) (n b m c : ℕ) (p : Place) (x : ℕ) (ts : List Tree) → Parts vs n b ts m c → Part vs n b (tree m p (form.build x Apart (trees_of ts))) (suc m) c
build_node vs n b m c p x ts is = record {
  nodes = ended n m (numbers_in (fold_all numbering (trees_of ts))) (spans_nodes vs n b m c ts is);
  binders = around_spans (tree m p (form.build x Apart (trees_of ts))) (in_row (fold_all visiting (trees_of ts))) b c (spans_binders vs n b m c ts is);
  scoped = all_scoped vs n b m c ts is;
}

-- a constructor in place of a tuple, under the tuple's number
pub instead_node : (vs : List ℕ) (n b m c : ℕ) (p q : Place) (x i : ℕ) (us : Trees) → Part vs n b (tree i q (form.tuple us)) m c → Part vs n b (tree i p (form.build x Apart us)) m c
instead_node vs n b m c p q x i us is = record {
  nodes = is.nodes;
  binders =
      subst (λ (xs : List ℕ). Spans b xs c)
      (binders_around (tree i q (form.tuple us)) (in_row (fold_all visiting us)) ∙ sym (binders_around (tree i p (form.build x Apart us)) (in_row (fold_all visiting us)))) is.binders;
  scoped = is.scoped;
}

-- ---- patterns

pub let_node : (vs : List ℕ) (n b a k d m c : ℕ) (p : Place) (q : Pattern) (e t : Tree) → Spans b (bound_in q) a → Part vs n a e k d → Part (bound_in q ++ vs) k d t m c
    → Part vs n b (tree m p (form.let_in q e t)) (suc m) c
let_node vs n b a k d m c p q e t pattern is more = record {
  nodes = ended n m (nodes_of e ++ nodes_of t) (spans_append n k m (nodes_of e) (nodes_of t) is.nodes more.nodes);
  binders =
      around_spans (tree m p (form.let_in q e t)) (declare q ∷ (visits_of e ++ under q (visits_of t))) b c
      (subst (λ (xs : List ℕ). Spans b (bound_in q ++ xs) c)
      (sym (binders_append (visits_of e) (under q (visits_of t)) ∙ ap (λ (xs : List ℕ). binders_of e ++ xs) (binders_under q (visits_of t))))
      (spans_append b a c (bound_in q) (binders_of e ++ binders_of t) pattern (spans_append a d c (binders_of e) (binders_of t) is.binders more.binders)));
  scoped = and_from (is_scoped_tree vs e) (is_scoped_tree (bound_in q ++ vs) t) is.scoped more.scoped;
}

-- arms one behind another
abbrev pub ArmParts : List ℕ → ℕ → ℕ → Cases → ℕ → ℕ → Type 0
ArmParts vs n b no_cases m c = (n ≡ m) × (b ≡ c)
ArmParts vs n b (more_cases q t cs) m c =
    (a : ℕ) × (k : ℕ) × (d : ℕ) × Spans b (bound_in q) a × Part (bound_in q ++ vs) n a t k d × ArmParts vs k d cs m c

arms_nodes : (vs : List ℕ) (n b m c : ℕ) (cs : Cases) → ArmParts vs n b cs m c → Spans n (numbers_in_arms (fold_cases numbering cs)) m
arms_nodes vs n b m c no_cases is = is.0
arms_nodes vs n b m c (more_cases q t cs) is =
    spans_append n is.1 m (nodes_of t) (numbers_in_arms (fold_cases numbering cs)) is.4.nodes (arms_nodes vs is.1 is.2 m c cs is.5)

arms_binders : (vs : List ℕ) (n b m c : ℕ) (cs : Cases) → ArmParts vs n b cs m c → Spans b (binders_in (in_arms (fold_cases visiting cs))) c
arms_binders vs n b m c no_cases is = is.1
arms_binders vs n b m c (more_cases q t cs) is =
    let others = in_arms (fold_cases visiting cs) in
    subst (λ (xs : List ℕ). Spans b (bound_in q ++ xs) c)
    (sym (binders_append (under q (visits_of t)) others ∙ ap (λ (xs : List ℕ). xs ++ binders_in others) (binders_under q (visits_of t))))
    (spans_append b is.0 c (bound_in q) (binders_of t ++ binders_in others) is.3
    (spans_append is.0 is.2 c (binders_of t) (binders_in others) is.4.binders (arms_binders vs is.1 is.2 m c cs is.5)))

arms_scoped : (vs : List ℕ) (n b m c : ℕ) (cs : Cases) → ArmParts vs n b cs m c → arms_under (fold_cases scoping cs) vs ≡ true
arms_scoped vs n b m c no_cases is = refl
arms_scoped vs n b m c (more_cases q t cs) is =
    and_from (is_scoped_tree (bound_in q ++ vs) t) (arms_under (fold_cases scoping cs) vs) is.4.scoped (arms_scoped vs is.1 is.2 m c cs is.5)

-- a match whose arms stand behind what is matched
pub match_node : (vs : List ℕ) (n b k d m c : ℕ) (p : Place) (e : Tree) (cs : Cases) → has_let e cs ≡ false → Part vs n b e k d → ArmParts vs k d cs m c
    → Part vs n b (tree m p (form.match_on e cs)) (suc m) c
match_node vs n b k d m c p e cs written is arms =
    let t = tree m p (form.match_on e cs) in let as_ = fold_cases visiting cs in
    record {
      nodes = ended n m (nodes_of e ++ numbers_in_arms (fold_cases numbering cs)) (spans_append n k m (nodes_of e) (numbers_in_arms (fold_cases numbering cs)) is.nodes (arms_nodes vs k d m c cs arms));
      binders =
          subst (λ (w : Bool). Spans b (binders_in (around t (in_match w (visits_of e) as_))) c) (sym written)
          (around_spans t (visits_of e ++ in_arms as_) b c
          (subst (λ (xs : List ℕ). Spans b xs c) (sym (binders_append (visits_of e) (in_arms as_)))
          (spans_append b d c (binders_of e) (binders_in (in_arms as_)) is.binders (arms_binders vs k d m c cs arms))));
      scoped = and_from (is_scoped_tree vs e) (arms_under (fold_cases scoping cs) vs) is.scoped (arms_scoped vs k d m c cs arms);
    }

-- a match that was written as a `let`
pub let_match_node : (vs : List ℕ) (n b a k d m c : ℕ) (p : Place) (q : Pattern) (e t : Tree) → has_let e (more_cases q t no_cases) ≡ true
    → Spans b (bound_in q) a → Part vs n a e k d → Part (bound_in q ++ vs) k d t m c → Part vs n b (tree m p (form.match_on e (more_cases q t no_cases))) (suc m) c
let_match_node vs n b a k d m c p q e t written pattern is more =
    let o = tree m p (form.match_on e (more_cases q t no_cases)) in let as_ = fold_cases visiting (more_cases q t no_cases) in
    record {
      nodes =
          ended n m (nodes_of e ++ (nodes_of t ++ []))
          (subst (λ (xs : List ℕ). Spans n (nodes_of e ++ xs) m) (sym (append-nil (nodes_of t))) (spans_append n k m (nodes_of e) (nodes_of t) is.nodes more.nodes));
      binders =
          subst (λ (w : Bool). Spans b (binders_in (around o (in_match w (visits_of e) as_))) c) (sym written)
          (around_spans o (declare q ∷ (visits_of e ++ (under q (visits_of t) ++ []))) b c
          (subst (λ (xs : List ℕ). Spans b (bound_in q ++ xs) c)
          (sym (ap (λ (us : List Visit). binders_in (visits_of e ++ us)) (append-nil (under q (visits_of t)))
          ∙ binders_append (visits_of e) (under q (visits_of t)) ∙ ap (λ (xs : List ℕ). binders_of e ++ xs) (binders_under q (visits_of t))))
          (spans_append b a c (bound_in q) (binders_of e ++ binders_of t) pattern (spans_append a d c (binders_of e) (binders_of t) is.binders more.binders))));
      scoped =
          and_from (is_scoped_tree vs e) (is_scoped_tree (bound_in q ++ vs) t && true) is.scoped (and_from (is_scoped_tree (bound_in q ++ vs) t) true more.scoped refl);
    }

-- ---- functions

-- a parameter and a function's body
pub record Function (vs : List ℕ) (n b : ℕ) (q : Pattern) (t : Tree) (m c : ℕ) : Type 0 where
  pub parameter : is_parameter q ≡ true
  pub nodes : Spans n (nodes_of t) m
  pub binders : Spans b (bound_in q ++ binders_of t) c
  pub scoped : is_scoped_tree (bound_in q ++ vs) t ≡ true

pub function_node : (vs : List ℕ) (n b m c : ℕ) (p : Place) (q : Pattern) (t : Tree) → Function vs n b q t m c → Part vs n b (tree m p (form.fun q t)) (suc m) c
function_node vs n b m c p q t is = record {
  nodes = ended n m (nodes_of t) is.nodes;
  binders =
      around_spans (tree m p (form.fun q t)) (declare q ∷ under q (visits_of t)) b c
      (subst (λ (xs : List ℕ). Spans b (bound_in q ++ xs) c) (sym (binders_under q (visits_of t))) is.binders);
  scoped = and_from (is_parameter q) (is_scoped_tree (bound_in q ++ vs) t) is.parameter is.scoped;
}

-- the binders of a function's visits
pub function_binders : (r : Recursive) (b c : ℕ) → Spans b (bound_in r.parameter ++ binders_of r.body) c → Spans b (binders_in (in_function r (visits_of r.body))) c
function_binders r b c is =
    subst (λ (xs : List ℕ). Spans b (bound_in r.parameter ++ xs) c)
    (sym (binders_ended (under r.parameter (visits_of r.body)) (leave_function r) refl ∙ binders_under r.parameter (visits_of r.body))) is

pub let_rec_node : (vs : List ℕ) (n b k d m c : ℕ) (p r : Place) (q : Pattern) (e t : Tree) → Function (b ∷ vs) n (suc b) q e k d → Part (b ∷ vs) (suc k) d t m c
    → Part vs n b (tree m p (form.let_rec b k r q e t)) (suc m) c
let_rec_node vs n b k d m c p r q e t is more =
    let f : Recursive = record { id = k; place = r; parameter = q; body = e } in
    let function = in_function f (visits_of e) in let rest = visits_of t ++ hide_name b ∷ [] in
    record {
      nodes = ended n m (nodes_of e ++ (k ∷ nodes_of t)) (spans_append n k m (nodes_of e) (k ∷ nodes_of t) is.nodes (refl, more.nodes));
      binders =
          around_spans (tree m p (form.let_rec b k r q e t)) (show_name b ∷ (function ++ rest)) b c (
            refl,
            subst (λ (xs : List ℕ). Spans (suc b) xs c) (sym (binders_append function rest ∙ ap (λ (xs : List ℕ). binders_in function ++ xs) (binders_ended (visits_of t) (hide_name b) refl)))
                (spans_append (suc b) d c (binders_in function) (binders_of t) (function_binders f (suc b) d is.binders) more.binders),
          );
      scoped =
          and_from (is_parameter q) (is_scoped_tree (bound_in q ++ b ∷ vs) e && is_scoped_tree (b ∷ vs) t) is.parameter
          (and_from (is_scoped_tree (bound_in q ++ b ∷ vs) e) (is_scoped_tree (b ∷ vs) t) is.scoped more.scoped);
    }
