-- A pass over the visits of a program finds what is wrong with its names.
use Rattle.std.proofs.Common.{◌≡◌, ℕ, suc, Bool, true, false, List, [], ◌∷◌, ◌++◌, reverse, length, Option, refl, sym, ap, ◌∙◌}
use Rattle.std.proofs.lemmas.List.{append_assoc, append-nil, drop_at, length-reverse}
use Rattle.lq_base_names.specs.declared.place.Place.{Place}
use Rattle.lq_text_tree.specs.Items.{ItemTree, ItemForm, type_of, let_of, let_rec_of}
use Rattle.lq_text_tree.specs.Pattern.{Pattern, bound_in}
use Rattle.lq_text_tree.specs.Tree as form
use Rattle.lq_text_tree.specs.Tree.{Tree, tree, Form, Trees, no_trees, more_trees, Cases, no_cases, more_cases}
use Rattle.lq_text_tree.specs.TreeView.{Recursive}
use Rattle.lq_text_walk.specs.Walk.Fold.{fold_all, fold_cases}
use Rattle.lq_text_walk.specs.Walk.Shape.{shape_of}
use Rattle.lq_text_walk.specs.Walk.Visits.{Visit, leave_item, leave, leave_function, declare, show, hide, show_name, hide_name, visits_of, visits_of_item, visits_of_items, visiting, around, under as under_visits, in_row, in_arms, in_match, in_function, is_let}
use Rattle.lq_text_scope.specs.Complaints.{Complaint, least_with}
use Rattle.lq_text_scope.specs.Known.{Known, known_with, named, under}
use Rattle.lq_text_scope.specs.Passing.{passed, without, open_behind}
use Rattle.lq_text_scope.specs.Patterns.{of_pattern}
use Rattle.lq_text_scope.specs.Uses.{complaints_of, complaining, own, of_all, of_arms, of_match, of_item, of_items, behind}
use Rattle.lq_text_scope.proofs.Rows.{least_acts}

-- what was made visible is hidden again
hides : (p : Pattern) (k : Known) → without (length (bound_in p)) (under p k) ≡ k
hides p k = ap (λ (vs : List ℕ). known_with vs k.constructors k.types) (drop_at (reverse (bound_in p)) k.variables (length (bound_in p)) (length-reverse (bound_in p)))

module _ (names : List (List ℕ)) where
  abbrev Pass : Type 0
  Pass = Known → ℕ → Option Complaint → List Visit → Option Complaint

  -- the visits of a tree add its complaints and leave the rest as it was, and no argument open
  abbrev Walked : Tree → Type 0
  Walked t = (k : Known) (n : ℕ) (best : Option Complaint) (vs : List Visit)
      → passed names k n best (visits_of t ++ vs) ≡ passed names k 0 (least_with best (complaints_of names t k n)) vs

  -- visits that begin with no argument open, and leave the rest as it was
  abbrev Adds : List Visit → Known → List Complaint → Type 0
  Adds us k cs = (best : Option Complaint) (vs : List Visit) → passed names k 0 best (us ++ vs) ≡ passed names k 0 (least_with best cs) vs

  walked_adds : (t : Tree) → Walked t → (k : Known) → Adds (visits_of t) k (complaints_of names t k 0)
  walked_adds t w k best vs = w k 0 best vs

  -- one after another
  adds_both : (us ws : List Visit) (k : Known) (cs ds : List Complaint) → Adds us k cs → Adds ws k ds → Adds (us ++ ws) k (cs ++ ds)
  adds_both us ws k cs ds first second best vs =
      ap (passed names k 0 best) (append_assoc us ws vs) ∙ first best (ws ++ vs) ∙ second (least_with best cs) vs
      ∙ ap (λ (b : Option Complaint). passed names k 0 b vs) (sym (least_acts best cs ds))

  -- a body in which the names of a pattern are visible
  adds_under : (p : Pattern) (us : List Visit) (k : Known) (cs : List Complaint) → Adds us (under p k) cs → Adds (under_visits p us) k cs
  adds_under p us k cs inside best vs =
      ap (passed names (under p k) 0 best) (append_assoc us (hide p ∷ []) vs) ∙ inside best (hide p ∷ vs)
      ∙ ap (λ (l : Known). passed names l 0 (least_with best cs) vs) (hides p k)

  adds_declared : (p : Pattern) (us : List Visit) (k : Known) (cs : List Complaint) → Adds us k cs → Adds (declare p ∷ us) k (of_pattern k.constructors p ++ cs)
  adds_declared p us k cs behind best vs =
      behind (least_with best (of_pattern k.constructors p)) vs ∙ ap (λ (b : Option Complaint). passed names k 0 b vs) (sym (least_acts best (of_pattern k.constructors p) cs))

  -- a node that leaves no argument open with what is inside
  walked_node : (i : ℕ) (p : Place) (f : Form) (us : List Visit) (k : Known) (n : ℕ) (cs : List Complaint) (best : Option Complaint) (vs : List Visit) → open_behind (shape_of f) n ≡ 0 → Adds us k cs
      → passed names k n best (around (tree i p f) us ++ vs) ≡ passed names k 0 (least_with best (own names (tree i p f) k n ++ cs)) vs
  walked_node i p f us k n cs best vs closed inside =
      ap (λ (m : ℕ). passed names k m (least_with best (own names (tree i p f) k n)) ((us ++ leave (tree i p f) ∷ []) ++ vs)) closed
      ∙ ap (passed names k 0 (least_with best (own names (tree i p f) k n))) (append_assoc us (leave (tree i p f) ∷ []) vs)
      ∙ inside (least_with best (own names (tree i p f) k n)) (leave (tree i p f) ∷ vs)
      ∙ ap (λ (b : Option Complaint). passed names k 0 b vs) (sym (least_acts best (own names (tree i p f) k n) cs))

  walked_two : (i : ℕ) (p : Place) (f : Form) (a b : Tree) (k : Known) (n m : ℕ) (best : Option Complaint) (vs : List Visit) → open_behind (shape_of f) n ≡ m → own names (tree i p f) k n ≡ []
      → Walked a → Walked b → passed names k n best (around (tree i p f) (visits_of a ++ visits_of b) ++ vs) ≡ passed names k 0 (least_with best (complaints_of names a k m ++ complaints_of names b k 0)) vs
  walked_two i p f a b k n m best vs opens none first second =
      ap (λ (cs : List Complaint). passed names k (open_behind (shape_of f) n) (least_with best cs) (((visits_of a ++ visits_of b) ++ leave (tree i p f) ∷ []) ++ vs)) none
      ∙ ap (λ (o : ℕ). passed names k o best (((visits_of a ++ visits_of b) ++ leave (tree i p f) ∷ []) ++ vs)) opens
      ∙ ap (passed names k m best) (append_assoc (visits_of a ++ visits_of b) (leave (tree i p f) ∷ []) vs ∙ append_assoc (visits_of a) (visits_of b) (leave (tree i p f) ∷ vs))
      ∙ first k m best (visits_of b ++ leave (tree i p f) ∷ vs)
      ∙ second k 0 (least_with best (complaints_of names a k m)) (leave (tree i p f) ∷ vs)
      ∙ ap (λ (c : Option Complaint). passed names k 0 c vs) (sym (least_acts best (complaints_of names a k m) (complaints_of names b k 0)))

  adds_last : (us : List Visit) (k : Known) (cs : List Complaint) (r : Recursive) → Adds us k cs → Adds (us ++ leave_function r ∷ []) k cs
  adds_last us k cs r inside best vs = ap (passed names k 0 best) (append_assoc us (leave_function r ∷ []) vs) ∙ inside best (leave_function r ∷ vs)

  adds_function : (r : Recursive) (us : List Visit) (k : Known) (cs : List Complaint) → Adds us (under r.parameter k) cs → Adds (in_function r us) k (of_pattern k.constructors r.parameter ++ cs)
  adds_function r us k cs inside = adds_declared r.parameter (under_visits r.parameter us ++ leave_function r ∷ []) k cs (adds_last (under_visits r.parameter us) k cs r (adds_under r.parameter us k cs inside))

  adds_named : (x : ℕ) (us ws : List Visit) (k : Known) (cs ds : List Complaint) → Adds us (named x k) cs → Adds ws (named x k) ds → Adds (show_name x ∷ (us ++ (ws ++ hide_name x ∷ []))) k (cs ++ ds)
  adds_named x us ws k cs ds first second best vs =
      ap (passed names (named x k) 0 best) (append_assoc us (ws ++ hide_name x ∷ []) vs ∙ ap (λ (l : List Visit). us ++ l) (append_assoc ws (hide_name x ∷ []) vs))
      ∙ first best (ws ++ hide_name x ∷ vs) ∙ second (least_with best cs) (hide_name x ∷ vs)
      ∙ ap (λ (b : Option Complaint). passed names k 0 b vs) (sym (least_acts best cs ds))

  adds_nothing : (us : List Visit) (k : Known) (cs : List Complaint) → Adds us k cs → Adds (us ++ []) k cs
  adds_nothing us k cs inside best vs = ap (λ (l : List Visit). passed names k 0 best (l ++ vs)) (append-nil us) ∙ inside best vs

  adds_three : (c a b : Tree) → Walked c → Walked a → Walked b → (k : Known)
      → Adds (visits_of c ++ (visits_of a ++ visits_of b)) k (complaints_of names c k 0 ++ (complaints_of names a k 0 ++ complaints_of names b k 0))
  adds_three c a b first second third k =
      adds_both (visits_of c) (visits_of a ++ visits_of b) k (complaints_of names c k 0) (complaints_of names a k 0 ++ complaints_of names b k 0) (walked_adds c first k)
      (adds_both (visits_of a) (visits_of b) k (complaints_of names a k 0) (complaints_of names b k 0) (walked_adds a second k) (walked_adds b third k))

  adds_arm : (q : Pattern) (b : Tree) (us : List Visit) (k : Known) (cs : List Complaint) → Walked b → Adds us k cs
      → Adds (under_visits q (visits_of b) ++ us) k (complaints_of names b (under q k) 0 ++ cs)
  adds_arm q b us k cs body rest =
      adds_both (under_visits q (visits_of b)) us k (complaints_of names b (under q k) 0) cs (adds_under q (visits_of b) k (complaints_of names b (under q k) 0) (walked_adds b body (under q k))) rest

  -- the bodies of arms
  abbrev ArmsWalked : Cases → Type 0
  ArmsWalked no_cases = Unit {0}
  ArmsWalked (more_cases q b cs) = Walked b × ArmsWalked cs

  adds_arms : (cs : Cases) → ArmsWalked cs → (k : Known) → Adds (in_arms (fold_cases visiting cs)) k (of_arms k (fold_cases (complaining names) cs))
  adds_arms no_cases w k best vs = refl
  adds_arms (more_cases q b cs) w k best vs =
      adds_declared q (under_visits q (visits_of b) ++ in_arms (fold_cases visiting cs)) k (complaints_of names b (under q k) 0 ++ of_arms k (fold_cases (complaining names) cs))
      (adds_arm q b (in_arms (fold_cases visiting cs)) k (of_arms k (fold_cases (complaining names) cs)) w.0 (adds_arms cs w.1 k)) best vs

  adds_match : (first : Bool) (e : Tree) (cs : Cases) → Walked e → ArmsWalked cs → (k : Known)
      → Adds (in_match first (visits_of e) (fold_cases visiting cs)) k (of_match first k (complaints_of names e k 0) (fold_cases (complaining names) cs))
  adds_match false e cs scrutinee w k =
      adds_both (visits_of e) (in_arms (fold_cases visiting cs)) k (complaints_of names e k 0) (of_arms k (fold_cases (complaining names) cs)) (walked_adds e scrutinee k) (adds_arms cs w k)
  adds_match true e no_cases scrutinee w k = adds_nothing (visits_of e) k (complaints_of names e k 0) (walked_adds e scrutinee k)
  adds_match true e (more_cases q b cs) scrutinee w k =
      adds_declared q (visits_of e ++ (under_visits q (visits_of b) ++ in_arms (fold_cases visiting cs))) k
      (complaints_of names e k 0 ++ (complaints_of names b (under q k) 0 ++ of_arms k (fold_cases (complaining names) cs)))
      (adds_both (visits_of e) (under_visits q (visits_of b) ++ in_arms (fold_cases visiting cs)) k (complaints_of names e k 0) (complaints_of names b (under q k) 0 ++ of_arms k (fold_cases (complaining names) cs))
      (walked_adds e scrutinee k) (adds_arm q b (in_arms (fold_cases visiting cs)) k (of_arms k (fold_cases (complaining names) cs)) w.0 (adds_arms cs w.1 k)))

  mutual
    walked : (t : Tree) → Walked t
    walked (tree i p f) = walked_form i p f

    walked_form : (i : ℕ) (p : Place) (f : Form) → Walked (tree i p f)
    walked_form i p (form.whole m) k n best vs = refl
    walked_form i p (form.flag b) k n best vs = refl
    walked_form i p form.unit k n best vs = refl
    walked_form i p (form.use_of x) k n best vs = refl
    walked_form i p (form.qualified m x) k n best vs = refl
    walked_form i p form.assert_false k n best vs = refl
    walked_form i p form.map_empty k n best vs = refl
    walked_form i p (form.fun q b) k n best vs =
        walked_node i p (form.fun q b) (declare q ∷ under_visits q (visits_of b)) k n (of_pattern k.constructors q ++ complaints_of names b (under q k) 0) best vs refl
        (adds_declared q (under_visits q (visits_of b)) k (complaints_of names b (under q k) 0) (adds_under q (visits_of b) k (complaints_of names b (under q k) 0) (walked_adds b (walked b) (under q k))))
    walked_form i p (form.tuple es) k n best vs = walked_node i p (form.tuple es) (in_row (fold_all visiting es)) k n (of_all k (fold_all (complaining names) es)) best vs refl (adds_row es k)
    walked_form i p (form.build c w es) k n best vs = walked_node i p (form.build c w es) (in_row (fold_all visiting es)) k n (of_all k (fold_all (complaining names) es)) best vs refl (adds_row es k)
    walked_form i p (form.list_of es) k n best vs = walked_node i p (form.list_of es) (in_row (fold_all visiting es)) k n (of_all k (fold_all (complaining names) es)) best vs refl (adds_row es k)
    walked_form i p (form.chain es) k n best vs = walked_node i p (form.chain es) (in_row (fold_all visiting es)) k n (of_all k (fold_all (complaining names) es)) best vs refl (adds_row es k)
    walked_form i p (form.let_in q e b) k n best vs =
        walked_node i p (form.let_in q e b) (declare q ∷ (visits_of e ++ under_visits q (visits_of b))) k n (of_pattern k.constructors q ++ (complaints_of names e k 0 ++ complaints_of names b (under q k) 0)) best vs refl
        (adds_declared q (visits_of e ++ under_visits q (visits_of b)) k (complaints_of names e k 0 ++ complaints_of names b (under q k) 0)
        (adds_both (visits_of e) (under_visits q (visits_of b)) k (complaints_of names e k 0) (complaints_of names b (under q k) 0) (walked_adds e (walked e) k)
        (adds_under q (visits_of b) k (complaints_of names b (under q k) 0) (walked_adds b (walked b) (under q k)))))
    walked_form i p (form.let_rec f j r q e b) k n best vs =
        let function : Recursive = record { id = j; place = r; parameter = q; body = e } in
        walked_node i p (form.let_rec f j r q e b) (show_name f ∷ (in_function function (visits_of e) ++ (visits_of b ++ hide_name f ∷ []))) k n
        ((of_pattern k.constructors q ++ complaints_of names e (under q (named f k)) 0) ++ complaints_of names b (named f k) 0) best vs refl
        (adds_named f (in_function function (visits_of e)) (visits_of b) k (of_pattern k.constructors q ++ complaints_of names e (under q (named f k)) 0) (complaints_of names b (named f k) 0)
        (adds_function function (visits_of e) (named f k) (complaints_of names e (under q (named f k)) 0) (walked_adds e (walked e) (under q (named f k))))
        (walked_adds b (walked b) (named f k)))
        ∙ ap (λ (cs : List Complaint). passed names k 0 (least_with best cs) vs)
        (append_assoc (of_pattern k.constructors q) (complaints_of names e (under q (named f k)) 0) (complaints_of names b (named f k) 0))
    walked_form i p (form.call a b) k n best vs = walked_two i p (form.call a b) a b k n (suc n) best vs refl refl (walked a) (walked b)
    walked_form i p (form.arithmetic o a b) k n best vs = walked_two i p (form.arithmetic o a b) a b k n 0 best vs refl refl (walked a) (walked b)
    walked_form i p (form.compare o a b) k n best vs = walked_two i p (form.compare o a b) a b k n 0 best vs refl refl (walked a) (walked b)
    walked_form i p (form.and_of a b) k n best vs = walked_two i p (form.and_of a b) a b k n 0 best vs refl refl (walked a) (walked b)
    walked_form i p (form.or_of a b) k n best vs = walked_two i p (form.or_of a b) a b k n 0 best vs refl refl (walked a) (walked b)
    walked_form i p (form.make a b) k n best vs = walked_two i p (form.make a b) a b k n 0 best vs refl refl (walked a) (walked b)
    walked_form i p (form.fetch a b) k n best vs = walked_two i p (form.fetch a b) a b k n 0 best vs refl refl (walked a) (walked b)
    walked_form i p (form.map_find a b) k n best vs = walked_two i p (form.map_find a b) a b k n 0 best vs refl refl (walked a) (walked b)
    walked_form i p (form.negated a) k n best vs = walked_node i p (form.negated a) (visits_of a) k n (complaints_of names a k 0) best vs refl (walked_adds a (walked a) k)
    walked_form i p (form.not_of a) k n best vs = walked_node i p (form.not_of a) (visits_of a) k n (complaints_of names a k 0) best vs refl (walked_adds a (walked a) k)
    walked_form i p (form.assert a) k n best vs = walked_node i p (form.assert a) (visits_of a) k n (complaints_of names a k 0) best vs refl (walked_adds a (walked a) k)
    walked_form i p (form.length_of a) k n best vs = walked_node i p (form.length_of a) (visits_of a) k n (complaints_of names a k 0) best vs refl (walked_adds a (walked a) k)
    walked_form i p (form.print a) k n best vs = walked_node i p (form.print a) (visits_of a) k n (complaints_of names a k 0) best vs refl (walked_adds a (walked a) k)
    walked_form i p (form.read a) k n best vs = walked_node i p (form.read a) (visits_of a) k n (complaints_of names a k 0) best vs refl (walked_adds a (walked a) k)
    walked_form i p (form.if_else c a b) k n best vs = walked_node i p (form.if_else c a b) (visits_of c ++ (visits_of a ++ visits_of b)) k n (complaints_of names c k 0 ++ (complaints_of names a k 0 ++ complaints_of names b k 0)) best vs refl (adds_three c a b (walked c) (walked a) (walked b) k)
    walked_form i p (form.store c a b) k n best vs = walked_node i p (form.store c a b) (visits_of c ++ (visits_of a ++ visits_of b)) k n (complaints_of names c k 0 ++ (complaints_of names a k 0 ++ complaints_of names b k 0)) best vs refl (adds_three c a b (walked c) (walked a) (walked b) k)
    walked_form i p (form.map_add c a b) k n best vs = walked_node i p (form.map_add c a b) (visits_of c ++ (visits_of a ++ visits_of b)) k n (complaints_of names c k 0 ++ (complaints_of names a k 0 ++ complaints_of names b k 0)) best vs refl (adds_three c a b (walked c) (walked a) (walked b) k)
    walked_form i p (form.match_on e cs) k n best vs =
        walked_node i p (form.match_on e cs) (in_match (is_let (tree i p (form.match_on e cs))) (visits_of e) (fold_cases visiting cs)) k n
        (of_match (is_let (tree i p (form.match_on e cs))) k (complaints_of names e k 0) (fold_cases (complaining names) cs)) best vs refl (adds_match (is_let (tree i p (form.match_on e cs))) e cs (walked e) (arms_walked cs) k)

    adds_row : (ts : Trees) (k : Known) → Adds (in_row (fold_all visiting ts)) k (of_all k (fold_all (complaining names) ts))
    adds_row no_trees k best vs = refl
    adds_row (more_trees t ts) k best vs =
        adds_both (visits_of t) (in_row (fold_all visiting ts)) k (complaints_of names t k 0) (of_all k (fold_all (complaining names) ts)) (walked_adds t (walked t) k) (adds_row ts k) best vs

    arms_walked : (cs : Cases) → ArmsWalked cs
    arms_walked no_cases = tt
    arms_walked (more_cases q b cs) = (walked b, arms_walked cs)

  -- an item adds its complaints, and behind it is known what it defines
  walked_item : (q : Place) (f : ItemForm) (k : Known) (best : Option Complaint) (vs : List Visit)
      → passed names k 0 best (visits_of_item (record { place = q; form = f }) ++ vs) ≡ passed names (behind k f) 0 (least_with best (of_item names k f)) vs
  walked_item q (type_of d) k best vs = refl
  walked_item q (let_of p e) k best vs =
      let item : ItemTree = record { place = q; form = let_of p e } in
      ap (λ (l : List Visit). passed names k 0 (least_with best (of_pattern k.constructors p)) l)
      (append_assoc (visits_of e ++ show p ∷ []) (leave_item item ∷ []) vs ∙ append_assoc (visits_of e) (show p ∷ []) (leave_item item ∷ vs))
      ∙ walked e k 0 (least_with best (of_pattern k.constructors p)) (show p ∷ (leave_item item ∷ vs))
      ∙ ap (λ (b : Option Complaint). passed names (under p k) 0 b vs) (sym (least_acts best (of_pattern k.constructors p) (complaints_of names e k 0)))
  walked_item q (let_rec_of f r) k best vs =
      let item : ItemTree = record { place = q; form = let_rec_of f r } in
      ap (λ (l : List Visit). passed names (named f k) 0 best l) (append_assoc (in_function r (visits_of r.body)) (leave_item item ∷ []) vs)
      ∙ adds_function r (visits_of r.body) (named f k) (complaints_of names r.body (under r.parameter (named f k)) 0) (walked_adds r.body (walked r.body) (under r.parameter (named f k))) best (leave_item item ∷ vs)

  pub walked_items : (is : List ItemTree) (k : Known) (best : Option Complaint) → passed names k 0 best (visits_of_items is) ≡ least_with best (of_items names k is)
  walked_items [] k best = refl
  walked_items (i ∷ is) k best =
      walked_item i.place i.form k best (visits_of_items is) ∙ walked_items is (behind k i.form) (least_with best (of_item names k i.form)) ∙ sym (least_acts best (of_item names k i.form) (of_items names (behind k i.form) is))
