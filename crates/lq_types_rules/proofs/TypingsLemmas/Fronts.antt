-- The rules up to a place are those of a front of the visits.
use Rattle.std.proofs.Common.{◌≡◌, ℕ, ◌<◌, ◌≤◌, true, List, [], ◌∷◌, ◌++◌, length, sym, ap, subst, ◌∙◌, arith, append_assoc}
use Rattle.std.proofs.lemmas.Bool.{and_parts}
use Rattle.std.proofs.lemmas.List.{append-nil}
use Rattle.lq_text_tree.specs.MlType.{MlType}
use Rattle.lq_text_tree.specs.Items.{ItemTree}
use Rattle.lq_text_tree.specs.Types.{Signature, Names}
use Rattle.lq_text_tree.specs.TypingRules.{Every}
use Rattle.lq_text_walk.specs.Walk.Visits.{Visit, enter_item, leave_item, enter, leave, leave_function, declare, show, hide, show_name, hide_name, visits_of_form, visits_of_item, visits_of_items}
use Rattle.lq_text_walk.specs.Scoped.Numbers.{binders_in, nodes_of_items}
use Rattle.lq_text_walk.specs.Scoped.Scoping.{Scoping, IsScoped}
use Rattle.lq_text_walk.specs.Scoped.Uses.{is_scoped_form, visible_behind, are_scoped}
use Rattle.lq_types_rules.specs.Equations.Rows.{annotation_of}
use Rattle.lq_types_rules.specs.Typings.Uses.{Known, none_known, behind_form, ObeysFrom}
use Rattle.lq_types_rules.specs.Typings.Fronts.{NodesAre, After, left_in}
use Rattle.lq_types_rules.specs.Typings.Laws.{AreItemRules, AreFrontRules, front_of}
use Rattle.lq_types_rules.proofs.TypingsLemmas.Items.{always, StateTo, StateBack, form_binders, item_to, item_back, fresh_all, around_to, around_back, split_binders, inner_both, inner_front}
use Rattle.lq_types_rules.proofs.TypingsLemmas.Leaving.{left_append, items_left}
use Rattle.lq_types_rules.proofs.TypingsLemmas.Lists.{AllOf, all_left, all_right, all_both, all_weaker}
use Rattle.lq_types_rules.proofs.TypingsLemmas.Numbers.{Rising, above, rising_left, rising_right, rising_in, Follow, follow_from, follow_low, follow_high}
use Rattle.lq_types_rules.proofs.TypingsLemmas.Programs.{state_to, state_back, rising}
use Rattle.lq_types_rules.proofs.TypingsLemmas.Trees.{Inner, Wanted, Kept, nodes_go}

-- ---- visits whose rules are wanted

pub all_wanted : (W : ℕ → Type 0) (us : List Visit) → AllOf W (left_in us) → AllOf (Wanted W) us
all_wanted W [] h = tt
all_wanted W (enter_item i ∷ us) h = (tt, all_wanted W us h)
all_wanted W (leave_item i ∷ us) h = (tt, all_wanted W us h)
all_wanted W (enter e ∷ us) h = (tt, all_wanted W us h)
all_wanted W (leave e ∷ us) h = (h.0, all_wanted W us h.1)
all_wanted W (leave_function r ∷ us) h = (h.0, all_wanted W us h.1)
all_wanted W (declare q ∷ us) h = (tt, all_wanted W us h)
all_wanted W (show q ∷ us) h = (tt, all_wanted W us h)
all_wanted W (hide q ∷ us) h = (tt, all_wanted W us h)
all_wanted W (show_name x ∷ us) h = (tt, all_wanted W us h)
all_wanted W (hide_name x ∷ us) h = (tt, all_wanted W us h)

module _ (g : Signature) (nodes : ℕ) (t : ℕ → MlType) where
  -- where none of the nodes that are left is wanted, nothing is asked
  all_idle : (W : ℕ → Type 0) (k : Known) (us : List Visit) → AllOf Inner us → AllOf (λ i. W i → ⊥) (left_in us) → AllOf (Kept g nodes t W k) us
  all_idle W k [] inner h = tt
  all_idle W k (enter_item i ∷ us) inner h = absurd inner.0
  all_idle W k (leave_item i ∷ us) inner h = absurd inner.0
  all_idle W k (enter e ∷ us) inner h = (λ w. tt, all_idle W k us inner.1 h)
  all_idle W k (leave e ∷ us) inner h = (λ w. absurd (h.0 w), all_idle W k us inner.1 h.1)
  all_idle W k (leave_function r ∷ us) inner h = (λ w. absurd (h.0 w), all_idle W k us inner.1 h.1)
  all_idle W k (declare q ∷ us) inner h = (λ w. tt, all_idle W k us inner.1 h)
  all_idle W k (show q ∷ us) inner h = (λ w. tt, all_idle W k us inner.1 h)
  all_idle W k (hide q ∷ us) inner h = (λ w. tt, all_idle W k us inner.1 h)
  all_idle W k (show_name x ∷ us) inner h = (λ w. tt, all_idle W k us inner.1 h)
  all_idle W k (hide_name x ∷ us) inner h = (λ w. tt, all_idle W k us inner.1 h)

  -- a rule that is kept where it is wanted, and always
  now_kept : (W : ℕ → Type 0) (k : Known) (us : List Visit) → AllOf (Wanted W) us → AllOf (Kept g nodes t W k) us → AllOf (Kept g nodes t Every k) us
  now_kept W k [] wanted h = tt
  now_kept W k (u ∷ us) wanted h = (λ e. h.0 wanted.0, now_kept W k us wanted.1 h.1)

  still_kept : (W : ℕ → Type 0) (k : Known) (us : List Visit) → AllOf (Kept g nodes t Every k) us → AllOf (Kept g nodes t W k) us
  still_kept W k [] h = tt
  still_kept W k (u ∷ us) h = (λ w. h.0 (always u), still_kept W k us h.1)

  -- ---- items before

  pub after_to : (before rest : List ItemTree) (tail : List Visit) (X : Names → Type 0) (k : Known) (ns : Names) (vs : List ℕ) (b : ℕ)
      → StateTo g nodes t k ns vs b
      → are_scoped vs (before ++ rest) ≡ true → Rising b (binders_in (visits_of_items (before ++ rest))) → After g (annotation_of nodes t) ns before X
      → ((j : Known) (ms : Names) (us : List ℕ) (c : ℕ) → StateTo g nodes t j ms us c → are_scoped us rest ≡ true → Rising c (binders_in (visits_of_items rest)) → X ms
      → ObeysFrom g nodes j tail t) → ObeysFrom g nodes k (visits_of_items before ++ tail) t
  after_to [] rest tail X k ns vs b s scoped up h last = last k ns vs b s scoped up h
  after_to (i ∷ is) rest tail X k ns vs b s scoped up h last =
      let both = and_parts (is_scoped_form vs i.form) (are_scoped (visible_behind vs i.form) (is ++ rest)) scoped in
      let rises = subst (λ xs. Rising b xs) (split_binders i (is ++ rest)) up in
      let own = rising_left b (form_binders i.form) (binders_in (visits_of_items (is ++ rest))) rises in
      let later = rising_right b (form_binders i.form) (binders_in (visits_of_items (is ++ rest))) rises in
      let out = item_to g nodes t i.form k ns vs b s own both.0 (λ ms. After g (annotation_of nodes t) ms is X) h in
      let goes = nodes_go g nodes t Every k i.form in
      let kept = goes.to ns vs s.agree both.0 (fresh_all g nodes t k b (visits_of_form i.form) s.below (rising_in b (form_binders i.form) own)) out.0 in
      subst (λ us. ObeysFrom g nodes k us t) (sym (append_assoc (visits_of_item i) (visits_of_items is) tail))
      (around_to g nodes t k i (visits_of_form i.form) (visits_of_items is ++ tail) goes.inner kept out.1
      (after_to is rest tail X (behind_form k i.form) out.2.0 (visible_behind vs i.form) (above b (form_binders i.form)) out.2.1 both.1 later out.2.2 last))

  pub after_back : (before rest : List ItemTree) (tail : List Visit) (X : Names → Type 0) (k : Known) (ns : Names) (vs : List ℕ) (b : ℕ)
      → StateBack g nodes t k ns vs b
      → are_scoped vs (before ++ rest) ≡ true → Rising b (binders_in (visits_of_items (before ++ rest)))
      → ObeysFrom g nodes k (visits_of_items before ++ tail) t
      → ((j : Known) (ms : Names) (us : List ℕ) (c : ℕ) → StateBack g nodes t j ms us c → are_scoped us rest ≡ true → Rising c (binders_in (visits_of_items rest))
      → ObeysFrom g nodes j tail t → X ms) → After g (annotation_of nodes t) ns before X
  after_back [] rest tail X k ns vs b s scoped up h last = last k ns vs b s scoped up h
  after_back (i ∷ is) rest tail X k ns vs b s scoped up h last =
      let both = and_parts (is_scoped_form vs i.form) (are_scoped (visible_behind vs i.form) (is ++ rest)) scoped in
      let rises = subst (λ xs. Rising b xs) (split_binders i (is ++ rest)) up in
      let own = rising_left b (form_binders i.form) (binders_in (visits_of_items (is ++ rest))) rises in
      let later = rising_right b (form_binders i.form) (binders_in (visits_of_items (is ++ rest))) rises in
      let goes = nodes_go g nodes t Every k i.form in
      let all = subst (λ us. ObeysFrom g nodes k us t) (append_assoc (visits_of_item i) (visits_of_items is) tail) h in
      let parts = around_back g nodes t k i (visits_of_form i.form) (visits_of_items is ++ tail) goes.inner all in
      let inside = goes.back ns vs s.agree both.0 (fresh_all g nodes t k b (visits_of_form i.form) s.below (rising_in b (form_binders i.form) own)) parts.0 in
      item_back g nodes t i.form k ns vs b s own both.0 (λ ms. After g (annotation_of nodes t) ms is X) inside parts.1
      (λ ms more_s. after_back is rest tail X (behind_form k i.form) ms (visible_behind vs i.form) (above b (form_binders i.form)) more_s both.1 later parts.2 last)

  -- ---- the nodes of an item up to a place

  -- the names and the state at an item of a program, with its scoping and its binders
  module _ (W : ℕ → Type 0) (i : ItemTree) (rest : List ItemTree) (us ws : List Visit) (split : visits_of_form i.form ≡ us ++ ws)
      (wanted : AllOf W (left_in us)) (others : AllOf (λ k. W k → ⊥) (left_in ws)) where
    inner_parts : (k : Known) → AllOf Inner (us ++ ws)
    inner_parts k = subst (AllOf Inner) split (nodes_go g nodes t W k i.form).inner

    pub place_to : (k : Known) (ns : Names) (vs : List ℕ) (b : ℕ) → StateTo g nodes t k ns vs b → are_scoped vs (i ∷ rest) ≡ true
        → Rising b (binders_in (visits_of_items (i ∷ rest))) → NodesAre g (annotation_of nodes t) W ns i.form
        → ObeysFrom g nodes k (enter_item i ∷ us) t
    place_to k ns vs b s scoped up h =
        let both = and_parts (is_scoped_form vs i.form) (are_scoped (visible_behind vs i.form) rest) scoped in
        let rises = subst (λ xs. Rising b xs) (split_binders i rest) up in
        let own = rising_left b (form_binders i.form) (binders_in (visits_of_items rest)) rises in
        let fresh = fresh_all g nodes t k b (visits_of_form i.form) s.below (rising_in b (form_binders i.form) own) in
        let kept = (nodes_go g nodes t W k i.form).to ns vs s.agree both.0 fresh h in
        let front = all_left (Kept g nodes t W k) us ws (subst (AllOf (Kept g nodes t W k)) split kept) in
        let now = now_kept W k us (all_wanted W us wanted) front in
        (tt, subst (λ xs. ObeysFrom g nodes k xs t) (append-nil us) (inner_both g nodes t k us [] (all_left Inner us ws (inner_parts k)) now tt))

    pub place_back : (k : Known) (ns : Names) (vs : List ℕ) (b : ℕ) → StateBack g nodes t k ns vs b → are_scoped vs (i ∷ rest) ≡ true
        → Rising b (binders_in (visits_of_items (i ∷ rest))) → ObeysFrom g nodes k (enter_item i ∷ us) t
        → NodesAre g (annotation_of nodes t) W ns i.form
    place_back k ns vs b s scoped up h =
        let both = and_parts (is_scoped_form vs i.form) (are_scoped (visible_behind vs i.form) rest) scoped in
        let rises = subst (λ xs. Rising b xs) (split_binders i rest) up in
        let own = rising_left b (form_binders i.form) (binders_in (visits_of_items rest)) rises in
        let fresh = fresh_all g nodes t k b (visits_of_form i.form) s.below (rising_in b (form_binders i.form) own) in
        let front = inner_front g nodes t k us [] (all_left Inner us ws (inner_parts k)) (subst (λ xs. ObeysFrom g nodes k xs t) (sym (append-nil us)) h.1) in
        let kept = all_both (Kept g nodes t W k) us ws (still_kept W k us front) (all_idle W k ws (all_right Inner us ws (inner_parts k)) others) in
        (nodes_go g nodes t W k i.form).back ns vs s.agree both.0 fresh (subst (AllOf (Kept g nodes t W k)) (sym split) kept)

-- ---- whole programs

pub same_program : (s : Scoping) (is : List ItemTree) → s.items ≡ is → IsScoped s
    → (are_scoped [] is ≡ true) × Rising 0 (binders_in (visits_of_items is))
same_program s is same scoped = (subst (λ xs. are_scoped [] xs ≡ true) same scoped.scoped, subst (λ xs. Rising 0 (binders_in (visits_of_items xs))) same (rising s scoped))

pub front_items_are_rules : (g : Signature) (nodes : ℕ) (types : ℕ → MlType) (s : Scoping) → IsScoped s → (before rest : List ItemTree)
    → s.items ≡ before ++ rest
    → AreItemRules g nodes types before
front_items_are_rules g nodes types s scoped before rest split =
    let whole = same_program s (before ++ rest) split scoped in let obeys : List Visit → Type 0 = λ us. ObeysFrom g nodes none_known us types in
    record {
      visits_obey = λ h.
          subst obeys (append-nil (visits_of_items before))
          (after_to g nodes types before rest [] (λ ns. Unit {0}) none_known [] [] 0 (state_to g nodes types) whole.0 whole.1 h (λ j ms us c more_s sc up x. tt));
      items_obey = λ h.
          after_back g nodes types before rest [] (λ ns. Unit {0}) none_known [] [] 0 (state_back g nodes types) whole.0 whole.1
          (subst obeys (sym (append-nil (visits_of_items before))) h) (λ j ms us c more_s sc up x. tt);
    }

-- the nodes that a front leaves are those of the least numbers
pub left_follow : (s : Scoping) → IsScoped s → Follow 0 (left_in (visits_of_items s.items))
left_follow s scoped =
    subst (Follow 0) (sym (items_left s.items ∙ scoped.nodes)) (follow_from 0 (length (nodes_of_items s.items)))

-- the visits of a program, cut inside of an item
cut : (before rest : List ItemTree) (i : ItemTree) (us ws : List Visit) → visits_of_form i.form ≡ us ++ ws
    → visits_of_items (before ++ i ∷ rest) ≡ front_of before i us ++ (ws ++ leave_item i ∷ visits_of_items rest)
cut [] rest i us ws split =
    ap (λ (xs : List Visit). enter_item i ∷ ((xs ++ leave_item i ∷ []) ++ visits_of_items rest)) split
    ∙ ap (λ (xs : List Visit). enter_item i ∷ xs) (append_assoc (us ++ ws) (leave_item i ∷ []) (visits_of_items rest) ∙ append_assoc us ws (leave_item i ∷ visits_of_items rest))
cut (j ∷ before) rest i us ws split =
    let later = ws ++ leave_item i ∷ visits_of_items rest in
    ap (λ (xs : List Visit). visits_of_item j ++ xs) (cut before rest i us ws split)
    ∙ sym (append_assoc (visits_of_item j) (front_of before i us) later)
    ∙ ap (λ (xs : List Visit). xs ++ later) (sym (append_assoc (visits_of_item j) (visits_of_items before) (enter_item i ∷ us)))

pub fronts_are_rules : (g : Signature) (nodes : ℕ) (types : ℕ → MlType) (s : Scoping) → IsScoped s → (before rest : List ItemTree) (i : ItemTree)
    → s.items ≡ before ++ i ∷ rest
    → (us ws : List Visit) → visits_of_form i.form ≡ us ++ ws → AreFrontRules g nodes types before i us
fronts_are_rules g nodes types s scoped before rest i split us ws inside =
    let whole = same_program s (before ++ i ∷ rest) split scoped in
    let front = front_of before i us in let later = ws ++ leave_item i ∷ visits_of_items rest in let m = length (left_in front) in
    let visits : visits_of_items s.items ≡ front ++ later = ap visits_of_items split ∙ cut before rest i us ws inside in
    let follow : Follow 0 (left_in front ++ left_in later) = subst (Follow 0) (ap left_in visits ∙ left_append front later) (left_follow s scoped) in
    let low = all_right (λ k. k < m) (left_in (visits_of_items before)) (left_in us)
    (subst (AllOf (λ k. k < m)) (left_append (visits_of_items before) (enter_item i ∷ us)) (follow_low 0 m (left_in front) (left_in later) (omega arith) follow)) in
    let high = all_left (λ k. m ≤ k) (left_in ws) (left_in (leave_item i ∷ visits_of_items rest))
    (subst (AllOf (λ k. m ≤ k)) (left_append ws (leave_item i ∷ visits_of_items rest)) (follow_high 0 m (left_in front) (left_in later) (omega arith) follow)) in
    let others = all_weaker (λ k. m ≤ k) (λ k. k < m → ⊥) (λ k le less. omega (arith, le, less)) (left_in ws) high in
    record {
      visits_obey = λ h.
          after_to g nodes types before (i ∷ rest) (enter_item i ∷ us) (λ ns. NodesAre g (annotation_of nodes types) (λ k. k < m) ns i.form) none_known [] [] 0
          (state_to g nodes types) whole.0 whole.1 h (place_to g nodes types (λ k. k < m) i rest us ws inside low others);
      nodes_obey = λ h.
          after_back g nodes types before (i ∷ rest) (enter_item i ∷ us) (λ ns. NodesAre g (annotation_of nodes types) (λ k. k < m) ns i.form) none_known [] [] 0
          (state_back g nodes types) whole.0 whole.1 h (place_back g nodes types (λ k. k < m) i rest us ws inside low others);
    }
