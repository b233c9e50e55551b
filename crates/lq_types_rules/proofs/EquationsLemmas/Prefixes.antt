-- The rules of a program, one more at a time.
use Rattle.std.proofs.Common.{◌≡◌, inl, inr, ℕ, zero, suc, ◌+◌, ◌<◌, ◌≤◌, List, [], ◌∷◌, ◌++◌, All, take, length, get_or, refl, sym, ap, subst, ◌∙◌, arith, length-append}
use Rattle.std.proofs.lemmas.Bool.{cases_lt}
use Rattle.std.proofs.lemmas.List.{take-append-le, take_all, get_or_append_left}
use Rattle.std.proofs.lemmas.List.Elements.{All-append}
use Rattle.std.proofs.Math.Seq.{get_or-append_seam}
use Rattle.lq_text_tree.specs.MlType as ml
use Rattle.lq_text_tree.specs.MlType.{MlType}
use Rattle.lq_text_tree.specs.Items.{ItemForm, type_of, let_of, let_rec_of}
use Rattle.lq_text_tree.specs.Pattern.{Pattern, pattern, any, bind, nothing, tuple_of, build_of}
use Rattle.lq_text_tree.specs.Tree.{Tree, tree}
use Rattle.lq_text_tree.specs.TreeView.{Recursive}
use Rattle.lq_text_tree.specs.Types.{Signature}
use Rattle.lq_text_tree.specs.TypingRules.{type_in, ItemPatternIs}
use Rattle.lq_types_unify.specs.declared.arena.Equation.{Equation}
use Rattle.lq_types_unify.specs.Solution.{AreNodes}
use Rattle.lq_text_walk.specs.Walk.Shape.{shape_of}
use Rattle.lq_text_walk.specs.Walk.Visits.{Visit, enter_item, leave_item, enter, leave, leave_function, declare, show, hide, show_name, hide_name}
use Rattle.lq_types_rules.specs.declared.equations.system.System.{System}
use Rattle.lq_types_rules.specs.Equations.Solutions.{Meets}
use Rattle.lq_types_rules.specs.Equations.Adding.{IsFresh, Agree, Depends, Adds, count_of}
use Rattle.lq_types_rules.specs.Equations.Rows.{annotation_of, number_of, TreeRule, FunctionRule, ItemRule}
use Rattle.lq_types_rules.specs.Equations.Solved.{Solves}
use Rattle.lq_types_rules.specs.Equations.Within.{PatternIn, TreeIn, FunctionIn, ItemIn}
use Rattle.lq_types_rules.specs.Equations.Gathered.{VisitRule, VisitIn, Obeys, end_of, IsGathered}
use Rattle.lq_types_rules.proofs.EquationsLemmas.Growing.{all_left, all_right, all_none, agree_after, meets_later, fits_before}
use Rattle.lq_types_rules.proofs.EquationsLemmas.Patterning.{pattern_depends}
use Rattle.lq_types_rules.proofs.EquationsLemmas.Resting.{shape_depends}
use Rattle.lq_types_rules.proofs.EquationsLemmas.Forming.{numbered, shape_to, shape_from}

-- ---- what the rules rest on

tree_depends : (g : Signature) (nodes n : ℕ) (e : Tree) → TreeIn nodes n e → Depends n (TreeRule g nodes e)
tree_depends g nodes n (tree i p f) h t later ag r = shape_to nodes later g i f (shape_depends g nodes n (shape_of f) i h.0 h.1 t later ag (shape_from nodes t g i f r))

function_depends : (g : Signature) (nodes n : ℕ) (r : Recursive) → FunctionIn nodes n r → Depends n (FunctionRule g nodes r)
function_depends g nodes n r h t later ag e =
    (e.0, ag r.id h.2 ∙ e.1 ∙ ap (ml.arrow e.0) (numbered nodes t r.body ∙ sym (ag (number_of r.body) h.1) ∙ sym (numbered nodes later r.body)), pattern_depends g nodes n r.parameter h.0 e.0 t later ag e.2)

item_pattern_depends : (nodes n : ℕ) (q : Pattern) (a : MlType) → PatternIn nodes n q → Depends n (λ t. ItemPatternIs (annotation_of nodes t) q a)
item_pattern_depends nodes n (pattern p any) a h t later ag e = tt
item_pattern_depends nodes n (pattern p (bind x)) a h t later ag e = ag (nodes + x) (h 0 0 (omega arith)) ∙ e
item_pattern_depends nodes n (pattern p nothing) a h t later ag e = e
item_pattern_depends nodes n (pattern p (tuple_of qs)) a h t later ag e = e
item_pattern_depends nodes n (pattern p (build_of c m qs)) a h t later ag e = e

item_depends : (nodes n : ℕ) (f : ItemForm) → ItemIn nodes n f → Depends n (ItemRule nodes f)
item_depends nodes n (type_of d) h t later ag e = tt
item_depends nodes n (let_of q b) h t later ag e =
    subst (ItemPatternIs (annotation_of nodes later) q) (numbered nodes t b ∙ sym (ag (number_of b) h.1) ∙ sym (numbered nodes later b))
    (item_pattern_depends nodes n q (type_in (annotation_of nodes t) b) h.0 t later ag e)
item_depends nodes n (let_rec_of f r) h t later ag e = ag r.id h.1 ∙ e ∙ sym (ag (nodes + f) h.0)

pub visit_depends : (g : Signature) (nodes n : ℕ) (v : Visit) → VisitIn nodes n v → Depends n (VisitRule g nodes v)
visit_depends g nodes n (enter_item i) h t later ag e = tt
visit_depends g nodes n (leave_item i) h t later ag e = item_depends nodes n i.form h t later ag e
visit_depends g nodes n (enter x) h t later ag e = tt
visit_depends g nodes n (leave x) h t later ag e = tree_depends g nodes n x h t later ag e
visit_depends g nodes n (leave_function r) h t later ag e = function_depends g nodes n r h t later ag e
visit_depends g nodes n (declare q) h t later ag e = tt
visit_depends g nodes n (show q) h t later ag e = tt
visit_depends g nodes n (hide q) h t later ag e = tt
visit_depends g nodes n (show_name x) h t later ag e = tt
visit_depends g nodes n (hide_name x) h t later ag e = tt

-- ---- one more

end_before : (ends : List ℕ) (e k : ℕ) → k ≤ length ends → end_of (ends ++ e ∷ []) k ≡ end_of ends k
end_before ends e zero h = refl
end_before ends e (suc k) h = get_or_append_left ends (e ∷ []) 0 k (omega arith)

end_behind : (ends : List ℕ) (e k : ℕ) → k ≡ suc (length ends) → end_of (ends ++ e ∷ []) k ≡ e
end_behind ends e zero h = absurd (omega arith)
end_behind ends e (suc k) h = ap (λ (j : ℕ). get_or (ends ++ e ∷ []) j 0) (let x : k ≡ length ends = omega arith in x) ∙ get_or-append_seam ends e [] 0

pub gathered_none : (g : Signature) (nodes slots : ℕ) (s : System) → IsFresh slots s → IsGathered g nodes slots [] [] s
gathered_none g nodes slots s h = record {
  system = h.system;
  longer = let x = h.long in omega arith;
  long = refl;
  low = λ k l. none k l;
  last = sym (ap length h.empty);
  says = λ k l types e. subst (λ vs. Obeys g nodes vs types) (sym (take_all k [] (omega arith))) (all_none (λ v. VisitRule g nodes v types));
  said = λ k l types o. (types, λ i j. refl, record { fits = λ i f e. absurd (let n = h.none i in cc); meets = λ i d j. absurd (let m = ap length h.empty in omega (arith, short k i j)) });
}
  where
    none : (k : ℕ) → k ≤ 0 → end_of [] k ≤ length s.equations.items
    none zero l = omega arith
    none (suc k) l = absurd (omega arith)

    short : (k i : ℕ) → i < length (take (end_of [] k) s.equations.items) → i < 0
    short k i j = let e : take (end_of [] k) s.equations.items ≡ [] = ap (take (end_of [] k)) h.empty ∙ take_all (end_of [] k) [] (omega arith) in let l = ap length e in omega arith

take_front : {X : Type 0} (xs ys : List X) (k : ℕ) → k ≤ length xs → take k (xs ++ ys) ≡ take k xs
take_front xs ys k l = take-append-le k xs ys l

whole_nodes : (n : ℕ) (es : List Equation) (k : ℕ) → AreNodes n es → AreNodes n (take k es)
whole_nodes n [] k h i d l = subst (AreNodes n) (sym (take_all k [] (omega arith))) h i d l
whole_nodes n (e ∷ es) zero h i d l = absurd (omega arith)
whole_nodes n (e ∷ es) (suc k) h zero d l = h 0 e (omega arith)
whole_nodes n (e ∷ es) (suc k) h (suc i) d l = whole_nodes n es k (λ j f m. h (suc j) f (omega arith)) i d (omega arith)

module _ (g : Signature) (nodes slots : ℕ) (visits : List Visit) (ends : List ℕ) (s new : System) (v : Visit) (a : IsGathered g nodes slots visits ends s) (inside : VisitIn nodes slots v)
    (b : Adds s new (VisitRule g nodes v)) where
  front : (k : ℕ) → k ≤ length s.equations.items → take k new.equations.items ≡ take k s.equations.items
  front k l = ap (take k) b.grows.equations_are ∙ take_front s.equations.items b.more k l

  longer_equations : length new.equations.items ≡ length s.equations.items + length b.more
  longer_equations = ap length b.grows.equations_are ∙ length-append s.equations.items b.more

  -- all equations of s, as the last of its ends has them
  all_before : (types : ℕ → MlType) → Solves s s.equations.items types → Obeys g nodes visits types
  all_before types h = subst (λ vs. Obeys g nodes vs types) (take_all (length visits) visits (omega arith))
      (a.says (length visits) (omega arith) types (subst (λ es. Solves s es types) (sym (ap (λ (k : ℕ). take k s.equations.items) a.last ∙ take_all (length s.equations.items) s.equations.items (omega arith))) h))

  from_all : (types : ℕ → MlType) → Obeys g nodes visits types → (later : ℕ → MlType) × Agree slots types later × Solves s s.equations.items later
  from_all types o =
      let x = a.said (length visits) (omega arith) types (subst (λ vs. Obeys g nodes vs types) (sym (take_all (length visits) visits (omega arith))) o) in
      (x.0, x.1, subst (λ es. Solves s es x.0) (ap (λ (k : ℕ). take k s.equations.items) a.last ∙ take_all (length s.equations.items) s.equations.items (omega arith)) x.2)

  says_new : (types : ℕ → MlType) → Solves new new.equations.items types → Obeys g nodes (visits ++ v ∷ []) types
  says_new types h =
      let P : Equation → Type 0 = λ e. types e.left ≡ types e.right in
      let m : All P (s.equations.items ++ b.more) = subst (All P) b.grows.equations_are h.meets in
      All-append (λ w. VisitRule g nodes w types) visits (v ∷ [])
      (all_before types (record { fits = fits_before s new b.more b.grows types h.fits; meets = all_left P s.equations.items b.more m }))
      (one (b.says types h.fits (all_right P s.equations.items b.more m)))
    where
      one : VisitRule g nodes v types → Obeys g nodes (v ∷ []) types
      one r zero d l = r
      one r (suc k) d l = absurd (omega arith)

  said_new : (types : ℕ → MlType) → Obeys g nodes (visits ++ v ∷ []) types → (later : ℕ → MlType) × Agree slots types later × Solves new new.equations.items later
  said_new types o =
      let R : Visit → Type 0 = λ w. VisitRule g nodes w types in
      let x = from_all types (all_left R visits (v ∷ []) o) in
      let here : VisitRule g nodes v types = all_right R visits (v ∷ []) o 0 v (omega arith) in
      let y = b.said x.0 x.2.fits (visit_depends g nodes slots v inside types x.0 x.1 here) in (
        y.later,
        agree_after slots (count_of s) types x.0 y.later a.longer x.1 y.agree,
        record {
          fits = y.fits;
          meets = subst (All (λ (e : Equation). y.later e.left ≡ y.later e.right)) (sym b.grows.equations_are)
              (All-append (λ (e : Equation). y.later e.left ≡ y.later e.right) s.equations.items b.more (meets_later (count_of s) s.equations.items x.0 y.later a.system.nodes y.agree x.2.meets) y.meets);
        },
      )

  says_old : (k : ℕ) → k ≤ length visits → (types : ℕ → MlType) → Solves new (take (end_of ends k) new.equations.items) types → Obeys g nodes (take k (visits ++ v ∷ [])) types
  says_old k l types h = subst (λ vs. Obeys g nodes vs types) (sym (take_front visits (v ∷ []) k l))
      (a.says k l types (record { fits = fits_before s new b.more b.grows types h.fits; meets = subst (Meets types) (front (end_of ends k) (a.low k l)) h.meets }))

  said_old : (k : ℕ) → k ≤ length visits → (types : ℕ → MlType) → Obeys g nodes (take k (visits ++ v ∷ [])) types
      → (later : ℕ → MlType) × Agree slots types later × Solves new (take (end_of ends k) new.equations.items) later
  said_old k l types o =
      let x = a.said k l types (subst (λ vs. Obeys g nodes vs types) (take_front visits (v ∷ []) k l) o) in
      let y = b.grows.free x.0 x.2.fits in (
        y.0,
        agree_after slots (count_of s) types x.0 y.0 a.longer x.1 y.1,
        record {
          fits = y.2;
          meets = subst (Meets y.0) (sym (front (end_of ends k) (a.low k l)))
              (meets_later (count_of s) (take (end_of ends k) s.equations.items) x.0 y.0 (whole_nodes (count_of s) s.equations.items (end_of ends k) a.system.nodes) y.1 x.2.meets);
        },
      )

  all_taken : take (length new.equations.items) new.equations.items ≡ new.equations.items
  all_taken = take_all (length new.equations.items) new.equations.items (omega arith)

  last_end : (k : ℕ) → k ≡ suc (length visits) → take (end_of (ends ++ length new.equations.items ∷ []) k) new.equations.items ≡ new.equations.items
  last_end k e = ap (λ (j : ℕ). take j new.equations.items) (end_behind ends (length new.equations.items) k (let x = a.long in omega arith)) ∙ all_taken

  last_visits : (k : ℕ) → k ≡ suc (length visits) → take k (visits ++ v ∷ []) ≡ visits ++ v ∷ []
  last_visits k e = take_all k (visits ++ v ∷ []) (omega (arith, length-append visits (v ∷ [])))

  old_end : (k : ℕ) → k ≤ length visits → end_of (ends ++ length new.equations.items ∷ []) k ≡ end_of ends k
  old_end k l = end_before ends (length new.equations.items) k (let x = a.long in omega arith)

  pub gathered_more : IsGathered g nodes slots (visits ++ v ∷ []) (ends ++ length new.equations.items ∷ []) new
  gathered_more = record {
    system = b.grows.system;
    longer = let x = a.longer in let y = b.grows.longer in omega arith;
    long = let x = a.long in omega (arith, length-append visits (v ∷ []), length-append ends (length new.equations.items ∷ []));
    low = λ k l. elim (cases_lt (length visits) k) [
      | inl x ↦ let e = end_behind ends (length new.equations.items) k (let y = a.long in omega (arith, length-append visits (v ∷ []))) in omega arith
      | inr x ↦ let e = old_end k x in let y = a.low k x in let z = longer_equations in omega arith
    ];
    last = end_behind ends (length new.equations.items) (length (visits ++ v ∷ [])) (let y = a.long in omega (arith, length-append visits (v ∷ [])));
    says = λ k l types h. elim (cases_lt (length visits) k) [
      | inl x ↦ let e : k ≡ suc (length visits) = omega (arith, length-append visits (v ∷ [])) in
          subst (λ vs. Obeys g nodes vs types) (sym (last_visits k e)) (says_new types (subst (λ es. Solves new es types) (last_end k e) h))
      | inr x ↦ says_old k x types (subst (λ (j : ℕ). Solves new (take j new.equations.items) types) (old_end k x) h)
    ];
    said = λ k l types o. elim (cases_lt (length visits) k) [
      | inl x ↦ let e : k ≡ suc (length visits) = omega (arith, length-append visits (v ∷ [])) in
          let y = said_new types (subst (λ vs. Obeys g nodes vs types) (last_visits k e) o) in (y.0, y.1, subst (λ es. Solves new es y.0) (sym (last_end k e)) y.2)
      | inr x ↦ let y = said_old k x types o in (y.0, y.1, subst (λ (j : ℕ). Solves new (take j new.equations.items) y.0) (sym (old_end k x)) y.2)
    ];
  }
