-- Environments to which one is added, and implications in them.
use Rattle.std.proofs.Common.{◌≡◌, ℕ, zero, suc, ◌<◌, ◌≤◌, List, [], ◌∷◌, ◌++◌, All, length, map, slice_index_or, Result, Ok, Err, OnOk, OnErr, refl, sym, ap, ap₂, subst, ◌∙◌, arith}
use Rattle.std.specs.declared.alloc.AllocError.{AllocError}
use Rattle.std.proofs.lemmas.List.{append-nil, get_or_append_left, length-append, length-map, map-append}
use Rattle.std.proofs.lemmas.List.Elements.{All-head, All-tail, All-weaker}
use Rattle.lq_refined_substitution.specs.Environments.Entries.{at, grown}
use Rattle.lq_refined_substitution.specs.declared.environments.environments.Environment.{Environment}
use Rattle.lq_refined_types.specs.Parts.Part.{known, Parts}
use Rattle.lq_refined_types.specs.Parts.Part as parts
use Rattle.lq_logic_predicates.specs.Formula.{truth}
use Rattle.lq_refined_substitution.specs.declared.substitution.parts.Part.{Part}
use Rattle.lq_refined_substitution.specs.Substitution.Numbered.{AreNumbered, items_at, items_at-last, lists_at, lists_at-at, lists_at-added, lists_at-kept}
use Rattle.lq_refined_substitution.specs.Substitution.Views.{part_view, parts_view}
use Rattle.lq_refined_substitution.specs.declared.implications.implication.Implication.{Implication}
use Rattle.lq_refined_substitution.specs.Implications.Placed.{IsPlaced}
use Rattle.lq_refined_substitution.specs.Implications.Views.{environment_in, implication_view, origin_view}

-- implications stay where there are more environments
pub views-more : (es more : List Parts) (is : List Implication) → All (IsPlaced (length es)) is → map (implication_view (es ++ more)) is ≡ map (implication_view es) is
views-more es more [] h = refl
views-more es more (i ∷ is) h =
    ap₂ (λ x xs. x ∷ xs)
    (ap (λ (p : Parts). record { hypotheses = p; left = parts_view i.left; goal = part_view i.goal; origin = origin_view i.place i.reason })
    (get_or_append_left es more [] i.env (All-head (IsPlaced (length es)) i is h)))
    (views-more es more is (All-tail (IsPlaced (length es)) i is h))

pub placed-more : (m n : ℕ) (is : List Implication) → m ≤ n → All (IsPlaced m) is → All (IsPlaced n) is
placed-more m n is l h = All-weaker (IsPlaced m) (IsPlaced n) (λ i b. omega arith) is h

abbrev pub lists_of : List Part → List (List ℕ) → List Parts
lists_of ps all = lists_at (known truth) (map part_view ps) all

-- what a further environment leaves, whether it had memory or not
module _ (ps longer : List Part) (q : Part) (all new : List (List ℕ)) (p n : ℕ) (number : n ≡ length ps) (item : longer ≡ ps ++ q ∷ [])
    (numbered : AreNumbered (length ps) all) where
  mapped : map part_view longer ≡ map part_view ps ++ part_view q ∷ []
  mapped = ap (map part_view) item ∙ map-append part_view ps (q ∷ [])

  counted : n ≡ length (map part_view ps)
  counted = number ∙ sym (length-map ps part_view)

  viewed : AreNumbered (length (map part_view ps)) all
  viewed = subst (λ k. AreNumbered k all) (sym (length-map ps part_view)) numbered

  pub lists-added : new ≡ all ++ (at all p ++ n ∷ []) ∷ []
      → lists_of longer new ≡ lists_of ps all ++ (environment_in (lists_of ps all) p ++ part_view q ∷ []) ∷ []
  lists-added ok =
      lists_at-added (map part_view ps) (map part_view longer) (part_view q) all new p n counted mapped viewed (known truth) ok

  pub lists-kept : new ≡ all → lists_of longer new ≡ lists_of ps all
  lists-kept err = lists_at-kept (map part_view ps) (map part_view longer) (part_view q) all new p n counted mapped viewed (known truth) err

  pub lists-more : (r : Result ℕ AllocError) → OnOk r (new ≡ all ++ (at all p ++ n ∷ []) ∷ []) → OnErr r (new ≡ all)
      → (more : List Parts) × (lists_of longer new ≡ lists_of ps all ++ more)
  lists-more (Ok v) ok err = (_, lists-added ok)
  lists-more (Err e) ok err = ([], lists-kept err ∙ sym (append-nil (lists_of ps all)))

  pub length-more : (r : Result ℕ AllocError) → OnOk r (new ≡ all ++ (at all p ++ n ∷ []) ∷ []) → OnErr r (new ≡ all) → length all ≤ length new
  length-more (Ok v) ok err =
      let k = length-append all ((at all p ++ n ∷ []) ∷ []) in let m : length new ≡ length (all ++ (at all p ++ n ∷ []) ∷ []) = ap length ok in omega arith
  length-more (Err e) ok err = let m : length new ≡ length all = ap length err in omega arith

pub implications-more : (ps : List Part) (all : List (List ℕ)) (es : List Parts) (is : List Implication) → (more : List Parts) × (es ≡ lists_of ps all ++ more)
    → All (IsPlaced (length all)) is → map (implication_view es) is ≡ map (implication_view (lists_of ps all)) is
implications-more ps all es is more h =
    ap (λ l. map (implication_view l) is) more.1
    ∙ views-more (lists_of ps all) more.0 is (subst (λ k. All (IsPlaced k) is) (sym (length-map all _)) h)

-- ---- the last hypothesis

read-view : (xs : List Part) (i : ℕ) (q : Part) (d : parts.Part) → i < length xs → q ≡ slice_index_or xs i q → part_view q ≡ slice_index_or (map part_view xs) i d
read-view [] i q d h e = absurd (omega arith)
read-view (x ∷ xs) zero q d h e = ap part_view e
read-view (x ∷ xs) (suc i) q d h e = read-view xs i q d (omega arith) e

module _ (ps : List Part) (all : List (List ℕ)) where
  hypotheses-of : (env : ℕ) → environment_in (lists_of ps all) env ≡ items_at (known truth) (map part_view ps) (at all env)
  hypotheses-of env = lists_at-at (known truth) (map part_view ps) all env

  pub empty-left : (env : ℕ) (left : List Part) → length left ≡ 0 → at all env ≡ [] → environment_in (lists_of ps all) env ++ map part_view left ≡ []
  empty-left env [] h e = append-nil (environment_in (lists_of ps all) env) ∙ hypotheses-of env ∙ ap (items_at (known truth) (map part_view ps)) e
  empty-left env (x ∷ xs) h e = absurd (omega arith)

  pub last-left : (env parent i : ℕ) (left : List Part) (q : Part) → length left ≡ 0 → at all env ≡ at all parent ++ i ∷ [] → i < length ps
      → q ≡ slice_index_or ps i q
      → environment_in (lists_of ps all) env ++ map part_view left ≡ (environment_in (lists_of ps all) parent ++ map part_view left) ++ part_view q ∷ []
  last-left env parent i [] q h e l r =
      append-nil (environment_in (lists_of ps all) env) ∙ hypotheses-of env ∙ ap (items_at (known truth) (map part_view ps)) e
      ∙ items_at-last (known truth) (map part_view ps) (at all parent) i
      ∙ ap₂ (λ a b. a ++ b ∷ []) (sym (append-nil (environment_in (lists_of ps all) parent) ∙ hypotheses-of parent))
      (sym (read-view ps i q (known truth) l r))
  last-left env parent i (x ∷ xs) q h e l r = absurd (omega arith)

-- ---- the first environment

grown-length : (all : List (List ℕ)) (es : List Environment) → length all ≤ length (grown all es)
grown-length all [] = omega arith
grown-length all (e ∷ es) =
    let new = at all e.parent ++ e.part ∷ [] in
    let h = grown-length (all ++ new ∷ []) es in let k = length-append all (new ∷ []) in omega arith

pub first-there : (es : List Environment) → 0 < length (grown ([] ∷ []) es)
first-there es = let h = grown-length ([] ∷ []) es in omega arith

grown-first : (x : List ℕ) (xs : List (List ℕ)) (es : List Environment) → at (grown (x ∷ xs) es) 0 ≡ x
grown-first x xs [] = refl
grown-first x xs (e ∷ es) = grown-first x (xs ++ (at (x ∷ xs) e.parent ++ e.part ∷ []) ∷ []) es

pub first-empty : (ps : List Part) (es : List Environment) → environment_in (lists_of ps (grown ([] ∷ []) es)) 0 ++ [] ≡ []
first-empty ps es =
    append-nil (environment_in (lists_of ps (grown ([] ∷ []) es)) 0) ∙ lists_at-at (known truth) (map part_view ps) (grown ([] ∷ []) es) 0
    ∙ ap (items_at (known truth) (map part_view ps)) (grown-first [] [] es)
