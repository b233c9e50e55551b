-- Steps and rules of the first of some visits, and of one more.
use Rattle.std.proofs.Common.{◌≡◌, ℕ, zero, suc, ◌+◌, ◌<◌, ◌≤◌, List, [], ◌∷◌, ◌++◌, take, drop, Option, Some, None, IsSome, All, length, refl, sym, ap, subst, ◌∙◌, arith}
use Rattle.lq_text_tree.specs.MlType.{MlType}
use Rattle.lq_text_tree.specs.Types.{Signature}
use Rattle.lq_text_walk.specs.Walk.Visits.{Visit}
use Rattle.lq_types_rules.specs.declared.equations.system.System.{System}
use Rattle.lq_types_rules.specs.Visits.Owning.{slots_at, item_behind, AreOwned}
use Rattle.lq_types_rules.specs.Typings.Uses.{Known, behind, behind_all, UseRule, ObeysFrom}
use Rattle.lq_types_infer.specs.Inference.Gathering.{IsStep, AreSteps}

module _ (g : Signature) (nodes : ℕ) where
  pub steps_more : (k : Known) (done : List Visit) (v : Visit) (first s next : System) → AreSteps g nodes k done first s → IsStep g nodes (behind_all k done) v s next → AreSteps g nodes k (done ++ v ∷ []) first next
  steps_more k [] v first s next e step = (next, subst (λ (t : System). IsStep g nodes k v t next) e step, refl)
  steps_more k (w ∷ done) v first s next (mid, one, rest) step = (mid, one, steps_more (behind k w) done v mid s next rest step)

  -- the rules of fewer visits
  pub obeys_fewer : (k : Known) (m n : ℕ) (vs : List Visit) (types : ℕ → MlType) → m ≤ n → ObeysFrom g nodes k (take n vs) types → ObeysFrom g nodes k (take m vs) types
  obeys_fewer k zero n vs types l h = tt
  obeys_fewer k (suc m) zero vs types l h = absurd (omega arith)
  obeys_fewer k (suc m) (suc n) [] types l h = tt
  obeys_fewer k (suc m) (suc n) (v ∷ vs) types l h = (h.0, obeys_fewer (behind k v) m n vs types (omega arith) h.1)

  -- the rules of one visit more, where its own rule holds
  pub obeys_next : (k : Known) (n : ℕ) (vs later : List Visit) (v : Visit) (types : ℕ → MlType) → drop n vs ≡ v ∷ later → ((j : Known) → UseRule g nodes j v types) → ObeysFrom g nodes k (take n vs) types
      → ObeysFrom g nodes k (take (suc n) vs) types
  obeys_next k zero [] later v types e r h = tt
  obeys_next k zero (w ∷ vs) later v types e r h = (subst (λ (u : Visit). UseRule g nodes k u types) (first_same e) (r k), tt)
    where
      first_same : w ∷ vs ≡ v ∷ later → v ≡ w
      first_same q = cc
  obeys_next k (suc n) [] later v types e r h = tt
  obeys_next k (suc n) (w ∷ vs) later v types e r h = (h.0, obeys_next (behind k w) n vs later v types e r h.1)

module _ (nodes slots : ℕ) (owner : ℕ → ℕ) where
  pub owned_front : (now : ℕ) (k : Known) (done left : List Visit) → AreOwned nodes slots owner now k (done ++ left) → AreOwned nodes slots owner now k done
  owned_front now k [] left h = tt
  owned_front now k (v ∷ done) left h = (h.0, owned_front (item_behind now v) (behind k v) done left h.1)

  -- the slots that the next visit names are slots
  pub owned_next : (now : ℕ) (k : Known) (done left : List Visit) (v : Visit) → AreOwned nodes slots owner now k (done ++ v ∷ left) → All (λ i. i < slots) (slots_at nodes (behind_all k done) v)
  owned_next now k [] left v h = λ j d l. (h.0 j d l).0
  owned_next now k (w ∷ done) left v h = owned_next (item_behind now w) (behind k w) done left v h.1

-- ---- what is left of a walk

abbrev no_visits : List Visit
no_visits = []

pub none_behind : (n : ℕ) (v : Visit) (rest : List Visit) → drop n no_visits ≡ v ∷ rest → ⊥
none_behind zero v rest e = cc
none_behind (suc n) v rest e = cc

pub left_next : (n : ℕ) (all left rest : List Visit) (v : Visit) → left ≡ drop n all → left ≡ v ∷ rest → rest ≡ drop (suc n) all
left_next n [] left rest v e q = absurd (none_behind n v rest (sym e ∙ q))
left_next zero (w ∷ all) left rest v e q = rest_same (sym q ∙ e)
  where
    rest_same : v ∷ rest ≡ w ∷ all → rest ≡ all
    rest_same r = cc
left_next (suc n) (w ∷ all) left rest v e q = left_next n all left rest v e q

left_some : (n : ℕ) (all left : List Visit) → n < length all → left ≡ drop n all → left ≡ [] → ⊥
left_some n [] left l e q = absurd (omega arith)
left_some zero (w ∷ all) left l e q = let r = sym e ∙ q in cc
left_some (suc n) (w ∷ all) left l e q = left_some n all left (omega arith) e q

-- what comes next of a walk, where not all has come
module _ {X : Type 0} (view : X → Visit) (n : ℕ) (all left rest : List Visit) (e : left ≡ drop n all) (l : n < length all) where
  pub next_some : (o : Option X) → (o ≡ None → left ≡ []) → IsSome o
  next_some None over = absurd (left_some n all left l e (over refl))
  next_some (Some x) over = refl

  pub next_left : (o : Option X) → ((x : X) → o ≡ Some x → left ≡ view x ∷ rest) → (o ≡ None → left ≡ []) → rest ≡ drop (n + 1) all
  next_left None next over = absurd (left_some n all left l e (over refl))
  next_left (Some x) next over = left_next n all left rest (view x) e (next x refl) ∙ ap (λ (m : ℕ). drop m all) (one_more n)
    where
      one_more : (m : ℕ) → suc m ≡ m + 1
      one_more m = omega arith
