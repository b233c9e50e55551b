-- Arms of a match from one on.
use Rattle.std.proofs.Common.{◌≡◌, ℕ, zero, suc, ◌+◌, ◌<◌, ◌≤◌, Bool, true, false, cond, List, [], ◌∷◌, length, drop, get_or, refl, ap, ◌∙◌, arith}
use Rattle.lq_refined_rules.specs.Checks.Basis.{Basis}
use Rattle.lq_refined_rules.specs.Checks.Tree as t
use Rattle.lq_refined_rules.specs.Checks.Tree.{has_default, is_arm_of, takes_all}
use Rattle.lq_base_names.specs.declared.place.Place.{Place}
use Rattle.lq_refined_rules.specs.Obligations.Obligations.{of_constructor, of_default}
use Rattle.lq_refined_templates.specs.Programs.BlockView.{arms_view, block_view, pattern_view}
use Rattle.lq_refined_templates.specs.declared.programs.block.Arm.{Arm}
use Rattle.lq_refined_types.specs.Types.Context.{Context}
use Rattle.lq_refined_types.specs.Types.Refined.{Refined}
use Rattle.lq_generate_implications.specs.Walk.Choosing.{of_arm, HasNoArmOf, HasNoDefault, IsArmOf, IsDefault}
use Rattle.lq_generate_implications.proofs.WalkLemmas.Views.{arm_seen}

-- the first arm, and those behind it
pub arms-cons : (a : Arm) (as_ : List Arm) → arms_view (a ∷ as_) ≡ t.arm (pattern_view a.pattern) (block_view a.body) (arms_view as_)
arms-cons a as_ = ap (λ x. t.arm x.pattern x.body (arms_view as_)) (arm_seen a)

dropped : (arms : List Arm) (i : ℕ) (a : Arm) → i < length arms → drop i arms ≡ get_or arms i a ∷ drop (i + 1) arms
dropped [] i a h = absurd (omega arith)
dropped (x ∷ xs) zero a h = refl
dropped (x ∷ xs) (suc i) a h =
    let e : suc (i + 1) ≡ suc i + 1 = omega arith in dropped xs i a (omega arith) ∙ ap (λ k. get_or xs i a ∷ drop k (x ∷ xs)) e

pub arms-from : (arms : List Arm) (i : ℕ) (a : Arm) → i < length arms
    → arms_view (drop i arms)
    ≡ t.arm (pattern_view (get_or arms i a).pattern) (block_view (get_or arms i a).body) (arms_view (drop (i + 1) arms))
arms-from arms i a h = ap arms_view (dropped arms i a h) ∙ arms-cons (get_or arms i a) (drop (i + 1) arms)

none-left : (arms : List Arm) (i : ℕ) → length arms ≤ i → drop i arms ≡ []
none-left [] zero h = refl
none-left [] (suc i) h = refl
none-left (x ∷ xs) zero h = absurd (omega arith)
none-left (x ∷ xs) (suc i) h = none-left xs i (omega arith)

pub no-arms : (arms : List Arm) (i : ℕ) → length arms ≤ i → arms_view (drop i arms) ≡ t.no_arms
no-arms arms i h = ap arms_view (none-left arms i h)

-- ---- some arm takes all values

-- ---- what is asked for of the arm of a constructor is the same from one arm on

pub record IsFrom (c : ℕ) (arms : List Arm) (i : ℕ) : Type 0 where
  pub same : (P : Basis) (Γ : Context) (l : Place) (u : t.Use) (d : Bool) (r : Refined)
      → of_constructor P Γ l u d c r (arms_view arms) ≡ of_constructor P Γ l u d c r (arms_view (drop i arms))

pub from-first : (c : ℕ) (arms : List Arm) → IsFrom c arms 0
from-first c arms = record { same = λ P Γ l u d r. refl }

pub from-next : (c : ℕ) (arms : List Arm) (i : ℕ) (a : Arm) → i < length arms → is_arm_of c (pattern_view (get_or arms i a).pattern) ≡ false
    → IsFrom c arms i → IsFrom c arms (i + 1)
from-next c arms i a h e f = record {
  same = λ P Γ l u d r.
      f.same P Γ l u d r ∙ ap (of_constructor P Γ l u d c r) (arms-from arms i a h)
      ∙ ap (λ k. cond k (of_arm P Γ u (get_or arms i a) r) (of_constructor P Γ l u d c r (arms_view (drop (i + 1) arms))))
      e;
}

pub from-here : (c : ℕ) (arms : List Arm) (i : ℕ) (a : Arm) → i < length arms → is_arm_of c (pattern_view (get_or arms i a).pattern) ≡ true
    → IsFrom c arms i → IsArmOf c arms i
from-here c arms i a h e f = record {
  inside = h;
  same = λ P Γ l u d r x.
      f.same P Γ l u d r ∙ ap (of_constructor P Γ l u d c r) (arms-from arms i a h)
      ∙ ap (λ k. cond k (of_arm P Γ u (get_or arms i a) r) (of_constructor P Γ l u d c r (arms_view (drop (i + 1) arms))))
      e
      ∙ ap (λ y. of_arm P Γ u y r) (same-at arms i a x h);
}
  where
    same-at : (xs : List Arm) (k : ℕ) (x y : Arm) → k < length xs → get_or xs k x ≡ get_or xs k y
    same-at [] k x y m = absurd (omega arith)
    same-at (z ∷ xs) zero x y m = refl
    same-at (z ∷ xs) (suc k) x y m = same-at xs k x y (omega arith)

pub from-none : (c : ℕ) (arms : List Arm) (i : ℕ) → length arms ≤ i → IsFrom c arms i → HasNoArmOf c arms
from-none c arms i h f = λ P Γ l u d r. f.same P Γ l u d r ∙ ap (of_constructor P Γ l u d c r) (no-arms arms i h)

-- ---- the same of the first arm that takes all values

pub record IsDefaultFrom (arms : List Arm) (i : ℕ) : Type 0 where
  pub same : (P : Basis) (Γ : Context) (u : t.Use) (r : Refined) → of_default P Γ u (arms_view arms) r ≡ of_default P Γ u (arms_view (drop i arms)) r

pub default-first : (arms : List Arm) → IsDefaultFrom arms 0
default-first arms = record { same = λ P Γ u r. refl }

pub default-next : (arms : List Arm) (i : ℕ) (a : Arm) → i < length arms → takes_all (pattern_view (get_or arms i a).pattern) ≡ false
    → IsDefaultFrom arms i → IsDefaultFrom arms (i + 1)
default-next arms i a h e f = record {
  same = λ P Γ u r.
      f.same P Γ u r ∙ ap (λ x. of_default P Γ u x r) (arms-from arms i a h)
      ∙ ap (λ k. cond k (of_arm P Γ u (get_or arms i a) r) (of_default P Γ u (arms_view (drop (i + 1) arms)) r))
      e;
}

pub default-found : (arms : List Arm) (i : ℕ) (a : Arm) → i < length arms → takes_all (pattern_view (get_or arms i a).pattern) ≡ true
    → IsDefaultFrom arms i → IsDefault arms i
default-found arms i a h e f = record {
  inside = h;
  same = λ P Γ u r x.
      f.same P Γ u r ∙ ap (λ y. of_default P Γ u y r) (arms-from arms i a h)
      ∙ ap (λ k. cond k (of_arm P Γ u (get_or arms i a) r) (of_default P Γ u (arms_view (drop (i + 1) arms)) r))
      e
      ∙ ap (λ y. of_arm P Γ u y r) (same-at arms i a x h);
}
  where
    same-at : (xs : List Arm) (k : ℕ) (x y : Arm) → k < length xs → get_or xs k x ≡ get_or xs k y
    same-at [] k x y m = absurd (omega arith)
    same-at (z ∷ xs) zero x y m = refl
    same-at (z ∷ xs) (suc k) x y m = same-at xs k x y (omega arith)

pub default-none : (arms : List Arm) (i : ℕ) → length arms ≤ i → IsDefaultFrom arms i → HasNoDefault arms
default-none arms i h f = λ P Γ u r. f.same P Γ u r ∙ ap (λ x. of_default P Γ u x r) (no-arms arms i h)
