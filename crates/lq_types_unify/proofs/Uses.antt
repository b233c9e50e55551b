-- A copy of what a definition was is an instance of what it is.
use Rattle.std.proofs.Common.{◌≡◌, inl, inr, ℕ, ◌+◌, ◌-◌, ◌<◌, ◌≤◌, Bool, true, false, nat_lt, List, ◌++◌, Option, Some, length, get_or, refl, sym, ap, subst, ◌∙◌, arith, length-append}
use Rattle.std.proofs.lemmas.Bool.{cases_lt, lt-ltb, le-ltb}
use Rattle.std.proofs.lemmas.List.Elements.{All-append}
use Rattle.std.proofs.lemmas.List.{get_or_append_left, get_or-append_right}
use Rattle.lq_types_unify.specs.declared.arena.Equation.{Equation}
use Rattle.lq_types_unify.specs.Simple.{Simple, variable, made, replaced}
use Rattle.lq_types_unify.specs.Nodes.{Form}
use Rattle.lq_types_unify.specs.Solution.{Fits, Meets, IsSolution}
use Rattle.lq_types_unify.specs.Variables.{Each}
use Rattle.lq_types_unify.specs.Later.{IsPublic, IsLater, IsCopied, IsUse, UsesAreInstances}
use Rattle.lq_types_unify.proofs.Replacing.{replaced_twice, replaced_alike, alike_from, replaced_same, each_map, each_both, each_replaced, each_is, each_as}

-- ---- two choices

chosen : {X : Type 0} → Bool → X → X → X
chosen true x y = x
chosen false x y = y

-- one function for old nodes, another for later ones
pub parted : (count : ℕ) (f g : ℕ → Simple) → ℕ → Simple
parted count f g i = chosen (nat_lt i count) (f i) (g i)

pub parted_old : (count : ℕ) (f g : ℕ → Simple) (i : ℕ) → i < count → parted count f g i ≡ f i
unfolding parted chosen
parted_old count f g i h = ap (λ b. chosen b (f i) (g i)) (lt-ltb i count h)

pub parted_new : (count : ℕ) (f g : ℕ → Simple) (i : ℕ) → count ≤ i → parted count f g i ≡ g i
unfolding parted chosen
parted_new count f g i h = ap (λ b. chosen b (f i) (g i)) (le-ltb i count h)

-- variables that were generalised become new ones, numbered from the bound on
fresh : (general : ℕ → Bool) (bound : ℕ) (s : ℕ → Simple) → ℕ → Simple
fresh general bound s v = chosen (general v) (variable (v + bound)) (s v)

fresh_general : (general : ℕ → Bool) (bound : ℕ) (s : ℕ → Simple) (v : ℕ) → general v ≡ true → fresh general bound s v ≡ variable (v + bound)
unfolding fresh chosen
fresh_general general bound s v e = ap (λ b. chosen b (variable (v + bound)) (s v)) e

fresh_other : (general : ℕ → Bool) (bound : ℕ) (s : ℕ → Simple) (v : ℕ) → general v ≡ false → fresh general bound s v ≡ s v
unfolding fresh chosen
fresh_other general bound s v e = ap (λ b. chosen b (variable (v + bound)) (s v)) e

-- and new ones become what the use has
back : (bound : ℕ) (by : ℕ → Simple) → ℕ → Simple
back bound by x = chosen (nat_lt x bound) (variable x) (by (x - bound))

back_low : (bound : ℕ) (by : ℕ → Simple) (x : ℕ) → x < bound → back bound by x ≡ variable x
unfolding back chosen
back_low bound by x h = ap (λ b. chosen b (variable x) (by (x - bound))) (lt-ltb x bound h)

back_high : (bound : ℕ) (by : ℕ → Simple) (v : ℕ) → back bound by (v + bound) ≡ by v
unfolding back chosen
back_high bound by v = ap (λ b. chosen b (variable (v + bound)) (by ((v + bound) - bound))) (le-ltb (v + bound) bound (omega arith)) ∙ ap by (omega arith)

by_general : (b : Bool) {P : Type 0} → (b ≡ true → P) → (b ≡ false → P) → P
by_general true f g = f refl
by_general false f g = g refl

-- ---- the types of all that came, with new variables for those that were generalised

renewed : (count : ℕ) (general : ℕ → Bool) (bound : ℕ) (s : ℕ → Simple) (first last : ℕ → Simple) → ℕ → Simple
renewed count general bound s first last = parted count (λ i. replaced (fresh general bound s) (first i)) last

renewed_old : (count : ℕ) (general : ℕ → Bool) (bound : ℕ) (s : ℕ → Simple) (first last : ℕ → Simple) (i : ℕ) → i < count → renewed count general bound s first last i ≡ replaced (fresh general bound s) (first i)
unfolding renewed
renewed_old count general bound s first last i h = parted_old count (λ i. replaced (fresh general bound s) (first i)) last i h

renewed_new : (count : ℕ) (general : ℕ → Bool) (bound : ℕ) (s : ℕ → Simple) (first last : ℕ → Simple) (i : ℕ) → count ≤ i → renewed count general bound s first last i ≡ last i
unfolding renewed
renewed_new count general bound s first last i h = parted_new count (λ i. replaced (fresh general bound s) (first i)) last i h

-- what is public keeps its type
renewed_public : (count : ℕ) (general : ℕ → Bool) (bound : ℕ) (s : ℕ → Simple) (first last : ℕ → Simple) → ((i : ℕ) → last i ≡ replaced s (first i))
    → (i : ℕ) → IsPublic count general first i → renewed count general bound s first last i ≡ last i
renewed_public count general bound s first last now i p = elim (cases_lt i count) [
  | inl h ↦ renewed_old count general bound s first last i h
      ∙ replaced_alike (fresh general bound s) s (first i) (each_map (λ v. general v ≡ false) (λ v. fresh general bound s v ≡ s v) (first i) (fresh_other general bound s) (p h)) ∙ sym (now i)
  | inr h ↦ renewed_new count general bound s first last i h
]

renewed_fits : (old new : ℕ → Option Form) (count : ℕ) (before since : List Equation) (first last : ℕ → Simple) (general : ℕ → Bool) (bound : ℕ) → IsLater old new count before since first last general bound
    → (s : ℕ → Simple) → ((i : ℕ) → last i ≡ replaced s (first i)) → Fits new (renewed count general bound s first last)
renewed_fits old new count before since first last general bound l s now i f e = elim (cases_lt i count) [
  | inl h ↦
      let was : old i ≡ Some f = sym (l.kept i h) ∙ e in
      let inner = (l.inside i f was).1 in
      renewed_old count general bound s first last i h ∙ ap (replaced (fresh general bound s)) (l.first_principal.solves.fits i f was)
      ∙ ap (made f.head) (sym (each_is (renewed count general bound s first last) first (fresh general bound s) f.parts (λ k d m. renewed_old count general bound s first last _ (inner k d m))))
  | inr h ↦ renewed_new count general bound s first last i h ∙ l.last_principal.solves.fits i f e
      ∙ ap (made f.head) (sym (each_as (renewed count general bound s first last) last f.parts (λ k d m. renewed_public count general bound s first last now _ (l.forms_public i f h e k d m))))
]

renewed_before : (old new : ℕ → Option Form) (count : ℕ) (before since : List Equation) (first last : ℕ → Simple) (general : ℕ → Bool) (bound : ℕ) → IsLater old new count before since first last general bound
    → (s : ℕ → Simple) → Meets (renewed count general bound s first last) before
renewed_before old new count before since first last general bound l s k d h =
    let inside = l.nodes k d h in
    renewed_old count general bound s first last _ inside.0 ∙ ap (replaced (fresh general bound s)) (l.first_principal.solves.meets k d h) ∙ sym (renewed_old count general bound s first last _ inside.1)

since_meets : (before since : List Equation) (last : ℕ → Simple) → Meets last (before ++ since) → Meets last since
since_meets before since last m k d h =
    subst (λ (e : Equation). last e.left ≡ last e.right)
    (get_or-append_right before since (length before) (length before + k) d refl (omega arith) ∙ ap (λ (j : ℕ). get_or since j d) (omega arith))
    (m (length before + k) d (omega (arith, length-append before since)))

before_meets : (before since : List Equation) (last : ℕ → Simple) → Meets last (before ++ since) → Meets last before
before_meets before since last m k d h =
    subst (λ (e : Equation). last e.left ≡ last e.right) (get_or_append_left before since d k h) (m k d (omega (arith, length-append before since)))

renewed_since : (old new : ℕ → Option Form) (count : ℕ) (before since : List Equation) (first last : ℕ → Simple) (general : ℕ → Bool) (bound : ℕ) → IsLater old new count before since first last general bound
    → (s : ℕ → Simple) → ((i : ℕ) → last i ≡ replaced s (first i)) → Meets (renewed count general bound s first last) since
renewed_since old new count before since first last general bound l s now k d h =
    let p = l.equations_public k d h in
    renewed_public count general bound s first last now _ p.0 ∙ since_meets before since last l.last_principal.solves.meets k d h ∙ sym (renewed_public count general bound s first last now _ p.1)

renewed_solves : (old new : ℕ → Option Form) (count : ℕ) (before since : List Equation) (first last : ℕ → Simple) (general : ℕ → Bool) (bound : ℕ) → IsLater old new count before since first last general bound
    → (s : ℕ → Simple) → ((i : ℕ) → last i ≡ replaced s (first i)) → IsSolution new (before ++ since) (renewed count general bound s first last)
renewed_solves old new count before since first last general bound l s now = record {
  fits = renewed_fits old new count before since first last general bound l s now;
  meets = All-append (λ (e : Equation). renewed count general bound s first last e.left ≡ renewed count general bound s first last e.right) before since
      (renewed_before old new count before since first last general bound l s) (renewed_since old new count before since first last general bound l s now);
}

last_solves : (old new : ℕ → Option Form) (count : ℕ) (before since : List Equation) (first last : ℕ → Simple) (general : ℕ → Bool) (bound : ℕ) → IsLater old new count before since first last general bound → IsSolution old before last
last_solves old new count before since first last general bound l = record {
  fits = λ i f e. let k = l.inside i f e in l.last_principal.solves.fits i f (l.kept i k.0 ∙ e);
  meets = before_meets before since last l.last_principal.solves.meets;
}

-- ---- the use

-- a variable of the definition, with its new types, and then with those of the use
one_variable : (general : ℕ → Bool) (bound : ℕ) (s r by : ℕ → Simple) (v : ℕ) → replaced r (s v) ≡ fresh general bound s v → Each (λ x. x < bound) (s v) → (general v ≡ false → by v ≡ s v)
    → replaced (λ x. replaced (back bound by) (r x)) (s v) ≡ by v
one_variable general bound s r by v e low shared =
    sym (replaced_twice r (back bound by) (s v)) ∙ ap (replaced (back bound by)) e ∙ by_general (general v)
    (λ g. ap (replaced (back bound by)) (fresh_general general bound s v g) ∙ back_high bound by v)
    (λ g. ap (replaced (back bound by)) (fresh_other general bound s v g)
    ∙ replaced_alike (back bound by) variable (s v) (each_map (λ x. x < bound) (λ x. back bound by x ≡ variable x) (s v) (back_low bound by) low) ∙ replaced_same (s v) ∙ sym (shared g))

use_of : (old new : ℕ → Option Form) (count : ℕ) (before since : List Equation) (first last : ℕ → Simple) (general : ℕ → Bool) (bound definition used : ℕ) → IsLater old new count before since first last general bound
    → definition < count → (c : IsCopied first last general definition used) → (s : ℕ → Simple) → ((i : ℕ) → last i ≡ replaced s (first i))
    → (r : ℕ → Simple) → ((i : ℕ) → renewed count general bound s first last i ≡ replaced r (last i)) → IsUse count first last general definition used
use_of old new count before since first last general bound definition used l d c s now r again = record {
  by = λ x. replaced (back bound c.by) (r x);
  instance = c.copied ∙ sym (replaced_alike (λ v. replaced (λ x. replaced (back bound c.by) (r x)) (s v)) c.by (first definition) (at_each (first definition) fixes low shared))
      ∙ sym (replaced_twice s (λ x. replaced (back bound c.by) (r x)) (first definition)) ∙ ap (replaced (λ x. replaced (back bound c.by) (r x))) (sym (now definition));
  fixed = λ i p. fixed_at (last i) (l.below i) (alike_from r variable (last i) (sym (again i) ∙ renewed_public count general bound s first last now i p ∙ sym (replaced_same (last i))));
}
  where
    fixes : Each (λ v. replaced r (s v) ≡ fresh general bound s v) (first definition)
    fixes = alike_from (λ v. replaced r (s v)) (fresh general bound s) (first definition)
        (sym (replaced_twice s r (first definition)) ∙ ap (replaced r) (sym (now definition)) ∙ sym (again definition) ∙ renewed_old count general bound s first last definition d)

    low : Each (λ v. Each (λ x. x < bound) (s v)) (first definition)
    low = each_replaced (λ x. x < bound) s (first definition) (subst (Each (λ x. x < bound)) (now definition) (l.below definition))

    shared : Each (λ v. general v ≡ false → c.by v ≡ s v) (first definition)
    shared = each_map (λ v. general v ≡ false → (first (c.node v) ≡ variable v) × (c.by v ≡ last (c.node v))) (λ v. general v ≡ false → c.by v ≡ s v) (first definition)
        (λ v f g. (f g).1 ∙ now (c.node v) ∙ ap (replaced s) (f g).0) c.shared

    at_each : (t : Simple) → Each (λ v. replaced r (s v) ≡ fresh general bound s v) t → Each (λ v. Each (λ x. x < bound) (s v)) t → Each (λ v. general v ≡ false → c.by v ≡ s v) t
        → Each (λ v. replaced (λ x. replaced (back bound c.by) (r x)) (s v) ≡ c.by v) t
    at_each t a b e = each_map (λ v. ((replaced r (s v) ≡ fresh general bound s v) × Each (λ x. x < bound) (s v)) × (general v ≡ false → c.by v ≡ s v))
        (λ v. replaced (λ x. replaced (back bound c.by) (r x)) (s v) ≡ c.by v) t (λ v p. one_variable general bound s r c.by v p.0.0 p.0.1 p.1)
        (each_both (λ v. (replaced r (s v) ≡ fresh general bound s v) × Each (λ x. x < bound) (s v)) (λ v. general v ≡ false → c.by v ≡ s v) t
        (each_both (λ v. replaced r (s v) ≡ fresh general bound s v) (λ v. Each (λ x. x < bound) (s v)) t a b) e)

    fixed_at : (t : Simple) → Each (λ v. v < bound) t → Each (λ v. r v ≡ variable v) t → Each (λ v. replaced (back bound c.by) (r v) ≡ variable v) t
    fixed_at t a b = each_map (λ v. (v < bound) × (r v ≡ variable v)) (λ v. replaced (back bound c.by) (r v) ≡ variable v) t
        (λ v p. ap (replaced (back bound c.by)) p.1 ∙ back_low bound c.by v p.0) (each_both (λ v. v < bound) (λ v. r v ≡ variable v) t a b)

pub uses : UsesAreInstances
uses old new count before since first last general bound definition used l d c =
    let a = l.first_principal.general last (last_solves old new count before since first last general bound l) in
    let b = l.last_principal.general (renewed count general bound a.0 first last) (renewed_solves old new count before since first last general bound l a.0 a.1) in
    use_of old new count before since first last general bound definition used l d c a.0 a.1 b.0 b.1
