-- Parents and roots.
use Rattle.std.proofs.Common.{◌≡◌, ◌≢◌, ◌==◌, ℕ, zero, suc, ◌+◌, ◌<◌, ◌≤◌, ◌⊎◌, inl, inr, Bool, if◌then◌else◌, List, [], ◌∷◌, length, get_or, set, refl, sym, ap, subst, ◌∙◌, arith, get_or-set_same, get_or-set_other, length-set}
use Rattle.std.proofs.lemmas.List.{get_or_past, get_or_default}
use Rattle.std.proofs.lemmas.Bool.{cases_eq, eq-eqb, ne_eqb}
use Rattle.lq_types_unify.specs.Classes.{up, climbed, root, IsDown, IsSame, fixed_from, fixed}

pub climbed_last : (n : ℕ) (ps : List ℕ) (i : ℕ) → climbed (suc n) ps i ≡ up ps (climbed n ps i)
climbed_last zero ps i = refl
climbed_last (suc n) ps i = climbed_last n ps (up ps i)

pub along : {X : Type 0} (g : ℕ → X) (ps : List ℕ) → ((i : ℕ) → g i ≡ g (up ps i)) → (n i : ℕ) → g i ≡ g (climbed n ps i)
along g ps h zero i = refl
along g ps h (suc n) i = h i ∙ along g ps h n (up ps i)

stuck : (ps : List ℕ) (i : ℕ) → up ps i ≡ i → (n : ℕ) → climbed n ps i ≡ i
stuck ps i h zero = refl
stuck ps i h (suc n) = ap (climbed n ps) h ∙ stuck ps i h n

climbed_low : (ps : List ℕ) → IsDown ps → (n i : ℕ) → climbed n ps i ≤ i
climbed_low ps d zero i = omega arith
climbed_low ps d (suc n) i = omega (arith, climbed_low ps d n (up ps i), d i)

climbed_fixed : (ps : List ℕ) → IsDown ps → (n i : ℕ) → i ≤ n → up ps (climbed n ps i) ≡ climbed n ps i
climbed_fixed ps d zero i h = let l : up ps i ≤ i = d i in omega arith
climbed_fixed ps d (suc n) i h = elim (cases_eq (up ps i) i) [
  | inl e ↦ ap (λ j. up ps (climbed n ps j)) e ∙ ap (up ps) (stuck ps i e n) ∙ e ∙ sym (stuck ps i e n) ∙ sym (ap (climbed n ps) e)
  | inr e ↦ climbed_fixed ps d n (up ps i) (let l : up ps i ≤ i = d i in omega arith)
]

pub up_past : (ps : List ℕ) (i : ℕ) → length ps ≤ i → up ps i ≡ i
up_past ps i h = get_or_past ps i i h

le_or_past : (i n : ℕ) → (i ≤ n) ⊎ (n ≤ i)
le_or_past i n = grind arith

pub root_fixed : (ps : List ℕ) → IsDown ps → (i : ℕ) → up ps (root ps i) ≡ root ps i
root_fixed ps d i = elim (le_or_past i (length ps)) [
  | inl h ↦ climbed_fixed ps d (length ps) i h
  | inr h ↦ let e = up_past ps i h in ap (up ps) (stuck ps i e (length ps)) ∙ e ∙ sym (stuck ps i e (length ps))
]

pub root_up : (ps : List ℕ) → IsDown ps → (i : ℕ) → root ps i ≡ root ps (up ps i)
root_up ps d i = sym (climbed_last (length ps) ps i ∙ root_fixed ps d i)

pub root_self : (ps : List ℕ) (i : ℕ) → up ps i ≡ i → root ps i ≡ i
root_self ps i h = stuck ps i h (length ps)

pub root_of_root : (ps : List ℕ) → IsDown ps → (i : ℕ) → root ps (root ps i) ≡ root ps i
root_of_root ps d i = root_self ps (root ps i) (root_fixed ps d i)

pub root_low : (ps : List ℕ) → IsDown ps → (i : ℕ) → root ps i ≤ i
root_low ps d i = climbed_low ps d (length ps) i

pub at_root : {X : Type 0} (g : ℕ → X) (ps : List ℕ) → ((i : ℕ) → g i ≡ g (up ps i)) → (i : ℕ) → g i ≡ g (root ps i)
at_root g ps h i = along g ps h (length ps) i

-- what is the same at a node and its parent, and is a root at a root, is the root
pub only : (ps : List ℕ) → IsDown ps → (g : ℕ → ℕ) → ((i : ℕ) → g i ≡ g (up ps i)) → ((i : ℕ) → up ps i ≡ i → g i ≡ i) → (i : ℕ) → g i ≡ root ps i
only ps d g h f i = at_root g ps h i ∙ f (root ps i) (root_fixed ps d i)

pub up_set_same : (ps : List ℕ) (k v : ℕ) → k < length ps → up (set ps k v) k ≡ v
up_set_same ps k v h = get_or-set_same ps k v k h

pub up_set_other : (ps : List ℕ) (k v i : ℕ) → i ≢ k → up (set ps k v) i ≡ up ps i
up_set_other ps k v i h = get_or-set_other ps k i v i h

-- a fact of each node's parent, after a node got another
pub ups_set : (P : ℕ → ℕ → Type 0) (ps : List ℕ) (k v : ℕ) → k < length ps → P k v → ((i : ℕ) → i ≢ k → P i (up ps i)) → (i : ℕ) → P i (up (set ps k v) i)
ups_set P ps k v h here there i = elim (cases_eq i k) [
  | inl e ↦ subst (λ j. P j (up (set ps k v) j)) (sym e) (subst (P k) (sym (up_set_same ps k v h)) here)
  | inr e ↦ subst (P i) (sym (up_set_other ps k v i e)) (there i e)
]

-- ---- a way that gets shorter

pub halved_down : (ps : List ℕ) → IsDown ps → (k : ℕ) → k < length ps → IsDown (set ps k (up ps (up ps k)))
halved_down ps d k h = ups_set (λ i j. j ≤ i) ps k (up ps (up ps k)) h (omega (arith, d k, d (up ps k))) (λ i e. d i)

pub halved_roots : (ps : List ℕ) → IsDown ps → (k : ℕ) → k < length ps → (i : ℕ) → root (set ps k (up ps (up ps k))) i ≡ root ps i
halved_roots ps d k h i = sym (only (set ps k (up ps (up ps k))) (halved_down ps d k h) (root ps)
    (ups_set (λ i j. root ps i ≡ root ps j) ps k (up ps (up ps k)) h (root_up ps d k ∙ root_up ps d (up ps k)) (λ i e. root_up ps d i))
    (ups_set (λ i j. j ≡ i → root ps i ≡ i) ps k (up ps (up ps k)) h
    (λ e. root_self ps k (let l : up ps k ≤ k = d k in let m : up ps (up ps k) ≤ up ps k = d (up ps k) in omega arith)) (λ i e f. root_self ps i f)) i)

pub halved_self : (ps : List ℕ) → IsDown ps → (k : ℕ) → k < length ps → (i : ℕ) → (up (set ps k (up ps (up ps k))) i ≡ i → up ps i ≡ i) × (up ps i ≡ i → up (set ps k (up ps (up ps k))) i ≡ i)
halved_self ps d k h = ups_set (λ i j. (j ≡ i → up ps i ≡ i) × (up ps i ≡ i → j ≡ i)) ps k (up ps (up ps k)) h
    ((λ e. let l : up ps k ≤ k = d k in let m : up ps (up ps k) ≤ up ps k = d (up ps k) in omega arith), (λ e. ap (up ps) e ∙ e))
    (λ i e. ((λ f. f), (λ f. f)))

-- ---- how many roots there are

fixed_set : (k m : ℕ) (ps : List ℕ) (j v d : ℕ) → m ≡ k + j → j < length ps
    → fixed_from k (set ps j v) + (if get_or ps j d == m then 1 else 0) ≡ fixed_from k ps + (if v == m then 1 else 0)
fixed_set k m [] j v d e h = absurd (omega arith)
fixed_set k m (p ∷ ps) zero v d e h = let f : m ≡ k = omega arith in rw f (omega arith)
fixed_set k m (p ∷ ps) (suc j) v d e h = let i = fixed_set (suc k) m ps j v d (omega arith) (omega arith) in omega arith

test_true : (a b : ℕ) → a ≡ b → (if a == b then 1 else 0) ≡ suc zero
test_true a b e = ap (λ (t : Bool). if t then suc zero else zero) (eq-eqb a b e)

test_false : (a b : ℕ) → a ≢ b → (if a == b then 1 else 0) ≡ zero
test_false a b e = ap (λ (t : Bool). if t then suc zero else zero) (ne_eqb a b e)

pub fixed_less : (ps : List ℕ) (k v : ℕ) → k < length ps → up ps k ≡ k → v ≢ k → fixed (set ps k v) + 1 ≡ fixed ps
fixed_less ps k v h e f = omega (arith, fixed_set 0 k ps k v k (omega arith) h, test_true (up ps k) k e, test_false v k f)

pub fixed_same : (ps : List ℕ) (k v : ℕ) → k < length ps → up ps k ≢ k → v ≢ k → fixed (set ps k v) ≡ fixed ps
fixed_same ps k v h e f = omega (arith, fixed_set 0 k ps k v k (omega arith) h, test_false (up ps k) k e, test_false v k f)

fixed_halved : (ps : List ℕ) → IsDown ps → (k : ℕ) → k < length ps → fixed (set ps k (up ps (up ps k))) ≡ fixed ps
fixed_halved ps d k h = elim (cases_eq (up ps k) k) [
  | inl e ↦ let f : up ps (up ps k) ≡ k = ap (up ps) e ∙ e in
      omega (arith, fixed_set 0 k ps k (up ps (up ps k)) k (omega arith) h, test_true (up ps k) k e, test_true (up ps (up ps k)) k f)
  | inr e ↦ fixed_same ps k (up ps (up ps k)) h e (λ f. e (let l : up ps k ≤ k = d k in let m : up ps (up ps k) ≤ up ps k = d (up ps k) in omega arith))
]

pub halved : (ps : List ℕ) → IsDown ps → (k : ℕ) → k < length ps → IsSame ps (set ps k (up ps (up ps k)))
halved ps d k h = record {
  long = length-set ps k (up ps (up ps k));
  down = halved_down ps d k h;
  roots = halved_roots ps d k h;
  selves = halved_self ps d k h;
  count = fixed_halved ps d k h;
}

-- ---- what is read

pub read_up : (ps : List ℕ) (i : ℕ) → i < length ps → get_or ps i 0 ≡ up ps i
read_up ps i h = get_or_default ps i 0 i h

pub read_over : (ps : List ℕ) → IsDown ps → (i : ℕ) → i < length ps → get_or ps (get_or ps i 0) 0 ≡ up ps (up ps i)
read_over ps d i h = ap (λ j. get_or ps j 0) (read_up ps i h) ∙ read_up ps (up ps i) (let l : up ps i ≤ i = d i in omega arith)
