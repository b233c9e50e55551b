-- How many edges lead to a root: never more than there are terms.
use Rattle.std.proofs.Common.{◌≡◌, inl, inr, ℕ, zero, suc, ◌<◌, ◌≤◌, true, false, eqb, ◌||◌, Bool, List, [], ◌∷◌, length, get_or, Option, Some, None, refl, ap, ◌∙◌, subst, arith, eqb-true}
use Rattle.std.specs.List.{IsDistinct, AllByRecursion, list_any}
use Rattle.std.proofs.lemmas.Bool.{cases_Bool}
use Rattle.std.proofs.lemmas.Map.Steps.{length-le_from_distinct_below}
use Rattle.lq_prover_congruence.specs.Classes.Forest.{edges_of, IsPath, AreRooted}
use Rattle.lq_prover_congruence.specs.declared.classes.forest.Edge.{Edge}
use Rattle.lq_prover_congruence.proofs.ClassesLemmas.Trees.{Edges, one-path}

-- so many edges, counted up to a bound
abbrev over : (ℕ → ℕ) → Option Edge → ℕ
over g None = 0
over g (Some e) = suc (g e.to)

abbrev pub height : ℕ → Edges → ℕ → ℕ
height zero f i = 0
height (suc n) f i = over (height n f) (f i)

abbrev nodes : (f : Edges) (k i r : ℕ) → IsPath f k i r → List ℕ
nodes f zero i r p = []
nodes f (suc k) i r p = i ∷ nodes f k p.0.to r p.2

long : (f : Edges) (k i r : ℕ) (p : IsPath f k i r) → length (nodes f k i r p) ≡ k
long f zero i r p = refl
long f (suc k) i r p = ap suc (long f k p.0.to r p.2)

apart : (f : Edges) (x m r : ℕ) → IsPath f m x r → (k i : ℕ) (p : IsPath f k i r) → k < m → AllByRecursion (λ y. eqb x y ≡ false) (nodes f k i r p)
apart f x m r q zero i p l = tt
apart f x m r q (suc k) i p l =
    let head : eqb x i ≡ false =
    elim (cases_Bool (eqb x i)) [
      | inl e ↦
          let P : ℕ → Type 0 = λ y. IsPath f m y r in
          let one = one-path f m (suc k) i r r (subst P (eqb-true x i e) q) p in
          absurd (let z = one.0 in omega arith)
      | inr e ↦ e
    ] in
    (head, apart f x m r q k p.0.to p.2 (omega arith))

distinct : (f : Edges) (k i r : ℕ) (p : IsPath f k i r) → IsDistinct eqb (nodes f k i r p)
unfolding IsDistinct
distinct f zero i r p = tt
distinct f (suc k) i r p = (apart f i (suc k) r p k p.0.to p.2 (omega arith), distinct f k p.0.to r p.2)

within : (f : Edges) (n : ℕ) → ((i : ℕ) (e : Edge) → f i ≡ Some e → i < n) → (k i r : ℕ) (p : IsPath f k i r) (q : ℕ) → list_any (eqb q) (nodes f k i r p) ≡ true → q < n
within f n h zero i r p q a = grind arith
within f n h (suc k) i r p q a =
    elim (cases_Bool (eqb q i)) [
      | inl e ↦ (let z = h i p.0 p.1 in omega (arith, eqb-true q i e))
      | inr e ↦ (let Q : Bool → Type 0 = λ b. (b || list_any (eqb q) (nodes f k p.0.to r p.2)) ≡ true in within f n h k p.0.to r p.2 q (subst Q e a))
    ]

edge-within : (ts : List (Option Edge)) (i : ℕ) (e : Edge) → get_or ts i None ≡ Some e → i < length ts
edge-within [] i e h = cc
edge-within (t ∷ ts) zero e h = omega arith
edge-within (t ∷ ts) (suc i) e h = let z = edge-within ts i e h in omega arith

height-is : (f : Edges) (n k i r : ℕ) → IsPath f k i r → k ≤ n → height n f i ≡ k
height-is f zero zero i r p l = refl
height-is f zero (suc k) i r p l = absurd (omega arith)
height-is f (suc n) zero i r p l = ap (over (height n f)) p.1
height-is f (suc n) (suc k) i r p l = ap (over (height n f)) p.1 ∙ ap suc (height-is f n k p.0.to r p.2 (omega arith))

pub path-height : (ts : List (Option Edge)) (k i r : ℕ) → IsPath (edges_of ts) k i r → height (length ts) (edges_of ts) i ≡ k
path-height ts k i r p =
    let f = edges_of ts in
    let fits : length (nodes f k i r p) ≤ length ts = length-le_from_distinct_below (nodes f k i r p) (length ts) (distinct f k i r p) (λ q a. within f (length ts) (edge-within ts) k i r p q a) in
    height-is f (length ts) k i r p (omega (arith, long f k i r p))

-- what an edge leads to is nearer to the root
pub lower : (ts : List (Option Edge)) → AreRooted (edges_of ts) → (i : ℕ) (e : Edge) → edges_of ts i ≡ Some e → height (length ts) (edges_of ts) e.to < height (length ts) (edges_of ts) i
lower ts h i e q =
    let r = h e.to in
    let up = path-height ts r.1.0 e.to r.0 r.1.1 in
    let here = path-height ts (suc r.1.0) i r.0 (e, q, r.1.1) in
    omega arith
