-- What is put into the lists of a table fits.
use Rattle.std.proofs.Common.{◌≡◌, ℕ, ◌+◌, ◌-◌, ◌*◌, ◌≤◌, ◌<◌, refl, sym, ap, subst, ◌∙◌, arith, List, [], ◌∷◌, length, get_or, false}
use Rattle.std.proofs.Math.IntN.{ℤ, pos, negsuc, ◌-ℤ◌}
use Rattle.std.proofs.Math.ListN.{set}
use Rattle.std.specs.Int.Signed.{◌<ℤ◌}
use Rattle.std.proofs.lemmas.Int.{ints}
use Rattle.std.proofs.lemmas.List.Sums.{sum_by-set, sum_by-cons}
use borrow.Author.Differences.{down}
use Rattle.lq_prover_differences.specs.Climb.{parts}
use Rattle.lq_prover_differences.specs.declared.vertex.Vertex.{Vertex}
use Rattle.lq_prover_differences.specs.Room.{may_fall, unfallen}

one_less : (o x v : ℤ) → o <ℤ x → x ≡ v → (1 - down (o -ℤ v)) + 1 ≡ 1 - down (x -ℤ v)
one_less o x v h e = omega (arith, ints, parts (o -ℤ v), parts (x -ℤ v))

most_one : (x v : ℤ) → 1 - down (x -ℤ v) ≤ 1
most_one x v = omega arith

pub room_most : (vertices : List Vertex) → unfallen vertices ≤ length vertices
room_most [] = omega arith
room_most (v ∷ vertices) = omega (arith, room_most vertices, sum_by-cons may_fall v vertices, most_one v.next v.kept.value)

-- ---- notes of so many arcs more
times_next : (a k m : ℕ) → k < a → (a - k) * m ≡ (a - (k + 1)) * m + m
times_next a k m l =
    let e : a - k ≡ (a - (k + 1)) + 1 = omega arith in
    ap (λ (x : ℕ). x * m) e ∙ spread (a - (k + 1)) m
  where
    spread : (x m : ℕ) → (x + 1) * m ≡ x * m + m
    spread x m = omega arith

pub notes_now : (a k m t c : ℕ) → k < a → t + (a - k) * m ≤ c → t + m ≤ c
notes_now a k m t c l h = let e = times_next a k m l in omega arith

pub notes_one : (a k f g t u c d : ℕ) → k < a → t + (a - k) * (f + 2) ≤ c → u ≤ t + (f + 2) → g ≡ f → d ≡ c → u + (a - (k + 1)) * (g + 2) ≤ d
notes_one a k f g t u c d l h n e q =
    subst (λ (x : ℕ). u + (a - (k + 1)) * (x + 2) ≤ d) (sym e) (subst (λ (x : ℕ). u + (a - (k + 1)) * (f + 2) ≤ x) (sym q)
    (let s = times_next a k (f + 2) l in omega arith))

pub notes_two : (a k m t u c d : ℕ) → k + 1 < a → 2 ≤ m → t + (a - k) * m ≤ c → u ≤ t + 2 → d ≡ c → u + (a - (k + 2)) * m ≤ d
notes_two a k m t u c d l two h n q =
    subst (λ (x : ℕ). u + (a - (k + 2)) * m ≤ x) (sym q)
    (let r = times_next a k m (omega arith) in let s = times_next a (k + 1) m l in
    let e : (a - ((k + 1) + 1)) * m ≡ (a - (k + 2)) * m = ap (λ (x : ℕ). (a - x) * m) (more k) in
    omega arith)
  where
    more : (k : ℕ) → (k + 1) + 1 ≡ k + 2
    more k = omega arith
