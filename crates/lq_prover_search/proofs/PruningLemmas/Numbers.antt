-- What stands at a number once others are gone.
use Rattle.std.proofs.Common.{◌≡◌, ◌≢◌, inl, inr, ℕ, zero, suc, ◌+◌, ◌-◌, ◌<◌, ◌≤◌, List, [], ◌∷◌, ◌++◌, length, slice_get, refl, sym, ap, ◌∙◌, arith, zero-add, suc-add}
use Rattle.lq_prover_proof_tree.specs.Trees.Path.{numbered_at}
use Rattle.lq_prover_search.specs.Pruning.Span.{IsOutside, moved}
use Rattle.lq_prover_search.specs.declared.pruning.span.Span.{Span}

before_same : {X : Type 0} (f g h : List X) (k : ℕ) → k < length f → slice_get (f ++ (g ++ h)) k ≡ slice_get (f ++ h) k
before_same [] g h k l = absurd (omega (arith, l))
before_same (x ∷ f) g h zero l = refl
before_same (x ∷ f) g h (suc k) l = before_same f g h k (omega (arith, l))

skipped : {X : Type 0} (g h : List X) (k : ℕ) → slice_get (g ++ h) (length g + k) ≡ slice_get h k
skipped [] h k = ap (slice_get h) (zero-add k)
skipped (x ∷ g) h k = ap (slice_get (x ∷ (g ++ h))) (suc-add (length g) k) ∙ skipped g h k

behind_same : {X : Type 0} (f g h : List X) (k : ℕ) → slice_get (f ++ (g ++ h)) (length f + (length g + k)) ≡ slice_get (f ++ h) (length f + k)
behind_same [] g h k = ap (slice_get (g ++ h)) (zero-add (length g + k)) ∙ skipped g h k ∙ ap (slice_get h) (sym (zero-add k))
behind_same (x ∷ f) g h k =
    ap (slice_get (x ∷ (f ++ (g ++ h)))) (suc-add (length f) (length g + k)) ∙ behind_same f g h k ∙ ap (slice_get (x ∷ (f ++ h))) (sym (suc-add (length f) k))

moved_before : (s : Span) (n : ℕ) → n ≤ s.before → moved s n ≡ n
moved_before s n l = omega (arith, l)

pub moved_differ : (s : Span) (m n : ℕ) → IsOutside s m → IsOutside s n → m ≢ n → moved s m ≢ moved s n
moved_differ s m n (inl a) (inl b) d = λ e. d (omega (arith, a, b, e))
moved_differ s m n (inl a) (inr b) d = λ e. d (omega (arith, a, b, e))
moved_differ s m n (inr a) (inl b) d = λ e. d (omega (arith, a, b, e))
moved_differ s m n (inr a) (inr b) d = λ e. d (omega (arith, a, b, e))

pub number_moves : {X : Type 0} (f g h : List X) (s : Span) (n : ℕ) → s.before ≡ length f → s.count ≡ length g → IsOutside s n
    → numbered_at (f ++ (g ++ h)) n ≡ numbered_at (f ++ h) (moved s n)
number_moves f g h s zero b c o = ap (numbered_at (f ++ h)) (sym (moved_before s zero (omega arith)))
number_moves f g h s (suc k) b c (inl l) =
    before_same f g h k (omega (arith, l, b)) ∙ ap (numbered_at (f ++ h)) (sym (moved_before s (suc k) l))
number_moves f g h s (suc k) b c (inr l) =
    let j : ℕ = k - (s.before + s.count) in
    let e : k ≡ length f + (length g + j) = omega (arith, l, b, c) in
    let m : moved s (suc k) ≡ suc (length f + j) = omega (arith, l, b, c) in
    ap (slice_get (f ++ (g ++ h))) e ∙ behind_same f g h j ∙ ap (numbered_at (f ++ h)) (sym m)
