-- What classes stand for where the equations have a solution.
use Rattle.std.proofs.Common.{◌≡◌, inl, inr, ℕ, zero, suc, ◌+◌, ◌<◌, ◌≤◌, List, [], ◌∷◌, Option, Some, None, All, get_or, refl, sym, ap, ◌∙◌, arith, if◌then◌else◌, nat_lt}
use Rattle.std.proofs.lemmas.Bool.{cases_lt, lt-ltb, le-ltb}
use Rattle.lq_types_unify.specs.declared.arena.Equation.{Equation}
use Rattle.lq_types_unify.specs.Simple.{Simple, variable, made, each, replaced, size, sizes}
use Rattle.lq_types_unify.specs.Nodes.{Form}
use Rattle.lq_types_unify.specs.Solution.{IsSolution, IsPrincipal}
use Rattle.lq_types_unify.specs.Variables.{Each, EachIn}
use Rattle.lq_types_unify.specs.Classes.{up, root, IsKnown}
use Rattle.lq_types_unify.specs.Value.{parts_of, inner, built, value, IsRanked}
use Rattle.lq_types_unify.proofs.Roots.{root_fixed, root_self, root_low, at_root}
use Rattle.lq_types_unify.proofs.Principal.{principal}
use Rattle.lq_types_unify.proofs.Replacing.{replaced_alike, each_map}

-- ---- a rank of classes: the sizes of their types

size_of_part : (types : ℕ → Simple) (ps : List ℕ) → All (λ p. size (types p) ≤ sizes (each types ps)) ps
size_of_part types [] k d l = absurd (omega arith)
size_of_part types (p ∷ ps) zero d l = omega arith
size_of_part types (p ∷ ps) (suc k) d l = let h = size_of_part types ps k d (omega arith) in omega arith

-- the sum of the sizes of the first so many
sum_of : (ℕ → ℕ) → ℕ → ℕ
sum_of f zero = 0
sum_of f (suc n) = f n + sum_of f n

below_sum : (f : ℕ → ℕ) (n i : ℕ) → i < n → f i ≤ sum_of f n
unfolding sum_of
below_sum f zero i h = absurd (omega arith)
below_sum f (suc n) i h = elim (cases_lt i n) [
  | inl l ↦ let x = below_sum f n i l in omega arith
  | inr l ↦ let e : i ≡ n = omega arith in let x : f i ≡ f n = ap f e in omega arith
]

rank_of : (ℕ → ℕ) → ℕ → ℕ → ℕ
rank_of f n r = if nat_lt r n then f r else 0

rank_in : (f : ℕ → ℕ) (n r : ℕ) → r < n → rank_of f n r ≡ f r
unfolding rank_of
rank_in f n r h = ap (λ b. if b then f r else zero) (lt-ltb r n h)

rank_past : (f : ℕ → ℕ) (n r : ℕ) → n ≤ r → rank_of f n r ≡ 0
unfolding rank_of
rank_past f n r h = ap (λ b. if b then f r else zero) (le-ltb r n h)

rank_low : (f : ℕ → ℕ) (n r : ℕ) → rank_of f n r < suc (sum_of f n)
rank_low f n r = elim (cases_lt r n) [
  | inl h ↦ let e = rank_in f n r h in let x = below_sum f n r h in omega arith
  | inr h ↦ let e = rank_past f n r h in omega arith
]

part_smaller : (types : ℕ → Simple) (f : Form) (t : Simple) → t ≡ made f.head (each types f.parts) → All (λ p. size (types p) < size t) f.parts
part_smaller types f t e k d l = let h = size_of_part types f.parts k d l in let s : size t ≡ suc (sizes (each types f.parts)) = ap size e in omega arith

module _ (forms : ℕ → Option Form) (n : ℕ) (ps shapes : List ℕ) (found equations : List Equation) (known : IsKnown forms n ps shapes found equations)
    (inside : (i : ℕ) (f : Form) → forms i ≡ Some f → (i < n) × All (λ p. p < n) f.parts) where
  -- the type of a class is that of the node that it keeps
  pub kept_type : (types : ℕ → Simple) → IsSolution forms equations types → (r : ℕ) → up ps r ≡ r → types (up shapes r) ≡ types r
  kept_type types h r e = at_root types ps (known.follows types h) (up shapes r) ∙ ap types (known.state.own r e)

  pub to_root : (types : ℕ → Simple) → IsSolution forms equations types → (i : ℕ) → types i ≡ types (root ps i)
  to_root types h i = at_root types ps (known.follows types h) i

  pub level : (ℕ → Simple) → ℕ
  level types = suc (sum_of (λ i. size (types i)) n)

  falls_at : (types : ℕ → Simple) → IsSolution forms equations types → (r : ℕ) → up ps r ≡ r → (o : Option Form) → forms (up shapes r) ≡ o
      → All (λ p. rank_of (λ i. size (types i)) n (root ps p) < rank_of (λ i. size (types i)) n r) (parts_of o)
  falls_at types h r e None q k d l = absurd (omega arith)
  falls_at types h r e (Some f) q k d l =
      let p = get_or f.parts k d in
      let size_at : ℕ → ℕ = λ i. size (types i) in
      let x = inside (up shapes r) f q in
      let low : root ps p ≤ p = root_low ps known.state.down p in
      let p_in : p < n = x.1 k d l in
      let r_low : root ps (up shapes r) ≤ up shapes r = root_low ps known.state.down (up shapes r) in
      let r_in : r < n = let own = known.state.own r e in omega arith in
      let a = rank_in size_at n (root ps p) (omega arith) in
      let b = rank_in size_at n r r_in in
      let smaller = part_smaller types f (types r) (sym (kept_type types h r e) ∙ h.fits (up shapes r) f q) k d l in
      let same : size (types p) ≡ size (types (root ps p)) = ap size (to_root types h p) in
      omega arith

  pub ranked : (types : ℕ → Simple) → IsSolution forms equations types → IsRanked forms ps shapes (level types)
  unfolding level
  ranked types h = record {
    rank = rank_of (λ i. size (types i)) n;
    below = rank_low (λ i. size (types i)) n;
    falls = λ r e. falls_at types h r e (forms (up shapes r)) refl;
  }

  -- ---- what classes stand for

  module _ (types : ℕ → Simple) (solves : IsSolution forms equations types) where
    pub rank_is : IsRanked forms ps shapes (level types)
    rank_is = ranked types solves

    -- what each class stands for
    abbrev pub stands : ℕ → Simple
    stands = value (level types) forms ps shapes

    pub most_general : IsPrincipal forms equations (value (level types) forms ps shapes)
    most_general = principal forms n ps shapes found equations (level types) known rank_is

    root_is_fixed : (i : ℕ) → up ps (root ps i) ≡ root ps i
    root_is_fixed = root_fixed ps known.state.down

    open_at : (m i : ℕ) → forms (up shapes (root ps i)) ≡ None → value m forms ps shapes i ≡ variable (root ps i)
    open_at zero i e = refl
    open_at (suc m) i e = ap (built (value m forms ps shapes) (root ps i)) e

    pub open_stands : (i : ℕ) → forms (up shapes (root ps i)) ≡ None → value (level types) forms ps shapes i ≡ variable (root ps i)
    open_stands i e = open_at (level types) i e

    pub made_stands : (i : ℕ) (f : Form) → forms (up shapes (root ps i)) ≡ Some f
        → value (level types) forms ps shapes i ≡ made f.head (each (value (level types) forms ps shapes) f.parts)
    made_stands i f e =
        let v = value (level types) forms ps shapes in
        let s = most_general.solves in
        to_root v s i ∙ sym (kept_type v s (root ps i) (root_is_fixed i)) ∙ s.fits (up shapes (root ps i)) f e

    -- ---- the variables are roots of open classes

    abbrev pub IsOpenRoot : ℕ → Type 0
    IsOpenRoot v = (up ps v ≡ v) × (forms (up shapes v) ≡ None)

    each_of : (f : ℕ → Simple) (xs : List ℕ) → All (λ p. Each IsOpenRoot (f p)) xs → EachIn IsOpenRoot (each f xs)
    each_of f [] h = tt
    each_of f (x ∷ xs) h = (h 0 0 (omega arith), each_of f xs (λ k d l. h (suc k) d (omega arith)))

    built_open : (f : ℕ → Simple) (r : ℕ) (o : Option Form) → forms (up shapes r) ≡ o → up ps r ≡ r → All (λ p. Each IsOpenRoot (f p)) (parts_of o) → Each IsOpenRoot (built f r o)
    built_open f r None e h a = (h, e)
    built_open f r (Some x) e h a = each_of f x.parts a

    open_below : (m i : ℕ) → rank_is.rank (root ps i) < m → Each IsOpenRoot (value m forms ps shapes i)
    open_below zero i h = absurd (omega arith)
    open_below (suc m) i h = built_open (value m forms ps shapes) (root ps i) (forms (up shapes (root ps i))) refl (root_is_fixed i)
        (λ k d l. open_below m (get_or (inner forms shapes (root ps i)) k d)
        (let x : rank_is.rank (root ps (get_or (inner forms shapes (root ps i)) k d)) < rank_is.rank (root ps i) = rank_is.falls (root ps i) (root_is_fixed i) k d l in omega arith))

    pub each_open : (i : ℕ) → Each IsOpenRoot (value (level types) forms ps shapes i)
    each_open i = open_below (level types) i (rank_is.below (root ps i))

    root_by : (i v : ℕ) (o : Option Form) → forms (up shapes (root ps i)) ≡ o → value (level types) forms ps shapes i ≡ variable v → root ps i ≡ v
    root_by i v None e h = same_variable (sym (open_stands i e) ∙ h)
      where
        same_variable : variable (root ps i) ≡ variable v → root ps i ≡ v
        same_variable q = cc
    root_by i v (Some f) e h = absurd (not_made (sym (made_stands i f e) ∙ h))
      where
        not_made : made f.head (each (value (level types) forms ps shapes) f.parts) ≡ variable v → ⊥
        not_made q = cc

    pub root_from : (i v : ℕ) → value (level types) forms ps shapes i ≡ variable v → root ps i ≡ v
    root_from i v h = root_by i v (forms (up shapes (root ps i))) refl h

    one_same : (others by : ℕ → Simple) → ((j : ℕ) → others j ≡ replaced by (value (level types) forms ps shapes j)) → (x : ℕ) → IsOpenRoot x → by x ≡ others x
    one_same others by g x o =
        let r : root ps x ≡ x = root_self ps x o.0 in
        let e : value (level types) forms ps shapes x ≡ variable x = open_stands x (ap (λ (j : ℕ). forms (up shapes j)) r ∙ o.1) ∙ ap variable r in
        sym (g x ∙ ap (replaced by) e)

    pub as_stands : (others : ℕ → Simple) → IsSolution forms equations others → (i : ℕ) → others i ≡ replaced others (value (level types) forms ps shapes i)
    as_stands others h i =
        let v = value (level types) forms ps shapes in
        let b = most_general.general others h in
        b.1 i ∙ replaced_alike b.0 others (v i) (each_map IsOpenRoot (λ x. b.0 x ≡ others x) (v i) (one_same others b.0 b.1) (each_open i))

    pub root_stands : (v : ℕ) → IsOpenRoot v → value (level types) forms ps shapes v ≡ variable v
    root_stands v o =
        let r : root ps v ≡ v = root_self ps v o.0 in
        open_stands v (ap (λ (j : ℕ). forms (up shapes j)) r ∙ o.1) ∙ ap variable r
