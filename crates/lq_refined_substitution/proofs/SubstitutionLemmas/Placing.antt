-- Unknowns given alone and copies among them, by their numbers.
use Rattle.std.proofs.Common.{◌≡◌, ℕ, zero, suc, ◌+◌, ◌-◌, ◌<◌, ◌≤◌, List, [], ◌∷◌, ◌++◌, Bool, true, false, ltb, if◌then◌else◌, length, map, take, drop, slice_get, slice_index_or, slice_range, Some, None, option_map, refl, sym, ap, ap₂, subst, ◌∙◌, append_assoc, arith}
use Rattle.std.specs.declared.alloc.Global.{Global}
use Rattle.std.specs.declared.vec.Vec.{Vec}
use Rattle.std.proofs.lemmas.Bool.{ltb-false, ltb-true}
use Rattle.std.proofs.lemmas.Option.{slice_get-get_or}
use Rattle.std.proofs.lemmas.List.{append-nil, length-append, length-map, map-append, get_or_append_left}
use Rattle.lq_refined_substitution.specs.Substitution.Places.{copied, inner_place, mixed, pattern_at, place_from, ArePlaced, IsLast}
use Rattle.lq_refined_substitution.specs.declared.substitution.places.Copies.{Copies}
use Rattle.lq_refined_substitution.specs.declared.substitution.places.Inner.{Inner}
use Rattle.lq_refined_substitution.specs.declared.substitution.places.Place.TheVariants.{Alone}

-- ---- lists

module _ {X : Type 0} where
  pub length-drop : (k : ℕ) (xs : List X) → length (drop k xs) ≡ length xs - k
  length-drop zero xs = omega arith
  length-drop (suc k) [] = omega arith
  length-drop (suc k) (x ∷ xs) = let h = length-drop k xs in omega arith

  length-take : (k : ℕ) (xs : List X) → k ≤ length xs → length (take k xs) ≡ k
  length-take zero xs h = refl
  length-take (suc k) [] h = absurd (omega arith)
  length-take (suc k) (x ∷ xs) h = ap suc (length-take k xs (omega arith))

  length-range : (a b : ℕ) (xs : List X) → a ≤ b → b ≤ length xs → length (slice_range xs a b) ≡ b - a
  length-range a b xs l h = let n = length-drop a xs in length-take (b - a) (drop a xs) (omega arith)

  take-whole : (k : ℕ) (xs : List X) → length xs ≤ k → take k xs ≡ xs
  take-whole zero [] h = refl
  take-whole zero (x ∷ xs) h = absurd (omega arith)
  take-whole (suc k) [] h = refl
  take-whole (suc k) (x ∷ xs) h = ap (λ ys. x ∷ ys) (take-whole k xs (omega arith))

  take-front : (k : ℕ) (xs ys : List X) → k ≤ length xs → take k (xs ++ ys) ≡ take k xs
  take-front zero xs ys h = refl
  take-front (suc k) [] ys h = absurd (omega arith)
  take-front (suc k) (x ∷ xs) ys h = ap (λ zs. x ∷ zs) (take-front k xs ys (omega arith))

  drop-front : (k : ℕ) (xs ys : List X) → k ≤ length xs → drop k (xs ++ ys) ≡ drop k xs ++ ys
  drop-front zero xs ys h = refl
  drop-front (suc k) [] ys h = absurd (omega arith)
  drop-front (suc k) (x ∷ xs) ys h = drop-front k xs ys (omega arith)

  drop-whole : (k : ℕ) (xs : List X) → length xs ≤ k → drop k xs ≡ []
  drop-whole zero [] h = refl
  drop-whole zero (x ∷ xs) h = absurd (omega arith)
  drop-whole (suc k) [] h = refl
  drop-whole (suc k) (x ∷ xs) h = drop-whole k xs (omega arith)

  range-front : (a b : ℕ) (xs ys : List X) → a ≤ b → b ≤ length xs → slice_range (xs ++ ys) a b ≡ slice_range xs a b
  range-front a b xs ys l h =
      let n = length-drop a xs in
      ap (take (b - a)) (drop-front a xs ys (omega arith)) ∙ take-front (b - a) (drop a xs) ys (omega arith)

  get-take : (k i : ℕ) (xs : List X) → i < k → slice_get (take k xs) i ≡ slice_get xs i
  get-take zero i xs h = absurd (omega arith)
  get-take (suc k) i [] h = refl
  get-take (suc k) zero (x ∷ xs) h = refl
  get-take (suc k) (suc i) (x ∷ xs) h = get-take k i xs (omega arith)

  get-drop : (k i : ℕ) (xs : List X) → slice_get (drop k xs) i ≡ slice_get xs (k + i)
  get-drop zero i xs = ap (slice_get xs) (omega arith)
  get-drop (suc k) i [] = refl
  get-drop (suc k) i (x ∷ xs) = let e : suc k + i ≡ suc (k + i) = omega arith in get-drop k i xs ∙ ap (slice_get (x ∷ xs)) (sym e)

  get-left : (xs ys : List X) (i : ℕ) → i < length xs → slice_get (xs ++ ys) i ≡ slice_get xs i
  get-left [] ys i h = absurd (omega arith)
  get-left (x ∷ xs) ys zero h = refl
  get-left (x ∷ xs) ys (suc i) h = get-left xs ys i (omega arith)

  get-right : (xs ys : List X) (i : ℕ) → length xs ≤ i → slice_get (xs ++ ys) i ≡ slice_get ys (i - length xs)
  get-right [] ys i h = ap (slice_get ys) (omega arith)
  get-right (x ∷ xs) ys zero h = absurd (omega arith)
  get-right (x ∷ xs) ys (suc i) h =
      let e : suc i - suc (length xs) ≡ i - length xs = omega arith in get-right xs ys i (omega arith) ∙ ap (slice_get ys) (sym e)

pub get-map : {X Y : Type 0} (f : X → Y) (xs : List X) (i : ℕ) → slice_get (map f xs) i ≡ option_map f (slice_get xs i)
get-map f [] i = refl
get-map f (x ∷ xs) zero = refl
get-map f (x ∷ xs) (suc i) = get-map f xs i

-- ---- one more

pub length-copied : (ps : List (List Inner)) (c : Copies) → length (copied ps c) ≡ length (pattern_at ps c.pattern)
length-copied ps c = length-map (pattern_at ps c.pattern) (inner_place c.scope)

module _ (ps : List (List Inner)) (alone : List ℕ) where
  abbrev m : ℕ
  m = length alone

  placed-below : (k n : ℕ) (cs : List Copies) → ArePlaced ps m k n cs → k ≤ m
  placed-below k n [] h = h
  placed-below k n (c ∷ cs) h =
      let l = placed-below c.before (c.first + length (pattern_at ps c.pattern)) cs h.3 in let e = h.0 in omega (arith, l, e)

  length-part : (k n : ℕ) (c : Copies) (cs : List Copies) → ArePlaced ps m k n (c ∷ cs)
      → length (map Alone (slice_range alone k c.before)) ≡ c.before - k
  length-part k n c cs h =
      length-map (slice_range alone k c.before) Alone
      ∙ length-range k c.before alone h.0 (placed-below c.before (c.first + length (pattern_at ps c.pattern)) cs h.3)

  length-whole : (k n : ℕ) (c : Copies) (cs : List Copies) → ArePlaced ps m k n (c ∷ cs)
      → length (mixed ps alone k (c ∷ cs)) ≡ c.before - k + (length (pattern_at ps c.pattern) + length (mixed ps alone c.before cs))
  length-whole k n c cs h =
      length-append (map Alone (slice_range alone k c.before)) (copied ps c ++ mixed ps alone c.before cs)
      ∙ ap₂ (λ a b. a + b) (length-part k n c cs h)
      (length-append (copied ps c) (mixed ps alone c.before cs) ∙ ap (λ a. a + length (mixed ps alone c.before cs)) (length-copied ps c))

  length-rest : (k : ℕ) → length (map Alone (drop k alone)) ≡ m - k
  length-rest k = length-map (drop k alone) Alone ∙ length-drop k alone

  -- further copies behind all
  pub placed-copies : (k n : ℕ) (cs : List Copies) (c : Copies) → ArePlaced ps m k n cs → c.before ≡ m
      → c.first ≡ n + length (mixed ps alone k cs) → c.pattern < length ps → ArePlaced ps m k n (cs ++ c ∷ [])
  placed-copies k n [] c h b f p =
      let l = length-rest k in
      let low : k ≤ c.before = omega (arith, h, b) in
      let e : c.first + k ≡ n + c.before = omega (arith, f, l, b, h) in
      let all : c.before ≤ m = omega (arith, b) in (low, e, p, all)
  placed-copies k n (d ∷ cs) c h b f p =
      let l = length-whole k n d cs h in
      let e = h.1 in
      let s = h.0 in
      let g : c.first ≡ d.first + length (pattern_at ps d.pattern) + length (mixed ps alone d.before cs) = omega (arith, f, l, e, s) in
      (h.0, h.1, h.2, placed-copies d.before (d.first + length (pattern_at ps d.pattern)) cs c h.3 b g p)

  pub mixed-copies : (k n : ℕ) (cs : List Copies) (c : Copies) → ArePlaced ps m k n cs → c.before ≡ m
      → mixed ps alone k (cs ++ c ∷ []) ≡ mixed ps alone k cs ++ copied ps c
  mixed-copies k n [] c h b =
      let l = length-drop k alone in
      ap₂ (λ a z. map Alone a ++ (copied ps c ++ map Alone z)) (take-whole (c.before - k) (drop k alone) (omega (arith, l, b)))
      (drop-whole c.before alone (omega (arith, b)))
      ∙ ap (λ z. map Alone (drop k alone) ++ z) (append-nil (copied ps c))
  mixed-copies k n (d ∷ cs) c h b =
      ap (λ z. map Alone (slice_range alone k d.before) ++ (copied ps d ++ z))
      (mixed-copies d.before (d.first + length (pattern_at ps d.pattern)) cs c h.3 b)
      ∙ ap (λ z. map Alone (slice_range alone k d.before) ++ z) (sym (append_assoc (copied ps d) (mixed ps alone d.before cs) (copied ps c)))
      ∙ sym (append_assoc (map Alone (slice_range alone k d.before)) (copied ps d ++ mixed ps alone d.before cs) (copied ps c))

  -- a further unknown behind all
  pub placed-alone : (s : ℕ) (k n : ℕ) (cs : List Copies) → ArePlaced ps m k n cs → ArePlaced ps (length (alone ++ s ∷ [])) k n cs
  placed-alone s k n [] h = let l = length-append alone (s ∷ []) in omega (arith, l, h)
  placed-alone s k n (c ∷ cs) h = (h.0, h.1, h.2, placed-alone s c.before (c.first + length (pattern_at ps c.pattern)) cs h.3)

  pub mixed-alone : (s : ℕ) (k n : ℕ) (cs : List Copies) → ArePlaced ps m k n cs
      → mixed ps (alone ++ s ∷ []) k cs ≡ mixed ps alone k cs ++ Alone s ∷ []
  mixed-alone s k n [] h = ap (map Alone) (drop-front k alone (s ∷ []) h) ∙ map-append Alone (drop k alone) (s ∷ [])
  mixed-alone s k n (c ∷ cs) h =
      let end = c.first + length (pattern_at ps c.pattern) in
      ap₂ (λ a z. map Alone a ++ (copied ps c ++ z)) (range-front k c.before alone (s ∷ []) h.0 (placed-below c.before end cs h.3))
      (mixed-alone s c.before end cs h.3)
      ∙ ap (λ z. map Alone (slice_range alone k c.before) ++ z) (sym (append_assoc (copied ps c) (mixed ps alone c.before cs) (Alone s ∷ [])))
      ∙ sym (append_assoc (map Alone (slice_range alone k c.before)) (copied ps c ++ mixed ps alone c.before cs) (Alone s ∷ []))

  -- a further pattern changes no copies
  same-pattern : (p : List Inner) (i : ℕ) → i < length ps → pattern_at (ps ++ p ∷ []) i ≡ pattern_at ps i
  same-pattern p i h = get_or_append_left ps (p ∷ []) [] i h

  pub placed-pattern : (p : List Inner) (k n : ℕ) (cs : List Copies) → ArePlaced ps m k n cs → ArePlaced (ps ++ p ∷ []) m k n cs
  placed-pattern p k n [] h = h
  placed-pattern p k n (c ∷ cs) h =
      let l = length-append ps (p ∷ []) in
      let low = h.2 in
      let there : c.pattern < length (ps ++ p ∷ []) = omega (arith, l, low) in (
        h.0,
        h.1,
        there,
        subst (λ (is : List Inner). ArePlaced (ps ++ p ∷ []) m c.before (c.first + length is) cs) (sym (same-pattern p c.pattern h.2))
            (placed-pattern p c.before (c.first + length (pattern_at ps c.pattern)) cs h.3),
      )

  pub mixed-pattern : (p : List Inner) (k n : ℕ) (cs : List Copies) → ArePlaced ps m k n cs → mixed (ps ++ p ∷ []) alone k cs ≡ mixed ps alone k cs
  mixed-pattern p k n [] h = refl
  mixed-pattern p k n (c ∷ cs) h =
      ap₂ (λ (is : List Inner) z. map Alone (slice_range alone k c.before) ++ (map (inner_place c.scope) is ++ z)) (same-pattern p c.pattern h.2)
      (mixed-pattern p c.before (c.first + length (pattern_at ps c.pattern)) cs h.3)

  -- ---- one by its number

  placed-later : (k n : ℕ) (cs : List Copies) (j : ℕ) (c : Copies) → ArePlaced ps m k n cs → slice_get cs j ≡ Some c → n ≤ c.first
  placed-later k n [] j c h at = absurd cc
  placed-later k n (d ∷ cs) zero c h at =
      let same : d ≡ c = cc in let e = h.1 in let l = h.0 in subst (λ (x : Copies). n ≤ x.first) same (omega (arith, e, l))
  placed-later k n (d ∷ cs) (suc j) c h at =
      let r = placed-later d.before (d.first + length (pattern_at ps d.pattern)) cs j c h.3 at in
      let e = h.1 in let l = h.0 in omega (arith, r, e, l)

  -- no more are given alone before copies than unknowns in all
  pub placed-low : (k n : ℕ) (cs : List Copies) (j : ℕ) (c : Copies) → ArePlaced ps m k n cs → k ≤ n → slice_get cs j ≡ Some c → c.before ≤ c.first
  placed-low k n [] j c h low at = absurd cc
  placed-low k n (d ∷ cs) zero c h low at =
      let same : d ≡ c = cc in let e = h.1 in let l = h.0 in subst (λ (x : Copies). x.before ≤ x.first) same (omega (arith, e, l, low))
  placed-low k n (d ∷ cs) (suc j) c h low at =
      let e = h.1 in let l = h.0 in
      let next : d.before ≤ d.first + length (pattern_at ps d.pattern) = omega (arith, e, l, low) in
      placed-low d.before (d.first + length (pattern_at ps d.pattern)) cs j c h.3 next at

  get-part : (k b i : ℕ) → k + i < b → slice_get (map Alone (slice_range alone k b)) i ≡ option_map Alone (slice_get alone (k + i))
  get-part k b i h =
      get-map Alone (slice_range alone k b) i
      ∙ ap (option_map Alone) (get-take (b - k) i (drop k alone) (omega (arith, h)) ∙ get-drop k i alone)

  -- before all copies
  pub get-before : (k n : ℕ) (cs : List Copies) (u : ℕ) → ArePlaced ps m k n cs → n ≤ u → IsLast cs u None
      → slice_get (mixed ps alone k cs) (u - n) ≡ option_map Alone (slice_get alone (k + (u - n)))
  get-before k n [] u h low last = get-map Alone (drop k alone) (u - n) ∙ ap (option_map Alone) (get-drop k (u - n) alone)
  get-before k n (c ∷ cs) u h low last =
      let less : u < c.first = last c refl in
      let e = h.1 in
      let l = length-part k n c cs h in
      get-left (map Alone (slice_range alone k c.before)) (copied ps c ++ mixed ps alone c.before cs) (u - n) (omega (arith, less, e, l, low))
      ∙ get-part k c.before (u - n) (omega (arith, less, e, low))

  -- behind the first of these copies
  get-behind : (k n : ℕ) (c : Copies) (cs : List Copies) (u : ℕ) → ArePlaced ps m k n (c ∷ cs) → c.first ≤ u
      → slice_get (mixed ps alone k (c ∷ cs)) (u - n) ≡ slice_get (copied ps c ++ mixed ps alone c.before cs) (u - c.first)
  get-behind k n c cs u h low =
      let e = h.1 in
      let s = h.0 in
      let l = length-part k n c cs h in
      let i : u - n - length (map Alone (slice_range alone k c.before)) ≡ u - c.first = omega (arith, e, s, l, low) in
      get-right (map Alone (slice_range alone k c.before)) (copied ps c ++ mixed ps alone c.before cs) (u - n) (omega (arith, e, s, l, low))
      ∙ ap (slice_get (copied ps c ++ mixed ps alone c.before cs)) i

  -- behind their last one
  get-past : (k n : ℕ) (c : Copies) (cs : List Copies) (u : ℕ) → ArePlaced ps m k n (c ∷ cs) → c.first + length (pattern_at ps c.pattern) ≤ u
      → slice_get (mixed ps alone k (c ∷ cs)) (u - n)
      ≡ slice_get (mixed ps alone c.before cs) (u - (c.first + length (pattern_at ps c.pattern)))
  get-past k n c cs u h low =
      let l = length-copied ps c in
      let i : u - c.first - length (copied ps c) ≡ u - (c.first + length (pattern_at ps c.pattern)) = omega (arith, l, low) in
      get-behind k n c cs u h (omega (arith, low))
      ∙ (get-right (copied ps c) (mixed ps alone c.before cs) (u - c.first) (omega (arith, l, low))
      ∙ ap (slice_get (mixed ps alone c.before cs)) i)

  get-at : (k n : ℕ) (c : Copies) (cs : List Copies) (u : ℕ) → ArePlaced ps m k n (c ∷ cs) → c.first ≤ u → IsLast cs u None
      → slice_get (mixed ps alone k (c ∷ cs)) (u - n) ≡ place_from ps alone c (u - c.first)
  get-at k n c cs u h low last = by (ltb (u - c.first) (length (pattern_at ps c.pattern))) refl
    where
      by : (b : Bool) → ltb (u - c.first) (length (pattern_at ps c.pattern)) ≡ b
          → slice_get (mixed ps alone k (c ∷ cs)) (u - n)
          ≡ (if b then slice_get (copied ps c) (u - c.first)
          else option_map Alone (slice_get alone (c.before + (u - c.first - length (pattern_at ps c.pattern)))))
      by true is =
          let l = length-copied ps c in
          get-behind k n c cs u h low
          ∙ get-left (copied ps c) (mixed ps alone c.before cs) (u - c.first) (omega (arith, l, ltb-true (u - c.first) (length (pattern_at ps c.pattern)) is))
      by false is =
          let end = c.first + length (pattern_at ps c.pattern) in
          let more = ltb-false (u - c.first) (length (pattern_at ps c.pattern)) is in
          let past : end ≤ u = omega (arith, more, low) in
          let i : u - end ≡ u - c.first - length (pattern_at ps c.pattern) = omega arith in
          get-past k n c cs u h past
          ∙ (get-before c.before end cs u h.3 past last ∙ ap (λ j. option_map Alone (slice_get alone (c.before + j))) i)

  pub get-from : (k n : ℕ) (cs : List Copies) (u j : ℕ) (c : Copies) → ArePlaced ps m k n cs → slice_get cs j ≡ Some c → c.first ≤ u
      → ((d : Copies) → slice_get cs (suc j) ≡ Some d → u < d.first) → slice_get (mixed ps alone k cs) (u - n) ≡ place_from ps alone c (u - c.first)
  get-from k n [] u j c h at low last = absurd cc
  get-from k n (d ∷ cs) u zero c h at low last =
      let same : d ≡ c = cc in
      subst (λ (x : Copies). slice_get (mixed ps alone k (d ∷ cs)) (u - n) ≡ place_from ps alone x (u - x.first)) same
      (get-at k n d cs u h (subst (λ (x : Copies). x.first ≤ u) (sym same) low) last)
  get-from k n (d ∷ cs) u (suc j) c h at low last =
      let end = d.first + length (pattern_at ps d.pattern) in
      let later = placed-later d.before end cs j c h.3 at in
      get-past k n d cs u h (omega (arith, later, low)) ∙ get-from d.before end cs u j c h.3 at low last

-- what a search by halves found
pub last-found : (seen cs : List Copies) (low u : ℕ) (d : Copies) → seen ≡ cs → ¬ (low ≡ 0) → low ≤ length seen
    → ((c : Copies) → 0 < low → slice_get seen (low - 1) ≡ Some c → c.first ≤ u) → ((c : Copies) → slice_get seen low ≡ Some c → u < c.first)
    → IsLast cs u (Some (slice_index_or seen (low - 1) d))
last-found seen cs zero u d same z within early late = absurd (z refl)
last-found seen cs (suc j) u d same z within early late =
    let e : suc j - 1 ≡ j = omega arith in
    let at : slice_get seen (suc j - 1) ≡ Some (slice_index_or seen (suc j - 1) d) = slice_get-get_or seen (suc j - 1) d (omega arith) in
    subst (λ (l : List Copies). IsLast l u (Some (slice_index_or seen (suc j - 1) d))) same
    (j, ap (slice_get seen) (sym e) ∙ at, early (slice_index_or seen (suc j - 1) d) (omega arith) at, late)

pub nothing-at : {X Y : Type 0} (f : X → List Y) (xs : List X) (i : ℕ) → slice_get xs i ≡ None → slice_index_or (map f xs) i [] ≡ []
nothing-at f [] i e = refl
nothing-at f (x ∷ xs) zero e = absurd cc
nothing-at f (x ∷ xs) (suc i) e = nothing-at f xs i e

module _ (ps : List (List Inner)) (alone : List ℕ) (cs : List Copies) (u : ℕ) (h : ArePlaced ps (length alone) 0 0 cs) where
  same : u - 0 ≡ u
  same = omega arith

  pub get-first : IsLast cs u None → slice_get (mixed ps alone 0 cs) u ≡ option_map Alone (slice_get alone u)
  get-first last =
      let e : 0 + (u - 0) ≡ u = omega arith in
      ap (slice_get (mixed ps alone 0 cs)) (sym same)
      ∙ (get-before ps alone 0 0 cs u h (omega arith) last ∙ ap (λ i. option_map Alone (slice_get alone i)) e)

  pub get-last : (c : Copies) → IsLast cs u (Some c) → slice_get (mixed ps alone 0 cs) u ≡ place_from ps alone c (u - c.first)
  get-last c last = ap (slice_get (mixed ps alone 0 cs)) (sym same) ∙ get-from ps alone 0 0 cs u last.0 c h last.1 last.2 last.3

  pub last-fits : (c : Copies) (limit : ℕ) → IsLast cs u (Some c) → u < limit → c.before + (u - c.first) < limit
  last-fits c limit last less =
      let low = placed-low ps alone 0 0 cs last.0 c h (omega arith) last.1 in
      let first = last.2 in omega (arith, low, first, less)

-- ---- what a further pattern leaves, whether it had memory or not

module _ (alone : List ℕ) (cs : List Copies) (n : ℕ) where
  abbrev IsCounted : List (List Inner) → Type 0
  IsCounted ps = ArePlaced ps (length alone) 0 0 cs × (n ≡ length (mixed ps alone 0 cs))

  pub pattern-pushed : (b : Bool) (vs ws : List (Vec Inner Global)) (v : Vec Inner Global) → ws ≡ (if b then vs ++ v ∷ [] else vs)
      → IsCounted (map (λ (v : Vec Inner Global). v.items) vs) → IsCounted (map (λ (v : Vec Inner Global). v.items) ws)
  pattern-pushed true vs ws v e h =
      let lists : List (Vec Inner Global) → List (List Inner) = map (λ (v : Vec Inner Global). v.items) in
      let is : lists ws ≡ lists vs ++ v.items ∷ [] = ap lists e ∙ map-append (λ (v : Vec Inner Global). v.items) vs (v ∷ []) in
      subst IsCounted (sym is)
      (placed-pattern (lists vs) alone v.items 0 0 cs h.0, h.1 ∙ sym (ap length (mixed-pattern (lists vs) alone v.items 0 0 cs h.0)))
  pattern-pushed false vs ws v e h = subst (λ (l : List (Vec Inner Global)). IsCounted (map (λ (v : Vec Inner Global). v.items) l)) (sym e) h
