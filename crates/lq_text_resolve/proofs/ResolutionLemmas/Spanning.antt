-- Numbers that follow one another, and the binders that patterns get.
use Rattle.std.specs.Prelude.{◌==◌, ◌||◌}
use Rattle.std.proofs.Common.{◌≡◌, ℕ, suc, ◌+◌, Bool, true, false, List, [], ◌∷◌, ◌++◌, length, map, reverse, Option, Some, None, refl, sym, ap, subst, ◌∙◌, arith, length-append, append_assoc}
use Rattle.std.proofs.lemmas.Bool.Decides.{Decides-eqb}
use Rattle.std.proofs.lemmas.Grind.{reverse_onto}
use Rattle.std.proofs.lemmas.List.{length-map}
use Rattle.lq_text_tree.specs.Pattern.{Pattern, pattern, PatternForm, any, bind, nothing, tuple_of, build_of, Patterns, no_patterns, more_patterns, bound_in, bound_in_form, bound_in_all}
use Rattle.lq_text_scope.specs.Datatypes.{name_of}
use Rattle.lq_text_scope.specs.Known.{Arity, arity_in, defined, has}
use Rattle.lq_text_walk.specs.Scoped.Numbers.{from_on}
use Rattle.lq_text_walk.specs.Scoped.Uses.{is_visible}
use Rattle.lq_text_resolve.specs.Binding.Binding.{bound_from, numbered, numbered_form, numbered_all, sources_of}

-- these are the numbers from the first to before the last
abbrev pub Spans : ℕ → List ℕ → ℕ → Type 0
Spans n [] m = n ≡ m
Spans n (x ∷ xs) m = (x ≡ n) × Spans (suc n) xs m

pub spans_append : (n m o : ℕ) (xs ys : List ℕ) → Spans n xs m → Spans m ys o → Spans n (xs ++ ys) o
spans_append n m o [] ys is more = subst (λ (k : ℕ). Spans k ys o) (sym is) more
spans_append n m o (x ∷ xs) ys is more = (is.0, spans_append (suc n) m o xs ys is.1 more)

pub spans_length : (n m : ℕ) (xs : List ℕ) → Spans n xs m → m ≡ n + length xs
spans_length n m [] is = omega (arith, is)
spans_length n m (x ∷ xs) is = let more = spans_length (suc n) m xs is.1 in omega (arith, more)

pub spans_from : (n m : ℕ) (xs : List ℕ) → Spans n xs m → xs ≡ from_on n (length xs)
spans_from n m [] is = refl
spans_from n m (x ∷ xs) is = ap (λ (k : ℕ). k ∷ xs) is.0 ∙ ap (λ (ys : List ℕ). n ∷ ys) (spans_from (suc n) m xs is.1)

-- ---- the binders of a pattern

mutual
  numbered_spans : (n : ℕ) (q : Pattern) → Spans n (bound_in (numbered n q)) (n + length (bound_in q))
  numbered_spans n (pattern p f) = form_spans n f

  form_spans : (n : ℕ) (f : PatternForm) → Spans n (bound_in_form (numbered_form n f)) (n + length (bound_in_form f))
  form_spans n any = omega arith
  form_spans n (bind x) = (refl, omega arith)
  form_spans n nothing = omega arith
  form_spans n (tuple_of ps) = all_spans n ps
  form_spans n (build_of c q ps) = all_spans n ps

  all_spans : (n : ℕ) (ps : Patterns) → Spans n (bound_in_all (numbered_all n ps)) (n + length (bound_in_all ps))
  all_spans n no_patterns = omega arith
  all_spans n (more_patterns p ps) =
      let at = n + length (bound_in p) in
      let long = length-append (bound_in p) (bound_in_all ps) in
      let ends : at + length (bound_in_all ps) ≡ n + length (bound_in p ++ bound_in_all ps) = omega (arith, long) in
      subst (λ (m : ℕ). Spans n (bound_in (numbered n p) ++ bound_in_all (numbered_all at ps)) m) ends
      (spans_append n at (at + length (bound_in_all ps)) (bound_in (numbered n p)) (bound_in_all (numbered_all at ps)) (numbered_spans n p) (all_spans at ps))

sources_length : (s : List (Option ℕ)) (xs : List ℕ) → length (s ++ sources_of xs) ≡ length s + length xs
sources_length s xs = let long = length-append s (sources_of xs) in let same = length-map xs (λ (x : ℕ). Some x) in omega (arith, long, same)

-- behind these source names
pub pattern_spans : (s : List (Option ℕ)) (q : Pattern) → Spans (length s) (bound_in (numbered (length s) q)) (length (s ++ sources_of (bound_in q)))
pattern_spans s q =
    subst (λ (m : ℕ). Spans (length s) (bound_in (numbered (length s) q)) m) (sym (sources_length s (bound_in q))) (numbered_spans (length s) q)

pub one_more : (s : List (Option ℕ)) (o : Option ℕ) → length (s ++ o ∷ []) ≡ suc (length s)
one_more s o = let long = length-append s (o ∷ []) in omega (arith, long)

-- ---- what is visible

-- each variable that is known is bound to a visible binder
abbrev pub Sees : List Arity → List ℕ → Type 0
Sees as_ vs = (x b : ℕ) → arity_in as_ x ≡ Some b → is_visible vs b ≡ true

abbrev same : ℕ → ℕ → Bool
same b v = v == b

some_is : (n b : ℕ) → Some n ≡ Some b → n ≡ b
some_is n b is = cc

itself : (b : ℕ) → (b == b) ≡ true
itself b = (Decides-eqb b b).1 refl

pub sees_more : (as_ : List Arity) (vs : List ℕ) (x n : ℕ) → Sees as_ vs → Sees (defined x n ∷ as_) (n ∷ vs)
sees_more as_ vs x n sees y b found = by_test (x == y) refl
  where
    by_test : (t : Bool) → (x == y) ≡ t → is_visible (n ∷ vs) b ≡ true
    by_test true is = let it : Some n ≡ Some b = (let found = found in let is = is in cc) in let here = itself b in let at = some_is n b it in cc
    by_test false is =
        let it : arity_in as_ y ≡ Some b = (let found = found in let is = is in cc) in
        let seen = sees y b it in by_here (n == b) refl seen
      where
        by_here : (u : Bool) → (n == b) ≡ u → is_visible vs b ≡ true → is_visible (n ∷ vs) b ≡ true
        by_here true a seen = cc
        by_here false a seen = cc

-- where a binder stands among the visible ones doesn't matter
swap : (a c d : Bool) → (a || (c || d)) ≡ (c || (a || d))
swap true true d = refl
swap true false d = refl
swap false c d = refl

visible_behind : (ys vs : List ℕ) (y b : ℕ) → is_visible (ys ++ y ∷ vs) b ≡ is_visible (y ∷ (ys ++ vs)) b
visible_behind [] vs y b = refl
visible_behind (z ∷ ys) vs y b =
    ap (λ (t : Bool). (z == b) || t) (visible_behind ys vs y b) ∙ swap (z == b) (y == b) (is_visible (ys ++ vs) b)

sees_bound : (xs ys vs : List ℕ) (as_ : List Arity) (n m : ℕ) → Spans n ys m → length ys ≡ length xs → Sees as_ vs → Sees (bound_from n xs as_) (ys ++ vs)
sees_bound [] [] vs as_ n m is long sees z b found = sees z b found
sees_bound [] (y ∷ ys) vs as_ n m is long sees z b found = absurd (omega (arith, long))
sees_bound (x ∷ xs) [] vs as_ n m is long sees z b found = absurd (omega (arith, long))
sees_bound (x ∷ xs) (y ∷ ys) vs as_ n m is long sees z b found =
    let less : length ys ≡ length xs = omega (arith, long) in
    let first : Sees (defined x n ∷ as_) (y ∷ vs) = subst (λ (k : ℕ). Sees (defined x n ∷ as_) (k ∷ vs)) (sym is.0) (sees_more as_ vs x n sees) in
    sym (visible_behind ys vs y b) ∙ sees_bound xs ys (y ∷ vs) (defined x n ∷ as_) (suc n) m is.1 less first z b found

pub sees_pattern : (q : Pattern) (vs : List ℕ) (as_ : List Arity) (n : ℕ) → Sees as_ vs → Sees (bound_from n (bound_in q) as_) (bound_in (numbered n q) ++ vs)
sees_pattern q vs as_ n sees =
    let is = numbered_spans n q in
    let long = spans_length n (n + length (bound_in q)) (bound_in (numbered n q)) is in
    let less : length (bound_in (numbered n q)) ≡ length (bound_in q) = omega (arith, long) in
    sees_bound (bound_in q) (bound_in (numbered n q)) vs as_ n (n + length (bound_in q)) is less sees

-- the names that are known
pub bound_names : (n : ℕ) (xs : List ℕ) (as_ : List Arity) → map name_of (bound_from n xs as_) ≡ reverse xs ++ map name_of as_
bound_names n [] as_ = refl
bound_names n (x ∷ xs) as_ =
    bound_names (suc n) xs (defined x n ∷ as_)
    ∙ sym (ap (λ (ys : List ℕ). ys ++ map name_of as_) (reverse_onto xs x []) ∙ append_assoc (reverse xs) (x ∷ []) (map name_of as_))

-- a name that is known is found
pub finds : (as_ : List Arity) (x : ℕ) → arity_in as_ x ≡ None → has (map name_of as_) x ≡ false
finds [] x is = refl
finds (a ∷ as_) x is = by_test (a.name == x) refl (finds as_ x)
  where
    by_test : (t : Bool) → (a.name == x) ≡ t → (arity_in as_ x ≡ None → has (map name_of as_) x ≡ false) → has (map name_of (a ∷ as_)) x ≡ false
    by_test true e rest = absurd (let e = e in let is = is in cc)
    by_test false e rest = let more : arity_in as_ x ≡ None = (let e = e in let is = is in cc) in let none = rest more in let e = e in cc

pub visible_here : (b : ℕ) (vs : List ℕ) → is_visible (b ∷ vs) b ≡ true
visible_here b vs = let here = itself b in cc

pub sees_behind : (as_ : List Arity) (vs : List ℕ) (n : ℕ) → Sees as_ vs → Sees as_ (n ∷ vs)
sees_behind as_ vs n sees x b found = by_here (n == b) (is_visible vs b) (sees x b found)
  where
    by_here : (u v : Bool) → v ≡ true → (u || v) ≡ true
    by_here true v seen = refl
    by_here false v seen = seen

-- what is found is among the binders
abbrev pub count_of : Arity → ℕ
count_of a = a.count

pub sees_all : (as_ : List Arity) → Sees as_ (map count_of as_)
sees_all [] x b found = absurd (let it = found in cc)
sees_all (a ∷ as_) x b found = sees_more as_ (map count_of as_) a.name a.count (sees_all as_) x b found
