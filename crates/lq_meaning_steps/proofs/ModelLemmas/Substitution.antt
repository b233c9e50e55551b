-- Closing: one after another, by the same values, by none.
use Rattle.std.proofs.Common.{◌≡◌, ℕ, Bool, true, false, ◌==◌, if◌then◌else◌, List, [], ◌∷◌, ◌++◌, Option, Some, None, refl, sym, ap, ap₂, ◌∙◌}
use Rattle.std.specs.List.{list_any}
use Rattle.lq_meaning_steps.specs.Model.Core.{variables_of, bound_in, Core, val, use_of, fun, row, let_in, let_rec, call, one, two, three, and_of, or_of, if_else, match_on, seq, assert_false, Cores, none, more, Arms, no_arms, more_arms, Value, Pairs, value_in, without, replaced, close, close_all, close_arms}
use Rattle.lq_meaning_steps.specs.Model.Laws.{SameIn}
use Rattle.lq_meaning_steps.specs.Model.Leaving.{unless, value_in-without}

pub ap₃ : {A B C D : Type 0} (f : A → B → C → D) {a a' : A} {b b' : B} {c c' : C} → a ≡ a' → b ≡ b' → c ≡ c' → f a b c ≡ f a' b' c'
ap₃ f {a' = a'} {b = b} {b' = b'} {c = c} e h i = ap (λ x. f x b c) e ∙ ap (λ x. f a' x c) h ∙ ap (f a' b') i

-- ---- one after another

replaced_later : (b : Bool) (v : Value) (x : ℕ) (g : Pairs) (r s : Option Value) → close g (replaced x r) ≡ replaced x s
    → close g (replaced x (if b then Some v else r)) ≡ replaced x (if b then Some v else s)
replaced_later true v x g r s h = refl
replaced_later false v x g r s h = h

close-replaced : (x : ℕ) (d g : Pairs) → close g (replaced x (value_in d x)) ≡ replaced x (value_in (d ++ g) x)
close-replaced x [] g = refl
close-replaced x (p ∷ d) g = replaced_later (p.0 == x) p.1 x g (value_in d x) (value_in (d ++ g) x) (close-replaced x d g)

kept_append : (b : Bool) (p : ℕ × Value) (r s t : Pairs) → r ≡ s ++ t → (if b then r else p ∷ r) ≡ (if b then s else p ∷ s) ++ t
kept_append true p r s t h = h
kept_append false p r s t h = ap (λ l. p ∷ l) h

pub without-append : (xs : List ℕ) (d g : Pairs) → without xs (d ++ g) ≡ without xs d ++ without xs g
without-append xs [] g = refl
without-append xs (p ∷ d) g = kept_append (list_any (λ x. x == p.0) xs) p _ _ (without xs g) (without-append xs d g)

-- in a body, where a pattern binds some variables
body_close : (xs : List ℕ) (b : Core) (d g : Pairs) → close (without xs g) (close (without xs d) b) ≡ close (without xs d ++ without xs g) b
    → close (without xs g) (close (without xs d) b) ≡ close (without xs (d ++ g)) b
body_close xs b d g h = h ∙ ap (λ l. close l b) (sym (without-append xs d g))

mutual
  -- a closing after a closing is one closing
  pub close-close : (e : Core) (d g : Pairs) → close g (close d e) ≡ close (d ++ g) e
  close-close (val v) d g = refl
  close-close (use_of x) d g = close-replaced x d g
  close-close (fun q b) d g = ap (fun q) (body_close (bound_in q) b d g (close-close b (without (bound_in q) d) (without (bound_in q) g)))
  close-close (row r es) d g = ap (row r) (close_all-close es d g)
  close-close (let_in q e b) d g =
      ap₂ (let_in q) (close-close e d g) (body_close (bound_in q) b d g (close-close b (without (bound_in q) d) (without (bound_in q) g)))
  close-close (let_rec f q b e) d g =
      ap₂ (let_rec f q) (body_close (f ∷ bound_in q) b d g (close-close b (without (f ∷ bound_in q) d) (without (f ∷ bound_in q) g)))
      (body_close (f ∷ []) e d g (close-close e (without (f ∷ []) d) (without (f ∷ []) g)))
  close-close (call f a) d g = ap₂ call (close-close f d g) (close-close a d g)
  close-close (one o e) d g = ap (one o) (close-close e d g)
  close-close (two o a b) d g = ap₂ (two o) (close-close a d g) (close-close b d g)
  close-close (three o a b c) d g = ap₃ (three o) (close-close a d g) (close-close b d g) (close-close c d g)
  close-close (and_of a b) d g = ap₂ and_of (close-close a d g) (close-close b d g)
  close-close (or_of a b) d g = ap₂ or_of (close-close a d g) (close-close b d g)
  close-close (if_else c a b) d g = ap₃ if_else (close-close c d g) (close-close a d g) (close-close b d g)
  close-close (match_on p e cs) d g = ap₂ (match_on p) (close-close e d g) (close_arms-close cs d g)
  close-close (seq a b) d g = ap₂ seq (close-close a d g) (close-close b d g)
  close-close (assert_false p) d g = refl

  pub close_all-close : (es : Cores) (d g : Pairs) → close_all g (close_all d es) ≡ close_all (d ++ g) es
  close_all-close none d g = refl
  close_all-close (more e es) d g = ap₂ more (close-close e d g) (close_all-close es d g)

  pub close_arms-close : (cs : Arms) (d g : Pairs) → close_arms g (close_arms d cs) ≡ close_arms (d ++ g) cs
  close_arms-close no_arms d g = refl
  close_arms-close (more_arms q e cs) d g =
      ap₂ (more_arms q) (body_close (variables_of q) e d g (close-close e (without (variables_of q) d) (without (variables_of q) g))) (close_arms-close cs d g)

pub in_body : (xs : List ℕ) (d g : Pairs) (b : Core) → close (without xs g) (close (without xs d) b) ≡ close (without xs (d ++ g)) b
in_body xs d g b = body_close xs b d g (close-close b (without xs d) (without xs g))

-- ---- by the same values

pub same_without : (xs : List ℕ) (d g : Pairs) → SameIn d g → SameIn (without xs d) (without xs g)
same_without xs d g h k = value_in-without xs d k ∙ ap (unless (list_any (λ x. x == k) xs)) (h k) ∙ sym (value_in-without xs g k)

mutual
  pub close-same : (e : Core) (d g : Pairs) → SameIn d g → close d e ≡ close g e
  close-same (val v) d g h = refl
  close-same (use_of x) d g h = ap (replaced x) (h x)
  close-same (fun q b) d g h = ap (fun q) (close-same b (without (bound_in q) d) (without (bound_in q) g) (same_without (bound_in q) d g h))
  close-same (row r es) d g h = ap (row r) (close_all-same es d g h)
  close-same (let_in q e b) d g h = ap₂ (let_in q) (close-same e d g h) (close-same b (without (bound_in q) d) (without (bound_in q) g) (same_without (bound_in q) d g h))
  close-same (let_rec f q b e) d g h =
      ap₂ (let_rec f q) (close-same b (without (f ∷ bound_in q) d) (without (f ∷ bound_in q) g) (same_without (f ∷ bound_in q) d g h))
      (close-same e (without (f ∷ []) d) (without (f ∷ []) g) (same_without (f ∷ []) d g h))
  close-same (call f a) d g h = ap₂ call (close-same f d g h) (close-same a d g h)
  close-same (one o e) d g h = ap (one o) (close-same e d g h)
  close-same (two o a b) d g h = ap₂ (two o) (close-same a d g h) (close-same b d g h)
  close-same (three o a b c) d g h = ap₃ (three o) (close-same a d g h) (close-same b d g h) (close-same c d g h)
  close-same (and_of a b) d g h = ap₂ and_of (close-same a d g h) (close-same b d g h)
  close-same (or_of a b) d g h = ap₂ or_of (close-same a d g h) (close-same b d g h)
  close-same (if_else c a b) d g h = ap₃ if_else (close-same c d g h) (close-same a d g h) (close-same b d g h)
  close-same (match_on p e cs) d g h = ap₂ (match_on p) (close-same e d g h) (close_arms-same cs d g h)
  close-same (seq a b) d g h = ap₂ seq (close-same a d g h) (close-same b d g h)
  close-same (assert_false p) d g h = refl

  pub close_all-same : (es : Cores) (d g : Pairs) → SameIn d g → close_all d es ≡ close_all g es
  close_all-same none d g h = refl
  close_all-same (more e es) d g h = ap₂ more (close-same e d g h) (close_all-same es d g h)

  pub close_arms-same : (cs : Arms) (d g : Pairs) → SameIn d g → close_arms d cs ≡ close_arms g cs
  close_arms-same no_arms d g h = refl
  close_arms-same (more_arms q e cs) d g h =
      ap₂ (more_arms q) (close-same e (without (variables_of q) d) (without (variables_of q) g) (same_without (variables_of q) d g h)) (close_arms-same cs d g h)

-- ---- by none

mutual
  pub close-none : (e : Core) → close [] e ≡ e
  close-none (val v) = refl
  close-none (use_of x) = refl
  close-none (fun q b) = ap (fun q) (close-none b)
  close-none (row r es) = ap (row r) (close_all-none es)
  close-none (let_in q e b) = ap₂ (let_in q) (close-none e) (close-none b)
  close-none (let_rec f q b e) = ap₂ (let_rec f q) (close-none b) (close-none e)
  close-none (call f a) = ap₂ call (close-none f) (close-none a)
  close-none (one o e) = ap (one o) (close-none e)
  close-none (two o a b) = ap₂ (two o) (close-none a) (close-none b)
  close-none (three o a b c) = ap₃ (three o) (close-none a) (close-none b) (close-none c)
  close-none (and_of a b) = ap₂ and_of (close-none a) (close-none b)
  close-none (or_of a b) = ap₂ or_of (close-none a) (close-none b)
  close-none (if_else c a b) = ap₃ if_else (close-none c) (close-none a) (close-none b)
  close-none (match_on p e cs) = ap₂ (match_on p) (close-none e) (close_arms-none cs)
  close-none (seq a b) = ap₂ seq (close-none a) (close-none b)
  close-none (assert_false p) = refl

  pub close_all-none : (es : Cores) → close_all [] es ≡ es
  close_all-none none = refl
  close_all-none (more e es) = ap₂ more (close-none e) (close_all-none es)

  pub close_arms-none : (cs : Arms) → close_arms [] cs ≡ cs
  close_arms-none no_arms = refl
  close_arms-none (more_arms q e cs) = ap₂ (more_arms q) (close-none e) (close_arms-none cs)
