-- The nearest earlier applications, one more term at a time.
use Rattle.std.proofs.Common.{◌≡◌, ◌⊎◌, inl, inr, ℕ, ◌+◌, ◌<◌, List, [], ◌∷◌, ◌++◌, Bool, true, false, Option, Some, None, slice_get, get_or, length, refl, sym, ap, subst, ◌∙◌, arith, nat_lt, if◌then◌else◌}
use Rattle.std.proofs.Math.Seq.{get_or-append_seam}
use Rattle.std.proofs.lemmas.List.{get_or_append_left}
use Rattle.std.proofs.lemmas.Bool.{eqb-true, eq-eqb}
use Rattle.std.proofs.lemmas.Bool.Decides.{nat_tests}
use Rattle.lq_logic_predicates.specs.Sum.{Sum}
use Rattle.lq_logic_points.specs.declared.agreeing.Function.{Function}
use Rattle.lq_logic_points.specs.declared.agreeing.Function.TheVariants.{Product, Quotient, Remainder, Length, Measure}
use Rattle.lq_logic_points.specs.Function.{applied}
use Rattle.lq_logic_points.specs.Nearest.{NoneBetween, IsNearest, HasEarlier, same_function, place_of, old_place, new_place}

same_function-is : (f g : Function) → same_function f g ≡ true → f ≡ g
same_function-is Product Product h = refl
same_function-is Product _ h = cc
same_function-is Quotient Quotient h = refl
same_function-is Quotient _ h = cc
same_function-is Remainder Remainder h = refl
same_function-is Remainder _ h = cc
same_function-is Length Length h = refl
same_function-is Length _ h = cc
same_function-is (Measure f) (Measure g) h = ap (λ n. Measure (record { 0 = n })) (eqb-true f.0 g.0 h)
same_function-is (Measure f) _ h = cc

same_function-refl : (f : Function) → same_function f f ≡ true
same_function-refl Product = refl
same_function-refl Quotient = refl
same_function-refl Remainder = refl
same_function-refl Length = refl
same_function-refl (Measure f) = eq-eqb f.0 f.0 refl

below_or_at : (k n : ℕ) → k < n + 1 → (k < n) ⊎ (k ≡ n)
below_or_at k n h = by (nat_lt k n) refl
  where
    by : (b : Bool) → nat_lt k n ≡ b → (k < n) ⊎ (k ≡ n)
    by true e = inl (grind (arith, nat_tests))
    by false e = inr (grind (arith, nat_tests))

some_once : {A : Type 0} (x y : A) → Some x ≡ Some y → x ≡ y
some_once x y h = cc

none_more : (terms : List Sum) (low n : ℕ) (f : Function) (t : Sum) → slice_get terms n ≡ Some t → (applied t ≡ Some f → ⊥) → NoneBetween terms low n f → NoneBetween terms low (n + 1) f
none_more terms low n f t e other h i s m w g a = by (below_or_at i n w)
  where
    by : (i < n) ⊎ (i ≡ n) → ⊥
    by (inl k) = h i s m k g a
    by (inr k) = let same : s ≡ t = some_once s t (sym g ∙ ap (slice_get terms) k ∙ e) in other (ap applied (sym same) ∙ a)

nearest_more : (terms : List Sum) (n : ℕ) (f : Function) (t : Sum) (o : Option ℕ) → slice_get terms n ≡ Some t → (applied t ≡ Some f → ⊥) → IsNearest terms n f o → IsNearest terms (n + 1) f o
nearest_more terms n f t None e other h = none_more terms 0 n f t e other h
nearest_more terms n f t (Some k) e other h = let w = h.0 in (omega (arith, w), h.1, none_more terms (k + 1) n f t e other h.2)

latest_one : (terms : List Sum) (n : ℕ) (t : Sum) (o : Option Function) (f : Function) (old : Option ℕ) → slice_get terms n ≡ Some t → applied t ≡ o → IsNearest terms n f old
    → IsNearest terms (n + 1) f (new_place o n f old)
latest_one terms n t None f old e a h = nearest_more terms n f t old e (λ x. cc (x, a)) h
latest_one terms n t (Some g) f old e a h = by (same_function g f) refl
  where
    by : (b : Bool) → same_function g f ≡ b → IsNearest terms (n + 1) f (if b then Some n else old)
    by true k =
        let same : g ≡ f = same_function-is g f k in
        (omega arith, record { term = t; at = e; is = a ∙ ap Some same }, λ i s m w. absurd (omega (arith, m, w)))
    by false k =
        nearest_more terms n f t old e
        (λ x. let same : g ≡ f = some_once g f (sym a ∙ x) in let r = same_function-refl f in cc (ap (λ z. same_function z f) same, r, k)) h

pub latest_more : (terms : List Sum) (n : ℕ) (t : Sum) (es new : List (Function × ℕ)) → slice_get terms n ≡ Some t → ((f : Function) → IsNearest terms n f (place_of es f))
    → ((f : Function) → place_of new f ≡ new_place (applied t) n f (place_of es f)) → (f : Function) → IsNearest terms (n + 1) f (place_of new f)
latest_more terms n t es new e h k f = subst (IsNearest terms (n + 1) f) (sym (k f)) (latest_one terms n t (applied t) f (place_of es f) e refl (h f))

pub earlier_more : (terms : List Sum) (n : ℕ) (t : Sum) (es : List (Function × ℕ)) (earlier new : List (Option ℕ)) (before : Option ℕ) → slice_get terms n ≡ Some t
    → ((f : Function) → IsNearest terms n f (place_of es f)) → before ≡ old_place es (applied t) → length earlier ≡ n → new ≡ earlier ++ before ∷ [] → HasEarlier terms n earlier
    → HasEarlier terms (n + 1) new
earlier_more terms n t es earlier new before e latest is len made h = record {
  below = λ k j w g. below k j (below_or_at k n w) g;
  nearest = λ k s f w g a. nearest k s f (below_or_at k n w) g a;
}
  where
    old : (k : ℕ) → k < n → get_or new k None ≡ get_or earlier k None
    old k w = ap (λ l. get_or l k None) made ∙ get_or_append_left earlier (before ∷ []) None k (subst (λ m. k < m) (sym len) w)

    last : get_or new n None ≡ before
    last = ap (λ l. get_or l n None) made ∙ ap (λ m. get_or (earlier ++ before ∷ []) m None) (sym len) ∙ get_or-append_seam earlier before [] None

    old_below : (o : Option Function) (j : ℕ) → old_place es o ≡ Some j → j < n
    old_below None j x = cc
    old_below (Some f) j x = by (place_of es f) (latest f) x
      where
        by : (o : Option ℕ) → IsNearest terms n f o → o ≡ Some j → j < n
        by None y z = cc
        by (Some i) y z = subst (λ m. m < n) (some_once i j z) y.0

    below : (k j : ℕ) → (k < n) ⊎ (k ≡ n) → get_or new k None ≡ Some j → j < k
    below k j (inl w) g = h.below k j w (sym (old k w) ∙ g)
    below k j (inr w) g =
        subst (λ m. j < m) (sym w) (old_below (applied t) j (sym is ∙ sym last ∙ ap (λ m. get_or new m None) (sym w) ∙ g))

    nearest : (k : ℕ) (s : Sum) (f : Function) → (k < n) ⊎ (k ≡ n) → slice_get terms k ≡ Some s → applied s ≡ Some f → IsNearest terms k f (get_or new k None)
    nearest k s f (inl w) g a = subst (IsNearest terms k f) (sym (old k w)) (h.nearest k s f w g a)
    nearest k s f (inr w) g a =
        let same : s ≡ t = some_once s t (sym g ∙ ap (slice_get terms) w ∙ e) in
        let kept : get_or new n None ≡ place_of es f = last ∙ is ∙ ap (old_place es) (ap applied (sym same) ∙ a) in
        subst (λ m. IsNearest terms m f (get_or new m None)) (sym w) (subst (IsNearest terms n f) (sym kept) (latest f))
