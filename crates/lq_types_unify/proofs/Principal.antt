-- What ranked classes stand for is a principal solution.
use Rattle.std.proofs.Common.{◌≡◌, ℕ, zero, suc, ◌<◌, List, [], ◌∷◌, Option, Some, None, IsSome, All, get_or, map, refl, sym, ap, ap₂, subst, ◌∙◌, arith}
use Rattle.std.specs.Option.{option_map}
use Rattle.lq_types_unify.specs.declared.arena.Head.{Head}
use Rattle.lq_types_unify.specs.declared.arena.Equation.{Equation}
use Rattle.lq_types_unify.specs.Simple.{Simple, variable, made, more, each, replaced, replaced_all}
use Rattle.lq_types_unify.specs.Nodes.{Form, renamed}
use Rattle.lq_types_unify.specs.Solution.{Fits, Meets, IsPrincipal}
use Rattle.lq_types_unify.specs.Classes.{up, root, rooted, IsState, AreShared, IsKnown}
use Rattle.lq_types_unify.specs.Value.{parts_of, inner, built, value, IsRanked}
use Rattle.lq_types_unify.proofs.Roots.{root_fixed, at_root}

-- ---- what depends on the root alone

value_root : (n : ℕ) (forms : ℕ → Option Form) (ps shapes : List ℕ) (x y : ℕ) → root ps x ≡ root ps y → value n forms ps shapes x ≡ value n forms ps shapes y
value_root zero forms ps shapes x y e = ap variable e
value_root (suc n) forms ps shapes x y e = ap (λ r. built (value n forms ps shapes) r (forms (up shapes r))) e

each_rooted : (g : ℕ → Simple) (f : ℕ → ℕ) → ((x y : ℕ) → f x ≡ f y → g x ≡ g y) → (xs ys : List ℕ) → map f xs ≡ map f ys → each g xs ≡ each g ys
each_rooted g f h [] [] e = refl
each_rooted g f h [] (y ∷ ys) e = absurd (cc)
each_rooted g f h (x ∷ xs) [] e = absurd (cc)
each_rooted g f h (x ∷ xs) (y ∷ ys) e = ap₂ more (h x y (cc)) (each_rooted g f h xs ys (cc))

-- ---- deep enough is deep enough

each_by : (f g : ℕ → Simple) (xs : List ℕ) → All (λ p. f p ≡ g p) xs → each f xs ≡ each g xs
each_by f g [] h = refl
each_by f g (x ∷ xs) h = ap₂ more (h 0 0 (omega arith)) (each_by f g xs (λ k d l. h (suc k) d (omega arith)))

built_by : (f g : ℕ → Simple) (r : ℕ) (o : Option Form) → All (λ p. f p ≡ g p) (parts_of o) → built f r o ≡ built g r o
built_by f g r None h = refl
built_by f g r (Some x) h = ap (made x.head) (each_by f g x.parts h)

steady : (forms : ℕ → Option Form) (ps shapes : List ℕ) (bound : ℕ) → (ranked : IsRanked forms ps shapes bound) → ((i : ℕ) → up ps (root ps i) ≡ root ps i)
    → (n i : ℕ) → ranked.rank (root ps i) < n → value n forms ps shapes i ≡ value (suc n) forms ps shapes i
steady forms ps shapes bound q fixed zero i h = absurd (omega arith)
steady forms ps shapes bound q fixed (suc n) i h = built_by (value n forms ps shapes) (value (suc n) forms ps shapes) (root ps i) (forms (up shapes (root ps i)))
    (λ k d l. steady forms ps shapes bound q fixed n (get_or (inner forms shapes (root ps i)) k d)
    (let m : q.rank (root ps (get_or (inner forms shapes (root ps i)) k d)) < q.rank (root ps i) = q.falls (root ps i) (fixed i) k d l in omega arith))

-- ---- it is a solution

renamed_from : (f : ℕ → ℕ) (o : Option Form) (x : Form) → option_map (renamed f) o ≡ Some (renamed f x) → (y : Form) × (o ≡ Some y) × (y.head ≡ x.head) × (map f y.parts ≡ map f x.parts)
renamed_from f None x e = absurd (cc)
renamed_from f (Some y) x e = (y, refl, heads e, ap parts e)
  where
    parts : Option Form → List ℕ
    parts None = []
    parts (Some z) = z.parts

    head_of : Option Form → Head
    head_of None = x.head
    head_of (Some z) = z.head

    heads : Some (renamed f y) ≡ Some (renamed f x) → y.head ≡ x.head
    heads h = ap head_of h

some_is : {X : Type 0} (o : Option X) (x : X) → o ≡ Some x → IsSome o
some_is o x e = subst IsSome (sym e) refl

value_fits : (forms : ℕ → Option Form) (n : ℕ) (ps shapes : List ℕ) (found equations : List Equation) (bound : ℕ) → IsKnown forms n ps shapes found equations → IsRanked forms ps shapes bound
    → Fits forms (value bound forms ps shapes)
value_fits forms n ps shapes found equations bound k q i f e =
    let fixed = root_fixed ps k.state.down in
    let same = k.state.keyed (rooted forms ps) k.followed i (some_is (forms i) f e) in
    let g = renamed_from (root ps) (forms (up shapes (root ps i))) f (sym same ∙ ap (option_map (renamed (root ps))) e) in
    steady forms ps shapes bound q fixed bound i (q.below (root ps i))
    ∙ ap (built (value bound forms ps shapes) (root ps i)) g.1
    ∙ ap₂ made g.2 (each_rooted (value bound forms ps shapes) (root ps) (value_root bound forms ps shapes) g.0.parts f.parts g.3)

value_meets : (forms : ℕ → Option Form) (n : ℕ) (ps shapes : List ℕ) (found equations : List Equation) (bound : ℕ) → IsKnown forms n ps shapes found equations
    → Meets (value bound forms ps shapes) equations
value_meets forms n ps shapes found equations bound k j d l = value_root bound forms ps shapes _ _ (k.met j d l)

-- ---- every solution is an instance

each_replaced : (by f g : ℕ → Simple) (xs : List ℕ) → ((i : ℕ) → f i ≡ replaced by (g i)) → each f xs ≡ replaced_all by (each g xs)
each_replaced by f g [] h = refl
each_replaced by f g (x ∷ xs) h = ap₂ more (h x) (each_replaced by f g xs h)

built_replaced : (by f g : ℕ → Simple) (r : ℕ) (o : Option Form) → ((i : ℕ) → f i ≡ replaced by (g i)) → (t : Simple) → t ≡ by r → ((x : Form) → o ≡ Some x → t ≡ made x.head (each f x.parts))
    → t ≡ replaced by (built g r o)
built_replaced by f g r None h t e m = e
built_replaced by f g r (Some x) h t e m = m x refl ∙ ap (made x.head) (each_replaced by f g x.parts h)

general : (forms : ℕ → Option Form) (n : ℕ) (ps shapes : List ℕ) (found : List Equation) (types : ℕ → Simple) → IsState forms n ps shapes found → Fits forms types → AreShared ps types
    → (m i : ℕ) → types i ≡ replaced types (value m forms ps shapes i)
general forms n ps shapes found types s fits shared zero i = at_root types ps shared i
general forms n ps shapes found types s fits shared (suc m) i =
    let r = root ps i in
    let here : types i ≡ types r = at_root types ps shared i in
    let kept : types r ≡ types (up shapes r) = ap types (sym (s.own r (root_fixed ps s.down i))) ∙ sym (at_root types ps shared (up shapes r)) in
    built_replaced types types (value m forms ps shapes) r (forms (up shapes r)) (general forms n ps shapes found types s fits shared m) (types i) here
    (λ x e. here ∙ kept ∙ fits (up shapes r) x e)

pub principal : (forms : ℕ → Option Form) (n : ℕ) (ps shapes : List ℕ) (found equations : List Equation) (bound : ℕ) → IsKnown forms n ps shapes found equations → IsRanked forms ps shapes bound
    → IsPrincipal forms equations (value bound forms ps shapes)
principal forms n ps shapes found equations bound k q = record {
  solves = record {
    fits = value_fits forms n ps shapes found equations bound k q;
    meets = value_meets forms n ps shapes found equations bound k;
  };
  general = λ others s. (others, general forms n ps shapes found others k.state s.fits (k.follows others s) bound);
}
