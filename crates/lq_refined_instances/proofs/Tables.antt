-- Scopes that grow.
use Rattle.std.proofs.Common.{◌≡◌, ℕ, zero, suc, ◌+◌, ◌<◌, ◌≤◌, length, take, drop, List, [], ◌∷◌, ◌++◌, map, slice_get, get_or, Some, None, Bool, true, false, if◌then◌else◌, ◌⊎◌, inl, inr, refl, sym, ap, subst, ◌∙◌, arith}
use Rattle.std.proofs.lemmas.List.{length-append, length-map, map-append}
use Rattle.std.specs.Option.{option_map}
use Rattle.lq_refined_instances.specs.Scopes.{Scope, Added, scope_in, without, shown, grown, AreBelow}

pub length-grown : (all : List Scope) (es : List Added) → length (grown all es) ≡ length all + length es
length-grown all [] = omega arith
length-grown all (e ∷ es) =
    let new = shown all e in
    let h = length-grown (all ++ new ∷ []) es in
    let k = length-append all (new ∷ []) in omega arith

pub grown-push : (all : List Scope) (es : List Added) (e : Added) → grown all (es ++ e ∷ []) ≡ grown all es ++ shown (grown all es) e ∷ []
grown-push all [] e = refl
grown-push all (x ∷ es) e = grown-push (all ++ shown all x ∷ []) es e

in-append : (xs ys : List Scope) (i : ℕ) → i < length xs → scope_in (xs ++ ys) i ≡ scope_in xs i
in-append [] ys i h = absurd (omega arith)
in-append (x ∷ xs) ys zero h = refl
in-append (x ∷ xs) ys (suc i) h = in-append xs ys i (omega arith)

pub in-last : (xs : List Scope) (y : Scope) → scope_in (xs ++ y ∷ []) (length xs) ≡ y
in-last [] y = refl
in-last (x ∷ xs) y = in-last xs y

pub in-past : (xs : List Scope) (i : ℕ) → length xs ≤ i → scope_in xs i ≡ []
in-past [] i h = refl
in-past (x ∷ xs) zero h = absurd (omega arith)
in-past (x ∷ xs) (suc i) h = in-past xs i (omega arith)

-- what stands before a further scope stays
pub grown-keeps : (all : List Scope) (es : List Added) (i : ℕ) → i < length all → scope_in (grown all es) i ≡ scope_in all i
grown-keeps all [] i h = refl
grown-keeps all (e ∷ es) i h =
    let new = shown all e in
    let k = length-append all (new ∷ []) in grown-keeps (all ++ new ∷ []) es i (omega arith) ∙ in-append all (new ∷ []) i h

-- the first scope stays the first
pub grown-starts : (x : Scope) (all : List Scope) (es : List Added) → (rest : List Scope) × (grown (x ∷ all) es ≡ x ∷ rest)
grown-starts x all [] = (all, refl)
grown-starts x all (e ∷ es) = grown-starts x (all ++ shown (x ∷ all) e ∷ []) es

-- a scope shows what its parent shows, and its own symbol
pub grown-entry : (es : List Added) (all : List Scope) (k : ℕ) (e : Added) → slice_get es k ≡ Some e → e.parent < length all + k
    → scope_in (grown all es) (length all + k) ≡ shown (grown all es) e
grown-entry [] all k e h b = absurd (cc)
grown-entry (x ∷ es) all zero e h b =
    let same : x ≡ e = cc in
    let new = shown all x in
    let next = all ++ new ∷ [] in
    let n = length-append all (new ∷ []) in
    let p : x.parent < length all = subst (λ y. y.parent < length all) (sym same) (omega arith) in
    let i : length all + 0 ≡ length all = omega arith in
    let here : scope_in (grown next es) (length all) ≡ new = grown-keeps next es (length all) (omega arith) ∙ in-last all new in
    let there : scope_in (grown next es) x.parent ≡ scope_in all x.parent = grown-keeps next es x.parent (omega arith) ∙ in-append all (new ∷ []) x.parent p in
    subst (λ y. scope_in (grown next es) (length all + 0) ≡ shown (grown next es) y) same
    (ap (scope_in (grown next es)) i ∙ here ∙ ap (λ (l : Scope). without x.hidden l ++ x.visible ∷ []) (sym there))
grown-entry (x ∷ es) all (suc k) e h b =
    let new = shown all x in
    let next = all ++ new ∷ [] in
    let n : length next ≡ length all + 1 = length-append all (new ∷ []) in
    let i : length all + suc k ≡ length next + k = omega arith in
    ap (scope_in (grown next es)) i ∙ grown-entry es next k e h (omega arith)

pub one_more : (es : List Added) (e x : Added) (k : ℕ) → slice_get (es ++ e ∷ []) k ≡ Some x → (slice_get es k ≡ Some x) ⊎ ((k ≡ length es) × (e ≡ x))
one_more [] e x zero h = inr (refl, cc)
one_more [] e x (suc k) h = absurd (cc)
one_more (y ∷ es) e x zero h = inl h
one_more (y ∷ es) e x (suc k) h = by (one_more es e x k h)
  where
    by : (slice_get es k ≡ Some x) ⊎ ((k ≡ length es) × (e ≡ x)) → (slice_get (y ∷ es) (suc k) ≡ Some x) ⊎ ((suc k ≡ suc (length es)) × (e ≡ x))
    by (inl s) = inl s
    by (inr p) = inr (ap suc p.0, p.1)

-- a scope whose parent is there keeps the parents below
pub below-push : (es : List Added) (e : Added) → AreBelow es → e.parent ≤ length es → AreBelow (es ++ e ∷ [])
below-push es e below p k x s = by (one_more es e x k s)
  where
    by : (slice_get es k ≡ Some x) ⊎ ((k ≡ length es) × (e ≡ x)) → x.parent ≤ k
    by (inl g) = below k x g
    by (inr q) = subst (λ y. y.parent ≤ k) q.1 (subst (λ n. e.parent ≤ n) (sym q.0) p)

pub below-pushed : {A : Type 0} (view : A → Added) (b : Bool) (es fs : List A) (e : A) → fs ≡ (if b then es ++ e ∷ [] else es) → AreBelow (map view es)
    → (view e).parent ≤ length (map view es) → AreBelow (map view fs)
below-pushed {A} view true es fs e h below p =
    subst AreBelow (sym (ap (map view) h ∙ map-append view es (e ∷ []))) (below-push (map view es) (view e) below p)
below-pushed view false es fs e h below p = subst AreBelow (sym (ap (map view) h)) below

pub get-map : {A B : Type 0} (f : A → B) (xs : List A) (i : ℕ) → slice_get (map f xs) i ≡ option_map f (slice_get xs i)
get-map f [] i = refl
get-map f (x ∷ xs) zero = refl
get-map f (x ∷ xs) (suc i) = get-map f xs i

pub get-none : {A : Type 0} (xs : List A) (i : ℕ) → slice_get xs i ≡ None → length xs ≤ i
get-none [] i h = omega arith
get-none (x ∷ xs) zero h = absurd (cc)
get-none (x ∷ xs) (suc i) h = let k = get-none xs i h in omega arith

pub read-at : {A : Type 0} (xs : List A) (i : ℕ) (d : A) → i < length xs → slice_get xs i ≡ Some (get_or xs i d)
read-at [] i d h = absurd (omega arith)
read-at (x ∷ xs) zero d h = refl
read-at (x ∷ xs) (suc i) d h = read-at xs i d (omega arith)

pub grown-append : (all : List Scope) (xs ys : List Added) → grown all (xs ++ ys) ≡ grown (grown all xs) ys
grown-append all [] ys = refl
grown-append all (x ∷ xs) ys = grown-append (all ++ shown all x ∷ []) xs ys

-- a scope of a table is there as soon as it was added
pub grown-early : (all : List Scope) (xs ys : List Added) (i : ℕ) → i < length all + length xs → scope_in (grown all (xs ++ ys)) i ≡ scope_in (grown all xs) i
grown-early all xs ys i h =
    let k = length-grown all xs in ap (λ (l : List Scope). scope_in l i) (grown-append all xs ys) ∙ grown-keeps (grown all xs) ys i (omega arith)

pub length_take : {A : Type 0} (xs : List A) (i : ℕ) → i < length xs → length (take i xs) ≡ i
length_take [] i h = absurd (omega arith)
length_take (x ∷ xs) zero h = refl
length_take (x ∷ xs) (suc i) h = ap suc (length_take xs i (omega arith))

halves : {A : Type 0} (xs : List A) (i : ℕ) → xs ≡ take i xs ++ drop i xs
halves [] zero = refl
halves [] (suc i) = refl
halves (x ∷ xs) zero = refl
halves (x ∷ xs) (suc i) = ap (λ l. x ∷ l) (halves xs i)

-- a scope of a table is there as soon as it was added, where the table is seen
pub early-scope : {A : Type 0} (view : A → Added) (xs : List A) (i p : ℕ) → i < length xs → p ≤ i
    → scope_in (grown ([] ∷ []) (map view xs)) p ≡ scope_in (grown ([] ∷ []) (map view (take i xs))) p
early-scope {A} view xs i p less early =
    let m = length-map (take i xs) view in
    let l = length_take xs i less in
    ap (λ (l : List Added). scope_in (grown ([] ∷ []) l) p) (ap (map view) (halves xs i) ∙ map-append view (take i xs) (drop i xs))
    ∙ grown-early ([] ∷ []) (map view (take i xs)) (map view (drop i xs)) p (omega arith)
