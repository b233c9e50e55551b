-- How many symbols a scope has where one of its parent is hidden.
use Rattle.std.proofs.Common.{◌≡◌, ℕ, zero, suc, ◌+◌, ◌<◌, ◌≤◌, List, [], ◌∷◌, ◌++◌, map, filter, length, slice_get, Some, None, Bool, true, false, not, if◌then◌else◌, ◌⊎◌, inl, inr, refl, sym, ap, subst, ◌∙◌, arith}
use Rattle.std.proofs.lemmas.List.{length-append, length-map, map-append}
use Rattle.lq_logic_predicates.specs.Sum.{same_symbol}
use Rattle.lq_text_qualifiers.specs.Faults.Shapes.{Shape, is_same}
use Rattle.lq_refined_instances.specs.Scopes.{Visible, Scope, Added, symbols_of, scope_in, is_hidden, without, shown, grown, is_single, is_once, IsCounted, AreBelow, AreCounted}
use Rattle.lq_refined_instances.proofs.Shaping.{shape-is}
use Rattle.lq_refined_instances.proofs.Tables.{one_more, grown-early}

-- those that pass one test are those that fail another besides, and those that pass it
parted : {X : Type 0} (p q : X → Bool) (xs : List X) → length (filter p xs) ≡ length (filter p (filter (λ x. not (q x)) xs)) + length (filter p (filter q xs))
parted p q [] = refl
parted {X} p q (x ∷ xs) = by (p x) refl (q x) (parted p q xs)
  where
    A : List X
    A = filter (λ y. not (q y)) xs

    B : List X
    B = filter q xs

    put : (c : Bool) (l : List X) → p x ≡ c → length (filter p (x ∷ l)) ≡ (if c then suc (length (filter p l)) else length (filter p l))
    put c l e = ap (λ b. length (if b then x ∷ filter p l else filter p l)) e ∙ both c l
      where
        both : (c : Bool) (l : List X) → length (if c then x ∷ filter p l else filter p l) ≡ (if c then suc (length (filter p l)) else length (filter p l))
        both true l = refl
        both false l = refl

    by : (c : Bool) → p x ≡ c → (b : Bool) → length (filter p xs) ≡ length (filter p A) + length (filter p B)
        → length (filter p (x ∷ xs)) ≡ length (filter p (if not b then x ∷ A else A)) + length (filter p (if b then x ∷ B else B))
    by true e true h = let u = put true xs e in let v = put true B e in omega arith
    by true e false h = let u = put true xs e in let v = put true A e in omega arith
    by false e true h = let u = put false xs e in let v = put false B e in omega arith
    by false e false h = let u = put false xs e in let v = put false A e in omega arith

filter-one : {X : Type 0} (p : X → Bool) (x : X) → length (filter p (x ∷ [])) ≡ (if p x then 1 else 0)
filter-one p x = by (p x)
  where
    by : (b : Bool) → length (if b then x ∷ [] else []) ≡ (if b then 1 else 0)
    by true = refl
    by false = refl

counted-symbols : (Γ : Scope) (s : Shape) → length (symbols_of Γ s) ≡ length (filter (λ e. is_same s e.1) Γ)
counted-symbols Γ s = length-map (filter (λ e. is_same s e.1) Γ) (λ e. e.0)

filter-every : {X : Type 0} (xs : List X) → filter (λ x. true) xs ≡ xs
filter-every [] = refl
filter-every (x ∷ xs) = ap (λ l. x ∷ l) (filter-every xs)

pub without-none : (Γ : Scope) → without None Γ ≡ Γ
without-none Γ = filter-every Γ

pub none-counted : (Γ : Scope) → IsCounted None Γ
none-counted Γ s =
    let e : length (symbols_of (without None Γ) s) ≡ length (symbols_of Γ s) = ap (λ (l : Scope). length (symbols_of l s)) (without-none Γ) in omega arith

-- what there is of a shape where there is one symbol
single-count : (h : Visible) (Δ : Scope) (s : Shape) → is_single h Δ ≡ true → length (filter (λ e. is_same s e.1) Δ) ≡ (if is_same s h.1 then 1 else 0)
single-count h [] s one = absurd (cc)
single-count h (e ∷ []) s one = filter-one (λ x. is_same s x.1) e ∙ ap (λ (t : Shape). if is_same s t then 1 else 0) (sym (shape-is h.1 e.1 one))
single-count h (e ∷ f ∷ Δ) s one = absurd (cc)

pub once-counted : (h : Visible) (Γ : Scope) → is_once h Γ ≡ true → IsCounted (Some h) Γ
once-counted h Γ once s =
    let p : Visible → Bool = λ e. is_same s e.1 in
    let parts = parted p (λ e. same_symbol h.0 e.0) Γ in
    let one = single-count h (filter (λ e. same_symbol h.0 e.0) Γ) s once in
    let a = counted-symbols Γ s in
    let b = counted-symbols (without (Some h) Γ) s in omega arith

within : (es : List Added) (k : ℕ) (x : Added) → slice_get es k ≡ Some x → k < length es
within [] k x h = absurd (cc)
within (y ∷ es) zero x h = omega arith
within (y ∷ es) (suc k) x h = let r = within es k x h in omega arith

-- a further addition keeps what the earlier ones say
pub counted-push : (es : List Added) (e : Added) → AreBelow es → AreCounted es → e.parent ≤ length es → IsCounted e.hidden (scope_in (grown ([] ∷ []) es) e.parent) → AreCounted (es ++ e ∷ [])
counted-push es e below all p new k x at = by (one_more es e x k at)
  where
    by : (slice_get es k ≡ Some x) ⊎ ((k ≡ length es) × (e ≡ x)) → IsCounted x.hidden (scope_in (grown ([] ∷ []) (es ++ e ∷ [])) x.parent)
    by (inl g) =
        let b = below k x g in
        let l = within es k x g in
        subst (IsCounted x.hidden) (sym (grown-early ([] ∷ []) es (e ∷ []) x.parent (omega arith))) (all k x g)
    by (inr q) =
        subst (λ (y : Added). IsCounted y.hidden (scope_in (grown ([] ∷ []) (es ++ e ∷ [])) y.parent)) q.1
        (subst (IsCounted e.hidden) (sym (grown-early ([] ∷ []) es (e ∷ []) e.parent (omega arith))) new)

pub counted-pushed : {A : Type 0} (view : A → Added) (b : Bool) (es fs : List A) (e : A) → fs ≡ (if b then es ++ e ∷ [] else es) → AreBelow (map view es) → AreCounted (map view es)
    → (view e).parent ≤ length (map view es) → IsCounted (view e).hidden (scope_in (grown ([] ∷ []) (map view es)) (view e).parent) → AreCounted (map view fs)
counted-pushed {A} view true es fs e h below all p new =
    subst AreCounted (sym (ap (map view) h ∙ map-append view es (e ∷ []))) (counted-push (map view es) (view e) below all p new)
counted-pushed view false es fs e h below all p new = subst AreCounted (sym (ap (map view) h)) all

shorter : {X : Type 0} (p : X → Bool) (xs : List X) → length (filter p xs) ≤ length xs
shorter p [] = omega arith
shorter {X} p (x ∷ xs) = by (p x) (shorter p xs)
  where
    by : (b : Bool) → length (filter p xs) ≤ length xs → length (if b then x ∷ filter p xs else filter p xs) ≤ suc (length xs)
    by true h = omega arith
    by false h = omega arith

small : (all : List Scope) (es : List Added) (n : ℕ) → ((k : ℕ) → length (scope_in all k) ≤ n) → (k : ℕ) → length (scope_in (grown all es) k) ≤ n + length es
small all [] n h k = let b = h k in omega arith
small all (e ∷ es) n h k = let r = small (all ++ shown all e ∷ []) es (suc n) at k in omega arith
  where
    last : length (shown all e) ≤ suc n
    last =
        let a = length-append (without e.hidden (scope_in all e.parent)) (e.visible ∷ []) in
        let b = shorter (λ x. not (is_hidden e.hidden x)) (scope_in all e.parent) in
        let c = h e.parent in omega arith

    each : (xs : List Scope) → ((k : ℕ) → length (scope_in xs k) ≤ n) → (k : ℕ) → length (scope_in (xs ++ shown all e ∷ []) k) ≤ suc n
    each [] g zero = last
    each [] g (suc k) = omega arith
    each (x ∷ xs) g zero = let b = g zero in omega arith
    each (x ∷ xs) g (suc k) = each xs (λ j. g (suc j)) k

    at : (k : ℕ) → length (scope_in (all ++ shown all e ∷ []) k) ≤ suc n
    at = each all h

-- no scope has more symbols than were added to the table
pub few-symbols : (es : List Added) (k : ℕ) (s : Shape) → length (symbols_of (scope_in (grown ([] ∷ []) es) k) s) ≤ length es
few-symbols es k s =
    let Γ = scope_in (grown ([] ∷ []) es) k in
    let a = small ([] ∷ []) es 0 none k in
    let b = shorter (λ e. is_same s e.1) Γ in
    let c = counted-symbols Γ s in omega arith
  where
    none : (k : ℕ) → length (scope_in ([] ∷ []) k) ≤ 0
    none zero = omega arith
    none (suc k) = omega arith
