-- A scope that is listed from the last symbol to the first.
use Rattle.std.proofs.Common.{◌≡◌, List, [], ◌∷◌, ◌++◌, map, filter, reverse, Option, Some, None, Bool, true, false, not, ◌&&◌, ◌||◌, if◌then◌else◌, append_assoc, refl, sym, ap, ap₂, ◌∙◌}
use Rattle.std.specs.List.{list_any}
use Rattle.std.proofs.lemmas.List.{append-nil, reverse-append}
use Rattle.std.proofs.lemmas.List.Elements.{filter-append, filter_agree}
use Rattle.lq_logic_predicates.specs.SameLaws.{same-is, same-symm}
use Rattle.lq_logic_predicates.specs.Sum.{var, same_symbol}
use Rattle.lq_logic_predicates.specs.declared.symbol.Symbol.{Symbol}
use Rattle.lq_logic_predicates.specs.declared.symbol.Symbol.TheVariants.{Value, Bound, Position}
use Rattle.lq_logic_predicates.specs.contracts.symbol.SymbolPartialEq.TheImpl as symbols
use Rattle.lq_refined_instances.specs.Listed.{is_among, is_wanted, not_among, wanted, with_hidden}
use Rattle.lq_text_qualifiers.specs.Faults.Shapes.{Shape}
use Rattle.lq_refined_instances.specs.Scopes.{Visible, Scope, is_hidden, without}

-- symbols are compared by what they are
symbol-eq : (x y : Symbol) → (symbols.eq-value).it x y ≡ same_symbol x y
symbol-eq Value Value = refl
symbol-eq (Bound x) (Bound y) = refl
symbol-eq (Position i) (Position j) = refl
symbol-eq Value (Bound y) = refl
symbol-eq Value (Position j) = refl
symbol-eq (Bound x) Value = refl
symbol-eq (Bound x) (Position j) = refl
symbol-eq (Position i) Value = refl
symbol-eq (Position i) (Bound y) = refl

pub any_symbol : (x : Symbol) (xs : List Symbol) → list_any ((symbols.eq-value).it x) xs ≡ is_among xs x
any_symbol x [] = refl
any_symbol x (y ∷ xs) = ap₂ (λ a b. a || b) (symbol-eq x y) (any_symbol x xs)

same-turned : (x y : Symbol) → same_symbol x y ≡ same_symbol y x
same-turned x y = same-symm (var x) (var y)

same-symbol-is : (x y : Symbol) → same_symbol x y ≡ true → x ≡ y
same-symbol-is x y h = let e : var x ≡ var y = same-is (var x) (var y) h in cc

among-more : (xs : List Symbol) (y x : Symbol) → is_among (xs ++ y ∷ []) x ≡ (is_among xs x || same_symbol x y)
among-more [] y x = by (same_symbol x y)
  where
    by : (b : Bool) → (b || false) ≡ b
    by true = refl
    by false = refl
among-more (z ∷ xs) y x = ap (λ b. same_symbol x z || b) (among-more xs y x) ∙ by (same_symbol x z) (is_among xs x) (same_symbol x y)
  where
    by : (a b c : Bool) → (a || (b || c)) ≡ ((a || b) || c)
    by true b c = refl
    by false b c = refl

filter-twice : {X : Type 0} (p q : X → Bool) (xs : List X) → filter p (filter q xs) ≡ filter (λ x. p x && q x) xs
filter-twice p q [] = refl
filter-twice {X} p q (x ∷ xs) = by (q x) (p x) refl (filter-twice p q xs)
  where
    by : (b a : Bool) → p x ≡ a → filter p (filter q xs) ≡ filter (λ y. p y && q y) xs
        → filter p (if b then x ∷ filter q xs else filter q xs) ≡ (if a && b then x ∷ filter (λ y. p y && q y) xs else filter (λ y. p y && q y) xs)
    by true true e h = ap (λ c. if c then x ∷ filter p (filter q xs) else filter p (filter q xs)) e ∙ ap (λ l. x ∷ l) h
    by true false e h = ap (λ c. if c then x ∷ filter p (filter q xs) else filter p (filter q xs)) e ∙ h
    by false true e h = h
    by false false e h = h

-- what is hidden further is as if it had been hidden before
hides-more : (xs : List Symbol) (h : Option Visible) (Γ : Scope) → not_among xs (without h Γ) ≡ not_among (with_hidden xs h) Γ
hides-more xs None Γ = filter-twice (λ e. not (is_among xs e.0)) (λ e. true) Γ ∙ filter_agree (λ e. not (is_among xs e.0) && true) (λ e. not (is_among xs e.0)) (λ e. whole (not (is_among xs e.0))) Γ
  where
    whole : (b : Bool) → (b && true) ≡ b
    whole true = refl
    whole false = refl
hides-more xs (Some h) Γ =
    filter-twice (λ e. not (is_among xs e.0)) (λ e. not (same_symbol h.0 e.0)) Γ
    ∙ filter_agree (λ e. not (is_among xs e.0) && not (same_symbol h.0 e.0)) (λ e. not (is_among (with_hidden xs (Some h)) e.0)) (λ e. by e (is_among xs h.0) refl) Γ
  where
    two : (a b c : Bool) → b ≡ c → (not a && not b) ≡ not (a || c)
    two true b c e = refl
    two false b c e = ap not e

    by : (e : Visible) (b : Bool) → is_among xs h.0 ≡ b → (not (is_among xs e.0) && not (same_symbol h.0 e.0)) ≡ not (is_among (if b then xs else xs ++ h.0 ∷ []) e.0)
    by e false there =
        two (is_among xs e.0) (same_symbol h.0 e.0) (same_symbol e.0 h.0) (same-turned h.0 e.0) ∙ ap not (sym (among-more xs h.0 e.0))
    by e true there = held (same_symbol h.0 e.0) refl
      where
        held : (c : Bool) → same_symbol h.0 e.0 ≡ c → (not (is_among xs e.0) && not c) ≡ not (is_among xs e.0)
        held false g = plain (not (is_among xs e.0))
          where
            plain : (b : Bool) → (b && true) ≡ b
            plain true = refl
            plain false = refl
        held true g =
            let same : h.0 ≡ e.0 = same-symbol-is h.0 e.0 g in
            let k : is_among xs e.0 ≡ true = ap (is_among xs) (sym same) ∙ there in
            ap (λ b. not b && false) k ∙ ap not (sym k)

swapped : {X : Type 0} (p q : X → Bool) (xs : List X) → filter p (filter q xs) ≡ filter q (filter p xs)
swapped p q xs = filter-twice p q xs ∙ filter_agree (λ x. p x && q x) (λ x. q x && p x) (λ x. turned (p x) (q x)) xs ∙ sym (filter-twice q p xs)
  where
    turned : (a b : Bool) → (a && b) ≡ (b && a)
    turned true true = refl
    turned true false = refl
    turned false true = refl
    turned false false = refl

filter-one : {X : Type 0} (p : X → Bool) (x : X) (b : Bool) → p x ≡ b → filter p (x ∷ []) ≡ (if b then x ∷ [] else [])
filter-one p x b e = ap (λ (c : Bool). if c then x ∷ [] else []) e

-- what is found with one symbol further
one-further : (w : Option Shape) (xs : List Symbol) (v : Visible) (a b : Bool) → is_wanted w v ≡ a → is_among xs v.0 ≡ b
    → not_among xs (wanted w (v ∷ [])) ≡ (if a && not b then v ∷ [] else [])
one-further w xs v true b p q = ap (not_among xs) (filter-one (is_wanted w) v true p) ∙ filter-one (λ e. not (is_among xs e.0)) v (not b) (ap not q)
one-further w xs v false b p q = ap (not_among xs) (filter-one (is_wanted w) v false p)

-- one symbol further
pub walked : (w : Option Shape) (xs : List Symbol) (h : Option Visible) (Γ Δ : Scope) (v : Visible) (found more : Scope) → Δ ≡ without h Γ ++ v ∷ []
    → more ≡ (if is_wanted w v && not (is_among xs v.0) then v ∷ found else found)
    → not_among xs (wanted w Δ) ++ found ≡ not_among (with_hidden xs h) (wanted w Γ) ++ more
walked w xs h Γ Δ v found more shows is =
    ap (λ (l : Scope). not_among xs (wanted w l) ++ found) shows
    ∙ ap (λ (l : Scope). not_among xs l ++ found) (filter-append (is_wanted w) (without h Γ) (v ∷ []) ∙ ap (λ (l : Scope). l ++ wanted w (v ∷ [])) (swapped (is_wanted w) (λ e. not (is_hidden h e)) Γ))
    ∙ ap (λ (l : Scope). l ++ found) (filter-append (λ e. not (is_among xs e.0)) (without h (wanted w Γ)) (wanted w (v ∷ [])))
    ∙ append_assoc (not_among xs (without h (wanted w Γ))) (not_among xs (wanted w (v ∷ []))) found
    ∙ ap₂ (λ (l r : Scope). l ++ r) (hides-more xs h (wanted w Γ))
    (ap (λ (l : Scope). l ++ found) (one-further w xs v (is_wanted w v) (is_among xs v.0) refl refl) ∙ put (is_wanted w v && not (is_among xs v.0)) ∙ sym is)
  where
    put : (b : Bool) → (if b then v ∷ [] else []) ++ found ≡ (if b then v ∷ found else found)
    put true = refl
    put false = refl

pub among-none : (Γ : Scope) → not_among [] Γ ≡ Γ
among-none [] = refl
among-none (e ∷ Γ) = ap (λ (l : Scope). e ∷ l) (among-none Γ)

pub wanted-all : (Γ : Scope) → wanted None Γ ≡ Γ
wanted-all [] = refl
wanted-all (e ∷ Γ) = ap (λ (l : Scope). e ∷ l) (wanted-all Γ)

-- one more of those that aren't hidden
pub unhidden-step : (xs : List Symbol) (Γ : Scope) (v : Visible) (b : Bool) (left more : Scope) → b ≡ not (is_among xs v.0) → left ≡ not_among xs Γ → more ≡ (if b then left ++ v ∷ [] else left)
    → more ≡ not_among xs (Γ ++ v ∷ [])
unhidden-step xs Γ v b left more same inv is =
    is ∙ by b ∙ ap (λ (c : Bool). not_among xs Γ ++ (if c then v ∷ [] else [])) same ∙ sym (filter-append (λ e. not (is_among xs e.0)) Γ (v ∷ []))
  where
    by : (b : Bool) → (if b then left ++ v ∷ [] else left) ≡ not_among xs Γ ++ (if b then v ∷ [] else [])
    by true = ap (λ (l : Scope). l ++ v ∷ []) inv
    by false = inv ∙ sym (append-nil (not_among xs Γ))

-- a symbol that is found comes first where the list is turned
pub found-turned : {A : Type 0} (view : A → Visible) (b : Bool) (old new : List A) (v : A) → new ≡ (if b then old ++ v ∷ [] else old)
    → map view (reverse new) ≡ (if b then view v ∷ map view (reverse old) else map view (reverse old))
found-turned {A} view true old new v h = ap (λ (l : List A). map view (reverse l)) h ∙ ap (map view) (reverse-append old (v ∷ []))
found-turned {A} view false old new v h = ap (λ (l : List A). map view (reverse l)) h

pub hidden-put : (xs new : List Symbol) (x : Symbol) → new ≡ (if list_any ((symbols.eq-value).it x) xs then xs else xs ++ x ∷ []) → new ≡ (if is_among xs x then xs else xs ++ x ∷ [])
hidden-put xs new x h = h ∙ ap (λ b. if b then xs else xs ++ x ∷ []) (any_symbol x xs)
