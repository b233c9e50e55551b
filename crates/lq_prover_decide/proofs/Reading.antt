-- Flags, put into a map one after the other.
use Rattle.std.proofs.Common.{◌≡◌, ℕ, zero, suc, List, [], ◌∷◌, ◌++◌, Bool, true, false, cond, Some, length, map, take, slice_get, refl, ap, ◌∙◌}
use Rattle.std.proofs.lemmas.List.{map-append}
use Rattle.lq_prover_proof_tree.specs.Trees.Path.{Fact, flag_fact}
use Rattle.lq_logic_points.specs.Values.{flag_value}
use Rattle.lq_logic_predicates.specs.SameLaws.{same-from, same-is}
use Rattle.lq_logic_predicates.specs.Sum.{same_symbol, var}
use Rattle.lq_logic_predicates.specs.declared.symbol.Symbol.{Symbol}
use Rattle.lq_prover_decide.specs.Case.{fact_of}
use Rattle.lq_prover_decide.specs.declared.fact.Fact as code
use Rattle.lq_prover_decide.specs.Settled.{AgreeOnFlags, HasFlags}
use Rattle.lq_prover_case.proofs.EquationsLemmas.Sides.{parted, push_each}

pub get_append : {X : Type 0} (xs ys : List X) (k : ℕ) (x : X) → slice_get xs k ≡ Some x → slice_get (xs ++ ys) k ≡ Some x
get_append {X} [] ys k x e = cc
get_append {X} (y ∷ xs) ys zero x e = e
get_append {X} (y ∷ xs) ys (suc k) x e = get_append xs ys k x e

last_get : {X : Type 0} (xs : List X) (x : X) → slice_get (xs ++ x ∷ []) (length xs) ≡ Some x
last_get {X} [] x = refl
last_get {X} (y ∷ xs) x = last_get xs x

pub agree_first : {X : Type 0} (view : X → Fact) (xs : List X) (n : ℕ) → AgreeOnFlags (map view xs) → AgreeOnFlags (map view (take n xs))
agree_first {X} view xs n h =
    let p = parted n xs in
    let is : map view xs ≡ map view (take n xs) ++ map view p.0 = ap (map view) p.1 ∙ map-append view (take n xs) p.0 in
    λ j k x b c e f. h j k x b c (ap (λ l. slice_get l j) is ∙ get_append (map view (take n xs)) (map view p.0) j (flag_fact x b) e)
    (ap (λ l. slice_get l k) is ∙ get_append (map view (take n xs)) (map view p.0) k (flag_fact x c) f)

same_flag : (x y : Symbol) → same_symbol x y ≡ true → x ≡ y
same_flag x y h = let e : var x ≡ var y = same-is (var x) (var y) h in cc

same_parts : (x y : Symbol) (b c : Bool) → flag_fact x b ≡ flag_fact y c → (x ≡ y) × (b ≡ c)
same_parts x y b c e = (cc, cc)

pub flags_push : (facts : List Fact) (old new : List (Symbol × Bool)) (x : Symbol) (b : Bool) → AgreeOnFlags (facts ++ flag_fact x b ∷ [])
    → ((y : Symbol) → flag_value new y ≡ cond (same_symbol x y) (Some b) (flag_value old y)) → HasFlags facts old → HasFlags (facts ++ flag_fact x b ∷ []) new
flags_push facts old new x b agree updates h k y v e =
    push_each (λ z. (y : Symbol) (v : Bool) → z ≡ flag_fact y v → flag_value new y ≡ Some v) facts (flag_fact x b) (flag_fact y v) k
    (λ j z g y v is. updates y ∙ earlier j y v (g ∙ ap Some is) (same_symbol x y) refl) (λ y v is. updates y ∙ latest y v is (same_symbol x y) refl) e y v refl
  where
    earlier : (j : ℕ) (y : Symbol) (v : Bool) → slice_get facts j ≡ Some (flag_fact y v) → (c : Bool) → same_symbol x y ≡ c → cond c (Some b) (flag_value old y) ≡ Some v
    earlier j y v g true s =
        let one : x ≡ y = same_flag x y s in
        ap Some (agree (length facts) j y b v (last_get facts (flag_fact x b) ∙ ap (λ z. Some (flag_fact z b)) one) (get_append facts (flag_fact x b ∷ []) j (flag_fact y v) g))
    earlier j y v g false s = h j y v g

    latest : (y : Symbol) (v : Bool) → flag_fact x b ≡ flag_fact y v → (c : Bool) → same_symbol x y ≡ c → cond c (Some b) (flag_value old y) ≡ Some v
    latest y v is true s = ap Some (same_parts x y b v is).1
    latest y v is false s =
        let one : x ≡ y = (same_parts x y b v is).0 in
        let t = same-from (var x) (var y) (ap var one) in cc

-- a literal that is no flag
pub flags_still : (facts : List Fact) (flags : List (Symbol × Bool)) (f : Fact) → ((y : Symbol) (v : Bool) → f ≡ flag_fact y v → ⊥) → HasFlags facts flags → HasFlags (facts ++ f ∷ []) flags
flags_still facts flags f none h k y v e =
    push_each (λ z. (y : Symbol) (v : Bool) → z ≡ flag_fact y v → flag_value flags y ≡ Some v) facts f (flag_fact y v) k (λ j z g y v is. h j y v (g ∙ ap Some is))
    (λ y v is. absurd (none y v is)) e y v refl

pub no_flag : (f : code.Fact) → ((x : Symbol) (b : Bool) → f ≡ code.TheVariants.Flag x b → ⊥) → (y : Symbol) (v : Bool) → fact_of f ≡ flag_fact y v → ⊥
no_flag (code.TheVariants.Row r) none y v e = cc
no_flag (code.TheVariants.Flag x b) none y v e = none x b refl
no_flag (code.TheVariants.Same a b one) none y v e = cc
