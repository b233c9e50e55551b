-- Tables seen as lists of terms.
use Rattle.std.proofs.Common.{◌≡◌, ℕ, zero, suc, Bool, cond, ◌&&◌, List, [], ◌∷◌, ◌++◌, length, slice_get, Option, Some, None, option_to_list, IsSome, refl, sym, ap, ap₂, ◌∙◌}
use Rattle.std.specs.Map.{lookup}
use Rattle.std.specs.Str.{bytes_eq}
use Rattle.lq_logic_predicates.specs.Sum.{same_symbol}
use Rattle.lq_logic_predicates.specs.declared.symbol.Symbol.{Symbol}
use Rattle.lq_logic_predicates.specs.declared.symbol.Symbol.TheVariants.{Value, Bound, Position}
use Rattle.lq_logic_predicates.specs.contracts.symbol.SymbolPartialEq.TheImpl as symbols
use Rattle.lq_prover_congruence.specs.declared.classes.head.Head.{Head}
use Rattle.lq_prover_congruence.specs.declared.classes.head.Head.TheVariants.{Symbol as Named, Length, Measure}
use Rattle.lq_prover_congruence.specs.contracts.classes.head.HeadPartialEq.TheImpl as heads
use Rattle.lq_prover_congruence.specs.contracts.classes.table.KeyPartialEq.TheImpl as keys
use Rattle.lq_prover_congruence.specs.Classes.Terms.{Term, same_head, same_term, find_in, term_in}
use Rattle.lq_prover_congruence.specs.Classes.Keys.{term_of, entries_of}
use Rattle.lq_prover_congruence.specs.declared.classes.table.Key.{Key}

symbol-eq : (x y : Symbol) → (symbols.ghosts).eq x y ≡ same_symbol x y
symbol-eq Value Value = refl
symbol-eq (Bound x) (Bound y) = refl
symbol-eq (Position i) (Position j) = refl
symbol-eq Value (Bound y) = refl
symbol-eq Value (Position j) = refl
symbol-eq (Bound x) Value = refl
symbol-eq (Bound x) (Position j) = refl
symbol-eq (Position i) Value = refl
symbol-eq (Position i) (Bound y) = refl

pub head-eq : (h k : Head) → (heads.ghosts).eq h k ≡ same_head h k
head-eq (Named x) (Named y) = symbol-eq x y
head-eq Length Length = refl
head-eq (Measure f) (Measure g) = refl
head-eq (Named x) Length = refl
head-eq (Named x) (Measure g) = refl
head-eq Length (Named y) = refl
head-eq Length (Measure g) = refl
head-eq (Measure f) (Named y) = refl
head-eq (Measure f) Length = refl

pub key-eq : (k l : Key) → (keys.eq-value).it k l ≡ same_term (term_of k) (term_of l)
key-eq k l = ap (λ b. b && bytes_eq k.args.items l.args.items) (head-eq k.head l.head)

pub lookup-find : (test : Key → Bool) (t : Term) → ((k : Key) → test k ≡ same_term t (term_of k)) → (es : List (Key × ℕ)) → lookup test es ≡ find_in (entries_of es) t
lookup-find test t h [] = refl
lookup-find test t h (e ∷ es) = ap₂ (λ b r. cond b (Some e.1) r) (h e.0) (lookup-find test t h es)

pub entries-append : (xs ys : List (Key × ℕ)) → entries_of (xs ++ ys) ≡ entries_of xs ++ entries_of ys
entries-append [] ys = refl
entries-append (x ∷ xs) ys = ap (λ l. (term_of x.0, x.1) ∷ l) (entries-append xs ys)

pub length-entries : (xs : List (Key × ℕ)) → length (entries_of xs) ≡ length xs
length-entries [] = refl
length-entries (x ∷ xs) = ap suc (length-entries xs)

pub term-entry : (es : List (Key × ℕ)) (i : ℕ) (k : Key) (v : ℕ) → slice_get es i ≡ Some (k, v) → term_of k ≡ term_in (entries_of es) i
term-entry [] i k v h = cc
term-entry (e ∷ es) zero k v h = let q : e ≡ (k, v) = cc in ap (λ x. term_of x.0) (sym q)
term-entry (e ∷ es) (suc i) k v h = term-entry es i k v h

pub popped : (old new : List (Key × ℕ)) (r : Option (Key × ℕ)) (seen : List (Term × ℕ)) → entries_of old ≡ seen → old ≡ new ++ option_to_list r → IsSome r → (x : Term × ℕ) × (seen ≡ entries_of new ++ x ∷ [])
popped old new (Some p) seen h e k = ((term_of p.0, p.1), sym h ∙ ap entries_of e ∙ entries-append new (p ∷ []))
popped old new None seen h e k = cc

pub inserted : (es new : List (Key × ℕ)) (k : Key) (v : ℕ) (seen : List (Term × ℕ)) → entries_of es ≡ seen → new ≡ es ++ (k, v) ∷ [] → entries_of new ≡ seen ++ (term_of k, v) ∷ []
inserted es new k v seen h e = ap entries_of e ∙ entries-append es ((k, v) ∷ []) ∙ ap (λ l. l ++ (term_of k, v) ∷ []) h
