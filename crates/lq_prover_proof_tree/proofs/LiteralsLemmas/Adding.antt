-- Leaves, flags, objects and places, one more at a time.
use Rattle.std.proofs.Common.{◌≡◌, ℕ, zero, suc, ◌+◌, ◌<◌, take, get_or, slice_get, Some, List, [], ◌∷◌, ◌++◌, Bool, true, false, map, length, refl, sym, ap, ap₂, ◌∙◌, append_assoc, if◌then◌else◌, arith, ◌||◌}
use Rattle.std.specs.List.{list_any}
use Rattle.std.proofs.lemmas.List.{append-nil, map_push, take_more}
use Rattle.lq_logic_predicates.specs.Formula.{Formula}
use Rattle.lq_logic_predicates.specs.Literals.{positive}
use Rattle.lq_logic_predicates.specs.PredView.{formula_of}
use Rattle.lq_logic_predicates.specs.Sum.{Sum, same, same_symbol}
use Rattle.lq_logic_predicates.specs.Table.{has_term, with_term}
use Rattle.lq_logic_predicates.specs.TermView.{sum_of}
use Rattle.lq_logic_predicates.specs.declared.pred.Pred.{Pred}
use Rattle.lq_logic_predicates.specs.declared.symbol.Symbol.{Symbol}
use Rattle.lq_logic_predicates.specs.declared.symbol.Symbol.TheVariants.{Value, Bound, Position}
use Rattle.lq_logic_predicates.specs.contracts.symbol.SymbolPartialEq.TheImpl as symbols
use Rattle.lq_logic_predicates.specs.declared.term.Term.{Term}
use Rattle.lq_prover_proof_tree.specs.Literals.LeafView.{leaf_view, leaf_views}
use Rattle.lq_prover_proof_tree.specs.declared.literals.leaf.Leaf.{Leaf as CodeLeaf}
use Rattle.lq_prover_proof_tree.specs.Literals.Leaves.{Leaf, leaves_of, each_leaves}
use Rattle.lq_prover_proof_tree.specs.Literals.Parts.{with_flag, flags_with, flags_after, objects_with, objects_after, is_application, places_from}

pub each_leaves-push : (ps : List Formula) (p : Formula) → each_leaves (ps ++ p ∷ []) ≡ each_leaves ps ++ leaves_of positive p
each_leaves-push [] p = append-nil (leaves_of positive p)
each_leaves-push (q ∷ ps) p = ap (λ x. leaves_of positive q ++ x) (each_leaves-push ps p) ∙ sym (append_assoc (leaves_of positive q) (each_leaves ps) (leaves_of positive p))

pub flags_after-push : (xs : List Symbol) (ls : List Leaf) (l : Leaf) → flags_after xs (ls ++ l ∷ []) ≡ flags_with (flags_after xs ls) l.formula
flags_after-push xs [] l = refl
flags_after-push xs (m ∷ ls) l = flags_after-push (flags_with xs m.formula) ls l

pub objects_after-push : (os : List Sum) (ls : List Leaf) (l : Leaf) → objects_after os (ls ++ l ∷ []) ≡ objects_with (objects_after os ls) l.formula
objects_after-push os [] l = refl
objects_after-push os (m ∷ ls) l = objects_after-push (objects_with os m.formula) ls l

-- symbols are compared by what they are
symbol-eq : (x y : Symbol) → (symbols.eq-value).it x y ≡ same_symbol x y
symbol-eq Value Value = refl
symbol-eq (Bound x) (Bound y) = refl
symbol-eq (Position i) (Position j) = refl
symbol-eq Value (Bound y) = refl
symbol-eq Value (Position j) = refl
symbol-eq (Bound x) Value = refl
symbol-eq (Bound x) (Position j) = refl
symbol-eq (Position i) Value = refl
symbol-eq (Position i) (Bound y) = refl

any_symbol : (x : Symbol) (xs : List Symbol) → list_any ((symbols.eq-value).it x) xs ≡ list_any (same_symbol x) xs
any_symbol x [] = refl
any_symbol x (y ∷ xs) = ap₂ (λ a b. a || b) (symbol-eq x y) (any_symbol x xs)

pub flag_put : (x : Symbol) (xs new : List Symbol) → new ≡ (if list_any ((symbols.eq-value).it x) xs then xs else xs ++ x ∷ []) → new ≡ with_flag xs x
flag_put x xs new e = e ∙ ap (λ b. if b then xs else xs ++ x ∷ []) (any_symbol x xs)

-- whether a term is among the keys
pub has_key : (terms : List Term) (t : Sum) → has_term (map sum_of terms) t ≡ list_any (λ k. same t (sum_of k)) terms
has_key [] t = refl
has_key (k ∷ terms) t = ap (λ b. same t (sum_of k) || b) (has_key terms t)

-- the keys after one more was put in, as sums
pub keys_with : (keys : List Term) (k : Term) (s : Sum) (new : List Term) → sum_of k ≡ s
    → new ≡ (if list_any (λ u. same (sum_of k) (sum_of u)) keys then keys else keys ++ k ∷ []) → map sum_of new ≡ with_term (map sum_of keys) s
keys_with keys k s new e h =
    ap (map sum_of) h ∙ by (list_any (λ u. same (sum_of k) (sum_of u)) keys) ∙ ap (λ b. if b then map sum_of keys else map sum_of keys ++ s ∷ []) (sym (has_key keys (sum_of k)))
    ∙ ap (λ u. if has_term (map sum_of keys) u then map sum_of keys else map sum_of keys ++ s ∷ []) e
  where
    by : (b : Bool) → map sum_of (if b then keys else keys ++ k ∷ []) ≡ (if b then map sum_of keys else map sum_of keys ++ s ∷ [])
    by true = refl
    by false = map_push sum_of keys k ∙ ap (λ u. map sum_of keys ++ u ∷ []) e

take_next : (ts : List Sum) (i : ℕ) (t : Sum) → slice_get ts i ≡ Some t → take (i + 1) ts ≡ take i ts ++ t ∷ []
take_next [] i t e = cc
take_next (u ∷ ts) zero t e = let same_one : u ≡ t = cc in ap (λ x. x ∷ []) same_one
take_next (u ∷ ts) (suc i) t e =
    let k : suc i + 1 ≡ suc (i + 1) = omega arith in ap (λ n. take n (u ∷ ts)) k ∙ ap (λ l. u ∷ l) (take_next ts i t e)

length_front : (ts : List Sum) (i : ℕ) (t : Sum) → slice_get ts i ≡ Some t → 0 + length (take i ts) ≡ i
length_front [] i t e = cc
length_front (u ∷ ts) zero t e = refl
length_front (u ∷ ts) (suc i) t e = let h = length_front ts i t e in omega arith

places_by : (n : ℕ) (ts : List Sum) (t u : Sum) (b : Bool)
    → places_from (suc n) (ts ++ t ∷ []) ≡ places_from (suc n) ts ++ (if is_application t then (suc n + length ts) ∷ [] else [])
    → (if b then n ∷ places_from (suc n) (ts ++ t ∷ []) else places_from (suc n) (ts ++ t ∷ []))
    ≡ (if b then n ∷ places_from (suc n) ts else places_from (suc n) ts) ++ (if is_application t then (n + suc (length ts)) ∷ [] else [])
places_by n ts t u true e = let s : suc n + length ts ≡ n + suc (length ts) = omega arith in ap (λ x. n ∷ x) (e ∙ ap (λ k. places_from (suc n) ts ++ (if is_application t then k ∷ [] else [])) s)
places_by n ts t u false e = let s : suc n + length ts ≡ n + suc (length ts) = omega arith in e ∙ ap (λ k. places_from (suc n) ts ++ (if is_application t then k ∷ [] else [])) s

pub places-push : (n : ℕ) (ts : List Sum) (t : Sum) → places_from n (ts ++ t ∷ []) ≡ places_from n ts ++ (if is_application t then (n + length ts) ∷ [] else [])
places-push n [] t = let s : n + 0 ≡ n = omega arith in ap (λ k. if is_application t then k ∷ [] else []) (sym s)
places-push n (u ∷ ts) t = places_by n ts t u (is_application u) (places-push (suc n) ts t)

-- one more of a list that is gone through
pub places-more : (ts : List Sum) (i : ℕ) (t : Sum) → slice_get ts i ≡ Some t
    → places_from 0 (take (i + 1) ts) ≡ places_from 0 (take i ts) ++ (if is_application t then i ∷ [] else [])
places-more ts i t e =
    ap (places_from 0) (take_next ts i t e) ∙ places-push 0 (take i ts) t
    ∙ ap (λ k. places_from 0 (take i ts) ++ (if is_application t then k ∷ [] else [])) (length_front ts i t e)

pub each_leaves-more : (ps : List Pred) (i : ℕ) (d : Pred) → i < length ps → d ≡ get_or ps i d
    → each_leaves (map formula_of (take (i + 1) ps)) ≡ each_leaves (map formula_of (take i ps)) ++ leaves_of positive (formula_of d)
each_leaves-more ps i d h e =
    ap (λ l. each_leaves (map formula_of l)) (take_more ps i d h) ∙ ap each_leaves (map_push formula_of (take i ps) (get_or ps i d))
    ∙ each_leaves-push (map formula_of (take i ps)) (formula_of (get_or ps i d))
    ∙ ap (λ p. each_leaves (map formula_of (take i ps)) ++ leaves_of positive (formula_of p)) (sym e)

pub flags-more : (ls : List CodeLeaf) (i : ℕ) (d : CodeLeaf) → i < length ls → d ≡ get_or ls i d
    → flags_after [] (leaf_views (take (i + 1) ls)) ≡ flags_with (flags_after [] (leaf_views (take i ls))) (formula_of d.pred.now)
flags-more ls i d h e =
    ap (λ l. flags_after [] (leaf_views l)) (take_more ls i d h) ∙ ap (flags_after []) (map_push leaf_view (take i ls) (get_or ls i d))
    ∙ flags_after-push [] (leaf_views (take i ls)) (leaf_view (get_or ls i d))
    ∙ ap (λ (l : CodeLeaf). flags_with (flags_after [] (leaf_views (take i ls))) (formula_of l.pred.now)) (sym e)

pub objects-more : (ls : List CodeLeaf) (i : ℕ) (d : CodeLeaf) → i < length ls → d ≡ get_or ls i d
    → objects_after [] (leaf_views (take (i + 1) ls)) ≡ objects_with (objects_after [] (leaf_views (take i ls))) (formula_of d.pred.now)
objects-more ls i d h e =
    ap (λ l. objects_after [] (leaf_views l)) (take_more ls i d h) ∙ ap (objects_after []) (map_push leaf_view (take i ls) (get_or ls i d))
    ∙ objects_after-push [] (leaf_views (take i ls)) (leaf_view (get_or ls i d))
    ∙ ap (λ (l : CodeLeaf). objects_with (objects_after [] (leaf_views (take i ls))) (formula_of l.pred.now)) (sym e)
