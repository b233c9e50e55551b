-- Names that are bound and found in rows, one element after another.
use Rattle.std.proofs.Common.{◌≡◌, ℕ, ◌+◌, ◌<◌, Bool, true, false, nat_eq, List, [], ◌∷◌, ◌++◌, map, take, drop, get_or, length, if◌then◌else◌, append_assoc, refl, sym, ap, ◌∙◌}
use Rattle.std.specs.List.{list_any}
use Rattle.std.proofs.lemmas.List.{at_drop_more, append-nil}
use Rattle.std.proofs.lemmas.List.Sums.{fold-append}
use Rattle.std.proofs.Math.Seq.{take-append_seam}
use Rattle.indexmap.specs.IndexSet.{insert_key, insert_all}
use Rattle.lq_text_tree.specs.Finding.{found_in, found_in_all, found_in_cases}
use Rattle.lq_text_tree.specs.Pattern.{Pattern, bound_in, bound_in_all}
use Rattle.lq_text_tree.specs.PatternView.{patterns_of}
use Rattle.lq_text_tree.specs.Tree.{Tree}
use Rattle.lq_text_tree.specs.TreeView.{Case, cases_of, trees_of}

pub bound_more : {X : Type 0} (f : X → Pattern) (xs : List X) (i : ℕ) (d : X) (bound new total : List ℕ) → i < length xs → d ≡ get_or xs i d → new ≡ insert_all nat_eq bound (bound_in (f d)) → insert_all nat_eq bound (bound_in_all (patterns_of (map f (drop i xs)))) ≡ total → insert_all nat_eq new (bound_in_all (patterns_of (map f (drop (i + 1) xs)))) ≡ total
bound_more f xs i d bound new total within is now so_far =
    ap (λ b. insert_all nat_eq b (bound_in_all (patterns_of (map f (drop (i + 1) xs))))) (now ∙ ap (λ x. insert_all nat_eq bound (bound_in (f x))) is)
    ∙ sym (fold-append (insert_key nat_eq) bound (bound_in (f (get_or xs i d))) (bound_in_all (patterns_of (map f (drop (i + 1) xs)))))
    ∙ sym (at_drop_more (λ l. insert_all nat_eq bound (bound_in_all (patterns_of (map f l)))) xs i d within)
    ∙ so_far

pub found_more : {X : Type 0} (f : X → Tree) (xs : List X) (i : ℕ) (d : X) (bound found new total : List ℕ) → i < length xs → d ≡ get_or xs i d → new ≡ found_in bound found (f d) → found_in_all bound found (trees_of (map f (drop i xs))) ≡ total → found_in_all bound new (trees_of (map f (drop (i + 1) xs))) ≡ total
found_more f xs i d bound found new total within is now so_far =
    ap (λ b. found_in_all bound b (trees_of (map f (drop (i + 1) xs)))) (now ∙ ap (λ x. found_in bound found (f x)) is)
    ∙ sym (at_drop_more (λ l. found_in_all bound found (trees_of (map f l))) xs i d within)
    ∙ so_far

pub found_cases_more : {X : Type 0} (f : X → Case) (xs : List X) (i : ℕ) (d : X) (bound found new total : List ℕ) → i < length xs → d ≡ get_or xs i d → new ≡ found_in (insert_all nat_eq bound (bound_in (f d).pattern)) found (f d).body → found_in_cases bound found (cases_of (map f (drop i xs))) ≡ total → found_in_cases bound new (cases_of (map f (drop (i + 1) xs))) ≡ total
found_cases_more f xs i d bound found new total within is now so_far =
    ap (λ b. found_in_cases bound b (cases_of (map f (drop (i + 1) xs)))) (now ∙ ap (λ x. found_in (insert_all nat_eq bound (bound_in (f x).pattern)) found (f x).body) is)
    ∙ sym (at_drop_more (λ l. found_in_cases bound found (cases_of (map f l))) xs i d within)
    ∙ so_far

-- what was bound stands first
one_after : (bound : List ℕ) (x : ℕ) → (more : List ℕ) × (insert_key nat_eq bound x ≡ bound ++ more)
one_after bound x = by (list_any (nat_eq x) bound) refl
  where
    by : (b : Bool) → list_any (nat_eq x) bound ≡ b → (more : List ℕ) × (insert_key nat_eq bound x ≡ bound ++ more)
    by true e = ([], ap (λ c. if c then bound else bound ++ x ∷ []) e ∙ sym (append-nil bound))
    by false e = (x ∷ [], ap (λ c. if c then bound else bound ++ x ∷ []) e)

all_after : (bound xs : List ℕ) → (more : List ℕ) × (insert_all nat_eq bound xs ≡ bound ++ more)
all_after bound [] = ([], sym (append-nil bound))
all_after bound (x ∷ xs) =
    let one = one_after bound x in
    let rest = all_after (insert_key nat_eq bound x) xs in
    (one.0 ++ rest.0, rest.1 ∙ ap (λ l. l ++ rest.0) one.1 ∙ append_assoc bound one.0 rest.0)

-- so a part of the length that was there is what was bound
pub take-insert_key : (bound : List ℕ) (x : ℕ) → take (length bound) (insert_key nat_eq bound x) ≡ bound
take-insert_key bound x =
    let r = one_after bound x in ap (take (length bound)) r.1 ∙ take-append_seam bound r.0

pub take-insert_all : (bound xs : List ℕ) → take (length bound) (insert_all nat_eq bound xs) ≡ bound
take-insert_all bound xs =
    let r = all_after bound xs in ap (take (length bound)) r.1 ∙ take-append_seam bound r.0
