-- The names found in a tree are its free uses, each once.
use Rattle.std.proofs.Common.{◌≡◌, ℕ, Bool, true, false, not, ◌||◌, nat_eq, List, [], ◌∷◌, ◌++◌, fold, cond, if◌then◌else◌, refl, sym, ap, ◌∙◌, append_assoc}
use Rattle.std.specs.List.{list_any}
use Rattle.std.proofs.lemmas.Bool.{eqb-true}
use Rattle.std.proofs.lemmas.List.{append-nil}
use Rattle.std.proofs.lemmas.List.Folds.{list_any-append}
use Rattle.std.proofs.lemmas.List.Sums.{fold-append}
use Rattle.indexmap.specs.IndexSet.{insert_key, insert_all}
use Rattle.lq_text_tree.specs.Finding.{noted, found_in, found_in_form, found_in_all, found_in_cases}
use Rattle.lq_text_tree.specs.FreeNames.{without, firsts, free_uses, free_uses_in, free_uses_of_all, free_uses_of_cases, free_names}
use Rattle.lq_text_tree.specs.Pattern.{bound_in}
use Rattle.lq_text_tree.specs.Tree.{Tree, tree, Form, whole, flag, unit, use_of, qualified, fun, tuple, build, list_of, let_in, let_rec, call, arithmetic, negated, compare, not_of, and_of, or_of, if_else, match_on, chain, assert, assert_false, make, length_of, fetch, store, print, read, map_empty, map_add, map_find, Trees, no_trees, more_trees, Cases, no_cases, more_cases}

-- a list of uses, noted one after another
abbrev pub noted_all : List ℕ → List ℕ → List ℕ → List ℕ
noted_all bound found xs = fold (noted bound) found xs

noted_all-append : (bound found xs ys : List ℕ) → noted_all bound found (xs ++ ys) ≡ noted_all bound (noted_all bound found xs) ys
noted_all-append bound found xs ys = fold-append (noted bound) found xs ys

or_known : (b c : Bool) → (c ≡ true → b ≡ true) → b ≡ (b || c)
or_known true c h = refl
or_known false true h = h refl
or_known false false h = refl

or_false : (b : Bool) → (b || false) ≡ b
or_false true = refl
or_false false = refl

or_true : (b : Bool) → (b || true) ≡ true
or_true true = refl
or_true false = refl

or_assoc : (a b c : Bool) → ((a || b) || c) ≡ (a || (b || c))
or_assoc true b c = refl
or_assoc false b c = refl

-- a name is bound after an insertion where it was before or is inserted
is_in-insert_key : (x : ℕ) (bound : List ℕ) (k : ℕ) → list_any (nat_eq x) (insert_key nat_eq bound k) ≡ (list_any (nat_eq x) bound || nat_eq x k)
is_in-insert_key x bound k = by (list_any (nat_eq k) bound) refl
  where
    by : (b : Bool) → list_any (nat_eq k) bound ≡ b → list_any (nat_eq x) (insert_key nat_eq bound k) ≡ (list_any (nat_eq x) bound || nat_eq x k)
    by true e =
        ap (λ c. list_any (nat_eq x) (if c then bound else bound ++ k ∷ [])) e
        ∙ or_known (list_any (nat_eq x) bound) (nat_eq x k) (λ same. ap (λ y. list_any (nat_eq y) bound) (eqb-true x k same) ∙ e)
    by false e =
        ap (λ c. list_any (nat_eq x) (if c then bound else bound ++ k ∷ [])) e
        ∙ list_any-append (nat_eq x) bound (k ∷ [])
        ∙ ap (λ c. list_any (nat_eq x) bound || c) (or_false (nat_eq x k))

is_in-insert_all : (x : ℕ) (bound ps : List ℕ) → list_any (nat_eq x) (insert_all nat_eq bound ps) ≡ (list_any (nat_eq x) bound || list_any (nat_eq x) ps)
is_in-insert_all x bound [] = sym (or_false (list_any (nat_eq x) bound))
is_in-insert_all x bound (p ∷ ps) =
    is_in-insert_all x (insert_key nat_eq bound p) ps
    ∙ ap (λ b. b || list_any (nat_eq x) ps) (is_in-insert_key x bound p)
    ∙ or_assoc (list_any (nat_eq x) bound) (nat_eq x p) (list_any (nat_eq x) ps)

-- what is bound too is left out
noted_under : (bound ps found xs : List ℕ) → noted_all (insert_all nat_eq bound ps) found xs ≡ noted_all bound found (without ps xs)
noted_under bound ps found [] = refl
noted_under bound ps found (x ∷ xs) =
    noted_under bound ps (noted (insert_all nat_eq bound ps) found x) xs ∙ by (list_any (nat_eq x) ps) refl
  where
    by : (b : Bool) → list_any (nat_eq x) ps ≡ b → noted_all bound (noted (insert_all nat_eq bound ps) found x) (without ps xs) ≡ noted_all bound found (without ps (x ∷ xs))
    by true e =
        ap (λ c. noted_all bound (if c then found else insert_key nat_eq found x) (without ps xs)) (is_in-insert_all x bound ps ∙ ap (λ c. list_any (nat_eq x) bound || c) e ∙ or_true (list_any (nat_eq x) bound))
        ∙ sym (ap (λ c. noted_all bound found (cond (not c) (x ∷ without ps xs) (without ps xs))) e)
    by false e =
        ap (λ c. noted_all bound (if c then found else insert_key nat_eq found x) (without ps xs)) (is_in-insert_all x bound ps ∙ ap (λ c. list_any (nat_eq x) bound || c) e ∙ or_false (list_any (nat_eq x) bound))
        ∙ sym (ap (λ c. noted_all bound found (cond (not c) (x ∷ without ps xs) (without ps xs))) e)

-- one list of uses after another
both : (bound found middle last xs ys : List ℕ) → middle ≡ noted_all bound found xs → last ≡ noted_all bound middle ys → last ≡ noted_all bound found (xs ++ ys)
both bound found middle last xs ys first second =
    second ∙ ap (λ o. noted_all bound o ys) first ∙ sym (noted_all-append bound found xs ys)

three : (bound found middle later last xs ys zs : List ℕ) → middle ≡ noted_all bound found xs → later ≡ noted_all bound middle ys → last ≡ noted_all bound later zs → last ≡ noted_all bound found (xs ++ (ys ++ zs))
three bound found middle later last xs ys zs first second third =
    both bound found middle last xs (ys ++ zs) first (both bound middle later last ys zs second third)

-- the names found in a tree are its free uses
mutual
  in_tree : (bound found : List ℕ) (t : Tree) → found_in bound found t ≡ noted_all bound found (free_uses t)
  in_tree bound found (tree i p f) = in_form bound found f

  in_form : (bound found : List ℕ) (f : Form) → found_in_form bound found f ≡ noted_all bound found (free_uses_in f)
  in_form bound found (whole n) = refl
  in_form bound found (flag b) = refl
  in_form bound found unit = refl
  in_form bound found (use_of x) = refl
  in_form bound found (qualified m x) = refl
  in_form bound found (fun p b) = in_tree (insert_all nat_eq bound (bound_in p)) found b ∙ noted_under bound (bound_in p) found (free_uses b)
  in_form bound found (tuple es) = in_all bound found es
  in_form bound found (build c w es) = in_all bound found es
  in_form bound found (list_of es) = in_all bound found es
  in_form bound found (let_in p e b) =
      both bound found (found_in bound found e) _ (free_uses e) (without (bound_in p) (free_uses b)) (in_tree bound found e) (in_tree (insert_all nat_eq bound (bound_in p)) (found_in bound found e) b ∙ noted_under bound (bound_in p) (found_in bound found e) (free_uses b))
  in_form bound found (let_rec f i p q e b) =
      both (insert_key nat_eq bound f) found (found_in (insert_all nat_eq (insert_key nat_eq bound f) (bound_in q)) found e) _ (without (bound_in q) (free_uses e)) (free_uses b) (in_tree (insert_all nat_eq (insert_key nat_eq bound f) (bound_in q)) found e ∙ noted_under (insert_key nat_eq bound f) (bound_in q) found (free_uses e)) (in_tree (insert_key nat_eq bound f) (found_in (insert_all nat_eq (insert_key nat_eq bound f) (bound_in q)) found e) b)
      ∙ noted_under bound (f ∷ []) found (without (bound_in q) (free_uses e) ++ free_uses b)
  in_form bound found (call f a) = both bound found (found_in bound found f) _ (free_uses f) (free_uses a) (in_tree bound found f) (in_tree bound (found_in bound found f) a)
  in_form bound found (arithmetic o a b) = both bound found (found_in bound found a) _ (free_uses a) (free_uses b) (in_tree bound found a) (in_tree bound (found_in bound found a) b)
  in_form bound found (negated e) = in_tree bound found e
  in_form bound found (compare o a b) = both bound found (found_in bound found a) _ (free_uses a) (free_uses b) (in_tree bound found a) (in_tree bound (found_in bound found a) b)
  in_form bound found (not_of e) = in_tree bound found e
  in_form bound found (and_of a b) = both bound found (found_in bound found a) _ (free_uses a) (free_uses b) (in_tree bound found a) (in_tree bound (found_in bound found a) b)
  in_form bound found (or_of a b) = both bound found (found_in bound found a) _ (free_uses a) (free_uses b) (in_tree bound found a) (in_tree bound (found_in bound found a) b)
  in_form bound found (if_else c a b) = three bound found (found_in bound found c) (found_in bound (found_in bound found c) a) _ (free_uses c) (free_uses a) (free_uses b) (in_tree bound found c) (in_tree bound (found_in bound found c) a) (in_tree bound (found_in bound (found_in bound found c) a) b)
  in_form bound found (match_on e cs) = both bound found (found_in bound found e) _ (free_uses e) (free_uses_of_cases cs) (in_tree bound found e) (in_cases bound (found_in bound found e) cs)
  in_form bound found (chain es) = in_all bound found es
  in_form bound found (assert e) = in_tree bound found e
  in_form bound found assert_false = refl
  in_form bound found (make n e) = both bound found (found_in bound found n) _ (free_uses n) (free_uses e) (in_tree bound found n) (in_tree bound (found_in bound found n) e)
  in_form bound found (length_of a) = in_tree bound found a
  in_form bound found (fetch a i) = both bound found (found_in bound found a) _ (free_uses a) (free_uses i) (in_tree bound found a) (in_tree bound (found_in bound found a) i)
  in_form bound found (store a i e) = three bound found (found_in bound found a) (found_in bound (found_in bound found a) i) _ (free_uses a) (free_uses i) (free_uses e) (in_tree bound found a) (in_tree bound (found_in bound found a) i) (in_tree bound (found_in bound (found_in bound found a) i) e)
  in_form bound found (print e) = in_tree bound found e
  in_form bound found (read e) = in_tree bound found e
  in_form bound found map_empty = refl
  in_form bound found (map_add k e m) = three bound found (found_in bound found k) (found_in bound (found_in bound found k) e) _ (free_uses k) (free_uses e) (free_uses m) (in_tree bound found k) (in_tree bound (found_in bound found k) e) (in_tree bound (found_in bound (found_in bound found k) e) m)
  in_form bound found (map_find k m) = both bound found (found_in bound found k) _ (free_uses k) (free_uses m) (in_tree bound found k) (in_tree bound (found_in bound found k) m)

  in_all : (bound found : List ℕ) (es : Trees) → found_in_all bound found es ≡ noted_all bound found (free_uses_of_all es)
  in_all bound found no_trees = refl
  in_all bound found (more_trees e es) = both bound found (found_in bound found e) _ (free_uses e) (free_uses_of_all es) (in_tree bound found e) (in_all bound (found_in bound found e) es)

  in_cases : (bound found : List ℕ) (cs : Cases) → found_in_cases bound found cs ≡ noted_all bound found (free_uses_of_cases cs)
  in_cases bound found no_cases = refl
  in_cases bound found (more_cases p e cs) =
      both bound found (found_in (insert_all nat_eq bound (bound_in p)) found e) _ (without (bound_in p) (free_uses e)) (free_uses_of_cases cs) (in_tree (insert_all nat_eq bound (bound_in p)) found e ∙ noted_under bound (bound_in p) found (free_uses e)) (in_cases bound (found_in (insert_all nat_eq bound (bound_in p)) found e) cs)

-- what is left out later may be left out now
without-push : (acc : List ℕ) (x : ℕ) (ys : List ℕ) → without (acc ++ x ∷ []) ys ≡ without acc (without (x ∷ []) ys)
without-push acc x [] = refl
without-push acc x (y ∷ ys) =
    ap (λ c. cond (not c) (y ∷ without (acc ++ x ∷ []) ys) (without (acc ++ x ∷ []) ys)) (list_any-append (nat_eq y) acc (x ∷ []) ∙ ap (λ c. list_any (nat_eq y) acc || c) (or_false (nat_eq y x)))
    ∙ by (nat_eq y x) refl (without-push acc x ys)
    ∙ sym (ap (λ c. without acc (cond (not c) (y ∷ without (x ∷ []) ys) (without (x ∷ []) ys))) (or_false (nat_eq y x)))
  where
    by : (b : Bool) → nat_eq y x ≡ b → without (acc ++ x ∷ []) ys ≡ without acc (without (x ∷ []) ys) → cond (not (list_any (nat_eq y) acc || nat_eq y x)) (y ∷ without (acc ++ x ∷ []) ys) (without (acc ++ x ∷ []) ys) ≡ without acc (cond (not (nat_eq y x)) (y ∷ without (x ∷ []) ys) (without (x ∷ []) ys))
    by true e rest =
        ap (λ c. cond (not c) (y ∷ without (acc ++ x ∷ []) ys) (without (acc ++ x ∷ []) ys)) (ap (λ c. list_any (nat_eq y) acc || c) e ∙ or_true (list_any (nat_eq y) acc))
        ∙ rest
        ∙ sym (ap (λ c. without acc (cond (not c) (y ∷ without (x ∷ []) ys) (without (x ∷ []) ys))) e)
    by false e rest =
        ap (λ c. cond (not c) (y ∷ without (acc ++ x ∷ []) ys) (without (acc ++ x ∷ []) ys)) (ap (λ c. list_any (nat_eq y) acc || c) e ∙ or_false (list_any (nat_eq y) acc))
        ∙ ap (λ l. cond (not (list_any (nat_eq y) acc)) (y ∷ l) l) rest
        ∙ sym (ap (λ c. without acc (cond (not c) (y ∷ without (x ∷ []) ys) (without (x ∷ []) ys))) e)

without-known : (acc : List ℕ) (x : ℕ) (ys : List ℕ) → list_any (nat_eq x) acc ≡ true → without acc (without (x ∷ []) ys) ≡ without acc ys
without-known acc x [] known = refl
without-known acc x (y ∷ ys) known =
    ap (λ c. without acc (cond (not c) (y ∷ without (x ∷ []) ys) (without (x ∷ []) ys))) (or_false (nat_eq y x))
    ∙ by (nat_eq y x) refl (without-known acc x ys known)
  where
    by : (b : Bool) → nat_eq y x ≡ b → without acc (without (x ∷ []) ys) ≡ without acc ys → without acc (cond (not (nat_eq y x)) (y ∷ without (x ∷ []) ys) (without (x ∷ []) ys)) ≡ without acc (y ∷ ys)
    by true e rest =
        ap (λ c. without acc (cond (not c) (y ∷ without (x ∷ []) ys) (without (x ∷ []) ys))) e
        ∙ rest
        ∙ sym (ap (λ c. cond (not c) (y ∷ without acc ys) (without acc ys)) (ap (λ z. list_any (nat_eq z) acc) (eqb-true y x e) ∙ known))
    by false e rest =
        ap (λ c. without acc (cond (not c) (y ∷ without (x ∷ []) ys) (without (x ∷ []) ys))) e
        ∙ ap (λ l. cond (not (list_any (nat_eq y) acc)) (y ∷ l) l) rest

gathered : (acc xs : List ℕ) → noted_all [] acc xs ≡ acc ++ without acc (firsts xs)
gathered acc [] = sym (append-nil acc)
gathered acc (x ∷ xs) = by (list_any (nat_eq x) acc) refl (gathered acc xs) (gathered (acc ++ x ∷ []) xs)
  where
    by : (b : Bool) → list_any (nat_eq x) acc ≡ b → noted_all [] acc xs ≡ acc ++ without acc (firsts xs) → noted_all [] (acc ++ x ∷ []) xs ≡ (acc ++ x ∷ []) ++ without (acc ++ x ∷ []) (firsts xs) → noted_all [] acc (x ∷ xs) ≡ acc ++ without acc (firsts (x ∷ xs))
    by true e known new =
        ap (λ c. noted_all [] (if c then acc else acc ++ x ∷ []) xs) e
        ∙ known
        ∙ ap (λ l. acc ++ l) (sym (without-known acc x (firsts xs) e))
        ∙ sym (ap (λ c. acc ++ cond (not c) (x ∷ without acc (without (x ∷ []) (firsts xs))) (without acc (without (x ∷ []) (firsts xs)))) e)
    by false e known new =
        ap (λ c. noted_all [] (if c then acc else acc ++ x ∷ []) xs) e
        ∙ new
        ∙ append_assoc acc (x ∷ []) (without (acc ++ x ∷ []) (firsts xs))
        ∙ ap (λ l. acc ++ (x ∷ l)) (without-push acc x (firsts xs))
        ∙ sym (ap (λ c. acc ++ cond (not c) (x ∷ without acc (without (x ∷ []) (firsts xs))) (without acc (without (x ∷ []) (firsts xs)))) e)

without-none : (xs : List ℕ) → without [] xs ≡ xs
without-none [] = refl
without-none (x ∷ xs) = ap (λ l. x ∷ l) (without-none xs)

-- from nothing bound and nothing found, the names found are the free names
pub found-free_names : (t : Tree) → found_in [] [] t ≡ free_names t
found-free_names t = in_tree [] [] t ∙ gathered [] (free_uses t) ∙ without-none (firsts (free_uses t))
