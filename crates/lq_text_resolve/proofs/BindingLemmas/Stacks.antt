-- Stacks of values and numbers, from which some are taken.
use Rattle.std.proofs.Common.{◌≡◌, ℕ, zero, suc, ◌+◌, List, [], ◌∷◌, ◌++◌, reverse, refl, sym, ap, ◌∙◌, arith}
use Rattle.std.proofs.lemmas.List.{append_assoc, reverse-append, map-append}
use Rattle.lq_base_names.specs.declared.name.Binder.{Binder}
use Rattle.lq_base_names.specs.declared.place.Place.{Place}
use Rattle.lq_text_tree.specs.Tree.{Tree}
use Rattle.lq_text_tree.specs.TreeView.{scoped_view}
use Rattle.lq_text_tree.specs.declared.expr.Expr.{Expr}
use Rattle.lq_text_resolve.specs.Binding.Machine.{top, below, last_trees, values_below, first, rest, last_starts, starts_below}
use Rattle.lq_text_resolve.specs.Binding.Making.{Value, part}
use Rattle.lq_text_resolve.specs.Binding.Views.{trees_in}

last_more : (p : Place) (n : ℕ) (vs : List Value) → last_trees p (suc n) vs ≡ part p (top (values_below n vs)) ∷ last_trees p n vs
last_more p zero vs = refl
last_more p (suc n) vs = ap (λ (ts : List Tree). ts ++ part p (top vs) ∷ []) (last_more p n (below vs))

below_more : (n : ℕ) (vs : List Value) → values_below (suc n) vs ≡ below (values_below n vs)
below_more zero vs = refl
below_more (suc n) vs = below_more n (below vs)

starts_more : (n : ℕ) (ns : List ℕ) → last_starts (suc n) ns ≡ first (starts_below n ns) ∷ last_starts n ns
starts_more zero ns = refl
starts_more (suc n) ns = ap (λ (ms : List ℕ). ms ++ first ns ∷ []) (starts_more n (rest ns))

rest_more : (n : ℕ) (ns : List ℕ) → starts_below (suc n) ns ≡ rest (starts_below n ns)
rest_more zero ns = refl
rest_more (suc n) ns = rest_more n (rest ns)

-- one value more was taken
pub taken_more : (p : Place) (n : ℕ) (front : List (Expr Binder)) (e : Expr Binder) (vs ws : List Value) → reverse (trees_in front) ≡ last_trees p n vs → ws ≡ values_below n vs
    → scoped_view e ≡ part p (top ws) → reverse (trees_in (front ++ e ∷ [])) ≡ last_trees p (n + 1) vs
taken_more p n front e vs ws before are is =
    ap reverse (map-append scoped_view front (e ∷ [])) ∙ reverse-append (trees_in front) (scoped_view e ∷ [])
    ∙ ap (λ (t : Tree). t ∷ reverse (trees_in front)) (is ∙ ap (λ (us : List Value). part p (top us)) are)
    ∙ ap (λ (ts : List Tree). part p (top (values_below n vs)) ∷ ts) before ∙ sym (last_more p n vs)
    ∙ (let next : suc n ≡ n + 1 = omega arith in ap (λ (m : ℕ). last_trees p m vs) next)

pub left_below : (n : ℕ) (vs ws us : List Value) → ws ≡ values_below n vs → us ≡ below ws → us ≡ values_below (n + 1) vs
left_below n vs ws us are is = is ∙ ap below are ∙ sym (below_more n vs) ∙ (let next : suc n ≡ n + 1 = omega arith in ap (λ (m : ℕ). values_below m vs) next)

pub taken_start : (n : ℕ) (front : List ℕ) (x : ℕ) (ns ms : List ℕ) → reverse front ≡ last_starts n ns → ms ≡ starts_below n ns → x ≡ first ms
    → reverse (front ++ x ∷ []) ≡ last_starts (n + 1) ns
taken_start n front x ns ms before are is =
    reverse-append front (x ∷ []) ∙ ap (λ (y : ℕ). y ∷ reverse front) (is ∙ ap first are)
    ∙ ap (λ (ks : List ℕ). first (starts_below n ns) ∷ ks) before ∙ sym (starts_more n ns)
    ∙ (let next : suc n ≡ n + 1 = omega arith in ap (λ (m : ℕ). last_starts m ns) next)

pub left_rest : (n : ℕ) (ns ms ks : List ℕ) → ms ≡ starts_below n ns → ks ≡ rest ms → ks ≡ starts_below (n + 1) ns
left_rest n ns ms ks are is = is ∙ ap rest are ∙ sym (rest_more n ns) ∙ (let next : suc n ≡ n + 1 = omega arith in ap (λ (m : ℕ). starts_below m ns) next)

-- the last part goes to the row
pub moved : (row front : List (Expr Binder)) (e : Expr Binder) (ts : List Tree) → trees_in row ++ reverse (trees_in (front ++ e ∷ [])) ≡ ts
    → trees_in (row ++ e ∷ []) ++ reverse (trees_in front) ≡ ts
moved row front e ts before =
    ap (λ (us : List Tree). us ++ reverse (trees_in front)) (map-append scoped_view row (e ∷ [])) ∙ append_assoc (trees_in row) (scoped_view e ∷ []) (reverse (trees_in front))
    ∙ ap (λ (us : List Tree). trees_in row ++ us) (sym (reverse-append (trees_in front) (scoped_view e ∷ [])) ∙ ap reverse (sym (map-append scoped_view front (e ∷ [])))) ∙ before
