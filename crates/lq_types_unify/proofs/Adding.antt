-- A node more in an arena.
use Rattle.std.proofs.Common.{◌≡◌, ℕ, zero, suc, ◌+◌, ◌<◌, ◌≤◌, ◌-◌, ◌^◌, List, [], ◌∷◌, ◌++◌, Some, All, length, take, drop, refl, sym, ap, subst, ◌∙◌, arith, get_or, length-append, ⊎_elim}
use Rattle.std.proofs.lemmas.Bool.{cases_lt}
use Rattle.std.proofs.lemmas.List.{get_or_append_left, get_or-append_right, drop-append-le, take-append-le, length-drop}
use Rattle.std.proofs.lemmas.List.Elements.{All-append}
use Rattle.std.proofs.Math.Seq.{get_or-append_seam, drop-append_seam, take-length}
use Rattle.lq_types_unify.specs.declared.arena.Node.{Node}
use Rattle.lq_types_unify.specs.declared.arena.Node.TheVariants.{Open, Made}
use Rattle.lq_types_unify.specs.declared.arena.Head.{Head}
use Rattle.lq_types_unify.specs.declared.arena.Arena.{Arena}
use Rattle.lq_types_unify.specs.Nodes.{form_of, node_at, FitsIn, IsArena, HasAdded, HasKept}

-- more parts behind those of a node change nothing
same_form : (n : Node) (parts ps : List ℕ) → FitsIn parts n → form_of (parts ++ ps) n ≡ form_of parts n
same_form Open parts ps h = refl
same_form (Made t first count) parts ps h =
    let a : first ≤ length parts = omega (arith, h) in
    let d = length-drop first parts in
    let b : count ≤ length (drop first parts) = omega (arith, h, d) in
    ap (λ (l : List ℕ). Some (record { head = t; parts = l })) (ap (take count) (drop-append-le first parts ps a) ∙ take-append-le count (drop first parts) ps b)

still_fits : (n : Node) (parts ps : List ℕ) → FitsIn parts n → FitsIn (parts ++ ps) n
still_fits Open parts ps h = tt
still_fits (Made t first count) parts ps h = let l = length-append parts ps in omega (arith, h, l)

past_fits : (n : Node) (k : ℕ) (parts : List ℕ) → FitsIn parts n → FitsIn parts (get_or (n ∷ []) k Open)
past_fits n zero parts h = h
past_fits n (suc k) parts h = tt

all_fit : (nodes : List Node) (n : Node) (parts ps : List ℕ) → ((i : ℕ) → FitsIn parts (node_at nodes i)) → FitsIn (parts ++ ps) n
    → (i : ℕ) → FitsIn (parts ++ ps) (node_at (nodes ++ n ∷ []) i)
all_fit nodes n parts ps h k i =
    ⊎_elim
    (λ lt. subst (λ m. FitsIn (parts ++ ps) m) (sym (get_or_append_left nodes (n ∷ []) Open i lt)) (still_fits (node_at nodes i) parts ps (h i)))
    (λ le. subst (λ m. FitsIn (parts ++ ps) m) (sym (get_or-append_right nodes (n ∷ []) (length nodes) i Open refl le)) (past_fits n (i - length nodes) (parts ++ ps) k))
    (cases_lt i (length nodes))

further : (m : ℕ) (ps : List ℕ) → All (λ p. p < m) ps → All (λ p. p < m + 1) ps
further m ps h = λ k d lt. let x = h k d lt in omega (arith, x)

pub is_kept : (old : Arena) → IsArena old → HasKept old old
is_kept old a = record { arena = a; count = refl; forms = λ i. refl }
