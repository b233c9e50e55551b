-- Leaves of what waits.
use Rattle.std.proofs.Common.{◌≡◌, ℕ, suc, ◌<◌, ◌+◌, List, [], ◌∷◌, ◌++◌, refl, sym, ap, ◌∙◌, append_assoc, arith}
use Rattle.std.proofs.lemmas.List.{append-nil}
use Rattle.lq_logic_predicates.specs.PredView.{formula_of}
use Rattle.lq_prover_proof_tree.specs.Literals.Leaves as leaves
use Rattle.lq_prover_proof_tree.specs.Literals.Leaves.{leaves_of}
use Rattle.lq_prover_proof_tree.specs.Literals.LeafView.{signs_of, waiting_leaves, size_of, waiting_size}
use Rattle.lq_prover_proof_tree.specs.declared.literals.leaf.Leaf.{Leaf}

abbrev pub leaves_at : Leaf → List leaves.Leaf
leaves_at l = leaves_of (signs_of l.polarity) (formula_of l.pred.now)

pub waiting-push : (ls : List Leaf) (l : Leaf) → waiting_leaves (ls ++ l ∷ []) ≡ leaves_at l ++ waiting_leaves ls
waiting-push [] l = sym (append-nil (leaves_at l))
waiting-push (m ∷ ls) l = ap (λ x. x ++ leaves_at m) (waiting-push ls l) ∙ append_assoc (leaves_at l) (waiting_leaves ls) (leaves_at m)

pub size-push : (ls : List Leaf) (l : Leaf) → waiting_size (ls ++ l ∷ []) ≡ waiting_size ls + size_of (formula_of l.pred.now)
size-push [] l = refl
size-push (m ∷ ls) l = let h = size-push ls l in omega arith

-- two more, the first one last
pub waiting-two : (ls : List Leaf) (l m : Leaf) → waiting_leaves ((ls ++ m ∷ []) ++ l ∷ []) ≡ (leaves_at l ++ leaves_at m) ++ waiting_leaves ls
waiting-two ls l m =
    waiting-push (ls ++ m ∷ []) l ∙ ap (λ x. leaves_at l ++ x) (waiting-push ls m) ∙ sym (append_assoc (leaves_at l) (leaves_at m) (waiting_leaves ls))

pub size-two : (ls : List Leaf) (l m : Leaf) → waiting_size ((ls ++ m ∷ []) ++ l ∷ []) ≡ waiting_size ls + (size_of (formula_of l.pred.now) + size_of (formula_of m.pred.now))
size-two ls l m = let h = size-push (ls ++ m ∷ []) l in let k = size-push ls m in omega arith

-- ---- a predicate that is taken apart

pub apart_one : (lv : List leaves.Leaf) (ws new : List Leaf) (l : Leaf) (found : List leaves.Leaf) → new ≡ ws ++ l ∷ [] → leaves_at l ≡ found
    → lv ++ waiting_leaves new ≡ lv ++ (found ++ waiting_leaves ws)
apart_one lv ws new l found e f = ap (λ x. lv ++ waiting_leaves x) e ∙ ap (λ x. lv ++ x) (waiting-push ws l ∙ ap (λ x. x ++ waiting_leaves ws) f)

pub push_two_leaves : (ws one new : List Leaf) (l m : Leaf) → one ≡ ws ++ m ∷ [] → new ≡ one ++ l ∷ [] → waiting_leaves new ≡ (leaves_at l ++ leaves_at m) ++ waiting_leaves ws
push_two_leaves ws one new l m e f = ap waiting_leaves (f ∙ ap (λ x. x ++ l ∷ []) e) ∙ waiting-two ws l m

pub push_two_size : (ws one new : List Leaf) (l m : Leaf) → one ≡ ws ++ m ∷ [] → new ≡ one ++ l ∷ []
    → waiting_size new ≡ waiting_size ws + (size_of (formula_of l.pred.now) + size_of (formula_of m.pred.now))
push_two_size ws one new l m e f = ap waiting_size (f ∙ ap (λ x. x ++ l ∷ []) e) ∙ size-two ws l m

pub smaller_one : (ws new : List Leaf) (l : Leaf) (n : ℕ) → new ≡ ws ++ l ∷ [] → n ≡ suc (size_of (formula_of l.pred.now)) → waiting_size new < waiting_size ws + n
smaller_one ws new l n e f = let h : waiting_size new ≡ waiting_size ws + size_of (formula_of l.pred.now) = ap waiting_size e ∙ size-push ws l in omega arith
