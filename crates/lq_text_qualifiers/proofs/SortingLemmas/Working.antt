-- What is on the stack once the work on a term or a predicate is done, and that the work ends.
use Rattle.std.proofs.Common.{◌≡◌, ◌<◌, List, [], ◌∷◌, ◌++◌, map, refl, ap, arith}
use Rattle.std.proofs.lemmas.List.{reverse-append}
use Rattle.lq_text_tree.specs.PredTree.{PredTree, pred_tree, flag, whole, use_of, placeholder, applied, qualified, arithmetic, negated, compare, not_of, and_of, or_of, iff}
use Rattle.lq_text_qualifiers.specs.Faults.Predicates.{form_of}
use Rattle.lq_text_qualifiers.specs.Sorting.Making.{Setting}
use Rattle.lq_text_qualifiers.specs.Sorting.Sorted.{Term, Predicate}
use Rattle.lq_text_qualifiers.specs.Sorting.Tasks.{Task, enter, make, predicate_parts, predicates_done, term_parts, terms_done, work}
use Rattle.lq_text_qualifiers.specs.Sorting.Views.{task_view, tasks_view}
use Rattle.lq_text_qualifiers.specs.declared.sorting.terms.Task.{Task as Held}

pub tasks_more : (ts : List Held) (t : Held) → tasks_view (ts ++ t ∷ []) ≡ task_view t ∷ tasks_view ts
tasks_more ts t = ap (map task_view) (reverse-append ts (t ∷ []))

-- what is entered gives way to its parts, and to being made of them
pub term_entered : (s : Setting) (t : PredTree) (rest : List Task) (vs : List Term)
    → terms_done s (map enter (term_parts (form_of t)) ++ make t ∷ rest) vs ≡ terms_done s (enter t ∷ rest) vs
term_entered s (pred_tree p (flag b)) rest vs = refl
term_entered s (pred_tree p (whole n)) rest vs = refl
term_entered s (pred_tree p (use_of x)) rest vs = refl
term_entered s (pred_tree p (placeholder x)) rest vs = refl
term_entered s (pred_tree p (applied m e)) rest vs = refl
term_entered s (pred_tree p (qualified m x e)) rest vs = refl
term_entered s (pred_tree p (arithmetic o a b)) rest vs = refl
term_entered s (pred_tree p (negated e)) rest vs = refl
term_entered s (pred_tree p (compare o a b)) rest vs = refl
term_entered s (pred_tree p (not_of e)) rest vs = refl
term_entered s (pred_tree p (and_of a b)) rest vs = refl
term_entered s (pred_tree p (or_of a b)) rest vs = refl
term_entered s (pred_tree p (iff a b)) rest vs = refl

pub predicate_entered : (s : Setting) (t : PredTree) (rest : List Task) (vs : List Predicate)
    → predicates_done s (map enter (predicate_parts (form_of t)) ++ make t ∷ rest) vs ≡ predicates_done s (enter t ∷ rest) vs
predicate_entered s (pred_tree p (flag b)) rest vs = refl
predicate_entered s (pred_tree p (whole n)) rest vs = refl
predicate_entered s (pred_tree p (use_of x)) rest vs = refl
predicate_entered s (pred_tree p (placeholder x)) rest vs = refl
predicate_entered s (pred_tree p (applied m e)) rest vs = refl
predicate_entered s (pred_tree p (qualified m x e)) rest vs = refl
predicate_entered s (pred_tree p (arithmetic o a b)) rest vs = refl
predicate_entered s (pred_tree p (negated e)) rest vs = refl
predicate_entered s (pred_tree p (compare o a b)) rest vs = refl
predicate_entered s (pred_tree p (not_of e)) rest vs = refl
predicate_entered s (pred_tree p (and_of a b)) rest vs = refl
predicate_entered s (pred_tree p (or_of a b)) rest vs = refl
predicate_entered s (pred_tree p (iff a b)) rest vs = refl

pub term_less : (t : PredTree) (rest : List Task) → work (map enter (term_parts (form_of t)) ++ make t ∷ rest) < work (enter t ∷ rest)
term_less (pred_tree p (flag b)) rest = omega arith
term_less (pred_tree p (whole n)) rest = omega arith
term_less (pred_tree p (use_of x)) rest = omega arith
term_less (pred_tree p (placeholder x)) rest = omega arith
term_less (pred_tree p (applied m e)) rest = omega arith
term_less (pred_tree p (qualified m x e)) rest = omega arith
term_less (pred_tree p (arithmetic o a b)) rest = omega arith
term_less (pred_tree p (negated e)) rest = omega arith
term_less (pred_tree p (compare o a b)) rest = omega arith
term_less (pred_tree p (not_of e)) rest = omega arith
term_less (pred_tree p (and_of a b)) rest = omega arith
term_less (pred_tree p (or_of a b)) rest = omega arith
term_less (pred_tree p (iff a b)) rest = omega arith

pub predicate_less : (t : PredTree) (rest : List Task) → work (map enter (predicate_parts (form_of t)) ++ make t ∷ rest) < work (enter t ∷ rest)
predicate_less (pred_tree p (flag b)) rest = omega arith
predicate_less (pred_tree p (whole n)) rest = omega arith
predicate_less (pred_tree p (use_of x)) rest = omega arith
predicate_less (pred_tree p (placeholder x)) rest = omega arith
predicate_less (pred_tree p (applied m e)) rest = omega arith
predicate_less (pred_tree p (qualified m x e)) rest = omega arith
predicate_less (pred_tree p (arithmetic o a b)) rest = omega arith
predicate_less (pred_tree p (negated e)) rest = omega arith
predicate_less (pred_tree p (compare o a b)) rest = omega arith
predicate_less (pred_tree p (not_of e)) rest = omega arith
predicate_less (pred_tree p (and_of a b)) rest = omega arith
predicate_less (pred_tree p (or_of a b)) rest = omega arith
predicate_less (pred_tree p (iff a b)) rest = omega arith
