-- A written predicate or term taken apart by a list of work, and what it becomes put together on a stack.
use Rattle.std.specs.Prelude.{ℕ, ◌+◌, pos, false, List, [], ◌∷◌}
use Rattle.lq_text_tree.specs.PredTree.{PredTree, pred_tree, PredForm, flag, whole, use_of, placeholder, applied, qualified, arithmetic, negated, compare, not_of, and_of, or_of, iff}
use Rattle.lq_text_qualifiers.specs.Faults.Work.{size_of}
use Rattle.lq_text_qualifiers.specs.Sorting.Making.{Setting, predicate_form, predicate_of, term_form, term_of}
use Rattle.lq_text_qualifiers.specs.Sorting.Sorted.{Term, literal, operation, negative, Predicate, constant, negation, conjunction, disjunction, equivalence}

-- a tree that is still to be entered, and one whose parts are on the stack
pub data Task : Type 0 where
  enter : PredTree → Task
  make : PredTree → Task

-- the terms of which a term is made
abbrev pub term_parts : PredForm → List PredTree
term_parts (arithmetic o a b) = a ∷ b ∷ []
term_parts (negated e) = e ∷ []
term_parts (flag b) = []
term_parts (whole n) = []
term_parts (use_of x) = []
term_parts (placeholder x) = []
term_parts (applied m e) = []
term_parts (qualified m x e) = []
term_parts (compare o a b) = []
term_parts (not_of e) = []
term_parts (and_of a b) = []
term_parts (or_of a b) = []
term_parts (iff a b) = []

-- the predicates of which a predicate is made
abbrev pub predicate_parts : PredForm → List PredTree
predicate_parts (not_of e) = e ∷ []
predicate_parts (and_of a b) = a ∷ b ∷ []
predicate_parts (or_of a b) = a ∷ b ∷ []
predicate_parts (iff a b) = a ∷ b ∷ []
predicate_parts (flag b) = []
predicate_parts (whole n) = []
predicate_parts (use_of x) = []
predicate_parts (placeholder x) = []
predicate_parts (applied m e) = []
predicate_parts (qualified m x e) = []
predicate_parts (arithmetic o a b) = []
predicate_parts (negated e) = []
predicate_parts (compare o a b) = []

-- the stack has what was put there last first
abbrev pub top : {X : Type 0} → X → List X → X
top d [] = d
top d (v ∷ vs) = v

abbrev pub below : {X : Type 0} → List X → List X
below [] = []
below (v ∷ vs) = vs

abbrev pub top_term : List Term → Term
top_term = top (literal (pos 0))

abbrev pub top_predicate : List Predicate → Predicate
top_predicate = top (constant false)

module _ (s : Setting) where
  -- a term is made of its parts
  abbrev pub term_made : PredForm → List Term → List Term
  term_made (arithmetic o a b) vs = operation o (top_term (below vs)) (top_term vs) ∷ below (below vs)
  term_made (negated e) vs = negative (top_term vs) ∷ below vs
  term_made (flag b) vs = term_form s (flag b) ∷ vs
  term_made (whole n) vs = term_form s (whole n) ∷ vs
  term_made (use_of x) vs = term_form s (use_of x) ∷ vs
  term_made (placeholder x) vs = term_form s (placeholder x) ∷ vs
  term_made (applied m e) vs = term_form s (applied m e) ∷ vs
  term_made (qualified m x e) vs = term_form s (qualified m x e) ∷ vs
  term_made (compare o a b) vs = term_form s (compare o a b) ∷ vs
  term_made (not_of e) vs = term_form s (not_of e) ∷ vs
  term_made (and_of a b) vs = term_form s (and_of a b) ∷ vs
  term_made (or_of a b) vs = term_form s (or_of a b) ∷ vs
  term_made (iff a b) vs = term_form s (iff a b) ∷ vs

  abbrev pub predicate_made : PredForm → List Predicate → List Predicate
  predicate_made (not_of e) vs = negation (top_predicate vs) ∷ below vs
  predicate_made (and_of a b) vs = conjunction (top_predicate (below vs)) (top_predicate vs) ∷ below (below vs)
  predicate_made (or_of a b) vs = disjunction (top_predicate (below vs)) (top_predicate vs) ∷ below (below vs)
  predicate_made (iff a b) vs = equivalence (top_predicate (below vs)) (top_predicate vs) ∷ below (below vs)
  predicate_made (flag b) vs = predicate_form s (flag b) ∷ vs
  predicate_made (whole n) vs = predicate_form s (whole n) ∷ vs
  predicate_made (use_of x) vs = predicate_form s (use_of x) ∷ vs
  predicate_made (placeholder x) vs = predicate_form s (placeholder x) ∷ vs
  predicate_made (applied m e) vs = predicate_form s (applied m e) ∷ vs
  predicate_made (qualified m x e) vs = predicate_form s (qualified m x e) ∷ vs
  predicate_made (arithmetic o a b) vs = predicate_form s (arithmetic o a b) ∷ vs
  predicate_made (negated e) vs = predicate_form s (negated e) ∷ vs
  predicate_made (compare o a b) vs = predicate_form s (compare o a b) ∷ vs

  -- what is on the stack once the tasks are done, the last first
  abbrev pub terms_done : List Task → List Term → List Term
  terms_done [] vs = vs
  terms_done (enter t ∷ ts) vs = terms_done ts (term_of s t ∷ vs)
  terms_done (make (pred_tree p f) ∷ ts) vs = terms_done ts (term_made f vs)

  abbrev pub predicates_done : List Task → List Predicate → List Predicate
  predicates_done [] vs = vs
  predicates_done (enter t ∷ ts) vs = predicates_done ts (predicate_of s t ∷ vs)
  predicates_done (make (pred_tree p f) ∷ ts) vs = predicates_done ts (predicate_made f vs)

-- how much is left to do
abbrev pub work_of : Task → ℕ
work_of (enter t) = size_of t + size_of t
work_of (make t) = 1

abbrev pub work : List Task → ℕ
work [] = 0
work (t ∷ ts) = work_of t + work ts
