-- A program, and what it becomes once its names are bound:
--   let f (a, b) = Array.make a b
--   let x = f (1, 2)
use Rattle.std.specs.Prelude.{◌≡◌, ℕ, pos, List, [], ◌∷◌, Some, None, codes}
use Rattle.lq_base_names.specs.declared.place.Place.{Place}
use Rattle.lq_base_names.specs.declared.place.TextKind.TheVariants.{Program}
use Rattle.lq_text_tree.specs.Items.{ItemTree, let_of}
use Rattle.lq_text_tree.specs.Pattern.{Pattern, pattern, bind, tuple_of, no_patterns, more_patterns}
use Rattle.lq_text_tree.specs.Tree.{Tree, tree, whole, use_of, qualified, fun, tuple, call, make, match_on, no_trees, more_trees, no_cases, more_cases}
use Rattle.lq_text_scope.specs.Uses.{of_program}
use Rattle.lq_text_resolve.specs.Binding.Making.{Bound_tree, program_made}
use Rattle.lq_text_resolve.specs.Resolution.Laws.{AreBound}

-- f, a, b, Array, make and x have the numbers 0 to 5
abbrev pub texts : List (List ℕ)
texts = codes "f" ∷ codes "a" ∷ codes "b" ∷ codes "Array" ∷ codes "make" ∷ codes "x" ∷ []

abbrev pub at : ℕ → ℕ → Place
at line column = record { text = Program; line = line; column = column }

abbrev pub define : Place → Pattern → Tree → ItemTree
define p q e = record { place = p; form = let_of q e }

-- a tuple of two names, or of the binders that they get
abbrev pub pair : ℕ → ℕ → Pattern
pair a b = pattern (at 1 7) (tuple_of (more_patterns (pattern (at 1 8) (bind a)) (more_patterns (pattern (at 1 11) (bind b)) no_patterns)))

abbrev pub parsed : List ItemTree
parsed =
    define (at 1 1) (pattern (at 1 5) (bind 0))
    (tree 5 (at 1 7) (fun (pair 1 2) (tree 4 (at 1 16) (call (tree 2 (at 1 16) (call (tree 0 (at 1 16) (qualified 3 4)) (tree 1 (at 1 27) (use_of 1)))) (tree 3 (at 1 29) (use_of 2))))))
    ∷ define (at 2 1) (pattern (at 2 5) (bind 5))
    (tree 10 (at 2 9)
    (call (tree 6 (at 2 9) (use_of 0)) (tree 9 (at 2 12) (tuple (more_trees (tree 7 (at 2 12) (whole (pos 1))) (more_trees (tree 8 (at 2 15) (whole (pos 2))) no_trees))))))
    ∷ []

-- f, the made parameter, a, b and x have the binders 0 to 4
abbrev pub bound : Bound_tree
bound = record {
  items =
      define (at 1 1) (pattern (at 1 5) (bind 0))
      (tree 5 (at 1 7)
      (fun (pattern (at 1 7) (bind 1))
      (tree 4 (at 1 7)
      (match_on (tree 0 (at 1 7) (use_of 1)) (more_cases (pair 2 3) (tree 3 (at 1 16) (make (tree 1 (at 1 27) (use_of 2)) (tree 2 (at 1 29) (use_of 3)))) no_cases)))))
      ∷ define (at 2 1) (pattern (at 2 5) (bind 4))
      (tree 10 (at 2 9)
      (call (tree 6 (at 2 9) (use_of 0)) (tree 9 (at 2 12) (tuple (more_trees (tree 7 (at 2 12) (whole (pos 1))) (more_trees (tree 8 (at 2 15) (whole (pos 2))) no_trees))))))
      ∷ [];
  sources = Some 0 ∷ None ∷ Some 1 ∷ Some 2 ∷ Some 5 ∷ [];
}

-- Nothing is wrong with its names, this is what it becomes, and that is scoped.
pub record Examples : Type 0 where
  pub unblamed : of_program texts parsed ≡ []
  pub becomes : program_made texts parsed ≡ bound
  pub scoped : AreBound bound 11
