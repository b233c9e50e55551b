-- The types of the made names of some expressions, and a normal tree that no annotation types. The first made name is 9.
use Rattle.std.specs.Prelude.{◌≡◌, ℕ, pos, [], ◌∷◌}
use Rattle.lq_base_names.specs.declared.operation.ArithOp.TheVariants.{Sub}
use Rattle.lq_base_names.specs.declared.place.Place.{Place}
use Rattle.lq_text_tree.specs.MlType as ml
use Rattle.lq_text_tree.specs.MlType.{MlType}
use Rattle.lq_text_tree.specs.Pattern.{pattern, any, bind, nothing, tuple_of, no_patterns, more_patterns}
use Rattle.lq_text_tree.specs.Tree.{tree, whole, unit, use_of, fun, list_of, let_in, arithmetic, not_of, call, match_on, print, read, chain, no_trees, more_trees, no_cases, more_cases}
use Rattle.lq_text_tree.specs.Types.{Signature}
use Rattle.lq_text_tree.specs.TypingRules.{Annotation}
use Rattle.lq_meaning_normal_form.specs.Types.Made.{made}
use Rattle.lq_meaning_normal_form.specs.Types.Typing.{typing_of, used_by}

-- `print_int (read_int () - read_int ())`: the two numbers that are read
abbrev pub ReadsExample : Type 0
ReadsExample = (g : Signature) (nodes : ℕ → MlType) (p : Place) →
    let one = tree 1 p (read (tree 0 p unit)) in
    let two = tree 3 p (read (tree 2 p unit)) in
    made g nodes 9 (tree 5 p (print (tree 4 p (arithmetic Sub one two)))) ≡ (9, nodes 1) ∷ (10, nodes 3) ∷ []

-- `[x; y]`: the two items, the empty list and the list of the second item
abbrev pub ListExample : Type 0
ListExample = (g : Signature) (nodes : ℕ → MlType) (p : Place) →
    made g nodes 9 (tree 2 p (list_of (more_trees (tree 0 p (use_of 0)) (more_trees (tree 1 p (use_of 1)) no_trees))))
    ≡ (9, nodes 0) ∷ (10, nodes 1) ∷ (11, nodes 2) ∷ (12, nodes 2) ∷ []

-- `fun () -> f x; 1`: the argument, whose type is that of the function's, and `f x`
abbrev pub FunctionExample : Type 0
FunctionExample = (g : Signature) (nodes : ℕ → MlType) (p : Place) →
    let called = tree 2 p (call (tree 0 p (use_of 0)) (tree 1 p (use_of 1))) in
    let body = tree 4 p (chain (more_trees called (more_trees (tree 3 p (whole (pos 1))) no_trees))) in
    nodes 5 ≡ ml.arrow ml.unit ml.int → made g nodes 9 (tree 5 p (fun (pattern p nothing) body)) ≡ (9, ml.unit) ∷ (10, nodes 2) ∷ []

-- `match f x with (_, y) -> y`: what is matched, and the first component
abbrev pub MatchExample : Type 0
MatchExample = (g : Signature) (nodes : ℕ → MlType) (p : Place) (a b : MlType) →
    let called = tree 2 p (call (tree 0 p (use_of 0)) (tree 1 p (use_of 1))) in
    let parts = pattern p (tuple_of (more_patterns (pattern p any) (more_patterns (pattern p (bind 2)) no_patterns))) in
    nodes 2 ≡ ml.tuple (ml.more_types a (ml.more_types b ml.no_types))
    → made g nodes 9 (tree 4 p (match_on called (more_cases parts (tree 3 p (use_of 2)) no_cases))) ≡ (9, nodes 2) ∷ (10, a) ∷ []

-- `let %9 = 1 in not %9` has no types
abbrev pub RefusedExample : Type 0
RefusedExample = (g : Signature) (n : Annotation) (p : Place)
    → (typing_of g n (used_by n []) (tree 0 p (let_in (pattern p (bind 9)) (tree 0 p (whole (pos 1))) (tree 2 p (not_of (tree 1 p (use_of 9))))))).obeys → ⊥
