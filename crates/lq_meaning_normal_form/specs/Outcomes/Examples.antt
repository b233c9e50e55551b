-- Normal forms of some expressions. All nodes have the number 0 here, and 9 is the first made name.
use Rattle.std.specs.Prelude.{◌≡◌, ℕ, pos, false, [], ◌∷◌}
use Rattle.lq_base_names.specs.declared.operation.ArithOp.TheVariants.{Add, Sub}
use Rattle.lq_base_names.specs.declared.place.Place.{Place}
use Rattle.lq_text_tree.specs.declared.expr.Arguments.TheVariants.{Apart}
use Rattle.lq_text_tree.specs.Pattern.{Pattern, pattern, any, bind, nothing, tuple_of, no_patterns, more_patterns}
use Rattle.lq_text_tree.specs.Tree.{Tree, tree, Form, whole, flag, unit, use_of, fun, build, list_of, let_in, call, arithmetic, and_of, if_else, match_on, chain, print, read, Trees, no_trees, more_trees, no_cases, more_cases}
use Rattle.lq_meaning_steps.specs.Model.Program.{let_item}
use Rattle.lq_meaning_steps.specs.Model.FromTree.{core_of}
use Rattle.lq_meaning_steps.specs.Model.Outcomes.{HaveSameOutcomes}
use Rattle.lq_meaning_steps.specs.Model.Core.{empty}
use Rattle.lq_meaning_normal_form.specs.Outcomes.Naming.{named}
use Rattle.lq_meaning_normal_form.specs.Outcomes.Flattening.{flattened}

abbrev pub node : Place → Form → Tree
node p f = tree 0 p f

abbrev pub name : Place → ℕ → Tree
name p x = node p (use_of x)

abbrev pub binds : Place → ℕ → Tree → Tree → Tree
binds p x e b = node p (let_in (pattern p (bind x)) e b)

abbrev pub normal : Tree → Tree
normal t = flattened (named 9 t)

abbrev pub pair : Tree → Tree → Trees
pair a b = more_trees a (more_trees b no_trees)

-- `print_int (read_int () - read_int ())`: the read at r is bound before that at s
abbrev pub ReadsExample : Type 0
ReadsExample =
    (p q r s : Place) (u v : Tree) →
    let one = node r (read (node r unit)) in
    let two = node s (read (node s unit)) in
    normal (node p (print (node q (arithmetic Sub one two)))) ≡ binds r 9 one (binds s 10 two (node p (print (node q (arithmetic Sub (name r 9) (name s 10))))))

-- `f (let x = 1 in g x)` is `let x = 1 in let %9 = g x in f %9`, with f, g, x the names 0, 1, 2
abbrev pub NestedExample : Type 0
NestedExample =
    (p q r s : Place) →
    let one = node r (whole (pos 1)) in
    let inner = node s (call (name s 1) (name s 2)) in
    normal (node p (call (name p 0) (node q (let_in (pattern q (bind 2)) one inner))))
    ≡ node q (let_in (pattern q (bind 2)) one (binds q 9 inner (node p (call (name p 0) (name q 9)))))

-- `[x; y]` is `let %9 = x in let %10 = y in let %11 = [] in let %12 = %10 :: %11 in %9 :: %12`
abbrev pub ListExample : Type 0
ListExample =
    (p q r : Place) →
    normal (node p (list_of (pair (name q 0) (name r 1))))
    ≡ binds q 9 (name q 0) (binds r 10 (name r 1) (binds p 11 (node p (build 7 Apart no_trees)) (binds p 12 (node p (build 8 Apart (pair (name r 10) (name p 11)))) (node p (build 8 Apart (pair (name q 9) (name p 12)))))))

-- `f x && y` is `let %9 = f x in if %9 then y else false`; `x && y` stays
abbrev pub LogicExample : Type 0
LogicExample =
    (p q r : Place) →
    let called = node q (call (name q 0) (name q 1)) in
    (normal (node p (and_of called (name r 2))) ≡ binds q 9 called (node p (if_else (name q 9) (name r 2) (node p (flag false)))))
    × (normal (node p (and_of (name q 1) (name r 2))) ≡ node p (and_of (name q 1) (name r 2)))

-- `f x; y` binds `f x`; `fun () -> e` has a made parameter; `match x + x with (a, _) -> a` binds its scrutinee, and then names the `_`
abbrev pub OtherExample : Type 0
OtherExample =
    (p q r : Place) →
    let called = node q (call (name q 0) (name q 1)) in
    let sum = node q (arithmetic Add (name q 0) (name q 0)) in
    let parts = λ (f : Pattern). pattern r (tuple_of (more_patterns (pattern r (bind 3)) (more_patterns f no_patterns))) in
    (normal (node p (chain (pair called (name r 2)))) ≡ binds p 9 called (name r 2))
    × (normal (node p (fun (pattern q nothing) (name r 2))) ≡ node p (fun (pattern q (bind 9)) (name r 2)))
    × (normal (node p (match_on sum (more_cases (parts (pattern r any)) (name r 3) no_cases))) ≡ binds q 9 sum (node p (match_on (name q 9) (more_cases (parts (pattern r (bind 10))) (name r 3) no_cases))))

-- `let () = print_int (read_int () - read_int ())`, and the same with the right operand bound first, don't have the same outcomes.
abbrev pub RightFirstExample : Type 0
RightFirstExample =
    (p q r s : Place) →
    let one = node r (read (node r unit)) in
    let two = node s (read (node s unit)) in
    let source = node p (print (node q (arithmetic Sub one two))) in
    let other = binds s 9 two (binds r 10 one (node p (print (node q (arithmetic Sub (name r 10) (name s 9)))))) in
    HaveSameOutcomes (let_item empty (core_of source) ∷ []) (let_item empty (core_of other) ∷ []) → ⊥
