-- Small programs, what their first steps give, and what they mean.
use Rattle.std.specs.Prelude.{◌≡◌, ℕ, ℤ, pos, negsuc, false, List, [], ◌∷◌}
use Rattle.lq_base_names.specs.declared.operation.ArithOp.{ArithOp}
use Rattle.lq_base_names.specs.declared.operation.ArithOp.TheVariants as op
use Rattle.lq_base_names.specs.declared.operation.CompareOp.{CompareOp}
use Rattle.lq_base_names.specs.declared.operation.CompareOp.TheVariants as test
use Rattle.lq_base_names.specs.declared.place.Place.{Place}
use Rattle.lq_base_names.specs.declared.place.TextKind.TheVariants.{Program}
use Rattle.lq_text_tree.specs.declared.expr.Arguments.TheVariants.{Apart}
use Rattle.lq_text_tree.specs.Items.{ItemTree, ItemForm, let_of, let_rec_of}
use Rattle.lq_text_tree.specs.Pattern.{Pattern, pattern, any, bind, nothing, tuple_of, build_of, no_patterns, more_patterns}
use Rattle.lq_text_tree.specs.Tree as form
use Rattle.lq_text_tree.specs.Tree.{Tree, tree, Form, Trees, no_trees, more_trees, no_cases, more_cases}
use Rattle.lq_meaning_steps.specs.declared.model.fault.FaultKind.TheVariants.{AssertFailed, OutOfBounds, ZeroDivisor, NegativeLength, NoCase}
use Rattle.lq_meaning_steps.specs.Model.FromTree.{items_of}
use Rattle.lq_meaning_steps.specs.Model.Meaning.{program_meaning}
use Rattle.lq_meaning_steps.specs.Model.Program.{Ending, running, finished, input_ended, fault, outcome}

-- a place in the first line
abbrev pub at : ℕ → Place
at column = record { text = Program; line = 1; column = column }

-- a node at a column
abbrev pub node : ℕ → Form → Tree
node column f = tree 0 (at column) f

-- a node whose place doesn't matter
abbrev pub plain : Form → Tree
plain f = node 0 f

abbrev pub variable : ℕ → Pattern
variable x = pattern (at 0) (bind x)

abbrev pub item : ItemForm → ItemTree
item f = record { place = at 0; form = f }

abbrev pub define : ℕ → Tree → ItemTree
define x e = item (let_of (variable x) e)

abbrev pub run : Tree → ItemTree
run e = item (let_of (pattern (at 0) nothing) e)

abbrev pub printed : Tree → ItemTree
printed e = run (plain (form.print e))

abbrev pub number : ℤ → Tree
number n = plain (form.whole n)

abbrev pub name : ℕ → Tree
name x = plain (form.use_of x)

abbrev pub reads : ℕ → Tree
reads column = node column (form.read (plain form.unit))

-- `e; d`
abbrev pub chained : Tree → Tree → Tree
chained e d = plain (form.chain (more_trees e (more_trees d no_trees)))

-- what a program gives that has these items, on this input: in 60 steps, and by its meaning where calls nest at most 8 deep
abbrev pub Gives : List ItemTree → List ℤ → Ending → List ℤ → Type 0
Gives is input ending output =
    (outcome (items_of is) input 60 ≡ record { ending = ending; output = output })
    × (program_meaning 8 (items_of is) input ≡ record { ending = ending; output = output })

abbrev pub quotient : ℤ → ℤ → Tree
quotient m n = node 9 (form.arithmetic op.Div (number m) (number n))

abbrev pub remainder : ℤ → ℤ → Tree
remainder m n = node 9 (form.arithmetic op.Mod (number m) (number n))

-- quotients truncate, remainders have the sign of the dividend: 7 and -7 by 2 and -2
abbrev pub QuotientExample : Type 0
QuotientExample =
    Gives (printed (quotient (pos 7) (pos 2)) ∷ printed (quotient (pos 7) (negsuc 1)) ∷ printed (quotient (negsuc 6) (pos 2)) ∷ printed (quotient (negsuc 6) (negsuc 1)) ∷ [])
    [] finished (pos 3 ∷ negsuc 2 ∷ negsuc 2 ∷ pos 3 ∷ [])

abbrev pub RemainderExample : Type 0
RemainderExample =
    Gives (printed (remainder (pos 7) (pos 2)) ∷ printed (remainder (pos 7) (negsuc 1)) ∷ printed (remainder (negsuc 6) (pos 2)) ∷ printed (remainder (negsuc 6) (negsuc 1)) ∷ [])
    [] finished (pos 1 ∷ pos 1 ∷ negsuc 0 ∷ negsuc 0 ∷ [])

-- `print_int (2 - 3 * 4)`: a product before the difference that it stands in
abbrev pub ProductExample : Type 0
ProductExample =
    Gives (printed (plain (form.arithmetic op.Sub (number (pos 2)) (plain (form.arithmetic op.Mul (number (pos 3)) (number (pos 4)))))) ∷ [])
    [] finished (negsuc 9 ∷ [])

-- 1 where the comparison of two numbers is true, else 0
abbrev pub tested : CompareOp → ℤ → ℤ → ItemTree
tested o m n = printed (plain (form.if_else (plain (form.compare o (number m) (number n))) (number (pos 1)) (number (pos 0))))

-- `= <> < <= > >=` on 1 and 2, and on 2 and 2
abbrev pub ComparisonExample : Type 0
ComparisonExample =
    Gives (tested test.Eq (pos 1) (pos 2) ∷ tested test.Ne (pos 1) (pos 2) ∷ tested test.Lt (pos 1) (pos 2) ∷ tested test.Le (pos 1) (pos 2) ∷ tested test.Gt (pos 1) (pos 2) ∷ tested test.Ge (pos 1) (pos 2)
    ∷ tested test.Eq (pos 2) (pos 2) ∷ tested test.Ne (pos 2) (pos 2) ∷ tested test.Lt (pos 2) (pos 2) ∷ tested test.Le (pos 2) (pos 2) ∷ tested test.Gt (pos 2) (pos 2) ∷ tested test.Ge (pos 2) (pos 2) ∷ [])
    [] finished (pos 0 ∷ pos 1 ∷ pos 1 ∷ pos 1 ∷ pos 0 ∷ pos 0 ∷ pos 1 ∷ pos 0 ∷ pos 0 ∷ pos 1 ∷ pos 0 ∷ pos 1 ∷ [])

-- `print_int (read_int () - read_int ())` on 5, 3
abbrev pub OrderExample : Type 0
OrderExample = Gives (printed (plain (form.arithmetic op.Sub (reads 21) (reads 35))) ∷ []) (pos 5 ∷ pos 3 ∷ []) finished (pos 2 ∷ [])

-- the second read finds no input
abbrev pub InputExample : Type 0
InputExample = Gives (printed (plain (form.arithmetic op.Sub (reads 21) (reads 35))) ∷ []) (pos 5 ∷ []) (input_ended (at 35)) []

-- `let x = 1`, `let x = x + 1`, under one binder: the later definition hides the earlier one
abbrev pub ShadowingExample : Type 0
ShadowingExample = Gives (define 0 (number (pos 1)) ∷ define 0 (plain (form.arithmetic op.Add (name 0) (number (pos 1)))) ∷ printed (name 0) ∷ []) [] finished (pos 2 ∷ [])

-- `let x = 1 in (let x = x + 1 in print_int x); print_int x`: the outer definition counts again behind the inner one; and
-- `let x = 1`, `print_int ((fun x -> x) 5 - x)`: so behind a parameter
abbrev pub HidingExample : Type 0
HidingExample =
    Gives (run (plain (form.let_in (variable 0) (number (pos 1)) (chained
    (plain (form.let_in (variable 0) (plain (form.arithmetic op.Add (name 0) (number (pos 1)))) (plain (form.print (name 0)))))
    (plain (form.print (name 0))))))
    ∷ define 0 (number (pos 1))
    ∷ printed (plain (form.arithmetic op.Sub (plain (form.call (plain (form.fun (variable 0) (name 0))) (number (pos 5)))) (name 0))) ∷ [])
    [] finished (pos 2 ∷ pos 1 ∷ pos 4 ∷ [])

-- a function of two parameters, which is called in order: `f (read_int ()) (read_int ())`
abbrev pub CallExample : Type 0
CallExample =
    Gives (define 0 (plain (form.fun (variable 1) (plain (form.fun (variable 2) (plain (form.arithmetic op.Sub (name 1) (name 2)))))))
    ∷ printed (plain (form.call (plain (form.call (name 0) (reads 1))) (reads 2))) ∷ []) (pos 9 ∷ pos 4 ∷ []) finished (pos 5 ∷ [])

-- `let f = fun x -> print_int x; fun y -> x - y`, `print_int (f 1 (print_int 2; 3))`: the call on the first argument is made before the
-- second argument is evaluated
abbrev pub PartialExample : Type 0
PartialExample =
    Gives (define 0 (plain (form.fun (variable 1) (chained (plain (form.print (name 1))) (plain (form.fun (variable 2) (plain (form.arithmetic op.Sub (name 1) (name 2))))))))
    ∷ printed (plain (form.call (plain (form.call (name 0) (number (pos 1)))) (chained (plain (form.print (number (pos 2)))) (number (pos 3))))) ∷ [])
    [] finished (pos 1 ∷ pos 2 ∷ negsuc 1 ∷ [])

-- `if k <= 0 then 0 else k + sum (k - 1)`
abbrev pub sum_body : Tree
sum_body =
    plain (form.if_else (plain (form.compare test.Le (name 1) (number (pos 0)))) (number (pos 0))
    (plain (form.arithmetic op.Add (name 1) (plain (form.call (name 0) (plain (form.arithmetic op.Sub (name 1) (number (pos 1)))))))))

-- `let rec sum k = if k <= 0 then 0 else k + sum (k - 1)`, `print_int (sum 3)`
abbrev pub sums : List ItemTree
sums = item (let_rec_of 0 (record { id = 0; place = at 0; parameter = variable 1; body = sum_body })) ∷ printed (plain (form.call (name 0) (number (pos 3)))) ∷ []

abbrev pub RecursionExample : Type 0
RecursionExample = Gives sums [] finished (pos 6 ∷ [])

-- its calls nest 4 deep: where they may nest 3 deep, it isn't over
abbrev pub DepthExample : Type 0
DepthExample =
    (program_meaning 4 (items_of sums) [] ≡ record { ending = finished; output = pos 6 ∷ [] })
    × (program_meaning 3 (items_of sums) [] ≡ record { ending = running; output = [] })

-- the same function within an expression: `print_int (let rec sum k = .. in sum 3)`
abbrev pub LocalExample : Type 0
LocalExample = Gives (printed (plain (form.let_rec 0 0 (at 0) (variable 1) sum_body (plain (form.call (name 0) (number (pos 3)))))) ∷ []) [] finished (pos 6 ∷ [])

-- a call that never returns goes on
abbrev pub LoopExample : Type 0
LoopExample =
    Gives (item (let_rec_of 0 (record { id = 0; place = at 0; parameter = variable 1; body = plain (form.call (name 0) (name 1)) }))
    ∷ printed (plain (form.call (name 0) (number (pos 1)))) ∷ []) [] running []

-- `let a = Array.make 2 7 in let b = a in b.(0) <- 1; print_int a.(0)`: two names of one array
abbrev pub AliasExample : Type 0
AliasExample =
    Gives (run (plain (form.let_in (variable 0) (plain (form.make (number (pos 2)) (number (pos 7)))) (plain (form.let_in (variable 1) (name 0)
    (chained (plain (form.store (name 1) (number (pos 0)) (number (pos 1)))) (plain (form.print (plain (form.fetch (name 0) (number (pos 0)))))))))))
    ∷ printed (plain (form.length_of (plain (form.make (number (pos 3)) (number (pos 0)))))) ∷ []) [] finished (pos 1 ∷ pos 3 ∷ [])

-- 9 is the constructor `None`, 10 the constructor `Some`
abbrev pub some_pattern : ℕ → Pattern
some_pattern x = pattern (at 0) (build_of 10 (at 0) (more_patterns (variable x) no_patterns))

-- `match e with Some x -> x | _ -> 0`
abbrev pub or_zero : Tree → Tree
or_zero e = plain (form.match_on e (more_cases (some_pattern 0) (name 0) (more_cases (pattern (at 0) any) (number (pos 0)) no_cases)))

-- the first arm that fits: of `Some 4` both fit, of `None` the second alone; and `match [5; 6] with x :: r -> x`, where 8 is the
-- constructor `::`
abbrev pub MatchExample : Type 0
MatchExample =
    Gives (printed (or_zero (plain (form.build 10 Apart (more_trees (number (pos 4)) no_trees)))) ∷ printed (or_zero (plain (form.build 9 Apart no_trees)))
    ∷ printed (plain (form.match_on (plain (form.list_of (more_trees (number (pos 5)) (more_trees (number (pos 6)) no_trees))))
    (more_cases (pattern (at 0) (build_of 8 (at 0) (more_patterns (variable 0) (more_patterns (variable 1) no_patterns)))) (name 0) no_cases))) ∷ [])
    [] finished (pos 4 ∷ pos 0 ∷ pos 5 ∷ [])

-- `(fun (x, y) -> x - y) (7, 2)`: a parameter that is a tuple
abbrev pub TupleExample : Type 0
TupleExample =
    Gives (printed (plain (form.call (plain (form.fun (pattern (at 0) (tuple_of (more_patterns (variable 0) (more_patterns (variable 1) no_patterns))))
    (plain (form.arithmetic op.Sub (name 0) (name 1))))) (plain (form.tuple (more_trees (number (pos 7)) (more_trees (number (pos 2)) no_trees)))))) ∷ [])
    [] finished (pos 5 ∷ [])

-- `&&` and `||` leave the right side where the left one decides; unary minus and `not`
abbrev pub LogicExample : Type 0
LogicExample =
    Gives (printed (plain (form.if_else (plain (form.and_of (plain (form.flag false)) (plain (form.compare test.Eq (quotient (pos 1) (pos 0)) (number (pos 0))))))
    (number (pos 1)) (plain (form.negated (number (pos 2))))))
    ∷ printed (plain (form.if_else (plain (form.or_of (plain (form.not_of (plain (form.flag false)))) (plain (form.compare test.Eq (quotient (pos 1) (pos 0)) (number (pos 0))))))
    (number (pos 1)) (number (pos 2)))) ∷ []) [] finished (negsuc 1 ∷ pos 1 ∷ [])

-- each fault at its place, with the output before it
abbrev pub DivisorExample : Type 0
DivisorExample =
    Gives (printed (number (pos 1)) ∷ printed (quotient (pos 1) (pos 0)) ∷ []) [] (fault ZeroDivisor (at 9)) (pos 1 ∷ [])
    × Gives (printed (number (pos 1)) ∷ printed (remainder (pos 1) (pos 0)) ∷ []) [] (fault ZeroDivisor (at 9)) (pos 1 ∷ [])

abbrev pub BoundsExample : Type 0
BoundsExample =
    Gives (printed (node 7 (form.fetch (plain (form.make (number (pos 2)) (number (pos 0)))) (number (pos 2)))) ∷ []) [] (fault OutOfBounds (at 7)) []
    × Gives (run (node 4 (form.store (plain (form.make (number (pos 2)) (number (pos 0)))) (number (negsuc 0)) (number (pos 1)))) ∷ []) [] (fault OutOfBounds (at 4)) []

abbrev pub LengthExample : Type 0
LengthExample = Gives (define 0 (node 4 (form.make (number (negsuc 0)) (number (pos 0)))) ∷ []) [] (fault NegativeLength (at 4)) []

abbrev pub CaseExample : Type 0
CaseExample = Gives (printed (node 5 (form.match_on (plain (form.build 9 Apart no_trees)) (more_cases (some_pattern 0) (name 0) no_cases))) ∷ []) [] (fault NoCase (at 5)) []

abbrev pub AssertionExample : Type 0
AssertionExample =
    Gives (run (node 3 (form.assert (plain (form.compare test.Lt (number (pos 1)) (number (pos 2)))))) ∷ run (node 8 (form.assert (plain (form.compare test.Lt (number (pos 2)) (number (pos 2)))))) ∷ [])
    [] (fault AssertFailed (at 8)) []

abbrev pub UnreachedExample : Type 0
UnreachedExample = Gives (run (node 6 form.assert_false) ∷ []) [] (fault AssertFailed (at 6)) []

-- what so many steps of a program give, without input
abbrev pub After : ℕ → List ItemTree → Ending → List ℤ → Type 0
After n is ending output = outcome (items_of is) [] n ≡ record { ending = ending; output = output }

-- `let x = 1 + 2`, `let () = print_int x; print_int 4`
abbrev pub two_prints : List ItemTree
two_prints =
    define 0 (plain (form.arithmetic op.Add (number (pos 1)) (number (pos 2))))
    ∷ run (chained (plain (form.print (name 0))) (plain (form.print (number (pos 4))))) ∷ []

-- Its steps: the sum; 3 replaces x; the first print; the rest of the chain; the second print; the item is gone, and none is left. Nothing
-- follows.
abbrev pub StepsExample : Type 0
StepsExample =
    After 0 two_prints running []
    × After 1 two_prints running []
    × After 2 two_prints running []
    × After 3 two_prints running (pos 3 ∷ [])
    × After 4 two_prints running (pos 3 ∷ [])
    × After 5 two_prints running (pos 3 ∷ pos 4 ∷ [])
    × After 6 two_prints finished (pos 3 ∷ pos 4 ∷ [])
    × After 7 two_prints finished (pos 3 ∷ pos 4 ∷ [])

-- a program without items is finished, and `let () = assert false` is not before its one step
abbrev pub FirstStepExample : Type 0
FirstStepExample =
    After 0 [] finished []
    × After 0 (run (node 6 form.assert_false) ∷ []) running []
    × After 1 (run (node 6 form.assert_false) ∷ []) (fault AssertFailed (at 6)) []

-- `(fun _ -> 3) 7` and `(fun () -> 4) ()`
abbrev pub ParameterExample : Type 0
ParameterExample =
    Gives (printed (plain (form.call (plain (form.fun (pattern (at 0) any) (number (pos 3)))) (number (pos 7))))
    ∷ printed (plain (form.call (plain (form.fun (pattern (at 0) nothing) (number (pos 4)))) (plain form.unit))) ∷ [])
    [] finished (pos 3 ∷ pos 4 ∷ [])

-- `let a = Array.make 2 0 in a.(i) <- 7; print_int a.(i)`
abbrev pub stored_at : ℤ → ItemTree
stored_at i =
    run (plain (form.let_in (variable 0) (plain (form.make (number (pos 2)) (number (pos 0))))
    (chained (node 5 (form.store (name 0) (number i) (number (pos 7)))) (plain (form.print (plain (form.fetch (name 0) (number i))))))))

-- a store at the last index, and one at the length
abbrev pub StoreExample : Type 0
StoreExample = Gives (stored_at (pos 1) ∷ []) [] finished (pos 7 ∷ []) × Gives (stored_at (pos 2) ∷ []) [] (fault OutOfBounds (at 5)) []

-- ---- the order of parts

-- `print_int n; e`
abbrev pub said : ℤ → Tree → Tree
said n e = chained (plain (form.print (number n))) e

-- `print_int ((print_int 1; 7) + (print_int 2; 2))`, and so on: the left operand comes first
abbrev pub calculated : ArithOp → ItemTree
calculated o = printed (plain (form.arithmetic o (said (pos 1) (number (pos 7))) (said (pos 2) (number (pos 2)))))

abbrev pub OperandsExample : Type 0
OperandsExample =
    Gives (calculated op.Add ∷ calculated op.Sub ∷ []) [] finished (pos 1 ∷ pos 2 ∷ pos 9 ∷ pos 1 ∷ pos 2 ∷ pos 5 ∷ [])
    × Gives (calculated op.Mul ∷ calculated op.Div ∷ calculated op.Mod ∷ []) [] finished
    (pos 1 ∷ pos 2 ∷ pos 14 ∷ pos 1 ∷ pos 2 ∷ pos 3 ∷ pos 1 ∷ pos 2 ∷ pos 1 ∷ [])

-- of a comparison too: `if (print_int 1; 7) < (print_int 2; 2) then 1 else 0`
abbrev pub ComparedExample : Type 0
ComparedExample =
    Gives (printed (plain (form.if_else (plain (form.compare test.Lt (said (pos 1) (number (pos 7))) (said (pos 2) (number (pos 2))))) (number (pos 1)) (number (pos 0)))) ∷ [])
    [] finished (pos 1 ∷ pos 2 ∷ pos 0 ∷ [])

-- `Array.length (Array.make (print_int 1; 3) (print_int 2; 0))`: the length before the element
abbrev pub MadeExample : Type 0
MadeExample =
    Gives (printed (plain (form.length_of (plain (form.make (said (pos 1) (number (pos 3))) (said (pos 2) (number (pos 0))))))) ∷ []) [] finished (pos 1 ∷ pos 2 ∷ pos 3 ∷ [])

-- `(print_int 1; Array.make 1 7).(print_int 2; 0)`: the array before the index; and before what is stored
abbrev pub seven : Tree
seven = plain (form.make (number (pos 1)) (number (pos 7)))

abbrev pub FetchedExample : Type 0
FetchedExample = Gives (printed (plain (form.fetch (said (pos 1) seven) (said (pos 2) (number (pos 0))))) ∷ []) [] finished (pos 1 ∷ pos 2 ∷ pos 7 ∷ [])

abbrev pub StoredExample : Type 0
StoredExample =
    Gives (run (plain (form.store (said (pos 1) seven) (said (pos 2) (number (pos 0))) (said (pos 3) (number (pos 5))))) ∷ []) [] finished (pos 1 ∷ pos 2 ∷ pos 3 ∷ [])

-- two parts that print 1 and 2
abbrev pub two_parts : Trees
two_parts = more_trees (said (pos 1) (number (pos 0))) (more_trees (said (pos 2) (plain (form.list_of no_trees))) no_trees)

-- `e; ()`
abbrev pub dropped : Form → ItemTree
dropped f = run (chained (plain f) (plain form.unit))

-- the parts of a tuple, a constructor and a list literal from left to right
abbrev pub PartsExample : Type 0
PartsExample =
    Gives (dropped (form.tuple two_parts) ∷ []) [] finished (pos 1 ∷ pos 2 ∷ [])
    × Gives (dropped (form.build 8 Apart two_parts) ∷ []) [] finished (pos 1 ∷ pos 2 ∷ [])
    × Gives (dropped (form.list_of two_parts) ∷ []) [] finished (pos 1 ∷ pos 2 ∷ [])

-- `(print_int 1; fun x -> x) (print_int 2; 3)`: the function before its argument
abbrev pub AppliedExample : Type 0
AppliedExample =
    Gives (printed (plain (form.call (said (pos 1) (plain (form.fun (variable 0) (name 0)))) (said (pos 2) (number (pos 3))))) ∷ []) [] finished (pos 1 ∷ pos 2 ∷ pos 3 ∷ [])

-- `let rec f f = f`, `print_int (f 5)`: a parameter hides the function's own name; and so within an expression
abbrev pub OwnNameExample : Type 0
OwnNameExample =
    Gives (item (let_rec_of 0 (record { id = 0; place = at 0; parameter = variable 0; body = name 0 })) ∷ printed (plain (form.call (name 0) (number (pos 5)))) ∷ [])
    [] finished (pos 5 ∷ [])
    × Gives (printed (plain (form.let_rec 0 0 (at 0) (variable 0) (name 0) (plain (form.call (name 0) (number (pos 5)))))) ∷ []) [] finished (pos 5 ∷ [])
