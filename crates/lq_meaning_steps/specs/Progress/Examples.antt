-- Small programs with their types, and such as have none.
use Rattle.std.specs.Prelude.{◌≡◌, ℕ, ℤ, pos, Bool, true, false, List, [], ◌∷◌, slice_index_or, Some}
use Rattle.lq_base_names.specs.declared.operation.ArithOp.TheVariants as op
use Rattle.lq_base_names.specs.declared.operation.CompareOp.TheVariants as test
use Rattle.lq_text_tree.specs.declared.expr.Arguments.TheVariants.{Apart}
use Rattle.lq_text_tree.specs.MlType as ml
use Rattle.lq_text_tree.specs.MlType.{MlType}
use Rattle.lq_text_tree.specs.Items.{ItemTree, type_of, let_of, let_rec_of}
use Rattle.lq_text_tree.specs.Pattern.{Pattern, pattern, bind, nothing, tuple_of, build_of, no_patterns, more_patterns}
use Rattle.lq_text_tree.specs.Tree as form
use Rattle.lq_text_tree.specs.Tree.{Tree, tree, Form, no_trees, more_trees, no_cases, more_cases}
use Rattle.lq_text_tree.specs.TypeTree.{type_tree, variable, no_type_trees, more_type_trees}
use Rattle.lq_meaning_steps.specs.Model.Examples.{at, item}
use Rattle.lq_meaning_steps.specs.Model.FromTree.{items_of}
use Rattle.lq_meaning_steps.specs.Model.Program.{stuck, outcome}
use Rattle.lq_meaning_steps.specs.Model.Core as some
use Rattle.lq_meaning_steps.specs.Model.Core.{variable, assert, print, read, sum, arithmetic, comparison, make, fetch, store, build, Core, val, use_of, fun, row, let_in, let_rec, call, one, two, three, and_of, if_else, match_on, seq, none, more, no_arms, more_arms, v_whole, v_flag, v_unit, v_rec, v_array}
use Rattle.lq_meaning_steps.specs.Model.Operations.{World}
use Rattle.lq_meaning_steps.specs.Model.Step.{goes}
use Rattle.lq_meaning_steps.specs.Model.StepFunction.{step}
use Rattle.lq_text_tree.specs.Types.{Signature, list_type}
use Rattle.lq_text_tree.specs.Signatures.{signature_of}
use Rattle.lq_meaning_steps.specs.Progress.Typing.{Table, Has, FitsStore}
use Rattle.lq_text_tree.specs.TypingRules.{Annotation, IsTyped}

-- a node with this number
abbrev pub node : ℕ → Form → Tree
node i f = tree i (at 0) f

abbrev pub binds : ℕ → Pattern
binds x = pattern (at 0) (bind x)

abbrev pub define : ℕ → Tree → ItemTree
define x e = item (let_of (binds x) e)

abbrev pub run : Tree → ItemTree
run e = item (let_of (pattern (at 0) nothing) e)

-- the types of the nodes 0, 1, .., and those of the binders
abbrev pub annotated : List MlType → List MlType → Annotation
annotated nodes binders = record { nodes = λ i. slice_index_or nodes i ml.unit; binders = λ i. slice_index_or binders i ml.unit }

-- `let id = fun x -> x`, `let () = print_int (id 1)`, `let b = id true`
abbrev pub identity : List ItemTree
identity =
    define 0 (node 1 (form.fun (binds 1) (node 0 (form.use_of 1))))
    ∷ run (node 5 (form.print (node 4 (form.call (node 2 (form.use_of 0)) (node 3 (form.whole (pos 1)))))))
    ∷ define 2 (node 8 (form.call (node 6 (form.use_of 0)) (node 7 (form.flag true)))) ∷ []

abbrev pub identity_types : Annotation
identity_types =
    annotated
    (ml.var 0 ∷ ml.arrow (ml.var 0) (ml.var 0) ∷ ml.arrow ml.int ml.int ∷ ml.int ∷ ml.int ∷ ml.unit ∷ ml.arrow ml.bool ml.bool ∷ ml.bool ∷ ml.bool ∷ [])
    (ml.arrow (ml.var 0) (ml.var 0) ∷ ml.var 0 ∷ ml.bool ∷ [])

-- a function is used at two types
abbrev pub IdentityExample : Type 0
IdentityExample = IsTyped identity_types identity

-- `let r = Array.make 0 []`
abbrev pub array_item : ItemTree
array_item = define 0 (node 2 (form.make (node 0 (form.whole (pos 0))) (node 1 (form.list_of no_trees))))

-- `let () = r.(0) <- [1]`
abbrev pub stored_number : ItemTree
stored_number = run (node 7 (form.store (node 3 (form.use_of 0)) (node 4 (form.whole (pos 0))) (node 6 (form.list_of (more_trees (node 5 (form.whole (pos 1))) no_trees)))))

-- `let () = r.(0) <- [true]`
abbrev pub stored_flag : ItemTree
stored_flag = run (node 12 (form.store (node 8 (form.use_of 0)) (node 9 (form.whole (pos 0))) (node 11 (form.list_of (more_trees (node 10 (form.flag true)) no_trees)))))

abbrev pub array_types : Annotation
array_types =
    annotated
    (ml.int ∷ list_type ml.int ∷ ml.array (list_type ml.int) ∷ ml.array (list_type ml.int) ∷ ml.int ∷ ml.int ∷ list_type ml.int ∷ ml.unit ∷ [])
    (ml.array (list_type ml.int) ∷ [])

-- an array is used at one type, and not at two
abbrev pub ArrayExample : Type 0
ArrayExample = IsTyped array_types (array_item ∷ stored_number ∷ []) × ((n : Annotation) → IsTyped n (array_item ∷ stored_number ∷ stored_flag ∷ []) → ⊥)

-- `let x = true + 1`: it gets stuck, and has no types
abbrev pub ill_typed : List ItemTree
ill_typed = define 0 (node 2 (form.arithmetic op.Add (node 0 (form.flag true)) (node 1 (form.whole (pos 1))))) ∷ []

abbrev pub StuckExample : Type 0
StuckExample = ((outcome (items_of ill_typed) [] 1).ending ≡ stuck) × ((n : Annotation) → IsTyped n ill_typed → ⊥)

-- `type 'a box = Box of 'a`, `let unbox = fun b -> match b with Box x -> x`, `let () = print_int (unbox (Box 1))`
abbrev pub boxes : List ItemTree
boxes =
    item (type_of (record {
      name = 12;
      place = at 0;
      parameters = record { name = 11; place = at 0 } ∷ [];
      constructors = record { name = 13; place = at 0; fields = more_type_trees (type_tree (at 0) (variable 11)) no_type_trees } ∷ [];
    }))
    ∷ define 0 (node 3 (form.fun (binds 1) (node 2 (form.match_on (node 0 (form.use_of 1))
    (more_cases (pattern (at 0) (build_of 13 (at 0) (more_patterns (binds 2) no_patterns))) (node 1 (form.use_of 2)) no_cases)))))
    ∷ run (node 8 (form.print (node 7 (form.call (node 4 (form.use_of 0)) (node 6 (form.build 13 Apart (more_trees (node 5 (form.whole (pos 1))) no_trees))))))) ∷ []

abbrev pub box_of : MlType → MlType
box_of a = ml.named 12 (ml.more_types a ml.no_types)

abbrev pub box_types : Annotation
box_types =
    annotated
    (box_of (ml.var 0) ∷ ml.var 0 ∷ ml.var 0 ∷ ml.arrow (box_of (ml.var 0)) (ml.var 0) ∷ ml.arrow (box_of ml.int) ml.int ∷ ml.int ∷ box_of ml.int ∷ ml.int ∷ ml.unit ∷ [])
    (ml.arrow (box_of (ml.var 0)) (ml.var 0) ∷ box_of (ml.var 0) ∷ ml.var 0 ∷ [])

-- a datatype with a parameter
abbrev pub BoxExample : Type 0
BoxExample = IsTyped box_types boxes

-- `(e, d)`
abbrev pub paired : ℕ → Tree → Tree → Tree
paired i e d = node i (form.tuple (more_trees e (more_trees d no_trees)))

-- `if k <= 0 then a else sum (a + k, k - 1)`
abbrev pub choice : Tree
choice =
    node 12 (form.if_else (node 3 (form.compare test.Le (node 1 (form.use_of 3)) (node 2 (form.whole (pos 0))))) (node 4 (form.use_of 2))
    (node 11 (form.call (node 5 (form.use_of 0))
    (paired 10 (node 7 (form.arithmetic op.Add (node 6 (form.use_of 2)) (node 15 (form.use_of 3)))) (node 9 (form.arithmetic op.Sub (node 8 (form.use_of 3)) (node 16 (form.whole (pos 1)))))))))

-- `match p with (a, k) -> ..`
abbrev pub split : Tree
split =
    node 13 (form.match_on (node 0 (form.use_of 1))
    (more_cases (pattern (at 0) (tuple_of (more_patterns (binds 2) (more_patterns (binds 3) no_patterns)))) choice no_cases))

-- `let rec sum p = match p with (a, k) -> if k <= 0 then a else sum (a + k, k - 1)`, `let () = print_int (sum (0, read_int ())); ()`
abbrev pub sums : List ItemTree
sums =
    item (let_rec_of 0 (record { id = 14; place = at 0; parameter = binds 1; body = split }))
    ∷ run (node 24 (form.chain (more_trees
    (node 22 (form.print (node 21 (form.call (node 17 (form.use_of 0)) (paired 20 (node 18 (form.whole (pos 0))) (node 19 (form.read (node 25 form.unit))))))))
    (more_trees (node 23 form.unit) no_trees))))
    ∷ []

abbrev pub pair : MlType
pair = ml.tuple (ml.more_types ml.int (ml.more_types ml.int ml.no_types))

abbrev pub sum_type : MlType
sum_type = ml.arrow pair ml.int

abbrev pub sum_types : Annotation
sum_types =
    annotated
    (pair ∷ ml.int ∷ ml.int ∷ ml.bool ∷ ml.int ∷ sum_type ∷ ml.int ∷ ml.int ∷ ml.int ∷ ml.int ∷ pair ∷ ml.int ∷ ml.int ∷ ml.int ∷ sum_type
    ∷ ml.int ∷ ml.int ∷ sum_type ∷ ml.int ∷ ml.int ∷ pair ∷ ml.int ∷ ml.unit ∷ ml.unit ∷ ml.unit ∷ ml.unit ∷ [])
    (sum_type ∷ pair ∷ ml.int ∷ ml.int ∷ [])

-- a recursive function of a pair
abbrev pub SumExample : Type 0
SumExample = IsTyped sum_types sums

-- `Array.make 1 2`, and what its one step gives
abbrev pub made : Core
made = two (make (at 0)) (val (v_whole (pos 1))) (val (v_whole (pos 2)))

abbrev pub no_arrays : World
no_arrays = record { arrays = []; input = []; output = [] }

abbrev pub one_array : World
one_array = record { arrays = (v_whole (pos 2) ∷ []) ∷ []; input = []; output = [] }

abbrev pub new_array : Core
new_array = val (v_array 0 1)

-- the step keeps the type under a table that has the new array, and not under the earlier one
abbrev pub TableExample : Type 0
TableExample =
    (g : Signature)
    → Has g [] [] made (ml.array ml.int) × (step made no_arrays ≡ Some (goes new_array one_array)) × Has g (ml.int ∷ []) [] new_array (ml.array ml.int)
    × FitsStore g (ml.int ∷ []) one_array.arrays × (Has g [] [] new_array (ml.array ml.int) → ⊥)

-- ---- first steps

-- An expression of the type, where the arrays have the types of the table, has this step, and what it gives has the type under the later
-- table.
abbrev pub Keeps : Signature → MlType → Table → Core → World → Table → Core → World → Type 0
Keeps g a t e w u d v = Has g t [] e a × FitsStore g t w.arrays × (step e w ≡ Some (goes d v)) × Has g u [] d a × FitsStore g u v.arrays

abbrev pub number : ℕ → Core
number n = val (v_whole (pos n))

abbrev pub truth : Bool → Core
truth b = val (v_flag b)

-- `1 + 2`; `1 < 2`
abbrev pub CalculationExample : Type 0
CalculationExample =
    (g : Signature)
    → Keeps g ml.int [] (two (arithmetic sum) (number 1) (number 2)) no_arrays [] (number 3) no_arrays
    × Keeps g ml.bool [] (two (comparison test.Lt) (number 1) (number 2)) no_arrays [] (truth true) no_arrays

-- `f x` in `let rec f x = f x`
abbrev pub again : Core
again = call (use_of 0) (use_of 1)

-- `(fun x -> x) 3`; `let rec f x = f x in f 1`; `let x = 3 in x`
abbrev pub FunctionExample : Type 0
FunctionExample =
    (g : Signature)
    → Keeps g ml.int [] (call (fun (variable 0) (use_of 0)) (number 3)) no_arrays [] (number 3) no_arrays
    × Keeps g ml.int [] (let_rec 0 (variable 1) again (call (use_of 0) (number 1))) no_arrays [] (call (val (v_rec 0 (variable 1) again)) (number 1)) no_arrays
    × Keeps g ml.int [] (let_in (variable 0) (number 3) (use_of 0)) no_arrays [] (number 3) no_arrays

-- `if true then 1 else 2`; `true && false`; `(); 1`
abbrev pub ChoiceExample : Type 0
ChoiceExample =
    (g : Signature)
    → Keeps g ml.int [] (if_else (truth true) (number 1) (number 2)) no_arrays [] (number 1) no_arrays
    × Keeps g ml.bool [] (and_of (truth true) (truth false)) no_arrays [] (truth false) no_arrays
    × Keeps g ml.int [] (seq (val v_unit) (number 1)) no_arrays [] (number 1) no_arrays

-- `match Some 1 with Some x -> x`, where 10 is the constructor `Some`
abbrev pub MatchExample : Type 0
MatchExample =
    Keeps (signature_of []) ml.int [] (match_on (at 0) (row (build 10) (more (number 1) none)) (more_arms (some.build_of 10 (some.more_patterns (some.bind 0) some.no_patterns)) (use_of 0) no_arms)) no_arrays
    [] (number 1) no_arrays

-- arrays with one number
abbrev pub holding : ℕ → World
holding n = record { arrays = (v_whole (pos n) ∷ []) ∷ []; input = []; output = [] }

-- `a.(0)`; `a.(0) <- 5`
abbrev pub ElementExample : Type 0
ElementExample =
    (g : Signature)
    → Keeps g ml.int (ml.int ∷ []) (two (fetch (at 0)) new_array (number 0)) (holding 7) (ml.int ∷ []) (number 7) (holding 7)
    × Keeps g ml.unit (ml.int ∷ []) (three (store (at 0)) new_array (number 0) (number 5)) (holding 7) (ml.int ∷ []) (val v_unit) (holding 5)

abbrev pub with_input : List ℤ → List ℤ → World
with_input input output = record { arrays = []; input = input; output = output }

-- `read_int ()`; `print_int 3`; `assert true`
abbrev pub EffectExample : Type 0
EffectExample =
    (g : Signature)
    → Keeps g ml.int [] (one (read (at 0)) (val v_unit)) (with_input (pos 4 ∷ []) []) [] (number 4) (with_input [] [])
    × Keeps g ml.unit [] (one print (number 3)) (with_input [] []) [] (val v_unit) (with_input [] (pos 3 ∷ []))
    × Keeps g ml.unit [] (one (assert (at 0)) (truth true)) no_arrays [] (val v_unit) no_arrays
