-- Some programs with their points and unknowns, worked out by hand: names, functions and branches.
use Rattle.std.specs.Prelude.{true, [], ◌∷◌, Some, None}
use Rattle.lq_refined_rules.specs.Checks.Sample.{at, variable, amount}
use Rattle.lq_refined_rules.specs.Checks.Tree as t
use Rattle.lq_base_names.specs.declared.operation.ArithOp.TheVariants.{Add, Sub}
use Rattle.lq_base_names.specs.declared.operation.CompareOp.TheVariants.{Le}
use Rattle.lq_text_qualifiers.specs.Faults.Shapes as shape
use Rattle.lq_text_tree.specs.Items.{let_of, let_rec_of}
use Rattle.lq_text_tree.specs.MlType as ml
use Rattle.lq_text_tree.specs.Pattern.{pattern, nothing}
use Rattle.lq_text_tree.specs.Tree as form
use Rattle.lq_refined_templates.specs.Points.Point.{whole, idle, one_type}
use Rattle.lq_refined_templates.specs.Points.Sample.{node, name, number, binder, define, annotation, int_named, bool_named, Reads}

-- let rec f n = if n <= 0 then 0 else 1 + f (n - 1) let () = assert (0 <= f 1), with f, n and two made names as 0 to 3: the `if` is against
-- the result of f, so its point is idle
abbrev pub SampleExample : Type 0
SampleExample =
    let test = node 2 (form.compare Le (name 0 1) (number 1 0)) in
    let again = node 9 (form.call (name 5 0) (node 8 (form.arithmetic Sub (name 6 1) (number 7 1)))) in
    let sum = node 10 (form.arithmetic Add (number 4 1) (name 9 2)) in
    let called = node 16 (form.call (name 14 0) (number 15 1)) in
    let asserted = node 18 (form.assert (node 17 (form.compare Le (number 13 0) (name 16 3)))) in
    Reads
    (annotation ((Some 50, ml.arrow ml.int ml.int) ∷ (Some 51, ml.int) ∷ (None, ml.int) ∷ (None, ml.int) ∷ []) ((11, ml.int) ∷ []) [])
    (record {
      place = at 20;
      form =
          let_rec_of 0
          record { id = 12; place = at 12; parameter = binder 1; body = node 11 (form.if_else test (number 3 0) (node 9 (form.let_in (binder 2) again sum))) };
    }
    ∷ record { place = at 30; form = let_of (pattern (at 30) nothing) (node 16 (form.let_in (binder 3) called asserted)) } ∷ [])
    (t.define_recursive 0 0 1
    (t.last (at 11)
    (t.if_else 1 (t.compare Le (variable 1) (amount 0)) (t.last (at 3) (t.pure (amount 0)))
    (t.binding 2 (at 9) (t.call (variable 0) (t.subtract (variable 1) (amount 1))) (t.last (at 10) (t.pure (t.add (amount 1) (variable 2)))))))
    (t.run_unit
    (t.binding 3 (at 16) (t.call (variable 0) (amount 1)) (t.last (at 18) (t.assert (t.compare Le (amount 0) (variable 3)))))
    t.no_items))
    (whole [] (Some 1 ∷ []) (ml.arrow ml.int ml.int) ∷ idle (one_type ml.int) ∷ [])
    (([], shape.int) ∷ (int_named 1 ∷ [], shape.int) ∷ [])

-- let x = 1 let y = read_int () let x = true let z = read_int (), with 0 to 3 for the names: the second x hides the first, and stands
-- behind y
abbrev pub HidingExample : Type 0
HidingExample =
    Reads
    (annotation ((Some 50, ml.int) ∷ (Some 51, ml.int) ∷ (Some 50, ml.bool) ∷ (Some 52, ml.int) ∷ []) [] [])
    (define 0 (number 0 1) ∷ define 1 (node 2 (form.read (node 1 form.unit))) ∷ define 2 (node 3 (form.flag true))
    ∷ define 3 (node 5 (form.read (node 4 form.unit))) ∷ [])
    (t.define 0 (at 20) 0 (t.last (at 0) (t.pure (amount 1)))
    (t.define 1 (at 21) 1 (t.last (at 2) (t.read t.unit))
    (t.define 2 (at 22) 2 (t.last (at 3) (t.pure (t.flag true))) (t.define 3 (at 23) 3 (t.last (at 5) (t.read t.unit)) t.no_items))))
    (whole [] [] ml.int ∷ whole (int_named 0 ∷ []) [] ml.int ∷ whole (int_named 0 ∷ int_named 1 ∷ []) [] ml.bool
    ∷ whole (int_named 1 ∷ bool_named 2 ∷ []) [] ml.int ∷ [])
    (([], shape.int) ∷ (int_named 0 ∷ [], shape.int) ∷ (int_named 0 ∷ int_named 1 ∷ [], shape.bool)
    ∷ (int_named 1 ∷ bool_named 2 ∷ [], shape.int) ∷ [])

-- let f x = let y = (let z = x in z) in Array.make y 0 let u = 1, with 0 to 4 for the names: the array's elements may speak of x and y, and
-- not of z, which is bound in the same block of the normal form; u may speak of none
abbrev pub LocalExample : Type 0
LocalExample =
    let made = node 5 (form.make (name 3 2) (number 4 0)) in
    Reads
    (annotation
    ((Some 50, ml.arrow ml.int (ml.array ml.int)) ∷ (Some 51, ml.int) ∷ (Some 52, ml.int) ∷ (Some 53, ml.int) ∷ (Some 54, ml.int) ∷ [])
    ((5, ml.array ml.int) ∷ (7, ml.arrow ml.int (ml.array ml.int)) ∷ [])
    [])
    (define 0 (node 7 (form.fun (binder 1) (node 2 (form.let_in (binder 3) (name 0 1) (node 6 (form.let_in (binder 2) (name 1 3) made))))))
    ∷ define 4 (number 8 1) ∷ [])
    (t.define 0 (at 20) 0
    (t.last (at 7)
    (t.fun 0 1
    (t.binding 3 (at 0) (t.pure (variable 1))
    (t.binding 2 (at 1) (t.pure (variable 3)) (t.last (at 5) (t.make 1 (variable 2) (amount 0)))))))
    (t.define 4 (at 24) 2 (t.last (at 8) (t.pure (amount 1))) t.no_items))
    (whole [] (Some 1 ∷ []) (ml.arrow ml.int (ml.array ml.int)) ∷ whole (int_named 1 ∷ int_named 2 ∷ []) [] ml.int ∷ whole [] [] ml.int ∷ [])
    (([], shape.int) ∷ (int_named 1 ∷ [], shape.int) ∷ (int_named 1 ∷ [], shape.array)
    ∷ (int_named 1 ∷ int_named 2 ∷ [], shape.int) ∷ ([], shape.int) ∷ [])

-- let f v = fun y -> let g = fun () -> y in g (), with 0 to 3 for the names and 4 for the parameter `()`: no predicate speaks of a name `v`,
-- the inner `fun` is a part of the outer one's template, and a made parameter has no name there
abbrev pub DirectExample : Type 0
DirectExample =
    let constant = node 1 (form.fun (binder 4) (name 0 2)) in
    let called = node 4 (form.call (name 2 3) (node 3 form.unit)) in
    let inner_type = ml.arrow ml.bool ml.bool in
    Reads
    (annotation
    ((Some 50, ml.arrow ml.int inner_type) ∷ (Some 59, ml.int) ∷ (Some 51, ml.bool) ∷ (Some 52, ml.arrow ml.unit ml.bool) ∷ (None, ml.unit) ∷ [])
    ((1, ml.arrow ml.unit ml.bool) ∷ (6, inner_type) ∷ (7, ml.arrow ml.int inner_type) ∷ [])
    [])
    (define 0 (node 7 (form.fun (binder 1) (node 6 (form.fun (binder 2) (node 5 (form.let_in (binder 3) constant called)))))) ∷ [])
    (t.define 0 (at 20) 0
    (t.last (at 7)
    (t.fun 0 1
    (t.last (at 6)
    (t.fun 1 2
    (t.binding 3 (at 1) (t.fun 2 4 (t.last (at 0) (t.pure (variable 2)))) (t.last (at 4) (t.call (variable 3) t.unit)))))))
    t.no_items)
    (whole [] (None ∷ Some 2 ∷ []) (ml.arrow ml.int inner_type) ∷ idle (one_type inner_type)
    ∷ whole (bool_named 2 ∷ []) (None ∷ []) (ml.arrow ml.unit ml.bool) ∷ [])
    (([], shape.int) ∷ ([], shape.bool) ∷ (bool_named 2 ∷ [], shape.bool) ∷ (bool_named 2 ∷ [], shape.bool) ∷ [])

-- let f g = let rec g y = g y in g 1, with 0 to 3 for the names: where the template of the inner g is made, that g hides the outer one
abbrev pub RecursiveExample : Type 0
RecursiveExample =
    let whole_type = ml.arrow ml.int ml.int in
    let body = node 2 (form.call (name 0 2) (name 1 3)) in
    let rest = node 6 (form.call (name 4 2) (number 5 1)) in
    Reads
    (annotation ((Some 50, whole_type) ∷ (Some 51, ml.int) ∷ (Some 51, whole_type) ∷ (Some 52, ml.int) ∷ []) ((8, whole_type) ∷ []) [])
    (define 0 (node 8 (form.fun (binder 1) (node 7 (form.let_rec 2 3 (at 3) (binder 3) body rest)))) ∷ [])
    (t.define 0 (at 20) 0
    (t.last (at 8)
    (t.fun 0 1
    (t.recursive 2 1 3 (t.last (at 2) (t.call (variable 2) (variable 3))) (t.last (at 6) (t.call (variable 2) (amount 1))))))
    t.no_items)
    (whole [] (Some 1 ∷ []) whole_type ∷ whole [] (Some 3 ∷ []) whole_type ∷ [])
    (([], shape.int) ∷ (int_named 1 ∷ [], shape.int) ∷ ([], shape.int) ∷ (int_named 3 ∷ [], shape.int) ∷ [])

-- let a = if true then 1 else 2: no type is expected of the `if`, so it has a template, and a has another
abbrev pub BoundExample : Type 0
BoundExample =
    Reads
    (annotation ((Some 50, ml.int) ∷ []) ((3, ml.int) ∷ []) [])
    (define 0 (node 3 (form.if_else (node 0 (form.flag true)) (number 1 1) (number 2 2))) ∷ [])
    (t.define 0 (at 20) 1
    (t.last (at 3) (t.if_else 0 (t.flag true) (t.last (at 1) (t.pure (amount 1))) (t.last (at 2) (t.pure (amount 2)))))
    t.no_items)
    (whole [] [] ml.int ∷ whole [] [] ml.int ∷ [])
    (([], shape.int) ∷ ([], shape.int) ∷ [])
