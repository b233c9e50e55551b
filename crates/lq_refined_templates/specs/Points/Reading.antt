-- A normal program, as the typing rules have it, with its points in the order of the text.
use Rattle.std.specs.Prelude.{ℕ, suc, ◌+◌, Bool, true, false, ◌&&◌, not, cond, List, [], ◌∷◌, ◌++◌, length, Option}
use Rattle.lq_refined_rules.specs.Checks.Tree as t
use Rattle.lq_refined_rules.specs.Checks.Tree.{Operation, Block, Arms, Program, names_of, is_arm_of, last_operation, has_template}
use Rattle.lq_refined_instances.specs.Scopes.{Scope}
use Rattle.lq_base_names.specs.declared.operation.ArithOp.{ArithOp}
use Rattle.lq_base_names.specs.declared.operation.ArithOp.TheVariants as op
use Rattle.lq_base_names.specs.declared.place.Place.{Place}
use Rattle.lq_text_walk.specs.Scoped.Numbers.{number_of}
use Rattle.lq_text_tree.specs.Items.{ItemTree, ItemForm, type_of, let_of, let_rec_of}
use Rattle.lq_text_tree.specs.MlType.{MlType}
use Rattle.lq_text_tree.specs.Pattern as p
use Rattle.lq_text_tree.specs.Pattern.{pattern}
use Rattle.lq_text_tree.specs.Tree as form
use Rattle.lq_text_tree.specs.Tree.{Tree, tree, Form, Trees, no_trees, more_trees, Cases, no_cases, more_cases}
use Rattle.lq_text_walk.specs.Walk.Visits.{place_of}
use Rattle.lq_refined_templates.specs.Points.Annotation as annotation
use Rattle.lq_refined_templates.specs.Points.Annotation.{Annotation, argument_name, element_type}
use Rattle.lq_refined_templates.specs.Points.Point.{Point, whole, inner, constant, empty, idled}
use Rattle.lq_refined_templates.specs.Points.Pure.{Read, without_points, after, with_one, with_two, pure_form, pure_of, pures_of, variable_of}
use Rattle.lq_refined_templates.specs.Points.Seen.{Seen, seen, seen_until, all_seen, scope_at}

-- ---- patterns

-- in the normal form parameters are names, and the parts of patterns are
abbrev pub parameter_of : p.Pattern → ℕ
parameter_of (pattern l (p.bind x)) = x
parameter_of (pattern l f) = 0

abbrev pub pattern_of : p.Pattern → t.Pattern
pattern_of (pattern l p.any) = t.pattern_any
pattern_of (pattern l (p.bind x)) = t.pattern_name x
pattern_of (pattern l p.nothing) = t.pattern_unit
pattern_of (pattern l (p.tuple_of qs)) = t.pattern_tuple (p.bound_in_all qs)
pattern_of (pattern l (p.build_of c m qs)) = t.pattern_build c (p.bound_in_all qs)

abbrev pub is_none : List t.Pattern → Bool
is_none [] = true
is_none (q ∷ qs) = false

abbrev pub is_build : t.Pattern → Bool
is_build (t.pattern_build c xs) = true
is_build _ = false

abbrev pub are_builds : List t.Pattern → Bool
are_builds [] = true
are_builds (q ∷ qs) = is_build q && are_builds qs

abbrev pub none_is_arm_of : ℕ → List t.Pattern → Bool
none_is_arm_of c [] = true
none_is_arm_of c (q ∷ qs) = not (is_arm_of c q) && none_is_arm_of c qs

-- Whether a rule checks the arm of a pattern behind arms of these patterns: the first one of each constructor, the first one that takes all
-- where only constructors stand before it, and of another type the first one alone.
abbrev pub is_checked : List t.Pattern → t.Pattern → Bool
is_checked qs t.pattern_any = are_builds qs
is_checked qs (t.pattern_name x) = are_builds qs
is_checked qs t.pattern_unit = is_none qs
is_checked qs (t.pattern_tuple xs) = is_none qs
is_checked qs (t.pattern_build c xs) = none_is_arm_of c qs

abbrev pub all_idled : List Point → List Point
all_idled [] = []
all_idled (q ∷ qs) = idled q ∷ all_idled qs

-- ---- operations and blocks

-- An operation with branches or a body takes a template where no type is expected of it.
abbrev pub expecting : Bool → Point → Point
expecting g q = cond g (idled q) q

-- a constructor's value, with these fields
abbrev pub built : Scope → MlType → Trees → Point
built Γ a no_trees = constant Γ a
built Γ a (more_trees e es) = inner Γ a

-- the one operation of a block
abbrev pub only : Place → Read Operation → Read Block
only l o = with_one o (t.last l)

-- an operation with a point of its own before those of its parts
abbrev pub pointed : Point → Read Operation → Read Operation
pointed q o = record { read = o.read; points = q ∷ o.points }

abbrev pub quotient_of : ArithOp → t.Pure → t.Pure → Operation
quotient_of op.Div a b = t.divide a b
quotient_of op.Mod a b = t.remainder a b
quotient_of op.Add a b = t.pure (t.add a b)
quotient_of op.Sub a b = t.pure (t.subtract a b)
quotient_of op.Mul a b = t.pure (t.multiply a b)

module _ (n : Annotation) where
  -- the names of the arguments of a function that is written directly, and so on through functions that are its whole body
  abbrev mutual
    pub written_names : Tree → List (Option ℕ)
    written_names (tree i l f) = names_in f

    pub names_in : Form → List (Option ℕ)
    names_in (form.fun q b) = argument_name n (parameter_of q) ∷ written_names b
    names_in _ = []

  abbrev pub function_names : p.Pattern → Tree → List (Option ℕ)
  function_names q b = argument_name n (parameter_of q) ∷ written_names b

  -- An operation over pure operands, where k is the next point.
  abbrev pub operation_form : ℕ → List Seen → ℕ → Form → Read Operation
  operation_form k Δ i (form.tuple es) = with_one (pures_of n Δ k es) t.tuple
  operation_form k Δ i (form.build c w es) =
      pointed (built (scope_at n Δ i) (n.types i) es) (with_one (pures_of n Δ (suc k) es) (t.build k c))
  operation_form k Δ i (form.call f a) = let x = pure_of n Δ k f in with_two x (pure_of n Δ (after k x) a) t.call
  operation_form k Δ i (form.arithmetic o a b) = let x = pure_of n Δ k a in with_two x (pure_of n Δ (after k x) b) (quotient_of o)
  operation_form k Δ i (form.assert e) = with_one (pure_of n Δ k e) t.assert
  operation_form k Δ i form.assert_false = pointed (whole (scope_at n Δ i) [] (n.types i)) (without_points (t.assert_false k))
  operation_form k Δ i (form.make a b) =
      let x = pure_of n Δ (suc k) a in
      pointed (whole (scope_at n Δ i) [] (element_type (n.types i))) (with_two x (pure_of n Δ (after (suc k) x) b) (t.make k))
  operation_form k Δ i (form.fetch a b) = let x = variable_of n Δ k a in with_two x (pure_of n Δ (after k x) b) t.fetch
  operation_form k Δ i (form.store a b c) =
      let x = variable_of n Δ k a in
      let y = pure_of n Δ (after k x) b in
      let z = pure_of n Δ (after (after k x) y) c in
      record { read = t.store x.read y.read z.read; points = x.points ++ (y.points ++ z.points) }
  operation_form k Δ i (form.print e) = with_one (pure_of n Δ k e) t.print
  operation_form k Δ i (form.read e) = with_one (pure_of n Δ k e) t.read
  operation_form k Δ i form.map_empty = pointed (empty (scope_at n Δ i) (element_type (n.types i))) (without_points (t.map_empty k))
  operation_form k Δ i (form.map_add a b c) =
      let x = pure_of n Δ (suc k) a in
      let y = pure_of n Δ (after (suc k) x) b in
      let z = pure_of n Δ (after (after (suc k) x) y) c in
      pointed (whole (scope_at n Δ i) [] (n.types i))
      (record { read = t.map_add k x.read y.read z.read; points = x.points ++ (y.points ++ z.points) })
  operation_form k Δ i (form.map_find a b) = let x = pure_of n Δ k a in with_two x (pure_of n Δ (after k x) b) t.map_find
  operation_form k Δ i f = with_one (pure_form n Δ k i f) t.pure

  -- A block from the point k on, where these names are visible, and whether a type is expected of its last operation. What a `let` binds is a
  -- block of one operation.
  abbrev mutual
    pub block_of : Bool → ℕ → List Seen → Tree → Read Block
    block_of g k Δ (tree i l f) = block_form g k Δ i l f

    pub block_form : Bool → ℕ → List Seen → ℕ → Place → Form → Read Block
    block_form g k Δ i l (form.let_in q e b) =
        let x = parameter_of q in
        let E = block_of false k Δ e in
        with_two E (block_of g (after k E) (seen_until i x ∷ Δ) b) (λ o c. t.binding x (place_of e) (last_operation o) c)
    block_form g k Δ i l (form.let_rec f j m q b e) =
        let x = parameter_of q in
        let Θ = seen_until i f ∷ Δ in
        let B = block_of true (suc k) (seen x ∷ Θ) b in
        let E = block_of g (after (suc k) B) Θ e in
        record { read = t.recursive f k x B.read E.read; points = whole (scope_at n Θ j) (function_names q b) (n.names f) ∷ (B.points ++ E.points) }
    block_form g k Δ i l (form.fun q b) =
        let x = parameter_of q in
        let a = expecting g (whole (scope_at n Δ i) (function_names q b) (n.types i)) in
        only l (pointed a (with_one (block_of true (suc k) (seen x ∷ Δ) b) (t.fun k x)))
    block_form g k Δ i l (form.if_else c a b) =
        let x = pure_of n Δ (suc k) c in
        let A = block_of true (after (suc k) x) Δ a in
        let B = block_of true (after (after (suc k) x) A) Δ b in
        only l
        (pointed (expecting g (whole (scope_at n Δ i) [] (n.types i)))
        (record { read = t.if_else k x.read A.read B.read; points = x.points ++ (A.points ++ B.points) }))
    block_form g k Δ i l (form.match_on e cs) =
        let x = variable_of n Δ (suc k) e in
        only l
        (pointed (expecting g (whole (scope_at n Δ i) [] (annotation.type_of_form n i (form.match_on e cs))))
        (with_two x (arms_of (after (suc k) x) Δ [] cs) (t.match_on k)))
    block_form g k Δ i l f = only l (operation_form k Δ i f)

    -- the arms behind those of these patterns
    pub arms_of : ℕ → List Seen → List t.Pattern → Cases → Read Arms
    arms_of k Δ qs no_cases = without_points t.no_arms
    arms_of k Δ qs (more_cases r b cs) =
        let q = pattern_of r in
        let B = block_of true k (all_seen (names_of q) Δ) b in
        let rest = arms_of (after k B) Δ (qs ++ q ∷ []) cs in
        record { read = t.arm q B.read rest.read; points = cond (is_checked qs q) B.points (all_idled B.points) ++ rest.points }

  -- ---- programs

  -- What comes behind an item takes the next point, and the names that are visible there.
  abbrev pub Rest : Type 0
  Rest = ℕ → List Seen → Read Program

  -- a definition has a template of its own, or that of the function which is its last operation
  abbrev pub own_point : Bool → Point → List Point
  own_point b q = cond b (q ∷ []) []

  abbrev pub function_point : Operation → ℕ
  function_point (t.fun k x b) = k
  function_point _ = 0

  abbrev pub defined : ℕ → List Seen → Place → ℕ → Tree → Rest → Read Program
  defined k Δ l x e rest =
      let B = block_of false k Δ e in
      let own = own_point (has_template B.read) (whole (scope_at n Δ (number_of e)) [] (n.names x)) in
      let R = rest (after k B + length own) (seen x ∷ Δ) in
      record {
        read = t.define x l (cond (has_template B.read) (after k B) (function_point (last_operation B.read))) B.read R.read;
        points = B.points ++ (own ++ R.points);
      }

  abbrev pub let_item : ℕ → List Seen → p.Pattern → Tree → Rest → Read Program
  let_item k Δ (pattern l (p.bind x)) e rest = defined k Δ l x e rest
  let_item k Δ (pattern l p.nothing) e rest = let B = block_of true k Δ e in with_two B (rest (after k B) Δ) t.run_unit
  let_item k Δ (pattern l f) e rest = let B = block_of false k Δ e in with_two B (rest (after k B) Δ) t.run_any

  abbrev pub item : ℕ → List Seen → ItemForm → Rest → Read Program
  item k Δ (type_of d) rest = rest k Δ
  item k Δ (let_of q e) rest = let_item k Δ q e rest
  item k Δ (let_rec_of f r) rest =
      let x = parameter_of r.parameter in
      let Θ = seen f ∷ Δ in
      let B = block_of true (suc k) (seen x ∷ Θ) r.body in
      let R = rest (after (suc k) B) Θ in
      record {
        read = t.define_recursive f k x B.read R.read;
        points = whole (scope_at n Θ r.id) (function_names r.parameter r.body) (n.names f) ∷ (B.points ++ R.points);
      }

  abbrev pub program_from : ℕ → List Seen → List ItemTree → Read Program
  program_from k Δ [] = without_points t.no_items
  program_from k Δ (i ∷ is) = item k Δ i.form (λ m Θ. program_from m Θ is)

  -- a program with its points, numbered from 0
  abbrev pub program_of : List ItemTree → Read Program
  program_of is = program_from 0 [] is
