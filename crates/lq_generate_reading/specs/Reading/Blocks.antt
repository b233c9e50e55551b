-- What operations with blocks, bindings, arms and blocks are read as.
use Rattle.std.specs.Prelude.{◌≡◌, ℕ, suc, Bool, true, false, cond, List, [], ◌∷◌, ◌++◌, map}
use Rattle.lq_refined_rules.specs.Checks.Tree as t
use Rattle.lq_refined_rules.specs.Checks.Tree.{last_operation, names_of}
use Rattle.lq_meaning_normal_form.specs.Outcomes.Flattening.{Let, let_one, let_function, put_in}
use Rattle.lq_refined_templates.specs.Programs.BlockView.{arm_view, Around, Branch}
use Rattle.lq_refined_templates.specs.declared.programs.block.Arm.{Arm}
use Rattle.lq_refined_templates.specs.Points.Annotation as annotation
use Rattle.lq_refined_templates.specs.Points.Annotation.{Annotation}
use Rattle.lq_refined_templates.specs.Points.Point.{Point, whole}
use Rattle.lq_refined_templates.specs.Points.Pure.{Read, after, with_one, with_two, pure_of, variable_of}
use Rattle.lq_refined_templates.specs.Points.Reading.{all_idled, arms_of, block_of, expecting, function_names, is_checked, operation_form, parameter_of, pattern_of, pointed}
use Rattle.lq_refined_templates.specs.Points.Seen.{Seen, all_seen, seen, seen_until, scope_at}
use Rattle.lq_text_tree.specs.Pattern.{Pattern}
use Rattle.lq_text_tree.specs.Tree as form
use Rattle.lq_text_tree.specs.TreeView.{Case, Recursive}
use Rattle.lq_text_tree.specs.Tree.{Tree, Form, Cases}
use Rattle.lq_generate_reading.specs.Visibility.Notes.{annotation_view}
use Rattle.lq_generate_reading.specs.Visibility.Scopes.{Longer}
use Rattle.lq_generate_reading.specs.declared.visibility.notes.Notes.{Notes}
use Rattle.lq_text_walk.specs.Walk.Visits.{place_of}
use Rattle.lq_generate_reading.specs.Reading.State.{count_of, points_in, scopes_of, seen_of, Stands}
use Rattle.lq_generate_reading.specs.Reading.Through.{Through}
use Rattle.lq_generate_reading.specs.declared.reading.state.State.{State}

-- what is read behind a point
abbrev pub behind : {A : Type 0} → Point → Read A → Read A
behind q r = record { read = r.read; points = q ∷ r.points }

-- two blocks, one behind the other
abbrev pub Two : Type 0
Two = t.Block × t.Block

module _ (n : Annotation) where
  abbrev pub two_of : ℕ → List Seen → Tree → Tree → Read Two
  two_of k Δ a b = let A = block_of n true k Δ a in with_two A (block_of n true (after k A) Δ b) (λ x y. (x, y))

  -- ---- operations that have blocks of their own

  abbrev pub fun_of : Bool → ℕ → List Seen → ℕ → Pattern → Tree → Read t.Operation
  fun_of g k Δ i q b =
      pointed (expecting g (whole (scope_at n Δ i) (function_names n q b) (n.types i)))
      (with_one (block_of n true (suc k) (seen (parameter_of q) ∷ Δ) b) (t.fun k (parameter_of q)))

  -- the point of an `if`, and its condition
  abbrev pub choice_head_of : Bool → ℕ → List Seen → ℕ → Tree → Read (ℕ × t.Pure)
  choice_head_of g k Δ i c = behind (expecting g (whole (scope_at n Δ i) [] (n.types i))) (with_one (pure_of n Δ (suc k) c) (λ x. (k, x)))

  abbrev pub if_of : Bool → ℕ → List Seen → ℕ → Tree → Tree → Tree → Read t.Operation
  if_of g k Δ i c a b =
      let h = choice_head_of g k Δ i c in with_two h (two_of (after k h) Δ a b) (λ x y. t.if_else x.0 x.1 y.0 y.1)

  -- the point of a match, and the variable that it is on
  abbrev pub match_head_of : Bool → ℕ → List Seen → ℕ → Tree → Cases → Read (ℕ × t.Use)
  match_head_of g k Δ i e cs =
      behind (expecting g (whole (scope_at n Δ i) [] (annotation.type_of_form n i (form.match_on e cs)))) (with_one (variable_of n Δ (suc k) e) (λ x. (k, x)))

  abbrev pub match_of : Bool → ℕ → List Seen → ℕ → Tree → Cases → Read t.Operation
  match_of g k Δ i e cs =
      let h = match_head_of g k Δ i e cs in with_two h (arms_of n (after k h) Δ [] cs) (λ x as_. t.match_on x.0 x.1 as_)

  -- an operation, and whether a type is expected of it
  abbrev pub own_of : Bool → ℕ → List Seen → ℕ → Form → Read t.Operation
  own_of g k Δ i (form.fun q b) = fun_of g k Δ i q b
  own_of g k Δ i (form.if_else c a b) = if_of g k Δ i c a b
  own_of g k Δ i (form.match_on e cs) = match_of g k Δ i e cs
  own_of g k Δ i f = operation_form n k Δ i f

  -- ---- bindings

  -- the name that a let binds, until its node
  abbrev pub let_seen : Let → Seen
  let_seen (let_one i p q e) = seen_until i (parameter_of q)
  let_seen (let_function i p f j m q b) = seen_until i f

  -- a recursive function whose name is bound: its point and its body
  abbrev pub recursive_of : ℕ → List Seen → ℕ → ℕ → Pattern → Tree → Read (ℕ × t.Block)
  recursive_of k Δ f j q b =
      behind (whole (scope_at n Δ j) (function_names n q b) (n.names f)) (with_one (block_of n true (suc k) (seen (parameter_of q) ∷ Δ) b) (λ B. (k, B)))

  -- what a let makes of the block behind it
  abbrev pub let_of : ℕ → List Seen → Let → Read Around
  let_of k Δ (let_one i p q e) = with_one (block_of n false k Δ e) (λ o c. t.binding (parameter_of q) (place_of e) (last_operation o) c)
  let_of k Δ (let_function i p f j m q b) =
      with_one (recursive_of k (seen_until i f ∷ Δ) f j q b) (λ r c. t.recursive f r.0 (parameter_of q) r.1 c)

  -- ---- arms

  -- an arm behind those of these patterns
  abbrev pub arm_of : ℕ → List Seen → List t.Pattern → Pattern → Tree → Read Branch
  arm_of k Δ qs r b =
      let q = pattern_of r in
      let B = block_of n true k (all_seen (names_of q) Δ) b in
      record { read = record { pattern = q; body = B.read }; points = cond (is_checked qs q) B.points (all_idled B.points) }

-- the patterns of arms that were made
abbrev pub patterns_view : List Arm → List t.Pattern
patterns_view as_ = map (λ a. (arm_view a).pattern) as_

-- ---- in a state

abbrev pub block_read : Notes → State → Bool → Tree → Read t.Block
block_read m s g e = block_of (annotation_view m) g (count_of s) (seen_of s) e

abbrev pub own_read : Notes → State → Bool → ℕ → Form → Read t.Operation
own_read m s g i f = own_of (annotation_view m) g (count_of s) (seen_of s) i f

abbrev pub arms_read : Notes → State → List t.Pattern → Cases → Read t.Arms
arms_read m s qs cs = arms_of (annotation_view m) (count_of s) (seen_of s) qs cs

abbrev pub choice_head_read : Notes → State → Bool → ℕ → Tree → Read (ℕ × t.Pure)
choice_head_read m s g i c = choice_head_of (annotation_view m) g (count_of s) (seen_of s) i c

abbrev pub match_head_read : Notes → State → Bool → ℕ → Tree → Cases → Read (ℕ × t.Use)
match_head_read m s g i e cs = match_head_of (annotation_view m) g (count_of s) (seen_of s) i e cs

abbrev pub recursive_read : Notes → State → ℕ → Recursive → Read (ℕ × t.Block)
recursive_read m s f r = recursive_of (annotation_view m) (count_of s) (seen_of s) f r.id r.parameter r.body

abbrev pub arm_read : Notes → State → List t.Pattern → Case → Read Branch
arm_read m s qs c = arm_of (annotation_view m) (count_of s) (seen_of s) qs c.pattern c.body

-- a body, where its parameter is bound
abbrev pub body_read : Notes → State → ℕ → Tree → Read t.Block
body_read m s x e = block_of (annotation_view m) true (count_of s) (seen x ∷ seen_of s) e

-- a let is read, and the name that it binds is bound
pub record Binds (m : Notes) (old new : State) (f : Around) (l : Let) : Type 0 where
  pub read : f ≡ (let_of (annotation_view m) (count_of old) (seen_of old) l).read
  pub points : points_in m new ≡ points_in m old ++ (let_of (annotation_view m) (count_of old) (seen_of old) l).points
  pub seen : seen_of new ≡ let_seen (annotation_view m) l ∷ seen_of old
  pub scopes : Longer (scopes_of old) (scopes_of new)
  pub stands : Stands m new

-- of these lets the first ones are read, and the names that they bind are bound
pub record BindsSome (m : Notes) (old new : State) (f : Around) (all rest : List Let) : Type 0 where
  pub through : (g : Bool) (e : Tree) → Through m old new f (block_read m old g (put_in all e)) (block_read m new g (put_in rest e))
  pub bound : List Seen
  pub seen : seen_of new ≡ bound ++ seen_of old
  pub stands : Stands m new

-- lets are read, and the names that they bind are bound
abbrev pub BindsAll : Notes → State → State → Around → List Let → Type 0
BindsAll m old new f ls = BindsSome m old new f ls []
