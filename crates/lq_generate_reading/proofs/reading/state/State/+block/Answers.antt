use Rattle.std.proofs.Common.{◌≡◌, ◌∙◌, ℕ, ◌+◌, [], ◌∷◌, ◌++◌, List, true, cond, drop, length, map, refl, sym, ap, subst, arith, rules}
use Rattle.std.proofs.lemmas.List.{length-map}
use Rattle.lq_meaning_normal_tree.specs.AtomView.{atom_view}
use Rattle.lq_meaning_normal_tree.specs.BlockView.{binding_view, block_view, branch_view, lets_view, local_view, operation_node_view, operation_view}
use Rattle.lq_meaning_normal_tree.specs.declared.block.Block.{Block, out-Block}
use Rattle.lq_meaning_normal_tree.specs.declared.block.Branch.{out-Branch}
use Rattle.lq_meaning_normal_tree.specs.declared.block.OperationNode.{the_lemmas}
use Rattle.lq_meaning_normal_tree.specs.declared.block.Recursive.{out-Recursive}
use Rattle.lq_refined_rules.specs.Checks.Tree as t
use Rattle.lq_refined_rules.specs.Checks.Tree.{names_of}
use Rattle.lq_base_names.specs.declared.name.Binder.{Binder}
use Rattle.lq_meaning_normal_form.specs.Outcomes.Flattening.{put_in}
use Rattle.lq_refined_templates.specs.Programs.BlockView as made
use Rattle.lq_refined_templates.specs.Programs.PointView.{point_view}
use Rattle.lq_refined_templates.specs.Programs.PureView.{pure_view, use_view}
use Rattle.lq_refined_templates.specs.declared.programs.block.Arm.{roll-Arm}
use Rattle.lq_refined_templates.specs.declared.programs.block.Operation.TheVariants as operation
use Rattle.lq_refined_templates.specs.Points.Point.{whole}
use Rattle.lq_refined_templates.specs.Points.Pure.{Read}
use Rattle.lq_refined_templates.specs.Points.Reading.{all_idled, arms_of, block_of, expecting, function_names, pattern_of}
use Rattle.lq_refined_templates.specs.Points.Seen.{Seen, all_seen, seen, scope_at}
use Rattle.lq_text_tree.specs.MlType.{MlType}
use Rattle.lq_text_tree.specs.PatternView.{pat_view}
use Rattle.lq_text_tree.specs.Tree as form
use Rattle.lq_text_tree.specs.TreeView.{cases_of}
use Rattle.lq_types_table.specs.Nodes.{at}
use Rattle.lq_generate_reading.specs.Visibility.Notes.{annotation_view, types_in}
use Rattle.lq_generate_reading.specs.Reading.Blocks.{arms_read, arm_of, arm_read, block_read, body_read, choice_head_read, let_seen, match_head_read, own_read, patterns_view, recursive_read, two_of}
use Rattle.lq_generate_reading.specs.Reading.Names.{left_of, Sees}
use Rattle.lq_generate_reading.specs.Reading.State.{count_of, noted, points_in, scopes_of, seen_of, Reads}
use Rattle.lq_generate_reading.proofs.ReadingLemmas.ArmForms.{arm_done, arms_next, arms_onto, arms_onto-all, arms_onto-push, branch_seen, made_arm, patterns-push, settled}
use Rattle.lq_generate_reading.proofs.ReadingLemmas.Binding.{all_above, under}
use Rattle.lq_generate_reading.proofs.ReadingLemmas.BlockForms.{block_seen}
use Rattle.lq_generate_reading.proofs.ReadingLemmas.Composing.{both, count_after, one, pointed}
use Rattle.lq_generate_reading.proofs.ReadingLemmas.Forms.{seen_fun, seen_if, seen_match}
use Rattle.lq_generate_reading.proofs.ReadingLemmas.LetForms.{bindings-push, binds_function, binds_next, binds_value, block_end, made_blocks, made_function, made_value, recursive_seen}
use Rattle.lq_generate_reading.proofs.ReadingLemmas.Looping.{part_next, through_as, through_begin, through_end, through_of}
use Rattle.lq_generate_reading.proofs.ReadingLemmas.Made.{made_fun, made_if, made_match, said}
use Rattle.lq_generate_reading.proofs.ReadingLemmas.OwnForms.{own_block, own_simple}
use Rattle.lq_generate_reading.proofs.ReadingLemmas.Rows.{dropped_all, dropped_next}
use Rattle.lq_generate_reading.proofs.reading.state.State.+block.Goals as goal

-- ---- bindings

pub bindings-loop-binding-init : goal.bindings-loop-binding-init
bindings-loop-binding-init τ c =
    let m = c.args.notes.now in
    let s = c.args.self.now in
    let ls = map binding_view c.args.bindings.now in
    record {
      through = λ g e.
          let W = block_read m s g (put_in ls e) in
          through_as m s s (λ b. b) (made.bindings_view c.new-made.result.items) W W (λ b. ap (λ l. made.bindings_view l b) c.new-made.ensures.items)
          (through_begin m s W c.requires);
      bound = [];
      seen = refl;
      stands = c.requires;
    }

pub bindings-loop-binding-preserved : goal.bindings-loop-binding-preserved
bindings-loop-binding-preserved τ c =
    let m = c.args.notes.now in
    let old = c.args.self.now in
    let mid = c.loop-binding.self in
    let new = c.binding.new.self in
    let all = c.args.bindings.now in
    let i = c.loop-binding.binding-index in
    let x = c.binding-item.result in
    let one_more = c.in_ok-one.ensures in
    let f = made.bindings_view c.loop-binding.made.items in
    let e : drop i all ≡ x ∷ drop (i + 1) all = dropped_next all i x c.loop-binding-test.true c.binding-item.is in
    record {
      through = λ g b.
          let W = block_read m old g (put_in (map binding_view all) b) in
          binds_next m old mid new f (made.bindings_view c.push.new.self.items) (made.binding_view c.in_ok-one.one) (binding_view x)
          (map binding_view (drop (i + 1) all)) W g b
          (through_of m old mid f W (block_read m mid g (put_in (map binding_view (drop i all)) b))
          (block_read m mid g (put_in (map binding_view (x ∷ drop (i + 1) all)) b)) (ap (λ l. block_read m mid g (put_in (map binding_view l) b)) e)
          (c.loop-binding.invariant.through g b))
          one_more
          (λ d. ap (λ l. made.bindings_view l d) c.in_ok-push.ensures.items ∙ bindings-push c.loop-binding.made.items c.in_ok-one.one d);
      bound = let_seen (annotation_view m) (binding_view x) ∷ c.loop-binding.invariant.bound;
      seen = one_more.seen ∙ ap (λ l. let_seen (annotation_view m) (binding_view x) ∷ l) c.loop-binding.invariant.seen;
      stands = one_more.stands;
    }

pub bindings-returns : goal.bindings-returns
bindings-returns τ c =
    let m = c.args.notes.now in
    let old = c.args.self.now in
    let new = c.loop-binding.self in
    let all = c.args.bindings.now in
    let i = c.loop-binding.binding-index in
    let f = made.bindings_view c.loop-binding.made.items in
    record {
      through = λ g e.
          through_of m old new f (block_read m old g (put_in (map binding_view all) e)) (block_read m new g (put_in (map binding_view (drop i all)) e))
          (block_read m new g e) (ap (λ l. block_read m new g (put_in (map binding_view l) e)) (dropped_all all i c.loop-binding-test.false))
          (c.loop-binding.invariant.through g e);
      bound = c.loop-binding.invariant.bound;
      seen = c.loop-binding.invariant.seen;
      stands = c.loop-binding.invariant.stands;
    }

pub binding-returns-in_ok-bind-in-Value : goal.binding-returns-in_ok-bind-in-Value
binding-returns-in_ok-bind-in-Value τ c =
    let x = c.in-Value.local in
    let o = c.in-Value.operation in
    let y = c.in_ok-made-in-Value.made in
    binds_value c.args.notes.now c.args.self.now c.operation.new.self c.bind.new.self c.args.binding.now x o (made.operation_view y) _ c.in-Value.is
    c.in_ok-made-in-Value.ensures c.in_ok-bind-in-Value.ensures (made_value x.binder o.place y)

pub binding-returns-in_ok-point-in-Function : goal.binding-returns-in_ok-point-in-Function
binding-returns-in_ok-point-in-Function τ c =
    let r = c.in-Function.function in
    let k = c.in_ok-point-in-Function.point in
    let b = c.in_ok-point-in-Function.body in
    binds_function c.args.notes.now c.args.self.now c.bind-in-Function.new.self c.recursive.new.self c.args.binding.now c.in-Function.name r
    (k, made.block_view b.value) _ c.in-Function.is c.in_ok-bind-in-Function.ensures c.in_ok-point-in-Function.ensures
    (made_function c.in-Function.name k (out-Recursive r).parameter.binder b)

-- ---- blocks

pub block-returns : goal.block-returns
block-returns τ c =
    let m = c.args.notes.now in
    let n = annotation_view m in
    let old = c.args.self.now in
    let mid = c.bindings.new.self in
    let two = c.operation.new.self in
    let new = c.back_to.new.self in
    let g = c.args.expected in
    let b = c.args.block.now in
    let o = (out-Block b).last in
    let bs = c.in_ok-bindings.bindings in
    let last = c.in_ok-last.last in
    let f = made.bindings_view bs.items in
    let e = operation_view o in
    let y = t.last o.place (made.operation_view last) in
    let W = block_read m old g (put_in (map binding_view c.deref.result.now) e) in
    let R = block_read m mid g e in
    let own = own_read m mid g o.id (operation_node_view o.node) in
    let here : Reads m mid two y R = subst (Reads m mid two y) (sym (own_block n g (count_of mid) (seen_of mid) o))
    (one m mid two (made.operation_view last) own (t.last o.place) c.in_ok-last.ensures) in
    let left : Sees m two new (left_of two (length (seen_of old))) = subst (λ k. Sees m two new (left_of two k)) c.depth-depth.ensures c.back_to.ensures in
    said m old new (made.block_view _) (f y) W (block_read m old g (block_view b)) (made_blocks bs o.place last)
    (ap (block_read m old g) (block_seen b ∙ ap (λ l. put_in (lets_view l) e) (sym c.deref.ensures.value)))
    (block_end m old mid two new c.in_ok-bindings.ensures.bound f W R y (c.in_ok-bindings.ensures.through g e) c.in_ok-bindings.ensures.seen here left)

pub body-returns : goal.body-returns
body-returns τ c =
    let m = c.args.notes.now in
    let n = annotation_view m in
    let old = c.args.self.now in
    let one = c.bind.new.self in
    let two = c.boxed_block.new.self in
    let new = c.back_to.new.self in
    let x = c.args.parameter.0 in
    let left : Sees m two new (left_of two (length (seen_of old))) = subst (λ k. Sees m two new (left_of two k)) c.depth-depth.ensures c.back_to.ensures in
    under m old one two new (seen x ∷ []) (seen x ∷ seen_of old) (made.block_view c.in_ok-made.made.value)
    (λ k Δ. block_of n true k Δ (block_view c.args.body.now)) c.in_ok-bind.ensures refl c.in_ok-made.ensures left

pub recursive-returns : goal.recursive-returns
recursive-returns τ c =
    let m = c.args.notes.now in
    let n = annotation_view m in
    let old = c.args.self.now in
    let mid = c.function_point.new.self in
    let new = c.body.new.self in
    let r = out-Recursive c.args.function.now in
    let x = r.parameter.binder in
    let q = local_view r.parameter in
    let f = c.args.name.0 in
    let k = c.in_ok-point.point in
    let y = made.block_view c.in_ok-body.body.value in
    let w = λ (b : Block) (a : MlType). whole (scope_at n (seen_of old) r.id) (function_names n q (block_view b)) a in
    let head : Reads m old mid k (noted (count_of old) (w r.body.value (n.names f))) =
    subst (λ a. Reads m old mid k (noted (count_of old) (w r.body.value a))) c.type_of_binder-number.ensures.is
    (subst (λ b. Reads m old mid k (noted (count_of old) (w b (at (types_in m) c.type_of_binder-number.result)))) c.deref.ensures c.in_ok-point.ensures) in
    let inner : Reads m mid new y (body_read m mid x.0 (block_view r.body.value)) =
    subst (λ b. Reads m mid new y (body_read m mid x.0 (block_view b))) c.deref-2.ensures c.in_ok-body.ensures in
    subst (λ v. Reads m old new (k, y) (recursive_read m old f v)) (sym (recursive_seen c.args.function.now))
    (pointed m old mid new k (w r.body.value (n.names f)) y (λ j Δ. block_of n true j (seen x.0 ∷ Δ) (block_view r.body.value)) (λ j b. (j, b)) head inner)

-- ---- operations

pub operation-returns-in_ok-body-in-Fun : goal.operation-returns-in_ok-body-in-Fun
operation-returns-in_ok-body-in-Fun τ c =
    let m = c.args.notes.now in
    let n = annotation_view m in
    let old = c.args.self.now in
    let mid = c.function_point.new.self in
    let new = c.body.new.self in
    let o = c.args.operation.now in
    let g = c.args.expected in
    let x = c.in-Fun.local in
    let q = local_view x in
    let body = c.in-Fun.body in
    let k = c.in_ok-point-in-Fun.point in
    let made_body = c.in_ok-body-in-Fun.body in
    let y = made.block_view made_body.value in
    let w = λ (b : Block) (a : MlType). expecting g (whole (scope_at n (seen_of old) o.id) (function_names n q (block_view b)) a) in
    let head : Reads m old mid k (noted (count_of old) (w body.value (n.types o.id))) =
    subst (λ a. Reads m old mid k (noted (count_of old) (w body.value a))) c.type_of-number.ensures.is
    (subst (λ b. Reads m old mid k (noted (count_of old) (w b (at (types_in m) c.type_of-number.result)))) c.deref.ensures c.in_ok-point-in-Fun.ensures) in
    let inner : Reads m mid new y (body_read m mid x.binder.0 (block_view body.value)) =
    subst (λ b. Reads m mid new y (body_read m mid x.binder.0 (block_view b))) c.deref-in-Fun.ensures c.in_ok-body-in-Fun.ensures in
    said m old new (made.operation_view (operation.Fun k x.binder made_body)) (t.fun k x.binder.0 y)
    (own_read m old g o.id (form.fun q (block_view body.value))) (own_read m old g o.id (operation_node_view o.node)) (made_fun k x.binder made_body)
    (ap (λ a. own_read m old g o.id (operation_node_view a)) c.in-Fun.is ∙ ap (own_read m old g o.id) (seen_fun x body))
    (pointed m old mid new k (w body.value (n.types o.id)) y (λ j Δ. block_of n true j (seen x.binder.0 ∷ Δ) (block_view body.value))
    (λ j b. t.fun j x.binder.0 b) head inner)

pub operation-returns-in_ok-otherwise-in-If : goal.operation-returns-in_ok-otherwise-in-If
operation-returns-in_ok-otherwise-in-If τ c =
    let m = c.args.notes.now in
    let n = annotation_view m in
    let old = c.args.self.now in
    let head = c.choice_head.new.self in
    let mid = c.boxed_block.new.self in
    let new = c.boxed_block-in-If.new.self in
    let o = c.args.operation.now in
    let g = c.args.expected in
    let e = c.in-If.condition in
    let a = c.in-If.then in
    let b = c.in-If.otherwise in
    let k = c.in_ok-point-in-If.point in
    let x = c.in_ok-point-in-If.condition in
    let y = c.in_ok-then-in-If.then in
    let z = c.in_ok-otherwise-in-If.otherwise in
    let A = block_view a.value in
    let B = block_view b.value in
    let first : Reads m head mid (made.block_view y.value) (block_read m head true A) =
    subst (λ d. Reads m head mid (made.block_view y.value) (block_read m head true (block_view d))) c.deref-in-If.ensures c.in_ok-then-in-If.ensures in
    let second : Reads m mid new (made.block_view z.value) (block_read m mid true B) =
    subst (λ d. Reads m mid new (made.block_view z.value) (block_read m mid true (block_view d))) c.deref-in-If-2.ensures c.in_ok-otherwise-in-If.ensures in
    said m old new (made.operation_view (operation.If k x y z)) (t.if_else k (pure_view x) (made.block_view y.value) (made.block_view z.value))
    (own_read m old g o.id (form.if_else (atom_view e) A B)) (own_read m old g o.id (operation_node_view o.node)) (made_if k x y z)
    (ap (λ d. own_read m old g o.id (operation_node_view d)) c.in-If.is ∙ ap (own_read m old g o.id) (seen_if e a b))
    (both m old head new (k, pure_view x) (choice_head_read m old g o.id (atom_view e)) (made.block_view y.value, made.block_view z.value)
    (λ j Δ. two_of n j Δ A B) (λ u v. t.if_else u.0 u.1 v.0 v.1) c.in_ok-point-in-If.ensures
    (both m head mid new (made.block_view y.value) (block_read m head true A) (made.block_view z.value) (λ j Δ. block_of n true j Δ B) (λ u v. (u, v)) first second))

pub operation-returns-in_ok-arms-in-Match : goal.operation-returns-in_ok-arms-in-Match
operation-returns-in_ok-arms-in-Match τ c =
    let m = c.args.notes.now in
    let n = annotation_view m in
    let old = c.args.self.now in
    let head = c.match_head.new.self in
    let new = c.arms.new.self in
    let o = c.args.operation.now in
    let g = c.args.expected in
    let i = c.in-Match.used in
    let x = c.in-Match.local in
    let bs = c.in-Match.branches in
    let k = c.in_ok-point-in-Match.point in
    let u = c.in_ok-point-in-Match.used in
    let as_ = c.in_ok-arms-in-Match.arms in
    let e = form.tree i x.place (form.use_of x.binder.0) in
    let cs = cases_of (map branch_view bs.items) in
    let first : Reads m old head (k, use_view u) (match_head_read m old g o.id e cs) =
    subst (λ l. Reads m old head (k, use_view u) (match_head_read m old g o.id e (cases_of (map branch_view l)))) c.deref-in-Match.ensures.value
    c.in_ok-point-in-Match.ensures in
    let second : Reads m head new (made.arms_view as_.items) (arms_read m head [] cs) =
    subst (λ l. Reads m head new (made.arms_view as_.items) (arms_read m head [] (cases_of (map branch_view l)))) c.deref-in-Match-2.ensures.value
    c.in_ok-arms-in-Match.ensures in
    said m old new (made.operation_view (operation.Match k u as_)) (t.match_on k (use_view u) (made.arms_view as_.items))
    (own_read m old g o.id (form.match_on e cs)) (own_read m old g o.id (operation_node_view o.node)) (made_match k u as_)
    (ap (λ d. own_read m old g o.id (operation_node_view d)) c.in-Match.is ∙ ap (own_read m old g o.id) (seen_match i x bs))
    (both m old head new (k, use_view u) (match_head_read m old g o.id e cs) (made.arms_view as_.items) (λ j Δ. arms_of n j Δ [] cs)
    (λ v l. t.match_on v.0 v.1 l) first second)

pub operation-returns-in_ok-made-in_default : goal.operation-returns-in_ok-made-in_default
operation-returns-in_ok-made-in_default τ c =
    let m = c.args.notes.now in
    let old = c.args.self.now in
    let o = c.args.operation.now in
    subst (λ (r : Read t.Operation). Reads m old c.simple.new.self (made.operation_view c.in_ok-made-in_default.made) r)
    (sym (own_simple (annotation_view m) c.args.expected (count_of old) (seen_of old) o.id o.node c.in_default.not-Fun c.in_default.not-If c.in_default.not-Match))
    c.in_ok-made-in_default.ensures

pub operation-arms-requires : goal.operation-arms-requires
operation-arms-requires τ c =
    (let e = c.deref-in-Match-2.ensures.value in let d = c.in-Match.is in let u = c.decreases in search (rules, the_lemmas) depth 9, c.in_ok-point-in-Match.ensures.stands)

-- ---- arms

pub arms-loop-branch-init : goal.arms-loop-branch-init
arms-loop-branch-init τ c =
    let m = c.args.notes.now in
    let s = c.args.self.now in
    let cs = cases_of (map branch_view c.args.branches.now) in
    let W = arms_read m s [] cs in
    let made_none = c.new-made.ensures.items in
    record {
      through = through_as m s s (λ b. b) (arms_onto c.new-made.result.items) W (arms_read m s (patterns_view c.new-made.result.items) cs)
          (λ b. ap (λ l. arms_onto l b) made_none)
          (through_of m s s (λ b. b) W W (arms_read m s (patterns_view c.new-made.result.items) cs) (sym (ap (λ l. arms_read m s (patterns_view l) cs) made_none))
          (through_begin m s W c.requires));
      seen = refl;
    }

pub arms-loop-branch-preserved : goal.arms-loop-branch-preserved
arms-loop-branch-preserved τ c =
    let m = c.args.notes.now in
    let n = annotation_view m in
    let old = c.args.self.now in
    let mid = c.loop-branch.self in
    let new = c.arm.new.self in
    let all = c.args.branches.now in
    let i = c.loop-branch.branch-index in
    let x = c.branch-item.result in
    let v = branch_view x in
    let before = c.loop-branch.made.items in
    let qs = patterns_view before in
    let rest = cases_of (map branch_view (drop (i + 1) all)) in
    let W = arms_read m old [] (cases_of (map branch_view all)) in
    let f = arms_onto before in
    let a = c.in_ok-arm.arm in
    let e : drop i all ≡ x ∷ drop (i + 1) all = dropped_next all i x c.loop-branch-test.true c.branch-item.is in
    let here : Reads m mid new (made.arm_view a) (arm_read m mid qs v) =
    subst (λ l. Reads m mid new (made.arm_view a) (arm_read m mid (patterns_view l) v)) c.deref.ensures.value c.in_ok-arm.ensures in
    let F = λ (j : ℕ) (Δ : List Seen). arms_of n j Δ (qs ++ pattern_of v.pattern ∷ []) rest in
    let patterns : patterns_view c.push.new.self.items ≡ qs ++ pattern_of v.pattern ∷ [] =
    ap patterns_view c.in_ok-push.ensures.items ∙ (patterns-push before a ∙ ap (λ b. qs ++ b.pattern ∷ []) here.read) in
    record {
      through = through_of m old new (arms_onto c.push.new.self.items) W (F (count_of new) (seen_of new)) (arms_read m new (patterns_view c.push.new.self.items) rest)
          (ap (λ l. arms_of n (count_of new) (seen_of new) l rest) (sym patterns))
          (part_next m old mid new f (arms_onto c.push.new.self.items) W (made.arm_view a) (arm_read m mid qs v) (λ b as_. t.arm b.pattern b.body as_) F
          (through_of m old mid f W (arms_read m mid qs (cases_of (map branch_view (drop i all)))) _
          (ap (λ l. arms_read m mid qs (cases_of (map branch_view l))) e ∙ arms_next n (count_of mid) (seen_of mid) qs v.pattern v.body rest)
          c.loop-branch.invariant.through)
          here
          (λ b. ap (λ l. arms_onto l b) c.in_ok-push.ensures.items ∙ arms_onto-push before a b));
      seen = here.seen ∙ c.loop-branch.invariant.seen;
    }

pub arms-returns : goal.arms-returns
arms-returns τ c =
    let m = c.args.notes.now in
    let old = c.args.self.now in
    let new = c.loop-branch.self in
    let all = c.args.branches.now in
    let i = c.loop-branch.branch-index in
    let made_arms = c.loop-branch.made.items in
    let W = arms_read m old [] (cases_of (map branch_view all)) in
    subst (λ as_. Reads m old new as_ W) (arms_onto-all made_arms)
    (through_end m old new (arms_onto made_arms) W t.no_arms (arms_read m new (patterns_view made_arms) (cases_of (map branch_view (drop i all))))
    c.loop-branch.invariant.through
    (ap (λ l. arms_read m new (patterns_view made_arms) (cases_of (map branch_view l))) (dropped_all all i c.loop-branch-test.false))
    c.loop-branch.invariant.seen)

pub arm-settle-requires-clause-mark : goal.arm-settle-requires-clause-mark
arm-settle-requires-clause-mark τ c =
    let m = c.args.notes.now in
    let one = c.bind_all.new.self in
    let two = c.block.new.self in
    let k = count_after m one two (made.block_view c.in_ok-body.body) (block_read m one true (block_view (out-Branch c.args.branch.now).body)) c.in_ok-body.ensures in
    let a = c.in_ok-bind_all.ensures.count in
    let b = c.back_to.ensures.count in
    let e = c.count-mark.ensures in
    omega (arith, k, a, b, e)

pub arm-returns : goal.arm-returns
arm-returns τ c =
    let m = c.args.notes.now in
    let n = annotation_view m in
    let old = c.args.self.now in
    let one = c.bind_all.new.self in
    let two = c.block.new.self in
    let back = c.back_to.new.self in
    let new = c.settle.new.self in
    let b = out-Branch c.args.branch.now in
    let v = branch_view c.args.branch.now in
    let q = c.in_ok-pattern.pattern in
    let Q = made.pattern_view q in
    let body = c.in_ok-body.body in
    let y = made.block_view body in
    let e = block_view b.body in
    let qs = patterns_view c.args.before.now in
    let xs = names_of Q in
    let above = all_above xs (seen_of old) in
    let bound : Sees m old one (all_seen xs (seen_of old)) =
    subst (λ l. Sees m old one (all_seen l (seen_of old))) c.pattern_names.ensures c.in_ok-bind_all.ensures in
    let left : Sees m two back (left_of two (length (seen_of old))) = subst (λ k. Sees m two back (left_of two k)) c.depth-depth.ensures c.back_to.ensures in
    let F = λ (j : ℕ) (Δ : List Seen). block_of n true j Δ e in
    let inner : Reads m old back y (F (count_of old) (all_seen xs (seen_of old))) =
    under m old one two back above.0 (all_seen xs (seen_of old)) y F bound above.1 c.in_ok-body.ensures left in
    let B = F (count_of old) (all_seen xs (seen_of old)) in
    let mark : c.count-mark.result ≡ length (points_in m old) =
    c.count-mark.ensures ∙ sym (length-map old.points.items (point_view (scopes_of old) (types_in m))) in
    let kept : Reads m old new y (record { read = B.read; points = cond c.is_checked-checked.result B.points (all_idled B.points) }) =
    settled m old back new y B c.count-mark.result c.is_checked-checked.result mark inner c.in_ok-settle.ensures in
    let Z : made.Branch = record { pattern = Q; body = y } in
    said m old new (made.arm_view (roll-Arm record { pattern = q; body = body })) Z (arm_of n (count_of old) (seen_of old) qs (pat_view Binder (λ x. x.0) b.pattern) e)
    (arm_read m old qs v) (made_arm q body) (ap (arm_read m old qs) (branch_seen c.args.branch.now))
    (arm_done m old new n (count_of old) (seen_of old) qs Q (pat_view Binder (λ x. x.0) b.pattern) y e c.is_checked-checked.result c.in_ok-pattern.ensures
    c.is_checked-checked.ensures kept)
