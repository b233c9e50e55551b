-- A pass over the visits of a tree makes of it what the tree becomes.
use Rattle.std.proofs.Common.{◌≡◌, ℕ, zero, suc, ◌+◌, ◌-◌, Bool, true, false, List, [], ◌∷◌, ◌++◌, length, drop, Option, Some, refl, sym, ap, ◌∙◌, arith}
use Rattle.std.proofs.lemmas.List.{append_assoc, append-nil}
use Rattle.lq_base_names.specs.declared.place.Place.{Place}
use Rattle.lq_text_tree.specs.Items.{ItemTree}
use Rattle.lq_text_tree.specs.Pattern.{Pattern, pattern, any, bind, nothing, tuple_of, build_of, bound_in}
use Rattle.lq_text_tree.specs.Tree as form
use Rattle.lq_text_tree.specs.Tree.{Tree, tree, Form, Trees, no_trees, more_trees, Cases, no_cases, more_cases}
use Rattle.lq_text_tree.specs.TreeView.{Recursive}
use Rattle.lq_text_walk.specs.Walk.Fold.{fold_all, fold_cases}
use Rattle.lq_text_walk.specs.Walk.Shape as shape
use Rattle.lq_text_walk.specs.Walk.Shape.{Row, Shape, shape_of, listed, listed_cases}
use Rattle.lq_text_walk.specs.Walk.Visits.{Visit, leave, leave_function, declare, hide, show_name, hide_name, visits_of, visiting, around, under, in_row, in_arms, in_match, in_function, is_let}
use Rattle.lq_text_scope.specs.Known.{Arity, defined}
use Rattle.lq_text_resolve.specs.Binding.Binding.{bound_from, is_tuple, numbered, sources_of}
use Rattle.lq_text_resolve.specs.Binding.Machine.{Machine, machine_with, finish, run, left, takes, fewer, first, top, below, declared, last_trees, row_left, match_left, values_below, last_starts, starts_below, cases_with, body_in, parameter_in, values_under}
use Rattle.lq_text_resolve.specs.Binding.Making.{Frame, frame_with, Value, whole, part, Made, node, row_of, making, made, all_made, arms_made, match_made, taken_body, matched, next_before, source_before, start_of, shown, named}

-- what was made visible is hidden again
drop_one : (m : ℕ) (ws : List Arity) → drop (suc m) ws ≡ drop 1 (drop m ws)
drop_one zero ws = refl
drop_one (suc m) [] = refl
drop_one (suc m) (w ∷ ws) = drop_one m ws

bound_less : (n : ℕ) (xs : List ℕ) (vs : List Arity) → drop (length xs) (bound_from n xs vs) ≡ vs
bound_less n [] vs = refl
bound_less n (x ∷ xs) vs = drop_one (length xs) (bound_from (suc n) xs (defined x n ∷ vs)) ∙ ap (λ (ws : List Arity). drop 1 ws) (bound_less (suc n) xs (defined x n ∷ vs))

hides : (n : ℕ) (q : Pattern) (k : Frame) → fewer (length (bound_in q)) (shown n q k) ≡ k
hides n q k = ap (λ (vs : List Arity). frame_with vs k.constructors) (bound_less n (bound_in q) k.variables)

-- a machine whose next pattern is no parameter
abbrev pub at : Frame → ℕ → List (Option ℕ) → List ℕ → List Value → List ItemTree → Machine
at k n s ns ws is = machine_with k n s ns ws false is

abbrev pub with_matched : Bool → Value → List Value → List Value
with_matched true v ws = v ∷ ws
with_matched false v ws = ws

-- what stands below a function's body
abbrev pub values_with : Pattern → ℕ → ℕ → List Value → List Value
values_with q b n ws = with_matched (is_tuple q) (whole (matched b q n)) ws

declared_is : (q : Pattern) (k : Frame) (n : ℕ) (s : List (Option ℕ)) (ns : List ℕ) (ws : List Value) (is : List ItemTree)
    → declared (is_tuple q) q (machine_with k n s ns ws true is)
    ≡ at k (next_before (is_tuple q) n) (source_before (is_tuple q) s ++ sources_of (bound_in q)) (start_of q s ∷ ns) (values_with q (length s) n ws) is
declared_is (pattern p any) k n s ns ws is = refl
declared_is (pattern p (bind x)) k n s ns ws is = refl
declared_is (pattern p nothing) k n s ns ws is = refl
declared_is (pattern p (tuple_of ps)) k n s ns ws is = refl
declared_is (pattern p (build_of c r ps)) k n s ns ws is = refl

pub body_is : (p : Place) (q : Pattern) (start b n : ℕ) (v : Value) (ws : List Value) (m : ℕ)
    → body_in p q start (v ∷ values_with q b n ws) m ≡ taken_body (is_tuple q) start q (matched b q n) (part p v) m
body_is p (pattern r any) start b n v ws m = refl
body_is p (pattern r (bind x)) start b n v ws m = refl
body_is p (pattern r nothing) start b n v ws m = refl
body_is p (pattern r (tuple_of ps)) start b n v ws m = refl
body_is p (pattern r (build_of c o ps)) start b n v ws m = refl

pub under_is : (q : Pattern) (b n : ℕ) (v : Value) (ws : List Value) → values_under q (v ∷ values_with q b n ws) ≡ ws
under_is (pattern r any) b n v ws = refl
under_is (pattern r (bind x)) b n v ws = refl
under_is (pattern r nothing) b n v ws = refl
under_is (pattern r (tuple_of ps)) b n v ws = refl
under_is (pattern r (build_of c o ps)) b n v ws = refl

pub number_is : (q : Pattern) (start : ℕ) (e b : Tree) (n : ℕ) → taken_body (is_tuple q) start q e b (next_before (is_tuple q) n - 1) ≡ taken_body (is_tuple q) start q e b n
number_is (pattern r any) start e b n = refl
number_is (pattern r (bind x)) start e b n = refl
number_is (pattern r nothing) start e b n = refl
number_is (pattern r (tuple_of ps)) start e b n = let same : suc n - 1 ≡ n = omega arith in ap (λ (m : ℕ). taken_body true start (pattern r (tuple_of ps)) e b m) same
number_is (pattern r (build_of c o ps)) start e b n = refl

module _ (names : List (List ℕ)) where
  abbrev pub after : Tree → Frame → ℕ → List (Option ℕ) → List ℕ → List Value → List ItemTree → Machine
  after t k n s ns ws is = let x = made names t k n s in at k x.next x.sources ns (x.value ∷ ws) is

  -- the visits of a tree put what it becomes on the values
  abbrev pub Runs : Tree → Type 0
  Runs t =
      (k : Frame) (n : ℕ) (s : List (Option ℕ)) (ns : List ℕ) (ws : List Value) (b : Bool) (is : List ItemTree) (vs : List Visit)
      → run names (machine_with k n s ns ws b is) (visits_of t ++ vs) ≡ run names (after t k n s ns ws is) vs

  node_runs : (i : ℕ) (p : Place) (f : Form) (us : List Visit) (k : Frame) (n : ℕ) (s : List (Option ℕ)) (ns : List ℕ) (ws : List Value) (b : Bool) (is : List ItemTree)
      (inner outer : Machine) (vs : List Visit) → ((rs : List Visit) → run names (machine_with k n s ns ws (takes (shape_of f)) is) (us ++ rs) ≡ run names inner rs)
      → left names (tree i p f) inner ≡ outer → run names (machine_with k n s ns ws b is) (around (tree i p f) us ++ vs) ≡ run names outer vs
  node_runs i p f us k n s ns ws b is inner outer vs inside ends =
      ap (run names (machine_with k n s ns ws (takes (shape_of f)) is)) (append_assoc us (leave (tree i p f) ∷ []) vs)
      ∙ inside (leave (tree i p f) ∷ vs) ∙ ap (λ (m : Machine). run names m vs) ends

  -- one tree behind another
  both_run : (a b : Tree) → Runs a → Runs b → (k : Frame) (n : ℕ) (s : List (Option ℕ)) (ns : List ℕ) (ws : List Value) (is : List ItemTree) (vs : List Visit)
      → run names (at k n s ns ws is) ((visits_of a ++ visits_of b) ++ vs)
      ≡ (let x = made names a k n s in run names (after b k x.next x.sources ns (x.value ∷ ws) is) vs)
  both_run a b first second k n s ns ws is vs =
      let x = made names a k n s in
      ap (run names (at k n s ns ws is)) (append_assoc (visits_of a) (visits_of b) vs) ∙ first k n s ns ws false is (visits_of b ++ vs)
      ∙ second k x.next x.sources ns (x.value ∷ ws) false is vs

  two_run : (i : ℕ) (p : Place) (f : Form) (a b : Tree) → Runs a → Runs b
      → (k : Frame) (n : ℕ) (s : List (Option ℕ)) (ns : List ℕ) (ws : List Value) (t : Bool) (is : List ItemTree) (outer : Machine) (vs : List Visit) → takes (shape_of f) ≡ false
      → left names (tree i p f) (let x = made names a k n s in after b k x.next x.sources ns (x.value ∷ ws) is) ≡ outer
      → run names (machine_with k n s ns ws t is) (around (tree i p f) (visits_of a ++ visits_of b) ++ vs) ≡ run names outer vs
  two_run i p f a b first second k n s ns ws t is outer vs plain ends =
      node_runs i p f (visits_of a ++ visits_of b) k n s ns ws t is (let x = made names a k n s in after b k x.next x.sources ns (x.value ∷ ws) is) outer vs
      (λ rs. ap (λ (c : Bool). run names (machine_with k n s ns ws c is) ((visits_of a ++ visits_of b) ++ rs)) plain ∙ both_run a b first second k n s ns ws is rs) ends

  three_run : (i : ℕ) (p : Place) (f : Form) (a b c : Tree) → Runs a → Runs b → Runs c
      → (k : Frame) (n : ℕ) (s : List (Option ℕ)) (ns : List ℕ) (ws : List Value) (t : Bool) (is : List ItemTree) (outer : Machine) (vs : List Visit) → takes (shape_of f) ≡ false
      → left names (tree i p f) (let x = made names a k n s in let y = made names b k x.next x.sources in after c k y.next y.sources ns (y.value ∷ x.value ∷ ws) is) ≡ outer
      → run names (machine_with k n s ns ws t is) (around (tree i p f) (visits_of a ++ (visits_of b ++ visits_of c)) ++ vs) ≡ run names outer vs
  three_run i p f a b c first second third k n s ns ws t is outer vs plain ends =
      let x = made names a k n s in
      node_runs i p f (visits_of a ++ (visits_of b ++ visits_of c)) k n s ns ws t is
      (let y = made names b k x.next x.sources in after c k y.next y.sources ns (y.value ∷ x.value ∷ ws) is) outer vs
      (λ rs. ap (λ (o : Bool). run names (machine_with k n s ns ws o is) ((visits_of a ++ (visits_of b ++ visits_of c)) ++ rs)) plain
      ∙ ap (run names (at k n s ns ws is)) (append_assoc (visits_of a) (visits_of b ++ visits_of c) rs) ∙ first k n s ns ws false is ((visits_of b ++ visits_of c) ++ rs)
      ∙ both_run b c second third k x.next x.sources ns (x.value ∷ ws) is rs) ends

  -- a body in which the names of a pattern are visible
  under_run : (q : Pattern) (b : Tree) → Runs b → (k : Frame) (n : ℕ) (s : List (Option ℕ)) (start : ℕ) (ns : List ℕ) (ws : List Value) (is : List ItemTree) (vs : List Visit)
      → run names (at k n s (start ∷ ns) ws is) (under q (visits_of b) ++ vs)
      ≡ (let y = made names b (shown start q k) n s in run names (at k y.next y.sources (start ∷ ns) (y.value ∷ ws) is) vs)
  under_run q b body k n s start ns ws is vs =
      let y = made names b (shown start q k) n s in
      ap (run names (at (shown start q k) n s (start ∷ ns) ws is)) (append_assoc (visits_of b) (hide q ∷ []) vs)
      ∙ body (shown start q k) n s (start ∷ ns) ws false is (hide q ∷ vs)
      ∙ ap (λ (l : Frame). run names (at l y.next y.sources (start ∷ ns) (y.value ∷ ws) is) vs) (hides start q k)

  -- a parameter and the body behind it
  pub taken_run : (q : Pattern) (b : Tree) → Runs b → (k : Frame) (n : ℕ) (s : List (Option ℕ)) (ns : List ℕ) (ws : List Value) (is : List ItemTree) (vs : List Visit)
      → run names (machine_with k n s ns ws true is) (declare q ∷ (under q (visits_of b) ++ vs))
      ≡ (let y = made names b (shown (start_of q s) q k) (next_before (is_tuple q) n) (source_before (is_tuple q) s ++ sources_of (bound_in q)) in
      run names (at k y.next y.sources (start_of q s ∷ ns) (y.value ∷ values_with q (length s) n ws) is) vs)
  taken_run q b body k n s ns ws is vs =
      ap (λ (m : Machine). run names m (under q (visits_of b) ++ vs)) (declared_is q k n s ns ws is)
      ∙ under_run q b body k (next_before (is_tuple q) n) (source_before (is_tuple q) s ++ sources_of (bound_in q)) (start_of q s) ns (values_with q (length s) n ws) is vs

  -- ---- rows

  abbrev row_values : Trees → Frame → ℕ → List (Option ℕ) → List Value → List Value
  row_values no_trees k n s ws = ws
  row_values (more_trees e es) k n s ws = let x = made names e k n s in row_values es k x.next x.sources (x.value ∷ ws)

  abbrev row_after : Trees → Place → Frame → ℕ → List (Option ℕ) → List ℕ → List Value → List ItemTree → Machine
  row_after es p k n s ns ws is = let x = all_made p (fold_all (making names) es) k n s in at k x.next x.sources ns (row_values es k n s ws) is

  row_trees : (es : Trees) (p : Place) (m : ℕ) (k : Frame) (n : ℕ) (s : List (Option ℕ)) (ws : List Value)
      → last_trees p (length (listed es) + m) (row_values es k n s ws) ≡ last_trees p m ws ++ (all_made p (fold_all (making names) es) k n s).trees
  row_trees no_trees p m k n s ws = let same : zero + m ≡ m = omega arith in ap (λ (o : ℕ). last_trees p o ws) same ∙ sym (append-nil (last_trees p m ws))
  row_trees (more_trees e es) p m k n s ws =
      let x = made names e k n s in
      let same : suc (length (listed es)) + m ≡ length (listed es) + suc m = omega arith in
      ap (λ (o : ℕ). last_trees p o (row_values es k x.next x.sources (x.value ∷ ws))) same ∙ row_trees es p (suc m) k x.next x.sources (x.value ∷ ws)
      ∙ append_assoc (last_trees p m ws) (part p x.value ∷ []) (all_made p (fold_all (making names) es) k x.next x.sources).trees

  row_below : (es : Trees) (m : ℕ) (k : Frame) (n : ℕ) (s : List (Option ℕ)) (ws : List Value)
      → values_below (length (listed es) + m) (row_values es k n s ws) ≡ values_below m ws
  row_below no_trees m k n s ws = let same : zero + m ≡ m = omega arith in ap (λ (o : ℕ). values_below o ws) same
  row_below (more_trees e es) m k n s ws =
      let x = made names e k n s in
      let same : suc (length (listed es)) + m ≡ length (listed es) + suc m = omega arith in
      ap (λ (o : ℕ). values_below o (row_values es k x.next x.sources (x.value ∷ ws))) same ∙ row_below es (suc m) k x.next x.sources (x.value ∷ ws)

  -- a row on top of the values, and the node that is made of it
  row_ends : (es : Trees) (p : Place) (h : Row) (k : Frame) (n : ℕ) (s : List (Option ℕ)) (ns : List ℕ) (ws : List Value) (is : List ItemTree)
      → (let x = all_made p (fold_all (making names) es) k n s in let count = length (listed es) in let vs = row_values es k n s ws in
      finish (at k x.next x.sources ns vs is) (values_below count vs) ns (row_of h k.constructors (last_trees p count vs) p x.next x.sources)
      ≡ finish (at k x.next x.sources ns vs is) ws ns (row_of h k.constructors x.trees p x.next x.sources))
  row_ends es p h k n s ns ws is =
      let x = all_made p (fold_all (making names) es) k n s in let count = length (listed es) in let vs = row_values es k n s ws in
      let same : count ≡ count + 0 = omega arith in
      ap (λ (ts : List Tree). finish (at k x.next x.sources ns vs is) (values_below count vs) ns (row_of h k.constructors ts p x.next x.sources))
      (ap (λ (o : ℕ). last_trees p o vs) same ∙ row_trees es p 0 k n s ws)
      ∙ ap (λ (us : List Value). finish (at k x.next x.sources ns vs is) us ns (row_of h k.constructors x.trees p x.next x.sources))
      (ap (λ (o : ℕ). values_below o vs) same ∙ row_below es 0 k n s ws)

  -- ---- arms

  abbrev arm_made : Pattern → Tree → Frame → ℕ → List (Option ℕ) → Made
  arm_made q b k n s = made names b (shown (length s) q k) n (s ++ sources_of (bound_in q))

  abbrev arm_values : Cases → Frame → ℕ → List (Option ℕ) → List Value → List Value
  arm_values no_cases k n s ws = ws
  arm_values (more_cases q b cs) k n s ws = let y = arm_made q b k n s in arm_values cs k y.next y.sources (y.value ∷ ws)

  abbrev arm_starts : Cases → Frame → ℕ → List (Option ℕ) → List ℕ → List ℕ
  arm_starts no_cases k n s ns = ns
  arm_starts (more_cases q b cs) k n s ns = let y = arm_made q b k n s in arm_starts cs k y.next y.sources (length s ∷ ns)

  abbrev bodies_of : Cases → Place → Frame → ℕ → List (Option ℕ) → List Tree
  bodies_of no_cases p k n s = []
  bodies_of (more_cases q b cs) p k n s = let y = arm_made q b k n s in part p y.value ∷ bodies_of cs p k y.next y.sources

  abbrev starts_of : Cases → Frame → ℕ → List (Option ℕ) → List ℕ
  starts_of no_cases k n s = []
  starts_of (more_cases q b cs) k n s = let y = arm_made q b k n s in length s ∷ starts_of cs k y.next y.sources

  arm_trees : (cs : Cases) (p : Place) (m : ℕ) (k : Frame) (n : ℕ) (s : List (Option ℕ)) (ws : List Value)
      → last_trees p (length (listed_cases cs) + m) (arm_values cs k n s ws) ≡ last_trees p m ws ++ bodies_of cs p k n s
  arm_trees no_cases p m k n s ws = let same : zero + m ≡ m = omega arith in ap (λ (o : ℕ). last_trees p o ws) same ∙ sym (append-nil (last_trees p m ws))
  arm_trees (more_cases q b cs) p m k n s ws =
      let y = arm_made q b k n s in
      let same : suc (length (listed_cases cs)) + m ≡ length (listed_cases cs) + suc m = omega arith in
      ap (λ (o : ℕ). last_trees p o (arm_values cs k y.next y.sources (y.value ∷ ws))) same ∙ arm_trees cs p (suc m) k y.next y.sources (y.value ∷ ws)
      ∙ append_assoc (last_trees p m ws) (part p y.value ∷ []) (bodies_of cs p k y.next y.sources)

  arm_numbers : (cs : Cases) (m : ℕ) (k : Frame) (n : ℕ) (s : List (Option ℕ)) (ns : List ℕ)
      → last_starts (length (listed_cases cs) + m) (arm_starts cs k n s ns) ≡ last_starts m ns ++ starts_of cs k n s
  arm_numbers no_cases m k n s ns = let same : zero + m ≡ m = omega arith in ap (λ (o : ℕ). last_starts o ns) same ∙ sym (append-nil (last_starts m ns))
  arm_numbers (more_cases q b cs) m k n s ns =
      let y = arm_made q b k n s in
      let same : suc (length (listed_cases cs)) + m ≡ length (listed_cases cs) + suc m = omega arith in
      ap (λ (o : ℕ). last_starts o (arm_starts cs k y.next y.sources (length s ∷ ns))) same ∙ arm_numbers cs (suc m) k y.next y.sources (length s ∷ ns)
      ∙ append_assoc (last_starts m ns) (length s ∷ []) (starts_of cs k y.next y.sources)

  arm_below : (cs : Cases) (m : ℕ) (k : Frame) (n : ℕ) (s : List (Option ℕ)) (ws : List Value)
      → values_below (length (listed_cases cs) + m) (arm_values cs k n s ws) ≡ values_below m ws
  arm_below no_cases m k n s ws = let same : zero + m ≡ m = omega arith in ap (λ (o : ℕ). values_below o ws) same
  arm_below (more_cases q b cs) m k n s ws =
      let y = arm_made q b k n s in
      let same : suc (length (listed_cases cs)) + m ≡ length (listed_cases cs) + suc m = omega arith in
      ap (λ (o : ℕ). values_below o (arm_values cs k y.next y.sources (y.value ∷ ws))) same ∙ arm_below cs (suc m) k y.next y.sources (y.value ∷ ws)

  arm_rest : (cs : Cases) (m : ℕ) (k : Frame) (n : ℕ) (s : List (Option ℕ)) (ns : List ℕ)
      → starts_below (length (listed_cases cs) + m) (arm_starts cs k n s ns) ≡ starts_below m ns
  arm_rest no_cases m k n s ns = let same : zero + m ≡ m = omega arith in ap (λ (o : ℕ). starts_below o ns) same
  arm_rest (more_cases q b cs) m k n s ns =
      let y = arm_made q b k n s in
      let same : suc (length (listed_cases cs)) + m ≡ length (listed_cases cs) + suc m = omega arith in
      ap (λ (o : ℕ). starts_below o (arm_starts cs k y.next y.sources (length s ∷ ns))) same ∙ arm_rest cs (suc m) k y.next y.sources (length s ∷ ns)

  arm_cases : (cs : Cases) (p : Place) (k : Frame) (n : ℕ) (s : List (Option ℕ))
      → cases_with p (listed_cases cs) (starts_of cs k n s) (bodies_of cs p k n s) ≡ (arms_made p (fold_cases (making names) cs) k n s).cases
  arm_cases no_cases p k n s = refl
  arm_cases (more_cases q b cs) p k n s = let y = arm_made q b k n s in ap (more_cases (numbered (length s) q) (part p y.value)) (arm_cases cs p k y.next y.sources)

  -- ---- what a node does with its parts

  one_run : (i : ℕ) (p : Place) (f : Form) (a : Tree) → Runs a
      → (k : Frame) (n : ℕ) (s : List (Option ℕ)) (ns : List ℕ) (ws : List Value) (t : Bool) (is : List ItemTree) (outer : Machine) (vs : List Visit) → takes (shape_of f) ≡ false
      → left names (tree i p f) (after a k n s ns ws is) ≡ outer
      → run names (machine_with k n s ns ws t is) (around (tree i p f) (visits_of a) ++ vs) ≡ run names outer vs
  one_run i p f a first k n s ns ws t is outer vs plain ends =
      node_runs i p f (visits_of a) k n s ns ws t is (after a k n s ns ws is) outer vs
      (λ rs. ap (λ (c : Bool). run names (machine_with k n s ns ws c is) (visits_of a ++ rs)) plain ∙ first k n s ns ws false is rs) ends

  let_run : (q : Pattern) (e b : Tree) → Runs e → Runs b → (k : Frame) (n : ℕ) (s : List (Option ℕ)) (ns : List ℕ) (ws : List Value) (is : List ItemTree) (vs : List Visit)
      → run names (at k n s ns ws is) ((declare q ∷ (visits_of e ++ under q (visits_of b))) ++ vs)
      ≡ (let x = made names e k n (s ++ sources_of (bound_in q)) in let y = made names b (shown (length s) q k) x.next x.sources in
      run names (at k y.next y.sources (length s ∷ ns) (y.value ∷ x.value ∷ ws) is) vs)
  let_run q e b first second k n s ns ws is vs =
      let x = made names e k n (s ++ sources_of (bound_in q)) in
      ap (run names (at k n (s ++ sources_of (bound_in q)) (length s ∷ ns) ws is)) (append_assoc (visits_of e) (under q (visits_of b)) vs)
      ∙ first k n (s ++ sources_of (bound_in q)) (length s ∷ ns) ws false is (under q (visits_of b) ++ vs)
      ∙ under_run q b second k x.next x.sources (length s) ns (x.value ∷ ws) is vs

  let_rec_run : (f : ℕ) (r : Recursive) (b : Tree) → Runs r.body → Runs b
      → (k : Frame) (n : ℕ) (s : List (Option ℕ)) (ns : List ℕ) (ws : List Value) (is : List ItemTree) (vs : List Visit)
      → run names (machine_with k n s ns ws true is) ((show_name f ∷ (in_function r (visits_of r.body) ++ (visits_of b ++ hide_name f ∷ []))) ++ vs)
      ≡ (let l = named (length s) f k in let s1 = s ++ Some f ∷ [] in let start = start_of r.parameter s1 in
      let x = made names r.body (shown start r.parameter l) (next_before (is_tuple r.parameter) n) (source_before (is_tuple r.parameter) s1 ++ sources_of (bound_in r.parameter)) in
      let number = next_before (is_tuple r.parameter) x.next in
      let y = made names b l (suc number) x.sources in
      run names (at k y.next y.sources (number ∷ start ∷ length s ∷ ns) (y.value ∷ x.value ∷ values_with r.parameter (length s1) n ws) is) vs)
  let_rec_run f r b first second k n s ns ws is vs =
      let q = r.parameter in
      let l = named (length s) f k in let s1 = s ++ Some f ∷ [] in let start = start_of q s1 in
      let x = made names r.body (shown start q l) (next_before (is_tuple q) n) (source_before (is_tuple q) s1 ++ sources_of (bound_in q)) in
      let number = next_before (is_tuple q) x.next in
      let begin = machine_with l n s1 (length s ∷ ns) ws true is in
      let tail = visits_of b ++ hide_name f ∷ [] in
      ap (run names begin) (append_assoc (in_function r (visits_of r.body)) tail vs
      ∙ ap (λ (us : List Visit). declare q ∷ us) (append_assoc (under q (visits_of r.body)) (leave_function r ∷ []) (tail ++ vs)))
      ∙ taken_run q r.body first l n s1 (length s ∷ ns) ws is (leave_function r ∷ (tail ++ vs))
      ∙ ap (run names (at l (suc number) x.sources (number ∷ start ∷ length s ∷ ns) (x.value ∷ values_with q (length s1) n ws) is)) (append_assoc (visits_of b) (hide_name f ∷ []) vs)
      ∙ second l (suc number) x.sources (number ∷ start ∷ length s ∷ ns) (x.value ∷ values_with q (length s1) n ws) false is (hide_name f ∷ vs)

  abbrev RowRuns : Trees → Type 0
  RowRuns es =
      (p : Place) (k : Frame) (n : ℕ) (s : List (Option ℕ)) (ns : List ℕ) (ws : List Value) (is : List ItemTree) (vs : List Visit)
      → run names (at k n s ns ws is) (in_row (fold_all visiting es) ++ vs) ≡ run names (row_after es p k n s ns ws is) vs

  more_run : (e : Tree) (es : Trees) → Runs e → RowRuns es → RowRuns (more_trees e es)
  more_run e es first others p k n s ns ws is vs =
      let x = made names e k n s in
      ap (run names (at k n s ns ws is)) (append_assoc (visits_of e) (in_row (fold_all visiting es)) vs)
      ∙ first k n s ns ws false is (in_row (fold_all visiting es) ++ vs) ∙ others p k x.next x.sources ns (x.value ∷ ws) is vs

  row_run : (i : ℕ) (p : Place) (f : Form) (h : Row) (es : Trees) → RowRuns es
      → (k : Frame) (n : ℕ) (s : List (Option ℕ)) (ns : List ℕ) (ws : List Value) (t : Bool) (is : List ItemTree) (vs : List Visit) → takes (shape_of f) ≡ false
      → left names (tree i p f) (row_after es p k n s ns ws is) ≡ row_left p h (length (listed es)) (row_after es p k n s ns ws is)
      → made names (tree i p f) k n s ≡ (let x = all_made p (fold_all (making names) es) k n s in row_of h k.constructors x.trees p x.next x.sources)
      → run names (machine_with k n s ns ws t is) (around (tree i p f) (in_row (fold_all visiting es)) ++ vs) ≡ run names (after (tree i p f) k n s ns ws is) vs
  row_run i p f h es inside k n s ns ws t is vs plain leaves makes =
      node_runs i p f (in_row (fold_all visiting es)) k n s ns ws t is (row_after es p k n s ns ws is) (after (tree i p f) k n s ns ws is) vs
      (λ rs. ap (λ (c : Bool). run names (machine_with k n s ns ws c is) (in_row (fold_all visiting es) ++ rs)) plain ∙ inside p k n s ns ws is rs)
      (leaves ∙ row_ends es p h k n s ns ws is ∙ ap (λ (x : Made). at k x.next x.sources ns (x.value ∷ ws) is) (sym makes))

  -- the bodies of arms
  abbrev ArmsRun : Cases → Type 0
  ArmsRun no_cases = Unit {0}
  ArmsRun (more_cases q b cs) = Runs b × ArmsRun cs

  arms_run : (cs : Cases) → ArmsRun cs → (p : Place) (k : Frame) (n : ℕ) (s : List (Option ℕ)) (ns : List ℕ) (ws : List Value) (is : List ItemTree) (vs : List Visit)
      → run names (at k n s ns ws is) (in_arms (fold_cases visiting cs) ++ vs)
      ≡ (let x = arms_made p (fold_cases (making names) cs) k n s in run names (at k x.next x.sources (arm_starts cs k n s ns) (arm_values cs k n s ws) is) vs)
  arms_run no_cases runs p k n s ns ws is vs = refl
  arms_run (more_cases q b cs) runs p k n s ns ws is vs =
      let y = arm_made q b k n s in let s1 = s ++ sources_of (bound_in q) in
      ap (run names (at k n s1 (length s ∷ ns) ws is)) (append_assoc (under q (visits_of b)) (in_arms (fold_cases visiting cs)) vs)
      ∙ under_run q b runs.0 k n s1 (length s) ns ws is (in_arms (fold_cases visiting cs) ++ vs)
      ∙ arms_run cs runs.1 p k y.next y.sources (length s ∷ ns) (y.value ∷ ws) is vs

  -- a match on what is below the bodies of these arms
  arms_end : (cs : Cases) (p : Place) (k : Frame) (n : ℕ) (s : List (Option ℕ)) (ns : List ℕ) (v : Value) (ws : List Value) (is : List ItemTree)
      → (let x = arms_made p (fold_cases (making names) cs) k n s in
      match_left p (listed_cases cs) (at k x.next x.sources (arm_starts cs k n s ns) (arm_values cs k n s (v ∷ ws)) is)
      ≡ at k (suc x.next) x.sources ns (whole (tree x.next p (form.match_on (part p v) x.cases)) ∷ ws) is)
  arms_end cs p k n s ns v ws is =
      let x = arms_made p (fold_cases (making names) cs) k n s in
      let count = length (listed_cases cs) in let us = arm_values cs k n s (v ∷ ws) in let ms = arm_starts cs k n s ns in
      let same : count ≡ count + 0 = omega arith in
      let bodies = ap (λ (o : ℕ). last_trees p o us) same ∙ arm_trees cs p 0 k n s (v ∷ ws) in
      let numbers = ap (λ (o : ℕ). last_starts o ms) same ∙ arm_numbers cs 0 k n s ns in
      let values = ap (λ (o : ℕ). values_below o us) same ∙ arm_below cs 0 k n s (v ∷ ws) in
      let starts = ap (λ (o : ℕ). starts_below o ms) same ∙ arm_rest cs 0 k n s ns in
      ap (λ (vs : List Value). at k (suc x.next) x.sources (starts_below count ms) (whole (tree x.next p (form.match_on (part p (top vs)) (cases_with p (listed_cases cs) (last_starts count ms) (last_trees p count us)))) ∷ below vs) is) values
      ∙ ap (λ (ls : List ℕ). at k (suc x.next) x.sources ls (whole (tree x.next p (form.match_on (part p v) (cases_with p (listed_cases cs) (last_starts count ms) (last_trees p count us)))) ∷ ws) is) starts
      ∙ ap (λ (c : Cases). at k (suc x.next) x.sources ns (whole (tree x.next p (form.match_on (part p v) c)) ∷ ws) is)
      (ap (λ (ls : List ℕ). cases_with p (listed_cases cs) ls (last_trees p count us)) numbers ∙ ap (cases_with p (listed_cases cs) (starts_of cs k n s)) bodies ∙ arm_cases cs p k n s)

  -- the same where the first pattern stands before what is matched
  first_end : (q : Pattern) (b : Tree) (cs : Cases) (p : Place) (k : Frame) (n : ℕ) (s : List (Option ℕ)) (start : ℕ) (ns : List ℕ) (v w : Value) (ws : List Value) (is : List ItemTree)
      → (let x = arms_made p (fold_cases (making names) cs) k n s in
      match_left p (listed_cases (more_cases q b cs)) (at k x.next x.sources (arm_starts cs k n s (start ∷ ns)) (arm_values cs k n s (w ∷ v ∷ ws)) is)
      ≡ at k (suc x.next) x.sources ns (whole (tree x.next p (form.match_on (part p v) (more_cases (numbered start q) (part p w) x.cases))) ∷ ws) is)
  first_end q b cs p k n s start ns v w ws is =
      let x = arms_made p (fold_cases (making names) cs) k n s in
      let count = suc (length (listed_cases cs)) in let us = arm_values cs k n s (w ∷ v ∷ ws) in let ms = arm_starts cs k n s (start ∷ ns) in
      let same : suc (length (listed_cases cs)) ≡ length (listed_cases cs) + 1 = omega arith in
      let bodies = ap (λ (o : ℕ). last_trees p o us) same ∙ arm_trees cs p 1 k n s (w ∷ v ∷ ws) in
      let numbers = ap (λ (o : ℕ). last_starts o ms) same ∙ arm_numbers cs 1 k n s (start ∷ ns) in
      let values = ap (λ (o : ℕ). values_below o us) same ∙ arm_below cs 1 k n s (w ∷ v ∷ ws) in
      let starts = ap (λ (o : ℕ). starts_below o ms) same ∙ arm_rest cs 1 k n s (start ∷ ns) in
      let arms = listed_cases (more_cases q b cs) in
      ap (λ (vs : List Value). at k (suc x.next) x.sources (starts_below count ms) (whole (tree x.next p (form.match_on (part p (top vs)) (cases_with p arms (last_starts count ms) (last_trees p count us)))) ∷ below vs) is) values
      ∙ ap (λ (ls : List ℕ). at k (suc x.next) x.sources ls (whole (tree x.next p (form.match_on (part p v) (cases_with p arms (last_starts count ms) (last_trees p count us)))) ∷ ws) is) starts
      ∙ ap (λ (c : Cases). at k (suc x.next) x.sources ns (whole (tree x.next p (form.match_on (part p v) c)) ∷ ws) is)
      (ap (λ (ls : List ℕ). cases_with p arms ls (last_trees p count us)) numbers ∙ ap (cases_with p arms (start ∷ starts_of cs k n s)) bodies
      ∙ ap (more_cases (numbered start q) (part p w)) (arm_cases cs p k n s))

  match_run : (written : Bool) (i : ℕ) (p : Place) (e : Tree) (cs : Cases) → Runs e → ArmsRun cs
      → (k : Frame) (n : ℕ) (s : List (Option ℕ)) (ns : List ℕ) (ws : List Value) (t : Bool) (is : List ItemTree) (vs : List Visit)
      → run names (machine_with k n s ns ws t is) (around (tree i p (form.match_on e cs)) (in_match written (visits_of e) (fold_cases visiting cs)) ++ vs)
      ≡ (let x = match_made written p (made names e) (fold_cases (making names) cs) k n s in run names (at k x.next x.sources ns (x.value ∷ ws) is) vs)
  match_run false i p e cs first runs k n s ns ws t is vs =
      let x = made names e k n s in let y = arms_made p (fold_cases (making names) cs) k x.next x.sources in
      let inner = at k y.next y.sources (arm_starts cs k x.next x.sources ns) (arm_values cs k x.next x.sources (x.value ∷ ws)) is in
      node_runs i p (form.match_on e cs) (visits_of e ++ in_arms (fold_cases visiting cs)) k n s ns ws t is inner
      (at k (suc y.next) y.sources ns (whole (tree y.next p (form.match_on (part p x.value) y.cases)) ∷ ws) is) vs
      (λ rs. ap (run names (at k n s ns ws is)) (append_assoc (visits_of e) (in_arms (fold_cases visiting cs)) rs)
      ∙ first k n s ns ws false is (in_arms (fold_cases visiting cs) ++ rs) ∙ arms_run cs runs p k x.next x.sources ns (x.value ∷ ws) is rs)
      (arms_end cs p k x.next x.sources ns x.value ws is)
  match_run true i p e no_cases first runs k n s ns ws t is vs =
      let x = made names e k n s in
      node_runs i p (form.match_on e no_cases) (visits_of e ++ []) k n s ns ws t is (after e k n s ns ws is)
      (at k (suc x.next) x.sources ns (whole (tree x.next p (form.match_on (part p x.value) no_cases)) ∷ ws) is) vs
      (λ rs. ap (λ (us : List Visit). run names (at k n s ns ws is) (us ++ rs)) (append-nil (visits_of e)) ∙ first k n s ns ws false is rs) refl
  match_run true i p e (more_cases q b cs) first runs k n s ns ws t is vs =
      let s1 = s ++ sources_of (bound_in q) in
      let x = made names e k n s1 in let w = made names b (shown (length s) q k) x.next x.sources in
      let y = arms_made p (fold_cases (making names) cs) k w.next w.sources in
      let inner = at k y.next y.sources (arm_starts cs k w.next w.sources (length s ∷ ns)) (arm_values cs k w.next w.sources (w.value ∷ x.value ∷ ws)) is in
      node_runs i p (form.match_on e (more_cases q b cs)) (declare q ∷ (visits_of e ++ (under q (visits_of b) ++ in_arms (fold_cases visiting cs)))) k n s ns ws t is inner
      (at k (suc y.next) y.sources ns (whole (tree y.next p (form.match_on (part p x.value) (more_cases (numbered (length s) q) (part p w.value) y.cases))) ∷ ws) is) vs
      (λ rs. ap (run names (at k n s1 (length s ∷ ns) ws is)) (append_assoc (visits_of e) (under q (visits_of b) ++ in_arms (fold_cases visiting cs)) rs)
      ∙ first k n s1 (length s ∷ ns) ws false is ((under q (visits_of b) ++ in_arms (fold_cases visiting cs)) ++ rs)
      ∙ ap (run names (at k x.next x.sources (length s ∷ ns) (x.value ∷ ws) is)) (append_assoc (under q (visits_of b)) (in_arms (fold_cases visiting cs)) rs)
      ∙ under_run q b runs.0 k x.next x.sources (length s) ns (x.value ∷ ws) is (in_arms (fold_cases visiting cs) ++ rs)
      ∙ arms_run cs runs.1 p k w.next w.sources (length s ∷ ns) (w.value ∷ x.value ∷ ws) is rs)
      (first_end q b cs p k w.next w.sources (length s) ns x.value w.value ws is)

  mutual
    pub walked : (t : Tree) → Runs t
    walked (tree i p f) = walked_form i p f

    walked_form : (i : ℕ) (p : Place) (f : Form) → Runs (tree i p f)
    walked_form i p (form.whole m) k n s ns ws t is vs = refl
    walked_form i p (form.flag b) k n s ns ws t is vs = refl
    walked_form i p form.unit k n s ns ws t is vs = refl
    walked_form i p (form.use_of x) k n s ns ws t is vs = refl
    walked_form i p (form.qualified m x) k n s ns ws t is vs = refl
    walked_form i p form.assert_false k n s ns ws t is vs = refl
    walked_form i p form.map_empty k n s ns ws t is vs = refl
    walked_form i p (form.fun q b) k n s ns ws t is vs =
        let start = start_of q s in
        let y = made names b (shown start q k) (next_before (is_tuple q) n) (source_before (is_tuple q) s ++ sources_of (bound_in q)) in
        let inner = at k y.next y.sources (start ∷ ns) (y.value ∷ values_with q (length s) n ws) is in
        node_runs i p (form.fun q b) (declare q ∷ under q (visits_of b)) k n s ns ws t is inner (after (tree i p (form.fun q b)) k n s ns ws is) vs
        (λ rs. taken_run q b (walked b) k n s ns ws is rs)
        (ap (λ (c : Tree). finish inner (values_under q inner.values) ns (node p (form.fun (parameter_in q start) c) (next_before (is_tuple q) y.next) y.sources)) (body_is p q start (length s) n y.value ws y.next)
        ∙ ap (λ (us : List Value). finish inner us ns (node p (form.fun (parameter_in q start) (taken_body (is_tuple q) start q (matched (length s) q n) (part p y.value) y.next)) (next_before (is_tuple q) y.next) y.sources))
        (under_is q (length s) n y.value ws))
    walked_form i p (form.tuple es) k n s ns ws t is vs = row_run i p (form.tuple es) shape.tuple es (walked_row es) k n s ns ws t is vs refl refl refl
    walked_form i p (form.build c w es) k n s ns ws t is vs = row_run i p (form.build c w es) (shape.build c w) es (walked_row es) k n s ns ws t is vs refl refl refl
    walked_form i p (form.list_of es) k n s ns ws t is vs = row_run i p (form.list_of es) shape.list_of es (walked_row es) k n s ns ws t is vs refl refl refl
    walked_form i p (form.chain es) k n s ns ws t is vs = row_run i p (form.chain es) shape.chain es (walked_row es) k n s ns ws t is vs refl refl refl
    walked_form i p (form.let_in q e b) k n s ns ws t is vs =
        let x = made names e k n (s ++ sources_of (bound_in q)) in
        let y = made names b (shown (length s) q k) x.next x.sources in
        node_runs i p (form.let_in q e b) (declare q ∷ (visits_of e ++ under q (visits_of b))) k n s ns ws t is (at k y.next y.sources (length s ∷ ns) (y.value ∷ x.value ∷ ws) is) (after (tree i p (form.let_in q e b)) k n s ns ws is) vs
        (λ rs. let_run q e b (walked e) (walked b) k n s ns ws is rs) refl
    walked_form i p (form.let_rec f j r q e b) k n s ns ws t is vs =
        let l = named (length s) f k in let s1 = s ++ Some f ∷ [] in let start = start_of q s1 in
        let x = made names e (shown start q l) (next_before (is_tuple q) n) (source_before (is_tuple q) s1 ++ sources_of (bound_in q)) in
        let number = next_before (is_tuple q) x.next in
        let y = made names b l (suc number) x.sources in
        let inner = at k y.next y.sources (number ∷ start ∷ length s ∷ ns) (y.value ∷ x.value ∷ values_with q (length s1) n ws) is in
        let function : Recursive = record { id = j; place = r; parameter = q; body = e } in
        node_runs i p (form.let_rec f j r q e b) (show_name f ∷ (in_function function (visits_of e) ++ (visits_of b ++ hide_name f ∷ []))) k n s ns ws t is inner
        (after (tree i p (form.let_rec f j r q e b)) k n s ns ws is) vs
        (λ rs. let_rec_run f function b (walked e) (walked b) k n s ns ws is rs)
        (ap (λ (c : Tree). finish inner (values_under q (x.value ∷ values_with q (length s1) n ws)) ns (node p (form.let_rec (length s) number r (parameter_in q start) c (part p y.value)) y.next y.sources))
        (body_is r q start (length s1) n x.value ws (number - 1) ∙ number_is q start (matched (length s1) q n) (part r x.value) x.next)
        ∙ ap (λ (us : List Value). finish inner us ns (node p (form.let_rec (length s) number r (parameter_in q start) (taken_body (is_tuple q) start q (matched (length s1) q n) (part r x.value) x.next) (part p y.value)) y.next y.sources))
        (under_is q (length s1) n x.value ws))
    walked_form i p (form.call a b) k n s ns ws t is vs = two_run i p (form.call a b) a b (walked a) (walked b) k n s ns ws t is (after (tree i p (form.call a b)) k n s ns ws is) vs refl refl
    walked_form i p (form.arithmetic o a b) k n s ns ws t is vs = two_run i p (form.arithmetic o a b) a b (walked a) (walked b) k n s ns ws t is (after (tree i p (form.arithmetic o a b)) k n s ns ws is) vs refl refl
    walked_form i p (form.compare o a b) k n s ns ws t is vs = two_run i p (form.compare o a b) a b (walked a) (walked b) k n s ns ws t is (after (tree i p (form.compare o a b)) k n s ns ws is) vs refl refl
    walked_form i p (form.and_of a b) k n s ns ws t is vs = two_run i p (form.and_of a b) a b (walked a) (walked b) k n s ns ws t is (after (tree i p (form.and_of a b)) k n s ns ws is) vs refl refl
    walked_form i p (form.or_of a b) k n s ns ws t is vs = two_run i p (form.or_of a b) a b (walked a) (walked b) k n s ns ws t is (after (tree i p (form.or_of a b)) k n s ns ws is) vs refl refl
    walked_form i p (form.make a b) k n s ns ws t is vs = two_run i p (form.make a b) a b (walked a) (walked b) k n s ns ws t is (after (tree i p (form.make a b)) k n s ns ws is) vs refl refl
    walked_form i p (form.fetch a b) k n s ns ws t is vs = two_run i p (form.fetch a b) a b (walked a) (walked b) k n s ns ws t is (after (tree i p (form.fetch a b)) k n s ns ws is) vs refl refl
    walked_form i p (form.map_find a b) k n s ns ws t is vs = two_run i p (form.map_find a b) a b (walked a) (walked b) k n s ns ws t is (after (tree i p (form.map_find a b)) k n s ns ws is) vs refl refl
    walked_form i p (form.negated a) k n s ns ws t is vs = one_run i p (form.negated a) a (walked a) k n s ns ws t is (after (tree i p (form.negated a)) k n s ns ws is) vs refl refl
    walked_form i p (form.not_of a) k n s ns ws t is vs = one_run i p (form.not_of a) a (walked a) k n s ns ws t is (after (tree i p (form.not_of a)) k n s ns ws is) vs refl refl
    walked_form i p (form.assert a) k n s ns ws t is vs = one_run i p (form.assert a) a (walked a) k n s ns ws t is (after (tree i p (form.assert a)) k n s ns ws is) vs refl refl
    walked_form i p (form.length_of a) k n s ns ws t is vs = one_run i p (form.length_of a) a (walked a) k n s ns ws t is (after (tree i p (form.length_of a)) k n s ns ws is) vs refl refl
    walked_form i p (form.print a) k n s ns ws t is vs = one_run i p (form.print a) a (walked a) k n s ns ws t is (after (tree i p (form.print a)) k n s ns ws is) vs refl refl
    walked_form i p (form.read a) k n s ns ws t is vs = one_run i p (form.read a) a (walked a) k n s ns ws t is (after (tree i p (form.read a)) k n s ns ws is) vs refl refl
    walked_form i p (form.if_else a b c) k n s ns ws t is vs = three_run i p (form.if_else a b c) a b c (walked a) (walked b) (walked c) k n s ns ws t is (after (tree i p (form.if_else a b c)) k n s ns ws is) vs refl refl
    walked_form i p (form.store a b c) k n s ns ws t is vs = three_run i p (form.store a b c) a b c (walked a) (walked b) (walked c) k n s ns ws t is (after (tree i p (form.store a b c)) k n s ns ws is) vs refl refl
    walked_form i p (form.map_add a b c) k n s ns ws t is vs = three_run i p (form.map_add a b c) a b c (walked a) (walked b) (walked c) k n s ns ws t is (after (tree i p (form.map_add a b c)) k n s ns ws is) vs refl refl
    walked_form i p (form.match_on e cs) k n s ns ws t is vs = match_run (is_let (tree i p (form.match_on e cs))) i p e cs (walked e) (walked_arms cs) k n s ns ws t is vs

    walked_row : (es : Trees) → RowRuns es
    walked_row no_trees p k n s ns ws is vs = refl
    walked_row (more_trees e es) p k n s ns ws is vs = more_run e es (walked e) (walked_row es) p k n s ns ws is vs

    walked_arms : (cs : Cases) → ArmsRun cs
    walked_arms no_cases = tt
    walked_arms (more_cases q b cs) = (walked b, walked_arms cs)
