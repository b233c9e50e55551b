-- Made names are those from a number on, in their order, so each can be given its type.
use Rattle.std.proofs.Common.{◌≡◌, ℕ, ◌+◌, ◌<◌, ◌≤◌, ◌==◌, nat_lt, Bool, true, false, ◌&&◌, if◌then◌else◌, List, [], ◌∷◌, ◌++◌, refl, ap, ◌∙◌, subst, arith}
use Rattle.std.proofs.lemmas.Bool.{eqb-true}
use Rattle.std.proofs.lemmas.Bool.Decides.{Decides-eqb, Decides-ltb}
use Rattle.lq_base_names.specs.declared.place.Place.{Place}
use Rattle.lq_text_tree.specs.Items.{ItemTree, ItemForm, type_of, let_of, let_rec_of}
use Rattle.lq_text_tree.specs.MlType as ml
use Rattle.lq_text_tree.specs.MlType.{MlType, MlTypes}
use Rattle.lq_text_tree.specs.Pattern.{Pattern, pattern, PatternForm, any, bind, nothing, tuple_of, build_of, Patterns, no_patterns, more_patterns}
use Rattle.lq_text_tree.specs.Tree as form
use Rattle.lq_text_tree.specs.Tree.{Tree, tree, Form, Trees, no_trees, more_trees, Cases, no_cases, more_cases}
use Rattle.lq_text_tree.specs.Types.{Signature}
use Rattle.lq_text_tree.specs.TypingRules.{Annotation}
use Rattle.lq_meaning_normal_form.specs.Outcomes.Naming.{is_pure, stands, is_use, id_of, behind, named_part, named_form, named_parts, named_pattern}
use Rattle.lq_meaning_normal_form.specs.Outcomes.OnePass.{Normal, only, tree_of, with_name, as_operand, as_scrutinee, list_of_atoms, normal, normal_of, all_operands, all_items, rest_of_chain, normal_cases}
use Rattle.lq_meaning_normal_form.specs.Types.Made.{Given, Gives, Runs, look, with_made, components, fields_at, part_made, part_form_made, parts_made, pattern_made, parameter_made, domain, bound_made, scrutinee_made, cells_made, made, made_in, made_operand, all_made, items_made, rest_made, cases_made}
use Rattle.lq_meaning_normal_form.specs.Types.Programs as programs
use Rattle.lq_meaning_normal_form.specs.Types.Programs.{next_item, next_items}

both : (k : ℕ) (xs : Given) (j : ℕ) (ys : Given) (m : ℕ) → Runs k xs j → Runs j ys m → Runs k (xs ++ ys) m
both k [] j ys m h r = subst (λ i. Runs i ys m) h r
both k (x ∷ xs) j ys m h r = (h.0, both (k + 1) xs j ys m h.1 r)

module _ (g : Signature) where
  mutual
    part-runs : (q : Pattern) (k : ℕ) (a : MlType) → Runs k (part_made g k q a) (named_part k q).next
    part-runs (pattern p f) k a = form-runs f k a

    form-runs : (f : PatternForm) (k : ℕ) (a : MlType) → Runs k (part_form_made g k f a) (named_form k f).next
    form-runs any k a = (refl, refl)
    form-runs (bind x) k a = refl
    form-runs nothing k a = refl
    form-runs (tuple_of qs) k a = parts-run qs k (components a)
    form-runs (build_of c o qs) k a = parts-run qs k (fields_at (g c) a)

    parts-run : (qs : Patterns) (k : ℕ) (ts : MlTypes) → Runs k (parts_made g k qs ts) (named_parts k qs).next
    parts-run no_patterns k ts = refl
    parts-run (more_patterns q qs) k ml.no_types =
        let j = (named_part k q).next in
        both k (part_made g k q ml.unit) j (parts_made g j qs ml.no_types) (named_parts j qs).next (part-runs q k ml.unit) (parts-run qs j ml.no_types)
    parts-run (more_patterns q qs) k (ml.more_types a ts) =
        let j = (named_part k q).next in
        both k (part_made g k q a) j (parts_made g j qs ts) (named_parts j qs).next (part-runs q k a) (parts-run qs j ts)

  pattern-runs : (q : Pattern) (k : ℕ) (a : MlType) → Runs k (pattern_made g k q a) (named_pattern k q).next
  pattern-runs (pattern p any) k a = refl
  pattern-runs (pattern p (bind x)) k a = refl
  pattern-runs (pattern p nothing) k a = refl
  pattern-runs (pattern p (tuple_of qs)) k a = form-runs (tuple_of qs) k a
  pattern-runs (pattern p (build_of c o qs)) k a = form-runs (build_of c o qs) k a

  parameter-runs : (q : Pattern) (k : ℕ) (a : MlType) → Runs k (parameter_made g k q a) (behind k q)
  parameter-runs (pattern p any) k a = (refl, refl)
  parameter-runs (pattern p (bind x)) k a = refl
  parameter-runs (pattern p nothing) k a = (refl, refl)
  parameter-runs (pattern p (tuple_of qs)) k a = (refl, pattern-runs (pattern p (tuple_of qs)) (k + 1) a)
  parameter-runs (pattern p (build_of c o qs)) k a = (refl, pattern-runs (pattern p (build_of c o qs)) (k + 1) a)

module _ (g : Signature) (nodes : ℕ → MlType) where
  -- what became of a tree as it stands, or bound to the next name
  choose-runs : (s : Bool) (i : ℕ) (p : Place) (N : Normal) (k : ℕ) (xs : Given) → Runs k xs N.next
      → Runs k (xs ++ (if s then [] else (N.next, nodes i) ∷ [])) (if s then N else with_name i p N).next
  choose-runs true i p N k xs h = both k xs N.next [] N.next h refl
  choose-runs false i p N k xs h = both k xs N.next ((N.next, nodes i) ∷ []) (N.next + 1) h (refl, refl)

  -- one of two ways, the first of which makes no names
  either-runs : (c : Bool) (N M : Normal) (k : ℕ) (xs : Given) → N.next ≡ k → Runs k xs M.next → Runs k (if c then [] else xs) (if c then N else M).next
  either-runs true N M k xs first second = first
  either-runs false N M k xs first second = second

  cells-run : (i : ℕ) (p : Place) (k : ℕ) (xs : Trees) → Runs k (cells_made g nodes i p k xs) (list_of_atoms i p k xs).next
  cells-run i p k no_trees = refl
  cells-run i p k (more_trees x xs) =
      let j = (list_of_atoms i p k xs).next in both k (cells_made g nodes i p k xs) j ((j, nodes i) ∷ []) (j + 1) (cells-run i p k xs) (refl, refl)

  abbrev TreeRuns : Tree → Type 0
  TreeRuns t = (k : ℕ) → Runs k (made g nodes k t) (normal k t).next

  abbrev OperandRuns : Tree → Type 0
  OperandRuns t = (k : ℕ) → Runs k (made_operand g nodes k t) (as_operand t (normal k t)).next

  scrutinee-runs : (t : Tree) → TreeRuns t → (k : ℕ) → Runs k (made g nodes k t ++ scrutinee_made g nodes t (normal k t)) (as_scrutinee t (normal k t)).next
  scrutinee-runs (tree i p f) h k =
      choose-runs (is_use (tree i p f)) i p (normal k (tree i p f)) k (made g nodes k (tree i p f)) (h k)

  bound-runs : (t : Tree) → TreeRuns t → (k : ℕ) → Runs k (made g nodes k t ++ bound_made g nodes t (normal k t)) ((normal k t).next + 1)
  bound-runs (tree i p f) h k =
      choose-runs false i p (normal k (tree i p f)) k (made g nodes k (tree i p f)) (h k)

  two-run : (a b : Tree) → OperandRuns a → OperandRuns b → (k : ℕ)
      → let A = as_operand a (normal k a) in Runs k (made_operand g nodes k a ++ made_operand g nodes A.next b) (as_operand b (normal A.next b)).next
  two-run a b h r k =
      let A = as_operand a (normal k a) in
      both k (made_operand g nodes k a) A.next (made_operand g nodes A.next b) (as_operand b (normal A.next b)).next (h k) (r A.next)

  connected-run : (a b : Tree) → OperandRuns a → TreeRuns b → (k : ℕ)
      → let A = as_operand a (normal k a) in Runs k (made_operand g nodes k a ++ made g nodes A.next b) (normal A.next b).next
  connected-run a b h r k =
      let A = as_operand a (normal k a) in
      both k (made_operand g nodes k a) A.next (made g nodes A.next b) (normal A.next b).next (h k) (r A.next)

  mutual
    pub runs : (t : Tree) → TreeRuns t
    runs (tree i p f) k = form-run f i p k

    operand-runs : (t : Tree) → OperandRuns t
    operand-runs (tree i p f) k = choose-runs (stands (tree i p f)) i p (normal k (tree i p f)) k (made_in g nodes k i p f) (form-run f i p k)

    form-run : (f : Form) (i : ℕ) (p : Place) (k : ℕ) → Runs k (made_in g nodes k i p f) (normal_of k i p f).next
    form-run (form.whole m) i p k = refl
    form-run (form.flag b) i p k = refl
    form-run form.unit i p k = refl
    form-run (form.use_of x) i p k = refl
    form-run (form.qualified m x) i p k = refl
    form-run form.assert_false i p k = refl
    form-run form.map_empty i p k = refl
    form-run (form.map_add a b c) i p k = refl
    form-run (form.map_find a b) i p k = refl
    form-run (form.chain no_trees) i p k = refl
    form-run (form.negated e) i p k = operand-runs e k
    form-run (form.not_of e) i p k = operand-runs e k
    form-run (form.length_of e) i p k = operand-runs e k
    form-run (form.assert e) i p k = operand-runs e k
    form-run (form.print e) i p k = operand-runs e k
    form-run (form.read e) i p k = operand-runs e k
    form-run (form.call a b) i p k = two-run a b (operand-runs a) (operand-runs b) k
    form-run (form.arithmetic o a b) i p k = two-run a b (operand-runs a) (operand-runs b) k
    form-run (form.compare o a b) i p k = two-run a b (operand-runs a) (operand-runs b) k
    form-run (form.make a b) i p k = two-run a b (operand-runs a) (operand-runs b) k
    form-run (form.fetch a b) i p k = two-run a b (operand-runs a) (operand-runs b) k
    form-run (form.and_of a b) i p k =
        let A = as_operand a (normal k a) in let B = normal A.next b in
        either-runs (is_pure a && is_pure b) (only k (tree i p (form.and_of a b)))
        (record { lets = A.lets; last = tree i p (form.if_else A.last (tree_of B) (tree i p (form.flag false))); next = B.next }) k
        (made_operand g nodes k a ++ made g nodes A.next b) refl (connected-run a b (operand-runs a) (runs b) k)
    form-run (form.or_of a b) i p k =
        let A = as_operand a (normal k a) in let B = normal A.next b in
        either-runs (is_pure a && is_pure b) (only k (tree i p (form.or_of a b)))
        (record { lets = A.lets; last = tree i p (form.if_else A.last (tree i p (form.flag true)) (tree_of B)); next = B.next }) k
        (made_operand g nodes k a ++ made g nodes A.next b) refl (connected-run a b (operand-runs a) (runs b) k)
    form-run (form.if_else c a b) i p k =
        let C = as_operand c (normal k c) in let A = normal C.next a in
        both k (made_operand g nodes k c) C.next (made g nodes C.next a ++ made g nodes A.next b) (normal A.next b).next (operand-runs c k)
        (both C.next (made g nodes C.next a) A.next (made g nodes A.next b) (normal A.next b).next (runs a C.next) (runs b A.next))
    form-run (form.store a m e) i p k =
        let A = as_operand a (normal k a) in let M = as_operand m (normal A.next m) in
        both k (made_operand g nodes k a) A.next (made_operand g nodes A.next m ++ made_operand g nodes M.next e) (as_operand e (normal M.next e)).next (operand-runs a k)
        (both A.next (made_operand g nodes A.next m) M.next (made_operand g nodes M.next e) (as_operand e (normal M.next e)).next (operand-runs m A.next)
        (operand-runs e M.next))
    form-run (form.tuple es) i p k = row-runs es k
    form-run (form.build c w es) i p k = row-runs es k
    form-run (form.list_of es) i p k =
        let Q = all_items k es in
        both k (items_made g nodes k es) Q.next (cells_made g nodes i p Q.next Q.atoms) (list_of_atoms i p Q.next Q.atoms).next (items-run es k)
        (cells-run i p Q.next Q.atoms)
    form-run (form.fun q b) i p k =
        both k (parameter_made g k q (domain (nodes i))) (behind k q) (made g nodes (behind k q) b) (normal (behind k q) b).next
        (parameter-runs g q k (domain (nodes i))) (runs b (behind k q))
    form-run (form.let_in q e b) i p k =
        let E = normal k e in let j = behind E.next q in let a = nodes (id_of e) in
        both k (made g nodes k e) E.next (parameter_made g E.next q a ++ made g nodes j b) (normal j b).next (runs e k)
        (both E.next (parameter_made g E.next q a) j (made g nodes j b) (normal j b).next (parameter-runs g q E.next a) (runs b j))
    form-run (form.let_rec f h m q b e) i p k =
        let j = behind k q in let B = normal j b in let a = domain (nodes h) in
        both k (parameter_made g k q a) j (made g nodes j b ++ made g nodes B.next e) (normal B.next e).next (parameter-runs g q k a)
        (both j (made g nodes j b) B.next (made g nodes B.next e) (normal B.next e).next (runs b j) (runs e B.next))
    form-run (form.match_on e cs) i p k =
        let E = as_scrutinee e (normal k e) in
        both k (made g nodes k e ++ scrutinee_made g nodes e (normal k e)) E.next (cases_made g nodes E.next (nodes (id_of e)) cs) (normal_cases E.next cs).next
        (scrutinee-runs e (runs e) k) (cases-run cs E.next (nodes (id_of e)))
    form-run (form.chain (more_trees e es)) i p k =
        let E = normal k e in
        both k (made g nodes k e) E.next (rest_made g nodes E.next (nodes (id_of e)) es) (rest_of_chain i p E es).next (runs e k)
        (rest-runs es i p E (nodes (id_of e)))

    row-runs : (es : Trees) (k : ℕ) → Runs k (all_made g nodes k es) (all_operands k es).next
    row-runs no_trees k = refl
    row-runs (more_trees e es) k =
        let E = as_operand e (normal k e) in
        both k (made_operand g nodes k e) E.next (all_made g nodes E.next es) (all_operands E.next es).next (operand-runs e k) (row-runs es E.next)

    items-run : (es : Trees) (k : ℕ) → Runs k (items_made g nodes k es) (all_items k es).next
    items-run no_trees k = refl
    items-run (more_trees e es) k =
        let N = normal k e in
        both k (made g nodes k e ++ bound_made g nodes e N) (N.next + 1) (items_made g nodes (N.next + 1) es) (all_items (N.next + 1) es).next
        (bound-runs e (runs e) k) (items-run es (N.next + 1))

    rest-runs : (es : Trees) (i : ℕ) (p : Place) (N : Normal) (a : MlType) → Runs N.next (rest_made g nodes N.next a es) (rest_of_chain i p N es).next
    rest-runs no_trees i p N a = refl
    rest-runs (more_trees s ss) i p N a =
        let k = N.next + 1 in let S = normal k s in (
          refl,
          both k (made g nodes k s) S.next (rest_made g nodes S.next (nodes (id_of s)) ss) (rest_of_chain i p S ss).next (runs s k)
              (rest-runs ss i p S (nodes (id_of s))),
        )

    cases-run : (cs : Cases) (k : ℕ) (a : MlType) → Runs k (cases_made g nodes k a cs) (normal_cases k cs).next
    cases-run no_cases k a = refl
    cases-run (more_cases q b cs) k a =
        let j = (named_pattern k q).next in let B = normal j b in
        both k (pattern_made g k q a) j (made g nodes j b ++ cases_made g nodes B.next a cs) (normal_cases B.next cs).next (pattern-runs g q k a)
        (both j (made g nodes j b) B.next (cases_made g nodes B.next a cs) (normal_cases B.next cs).next (runs b j) (cases-run cs B.next a))

  -- ---- programs

  item-runs : (f : ItemForm) (k : ℕ) → Runs k (programs.item_made g nodes k f) (next_item k f)
  item-runs (type_of d) k = refl
  item-runs (let_of q e) k = runs e k
  item-runs (let_rec_of f r) k =
      let q = r.parameter in let j = behind k q in let a = domain (nodes r.id) in
      both k (parameter_made g k q a) j (made g nodes j r.body) (normal j r.body).next (parameter-runs g q k a) (runs r.body j)

  pub all-run : (is : List ItemTree) (k : ℕ) → Runs k (programs.items_made g nodes k is) (next_items k is)
  all-run [] k = refl
  all-run (i ∷ is) k =
      let j = next_item k i.form in
      both k (programs.item_made g nodes k i.form) j (programs.items_made g nodes j is) (next_items j is) (item-runs i.form k) (all-run is j)

-- ---- so each has its type

differ : (x k : ℕ) → k + 1 ≤ x → (b : Bool) → (b ≡ true → k ≡ x) → b ≡ false
differ x k h true same = let e = same refl in absurd (omega (arith, h, e))
differ x k h false same = refl

first-is : (k : ℕ) (b : Bool) → (k ≡ k → b ≡ true) → b ≡ true
first-is k b h = h refl

-- types for names that are those of the list from a number on give the list's names their types
given-from : (m : Annotation) (xs : Given) (k j : ℕ) → Runs k xs j → ((x : ℕ) → k ≤ x → m.binders x ≡ look xs x) → Gives m xs
given-from m [] k j r h = tt
given-from m (y ∷ ys) k j r h =
    let low : k ≤ y.0 = (let e = r.0 in omega (arith, e)) in
    let is = first-is y.0 (y.0 == y.0) (Decides-eqb y.0 y.0).1 in
    let one = ap (λ b. if b then y.1 else look ys y.0) is in (
      h y.0 low ∙ one,
      given-from m ys (k + 1) j r.1
          (λ x above. let e = r.0 in let later : k ≤ x = omega (arith, above) in let above_y : y.0 + 1 ≤ x = omega (arith, above, e) in
          h x later ∙ ap (λ b. if b then y.1 else look ys x) (differ x y.0 above_y (y.0 == x) (eqb-true y.0 x))),
    )

not-below : (x k : ℕ) → k ≤ x → (b : Bool) → (b ≡ true → x < k) → b ≡ false
not-below x k h true below = let less = below refl in absurd (omega (arith, h, less))
not-below x k h false below = refl

pub gives-made : (n : Annotation) (xs : Given) (k j : ℕ) → Runs k xs j → Gives (with_made k xs n) xs
gives-made n xs k j r =
    given-from (with_made k xs n) xs k j r
    (λ x above. ap (λ b. if b then n.binders x else look xs x) (not-below x k above (nat_lt x k) (Decides-ltb x k).0))

pub agrees-below : (n : Annotation) (xs : Given) (k x : ℕ) → x < k → (with_made k xs n).binders x ≡ n.binders x
agrees-below n xs k x below = ap (λ b. if b then n.binders x else look xs x) ((Decides-ltb x k).1 below)
