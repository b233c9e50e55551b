-- The names of a normal form ascend.
use Rattle.std.proofs.Common.{◌≡◌, inl, ℕ, ◌+◌, Bool, true, false, ◌&&◌, if◌then◌else◌, List, [], ◌∷◌, ◌++◌, refl, sym, ap, subst}
use Rattle.lq_base_names.specs.declared.place.Place.{Place}
use Rattle.lq_text_tree.specs.Items.{ItemTree, ItemForm, type_of, let_of, let_rec_of}
use Rattle.lq_text_tree.specs.Pattern.{Pattern, pattern, any, bind, nothing, tuple_of, build_of, bound_in}
use Rattle.lq_text_tree.specs.Tree as form
use Rattle.lq_text_tree.specs.Tree.{Tree, tree, Form, Trees, no_trees, more_trees, Cases, no_cases, more_cases}
use Rattle.lq_text_walk.specs.Walk.Fold.{fold_all, fold_cases}
use Rattle.lq_meaning_normal_form.specs.Outcomes.Flattening.{Let, let_one, let_function}
use Rattle.lq_meaning_normal_form.specs.Outcomes.Naming.{is_pure, stands_form, is_use_form, parameter, behind, named_pattern}
use Rattle.lq_meaning_normal_form.specs.Outcomes.OnePass.{Normal, tree_of, only, with_name, as_operand, as_scrutinee, body_under, list_of_atoms, normal, normal_of, all_operands, all_items, rest_of_chain, normal_cases}
use Rattle.lq_meaning_normal_form.specs.Types.Plain.{AreBelow, EachArm, IsPlain, being_plain, ItemIsPlain, ItemsArePlain}
use Rattle.lq_meaning_normal_form.specs.Types.Programs.{next_item, normal_item, normal_items, next_items}
use Rattle.lq_meaning_normal_form.specs.Types.Written.{Takes, Each}
use Rattle.lq_meaning_normalize.specs.MadeNames.Order.{names_of, names_of_cases, names_of_item, names_of_items}
use Rattle.lq_meaning_normalize.specs.MadeNames.Parts.{names_of_let, names_of_lets}
use Rattle.lq_meaning_normalize.proofs.MadeNamesLemmas.Ascending.{Ascends, both, low, next-one, pattern-ascends, parameter-ascends}
use Rattle.lq_meaning_normalize.proofs.MadeNamesLemmas.Lets.{lets-both, put-names}

-- ---- what stands as an operand binds nothing by itself

quiet : (f : Form) (i : ℕ) (p : Place) (k : ℕ) → stands_form f ≡ true → names_of (normal_of k i p f).last ≡ []
quiet (form.whole n) i p k h = refl
quiet (form.flag b) i p k h = refl
quiet form.unit i p k h = refl
quiet (form.use_of x) i p k h = refl
quiet (form.arithmetic o a b) i p k h = refl
quiet (form.negated e) i p k h = refl
quiet (form.compare o a b) i p k h = refl
quiet (form.not_of e) i p k h = refl
quiet (form.length_of e) i p k h = refl
quiet (form.and_of a b) i p k h =
    let A = as_operand a (normal k a) in let B = normal A.next b in
    let N = only k (tree i p (form.and_of a b)) in
    let M : Normal = record { lets = A.lets; last = tree i p (form.if_else A.last (tree_of B) (tree i p (form.flag false))); next = B.next } in
    ap (λ c. names_of (if c then N else M).last) h
quiet (form.or_of a b) i p k h =
    let A = as_operand a (normal k a) in let B = normal A.next b in
    let N = only k (tree i p (form.or_of a b)) in
    let M : Normal = record { lets = A.lets; last = tree i p (form.if_else A.last (tree i p (form.flag true)) (tree_of B)); next = B.next } in
    ap (λ c. names_of (if c then N else M).last) h
quiet f i p k h = absurd (cc)

quiet-use : (f : Form) (i : ℕ) (p : Place) (k : ℕ) → is_use_form f ≡ true → names_of (normal_of k i p f).last ≡ []
quiet-use (form.use_of x) i p k h = refl
quiet-use f i p k h = absurd (cc)

under-same : (q : Pattern) (k : ℕ) (N : Normal) → Takes q → body_under k q N ≡ N
under-same (pattern p any) k N takes = refl
under-same (pattern p (bind x)) k N takes = refl
under-same (pattern p nothing) k N takes = refl
under-same (pattern p (tuple_of qs)) k N takes = absurd (cc)
under-same (pattern p (build_of c o qs)) k N takes = absurd (cc)

module _ (base : ℕ) where
  abbrev Goes : ℕ → List ℕ → ℕ → Type 0
  Goes = Ascends base

  abbrev LetsGo : ℕ → List Let → ℕ → Type 0
  LetsGo k ls m = Goes k (names_of_lets ls) m

  -- the lets and the last expression ascend from this number on
  abbrev Run : ℕ → Normal → Type 0
  Run k N = (j : ℕ) × LetsGo k N.lets j × Goes j (names_of N.last) N.next

  lets-then : (ls ms : List Let) (k j m : ℕ) → LetsGo k ls j → LetsGo j ms m → LetsGo k (ls ++ ms) m
  lets-then ls ms k j m h g =
      subst (λ xs. Goes k xs m) (sym (lets-both ls ms)) (both base (names_of_lets ls) (names_of_lets ms) k j m h g)

  let-then : (l : Let) (ls : List Let) (k j m : ℕ) → Goes k (names_of_let l) j → LetsGo j ls m → LetsGo k (l ∷ ls) m
  let-then l ls k j m h g = both base (names_of_let l) (names_of_lets ls) k j m h g

  tree-run : (k : ℕ) (N : Normal) → Run k N → Goes k (names_of (tree_of N)) N.next
  tree-run k N h =
      subst (λ xs. Goes k xs N.next) (sym (put-names N.lets N.last)) (both base (names_of_lets N.lets) (names_of N.last) k h.0 N.next h.1 h.2)

  -- a let of what an expression became
  let-run : (i : ℕ) (p : Place) (q : Pattern) (k m : ℕ) (N : Normal) → Run k N → Goes N.next (bound_in q) m → LetsGo k (N.lets ++ let_one i p q N.last ∷ []) m
  let-run i p q k m N h g =
      let one = let_one i p q N.last in
      lets-then N.lets (one ∷ []) k h.0 m h.1
      (let-then one [] h.0 m m (both base (names_of N.last) (bound_in q) h.0 N.next m h.2 g) refl)

  -- and what follows
  let-run-then : (i : ℕ) (p : Place) (q : Pattern) (ls : List Let) (k j m : ℕ) (N : Normal) → Run k N → Goes N.next (bound_in q) j → LetsGo j ls m
      → LetsGo k (N.lets ++ let_one i p q N.last ∷ ls) m
  let-run-then i p q ls k j m N h g rest =
      let one = let_one i p q N.last in
      lets-then N.lets (one ∷ ls) k h.0 m h.1
      (let-then one ls h.0 j m (both base (names_of N.last) (bound_in q) h.0 N.next j h.2 g) rest)

  name-run : (i : ℕ) (p : Place) (k : ℕ) (N : Normal) → Run k N → LetsGo k (with_name i p N).lets (N.next + 1)
  name-run i p k N h = let-run i p (pattern p (bind N.next)) k (N.next + 1) N h (next-one base N.next)

  choose : (s : Bool) (i : ℕ) (p : Place) (k : ℕ) (N : Normal) → (s ≡ true → names_of N.last ≡ []) → Run k N
      → let A = if s then N else with_name i p N in LetsGo k A.lets A.next
  choose true i p k N still h =
      let same : N.next ≡ h.0 = subst (λ xs. Goes h.0 xs N.next) (still refl) h.2 in subst (λ j. LetsGo k N.lets j) (sym same) h.1
  choose false i p k N still h = name-run i p k N h

  either : (c : Bool) (k : ℕ) (N M : Normal) → Run k N → Run k M → Run k (if c then N else M)
  either true k N M h g = h
  either false k N M h g = g

  list-run : (i : ℕ) (p : Place) (k : ℕ) (xs : Trees) → Run k (list_of_atoms i p k xs)
  list-run i p k no_trees = (k, refl, refl)
  list-run i p k (more_trees x xs) = let L = list_of_atoms i p k xs in (L.next + 1, name-run i p k L (list-run i p k xs), refl)

  abbrev Runs : Tree → Type 0
  Runs t = (k : ℕ) → IsPlain base t → Run k (normal k t)

  abbrev OperandRuns : Tree → Type 0
  OperandRuns t = (k : ℕ) → IsPlain base t → let A = as_operand t (normal k t) in LetsGo k A.lets A.next

  two-run : (a b : Tree) → OperandRuns a → OperandRuns b → (k : ℕ) → IsPlain base a × IsPlain base b
      → let A = as_operand a (normal k a) in let B = as_operand b (normal A.next b) in LetsGo k (A.lets ++ B.lets) B.next
  two-run a b go_a go_b k fine =
      let A = as_operand a (normal k a) in let B = as_operand b (normal A.next b) in
      lets-then A.lets B.lets k A.next B.next (go_a k fine.0) (go_b A.next fine.1)

  -- a function's parameter and body
  function-run : (q : Pattern) (b : Tree) (k : ℕ) → Runs b → Takes q → AreBelow base (bound_in q) → IsPlain base b
      → let B = normal (behind k q) b in Goes k (bound_in (parameter k q) ++ names_of (tree_of (body_under k q B))) B.next
  function-run q b k go takes few fine =
      let B = normal (behind k q) b in
      both base (bound_in (parameter k q)) (names_of (tree_of (body_under k q B))) k (behind k q) B.next (parameter-ascends base q k takes few)
      (subst (λ (N : Normal). Goes (behind k q) (names_of (tree_of N)) B.next) (sym (under-same q k B takes)) (tree-run (behind k q) B (go (behind k q) fine)))

  mutual
    runs : (t : Tree) → Runs t
    runs (tree i p f) k fine = form-run f i p k fine

    operand-runs : (t : Tree) → OperandRuns t
    operand-runs (tree i p f) k fine = choose (stands_form f) i p k (normal_of k i p f) (quiet f i p k) (form-run f i p k fine)

    form-run : (f : Form) (i : ℕ) (p : Place) (k : ℕ) → IsPlain base (tree i p f) → Run k (normal_of k i p f)
    form-run (form.whole m) i p k fine = (k, refl, refl)
    form-run (form.flag b) i p k fine = (k, refl, refl)
    form-run form.unit i p k fine = (k, refl, refl)
    form-run (form.use_of y) i p k fine = (k, refl, refl)
    form-run (form.qualified m y) i p k fine = (k, refl, refl)
    form-run form.assert_false i p k fine = (k, refl, refl)
    form-run form.map_empty i p k fine = (k, refl, refl)
    form-run (form.map_add a b c) i p k fine = (k, refl, refl)
    form-run (form.map_find a b) i p k fine = (k, refl, refl)
    form-run (form.negated e) i p k fine = (_, operand-runs e k fine, refl)
    form-run (form.not_of e) i p k fine = (_, operand-runs e k fine, refl)
    form-run (form.length_of e) i p k fine = (_, operand-runs e k fine, refl)
    form-run (form.assert e) i p k fine = (_, operand-runs e k fine, refl)
    form-run (form.print e) i p k fine = (_, operand-runs e k fine, refl)
    form-run (form.read e) i p k fine = (_, operand-runs e k fine, refl)
    form-run (form.call a b) i p k fine = (_, two-run a b (operand-runs a) (operand-runs b) k fine, refl)
    form-run (form.arithmetic o a b) i p k fine = (_, two-run a b (operand-runs a) (operand-runs b) k fine, refl)
    form-run (form.compare o a b) i p k fine = (_, two-run a b (operand-runs a) (operand-runs b) k fine, refl)
    form-run (form.make a b) i p k fine = (_, two-run a b (operand-runs a) (operand-runs b) k fine, refl)
    form-run (form.fetch a b) i p k fine = (_, two-run a b (operand-runs a) (operand-runs b) k fine, refl)
    form-run (form.and_of a b) i p k fine =
        let A = as_operand a (normal k a) in let B = normal A.next b in
        either (is_pure a && is_pure b) k (only k (tree i p (form.and_of a b)))
        (record { lets = A.lets; last = tree i p (form.if_else A.last (tree_of B) (tree i p (form.flag false))); next = B.next }) (k, refl, refl)
        (A.next, operand-runs a k fine.0, both base (names_of (tree_of B)) [] A.next B.next B.next (tree-run A.next B (runs b A.next fine.1)) refl)
    form-run (form.or_of a b) i p k fine =
        let A = as_operand a (normal k a) in let B = normal A.next b in
        either (is_pure a && is_pure b) k (only k (tree i p (form.or_of a b)))
        (record { lets = A.lets; last = tree i p (form.if_else A.last (tree i p (form.flag true)) (tree_of B)); next = B.next }) (k, refl, refl)
        (A.next, operand-runs a k fine.0, tree-run A.next B (runs b A.next fine.1))
    form-run (form.store a b c) i p k fine =
        let A = as_operand a (normal k a) in let B = as_operand b (normal A.next b) in let C = as_operand c (normal B.next c) in (
          C.next,
          lets-then A.lets (B.lets ++ C.lets) k A.next C.next (operand-runs a k fine.0)
              (lets-then B.lets C.lets A.next B.next C.next (operand-runs b A.next fine.1) (operand-runs c B.next fine.2)),
          refl,
        )
    form-run (form.if_else c a b) i p k fine =
        let C = as_operand c (normal k c) in let A = normal C.next a in let B = normal A.next b in (
          C.next,
          operand-runs c k fine.0,
          both base (names_of (tree_of A)) (names_of (tree_of B)) C.next A.next B.next (tree-run C.next A (runs a C.next fine.1))
              (tree-run A.next B (runs b A.next fine.2)),
        )
    form-run (form.match_on e cs) i p k fine =
        let E = as_scrutinee e (normal k e) in
        (E.next, scrutinee-runs e k fine.0, cases-run cs E.next fine.1)
    form-run (form.fun q b) i p k fine = (k, refl, function-run q b k (runs b) fine.0 fine.1 fine.2)
    form-run (form.let_in q e b) i p k fine =
        let E = normal k e in let B = normal (behind E.next q) b in
        let whole : Normal → Normal = λ U. record { lets = E.lets ++ let_one i p (parameter E.next q) E.last ∷ U.lets; last = U.last; next = B.next } in
        let body = runs b (behind E.next q) fine.3 in
        subst (λ (U : Normal). Run k (whole U)) (sym (under-same q E.next B fine.0)) (
          body.0,
          let-run-then i p (parameter E.next q) B.lets k (behind E.next q) body.0 E (runs e k fine.2) (parameter-ascends base q E.next fine.0 fine.1) body.1,
          body.2,
        )
    form-run (form.let_rec f j n q b e) i p k fine =
        let B = normal (behind k q) b in let U = body_under k q B in let E = normal B.next e in
        let rest = runs e B.next fine.3 in
        let function = function-run q b k (runs b) fine.0 fine.1.1 fine.2 in (
          rest.0,
          let-then (let_function i p f j n (parameter k q) (tree_of U)) E.lets k B.next rest.0 (inl (fine.1.0, function)) rest.1,
          rest.2,
        )
    form-run (form.tuple es) i p k fine = (_, all-run es k fine.1, refl)
    form-run (form.build c w es) i p k fine = (_, all-run es k fine.1, refl)
    form-run (form.list_of es) i p k fine =
        let Q = all_items k es in let L = list_of_atoms i p Q.next Q.atoms in let cells = list-run i p Q.next Q.atoms in
        (cells.0, lets-then Q.lets L.lets k Q.next cells.0 (items-run es k fine.1) cells.1, cells.2)
    form-run (form.chain no_trees) i p k fine = absurd fine.0
    form-run (form.chain (more_trees e es)) i p k fine = rest-run es i p k (normal k e) (runs e k fine.1.0) fine.1.1

    scrutinee-runs : (t : Tree) (k : ℕ) → IsPlain base t → let E = as_scrutinee t (normal k t) in LetsGo k E.lets E.next
    scrutinee-runs (tree i p f) k fine = choose (is_use_form f) i p k (normal_of k i p f) (quiet-use f i p k) (form-run f i p k fine)

    all-run : (es : Trees) (k : ℕ) → Each (fold_all (being_plain base) es) → LetsGo k (all_operands k es).lets (all_operands k es).next
    all-run no_trees k fine = refl
    all-run (more_trees e es) k fine =
        let E = as_operand e (normal k e) in let Q = all_operands E.next es in
        lets-then E.lets Q.lets k E.next Q.next (operand-runs e k fine.0) (all-run es E.next fine.1)

    items-run : (es : Trees) (k : ℕ) → Each (fold_all (being_plain base) es) → LetsGo k (all_items k es).lets (all_items k es).next
    items-run no_trees k fine = refl
    items-run (more_trees (tree i p f) es) k fine =
        let N = normal_of k i p f in let E = with_name i p N in let Q = all_items E.next es in
        lets-then E.lets Q.lets k E.next Q.next (name-run i p k N (form-run f i p k fine.0)) (items-run es E.next fine.1)

    rest-run : (es : Trees) (i : ℕ) (p : Place) (k : ℕ) (N : Normal) → Run k N → Each (fold_all (being_plain base) es) → Run k (rest_of_chain i p N es)
    rest-run no_trees i p k N h fine = h
    rest-run (more_trees e es) i p k N h fine =
        let j = N.next + 1 in let T = normal j e in let R = rest_of_chain i p T es in
        let rest = rest-run es i p j T (runs e j fine.0) fine.1 in
        (rest.0, let-run-then i p (pattern p (bind N.next)) R.lets k j rest.0 N h (next-one base N.next) rest.1, rest.2)

    cases-run : (cs : Cases) (k : ℕ) → EachArm base (fold_cases (being_plain base) cs) → Goes k (names_of_cases (normal_cases k cs).cases) (normal_cases k cs).next
    cases-run no_cases k fine = refl
    cases-run (more_cases q b cs) k fine =
        let j = (named_pattern k q).next in let B = normal j b in let R = normal_cases B.next cs in
        both base (bound_in (named_pattern k q).pattern) (names_of (tree_of B) ++ names_of_cases R.cases) k j R.next (pattern-ascends base q k fine.0)
        (both base (names_of (tree_of B)) (names_of_cases R.cases) j B.next R.next (tree-run j B (runs b j fine.1)) (cases-run cs B.next fine.2))

  -- ---- programs

  item-run : (f : ItemForm) (k : ℕ) → ItemIsPlain base f → Goes k (names_of_item (normal_item k f)) (next_item k f)
  item-run (type_of d) k fine = refl
  item-run (let_of q e) k fine =
      let N = normal k e in both base (names_of (tree_of N)) (bound_in q) k N.next N.next (tree-run k N (runs e k fine.1)) (low base (bound_in q) N.next fine.0)
  item-run (let_rec_of f r) k fine = inl (fine.1.0, function-run r.parameter r.body k (runs r.body) fine.0 fine.1.1 fine.2)

  pub program-run : (is : List ItemTree) (k : ℕ) → ItemsArePlain base is → Goes k (names_of_items (normal_items k is)) (next_items k is)
  program-run [] k fine = refl
  program-run (i ∷ is) k fine =
      let j = next_item k i.form in
      both base (names_of_item (normal_item k i.form)) (names_of_items (normal_items j is)) k j (next_items j is) (item-run i.form k fine.0)
      (program-run is j fine.1)
