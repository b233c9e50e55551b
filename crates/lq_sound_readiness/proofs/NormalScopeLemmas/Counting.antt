-- What the normal form binds: the binders of the source, and the made names in their order.
use Rattle.std.proofs.Common.{◌≡◌, ℕ, ◌+◌, Bool, true, false, ◌&&◌, if◌then◌else◌, List, [], ◌∷◌, ◌++◌, refl, ap, ◌∙◌, arith}
use Rattle.lq_base_names.specs.declared.place.Place.{Place}
use Rattle.lq_text_tree.specs.Items.{ItemTree, ItemForm, type_of, let_of, let_rec_of}
use Rattle.lq_text_tree.specs.MlType as ml
use Rattle.lq_text_tree.specs.MlType.{MlType, MlTypes}
use Rattle.lq_text_tree.specs.Pattern.{Pattern, pattern, PatternForm, any, bind, nothing, tuple_of, build_of, Patterns, no_patterns, more_patterns, bound_in, bound_in_form, bound_in_all}
use Rattle.lq_text_tree.specs.Tree as form
use Rattle.lq_text_tree.specs.Tree.{Tree, tree, Form, Trees, no_trees, more_trees, Cases, no_cases, more_cases}
use Rattle.lq_text_tree.specs.Types.{Signature}
use Rattle.lq_text_walk.specs.Walk.Fold.{fold_all, fold_cases}
use Rattle.lq_meaning_normal_form.specs.Binders.Counting.{once, times, counted, counted_all, counted_cases, counted_form, counted_items}
use Rattle.lq_meaning_normal_form.specs.Outcomes.Flattening.{Let, let_one, let_function, put_in}
use Rattle.lq_meaning_normal_form.specs.Outcomes.Naming.{is_pure, stands, is_use, id_of, place_of, parameter, behind, named_part, named_form, named_parts, named_pattern}
use Rattle.lq_meaning_normal_form.specs.Outcomes.OnePass.{Normal, tree_of, only, with_name, as_operand, as_scrutinee, body_under, list_of_atoms, normal, normal_of, all_operands, all_items, rest_of_chain, normal_cases}
use Rattle.lq_meaning_normal_form.specs.Types.Made.{Given, components, fields_at, part_made, part_form_made, parts_made, pattern_made, parameter_made, domain, bound_made, operand_made, scrutinee_made, cells_made, made, made_in, made_operand, all_made, items_made, rest_made, cases_made}
use Rattle.lq_meaning_normal_form.specs.Types.Plain.{EachArm, IsPlain, being_plain, ItemIsPlain, ItemsArePlain}
use Rattle.lq_meaning_normal_form.specs.Types.Programs as programs
use Rattle.lq_meaning_normal_form.specs.Types.Programs.{next_item, normal_item, normal_items}
use Rattle.lq_meaning_normal_form.specs.Types.Written.{Takes, Each}
use Rattle.lq_sound_readiness.proofs.NormalScopeLemmas.Lets.{under-same}

module _ (x : ℕ) where
  -- how often a name stands among those that are given types
  abbrev pub given : Given → ℕ
  given [] = 0
  given (y ∷ ys) = once x y.0 + given ys

  given-both : (xs ys : Given) → given (xs ++ ys) ≡ given xs + given ys
  given-both [] ys = omega arith
  given-both (y ∷ xs) ys = let more = given-both xs ys in omega (arith, more)

  times-both : (xs ys : List ℕ) → times x (xs ++ ys) ≡ times x xs + times x ys
  times-both [] ys = omega arith
  times-both (y ∷ xs) ys = let more = times-both xs ys in omega (arith, more)

  -- among what lets bind, themselves and inside
  abbrev lets-count : List Let → ℕ
  lets-count [] = 0
  lets-count (let_one i p q e ∷ ls) = times x (bound_in q) + (counted x e + lets-count ls)
  lets-count (let_function i p f j m q b ∷ ls) = once x f + (times x (bound_in q) + (counted x b + lets-count ls))

  lets-both : (ls ms : List Let) → lets-count (ls ++ ms) ≡ lets-count ls + lets-count ms
  lets-both [] ms = omega arith
  lets-both (let_one i p q e ∷ ls) ms = let more = lets-both ls ms in omega (arith, more)
  lets-both (let_function i p f j m q b ∷ ls) ms = let more = lets-both ls ms in omega (arith, more)

  abbrev count-of : Normal → ℕ
  count-of N = lets-count N.lets + counted x N.last

  put-count : (ls : List Let) (t : Tree) → counted x (put_in ls t) ≡ lets-count ls + counted x t
  put-count [] t = omega arith
  put-count (let_one i p q e ∷ ls) t = let more = put-count ls t in omega (arith, more)
  put-count (let_function i p f j m q b ∷ ls) t = let more = put-count ls t in omega (arith, more)

  tree-count : (N : Normal) → counted x (tree_of N) ≡ count-of N
  tree-count N = put-count N.lets N.last

  name-count : (i : ℕ) (p : Place) (N : Normal) → count-of (with_name i p N) ≡ count-of N + once x N.next
  name-count i p N = let more = lets-both N.lets (let_one i p (pattern p (bind N.next)) N.last ∷ []) in omega (arith, more)

  module _ (g : Signature) where
    more-parts : (q : Pattern) (qs : Patterns) (k : ℕ) (a : MlType) (ts : MlTypes)
        → times x (bound_in (named_part k q).pattern) ≡ times x (bound_in q) + given (part_made g k q a)
        → times x (bound_in_all (named_parts (named_part k q).next qs).parts) ≡ times x (bound_in_all qs) + given (parts_made g (named_part k q).next qs ts)
        → times x (bound_in (named_part k q).pattern ++ bound_in_all (named_parts (named_part k q).next qs).parts)
        ≡ times x (bound_in q ++ bound_in_all qs) + given (part_made g k q a ++ parts_made g (named_part k q).next qs ts)
    more-parts q qs k a ts one rest =
        let j = (named_part k q).next in
        let new = times-both (bound_in (named_part k q).pattern) (bound_in_all (named_parts j qs).parts) in
        let old = times-both (bound_in q) (bound_in_all qs) in
        let names = given-both (part_made g k q a) (parts_made g j qs ts) in
        omega (arith, one, rest, new, old, names)

    mutual
      part-counts : (q : Pattern) (k : ℕ) (a : MlType) → times x (bound_in (named_part k q).pattern) ≡ times x (bound_in q) + given (part_made g k q a)
      part-counts (pattern p f) k a = form-counts f k a

      form-counts : (f : PatternForm) (k : ℕ) (a : MlType) → times x (bound_in_form (named_form k f).form) ≡ times x (bound_in_form f) + given (part_form_made g k f a)
      form-counts any k a = omega arith
      form-counts (bind y) k a = omega arith
      form-counts nothing k a = omega arith
      form-counts (tuple_of qs) k a = parts-count qs k (components a)
      form-counts (build_of c o qs) k a = parts-count qs k (fields_at (g c) a)

      parts-count : (qs : Patterns) (k : ℕ) (ts : MlTypes) → times x (bound_in_all (named_parts k qs).parts) ≡ times x (bound_in_all qs) + given (parts_made g k qs ts)
      parts-count no_patterns k ts = omega arith
      parts-count (more_patterns q qs) k ml.no_types = more-parts q qs k ml.unit ml.no_types (part-counts q k ml.unit) (parts-count qs (named_part k q).next ml.no_types)
      parts-count (more_patterns q qs) k (ml.more_types a ts) = more-parts q qs k a ts (part-counts q k a) (parts-count qs (named_part k q).next ts)

    pattern-counts : (q : Pattern) (k : ℕ) (a : MlType) → times x (bound_in (named_pattern k q).pattern) ≡ times x (bound_in q) + given (pattern_made g k q a)
    pattern-counts (pattern p any) k a = omega arith
    pattern-counts (pattern p (bind y)) k a = omega arith
    pattern-counts (pattern p nothing) k a = omega arith
    pattern-counts (pattern p (tuple_of qs)) k a = form-counts (tuple_of qs) k a
    pattern-counts (pattern p (build_of c o qs)) k a = form-counts (build_of c o qs) k a

    parameter-counts : (q : Pattern) (k : ℕ) (a : MlType) → Takes q → times x (bound_in (parameter k q)) ≡ times x (bound_in q) + given (parameter_made g k q a)
    parameter-counts (pattern p any) k a takes = omega arith
    parameter-counts (pattern p (bind y)) k a takes = omega arith
    parameter-counts (pattern p nothing) k a takes = omega arith
    parameter-counts (pattern p (tuple_of qs)) k a takes = absurd (cc)
    parameter-counts (pattern p (build_of c o qs)) k a takes = absurd (cc)

    module _ (top : ℕ) (nodes : ℕ → MlType) where
      -- ---- made names

      choose-counts : (s : Bool) (i : ℕ) (p : Place) (N : Normal) (n : ℕ) → count-of N ≡ n
          → count-of (if s then N else with_name i p N) ≡ n + given (if s then [] else (N.next, nodes i) ∷ [])
      choose-counts true i p N n h = omega (arith, h)
      choose-counts false i p N n h = let more = name-count i p N in omega (arith, more, h)

      either-counts : (c : Bool) (N M : Normal) (n : ℕ) (xs : Given) → count-of N ≡ n → count-of M ≡ n + given xs
          → count-of (if c then N else M) ≡ n + given (if c then [] else xs)
      either-counts true N M n xs first second = omega (arith, first)
      either-counts false N M n xs first second = second

      cells-count : (i : ℕ) (p : Place) (k : ℕ) (xs : Trees) → count-of (list_of_atoms i p k xs) ≡ counted_all x xs + given (cells_made g nodes i p k xs)
      cells-count i p k no_trees = omega arith
      cells-count i p k (more_trees t xs) =
          let L = list_of_atoms i p k xs in let more = cells-count i p k xs in let name = name-count i p L in
          let names = given-both (cells_made g nodes i p k xs) ((L.next, nodes i) ∷ []) in
          omega (arith, more, name, names)

      -- ---- trees

      abbrev Counts : Tree → Type 0
      Counts t = (k : ℕ) → IsPlain top t → count-of (normal k t) ≡ counted x t + given (made g nodes k t)

      abbrev OperandCounts : Tree → Type 0
      OperandCounts t = (k : ℕ) → IsPlain top t → count-of (as_operand t (normal k t)) ≡ counted x t + given (made_operand g nodes k t)

      scrutinee-counts : (t : Tree) → Counts t → (k : ℕ) → IsPlain top t
          → count-of (as_scrutinee t (normal k t)) ≡ counted x t + given (made g nodes k t ++ scrutinee_made g nodes t (normal k t))
      scrutinee-counts (tree i p f) go k fine =
          let N = normal k (tree i p f) in let own = go k fine in
          let name = choose-counts (is_use (tree i p f)) i p N (count-of N) refl in
          let names = given-both (made g nodes k (tree i p f)) (scrutinee_made g nodes (tree i p f) N) in
          omega (arith, own, name, names)

      bound-counts : (t : Tree) → Counts t → (k : ℕ) → IsPlain top t
          → count-of (with_name (id_of t) (place_of t) (normal k t)) ≡ counted x t + given (made g nodes k t ++ bound_made g nodes t (normal k t))
      bound-counts (tree i p f) go k fine =
          let N = normal k (tree i p f) in let own = go k fine in let name = name-count i p N in
          let names = given-both (made g nodes k (tree i p f)) ((N.next, nodes i) ∷ []) in
          omega (arith, own, name, names)

      two-count : (a b : Tree) → OperandCounts a → OperandCounts b → (k : ℕ) → IsPlain top a × IsPlain top b
          → let A = as_operand a (normal k a) in let B = as_operand b (normal A.next b) in
          lets-count (A.lets ++ B.lets) + (counted x A.last + counted x B.last)
          ≡ (counted x a + counted x b) + given (made_operand g nodes k a ++ made_operand g nodes A.next b)
      two-count a b go_a go_b k fine =
          let A = as_operand a (normal k a) in let B = as_operand b (normal A.next b) in
          let first = go_a k fine.0 in let second = go_b A.next fine.1 in let lets = lets-both A.lets B.lets in
          let names = given-both (made_operand g nodes k a) (made_operand g nodes A.next b) in
          omega (arith, first, second, lets, names)

      -- the first side of `&&` or `||`, and the second as a block of its own
      connected-count : (a b : Tree) → OperandCounts a → Counts b → (k : ℕ) → IsPlain top a × IsPlain top b
          → let A = as_operand a (normal k a) in
          lets-count A.lets + (counted x A.last + counted x (tree_of (normal A.next b)))
          ≡ (counted x a + counted x b) + given (made_operand g nodes k a ++ made g nodes A.next b)
      connected-count a b go_a go_b k fine =
          let A = as_operand a (normal k a) in
          let first = go_a k fine.0 in let second = go_b A.next fine.1 in let whole = tree-count (normal A.next b) in
          let names = given-both (made_operand g nodes k a) (made g nodes A.next b) in
          omega (arith, first, second, whole, names)

      -- a function's parameter and body
      function-counts : (q : Pattern) (b : Tree) (k : ℕ) (a : MlType) → Counts b → Takes q → IsPlain top b
          → times x (bound_in (parameter k q)) + counted x (tree_of (body_under k q (normal (behind k q) b)))
          ≡ (times x (bound_in q) + counted x b) + (given (parameter_made g k q a) + given (made g nodes (behind k q) b))
      function-counts q b k a go takes fine =
          let B = normal (behind k q) b in
          let first = parameter-counts q k a takes in let second = go (behind k q) fine in
          let whole = ap (λ (N : Normal). counted x (tree_of N)) (under-same q k B takes) ∙ tree-count B in
          omega (arith, first, second, whole)

      mutual
        pub counts : (t : Tree) → Counts t
        counts (tree i p f) k fine = form-count f i p k fine

        operand-counts : (t : Tree) → OperandCounts t
        operand-counts (tree i p f) k fine =
            let N = normal k (tree i p f) in let own = form-count f i p k fine in
            let name = choose-counts (stands (tree i p f)) i p N (count-of N) refl in
            let names = given-both (made_in g nodes k i p f) (operand_made g nodes (tree i p f) N) in
            omega (arith, own, name, names)

        form-count : (f : Form) (i : ℕ) (p : Place) (k : ℕ) → IsPlain top (tree i p f)
            → count-of (normal_of k i p f) ≡ counted x (tree i p f) + given (made_in g nodes k i p f)
        form-count (form.whole m) i p k fine = omega arith
        form-count (form.flag b) i p k fine = omega arith
        form-count form.unit i p k fine = omega arith
        form-count (form.use_of y) i p k fine = omega arith
        form-count (form.qualified m y) i p k fine = omega arith
        form-count form.assert_false i p k fine = omega arith
        form-count form.map_empty i p k fine = omega arith
        form-count (form.map_add a b c) i p k fine = omega arith
        form-count (form.map_find a b) i p k fine = omega arith
        form-count (form.negated e) i p k fine = operand-counts e k fine
        form-count (form.not_of e) i p k fine = operand-counts e k fine
        form-count (form.length_of e) i p k fine = operand-counts e k fine
        form-count (form.assert e) i p k fine = operand-counts e k fine
        form-count (form.print e) i p k fine = operand-counts e k fine
        form-count (form.read e) i p k fine = operand-counts e k fine
        form-count (form.call a b) i p k fine = two-count a b (operand-counts a) (operand-counts b) k fine
        form-count (form.arithmetic o a b) i p k fine = two-count a b (operand-counts a) (operand-counts b) k fine
        form-count (form.compare o a b) i p k fine = two-count a b (operand-counts a) (operand-counts b) k fine
        form-count (form.make a b) i p k fine = two-count a b (operand-counts a) (operand-counts b) k fine
        form-count (form.fetch a b) i p k fine = two-count a b (operand-counts a) (operand-counts b) k fine
        form-count (form.and_of a b) i p k fine =
            let A = as_operand a (normal k a) in let B = normal A.next b in
            let both = connected-count a b (operand-counts a) (counts b) k fine in
            either-counts (is_pure a && is_pure b) (only k (tree i p (form.and_of a b)))
            (record { lets = A.lets; last = tree i p (form.if_else A.last (tree_of B) (tree i p (form.flag false))); next = B.next })
            (counted x a + counted x b) (made_operand g nodes k a ++ made g nodes A.next b) (omega arith) (omega (arith, both))
        form-count (form.or_of a b) i p k fine =
            let A = as_operand a (normal k a) in let B = normal A.next b in
            let both = connected-count a b (operand-counts a) (counts b) k fine in
            either-counts (is_pure a && is_pure b) (only k (tree i p (form.or_of a b)))
            (record { lets = A.lets; last = tree i p (form.if_else A.last (tree i p (form.flag true)) (tree_of B)); next = B.next })
            (counted x a + counted x b) (made_operand g nodes k a ++ made g nodes A.next b) (omega arith) (omega (arith, both))
        form-count (form.if_else c a b) i p k fine =
            let C = as_operand c (normal k c) in let A = normal C.next a in let B = normal A.next b in
            let first = operand-counts c k fine.0 in let second = counts a C.next fine.1 in let third = counts b A.next fine.2 in
            let one = tree-count A in let two = tree-count B in
            let names = given-both (made_operand g nodes k c) (made g nodes C.next a ++ made g nodes A.next b) in
            let others = given-both (made g nodes C.next a) (made g nodes A.next b) in
            omega (arith, first, second, third, one, two, names, others)
        form-count (form.store a m e) i p k fine =
            let A = as_operand a (normal k a) in let M = as_operand m (normal A.next m) in let E = as_operand e (normal M.next e) in
            let first = operand-counts a k fine.0 in let second = operand-counts m A.next fine.1 in let third = operand-counts e M.next fine.2 in
            let lets = lets-both A.lets (M.lets ++ E.lets) in let more = lets-both M.lets E.lets in
            let names = given-both (made_operand g nodes k a) (made_operand g nodes A.next m ++ made_operand g nodes M.next e) in
            let others = given-both (made_operand g nodes A.next m) (made_operand g nodes M.next e) in
            omega (arith, first, second, third, lets, more, names, others)
        form-count (form.tuple es) i p k fine = row-count es k fine.1
        form-count (form.build c w es) i p k fine = row-count es k fine.1
        form-count (form.list_of es) i p k fine =
            let Q = all_items k es in let L = list_of_atoms i p Q.next Q.atoms in
            let first = items-count es k fine.1 in let second = cells-count i p Q.next Q.atoms in let lets = lets-both Q.lets L.lets in
            let names = given-both (items_made g nodes k es) (cells_made g nodes i p Q.next Q.atoms) in
            omega (arith, first, second, lets, names)
        form-count (form.fun q b) i p k fine =
            let whole = function-counts q b k (domain (nodes i)) (counts b) fine.0 fine.2 in
            let names = given-both (parameter_made g k q (domain (nodes i))) (made g nodes (behind k q) b) in
            omega (arith, whole, names)
        form-count (form.let_in q e b) i p k fine =
            let E = normal k e in let a = nodes (id_of e) in let j = behind E.next q in let B = normal j b in let U = body_under E.next q B in
            let first = counts e k fine.2 in let second = counts b j fine.3 in
            let under = ap count-of (under-same q E.next B fine.0) in let bound = parameter-counts q E.next a fine.0 in
            let lets = lets-both E.lets (let_one i p (parameter E.next q) E.last ∷ U.lets) in
            let names = given-both (made g nodes k e) (parameter_made g E.next q a ++ made g nodes j b) in
            let others = given-both (parameter_made g E.next q a) (made g nodes j b) in
            omega (arith, first, second, under, bound, lets, names, others)
        form-count (form.let_rec f h m q b e) i p k fine =
            let a = domain (nodes h) in let j = behind k q in let B = normal j b in
            let whole = function-counts q b k a (counts b) fine.0 fine.2 in let last = counts e B.next fine.3 in
            let names = given-both (parameter_made g k q a) (made g nodes j b ++ made g nodes B.next e) in
            let others = given-both (made g nodes j b) (made g nodes B.next e) in
            omega (arith, whole, last, names, others)
        form-count (form.match_on e cs) i p k fine =
            let E = as_scrutinee e (normal k e) in let a = nodes (id_of e) in
            let first = scrutinee-counts e (counts e) k fine.0 in let second = cases-count cs E.next a fine.1 in
            let names = given-both (made g nodes k e ++ scrutinee_made g nodes e (normal k e)) (cases_made g nodes E.next a cs) in
            omega (arith, first, second, names)
        form-count (form.chain no_trees) i p k fine = absurd fine.0
        form-count (form.chain (more_trees e es)) i p k fine =
            let E = normal k e in let a = nodes (id_of e) in
            let first = counts e k fine.1.0 in let second = rest-count es i p E a fine.1.1 in
            let names = given-both (made g nodes k e) (rest_made g nodes E.next a es) in
            omega (arith, first, second, names)

        row-count : (es : Trees) (k : ℕ) → Each (fold_all (being_plain top) es)
            → lets-count (all_operands k es).lets + counted_all x (all_operands k es).atoms ≡ counted_all x es + given (all_made g nodes k es)
        row-count no_trees k fine = omega arith
        row-count (more_trees e es) k fine =
            let E = as_operand e (normal k e) in let Q = all_operands E.next es in
            let first = operand-counts e k fine.0 in let second = row-count es E.next fine.1 in let lets = lets-both E.lets Q.lets in
            let names = given-both (made_operand g nodes k e) (all_made g nodes E.next es) in
            omega (arith, first, second, lets, names)

        items-count : (es : Trees) (k : ℕ) → Each (fold_all (being_plain top) es)
            → lets-count (all_items k es).lets + counted_all x (all_items k es).atoms ≡ counted_all x es + given (items_made g nodes k es)
        items-count no_trees k fine = omega arith
        items-count (more_trees e es) k fine =
            let N = normal k e in let E = with_name (id_of e) (place_of e) N in let Q = all_items E.next es in
            let first = bound-counts e (counts e) k fine.0 in let second = items-count es E.next fine.1 in let lets = lets-both E.lets Q.lets in
            let names = given-both (made g nodes k e ++ bound_made g nodes e N) (items_made g nodes (N.next + 1) es) in
            omega (arith, first, second, lets, names)

        rest-count : (es : Trees) (i : ℕ) (p : Place) (N : Normal) (a : MlType) → Each (fold_all (being_plain top) es)
            → count-of (rest_of_chain i p N es) ≡ count-of N + (counted_all x es + given (rest_made g nodes N.next a es))
        rest-count no_trees i p N a fine = omega arith
        rest-count (more_trees s ss) i p N a fine =
            let k = N.next + 1 in let T = normal k s in let R = rest_of_chain i p T ss in
            let first = counts s k fine.0 in let second = rest-count ss i p T (nodes (id_of s)) fine.1 in
            let lets = lets-both N.lets (let_one i p (pattern p (bind N.next)) N.last ∷ R.lets) in
            let names = given-both (made g nodes k s) (rest_made g nodes T.next (nodes (id_of s)) ss) in
            omega (arith, first, second, lets, names)

        cases-count : (cs : Cases) (k : ℕ) (a : MlType) → EachArm top (fold_cases (being_plain top) cs)
            → counted_cases x (normal_cases k cs).cases ≡ counted_cases x cs + given (cases_made g nodes k a cs)
        cases-count no_cases k a fine = omega arith
        cases-count (more_cases q b cs) k a fine =
            let j = (named_pattern k q).next in let B = normal j b in
            let first = pattern-counts q k a in let second = counts b j fine.1 in let whole = tree-count B in let third = cases-count cs B.next a fine.2 in
            let names = given-both (pattern_made g k q a) (made g nodes j b ++ cases_made g nodes B.next a cs) in
            let others = given-both (made g nodes j b) (cases_made g nodes B.next a cs) in
            omega (arith, first, second, whole, third, names, others)

      -- ---- programs

      item-counts : (f : ItemForm) (k : ℕ) → ItemIsPlain top f → counted_form x (normal_item k f) ≡ counted_form x f + given (programs.item_made g nodes k f)
      item-counts (type_of d) k fine = omega arith
      item-counts (let_of q e) k fine = let own = counts e k fine.1 in let whole = tree-count (normal k e) in omega (arith, own, whole)
      item-counts (let_rec_of f r) k fine =
          let q = r.parameter in let a = domain (nodes r.id) in
          let whole = function-counts q r.body k a (counts r.body) fine.0 fine.2 in
          let names = given-both (parameter_made g k q a) (made g nodes (behind k q) r.body) in
          omega (arith, whole, names)

      pub all-counts : (is : List ItemTree) (k : ℕ) → ItemsArePlain top is
          → counted_items x (normal_items k is) ≡ counted_items x is + given (programs.items_made g nodes k is)
      all-counts [] k fine = omega arith
      all-counts (i ∷ is) k fine =
          let j = next_item k i.form in
          let first = item-counts i.form k fine.0 in let second = all-counts is j fine.1 in
          let names = given-both (programs.item_made g nodes k i.form) (programs.items_made g nodes j is) in
          omega (arith, first, second, names)
