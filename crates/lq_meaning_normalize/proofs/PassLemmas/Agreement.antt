-- The pass makes the normal form.
use Rattle.std.proofs.Common.{◌≡◌, ℕ, ◌+◌, Bool, true, false, ◌&&◌, if◌then◌else◌, List, [], ◌∷◌, ◌++◌, refl, sym, ap, ap₂, ◌∙◌, append_assoc}
use Rattle.std.proofs.lemmas.List.{append-nil}
use Rattle.lq_base_names.specs.declared.place.Place.{Place}
use Rattle.lq_text_tree.specs.declared.expr.Arguments.TheVariants.{Apart}
use Rattle.lq_text_tree.specs.Pattern.{Pattern, pattern, any, bind, nothing, tuple_of, build_of}
use Rattle.lq_text_tree.specs.Tree as form
use Rattle.lq_text_tree.specs.Tree.{Tree, tree, Form, Trees, no_trees, more_trees, Cases, no_cases, more_cases}
use Rattle.lq_text_tree.specs.TreeView.{trees_of}
use Rattle.lq_text_walk.specs.Walk.Shape.{One, Two, Three, Row, listed}
use Rattle.lq_text_walk.specs.Walk.Shape as shape
use Rattle.lq_meaning_normal_form.specs.Outcomes.Flattening.{Let, let_one, let_function}
use Rattle.lq_meaning_normal_form.specs.Outcomes.Naming.{is_pure, is_pure_form, is_pure_operator, stands, stands_form, is_use, id_of, place_of, parameter, behind, named_pattern}
use Rattle.lq_meaning_normal_form.specs.Outcomes.OnePass as once
use Rattle.lq_meaning_normal_form.specs.Outcomes.OnePass.{Normal, NormalRow, NormalCases, tree_of, only, with_name, as_operand, as_scrutinee, list_of_atoms, normal, normal_of, all_operands, all_items, rest_of_chain, normal_cases}
use Rattle.lq_meaning_normalize.specs.Pass.Forming.{Formed, FormedRow, FormedCases, stands_as, operates_as, placed, operation, atom, named, operand, block_of, one_node, two_node, three_node, over_one, connective, over_two, over_choice, choice_of, choice, over_three, all_three, with_atom, cell, cells, literal, settled, body_under, bound, scrutinee, over_cases, function, formed, formed_of, formed_all, formed_items, formed_rest, formed_cases}
use Rattle.lq_meaning_normalize.specs.Pass.Rules.{has_rules, form_has_rules, all_have_rules, cases_have_rules, over, PassAgrees}

-- ---- records by their fields

abbrev the_row : List Let → ℕ → List Tree → FormedRow
the_row ls k ts = record { lets = ls; next = k; atoms = ts }

abbrev the_cases : ℕ → Cases → FormedCases
the_cases k cs = record { next = k; cases = cs }

abbrev the_formed : List Let → ℕ → Tree → Bool → Bool → Formed
the_formed ls k t s b = record { lets = ls; next = k; last = t; stands = s; pure = b }

-- a let behind what it binds, before a body that was made under its pattern
abbrev let_after : ℕ → Place → Pattern → Normal → Normal → Normal
let_after i p q M N = let U = once.body_under M.next q N in
    record { lets = M.lets ++ let_one i p (parameter M.next q) M.last ∷ U.lets; last = U.last; next = U.next }

-- the next made name is that of the body
let_same : (q : Pattern) (i : ℕ) (p : Place) (M N : Normal) → let_after i p q M N
    ≡ record { lets = M.lets ++ let_one i p (parameter M.next q) M.last ∷ (once.body_under M.next q N).lets; last = (once.body_under M.next q N).last; next = N.next }
let_same (pattern p any) i r M N = refl
let_same (pattern p nothing) i r M N = refl
let_same (pattern p (bind x)) i r M N = refl
let_same (pattern p (tuple_of qs)) i r M N = refl
let_same (pattern p (build_of c n qs)) i r M N = refl

-- ---- truth values

pub both_true : (a b : Bool) → (a && b) ≡ true → (a ≡ true) × (b ≡ true)
both_true true true h = (refl, refl)
both_true true false h = cc
both_true false b h = cc

if_true : {A : Type 0} (c : Bool) (x y : A) → c ≡ true → (if c then x else y) ≡ x
if_true true x y h = refl
if_true false x y h = cc

-- what is pure stands
pure_stands : (t : Tree) → is_pure t ≡ true → stands t ≡ true
pure_stands (tree i p (form.whole n)) h = refl
pure_stands (tree i p (form.flag b)) h = refl
pure_stands (tree i p form.unit) h = refl
pure_stands (tree i p (form.use_of x)) h = refl
pure_stands (tree i p (form.negated e)) h = refl
pure_stands (tree i p (form.not_of e)) h = refl
pure_stands (tree i p (form.length_of e)) h = refl
pure_stands (tree i p (form.compare o a b)) h = refl
pure_stands (tree i p (form.arithmetic o a b)) h = (both_true (is_pure_operator o) (is_pure a && is_pure b) h).0
pure_stands (tree i p (form.and_of a b)) h = h
pure_stands (tree i p (form.or_of a b)) h = h
pure_stands (tree i p _) h = cc

-- so what doesn't stand isn't pure
not_pure : (s b : Bool) → (b ≡ true → s ≡ true) → s ≡ false → b ≡ false
not_pure s true h e = cc (h refl, e)
not_pure s false h e = refl

-- ---- lets

-- lets, one more, and others
through : (ls ms ns : List Let) (l : Let) → (ls ++ (ms ++ l ∷ [])) ++ ns ≡ ls ++ (ms ++ l ∷ ns)
through ls ms ns l = append_assoc ls (ms ++ l ∷ []) ns ∙ ap (λ r. ls ++ r) (append_assoc ms (l ∷ []) ns)

-- three lists of lets
thrice : (ls ms ns os : List Let) → ((ls ++ ms) ++ ns) ++ os ≡ ls ++ (ms ++ (ns ++ os))
thrice ls ms ns os = append_assoc (ls ++ ms) ns os ∙ append_assoc ls ms (ns ++ os)

-- ---- operands

named_over : (ls : List Let) (i : ℕ) (p : Place) (N : Normal) (s b : Bool) → named i p (over ls N s b) ≡ over ls (with_name i p N) true false
named_over ls i p N s b =
    ap (λ l. atom l (N.next + 1) false (tree i p (form.use_of N.next))) (append_assoc ls N.lets (let_one i p (pattern p (bind N.next)) N.last ∷ []))

operand_over : (ls : List Let) (i : ℕ) (p : Place) (N : Normal) (s b : Bool) → (s ≡ false → b ≡ false)
    → (if s then over ls N s b else named i p (over ls N s b)) ≡ over ls (if s then N else with_name i p N) true b
operand_over ls i p N true b h = refl
operand_over ls i p N false b h =
    named_over ls i p N false b ∙ ap (λ c. over ls (with_name i p N) true c) (sym (h refl))

-- an expression on which the pass agrees
abbrev Agrees : Tree → Type 0
Agrees t = (ls : List Let) (k : ℕ) → formed ls k t ≡ over ls (normal k t) (stands t) (is_pure t)

as_atom : (t : Tree) → Agrees t → (ls : List Let) (k : ℕ) → operand t (formed ls k t) ≡ over ls (as_operand t (normal k t)) true (is_pure t)
as_atom t h ls k =
    ap (operand t) (h ls k)
    ∙ operand_over ls (id_of t) (place_of t) (normal k t) (stands t) (is_pure t) (not_pure (stands t) (is_pure t) (pure_stands t))

as_made : (t : Tree) → Agrees t → (i : ℕ) (p : Place) (ls : List Let) (k : ℕ) → named i p (formed ls k t) ≡ over ls (with_name i p (normal k t)) true false
as_made t h i p ls k = ap (named i p) (h ls k) ∙ named_over ls i p (normal k t) (stands t) (is_pure t)

-- the block of an expression with lets of its own
as_block : (t : Tree) → Agrees t → (k : ℕ) → block_of (formed [] k t) ≡ tree_of (normal k t)
as_block t h k = ap block_of (h [] k)

block_next : (t : Tree) → Agrees t → (k : ℕ) → (formed [] k t).next ≡ (normal k t).next
block_next t h k = ap (λ (F : Formed). F.next) (h [] k)

-- ---- what is pure as it is written

abbrev pairing : (Tree → Tree → Form) → ℕ → Place → Normal → Normal → Normal
pairing make i p A B = record { lets = A.lets ++ B.lets; last = tree i p (make A.last B.last); next = B.next }

pure_pair : (make : Tree → Tree → Form) (i : ℕ) (p : Place) (k : ℕ) (a b : Tree) → as_operand a (normal k a) ≡ only k a → as_operand b (normal k b) ≡ only k b
    → pairing make i p (as_operand a (normal k a)) (as_operand b (normal (as_operand a (normal k a)).next b)) ≡ only k (tree i p (make a b))
pure_pair make i p k a b h l =
    ap (λ (A : Normal). pairing make i p A (as_operand b (normal A.next b))) h ∙ ap (pairing make i p (only k a)) l

mutual
  pub pure_only : (t : Tree) (k : ℕ) → is_pure t ≡ true → normal k t ≡ only k t
  pure_only (tree i p f) k h = pure_form_only f i p k h

  pure_operand : (t : Tree) (k : ℕ) → is_pure t ≡ true → as_operand t (normal k t) ≡ only k t
  pure_operand (tree i p f) k h =
      if_true (stands_form f) (normal_of k i p f) (with_name i p (normal_of k i p f)) (pure_stands (tree i p f) h) ∙ pure_form_only f i p k h

  pure_form_only : (f : Form) (i : ℕ) (p : Place) (k : ℕ) → is_pure_form f ≡ true → normal_of k i p f ≡ only k (tree i p f)
  pure_form_only (form.whole n) i p k h = refl
  pure_form_only (form.flag b) i p k h = refl
  pure_form_only form.unit i p k h = refl
  pure_form_only (form.use_of x) i p k h = refl
  pure_form_only (form.negated e) i p k h =
      ap (λ (E : Normal). record { lets = E.lets; last = tree i p (form.negated E.last); next = E.next }) (pure_operand e k h)
  pure_form_only (form.not_of e) i p k h =
      ap (λ (E : Normal). record { lets = E.lets; last = tree i p (form.not_of E.last); next = E.next }) (pure_operand e k h)
  pure_form_only (form.length_of e) i p k h =
      ap (λ (E : Normal). record { lets = E.lets; last = tree i p (form.length_of E.last); next = E.next }) (pure_operand e k h)
  pure_form_only (form.arithmetic o a b) i p k h =
      let l = both_true (is_pure a) (is_pure b) (both_true (is_pure_operator o) (is_pure a && is_pure b) h).1 in
      pure_pair (λ x y. form.arithmetic o x y) i p k a b (pure_operand a k l.0) (pure_operand b k l.1)
  pure_form_only (form.compare o a b) i p k h =
      let l = both_true (is_pure a) (is_pure b) h in
      pure_pair (λ x y. form.compare o x y) i p k a b (pure_operand a k l.0) (pure_operand b k l.1)
  pure_form_only (form.and_of a b) i p k h = if_true (is_pure a && is_pure b) (only k (tree i p (form.and_of a b))) _ h
  pure_form_only (form.or_of a b) i p k h = if_true (is_pure a && is_pure b) (only k (tree i p (form.or_of a b))) _ h
  pure_form_only _ i p k h = cc

-- ---- nodes over operands

single : (h : One) (i : ℕ) (p : Place) (a : Tree) → Agrees a → (ls : List Let) (k : ℕ)
    → over_one h i p (operand a (formed ls k a))
    ≡ placed (ls ++ (as_operand a (normal k a)).lets) (as_operand a (normal k a)).next (one_node h i p (is_pure a) (as_operand a (normal k a)).last)
single h i p a g ls k = ap (over_one h i p) (as_atom a g ls k)

pair : (h : Two) (i : ℕ) (p : Place) (a b : Tree) → Agrees a → Agrees b → (ls : List Let) (k : ℕ)
    → over_two h i p (operand a (formed ls k a)) (operand b (formed (operand a (formed ls k a)).lets (operand a (formed ls k a)).next b))
    ≡ placed (ls ++ ((as_operand a (normal k a)).lets ++ (as_operand b (normal (as_operand a (normal k a)).next b)).lets)) (as_operand b (normal (as_operand a (normal k a)).next b)).next
    (two_node h i p (is_pure a && is_pure b) (as_operand a (normal k a)).last (as_operand b (normal (as_operand a (normal k a)).next b)).last)
pair h i p a b g l ls k =
    let M = as_operand a (normal k a) in let N = as_operand b (normal M.next b) in
    ap (λ (A : Formed). over_two h i p A (operand b (formed A.lets A.next b))) (as_atom a g ls k)
    ∙ ap (over_two h i p (over ls M true (is_pure a))) (as_atom b l (ls ++ M.lets) M.next)
    ∙ ap (λ r. placed r N.next (two_node h i p (is_pure a && is_pure b) M.last N.last)) (append_assoc ls M.lets N.lets)

arithmetic_pair : (c b : Bool) (ls : List Let) (n : ℕ) (t : Tree)
    → placed ls n (if c then stands_as b t else operates_as t) ≡ record { lets = ls; next = n; last = t; stands = c; pure = c && b }
arithmetic_pair true b ls n t = refl
arithmetic_pair false b ls n t = refl

triple : (h : Three) (i : ℕ) (p : Place) (a b c : Tree) → Agrees a → Agrees b → Agrees c → (ls : List Let) (k : ℕ)
    → all_three h i p b c (operand a (formed ls k a)) (λ ms n. formed ms n b) (λ ms n. formed ms n c)
    ≡ placed (ls ++ ((as_operand a (normal k a)).lets ++ ((as_operand b (normal (as_operand a (normal k a)).next b)).lets ++ (as_operand c (normal (as_operand b (normal (as_operand a (normal k a)).next b)).next c)).lets)))
    (as_operand c (normal (as_operand b (normal (as_operand a (normal k a)).next b)).next c)).next
    (three_node h i p (as_operand a (normal k a)).last (as_operand b (normal (as_operand a (normal k a)).next b)).last (as_operand c (normal (as_operand b (normal (as_operand a (normal k a)).next b)).next c)).last)
triple h i p a b c g l m ls k =
    let M = as_operand a (normal k a) in let N = as_operand b (normal M.next b) in let O = as_operand c (normal N.next c) in
    ap (λ (A : Formed). all_three h i p b c A (λ ms n. formed ms n b) (λ ms n. formed ms n c)) (as_atom a g ls k)
    ∙ ap (λ (B : Formed). over_three h i p (over ls M true (is_pure a)) B (operand c (formed B.lets B.next c))) (as_atom b l (ls ++ M.lets) M.next)
    ∙ ap (over_three h i p (over ls M true (is_pure a)) (over (ls ++ M.lets) N true (is_pure b))) (as_atom c m ((ls ++ M.lets) ++ N.lets) N.next)
    ∙ ap (λ r. placed r O.next (three_node h i p M.last N.last O.last)) (thrice ls M.lets N.lets O.lets)

-- `&&` and `||`
abbrev connected : Two → ℕ → Place → Bool → ℕ → Tree → Normal → Normal → Normal
connected h i p c k t M N =
    if c then only k t else record { lets = M.lets; last = tree i p (choice_of h i p M.last (tree_of N)); next = N.next }

connects : (h : Two) (i : ℕ) (p : Place) (c : Bool) (ls : List Let) (k : ℕ) (t x y : Tree) (M N : Normal)
    → (c ≡ true → (M ≡ only k x) × (N ≡ only k y)) → two_node h i p true x y ≡ stands_as true t
    → (if c then placed (ls ++ M.lets) N.next (two_node h i p true M.last N.last) else operation (ls ++ M.lets) N.next (tree i p (choice_of h i p M.last (tree_of N))))
    ≡ over ls (connected h i p c k t M N) c c
connects h i p true ls k t x y M N g e =
    ap₂ (λ (A B : Normal). placed (ls ++ A.lets) B.next (two_node h i p true A.last B.last)) (g refl).0 (g refl).1
    ∙ ap (placed (ls ++ []) k) e
connects h i p false ls k t x y M N g e = refl

junction : (h : Two) (i : ℕ) (p : Place) (a b : Tree) → Agrees a → Agrees b → (ls : List Let) (k : ℕ) (t : Tree) → two_node h i p true a b ≡ stands_as true t
    → connective h i p (operand a (formed ls k a)) (formed [] (operand a (formed ls k a)).next b)
    ≡ over ls (connected h i p (is_pure a && is_pure b) k t (as_operand a (normal k a)) (normal (as_operand a (normal k a)).next b)) (is_pure a && is_pure b) (is_pure a && is_pure b)
junction h i p a b g l ls k t e =
    let M = as_operand a (normal k a) in let N = normal M.next b in
    ap (λ (A : Formed). connective h i p A (formed [] A.next b)) (as_atom a g ls k)
    ∙ ap (connective h i p (over ls M true (is_pure a))) (l [] M.next)
    ∙ connects h i p (is_pure a && is_pure b) ls k t a b M N
    (λ c. let w = both_true (is_pure a) (is_pure b) c in let m = pure_operand a k w.0 in
    (m, ap (λ (A : Normal). normal A.next b) m ∙ pure_only b k w.1)) e

chooses : (i : ℕ) (p : Place) (a b c : Tree) → Agrees a → Agrees b → Agrees c → (ls : List Let) (k : ℕ)
    → choice i p (operand a (formed ls k a)) (λ ms n. formed ms n b) (λ ms n. formed ms n c)
    ≡ over ls (normal k (tree i p (form.if_else a b c))) false false
chooses i p a b c g l m ls k =
    let M = as_operand a (normal k a) in let N = normal M.next b in
    ap (λ (A : Formed). choice i p A (λ ms n. formed ms n b) (λ ms n. formed ms n c)) (as_atom a g ls k)
    ∙ ap (λ (B : Formed). over_choice i p (over ls M true (is_pure a)) B (formed [] B.next c)) (l [] M.next)
    ∙ ap (over_choice i p (over ls M true (is_pure a)) (over [] N (stands b) (is_pure b))) (m [] N.next)

-- ---- rows

abbrev row_over : List Let → NormalRow → FormedRow
row_over ls R = record { lets = ls ++ R.lets; next = R.next; atoms = listed R.atoms }

abbrev RowAgrees : Trees → Type 0
RowAgrees es = (ls : List Let) (k : ℕ) → formed_all ls k es ≡ row_over ls (all_operands k es)

abbrev ItemsAgree : Trees → Type 0
ItemsAgree es = (ls : List Let) (k : ℕ) → formed_items ls k es ≡ row_over ls (all_items k es)

row_joins : (ls : List Let) (M : Normal) (b : Bool) (go : List Let → ℕ → FormedRow) (Q : NormalRow) → go (ls ++ M.lets) M.next ≡ row_over (ls ++ M.lets) Q
    → with_atom (over ls M true b) go ≡ record { lets = ls ++ (M.lets ++ Q.lets); next = Q.next; atoms = M.last ∷ listed Q.atoms }
row_joins ls M b go Q h =
    ap (λ (R : FormedRow). with_atom (over ls M true b) (λ ms n. R)) h
    ∙ ap (λ r. the_row r Q.next (M.last ∷ listed Q.atoms)) (append_assoc ls M.lets Q.lets)

more_operands : (e : Tree) (es : Trees) → Agrees e → RowAgrees es → RowAgrees (more_trees e es)
more_operands e es g h ls k =
    let M = as_operand e (normal k e) in
    ap (λ (A : Formed). with_atom A (λ ms n. formed_all ms n es)) (as_atom e g ls k)
    ∙ row_joins ls M (is_pure e) (λ ms n. formed_all ms n es) (all_operands M.next es) (h (ls ++ M.lets) M.next)

more_items : (e : Tree) (es : Trees) → Agrees e → ItemsAgree es → ItemsAgree (more_trees e es)
more_items e es g h ls k =
    let M = with_name (id_of e) (place_of e) (normal k e) in
    ap (λ (A : Formed). with_atom A (λ ms n. formed_items ms n es)) (as_made e g (id_of e) (place_of e) ls k)
    ∙ row_joins ls M false (λ ms n. formed_items ms n es) (all_items M.next es) (h (ls ++ M.lets) M.next)

pub trees_listed : (ts : Trees) → trees_of (listed ts) ≡ ts
trees_listed no_trees = refl
trees_listed (more_trees t ts) = ap (more_trees t) (trees_listed ts)

-- a tuple or a constructor
row_node : (make : Trees → Form) (i : ℕ) (p : Place) (es : Trees) → RowAgrees es → (ls : List Let) (k : ℕ)
    → operation (formed_all ls k es).lets (formed_all ls k es).next (tree i p (make (trees_of (formed_all ls k es).atoms)))
    ≡ operation (ls ++ (all_operands k es).lets) (all_operands k es).next (tree i p (make (all_operands k es).atoms))
row_node make i p es h ls k =
    let Q = all_operands k es in
    ap (λ (R : FormedRow). operation R.lets R.next (tree i p (make (trees_of R.atoms)))) (h ls k)
    ∙ ap (λ ts. operation (ls ++ Q.lets) Q.next (tree i p (make ts))) (trees_listed Q.atoms)

cells_over : (xs : Trees) (i : ℕ) (p : Place) (ls : List Let) (k : ℕ)
    → cells i p (listed xs) (operation ls k (tree i p (form.build 7 Apart no_trees))) ≡ over ls (list_of_atoms i p k xs) false false
cells_over no_trees i p ls k = ap (λ r. operation r k (tree i p (form.build 7 Apart no_trees))) (sym (append-nil ls))
cells_over (more_trees x xs) i p ls k =
    let L = list_of_atoms i p k xs in
    ap (cell i p x) (cells_over xs i p ls k)
    ∙ ap (λ (T : Formed). operation T.lets T.next (tree i p (form.build 8 Apart (more_trees x (more_trees T.last no_trees))))) (named_over ls i p L false false)

list_node : (i : ℕ) (p : Place) (es : Trees) → ItemsAgree es → (ls : List Let) (k : ℕ)
    → literal i p (formed_items ls k es) ≡ over ls (normal k (tree i p (form.list_of es))) false false
list_node i p es h ls k =
    let Q = all_items k es in let L = list_of_atoms i p Q.next Q.atoms in
    ap (literal i p) (h ls k)
    ∙ cells_over Q.atoms i p (ls ++ Q.lets) Q.next
    ∙ ap (λ r. operation r L.next L.last) (append_assoc ls Q.lets L.lets)

-- ---- chains, lets, matches

abbrev AllAgree : Trees → Type 0
AllAgree no_trees = Unit {0}
AllAgree (more_trees e es) = Agrees e × AllAgree es

chain_over : (es : Trees) → AllAgree es → (i : ℕ) (p : Place) (ls : List Let) (M : Normal) (s b : Bool)
    → settled (formed_rest i p (over ls M s b) es) ≡ over ls (rest_of_chain i p M es) false false
chain_over no_trees h i p ls M s b = refl
chain_over (more_trees e es) h i p ls M s b =
    let W = with_name i p M in let N = normal (M.next + 1) e in
    let R = rest_of_chain i p N es in
    ap (λ (F : Formed). settled (formed_rest i p (formed F.lets F.next e) es)) (named_over ls i p M s b)
    ∙ ap (λ (F : Formed). settled (formed_rest i p F es)) (h.0 (ls ++ W.lets) (M.next + 1))
    ∙ chain_over es h.1 i p (ls ++ W.lets) N (stands e) (is_pure e)
    ∙ ap (λ r. operation r R.next R.last) (through ls M.lets R.lets (let_one i p (pattern p (bind M.next)) M.last))

chain_node : (i : ℕ) (p : Place) (e : Tree) (es : Trees) → Agrees e → AllAgree es → (ls : List Let) (k : ℕ)
    → settled (formed_rest i p (formed ls k e) es) ≡ over ls (rest_of_chain i p (normal k e) es) false false
chain_node i p e es g h ls k =
    ap (λ (F : Formed). settled (formed_rest i p F es)) (g ls k) ∙ chain_over es h i p ls (normal k e) (stands e) (is_pure e)

let_goes : (i : ℕ) (p : Place) (x : Pattern) (n : ℕ) (b : Tree) → Agrees b → (ls : List Let) (M : Normal)
    → settled (formed ((ls ++ M.lets) ++ let_one i p x M.last ∷ []) n b)
    ≡ operation (ls ++ (M.lets ++ let_one i p x M.last ∷ (normal n b).lets)) (normal n b).next (normal n b).last
let_goes i p x n b g ls M =
    let N = normal n b in let l = let_one i p x M.last in
    ap settled (g ((ls ++ M.lets) ++ l ∷ []) n)
    ∙ ap (λ r. operation (r ++ N.lets) N.next N.last) (append_assoc ls M.lets (l ∷ []))
    ∙ ap (λ r. operation r N.next N.last) (through ls M.lets N.lets l)

let_match : (i : ℕ) (p : Place) (q x : Pattern) (n : ℕ) (b : Tree) → Agrees b → (ls : List Let) (M : Normal) (under : Tree → Tree)
    → operation ((ls ++ M.lets) ++ let_one i p x M.last ∷ []) (formed [] n b).next (under (block_of (formed [] n b)))
    ≡ operation (ls ++ (M.lets ++ let_one i p x M.last ∷ [])) (normal n b).next (under (tree_of (normal n b)))
let_match i p q x n b g ls M under =
    let N = normal n b in let l = let_one i p x M.last in
    ap (λ (B : Formed). operation ((ls ++ M.lets) ++ l ∷ []) B.next (under (block_of B))) (g [] n)
    ∙ ap (λ r. operation r N.next (under (tree_of N))) (append_assoc ls M.lets (l ∷ []))

let_node : (q : Pattern) (i : ℕ) (p : Place) (e b : Tree) → Agrees b → (ls : List Let) (M : Normal) (s c : Bool)
    → bound i p q (over ls M s c) (λ ms n. formed ms n b)
    ≡ over ls (let_after i p q M (normal (behind M.next q) b)) false false
let_node (pattern r any) i p e b g ls M s c = let_goes i p (parameter M.next (pattern r any)) (behind M.next (pattern r any)) b g ls M
let_node (pattern r nothing) i p e b g ls M s c = let_goes i p (parameter M.next (pattern r nothing)) (behind M.next (pattern r nothing)) b g ls M
let_node (pattern r (bind x)) i p e b g ls M s c = let_goes i p (parameter M.next (pattern r (bind x))) (behind M.next (pattern r (bind x))) b g ls M
let_node (pattern r (tuple_of qs)) i p e b g ls M s c =
    let q = pattern r (tuple_of qs) in let_match i p q (parameter M.next q) (behind M.next q) b g ls M (body_under M.next q)
let_node (pattern r (build_of d m qs)) i p e b g ls M s c =
    let q = pattern r (build_of d m qs) in let_match i p q (parameter M.next q) (behind M.next q) b g ls M (body_under M.next q)

-- a body under its parameter is the same tree
under_same : (q : Pattern) (k : ℕ) (N : Normal) → body_under k q (tree_of N) ≡ tree_of (once.body_under k q N)
under_same (pattern p any) k N = refl
under_same (pattern p nothing) k N = refl
under_same (pattern p (bind x)) k N = refl
under_same (pattern p (tuple_of qs)) k N = refl
under_same (pattern p (build_of c n qs)) k N = refl

pub body_same : (q : Pattern) (k : ℕ) (b : Tree) → Agrees b → body_under k q (block_of (formed [] (behind k q) b)) ≡ tree_of (once.body_under k q (normal (behind k q) b))
body_same q k b g = ap (body_under k q) (as_block b g (behind k q)) ∙ under_same q k (normal (behind k q) b)

fun_node : (i : ℕ) (p : Place) (q : Pattern) (b : Tree) → Agrees b → (ls : List Let) (k : ℕ)
    → function ls i p k q (formed [] (behind k q) b) ≡ over ls (normal k (tree i p (form.fun q b))) false false
fun_node i p q b g ls k =
    let N = normal (behind k q) b in
    ap₂ (λ n t. operation ls n (tree i p (form.fun (parameter k q) t))) (block_next b g (behind k q)) (body_same q k b g)
    ∙ ap (λ r. operation r N.next (tree i p (form.fun (parameter k q) (tree_of (once.body_under k q N))))) (sym (append-nil ls))

rec_node : (i : ℕ) (p : Place) (f j : ℕ) (m : Place) (q : Pattern) (b e : Tree) → Agrees b → Agrees e → (ls : List Let) (k : ℕ)
    → formed ls k (tree i p (form.let_rec f j m q b e)) ≡ over ls (normal k (tree i p (form.let_rec f j m q b e))) false false
rec_node i p f j m q b e g h ls k =
    let N = normal (behind k q) b in
    let l = let_function i p f j m (parameter k q) (tree_of (once.body_under k q N)) in
    let E = normal N.next e in
    ap₂ (λ n t. settled (formed (ls ++ let_function i p f j m (parameter k q) t ∷ []) n e)) (block_next b g (behind k q)) (body_same q k b g)
    ∙ ap settled (h (ls ++ l ∷ []) N.next)
    ∙ ap (λ r. operation r E.next E.last) (append_assoc ls (l ∷ []) E.lets)

abbrev CasesAgree : Cases → Type 0
CasesAgree cs = (k : ℕ) → formed_cases k cs ≡ record { next = (normal_cases k cs).next; cases = (normal_cases k cs).cases }

more_arms : (q : Pattern) (b : Tree) (cs : Cases) → Agrees b → CasesAgree cs → CasesAgree (more_cases q b cs)
more_arms q b cs g h k =
    let Q = named_pattern k q in let N = normal Q.next b in
    ap (λ (B : Formed). the_cases (formed_cases B.next cs).next (more_cases Q.pattern (block_of B) (formed_cases B.next cs).cases)) (g [] Q.next)
    ∙ ap (λ (R : FormedCases). the_cases R.next (more_cases Q.pattern (tree_of N) R.cases)) (h N.next)

-- what a match looks at
seen_over : (c : Bool) (ls : List Let) (i : ℕ) (p : Place) (N : Normal) (s b : Bool)
    → (if c then over ls N s b else named i p (over ls N s b)) ≡ over ls (if c then N else with_name i p N) (if c then s else true) (if c then b else false)
seen_over true ls i p N s b = refl
seen_over false ls i p N s b = named_over ls i p N s b

match_node : (i : ℕ) (p : Place) (e : Tree) (cs : Cases) → Agrees e → CasesAgree cs → (ls : List Let) (k : ℕ)
    → formed ls k (tree i p (form.match_on e cs)) ≡ over ls (normal k (tree i p (form.match_on e cs))) false false
match_node i p e cs g h ls k =
    let M = as_scrutinee e (normal k e) in
    ap (λ (F : Formed). let E = scrutinee e F in over_cases i p E (formed_cases E.next cs)) (g ls k)
    ∙ ap (λ (E : Formed). over_cases i p E (formed_cases E.next cs)) (seen_over (is_use e) ls (id_of e) (place_of e) (normal k e) (stands e) (is_pure e))
    ∙ ap (λ (C : FormedCases). operation (ls ++ M.lets) C.next (tree i p (form.match_on M.last C.cases))) (h M.next)

-- ---- all trees

plain_node : (ls : List Let) (k : ℕ) (b c : Bool) (t : Tree) → the_formed ls k t b c ≡ over ls (only k t) b c
plain_node ls k b c t = ap (λ r. the_formed r k t b c) (sym (append-nil ls))

mutual
  pub agrees : (t : Tree) → has_rules t ≡ true → Agrees t
  agrees (tree i p f) h ls k = form_agrees f i p h ls k

  form_agrees : (f : Form) (i : ℕ) (p : Place) → form_has_rules f ≡ true → (ls : List Let) (k : ℕ)
      → formed_of ls k i p f ≡ over ls (normal_of k i p f) (stands_form f) (is_pure_form f)
  form_agrees (form.whole n) i p h ls k = plain_node ls k true true (tree i p (form.whole n))
  form_agrees (form.flag b) i p h ls k = plain_node ls k true true (tree i p (form.flag b))
  form_agrees form.unit i p h ls k = plain_node ls k true true (tree i p form.unit)
  form_agrees (form.use_of x) i p h ls k = plain_node ls k true true (tree i p (form.use_of x))
  form_agrees form.assert_false i p h ls k = plain_node ls k false false (tree i p form.assert_false)
  form_agrees form.map_empty i p h ls k = plain_node ls k false false (tree i p form.map_empty)
  form_agrees (form.qualified m x) i p h ls k = cc
  form_agrees (form.map_add a b c) i p h ls k = cc
  form_agrees (form.map_find a b) i p h ls k = cc
  form_agrees (form.chain no_trees) i p h ls k = cc
  form_agrees (form.negated a) i p h ls k = single shape.negated i p a (agrees a h) ls k
  form_agrees (form.not_of a) i p h ls k = single shape.not_of i p a (agrees a h) ls k
  form_agrees (form.length_of a) i p h ls k = single shape.length_of i p a (agrees a h) ls k
  form_agrees (form.assert a) i p h ls k = single shape.assert i p a (agrees a h) ls k
  form_agrees (form.print a) i p h ls k = single shape.print i p a (agrees a h) ls k
  form_agrees (form.read a) i p h ls k = single shape.read i p a (agrees a h) ls k
  form_agrees (form.call a b) i p h ls k =
      let w = both_true (has_rules a) (has_rules b) h in pair shape.call i p a b (agrees a w.0) (agrees b w.1) ls k
  form_agrees (form.make a b) i p h ls k =
      let w = both_true (has_rules a) (has_rules b) h in pair shape.make i p a b (agrees a w.0) (agrees b w.1) ls k
  form_agrees (form.fetch a b) i p h ls k =
      let w = both_true (has_rules a) (has_rules b) h in pair shape.fetch i p a b (agrees a w.0) (agrees b w.1) ls k
  form_agrees (form.compare o a b) i p h ls k =
      let w = both_true (has_rules a) (has_rules b) h in pair (shape.compare o) i p a b (agrees a w.0) (agrees b w.1) ls k
  form_agrees (form.arithmetic o a b) i p h ls k =
      let w = both_true (has_rules a) (has_rules b) h in
      let M = as_operand a (normal k a) in let N = as_operand b (normal M.next b) in
      pair (shape.arithmetic o) i p a b (agrees a w.0) (agrees b w.1) ls k
      ∙ arithmetic_pair (is_pure_operator o) (is_pure a && is_pure b) (ls ++ (M.lets ++ N.lets)) N.next (tree i p (form.arithmetic o M.last N.last))
  form_agrees (form.and_of a b) i p h ls k =
      let w = both_true (has_rules a) (has_rules b) h in
      junction shape.and_of i p a b (agrees a w.0) (agrees b w.1) ls k (tree i p (form.and_of a b)) refl
  form_agrees (form.or_of a b) i p h ls k =
      let w = both_true (has_rules a) (has_rules b) h in
      junction shape.or_of i p a b (agrees a w.0) (agrees b w.1) ls k (tree i p (form.or_of a b)) refl
  form_agrees (form.if_else a b c) i p h ls k =
      let w = both_true (has_rules a) (has_rules b && has_rules c) h in let v = both_true (has_rules b) (has_rules c) w.1 in
      chooses i p a b c (agrees a w.0) (agrees b v.0) (agrees c v.1) ls k
  form_agrees (form.store a b c) i p h ls k =
      let w = both_true (has_rules a) (has_rules b && has_rules c) h in let v = both_true (has_rules b) (has_rules c) w.1 in
      triple shape.store i p a b c (agrees a w.0) (agrees b v.0) (agrees c v.1) ls k
  form_agrees (form.tuple es) i p h ls k = row_node (λ ts. form.tuple ts) i p es (rows_agree es h) ls k
  form_agrees (form.build c w es) i p h ls k = row_node (λ ts. form.build c w ts) i p es (rows_agree es h) ls k
  form_agrees (form.list_of es) i p h ls k = list_node i p es (items_agree es h) ls k
  form_agrees (form.chain (more_trees e es)) i p h ls k =
      let w = both_true (has_rules e) (all_have_rules es) h in chain_node i p e es (agrees e w.0) (all_agree es w.1) ls k
  form_agrees (form.fun q b) i p h ls k = fun_node i p q b (agrees b h) ls k
  form_agrees (form.let_in q e b) i p h ls k =
      let w = both_true (has_rules e) (has_rules b) h in
      let M = normal k e in
      ap (λ (F : Formed). bound i p q F (λ ms n. formed ms n b)) (agrees e w.0 ls k)
      ∙ let_node q i p e b (agrees b w.1) ls M (stands e) (is_pure e)
      ∙ ap (λ (N : Normal). over ls N false false) (let_same q i p M (normal (behind M.next q) b))
  form_agrees (form.let_rec f j m q b e) i p h ls k =
      let w = both_true (has_rules b) (has_rules e) h in rec_node i p f j m q b e (agrees b w.0) (agrees e w.1) ls k
  form_agrees (form.match_on e cs) i p h ls k =
      let w = both_true (has_rules e) (cases_have_rules cs) h in match_node i p e cs (agrees e w.0) (cases_agree cs w.1) ls k

  rows_agree : (es : Trees) → all_have_rules es ≡ true → RowAgrees es
  rows_agree no_trees h ls k = ap (λ r. the_row r k []) (sym (append-nil ls))
  rows_agree (more_trees e es) h ls k =
      let w = both_true (has_rules e) (all_have_rules es) h in more_operands e es (agrees e w.0) (rows_agree es w.1) ls k

  items_agree : (es : Trees) → all_have_rules es ≡ true → ItemsAgree es
  items_agree no_trees h ls k = ap (λ r. the_row r k []) (sym (append-nil ls))
  items_agree (more_trees e es) h ls k =
      let w = both_true (has_rules e) (all_have_rules es) h in more_items e es (agrees e w.0) (items_agree es w.1) ls k

  all_agree : (es : Trees) → all_have_rules es ≡ true → AllAgree es
  all_agree no_trees h = tt
  all_agree (more_trees e es) h =
      let w = both_true (has_rules e) (all_have_rules es) h in (agrees e w.0, all_agree es w.1)

  cases_agree : (cs : Cases) → cases_have_rules cs ≡ true → CasesAgree cs
  cases_agree no_cases h k = refl
  cases_agree (more_cases q b cs) h k =
      let w = both_true (has_rules b) (cases_have_rules cs) h in more_arms q b cs (agrees b w.0) (cases_agree cs w.1) k

pub pass_agrees : PassAgrees
pass_agrees ls k t h = agrees t h ls k
