-- The pass over a tree, with the lets so far and the next made name handed on.
use Rattle.std.specs.Prelude.{ℕ, ◌+◌, Bool, true, false, ◌&&◌, if◌then◌else◌, List, [], ◌∷◌, ◌++◌}
use Rattle.lq_base_names.specs.declared.operation.ArithOp.{ArithOp}
use Rattle.lq_base_names.specs.declared.place.Place.{Place}
use Rattle.lq_text_tree.specs.declared.expr.Arguments.TheVariants.{Apart}
use Rattle.lq_text_tree.specs.Pattern.{Pattern, pattern, bind, tuple_of, build_of}
use Rattle.lq_text_tree.specs.Tree as form
use Rattle.lq_text_tree.specs.Tree.{Tree, tree, Form, Trees, no_trees, more_trees, Cases, no_cases, more_cases}
use Rattle.lq_text_tree.specs.TreeView.{cases_of, trees_of}
use Rattle.lq_text_walk.specs.Walk.Shape.{Leaf, One, Two, Three, Row, Shape}
use Rattle.lq_text_walk.specs.Walk.Shape as shape
use Rattle.lq_meaning_normal_form.specs.Outcomes.Flattening.{Let, let_one, let_function, put_in}
use Rattle.lq_meaning_normal_form.specs.Outcomes.Naming.{is_pure_operator, is_use, id_of, place_of, parameter, behind, matched, named_pattern}

-- What an expression became: its last operation, whether that stands as an operand, and whether the expression is pure as it is
-- written.
pub record Shown : Type 0 where
  pub last : Tree
  pub stands : Bool
  pub pure : Bool

-- the same behind the lets so far, with the next made name
pub record Formed : Type 0 where
  pub lets : List Let
  pub next : ℕ
  pub last : Tree
  pub stands : Bool
  pub pure : Bool

-- the same for a row of operands
pub record FormedRow : Type 0 where
  pub lets : List Let
  pub next : ℕ
  pub atoms : List Tree

-- arms, whose lets are their own
pub record FormedCases : Type 0 where
  pub next : ℕ
  pub cases : Cases

-- a pure expression, and another operation
abbrev pub stands_as : Bool → Tree → Shown
stands_as b t = record { last = t; stands = true; pure = b }

abbrev pub operates_as : Tree → Shown
operates_as t = record { last = t; stands = false; pure = false }

abbrev pub placed : List Let → ℕ → Shown → Formed
placed ls k S = record { lets = ls; next = k; last = S.last; stands = S.stands; pure = S.pure }

abbrev pub operation : List Let → ℕ → Tree → Formed
operation ls k t = placed ls k (operates_as t)

abbrev pub atom : List Let → ℕ → Bool → Tree → Formed
atom ls k b t = placed ls k (stands_as b t)

-- bound to the next made name
abbrev pub named : ℕ → Place → Formed → Formed
named i p F = atom (F.lets ++ let_one i p (pattern p (bind F.next)) F.last ∷ []) (F.next + 1) false (tree i p (form.use_of F.next))

-- an operand: what doesn't stand is bound
abbrev pub operand : Tree → Formed → Formed
operand t F = if F.stands then F else named (id_of t) (place_of t) F

-- the block of its own lets
abbrev pub block_of : Formed → Tree
block_of F = put_in F.lets F.last

-- what goes on behind the lets so far
abbrev pub Goes : Type 0
Goes = List Let → ℕ → Formed

-- ---- nodes with one, two or three parts, the first of which is done

-- a node over operands, of which it is said whether they are pure as they are written
abbrev pub one_node : One → ℕ → Place → Bool → Tree → Shown
one_node shape.negated i p b x = stands_as b (tree i p (form.negated x))
one_node shape.not_of i p b x = stands_as b (tree i p (form.not_of x))
one_node shape.length_of i p b x = stands_as b (tree i p (form.length_of x))
one_node shape.assert i p b x = operates_as (tree i p (form.assert x))
one_node shape.print i p b x = operates_as (tree i p (form.print x))
one_node shape.read i p b x = operates_as (tree i p (form.read x))

abbrev pub arithmetic_node : ArithOp → ℕ → Place → Bool → Tree → Tree → Shown
arithmetic_node o i p b x y =
    if is_pure_operator o then stands_as b (tree i p (form.arithmetic o x y)) else operates_as (tree i p (form.arithmetic o x y))

abbrev pub two_node : Two → ℕ → Place → Bool → Tree → Tree → Shown
two_node (shape.arithmetic o) i p b x y = arithmetic_node o i p b x y
two_node (shape.compare o) i p b x y = stands_as b (tree i p (form.compare o x y))
two_node shape.and_of i p b x y = stands_as b (tree i p (form.and_of x y))
two_node shape.or_of i p b x y = stands_as b (tree i p (form.or_of x y))
two_node shape.call i p b x y = operates_as (tree i p (form.call x y))
two_node shape.make i p b x y = operates_as (tree i p (form.make x y))
two_node shape.fetch i p b x y = operates_as (tree i p (form.fetch x y))
two_node shape.map_find i p b x y = operates_as (tree i p (form.map_find x y))

abbrev pub three_node : Three → ℕ → Place → Tree → Tree → Tree → Shown
three_node shape.if_else i p x y z = operates_as (tree i p (form.if_else x y z))
three_node shape.store i p x y z = operates_as (tree i p (form.store x y z))
three_node shape.map_add i p x y z = operates_as (tree i p (form.map_add x y z))

abbrev pub is_choice : Three → Bool
is_choice shape.if_else = true
is_choice h = false

abbrev pub over_one : One → ℕ → Place → Formed → Formed
over_one h i p A = placed A.lets A.next (one_node h i p A.pure A.last)

abbrev pub after_one : One → ℕ → Place → Tree → Formed → Formed
after_one h i p a F = over_one h i p (operand a F)

-- `a && b` is `if a then b else false`, and `a || b` is `if a then true else b`
abbrev pub choice_of : Two → ℕ → Place → Tree → Tree → Form
choice_of shape.and_of i p x t = form.if_else x t (tree i p (form.flag false))
choice_of h i p x t = form.if_else x (tree i p (form.flag true)) t

-- but where both are pure as they are written; B has lets of its own
abbrev pub connective : Two → ℕ → Place → Formed → Formed → Formed
connective h i p A B =
    if A.pure && B.pure then placed A.lets B.next (two_node h i p true A.last B.last)
    else operation A.lets B.next (tree i p (choice_of h i p A.last (block_of B)))

abbrev pub over_two : Two → ℕ → Place → Formed → Formed → Formed
over_two h i p A B = placed B.lets B.next (two_node h i p (A.pure && B.pure) A.last B.last)

abbrev pub is_connective : Two → Bool
is_connective shape.and_of = true
is_connective shape.or_of = true
is_connective h = false

abbrev pub with_second : Two → ℕ → Place → Tree → Formed → Goes → Formed
with_second h i p b A go =
    if is_connective h then connective h i p A (go [] A.next) else over_two h i p A (operand b (go A.lets A.next))

abbrev pub after_two : Two → ℕ → Place → Tree → Tree → Formed → Goes → Formed
after_two h i p a b F go = with_second h i p b (operand a F) go

abbrev pub over_choice : ℕ → Place → Formed → Formed → Formed → Formed
over_choice i p C A B = operation C.lets B.next (tree i p (form.if_else C.last (block_of A) (block_of B)))

abbrev pub choice : ℕ → Place → Formed → Goes → Goes → Formed
choice i p C go_on go_off = let A = go_on [] C.next in over_choice i p C A (go_off [] A.next)

abbrev pub over_three : Three → ℕ → Place → Formed → Formed → Formed → Formed
over_three h i p A B C = placed C.lets C.next (three_node h i p A.last B.last C.last)

abbrev pub all_three : Three → ℕ → Place → Tree → Tree → Formed → Goes → Goes → Formed
all_three h i p b c A go_b go_c = let B = operand b (go_b A.lets A.next) in over_three h i p A B (operand c (go_c B.lets B.next))

abbrev pub after_three : Three → ℕ → Place → Tree → Tree → Tree → Formed → Goes → Goes → Formed
after_three h i p a b c F go_b go_c =
    if is_choice h then choice i p (operand a F) go_b go_c else all_three h i p b c (operand a F) go_b go_c

-- ---- rows, bodies, leaves

-- one more operand
abbrev pub with_atom : Formed → (List Let → ℕ → FormedRow) → FormedRow
with_atom A go = let R = go A.lets A.next in record { lets = R.lets; next = R.next; atoms = A.last ∷ R.atoms }

-- a cell of a list literal, whose tail is bound
abbrev pub cell : ℕ → Place → Tree → Formed → Formed
cell i p x F =
    let T = named i p F in operation T.lets T.next (tree i p (form.build 8 Apart (more_trees x (more_trees T.last no_trees))))

-- cells for these items, from the last one
abbrev pub cells : ℕ → Place → List Tree → Formed → Formed
cells i p [] F = F
cells i p (x ∷ xs) F = cell i p x (cells i p xs F)

abbrev pub literal : ℕ → Place → FormedRow → Formed
literal i p R = cells i p R.atoms (operation R.lets R.next (tree i p (form.build 7 Apart no_trees)))

-- what becomes of an expression whose form isn't pure
abbrev pub settled : Formed → Formed
settled F = operation F.lets F.next F.last

-- a node with a row of parts: as operands, as items of a list literal, and one after another
abbrev pub over_row : Row → ℕ → Place → FormedRow → FormedRow → Formed → Formed
over_row shape.tuple i p R I C = operation R.lets R.next (tree i p (form.tuple (trees_of R.atoms)))
over_row (shape.build c w) i p R I C = operation R.lets R.next (tree i p (form.build c w (trees_of R.atoms)))
over_row shape.list_of i p R I C = literal i p I
over_row shape.chain i p R I C = settled C

-- a body, which has lets of its own, under its parameter
abbrev pub body_under : ℕ → Pattern → Tree → Tree
body_under k (pattern p (tuple_of qs)) b = matched k (pattern p (tuple_of qs)) p b
body_under k (pattern p (build_of c n qs)) b = matched k (pattern p (build_of c n qs)) p b
body_under k (pattern p f) b = b

-- whether a body is a match
abbrev pub is_matched : Pattern → Bool
is_matched (pattern p (tuple_of qs)) = true
is_matched (pattern p (build_of c n qs)) = true
is_matched (pattern p f) = false

-- a let: its body goes on behind it, or is a match with lets of its own
abbrev pub bound : ℕ → Place → Pattern → Formed → Goes → Formed
bound i p q E go =
    let ls = E.lets ++ let_one i p (parameter E.next q) E.last ∷ [] in let k = behind E.next q in
    if is_matched q then (let B = go [] k in operation ls B.next (body_under E.next q (block_of B)))
    else settled (go ls k)

abbrev pub leaf : ℕ → Place → Leaf → Shown
leaf i p (shape.whole n) = stands_as true (tree i p (form.whole n))
leaf i p (shape.flag b) = stands_as true (tree i p (form.flag b))
leaf i p shape.unit = stands_as true (tree i p form.unit)
leaf i p (shape.use_of x) = stands_as true (tree i p (form.use_of x))
leaf i p (shape.qualified m x) = operates_as (tree i p form.assert_false)
leaf i p shape.assert_false = operates_as (tree i p form.assert_false)
leaf i p shape.map_empty = operates_as (tree i p form.map_empty)

-- a scrutinee: what isn't a variable is bound
abbrev pub scrutinee : Tree → Formed → Formed
scrutinee t F = if is_use t then F else named (id_of t) (place_of t) F

abbrev pub over_cases : ℕ → Place → Formed → FormedCases → Formed
over_cases i p E C = operation E.lets C.next (tree i p (form.match_on E.last C.cases))

-- a function's parameter and body, whose lets are its own
abbrev pub function : List Let → ℕ → Place → ℕ → Pattern → Formed → Formed
function ls i p k q B = operation ls B.next (tree i p (form.fun (parameter k q) (body_under k q (block_of B))))

abbrev pub recursive : List Let → ℕ → Place → ℕ → ℕ → Place → ℕ → Pattern → Formed → List Let
recursive ls i p f j n k q B = ls ++ let_function i p f j n (parameter k q) (body_under k q (block_of B)) ∷ []

-- ---- trees

abbrev mutual
  pub formed : List Let → ℕ → Tree → Formed
  formed ls k (tree i p f) = formed_of ls k i p f

  pub formed_of : List Let → ℕ → ℕ → Place → Form → Formed
  formed_of ls k i p (form.whole n) = placed ls k (leaf i p (shape.whole n))
  formed_of ls k i p (form.flag b) = placed ls k (leaf i p (shape.flag b))
  formed_of ls k i p form.unit = placed ls k (leaf i p shape.unit)
  formed_of ls k i p (form.use_of x) = placed ls k (leaf i p (shape.use_of x))
  formed_of ls k i p (form.qualified m x) = placed ls k (leaf i p (shape.qualified m x))
  formed_of ls k i p form.assert_false = placed ls k (leaf i p shape.assert_false)
  formed_of ls k i p form.map_empty = placed ls k (leaf i p shape.map_empty)
  formed_of ls k i p (form.negated a) = after_one shape.negated i p a (formed ls k a)
  formed_of ls k i p (form.not_of a) = after_one shape.not_of i p a (formed ls k a)
  formed_of ls k i p (form.length_of a) = after_one shape.length_of i p a (formed ls k a)
  formed_of ls k i p (form.assert a) = after_one shape.assert i p a (formed ls k a)
  formed_of ls k i p (form.print a) = after_one shape.print i p a (formed ls k a)
  formed_of ls k i p (form.read a) = after_one shape.read i p a (formed ls k a)
  formed_of ls k i p (form.call a b) = after_two shape.call i p a b (formed ls k a) (λ ms n. formed ms n b)
  formed_of ls k i p (form.arithmetic o a b) = after_two (shape.arithmetic o) i p a b (formed ls k a) (λ ms n. formed ms n b)
  formed_of ls k i p (form.compare o a b) = after_two (shape.compare o) i p a b (formed ls k a) (λ ms n. formed ms n b)
  formed_of ls k i p (form.and_of a b) = after_two shape.and_of i p a b (formed ls k a) (λ ms n. formed ms n b)
  formed_of ls k i p (form.or_of a b) = after_two shape.or_of i p a b (formed ls k a) (λ ms n. formed ms n b)
  formed_of ls k i p (form.make a b) = after_two shape.make i p a b (formed ls k a) (λ ms n. formed ms n b)
  formed_of ls k i p (form.fetch a b) = after_two shape.fetch i p a b (formed ls k a) (λ ms n. formed ms n b)
  formed_of ls k i p (form.map_find a b) = after_two shape.map_find i p a b (formed ls k a) (λ ms n. formed ms n b)
  formed_of ls k i p (form.if_else a b c) =
      after_three shape.if_else i p a b c (formed ls k a) (λ ms n. formed ms n b) (λ ms n. formed ms n c)
  formed_of ls k i p (form.store a b c) =
      after_three shape.store i p a b c (formed ls k a) (λ ms n. formed ms n b) (λ ms n. formed ms n c)
  formed_of ls k i p (form.map_add a b c) =
      after_three shape.map_add i p a b c (formed ls k a) (λ ms n. formed ms n b) (λ ms n. formed ms n c)
  formed_of ls k i p (form.tuple es) = over_row shape.tuple i p (formed_all ls k es) (formed_items ls k es) (formed_chain ls k i p es)
  formed_of ls k i p (form.build c w es) = over_row (shape.build c w) i p (formed_all ls k es) (formed_items ls k es) (formed_chain ls k i p es)
  formed_of ls k i p (form.list_of es) = over_row shape.list_of i p (formed_all ls k es) (formed_items ls k es) (formed_chain ls k i p es)
  formed_of ls k i p (form.chain es) = over_row shape.chain i p (formed_all ls k es) (formed_items ls k es) (formed_chain ls k i p es)
  formed_of ls k i p (form.fun q b) = function ls i p k q (formed [] (behind k q) b)
  formed_of ls k i p (form.let_in q e b) = bound i p q (formed ls k e) (λ ms n. formed ms n b)
  formed_of ls k i p (form.let_rec f j n q b e) =
      let B = formed [] (behind k q) b in settled (formed (recursive ls i p f j n k q B) B.next e)
  formed_of ls k i p (form.match_on e cs) = let E = scrutinee e (formed ls k e) in over_cases i p E (formed_cases E.next cs)

  pub formed_all : List Let → ℕ → Trees → FormedRow
  formed_all ls k no_trees = record { lets = ls; next = k; atoms = [] }
  formed_all ls k (more_trees e es) = with_atom (operand e (formed ls k e)) (λ ms n. formed_all ms n es)

  -- the items of a list literal, bound also where they are pure
  pub formed_items : List Let → ℕ → Trees → FormedRow
  formed_items ls k no_trees = record { lets = ls; next = k; atoms = [] }
  formed_items ls k (more_trees e es) = with_atom (named (id_of e) (place_of e) (formed ls k e)) (λ ms n. formed_items ms n es)

  pub formed_chain : List Let → ℕ → ℕ → Place → Trees → Formed
  formed_chain ls k i p no_trees = operation ls k (tree i p form.assert_false)
  formed_chain ls k i p (more_trees e es) = formed_rest i p (formed ls k e) es

  -- what is left of a chain behind a part, which is bound
  pub formed_rest : ℕ → Place → Formed → Trees → Formed
  formed_rest i p E no_trees = E
  formed_rest i p E (more_trees e es) = let F = named i p E in formed_rest i p (formed F.lets F.next e) es

  pub formed_cases : ℕ → Cases → FormedCases
  formed_cases k no_cases = record { next = k; cases = no_cases }
  formed_cases k (more_cases q b cs) =
      let Q = named_pattern k q in let B = formed [] Q.next b in let R = formed_cases B.next cs in
      record { next = R.next; cases = more_cases Q.pattern (block_of B) R.cases }

-- a node by its shape
abbrev pub formed_shape : List Let → ℕ → ℕ → Place → Shape → Formed
formed_shape ls k i p (shape.leaf h) = placed ls k (leaf i p h)
formed_shape ls k i p (shape.one h a) = after_one h i p a (formed ls k a)
formed_shape ls k i p (shape.two h a b) = after_two h i p a b (formed ls k a) (λ ms n. formed ms n b)
formed_shape ls k i p (shape.three h a b c) = after_three h i p a b c (formed ls k a) (λ ms n. formed ms n b) (λ ms n. formed ms n c)
formed_shape ls k i p (shape.row h es) =
    over_row h i p (formed_all ls k (trees_of es)) (formed_items ls k (trees_of es)) (formed_chain ls k i p (trees_of es))
formed_shape ls k i p (shape.function q b) = function ls i p k q (formed [] (behind k q) b)
formed_shape ls k i p (shape.let_in q e b) = bound i p q (formed ls k e) (λ ms n. formed ms n b)
formed_shape ls k i p (shape.let_rec f j n q b e) =
    let B = formed [] (behind k q) b in settled (formed (recursive ls i p f j n k q B) B.next e)
formed_shape ls k i p (shape.match_on e cs) = let E = scrutinee e (formed ls k e) in over_cases i p E (formed_cases E.next (cases_of cs))
