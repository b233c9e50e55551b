-- Naming: operands that aren't pure are bound to made names, in the order of their evaluation. Each function takes the next made name
-- and hands on the one behind those that it made.
use Rattle.std.specs.Prelude.{ℕ, ◌+◌, Bool, true, false, ◌&&◌, if◌then◌else◌, List, [], ◌∷◌, ◌++◌}
use Rattle.lq_base_names.specs.declared.operation.ArithOp.{ArithOp}
use Rattle.lq_base_names.specs.declared.operation.ArithOp.TheVariants as op
use Rattle.lq_base_names.specs.declared.place.Place.{Place}
use Rattle.lq_text_tree.specs.declared.expr.Arguments.TheVariants.{Apart}
use Rattle.lq_text_tree.specs.Items.{ItemTree, ItemForm, type_of, let_of, let_rec_of}
use Rattle.lq_text_tree.specs.Pattern.{Pattern, pattern, PatternForm, any, bind, nothing, tuple_of, build_of, Patterns, no_patterns, more_patterns}
use Rattle.lq_text_tree.specs.Tree as form
use Rattle.lq_text_tree.specs.Tree.{Tree, tree, Form, Trees, no_trees, more_trees, Cases, no_cases, more_cases}

-- ---- pure expressions

abbrev pub is_pure_operator : ArithOp → Bool
is_pure_operator op.Add = true
is_pure_operator op.Sub = true
is_pure_operator op.Mul = true
is_pure_operator op.Div = false
is_pure_operator op.Mod = false

-- an expression that is pure as it is written
abbrev mutual
  pub is_pure : Tree → Bool
  is_pure (tree i p f) = is_pure_form f

  pub is_pure_form : Form → Bool
  is_pure_form (form.whole n) = true
  is_pure_form (form.flag b) = true
  is_pure_form form.unit = true
  is_pure_form (form.use_of x) = true
  is_pure_form (form.arithmetic o a b) = is_pure_operator o && (is_pure a && is_pure b)
  is_pure_form (form.negated e) = is_pure e
  is_pure_form (form.compare o a b) = is_pure a && is_pure b
  is_pure_form (form.not_of e) = is_pure e
  is_pure_form (form.and_of a b) = is_pure a && is_pure b
  is_pure_form (form.or_of a b) = is_pure a && is_pure b
  is_pure_form (form.length_of e) = is_pure e
  is_pure_form _ = false

-- a form that is pure once its operands are; of `&&` and `||` only what is pure as it is written
abbrev pub stands_form : Form → Bool
stands_form (form.whole n) = true
stands_form (form.flag b) = true
stands_form form.unit = true
stands_form (form.use_of x) = true
stands_form (form.arithmetic o a b) = is_pure_operator o
stands_form (form.negated e) = true
stands_form (form.compare o a b) = true
stands_form (form.not_of e) = true
stands_form (form.and_of a b) = is_pure a && is_pure b
stands_form (form.or_of a b) = is_pure a && is_pure b
stands_form (form.length_of e) = true
stands_form _ = false

abbrev pub stands : Tree → Bool
stands (tree i p f) = stands_form f

abbrev pub is_use_form : Form → Bool
is_use_form (form.use_of x) = true
is_use_form _ = false

abbrev pub is_use : Tree → Bool
is_use (tree i p f) = is_use_form f

-- ---- bindings before a last expression

-- a name, with the number and the place of the node that its let is, and what it is bound to
pub record Binding : Type 0 where
  pub name : ℕ
  pub id : ℕ
  pub place : Place
  pub bound : Tree

-- bindings, a last expression, and the next made name
pub record Block : Type 0 where
  pub bindings : List Binding
  pub last : Tree
  pub next : ℕ

abbrev pub id_of : Tree → ℕ
id_of (tree i p f) = i

abbrev pub place_of : Tree → Place
place_of (tree i p f) = p

-- `let x = e in` for each binding, and the expression behind them
abbrev pub wrap : List Binding → Tree → Tree
wrap [] t = t
wrap (b ∷ bs) t = tree b.id b.place (form.let_in (pattern b.place (bind b.name)) b.bound (wrap bs t))

abbrev pub closed : Block → Tree
closed B = wrap B.bindings B.last

-- no binding
abbrev pub plain : ℕ → Tree → Block
plain k t = record { bindings = []; last = t; next = k }

-- A block bound to the next made name, which is numbered behind all that is in it, and a use of that name. Both have the number and the
-- place of the node for which the block stands.
abbrev pub made : ℕ → Place → Block → Block
made i p B = record { bindings = record { name = B.next; id = i; place = p; bound = closed B } ∷ []; last = tree i p (form.use_of B.next); next = B.next + 1 }

-- the block of an operand: what is pure over its named operands stands as it is, all else is bound to a made name
abbrev pub operand : Tree → Block → Block
operand t B = if stands t then B else made (id_of t) (place_of t) B

-- the block of a scrutinee: it is bound where it isn't a variable
abbrev pub scrutinee : Tree → Block → Block
scrutinee t B = if is_use t then B else made (id_of t) (place_of t) B

-- the bindings of the parts in order, and a form over what stands for the parts
abbrev pub over_one : Block → (Tree → Tree) → Block
over_one A make = record { bindings = A.bindings; last = make A.last; next = A.next }

abbrev pub over_two : Block → Block → (Tree → Tree → Tree) → Block
over_two A B make = record { bindings = A.bindings ++ B.bindings; last = make A.last B.last; next = B.next }

abbrev pub over_three : Block → Block → Block → (Tree → Tree → Tree → Tree) → Block
over_three A B C make = record { bindings = A.bindings ++ (B.bindings ++ C.bindings); last = make A.last B.last C.last; next = C.next }

-- the same for a row of parts
pub record Row : Type 0 where
  pub bindings : List Binding
  pub atoms : Trees
  pub next : ℕ

abbrev pub no_row : ℕ → Row
no_row k = record { bindings = []; atoms = no_trees; next = k }

abbrev pub more_row : Block → Row → Row
more_row A R = record { bindings = A.bindings ++ R.bindings; atoms = more_trees A.last R.atoms; next = R.next }

abbrev pub over_row : Row → (Trees → Tree) → Block
over_row R make = record { bindings = R.bindings; last = make R.atoms; next = R.next }

-- `[]` and then a construct for each item from the last one, all but the outermost bound to made names
abbrev pub listed : ℕ → Place → ℕ → Trees → Block
listed i p k no_trees = plain k (tree i p (form.build 7 Apart no_trees))
listed i p k (more_trees x xs) =
    over_one (made i p (listed i p k xs)) (λ rest. tree i p (form.build 8 Apart (more_trees x (more_trees rest no_trees))))

abbrev pub list_block : ℕ → Place → Row → Block
list_block i p R = let L = listed i p R.next R.atoms in record { bindings = R.bindings ++ L.bindings; last = L.last; next = L.next }

-- ---- patterns

pub record NamedPattern : Type 0 where
  pub pattern : Pattern
  pub next : ℕ

pub record NamedForm : Type 0 where
  pub form : PatternForm
  pub next : ℕ

pub record NamedParts : Type 0 where
  pub parts : Patterns
  pub next : ℕ

-- each `_` of a part is a made name
abbrev mutual
  pub named_part : ℕ → Pattern → NamedPattern
  named_part k (pattern p f) = let F = named_form k f in record { pattern = pattern p F.form; next = F.next }

  pub named_form : ℕ → PatternForm → NamedForm
  named_form k any = record { form = bind k; next = k + 1 }
  named_form k (bind x) = record { form = bind x; next = k }
  named_form k nothing = record { form = nothing; next = k }
  named_form k (tuple_of qs) = let Q = named_parts k qs in record { form = tuple_of Q.parts; next = Q.next }
  named_form k (build_of c p qs) = let Q = named_parts k qs in record { form = build_of c p Q.parts; next = Q.next }

  pub named_parts : ℕ → Patterns → NamedParts
  named_parts k no_patterns = record { parts = no_patterns; next = k }
  named_parts k (more_patterns q qs) =
      let Q = named_part k q in let R = named_parts Q.next qs in record { parts = more_patterns Q.pattern R.parts; next = R.next }

-- the pattern of an arm: a `_` that is the whole of it stays
abbrev pub named_pattern : ℕ → Pattern → NamedPattern
named_pattern k (pattern p any) = record { pattern = pattern p any; next = k }
named_pattern k (pattern p f) = named_part k (pattern p f)

-- A parameter that is no name is a made name; where it is a tuple or a constructor pattern, the body is a match on that name, at its place.
abbrev pub parameter : ℕ → Pattern → Pattern
parameter k (pattern p (bind x)) = pattern p (bind x)
parameter k (pattern p f) = pattern p (bind k)

-- the next made name behind a parameter
abbrev pub behind : ℕ → Pattern → ℕ
behind k (pattern p (bind x)) = k
behind k (pattern p f) = (named_pattern (k + 1) (pattern p f)).next

abbrev pub matched : ℕ → Pattern → Place → Tree → Tree
matched k q p b = tree 0 p (form.match_on (tree 0 p (form.use_of k)) (more_cases (named_pattern (k + 1) q).pattern b no_cases))

-- a body that is named, under its parameter
abbrev pub under : ℕ → Pattern → Tree → Tree
under k (pattern p (tuple_of qs)) b = matched k (pattern p (tuple_of qs)) p b
under k (pattern p (build_of c n qs)) b = matched k (pattern p (build_of c n qs)) p b
under k (pattern p f) b = b

-- ---- expressions

pub record NamedCases : Type 0 where
  pub cases : Cases
  pub next : ℕ

-- Each rule names the parts in the order of their evaluation. The bodies of `fun`, `if`, `match` and the two sides of a `let` are
-- blocks of their own.
abbrev mutual
  pub block : ℕ → Tree → Block
  block k (tree i p f) = block_of k i p f

  pub block_of : ℕ → ℕ → Place → Form → Block
  block_of k i p (form.fun q b) =
      let B = block (behind k q) b in plain B.next (tree i p (form.fun (parameter k q) (under k q (closed B))))
  block_of k i p (form.tuple es) = over_row (operands k es) (λ as_. tree i p (form.tuple as_))
  block_of k i p (form.build c w es) = over_row (operands k es) (λ as_. tree i p (form.build c w as_))
  block_of k i p (form.list_of es) = list_block i p (items k es)
  block_of k i p (form.let_in q e b) =
      let E = block k e in let B = block (behind E.next q) b in
      plain B.next (tree i p (form.let_in (parameter E.next q) (closed E) (under E.next q (closed B))))
  block_of k i p (form.let_rec f j n q b e) =
      let B = block (behind k q) b in let E = block B.next e in
      plain E.next (tree i p (form.let_rec f j n (parameter k q) (under k q (closed B)) (closed E)))
  block_of k i p (form.call f a) =
      let F = operand f (block k f) in let A = operand a (block F.next a) in over_two F A (λ f a. tree i p (form.call f a))
  block_of k i p (form.arithmetic o a b) =
      let A = operand a (block k a) in let B = operand b (block A.next b) in over_two A B (λ a b. tree i p (form.arithmetic o a b))
  block_of k i p (form.negated e) = over_one (operand e (block k e)) (λ e. tree i p (form.negated e))
  block_of k i p (form.compare o a b) =
      let A = operand a (block k a) in let B = operand b (block A.next b) in over_two A B (λ a b. tree i p (form.compare o a b))
  block_of k i p (form.not_of e) = over_one (operand e (block k e)) (λ e. tree i p (form.not_of e))
  -- `a && b` is `if a then b else false`, unless it is pure as it is written
  block_of k i p (form.and_of a b) =
      let A = operand a (block k a) in let B = block A.next b in
      if is_pure a && is_pure b then plain k (tree i p (form.and_of a b))
      else record { bindings = A.bindings; last = tree i p (form.if_else A.last (closed B) (tree i p (form.flag false))); next = B.next }
  -- `a || b` is `if a then true else b`
  block_of k i p (form.or_of a b) =
      let A = operand a (block k a) in let B = block A.next b in
      if is_pure a && is_pure b then plain k (tree i p (form.or_of a b))
      else record { bindings = A.bindings; last = tree i p (form.if_else A.last (tree i p (form.flag true)) (closed B)); next = B.next }
  block_of k i p (form.if_else c a b) =
      let C = operand c (block k c) in let A = block C.next a in let B = block A.next b in
      record { bindings = C.bindings; last = tree i p (form.if_else C.last (closed A) (closed B)); next = B.next }
  block_of k i p (form.match_on e cs) =
      let E = scrutinee e (block k e) in let C = cases E.next cs in
      record { bindings = E.bindings; last = tree i p (form.match_on E.last C.cases); next = C.next }
  block_of k i p (form.chain (more_trees e es)) = chained i p (block k e) es
  block_of k i p (form.assert e) = over_one (operand e (block k e)) (λ e. tree i p (form.assert e))
  block_of k i p (form.make n e) =
      let A = operand n (block k n) in let B = operand e (block A.next e) in over_two A B (λ a b. tree i p (form.make a b))
  block_of k i p (form.length_of e) = over_one (operand e (block k e)) (λ e. tree i p (form.length_of e))
  block_of k i p (form.fetch a n) =
      let A = operand a (block k a) in let B = operand n (block A.next n) in over_two A B (λ a b. tree i p (form.fetch a b))
  block_of k i p (form.store a n e) =
      let A = operand a (block k a) in let N = operand n (block A.next n) in let E = operand e (block N.next e) in
      over_three A N E (λ a b c. tree i p (form.store a b c))
  block_of k i p (form.print e) = over_one (operand e (block k e)) (λ e. tree i p (form.print e))
  block_of k i p (form.read e) = over_one (operand e (block k e)) (λ e. tree i p (form.read e))
  -- literals, variables, `assert false`, and what has no meaning
  block_of k i p f = plain k (tree i p f)

  pub operands : ℕ → Trees → Row
  operands k no_trees = no_row k
  operands k (more_trees e es) = let E = operand e (block k e) in more_row E (operands E.next es)

  -- the items of a list literal, bound also where they are pure
  pub items : ℕ → Trees → Row
  items k no_trees = no_row k
  items k (more_trees e es) = let E = made (id_of e) (place_of e) (block k e) in more_row E (items E.next es)

  -- what is left of a chain behind its first part, which is bound to a made name
  pub chained : ℕ → Place → Block → Trees → Block
  chained i p E no_trees = E
  chained i p E (more_trees e es) =
      let R = chained i p (block (E.next + 1) e) es in
      plain R.next (tree i p (form.let_in (pattern p (bind E.next)) (closed E) (closed R)))

  pub cases : ℕ → Cases → NamedCases
  cases k no_cases = record { cases = no_cases; next = k }
  cases k (more_cases q b cs) =
      let Q = named_pattern k q in let B = block Q.next b in let R = cases B.next cs in
      record { cases = more_cases Q.pattern (closed B) R.cases; next = R.next }

-- an expression with its operands named, from this made name on
abbrev pub named : ℕ → Tree → Tree
named k t = closed (block k t)

-- ---- programs

pub record NamedItem : Type 0 where
  pub form : ItemForm
  pub next : ℕ

-- an item; its own pattern stays
abbrev pub named_item : ℕ → ItemForm → NamedItem
named_item k (type_of d) = record { form = type_of d; next = k }
named_item k (let_of q e) = let B = block k e in record { form = let_of q (closed B); next = B.next }
named_item k (let_rec_of f r) =
    let B = block (behind k r.parameter) r.body in
    record { form = let_rec_of f (record { id = r.id; place = r.place; parameter = parameter k r.parameter; body = under k r.parameter (closed B) }); next = B.next }

-- the items of a program, from this made name on
abbrev pub named_items : ℕ → List ItemTree → List ItemTree
named_items k [] = []
named_items k (i ∷ is) = let I = named_item k i.form in record { place = i.place; form = I.form } ∷ named_items I.next is
