-- Expressions: a case for each line of the grammar, and one for all lines of a shape, as those of binary operators. Each node takes the number
-- of those that were made before it, its parts first, and stands at its first token, parentheses around it among the tokens.
use Rattle.std.specs.Prelude.{◌≡◌, ◌<◌, ◌≤◌, ℕ, suc, pos, neg_ℤ, true, false, List, [], ◌∷◌, ◌++◌}
use Rattle.lq_base_names.specs.NameTable.{cons_name}
use Rattle.lq_base_names.specs.declared.limits.TheConstants.{LITERAL_LIMIT}
use Rattle.lq_base_names.specs.declared.operation.ArithOp.TheVariants as op
use Rattle.lq_base_names.specs.declared.operation.CompareOp.TheVariants as order
use Rattle.lq_base_names.specs.declared.place.Place.{Place}
use Rattle.lq_text_grammar.specs.declared.kind.Kind.{Kind}
use Rattle.lq_text_grammar.specs.declared.kind.Kind.TheVariants as kind
use Rattle.lq_text_grammar.specs.Grammar.{begin_expression, begin_operand}
use Rattle.lq_text_tree.specs.declared.expr.Arguments.TheVariants.{Apart}
use Rattle.lq_text_tree.specs.Pattern.{Pattern, pattern, any, bind, nothing, tuple_of}
use Rattle.lq_text_tree.specs.PatternView.{patterns_of}
use Rattle.lq_text_tree.specs.Tree.{Tree, tree, Form, whole, flag, unit, use_of, qualified, fun, tuple, build, list_of, let_rec, call, arithmetic, negated, compare, not_of, and_of, or_of, if_else, match_on, chain, fetch, store}
use Rattle.lq_text_tree.specs.TreeView.{Case, Recursive, trees_of, cases_of}
use Rattle.lq_text_actions.specs.Expressions.{arguments, in_parentheses, let_form, assert_form}
use Rattle.lq_text_actions.specs.Patterns.{place_of_pattern}
use Rattle.lq_text_actions.specs.Value.{Commas, bare, absent}
use Rattle.lq_text_parser.specs.Syntax.Patterns as patterns
use Rattle.lq_text_parser.specs.Syntax.Patterns.{ReadsPattern, a_simple, a_parameter, a_pattern}
use Rattle.lq_text_parser.specs.Syntax.Tokens.{Token, kind_of, place_of, place_at, Is, IsName, IsNumber, Stops, Maybe}

-- Where an operand stands: at the beginning of an expression, so that `<-` may stand behind its index, or elsewhere.
pub data Where : Type 0 where
  first : Where
  later : Where

-- what can't stand behind an index that is read
abbrev pub ends_index : Where → List Kind
ends_index first = kind.OpenIndex ∷ kind.LeftArrow ∷ []
ends_index later = kind.OpenIndex ∷ []

-- the lines of operators, the one that binds least first
pub data Level : Type 0 where
  disjunction : Level
  conjunction : Level
  comparison : Level
  cons : Level
  sum : Level
  factor : Level
  negation : Level

-- lines of the shape "left (operator right)?", each with its left and right and the operators
pub data Binary : Level → Level → Level → List Kind → Type 0 where
  -- or ::= and ("||" or)?
  an_or : Binary disjunction conjunction disjunction (kind.DoubleBar ∷ [])
  -- and ::= comparison ("&&" and)?
  an_and : Binary conjunction comparison conjunction (kind.DoubleAmpersand ∷ [])
  -- comparison ::= cons (("=" | "<>" | "<" | "<=" | ">" | ">=") cons)?
  a_comparison : Binary comparison cons cons (kind.Equal ∷ kind.NotEqual ∷ kind.Less ∷ kind.LessEqual ∷ kind.Greater ∷ kind.GreaterEqual ∷ [])
  -- cons ::= sum ("::" cons)?
  a_cons : Binary cons sum cons (kind.DoubleColon ∷ [])

-- lines of the shape "member (operator member)*"
pub data Chain : Level → Level → List Kind → Type 0 where
  -- sum ::= factor (("+" | "-") factor)*
  a_sum : Chain sum factor (kind.Plus ∷ kind.Minus ∷ [])
  -- factor ::= negation (("*" | "/" | "mod") negation)*
  a_factor : Chain factor negation (kind.Star ∷ kind.Slash ∷ kind.Mod ∷ [])

-- what an operator makes of its sides
pub data Joins : Level → Kind → (Tree → Tree → Form) → Type 0 where
  ors : {k : Kind} → k ≡ kind.DoubleBar → Joins disjunction k or_of
  ands : {k : Kind} → k ≡ kind.DoubleAmpersand → Joins conjunction k and_of
  equals : {k : Kind} → k ≡ kind.Equal → Joins comparison k (compare order.Eq)
  differs : {k : Kind} → k ≡ kind.NotEqual → Joins comparison k (compare order.Ne)
  less : {k : Kind} → k ≡ kind.Less → Joins comparison k (compare order.Lt)
  at_most : {k : Kind} → k ≡ kind.LessEqual → Joins comparison k (compare order.Le)
  greater : {k : Kind} → k ≡ kind.Greater → Joins comparison k (compare order.Gt)
  at_least : {k : Kind} → k ≡ kind.GreaterEqual → Joins comparison k (compare order.Ge)
  conses : {k : Kind} → k ≡ kind.DoubleColon → Joins cons k (λ a b. build cons_name Apart (trees_of (a ∷ b ∷ [])))
  adds : {k : Kind} → k ≡ kind.Plus → Joins sum k (arithmetic op.Add)
  subtracts : {k : Kind} → k ≡ kind.Minus → Joins sum k (arithmetic op.Sub)
  multiplies : {k : Kind} → k ≡ kind.Star → Joins factor k (arithmetic op.Mul)
  divides : {k : Kind} → k ≡ kind.Slash → Joins factor k (arithmetic op.Div)
  leaves_rest : {k : Kind} → k ≡ kind.Mod → Joins factor k (arithmetic op.Mod)

-- The first operand is no constructor alone, which would take the operand behind it: it doesn't begin with an upper name, or what is behind
-- that belongs to the operand.
pub data IsCallee : List Token → Type 0 where
  other : {ts : List Token} → Stops (kind.UpperName ∷ []) ts → IsCallee ts
  qualified_name : {t u : Token} {us : List Token} → Is kind.Dot u → IsCallee (t ∷ u ∷ us)
  indexed : {t u : Token} {us : List Token} → Is kind.OpenIndex u → IsCallee (t ∷ u ∷ us)

-- The end of a row: a `;` is taken only where what follows it can begin no expression.
pub data RowEnd : List Token → List Token → Type 0 where
  plain : {ts : List Token} → Stops (kind.Semicolon ∷ []) ts → RowEnd ts ts
  semicolon : {t : Token} {ts : List Token} → Is kind.Semicolon t → Stops begin_expression ts → RowEnd (t ∷ ts) ts

-- What is read. Beside a tree stands where its commas are: `C (a, b)` keeps that they stand directly in the parentheses.
pub data Phrase : Type 0 where
  a_seq : Tree → Commas → Phrase
  -- further expressions of a row: those before, and all
  row : List Tree → List Tree → Phrase
  an_expression : Tree → Commas → Phrase
  -- param* "=" seq, or param* "->" seq
  a_tail : Kind → Tree → Phrase
  -- what stands behind the `let` of an item, and behind that of an expression
  a_definition : Pattern → Tree → Phrase
  a_binding : Pattern → Tree → Phrase
  a_recursive : ℕ → Recursive → Phrase
  arms : List Case → List Case → Phrase
  more_arms : List Case → List Case → Phrase
  -- further members of a tuple
  members : List Tree → List Tree → Phrase
  line : Level → Where → Tree → Commas → Phrase
  -- further members of a chain that begins at a place
  chain_at : Level → Place → Tree → Commas → Tree → Commas → Phrase
  -- what follows a minus at a place
  behind_minus : Place → Tree → Commas → Phrase
  an_application : Where → Tree → Commas → Phrase
  arguments_of : Place → Tree → Commas → Tree → Commas → Phrase
  an_operand : Where → Tree → Commas → Phrase
  -- what follows an atom, and further indexes: an array and an index
  behind_atom : Where → Place → Tree → Commas → Tree → Commas → Phrase
  indexes : Place → Tree → Tree → Tree → Tree → Phrase
  an_atom : Tree → Commas → Phrase
  -- the items of a list up to the bracket
  items : List Tree → List Tree → Phrase

-- The tokens begin with this where so many nodes were made before; those are left, and so many nodes are made then.
pub data Reads : Phrase → ℕ → List Token → ℕ → List Token → Type 0 where
  -- seq ::= expr (";" expr)* ";"?
  seq_one : {a : Tree} {c : Commas} {n i : ℕ} {ts us vs : List Token}
      → Reads (an_expression a c) n ts i us → RowEnd us vs
      → Reads (a_seq a c) n ts i vs
  seq_more : {a b : Tree} {c d : Commas} {es : List Tree} {t : Token} {n i j k : ℕ} {ts us vs ws : List Token}
      → Reads (an_expression a c) n ts i (t ∷ us) → Is kind.Semicolon t → Reads (an_expression b d) i us j vs
      → Reads (row (a ∷ b ∷ []) es) j vs k ws
      → Reads (a_seq (tree k (place_at ts) (chain (trees_of es))) absent) n ts (suc k) ws
  row_end : {es : List Tree} {n : ℕ} {ts us : List Token} → RowEnd ts us → Reads (row es es) n ts n us
  row_more : {es fs : List Tree} {b : Tree} {c : Commas} {t : Token} {n i j : ℕ} {us vs ws : List Token}
      → Is kind.Semicolon t → Reads (an_expression b c) n us i vs → Reads (row (es ++ b ∷ []) fs) i vs j ws
      → Reads (row es fs) n (t ∷ us) j ws
  -- expr ::= "let" (name param* | "_" | "(" ")" | tuple_pattern) "=" seq "in" seq
  expression_let : {p : Pattern} {a b : Tree} {c : Commas} {t u : Token} {n i j : ℕ} {us vs ws : List Token}
      → Is kind.Let t → Reads (a_binding p a) n us i (u ∷ vs) → Is kind.In u → Reads (a_seq b c) i vs j ws
      → Reads (an_expression (tree j (place_of t) (let_form p a b)) absent) n (t ∷ us) (suc j) ws
  --        | "let" "rec" recursive "in" seq
  expression_rec : {f : ℕ} {r : Recursive} {b : Tree} {c : Commas} {t u v : Token} {n i j : ℕ} {us vs ws : List Token}
      → Is kind.Let t → Is kind.Rec u → Reads (a_recursive f r) n us i (v ∷ vs) → Is kind.In v → Reads (a_seq b c) i vs j ws
      → Reads (an_expression (tree j (place_of t) (let_rec f r.id r.place r.parameter r.body b)) absent) n (t ∷ u ∷ us) (suc j) ws
  --        | "fun" param param* "->" seq
  expression_fun : {p : Pattern} {b : Tree} {t : Token} {n i : ℕ} {us vs ws : List Token}
      → Is kind.Fun t → ReadsPattern (a_parameter p) us vs → Reads (a_tail kind.Arrow b) n vs i ws
      → Reads (an_expression (tree i (place_of t) (fun p b)) absent) n (t ∷ us) (suc i) ws
  --        | "match" seq "with" "|"? arm ("|" arm)*
  expression_match : {e : Tree} {c : Commas} {rs : List Case} {t u : Token} {n i j : ℕ} {us vs ws xs : List Token}
      → Is kind.Match t → Reads (a_seq e c) n us i (u ∷ vs) → Is kind.With u → Maybe kind.Bar vs ws → Reads (arms [] rs) i ws j xs
      → Reads (an_expression (tree j (place_of t) (match_on e (cases_of rs))) absent) n (t ∷ us) (suc j) xs
  --        | "if" expr "then" expr ("else" expr)?
  expression_if : {e a b : Tree} {c d g : Commas} {t u v : Token} {n i j k : ℕ} {us vs ws xs : List Token}
      → Is kind.If t → Reads (an_expression e c) n us i (u ∷ vs) → Is kind.Then u → Reads (an_expression a d) i vs j (v ∷ ws)
      → Is kind.Else v → Reads (an_expression b g) j ws k xs
      → Reads (an_expression (tree k (place_of t) (if_else e a b)) absent) n (t ∷ us) (suc k) xs
  expression_when : {e a : Tree} {c d : Commas} {t u : Token} {n i j : ℕ} {us vs ws : List Token}
      → Is kind.If t → Reads (an_expression e c) n us i (u ∷ vs) → Is kind.Then u → Reads (an_expression a d) i vs j ws
      → Stops (kind.Else ∷ []) ws
      → Reads (an_expression (tree (suc j) (place_of t) (if_else e a (tree j (place_of t) unit))) absent) n (t ∷ us) (suc (suc j)) ws
  --        | tuple ("<-" expr)?
  -- The left of `<-` is an operand that ends with an index.
  expression_store : {a x b y e : Tree} {c d g : Commas} {t u v : Token} {n i j k m : ℕ} {ts us vs ws xs : List Token}
      → Reads (an_atom a c) n ts i (t ∷ us) → Is kind.OpenIndex t → Reads (a_seq x d) i us j (u ∷ vs) → Is kind.Close u
      → Reads (indexes (place_at ts) a x b y) j vs k (v ∷ ws) → Is kind.LeftArrow v → Reads (an_expression e g) k ws m xs
      → Reads (an_expression (tree m (place_at ts) (store b y e)) absent) n ts (suc m) xs
  -- tuple ::= or ("," or)*
  expression_one : {a : Tree} {c : Commas} {n i : ℕ} {ts us : List Token}
      → Reads (line disjunction first a c) n ts i us → Stops (kind.Comma ∷ []) us
      → Reads (an_expression a c) n ts i us
  expression_tuple : {a b : Tree} {c d : Commas} {es : List Tree} {t : Token} {n i j k : ℕ} {ts us vs ws : List Token}
      → Reads (line disjunction first a c) n ts i (t ∷ us) → Is kind.Comma t → Reads (line disjunction later b d) i us j vs
      → Reads (members (a ∷ b ∷ []) es) j vs k ws
      → Reads (an_expression (tree k (place_at ts) (tuple (trees_of es))) bare) n ts (suc k) ws
  members_end : {es : List Tree} {n : ℕ} {ts : List Token} → Stops (kind.Comma ∷ []) ts → Reads (members es es) n ts n ts
  members_more : {es fs : List Tree} {b : Tree} {c : Commas} {t : Token} {n i j : ℕ} {us vs ws : List Token}
      → Is kind.Comma t → Reads (line disjunction later b c) n us i vs → Reads (members (es ++ b ∷ []) fs) i vs j ws
      → Reads (members es fs) n (t ∷ us) j ws
  -- param* "=" seq, and with "->" in place of "=": each function but the first of a `fun` stands at its parameter
  tail_end : {k : Kind} {b : Tree} {c : Commas} {t : Token} {n i : ℕ} {us vs : List Token}
      → Is k t → Reads (a_seq b c) n us i vs
      → Reads (a_tail k b) n (t ∷ us) i vs
  tail_more : {k : Kind} {p : Pattern} {b : Tree} {n i : ℕ} {ts us vs : List Token}
      → ReadsPattern (a_parameter p) ts us → Reads (a_tail k b) n us i vs
      → Reads (a_tail k (tree i (place_of_pattern p) (fun p b))) n ts (suc i) vs
  -- (name param* | "_" | "(" ")") "=" seq
  definition_name : {x : ℕ} {b : Tree} {t : Token} {n i : ℕ} {us vs : List Token}
      → IsName kind.LowerName x t → Reads (a_tail kind.Equal b) n us i vs
      → Reads (a_definition (pattern (place_of t) (bind x)) b) n (t ∷ us) i vs
  definition_any : {b : Tree} {c : Commas} {t u : Token} {n i : ℕ} {us vs : List Token}
      → Is kind.Underscore t → Is kind.Equal u → Reads (a_seq b c) n us i vs
      → Reads (a_definition (pattern (place_of t) any) b) n (t ∷ u ∷ us) i vs
  definition_unit : {b : Tree} {c : Commas} {t u v : Token} {n i : ℕ} {us vs : List Token}
      → Is kind.Open t → Is kind.Close u → Is kind.Equal v → Reads (a_seq b c) n us i vs
      → Reads (a_definition (pattern (place_of t) nothing) b) n (t ∷ u ∷ v ∷ us) i vs
  binding_plain : {p : Pattern} {b : Tree} {n i : ℕ} {ts us : List Token}
      → Reads (a_definition p b) n ts i us → Reads (a_binding p b) n ts i us
  -- tuple_pattern "=" seq
  binding_tuple : {p q : Pattern} {ps : List Pattern} {b : Tree} {c : Commas} {t u : Token} {n i : ℕ} {ts us vs ws xs : List Token}
      → ReadsPattern (a_simple p) ts (t ∷ us) → Is kind.Comma t → ReadsPattern (a_simple q) us vs
      → ReadsPattern (patterns.members (p ∷ q ∷ []) ps) vs (u ∷ ws) → Is kind.Equal u → Reads (a_seq b c) n ws i xs
      → Reads (a_binding (pattern (place_of_pattern p) (tuple_of (patterns_of ps))) b) n ts i xs
  binding_inside : {p q : Pattern} {ps : List Pattern} {b : Tree} {c : Commas} {t u v : Token} {n i : ℕ} {us vs ws xs ys : List Token}
      → Is kind.Open t → ReadsPattern (a_simple p) us (u ∷ vs) → Is kind.Comma u → ReadsPattern (a_simple q) vs ws
      → ReadsPattern (patterns.inside (p ∷ q ∷ []) ps) ws (v ∷ xs) → Is kind.Equal v → Reads (a_seq b c) n xs i ys
      → Reads (a_binding (pattern (place_of_pattern p) (tuple_of (patterns_of ps))) b) n (t ∷ us) i ys
  -- recursive ::= name param param* "=" seq | name "=" "fun" param param* "->" seq
  -- The function takes a number as a node does.
  recursive_name : {f : ℕ} {p : Pattern} {b : Tree} {t : Token} {n i : ℕ} {us vs ws : List Token}
      → IsName kind.LowerName f t → ReadsPattern (a_parameter p) us vs → Reads (a_tail kind.Equal b) n vs i ws
      → Reads (a_recursive f (record { id = i; place = place_of_pattern p; parameter = p; body = b })) n (t ∷ us) (suc i) ws
  recursive_fun : {f : ℕ} {p : Pattern} {b : Tree} {t u v : Token} {n i : ℕ} {us vs ws : List Token}
      → IsName kind.LowerName f t → Is kind.Equal u → Is kind.Fun v → ReadsPattern (a_parameter p) us vs → Reads (a_tail kind.Arrow b) n vs i ws
      → Reads (a_recursive f (record { id = i; place = place_of v; parameter = p; body = b })) n (t ∷ u ∷ v ∷ us) (suc i) ws
  -- arm ::= pattern "->" seq
  arms_one : {rs bs : List Case} {p : Pattern} {b : Tree} {c : Commas} {t : Token} {n i j : ℕ} {ts us vs ws : List Token}
      → ReadsPattern (a_pattern p) ts (t ∷ us) → Is kind.Arrow t → Reads (a_seq b c) n us i vs
      → Reads (more_arms (rs ++ (record { pattern = p; body = b }) ∷ []) bs) i vs j ws
      → Reads (arms rs bs) n ts j ws
  arms_end : {rs : List Case} {n : ℕ} {ts : List Token} → Stops (kind.Bar ∷ []) ts → Reads (more_arms rs rs) n ts n ts
  arms_more : {rs bs : List Case} {t : Token} {n i : ℕ} {us vs : List Token}
      → Is kind.Bar t → Reads (arms rs bs) n us i vs → Reads (more_arms rs bs) n (t ∷ us) i vs
  -- or, and, comparison, cons
  binary_one : {l m r : Level} {ks : List Kind} {w : Where} {a : Tree} {c : Commas} {n i : ℕ} {ts us : List Token}
      → Binary l m r ks → Reads (line m w a c) n ts i us → Stops ks us
      → Reads (line l w a c) n ts i us
  binary_two : {l m r : Level} {ks : List Kind} {f : Tree → Tree → Form} {w : Where} {a b : Tree} {c d : Commas} {t : Token} {n i j : ℕ} {ts us vs : List Token}
      → Binary l m r ks → Reads (line m w a c) n ts i (t ∷ us) → Joins l (kind_of t) f → Reads (line r later b d) i us j vs
      → Reads (line l w (tree j (place_at ts) (f a b)) absent) n ts (suc j) vs
  -- sum, factor
  chain_of : {l m : Level} {ks : List Kind} {w : Where} {a b : Tree} {c d : Commas} {n i j : ℕ} {ts us vs : List Token}
      → Chain l m ks → Reads (line m w a c) n ts i us → Reads (chain_at l (place_at ts) a c b d) i us j vs
      → Reads (line l w b d) n ts j vs
  chain_end : {l m : Level} {ks : List Kind} {p : Place} {a : Tree} {c : Commas} {n : ℕ} {ts : List Token}
      → Chain l m ks → Stops ks ts → Reads (chain_at l p a c a c) n ts n ts
  chain_more : {l m : Level} {ks : List Kind} {f : Tree → Tree → Form} {p : Place} {a b e : Tree} {c d g : Commas} {t : Token} {n i j : ℕ} {us vs ws : List Token}
      → Chain l m ks → Joins l (kind_of t) f → Reads (line m later b d) n us i vs
      → Reads (chain_at l p (tree i p (f a b)) absent e g) (suc i) vs j ws
      → Reads (chain_at l p a c e g) n (t ∷ us) j ws
  -- negation ::= "-" negation | application
  -- A number behind a minus makes a literal with it, to which indexes and arguments may follow; only there it may be the limit.
  negation_application : {w : Where} {a : Tree} {c : Commas} {n i : ℕ} {ts us : List Token}
      → Reads (an_application w a c) n ts i us → Reads (line negation w a c) n ts i us
  negation_minus : {w : Where} {a : Tree} {c : Commas} {t : Token} {n i : ℕ} {us vs : List Token}
      → Is kind.Minus t → Reads (behind_minus (place_of t) a c) n us i vs → Reads (line negation w a c) n (t ∷ us) i vs
  minus_of : {p : Place} {a : Tree} {c : Commas} {n i : ℕ} {ts us : List Token}
      → Stops (kind.Number ∷ kind.LimitNumber ∷ []) ts → Reads (line negation later a c) n ts i us
      → Reads (behind_minus p (tree i p (negated a)) absent) n ts (suc i) us
  minus_number : {p : Place} {v : ℕ} {a b : Tree} {c d : Commas} {t : Token} {n i j : ℕ} {us vs ws : List Token}
      → IsNumber kind.Number v t → v ≤ LITERAL_LIMIT
      → Reads (behind_atom later p (tree n p (whole (neg_ℤ (pos v)))) absent a c) (suc n) us i vs → Reads (arguments_of p a c b d) i vs j ws
      → Reads (behind_minus p b d) n (t ∷ us) j ws
  minus_limit : {p : Place} {v : ℕ} {a b : Tree} {c d : Commas} {t : Token} {n i j : ℕ} {us vs ws : List Token}
      → IsNumber kind.LimitNumber v t → v ≤ LITERAL_LIMIT
      → Reads (behind_atom later p (tree n p (whole (neg_ℤ (pos v)))) absent a c) (suc n) us i vs → Reads (arguments_of p a c b d) i vs j ws
      → Reads (behind_minus p b d) n (t ∷ us) j ws
  -- application ::= "assert" operand | "not" operand | Name operand? | operand operand*
  application_assert : {w : Where} {a : Tree} {c : Commas} {t : Token} {n i : ℕ} {us vs : List Token}
      → Is kind.Assert t → Reads (an_operand later a c) n us i vs
      → Reads (an_application w (tree i (place_of t) (assert_form a)) absent) n (t ∷ us) (suc i) vs
  application_not : {w : Where} {a : Tree} {c : Commas} {t : Token} {n i : ℕ} {us vs : List Token}
      → Is kind.Not t → Reads (an_operand later a c) n us i vs
      → Reads (an_application w (tree i (place_of t) (not_of a)) absent) n (t ∷ us) (suc i) vs
  application_build : {w : Where} {x : ℕ} {a : Tree} {c : Commas} {t : Token} {n i : ℕ} {us vs : List Token}
      → IsName kind.UpperName x t → Reads (an_operand later a c) n us i vs
      → Reads (an_application w (tree i (place_of t) (build x (arguments c) (trees_of (a ∷ [])))) absent) n (t ∷ us) (suc i) vs
  application_constant : {w : Where} {x : ℕ} {t : Token} {n : ℕ} {us : List Token}
      → IsName kind.UpperName x t → Stops (kind.Dot ∷ kind.OpenIndex ∷ begin_operand) us
      → Reads (an_application w (tree n (place_of t) (build x Apart (trees_of []))) absent) n (t ∷ us) (suc n) us
  application_call : {w : Where} {a b : Tree} {c d : Commas} {n i j : ℕ} {ts us vs : List Token}
      → IsCallee ts → Reads (an_operand w a c) n ts i us → Reads (arguments_of (place_at ts) a c b d) i us j vs
      → Reads (an_application w b d) n ts j vs
  arguments_end : {p : Place} {a : Tree} {c : Commas} {n : ℕ} {ts : List Token}
      → Stops begin_operand ts → Reads (arguments_of p a c a c) n ts n ts
  arguments_more : {p : Place} {a b e : Tree} {c d g : Commas} {n i j : ℕ} {ts us vs : List Token}
      → Reads (an_operand later b d) n ts i us → Reads (arguments_of p (tree i p (call a b)) absent e g) (suc i) us j vs
      → Reads (arguments_of p a c e g) n ts j vs
  -- operand ::= atom (".(" seq ")")*
  operand_of : {w : Where} {a b : Tree} {c d : Commas} {n i j : ℕ} {ts us vs : List Token}
      → Reads (an_atom a c) n ts i us → Reads (behind_atom w (place_at ts) a c b d) i us j vs
      → Reads (an_operand w b d) n ts j vs
  atom_alone : {w : Where} {p : Place} {a : Tree} {c : Commas} {n : ℕ} {ts : List Token}
      → Stops (kind.OpenIndex ∷ []) ts → Reads (behind_atom w p a c a c) n ts n ts
  atom_indexed : {w : Where} {p : Place} {a x b y : Tree} {c d : Commas} {t u : Token} {n i j : ℕ} {us vs ws : List Token}
      → Is kind.OpenIndex t → Reads (a_seq x d) n us i (u ∷ vs) → Is kind.Close u
      → Reads (indexes p a x b y) i vs j ws → Stops (ends_index w) ws
      → Reads (behind_atom w p a c (tree j p (fetch b y)) absent) n (t ∷ us) (suc j) ws
  indexes_end : {p : Place} {a x : Tree} {n : ℕ} {ts : List Token}
      → Stops (kind.OpenIndex ∷ []) ts → Reads (indexes p a x a x) n ts n ts
  indexes_more : {p : Place} {a x y b z : Tree} {d : Commas} {t u : Token} {n i j : ℕ} {us vs ws : List Token}
      → Is kind.OpenIndex t → Reads (a_seq y d) (suc n) us i (u ∷ vs) → Is kind.Close u
      → Reads (indexes p (tree n p (fetch a x)) y b z) i vs j ws
      → Reads (indexes p a x b z) n (t ∷ us) j ws
  -- atom ::= number | "true" | "false" | name | Name "." name | Name | "(" ")" | "(" seq ")" | "begin" seq "end"
  --        | "[" (expr (";" expr)* ";"?)? "]"
  atom_number : {v n : ℕ} {t : Token} {us : List Token}
      → IsNumber kind.Number v t → v < LITERAL_LIMIT
      → Reads (an_atom (tree n (place_of t) (whole (pos v))) absent) n (t ∷ us) (suc n) us
  atom_true : {n : ℕ} {t : Token} {us : List Token}
      → Is kind.True t → Reads (an_atom (tree n (place_of t) (flag true)) absent) n (t ∷ us) (suc n) us
  atom_false : {n : ℕ} {t : Token} {us : List Token}
      → Is kind.False t → Reads (an_atom (tree n (place_of t) (flag false)) absent) n (t ∷ us) (suc n) us
  atom_name : {x n : ℕ} {t : Token} {us : List Token}
      → IsName kind.LowerName x t → Reads (an_atom (tree n (place_of t) (use_of x)) absent) n (t ∷ us) (suc n) us
  atom_qualified : {m x n : ℕ} {t u v : Token} {us : List Token}
      → IsName kind.UpperName m t → Is kind.Dot u → IsName kind.LowerName x v
      → Reads (an_atom (tree n (place_of t) (qualified m x)) absent) n (t ∷ u ∷ v ∷ us) (suc n) us
  atom_constant : {x n : ℕ} {t : Token} {us : List Token}
      → IsName kind.UpperName x t → Stops (kind.Dot ∷ []) us
      → Reads (an_atom (tree n (place_of t) (build x Apart (trees_of []))) absent) n (t ∷ us) (suc n) us
  atom_unit : {n : ℕ} {t u : Token} {us : List Token}
      → Is kind.Open t → Is kind.Close u → Reads (an_atom (tree n (place_of t) unit) absent) n (t ∷ u ∷ us) (suc n) us
  atom_inside : {a : Tree} {c : Commas} {t u : Token} {n i : ℕ} {us vs : List Token}
      → Is kind.Open t → Reads (a_seq a c) n us i (u ∷ vs) → Is kind.Close u
      → Reads (an_atom a (in_parentheses c)) n (t ∷ us) i vs
  atom_block : {a : Tree} {c : Commas} {t u : Token} {n i : ℕ} {us vs : List Token}
      → Is kind.Begin t → Reads (a_seq a c) n us i (u ∷ vs) → Is kind.End u
      → Reads (an_atom a absent) n (t ∷ us) i vs
  atom_list : {es : List Tree} {t : Token} {n i : ℕ} {us vs : List Token}
      → Is kind.OpenBracket t → Reads (items [] es) n us i vs
      → Reads (an_atom (tree i (place_of t) (list_of (trees_of es))) absent) n (t ∷ us) (suc i) vs
  items_end : {es : List Tree} {n : ℕ} {t : Token} {us : List Token}
      → Is kind.CloseBracket t → Reads (items es es) n (t ∷ us) n us
  items_last : {es : List Tree} {a : Tree} {c : Commas} {t : Token} {n i : ℕ} {ts us : List Token}
      → Reads (an_expression a c) n ts i (t ∷ us) → Is kind.CloseBracket t
      → Reads (items es (es ++ a ∷ [])) n ts i us
  items_more : {es fs : List Tree} {a : Tree} {c : Commas} {t : Token} {n i j : ℕ} {ts us vs : List Token}
      → Reads (an_expression a c) n ts i (t ∷ us) → Is kind.Semicolon t → Reads (items (es ++ a ∷ []) fs) i us j vs
      → Reads (items es fs) n ts j vs
