-- Predicates, qualifiers and measures: a case for each line of the grammar, and one for all lines of a shape.
use Rattle.std.specs.Prelude.{◌≡◌, ◌<◌, ◌≤◌, ℕ, pos, neg_ℤ, true, false, List, [], ◌∷◌, ◌++◌}
use Rattle.lq_base_names.specs.declared.limits.TheConstants.{LITERAL_LIMIT}
use Rattle.lq_base_names.specs.declared.operation.ArithOp.TheVariants as op
use Rattle.lq_base_names.specs.declared.operation.CompareOp.TheVariants as order
use Rattle.lq_base_names.specs.declared.place.Place.{Place}
use Rattle.lq_text_grammar.specs.declared.kind.Kind.{Kind}
use Rattle.lq_text_grammar.specs.declared.kind.Kind.TheVariants as kind
use Rattle.lq_text_grammar.specs.Grammar.{begin_argument}
use Rattle.lq_text_tree.specs.MeasureTrees.{EquationTree, MeasureTree}
use Rattle.lq_text_tree.specs.Pattern.{Pattern}
use Rattle.lq_text_tree.specs.PredTree.{PredTree, pred_tree, PredForm, flag, whole, use_of, placeholder, applied, qualified, arithmetic, negated, compare, not_of, and_of, or_of, iff}
use Rattle.lq_text_tree.specs.Qualifiers.{QualifierTree}
use Rattle.lq_text_parser.specs.Syntax.Patterns.{ReadsPattern, a_pattern}
use Rattle.lq_text_parser.specs.Syntax.Tokens.{Token, kind_of, place_of, place_at, Is, IsName, IsNumber, Stops, Maybe}

-- the lines of operators, the one that binds least first
pub data Level : Type 0 where
  equivalence : Level
  disjunction : Level
  conjunction : Level
  comparison : Level
  term : Level
  factor : Level

-- lines of the shape "part (operator part)?"
pub data Binary : Level → Level → List Kind → Type 0 where
  -- pred ::= por ("<=>" por)?
  an_iff : Binary equivalence disjunction (kind.Equivalence ∷ [])
  -- the second half of pnot: term (("=" | "<>" | "<" | "<=" | ">" | ">=") term)?
  a_comparison : Binary comparison term (kind.Equal ∷ kind.NotEqual ∷ kind.Less ∷ kind.LessEqual ∷ kind.Greater ∷ kind.GreaterEqual ∷ [])

-- what the members of a chain are: parts of a line of operators, or what has a `not` or a minus in front
pub data Member : Type 0 where
  a_line : Level → Member
  -- pnot ::= "not" pnot | comparison
  a_negation : Member
  -- tnegation ::= "-" tnegation | tatom
  an_opposite : Member

-- lines of the shape "member (operator member)*"
pub data Chain : Level → Member → List Kind → Type 0 where
  -- por ::= pand ("||" pand)*
  an_or : Chain disjunction (a_line conjunction) (kind.DoubleBar ∷ [])
  -- pand ::= pnot ("&&" pnot)*
  an_and : Chain conjunction a_negation (kind.DoubleAmpersand ∷ [])
  -- term ::= tfactor (("+" | "-") tfactor)*
  a_sum : Chain term (a_line factor) (kind.Plus ∷ kind.Minus ∷ [])
  -- tfactor ::= tnegation (("*" | "/" | "mod") tnegation)*
  a_product : Chain factor an_opposite (kind.Star ∷ kind.Slash ∷ kind.Mod ∷ [])

-- what an operator makes of its sides
pub data Joins : Level → Kind → (PredTree → PredTree → PredForm) → Type 0 where
  iffs : {k : Kind} → k ≡ kind.Equivalence → Joins equivalence k iff
  ors : {k : Kind} → k ≡ kind.DoubleBar → Joins disjunction k or_of
  ands : {k : Kind} → k ≡ kind.DoubleAmpersand → Joins conjunction k and_of
  equals : {k : Kind} → k ≡ kind.Equal → Joins comparison k (compare order.Eq)
  differs : {k : Kind} → k ≡ kind.NotEqual → Joins comparison k (compare order.Ne)
  less : {k : Kind} → k ≡ kind.Less → Joins comparison k (compare order.Lt)
  at_most : {k : Kind} → k ≡ kind.LessEqual → Joins comparison k (compare order.Le)
  greater : {k : Kind} → k ≡ kind.Greater → Joins comparison k (compare order.Gt)
  at_least : {k : Kind} → k ≡ kind.GreaterEqual → Joins comparison k (compare order.Ge)
  adds : {k : Kind} → k ≡ kind.Plus → Joins term k (arithmetic op.Add)
  subtracts : {k : Kind} → k ≡ kind.Minus → Joins term k (arithmetic op.Sub)
  multiplies : {k : Kind} → k ≡ kind.Star → Joins factor k (arithmetic op.Mul)
  divides : {k : Kind} → k ≡ kind.Slash → Joins factor k (arithmetic op.Div)
  leaves_rest : {k : Kind} → k ≡ kind.Mod → Joins factor k (arithmetic op.Mod)

pub data PredPhrase : Type 0 where
  line : Level → PredTree → PredPhrase
  member : Member → PredTree → PredPhrase
  -- further members of a chain that begins at a place
  chain_at : Level → Place → PredTree → PredTree → PredPhrase
  -- what follows a minus at a place
  behind_minus : Place → PredTree → PredPhrase
  an_atom : PredTree → PredPhrase

-- The tokens begin with this, and those are left.
pub data ReadsPred : PredPhrase → List Token → List Token → Type 0 where
  binary_one : {l m : Level} {ks : List Kind} {a : PredTree} {ts us : List Token}
      → Binary l m ks → ReadsPred (line m a) ts us → Stops ks us → ReadsPred (line l a) ts us
  binary_two : {l m : Level} {ks : List Kind} {f : PredTree → PredTree → PredForm} {a b : PredTree} {t : Token} {ts us vs : List Token}
      → Binary l m ks → ReadsPred (line m a) ts (t ∷ us) → Joins l (kind_of t) f → ReadsPred (line m b) us vs
      → ReadsPred (line l (pred_tree (place_at ts) (f a b))) ts vs
  chain_of : {l : Level} {m : Member} {ks : List Kind} {a b : PredTree} {ts us vs : List Token}
      → Chain l m ks → ReadsPred (member m a) ts us → ReadsPred (chain_at l (place_at ts) a b) us vs → ReadsPred (line l b) ts vs
  chain_end : {l : Level} {m : Member} {ks : List Kind} {p : Place} {a : PredTree} {ts : List Token}
      → Chain l m ks → Stops ks ts → ReadsPred (chain_at l p a a) ts ts
  chain_more : {l : Level} {m : Member} {ks : List Kind} {f : PredTree → PredTree → PredForm} {p : Place} {a b c : PredTree} {t : Token} {us vs ws : List Token}
      → Chain l m ks → Joins l (kind_of t) f → ReadsPred (member m b) us vs → ReadsPred (chain_at l p (pred_tree p (f a b)) c) vs ws
      → ReadsPred (chain_at l p a c) (t ∷ us) ws
  member_line : {l : Level} {a : PredTree} {ts us : List Token} → ReadsPred (line l a) ts us → ReadsPred (member (a_line l) a) ts us
  -- pnot ::= "not" pnot | comparison
  negation_plain : {a : PredTree} {ts us : List Token} → ReadsPred (line comparison a) ts us → ReadsPred (member a_negation a) ts us
  negation_not : {a : PredTree} {t : Token} {us vs : List Token}
      → Is kind.Not t → ReadsPred (member a_negation a) us vs
      → ReadsPred (member a_negation (pred_tree (place_of t) (not_of a))) (t ∷ us) vs
  -- tnegation ::= "-" tnegation | tatom
  -- A number behind a minus makes a literal with it; only there it may be the limit.
  opposite_atom : {a : PredTree} {ts us : List Token} → ReadsPred (an_atom a) ts us → ReadsPred (member an_opposite a) ts us
  opposite_minus : {a : PredTree} {t : Token} {us vs : List Token}
      → Is kind.Minus t → ReadsPred (behind_minus (place_of t) a) us vs → ReadsPred (member an_opposite a) (t ∷ us) vs
  minus_of : {p : Place} {a : PredTree} {ts us : List Token}
      → Stops (kind.Number ∷ kind.LimitNumber ∷ []) ts → ReadsPred (member an_opposite a) ts us
      → ReadsPred (behind_minus p (pred_tree p (negated a))) ts us
  minus_number : {p : Place} {v : ℕ} {t : Token} {us : List Token}
      → IsNumber kind.Number v t → v ≤ LITERAL_LIMIT → ReadsPred (behind_minus p (pred_tree p (whole (neg_ℤ (pos v))))) (t ∷ us) us
  minus_limit : {p : Place} {v : ℕ} {t : Token} {us : List Token}
      → IsNumber kind.LimitNumber v t → v ≤ LITERAL_LIMIT → ReadsPred (behind_minus p (pred_tree p (whole (neg_ℤ (pos v))))) (t ∷ us) us
  -- tatom ::= number | "true" | "false" | name tatom? | Name | Name "." name tatom | "(" pred ")"
  atom_number : {v : ℕ} {t : Token} {us : List Token}
      → IsNumber kind.Number v t → v < LITERAL_LIMIT → ReadsPred (an_atom (pred_tree (place_of t) (whole (pos v)))) (t ∷ us) us
  atom_true : {t : Token} {us : List Token} → Is kind.True t → ReadsPred (an_atom (pred_tree (place_of t) (flag true))) (t ∷ us) us
  atom_false : {t : Token} {us : List Token} → Is kind.False t → ReadsPred (an_atom (pred_tree (place_of t) (flag false))) (t ∷ us) us
  atom_name : {x : ℕ} {t : Token} {us : List Token}
      → IsName kind.LowerName x t → Stops begin_argument us → ReadsPred (an_atom (pred_tree (place_of t) (use_of x))) (t ∷ us) us
  atom_applied : {x : ℕ} {a : PredTree} {t : Token} {us vs : List Token}
      → IsName kind.LowerName x t → ReadsPred (an_atom a) us vs
      → ReadsPred (an_atom (pred_tree (place_of t) (applied x a))) (t ∷ us) vs
  atom_placeholder : {x : ℕ} {t : Token} {us : List Token}
      → IsName kind.UpperName x t → Stops (kind.Dot ∷ []) us
      → ReadsPred (an_atom (pred_tree (place_of t) (placeholder x))) (t ∷ us) us
  atom_qualified : {m x : ℕ} {a : PredTree} {t u v : Token} {us vs : List Token}
      → IsName kind.UpperName m t → Is kind.Dot u → IsName kind.LowerName x v → ReadsPred (an_atom a) us vs
      → ReadsPred (an_atom (pred_tree (place_of t) (qualified m x a))) (t ∷ u ∷ v ∷ us) vs
  atom_inside : {a : PredTree} {t u : Token} {us vs : List Token}
      → Is kind.Open t → ReadsPred (line equivalence a) us (u ∷ vs) → Is kind.Close u
      → ReadsPred (an_atom a) (t ∷ us) vs

-- the name of a qualifier
pub data IsAnyName (x : ℕ) (t : Token) : Type 0 where
  a_lower : IsName kind.LowerName x t → IsAnyName x t
  an_upper : IsName kind.UpperName x t → IsAnyName x t

-- qualifiers ::= ("qualif" (name | Name) "(" name ":" name ")" ":" pred)*
-- The qualifiers before, and all.
pub data ReadsQualifiers : List QualifierTree → List QualifierTree → List Token → List Token → Type 0 where
  qualifiers_end : {qs : List QualifierTree} {ts : List Token} → Stops (kind.Qualif ∷ []) ts → ReadsQualifiers qs qs ts ts
  qualifiers_more : {x v s : ℕ} {e : PredTree} {qs rs : List QualifierTree} {t1 t2 t3 t4 t5 t6 t7 t8 : Token} {us vs ws : List Token}
      → Is kind.Qualif t1 → IsAnyName x t2 → Is kind.Open t3 → IsName kind.LowerName v t4 → Is kind.Colon t5
      → IsName kind.LowerName s t6 → Is kind.Close t7 → Is kind.Colon t8 → ReadsPred (line equivalence e) us vs
      → ReadsQualifiers (qs ++ (record { place = place_of t1; name = x; value = v; shape = s; shape_place = place_of t6; predicate = e }) ∷ []) rs vs ws
      → ReadsQualifiers qs rs (t1 ∷ t2 ∷ t3 ∷ t4 ∷ t5 ∷ t6 ∷ t7 ∷ t8 ∷ us) ws

pub data EquationPhrase : Type 0 where
  -- equations: those before, and all
  equations : List EquationTree → List EquationTree → EquationPhrase
  more_equations : List EquationTree → List EquationTree → EquationPhrase

pub data ReadsEquations : EquationPhrase → List Token → List Token → Type 0 where
  -- equation ::= pattern "->" term
  equation : {p : Pattern} {e : PredTree} {es fs : List EquationTree} {t : Token} {ts us vs ws : List Token}
      → ReadsPattern (a_pattern p) ts (t ∷ us) → Is kind.Arrow t → ReadsPred (line term e) us vs
      → ReadsEquations (more_equations (es ++ (record { pattern = p; term = e }) ∷ []) fs) vs ws
      → ReadsEquations (equations es fs) ts ws
  equations_end : {es : List EquationTree} {ts : List Token} → Stops (kind.Bar ∷ []) ts → ReadsEquations (more_equations es es) ts ts
  equations_more : {es fs : List EquationTree} {t : Token} {us vs : List Token}
      → Is kind.Bar t → ReadsEquations (equations es fs) us vs → ReadsEquations (more_equations es fs) (t ∷ us) vs

-- measures ::= ("measure" name ":" name "=" "|"? equation ("|" equation)*)*
-- The measures before, and all.
pub data ReadsMeasures : List MeasureTree → List MeasureTree → List Token → List Token → Type 0 where
  measures_end : {ms : List MeasureTree} {ts : List Token} → Stops (kind.Measure ∷ []) ts → ReadsMeasures ms ms ts ts
  measures_more : {m d : ℕ} {es : List EquationTree} {ms ns : List MeasureTree} {t1 t2 t3 t4 t5 : Token} {us vs ws xs : List Token}
      → Is kind.Measure t1 → IsName kind.LowerName m t2 → Is kind.Colon t3 → IsName kind.LowerName d t4 → Is kind.Equal t5
      → Maybe kind.Bar us vs → ReadsEquations (equations [] es) vs ws
      → ReadsMeasures (ms ++ (record { name = m; place = place_of t2; datatype = d; datatype_place = place_of t4; equations = es }) ∷ []) ns ws xs
      → ReadsMeasures ms ns (t1 ∷ t2 ∷ t3 ∷ t4 ∷ t5 ∷ us) xs
