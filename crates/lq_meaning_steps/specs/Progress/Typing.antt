-- When an expression, and a value, has a type. Arrays have the types of their elements in a table, by their numbers in the store.
use Rattle.std.specs.Prelude.{◌≡◌, ℕ, List, [], ◌∷◌, ◌++◌, slice_get, Some}
use Rattle.lq_text_tree.specs.MlType as ml
use Rattle.lq_text_tree.specs.MlType.{MlType, MlTypes}
use Rattle.lq_meaning_steps.specs.Model.Core.{Pattern, any, bind, nothing, tuple_of, build_of, Patterns, no_patterns, more_patterns, Parameter, ignored, variable, empty, matched, Operation, negate, invert, assert, length_of, print, read, Binary, arithmetic, comparison, make, fetch, Ternary, store, Row, tuple, build, list_of, Core, val, use_of, fun, row, let_in, let_rec, call, one, two, three, and_of, or_of, if_else, match_on, seq, assert_false, Cores, none, more, Arms, no_arms, more_arms, Value, v_whole, v_flag, v_unit, v_fun, v_rec, v_tuple, v_build, v_array, Values, no_values, more_values}
use Rattle.lq_text_tree.specs.Types.{Signature, plain, Names, scheme_in, IsUsedAt, Builds, Lists}

-- the types of the elements of the arrays of the store, in order
abbrev pub Table : Type 0
Table = List MlType

-- an operation takes a value of the one type and gives one of the other
abbrev pub UnaryHas : Operation → MlType → MlType → Type 0
UnaryHas negate a t = (a ≡ ml.int) × (t ≡ ml.int)
UnaryHas invert a t = (a ≡ ml.bool) × (t ≡ ml.bool)
UnaryHas (assert p) a t = (a ≡ ml.bool) × (t ≡ ml.unit)
UnaryHas length_of a t = (c : MlType) × (a ≡ ml.array c) × (t ≡ ml.int)
UnaryHas print a t = (a ≡ ml.int) × (t ≡ ml.unit)
UnaryHas (read p) a t = (a ≡ ml.unit) × (t ≡ ml.int)

-- an operation takes values of the first two types and gives one of the third
abbrev pub BinaryHas : Binary → MlType → MlType → MlType → Type 0
BinaryHas (arithmetic o) a b t = (a ≡ ml.int) × (b ≡ ml.int) × (t ≡ ml.int)
BinaryHas (comparison o) a b t = (a ≡ ml.int) × (b ≡ ml.int) × (t ≡ ml.bool)
BinaryHas (make p) a b t = (a ≡ ml.int) × (t ≡ ml.array b)
BinaryHas (fetch p) a b t = (a ≡ ml.array t) × (b ≡ ml.int)

-- an operation takes values of the first three types and gives one of the fourth
abbrev pub TernaryHas : Ternary → MlType → MlType → MlType → MlType → Type 0
TernaryHas (store p) a b c t = (a ≡ ml.array c) × (b ≡ ml.int) × (t ≡ ml.unit)

-- a row of parts of these types makes a value of the type
abbrev pub RowHas : Signature → Row → MlTypes → MlType → Type 0
RowHas g tuple ts t = t ≡ ml.tuple ts
RowHas g (build c) ts t = Builds g c ts t
RowHas g list_of ts t = Lists ts t

-- a pattern is for values of the type, and gives its variables these types
abbrev mutual
  pub PatternHas : Signature → Pattern → MlType → Names → Type 0
  PatternHas g any t ns = ns ≡ []
  PatternHas g (bind x) t ns = ns ≡ (x, plain t) ∷ []
  PatternHas g nothing t ns = (t ≡ ml.unit) × (ns ≡ [])
  PatternHas g (tuple_of qs) t ns = (ts : MlTypes) × (t ≡ ml.tuple ts) × PatternsHave g qs ts ns
  PatternHas g (build_of c qs) t ns = (ts : MlTypes) × RowHas g (build c) ts t × PatternsHave g qs ts ns

  pub PatternsHave : Signature → Patterns → MlTypes → Names → Type 0
  PatternsHave g no_patterns ts ns = (ts ≡ ml.no_types) × (ns ≡ [])
  PatternsHave g (more_patterns q qs) ts ns =
      (a : MlType) × (as_ : MlTypes) × (ms : Names) × (ls : Names) × (ts ≡ ml.more_types a as_) × (ns ≡ ms ++ ls) × PatternHas g q a ms × PatternsHave g qs as_ ls

-- a parameter is for values of the type, and gives its variables these types
abbrev pub ParameterHas : Signature → Parameter → MlType → Names → Type 0
ParameterHas g ignored t ns = ns ≡ []
ParameterHas g (variable x) t ns = ns ≡ (x, plain t) ∷ []
ParameterHas g empty t ns = (t ≡ ml.unit) × (ns ≡ [])
ParameterHas g (matched p q) t ns = PatternHas g q t ns

-- an expression has a type where names have these schemes
abbrev mutual
  pub Has : Signature → Table → Names → Core → MlType → Type 0
  Has g t ns (val v) a = ValueHas g t v a
  Has g t ns (use_of x) a = IsUsedAt (scheme_in ns x) a
  Has g t ns (fun q b) a = (from : MlType) × (to : MlType) × (ms : Names) × (a ≡ ml.arrow from to) × ParameterHas g q from ms × Has g t (ms ++ ns) b to
  Has g t ns (row r es) a = (parts : MlTypes) × AllHave g t ns es parts × RowHas g r parts a
  Has g t ns (let_in q e b) a = (from : MlType) × (ms : Names) × Has g t ns e from × ParameterHas g q from ms × Has g t (ms ++ ns) b a
  Has g t ns (let_rec f q b e) a =
      (from : MlType) × (to : MlType) × (ms : Names) × ParameterHas g q from ms × Has g t (ms ++ (f, plain (ml.arrow from to)) ∷ ns) b to
      × Has g t ((f, plain (ml.arrow from to)) ∷ ns) e a
  Has g t ns (call f e) a = (from : MlType) × Has g t ns f (ml.arrow from a) × Has g t ns e from
  Has g t ns (one o e) a = (from : MlType) × Has g t ns e from × UnaryHas o from a
  Has g t ns (two o d e) a = (left : MlType) × (right : MlType) × Has g t ns d left × Has g t ns e right × BinaryHas o left right a
  Has g t ns (three o c d e) a =
      (first : MlType) × (second : MlType) × (third : MlType) × Has g t ns c first × Has g t ns d second × Has g t ns e third × TernaryHas o first second third a
  Has g t ns (and_of d e) a = Has g t ns d ml.bool × Has g t ns e ml.bool × (a ≡ ml.bool)
  Has g t ns (or_of d e) a = Has g t ns d ml.bool × Has g t ns e ml.bool × (a ≡ ml.bool)
  Has g t ns (if_else c d e) a = Has g t ns c ml.bool × Has g t ns d a × Has g t ns e a
  Has g t ns (match_on p e cs) a = (from : MlType) × Has g t ns e from × ArmsHave g t ns cs from a
  Has g t ns (seq d e) a = (from : MlType) × Has g t ns d from × Has g t ns e a
  Has g t ns (assert_false p) a = Unit {0}

  pub AllHave : Signature → Table → Names → Cores → MlTypes → Type 0
  AllHave g t ns none parts = parts ≡ ml.no_types
  AllHave g t ns (more e es) parts = (a : MlType) × (rest : MlTypes) × (parts ≡ ml.more_types a rest) × Has g t ns e a × AllHave g t ns es rest

  -- arms for values of the one type give the other
  pub ArmsHave : Signature → Table → Names → Arms → MlType → MlType → Type 0
  ArmsHave g t ns no_arms from a = Unit {0}
  ArmsHave g t ns (more_arms q e cs) from a = (ms : Names) × PatternHas g q from ms × Has g t (ms ++ ns) e a × ArmsHave g t ns cs from a

  -- a value has a type; it is closed
  pub ValueHas : Signature → Table → Value → MlType → Type 0
  ValueHas g t (v_whole n) a = a ≡ ml.int
  ValueHas g t (v_flag b) a = a ≡ ml.bool
  ValueHas g t v_unit a = a ≡ ml.unit
  ValueHas g t (v_fun q b) a = (from : MlType) × (to : MlType) × (ms : Names) × (a ≡ ml.arrow from to) × ParameterHas g q from ms × Has g t (ms ++ []) b to
  ValueHas g t (v_rec f q b) a =
      (from : MlType) × (to : MlType) × (ms : Names) × (a ≡ ml.arrow from to) × ParameterHas g q from ms × Has g t (ms ++ (f, plain (ml.arrow from to)) ∷ []) b to
  ValueHas g t (v_tuple vs) a = (parts : MlTypes) × ValuesHave g t vs parts × (a ≡ ml.tuple parts)
  ValueHas g t (v_build c vs) a = (parts : MlTypes) × ValuesHave g t vs parts × RowHas g (build c) parts a
  ValueHas g t (v_array r n) a = (element : MlType) × (a ≡ ml.array element) × (slice_get t r ≡ Some element)

  pub ValuesHave : Signature → Table → Values → MlTypes → Type 0
  ValuesHave g t no_values parts = parts ≡ ml.no_types
  ValuesHave g t (more_values v vs) parts = (a : MlType) × (rest : MlTypes) × (parts ≡ ml.more_types a rest) × ValueHas g t v a × ValuesHave g t vs rest

-- each value has the type
abbrev pub EachHas : Signature → Table → MlType → List Value → Type 0
EachHas g t a [] = Unit {0}
EachHas g t a (v ∷ vs) = ValueHas g t v a × EachHas g t a vs

-- arrays whose elements have these types, in order
abbrev pub AreStored : Signature → Table → List MlType → List (List Value) → Type 0
AreStored g t [] [] = Unit {0}
AreStored g t (a ∷ as_) (vs ∷ arrays) = EachHas g t a vs × AreStored g t as_ arrays
AreStored g t _ _ = ⊥

-- the arrays of the store have the types of the table
abbrev pub FitsStore : Signature → Table → List (List Value) → Type 0
FitsStore g t arrays = AreStored g t t arrays

-- the later table has all that the earlier one has
abbrev pub Extends : Table → Table → Type 0
Extends t u = (r : ℕ) (a : MlType) → slice_get t r ≡ Some a → slice_get u r ≡ Some a
