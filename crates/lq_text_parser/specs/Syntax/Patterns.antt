-- Patterns and parameters, as types: a case for each line of the grammar.
use Rattle.std.specs.Prelude.{ℕ, List, [], ◌∷◌, ◌++◌}
use Rattle.lq_base_names.specs.NameTable.{nil_name, cons_name}
use Rattle.lq_text_grammar.specs.declared.kind.Kind.TheVariants as kind
use Rattle.lq_text_tree.specs.Pattern.{Pattern, pattern, any, bind, nothing, tuple_of, build_of}
use Rattle.lq_text_tree.specs.PatternView.{patterns_of}
use Rattle.lq_text_actions.specs.Patterns.{place_of_pattern}
use Rattle.lq_text_parser.specs.Syntax.Tokens.{Token, place_of, Is, IsName, Stops}

pub data PatternPhrase : Type 0 where
  a_simple : Pattern → PatternPhrase
  a_parameter : Pattern → PatternPhrase
  a_pattern : Pattern → PatternPhrase
  -- further members of a tuple
  members : List Pattern → List Pattern → PatternPhrase
  -- further simple patterns in parentheses, up to the last one
  inside : List Pattern → List Pattern → PatternPhrase

-- The tokens begin with this, and those are left.
pub data ReadsPattern : PatternPhrase → List Token → List Token → Type 0 where
  -- simple ::= name | "_"
  simple_name : {x : ℕ} {t : Token} {us : List Token}
      → IsName kind.LowerName x t → ReadsPattern (a_simple (pattern (place_of t) (bind x))) (t ∷ us) us
  simple_any : {t : Token} {us : List Token}
      → Is kind.Underscore t → ReadsPattern (a_simple (pattern (place_of t) any)) (t ∷ us) us
  -- param ::= simple | "(" ")" | "(" simple ("," simple)+ ")"
  parameter_simple : {a : Pattern} {ts us : List Token} → ReadsPattern (a_simple a) ts us → ReadsPattern (a_parameter a) ts us
  parameter_unit : {t u : Token} {us : List Token}
      → Is kind.Open t → Is kind.Close u
      → ReadsPattern (a_parameter (pattern (place_of t) nothing)) (t ∷ u ∷ us) us
  parameter_tuple : {a b : Pattern} {cs : List Pattern} {t u : Token} {us vs ws xs : List Token}
      → Is kind.Open t → ReadsPattern (a_simple a) us (u ∷ vs) → Is kind.Comma u → ReadsPattern (a_simple b) vs ws
      → ReadsPattern (inside (a ∷ b ∷ []) cs) ws xs
      → ReadsPattern (a_parameter (pattern (place_of t) (tuple_of (patterns_of cs)))) (t ∷ us) xs
  inside_end : {rs : List Pattern} {t : Token} {us : List Token} → Is kind.Close t → ReadsPattern (inside rs rs) (t ∷ us) us
  inside_more : {rs cs : List Pattern} {b : Pattern} {t : Token} {us vs ws : List Token}
      → Is kind.Comma t → ReadsPattern (a_simple b) us vs → ReadsPattern (inside (rs ++ b ∷ []) cs) vs ws
      → ReadsPattern (inside rs cs) (t ∷ us) ws
  -- pattern ::= simple | "(" ")" | "[" "]" | simple "::" simple | tuple_pattern | "(" pattern ")"
  --           | Name (simple | "(" simple ("," simple)* ")")?
  -- tuple_pattern ::= simple ("," simple)+ | "(" simple ("," simple)+ ")"
  pattern_simple : {a : Pattern} {ts us : List Token}
      → ReadsPattern (a_simple a) ts us → Stops (kind.DoubleColon ∷ kind.Comma ∷ []) us
      → ReadsPattern (a_pattern a) ts us
  pattern_unit : {t u : Token} {us : List Token}
      → Is kind.Open t → Is kind.Close u
      → ReadsPattern (a_pattern (pattern (place_of t) nothing)) (t ∷ u ∷ us) us
  pattern_nil : {t u : Token} {us : List Token}
      → Is kind.OpenBracket t → Is kind.CloseBracket u
      → ReadsPattern (a_pattern (pattern (place_of t) (build_of nil_name (place_of t) (patterns_of [])))) (t ∷ u ∷ us) us
  pattern_cons : {a b : Pattern} {t : Token} {ts us vs : List Token}
      → ReadsPattern (a_simple a) ts (t ∷ us) → Is kind.DoubleColon t → ReadsPattern (a_simple b) us vs
      → ReadsPattern (a_pattern (pattern (place_of_pattern a) (build_of cons_name (place_of t) (patterns_of (a ∷ b ∷ []))))) ts vs
  pattern_tuple : {a b : Pattern} {cs : List Pattern} {t : Token} {ts us vs ws : List Token}
      → ReadsPattern (a_simple a) ts (t ∷ us) → Is kind.Comma t → ReadsPattern (a_simple b) us vs
      → ReadsPattern (members (a ∷ b ∷ []) cs) vs ws
      → ReadsPattern (a_pattern (pattern (place_of_pattern a) (tuple_of (patterns_of cs)))) ts ws
  -- parentheses belong to no pattern but a parameter
  pattern_inside : {a : Pattern} {t u : Token} {us vs : List Token}
      → Is kind.Open t → ReadsPattern (a_pattern a) us (u ∷ vs) → Is kind.Close u
      → ReadsPattern (a_pattern a) (t ∷ us) vs
  pattern_alone : {c : ℕ} {t : Token} {us : List Token}
      → IsName kind.UpperName c t → Stops (kind.LowerName ∷ kind.Underscore ∷ kind.Open ∷ []) us
      → ReadsPattern (a_pattern (pattern (place_of t) (build_of c (place_of t) (patterns_of [])))) (t ∷ us) us
  pattern_one : {c : ℕ} {a : Pattern} {t : Token} {us vs : List Token}
      → IsName kind.UpperName c t → ReadsPattern (a_simple a) us vs
      → ReadsPattern (a_pattern (pattern (place_of t) (build_of c (place_of t) (patterns_of (a ∷ []))))) (t ∷ us) vs
  pattern_many : {c : ℕ} {a : Pattern} {bs : List Pattern} {t u : Token} {us vs ws : List Token}
      → IsName kind.UpperName c t → Is kind.Open u → ReadsPattern (a_simple a) us vs
      → ReadsPattern (inside (a ∷ []) bs) vs ws
      → ReadsPattern (a_pattern (pattern (place_of t) (build_of c (place_of t) (patterns_of bs)))) (t ∷ u ∷ us) ws
  members_end : {rs : List Pattern} {ts : List Token} → Stops (kind.Comma ∷ []) ts → ReadsPattern (members rs rs) ts ts
  members_more : {rs cs : List Pattern} {b : Pattern} {t : Token} {us vs ws : List Token}
      → Is kind.Comma t → ReadsPattern (a_simple b) us vs → ReadsPattern (members (rs ++ b ∷ []) cs) vs ws
      → ReadsPattern (members rs cs) (t ∷ us) ws
