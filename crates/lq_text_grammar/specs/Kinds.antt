-- Kinds of tokens by number.
use Rattle.std.specs.Prelude.{ℕ, Bool, eqb}
use Rattle.lq_text_grammar.specs.declared.kind.Kind.{Kind}
use Rattle.lq_text_grammar.specs.declared.kind.Kind.TheVariants as kind

-- its number in the order of the declaration
abbrev pub code : Kind → ℕ
code kind.Assert = 0
code kind.Begin = 1
code kind.Else = 2
code kind.End = 3
code kind.False = 4
code kind.Fun = 5
code kind.If = 6
code kind.In = 7
code kind.Let = 8
code kind.Match = 9
code kind.Mod = 10
code kind.Not = 11
code kind.Of = 12
code kind.Rec = 13
code kind.Then = 14
code kind.True = 15
code kind.Type = 16
code kind.With = 17
code kind.Measure = 18
code kind.Qualif = 19
code kind.LowerName = 20
code kind.UpperName = 21
code kind.TypeVariable = 22
code kind.Number = 23
code kind.LimitNumber = 24
code kind.Underscore = 25
code kind.DoubleSemicolon = 26
code kind.Arrow = 27
code kind.LeftArrow = 28
code kind.DoubleColon = 29
code kind.LessEqual = 30
code kind.GreaterEqual = 31
code kind.NotEqual = 32
code kind.DoubleAmpersand = 33
code kind.DoubleBar = 34
code kind.Equivalence = 35
code kind.OpenIndex = 36
code kind.Open = 37
code kind.Close = 38
code kind.OpenBracket = 39
code kind.CloseBracket = 40
code kind.Comma = 41
code kind.Semicolon = 42
code kind.Bar = 43
code kind.Colon = 44
code kind.Equal = 45
code kind.Less = 46
code kind.Greater = 47
code kind.Plus = 48
code kind.Minus = 49
code kind.Star = 50
code kind.Slash = 51
code kind.Dot = 52
code kind.Reserved = 53

abbrev pub same_kind : Kind → Kind → Bool
same_kind a b = eqb (code a) (code b)
