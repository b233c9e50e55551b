-- Kinds are equal where their numbers are.
use Rattle.std.specs.Prelude.{eqb, if◌then◌else◌}
use Rattle.std.proofs.Common.{◌≡◌, ℕ, Bool, true, false, refl, sym, ap, ◌∙◌, Option, Some, None}
use Rattle.std.proofs.lemmas.Bool.{eqb-true, eq-eqb}
use Rattle.lq_text_grammar.specs.declared.kind.Kind.{Kind}
use Rattle.lq_text_grammar.specs.declared.kind.Kind.TheVariants as kind
use Rattle.lq_text_grammar.specs.Kinds.{code, same_kind}

decode : ℕ → Kind
decode n =
    if eqb n 0 then kind.Assert
    else if eqb n 1 then kind.Begin
    else if eqb n 2 then kind.Else
    else if eqb n 3 then kind.End
    else if eqb n 4 then kind.False
    else if eqb n 5 then kind.Fun
    else if eqb n 6 then kind.If
    else if eqb n 7 then kind.In
    else if eqb n 8 then kind.Let
    else if eqb n 9 then kind.Match
    else if eqb n 10 then kind.Mod
    else if eqb n 11 then kind.Not
    else if eqb n 12 then kind.Of
    else if eqb n 13 then kind.Rec
    else if eqb n 14 then kind.Then
    else if eqb n 15 then kind.True
    else if eqb n 16 then kind.Type
    else if eqb n 17 then kind.With
    else if eqb n 18 then kind.Measure
    else if eqb n 19 then kind.Qualif
    else if eqb n 20 then kind.LowerName
    else if eqb n 21 then kind.UpperName
    else if eqb n 22 then kind.TypeVariable
    else if eqb n 23 then kind.Number
    else if eqb n 24 then kind.LimitNumber
    else if eqb n 25 then kind.Underscore
    else if eqb n 26 then kind.DoubleSemicolon
    else if eqb n 27 then kind.Arrow
    else if eqb n 28 then kind.LeftArrow
    else if eqb n 29 then kind.DoubleColon
    else if eqb n 30 then kind.LessEqual
    else if eqb n 31 then kind.GreaterEqual
    else if eqb n 32 then kind.NotEqual
    else if eqb n 33 then kind.DoubleAmpersand
    else if eqb n 34 then kind.DoubleBar
    else if eqb n 35 then kind.Equivalence
    else if eqb n 36 then kind.OpenIndex
    else if eqb n 37 then kind.Open
    else if eqb n 38 then kind.Close
    else if eqb n 39 then kind.OpenBracket
    else if eqb n 40 then kind.CloseBracket
    else if eqb n 41 then kind.Comma
    else if eqb n 42 then kind.Semicolon
    else if eqb n 43 then kind.Bar
    else if eqb n 44 then kind.Colon
    else if eqb n 45 then kind.Equal
    else if eqb n 46 then kind.Less
    else if eqb n 47 then kind.Greater
    else if eqb n 48 then kind.Plus
    else if eqb n 49 then kind.Minus
    else if eqb n 50 then kind.Star
    else if eqb n 51 then kind.Slash
    else if eqb n 52 then kind.Dot
    else kind.Reserved

decode-code : (k : Kind) → decode (code k) ≡ k
unfolding decode
decode-code kind.Assert = refl
decode-code _ = refl

pub same_kind-eq : (a b : Kind) → same_kind a b ≡ true → a ≡ b
same_kind-eq a b e = sym (decode-code a) ∙ ap decode (eqb-true (code a) (code b) e) ∙ decode-code b

pub same_kind-refl : (a : Kind) → same_kind a a ≡ true
same_kind-refl a = eq-eqb (code a) (code a) refl

-- equal options of kinds
abbrev pub same_next : Option Kind → Option Kind → Bool
same_next None None = true
same_next (Some a) (Some b) = same_kind a b
same_next _ _ = false

pub same_next-eq : (m n : Option Kind) → same_next m n ≡ true → m ≡ n
same_next-eq None None e = refl
same_next-eq (Some a) (Some b) e = ap Some (same_kind-eq a b e)
same_next-eq None (Some b) e = absurd cc
same_next-eq (Some a) None e = absurd cc
