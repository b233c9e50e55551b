-- What the lines of the grammar say of some small texts.
use Rattle.std.specs.Prelude.{ℕ, pos, [], ◌∷◌}
use Rattle.lq_base_names.specs.declared.operation.ArithOp.TheVariants as op
use Rattle.lq_base_names.specs.declared.operation.CompareOp.TheVariants as order
use Rattle.lq_base_names.specs.declared.place.Place.{Place}
use Rattle.lq_base_names.specs.declared.place.TextKind.TheVariants.{Program}
use Rattle.lq_text_grammar.specs.declared.kind.Kind.{Kind}
use Rattle.lq_text_grammar.specs.declared.kind.Kind.TheVariants as kind
use Rattle.lq_text_tree.specs.Items.{let_of}
use Rattle.lq_text_tree.specs.Pattern.{pattern, bind}
use Rattle.lq_text_tree.specs.PredTree as pred
use Rattle.lq_text_tree.specs.PredTree.{pred_tree}
use Rattle.lq_text_tree.specs.Tree.{tree, use_of, tuple, build, arithmetic}
use Rattle.lq_text_tree.specs.TreeView.{trees_of}
use Rattle.lq_text_tree.specs.declared.expr.Arguments.TheVariants.{Listed}
use Rattle.lq_text_actions.specs.Value.{some_name, some_number, neither}
use Rattle.lq_text_parser.specs.Syntax.Texts.{IsProgram, IsQualifiers}
use Rattle.lq_text_parser.specs.Syntax.Tokens.{Token}

-- the place in this column of one line
abbrev pub column : ℕ → Place
column n = record { text = Program; line = 1; column = n }

-- a token that is a symbol or a keyword, one that is a name, one that is a number
abbrev pub sign : Kind → ℕ → Token
sign k n = record { kind = k; place = column n; content = neither }

abbrev pub word : Kind → ℕ → ℕ → Token
word k n x = record { kind = k; place = column n; content = some_name x }

abbrev pub number : ℕ → ℕ → Token
number n v = record { kind = kind.Number; place = column n; content = some_number v }

-- let x = a - b - c
abbrev pub DifferenceExample : Type 0
DifferenceExample =
    IsProgram
    (sign kind.Let 1 ∷ word kind.LowerName 5 20 ∷ sign kind.Equal 7 ∷ word kind.LowerName 9 21 ∷ sign kind.Minus 11 ∷ word kind.LowerName 13 22 ∷ sign kind.Minus 15 ∷ word kind.LowerName 17 23 ∷ [])
    ((record {
      place = column 1;
      form = let_of (pattern (column 5) (bind 20))
          (tree 4 (column 9) (arithmetic op.Sub
          (tree 2 (column 9) (arithmetic op.Sub (tree 0 (column 9) (use_of 21)) (tree 1 (column 13) (use_of 22))))
          (tree 3 (column 17) (use_of 23))));
    }) ∷ [])

-- let x = C (a, b)
abbrev pub BuildExample : Type 0
BuildExample =
    IsProgram
    (sign kind.Let 1 ∷ word kind.LowerName 5 20 ∷ sign kind.Equal 7 ∷ word kind.UpperName 9 24 ∷ sign kind.Open 11 ∷ word kind.LowerName 12 21 ∷ sign kind.Comma 13 ∷ word kind.LowerName 15 22 ∷ sign kind.Close 16 ∷ [])
    ((record {
      place = column 1;
      form = let_of (pattern (column 5) (bind 20))
          (tree 3 (column 9) (build 24 Listed (trees_of
          (tree 2 (column 12) (tuple (trees_of (tree 0 (column 12) (use_of 21) ∷ tree 1 (column 15) (use_of 22) ∷ []))) ∷ []))));
    }) ∷ [])

-- qualif N(v : s): 0 <= v
abbrev pub QualifierExample : Type 0
QualifierExample =
    IsQualifiers
    (sign kind.Qualif 1 ∷ word kind.UpperName 8 24 ∷ sign kind.Open 9 ∷ word kind.LowerName 10 21 ∷ sign kind.Colon 12 ∷ word kind.LowerName 14 22 ∷ sign kind.Close 15 ∷ sign kind.Colon 16 ∷ number 18 0 ∷ sign kind.LessEqual 20 ∷ word kind.LowerName 23 21 ∷ [])
    ((record {
      place = column 1;
      name = 24;
      value = 21;
      shape = 22;
      shape_place = column 14;
      predicate = pred_tree (column 18) (pred.compare order.Le (pred_tree (column 18) (pred.whole (pos 0))) (pred_tree (column 23) (pred.use_of 21)));
    }) ∷ [])
