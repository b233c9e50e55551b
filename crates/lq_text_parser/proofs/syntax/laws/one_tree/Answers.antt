use Rattle.std.specs.Prelude.{map}
use Rattle.std.proofs.Common.{◌≡◌, List}
use Rattle.lq_base_names.specs.declared.place.TextKind.TheVariants.{Program, Quals, Measures}
use Rattle.lq_text_tree.specs.Items.{ItemTree}
use Rattle.lq_text_tree.specs.MeasureTrees.{MeasureTree}
use Rattle.lq_text_tree.specs.Qualifiers.{QualifierTree}
use Rattle.lq_text_actions.specs.Value.{items, qualifiers, measures}
use Rattle.lq_text_parser.specs.Syntax.Tokens.{kind_of, lexeme_of}
use Rattle.lq_text_parser.proofs.SyntaxLemmas.Complete.{program-complete, qualifiers-complete, measures-complete}
use Rattle.lq_text_parser.proofs.syntax.laws.one_tree.Goals as goal

same-programs : (a b : List ItemTree) → items a ≡ items b → a ≡ b
same-programs a b e = cc

same-qualifiers : (a b : List QualifierTree) → qualifiers a ≡ qualifiers b → a ≡ b
same-qualifiers a b e = cc

same-measures : (a b : List MeasureTree) → measures a ≡ measures b → a ≡ b
same-measures a b e = cc

pub returns-clause-programs : goal.returns-clause-programs
returns-clause-programs c = λ ts a b d e. same-programs a b (c.one_value.ensures Program (map kind_of ts) (map lexeme_of ts) (items a) (items b) (program-complete ts a d) (program-complete ts b e))

pub returns-clause-qualifiers : goal.returns-clause-qualifiers
returns-clause-qualifiers c = λ ts a b d e. same-qualifiers a b (c.one_value.ensures Quals (map kind_of ts) (map lexeme_of ts) (qualifiers a) (qualifiers b) (qualifiers-complete ts a d) (qualifiers-complete ts b e))

pub returns-clause-measures : goal.returns-clause-measures
returns-clause-measures c = λ ts a b d e. same-measures a b (c.one_value.ensures Measures (map kind_of ts) (map lexeme_of ts) (measures a) (measures b) (measures-complete ts a d) (measures-complete ts b e))
