use Rattle.std.specs.Prelude.{map}
use Rattle.std.proofs.Common.{subst, sym}
use Rattle.lq_base_names.specs.declared.place.TextKind.TheVariants.{Program, Quals, Measures}
use Rattle.lq_text_actions.specs.Trees.{Makes}
use Rattle.lq_text_parser.specs.Syntax.Tokens.{kind_of, lexeme_of}
use Rattle.lq_text_parser.proofs.SyntaxLemmas.Complete.{program-complete, qualifiers-complete, measures-complete}
use Rattle.lq_text_parser.proofs.SyntaxLemmas.Sound.{program-sound, qualifiers-sound, measures-sound}
use Rattle.lq_text_parser.proofs.syntax.laws.same_trees.Goals as goal

pub returns-clause-programs : goal.returns-clause-programs
returns-clause-programs c = λ ts v. (program-sound ts v, λ r. subst (Makes Program (map kind_of ts) (map lexeme_of ts)) (sym r.1) (program-complete ts r.0 r.2))

pub returns-clause-qualifiers : goal.returns-clause-qualifiers
returns-clause-qualifiers c = λ ts v. (qualifiers-sound ts v, λ r. subst (Makes Quals (map kind_of ts) (map lexeme_of ts)) (sym r.1) (qualifiers-complete ts r.0 r.2))

pub returns-clause-measures : goal.returns-clause-measures
returns-clause-measures c = λ ts v. (measures-sound ts v, λ r. subst (Makes Measures (map kind_of ts) (map lexeme_of ts)) (sym r.1) (measures-complete ts r.0 r.2))
