-- Programs of texts, and what is asked of those whose implications are made.
use Rattle.std.specs.Prelude.{◌≡◌, ℕ, List, [], true}
use Rattle.lq_text_actions.specs.Value.{items}
use Rattle.lq_types_infer.specs.Annotation.Whole as annotated
use Rattle.lq_refined_rules.specs.Checks.Ready.{IsReady}
use Rattle.lq_generate_fresh.specs.Fresh.Defined.{ConstructorsDiffer}
use Rattle.lq_text_lexer.specs.declared.token.Token.{Token}
use Rattle.lq_base_names.specs.declared.place.TextKind.TheVariants as kind
use Rattle.lq_meaning_normalize.specs.Normalize.Made.{normal_view}
use Rattle.lq_generate_reading.specs.Notes.Noted.{annotation_of}
use Rattle.lq_text_parser.specs.Parse.Trees.{IsRead}
use Rattle.lq_generate_problem.specs.Posed.{basis_for, read_of}
use Rattle.lq_text_resolve.specs.Resolution.Parameters.{have_places}
use Rattle.lq_text_walk.specs.Scoped.Whole.{scoped_view}
use Rattle.lq_text_qualifiers.specs.Sorting.Sorted.{Measure}
use Rattle.lq_sound_readiness.specs.TextPrograms.Laws.{IsOfText}
use Rattle.lq_text_front.specs.declared.texts.texts.ScopedTexts.{ScopedTexts}
use Rattle.lq_text_tree.specs.Texts.{program_view}
use Rattle.lq_text_tree.specs.declared.program.Program.{Program}
use Rattle.lq_cases_rules.specs.declared.posing.Typed.{Typed}

-- the program was read from tokens
pub record IsParsed (p : Program) : Type 0 where
  pub text : List ℕ
  pub names : List (List ℕ)
  pub tokens : List Token
  pub read : IsRead kind.Program text names tokens (items (program_view p))
  pub places : have_places (program_view p) ≡ true

-- the program is one of a text, and no two of its constructors have one name
pub record IsBound (t : ScopedTexts) : Type 0 where
  pub of_text : IsOfText (scoped_view t.program)
  pub differ : ConstructorsDiffer (scoped_view t.program).datatypes

-- what is asked of a program whose implications are made
pub record IsPosable (t : Typed) : Type 0 where
  pub differ : ConstructorsDiffer (annotated.program_of t.noted.program.annotated).datatypes
  pub ready : (ms : List Measure)
      → IsReady (basis_for (annotated.program_of t.noted.program.annotated).datatypes ms (annotation_of t.noted) (normal_view t.normal).items) []
      (read_of (annotation_of t.noted) (normal_view t.normal).items)
