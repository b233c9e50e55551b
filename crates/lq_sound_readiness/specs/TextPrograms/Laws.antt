-- What is read of the normal form of a typed text is simply typed, and ready for its implications.
use Rattle.std.specs.Prelude.{◌≡◌, ℕ, List, [], length}
use Rattle.lq_text_actions.specs.Value.{items}
use Rattle.lq_types_infer.specs.Annotation.Whole.{program_of}
use Rattle.lq_refined_rules.specs.Checks.Basis.{Basis}
use Rattle.lq_refined_rules.specs.Checks.Ready.{IsReady}
use Rattle.lq_refined_rules.specs.Checks.Tree as rules
use Rattle.lq_types_infer.specs.declared.instantiation.instantiated.Instantiated.{Instantiated}
use Rattle.lq_text_lexer.specs.declared.token.Token.{Token}
use Rattle.lq_base_names.specs.declared.place.TextKind.TheVariants.{Program}
use Rattle.lq_meaning_normal_form.specs.Outcomes.Flattening.{normal_of}
use Rattle.lq_meaning_normal_form.specs.Types.Programs.{NormalItemsAre}
use Rattle.lq_generate_reading.specs.Notes.Known.{Knows}
use Rattle.lq_text_parser.specs.Parse.Trees.{IsRead}
use Rattle.lq_refined_templates.specs.Points.Annotation.{Annotation}
use Rattle.lq_refined_templates.specs.Points.Reading as reading
use Rattle.lq_refined_templates.specs.Points.Templates.{Datatypes}
use Rattle.lq_sound_readiness.specs.Reading.Laws.{types_of}
use Rattle.lq_sound_readiness.specs.Reading.Normal.{AreNormal}
use Rattle.lq_sound_readiness.specs.Reading.Uses.{ItemsUsesFit}
use Rattle.lq_sound_readiness.specs.Programs.Laws.{IsReadReady}
use Rattle.lq_refined_types.specs.Types.Context.{Context}
use Rattle.lq_text_resolve.specs.Resolution.Resolution.{scoping_of}
use Rattle.lq_text_walk.specs.Scoped.Scoping.{Scoping}
use Rattle.lq_text_walk.specs.Scoped.Signature.{signature_in}
use Rattle.lq_text_tree.specs.Items.{ItemTree}
use Rattle.lq_text_tree.specs.Types.{Signature}

-- the program of a text, once its names are bound
pub record IsOfText (s : Scoping) : Type 0 where
  pub text : List ℕ
  pub names : List (List ℕ)
  pub tokens : List Token
  pub trees : List ItemTree
  pub read : IsRead Program text names tokens (items trees)
  pub known : List (List ℕ)
  pub bound : s ≡ scoping_of known trees

-- a program is ready in at most one way
abbrev pub ReadyIsOnce : Type 0
ReadyIsOnce = (P : Basis) (Γ : Context) (p : rules.Program) → IsProp (IsReady P Γ p)

-- What is read of the normal form of a typed program of a text is ready, over datatypes with the program's constructors, by an annotation that
-- knows its types.
abbrev pub NotedTextsAreReady : Type 0
NotedTextsAreReady = (i : Instantiated) (n : Annotation) (D : Datatypes) → let s = program_of i.annotated in IsOfText s
    → D.constructors ≡ signature_in s.datatypes → Knows i n → IsReadReady D n (normal_of (length s.sources) s.items)

-- Definitions in normal form, of which the same is read by an annotation by which they obey the rules of types for normal trees and their uses
-- fit.
pub record IsReadTyped (g : Signature) (n : Annotation) (is : List ItemTree) : Type 0 where
  pub by : Annotation
  pub same : reading.program_of by is ≡ reading.program_of n is
  pub normal : AreNormal is
  pub obeys : NormalItemsAre g (types_of by) [] is
  pub uses : ItemsUsesFit by [] is

-- So are those of a typed program of a text, by an annotation that knows its types.
abbrev pub NotedTextsAreTyped : Type 0
NotedTextsAreTyped = (i : Instantiated) (n : Annotation) → let s = program_of i.annotated in IsOfText s → Knows i n
    → ∥ IsReadTyped (signature_in s.datatypes) n (normal_of (length s.sources) s.items) ∥₁
