-- Definitions of typed programs are values or have types without variables, and matches of texts have an arm.
use Rattle.std.specs.Prelude.{◌≡◌, ℕ, true, List, length}
use Rattle.lq_text_actions.specs.Value.{items}
use Rattle.lq_types_infer.specs.Annotation.Whole.{program_of}
use Rattle.lq_types_infer.specs.declared.instantiation.instantiated.Instantiated.{Instantiated}
use Rattle.lq_text_lexer.specs.declared.token.Token.{Token}
use Rattle.lq_base_names.specs.declared.place.TextKind.TheVariants.{Program}
use Rattle.lq_meaning_normal_form.specs.Outcomes.Flattening.{normal_of}
use Rattle.lq_meaning_normal_form.specs.Outcomes.OnePass.{normal, tree_of}
use Rattle.lq_generate_reading.specs.Notes.Known.{Knows}
use Rattle.lq_text_parser.specs.Parse.Trees.{IsRead}
use Rattle.lq_refined_templates.specs.Points.Annotation.{Annotation}
use Rattle.lq_text_resolve.specs.Resolution.Resolution.{scoping_of}
use Rattle.lq_sound_scope.specs.Scalars.Scalar.{IsValueTree}
use Rattle.lq_sound_readiness.specs.TextPrograms.Laws.{IsOfText}
use Rattle.lq_text_tree.specs.Items.{ItemTree}
use Rattle.lq_text_tree.specs.Tree.{Tree}
use Rattle.lq_types_rules.specs.Typings.Uses.{is_value}
use Rattle.lq_sound_scope.specs.Values.Arms.{HaveArms}
use Rattle.lq_sound_scope.specs.Values.Settled.{AreSettled}

-- ---- values

-- The normal form of a syntactic value binds pure expressions, functions, tuples and constructors alone.
abbrev pub NormalFormsOfValuesAreValues : Type 0
NormalFormsOfValuesAreValues = (k : ℕ) (t : Tree) → is_value t ≡ true → IsValueTree (tree_of (normal k t))

-- In the normal form of a typed program each definition of a name is a value or has a type without variables, by an annotation that knows its
-- types.
abbrev pub TypedProgramsAreSettled : Type 0
TypedProgramsAreSettled = (i : Instantiated) (n : Annotation) → let s = program_of i.annotated in Knows i n
    → AreSettled n (normal_of (length s.sources) s.items)

-- So it is in that of a typed program of a text.
abbrev pub TypedTextsAreSettled : Type 0
TypedTextsAreSettled = (i : Instantiated) (n : Annotation) → let s = program_of i.annotated in IsOfText s → Knows i n
    → AreSettled n (normal_of (length s.sources) s.items)

-- ---- arms

-- Once the names of a program that was read from tokens are bound, each of its matches has an arm.
abbrev pub TextsHaveArms : Type 0
TextsHaveArms = (text : List ℕ) (names : List (List ℕ)) (tokens : List Token) (is : List ItemTree)
    → IsRead Program text names tokens (items is) → (known : List (List ℕ)) → HaveArms (scoping_of known is).items

-- Where each match of a program has one, so has each match of its normal form.
abbrev pub NormalFormsHaveArms : Type 0
NormalFormsHaveArms = (k : ℕ) (is : List ItemTree) → HaveArms is → HaveArms (normal_of k is)

-- So has each match in the normal form of a typed program of a text.
abbrev pub TypedTextsHaveArms : Type 0
TypedTextsHaveArms = (i : Instantiated) (n : Annotation) → let s = program_of i.annotated in IsOfText s → Knows i n
    → HaveArms (normal_of (length s.sources) s.items)
