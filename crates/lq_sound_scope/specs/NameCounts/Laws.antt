-- Normal forms of texts bind few names.
use Rattle.std.specs.Prelude.{◌≤◌, ◌<◌, ◌*◌, ℕ, List, length}
use Rattle.lq_text_actions.specs.Value.{items}
use Rattle.lq_types_infer.specs.Annotation.Whole.{program_of}
use Rattle.lq_meaning_normal_form.specs.Binders.Counting.{counted_items}
use Rattle.lq_refined_rules.specs.Checks.Binders.{binders}
use Rattle.lq_types_infer.specs.declared.instantiation.instantiated.Instantiated.{Instantiated}
use Rattle.lq_text_lexer.specs.declared.token.Token.{Token}
use Rattle.lq_base_names.specs.declared.place.TextKind.TheVariants.{Program}
use Rattle.lq_meaning_normal_form.specs.Outcomes.Flattening.{normal_of}
use Rattle.lq_meaning_normal_form.specs.Types.Plain.{ItemsArePlain}
use Rattle.lq_meaning_normal_form.specs.Types.Programs.{next_items, normal_items}
use Rattle.lq_generate_reading.specs.Notes.Known.{Knows}
use Rattle.lq_text_parser.specs.Parse.Trees.{IsRead}
use Rattle.lq_refined_templates.specs.Points.Annotation.{Annotation}
use Rattle.lq_refined_templates.specs.Points.Reading as reading
use Rattle.lq_text_resolve.specs.Resolution.Resolution.{scoping_of}
use Rattle.lq_sound_scope.specs.Scalars.Scalar.{HaveTwins}
use Rattle.lq_text_walk.specs.Scoped.Scoping.{Scoping, IsScoped}
use Rattle.lq_text_tree.specs.Items.{ItemTree}
use Rattle.lq_sound_scope.specs.NameCounts.Short.{IsOfShortText}

-- What the normal form of a plain scoped program binds is below the name behind the last made one.
abbrev pub NormalFormsBindBelow : Type 0
NormalFormsBindBelow = (s : Scoping) → IsScoped s → let k = length s.sources in ItemsArePlain k s.items → (x : ℕ)
    → 1 ≤ counted_items x (normal_items k s.items) → x < next_items k s.items

-- Once the names of a program that was read from tokens are bound, it has at most 24 binders and made names together for each token.
abbrev pub ParsedProgramsMakeFew : Type 0
ParsedProgramsMakeFew = (text : List ℕ) (names : List (List ℕ)) (tokens : List Token) (is : List ItemTree)
    → IsRead Program text names tokens (items is) → (known : List (List ℕ))
    → let s = scoping_of known is in next_items (length s.sources) s.items ≤ 24 * length tokens

-- what is bound by what is read of a program's normal form
abbrev pub bound_in : Scoping → Annotation → List ℕ
bound_in s n = binders (reading.program_of n (normal_of (length s.sources) s.items)).read

-- What is read of the normal form of a typed program of such a text binds names below 2^31 alone, where an annotation knows its types.
abbrev pub ShortTextsHaveTwins : Type 0
ShortTextsHaveTwins =
    (i : Instantiated) (n : Annotation) → let s = program_of i.annotated in IsOfShortText s → Knows i n → HaveTwins (bound_in s n)
