-- Laws of parsed trees.
use Rattle.std.specs.Prelude.{◌≡◌, ◌≤◌, ◌+◌, ◌*◌, ℕ, true, List, [], length}
use Rattle.lq_text_actions.specs.Value.{items}
use Rattle.lq_text_lexer.specs.Reading.{IsTokens}
use Rattle.lq_text_lexer.specs.declared.limits.TheConstants.{TEXT_LIMIT}
use Rattle.lq_text_lexer.specs.declared.token.Token.{Token}
use Rattle.lq_base_names.specs.declared.place.TextKind.TheVariants.{Program}
use Rattle.lq_text_parser.specs.Parse.Trees.{IsRead}
use Rattle.lq_text_resolve.specs.Binding.Making.{program_made}
use Rattle.lq_text_resolve.specs.Binding.Whole.{nodes_made}
use Rattle.lq_text_resolve.specs.Resolution.Parameters.{have_places}
use Rattle.lq_text_resolve.specs.Resolution.Resolution.{scoping_of}
use Rattle.lq_text_scope.specs.Uses.{of_program}
use Rattle.lq_text_walk.specs.Scoped.Scoping.{IsScoped}
use Rattle.lq_text_tree.specs.Items.{ItemTree}

-- each pattern of a program that was read from tokens stands where a text can have it
abbrev pub ParsedProgramsHavePlaces : Type 0
ParsedProgramsHavePlaces = (text : List ℕ) (names : List (List ℕ)) (tokens : List Token) (is : List ItemTree)
    → IsRead Program text names tokens (items is) → have_places is ≡ true

-- Once the names of such a program are bound, it has at most eight nodes and binders together for each token.
abbrev pub ParsedProgramsAreSmall : Type 0
ParsedProgramsAreSmall = (text : List ℕ) (names : List (List ℕ)) (tokens : List Token) (is : List ItemTree)
    → IsRead Program text names tokens (items is) → (known : List (List ℕ))
    → nodes_made known is + length (program_made known is).sources ≤ 8 * length tokens

-- Where nothing is wrong with the names of such a program, it is scoped once they are bound.
abbrev pub ParsedProgramsAreScoped : Type 0
ParsedProgramsAreScoped = (text : List ℕ) (names : List (List ℕ)) (tokens : List Token) (is : List ItemTree)
    → length text ≤ TEXT_LIMIT → IsTokens Program text tokens → IsRead Program text names tokens (items is)
    → (known : List (List ℕ)) → of_program known is ≡ [] → IsScoped (scoping_of known is)
