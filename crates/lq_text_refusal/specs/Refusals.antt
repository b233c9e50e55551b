-- How texts are refused: the codes with their names, and the lines that report them.
use Rattle.std.specs.Prelude.{ℕ, List, [], ◌∷◌, ◌++◌, unwrap_or, slice_get, codes, decimal}
use Rattle.lq_base_names.specs.declared.place.Place.{Place}
use Rattle.lq_base_names.specs.declared.place.TextKind.{TextKind}
use Rattle.lq_base_names.specs.declared.place.TextKind.TheVariants.{Program, Measures, Quals}
use Rattle.lq_text_refusal.specs.declared.refused.Refused.{Refused}
use Rattle.lq_text_refusal.specs.declared.refused.Refused.TheVariants.{At, Named, Wanted, Nodes, Counted}

-- the names of the codes: what has no code, 0, has the empty one
abbrev pub names : List (List ℕ)
names =
    [] ∷ codes "BadByte" ∷ codes "OpenComment" ∷ codes "LiteralPast" ∷ codes "Syntax" ∷ codes "TooDeep" ∷ codes "Unknown" ∷ codes "Twice"
    ∷ codes "Arity" ∷ codes "NotPositive" ∷ codes "NotStructural" ∷ codes "BadSort" ∷ codes "IllTyped" ∷ codes "WeakType"
    ∷ codes "TypePast" ∷ codes "InstancesPast" ∷ codes "ImplicationsPast" ∷ []

-- a number that is no code has the empty name
abbrev pub name_of : ℕ → List ℕ
name_of code = unwrap_or (slice_get names code) []

abbrev pub code_of : Refused → ℕ
code_of (At code place) = code
code_of (Named code place name) = code
code_of (Wanted code place wanted found) = code
code_of (Nodes code place count) = code
code_of (Counted code count) = code

abbrev pub kind_text : TextKind → List ℕ
kind_text Program = codes "program"
kind_text Measures = codes "measures"
kind_text Quals = codes "quals"

-- a line and a column
abbrev pub place_text : Place → List ℕ
place_text place = decimal place.line ++ codes ":" ++ decimal place.column

-- the code and its name
abbrev pub head_text : ℕ → List ℕ
head_text code = codes "refused " ++ decimal code ++ codes " " ++ name_of code

-- the same with the text and the place in it
abbrev pub located_text : ℕ → Place → List ℕ
located_text code place = head_text code ++ codes " in " ++ kind_text place.text ++ codes " at " ++ place_text place

abbrev pub refusal_line : Refused → List ℕ
refusal_line (At code place) = located_text code place ++ codes "\n"
refusal_line (Named code place name) = located_text code place ++ codes ": " ++ name ++ codes "\n"
refusal_line (Wanted code place wanted found) =
    located_text code place ++ codes ": wanted " ++ decimal wanted ++ codes " found " ++ decimal found ++ codes "\n"
refusal_line (Nodes code place count) = located_text code place ++ codes ": nodes " ++ decimal count ++ codes "\n"
refusal_line (Counted code count) = head_text code ++ codes ": count " ++ decimal count ++ codes "\n"
