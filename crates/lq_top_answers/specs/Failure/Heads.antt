-- The line on a demand or a flow: which one it is, where it comes from, and what it comes of.
use Rattle.std.specs.Prelude.{ℕ, ◌+◌, Bool, true, false, not, List, [], ◌++◌, take, count_by, Option, Some, None, slice_get, codes, decimal}
use Rattle.lq_refined_types.specs.Parts.Part.{Part, known, unknown}
use Rattle.lq_text_refusal.specs.Refusals.{place_text}
use Rattle.lq_refined_types.specs.Subtyping.Implication.{Implication, Origin, Reason, of_assertion, of_index, of_divisor, of_length, of_case, of_argument, of_flow}

abbrev pub reason_text : Reason → List ℕ
reason_text of_assertion = codes "assertion"
reason_text of_index = codes "index"
reason_text of_divisor = codes "divisor"
reason_text of_length = codes "length"
reason_text of_case = codes "case"
reason_text of_argument = codes "argument"
reason_text of_flow = codes "flow"

-- the goal of a demand is known, that of a flow an unknown
abbrev pub is_known : Part → Bool
is_known (known p) = true
is_known (unknown u σ) = false

-- whether it is a demand, or whether it is a flow
abbrev pub is_alike : Bool → Implication → Bool
is_alike true i = is_known i.goal
is_alike false i = not (is_known i.goal)

abbrev pub kind_word : Bool → List ℕ
kind_word true = codes "demand "
kind_word false = codes "flow "

-- a demand or a flow, its number, and where it comes from
abbrev pub origin_line : Bool → ℕ → Origin → List ℕ
origin_line demand number o =
    kind_word demand ++ decimal number ++ codes " at " ++ place_text o.place ++ codes ": " ++ reason_text o.reason ++ codes "\n"

-- which of the demands or of the flows it is, counted from 1
abbrev pub number_among : List Implication → ℕ → Bool → ℕ
number_among is at demand = count_by (is_alike demand) (take (at + 1) is)

abbrev pub line_of : List Implication → ℕ → Option Implication → List ℕ
line_of is at None = []
line_of is at (Some i) = origin_line (is_known i.goal) (number_among is at (is_known i.goal)) i.origin

-- the line on the implication at a place
abbrev pub line_at : List Implication → ℕ → List ℕ
line_at is at = line_of is at (slice_get is at)
