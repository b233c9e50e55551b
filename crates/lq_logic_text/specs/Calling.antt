-- What binders and symbols are called.
use Rattle.std.specs.Prelude.{◌≡◌, ℕ, ◌+◌, ◌-◌, ◌==◌, ◌^◌, nat_lt, Bool, true, false, List, [], ◌++◌, length, take, count_by, Option, Some, None, slice_get, unwrap_or, codes, decimal, if◌then◌else◌}
use Rattle.lq_logic_predicates.specs.declared.symbol.Symbol.{Symbol}
use Rattle.lq_logic_predicates.specs.declared.symbol.Symbol.TheVariants.{Value, Bound, Position}

-- The texts of names, the source name of each binder of a text that has one, and the numbers of the made names among the others: those in the
-- text are tuple parameters, and behind the binders of the text stand the names that were made for the normal form. Where binders of one source
-- name are told apart, all but the first one have numbers.
pub record Calling : Type 0 where
  pub names : List (List ℕ)
  pub sources : List (Option ℕ)
  pub made : ℕ → Option ℕ
  pub told_apart : Bool

-- past the last name nothing
abbrev pub name_text : List (List ℕ) → ℕ → List ℕ
name_text names x = unwrap_or (slice_get names x) []

-- the first binder of a name by the name alone, a later one with its number
abbrev pub with_ordinal : List ℕ → ℕ → List ℕ
with_ordinal name n = if nat_lt 1 n then name ++ codes "@" ++ decimal n else name

-- whether a binder with this source name has that name
abbrev pub has_name : ℕ → Option ℕ → Bool
has_name x None = false
has_name x (Some y) = y == x

-- which of the binders with its source name a binder is, counted from 1 in the order of the text
abbrev pub ordinal : List (Option ℕ) → ℕ → ℕ → ℕ
ordinal sources b x = count_by (has_name x) (take (b + 1) sources)

-- the ordinals of the binders that have names
pub record AreOrdinals (sources : List (Option ℕ)) (numbers : List ℕ) : Type 0 where
  pub count : length numbers ≡ length sources
  pub each : (b x : ℕ) → slice_get sources b ≡ Some (Some x) → slice_get numbers b ≡ Some (ordinal sources b x)

-- a made name by its number; a binder that has neither a source name nor a number is called nothing
abbrev pub numbered : Option ℕ → List ℕ
numbered None = []
numbered (Some k) = codes "%" ++ decimal k

abbrev pub made_text : Calling → ℕ → List ℕ
made_text c b = numbered (c.made b)

-- of a binder, by its source name if it has one
abbrev pub called : Calling → ℕ → Option (Option ℕ) → List ℕ
called c b None = made_text c b
called c b (Some None) = made_text c b
called c b (Some (Some x)) =
    if c.told_apart then with_ordinal (name_text c.names x) (ordinal c.sources b x) else name_text c.names x

-- a twin is called as the binder whose twin it is
abbrev pub untwinned : ℕ → ℕ
untwinned b = if nat_lt b (2 ^ 31) then b else b - 2 ^ 31

abbrev pub binder_text : Calling → ℕ → List ℕ
binder_text c b = called c (untwinned b) (slice_get c.sources (untwinned b))

abbrev pub symbol_text : Calling → Symbol → List ℕ
symbol_text c Value = codes "v"
symbol_text c (Bound b) = binder_text c b.0
symbol_text c (Position k) = codes "#" ++ decimal k
