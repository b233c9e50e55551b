-- The numbers of made names: `%1` is the one that naming binds first.
use Rattle.std.specs.Prelude.{ℕ, ◌+◌, ◌==◌, Bool, true, false, List, [], ◌∷◌, map, Option, Some, None, slice_get, if◌then◌else◌}
use Rattle.std.specs.List.{filter}
use Rattle.std.specs.Option.{option_map}
use Rattle.lq_base_names.specs.declared.name.Binder.{Binder}
use Rattle.lq_base_names.specs.declared.name.Name.{Name}
use Rattle.lq_text_tree.specs.Items.{ItemTree}
use Rattle.lq_meaning_normalize.specs.MadeNames.Order.{names_of_items}

abbrev pub source_view : Option Name → Option ℕ
source_view = option_map (λ x. x.0)

abbrev pub binders_view : List Binder → List ℕ
binders_view = map (λ x. x.0)

-- A binder is a made name where the text has no name for it: a parameter that is a tuple, and each one behind the binders of the text.
abbrev pub has_no_name : Option (Option ℕ) → Bool
has_no_name None = true
has_no_name (Some None) = true
has_no_name (Some (Some x)) = false

abbrev pub is_made : List (Option ℕ) → ℕ → Bool
is_made sources x = has_no_name (slice_get sources x)

-- the made names of a normal program, by the source names of the binders of its text
abbrev pub made_names : List (Option ℕ) → List ItemTree → List ℕ
made_names sources is = filter (is_made sources) (names_of_items is)

-- which of these a name is, where the first has this number
abbrev pub number_from : ℕ → List ℕ → ℕ → Option ℕ
number_from k [] x = None
number_from k (y ∷ ys) x = if y == x then Some k else number_from (k + 1) ys x

-- the k of a made name `%k`
abbrev pub made_number : List (Option ℕ) → List ItemTree → ℕ → Option ℕ
made_number sources is x = number_from 1 (made_names sources is) x
