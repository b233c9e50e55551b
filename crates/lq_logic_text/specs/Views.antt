-- What binders are called, as it stands in memory.
use Rattle.std.specs.Prelude.{ℕ, Bool, true, false, IfSome, List, map, slice_index_or, Option, Some, None}
use Rattle.std.specs.Option.{option_map}
use Rattle.lq_base_names.specs.declared.name.Name.{Name}
use Rattle.lq_logic_text.specs.Calling as calling
use Rattle.lq_logic_text.specs.Calling.{AreOrdinals}
use Rattle.lq_logic_text.specs.declared.calling.Calling.{Calling}

abbrev pub source_view : Option Name → Option ℕ
source_view = option_map (λ x. x.0)

abbrev pub is_some : {A : Type 0} → Option A → Bool
is_some None = false
is_some (Some x) = true

-- the number that a table has for a binder
abbrev pub made_view : List (Option ℕ) → ℕ → Option ℕ
made_view numbers b = slice_index_or numbers b None

abbrev pub calling_view : Calling → calling.Calling
calling_view c =
    record { names = c.table.now; sources = map source_view c.sources.now; made = made_view c.made.now; told_apart = is_some c.ordinals }

-- the ordinals in memory, where there are some, are those of the binders
abbrev pub IsTold : Calling → Type 0
IsTold c = IfSome c.ordinals (λ numbers. AreOrdinals (map source_view c.sources.now) numbers.now)
