-- What stands in memory.
use Rattle.std.specs.Prelude.{◌≡◌, ℕ, List, [], ◌∷◌, map, reverse, Option, None, slice_index_or}
use Rattle.std.specs.Option.{option_map}
use Rattle.lq_text_tree.specs.Items.{Named}
use Rattle.lq_text_scope.specs.Complaints as plain
use Rattle.lq_text_scope.specs.Known.{Arity, defined, arity_in}
use Rattle.lq_text_scope.specs.declared.binders.Binding.{Binding}
use Rattle.lq_text_scope.specs.declared.complaint.Cause.{Cause}
use Rattle.lq_text_scope.specs.declared.complaint.Cause.TheVariants as cause
use Rattle.lq_text_scope.specs.declared.complaint.Complaint.{Complaint}
use Rattle.lq_text_scope.specs.declared.scope.Entry.{Entry}

abbrev pub cause_view : Cause → plain.Cause
cause_view (cause.Unknown x) = plain.unknown x.0
cause_view (cause.UnknownIn m x) = plain.unknown_in m.0 x.0
cause_view (cause.Twice x) = plain.twice x.0
cause_view (cause.Arity wanted found) = plain.arity wanted found
cause_view cause.NotPositive = plain.not_positive

abbrev pub complaint_view : Complaint → plain.Complaint
complaint_view c = record { place = c.place; cause = cause_view c.cause }

abbrev pub found_view : Option Complaint → Option plain.Complaint
found_view = option_map complaint_view

abbrev pub binding_view : Binding → Named
binding_view b = record { name = b.name.0; place = b.place }

abbrev pub entry_view : Entry → Arity
entry_view e = defined e.name.0 e.count

-- entries, the last first
abbrev pub entries_view : List Entry → List Arity
entries_view es = map entry_view (reverse es)

-- each entry keeps what was found for its name before it
abbrev pub KeepFormer : List Entry → Type 0
KeepFormer [] = Unit {0}
KeepFormer (e ∷ es) = (e.former ≡ arity_in (map entry_view es) e.name.0) × KeepFormer es

-- what is found by the number of a name is the last entry's
pub record IsScope (last : List (Option ℕ)) (entries : List Entry) : Type 0 where
  pub found : (x : ℕ) → slice_index_or last x None ≡ arity_in (entries_view entries) x
  pub former : KeepFormer (reverse entries)
