-- Implications that are added behind others.
use Rattle.std.specs.Prelude.{◌≡◌, ℕ, ◌+◌, ◌-◌, ◌^◌, List, ◌++◌, length, min, take}
use Rattle.lq_refined_types.specs.Subtyping.Implication.{Implication}
use Rattle.lq_refined_substitution.specs.declared.implications.list.Implications.{Implications}
use Rattle.lq_refined_substitution.specs.Implications.Views.{count_of, implications_of}

-- from a list and a count to others by these: at most 262,144 are kept, and all are counted
pub record IsMore (old new : List Implication) (before after : ℕ) (more : List Implication) : Type 0 where
  pub kept : new ≡ take 262144 (old ++ more)
  pub counted : after ≡ min (before + length more) (2 ^ 64 - 1)

abbrev pub Appends : Implications → Implications → List Implication → Type 0
Appends old new more = IsMore (implications_of old) (implications_of new) (count_of old) (count_of new) more
