-- Rows of names, by the numbers of other names.
use Rattle.std.specs.Prelude.{◌≡◌, ℕ, ◌==◌, List, map, slice_get, if◌then◌else◌}
use Rattle.std.specs.declared.alloc.Global.{Global}
use Rattle.std.specs.declared.vec.Vec.{Vec}
use Rattle.lq_base_names.specs.declared.name.Name.{Name}
use Rattle.lq_top_answers.specs.TypeText.Views.{names_at}

abbrev pub numbers_of : List Name → List ℕ
numbers_of names = map (λ x. x.0) names

-- the row of one number is this, and those of others are as before
abbrev pub IsRowPut : ℕ → List ℕ → List (Vec Name Global) → List (Vec Name Global) → Type 0
IsRowPut at row before after =
    (d : ℕ) → names_at (slice_get after d) ≡ (if at == d then row else names_at (slice_get before d))
