-- A scoped program has no made name, and its parts are apart.
use Rattle.std.specs.Prelude.{ℕ, ◌<◌, ◌≤◌, length}
use Rattle.lq_meaning_normal_form.specs.Outcomes.Apart.{ApartItems}
use Rattle.lq_meaning_normal_form.specs.Outcomes.Named.{from, AvoidsItems}
use Rattle.lq_meaning_normal_form.specs.Binders.Counting.{counted_items}
use Rattle.lq_text_walk.specs.Scoped.Scoping.{Scoping, IsScoped}

abbrev pub ScopedAreApart : Type 0
ScopedAreApart = (s : Scoping) → IsScoped s → AvoidsItems (from (length s.sources)) s.items × ApartItems (length s.sources) s.items

-- In a scoped program no number is bound twice, and one that is bound is below the number of binders.
abbrev pub ScopedBindOnce : Type 0
ScopedBindOnce = (s : Scoping) → IsScoped s → (x : ℕ) → (counted_items x s.items ≤ 1) × (1 ≤ counted_items x s.items → x < length s.sources)
