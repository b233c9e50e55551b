-- The names of normal forms.
use Rattle.std.specs.Prelude.{◌≡◌, ℕ, ◌≤◌, true, List, [], length}
use Rattle.lq_text_tree.specs.Items.{ItemTree}
use Rattle.lq_meaning_normal_form.specs.Binders.Counting.{counted_items}
use Rattle.lq_text_walk.specs.Scoped.Scoping.{Scoping, IsScoped}
use Rattle.lq_text_walk.specs.Scoped.Uses.{are_scoped}
use Rattle.lq_meaning_normal_form.specs.Types.Plain.{ItemsArePlain}
use Rattle.lq_meaning_normal_form.specs.Types.Programs.{normal_items}

-- Where each use in a plain program is in the scope of its binder, each use in its normal form is in that of its binder, made names among them.
abbrev pub NormalFormsAreScoped : Type 0
NormalFormsAreScoped = (k : ℕ) (is : List ItemTree) → ItemsArePlain k is → are_scoped [] is ≡ true → are_scoped [] (normal_items k is) ≡ true

-- The normal form of a plain program that is scoped binds no number twice.
abbrev pub NormalFormsBindOnce : Type 0
NormalFormsBindOnce = (s : Scoping) → IsScoped s → let k = length s.sources in ItemsArePlain k s.items → (x : ℕ) → counted_items x (normal_items k s.items) ≤ 1
