-- What a normal program binds when it is read as a program of the typing rules.
use Rattle.std.specs.Prelude.{◌≡◌, ℕ, List, length}
use Rattle.lq_text_tree.specs.Items.{ItemTree}
use Rattle.lq_text_walk.specs.Scoped.Scoping.{Scoping, IsScoped}
use Rattle.lq_meaning_normal_form.specs.Binders.Counting.{times, counted_items}
use Rattle.lq_refined_rules.specs.Checks.Binders.{AllDiffer, binders}
use Rattle.lq_meaning_normal_form.specs.Types.Plain.{ItemsArePlain}
use Rattle.lq_meaning_normal_form.specs.Types.Programs.{normal_items}
use Rattle.lq_refined_templates.specs.Points.Annotation.{Annotation}
use Rattle.lq_refined_templates.specs.Points.Reading.{program_of}
use Rattle.lq_sound_readiness.specs.Reading.Normal.{AreNormal}

-- each number stands as often among the binders of what is read as it stands as a binder in the program
abbrev pub ReadBindsTheSame : Type 0
ReadBindsTheSame = (n : Annotation) (is : List ItemTree) → AreNormal is → (x : ℕ) → times x (binders (program_of n is).read) ≡ counted_items x is

-- Where the normal form of a plain scoped program can be read, the binders of what is read of it all differ.
abbrev pub BindersOfNormalFormsDiffer : Type 0
BindersOfNormalFormsDiffer = (s : Scoping) → IsScoped s → let k = length s.sources in ItemsArePlain k s.items → AreNormal (normal_items k s.items)
    → (n : Annotation) → AllDiffer (binders (program_of n (normal_items k s.items)).read)
