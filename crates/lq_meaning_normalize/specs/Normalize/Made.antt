-- A program in normal form as it stands in memory, and the names that were made for it.
use Rattle.std.specs.Prelude.{ℕ, ◌+◌, ◌-◌, ◌||◌, nat_lt, not, List, [], Option, Some, None, if◌then◌else◌}
use Rattle.lq_meaning_normal_tree.specs.BlockView.{definitions_view}
use Rattle.lq_meaning_steps.specs.Model.FromTree.{items_of}
use Rattle.lq_meaning_steps.specs.Model.Outcomes.{HaveSameOutcomes}
use Rattle.lq_text_tree.specs.Items.{ItemTree}
use Rattle.lq_text_tree.specs.Types.{Signature, KnowsLists}
use Rattle.lq_text_tree.specs.TypingRules.{Annotation, ItemsAre}
use Rattle.lq_meaning_normal_form.specs.Types.Made.{with_made}
use Rattle.lq_meaning_normal_form.specs.Types.Programs.{items_made, NormalItemsAre}
use Rattle.lq_meaning_normalize.specs.declared.normalize.program.NormalProgram.{NormalProgram}

-- the definitions, the first made name, and the name behind the last one
pub record Normal : Type 0 where
  pub items : List ItemTree
  pub first_made : ℕ
  pub next : ℕ

abbrev pub normal_view : NormalProgram → Normal
normal_view p = record { items = definitions_view p.definitions.items; first_made = p.first_made; next = p.next }

-- the k of a made name `%k`
abbrev pub made_of : Normal → ℕ → Option ℕ
made_of p x = if nat_lt x p.first_made || not (nat_lt x p.next) then None else Some (x - p.first_made + 1)

-- as programs they have the same outcomes
abbrev pub KeepOutcomes : List ItemTree → List ItemTree → Type 0
KeepOutcomes is js = HaveSameOutcomes (items_of is) (items_of js)

-- Where an annotation of the definitions obeys the rules of types, in a signature that knows lists, the others obey them, where made names
-- from a number on have the types of what they are bound to, and all else has those of the annotation.
abbrev pub KeepTypes : ℕ → List ItemTree → List ItemTree → Type 0
KeepTypes k is js = (g : Signature) (n : Annotation) → KnowsLists g → ItemsAre g n [] is
    → NormalItemsAre g (with_made k (items_made g n.nodes k is) n) [] js
