-- The normal form of what obeys the rules of types obeys them.
use Rattle.std.specs.Prelude.{◌≡◌, ℕ, ◌<◌, List, [], length}
use Rattle.lq_text_tree.specs.Items.{ItemTree}
use Rattle.lq_text_tree.specs.MlType.{MlType}
use Rattle.lq_text_tree.specs.Tree.{Tree}
use Rattle.lq_text_tree.specs.Types.{Signature, KnowsLists, Names}
use Rattle.lq_text_tree.specs.TypingRules.{Annotation, Every, ItemsAre, TreeIs, type_in}
use Rattle.lq_text_walk.specs.Scoped.Scoping.{Scoping, IsScoped}
use Rattle.lq_meaning_normal_form.specs.Outcomes.OnePass.{normal, tree_of}
use Rattle.lq_meaning_normal_form.specs.Types.Made.{Gives, Runs, made, with_made}
use Rattle.lq_meaning_normal_form.specs.Types.Plain.{IsPlain, ItemsArePlain}
use Rattle.lq_meaning_normal_form.specs.Types.Programs.{items_made, next_items, normal_items, NormalItemsAre}
use Rattle.lq_meaning_normal_form.specs.Types.Written.{ItemsAreWritten}
use Rattle.lq_meaning_normal_form.specs.Types.Typing.{typing_of, used_by}

-- Where an expression obeys the rules under some names, and types for names, which are those of the annotation below a number, give made
-- names the types of what they are bound to, the normal form of the expression obeys the rules with these, and has the same type.
abbrev pub NormalFormKeepsTypes : Type 0
NormalFormKeepsTypes = (g : Signature) (n : Annotation) (binders : ℕ → MlType) (top : ℕ) (ns : Names) (k : ℕ) (t : Tree)
    → KnowsLists g → ((x : ℕ) → x < top → binders x ≡ n.binders x) → IsPlain top t → TreeIs g n Every ns t
    → let m : Annotation = record { nodes = n.nodes; binders = binders } in Gives m (made g n.nodes k t)
    → let T = typing_of g m (used_by m ns) (tree_of (normal k t)) in T.obeys × (T.type ≡ type_in n t)

-- The definitions of a program that obeys the rules obey them in normal form, where made names have the types of what they are bound to, and
-- all else has the types of the source.
abbrev pub ProgramsKeepTypes : Type 0
ProgramsKeepTypes = (g : Signature) (n : Annotation) (k : ℕ) (is : List ItemTree)
    → KnowsLists g → ItemsArePlain k is → ItemsAre g n [] is → NormalItemsAre g (with_made k (items_made g n.nodes k is) n) [] (normal_items k is)

-- The same with any types for names that give made names those of what they are bound to.
abbrev pub ProgramsKeepGivenTypes : Type 0
ProgramsKeepGivenTypes = (g : Signature) (n : Annotation) (k : ℕ) (is : List ItemTree)
    → KnowsLists g → ItemsArePlain k is → ItemsAre g n [] is → Gives n (items_made g n.nodes k is) → NormalItemsAre g n [] (normal_items k is)

-- The made names of a program are numbered from the first one on in the order in which they are bound, up to the next one.
abbrev pub MadeNamesRun : Type 0
MadeNamesRun = (g : Signature) (nodes : ℕ → MlType) (k : ℕ) (is : List ItemTree) → Runs k (items_made g nodes k is) (next_items k is)

-- A scoped program whose trees are as texts have them is plain, where names are below the number of its binders.
abbrev pub ScopedProgramsArePlain : Type 0
ScopedProgramsArePlain = (s : Scoping) → IsScoped s → ItemsAreWritten s.items → ItemsArePlain (length s.sources) s.items
