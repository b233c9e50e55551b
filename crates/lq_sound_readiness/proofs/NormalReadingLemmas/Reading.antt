-- The normal form of a program that suits can be read.
use Rattle.std.proofs.Common.{ℕ, [], ◌∷◌, sym, subst}
use Rattle.lq_text_tree.specs.Items.{ItemForm, type_of, let_of, let_rec_of}
use Rattle.lq_text_tree.specs.Pattern as p
use Rattle.lq_text_tree.specs.Pattern.{pattern}
use Rattle.lq_meaning_normal_form.specs.Outcomes.Naming.{behind}
use Rattle.lq_meaning_normal_form.specs.Outcomes.OnePass.{Normal, normal, tree_of}
use Rattle.lq_meaning_normal_form.specs.Types.Programs.{next_item, normal_item}
use Rattle.lq_sound_readiness.specs.Reading.Normal.{IsBlock, IsItem, item_type, item_name, item_any, item_unit, item_function}
use Rattle.lq_sound_readiness.specs.NormalReading.Laws.{NormalFormsCanBeRead}
use Rattle.lq_sound_readiness.specs.NormalReading.Suits.{ItemSuits}
use Rattle.lq_sound_readiness.proofs.NormalReadingLemmas.Lets.{block_is, parameter_is, under_same}
use Rattle.lq_sound_readiness.proofs.NormalReadingLemmas.Shapes.{tree_is}

item_is : (k : ℕ) (i : ItemForm) → ItemSuits i → IsItem (normal_item k i)
item_is k (type_of d) h = item_type
item_is k (let_of (pattern l p.any) e) h = item_any (block_is e (normal k e) (tree_is k e h.1))
item_is k (let_of (pattern l (p.bind x)) e) h = item_name (block_is e (normal k e) (tree_is k e h.1))
item_is k (let_of (pattern l p.nothing) e) h = item_unit (block_is e (normal k e) (tree_is k e h.1))
item_is k (let_of (pattern l (p.tuple_of qs)) e) h = cc
item_is k (let_of (pattern l (p.build_of c m qs)) e) h = cc
item_is k (let_rec_of f r) h =
    let B = normal (behind k r.parameter) r.body in
    item_function (parameter_is k r.parameter)
    (subst (λ (N : Normal). IsBlock (tree_of N)) (sym (under_same r.parameter k B h.0)) (block_is r.body B (tree_is (behind k r.parameter) r.body h.1)))

pub items_are : NormalFormsCanBeRead
items_are k [] h = tt
items_are k (i ∷ is) h = (item_is k i.form h.0, items_are (next_item k i.form) is h.1)
