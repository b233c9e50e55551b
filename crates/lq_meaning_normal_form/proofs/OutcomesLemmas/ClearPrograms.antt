-- The items that naming makes of apart ones are clear.
use Rattle.std.proofs.Common.{ℕ, ◌≤◌, List, [], ◌∷◌, refl, ap, ◌∙◌, arith}
use Rattle.lq_text_tree.specs.Items.{ItemTree, ItemForm, type_of, let_of, let_rec_of}
use Rattle.lq_meaning_steps.specs.Model.FromTree.{items_of}
use Rattle.lq_meaning_steps.specs.Model.Adequacy.{IsAdequateOfPrograms}
use Rattle.lq_meaning_normal_form.specs.Outcomes.Naming.{closed, block, behind, named_item, named_items}
use Rattle.lq_meaning_normal_form.specs.Outcomes.Named.{from, AvoidsItem, AvoidsItems}
use Rattle.lq_meaning_normal_form.specs.Outcomes.Flattened.{none, ClearItem, ClearItems, NormalFormKeepsOutcomes}
use Rattle.lq_meaning_normal_form.specs.Outcomes.Apart.{ApartItem, ApartItems, NamedAreClear, NormalFormKeeps}
use Rattle.lq_meaning_normal_form.proofs.OutcomesLemmas.Patterns.{behind_later}
use Rattle.lq_meaning_normal_form.proofs.OutcomesLemmas.Clears.{named_clear, under_clear}

item_clear : (base : ℕ) (f : ItemForm) → AvoidsItem (from base) f → ApartItem base f → (k : ℕ) → base ≤ k → (k ≤ (named_item k f).next) × ClearItem (named_item k f).form
item_clear base (type_of d) av ap_ k le = (omega arith, tt)
item_clear base (let_of q e) av ap_ k le = named_clear base e av ap_ k le
item_clear base (let_rec_of f r) av ap_ k le =
    let q = r.parameter in
    let n = behind k q in
    let first = behind_later q k in
    let more : base ≤ n = omega (arith, le, first) in
    let K = named_clear base r.body av ap_ n more in
    let second = K.0 in
    (omega (arith, first, second), under_clear base q k (closed (block n r.body)) none refl K.1)

items_clear : (base : ℕ) (is : List ItemTree) → AvoidsItems (from base) is → ApartItems base is → (k : ℕ) → base ≤ k → ClearItems (named_items k is)
items_clear base [] av ap_ k le = tt
items_clear base (i ∷ is) av ap_ k le =
    let K = item_clear base i.form av.0 ap_.0 k le in
    let later = K.0 in
    let more : base ≤ (named_item k i.form).next = omega (arith, le, later) in
    (K.1, items_clear base is av.1 ap_.1 (named_item k i.form).next more)

pub named_are_clear : NamedAreClear
named_are_clear k is av ap_ = items_clear k is av ap_ k (omega arith)

pub normal_form_keeps : IsAdequateOfPrograms → NamedAreClear → NormalFormKeepsOutcomes → NormalFormKeeps
normal_form_keeps there clear keeps k is av ap_ never =
    keeps k is av (clear k is av ap_) (λ input n e. let a = there (items_of is) input n in never input a.0 (ap (λ o. o.ending) a.1 ∙ e))
