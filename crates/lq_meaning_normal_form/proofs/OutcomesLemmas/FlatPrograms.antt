-- Flattening keeps what programs mean, and so does the normal form.
use Rattle.std.proofs.Common.{ℕ, inr, List, [], ◌∷◌, refl, sym, ap, ◌∙◌}
use Rattle.lq_text_tree.specs.Items.{ItemTree, ItemForm, type_of, let_of, let_rec_of}
use Rattle.lq_meaning_steps.specs.Model.Core.{bound_in, v_rec, Pairs, without, close}
use Rattle.lq_meaning_steps.specs.Model.Operations.{World}
use Rattle.lq_meaning_steps.specs.Model.Program.{Item}
use Rattle.lq_meaning_steps.specs.Model.Meaning.{meaning, defining, items_meaning}
use Rattle.lq_meaning_steps.specs.Model.FromTree.{parameter_of, core_of, items_of, with_item}
use Rattle.lq_meaning_normal_form.specs.Outcomes.Naming.{named_items}
use Rattle.lq_meaning_normal_form.specs.Outcomes.Flattening.{flattened, flattened_item, flattened_items, normal_of}
use Rattle.lq_meaning_normal_form.specs.Outcomes.Flattened.{none, IsFlattened, ClearItem, ClearItems, FlatteningKeepsPrograms, NormalFormKeepsOutcomes}
use Rattle.lq_meaning_normal_form.specs.Outcomes.Alike.{alike_unit, alike_rec, AlikePairs, no_pairs, both_have, AlikeWorlds, alike_answers}
use Rattle.lq_meaning_normal_form.specs.Outcomes.Named.{NamingKeepsPrograms}
use Rattle.lq_meaning_steps.specs.Model.Outcomes.{NeverStuckByMeaning, SameMeaningSameOutcomes}
use Rattle.lq_meaning_normal_form.proofs.OutcomesLemmas.Alikes.{then_alike}
use Rattle.lq_meaning_normal_form.proofs.OutcomesLemmas.Calls.{Environments}
use Rattle.lq_meaning_normal_form.proofs.OutcomesLemmas.FlatKeeps.{flattening_keeps}
use Rattle.lq_meaning_normal_form.proofs.OutcomesLemmas.Programs.{defining_alike, same_answered}

module _ (laws : Environments) (n : ℕ) where
  abbrev RestKeeps : List Item → List Item → Type 0
  RestKeeps is js =
      (d g : Pairs) (w t : World) → AlikePairs IsFlattened none d g → AlikeWorlds IsFlattened w t → alike_answers IsFlattened (items_meaning n is d w) (items_meaning n js g t)

  item_flat : (f : ItemForm) → ClearItem f → (is js : List Item) → RestKeeps is js → RestKeeps (with_item f is) (with_item (flattened_item f) js)
  item_flat (type_of x) av is js rest d g w t rel world = rest d g w t rel world
  item_flat (let_of q e) av is js rest d g w t rel world =
      then_alike IsFlattened (meaning n (core_of e) d w) (meaning n (core_of (flattened e)) g t) (λ v u. items_meaning n is (defining (parameter_of q) v d) u) (λ v u. items_meaning n js (defining (parameter_of q) v g) u)
      (flattening_keeps laws n none e d g w t av rel world) (λ v u x y a world2.
      rest (defining (parameter_of q) v d) (defining (parameter_of q) u g) x y (defining_alike IsFlattened (parameter_of q) v u none d g a rel) world2)
  item_flat (let_rec_of f r) av is js rest d g w t rel world =
      let q = r.parameter in
      let b = core_of r.body in
      let c = core_of (flattened r.body) in
      let x = close (without (f ∷ bound_in (parameter_of q)) d) b in
      let y = close (without (f ∷ bound_in (parameter_of q)) g) c in
      rest ((f, v_rec f (parameter_of q) x) ∷ d) ((f, v_rec f (parameter_of q) y) ∷ g) w t (both_have none f (v_rec f (parameter_of q) x) (v_rec f (parameter_of q) y) d g
      (alike_rec none f (parameter_of q) (parameter_of q) b c x y d g (record { body = r.body; clear = av; source = refl; parameter = refl; flattened = refl }) rel refl refl) rel) world

  pub items_flat : (is : List ItemTree) → ClearItems is → RestKeeps (items_of is) (items_of (flattened_items is))
  items_flat [] av d g w t rel world = (alike_unit, world)
  items_flat (i ∷ is) av d g w t rel world = item_flat i.form av.0 (items_of is) (items_of (flattened_items is)) (items_flat is av.1) d g w t rel world

pub flattening_keeps_programs : Environments → FlatteningKeepsPrograms
flattening_keeps_programs laws is av never input n =
    let w : World = record { arrays = []; input = input; output = [] } in
    same_answered IsFlattened (items_meaning n (items_of is) [] w) (items_meaning n (items_of (flattened_items is)) [] w)
    (items_flat laws n is av [] [] w w (no_pairs none) (record { arrays = tt; input = refl; output = refl })) (never input n)

pub normal_form_keeps : SameMeaningSameOutcomes → NeverStuckByMeaning → NamingKeepsPrograms → FlatteningKeepsPrograms → NormalFormKeepsOutcomes
normal_form_keeps outcomes by_meaning naming flattening k is av clear never =
    outcomes (items_of is) (items_of (normal_of k is)) (λ n input. inr (
    sym (flattening (named_items k is) clear (λ input2 m stuck2. never input2 m (ap (λ o. o.ending) (sym (naming k is av never input2 m)) ∙ stuck2)) input n ∙ naming k is av never input n)))
    ((by_meaning (items_of is)).1 never)
