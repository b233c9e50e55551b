-- Naming keeps what programs mean.
use Rattle.std.proofs.Common.{◌≡◌, ℕ, ◌≤◌, Bool, true, false, ◌==◌, if◌then◌else◌, List, [], ◌∷◌, refl, sym, ap, ◌∙◌, arith}
use Rattle.std.specs.List.{list_any}
use Rattle.lq_text_tree.specs.Items.{ItemTree, ItemForm, type_of, let_of, let_rec_of}
use Rattle.lq_meaning_steps.specs.Model.Core.{variables_of, Parameter, ignored, variable, empty, matched, bound_in, Value, v_rec, Pairs, without, close}
use Rattle.lq_meaning_steps.specs.Model.Operations.{World}
use Rattle.lq_meaning_steps.specs.Model.Program.{Item, stuck}
use Rattle.lq_meaning_steps.specs.Model.Meaning.{Answer, comes, fails, runs_out, too_deep, gets_stuck, call_meaning, meaning, defining, items_meaning, answered}
use Rattle.lq_meaning_steps.specs.Model.FromTree.{parameter_of, core_of, items_of, with_item}
use Rattle.lq_meaning_normal_form.specs.Outcomes.Naming.{closed, block, behind, parameter, under, named_item, named_items}
use Rattle.lq_meaning_normal_form.specs.Outcomes.Alike.{CodeRelation, Alike, alike_unit, alike_rec, AlikePairs, no_pairs, both_have, one_has, AlikeWorlds, alike_answers}
use Rattle.lq_meaning_normal_form.specs.Outcomes.Named.{from, IsNamed, AvoidsItem, AvoidsItems, NamingKeepsPrograms}
use Rattle.lq_meaning_normal_form.proofs.OutcomesLemmas.Alikes.{then_alike}
use Rattle.lq_meaning_normal_form.proofs.OutcomesLemmas.Patterns.{behind_later}
use Rattle.lq_meaning_normal_form.proofs.OutcomesLemmas.Keeps.{naming_later_by}
use Rattle.lq_meaning_normal_form.proofs.OutcomesLemmas.Calls.{Environments, calls_keep, naming_keeps}

module _ (Code : CodeRelation) where
  kept_both : (out : Bool) (hidden : ℕ → Bool) (x : ℕ) (v u : Value) (d g : Pairs) → Alike Code v u → AlikePairs Code hidden d g
      → AlikePairs Code hidden (if out then d else (x, v) ∷ d) (if out then g else (x, u) ∷ g)
  kept_both true hidden x v u d g a rel = rel
  kept_both false hidden x v u d g a rel = both_have hidden x v u d g a rel

  kept_one : (out : Bool) (hidden : ℕ → Bool) (x : ℕ) (u : Value) (d g : Pairs) → hidden x ≡ true → AlikePairs Code hidden d g → AlikePairs Code hidden d (if out then g else (x, u) ∷ g)
  kept_one true hidden x u d g is rel = rel
  kept_one false hidden x u d g is rel = one_has hidden x u d g is rel

  pub pairs_without : (xs : List ℕ) (hidden : ℕ → Bool) (d g : Pairs) → AlikePairs Code hidden d g → AlikePairs Code hidden (without xs d) (without xs g)
  pairs_without xs hidden d g (no_pairs h) = no_pairs h
  pairs_without xs hidden d g (both_have h x v u ps qs a rel) = kept_both (list_any (λ y. y == x) xs) h x v u (without xs ps) (without xs qs) a (pairs_without xs h ps qs rel)
  pairs_without xs hidden d g (one_has h x u ps qs is rel) = kept_one (list_any (λ y. y == x) xs) h x u (without xs ps) (without xs qs) is (pairs_without xs h ps qs rel)

  pub defining_alike : (q : Parameter) (v u : Value) (hidden : ℕ → Bool) (d g : Pairs) → Alike Code v u → AlikePairs Code hidden d g → AlikePairs Code hidden (defining q v d) (defining q u g)
  defining_alike ignored v u hidden d g a rel = rel
  defining_alike empty v u hidden d g a rel = rel
  defining_alike (variable x) v u hidden d g a rel = both_have hidden x v u d g a rel
  defining_alike (matched p q) v u hidden d g a rel = pairs_without (variables_of q) hidden d g rel

  -- an answer that is alike to one that isn't stuck gives the same outcome
  pub same_answered : (a b : Answer) → alike_answers Code a b → ((answered a).ending ≡ stuck → ⊥) → answered b ≡ answered a
  same_answered (gets_stuck w) b h never = absurd (never refl)
  same_answered (comes v w) (comes u t) h never = let e = h.1.output in ap (λ l. answered (comes v (record w { output = l }))) (sym e)
  same_answered (fails k p w) (fails l q t) h never =
      let e = h.2.output in let i = h.0 in let j = h.1 in
      sym (ap (λ o. answered (fails k p (record w { output = o }))) e ∙ ap (λ m. answered (fails m p t)) i ∙ ap (λ m. answered (fails l m t)) j)
  same_answered (runs_out p w) (runs_out q t) h never =
      let e = h.1.output in let j = h.0 in sym (ap (λ o. answered (runs_out p (record w { output = o }))) e ∙ ap (λ m. answered (runs_out m t)) j)
  same_answered (too_deep w) (too_deep t) h never = let e = h.output in sym (ap (λ o. answered (too_deep (record w { output = o }))) e)
  same_answered _ _ h never = absurd h

module _ (laws : Environments) (base n : ℕ) where
  abbrev RestKeeps : List Item → List Item → Type 0
  RestKeeps is js =
      (d g : Pairs) (w t : World) → AlikePairs (IsNamed base) (from base) d g → AlikeWorlds (IsNamed base) w t
      → alike_answers (IsNamed base) (items_meaning n is d w) (items_meaning n js g t)

  item_later : (f : ItemForm) (k : ℕ) → base ≤ k → AvoidsItem (from base) f → k ≤ (named_item k f).next
  item_later (type_of x) k le av = omega arith
  item_later (let_of q e) k le av = naming_later_by base (call_meaning n) (calls_keep base laws n) e av k le
  item_later (let_rec_of f r) k le av =
      let first = behind_later r.parameter k in
      let more : base ≤ behind k r.parameter = omega (arith, le, first) in
      let second = naming_later_by base (call_meaning n) (calls_keep base laws n) r.body av (behind k r.parameter) more in omega (arith, first, second)

  item_keeps : (f : ItemForm) (k : ℕ) → base ≤ k → AvoidsItem (from base) f → (is js : List Item) → RestKeeps is js → RestKeeps (with_item f is) (with_item (named_item k f).form js)
  item_keeps (type_of x) k le av is js rest d g w t rel world = rest d g w t rel world
  item_keeps (let_of q e) k le av is js rest d g w t rel world =
      then_alike (IsNamed base) (meaning n (core_of e) d w) (meaning n (core_of (closed (block k e))) g t) (λ v u. items_meaning n is (defining (parameter_of q) v d) u) (λ v u. items_meaning n js (defining (parameter_of q) v g) u)
      (naming_keeps laws base n k e d g w t le av rel world) (λ v u x y a world2.
      rest (defining (parameter_of q) v d) (defining (parameter_of q) u g) x y (defining_alike (IsNamed base) (parameter_of q) v u (from base) d g a rel) world2)
  item_keeps (let_rec_of f r) k le av is js rest d g w t rel world =
      let q = r.parameter in
      let b = core_of r.body in
      let c = core_of (under k q (closed (block (behind k q) r.body))) in
      let x = close (without (f ∷ bound_in (parameter_of q)) d) b in
      let y = close (without (f ∷ bound_in (parameter_of (parameter k q))) g) c in
      rest ((f, v_rec f (parameter_of q) x) ∷ d) ((f, v_rec f (parameter_of (parameter k q)) y) ∷ g) w t (both_have (from base) f (v_rec f (parameter_of q) x) (v_rec f (parameter_of (parameter k q)) y) d g
      (alike_rec (from base) f (parameter_of q) (parameter_of (parameter k q)) b c x y d g (record { pattern = q; taken = refl; body = r.body; first = k; hides = refl; above = le; avoids = av; source = refl; parameter = refl; named = refl }) rel refl refl) rel) world

  items_keep : (is : List ItemTree) (k : ℕ) → base ≤ k → AvoidsItems (from base) is → RestKeeps (items_of is) (items_of (named_items k is))
  items_keep [] k le av d g w t rel world = (alike_unit, world)
  items_keep (i ∷ is) k le av d g w t rel world =
      let m = (named_item k i.form).next in
      let later = item_later i.form k le av.0 in
      let more : base ≤ m = omega (arith, le, later) in
      item_keeps i.form k le av.0 (items_of is) (items_of (named_items m is)) (items_keep is m more av.1) d g w t rel world

  pub program_keeps : (is : List ItemTree) (k : ℕ) → base ≤ k → AvoidsItems (from base) is → (w : World) → AlikeWorlds (IsNamed base) w w
      → alike_answers (IsNamed base) (items_meaning n (items_of is) [] w) (items_meaning n (items_of (named_items k is)) [] w)
  program_keeps is k le av w world = items_keep is k le av [] [] w w (no_pairs (from base)) world

pub naming_keeps_programs : Environments → NamingKeepsPrograms
naming_keeps_programs laws k is av never input n =
    let w : World = record { arrays = []; input = input; output = [] } in
    same_answered (IsNamed k) (items_meaning n (items_of is) [] w) (items_meaning n (items_of (named_items k is)) [] w)
    (program_keeps laws k n is k (omega arith) av w (record { arrays = tt; input = refl; output = refl })) (never input n)
