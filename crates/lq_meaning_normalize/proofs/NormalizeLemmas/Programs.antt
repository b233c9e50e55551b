-- The pass makes the normal form of definitions that have rules.
use Rattle.std.proofs.Common.{◌≡◌, ℕ, Bool, true, false, ◌&&◌, List, [], ◌∷◌, ◌++◌, refl, sym, ap, subst, ◌∙◌}
use Rattle.lq_base_names.specs.declared.place.Place.{Place}
use Rattle.lq_text_tree.specs.Items.{ItemTree, ItemForm, type_of, let_of, let_rec_of}
use Rattle.lq_text_tree.specs.Pattern.{Pattern, pattern, any, bind, nothing, tuple_of, build_of}
use Rattle.lq_text_tree.specs.Tree.{Tree}
use Rattle.lq_text_tree.specs.TreeView.{Recursive}
use Rattle.lq_meaning_normal_form.specs.Outcomes.Naming.{behind, parameter, under, block, closed, named, named_item}
use Rattle.lq_meaning_normal_form.specs.Outcomes.Flattening.{flattened, flattened_item, normal_of}
use Rattle.lq_meaning_steps.specs.Model.FromTree.{items_of, with_item}
use Rattle.lq_meaning_steps.specs.Model.Program.{Item, IsNeverStuck}
use Rattle.lq_meaning_normal_form.specs.Outcomes.Apart.{ApartItems, NormalFormKeeps}
use Rattle.lq_meaning_normal_form.specs.Outcomes.Named.{from, AvoidsItems}
use Rattle.lq_meaning_steps.specs.Progress.Programs.{AnnotatedIsNeverStuck}
use Rattle.lq_meaning_normal_form.specs.Outcomes.OnePass.{OnePassIsBoth, normal, tree_of}
use Rattle.lq_meaning_normalize.specs.Pass.Forming.{Formed, block_of, body_under, formed}
use Rattle.lq_meaning_normalize.specs.Pass.Rules.{has_rules, item_has_rules, items_have_rules, PassAgrees}
use Rattle.lq_meaning_normal_form.specs.Types.Programs.{HaveTypes}
use Rattle.lq_meaning_normalize.specs.Normalize.Made.{KeepOutcomes}
use Rattle.lq_meaning_normalize.specs.Normalize.Program.{formed_body, formed_function, formed_item, formed_program, next_behind}
use Rattle.lq_meaning_normalize.proofs.NormalizeLemmas.Nexts.{goes}

both_true : (a b : Bool) → (a && b) ≡ true → (a ≡ true) × (b ≡ true)
both_true true true h = (refl, refl)
both_true true false h = cc
both_true false b h = cc

-- a body under its parameter is flattened inside
under_flat : (k : ℕ) (q : Pattern) (b : Tree) → body_under k q (flattened b) ≡ flattened (under k q b)
under_flat k (pattern p any) b = refl
under_flat k (pattern p (bind x)) b = refl
under_flat k (pattern p nothing) b = refl
under_flat k (pattern p (tuple_of qs)) b = refl
under_flat k (pattern p (build_of c n qs)) b = refl

module _ (one_pass : OnePassIsBoth) (agrees : PassAgrees) where
  block_is : (k : ℕ) (t : Tree) → has_rules t ≡ true → block_of (formed [] k t) ≡ flattened (named k t)
  block_is k t h = ap block_of (agrees [] k t h) ∙ one_pass k t

  next_is : (k : ℕ) (t : Tree) → has_rules t ≡ true → (formed [] k t).next ≡ (block k t).next
  next_is k t h = ap (λ (F : Formed). F.next) (agrees [] k t h) ∙ goes t k

  abbrev the_function : Recursive → ℕ → Tree → Recursive
  the_function r k b = record { id = r.id; place = r.place; parameter = parameter k r.parameter; body = b }

  abbrev the_item : Place → ItemForm → ItemTree
  the_item p f = record { place = p; form = f }

  item_is : (k : ℕ) (p : Place) (f : ItemForm) → item_has_rules f ≡ true → formed_item k p f ≡ the_item p (flattened_item (named_item k f).form) ∷ []
  item_is k p (type_of d) h = cc
  item_is k p (let_of q e) h = ap (λ b. the_item p (let_of q b) ∷ []) (block_is k e h)
  item_is k p (let_rec_of f r) h =
      let n = behind k r.parameter in
      ap (λ b. the_item p (let_rec_of f (the_function r k b)) ∷ [])
      (ap (body_under k r.parameter) (block_is n r.body h) ∙ under_flat k r.parameter (named n r.body))

  item_next : (k : ℕ) (f : ItemForm) → item_has_rules f ≡ true → next_behind k f ≡ (named_item k f).next
  item_next k (type_of d) h = cc
  item_next k (let_of q e) h = next_is k e h
  item_next k (let_rec_of f r) h = next_is (behind k r.parameter) r.body h

  pub program_is : (is : List ItemTree) (k : ℕ) → items_have_rules is ≡ true → formed_program k is ≡ normal_of k is
  program_is [] k h = refl
  program_is (i ∷ is) k h =
      let w = both_true (item_has_rules i.form) (items_have_rules is) h in
      ap (λ (js : List ItemTree). js ++ formed_program (next_behind k i.form) is) (item_is k i.place i.form w.0)
      ∙ ap (λ n. the_item i.place (flattened_item (named_item k i.form).form) ∷ formed_program n is) (item_next k i.form w.0)
      ∙ ap (λ (js : List ItemTree). the_item i.place (flattened_item (named_item k i.form).form) ∷ js) (program_is is (named_item k i.form).next w.1)

-- ---- outcomes

items_append : (ts is : List ItemTree) → items_of (ts ++ is) ≡ items_of ts ++ items_of is
items_append [] is = refl
items_append (t ∷ ts) is = ap (with_item t.form) (items_append ts is) ∙ by_form t.form
  where
    by_form : (f : ItemForm) → with_item f (items_of ts ++ items_of is) ≡ with_item f (items_of ts) ++ items_of is
    by_form (type_of d) = refl
    by_form (let_of q e) = refl
    by_form (let_rec_of f r) = refl

pub keeps_outcomes : NormalFormKeeps → AnnotatedIsNeverStuck → (k : ℕ) (is js : List ItemTree) → AvoidsItems (from k) is → ApartItems k is → js ≡ normal_of k is
    → HaveTypes is → KeepOutcomes is js
keeps_outcomes keeps typed k is js avoids apart same types =
    let never = typed types.0 (types.1 ++ is) types.3 in
    let stays : IsNeverStuck (items_of is) = subst IsNeverStuck (items_append types.1 is ∙ ap (λ (l : List Item). l ++ items_of is) types.2) never in
    subst (KeepOutcomes is) (sym same) (keeps k is avoids apart stays)
