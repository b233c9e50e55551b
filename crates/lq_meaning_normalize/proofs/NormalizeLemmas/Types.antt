-- The normal form of definitions obeys the rules of types where they do.
use Rattle.std.proofs.Common.{◌≡◌, ℕ, List, [], ◌∷◌, refl, sym, ap, ap₂, subst, ◌∙◌}
use Rattle.lq_text_tree.specs.Items.{ItemTree, ItemForm, type_of, let_of, let_rec_of}
use Rattle.lq_text_tree.specs.Pattern.{Pattern, pattern, any, bind, nothing, tuple_of, build_of}
use Rattle.lq_text_tree.specs.Tree.{Tree}
use Rattle.lq_text_tree.specs.TreeView.{Recursive}
use Rattle.lq_meaning_normal_form.specs.Outcomes.Naming.{behind, matched, parameter, under, named, named_item}
use Rattle.lq_meaning_normal_form.specs.Outcomes.Flattening.{flattened, flattened_item, normal_of}
use Rattle.lq_meaning_normal_form.specs.Outcomes.OnePass.{Normal, OnePassIsBoth, body_under, normal, tree_of}
use Rattle.lq_meaning_normal_form.specs.Types.Laws.{ProgramsKeepTypes}
use Rattle.lq_meaning_normal_form.specs.Types.Made.{with_made}
use Rattle.lq_meaning_normal_form.specs.Types.Plain.{ItemsArePlain}
use Rattle.lq_meaning_normal_form.specs.Types.Programs.{items_made, next_item, normal_item, normal_items, NormalItemsAre}
use Rattle.lq_meaning_normalize.specs.Normalize.Made.{KeepTypes}
use Rattle.lq_meaning_normalize.proofs.NormalizeLemmas.Nexts.{goes}

-- a body under its parameter
body_same : (k : ℕ) (q : Pattern) (N : Normal) (b : Tree) → flattened b ≡ tree_of N → flattened (under k q b) ≡ tree_of (body_under k q N)
body_same k (pattern p any) N b e = e
body_same k (pattern p (bind x)) N b e = e
body_same k (pattern p nothing) N b e = e
body_same k (pattern p (tuple_of qs)) N b e = ap (matched k (pattern p (tuple_of qs)) p) e
body_same k (pattern p (build_of c n qs)) N b e = ap (matched k (pattern p (build_of c n qs)) p) e

module _ (one_pass : OnePassIsBoth) where
  form_same : (k : ℕ) (f : ItemForm) → flattened_item (named_item k f).form ≡ normal_item k f
  form_same k (type_of d) = refl
  form_same k (let_of q e) = ap (let_of q) (sym (one_pass k e))
  form_same k (let_rec_of f r) =
      let n = behind k r.parameter in
      ap (λ b. let_rec_of f (record { id = r.id; place = r.place; parameter = parameter k r.parameter; body = b }))
      (body_same k r.parameter (normal n r.body) (named n r.body) (sym (one_pass n r.body)))

  next_same : (k : ℕ) (f : ItemForm) → (named_item k f).next ≡ next_item k f
  next_same k (type_of d) = refl
  next_same k (let_of q e) = sym (goes e k)
  next_same k (let_rec_of f r) = sym (goes r.body (behind k r.parameter))

  pub program_same : (is : List ItemTree) (k : ℕ) → normal_of k is ≡ normal_items k is
  program_same [] k = refl
  program_same (i ∷ is) k =
      ap₂ (λ f (js : List ItemTree). record { place = i.place; form = f } ∷ js) (form_same k i.form)
      (program_same is (named_item k i.form).next ∙ ap (λ n. normal_items n is) (next_same k i.form))

  pub keeps_types : ProgramsKeepTypes → (k : ℕ) (is js : List ItemTree) → ItemsArePlain k is → js ≡ normal_of k is → KeepTypes k is js
  keeps_types keeps k is js plain same g n knows types =
      subst (NormalItemsAre g (with_made k (items_made g n.nodes k is) n) []) (sym (same ∙ program_same is k)) (keeps g n k is knows plain types)
