-- One pass and naming go on with the same made name.
use Rattle.std.proofs.Common.{◌≡◌, ℕ, suc, ◌+◌, Bool, true, false, ◌&&◌, if◌then◌else◌, List, [], ◌∷◌, ◌++◌, refl, sym, ap, ◌∙◌}
use Rattle.lq_base_names.specs.declared.place.Place.{Place}
use Rattle.lq_text_tree.specs.Tree as form
use Rattle.lq_text_tree.specs.Tree.{Tree, tree, Form, Trees, no_trees, more_trees, Cases, no_cases, more_cases}
use Rattle.lq_meaning_normal_form.specs.Outcomes.Naming.{is_pure, stands, is_use, id_of, place_of, Block, plain, made, operand, scrutinee, Row, listed, behind, named_pattern, NamedCases, block, block_of, operands, items, chained, cases}
use Rattle.lq_meaning_normal_form.specs.Outcomes.OnePass.{Normal, NormalRow, NormalCases, only, with_name, as_operand, as_scrutinee, list_of_atoms, normal, normal_of, all_operands, all_items, rest_of_chain, normal_cases}

abbrev Goes : Tree → Type 0
Goes t = (k : ℕ) → (normal k t).next ≡ (block k t).next

by_choice : (c : Bool) (N M : Normal) (B C : Block) → N.next ≡ B.next → M.next ≡ C.next → (if c then N else M).next ≡ (if c then B else C).next
by_choice true N M B C e f = e
by_choice false N M B C e f = f

operand_goes : (t : Tree) → Goes t → (k : ℕ) → (as_operand t (normal k t)).next ≡ (operand t (block k t)).next
operand_goes t h k =
    by_choice (stands t) (normal k t) (with_name (id_of t) (place_of t) (normal k t)) (block k t) (made (id_of t) (place_of t) (block k t)) (h k) (ap (λ n. n + 1) (h k))

scrutinee_goes : (t : Tree) → Goes t → (k : ℕ) → (as_scrutinee t (normal k t)).next ≡ (scrutinee t (block k t)).next
scrutinee_goes t h k =
    by_choice (is_use t) (normal k t) (with_name (id_of t) (place_of t) (normal k t)) (block k t) (made (id_of t) (place_of t) (block k t)) (h k) (ap (λ n. n + 1) (h k))

two_go : (a b : Tree) → Goes a → Goes b → (k : ℕ) → (as_operand b (normal (as_operand a (normal k a)).next b)).next ≡ (operand b (block (operand a (block k a)).next b)).next
two_go a b h g k = ap (λ n. (as_operand b (normal n b)).next) (operand_goes a h k) ∙ operand_goes b g (operand a (block k a)).next

behind_two : (a b : Tree) → Goes a → Goes b → (k : ℕ) → (normal (as_operand a (normal k a)).next b).next ≡ (block (operand a (block k a)).next b).next
behind_two a b h g k = ap (λ n. (normal n b).next) (operand_goes a h k) ∙ g (operand a (block k a)).next

-- how many trees
abbrev count : Trees → ℕ
count no_trees = 0
count (more_trees t ts) = suc (count ts)

list_goes : (i : ℕ) (p : Place) (k : ℕ) (xs ys : Trees) → count xs ≡ count ys → (list_of_atoms i p k xs).next ≡ (listed i p k ys).next
list_goes i p k no_trees no_trees e = refl
list_goes i p k no_trees (more_trees y ys) e = absurd (let wrong = e in cc)
list_goes i p k (more_trees x xs) no_trees e = absurd (let wrong = e in cc)
list_goes i p k (more_trees x xs) (more_trees y ys) e = ap (λ n. n + 1) (list_goes i p k xs ys (cc (e)))

record RowGoes (R : Row) (N : NormalRow) : Type 0 where
  next : N.next ≡ R.next
  count : count N.atoms ≡ count R.atoms

list_row : (i : ℕ) (p : Place) (R : Row) (N : NormalRow) → RowGoes R N → (list_of_atoms i p N.next N.atoms).next ≡ (listed i p R.next R.atoms).next
list_row i p R N h = ap (λ k. (list_of_atoms i p k N.atoms).next) h.next ∙ list_goes i p R.next N.atoms R.atoms h.count

mutual
  pub goes : (t : Tree) → Goes t
  goes (tree i p f) k = form_goes f i p k

  form_goes : (f : Form) (i : ℕ) (p : Place) (k : ℕ) → (normal_of k i p f).next ≡ (block_of k i p f).next
  form_goes (form.fun q b) i p k = goes b (behind k q)
  form_goes (form.let_in q e b) i p k = ap (λ n. (normal (behind n q) b).next) (goes e k) ∙ goes b (behind (block k e).next q)
  form_goes (form.let_rec f j n q b e) i p k = ap (λ n. (normal n e).next) (goes b (behind k q)) ∙ goes e (block (behind k q) b).next
  form_goes (form.tuple es) i p k = (operands_go es k).next
  form_goes (form.build c w es) i p k = (operands_go es k).next
  form_goes (form.list_of es) i p k = list_row i p (items k es) (all_items k es) (items_go es k)
  form_goes (form.negated e) i p k = operand_goes e (goes e) k
  form_goes (form.not_of e) i p k = operand_goes e (goes e) k
  form_goes (form.length_of e) i p k = operand_goes e (goes e) k
  form_goes (form.assert e) i p k = operand_goes e (goes e) k
  form_goes (form.print e) i p k = operand_goes e (goes e) k
  form_goes (form.read e) i p k = operand_goes e (goes e) k
  form_goes (form.call a b) i p k = two_go a b (goes a) (goes b) k
  form_goes (form.arithmetic o a b) i p k = two_go a b (goes a) (goes b) k
  form_goes (form.compare o a b) i p k = two_go a b (goes a) (goes b) k
  form_goes (form.make a b) i p k = two_go a b (goes a) (goes b) k
  form_goes (form.fetch a b) i p k = two_go a b (goes a) (goes b) k
  form_goes (form.and_of a b) i p k = by_choice (is_pure a && is_pure b) _ _ _ _ refl (behind_two a b (goes a) (goes b) k)
  form_goes (form.or_of a b) i p k = by_choice (is_pure a && is_pure b) _ _ _ _ refl (behind_two a b (goes a) (goes b) k)
  form_goes (form.store a b c) i p k =
      ap (λ n. (as_operand c (normal n c)).next) (two_go a b (goes a) (goes b) k) ∙ operand_goes c (goes c) (operand b (block (operand a (block k a)).next b)).next
  form_goes (form.if_else a b c) i p k =
      ap (λ n. (normal n c).next) (behind_two a b (goes a) (goes b) k) ∙ goes c (block (operand a (block k a)).next b).next
  form_goes (form.match_on e cs) i p k = ap (λ n. (normal_cases n cs).next) (scrutinee_goes e (goes e) k) ∙ cases_go cs (scrutinee e (block k e)).next
  form_goes (form.chain (more_trees e es)) i p k = chain_goes es i p (normal k e) (block k e) (goes e k)
  form_goes (form.chain no_trees) i p k = refl
  form_goes (form.whole n) i p k = refl
  form_goes (form.flag b) i p k = refl
  form_goes form.unit i p k = refl
  form_goes (form.use_of x) i p k = refl
  form_goes (form.qualified m x) i p k = refl
  form_goes form.assert_false i p k = refl
  form_goes form.map_empty i p k = refl
  form_goes (form.map_add a b c) i p k = refl
  form_goes (form.map_find a b) i p k = refl

  operands_go : (es : Trees) (k : ℕ) → RowGoes (operands k es) (all_operands k es)
  operands_go no_trees k = record { next = refl; count = refl }
  operands_go (more_trees e es) k =
      let rest = operands_go es (operand e (block k e)).next in
      let same = operand_goes e (goes e) k in
      record { next = ap (λ n. (all_operands n es).next) same ∙ rest.next; count = ap (λ n. suc (count (all_operands n es).atoms)) same ∙ ap suc rest.count }

  items_go : (es : Trees) (k : ℕ) → RowGoes (items k es) (all_items k es)
  items_go no_trees k = record { next = refl; count = refl }
  items_go (more_trees e es) k =
      let rest = items_go es ((block k e).next + 1) in
      let same = ap (λ n. n + 1) (goes e k) in
      record { next = ap (λ n. (all_items n es).next) same ∙ rest.next; count = ap (λ n. suc (count (all_items n es).atoms)) same ∙ ap suc rest.count }

  chain_goes : (es : Trees) (i : ℕ) (p : Place) (N : Normal) (B : Block) → N.next ≡ B.next → (rest_of_chain i p N es).next ≡ (chained i p B es).next
  chain_goes no_trees i p N B e = e
  chain_goes (more_trees t ts) i p N B e =
      ap (λ n. (rest_of_chain i p (normal (n + 1) t) ts).next) e ∙ chain_goes ts i p (normal (B.next + 1) t) (block (B.next + 1) t) (goes t (B.next + 1))

  cases_go : (cs : Cases) (k : ℕ) → (normal_cases k cs).next ≡ (cases k cs).next
  cases_go no_cases k = refl
  cases_go (more_cases q b cs) k =
      let n = (named_pattern k q).next in ap (λ m. (normal_cases m cs).next) (goes b n) ∙ cases_go cs (block n b).next
