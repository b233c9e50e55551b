-- The normal form of a syntactic value is one.
use Rattle.std.proofs.Common.{◌≡◌, ℕ, Bool, true, false, if◌then◌else◌, List, [], ◌∷◌, ◌++◌}
use Rattle.std.proofs.lemmas.Bool.{and_parts, false≢true}
use Rattle.lq_base_names.specs.declared.place.Place.{Place}
use Rattle.lq_meaning_normal_form.specs.Outcomes.Flattening.{Let, let_one, let_function, put_in}
use Rattle.lq_meaning_normal_form.specs.Outcomes.Naming.{stands, id_of, place_of}
use Rattle.lq_meaning_normal_form.specs.Outcomes.OnePass.{Normal, with_name, as_operand, list_of_atoms, normal, normal_of, all_operands, all_items}
use Rattle.lq_sound_scope.specs.Scalars.Scalar.{IsValueTree}
use Rattle.lq_text_tree.specs.Pattern.{pattern, bind}
use Rattle.lq_text_tree.specs.Tree as form
use Rattle.lq_text_tree.specs.Tree.{Tree, tree, Form, Trees, no_trees, more_trees}
use Rattle.lq_types_rules.specs.Typings.Uses.{valuing, all_values, is_value}
use Rattle.lq_text_walk.specs.Walk.Fold.{fold_all}
use Rattle.lq_sound_scope.specs.Values.Laws.{NormalFormsOfValuesAreValues}

abbrev LetIsValue : Let → Type 0
LetIsValue (let_one i p q e) = IsValueTree e
LetIsValue (let_function i p f j m q b) = ⊥

abbrev LetsAreValues : List Let → Type 0
LetsAreValues [] = Unit {0}
LetsAreValues (l ∷ ls) = LetIsValue l × LetsAreValues ls

lets_both : (ls ms : List Let) → LetsAreValues ls → LetsAreValues ms → LetsAreValues (ls ++ ms)
lets_both [] ms h k = k
lets_both (l ∷ ls) ms h k = (h.0, lets_both ls ms h.1 k)

put_value : (ls : List Let) (t : Tree) → LetsAreValues ls → IsValueTree t → IsValueTree (put_in ls t)
put_value [] t h v = v
put_value (let_one i p q e ∷ ls) t h v = (h.0, put_value ls t h.1 v)
put_value (let_function i p f j m q b ∷ ls) t h v = absurd h.0

abbrev Good : Normal → Type 0
Good N = LetsAreValues N.lets × IsValueTree N.last

with_name_good : (i : ℕ) (p : Place) (N : Normal) → Good N → Good (with_name i p N)
with_name_good i p N G = (lets_both N.lets (let_one i p (pattern p (bind N.next)) N.last ∷ []) G.0 (G.1, tt), tt)

choose : (s : Bool) (i : ℕ) (p : Place) (N : Normal) → Good N → Good (if s then N else with_name i p N)
choose true i p N G = G
choose false i p N G = with_name_good i p N G

list_good : (i : ℕ) (p : Place) (k : ℕ) (xs : Trees) → Good (list_of_atoms i p k xs)
list_good i p k no_trees = (tt, tt)
list_good i p k (more_trees x xs) = ((with_name_good i p (list_of_atoms i p k xs) (list_good i p k xs)).0, tt)

mutual
  value_good : (t : Tree) (k : ℕ) → is_value t ≡ true → Good (normal k t)
  value_good (tree i p f) k h = form_good f i p k h

  form_good : (f : Form) (i : ℕ) (p : Place) (k : ℕ) → is_value (tree i p f) ≡ true → Good (normal_of k i p f)
  form_good (form.whole m) i p k h = (tt, tt)
  form_good (form.flag b) i p k h = (tt, tt)
  form_good form.unit i p k h = (tt, tt)
  form_good (form.use_of x) i p k h = (tt, tt)
  form_good (form.fun q b) i p k h = (tt, tt)
  form_good (form.tuple es) i p k h = (operands_good es k h, tt)
  form_good (form.build c w es) i p k h = (operands_good es k h, tt)
  form_good (form.list_of es) i p k h =
      let Q = all_items k es in let L = list_of_atoms i p Q.next Q.atoms in let G = list_good i p Q.next Q.atoms in
      (lets_both Q.lets L.lets (items_good es k h) G.0, G.1)
  form_good f i p k h = absurd (false≢true h)

  operands_good : (es : Trees) (k : ℕ) → all_values (fold_all valuing es) ≡ true → LetsAreValues (all_operands k es).lets
  operands_good no_trees k h = tt
  operands_good (more_trees e es) k h =
      let both = and_parts (is_value e) (all_values (fold_all valuing es)) h in
      let E = as_operand e (normal k e) in
      lets_both E.lets (all_operands E.next es).lets (choose (stands e) (id_of e) (place_of e) (normal k e) (value_good e k both.0)).0
      (operands_good es E.next both.1)

  items_good : (es : Trees) (k : ℕ) → all_values (fold_all valuing es) ≡ true → LetsAreValues (all_items k es).lets
  items_good no_trees k h = tt
  items_good (more_trees e es) k h =
      let both = and_parts (is_value e) (all_values (fold_all valuing es)) h in
      let E = with_name (id_of e) (place_of e) (normal k e) in
      lets_both E.lets (all_items E.next es).lets (with_name_good (id_of e) (place_of e) (normal k e) (value_good e k both.0)).0
      (items_good es E.next both.1)

pub values_are : NormalFormsOfValuesAreValues
values_are k t h = let N = normal k t in let G = value_good t k h in put_value N.lets N.last G.0 G.1
