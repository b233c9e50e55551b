-- The normal form defines by `let rec` what the source does.
use Rattle.std.proofs.Common.{ℕ, ◌+◌, Bool, true, false, ◌&&◌, if◌then◌else◌, List, [], ◌∷◌, ◌++◌, Option}
use Rattle.lq_base_names.specs.declared.place.Place.{Place}
use Rattle.lq_text_tree.specs.Items.{ItemForm, type_of, let_of, let_rec_of}
use Rattle.lq_text_tree.specs.Pattern as p
use Rattle.lq_text_tree.specs.Pattern.{Pattern, pattern}
use Rattle.lq_text_tree.specs.Tree as form
use Rattle.lq_text_tree.specs.Tree.{Tree, tree, Form, Trees, no_trees, more_trees, Cases, no_cases, more_cases}
use Rattle.lq_text_walk.specs.Walk.Fold.{fold_all, fold_cases}
use Rattle.lq_meaning_normal_form.specs.Outcomes.Flattening.{Let, let_one, let_function, put_in}
use Rattle.lq_meaning_normal_form.specs.Outcomes.Naming.{behind, id_of, is_pure, is_use, named_pattern, place_of, stands}
use Rattle.lq_meaning_normal_form.specs.Outcomes.OnePass.{Normal, NormalRow, all_items, all_operands, as_operand, as_scrutinee, body_under, list_of_atoms, normal, normal_cases, normal_of, rest_of_chain, tree_of, with_name}
use Rattle.lq_meaning_normal_form.specs.Types.Programs.{next_item, normal_item}
use Rattle.lq_meaning_normal_form.specs.Types.Written.{Each, EachBody}
use Rattle.lq_generate_reading.specs.SourceNames.Laws.{NormalFormsKeepTexts}
use Rattle.lq_generate_reading.specs.SourceNames.Texts.{FunctionsHaveTexts, HasText, ItemHasTexts, having_texts}

module _ (text : ℕ → Option ℕ) where
  abbrev Fine : Tree → Type 0
  Fine = FunctionsHaveTexts text

  abbrev LetsFine : List Let → Type 0
  LetsFine [] = Unit {0}
  LetsFine (let_one i l q e ∷ ls) = Fine e × LetsFine ls
  LetsFine (let_function i l f j m q b ∷ ls) = HasText text f × Fine b × LetsFine ls

  lets_both : (ls ms : List Let) → LetsFine ls → LetsFine ms → LetsFine (ls ++ ms)
  lets_both [] ms h w = w
  lets_both (let_one i l q e ∷ ls) ms h w = (h.0, lets_both ls ms h.1 w)
  lets_both (let_function i l f j m q b ∷ ls) ms h w = (h.0, h.1, lets_both ls ms h.2 w)

  put_in_fine : (ls : List Let) (t : Tree) → LetsFine ls → Fine t → Fine (put_in ls t)
  put_in_fine [] t h w = w
  put_in_fine (let_one i l q e ∷ ls) t h w = (h.0, put_in_fine ls t h.1 w)
  put_in_fine (let_function i l f j m q b ∷ ls) t h w = (h.0, h.1, put_in_fine ls t h.2 w)

  abbrev NormalFine : Normal → Type 0
  NormalFine N = LetsFine N.lets × Fine N.last

  abbrev AllFine : Trees → Type 0
  AllFine es = Each (fold_all (having_texts text) es)

  abbrev RowFine : NormalRow → Type 0
  RowFine R = LetsFine R.lets × AllFine R.atoms

  tree_fine : (N : Normal) → NormalFine N → Fine (tree_of N)
  tree_fine N h = put_in_fine N.lets N.last h.0 h.1

  with_name_fine : (i : ℕ) (l : Place) (N : Normal) → NormalFine N → NormalFine (with_name i l N)
  with_name_fine i l N h = (lets_both N.lets _ h.0 (h.1, tt), tt)

  named_if_fine : (b : Bool) (i : ℕ) (l : Place) (N : Normal) → NormalFine N → NormalFine (if b then N else with_name i l N)
  named_if_fine true i l N h = h
  named_if_fine false i l N h = with_name_fine i l N h

  operand_fine : (t : Tree) (N : Normal) → NormalFine N → NormalFine (as_operand t N)
  operand_fine t N h = named_if_fine (stands t) (id_of t) (place_of t) N h

  scrutinee_fine : (t : Tree) (N : Normal) → NormalFine N → NormalFine (as_scrutinee t N)
  scrutinee_fine t N h = named_if_fine (is_use t) (id_of t) (place_of t) N h

  under_fine : (k : ℕ) (q : Pattern) (N : Normal) → NormalFine N → NormalFine (body_under k q N)
  under_fine k (pattern l (p.tuple_of qs)) N h = (tt, (tt, (tree_fine N h, tt)))
  under_fine k (pattern l (p.build_of c m qs)) N h = (tt, (tt, (tree_fine N h, tt)))
  under_fine k (pattern l f) N h = h

  cells_fine : (i : ℕ) (l : Place) (k : ℕ) (es : Trees) → AllFine es → NormalFine (list_of_atoms i l k es)
  cells_fine i l k no_trees h = (tt, tt)
  cells_fine i l k (more_trees e es) h =
      let L = with_name i l (list_of_atoms i l k es) in
      let L' : NormalFine L = with_name_fine i l (list_of_atoms i l k es) (cells_fine i l k es h.1) in (L'.0, (h.0, (L'.1, tt)))

  -- one of two ways
  either : (b : Bool) (M N : Normal) → NormalFine M → NormalFine N → NormalFine (if b then M else N)
  either true M N h w = h
  either false M N h w = w

  abbrev operand_at : ℕ → Tree → Normal
  operand_at k t = as_operand t (normal k t)

  both : (A B : Normal) → NormalFine A → NormalFine B → LetsFine (A.lets ++ B.lets) × (Fine A.last × Fine B.last)
  both A B h w = (lets_both A.lets B.lets h.0 w.0, (h.1, w.1))

  mutual
    normal_fine : (k : ℕ) (t : Tree) → Fine t → NormalFine (normal k t)
    normal_fine k (tree i l f) h = form_fine k i l f h

    operand : (k : ℕ) (t : Tree) → Fine t → NormalFine (operand_at k t)
    operand k (tree i l f) h = operand_fine (tree i l f) (normal_of k i l f) (form_fine k i l f h)

    form_fine : (k i : ℕ) (l : Place) (f : Form) → Fine (tree i l f) → NormalFine (normal_of k i l f)
    form_fine k i l (form.fun q b) h = let B = normal (behind k q) b in (tt, tree_fine (body_under k q B) (under_fine k q B (normal_fine (behind k q) b h)))
    form_fine k i l (form.let_in q e b) h =
        let E = normal k e in let B = normal (behind E.next q) b in let U = body_under E.next q B in
        let E' : NormalFine E = normal_fine k e h.0 in
        let U' : NormalFine U = under_fine E.next q B (normal_fine (behind E.next q) b h.1) in (lets_both E.lets _ E'.0 (E'.1, U'.0), U'.1)
    form_fine k i l (form.let_rec f j m q b e) h =
        let B = normal (behind k q) b in
        let E' : NormalFine (normal B.next e) = normal_fine B.next e h.2 in
        ((h.0, tree_fine (body_under k q B) (under_fine k q B (normal_fine (behind k q) b h.1)), E'.0), E'.1)
    form_fine k i l (form.tuple es) h = operands k es h
    form_fine k i l (form.build c w es) h = operands k es h
    form_fine k i l (form.list_of es) h =
        let Q = all_items k es in
        let Q' : RowFine Q = items k es h in
        let L' : NormalFine (list_of_atoms i l Q.next Q.atoms) = cells_fine i l Q.next Q.atoms Q'.1 in (lets_both Q.lets _ Q'.0 L'.0, L'.1)
    form_fine k i l (form.negated e) h = operand k e h
    form_fine k i l (form.not_of e) h = operand k e h
    form_fine k i l (form.length_of e) h = operand k e h
    form_fine k i l (form.assert e) h = operand k e h
    form_fine k i l (form.print e) h = operand k e h
    form_fine k i l (form.read e) h = operand k e h
    form_fine k i l (form.call a b) h = let A = operand_at k a in both A (operand_at A.next b) (operand k a h.0) (operand A.next b h.1)
    form_fine k i l (form.arithmetic o a b) h = let A = operand_at k a in both A (operand_at A.next b) (operand k a h.0) (operand A.next b h.1)
    form_fine k i l (form.compare o a b) h = let A = operand_at k a in both A (operand_at A.next b) (operand k a h.0) (operand A.next b h.1)
    form_fine k i l (form.make a b) h = let A = operand_at k a in both A (operand_at A.next b) (operand k a h.0) (operand A.next b h.1)
    form_fine k i l (form.fetch a b) h = let A = operand_at k a in both A (operand_at A.next b) (operand k a h.0) (operand A.next b h.1)
    form_fine k i l (form.and_of a b) h =
        let A = operand_at k a in let B = normal A.next b in
        let A' = operand k a h.0 in
        either (is_pure a && is_pure b) _ _ (tt, h) (A'.0, (A'.1, tree_fine B (normal_fine A.next b h.1), tt))
    form_fine k i l (form.or_of a b) h =
        let A = operand_at k a in let B = normal A.next b in
        let A' = operand k a h.0 in
        either (is_pure a && is_pure b) _ _ (tt, h) (A'.0, (A'.1, tt, tree_fine B (normal_fine A.next b h.1)))
    form_fine k i l (form.store a n e) h =
        let A = operand_at k a in let N = operand_at A.next n in
        let A' = operand k a h.0 in let N' = operand A.next n h.1 in let E' = operand N.next e h.2 in
        (lets_both A.lets _ A'.0 (lets_both N.lets _ N'.0 E'.0), (A'.1, N'.1, E'.1))
    form_fine k i l (form.if_else c a b) h =
        let C = operand_at k c in let A = normal C.next a in let B = normal A.next b in
        let C' = operand k c h.0 in
        (C'.0, (C'.1, tree_fine A (normal_fine C.next a h.1), tree_fine B (normal_fine A.next b h.2)))
    form_fine k i l (form.match_on e cs) h =
        let E = as_scrutinee e (normal k e) in
        let E' : NormalFine E = scrutinee_fine e (normal k e) (normal_fine k e h.0) in (E'.0, (E'.1, arms E.next cs h.1))
    form_fine k i l (form.chain (more_trees e es)) h = rest i l (normal k e) (normal_fine k e h.0) es h.1
    form_fine k i l f h = (tt, h)

    operands : (k : ℕ) (es : Trees) → AllFine es → RowFine (all_operands k es)
    operands k no_trees h = (tt, tt)
    operands k (more_trees e es) h =
        let E = operand_at k e in
        let E' = operand k e h.0 in let Q' : RowFine (all_operands E.next es) = operands E.next es h.1 in (lets_both E.lets _ E'.0 Q'.0, (E'.1, Q'.1))

    items : (k : ℕ) (es : Trees) → AllFine es → RowFine (all_items k es)
    items k no_trees h = (tt, tt)
    items k (more_trees e es) h =
        let E = with_name (id_of e) (place_of e) (normal k e) in
        let E' : NormalFine E = with_name_fine (id_of e) (place_of e) (normal k e) (normal_fine k e h.0) in
        let Q' : RowFine (all_items E.next es) = items E.next es h.1 in (lets_both E.lets _ E'.0 Q'.0, (E'.1, Q'.1))

    rest : (i : ℕ) (l : Place) (E : Normal) → NormalFine E → (es : Trees) → AllFine es → NormalFine (rest_of_chain i l E es)
    rest i l E E' no_trees h = E'
    rest i l E E' (more_trees e es) h =
        let R' : NormalFine (rest_of_chain i l (normal (E.next + 1) e) es) = rest i l (normal (E.next + 1) e) (normal_fine (E.next + 1) e h.0) es h.1 in
        (lets_both E.lets _ E'.0 (E'.1, R'.0), R'.1)

    arms : (k : ℕ) (cs : Cases) → EachBody (fold_cases (having_texts text) cs) → EachBody (fold_cases (having_texts text) (normal_cases k cs).cases)
    arms k no_cases h = tt
    arms k (more_cases q b cs) h =
        let Q = named_pattern k q in let B = normal Q.next b in (tree_fine B (normal_fine Q.next b h.0), arms B.next cs h.1)

  item_fine : (k : ℕ) (i : ItemForm) → ItemHasTexts text i → ItemHasTexts text (normal_item k i)
  item_fine k (type_of d) h = tt
  item_fine k (let_of q e) h = (h.0, tree_fine (normal k e) (normal_fine k e h.1))
  item_fine k (let_rec_of f r) h =
      let B = normal (behind k r.parameter) r.body in
      (h.0, tree_fine (body_under k r.parameter B) (under_fine k r.parameter B (normal_fine (behind k r.parameter) r.body h.1)))

pub texts_kept : NormalFormsKeepTexts
texts_kept text k [] h = tt
texts_kept text k (i ∷ is) h = (item_fine text k i.form h.0, texts_kept text (next_item k i.form) is h.1)
