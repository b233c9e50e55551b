-- What the parts of a node stand for are the visits inside of it.
use Rattle.std.proofs.Common.{◌≡◌, ℕ, Bool, true, false, List, [], ◌∷◌, ◌++◌, map, Some, None, refl, sym, ap, ◌∙◌, if◌then◌else◌}
use Rattle.std.proofs.lemmas.List.{append_assoc, append-nil}
use Rattle.lq_base_names.specs.declared.place.Place.{Place}
use Rattle.lq_text_tree.specs.Items.{ItemTree, ItemForm, type_of, let_of, let_rec_of}
use Rattle.lq_text_tree.specs.Pattern.{Pattern}
use Rattle.lq_text_tree.specs.Tree as form
use Rattle.lq_text_tree.specs.Tree.{Tree, tree, Form, Trees, no_trees, more_trees, Cases, no_cases, more_cases}
use Rattle.lq_text_tree.specs.TreeView.{Case, Recursive}
use Rattle.lq_text_walk.specs.Walk.Fold.{fold_all, fold_cases}
use Rattle.lq_text_walk.specs.Walk.Parts.{row_parts, arms_parts, match_by, match_parts, parts_of, item_parts}
use Rattle.lq_text_walk.specs.Walk.Pending.{spread, spread_all}
use Rattle.lq_text_walk.specs.Walk.Shape.{shape_of, listed, listed_cases}
use Rattle.lq_text_walk.specs.Walk.Visits.{Visit, enter, enter_item, leave_item, declare, show, hide, leave_function, hide_name, show_name, visiting, visits_of, visits_of_item, visits_of_form, around, under, in_row, in_arms, in_match, in_function, has_let}

pub spread_append : (vs us : List Visit) → spread_all (vs ++ us) ≡ spread_all vs ++ spread_all us
spread_append [] us = refl
spread_append (v ∷ vs) us = ap (λ (l : List Visit). spread v ++ l) (spread_append vs us) ∙ sym (append_assoc (spread v) (spread_all vs) (spread_all us))

row_spread : (ts : Trees) → in_row (fold_all visiting ts) ≡ spread_all (row_parts (listed ts))
row_spread no_trees = refl
row_spread (more_trees t ts) = ap (λ (l : List Visit). visits_of t ++ l) (row_spread ts)

-- a list behind what ends with one visit
ends : (es rest : List Visit) (v : Visit) → (es ++ v ∷ []) ++ rest ≡ es ++ v ∷ rest
ends es rest v = append_assoc es (v ∷ []) rest

arms_spread : (cs : Cases) → in_arms (fold_cases visiting cs) ≡ spread_all (arms_parts (listed_cases cs))
arms_spread no_cases = refl
arms_spread (more_cases p b cs) =
    ap (λ (l : List Visit). declare p ∷ (show p ∷ l)) (ends (visits_of b) (in_arms (fold_cases visiting cs)) (hide p) ∙ ap (λ (l : List Visit). visits_of b ++ hide p ∷ l) (arms_spread cs))

one_arm : (first : Bool) (e : Tree) (p : Pattern) (b : Tree)
    → in_match first (visits_of e) ((record { pattern = p; body = visits_of b }) ∷ [])
    ≡ spread_all (match_by (if first then Some (record { pattern = p; body = b }) else None) e ((record { pattern = p; body = b }) ∷ []))
one_arm true e p b = ap (λ (l : List Visit). declare p ∷ (visits_of e ++ show p ∷ l)) (append-nil (visits_of b ++ hide p ∷ []))
one_arm false e p b = ap (λ (l : List Visit). visits_of e ++ declare p ∷ (show p ∷ l)) (append-nil (visits_of b ++ hide p ∷ []))

match_spread : (e : Tree) (cs : Cases) → in_match (has_let e cs) (visits_of e) (fold_cases visiting cs) ≡ spread_all (match_parts e (listed_cases cs))
match_spread e no_cases = refl
match_spread e (more_cases p b no_cases) = one_arm (has_let e (more_cases p b no_cases)) e p b
match_spread e (more_cases p b (more_cases q c cs)) = ap (λ (l : List Visit). visits_of e ++ l) (arms_spread (more_cases p b (more_cases q c cs)))

-- the visits of a recursive function and of what follows
function_spread : (es rest : List Visit) (h l : Visit) → ((es ++ h ∷ []) ++ l ∷ []) ++ rest ≡ es ++ h ∷ (l ∷ rest)
function_spread es rest h l = append_assoc (es ++ h ∷ []) (l ∷ []) rest ∙ append_assoc es (h ∷ []) (l ∷ rest)

module _ (i : ℕ) (p : Place) where
  abbrev Spreads : Form → Type 0
  Spreads f = visits_of (tree i p f) ≡ around (tree i p f) (spread_all (parts_of (shape_of f)))

  inner : (f : Form) (vs us : List Visit) → vs ≡ us → around (tree i p f) vs ≡ around (tree i p f) us
  inner f vs us = ap (around (tree i p f))

  one : (f : Form) (a : Tree) → around (tree i p f) (visits_of a) ≡ around (tree i p f) (visits_of a ++ [])
  one f a = inner f _ _ (sym (append-nil (visits_of a)))

  two : (f : Form) (a b : Tree) → around (tree i p f) (visits_of a ++ visits_of b) ≡ around (tree i p f) (visits_of a ++ (visits_of b ++ []))
  two f a b = inner f _ _ (ap (λ (l : List Visit). visits_of a ++ l) (sym (append-nil (visits_of b))))

  three : (f : Form) (a b c : Tree) → around (tree i p f) (visits_of a ++ (visits_of b ++ visits_of c)) ≡ around (tree i p f) (visits_of a ++ (visits_of b ++ (visits_of c ++ [])))
  three f a b c = inner f _ _ (ap (λ (l : List Visit). visits_of a ++ (visits_of b ++ l)) (sym (append-nil (visits_of c))))

  row : (f : Form) (ts : Trees) → around (tree i p f) (in_row (fold_all visiting ts)) ≡ around (tree i p f) (spread_all (row_parts (listed ts)))
  row f ts = inner f _ _ (row_spread ts)

  pub spreads : (f : Form) → Spreads f
  spreads (form.whole n) = refl
  spreads (form.flag b) = refl
  spreads form.unit = refl
  spreads (form.use_of x) = refl
  spreads (form.qualified m x) = refl
  spreads (form.fun q b) = refl
  spreads (form.tuple es) = row (form.tuple es) es
  spreads (form.build c w es) = row (form.build c w es) es
  spreads (form.list_of es) = row (form.list_of es) es
  spreads (form.let_in q e b) = refl
  spreads (form.let_rec f j r q e b) =
      inner (form.let_rec f j r q e b) _ _
      (ap (λ (l : List Visit). show_name f ∷ (declare q ∷ (show q ∷ l)))
      (function_spread (visits_of e) (visits_of b ++ hide_name f ∷ []) (hide q) (leave_function (record { id = j; place = r; parameter = q; body = e }))))
  spreads (form.call a b) = two (form.call a b) a b
  spreads (form.arithmetic o a b) = two (form.arithmetic o a b) a b
  spreads (form.negated a) = one (form.negated a) a
  spreads (form.compare o a b) = two (form.compare o a b) a b
  spreads (form.not_of a) = one (form.not_of a) a
  spreads (form.and_of a b) = two (form.and_of a b) a b
  spreads (form.or_of a b) = two (form.or_of a b) a b
  spreads (form.if_else c a b) = three (form.if_else c a b) c a b
  spreads (form.match_on e cs) = inner (form.match_on e cs) _ _ (match_spread e cs)
  spreads (form.chain es) = row (form.chain es) es
  spreads (form.assert a) = one (form.assert a) a
  spreads form.assert_false = refl
  spreads (form.make a b) = two (form.make a b) a b
  spreads (form.length_of a) = one (form.length_of a) a
  spreads (form.fetch a b) = two (form.fetch a b) a b
  spreads (form.store a b c) = three (form.store a b c) a b c
  spreads (form.print a) = one (form.print a) a
  spreads (form.read a) = one (form.read a) a
  spreads form.map_empty = refl
  spreads (form.map_add a b c) = three (form.map_add a b c) a b c
  spreads (form.map_find a b) = two (form.map_find a b) a b

item_spread : (f : ItemForm) → visits_of_form f ≡ spread_all (item_parts f)
item_spread (type_of d) = refl
item_spread (let_of p e) = refl
item_spread (let_rec_of f r) =
    ap (λ (l : List Visit). show_name f ∷ (declare r.parameter ∷ (show r.parameter ∷ l))) (ends (visits_of r.body) (leave_function r ∷ []) (hide r.parameter))

pub item_spreads : (i : ItemTree) → visits_of_item i ≡ enter_item i ∷ (spread_all (item_parts i.form) ++ leave_item i ∷ [])
item_spreads i = ap (λ (l : List Visit). enter_item i ∷ (l ++ leave_item i ∷ [])) (item_spread i.form)
