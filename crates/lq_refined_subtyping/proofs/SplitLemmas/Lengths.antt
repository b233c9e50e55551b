-- A subtyping has as many implications as its right type makes on the right and its left type on the left.
use Rattle.std.proofs.Common.{◌≡◌, ℕ, suc, ◌+◌, Bool, true, false, cond, ◌==◌, List, [], ◌∷◌, ◌++◌, Option, Some, None, ◌<◌, get_or, length, map, take, refl, sym, ap, ap₂, ◌∙◌, arith}
use Rattle.std.proofs.lemmas.List.{length-append, map_push, take_more}
use Rattle.lq_refined_types.specs.Parts.Part.{known, unknown, Parts, Scopes, is_truth, parts_by}
use Rattle.lq_refined_types.specs.Parts.Substitution.{swap, Subst, formula_by}
use Rattle.lq_logic_predicates.specs.Formula.{Formula, truth, falsity, flag, compare, objects, negation, conjunction, disjunction, equivalence}
use Rattle.lq_logic_predicates.specs.Sum.{same_symbol}
use Rattle.lq_logic_predicates.specs.declared.symbol.Symbol.{Symbol}
use Rattle.lq_logic_predicates.specs.declared.symbol.Symbol.TheVariants.{Position}
use Rattle.lq_text_tree.specs.MlType as ml
use Rattle.lq_text_tree.specs.MlType.{MlType, MlTypes}
use Rattle.lq_refined_types.specs.Types.Context.{name, Context}
use Rattle.lq_refined_types.specs.Types.Operations.{atom_of, symbol_of, type_by, types_by, renamed}
use Rattle.lq_refined_types.specs.Types.Refined.{Matrix, Cell, erased, Refined, int_with, bool_with, unit_type, function, tuple_of, array_with, data_with, map_with, type_variable, Refineds, none, more, Kind, number, truth_value, object, other, kind, top}
use Rattle.lq_refined_types.specs.Types.Unfolding.{cell}
use Rattle.lq_refined_types.specs.Subtyping.Implication.{Origin, Implication, goals}
use Rattle.lq_refined_types.specs.Subtyping.Shaped.{HasShape, shape_int, shape_bool, shape_unit, shape_function, shape_tuple, shape_array, shape_data, shape_map, shape_variable, HaveShapes, shapes_none, shapes_more}
use Rattle.lq_refined_types.specs.Subtyping.Splitting.{tops, cells, inside, components, arguments, split}
use Rattle.lq_refined_types.specs.Subtyping.Subtype.{Setting, shared, with_binder, with_key, cell_context, facts}
use Rattle.lq_refined_subtyping.specs.declared.table.forms.Cell as code
use Rattle.lq_refined_subtyping.specs.Table.Forms.{at, cell_view, each, row_of}
use Rattle.lq_refined_substitution.specs.declared.substitution.parts.Part as part
use Rattle.lq_refined_substitution.specs.Substitution.Views.{part_view, parts_view}
use Rattle.lq_refined_subtyping.proofs.SplitLemmas.Shaping.{shape-erased, shape-same, shape_renamed}
use Rattle.lq_refined_subtyping.specs.Split.Counting.{asked, cells_asked, on_right, on_left, all_on_right, all_on_left}

-- a name, or a flag, for a name
abbrev pub naming : Symbol → Kind → Symbol → Subst
naming x k s = swap x (atom_of k s) ∷ []

module _ (x s : Symbol) (k : Kind) where
  truth-either : (b : Bool) (y : Symbol) → is_truth (known (cond b (flag s) (flag y))) ≡ false
  truth-either true y = refl
  truth-either false y = refl

truth-flag : (x s : Symbol) (k : Kind) (y : Symbol) → is_truth (known (formula_by (naming x k s) (flag y))) ≡ false
truth-flag x s number y = refl
truth-flag x s truth_value y = truth-either x s truth_value (same_symbol x y) y
truth-flag x s object y = refl
truth-flag x s other y = refl

module _ (scopes : Scopes) (x s : Symbol) (k : Kind) where
  truth-by : (p : Formula) → is_truth (known (formula_by (naming x k s) p)) ≡ is_truth (known p)
  truth-by truth = refl
  truth-by falsity = refl
  truth-by (flag y) = truth-flag x s k y
  truth-by (compare o a b) = refl
  truth-by (objects a b) = refl
  truth-by (negation p) = refl
  truth-by (conjunction p q) = refl
  truth-by (disjunction p q) = refl
  truth-by (equivalence p q) = refl

  asked-by : (qs : Parts) → asked (parts_by scopes (naming x k s) qs) ≡ asked qs
  asked-by [] = refl
  asked-by (known p ∷ qs) = ap₂ (λ b n. cond b n (suc n)) (truth-by p) (asked-by qs)
  asked-by (unknown u σ ∷ qs) = ap suc (asked-by qs)

  mutual
    right-by : (t : Refined) → on_right (type_by scopes (naming x k s) t) ≡ on_right t
    right-by (int_with p) = asked-by p
    right-by (bool_with p) = asked-by p
    right-by unit_type = refl
    right-by (function y a b) = ap₂ (λ m n. m + n) (left-by a) (right-by b)
    right-by (tuple_of ts) = rights-by ts
    right-by (array_with e p) = ap₂ (λ m n. m + n) (asked-by p) (ap₂ (λ m n. m + n) (right-by e) (left-by e))
    right-by (data_with d ts m p) = ap₂ (λ i n. i + (n + cells_asked m)) (asked-by p) (rights-by ts)
    right-by (map_with e p) = ap₂ (λ m n. m + n) (asked-by p) (right-by e)
    right-by (type_variable i) = refl

    left-by : (t : Refined) → on_left (type_by scopes (naming x k s) t) ≡ on_left t
    left-by (int_with p) = refl
    left-by (bool_with p) = refl
    left-by unit_type = refl
    left-by (function y a b) = ap₂ (λ m n. m + n) (right-by a) (left-by b)
    left-by (tuple_of ts) = lefts-by ts
    left-by (array_with e p) = ap₂ (λ m n. m + n) (left-by e) (right-by e)
    left-by (data_with d ts m p) = lefts-by ts
    left-by (map_with e p) = left-by e
    left-by (type_variable i) = refl

    rights-by : (ts : Refineds) → all_on_right (types_by scopes (naming x k s) ts) ≡ all_on_right ts
    rights-by none = refl
    rights-by (more t ts) = ap₂ (λ m n. m + n) (right-by t) (rights-by ts)

    lefts-by : (ts : Refineds) → all_on_left (types_by scopes (naming x k s) ts) ≡ all_on_left ts
    lefts-by none = refl
    lefts-by (more t ts) = ap₂ (λ m n. m + n) (left-by t) (lefts-by ts)

left-either : (b : Bool) (t u : Refined) → on_left u ≡ on_left t → on_left (cond b t u) ≡ on_left t
left-either true t u e = refl
left-either false t u e = e

left-renamed : (scopes : Scopes) (x z : Option ℕ) (k : Kind) (t : Refined) → on_left (renamed scopes x z k t) ≡ on_left t
left-renamed scopes None z k t = refl
left-renamed scopes (Some x) None k t = refl
left-renamed scopes (Some x) (Some z) k t =
    left-either (x == z) t (type_by scopes (naming (symbol_of x) k (symbol_of z)) t) (left-by scopes (symbol_of x) (symbol_of z) k t)

-- ---- how long lists are

plus : (is js : List Implication) (m n : ℕ) → length is ≡ m → length js ≡ n → length (is ++ js) ≡ m + n
plus is js m n e f = length-append is js ∙ ap₂ (λ a b. a + b) e f

either-length : (b : Bool) (i : Implication) (is : List Implication) (n : ℕ) → length is ≡ n → length (cond b is (i ∷ is)) ≡ cond b n (suc n)
either-length true i is n e = e
either-length false i is n e = ap suc e

goals-asked : (hs ls qs : Parts) (o : Origin) → length (goals hs ls qs o) ≡ asked qs
goals-asked hs ls [] o = refl
goals-asked hs ls (q ∷ qs) o =
    either-length (is_truth q) (record { hypotheses = hs; left = ls; goal = q; origin = o }) (goals hs ls qs o) (asked qs) (goals-asked hs ls qs o)

-- what is added comes in another order
through-function : (ra lc rd lb : ℕ) → 0 + ((ra + lc) + (rd + lb)) ≡ (lc + rd) + (ra + lb)
through-function ra lc rd lb = omega arith

through-array : (q rf le re lf : ℕ) → q + ((rf + le) + (re + lf)) ≡ (q + (rf + lf)) + (le + re)
through-array q rf le re lf = omega arith

through-data : (q rs ls c : ℕ) → q + ((rs + ls) + c) ≡ (q + (rs + c)) + ls
through-data q rs ls c = omega arith

through-map : (q r l : ℕ) → q + (r + l) ≡ (q + r) + l
through-map q r l = omega arith

through-row : (r l rs ls : ℕ) → (r + l) + (rs + ls) ≡ (r + rs) + (l + ls)
through-row r l rs ls = omega arith

module _ (P : Setting) (o : Origin) where
  tops-asked : (Γ : Context) (l r : Refined) → length (tops P o Γ l r) ≡ asked (top r)
  tops-asked Γ l r = goals-asked (facts P Γ) (top l) (top r) o

  cells-count : (Γ : Context) (d : ℕ) (ts : Refineds) (m n : Matrix) → length (cells P o Γ d ts m n) ≡ cells_asked n
  cells-count Γ d ts m [] = refl
  cells-count Γ d ts m (e ∷ n) =
      plus (goals (facts P (cell_context P Γ d ts m e)) (cell m e.constructor e.field e.parameter) e.parts o) (cells P o Γ d ts m n)
      (asked e.parts) (cells_asked n)
      (goals-asked (facts P (cell_context P Γ d ts m e)) (cell m e.constructor e.field e.parameter) e.parts o) (cells-count Γ d ts m n)

  mutual
    pub sides-count : (s : MlType) (Γ Δ : Context) (l r : Refined) → HasShape s l → HasShape s r
        → length (tops P o Δ l r ++ inside P o s Γ l r) ≡ on_right r + on_left l
    sides-count ml.int Γ Δ _ _ (shape_int {p = p}) (shape_int {p = q}) =
        plus (tops P o Δ (int_with p) (int_with q)) [] (asked q) 0 (tops-asked Δ (int_with p) (int_with q)) refl
    sides-count ml.bool Γ Δ _ _ (shape_bool {p = p}) (shape_bool {p = q}) =
        plus (tops P o Δ (bool_with p) (bool_with q)) [] (asked q) 0 (tops-asked Δ (bool_with p) (bool_with q)) refl
    sides-count ml.unit Γ Δ _ _ shape_unit shape_unit = refl
    sides-count (ml.var i) Γ Δ _ _ shape_variable shape_variable = refl
    sides-count (ml.arrow s u) Γ Δ _ _ (shape_function {x = x} {a = a} {b = b} f g) (shape_function {x = y} {a = c} {b = d} v w) =
        let z = shared x y in
        let e = renamed P.scopes x z (kind a) b in
        let Θ = with_binder z c Γ in
        plus [] _ 0 _ refl
        (plus (tops P o Γ c a ++ inside P o s Γ c a) (tops P o Θ e d ++ inside P o u Θ e d) (on_right a + on_left c) (on_right d + on_left b)
        (sides-count s Γ Γ c a v f)
        (sides-count u Θ Θ e d (shape_renamed P.scopes x z (kind a) b g) w ∙ ap (λ n. on_right d + n) (left-renamed P.scopes x z (kind a) b)))
        ∙ through-function (on_right a) (on_left c) (on_right d) (on_left b)
    sides-count (ml.tuple ss) Γ Δ _ _ (shape_tuple {ts = ls} fs) (shape_tuple {ts = rs} us) = components-count ss Γ Γ 0 ls rs fs us
    sides-count (ml.array s) Γ Δ _ _ (shape_array {e = e} {p = p} f) (shape_array {e = g} {p = q} u) =
        plus (tops P o Δ (array_with e p) (array_with g q)) _ (asked q) _ (tops-asked Δ (array_with e p) (array_with g q))
        (plus (tops P o Γ e g ++ inside P o s Γ e g) (tops P o Γ g e ++ inside P o s Γ g e) (on_right g + on_left e) (on_right e + on_left g)
        (sides-count s Γ Γ e g f u) (sides-count s Γ Γ g e u f))
        ∙ through-array (asked q) (on_right g) (on_left e) (on_right e) (on_left g)
    sides-count (ml.named d ss) Γ Δ _ _ (shape_data {ts = ls} {m = m} {p = p} fs) (shape_data {ts = rs} {m = n} {p = q} us) =
        plus (tops P o Δ (data_with d ls m p) (data_with d rs n q)) _ (asked q) _ (tops-asked Δ (data_with d ls m p) (data_with d rs n q))
        (plus (arguments P o ss Γ ls rs) (cells P o Γ d ls m n) (all_on_right rs + all_on_left ls) (cells_asked n)
        (arguments-count ss Γ ls rs fs us) (cells-count Γ d ls m n))
        ∙ through-data (asked q) (all_on_right rs) (all_on_left ls) (cells_asked n)
    sides-count (ml.map_of s) Γ Δ _ _ (shape_map {e = e} {p = p} f) (shape_map {e = g} {p = q} u) =
        plus (tops P o Δ (map_with e p) (map_with g q)) _ (asked q) _ (tops-asked Δ (map_with e p) (map_with g q))
        (sides-count s (with_key Γ) (with_key Γ) e g f u)
        ∙ through-map (asked q) (on_right g) (on_left e)

    components-count : (ss : MlTypes) (Γ Δ : Context) (k : ℕ) (ls rs : Refineds) → HaveShapes ss ls → HaveShapes ss rs
        → length (components P o ss Γ Δ k ls rs) ≡ all_on_right rs + all_on_left ls
    components-count ml.no_types Γ Δ k _ _ shapes_none shapes_none = refl
    components-count (ml.more_types s ss) Γ Δ k _ _ (shapes_more {t = l} {ts = ls} f fs) (shapes_more {t = r} {ts = rs} u us) =
        plus (tops P o Δ l r ++ inside P o s Γ l r) (components P o ss Γ (name (Position (suc k)) l ∷ Δ) (suc k) ls rs)
        (on_right r + on_left l) (all_on_right rs + all_on_left ls)
        (sides-count s Γ Δ l r f u) (components-count ss Γ (name (Position (suc k)) l ∷ Δ) (suc k) ls rs fs us)
        ∙ through-row (on_right r) (on_left l) (all_on_right rs) (all_on_left ls)

    arguments-count : (ss : MlTypes) (Γ : Context) (ls rs : Refineds) → HaveShapes ss ls → HaveShapes ss rs
        → length (arguments P o ss Γ ls rs) ≡ all_on_right rs + all_on_left ls
    arguments-count ml.no_types Γ _ _ shapes_none shapes_none = refl
    arguments-count (ml.more_types s ss) Γ _ _ (shapes_more {t = l} {ts = ls} f fs) (shapes_more {t = r} {ts = rs} u us) =
        plus (tops P o Γ l r ++ inside P o s Γ l r) (arguments P o ss Γ ls rs) (on_right r + on_left l) (all_on_right rs + all_on_left ls)
        (sides-count s Γ Γ l r f u) (arguments-count ss Γ ls rs fs us)
        ∙ through-row (on_right r) (on_left l) (all_on_right rs) (all_on_left ls)

  pub split-count : (Γ : Context) (l r : Refined) → erased l ≡ erased r → length (split P o Γ l r) ≡ on_right r + on_left l
  split-count Γ l r e = sides-count (erased r) Γ Γ l r (shape-same l r e) (shape-erased r)

-- ---- one more of a row

asked-append : (qs rs : Parts) → asked (qs ++ rs) ≡ asked qs + asked rs
asked-append [] rs = omega arith
asked-append (q ∷ qs) rs = either (is_truth q) (asked (qs ++ rs)) (asked qs) (asked rs) (asked-append qs rs)
  where
    either : (b : Bool) (m n k : ℕ) → m ≡ n + k → cond b m (suc m) ≡ cond b n (suc n) + k
    either true m n k e = e
    either false m n k e = omega arith

pub asked-more : (parts : List part.Part) (i : ℕ) (q : part.Part) → i < length parts → q ≡ get_or parts i q
    → asked (map part_view (take (i + 1) parts)) ≡ asked (map part_view (take i parts)) + asked (part_view q ∷ [])
asked-more parts i q h e =
    ap asked (ap (map part_view) (take_more parts i q h) ∙ map_push part_view (take i parts) (get_or parts i q))
    ∙ asked-append (map part_view (take i parts)) (part_view (get_or parts i q) ∷ [])
    ∙ ap (λ x. asked (map part_view (take i parts)) + asked (part_view x ∷ [])) (sym e)

cells_asked-push : (m : Matrix) (c : Cell) → cells_asked (m ++ c ∷ []) ≡ cells_asked m + asked c.parts
cells_asked-push [] c = omega arith
cells_asked-push (e ∷ m) c = let h = cells_asked-push m c in omega arith

pub cells_asked-more : (cells : List code.Cell) (i : ℕ) (c : code.Cell) → i < length cells → c ≡ get_or cells i c
    → cells_asked (map cell_view (take (i + 1) cells)) ≡ cells_asked (map cell_view (take i cells)) + asked (parts_view c.parts)
cells_asked-more cells i c h e =
    ap cells_asked (ap (map cell_view) (take_more cells i c h) ∙ map_push cell_view (take i cells) (get_or cells i c))
    ∙ cells_asked-push (map cell_view (take i cells)) (cell_view (get_or cells i c))
    ∙ ap (λ x. cells_asked (map cell_view (take i cells)) + asked (parts_view x.parts)) (sym e)

all_on_right-push : (ts : List Refined) (t : Refined) → all_on_right (row_of (ts ++ t ∷ [])) ≡ all_on_right (row_of ts) + on_right t
all_on_right-push [] t = omega arith
all_on_right-push (u ∷ ts) t = let h = all_on_right-push ts t in omega arith

all_on_left-push : (ts : List Refined) (t : Refined) → all_on_left (row_of (ts ++ t ∷ [])) ≡ all_on_left (row_of ts) + on_left t
all_on_left-push [] t = omega arith
all_on_left-push (u ∷ ts) t = let h = all_on_left-push ts t in omega arith

module _ (all : List Refined) (row : List ℕ) (i d : ℕ) (h : i < length row) where
  row-more : map (at all) (take (i + 1) row) ≡ map (at all) (take i row) ++ at all (get_or row i d) ∷ []
  row-more = ap (map (at all)) (take_more row i d h) ∙ map_push (at all) (take i row) (get_or row i d)

  pub rights-more : all_on_right (each all (take (i + 1) row)) ≡ all_on_right (each all (take i row)) + on_right (at all (get_or row i d))
  rights-more = ap (λ l. all_on_right (row_of l)) row-more ∙ all_on_right-push (map (at all) (take i row)) (at all (get_or row i d))

  pub lefts-more : all_on_left (each all (take (i + 1) row)) ≡ all_on_left (each all (take i row)) + on_left (at all (get_or row i d))
  lefts-more = ap (λ l. all_on_left (row_of l)) row-more ∙ all_on_left-push (map (at all) (take i row)) (at all (get_or row i d))
