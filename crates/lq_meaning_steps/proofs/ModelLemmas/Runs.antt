-- Runs: what is over stays over, and outputs grow.
use Rattle.std.proofs.Common.{◌≡◌, ℕ, zero, suc, ◌+◌, ℤ, Bool, true, false, List, [], ◌∷◌, ◌++◌, length, ◌≤◌, Option, Some, None, ◌⊎◌, inl, inr, ⊎_elim, slice_get, if◌then◌else◌, refl, sym, ap, subst, ◌∙◌, arith, zero-add}
use Rattle.std.proofs.lemmas.List.{append-nil, append_assoc, same_from_push}
use Rattle.lq_base_names.specs.declared.place.Place.{Place}
use Rattle.std.specs.Ordering.{int_eq}
use Rattle.std.proofs.Math.IntN.{pos, negsuc}
use Rattle.lq_meaning_steps.specs.Model.Core.{Parameter, Operation, negate, invert, assert, length_of, print, read, Arithmetic, sum, difference, product, quotient, remainder, Binary, arithmetic, comparison, make, fetch, Ternary, store, Core, Arms, no_arms, more_arms, Value, v_whole, v_flag, v_unit, v_fun, v_rec, v_tuple, v_build, v_array, Pairs, as_value}
use Rattle.lq_meaning_steps.specs.Model.Operations as act
use Rattle.lq_meaning_steps.specs.Model.Operations.{World, Act, arithmetic_act, make_act, fetch_act, store_act, unary_act, binary_act, ternary_act, read_act, assert_act, on_whole, on_array, with_elements, at_index, on_element, fits}
use Rattle.lq_meaning_steps.specs.Model.Step.{Next, goes, faults, ends, done, Frame, within, first_arm, or_later, Step, part, let_value, let_function, call_body, unary, binary, ternary, and_value, or_value, branch, arm, rest, assertion}
use Rattle.lq_meaning_steps.specs.Model.StepFunction.{step}
use Rattle.lq_meaning_steps.specs.Model.Program.{Item, let_item, rec_item, State, outcome_of, Turn, to, over, item_next, let_turn, turn_of, turn, at_rest, after_turn, outcome_from}
use Rattle.lq_meaning_steps.specs.Model.Laws.{IsOver}
use Rattle.lq_meaning_steps.proofs.ModelLemmas.Rows.{step_to}

-- ---- what is over stays over

rest_over : (is : List Item) (w : World) (m : ℕ) → IsOver (at_rest is) → outcome_from m (record { items = is; world = w }) ≡ outcome_of (at_rest is) w
rest_over [] w zero h = refl
rest_over [] w (suc m) h = refl
rest_over (i ∷ is) w m h = absurd h

turn_over : (n m : ℕ) (w : World) (t : Turn) → ((s : State) → IsOver (outcome_from n s).ending → outcome_from (n + m) s ≡ outcome_from n s)
    → IsOver (after_turn t w (outcome_from n)).ending → after_turn t w (outcome_from (n + m)) ≡ after_turn t w (outcome_from n)
turn_over n m w (to r) go k = go r k
turn_over n m w (over e) go k = refl

pub stays_over : (n m : ℕ) (s : State) → IsOver (outcome_from n s).ending → outcome_from (n + m) s ≡ outcome_from n s
stays_over zero m s h = ap (λ k. outcome_from k s) (zero-add m) ∙ rest_over s.items s.world m h
stays_over (suc n) m s h = ap (λ k. outcome_from k s) (suc_plus n m) ∙ turn_over n m s.world (turn s) (stays_over n m) h
  where
    suc_plus : (n m : ℕ) → suc n + m ≡ suc (n + m)
    suc_plus n m = omega arith

-- ---- outputs grow

-- the second list begins with the first, and has at most one number more
pub record Begins (a b : List ℤ) : Type 0 where
  pub more : List ℤ
  pub few : length more ≤ 1
  pub is : b ≡ a ++ more

begins_same : (a : List ℤ) → Begins a a
begins_same a = record { more = []; few = omega arith; is = sym (append-nil a) }

GrowsBy : List ℤ → Next → Type 0
GrowsBy a (goes e w) = Begins a w.output
GrowsBy a (faults k p) = Unit {0}
GrowsBy a (ends p) = Unit {0}

ActGrows : List ℤ → Act → Type 0
ActGrows a (act.gives v w) = Begins a w.output
ActGrows a (act.faults k p) = Unit {0}
ActGrows a (act.ends p) = Unit {0}

done_grows : (a : List ℤ) (x : Act) → ActGrows a x → GrowsBy a (done x)
unfolding GrowsBy ActGrows
done_grows a (act.gives v w) h = h
done_grows a (act.faults k p) h = tt
done_grows a (act.ends p) h = tt

within_grows : (a : List ℤ) (f : Frame) (n : Next) → GrowsBy a n → GrowsBy a (within f n)
unfolding GrowsBy
within_grows a f (goes e w) h = h
within_grows a f (faults k p) h = tt
within_grows a f (ends p) h = tt

-- an act that is there grows
OptionGrows : List ℤ → Option Act → Type 0
OptionGrows a None = Unit {0}
OptionGrows a (Some x) = ActGrows a x

at_some : (a : List ℤ) (o : Option Act) (x : Act) → OptionGrows a o → o ≡ Some x → ActGrows a x
unfolding OptionGrows
at_some a None x h e = cc
at_some a (Some y) x h e = let s : y ≡ x = cc in subst (ActGrows a) s h

whole_grows : (a : List ℤ) (v : Value) (go : ℤ → Option Act) → ((n : ℤ) → OptionGrows a (go n)) → OptionGrows a (on_whole v go)
unfolding OptionGrows
whole_grows a (v_whole n) go h = h n
whole_grows a (v_flag b) go h = tt
whole_grows a v_unit go h = tt
whole_grows a (v_fun q b) go h = tt
whole_grows a (v_rec f q b) go h = tt
whole_grows a (v_tuple vs) go h = tt
whole_grows a (v_build c vs) go h = tt
whole_grows a (v_array r k) go h = tt

elements_grow : (a : List ℤ) (o : Option (List Value)) (go : List Value → Option Act) → ((l : List Value) → OptionGrows a (go l)) → OptionGrows a (with_elements o go)
unfolding OptionGrows
elements_grow a None go h = tt
elements_grow a (Some l) go h = h l

array_grows : (a : List ℤ) (v : Value) (w : World) (go : ℕ → List Value → Option Act) → ((r : ℕ) (l : List Value) → OptionGrows a (go r l)) → OptionGrows a (on_array v w go)
unfolding OptionGrows
array_grows a (v_array r k) w go h = elements_grow a _ (go r) (h r)
array_grows a (v_whole n) w go h = tt
array_grows a (v_flag b) w go h = tt
array_grows a v_unit w go h = tt
array_grows a (v_fun q b) w go h = tt
array_grows a (v_rec f q b) w go h = tt
array_grows a (v_tuple vs) w go h = tt
array_grows a (v_build c vs) w go h = tt

index_grows : (a : List ℤ) (p : Place) (l : List Value) (i : ℤ) (go : ℕ → Value → Act) → ((j : ℕ) (v : Value) → ActGrows a (go j v)) → ActGrows a (at_index p l i go)
unfolding ActGrows
index_grows a p l (negsuc i) go h = tt
index_grows a p l (pos i) go h = by (slice_get l i)
  where
    by : (o : Option Value) → ActGrows a (on_element p o (go i))
    by None = tt
    by (Some v) = h i v

zero_grows : (w : World) (b : Bool) (x y : Act) → ActGrows w.output x → ActGrows w.output y → ActGrows w.output (if b then x else y)
zero_grows w true x y h k = h
zero_grows w false x y h k = k

arithmetic_grows : (o : Arithmetic) (m n : ℤ) (w : World) → ActGrows w.output (arithmetic_act o m n w)
unfolding ActGrows
arithmetic_grows sum m n w = begins_same w.output
arithmetic_grows difference m n w = begins_same w.output
arithmetic_grows product m n w = begins_same w.output
arithmetic_grows (quotient p) m n w = zero_grows w (int_eq n (pos 0)) _ _ tt (begins_same w.output)
arithmetic_grows (remainder p) m n w = zero_grows w (int_eq n (pos 0)) _ _ tt (begins_same w.output)

make_grows : (p : Place) (n : ℤ) (v : Value) (w : World) → ActGrows w.output (make_act p n v w)
unfolding ActGrows
make_grows p (negsuc n) v w = tt
make_grows p (pos n) v w = begins_same w.output

binary_grows : (o : Binary) (x y : Value) (w : World) → OptionGrows w.output (binary_act o x y w)
unfolding OptionGrows ActGrows
binary_grows (arithmetic o) x y w = whole_grows w.output x _ (λ m. whole_grows w.output y _ (λ n. arithmetic_grows o m n w))
binary_grows (comparison o) x y w = whole_grows w.output x _ (λ m. whole_grows w.output y _ (λ n. begins_same w.output))
binary_grows (make p) x y w = whole_grows w.output x _ (λ n. make_grows p n y w)
binary_grows (fetch p) x y w = array_grows w.output x w _ (λ r l. whole_grows w.output y _ (λ k. index_grows w.output p l k _ (λ j v. begins_same w.output)))

ternary_grows : (o : Ternary) (x y z : Value) (w : World) → OptionGrows w.output (ternary_act o x y z w)
unfolding OptionGrows ActGrows
ternary_grows (store p) x y z w = array_grows w.output x w _ (λ r l. whole_grows w.output y _ (λ k. index_grows w.output p l k _ (λ j v. begins_same w.output)))

read_grows : (p : Place) (i : List ℤ) (w : World) → ActGrows w.output (read_act p i w)
unfolding ActGrows
read_grows p [] w = tt
read_grows p (n ∷ ns) w = begins_same w.output

assert_grows : (p : Place) (b : Bool) (w : World) → ActGrows w.output (assert_act p b w)
unfolding ActGrows
assert_grows p true w = begins_same w.output
assert_grows p false w = tt

unary_grows : (o : Operation) (x : Value) (w : World) → OptionGrows w.output (unary_act o x w)
unfolding OptionGrows ActGrows
unary_grows negate (v_whole n) w = begins_same w.output
unary_grows invert (v_flag b) w = begins_same w.output
unary_grows (assert p) (v_flag b) w = assert_grows p b w
unary_grows length_of (v_array r n) w = begins_same w.output
unary_grows print (v_whole n) w = record { more = n ∷ []; few = omega arith; is = refl }
unary_grows (read p) v_unit w = read_grows p w.input w
unary_grows negate _ w = tt
unary_grows invert _ w = tt
unary_grows (assert p) _ w = tt
unary_grows length_of _ w = tt
unary_grows print _ w = tt
unary_grows (read p) _ w = tt

arms_grow : (p : Place) (cs : Arms) (v : Value) (w : World) → GrowsBy w.output (first_arm p cs v w)
unfolding GrowsBy
arms_grow p no_arms v w = tt
arms_grow p (more_arms q e cs) v w = by (fits q v) (arms_grow p cs v w)
  where
    by : (o : Option Pairs) → GrowsBy w.output (first_arm p cs v w) → GrowsBy w.output (or_later o e w (first_arm p cs v w))
    by None h = h
    by (Some ps) h = begins_same w.output

step_grows : (e : Core) (w : World) (n : Next) → Step e w n → GrowsBy w.output n
unfolding GrowsBy
step_grows _ _ _ (part f e w n h k s) = within_grows w.output f n (step_grows e w n s)
step_grows _ _ _ (let_value q e b v w h) = begins_same w.output
step_grows _ _ _ (let_function f q b e w) = begins_same w.output
step_grows _ _ _ (call_body f a u v b w h k m) = begins_same w.output
step_grows _ _ _ (unary o e v w a h k) = done_grows w.output a (at_some w.output _ a (unary_grows o v w) k)
step_grows _ _ _ (binary o d e u v w a h k m) = done_grows w.output a (at_some w.output _ a (binary_grows o u v w) m)
step_grows _ _ _ (ternary o d i e t u v w a h k l m) = done_grows w.output a (at_some w.output _ a (ternary_grows o t u v w) m)
step_grows _ _ _ (and_value a b t w h) = begins_same w.output
step_grows _ _ _ (or_value a b t w h) = begins_same w.output
step_grows _ _ _ (branch c a b t w h) = begins_same w.output
step_grows _ _ _ (arm p e cs v w h) = arms_grow p cs v w
step_grows _ _ _ (rest a b v w h) = begins_same w.output
step_grows _ _ _ (assertion p w) = tt

TurnGrows : List ℤ → Turn → Type 0
TurnGrows a (to s) = Begins a s.world.output
TurnGrows a (over e) = Unit {0}

next_grows : (q : Parameter) (is : List Item) (a : List ℤ) (o : Option Next) → ((n : Next) → o ≡ Some n → GrowsBy a n) → TurnGrows a (item_next q is o)
unfolding TurnGrows GrowsBy
next_grows q is a None h = tt
next_grows q is a (Some (goes e w)) h = h (goes e w) refl
next_grows q is a (Some (faults k p)) h = tt
next_grows q is a (Some (ends p)) h = tt

let_grows : (q : Parameter) (e : Core) (is : List Item) (w : World) (o : Option Value) → TurnGrows w.output (let_turn q e is w o)
unfolding TurnGrows
let_grows q e is w (Some v) = begins_same w.output
let_grows q e is w None = next_grows q is w.output (step e w) (λ n h. step_grows e w n (step_to e w n h))

turn_grows : (is : List Item) (w : World) → TurnGrows w.output (turn_of is w)
unfolding TurnGrows
turn_grows [] w = tt
turn_grows (let_item q e ∷ is) w = let_grows q e is w (as_value e)
turn_grows (rec_item f q b ∷ is) w = begins_same w.output

begins_first : (s : State) (t : Turn) → TurnGrows s.world.output t → Begins s.world.output (after_turn t s.world (outcome_from zero)).output
unfolding TurnGrows
begins_first s (to r) h = h
begins_first s (over e) h = begins_same s.world.output

later : (n : ℕ) (w : World) (t : Turn) → ((s : State) → Begins (outcome_from n s).output (outcome_from (suc n) s).output)
    → Begins (after_turn t w (outcome_from n)).output (after_turn t w (outcome_from (suc n))).output
later n w (to r) go = go r
later n w (over e) go = begins_same w.output

pub output_grows : (n : ℕ) (s : State) → Begins (outcome_from n s).output (outcome_from (suc n) s).output
output_grows zero s = begins_first s (turn s) (turn_grows s.items s.world)
output_grows (suc n) s = later n s.world (turn s) (output_grows n)

-- ---- an output goes through each of its beginnings

record EndsIn (ys : List ℤ) : Type 0 where
  front : List ℤ
  last : ℤ
  is : ys ≡ front ++ last ∷ []

ends_in : (y : ℤ) (ys : List ℤ) → EndsIn (y ∷ ys)
ends_in y [] = record { front = []; last = y; is = refl }
ends_in y (z ∷ ys) = let e = ends_in z ys in record { front = y ∷ e.front; last = e.last; is = ap (λ l. y ∷ l) e.is }

-- a list with at most one element more, where a beginning of it is another one
shorter : (a m o more : List ℤ) → length m ≤ 1 → a ++ m ≡ o ++ more → (more ≡ []) ⊎ ((rest : List ℤ) × (a ≡ o ++ rest))
shorter a m o [] few h = inl refl
shorter a [] o (y ∷ ys) few h = inr (y ∷ ys, sym (append-nil a) ∙ h)
shorter a (x ∷ []) o (y ∷ ys) few h =
    let e = ends_in y ys in
    inr (e.front, (same_from_push a (o ++ e.front) x e.last (h ∙ ap (λ l. o ++ l) e.is ∙ sym (append_assoc o e.front (e.last ∷ [])))).0)
shorter a (x ∷ z ∷ m) o (y ∷ ys) few h = absurd (omega (arith, few))

none_begins : (o more : List ℤ) → [] ≡ o ++ more → [] ≡ o
none_begins [] more h = refl
none_begins (x ∷ o) more h = cc

pub output_passes : (s : State) → s.world.output ≡ [] → (n : ℕ) (o more : List ℤ) → (outcome_from n s).output ≡ o ++ more → (k : ℕ) × (k ≤ n) × ((outcome_from k s).output ≡ o)
output_passes s none zero o more h = (0, omega arith, none ∙ none_begins o more (sym none ∙ h))
output_passes s none (suc n) o more h =
    let g = output_grows n s in
    ⊎_elim (λ e. (suc n, omega arith, h ∙ ap (λ l. o ++ l) e ∙ append-nil o))
    (λ r. let k = output_passes s none n o r.0 r.1 in let le = k.1 in (k.0, omega (arith, le), k.2))
    (shorter (outcome_from n s).output g.more o more g.few (sym g.is ∙ h))
