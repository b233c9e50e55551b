-- A typed program never gets stuck.
use Rattle.std.proofs.Common.{◌≡◌, ℕ, zero, suc, List, [], ◌∷◌, ◌++◌, Option, Some, None, refl, sym, subst}
use Rattle.lq_text_tree.specs.MlType as ml
use Rattle.lq_text_tree.specs.MlType.{MlType, MlTypes}
use Rattle.lq_meaning_steps.specs.Model.Core.{Parameter, ignored, variable, empty, matched, bound_in, Row, Core, val, use_of, fun, row, Cores, none, more, Value, v_rec, Values, Pairs, value_in, without, replaced, close, close_all, as_value, as_values, both_values, with_values, more_values}
use Rattle.lq_meaning_steps.specs.Model.Operations.{World}
use Rattle.lq_meaning_steps.specs.Model.Step.{Next, goes, faults, ends}
use Rattle.lq_meaning_steps.specs.Model.StepFunction.{step}
use Rattle.lq_meaning_steps.specs.Model.Program.{Item, let_item, rec_item, close_items, defined, State, stuck, Ending, Turn, to, over, item_next, let_turn, turn_of, turn, at_rest, after_turn, outcome_from, started}
use Rattle.lq_text_tree.specs.Types.{Signature, KnowsLists, Scheme, plain, general, Names, IsInstance}
use Rattle.lq_meaning_steps.specs.Progress.Typing.{Table, Has, AllHave, ValueHas, FitsStore, Extends}
use Rattle.lq_meaning_steps.specs.Progress.Laws.{Agrees}
use Rattle.lq_meaning_steps.specs.Progress.Programs.{IsSyntactic, AreSyntactic, IsItemParameter, LetHas, FunctionHas, named, ItemsHave, TypedIsNeverStuck}
use Rattle.lq_meaning_steps.proofs.ProgressLemmas.Closing.{name_of, agrees_inside, agrees_more, agrees_none, inside_function, closes}
use Rattle.lq_meaning_steps.proofs.ProgressLemmas.Growing.{grows}
use Rattle.lq_meaning_steps.proofs.ProgressLemmas.Acting.{Moves}
use Rattle.lq_meaning_steps.proofs.ProgressLemmas.Stepping.{Fine, fine}

-- ---- a later table

let_grows : (g : Signature) (t u : Table) (k : Extends t u) (ns : Names) (q : Parameter) (e : Core) (s : Scheme) → LetHas g t ns q e s → LetHas g u ns q e s
let_grows g t u k ns q e (plain a) h = (grows g t u k e ns a h.0, h.1)
let_grows g t u k ns q e (general fixed a) h = (h.0, (λ b i. grows g t u k e ns b (h.1 b i)), h.2)

function_grows : (g : Signature) (t u : Table) (k : Extends t u) (ns : Names) (f : ℕ) (q : Parameter) (b : Core) (a : MlType) → FunctionHas g t ns f q b a → FunctionHas g u ns f q b a
function_grows g t u k ns f q b a h = (h.0, h.1, h.2, h.3, h.4, grows g t u k b (h.2 ++ (f, plain (ml.arrow h.0 h.1)) ∷ ns) h.1 h.5)

items_grow : (is : List Item) (g : Signature) (t u : Table) (k : Extends t u) (ns : Names) → ItemsHave g t ns is → ItemsHave g u ns is
items_grow [] g t u k ns h = tt
items_grow (let_item q e ∷ is) g t u k ns h = (h.0, let_grows g t u k ns q e h.0 h.1, items_grow is g t u k (named q h.0 ns) h.2)
items_grow (rec_item f q b ∷ is) g t u k ns h = (h.0, (λ a i. function_grows g t u k ns f q b a (h.1 a i)), items_grow is g t u k ((f, h.0) ∷ ns) h.2)

-- ---- closing

syntactic_replaced : (x : ℕ) (o : Option Value) → IsSyntactic (replaced x o)
syntactic_replaced x None = tt
syntactic_replaced x (Some v) = tt

mutual
  syntactic_closed : (e : Core) (ps : Pairs) → IsSyntactic e → IsSyntactic (close ps e)
  syntactic_closed (val v) ps h = tt
  syntactic_closed (use_of x) ps h = syntactic_replaced x (value_in ps x)
  syntactic_closed (fun q b) ps h = tt
  syntactic_closed (row r es) ps h = all_syntactic_closed es ps h
  syntactic_closed _ ps h = absurd h

  all_syntactic_closed : (es : Cores) (ps : Pairs) → AreSyntactic es → AreSyntactic (close_all ps es)
  all_syntactic_closed none ps h = tt
  all_syntactic_closed (more e es) ps h = (syntactic_closed e ps h.0, all_syntactic_closed es ps h.1)

let_closes : (g : Signature) (t : Table) (ps : Pairs) (ns ms : Names) (q : Parameter) (e : Core) (s : Scheme) → Agrees g t ps ns ms → LetHas g t ns q e s → LetHas g t ms q (close ps e) s
let_closes g t ps ns ms q e (plain a) k h = (closes g t e ps ns ms a k h.0, h.1)
let_closes g t ps ns ms q e (general fixed a) k h = (syntactic_closed e ps h.0, (λ b i. closes g t e ps ns ms b k (h.1 b i)), h.2)

function_closes : (g : Signature) (t : Table) (ps : Pairs) (ns ms : Names) (f : ℕ) (q : Parameter) (b : Core) (a : MlType) → Agrees g t ps ns ms → FunctionHas g t ns f q b a
    → FunctionHas g t ms f q (close (without (f ∷ bound_in q) ps) b) a
function_closes g t ps ns ms f q b a k h = (
  h.0,
  h.1,
  h.2,
  h.3,
  h.4,
  closes g t b (without (f ∷ bound_in q) ps) (h.2 ++ (f, plain (ml.arrow h.0 h.1)) ∷ ns) (h.2 ++ (f, plain (ml.arrow h.0 h.1)) ∷ ms) h.1
      (inside_function g t f q h.0 (plain (ml.arrow h.0 h.1)) h.2 ps ns ms h.4 k) h.5,
)

parameter_type : (g : Signature) (t : Table) (ns : Names) (q : Parameter) (e : Core) (s : Scheme) → LetHas g t ns q e s → (a : MlType) × IsItemParameter q a
parameter_type g t ns q e (plain a) h = (a, h.1)
parameter_type g t ns q e (general fixed a) h = (a, h.2)

agrees_named : (g : Signature) (t : Table) (q : Parameter) (a : MlType) (s : Scheme) (ps : Pairs) (ns ms : Names) → IsItemParameter q a → Agrees g t ps ns ms
    → Agrees g t (without (bound_in q) ps) (named q s ns) (named q s ms)
agrees_named g t ignored a s ps ns ms h k = agrees_inside g t [] [] ps ns ms (λ x. refl) k
agrees_named g t (variable x) a s ps ns ms h k = agrees_inside g t (x ∷ []) ((x, s) ∷ []) ps ns ms (name_of x s) k
agrees_named g t empty a s ps ns ms h k = agrees_inside g t [] [] ps ns ms (λ x. refl) k
agrees_named g t (matched p q) a s ps ns ms h k = absurd h

items_close : (is : List Item) (g : Signature) (t : Table) (ps : Pairs) (ns ms : Names) → Agrees g t ps ns ms → ItemsHave g t ns is → ItemsHave g t ms (close_items ps is)
items_close [] g t ps ns ms k h = tt
items_close (let_item q e ∷ is) g t ps ns ms k h =
    let p = parameter_type g t ns q e h.0 h.1 in
    (h.0, let_closes g t ps ns ms q e h.0 k h.1, items_close is g t (without (bound_in q) ps) (named q h.0 ns) (named q h.0 ms) (agrees_named g t q p.0 h.0 ps ns ms p.1 k) h.2)
items_close (rec_item f q b ∷ is) g t ps ns ms k h = (
  h.0,
  (λ a i. function_closes g t ps ns ms f q b a k (h.1 a i)),
  items_close is g t (without (f ∷ []) ps) ((f, h.0) ∷ ns) ((f, h.0) ∷ ms) (agrees_inside g t (f ∷ []) ((f, h.0) ∷ []) ps ns ms (name_of f h.0) k) h.2,
)

-- the value of a definition in the items after it
define : (g : Signature) (t : Table) (q : Parameter) (a : MlType) (s : Scheme) (v : Value) (is : List Item) → IsItemParameter q a → ((b : MlType) → IsInstance s b → ValueHas g t v b)
    → ItemsHave g t (named q s []) is → ItemsHave g t [] (defined q v is)
define g t ignored a s v is h k m = m
define g t (variable x) a s v is h k m = items_close is g t ((x, v) ∷ []) ((x, s) ∷ []) [] (agrees_more g t x v s [] [] [] k (agrees_none g t [])) m
define g t empty a s v is h k m = m
define g t (matched p q) a s v is h k m = absurd h

-- ---- a closed syntactic value is a value

both_some : (o : Option Value) (os : Option Values) → (v : Value) × (o ≡ Some v) → (vs : Values) × (os ≡ Some vs) → (vs : Values) × (both_values o os ≡ Some vs)
both_some None os h k = cc h.1
both_some (Some v) None h k = cc k.1
both_some (Some v) (Some vs) h k = (more_values v vs, refl)

row_some : (r : Row) (os : Option Values) → (vs : Values) × (os ≡ Some vs) → (v : Value) × (with_values r os ≡ Some v)
row_some r None k = cc k.1
row_some r (Some vs) k = (_, refl)

mutual
  value_of : (e : Core) (g : Signature) (t : Table) (a : MlType) → IsSyntactic e → Has g t [] e a → (v : Value) × (as_value e ≡ Some v)
  value_of (val v) g t a h k = (v, refl)
  value_of (use_of x) g t a h k = absurd k
  value_of (fun q b) g t a h k = (_, refl)
  value_of (row r es) g t a h k = row_some r (as_values es) (values_of es g t k.0 h k.1)
  value_of _ g t a h k = absurd h

  values_of : (es : Cores) (g : Signature) (t : Table) (ts : MlTypes) → AreSyntactic es → AllHave g t [] es ts → (vs : Values) × (as_values es ≡ Some vs)
  values_of none g t ts h k = (_, refl)
  values_of (more e es) g t ts h k = both_some (as_value e) (as_values es) (value_of e g t k.0 h.0 k.3) (values_of es g t k.1 h.1 k.4)

-- ---- turns

-- the items and the arrays of a state have types
abbrev StateHas : Signature → State → Type 0
StateHas g s = (t : Table) × FitsStore g t s.world.arrays × ItemsHave g t [] s.items

abbrev IsNoStop : Ending → Type 0
IsNoStop e = e ≡ stuck → ⊥

abbrev TurnIsFine : Signature → Turn → Type 0
TurnIsFine g (to s) = StateHas g s
TurnIsFine g (over e) = IsNoStop e

next_fine : (g : Signature) (t : Table) (q : Parameter) (a : MlType) (is : List Item) (n : Option Next) → IsItemParameter q a → ItemsHave g t (named q (plain a) []) is → Moves g t a n
    → TurnIsFine g (item_next q is n)
next_fine g t q a is None p h m = absurd m
next_fine g t q a is (Some (goes d w)) p h m = (m.0, m.3, (plain a, (m.2, p), items_grow is g t m.0 m.1 (named q (plain a) []) h))
next_fine g t q a is (Some (faults k x)) p h m = λ e. cc
next_fine g t q a is (Some (ends x)) p h m = λ e. cc

plain_fine : (g : Signature) (t : Table) (q : Parameter) (e : Core) (a : MlType) (is : List Item) (w : World) (o : Option Value) → IsItemParameter q a → FitsStore g t w.arrays
    → ItemsHave g t (named q (plain a) []) is → Fine g t a o (step e w) → TurnIsFine g (let_turn q e is w o)
plain_fine g t q e a is w None p s h m = next_fine g t q a is (step e w) p h m
plain_fine g t q e a is w (Some v) p s h m = (t, s, define g t q a (plain a) v is p (λ b i. subst (λ x. ValueHas g t v x) (sym i) m) h)

let_fine : (g : Signature) (t : Table) (q : Parameter) (e : Core) (x : Scheme) (is : List Item) (w : World) → KnowsLists g → FitsStore g t w.arrays → LetHas g t [] q e x
    → ItemsHave g t (named q x []) is → TurnIsFine g (let_turn q e is w (as_value e))
let_fine g t q e (plain a) is w l s h k = plain_fine g t q e a is w (as_value e) h.1 s k (fine g t l w s e a h.0)
let_fine g t q e (general fixed a) is w l s h k =
    let v = value_of e g t _ h.0 (h.1 _ (ml.var, (λ i j. refl), refl)) in
    subst (λ o. TurnIsFine g (let_turn q e is w o)) (sym v.1)
    (t, s, define g t q a (general fixed a) v.0 is h.2 (λ b i. subst (λ o. Fine g t b o (step e w)) v.1 (fine g t l w s e b (h.1 b i))) k)

turn_fine : (g : Signature) (l : KnowsLists g) (is : List Item) (w : World) (t : Table) → FitsStore g t w.arrays → ItemsHave g t [] is → TurnIsFine g (turn_of is w)
turn_fine g l [] w t s h = λ e. cc
turn_fine g l (let_item q e ∷ is) w t s h = let_fine g t q e h.0 is w l s h.1 h.2
turn_fine g l (rec_item f q b ∷ is) w t s h =
    (t, s, items_close is g t ((f, v_rec f q b) ∷ []) ((f, h.0) ∷ []) [] (agrees_more g t f (v_rec f q b) h.0 [] [] [] h.1 (agrees_none g t [])) h.2)

-- ---- runs

rest_fine : (is : List Item) → IsNoStop (at_rest is)
rest_fine [] e = cc
rest_fine (i ∷ is) e = cc

abbrev RunsFine : Signature → ℕ → Type 0
RunsFine g n = (s : State) → StateHas g s → IsNoStop (outcome_from n s).ending

after_fine : (g : Signature) (n : ℕ) (x : Turn) (w : World) → RunsFine g n → TurnIsFine g x → IsNoStop (after_turn x w (outcome_from n)).ending
after_fine g n (to s) w go h = go s h
after_fine g n (over e) w go h = h

runs_fine : (n : ℕ) (g : Signature) → KnowsLists g → RunsFine g n
runs_fine zero g l s h = rest_fine s.items
runs_fine (suc n) g l s h = after_fine g n (turn s) s.world (runs_fine n g l) (turn_fine g l s.items s.world h.0 h.1 h.2)

pub typed_is_never_stuck : TypedIsNeverStuck
typed_is_never_stuck g is l h input n = runs_fine n g l (started is input) ([], tt, h)
