-- Each form, from what is known of its parts: names are good for one step more than what runs.
use Rattle.std.proofs.Common.{◌≡◌, ℕ, zero, suc, ℤ, ◌≤◌, Bool, true, false, not, ◌||◌, ◌==◌, List, [], ◌∷◌, ◌++◌, Option, Some, None, is_some, refl, sym, ap, ◌∙◌, subst, arith as numbers, if◌then◌else◌}
use Rattle.lq_base_names.specs.declared.place.Place.{Place}
use Rattle.lq_logic_predicates.specs.Formula.{Formula, negation}
use Rattle.lq_logic_predicates.specs.Sum.{Sum}
use Rattle.lq_logic_predicates.specs.Truth.{truth_of, term_value}
use Rattle.lq_refined_types.specs.Parts.Assignment.{Implied}
use Rattle.lq_refined_types.specs.Parts.Part.{known}
use Rattle.lq_refined_types.specs.Types.Context.{Context, guard}
use Rattle.lq_refined_types.specs.Types.Operations.{symbol_of}
use Rattle.lq_refined_types.specs.Types.Refined.{Refined, int_with, unit_type, function}
use Rattle.lq_refined_types.specs.Subtyping.Subtype.{facts, IsSubtype}
use Rattle.lq_meaning_steps.specs.Model.Core.{Parameter, variable, Core, val, fun, let_in, let_rec, call, if_else, one, assert, print, read, Value, v_whole, v_flag, v_unit, v_fun, v_rec, without, close, as_value}
use Rattle.lq_meaning_steps.specs.Model.Operations.{World, assert_act, read_act}
use Rattle.lq_meaning_steps.specs.Model.Step.{goes, ends, done, in_let, in_condition, in_one, in_function, in_argument}
use Rattle.lq_meaning_steps.specs.Model.StepFunction.{step}
use Rattle.lq_meaning_steps.specs.Model.Laws.{ArePairsOf}
use Rattle.lq_sound_values.specs.Inhabitants.Truth.{Givens, given, meaning_of, Scene}
use Rattle.lq_sound_values.specs.Inhabitants.Shut.{shut, Shuts, with_argument}
use Rattle.lq_sound_values.specs.Inhabitants.Inhabits.{Table, CallsBelow, SameBelow, Inhabits, Agrees}
use Rattle.lq_sound_values.specs.Inhabitants.Runs.{RunsWell, LandsIn}
use Rattle.lq_sound_values.specs.Inhabitants.Below.{Below}
use Rattle.lq_sound_values.proofs.InhabitantsLemmas.Running.{runs_map, runs_value, runs_step, runs_ends, runs_same}
use Rattle.lq_sound_values.proofs.InhabitantsLemmas.Topped.{type_has}
use Rattle.lq_sound_values.specs.Inclusion.Symbols.{with_some, TypeOn}
use Rattle.lq_sound_values.proofs.InclusionLemmas.Putting.{agree_some}
use Rattle.lq_sound_values.proofs.RunsLemmas.Closing.{agree_new}
use Rattle.lq_sound_values.specs.Inclusion.Apart.{IsKnown, Turns, Apart}
use Rattle.lq_sound_values.specs.Inclusion.Laws.{IsScene}
use Rattle.lq_sound_values.proofs.InclusionLemmas.Truths.{implied_true}
use Rattle.lq_sound_values.proofs.InclusionLemmas.Truths as truths
use Rattle.lq_sound_values.specs.Runs.Closed.{names_in, bound, IsClosed, Binds}
use Rattle.lq_sound_values.specs.Runs.Meets.{pairs, Variables, Meets}
use Rattle.lq_sound_values.specs.Runs.Runs.{RunsTo, Exactly, RunsToTruth, RunsToNumber, RunsToUnit, RunsToValue}
use Rattle.lq_sound_values.proofs.RunsLemmas.Framing.{runs_in}
use Rattle.lq_sound_values.proofs.RunsLemmas.Lower.{Lower}
use Rattle.lq_sound_values.proofs.RunsLemmas.Meeting.{extends_self, extends_on, agrees_as, meets_less, meets_bind, meets_guard, thin_new, thick_new}

abbrev predicates : Lower → truths.Lower
predicates law = record { valid = law.valid; truth-by = law.truth-by; under-by = law.under-by }

-- pairs of a recursive function's name and its parameter
two_if : (b c : Bool) (u v : Value) → is_some (if c then Some u else if b then Some v else None) ≡ (b || (c || false))
two_if true true u v = refl
two_if true false u v = refl
two_if false true u v = refl
two_if false false u v = refl

two_pairs : (f y : ℕ) (u v : Value) → ArePairsOf (f ∷ y ∷ []) ((y, u) ∷ (f, v) ∷ [])
two_pairs f y u v k = two_if (f == k) (y == k) u v

module _ (law : Lower) (S : Scene) where
  pub subtype_ok : IsScene S → (by : Variables) (Γ : Context) (e : Core) (t u : Refined) (d : IsSubtype S.setting S.assignment Γ t u) → Apart S d → RunsTo S by Γ e t → RunsTo S by Γ e u
  subtype_ok is by Γ e t u d a runs n W σ w m ag =
      runs_map n (close (pairs σ) e) w (LandsIn S W (shut σ by.types t)) (LandsIn S W (shut σ by.types u)) (λ k v z le q. (q.0, q.1, law.subtypes S is Γ t u d a σ by.types m.known k q.0 v q.2, q.3)) (runs n W σ w m ag)

  pub let_ok : IsScene S → (by : Variables) (Γ : Context) (x : ℕ) (e b : Core) (t u : Refined) → Binds S (symbol_of x) t Γ → TypeOn S.assignment u (names_in Γ) → RunsTo S by Γ e t → RunsTo S by (bound x t Γ) b u → RunsTo S by Γ (let_in (variable x) e b) u
  let_ok is by Γ x e b t u c o first body n W σ w m ag =
      let ps = pairs σ in
      let q : Parameter = variable x in
      let B = close (without (x ∷ []) ps) b in
      runs_in law (in_let q B) tt n (close ps e) w (LandsIn S W (shut σ by.types t)) (LandsIn S W (shut σ by.types u)) (first n W σ w m ag) (λ j d v z le at r.
      let go : step (let_in q d B) z ≡ Some (goes (close ((x, v) ∷ []) B) z) = rw at in
      runs_step j (let_in q d B) (close ((x, v) ∷ ps) b) z z (LandsIn S W (shut σ by.types u)) refl (go ∙ ap (λ k. Some (goes k z)) (law.behind (x ∷ []) ((x, v) ∷ []) ps b (law.one x v))) (λ k eq.
      runs_map k (close ((x, v) ∷ ps) b) z (LandsIn S r.0 (shut (given (symbol_of x) v ∷ σ) by.types u)) (LandsIn S W (shut σ by.types u)) (λ i y a le2 s. (s.0, extends_on W r.0 s.0 r.1 s.1, thin_new law S is Γ (symbol_of x) v σ by.types u t c o i s.0 y s.2, s.3)) (body k r.0 (given (symbol_of x) v ∷ σ) z (meets_bind law S is by (suc n) (suc k) W r.0 Γ σ (symbol_of x) t v (omega (numbers, le, eq)) r.1 c m (law.smaller S j (suc k) r.0 (shut σ by.types t) v (omega (numbers, eq)) r.2)) (law.stores S j k r.0 z (omega (numbers, eq)) r.3))))

  -- what the input has left says whether it is a number or the end
  read_at : (by : Variables) (p : Place) (c : Core) (n : ℕ) (W : Table) (σ : Givens) (w : World) → as_value c ≡ Some v_unit → Agrees S n W w → (is : List ℤ) → w.input ≡ is → RunsWell n (one (read p) c) w (LandsIn S W (shut σ by.types (int_with [])))
  read_at by p c n W σ w at ag [] e =
      let go : step (one (read p) c) w ≡ Some (done (read_act p w.input w)) = rw at in
      runs_ends n (one (read p) c) w (Some (ends p)) (LandsIn S W (shut σ by.types (int_with []))) refl (go ∙ ap (λ i. Some (done (read_act p i w))) e) (λ F go. tt)
  read_at by p c n W σ w at ag (i ∷ is) e =
      let u : World = record w { input = is } in
      let go : step (one (read p) c) w ≡ Some (done (read_act p w.input w)) = rw at in
      runs_step n (one (read p) c) (val (v_whole i)) w u (LandsIn S W (shut σ by.types (int_with []))) refl (go ∙ ap (λ i. Some (done (read_act p i w))) e) (λ k eq.
      runs_value k (val (v_whole i)) u (v_whole i) (LandsIn S W (shut σ by.types (int_with []))) refl (W, extends_self W, (tt, (tt, tt)), agrees_as law S k W w u refl (law.stores S n k W w (omega (numbers, eq)) ag)))

  pub read_ok : (by : Variables) (Γ : Context) (p : Place) (c : Core) → RunsToUnit S by Γ c → RunsTo S by Γ (one (read p) c) (int_with [])
  read_ok by Γ p c runs n W σ w m ag =
      let Q = LandsIn S W (shut σ by.types (int_with [])) in
      runs_in law (in_one (read p)) tt n (close (pairs σ) c) w (Exactly v_unit w) Q (runs n W σ m n w) (λ j d u x le is q.
      subst (λ y. RunsWell j (one (read p) d) y Q) (sym q.1) (read_at by p d j W σ w (is ∙ ap Some q.0) (law.stores S n j W w le ag) w.input refl))

  -- ---- conditions

  branch_at : IsScene S → (by : Variables) (Γ : Context) (p : Formula) (a b : Core) (t : Refined) → IsClosed S (guard (known p) ∷ Γ) → IsClosed S (guard (known (negation p)) ∷ Γ) → RunsTo S by (guard (known p) ∷ Γ) a t → RunsTo S by (guard (known (negation p)) ∷ Γ) b t → (k : ℕ) (W : Table) (σ : Givens) (w : World) → Meets S by (suc k) W Γ σ → Agrees S k W w → (z : Bool) → truth_of (meaning_of S.objects σ) p ≡ z → RunsWell k (if z then close (pairs σ) a else close (pairs σ) b) w (LandsIn S W (shut σ by.types t))
  branch_at is by Γ p a b t l r f g k W σ w m ag true holds = f k W σ w (meets_guard law S is by (suc k) W Γ σ p l holds m) ag
  branch_at is by Γ p a b t l r f g k W σ w m ag false holds = g k W σ w (meets_guard law S is by (suc k) W Γ σ (negation p) r (ap not holds) m) ag

  pub if_ok : IsScene S → (by : Variables) (Γ : Context) (c a b : Core) (p : Formula) (t : Refined) → IsClosed S (guard (known p) ∷ Γ) → IsClosed S (guard (known (negation p)) ∷ Γ) → RunsToTruth S by Γ c p → RunsTo S by (guard (known p) ∷ Γ) a t → RunsTo S by (guard (known (negation p)) ∷ Γ) b t → RunsTo S by Γ (if_else c a b) t
  if_ok is by Γ c a b p t l r runs f g n W σ w m ag =
      let z = truth_of (meaning_of S.objects σ) p in
      let A = close (pairs σ) a in
      let B = close (pairs σ) b in
      let Q = LandsIn S W (shut σ by.types t) in
      runs_in law (in_condition A B) tt n (close (pairs σ) c) w (Exactly (v_flag z) w) Q (runs n W σ m n w) (λ j d v u le is2 q.
      let at : as_value d ≡ Some (v_flag z) = is2 ∙ ap Some q.0 in
      let go : step (if_else d A B) w ≡ Some (goes (if z then A else B) w) = rw at in
      subst (λ x. RunsWell j (if_else d A B) x Q) (sym q.1) (runs_step j (if_else d A B) (if z then A else B) w w Q refl go (λ k eq.
      branch_at is by Γ p a b t l r f g k W σ w (meets_less law S by (suc n) (suc k) W W Γ σ (omega (numbers, le, eq)) (extends_self W) m) (law.stores S n k W w (omega (numbers, le, eq)) ag) z refl)))

  -- a form that gives unit and keeps the arrays
  unit_at : (by : Variables) (n k : ℕ) (W : Table) (σ : Givens) (w u : World) → k ≤ n → w.arrays ≡ u.arrays → Agrees S n W w → RunsWell k (val v_unit) u (LandsIn S W (shut σ by.types unit_type))
  unit_at by n k W σ w u le e ag =
      runs_value k (val v_unit) u v_unit (LandsIn S W (shut σ by.types unit_type)) refl (W, extends_self W, (tt, tt), agrees_as law S k W w u e (law.stores S n k W w le ag))

  pub assert_ok : (by : Variables) (Γ : Context) (l : Place) (c : Core) (p : Formula) → RunsToTruth S by Γ c p → Implied S.assignment (facts S.setting Γ) (known p) → RunsTo S by Γ (one (assert l) c) unit_type
  assert_ok by Γ l c p runs v n W σ w m ag =
      let z = truth_of (meaning_of S.objects σ) p in
      let Q = LandsIn S W (shut σ by.types unit_type) in
      let holds : z ≡ true = (implied_true (predicates law) S σ (facts S.setting Γ) (known p) v m.known.true_facts).0 in
      runs_in law (in_one (assert l)) tt n (close (pairs σ) c) w (Exactly (v_flag z) w) Q (runs n W σ m n w) (λ j d u x le is q.
      let at : as_value d ≡ Some (v_flag z) = is ∙ ap Some q.0 in
      let go : step (one (assert l) d) w ≡ Some (done (assert_act l z w)) = rw at in
      subst (λ y. RunsWell j (one (assert l) d) y Q) (sym q.1) (runs_step j (one (assert l) d) (val v_unit) w w Q refl (go ∙ ap (λ b. Some (done (assert_act l b w))) holds) (λ k eq.
      unit_at by n k W σ w w (omega (numbers, le, eq)) refl ag)))

  pub print_ok : (by : Variables) (Γ : Context) (c : Core) (t : Sum) → RunsToNumber S by Γ c t → RunsTo S by Γ (one print c) unit_type
  print_ok by Γ c t runs n W σ w m ag =
      let i = term_value (meaning_of S.objects σ) t in
      let Q = LandsIn S W (shut σ by.types unit_type) in
      let out : World = record w { output = w.output ++ i ∷ [] } in
      runs_in law (in_one print) tt n (close (pairs σ) c) w (Exactly (v_whole i) w) Q (runs n W σ m n w) (λ j d u x le is q.
      let at : as_value d ≡ Some (v_whole i) = is ∙ ap Some q.0 in
      let go : step (one print d) w ≡ Some (goes (val v_unit) out) = rw at in
      subst (λ y. RunsWell j (one print d) y Q) (sym q.1) (runs_step j (one print d) (val v_unit) w out Q refl go (λ k eq.
      unit_at by n k W σ w out (omega (numbers, le, eq)) refl ag)))

  -- ---- functions

  pub function_ok : IsScene S → (by : Variables) (Γ : Context) (y : ℕ) (b : Core) (x : Option ℕ) (t u r : Refined) → Binds S (symbol_of y) t Γ → Turns S t (Some y) r x u → RunsTo S by (bound y t Γ) b r → RunsTo S by Γ (fun (variable y) b) (function x t u)
  function_ok is by Γ y b x t u r c turns body n W σ w m ag =
      let ps = pairs σ in
      let g = v_fun (variable y) (close (without (y ∷ []) ps) b) in
      let calls : CallsBelow S n g W σ by.types x t u = (law.calls S n g W σ by.types x t u).1 (λ j lt V a z e fit agree.
      runs_step j (call (val g) (val a)) (close ((y, a) ∷ ps) b) z z (LandsIn S V (shut (with_argument x a σ) by.types u)) refl (ap (λ k. Some (goes k z)) (law.behind (y ∷ []) ((y, a) ∷ []) ps b (law.one y a))) (λ k eq.
      runs_map k (close ((y, a) ∷ ps) b) z (LandsIn S V (shut (given (symbol_of y) a ∷ σ) by.types r)) (LandsIn S V (shut (with_argument x a σ) by.types u)) (λ i v s le q. (q.0, q.1, turns σ by.types a (type_has S (CallsBelow S j) (SameBelow S j) V σ σ by.types t a fit) m.known.no_value i q.0 v q.2, q.3)) (body k V (given (symbol_of y) a ∷ σ) z (meets_bind law S is by (suc n) (suc k) W V Γ σ (symbol_of y) t a (omega (numbers, lt, eq)) e c m (law.smaller S j (suc k) V (shut σ by.types t) a (omega (numbers, eq)) fit)) (law.stores S j k V z (omega (numbers, eq)) agree)))) in
      runs_value n (close ps (fun (variable y) b)) w g (LandsIn S W (shut σ by.types (function x t u))) refl (W, extends_self W, (calls, tt), ag)

  module _ (is : IsScene S) (by : Variables) (Γ : Context) (f y : ℕ) (b : Core) (x : Option ℕ) (t u r : Refined) (cf : Binds S (symbol_of f) (function x t u) Γ) (c : Binds S (symbol_of y) t (bound f (function x t u) Γ)) (o : TypeOn S.assignment (function x t u) (names_in Γ)) (turns : Turns S t (Some y) r x u) (body : RunsTo S by (bound y t (bound f (function x t u) Γ)) b r) where
    pub recursion_calls : (N : ℕ) (W : Table) (σ : Givens) → Meets S by N W Γ σ → (n : ℕ) → n ≤ N → Inhabits S n W (shut σ by.types (function x t u)) (v_rec f (variable y) (close (without (f ∷ y ∷ []) (pairs σ)) b))
    recursion_calls N W σ m zero le = (tt, tt)
    recursion_calls N W σ m (suc n) le =
        let T = function x t u in
        let ps = pairs σ in
        let g = v_rec f (variable y) (close (without (f ∷ y ∷ []) ps) b) in
        let ih : Inhabits S n W (shut σ by.types T) g = recursion_calls N W σ m n (omega (numbers, le)) in
        let Θ = given (symbol_of f) g ∷ σ in (
          (law.calls S (suc n) g W σ by.types x t u).1 (λ j lt V a z e fit agree.
              runs_step j (call (val g) (val a)) (close ((y, a) ∷ (f, g) ∷ ps) b) z z (LandsIn S V (shut (with_argument x a σ) by.types u)) refl (ap (λ k. Some (goes k z)) (law.behind (f ∷ y ∷ []) ((y, a) ∷ (f, g) ∷ []) ps b (two_pairs f y a g))) (λ k eq.
              let own : Inhabits S (suc k) V (shut σ by.types T) g = law.smaller S n (suc k) V (shut σ by.types T) g (omega (numbers, lt, eq)) (law.extended S n W V (shut σ by.types T) g e ih) in
              let inner = meets_bind law S is by N (suc k) W V Γ σ (symbol_of f) T g (omega (numbers, le, lt, eq)) e cf m own in
              let argument = thick_new law S is Γ (symbol_of f) g σ by.types t T cf (o.0.0, o.0.1) (suc k) V a (law.smaller S j (suc k) V (shut σ by.types t) a (omega (numbers, eq)) fit) in
              let outer = meets_bind law S is by (suc k) (suc k) V V (bound f T Γ) Θ (symbol_of y) t a (omega numbers) (extends_self V) c inner argument in
              runs_map k (close ((y, a) ∷ (f, g) ∷ ps) b) z (LandsIn S V (shut (given (symbol_of y) a ∷ Θ) by.types r)) (LandsIn S V (shut (with_argument x a σ) by.types u)) (λ i v s le2 q. (q.0, q.1, result_thin g a σ i q.0 v (turns Θ by.types a (type_has S (CallsBelow S (suc k)) (SameBelow S (suc k)) V Θ Θ by.types t a argument) inner.known.no_value i q.0 v q.2), q.3)) (body k V (given (symbol_of y) a ∷ Θ) z outer (law.stores S j k V z (omega (numbers, eq)) agree)))),
          tt,
        )
      where
        result_thin : (g a : Value) (σ : Givens) → Below S (shut (with_argument x a (given (symbol_of f) g ∷ σ)) by.types u) (shut (with_argument x a σ) by.types u)
        result_thin g a σ = law.thin S is u (with_some (names_in Γ) x) (o.0.2, o.0.3) (with_argument x a (given (symbol_of f) g ∷ σ)) (with_argument x a σ) by.types (agree_some (names_in Γ) (given (symbol_of f) g ∷ σ) σ x a (agree_new Γ (symbol_of f) g σ cf.1))

    pub recursion_ok : (e : Core) (v : Refined) → TypeOn S.assignment v (names_in Γ) → RunsTo S by (bound f (function x t u) Γ) e v → RunsTo S by Γ (let_rec f (variable y) b e) v
    recursion_ok e v k rest n W σ w m ag =
        let T = function x t u in
        let ps = pairs σ in
        let g = v_rec f (variable y) (close (without (f ∷ y ∷ []) ps) b) in
        runs_step n (close ps (let_rec f (variable y) b e)) (close ((f, g) ∷ ps) e) w w (LandsIn S W (shut σ by.types v)) refl (ap (λ d. Some (goes d w)) (law.behind (f ∷ []) ((f, g) ∷ []) ps e (law.one f g))) (λ j eq.
        runs_map j (close ((f, g) ∷ ps) e) w (LandsIn S W (shut (given (symbol_of f) g ∷ σ) by.types v)) (LandsIn S W (shut σ by.types v)) (λ i z s le2 q. (q.0, q.1, thin_new law S is Γ (symbol_of f) g σ by.types v T cf k i q.0 z q.2, q.3)) (rest j W (given (symbol_of f) g ∷ σ) w (meets_bind law S is by (suc n) (suc j) W W Γ σ (symbol_of f) T g (omega (numbers, eq)) (extends_self W) cf m (recursion_calls (suc n) W σ m (suc j) (omega (numbers, eq)))) (law.stores S n j W w (omega (numbers, eq)) ag)))

  function_calls : (n : ℕ) (W : Table) (σ : Givens) (by : Shuts) (x : Option ℕ) (t u : Refined) (g : Value) → Inhabits S n W (shut σ by (function x t u)) g → CallsBelow S n g W σ by x t u
  function_calls n W σ by x t u (v_fun q b) h = h.0
  function_calls n W σ by x t u (v_rec f q b) h = h.0
  function_calls n W σ by x t u _ h = absurd h.0

  -- a call's value has the result's type with the argument for the function type's own name
  pub call_ok : (by : Variables) (Γ : Context) (e c : Core) (x : Option ℕ) (t u r : Refined) → RunsToValue S by Γ e (function x t r) → ((σ : Givens) → IsKnown S Γ σ → Below S (shut σ by.types u) (shut σ by.types t)) → (n : ℕ) (W : Table) (σ : Givens) (w : World) → Meets S by (suc n) W Γ σ → Agrees S n W w → (a : Value) → Inhabits S (suc n) W (shut σ by.types u) a → ((k : ℕ) (z : World) → RunsWell k (close (pairs σ) c) z (Exactly a z)) → RunsWell n (close (pairs σ) (call e c)) w (LandsIn S W (shut (with_argument x a σ) by.types r))
  call_ok by Γ e c x t u r fe leq n W σ w m ag a fit runs =
      let g = fe n W σ m in
      let Q = LandsIn S W (shut (with_argument x a σ) by.types r) in
      let C = close (pairs σ) c in
      runs_in law (in_function C) tt n (close (pairs σ) e) w (Exactly g.0 w) Q (g.2 n w) (λ j d z v le is q.
      let at : as_value d ≡ Some g.0 = is ∙ ap Some q.0 in
      subst (λ s. RunsWell j (call d C) s Q) (sym q.1) (runs_in law (in_argument d) (g.0, at) j C w (Exactly a w) Q (runs j w) (λ i h z2 v2 le2 is2 q2.
      let at2 : as_value h ≡ Some a = is2 ∙ ap Some q2.0 in
      subst (λ s. RunsWell i (call d h) s Q) (sym q2.1) (runs_same i (call d h) (call (val g.0) (val a)) w Q refl (rw (at, at2)) ((law.calls S (suc n) g.0 W σ by.types x t r).0 (function_calls (suc n) W σ by.types x t r g.0 g.1) i (omega (numbers, le, le2)) W a w (extends_self W) (leq σ m.known i W a (law.smaller S (suc n) i W (shut σ by.types u) a (omega (numbers, le, le2)) fit)) (law.stores S n i W w (omega (numbers, le, le2)) ag))))))
