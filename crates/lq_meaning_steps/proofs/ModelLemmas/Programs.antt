-- The steps of a program come to what it means.
use Rattle.std.proofs.Common.{◌≡◌, ℕ, suc, ◌+◌, ◌-◌, ◌≤◌, List, [], ◌∷◌, ◌++◌, Option, Some, None, ◌⊎◌, inl, inr, ⊎_elim, refl, sym, ap, ap₂, subst, ◌∙◌, arith}
use Rattle.std.proofs.lemmas.Bool.{cases_lt}
use Rattle.lq_meaning_steps.specs.Model.Core.{Parameter, ignored, variable, empty, matched, bound_in, Core, Value, v_rec, Pairs, without, close, as_value}
use Rattle.lq_meaning_steps.specs.Model.Operations.{World}
use Rattle.lq_meaning_steps.specs.Model.Step.{Next, goes, faults, ends}
use Rattle.lq_meaning_steps.specs.Model.StepFunction.{step}
use Rattle.lq_meaning_steps.specs.Model.Program.{Item, let_item, rec_item, close_items, defined, State, Ending, running, finished, input_ended, fault, stuck, item_next, let_turn, after_turn, outcome_from, outcome, started, IsCalm}
use Rattle.lq_meaning_steps.specs.Model.Meaning.{Answer, comes, fails, runs_out, too_deep, gets_stuck, and_then, meaning, defining, items_meaning, answered, program_meaning}
use Rattle.lq_meaning_steps.specs.Model.Laws.{SameIn, ArePairsOf, IsOver}
use Rattle.lq_meaning_steps.specs.Model.Adequacy.{Steps, here, onward, Does, IsAdequateOfPrograms, IsCompleteOfPrograms, IsSafeByMeaning}
use Rattle.lq_meaning_steps.proofs.ModelLemmas.Rows.{step_from}
use Rattle.lq_meaning_steps.proofs.ModelLemmas.Runs.{stays_over}
use Rattle.lq_meaning_steps.proofs.ModelLemmas.Substitution.{without-append, in_body, same_without, close-close, close-same, close-none}
use Rattle.lq_meaning_steps.proofs.ModelLemmas.Binding.{same_behind, pair_of}
use Rattle.lq_meaning_steps.proofs.ModelLemmas.Adequate.{no_value, no_step, adequate}

-- ---- closings of items

pub close_items-close : (is : List Item) (d g : Pairs) → close_items g (close_items d is) ≡ close_items (d ++ g) is
close_items-close [] d g = refl
close_items-close (let_item q e ∷ is) d g =
    ap₂ (λ a b. let_item q a ∷ b) (close-close e d g)
    (close_items-close is (without (bound_in q) d) (without (bound_in q) g) ∙ ap (λ l. close_items l is) (sym (without-append (bound_in q) d g)))
close_items-close (rec_item f q b ∷ is) d g =
    ap₂ (λ a l. rec_item f q a ∷ l) (in_body (f ∷ bound_in q) d g b)
    (close_items-close is (without (f ∷ []) d) (without (f ∷ []) g) ∙ ap (λ l. close_items l is) (sym (without-append (f ∷ []) d g)))

pub close_items-same : (is : List Item) (d g : Pairs) → SameIn d g → close_items d is ≡ close_items g is
close_items-same [] d g h = refl
close_items-same (let_item q e ∷ is) d g h =
    ap₂ (λ a b. let_item q a ∷ b) (close-same e d g h) (close_items-same is (without (bound_in q) d) (without (bound_in q) g) (same_without (bound_in q) d g h))
close_items-same (rec_item f q b ∷ is) d g h =
    ap₂ (λ a l. rec_item f q a ∷ l) (close-same b (without (f ∷ bound_in q) d) (without (f ∷ bound_in q) g) (same_without (f ∷ bound_in q) d g h))
    (close_items-same is (without (f ∷ []) d) (without (f ∷ []) g) (same_without (f ∷ []) d g h))

pub close_items-none : (is : List Item) → close_items [] is ≡ is
close_items-none [] = refl
close_items-none (let_item q e ∷ is) = ap₂ (λ a b. let_item q a ∷ b) (close-none e) (close_items-none is)
close_items-none (rec_item f q b ∷ is) = ap₂ (λ a l. rec_item f q a ∷ l) (close-none b) (close_items-none is)

pub close_items-behind : (xs : List ℕ) (ps env : Pairs) (is : List Item) → ArePairsOf xs ps → close_items ps (close_items (without xs env) is) ≡ close_items (ps ++ env) is
close_items-behind xs ps env is h = close_items-close is (without xs env) ps ∙ close_items-same is (without xs env ++ ps) (ps ++ env) (same_behind xs ps env h)

none_behind : (env : Pairs) (is : List Item) → close_items (without [] env) is ≡ close_items env is
none_behind env is = sym (close_items-none (close_items (without [] env) is)) ∙ close_items-behind [] [] env is (λ x. refl)

-- the items behind a definition
defined_is : (q : Parameter) (v : Value) (env : Pairs) (is : List Item) → defined q v (close_items (without (bound_in q) env) is) ≡ close_items (defining q v env) is
defined_is ignored v env is = none_behind env is
defined_is empty v env is = none_behind env is
defined_is (variable x) v env is = close_items-behind (x ∷ []) ((x, v) ∷ []) env is (pair_of x v)
defined_is (matched p q) v env is = refl

-- ---- runs

abbrev at : List Item → World → State
at is w = record { items = is; world = w }

one_turn : (q : Parameter) (is : List Item) (e : Core) (w : World) (o : Option Next) (j : ℕ) → as_value e ≡ None → step e w ≡ o
    → outcome_from (suc j) (at (let_item q e ∷ is) w) ≡ after_turn (item_next q is o) w (outcome_from j)
one_turn q is e w o j h k =
    ap (λ x. after_turn (let_turn q e is w x) w (outcome_from j)) h ∙ ap (λ x. after_turn (item_next q is x) w (outcome_from j)) k

after_one : (k j : ℕ) → suc k + j ≡ suc (k + j)
after_one k j = omega arith

one_more : (j : ℕ) → 1 + j ≡ suc j
one_more j = omega arith

run_on : (k : ℕ) (q : Parameter) (is : List Item) (e d : Core) (w u : World) → Steps k e w d u → (j : ℕ)
    → outcome_from (k + j) (at (let_item q e ∷ is) w) ≡ outcome_from j (at (let_item q d ∷ is) u)
run_on _ q is _ _ _ _ (here e w) j = let z : 0 + j ≡ j = omega arith in ap (λ m. outcome_from m (at (let_item q e ∷ is) w)) z
run_on _ q is _ _ _ _ (onward k e d c w u t s p) j =
    ap (λ m. outcome_from m (at (let_item q e ∷ is) w)) (after_one k j)
    ∙ one_turn q is e w (Some (goes d u)) (k + j) (no_value e w (goes d u) s) (step_from e w (goes d u) s) ∙ run_on k q is d c u t p j

abbrev Late : ℕ → ℕ → Answer → Type 0
Late n m (too_deep u) = n ≤ m
Late n m _ = Unit {0}

-- a run comes to this
abbrev Ends : ℕ → State → Answer → Type 0
Ends n s a = (m : ℕ) × (outcome_from m s ≡ answered a) × Late n m a

later_still : (n k m : ℕ) (a : Answer) → Late n m a → Late n (k + m) a
later_still n k m (too_deep u) h = omega (arith, h)
later_still n k m (comes v u) h = tt
later_still n k m (fails x p u) h = tt
later_still n k m (runs_out p u) h = tt
later_still n k m (gets_stuck u) h = tt

ends_later : (n k : ℕ) (s t : State) (a : Answer) → ((j : ℕ) → outcome_from (k + j) s ≡ outcome_from j t) → Ends n t a → Ends n s a
ends_later n k s t a h e = (k + e.0, h e.0 ∙ e.1, later_still n k e.0 a e.2)

item_ends : (n : ℕ) (q : Parameter) (is : List Item) (e : Core) (w : World) (a : Answer) (go : Value → World → Answer) → Does n e w a
    → ((v : Value) (u : World) → Ends n (at (defined q v is) u) (go v u)) → Ends n (at (let_item q e ∷ is) w) (and_then a go)
item_ends n q is e w (comes v u) go h k =
    ends_later n h.0 (at (let_item q e ∷ is) w) (at (let_item q h.1 ∷ is) u) (go v u) (run_on h.0 q is e h.1 w u h.2)
    (ends_later n 1 (at (let_item q h.1 ∷ is) u) (at (defined q v is) u) (go v u) (λ j.
    ap (λ m. outcome_from m (at (let_item q h.1 ∷ is) u)) (one_more j) ∙ ap (λ x. after_turn (let_turn q h.1 is u x) u (outcome_from j)) h.3) (k v u))
item_ends n q is e w (fails x p u) go h k =
    (h.0 + 1, run_on h.0 q is e h.1 w u h.2 1 ∙ one_turn q is h.1 u (Some (faults x p)) 0 (no_value h.1 u (faults x p) h.3) (step_from h.1 u (faults x p) h.3), tt)
item_ends n q is e w (runs_out p u) go h k =
    (h.0 + 1, run_on h.0 q is e h.1 w u h.2 1 ∙ one_turn q is h.1 u (Some (ends p)) 0 (no_value h.1 u (ends p) h.3) (step_from h.1 u (ends p) h.3), tt)
item_ends n q is e w (too_deep u) go h k = let m = h.3 in (h.0 + 0, run_on h.0 q is e h.1 w u h.2 0, omega (arith, m))
item_ends n q is e w (gets_stuck u) go h k =
    (h.0 + 1, run_on h.0 q is e h.1 w u h.2 1 ∙ one_turn q is h.1 u None 0 h.3.0 (no_step h.1 u h.3.1), tt)

items_end : (n : ℕ) (is : List Item) (env : Pairs) (w : World) → Ends n (at (close_items env is) w) (items_meaning n is env w)
items_end n [] env w = (0, refl, tt)
items_end n (let_item q e ∷ is) env w =
    item_ends n q (close_items (without (bound_in q) env) is) (close env e) w (meaning n e env w) (λ v u. items_meaning n is (defining q v env) u) (adequate n e env w) (λ v u.
    subst (λ l. Ends n (at l u) (items_meaning n is (defining q v env) u)) (sym (defined_is q v env is)) (items_end n is (defining q v env) u))
items_end n (rec_item f q b ∷ is) env w =
    let g = v_rec f q (close (without (f ∷ bound_in q) env) b) in
    ends_later n 1 (at (close_items env (rec_item f q b ∷ is)) w) (at (close_items ((f, g) ∷ env) is) w) (items_meaning n is ((f, g) ∷ env) w) (λ j.
    ap (λ m. outcome_from m (at (close_items env (rec_item f q b ∷ is)) w)) (one_more j)
    ∙ ap (λ l. outcome_from j (at l w)) (close_items-behind (f ∷ []) ((f, g) ∷ []) env is (pair_of f g))) (items_end n is ((f, g) ∷ env) w)

-- ---- programs

over_or_late : (n m : ℕ) (a : Answer) → Late n m a → IsOver (answered a).ending ⊎ (n ≤ m)
over_or_late n m (comes v u) h = inl tt
over_or_late n m (fails x p u) h = inl tt
over_or_late n m (runs_out p u) h = inl tt
over_or_late n m (too_deep u) h = inr h
over_or_late n m (gets_stuck u) h = inl tt

starts : (is : List Item) (w : World) → at (close_items [] is) w ≡ at is w
starts is w = ap (λ l. at l w) (close_items-none is)

pub adequate_of_programs : IsAdequateOfPrograms
adequate_of_programs is input n =
    let w = (started is input).world in
    let a = items_meaning n is [] w in
    let e = subst (λ s. Ends n s a) (starts is w) (items_end n is [] w) in (e.0, e.1, over_or_late n e.0 a e.2)

stays_by : (n m : ℕ) (s : State) → n ≤ m → IsOver (outcome_from n s).ending → outcome_from m s ≡ outcome_from n s
stays_by n m s le h = let d : m ≡ n + (m - n) = omega (arith, le) in ap (λ k. outcome_from k s) d ∙ stays_over n (m - n) s h

pub complete_of_programs : IsCompleteOfPrograms
complete_of_programs is input n h =
    let s = started is input in
    let a = adequate_of_programs is input n in
    ⊎_elim
    (λ over. ⊎_elim
    (λ lt. sym (stays_by a.0 n s (omega (arith, lt)) (subst (λ o. IsOver o.ending) (sym a.1) over) ∙ a.1))
    (λ le. sym a.1 ∙ stays_by n a.0 s le h)
    (cases_lt a.0 n))
    (λ le. sym a.1 ∙ stays_by n a.0 s le h)
    a.2

-- ---- safe

calm_unless_over : (e f : Ending) → (IsOver e → f ≡ e) → IsCalm f → IsCalm e
calm_unless_over running f h k = tt
calm_unless_over finished f h k = tt
calm_unless_over (input_ended p) f h k = tt
calm_unless_over (fault x p) f h k = subst IsCalm (h tt) k
calm_unless_over stuck f h k = subst IsCalm (h tt) k

pub safe_by_meaning : IsSafeByMeaning
safe_by_meaning is = (
  λ safe input n. let a = adequate_of_programs is input n in subst (λ o. IsCalm o.ending) a.1 (safe input a.0),
  λ calm input n. calm_unless_over (outcome is input n).ending (program_meaning n is input).ending (λ over. ap (λ o. o.ending) (complete_of_programs is input n over)) (calm input n),
)
