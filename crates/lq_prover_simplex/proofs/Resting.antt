-- What is free stays at what it rests on, through a further form, a shift and a pivot.
use Rattle.std.proofs.Common.{◌≡◌, ◌≢◌, ℕ, zero, suc, pos, inl, inr, arith, refl, sym, ap, ap₂, subst, ◌∙◌, List, [], ◌∷◌, ◌++◌, Some, IfSome, slice_get}
use Rattle.std.specs.List.{All, Contains}
use Rattle.std.proofs.lemmas.List.Elements.{All-push, All-weaker, All-head, All-tail, Contains-append_left, Contains-push}
use Rattle.lq_base_numbers.specs.Rationals.Rational.{ℚ, whole, ◌+ℚ◌, ◌-ℚ◌, ◌*ℚ◌}
use Rattle.lq_base_numbers.specs.Rationals.RationalQuotient.{◌/ℚ◌, /ℚ_is}
use Rattle.lq_base_numbers.specs.Rationals.Solver.{var, con, ◌⊕◌, ◌⊖◌, ◌⊗◌, solve}
use Rattle.lq_base_numbers.specs.declared.fractions.frac.Frac.{Frac}
use Rattle.lq_logic_rows.specs.Row.{Row, Valuation}
use Rattle.lq_logic_rows.specs.Steps.{valuation_of}
use Rattle.lq_prover_simplex.specs.declared.line.Entry.{Entry}
use Rattle.lq_prover_simplex.specs.declared.row.Standing.{Standing}
use Rattle.lq_prover_simplex.specs.declared.limits.Broken.{Broken}
use Rattle.lq_prover_simplex.specs.Lines.{combine}
use Rattle.lq_logic_rows.specs.Forms.{Parts}
use Rattle.lq_prover_simplex.specs.Systems.{System, form_at, line_at, Meets, IsFree, AreLines, IsSystem, IsShifted, GoesOn}
use Rattle.lq_prover_simplex.specs.Standing.{AllRead}
use Rattle.lq_prover_simplex.specs.Bounds.{Limits, limit_at, bound_value, IsLimit, Breaks}
use Rattle.lq_prover_simplex.specs.Conflicts.{AllGiven}
use Rattle.lq_prover_simplex.specs.Configurations.{IsConfiguration, IsGiven, Rests, AllAmong, AllStay, Brings, Exchanges, IsAtLimit, Settles}
use Rattle.lq_prover_simplex.proofs.Combinations.{one_apart, eq_or, combine-same, unit_here, unit_elsewhere, own_combination}
use Rattle.lq_prover_simplex.proofs.Systems.{IsPivot, entry_free, pivot_leaving, pivot_others, pivot_entering, pivot_free_before}
use Rattle.lq_prover_simplex.proofs.Forms.{form_is_line}
use Rattle.lq_prover_simplex.proofs.Explaining.{limit_read}
use Rattle.lq_prover_simplex.proofs.Tables.{reads_on}
use Rattle.lq_prover_simplex.proofs.Multiples.{multiples_once}

-- ---- the free ones can be chosen freely, and the others follow
pub configured : (s : System) → IsSystem s → IsConfiguration s
configured s i = record {
  terms_in = i.are_forms.terms_in;
  named = i.are_forms.named;
  counted = i.counted;
  normal = i.are_forms.normal;
  once = i.are_forms.once;
  shared = λ row other j k h g p q m.
      i.are_forms.once j k h g
      (multiples_once row.parts other.parts (form_at s.forms j) (form_at s.forms k) (i.are_forms.normal j h) (i.are_forms.normal k g) p q m);
  over_free = λ k at e h. entry_free s.forms s.lines k at e i.are_lines h;
  combined = λ v k h. form_is_line s.terms s.forms s.lines v k i.are_forms i.are_lines h;
  chosen = λ y.
      let x : Valuation = λ k. combine y (line_at s.lines k) in
      let own : (j : ℕ) → IsFree s.lines j → x j ≡ y j = λ j f. own_combination y (line_at s.lines j) j (i.are_lines.line j) f.own in
      let meets : Meets s.lines x = λ k h. combine-same y x (line_at s.lines k) (λ at e g. sym (own e.variable (entry_free s.forms s.lines k at e i.are_lines g))) in
      record {
        point = x;
        meets = λ j f. sym (i.are_lines.fits x meets j (let a = f.inside in let e = i.are_lines.same in omega arith)) ∙ own j f;
      };
  valued = λ k h. i.are_lines.fits (valuation_of s.values) i.values k h;
}

-- ---- changes that follow one another
settle_more : (limits : Limits) (a b c : System) → Settles limits a b → Settles limits b c → Settles limits a c
settle_more limits a b c first next j f =
    elim (next j f) [
      | inl at ↦ inl at
      | inr stay ↦ elim (first j stay.0) [
        | inl at ↦ inl (record { side = at.side; limit = at.limit; is = at.is; at = stay.1 ∙ at.at })
        | inr before ↦ inr (before.0, stay.1 ∙ before.1)
      ]
    ]

pub settle_step : (limits : Limits) (a b c : System) (k : ℕ) (x : ℚ) (broken : Broken) → Settles limits a b → broken.variable ≡ k → Breaks limits x broken
    → Brings b c k (bound_value broken.limit) → Settles limits a c
settle_step limits a b c k x broken before e breaks brings =
    settle_more limits a b c before (λ j f.
    elim (brings j f) [
      | inl at ↦ inl (record { side = broken.side; limit = broken.limit; is = ap (limit_at limits broken.side) (at.0 ∙ sym e) ∙ breaks.limit; at = at.1 })
      | inr stay ↦ inr stay.1
    ])

-- a free variable that isn't the one that moves
unmoved : (lines : List (List Entry)) (old new : List Frac) (v : ℕ) (by : ℚ) (j : ℕ) → IsShifted lines old v by new → IsFree lines j → v ≢ j → valuation_of new j ≡ valuation_of old j
unmoved lines old new v by j h free n =
    h.1 j free.inside ∙ ap (λ t. valuation_of old j +ℚ t *ℚ by) (free.own v ∙ unit_elsewhere v j n)
    ∙ solve (valuation_of old j ∷ by ∷ []) (var 0 ⊕ con (pos 0) ⊗ var 1) (var 0) refl

-- ---- what rests keeps resting
given_on : (rows : List Row) (old new : List Parts) (k : ℕ) (x y : ℚ) → GoesOn old new → x ≡ y → IsGiven rows old k x → IsGiven rows new k y
given_on rows old new k x y g e i = record {
  row = i.row;
  there = i.there;
  gives = record {
    bound = i.gives.bound;
    reads = reads_on old new i.row (Some i.gives.bound) g i.gives.reads;
    bounds = i.gives.bounds;
    is = i.gives.is ∙ e;
  };
}

pub rests_on : (rows : List Row) (old new : System) → AllStay old new → GoesOn old.forms new.forms → Rests rows old → Rests rows new
rests_on rows old new stay g r j f =
    let s = stay j f in
    elim (r j s.0) [
      | inl z ↦ inl (s.1 ∙ z)
      | inr i ↦ inr (given_on rows old.forms new.forms j (valuation_of old.values j) (valuation_of new.values j) g (sym s.1) i)
    ]

pub rests_more : (rows more : List Row) (s : System) → Rests rows s → Rests (rows ++ more) s
rests_more rows more s r j f =
    elim (r j f) [
      | inl z ↦ inl z
      | inr i ↦ inr (record { row = i.row; there = Contains-append_left rows more i.row i.there; gives = i.gives })
    ]

pub among_more : (rows more : List Row) (standing : List Standing) → AllAmong rows standing → AllAmong (rows ++ more) standing
among_more rows more standing a =
    All-weaker (λ (t : Standing). Contains rows t.row) (λ (t : Standing). Contains (rows ++ more) t.row) (λ t c. Contains-append_left rows more t.row c) standing a

pub among_push : (rows : List Row) (standing : List Standing) (s : Standing) (row : Row) → s.row ≡ row → AllAmong rows standing → AllAmong (rows ++ row ∷ []) (standing ++ s ∷ [])
among_push rows standing s row e a =
    All-push (λ (t : Standing). Contains (rows ++ row ∷ []) t.row) standing s
    (among_more rows (row ∷ []) standing a) (subst (Contains (rows ++ row ∷ [])) (sym e) (Contains-push rows row))

all_at : {X : Type 0} (P : X → Type 0) (xs : List X) (k : ℕ) (x : X) → All P xs → slice_get xs k ≡ Some x → P x
all_at P [] k x a h = absurd (cc)
all_at P (y ∷ ys) zero x a h = let q : y ≡ x = cc in subst P q (All-head P y ys a)
all_at P (y ∷ ys) (suc k) x a h = all_at P ys k x (All-tail P y ys a) h

at_limit_given : (rows : List Row) (standing : List Standing) (limits : Limits) (forms : List Parts) (j : ℕ) (x : ℚ) → AllRead forms standing → AllGiven standing limits
    → AllAmong rows standing → IsAtLimit limits j x → IsGiven rows forms j x
at_limit_given rows standing limits forms j x read given among at =
    let g : IsLimit standing at.side j at.limit = subst (λ o. IfSome o (IsLimit standing at.side j)) at.is (given at.side j) in
    record {
      row = g.standing.row;
      there = all_at (λ (t : Standing). Contains rows t.row) standing at.limit.row g.standing among g.stands;
      gives = record { bound = at.limit.bound; reads = limit_read standing forms at.side j at.limit read g; bounds = g.bounds; is = sym at.at };
    }

pub rests_settled : (rows : List Row) (standing : List Standing) (limits : Limits) (old new : System) → AllRead old.forms standing → AllGiven standing limits
    → new.forms ≡ old.forms → Settles limits old new → AllAmong rows standing → Rests rows old → Rests rows new
rests_settled rows standing limits old new read given same settles among r j f =
    elim (settles j f) [
      | inl at ↦ inr (subst (λ fs. IsGiven rows fs j (valuation_of new.values j)) (sym same)
          (at_limit_given rows standing limits old.forms j (valuation_of new.values j) read given among at))
      | inr stay ↦ elim (r j stay.0) [
        | inl z ↦ inl (stay.1 ∙ z)
        | inr i ↦ inr (subst (λ fs. IsGiven rows fs j (valuation_of new.values j)) (sym same) (subst (IsGiven rows old.forms j) (sym stay.1) i))
      ]
    ]

-- ---- a shift
pub shift_brings : (s : System) (values : List Frac) (v : ℕ) (bound by : ℚ) → IsFree s.lines v → by ≡ bound -ℚ valuation_of s.values v → IsShifted s.lines s.values v by values
    → Brings s (record { terms = s.terms; forms = s.forms; lines = s.lines; values = values }) v bound
shift_brings s values v bound by f e h j free =
    elim (eq_or j v) [
      | inl q ↦ inl (
        q,
        ap (valuation_of values) q ∙ h.1 v f.inside ∙ ap₂ (λ t u. valuation_of s.values v +ℚ t *ℚ u) (f.own v ∙ unit_here v) e
            ∙ solve (valuation_of s.values v ∷ bound ∷ []) (var 0 ⊕ con (pos 1) ⊗ (var 1 ⊖ var 0)) (var 1) refl,
      )
      | inr n ↦ inr (n, (free, unmoved s.lines s.values values v by j h free (λ q. n (sym q))))
    ]

-- ---- a pivot
pub quotient_times : (by way f : ℚ) → ¬ (f ≡ whole (pos 0)) → by ≡ way /ℚ f → by *ℚ f ≡ way
quotient_times by way f n e = ap (λ t. t *ℚ f) e ∙ /ℚ_is way f n

pub pivot_exchanges : (s : System) (new : List (List Entry)) (values : List Frac) (b k : ℕ) (f : ℚ) (nil : List Entry) (bound by : ℚ) → AreLines s.forms s.lines → IsPivot s.lines new b k f nil
    → by *ℚ f ≡ bound -ℚ valuation_of s.values b → IsShifted s.lines s.values k by values
    → Exchanges s (record { terms = s.terms; forms = s.forms; lines = new; values = values }) b k bound
pivot_exchanges s new values b k f nil bound by a p e h = record {
  left = pivot_leaving s.lines new b k f nil p;
  takes = h.1 b p.inside ∙ ap (λ t. valuation_of s.values b +ℚ t *ℚ by) p.factor
      ∙ solve (valuation_of s.values b ∷ f ∷ by ∷ []) (var 0 ⊕ var 1 ⊗ var 2) (var 0 ⊕ var 2 ⊗ var 1) refl
      ∙ ap (λ t. valuation_of s.values b +ℚ t) e ∙ solve (valuation_of s.values b ∷ bound ∷ []) (var 0 ⊕ (var 1 ⊖ var 0)) (var 1) refl;
  entered = λ free. one_apart (sym (pivot_entering s.lines new b k f nil k p p.free.inside) ∙ free.own k ∙ unit_here k);
  others = λ j m n. ((λ free. (pivot_free_before s.forms s.lines new b k f nil j a p free m).0), (λ free. pivot_others s.lines new b k f nil j p free n));
  stays = λ j free n. unmoved s.lines s.values values k by j h free (λ q. n (sym q));
}

pub exchange_brings : (a b : System) (leaving entering : ℕ) (x : ℚ) → Exchanges a b leaving entering x → Brings a b leaving x
exchange_brings a b leaving entering x e j free =
    elim (eq_or j leaving) [
      | inl q ↦ inl (q, ap (valuation_of b.values) q ∙ e.takes)
      | inr m ↦
          let n : j ≢ entering = (λ q. e.entered (subst (IsFree b.lines) q free)) in
          let before = (e.others j m n).0 free in inr (m, (before, e.stays j before n))
    ]
