-- Chains of pivots, turn by turn.
use Rattle.std.proofs.Common.{◌≡◌, ◌≢◌, ℕ, suc, ◌<◌, ◌≤◌, ◌⊎◌, inl, inr, arith, refl, sym, ap, ap₂, subst, ◌∙◌, ◌==◌, if◌then◌else◌, List, Some, slice_get}
use Rattle.lq_logic_rows.specs.Row.{Row}
use Rattle.lq_logic_rows.specs.Contradiction.{Tagged}
use Rattle.lq_logic_rows.specs.Forms.{Parts}
use Rattle.lq_prover_pivots.specs.Pivots.Rows.{Variables}
use Rattle.lq_prover_pivots.specs.Pivots.Configurations.{Configuration, IsConfiguration}
use Rattle.lq_prover_pivots.specs.Pivots.Pivots.{Pivot, IsChain}
use Rattle.lq_prover_simplex.specs.declared.row.Standing.{Standing}
use Rattle.lq_prover_simplex.specs.declared.limits.Broken.{Broken}
use Rattle.lq_prover_simplex.specs.declared.line.Entry.{Entry}
use Rattle.lq_prover_simplex.specs.declared.error.TableauError.{TableauError}
use Rattle.lq_prover_simplex.specs.declared.error.TableauError.TheVariants.{Past, Spent, Memory}
use Rattle.lq_prover_simplex.specs.Systems.{System, IsSystem}
use Rattle.lq_prover_simplex.specs.Standing.{standing_of, AllRead}
use Rattle.lq_prover_simplex.specs.Bounds.{Limits, interval_at, AreTightest}
use Rattle.lq_prover_simplex.specs.Appearing.{AreFormsOf}
use Rattle.lq_prover_simplex.specs.Configurations.{AllAmong, Rests, Settles}
use Rattle.lq_prover_pivots.specs.Work.Work.{IsOneOrEntry}
use Rattle.lq_base_numbers.specs.Fractions.Value.{value_of}
use Rattle.lq_prover_simplex.specs.Operations.{StopsIn, IsExplained}
use Rattle.lq_prover_simplex.specs.Working.{IsWorkOver}
use Rattle.lq_prover_simplex.specs.Table.{FailsBy, HasCause, HasWork}
use Rattle.lq_prover_simplex.proofs.Combinations.{eqb_by, eq_or}
use Rattle.lq_prover_simplex.proofs.Resting.{rests_settled}
use Rattle.lq_prover_simplex.proofs.Bounding.{variables_of, rows_of}
use Rattle.lq_prover_simplex.proofs.Configuring.{configuration_of, is_configuration}
use Rattle.lq_prover_simplex.proofs.Naming.{are_variables}
use Rattle.lq_prover_simplex.proofs.Turning.{IsTurn, turn_pivots}
use Rattle.lq_prover_simplex.proofs.Working.{explained_work}

-- a chain of so many pivots ends at this configuration
pub record Reaches (vs : Variables) (ever standing : List Row) (count : ℕ) (last : Configuration) : Type 0 where
  pub chain : ℕ → Configuration
  pub is : IsChain vs ever standing count chain
  pub ends : chain count ≡ last

further : (ℕ → Configuration) → ℕ → Configuration → ℕ → Configuration
further chain n c i = if i == n then c else chain i

further_here : (chain : ℕ → Configuration) (n : ℕ) (c : Configuration) (i : ℕ) → i ≡ n → further chain n c i ≡ c
unfolding further
further_here chain n c i e = eqb_by i n (λ q r. ap (λ t. if t then c else chain i) q) (λ q m. absurd (m e))

further_else : (chain : ℕ → Configuration) (n : ℕ) (c : Configuration) (i : ℕ) → i ≢ n → further chain n c i ≡ chain i
unfolding further
further_else chain n c i m = eqb_by i n (λ q r. absurd (m r)) (λ q r. ap (λ t. if t then c else chain i) q)

pub reaches_first : (vs : Variables) (ever standing : List Row) (n : ℕ) (c : Configuration) → n ≡ 0 → IsConfiguration vs ever c → Reaches vs ever standing n c
reaches_first vs ever standing n c e h = record {
  chain = λ i. c;
  is = record { each = λ i l. h; pivot = λ i l. absurd (omega arith) };
  ends = refl;
}

pub reaches_more : (vs : Variables) (ever standing : List Row) (n m : ℕ) (a b : Configuration) → m ≡ suc n → Reaches vs ever standing n a → IsConfiguration vs ever b → Pivot vs standing a b
    → Reaches vs ever standing m b
reaches_more vs ever standing n m a b e r h p = record {
  chain = further r.chain m b;
  is = record { each = λ i l. each i l (eq_or i m); pivot = λ i l. pivot i l (eq_or i n) };
  ends = further_here r.chain m b m refl;
}
  where
    each : (i : ℕ) → i ≤ m → (i ≡ m) ⊎ (i ≢ m) → IsConfiguration vs ever (further r.chain m b i)
    each i l (inl q) = subst (IsConfiguration vs ever) (sym (further_here r.chain m b i q)) h
    each i l (inr k) = subst (IsConfiguration vs ever) (sym (further_else r.chain m b i k)) (r.is.each i (omega arith))

    pivot : (i : ℕ) → i < m → (i ≡ n) ⊎ (i ≢ n) → Pivot vs standing (further r.chain m b i) (further r.chain m b (suc i))
    pivot i l (inl q) =
        subst (λ c. Pivot vs standing (further r.chain m b i) c) (sym (further_here r.chain m b (suc i) (omega arith)))
        (subst (λ c. Pivot vs standing c b) (sym (further_else r.chain m b i (λ z. absurd (omega arith)) ∙ ap r.chain q ∙ r.ends)) p)
    pivot i l (inr k) =
        subst (λ c. Pivot vs standing (further r.chain m b i) c) (sym (further_else r.chain m b (suc i) (λ z. absurd (omega arith))))
        (subst (λ c. Pivot vs standing c (r.chain (suc i))) (sym (further_else r.chain m b i (λ z. absurd (omega arith)))) (r.is.pivot i (omega arith)))

-- ---- from the start of a check on
-- so many turns lead from one system to another, whatever rows were handed over
abbrev pub Turns : System → List Standing → ℕ → System → Type 0
Turns old rows count s =
    (ever : List Row) → AreFormsOf ever old.terms old.forms → AllAmong ever rows → Rests ever old → Reaches (variables_of old) ever (rows_of rows) count (configuration_of s)

pub no_turns : (s : System) (rows : List Standing) (n : ℕ) → n ≡ 0 → IsSystem s → Turns s rows n s
no_turns s rows n e i ever forms among rests = reaches_first (variables_of s) ever (rows_of rows) n (configuration_of s) e (is_configuration ever s i rests)

same_variables : (a b : System) → b.terms ≡ a.terms → b.forms ≡ a.forms → variables_of b ≡ variables_of a
same_variables a b t f = ap₂ (λ (n : ℕ) (fs : List Parts). record { terms = n; forms = fs }) t f

pub one_turn : (old s d : System) (rows : List Standing) (limits : Limits) (broken : Broken) (at : ℕ) (e : Entry) (n m : ℕ) → m ≡ suc n → s.terms ≡ old.terms → s.forms ≡ old.forms
    → d.terms ≡ s.terms → Settles limits old d → IsTurn s d rows limits broken at e → Turns old rows n s → Turns old rows m d
one_turn old s d rows limits broken at e n m count terms forms more settles t before ever among_forms among rests =
    let same : variables_of s ≡ variables_of old = same_variables old s terms forms in
    let next : variables_of d ≡ variables_of old = same_variables old d (more ∙ terms) (t.forms ∙ forms) in
    let rest : Rests ever d =
    rests_settled ever rows limits old d (subst (λ (fs : List Parts). AllRead fs rows) forms t.read) t.tightest.given (t.forms ∙ forms) settles among rests in
    reaches_more (variables_of old) ever (rows_of rows) n m (configuration_of s) (configuration_of d) count (before ever among_forms among rests)
    (subst (λ vs. IsConfiguration vs ever (configuration_of d)) next (is_configuration ever d t.next rest))
    (subst (λ vs. Pivot vs (rows_of rows) (configuration_of s) (configuration_of d)) same (turn_pivots s d rows limits broken at e t))

-- ---- the causes of errors
pub turns_cause : (old s : System) (rows : List Standing) (limit n : ℕ) → IsSystem old → n ≡ limit → Turns old rows n s → HasCause old rows limit Spent
turns_cause old s rows limit n i e turns ever forms among rests =
    let r = turns ever forms among rests in
    record {
      variables = variables_of old;
      over = refl;
      listed = are_variables ever old.terms old.forms i.are_forms forms;
      chain = r.chain;
      pivots = subst (λ k. IsChain (variables_of old) ever (rows_of rows) k r.chain) e r.is;
    }

pub work_fails : (terms limit : ℕ) (standing : Tagged) (ever : List Row) (error : TableauError) → StopsIn (IsWorkOver terms ever) error → FailsBy terms limit standing ever error
work_fails terms limit standing ever (Past e) h = h
work_fails terms limit standing ever Spent h = absurd h
work_fails terms limit standing ever Memory h = tt

pub work_cause : (s : System) (rows : List Standing) (limits : Limits) (limit : ℕ) (error : TableauError) → AllRead s.forms rows → AreTightest rows (interval_at limits)
    → HasWork s limits error → HasCause s rows limit error
work_cause s rows limits limit error read tight work ever forms among rests =
    work_fails s.terms limit (standing_of rows) ever error (work ever rows read tight.given forms among rests)

-- the cause of an error from a system that settled is one from the system before
pub settled_cause : (old s : System) (rows : List Standing) (limits : Limits) (limit : ℕ) (error : TableauError) → AllRead old.forms rows → AreTightest rows (interval_at limits)
    → s.terms ≡ old.terms → s.forms ≡ old.forms → Settles limits old s → HasCause s rows limit error → HasCause old rows limit error
settled_cause old s rows limits limit error read tight terms forms settles cause ever are among rests =
    subst (λ k. FailsBy k limit (standing_of rows) ever error) terms
    (cause ever (subst (λ k. AreFormsOf ever k s.forms) (sym terms) (subst (AreFormsOf ever old.terms) (sym forms) are)) among
    (rests_settled ever rows limits old s read tight.given forms settles among rests))

-- the multipliers of a conflict, at a system that settled
pub explained_cause : (old s : System) (rows : List Standing) (limits : Limits) (limit : ℕ) (line : List Entry) (error : TableauError) → AllRead old.forms rows
    → AreTightest rows (interval_at limits) → s.terms ≡ old.terms → s.forms ≡ old.forms → Settles limits old s → IsSystem s
    → ((k : ℕ) (f : Entry) → slice_get line k ≡ Some f → IsOneOrEntry (variables_of s) (configuration_of s) (value_of f.factor))
    → StopsIn (IsExplained rows line) error → HasCause old rows limit error
explained_cause old s rows limits limit line error read tight terms forms settles i entries stop =
    settled_cause old s rows limits limit error read tight terms forms settles
    (λ ever are among rests. work_fails s.terms limit (standing_of rows) ever error
    (explained_work s rows line ever error i (subst (λ (fs : List Parts). AllRead fs rows) (sym forms) read) entries stop are among rests))
