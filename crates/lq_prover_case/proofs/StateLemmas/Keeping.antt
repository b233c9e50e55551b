-- The rows that stand with their difference rows in the table of distances: one more comes, and the last ones go.
use Rattle.std.proofs.Common.{◌≡◌, ◌≢◌, ℕ, ◌+◌, ◌-◌, ◌≤◌, ◌<◌, List, [], ◌∷◌, ◌++◌, Option, Some, None, MatchBool, true, false, sym, ap, ap₂, subst, ◌∙◌, arith, length, take, slice_get, get_or, ◌⊎◌, inl, inr}
use Rattle.std.specs.Option.{IsNone, IfSome}
use Rattle.std.proofs.lemmas.List.{length-take, length-take-le}
use Rattle.lq_logic_rows.specs.Answers.{Stopped}
use Rattle.lq_logic_rows.specs.Contradiction.{Tagged, tagged}
use Rattle.lq_logic_rows.specs.Difference.{IsDifference, TermsBelow}
use Rattle.lq_prover_differences.specs.Table as diff
use Rattle.lq_prover_case.specs.declared.state.stored.StoredRow.{StoredRow}
use Rattle.lq_prover_case.specs.State.Stored.{tagged_rows, differences_in, odd_from, AllBelow, AreApart, AllHoldAt, IsFront, IsKept, KeepsFirst, MayBeFilled, Stands, StopsInTableau}
use Rattle.std.proofs.lemmas.Option.{slice_get-get_or}
use Rattle.lq_base_numbers.specs.Rationals.Rational.{ℚ}
use Rattle.lq_logic_rows.specs.Contradiction.{Solves, IsContradiction}
use Rattle.lq_logic_rows.specs.Row.{Row, Valuation}
use Rattle.lq_logic_rows.specs.declared.engine.LinearStop.{LinearStop}
use Rattle.lq_logic_rows.specs.declared.engine.LinearStop.TheVariants.{Memory}
use Rattle.lq_prover_differences.specs.Stops.{PastBy}
use Rattle.lq_prover_simplex.specs.Table as table
use Rattle.lq_prover_case.specs.State.RowState.{MayStop}
use Rattle.lq_prover_case.proofs.StateLemmas.Evidence.{push_apart, take_apart, contradiction_more, stops_more, stops_either}
use Rattle.lq_prover_case.proofs.StateLemmas.Fronts.{front_push, front_take}
use Rattle.lq_prover_case.proofs.StateLemmas.Kept.{IsMarkedBy, tagged-push, tagged-take, differences-odd, differences-even, differences-take, odd-odd, odd-even, odd-take, push_below, take_below, push_marked, take_marked, marked_at, both_lengths, found_differences, constants_among, solves_both, none_odd}

-- a row that may come
pub record IsNew (stored : List StoredRow) (odd : List ℕ) (terms : ℕ) (s : StoredRow) : Type 0 where
  pub below : TermsBelow terms s.row.parts
  pub fresh : IsNone (tagged (tagged_rows stored) s.tag)
  pub marked : IsMarkedBy s
  pub before : s.odd_before ≡ length odd

pub new_row : (stored : List StoredRow) (odd : List ℕ) (terms : ℕ) (s : StoredRow) (row : Row) (tag : ℕ) → TermsBelow terms row.parts → IsNone (tagged (tagged_rows stored) tag)
    → s.row ≡ row → s.tag ≡ tag → MatchBool s.odd (IsDifference row.parts → ⊥) (IsDifference row.parts) → s.odd_before ≡ length odd → IsNew stored odd terms s
new_row stored odd terms s row tag below fresh r t kind before = record {
  below = subst (λ (w : Row). TermsBelow terms w.parts) (sym r) below;
  fresh = subst (λ n. IsNone (tagged (tagged_rows stored) n)) (sym t) fresh;
  marked = subst (λ (w : Row). MatchBool s.odd (IsDifference w.parts → ⊥) (IsDifference w.parts)) (sym r) kind;
  before = before;
}

pub stands_now : (stored new : List StoredRow) (s : StoredRow) (row : Row) (tag : ℕ) → s.row ≡ row → s.tag ≡ tag → new ≡ stored ++ s ∷ []
    → tagged_rows new ≡ tagged_rows stored ++ (tag, row) ∷ []
stands_now stored new s row tag r t is = ap tagged_rows is ∙ tagged-push stored s ∙ ap₂ (λ n w. tagged_rows stored ++ (n, w) ∷ []) t r

pub some_weaker : {X : Type 0} {P Q : X → Type 0} (o : Option X) → ((x : X) → P x → Q x) → IfSome o P → IfSome o Q
some_weaker None f h = tt
some_weaker (Some x) f h = f x h

pub kept_odd : (stored new : List StoredRow) (odd more : List ℕ) (d : diff.Table) (s : StoredRow) → IsKept stored odd d → IsNew stored odd d.terms s → s.odd ≡ true
    → new ≡ stored ++ s ∷ [] → more ≡ odd ++ length stored ∷ [] → IsKept new more d
kept_odd stored new odd more d s k h o is more_is = subst (λ l. IsKept l more d) (sym is) (record {
  below = subst (AllBelow d.terms) (sym (tagged-push stored s)) (push_below d.terms (tagged_rows stored) s.tag s.row k.below h.below);
  apart = subst AreApart (sym (tagged-push stored s)) (push_apart (tagged_rows stored) s.tag s.row k.apart h.fresh);
  marked = push_marked stored s k.marked h.marked (h.before ∙ ap length k.places);
  places = more_is ∙ ap (λ l. l ++ length stored ∷ []) k.places ∙ sym (odd-odd stored s o);
  standing = k.standing ∙ sym (differences-odd stored s o);
  going = k.going;
})

pub kept_even : (stored new : List StoredRow) (odd : List ℕ) (d e : diff.Table) (s : StoredRow) → IsKept stored odd d → IsNew stored odd d.terms s → s.odd ≡ false
    → new ≡ stored ++ s ∷ [] → e.terms ≡ d.terms → diff.table_rows e ≡ diff.table_rows d ++ (s.tag, s.row) ∷ [] → diff.table_last e ≢ Stopped
    → IsKept new odd e
kept_even stored new odd d e s k h o is same rows going =
    let terms : d.terms ≡ e.terms = sym same in
    subst (λ l. IsKept l odd e) (sym is) (record {
      below = subst (λ n. AllBelow n (tagged_rows (stored ++ s ∷ []))) terms
          (subst (AllBelow d.terms) (sym (tagged-push stored s)) (push_below d.terms (tagged_rows stored) s.tag s.row k.below h.below));
      apart = subst AreApart (sym (tagged-push stored s)) (push_apart (tagged_rows stored) s.tag s.row k.apart h.fresh);
      marked = push_marked stored s k.marked h.marked (h.before ∙ ap length k.places);
      places = k.places ∙ sym (odd-even stored s o);
      standing = rows ∙ ap (λ l. l ++ (s.tag, s.row) ∷ []) k.standing ∙ sym (differences-even stored s o);
      going = going;
    })

-- the number of odd rows before one
pub before_within : (stored : List StoredRow) (odd : List ℕ) (d : diff.Table) (count : ℕ) (s : StoredRow) → IsKept stored odd d → slice_get stored count ≡ Some s → count ≤ length stored
    → (length (differences_in (take count stored)) + s.odd_before ≡ count) × (s.odd_before ≡ length (odd_from 0 (take count stored)))
before_within stored odd d count s k at within =
    let e = marked_at stored count s k.marked at in
    let b = both_lengths 0 (take count stored) in
    let l = length-take-le count stored within in
    ((omega arith), e)

pub differences_fit : (stored : List StoredRow) (k : ℕ) → length (differences_in (take k stored)) ≤ length (differences_in stored)
differences_fit stored k = let e = ap length (differences-take k stored) in let f = length-take (length (differences_in (take k stored))) (differences_in stored) in omega arith

pub kept_first : (stored new : List StoredRow) (odd less : List ℕ) (d e : diff.Table) (count : ℕ) (s : StoredRow) → IsKept stored odd d → slice_get stored count ≡ Some s → count ≤ length stored
    → new ≡ take count stored → less ≡ take s.odd_before odd → diff.table_limits e ≡ diff.table_limits d → diff.table_rows e ≡ take (count - s.odd_before) (diff.table_rows d)
    → diff.table_last e ≢ Stopped → IsKept new less e
kept_first stored new odd less d e count s k at within is less_is limits rows going =
    let terms : d.terms ≡ e.terms = cc in
    let n = before_within stored odd d count s k at within in
    let m : count - s.odd_before ≡ length (differences_in (take count stored)) = let n0 = n.0 in omega arith in
    subst (λ l. IsKept l less e) (sym is) (record {
      below = subst (λ n. AllBelow n (tagged_rows (take count stored))) terms
          (subst (AllBelow d.terms) (sym (tagged-take count stored)) (take_below d.terms (tagged_rows stored) count k.below));
      apart = subst AreApart (sym (tagged-take count stored)) (take_apart (tagged_rows stored) count k.apart);
      marked = take_marked 0 stored count k.marked;
      places = less_is ∙ ap (λ j. take j odd) n.1 ∙ ap (take (length (odd_from 0 (take count stored)))) k.places ∙ sym (odd-take 0 count stored);
      standing = rows ∙ ap (λ j. take j (diff.table_rows d)) m ∙ ap (take (length (differences_in (take count stored)))) k.standing ∙ sym (differences-take count stored);
      going = going;
    })

pub read_at : (l items : List StoredRow) (k : ℕ) (s : StoredRow) → l ≡ items → k < length l → s ≡ get_or l k s → slice_get items k ≡ Some s
read_at l items k s e h is = subst (λ x. slice_get x k ≡ Some s) e (slice_get-get_or l k s h ∙ ap Some (sym is))

-- how many difference rows stay
pub stay_within : (stored : List StoredRow) (odd : List ℕ) (d : diff.Table) (count : ℕ) (s : StoredRow) → IsKept stored odd d → slice_get stored count ≡ Some s → count ≤ length stored
    → (s.odd_before ≤ count) × ((count - s.odd_before) ≤ length (diff.table_rows d))
stay_within stored odd d count s k at within =
    let n = (before_within stored odd d count s k at within).0 in let f = differences_fit stored count in let e = ap length k.standing in
    (omega arith, omega arith)

-- ---- the same rows after a check
pub kept_again : (stored : List StoredRow) (odd : List ℕ) (d e : diff.Table) → IsKept stored odd d → diff.table_limits e ≡ diff.table_limits d → diff.table_rows e ≡ diff.table_rows d
    → diff.table_last e ≢ Stopped → IsKept stored odd e
kept_again stored odd d e k limits rows going =
    let terms : d.terms ≡ e.terms = cc in
    record {
      below = subst (λ n. AllBelow n (tagged_rows stored)) terms k.below;
      apart = k.apart;
      marked = k.marked;
      places = k.places;
      standing = rows ∙ k.standing;
      going = going;
    }

pub kept_clash : (stored : List StoredRow) (odd : List ℕ) (d : diff.Table) (rows : Tagged) (ms : List (ℕ × ℚ)) → IsKept stored odd d → rows ≡ diff.table_rows d
    → IsContradiction rows ms → IsContradiction (tagged_rows stored) ms
kept_clash stored odd d rows ms k e c =
    contradiction_more (differences_in stored) (tagged_rows stored) ms (found_differences stored k.apart) (subst (λ l. IsContradiction l ms) (e ∙ k.standing) c)

pub kept_solves : (v : Valuation) (stored : List StoredRow) (odd : List ℕ) (d : diff.Table) (rows : Tagged) → IsKept stored odd d → rows ≡ diff.table_rows d → Solves v rows
    → AllHoldAt v stored odd → Solves v (tagged_rows stored)
kept_solves v stored odd d rows k e s h = solves_both v stored (subst (AllHoldAt v stored) k.places h) (subst (Solves v) (e ∙ k.standing) s)

pub stops_distances : (terms pivots : ℕ) (ever : List Row) (stored : List StoredRow) (odd : List ℕ) (d : diff.Table) (stop : LinearStop) → IsKept stored odd d
    → (stop ≡ Memory) ⊎ ((rows : List Row) → Unit {0} → PastBy (diff.constants (diff.table_rows d)) stop) → MayStop terms pivots ever (Stands (tagged_rows stored)) (tagged_rows stored) stop
stops_distances terms pivots ever stored odd d stop k h =
    let s = stops_more _ (diff.constants (tagged_rows stored)) stop (let m = constants_among stored in let e = ap diff.constants k.standing in omega arith) (stops_either _ stop h) in
    record { differences = λ all. s; any = inl s }

pub stops_tableau : (terms pivots : ℕ) (ever : List Row) (stored : List StoredRow) (odd : List ℕ) (d : diff.Table) (stop : LinearStop) → IsKept stored odd d → (odd ≡ [] → ⊥)
    → StopsInTableau terms pivots ever (Stands (tagged_rows stored)) stop → MayStop terms pivots ever (Stands (tagged_rows stored)) (tagged_rows stored) stop
stops_tableau terms pivots ever stored odd d stop k some h =
    record { differences = λ all. absurd (some (k.places ∙ none_odd 0 0 stored k.marked all)); any = inr h }

pub held : (v : Valuation) (rows stored : List StoredRow) (indexes odd : List ℕ) → rows ≡ stored → indexes ≡ odd → AllHoldAt v rows indexes → AllHoldAt v stored odd
held v rows stored indexes odd e f h = subst (λ l. AllHoldAt v l odd) e (subst (AllHoldAt v rows) f h)

-- a tableau keeps the first rows
pub filled_first : (terms pivots count : ℕ) (all : Tagged) (t u : Option table.Table) → MayBeFilled terms pivots all t → KeepsFirst count t u → MayBeFilled terms pivots (take count all) u
filled_first terms pivots count all None None f k = tt
filled_first terms pivots count all None (Some u) f k = absurd k
filled_first terms pivots count all (Some t) None f k = absurd k
filled_first terms pivots count all (Some t) (Some u) f k = record {
  limits = k.0 ∙ f.limits;
  front = subst (λ l. IsFront l (take count all)) (sym k.1) (front_take count (table.table_rows t) all f.front);
  going = k.2 f.going;
}

pub filled_more : (terms pivots : ℕ) (all more : Tagged) (t : Option table.Table) → MayBeFilled terms pivots all t → MayBeFilled terms pivots (all ++ more) t
filled_more terms pivots all more None f = tt
filled_more terms pivots all more (Some t) f = record {
  limits = f.limits;
  front = front_push (table.table_rows t) all more f.front;
  going = f.going;
}
