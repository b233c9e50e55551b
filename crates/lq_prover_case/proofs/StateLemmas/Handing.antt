-- What a tableau was ever handed, and its stops.
use Rattle.std.proofs.Common.{◌≡◌, ℕ, zero, suc, List, [], ◌∷◌, ◌++◌, All, Option, Some, None, append-nil, refl, sym, subst, slice_get, Result, Ok, Err, IfErr, ◌⊎◌, inl, inr}
use Rattle.std.proofs.lemmas.List.{append_assoc}
use Rattle.std.proofs.lemmas.List.Elements.{All-append, All-cons, All-head, All-nil, All-tail, All-weaker}
use Rattle.lq_logic_rows.specs.Contradiction.{Tagged}
use Rattle.lq_logic_rows.specs.Row.{Row}
use Rattle.lq_logic_rows.specs.declared.engine.LinearStop.{LinearStop}
use Rattle.lq_logic_rows.specs.declared.engine.LinearStop.TheVariants.{Memory}
use Rattle.lq_prover_simplex.specs.Table as table
use Rattle.lq_prover_differences.specs.Stops.{StopsBy}
use Rattle.lq_prover_differences.specs.Table.{constants}
use Rattle.lq_prover_case.specs.State.RowState.{MayStop}
use Rattle.lq_prover_case.specs.State.Stored.{HandsMore, KeepsFirst, Stands, StopsInTableau, WasHanded}

-- ---- rows that were handed

pub hands_kept : (P : Row → Type 0) (t u : Option table.Table) → ((ever : List Row) → WasHanded t ever → WasHanded u ever) → HandsMore P t u
hands_kept P t u keeps = record { more = []; each = All-nil P; handed = λ ever h. subst (WasHanded u) (sym (append-nil ever)) (keeps ever h) }

pub hands_then : (P : Row → Type 0) (t u v : Option table.Table) → HandsMore P t u → HandsMore P u v → HandsMore P t v
hands_then P t u v h k = record {
  more = h.more ++ k.more;
  each = All-append P h.more k.more h.each k.each;
  handed = λ ever e. subst (WasHanded v) (append_assoc ever h.more k.more) (k.handed (ever ++ h.more) (h.handed ever e));
}

pub hands_as : (P Q : Row → Type 0) (t u : Option table.Table) → ((r : Row) → P r → Q r) → HandsMore P t u → HandsMore Q t u
hands_as P Q t u f h = record { more = h.more; each = All-weaker P Q f h.more h.each; handed = h.handed }

-- one row more
pub hands_row : (P : Row → Type 0) (t u v : Option table.Table) (r : Row) → P r → HandsMore P t u → ((ever : List Row) → WasHanded u ever → WasHanded v (ever ++ r ∷ [])) → HandsMore P t v
hands_row P t u v r p h f = hands_then P t u v h (record { more = r ∷ []; each = All-cons P r [] p (All-nil P); handed = f })

-- a tableau that keeps the first rows
pub first_handed : (count : ℕ) (t u : Option table.Table) → KeepsFirst count t u → (ever : List Row) → WasHanded t ever → WasHanded u ever
first_handed count None None k ever h = h
first_handed count None (Some u) k ever h = absurd k
first_handed count (Some t) None k ever h = absurd k
first_handed count (Some t) (Some u) k ever h = k.3 ever h

-- ---- stops

pub stops_as : (P Q : Row → Type 0) (terms pivots : ℕ) (ever : List Row) (stop : LinearStop) → ((r : Row) → P r → Q r) → StopsInTableau terms pivots ever P stop
    → StopsInTableau terms pivots ever Q stop
stops_as P Q terms pivots ever stop f h = record {
  more = h.more;
  each = All-weaker P Q f h.more h.each;
  standing = h.standing;
  each_stands = All-weaker {X = ℕ × Row} (λ r. P r.1) (λ r. Q r.1) (λ r. f r.1) h.standing h.each_stands;
  stops = h.stops;
}

-- a stop of a tableau that was handed more before
pub stops_less : (P : Row → Type 0) (terms pivots : ℕ) (ever more : List Row) (stop : LinearStop) → All P more → StopsInTableau terms pivots (ever ++ more) P stop
    → StopsInTableau terms pivots ever P stop
stops_less P terms pivots ever more stop each s = record {
  more = more ++ s.more;
  each = All-append P more s.more each s.each;
  standing = s.standing;
  each_stands = s.each_stands;
  stops = subst (λ l. table.StopsAt terms pivots s.standing l stop) (append_assoc ever more s.more) s.stops;
}

pub stops_then : (P : Row → Type 0) (t u : Option table.Table) (terms pivots : ℕ) (stop : LinearStop) → HandsMore P t u
    → ((ever : List Row) → WasHanded u ever → StopsInTableau terms pivots ever P stop) → (ever : List Row) → WasHanded t ever → StopsInTableau terms pivots ever P stop
stops_then P t u terms pivots stop h f ever e = stops_less P terms pivots ever h.more stop h.each (f (ever ++ h.more) (h.handed ever e))

-- a stop of a tableau that was handed these rows
pub stops_now : (P : Row → Type 0) (terms pivots : ℕ) (ever : List Row) (standing : Tagged) (stop : LinearStop) → All (λ r. P r.1) standing
    → table.StopsAt terms pivots standing ever stop → StopsInTableau terms pivots ever P stop
stops_now P terms pivots ever standing stop all h = record {
  more = [];
  each = All-nil P;
  standing = standing;
  each_stands = all;
  stops = subst (λ l. table.StopsAt terms pivots standing l stop) (sym (append-nil ever)) h;
}

-- want of memory
pub stops_memory : (P : Row → Type 0) (terms pivots : ℕ) (ever : List Row) → StopsInTableau terms pivots ever P Memory
stops_memory P terms pivots ever = stops_now P terms pivots ever [] Memory (All-nil {X = ℕ × Row} (λ r. P r.1)) tt

-- a stop at a row that the tableau is handed next
pub stops_row : (P : Row → Type 0) (t u : table.Table) (standing : Tagged) (tag : ℕ) (r : Row) (stop : LinearStop) → P r → All (λ q. P q.1) standing
    → HandsMore P (Some t) (Some u) → table.table_limits u ≡ table.table_limits t
    → ((ever : List Row) → table.Handed u ever → table.StopsAt u.system.terms u.limit (standing ++ (tag, r) ∷ []) (ever ++ r ∷ []) stop)
    → (ever : List Row) → table.Handed t ever → StopsInTableau t.system.terms t.limit ever P stop
stops_row P t u standing tag r stop p all h same f =
    let terms : u.system.terms ≡ t.system.terms = cc in let limit : u.limit ≡ t.limit = cc in
    stops_then P (Some t) (Some u) t.system.terms t.limit stop h (λ ever k. record {
      more = r ∷ [];
      each = All-cons P r [] p (All-nil P);
      standing = standing ++ (tag, r) ∷ [];
      each_stands = All-append {X = ℕ × Row} (λ q. P q.1) standing ((tag, r) ∷ []) all (All-cons {X = ℕ × Row} (λ q. P q.1) (tag, r) [] p (All-nil {X = ℕ × Row} (λ q. P q.1)));
      stops = subst (λ n. table.StopsAt n t.limit (standing ++ (tag, r) ∷ []) (ever ++ r ∷ []) stop) terms
          (subst (λ n. table.StopsAt u.system.terms n (standing ++ (tag, r) ∷ []) (ever ++ r ∷ []) stop) limit (f ever k));
    })

-- a stop of a check
pub stops_checked : {X : Type 0} (P : Row → Type 0) (t u : table.Table) (result : Result X LinearStop) → All (λ q. P q.1) (table.table_rows u) → HandsMore P (Some t) (Some u)
    → table.table_limits u ≡ table.table_limits t
    → IfErr result (λ stop. (stop ≡ Memory) ⊎ ((ever : List Row) → table.Handed u ever → table.StopsAt u.system.terms u.limit (table.table_rows u) ever stop))
    → IfErr result (λ stop. (ever : List Row) → table.Handed t ever → StopsInTableau t.system.terms t.limit ever P stop)
stops_checked {X} P t u (Ok x) all h same f = tt
stops_checked {X} P t u (Err stop) all h same f = stops_then P (Some t) (Some u) t.system.terms t.limit stop h (by f)
  where
    by : (stop ≡ Memory) ⊎ ((ever : List Row) → table.Handed u ever → table.StopsAt u.system.terms u.limit (table.table_rows u) ever stop)
        → (ever : List Row) → table.Handed u ever → StopsInTableau t.system.terms t.limit ever P stop
    by (inl e) ever k = subst (StopsInTableau t.system.terms t.limit ever P) (sym e) (stops_memory P t.system.terms t.limit ever)
    by (inr g) ever k =
        let terms : u.system.terms ≡ t.system.terms = cc in let limit : u.limit ≡ t.limit = cc in
        stops_now P t.system.terms t.limit ever (table.table_rows u) stop all
        (subst (λ n. table.StopsAt n t.limit (table.table_rows u) ever stop) terms (subst (λ n. table.StopsAt u.system.terms n (table.table_rows u) ever stop) limit (g ever k)))

-- a stop where more rows may be handed, and where more were handed before
pub may_stop_as : (P Q : Row → Type 0) (terms pivots : ℕ) (ever : List Row) (rows : Tagged) (stop : LinearStop) → ((r : Row) → P r → Q r) → MayStop terms pivots ever P rows stop
    → MayStop terms pivots ever Q rows stop
may_stop_as P Q terms pivots ever rows stop f h = record { differences = h.differences; any = by h.any }
  where
    by : StopsBy (constants rows) stop ⊎ StopsInTableau terms pivots ever P stop → StopsBy (constants rows) stop ⊎ StopsInTableau terms pivots ever Q stop
    by (inl k) = inl k
    by (inr k) = inr (stops_as P Q terms pivots ever stop f k)

pub may_stop_less : (P : Row → Type 0) (terms pivots : ℕ) (ever more : List Row) (rows : Tagged) (stop : LinearStop) → All P more → MayStop terms pivots (ever ++ more) P rows stop
    → MayStop terms pivots ever P rows stop
may_stop_less P terms pivots ever more rows stop each h = record { differences = h.differences; any = by h.any }
  where
    by : StopsBy (constants rows) stop ⊎ StopsInTableau terms pivots (ever ++ more) P stop → StopsBy (constants rows) stop ⊎ StopsInTableau terms pivots ever P stop
    by (inl k) = inl k
    by (inr k) = inr (stops_less P terms pivots ever more stop each k)

-- ---- rows that stand

stands_next : (r : ℕ × Row) (rows : Tagged) (q : Row) → Stands rows q → Stands (r ∷ rows) q
stands_next r rows q s = record { at = suc s.at; tag = s.tag; is = s.is }

pub all_stand : (rows : Tagged) → All (λ r. Stands rows r.1) rows
all_stand [] = All-nil {X = ℕ × Row} (λ r. Stands [] r.1)
all_stand (r ∷ rows) =
    All-cons {X = ℕ × Row} (λ q. Stands (r ∷ rows) q.1) r rows (record { at = zero; tag = r.0; is = refl })
    (All-weaker {X = ℕ × Row} (λ q. Stands rows q.1) (λ q. Stands (r ∷ rows) q.1) (λ q. stands_next r rows q.1) rows (all_stand rows))

-- what holds of each row that stands
pub of_standing : (P : Row → Type 0) (rows : Tagged) → All (λ r. P r.1) rows → (r : Row) → Stands rows r → P r
of_standing P rows all r s = by rows all s.at s.is
  where
    by : (rows : Tagged) → All (λ q. P q.1) rows → (at : ℕ) → slice_get rows at ≡ Some (s.tag, r) → P r
    by [] all at e = cc
    by (q ∷ rows) all zero e = let p : q ≡ (s.tag, r) = cc in subst (λ (x : ℕ × Row). P x.1) p (All-head {X = ℕ × Row} (λ x. P x.1) q rows all)
    by (q ∷ rows) all (suc at) e = by rows (All-tail {X = ℕ × Row} (λ x. P x.1) q rows all) at e
