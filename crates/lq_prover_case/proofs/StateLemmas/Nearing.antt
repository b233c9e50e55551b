-- Values of the distances are near the sizes of all rows; those of the tableau come only where a row is no difference row.
use Rattle.std.proofs.Common.{◌≡◌, ◌∙◌, ℕ, ◌<◌, ◌≤◌, List, [], Option, Some, None, false, ap, refl, subst, arith, unsigned_abs}
use Rattle.std.proofs.Math.IntN.{◌-ℤ◌}
use Rattle.std.specs.Option.{IfNone, is_some}
use Rattle.lq_prover_differences.specs.Table as diff
use Rattle.lq_prover_differences.specs.Table.{constants}
use Rattle.lq_logic_rows.specs.Near.{IsNear}
use Rattle.lq_logic_rows.specs.Contradiction.{Tagged}
use Rattle.lq_logic_rows.specs.Row.{Row}
use Rattle.lq_prover_simplex.specs.Table as table
use Rattle.lq_prover_simplex.specs.Working.{IsPlaced}
use Rattle.lq_prover_case.specs.State.RowState.{AreDifferences, AreValuesBy, placed, tableau_point}
use Rattle.lq_prover_case.specs.State.Stored.{IsKept, MayBeFilled, WasHanded, tagged_rows}
use Rattle.lq_prover_case.specs.declared.state.stored.StoredRow.{StoredRow}
use Rattle.lq_prover_case.proofs.StateLemmas.Kept.{constants_among, none_odd}

pub near_all : (stored : List StoredRow) (odd : List ℕ) (d : diff.Table) → IsKept stored odd d
    → ((term : ℕ) → term < d.terms → unsigned_abs (diff.value_at d term) ≤ constants (diff.table_rows d))
    → ((s t : ℕ) → s < d.terms → t < d.terms → unsigned_abs (diff.value_at d s -ℤ diff.value_at d t) ≤ constants (diff.table_rows d))
    → IsNear (constants (tagged_rows stored)) d.terms (diff.table_point d)
near_all stored odd d k value difference = record {
  at = diff.value_at d;
  whole_at = λ j l. refl;
  value = λ j l. let a = value j l in let e = ap constants k.standing in let c = constants_among stored in omega (arith, a, e, c);
  difference = λ i j l m. let a = difference i j l m in let e = ap constants k.standing in let c = constants_among stored in omega (arith, a, e, c);
}

-- where some row is odd, not all are difference rows
pub not_all : (stored : List StoredRow) (odd : List ℕ) (d : diff.Table) → IsKept stored odd d → (odd ≡ [] → ⊥) → AreDifferences (tagged_rows stored) → ⊥
not_all stored odd d k some all = some (k.places ∙ none_odd 0 0 stored k.marked all)

pub none_of : {X : Type 0} {P : Type 0} (o : Option X) → is_some o ≡ false → IfNone o P → P
none_of {X} {P} None e h = h
none_of {X} {P} (Some x) e h = cc

-- the values of a tableau that has the first rows
pub placed_by : (terms pivots : ℕ) (rows : Tagged) (o : Option table.Table) (t : table.Table) → o ≡ Some t → MayBeFilled terms pivots rows o
    → ((ever : List Row) → table.Handed t ever → IsPlaced t.system.terms ever (table.table_point t)) → (ever : List Row) → WasHanded o ever
    → AreValuesBy terms ever rows (tableau_point o)
placed_by terms pivots rows None t e filled law ever h = cc
placed_by terms pivots rows (Some u) t e filled law ever h =
    let same : t ≡ u = cc in
    let over : u.system.terms ≡ terms = (let l = filled.limits in cc) in
    placed (subst (λ n. IsPlaced n ever (table.table_point u)) over
    (subst (λ (x : table.Table). (ever : List Row) → table.Handed x ever → IsPlaced x.system.terms ever (table.table_point x)) same law ever h))
