-- Rows that are made term by term, and tags that none of the rows has.
use Rattle.std.proofs.Common.{◌≡◌, ◌≢◌, ℕ, suc, ℤ, pos, ◌+◌, ◌≤◌, ◌==◌, if◌then◌else◌, arith, refl, subst, Bool, true, false, List, [], ◌∷◌, ◌++◌, Some, None, IsNone, sym}
use Rattle.std.proofs.lemmas.List.Elements.{All-nil, All-cons, All-append}
use Rattle.lq_logic_rows.specs.Difference as linear
use Rattle.lq_logic_rows.specs.Row.{Row, AscendsFrom}
use Rattle.lq_logic_rows.specs.Contradiction.{Tagged, tagged}
use Rattle.lq_prover_differences.specs.Table as diff
use Rattle.lq_cases_engines.specs.Engines.Rows.{IsBelow}

abbrev Parts : Type 0
Parts = List (ℕ × ℤ)

-- a term that is greater than those before it
ascending_push : (low next n : ℕ) (parts : Parts) (c : ℤ) → AscendsFrom low parts → linear.TermsBelow next parts → next ≤ n → low ≤ n → AscendsFrom low (parts ++ (n, c) ∷ [])
ascending_push low next n [] c a b h l = (l, tt)
ascending_push low next n (p ∷ parts) c a b h l = (a.0, ascending_push (suc p.0) next n parts c a.1 b.1 h (let k = b.0 in omega arith))

simplex_push : (next n : ℕ) (parts : Parts) (c : ℤ) → linear.TermsBelow next parts → next ≤ n → linear.TermsBelow (n + 1) (parts ++ (n, c) ∷ [])
simplex_push next n [] c b h = (omega arith, tt)
simplex_push next n (p ∷ parts) c b h = (let k = b.0 in omega arith, simplex_push next n parts c b.1 h)

diff_push : (next n : ℕ) (parts : Parts) (c : ℤ) → diff.TermsBelow next parts → next ≤ n → diff.TermsBelow (n + 1) (parts ++ (n, c) ∷ [])
diff_push next n [] c b h = (omega arith, tt)
diff_push next n (p ∷ parts) c b h = (let k = b.0 in omega arith, diff_push next n parts c b.1 h)

pub row_push : (next n : ℕ) (parts : Parts) (c : ℤ) → IsBelow next parts → next ≤ n → c ≢ pos 0 → IsBelow (n + 1) (parts ++ (n, c) ∷ [])
row_push next n parts c r h z = record {
  ascending = ascending_push 0 next n parts c r.ascending r.simplex_below h (omega arith);
  nonzero = All-append (λ part. part.1 ≢ pos 0) parts ((n, c) ∷ []) r.nonzero (All-cons (λ part. part.1 ≢ pos 0) (n, c) [] z (All-nil (λ part. part.1 ≢ pos 0)));
  simplex_below = simplex_push next n parts c r.simplex_below h;
  diff_below = diff_push next n parts c r.diff_below h;
}

-- a greater bound
simplex_more : (next n : ℕ) (parts : Parts) → linear.TermsBelow next parts → next ≤ n → linear.TermsBelow n parts
simplex_more next n [] b h = tt
simplex_more next n (p ∷ parts) b h = (let k = b.0 in omega arith, simplex_more next n parts b.1 h)

diff_more : (next n : ℕ) (parts : Parts) → diff.TermsBelow next parts → next ≤ n → diff.TermsBelow n parts
diff_more next n [] b h = tt
diff_more next n (p ∷ parts) b h = (let k = b.0 in omega arith, diff_more next n parts b.1 h)

pub row_more : (next n : ℕ) (parts : Parts) → IsBelow next parts → next ≤ n → IsBelow n parts
row_more next n parts r h = record {
  ascending = r.ascending;
  nonzero = r.nonzero;
  simplex_below = simplex_more next n parts r.simplex_below h;
  diff_below = diff_more next n parts r.diff_below h;
}

pub apart_after : (tag t : ℕ) → tag + 1 ≤ t → tag == t ≡ false
apart_after tag t h = grind arith

pub none_more : (rows : Tagged) (tag t : ℕ) (r : Row) → tag == t ≡ false → IsNone (tagged rows t) → IsNone (tagged (rows ++ (tag, r) ∷ []) t)
none_more [] tag t r e h = subst (λ (b : Bool). IsNone (if b then Some r else None)) (sym e) refl
none_more (x ∷ rows) tag t r e h = by (x.0 == t) (none_more rows tag t r e) h
  where
    by : (b : Bool) → (IsNone (tagged rows t) → IsNone (tagged (rows ++ (tag, r) ∷ []) t)) → IsNone (if b then Some x.1 else tagged rows t) → IsNone (if b then Some x.1 else tagged (rows ++ (tag, r) ∷ []) t)
    by true more h = h
    by false more h = more h
