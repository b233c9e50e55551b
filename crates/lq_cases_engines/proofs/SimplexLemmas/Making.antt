-- Rows that are made term by term.
use Rattle.std.proofs.Common.{◌≢◌, ℕ, suc, pos, ◌+◌, ◌≤◌, arith, [], ◌∷◌, ◌++◌}
use Rattle.std.proofs.Math.IntN.{ℤ}
use Rattle.std.proofs.lemmas.List.Elements.{All-nil, All-cons, All-append}
use Rattle.lq_logic_rows.specs.Difference.{TermsBelow}
use Rattle.lq_logic_rows.specs.Forms.{Parts}
use Rattle.lq_logic_rows.specs.Row.{AscendsFrom}
use Rattle.lq_cases_engines.specs.Simplex.Rows.{IsRowBelow}

ascending_push : (low n : ℕ) (parts : Parts) (c : ℤ) → AscendsFrom low parts → TermsBelow n parts → low ≤ n → AscendsFrom low (parts ++ (n, c) ∷ [])
ascending_push low n [] c a b h = (h, tt)
ascending_push low n (p ∷ parts) c a b h = (a.0, ascending_push (suc p.0) n parts c a.1 b.1 b.0)

below_push : (n : ℕ) (parts : Parts) (c : ℤ) → TermsBelow n parts → TermsBelow (n + 1) (parts ++ (n, c) ∷ [])
below_push n [] c b = (omega arith, tt)
below_push n (p ∷ parts) c b = (let h = b.0 in omega arith, below_push n parts c b.1)

terms_below : (m n : ℕ) (parts : Parts) → TermsBelow m parts → m ≤ n → TermsBelow n parts
terms_below m n [] b h = tt
terms_below m n (p ∷ parts) b h = (let l = b.0 in omega arith, terms_below m n parts b.1 h)

pub row_skip : (n : ℕ) (parts : Parts) → IsRowBelow n parts → IsRowBelow (n + 1) parts
row_skip n parts r = record { ascending = r.ascending; nonzero = r.nonzero; below = terms_below n (n + 1) parts r.below (omega arith) }

pub row_push : (n : ℕ) (parts : Parts) (c : ℤ) → IsRowBelow n parts → c ≢ pos 0 → IsRowBelow (n + 1) (parts ++ (n, c) ∷ [])
row_push n parts c r h = record {
  ascending = ascending_push 0 n parts c r.ascending r.below (omega arith);
  nonzero = All-append (λ part. part.1 ≢ pos 0) parts ((n, c) ∷ []) r.nonzero (All-cons (λ part. part.1 ≢ pos 0) (n, c) [] h (All-nil (λ part. part.1 ≢ pos 0)));
  below = below_push n parts c r.below;
}
