-- How long a sample program is.
use Rattle.std.proofs.Common.{◌≡◌, ◌+◌, ◌*◌, ◌≤◌, ℕ, zero, suc, length, arith, decimal, length-append}
use Rattle.std.proofs.lemmas.Fmt.{length-decimal-le}
use Rattle.lq_top_words.specs.Sample.Sample.{assertion_text, function_text, sample_program_text}

function_length : (i : ℕ) → length (function_text i) ≡ 49 + 3 * length (decimal i)
unfolding function_text
function_length i = simp length-append (omega arith)

assertion_length : (i : ℕ) → length (assertion_text i) ≡ 26 + 2 * length (decimal i)
unfolding assertion_text
assertion_length i = simp length-append (omega arith)

pub program_length : (n : ℕ) → n ≤ 2000 → length (sample_program_text n) ≤ 95 * n
program_length zero few = omega arith
program_length (suc n) few =
    let before : length (sample_program_text n) ≤ 95 * n = program_length n (omega arith) in
    let digits : length (decimal (suc n)) ≤ 4 = length-decimal-le 4 (suc n) (omega arith) (omega arith) (omega arith) in
    simp length-append (omega (arith, before, digits, function_length (suc n), assertion_length (suc n)))
