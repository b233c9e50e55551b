-- The digits of a text are read as they stand.
use Rattle.std.proofs.Common.{◌≡◌, ◌∙◌, ◌<◌, ◌≤◌, ◌^◌, ◌&&◌, ap, sym, refl, true, Bool, ℕ, List, [], ◌∷◌, Result, Some, None, cond, length, nat_lt, nat_le, arith, lt-ltb}
use Rattle.std.specs.List.{list_all}
use Rattle.std.specs.Char.{is_ascii_digit}
use Rattle.std.specs.Result.{result_ok}
use Rattle.std.specs.Str.{all_ascii_digits}
use Rattle.std.specs.Str.Parse.{ParsesUnsigned, digits_value}
use Rattle.std.proofs.lemmas.Str.Parse.{IsNumeralModel, digits_value_short, numerals_by_value, parse_gives, tells_all_ascii_digits}
use Rattle.std.proofs.lemmas.Bool.{le-leb}
use Rattle.std.proofs.lemmas.Bool.Decides.{nat_tests}
use Rattle.lq_top_words.specs.Command.Command.{numeral_of}
use Rattle.lq_top_words.proofs.command.number.numeral.Goals as goal

own : IsNumeralModel (λ ds. all_ascii_digits ds ≡ true) (digits_value 10)
own = numerals_by_value _ tells_all_ascii_digits

all_is : (ds : List ℕ) → list_all is_ascii_digit ds ≡ all_ascii_digits ds
all_is [] = refl
all_is (d ∷ ds) = ap (λ (b : Bool). is_ascii_digit d && b) (all_is ds)

numeral_is : {E : Type 0} (ds : List ℕ) (r : Result ℕ E) → ParsesUnsigned 64 10 ds r → 0 < length ds → length ds ≤ 10 → list_all is_ascii_digit ds ≡ true
    → result_ok r ≡ numeral_of ds
numeral_is ds r h some few digits =
    let all : all_ascii_digits ds ≡ true = sym (all_is ds) ∙ digits in
    let short : digits_value 10 ds < 10 ^ 10 = digits_value_short own ds 10 all few in
    let is : result_ok r ≡ Some (digits_value 10 ds) = ap result_ok (parse_gives own 64 ds r h all some (omega arith)) in
    let tests : (nat_lt 0 (length ds) && (nat_le (length ds) 10 && list_all is_ascii_digit ds)) ≡ true =
    rw (lt-ltb 0 (length ds) some, le-leb (length ds) 10 few, digits) refl in
    is ∙ sym (ap (λ (b : Bool). cond b (Some (digits_value 10 ds)) None) tests)

pub returns : goal.returns
returns c =
    let digits : list_all is_ascii_digit c.args.text.now ≡ true =
    ap (list_all is_ascii_digit) (sym c.as_bytes.ensures.value) ∙ sym c.all_digits.ensures ∙ c.if-not-all_digits.false in
    let some : 0 < length c.args.text.now = grind (arith, nat_tests, c.is_empty.ensures, c.if-is_empty.false) in
    c.ok.ensures.value ∙ numeral_is c.args.text.now c.parse.result c.parse.ensures.value.0 some (omega arith) digits
