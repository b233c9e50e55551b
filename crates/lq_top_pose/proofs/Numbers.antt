-- The number of a text among texts each of which has one number.
use Rattle.std.specs.Prelude.{slice_get}
use Rattle.std.specs.Str.{bytes_eq}
use Rattle.std.proofs.Common.{◌≡◌, ℕ, zero, suc, List, [], ◌∷◌, Bool, true, false, cond, Some, refl, sym, ap, ◌∙◌}
use Rattle.std.proofs.lemmas.Option.{slice_get_within}
use Rattle.std.proofs.lemmas.Slice.Eq.{bytes_eq-Decides}
use Rattle.lq_base_names.specs.NameTable.{HasOneNumberEach}
use Rattle.lq_text_parser.specs.Parse.Trees.{number_in}

found_by : (t : List ℕ) (ts : List (List ℕ)) (word : List ℕ) → ((n : ℕ) → slice_get ts n ≡ Some word → slice_get ts (number_in ts word) ≡ Some word)
    → (b : Bool) → bytes_eq t word ≡ b → (n : ℕ) → slice_get (t ∷ ts) n ≡ Some word → slice_get (t ∷ ts) (cond b 0 (suc (number_in ts word))) ≡ Some word
found_by t ts word later true is n e = ap (λ x. Some x) ((bytes_eq-Decides t word).0 is)
found_by t ts word later false is zero e = absurd (let yes : bytes_eq t word ≡ true = (bytes_eq-Decides t word).1 cc in cc)
found_by t ts word later false is (suc n) e = later n e

found : (names : List (List ℕ)) (word : List ℕ) (n : ℕ) → slice_get names n ≡ Some word → slice_get names (number_in names word) ≡ Some word
found [] word n e = absurd cc
found (t ∷ ts) word n e = found_by t ts word (found ts word) (bytes_eq t word) refl n e

pub number_is : (names : List (List ℕ)) (word : List ℕ) (n : ℕ) → HasOneNumberEach names → slice_get names n ≡ Some word → n ≡ number_in names word
number_is names word n one e =
    let f = found names word n e in
    one n (number_in names word) (slice_get_within names n word e) (slice_get_within names (number_in names word) word f) (e ∙ sym f)
