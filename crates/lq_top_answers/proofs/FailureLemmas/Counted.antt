-- Which binder of its name each binder is.
use Rattle.std.specs.Prelude.{slice_get, ◌==◌, if◌then◌else◌}
use Rattle.std.proofs.Common.{◌≡◌, ⊎_elim, ℕ, zero, suc, ◌+◌, ◌<◌, ◌≤◌, ◌^◌, Bool, true, false, List, [], ◌∷◌, ◌++◌, length, take, count_by, get_or, Option, Some, None, refl, sym, ap, subst, ◌∙◌, arith}
use Rattle.std.proofs.lemmas.Bool.{cases_lt}
use Rattle.std.proofs.lemmas.Bool.Decides.{Decides-eqb}
use Rattle.std.proofs.lemmas.Option.{slice_get_within, slice_get-get_or}
use Rattle.std.proofs.lemmas.List.{length_push}
use Rattle.std.proofs.lemmas.List.Sums.{count_by_more_no, count_by_more_yes}
use Rattle.lq_top_answers.specs.Failure.Counts.{count_of, IsCounted}
use Rattle.lq_logic_text.specs.Calling.{has_name, ordinal, AreOrdinals}

abbrev pub counted : List (Option ℕ) → ℕ → ℕ → ℕ
counted sources at x = count_by (has_name x) (take at sources)

-- the first binders are counted, and their ordinals are these
pub record CountedTo (sources : List (Option ℕ)) (at : ℕ) (counts numbers : List ℕ) : Type 0 where
  pub count : length numbers ≡ at
  pub each : (b x : ℕ) → b < at → slice_get sources b ≡ Some (Some x) → slice_get numbers b ≡ Some (ordinal sources b x)
  pub kept : (x : ℕ) → count_of counts x ≡ counted sources at x

counted_low : (sources : List (Option ℕ)) (at x : ℕ) → at ≤ length sources → counted sources at x ≤ at
counted_low sources zero x within = omega arith
counted_low sources (suc at) x within = by (has_name x (get_or sources at None)) refl (counted_low sources at x (omega arith))
  where
    e : at + 1 ≡ suc at
    e = omega arith

    by : (b : Bool) → has_name x (get_or sources at None) ≡ b → counted sources at x ≤ at → counted sources (suc at) x ≤ suc at
    by true has before = let more = count_by_more_yes (has_name x) sources at None (omega arith) has in subst (λ (n : ℕ). counted sources n x ≤ n) e (omega (arith, more, before))
    by false hasnt before = let more = count_by_more_no (has_name x) sources at None (omega arith) hasnt in subst (λ (n : ℕ). counted sources n x ≤ n) e (omega (arith, more, before))

pub counts_low : (sources : List (Option ℕ)) (at : ℕ) (counts numbers : List ℕ) → length sources < 2 ^ 64 → at < length sources → CountedTo sources at counts numbers → (x : ℕ) → count_of counts x + 1 < 2 ^ 64
counts_low sources at counts numbers few lt done x = let low = counted_low sources at x (omega arith) in let e = done.kept x in omega arith

pushed_before : (numbers : List ℕ) (m k n : ℕ) → slice_get numbers k ≡ Some n → slice_get (numbers ++ m ∷ []) k ≡ Some n
pushed_before [] m k n is = absurd cc
pushed_before (x ∷ numbers) m zero n is = is
pushed_before (x ∷ numbers) m (suc k) n is = pushed_before numbers m k n is

pushed_last : (numbers : List ℕ) (m : ℕ) → slice_get (numbers ++ m ∷ []) (length numbers) ≡ Some m
pushed_last [] m = refl
pushed_last (x ∷ numbers) m = pushed_last numbers m

here_is : (sources : List (Option ℕ)) (at : ℕ) (o : Option ℕ) → slice_get sources at ≡ Some o → get_or sources at o ≡ o
here_is sources at o here = let e = slice_get-get_or sources at o (slice_get_within sources at o here) in cc

-- the next binder has this name
named_more : (sources : List (Option ℕ)) (at name m : ℕ) (counts new numbers : List ℕ) → slice_get sources at ≡ Some (Some name) → m ≡ count_of counts name + 1
    → ((x : ℕ) → count_of new x ≡ (if name == x then count_of counts x + 1 else count_of counts x)) → CountedTo sources at counts numbers → CountedTo sources (at + 1) new (numbers ++ m ∷ [])
named_more sources at name m counts new numbers here number counted_now done = record {
  count = length_push numbers m ∙ ap (λ (n : ℕ). n + 1) done.count;
  each = λ b x lt is.
      ⊎_elim (λ less. pushed_before numbers m b (ordinal sources b x) (done.each b x less is))
      (λ more.
      let same : at ≡ b = omega arith in
      let there : slice_get sources at ≡ Some (Some x) = subst (λ (k : ℕ). slice_get sources k ≡ Some (Some x)) (sym same) is in
      let name_is : name ≡ x = cc in
      let place : length numbers ≡ b = done.count ∙ same in
      let value : m ≡ ordinal sources b x = number ∙ ap (λ (k : ℕ). count_of counts k + 1) name_is ∙ ap (λ (k : ℕ). k + 1) (done.kept x) ∙ yes_more x name_is ∙ ap (λ (k : ℕ). ordinal sources k x) same in
      subst (λ (k : ℕ). slice_get (numbers ++ m ∷ []) k ≡ Some (ordinal sources b x)) place (pushed_last numbers m ∙ ap (λ (k : ℕ). Some k) value))
      (cases_lt b at);
  kept = λ x. counted_now x ∙ by x (name == x) refl;
}
  where
    within : at < length sources
    within = slice_get_within sources at (Some name) here

    there_is : get_or sources at (Some name) ≡ Some name
    there_is = here_is sources at (Some name) here

    yes_more : (x : ℕ) → name ≡ x → counted sources at x + 1 ≡ counted sources (at + 1) x
    yes_more x same = sym (count_by_more_yes (has_name x) sources at (Some name) within (ap (has_name x) there_is ∙ (Decides-eqb name x).1 same))

    by : (x : ℕ) (t : Bool) → (name == x) ≡ t → (if t then count_of counts x + 1 else count_of counts x) ≡ counted sources (at + 1) x
    by x true e = ap (λ (k : ℕ). k + 1) (done.kept x) ∙ yes_more x ((Decides-eqb name x).0 e)
    by x false e = done.kept x ∙ sym (count_by_more_no (has_name x) sources at (Some name) within (ap (has_name x) there_is ∙ e))

-- the next binder was made
made_more : (sources : List (Option ℕ)) (at m : ℕ) (counts new numbers : List ℕ) → slice_get sources at ≡ Some None → ((x : ℕ) → count_of new x ≡ count_of counts x) → CountedTo sources at counts numbers → CountedTo sources (at + 1) new (numbers ++ m ∷ [])
made_more sources at m counts new numbers here same_counts done = record {
  count = length_push numbers m ∙ ap (λ (n : ℕ). n + 1) done.count;
  each = λ b x lt is.
      ⊎_elim (λ less. pushed_before numbers m b (ordinal sources b x) (done.each b x less is))
      (λ more.
      let same : at ≡ b = omega arith in
      let there : slice_get sources at ≡ Some (Some x) = subst (λ (k : ℕ). slice_get sources k ≡ Some (Some x)) (sym same) is in
      absurd cc)
      (cases_lt b at);
  kept = λ x. same_counts x ∙ done.kept x ∙ sym (count_by_more_no (has_name x) sources at None (slice_get_within sources at None here) (ap (has_name x) (here_is sources at None here)));
}

-- the next binder is counted
pub counted_more : (sources : List (Option ℕ)) (at m : ℕ) (o : Option ℕ) (counts new numbers : List ℕ) → slice_get sources at ≡ Some o → IsCounted counts new o m → CountedTo sources at counts numbers
    → CountedTo sources (at + 1) new (numbers ++ m ∷ [])
counted_more sources at m None counts new numbers here is done = made_more sources at m counts new numbers here is.1 done
counted_more sources at m (Some name) counts new numbers here is done = named_more sources at name m counts new numbers here is.0 is.1 done

pub all_counted : (sources : List (Option ℕ)) (at : ℕ) (counts numbers : List ℕ) → at ≡ length sources → CountedTo sources at counts numbers → AreOrdinals sources numbers
all_counted sources at counts numbers e done = record {
  count = done.count ∙ e;
  each = λ b x is. done.each b x (let lt = slice_get_within sources b (Some x) is in omega arith) is;
}
