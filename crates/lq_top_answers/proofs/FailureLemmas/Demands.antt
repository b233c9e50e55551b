-- How many of the first implications are demands, and how many flows.
use Rattle.std.specs.Prelude.{slice_get, count_by}
use Rattle.std.specs.Option.{option_map}
use Rattle.std.proofs.Common.{◌≡◌, ℕ, zero, suc, ◌+◌, ◌<◌, ◌≤◌, Bool, true, false, List, [], ◌∷◌, length, take, get_or, Option, Some, None, refl, sym, ap, ap₂, ◌∙◌, arith}
use Rattle.std.proofs.lemmas.List.Sums.{count_by_more_no, count_by_more_yes}
use Rattle.std.proofs.lemmas.List.{length-map}
use Rattle.std.proofs.lemmas.Option.{slice_get_within, slice_get-get_or, slice_get-map}
use Rattle.lq_refined_substitution.specs.Implications.Views.{environment_lists, implication_items, implication_view, implications_of, origin_view}
use Rattle.lq_refined_substitution.specs.declared.implications.implication.Implication.{Implication}
use Rattle.lq_refined_substitution.specs.declared.implications.list.Implications.{Implications}
use Rattle.lq_refined_types.specs.Subtyping.Implication as sub
use Rattle.lq_refined_substitution.specs.Substitution.Views.{part_view}
use Rattle.lq_top_answers.specs.Failure.Heads.{is_known, line_at, line_of, number_among, origin_line}

pub there : (all : Implications) (at : ℕ) (i : Implication) → slice_get (implication_items all) at ≡ Some i → slice_get (implications_of all) at ≡ Some (implication_view (environment_lists all) i)
there all at i is = slice_get-map (implication_view (environment_lists all)) (implication_items all) at ∙ ap (option_map (implication_view (environment_lists all))) is

pub one_yes : {A : Type 0} (p : A → Bool) (xs : List A) (at : ℕ) (x : A) → slice_get xs at ≡ Some x → p x ≡ true → count_by p (take (at + 1) xs) ≡ count_by p (take at xs) + 1
one_yes p xs at x is holds =
    let lt = slice_get_within xs at x is in
    let here : get_or xs at x ≡ x = (let e = slice_get-get_or xs at x lt in cc) in
    count_by_more_yes p xs at x lt (ap p here ∙ holds)

pub one_no : {A : Type 0} (p : A → Bool) (xs : List A) (at : ℕ) (x : A) → slice_get xs at ≡ Some x → p x ≡ false → count_by p (take (at + 1) xs) ≡ count_by p (take at xs)
one_no p xs at x is fails =
    let lt = slice_get_within xs at x is in
    let here : get_or xs at x ≡ x = (let e = slice_get-get_or xs at x lt in cc) in
    count_by_more_no p xs at x lt (ap p here ∙ fails)

-- nothing past the end
pub slice_get_none_past : {A : Type 0} (xs : List A) (at : ℕ) → slice_get xs at ≡ None → length xs ≤ at
slice_get_none_past [] at e = omega arith
slice_get_none_past (x ∷ xs) zero e = absurd cc
slice_get_none_past (x ∷ xs) (suc at) e = let l = slice_get_none_past xs at e in omega arith

-- one implication more, and whether it is counted
pub one_counted : {A : Type 0} (p : A → Bool) (xs : List A) (at : ℕ) (b : Bool) (n m : ℕ) → at < length xs → ((x : A) → slice_get xs at ≡ Some x → b ≡ p x) → n ≡ count_by p (take at xs)
    → (b ≡ true → m ≡ n + 1) → (b ≡ false → m ≡ n) → m ≡ count_by p (take (at + 1) xs)
one_counted {A = A} p xs at b n m lt tells before more same = by (slice_get xs at) refl
  where
    by : (o : Option A) → slice_get xs at ≡ o → m ≡ count_by p (take (at + 1) xs)
    by None e = absurd (let l = slice_get_none_past xs at e in omega arith)
    by (Some x) e = by_test b refl
      where
        by_test : (t : Bool) → b ≡ t → m ≡ count_by p (take (at + 1) xs)
        by_test true is = more is ∙ ap (λ (k : ℕ). k + 1) before ∙ sym (one_yes p xs at x e (sym (tells x e) ∙ is))
        by_test false is = same is ∙ before ∙ sym (one_no p xs at x e (sym (tells x e) ∙ is))

-- the implication that is found is the one of the list
pub same_goal : (all : Implications) (at : ℕ) (m : Implication) (i : sub.Implication) → slice_get (implication_items all) at ≡ Some m → slice_get (implications_of all) at ≡ Some i → is_known (part_view m.goal) ≡ is_known i.goal
same_goal all at m i found here = let e = there all at m found in let same : implication_view (environment_lists all) m ≡ i = cc in ap (λ (x : sub.Implication). is_known x.goal) same

pub line_is : (all : Implications) (at : ℕ) (m : Implication) (b : Bool) (n : ℕ) → slice_get (implication_items all) at ≡ Some m → b ≡ is_known (part_view m.goal) → n ≡ number_among (implications_of all) at b
    → origin_line b n (origin_view m.place m.reason) ≡ line_at (implications_of all) at
line_is all at m b n found known number =
    ap₂ (λ (d : Bool) (k : ℕ). origin_line d k (origin_view m.place m.reason)) known (number ∙ ap (number_among (implications_of all) at) known)
    ∙ sym (ap (line_of (implications_of all) at) (there all at m found))
