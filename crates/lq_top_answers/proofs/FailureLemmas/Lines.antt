-- Lines on a point, one behind the other.
use Rattle.std.specs.Prelude.{nat_eq, slice_get, codes}
use Rattle.std.specs.List.{list_any, position_or_len}
use Rattle.std.proofs.Common.{◌≡◌, ℕ, ◌+◌, ◌≤◌, true, List, [], ◌∷◌, ◌++◌, length, map, take, drop, get_or, Some, refl, sym, ap, ◌∙◌, append_assoc}
use Rattle.std.proofs.lemmas.Bool.{eqb-true, eq-eqb}
use Rattle.std.proofs.lemmas.List.{append-nil, map-append, take_all, take_more, take-append-drop}
use Rattle.std.proofs.lemmas.List.Elements.{All-append, All-cons, All-nil}
use Rattle.std.proofs.lemmas.Option.{slice_get_within, slice_get-get_or}
use Rattle.lq_logic_predicates.specs.ClosedImplication.{ClosedImplication}
use Rattle.lq_logic_predicates.specs.Points.{Point}
use Rattle.lq_logic_predicates.specs.Sum.{var}
use Rattle.lq_logic_text.specs.Calling.{Calling}
use Rattle.lq_top_answers.specs.Failure.Adding.{AddsLine, AddsLines, ShowsFirst}
use Rattle.lq_top_answers.specs.Failure.Collected.{with_one, with_each}
use Rattle.lq_top_answers.specs.Failure.Occurrences.{Valued, number, truth_value, object, firsts, shown}
use Rattle.lq_top_answers.specs.Failure.PointLines.{PointValue, at_number, at_truth, at_class, value_text, point_lines, label, valued_lines, class_number, classes_of, classes_among, IsValue, ShowsPoint}
use Rattle.lq_top_answers.proofs.FailureLemmas.Firsts.{Tells, firsts-append, each_found, added_at, added_there}

class_tells : Tells nat_eq
class_tells = eqb-true

pub take_at : {A : Type 0} (xs : List A) (k : ℕ) (x : A) → slice_get xs k ≡ Some x → take (k + 1) xs ≡ take k xs ++ x ∷ []
take_at xs k x is =
    let lt = slice_get_within xs k x is in
    let here : get_or xs k x ≡ x = (let e = slice_get-get_or xs k x lt in cc) in
    take_more xs k x lt ∙ ap (λ y. take k xs ++ y ∷ []) here

point_lines-append : (ls ms : List (List ℕ × PointValue)) → point_lines (ls ++ ms) ≡ point_lines ls ++ point_lines ms
point_lines-append [] ms = refl
point_lines-append (l ∷ ls) ms =
    ap (λ (t : List ℕ). l.0 ++ codes " = " ++ value_text l.1 ++ codes "\n" ++ t) (point_lines-append ls ms)
    ∙ sym (append_assoc (l.0 ++ codes " = " ++ value_text l.1 ++ codes "\n") (point_lines ls) (point_lines ms))

valued_lines-append : (c : Calling) (ls ms : List (Valued × PointValue)) → valued_lines c (ls ++ ms) ≡ valued_lines c ls ++ valued_lines c ms
valued_lines-append c ls ms =
    ap point_lines (map-append (λ (l : Valued × PointValue). (label c l.0, l.1)) ls ms)
    ∙ point_lines-append (map (λ l. (label c l.0, l.1)) ls) (map (λ l. (label c l.0, l.1)) ms)

classes_of-append : (p : Point) (xs ys : List Valued) → classes_of p (xs ++ ys) ≡ classes_of p xs ++ classes_of p ys
classes_of-append p [] ys = refl
classes_of-append p (number t ∷ xs) ys = classes_of-append p xs ys
classes_of-append p (truth_value x ∷ xs) ys = classes_of-append p xs ys
classes_of-append p (object x ∷ xs) ys = ap (λ (l : List ℕ). p.class_of (var x) ∷ l) (classes_of-append p xs ys)

classes_among-append : (p : Point) (xs ys : List Valued) → classes_among p (xs ++ ys) ≡ with_each nat_eq (classes_among p xs) (classes_of p ys)
classes_among-append p xs ys = ap (firsts nat_eq) (classes_of-append p xs ys) ∙ firsts-append nat_eq class_tells (classes_of p xs) (classes_of p ys)

-- a value stays one where more classes come behind
value_kept : (p : Point) (x : Valued) (v : PointValue) (classes after all more : List ℕ) → after ≡ with_each nat_eq classes (classes_of p (x ∷ [])) → all ≡ with_each nat_eq after more → IsValue p after x v → IsValue p all x v
value_kept p (number t) (at_number n d) classes after all more e f is = is
value_kept p (number t) (at_truth b) classes after all more e f is = absurd is
value_kept p (number t) (at_class n) classes after all more e f is = absurd is
value_kept p (truth_value x) (at_truth b) classes after all more e f is = is
value_kept p (truth_value x) (at_number n d) classes after all more e f is = absurd is
value_kept p (truth_value x) (at_class n) classes after all more e f is = absurd is
value_kept p (object x) (at_number n d) classes after all more e f is = absurd is
value_kept p (object x) (at_truth b) classes after all more e f is = absurd is
value_kept p (object x) (at_class n) classes after all more e f is =
    let k = p.class_of (var x) in
    let there : list_any (nat_eq k) after ≡ true = ap (list_any (nat_eq k)) e ∙ added_there nat_eq classes k (eq-eqb k k refl) in
    let place : position_or_len (nat_eq k) all ≡ position_or_len (nat_eq k) after = ap (position_or_len (nat_eq k)) f ∙ each_found nat_eq (nat_eq k) after more there in
    is ∙ ap (λ (m : ℕ). m + 1) (sym place)

pub none_shown : (c : Calling) (p : Point) (xs : List Valued) (bytes : List ℕ) → ShowsFirst c p xs 0 bytes bytes []
none_shown c p xs bytes = record {
  lines = [];
  of = refl;
  values = All-nil (λ l. IsValue p (classes_among p xs) l.0 l.1);
  written = sym (append-nil bytes);
  numbered = refl;
}

pub one_more : (c : Calling) (p : Point) (xs : List Valued) (at : ℕ) (x : Valued) (start old new classes after : List ℕ) → slice_get xs at ≡ Some x → ShowsFirst c p xs at start old classes
    → AddsLine c p x old new classes after → ShowsFirst c p xs (at + 1) start new after
one_more c p xs at x start old new classes after here before added = record {
  lines = before.lines ++ (x, added.value) ∷ [];
  of = map-append (λ (l : Valued × PointValue). l.0) before.lines ((x, added.value) ∷ []) ∙ ap (λ (l : List Valued). l ++ x ∷ []) before.of ∙ sym next;
  values = All-append (λ l. IsValue p (classes_among p xs) l.0 l.1) before.lines ((x, added.value) ∷ []) before.values
      (All-cons (λ l. IsValue p (classes_among p xs) l.0 l.1) (x, added.value) [] value (All-nil (λ l. IsValue p (classes_among p xs) l.0 l.1)));
  written = added.written ∙ ap (λ (l : List ℕ). l ++ valued_lines c ((x, added.value) ∷ [])) before.written
      ∙ append_assoc start (valued_lines c before.lines) (valued_lines c ((x, added.value) ∷ []))
      ∙ ap (λ (l : List ℕ). start ++ l) (sym (valued_lines-append c before.lines ((x, added.value) ∷ [])));
  numbered = now;
}
  where
    next : take (at + 1) xs ≡ take at xs ++ x ∷ []
    next = take_at xs at x here

    now : after ≡ classes_among p (take (at + 1) xs)
    now =
        added.numbered
        ∙ ap (λ (l : List ℕ). with_each nat_eq l (classes_of p (x ∷ []))) before.numbered
        ∙ sym (classes_among-append p (take at xs) (x ∷ []))
        ∙ ap (classes_among p) (sym next)

    all : classes_among p xs ≡ with_each nat_eq after (classes_of p (drop (at + 1) xs))
    all =
        ap (classes_among p) (sym (take-append-drop (at + 1) xs))
        ∙ classes_among-append p (take (at + 1) xs) (drop (at + 1) xs)
        ∙ ap (λ (l : List ℕ). with_each nat_eq l (classes_of p (drop (at + 1) xs))) (sym now)

    value : IsValue p (classes_among p xs) x added.value
    value = value_kept p x added.value classes after (classes_among p xs) (classes_of p (drop (at + 1) xs)) added.numbered all added.is

pub all_added : (c : Calling) (p : Point) (xs : List Valued) (n : ℕ) (start new classes : List ℕ) → length xs ≤ n → ShowsFirst c p xs n start new classes → AddsLines c p xs start new
all_added c p xs n start new classes whole shows = record {
  lines = shows.lines;
  valued = record { of = shows.of ∙ take_all n xs whole; values = shows.values };
  written = shows.written;
}

pub all_shown : (c : Calling) (i : ClosedImplication) (p : Point) (start new : List ℕ) → AddsLines c p (shown i) start new → (lines : List ℕ) × (new ≡ start ++ lines) × ShowsPoint c i p lines
all_shown c i p start new added =
    (valued_lines c added.lines, added.written, record { lines = added.lines; valued = added.valued; written = refl })

-- a name, its value and the end of the line, written one behind the other
pub line_written : (c : Calling) (x : Valued) (v : PointValue) (old a b d new : List ℕ) → a ≡ old ++ label c x → b ≡ a ++ codes " = " → d ≡ b ++ value_text v → new ≡ d ++ codes "\n" → new ≡ old ++ valued_lines c ((x, v) ∷ [])
line_written c x v old a b d new e f g h =
    h ∙ ap (λ (l : List ℕ). l ++ codes "\n") (g ∙ ap (λ (l : List ℕ). l ++ value_text v) (f ∙ ap (λ (l : List ℕ). l ++ codes " = ") e))
    ∙ ap (λ (l : List ℕ). (l ++ value_text v) ++ codes "\n") (append_assoc old (label c x) (codes " = "))
    ∙ ap (λ (l : List ℕ). l ++ codes "\n") (append_assoc old (label c x ++ codes " = ") (value_text v))
    ∙ append_assoc old (label c x ++ codes " = " ++ value_text v) (codes "\n")
    ∙ ap (λ (l : List ℕ). old ++ l) (sym (append-nil (label c x ++ codes " = " ++ value_text v ++ codes "\n")))

-- a class that was added stands at its number
pub class_added : (old new : List ℕ) (k at n : ℕ) → new ≡ with_one nat_eq old k → at ≡ position_or_len (nat_eq k) old → n ≡ at + 1 → n ≡ class_number new k
class_added old new k at n e f g =
    g ∙ ap (λ (m : ℕ). m + 1) (f ∙ sym (added_at nat_eq old k (eq-eqb k k refl)) ∙ ap (position_or_len (nat_eq k)) (sym e))
