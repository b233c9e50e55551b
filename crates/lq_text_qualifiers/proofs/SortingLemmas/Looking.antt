-- A subtree that is looked at for placeholders gives way to its parts.
use Rattle.std.proofs.Common.{◌≡◌, ℕ, suc, ◌+◌, ◌<◌, List, [], ◌∷◌, ◌++◌, map, length, Option, Some, None, refl, sym, ap, ◌∙◌, arith}
use Rattle.std.proofs.lemmas.List.{append_assoc, append-nil, reverse-append}
use Rattle.lq_text_tree.specs.PredTree.{PredTree, pred_tree, PredForm, flag, whole, use_of, placeholder, applied, qualified, arithmetic, negated, compare, not_of, and_of, or_of, iff}
use Rattle.lq_text_qualifiers.specs.Faults.Lookups.{Lookup, or_else, one, first_in}
use Rattle.lq_text_qualifiers.specs.Faults.Predicates.{Setting, Spot, spot, spots, spots_in, uses, used_in, form_of, taken, length_takes, is_length}
use Rattle.lq_text_qualifiers.specs.Faults.Shapes.{Shape, int, bool}
use Rattle.lq_text_qualifiers.specs.Faults.Work.{parts_in, spots_of_all, size_of_form, total}
use Rattle.lq_text_qualifiers.specs.Sorting.Placeholders.{numbered}
use Rattle.lq_text_qualifiers.specs.Sorting.Walking.{pending, spot_view}
use Rattle.lq_text_qualifiers.specs.declared.sorting.placeholders.Spot.{Spot as Held}
use Rattle.lq_text_qualifiers.proofs.SortingLemmas.Lookups.{first_append}

pub pending_more : (ss : List Held) (s : Held) → pending (ss ++ s ∷ []) ≡ spot_view s ∷ pending ss
pending_more ss s = ap (map spot_view) (reverse-append ss (s ∷ []))

one_part : (s : Setting) (a : Option Shape) (e : PredTree) → spots s a e ≡ spots_of_all s (spot a e ∷ [])
one_part s a e = sym (append-nil (spots s a e))

two_parts : (s : Setting) (a b : Option Shape) (e f : PredTree) → spots s a e ++ spots s b f ≡ spots_of_all s (spot a e ∷ spot b f ∷ [])
two_parts s a b e f = ap (λ (l : List Spot). spots s a e ++ l) (one_part s b f)

parts_first : (s : Setting) (f : PredForm) → spots_in s f ≡ spots_of_all s (parts_in s f)
parts_first s (flag b) = refl
parts_first s (whole n) = refl
parts_first s (use_of x) = refl
parts_first s (placeholder x) = refl
parts_first s (applied m e) = one_part s (taken (s.measures m)) e
parts_first s (qualified m x e) = one_part s (length_takes (is_length s.texts m x)) e
parts_first s (arithmetic o a b) = two_parts s (Some int) (Some int) a b
parts_first s (negated e) = one_part s (Some int) e
parts_first s (compare o a b) = two_parts s (Some int) (Some int) a b
parts_first s (not_of e) = one_part s (Some bool) e
parts_first s (and_of a b) = two_parts s (Some bool) (Some bool) a b
parts_first s (or_of a b) = two_parts s (Some bool) (Some bool) a b
parts_first s (iff a b) = two_parts s (Some bool) (Some bool) a b

all_append : (s : Setting) (xs ys : List Spot) → spots_of_all s (xs ++ ys) ≡ spots_of_all s xs ++ spots_of_all s ys
all_append s [] ys = refl
all_append s (x ∷ xs) ys = ap (λ (l : List Spot). spots s x.asked x.tree ++ l) (all_append s xs ys) ∙ sym (append_assoc (spots s x.asked x.tree) (spots_of_all s xs) (spots_of_all s ys))

-- the uses of what is left are those of a tree but for itself, and of the rest
pub used_over : (s : Setting) (a : Option Shape) (t : PredTree) (rest left : List Spot) → left ≡ parts_in s (form_of t) ++ rest
    → used_in a (form_of t) ++ uses (spots_of_all s left) ≡ uses (spots_of_all s (spot a t ∷ rest))
used_over s a (pred_tree p f) rest left is =
    ap (λ (l : List Spot). used_in a f ++ uses l) (ap (spots_of_all s) is ∙ all_append s (parts_in s f) rest ∙ ap (λ (l : List Spot). l ++ spots_of_all s rest) (sym (parts_first s f)))

total_parts : (s : Setting) (f : PredForm) (rest : List Spot) → total (parts_in s f ++ rest) ≡ size_of_form f + total rest
total_parts s (flag b) rest = omega arith
total_parts s (whole n) rest = omega arith
total_parts s (use_of x) rest = omega arith
total_parts s (placeholder x) rest = omega arith
total_parts s (applied m e) rest = omega arith
total_parts s (qualified m x e) rest = omega arith
total_parts s (arithmetic o a b) rest = omega arith
total_parts s (negated e) rest = omega arith
total_parts s (compare o a b) rest = omega arith
total_parts s (not_of e) rest = omega arith
total_parts s (and_of a b) rest = omega arith
total_parts s (or_of a b) rest = omega arith
total_parts s (iff a b) rest = omega arith

pub fewer : (s : Setting) (a : Option Shape) (t : PredTree) (rest left : List Spot) → left ≡ parts_in s (form_of t) ++ rest → total left < total (spot a t ∷ rest)
fewer s a (pred_tree p f) rest left is = let same = ap total is in let parts = total_parts s f rest in omega (arith, same, parts)

numbered_from : (k : ℕ) (us : List (ℕ × Shape)) (u : ℕ × Shape) → numbered k (us ++ u ∷ []) ≡ numbered k us ++ (u.0, k + length us) ∷ []
numbered_from k [] u = let same : k ≡ k + 0 = omega arith in ap (λ (n : ℕ). (u.0, n) ∷ []) same
numbered_from k (w ∷ us) u =
    let same : suc k + length us ≡ k + suc (length us) = omega arith in
    ap (λ (l : List (ℕ × ℕ)). (w.0, k) ∷ l) (numbered_from (suc k) us u ∙ ap (λ (n : ℕ). numbered (suc k) us ++ (u.0, n) ∷ []) same)

-- one placeholder more has the next number
pub numbered_more : (old new : Lookup ℕ) (us : List (ℕ × Shape)) (u : ℕ × Shape) (n : ℕ) → n ≡ length us → ((x : ℕ) → new x ≡ or_else (old x) (one u.0 n x))
    → ((x : ℕ) → old x ≡ first_in (numbered 0 us) x) → (x : ℕ) → new x ≡ first_in (numbered 0 (us ++ u ∷ [])) x
numbered_more old new us u n is more before x =
    let next : 0 + length us ≡ n = (let same = is in omega (arith, same)) in
    more x ∙ ap (λ (o : Option ℕ). or_else o (one u.0 n x)) (before x) ∙ ap (or_else (first_in (numbered 0 us) x)) (alone (one u.0 n x)) ∙ sym (first_append (numbered 0 us) ((u.0, n) ∷ []) x)
    ∙ sym (ap (λ l. first_in l x) (numbered_from 0 us u ∙ ap (λ (k : ℕ). numbered 0 us ++ (u.0, k) ∷ []) next))
  where
    alone : (o : Option ℕ) → o ≡ or_else o None
    alone None = refl
    alone (Some k) = refl
