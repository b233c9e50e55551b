-- Names with their numbers, and what is found of a name.
use Rattle.std.specs.Prelude.{◌==◌, slice_index_or, slice_set}
use Rattle.std.proofs.Common.{◌≡◌, ℕ, zero, suc, ◌<◌, ◌+◌, Bool, true, false, cond, List, [], ◌∷◌, ◌++◌, length, replicate, set, map, drop, reverse, Option, Some, None, is_some, refl, sym, ap, subst, ◌∙◌, arith}
use Rattle.std.proofs.lemmas.Bool.Decides.{Decides-eqb}
use Rattle.std.proofs.lemmas.Grind.{get_or-set_at}
use Rattle.std.proofs.lemmas.List.{get_or-set_other, reverse-append}
use Rattle.lq_text_scope.specs.Datatypes.{name_of}
use Rattle.lq_text_scope.specs.Known.{Arity, arity_in, has}
use Rattle.lq_text_scope.specs.Views.{IsScope, KeepFormer, entries_view, entry_view}
use Rattle.lq_text_scope.specs.declared.scope.Entry.{Entry}

pub has_found : (as_ : List Arity) (x : ℕ) → is_some (arity_in as_ x) ≡ has (map name_of as_) x
has_found [] x = refl
has_found (a ∷ as_) x = by_test (a.name == x) refl (has_found as_ x)
  where
    by_test : (t : Bool) → (a.name == x) ≡ t → is_some (arity_in as_ x) ≡ has (map name_of as_) x → is_some (arity_in (a ∷ as_) x) ≡ has (map name_of (a ∷ as_)) x
    by_test true e more = cc
    by_test false e more = cc

-- nothing is found at new places
abbrev pub found_in : List (Option ℕ) → ℕ → Option ℕ
found_in last x = slice_index_or last x None

found_nothing : (n x : ℕ) → found_in (replicate n None) x ≡ None
found_nothing zero x = refl
found_nothing (suc n) zero = refl
found_nothing (suc n) (suc x) = found_nothing n x

pub found_longer : (last : List (Option ℕ)) (n x : ℕ) → found_in (last ++ replicate n None) x ≡ found_in last x
found_longer [] n x = found_nothing n x
found_longer (o ∷ last) n zero = refl
found_longer (o ∷ last) n (suc x) = found_longer last n x

found_set : (last : List (Option ℕ)) (name x : ℕ) (o : Option ℕ) → name < length last → slice_index_or (set last name o) x None ≡ cond (name == x) o (slice_index_or last x None)
found_set last name x o lt = by_test (name == x) refl
  where
    by_test : (t : Bool) → (name == x) ≡ t → slice_index_or (set last name o) x None ≡ cond t o (slice_index_or last x None)
    by_test true e = get_or-set_at last name x o None (sym ((Decides-eqb name x).0 e)) lt
    by_test false e = get_or-set_other last name x o None (λ same. let is = (Decides-eqb name x).1 (sym same) in cc)

-- what is found lies within the list
found_within : (last : List (Option ℕ)) (x n : ℕ) → slice_index_or last x None ≡ Some n → x < length last
found_within [] x n is = absurd (let e = is in cc)
found_within (o ∷ last) zero n is = omega arith
found_within (o ∷ last) (suc x) n is = let less = found_within last x n is in omega (arith, less)

found_itself : (e : Entry) (as_ : List Arity) → arity_in (entry_view e ∷ as_) e.name.0 ≡ Some e.count
found_itself e as_ = let same = (Decides-eqb e.name.0 e.name.0).1 refl in cc

turned : (front : List Entry) (e : Entry) → reverse (front ++ e ∷ []) ≡ e ∷ reverse front
turned front e = reverse-append front (e ∷ [])

pub view_more : (front : List Entry) (e : Entry) → entries_view (front ++ e ∷ []) ≡ entry_view e ∷ entries_view front
view_more front e = ap (map entry_view) (turned front e)

pub within : (last : List (Option ℕ)) (front : List Entry) (e : Entry) → IsScope last (front ++ e ∷ []) → e.name.0 < length last
within last front e is =
    found_within last e.name.0 e.count (is.found e.name.0 ∙ ap (λ as_. arity_in as_ e.name.0) (view_more front e) ∙ found_itself e (entries_view front))

pub pushed : (last : List (Option ℕ)) (front : List Entry) (e : Entry) (n : ℕ) → IsScope last front → e.former ≡ arity_in (entries_view front) e.name.0
    → e.name.0 < length (last ++ replicate n None) → IsScope (slice_set (last ++ replicate n None) e.name.0 (Some e.count)) (front ++ e ∷ [])
pushed last front e n is before long = record {
  found = λ x.
      found_set (last ++ replicate n None) e.name.0 x (Some e.count) long
      ∙ ap (λ o. cond (e.name.0 == x) (Some e.count) o) (found_longer last n x ∙ is.found x)
      ∙ sym (ap (λ as_. arity_in as_ x) (view_more front e));
  former = subst KeepFormer (sym (turned front e)) (before, is.former);
}

pub popped : (last : List (Option ℕ)) (front : List Entry) (e : Entry) → IsScope last (front ++ e ∷ []) → IsScope (slice_set last e.name.0 e.former) front
popped last front e is =
    let kept : KeepFormer (e ∷ reverse front) = subst KeepFormer (turned front e) is.former in
    record {
      found = λ x. by_test x (e.name.0 == x) refl kept.0;
      former = kept.1;
    }
  where
    by_test : (x : ℕ) (t : Bool) → (e.name.0 == x) ≡ t → e.former ≡ arity_in (entries_view front) e.name.0 → slice_index_or (slice_set last e.name.0 e.former) x None ≡ arity_in (entries_view front) x
    by_test x true same before =
        found_set last e.name.0 x e.former (within last front e is) ∙ ap (λ t. cond t e.former (slice_index_or last x None)) same
        ∙ before ∙ ap (arity_in (entries_view front)) ((Decides-eqb e.name.0 x).0 same)
    by_test x false other before =
        found_set last e.name.0 x e.former (within last front e is) ∙ ap (λ t. cond t e.former (slice_index_or last x None)) other
        ∙ is.found x ∙ ap (λ as_. arity_in as_ x) (view_more front e) ∙ ap (λ t. cond t (Some e.count) (arity_in (entries_view front) x)) other

abbrev drop_from : ℕ → List Arity → List Arity
drop_from = drop

drop_none : (n : ℕ) → drop_from 1 (drop_from n []) ≡ drop_from (suc n) []
drop_none zero = refl
drop_none (suc n) = refl

pub drop_more : (n : ℕ) (as_ : List Arity) → drop 1 (drop n as_) ≡ drop (n + 1) as_
drop_more zero as_ = refl
drop_more (suc n) [] = let next : suc n + 1 ≡ suc (n + 1) = omega arith in drop_none (suc n) ∙ ap (λ (m : ℕ). drop_from m []) (sym next)
drop_more (suc n) (a ∷ as_) = let next : suc n + 1 ≡ suc (n + 1) = omega arith in drop_more n as_ ∙ ap (λ (m : ℕ). drop m (a ∷ as_)) (sym next)
