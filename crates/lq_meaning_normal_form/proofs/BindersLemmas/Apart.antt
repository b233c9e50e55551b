-- In a scoped tree a use is visible or bound inside, and binders differ: so no part uses a name that comes out of another part.
use Rattle.std.proofs.Common.{◌≡◌, ℕ, zero, suc, ◌+◌, ◌<◌, ◌≤◌, Bool, true, false, ◌&&◌, ◌||◌, ◌==◌, not, cond, List, [], ◌∷◌, ◌++◌, length, refl, sym, ap, ◌∙◌, arith}
use Rattle.std.proofs.lemmas.Bool.Decides.{Decides-eqb, Decides-ltb}
use Rattle.lq_base_names.specs.declared.place.Place.{Place}
use Rattle.lq_text_tree.specs.Items.{ItemTree, ItemForm, type_of, let_of, let_rec_of}
use Rattle.lq_text_tree.specs.Pattern.{Pattern, bound_in}
use Rattle.lq_text_tree.specs.Tree as form
use Rattle.lq_text_tree.specs.Tree.{Tree, tree, Form, Trees, no_trees, more_trees, Cases, no_cases, more_cases}
use Rattle.lq_meaning_normal_form.specs.Outcomes.Apart.{is_in, lets, lets_form, lets_all, TwoApart, Apart, ApartForm, ApartAll, ApartCases, ApartItem, ApartItems}
use Rattle.lq_meaning_normal_form.specs.Outcomes.Named.{from, Avoids, AvoidsForm, AvoidsAll, AvoidsCases, AvoidsItem, AvoidsItems}
use Rattle.lq_text_walk.specs.Scoped.Uses.{is_parameter, is_scoped_tree, is_scoped_form, scoping, all_under, arms_under, are_scoped, visible_behind, is_apart}
use Rattle.lq_text_walk.specs.Scoped.Numbers.{binders_of_items}
use Rattle.lq_text_walk.specs.Walk.Fold.{fold_all, fold_cases}
use Rattle.lq_meaning_normal_form.specs.Binders.Apart.{ScopedAreApart, ScopedBindOnce}
use Rattle.lq_meaning_normal_form.specs.Binders.Counting.{once, times, counted, counted_all, counted_cases, counted_form, counted_items}
use Rattle.lq_meaning_normal_form.proofs.BindersLemmas.Times.{times_append, in_times, from_within, from_once}
use Rattle.lq_meaning_normal_form.proofs.BindersLemmas.Counting.{items_count}

both_true : (a b : Bool) → (a && b) ≡ true → (a ≡ true) × (b ≡ true)
both_true true true h = (refl, refl)
both_true true false h = cc
both_true false b h = cc

either : (a b : Bool) → (a || b) ≡ true → (A : Type 0) → (a ≡ true → A) → (b ≡ true → A) → A
either true b h A f g = f refl
either false b h A f g = g h

-- ---- what lets bring out is bound inside

abbrev IsCounted : Tree → Type 0
IsCounted t = (x : ℕ) → lets t x ≡ true → 1 ≤ counted x t

two_counted : (a b : Tree) → IsCounted a → IsCounted b → (x : ℕ) → (lets a x || lets b x) ≡ true → 1 ≤ counted x a + counted x b
two_counted a b h g x k =
    either (lets a x) (lets b x) k (1 ≤ counted x a + counted x b) (λ e. let more = h x e in omega (arith, more)) (λ e. let more = g x e in omega (arith, more))

mutual
  lets_counted : (t : Tree) → IsCounted t
  lets_counted (tree i p f) x h = lets_form_counted i p f x h

  lets_form_counted : (i : ℕ) (p : Place) (f : Form) (x : ℕ) → lets_form f x ≡ true → 1 ≤ counted x (tree i p f)
  lets_form_counted i p (form.tuple es) x h = lets_all_counted es x h
  lets_form_counted i p (form.build c w es) x h = lets_all_counted es x h
  lets_form_counted i p (form.list_of es) x h = lets_all_counted es x h
  lets_form_counted i p (form.chain es) x h = lets_all_counted es x h
  lets_form_counted i p (form.let_in q e b) x h =
      either (is_in (bound_in q) x) (lets e x || lets b x) h (1 ≤ times x (bound_in q) + (counted x e + counted x b))
      (λ k. let more = in_times x (bound_in q) k in omega (arith, more)) (λ k. let more = two_counted e b (lets_counted e) (lets_counted b) x k in omega (arith, more))
  lets_form_counted i p (form.let_rec f j n q b e) x h =
      either (f == x) (lets e x) h (1 ≤ once x f + (times x (bound_in q) + (counted x b + counted x e)))
      (λ k. let is : once x f ≡ 1 = ap (λ c. cond c 1 0) k in omega (arith, is)) (λ k. let more = lets_counted e x k in omega (arith, more))
  lets_form_counted i p (form.call a b) x h = two_counted a b (lets_counted a) (lets_counted b) x h
  lets_form_counted i p (form.arithmetic o a b) x h = two_counted a b (lets_counted a) (lets_counted b) x h
  lets_form_counted i p (form.compare o a b) x h = two_counted a b (lets_counted a) (lets_counted b) x h
  lets_form_counted i p (form.make a b) x h = two_counted a b (lets_counted a) (lets_counted b) x h
  lets_form_counted i p (form.fetch a b) x h = two_counted a b (lets_counted a) (lets_counted b) x h
  lets_form_counted i p (form.negated e) x h = lets_counted e x h
  lets_form_counted i p (form.not_of e) x h = lets_counted e x h
  lets_form_counted i p (form.length_of e) x h = lets_counted e x h
  lets_form_counted i p (form.assert e) x h = lets_counted e x h
  lets_form_counted i p (form.print e) x h = lets_counted e x h
  lets_form_counted i p (form.read e) x h = lets_counted e x h
  lets_form_counted i p (form.and_of a b) x h = let more = lets_counted a x h in omega (arith, more)
  lets_form_counted i p (form.or_of a b) x h = let more = lets_counted a x h in omega (arith, more)
  lets_form_counted i p (form.if_else a b c) x h = let more = lets_counted a x h in omega (arith, more)
  lets_form_counted i p (form.match_on e cs) x h = let more = lets_counted e x h in omega (arith, more)
  lets_form_counted i p (form.store a b c) x h =
      either (lets a x) (lets b x || lets c x) h (1 ≤ counted x a + (counted x b + counted x c))
      (λ k. let more = lets_counted a x k in omega (arith, more)) (λ k. let more = two_counted b c (lets_counted b) (lets_counted c) x k in omega (arith, more))
  lets_form_counted i p (form.whole n) x h = cc
  lets_form_counted i p (form.flag b) x h = cc
  lets_form_counted i p form.unit x h = cc
  lets_form_counted i p (form.use_of y) x h = cc
  lets_form_counted i p (form.qualified m y) x h = cc
  lets_form_counted i p (form.fun q b) x h = cc
  lets_form_counted i p form.assert_false x h = cc
  lets_form_counted i p form.map_empty x h = cc
  lets_form_counted i p (form.map_add a b c) x h = cc
  lets_form_counted i p (form.map_find a b) x h = cc

  lets_all_counted : (es : Trees) (x : ℕ) → lets_all es x ≡ true → 1 ≤ counted_all x es
  lets_all_counted no_trees x h = cc
  lets_all_counted (more_trees e es) x h =
      either (lets e x) (lets_all es x) h (1 ≤ counted x e + counted_all x es)
      (λ k. let more = lets_counted e x k in omega (arith, more)) (λ k. let more = lets_all_counted es x k in omega (arith, more))

-- ---- what is neither visible nor bound inside is not used

-- a hidden name isn't there
abbrev Absent : (ℕ → Bool) → (ℕ → ℕ) → Type 0
Absent H n = (x : ℕ) → H x ≡ true → n x ≡ 0

abbrev around : List ℕ → (ℕ → ℕ) → ℕ → ℕ
around vs c x = times x vs + c x

by_hidden : (b : Bool) → (b ≡ true → ⊥) → b ≡ false
by_hidden true h = absurd (h refl)
by_hidden false h = refl

module _ (H : ℕ → Bool) where
  abbrev IsAbsent : List ℕ → (ℕ → ℕ) → Type 0
  IsAbsent vs c = Absent H (around vs c)

  under_pattern : (vs : List ℕ) (q : Pattern) (c d : ℕ → ℕ) → ((x : ℕ) → times x (bound_in q) + c x ≤ d x) → IsAbsent vs d → IsAbsent (bound_in q ++ vs) c
  under_pattern vs q c d less h x e = let all = h x e in let both = times_append x (bound_in q) vs in let small = less x in omega (arith, all, both, small)

  part_absent : (vs : List ℕ) (c d : ℕ → ℕ) → ((x : ℕ) → c x ≤ d x) → IsAbsent vs d → IsAbsent vs c
  part_absent vs c d less h x e = let all = h x e in let small = less x in omega (arith, all, small)

  abbrev DoesAvoid : Tree → Type 0
  DoesAvoid t = (vs : List ℕ) → is_scoped_tree vs t ≡ true → IsAbsent vs (λ x. counted x t) → Avoids H t

  avoids_two : (a b : Tree) → DoesAvoid a → DoesAvoid b → (vs : List ℕ) → (is_scoped_tree vs a && is_scoped_tree vs b) ≡ true → IsAbsent vs (λ x. counted x a + counted x b) → Avoids H a × Avoids H b
  avoids_two a b go_a go_b vs s h =
      let w = both_true (is_scoped_tree vs a) (is_scoped_tree vs b) s in (
        go_a vs w.0 (part_absent vs (λ x. counted x a) (λ x. counted x a + counted x b) (λ x. omega arith) h),
        go_b vs w.1 (part_absent vs (λ x. counted x b) (λ x. counted x a + counted x b) (λ x. omega arith) h),
      )

  avoids_three : (a b c : Tree) → DoesAvoid a → DoesAvoid b → DoesAvoid c → (vs : List ℕ) → (is_scoped_tree vs a && (is_scoped_tree vs b && is_scoped_tree vs c)) ≡ true
      → IsAbsent vs (λ x. counted x a + (counted x b + counted x c)) → Avoids H a × Avoids H b × Avoids H c
  avoids_three a b c go_a go_b go_c vs s h =
      let w = both_true (is_scoped_tree vs a) (is_scoped_tree vs b && is_scoped_tree vs c) s in
      let v = avoids_two b c go_b go_c vs w.1 (part_absent vs (λ x. counted x b + counted x c) (λ x. counted x a + (counted x b + counted x c)) (λ x. omega arith) h) in (
        go_a vs w.0 (part_absent vs (λ x. counted x a) (λ x. counted x a + (counted x b + counted x c)) (λ x. omega arith) h),
        v.0,
        v.1,
      )

  mutual
    avoids : (t : Tree) → DoesAvoid t
    avoids (tree i p f) vs s h = avoids_form i p f vs s h

    avoids_form : (i : ℕ) (p : Place) (f : Form) (vs : List ℕ) → is_scoped_tree vs (tree i p f) ≡ true → IsAbsent vs (λ x. counted x (tree i p f)) → AvoidsForm H f
    avoids_form i p (form.use_of y) vs s h = by_hidden (H y) (λ e. let none = h y e in let some = in_times y vs s in omega (arith, none, some))
    avoids_form i p (form.fun q b) vs s h =
        avoids b (bound_in q ++ vs) (both_true (is_parameter q) (is_scoped_tree (bound_in q ++ vs) b) s).1
        (under_pattern vs q (λ x. counted x b) (λ x. times x (bound_in q) + counted x b) (λ x. omega arith) h)
    avoids_form i p (form.tuple es) vs s h = avoids_all es vs s h
    avoids_form i p (form.build c w es) vs s h = avoids_all es vs (both_true (is_apart w) (all_under (fold_all scoping es) vs) s).1 h
    avoids_form i p (form.list_of es) vs s h = avoids_all es vs s h
    avoids_form i p (form.chain es) vs s h = avoids_all es vs s h
    avoids_form i p (form.let_in q e b) vs s h =
        let w = both_true (is_scoped_tree vs e) (is_scoped_tree (bound_in q ++ vs) b) s in
        let all : ℕ → ℕ = λ x. times x (bound_in q) + (counted x e + counted x b) in (
          avoids e vs w.0 (part_absent vs (λ x. counted x e) all (λ x. omega arith) h),
          avoids b (bound_in q ++ vs) w.1 (under_pattern vs q (λ x. counted x b) all (λ x. omega arith) h),
        )
    avoids_form i p (form.let_rec f j n q b e) vs s h =
        let w = both_true (is_parameter q) (is_scoped_tree (bound_in q ++ f ∷ vs) b && is_scoped_tree (f ∷ vs) e) s in
        let v = both_true (is_scoped_tree (bound_in q ++ f ∷ vs) b) (is_scoped_tree (f ∷ vs) e) w.1 in
        let all : ℕ → ℕ = λ x. once x f + (times x (bound_in q) + (counted x b + counted x e)) in
        let inner : ℕ → ℕ = λ x. times x (bound_in q) + (counted x b + counted x e) in
        let named : IsAbsent (f ∷ vs) inner = λ x k. let whole = h x k in omega (arith, whole) in (
          avoids b (bound_in q ++ f ∷ vs) v.0 (under_pattern (f ∷ vs) q (λ x. counted x b) inner (λ x. omega arith) named),
          avoids e (f ∷ vs) v.1 (part_absent (f ∷ vs) (λ x. counted x e) inner (λ x. omega arith) named),
        )
    avoids_form i p (form.call a b) vs s h = avoids_two a b (avoids a) (avoids b) vs s h
    avoids_form i p (form.arithmetic o a b) vs s h = avoids_two a b (avoids a) (avoids b) vs s h
    avoids_form i p (form.compare o a b) vs s h = avoids_two a b (avoids a) (avoids b) vs s h
    avoids_form i p (form.and_of a b) vs s h = avoids_two a b (avoids a) (avoids b) vs s h
    avoids_form i p (form.or_of a b) vs s h = avoids_two a b (avoids a) (avoids b) vs s h
    avoids_form i p (form.make a b) vs s h = avoids_two a b (avoids a) (avoids b) vs s h
    avoids_form i p (form.fetch a b) vs s h = avoids_two a b (avoids a) (avoids b) vs s h
    avoids_form i p (form.negated e) vs s h = avoids e vs s h
    avoids_form i p (form.not_of e) vs s h = avoids e vs s h
    avoids_form i p (form.length_of e) vs s h = avoids e vs s h
    avoids_form i p (form.assert e) vs s h = avoids e vs s h
    avoids_form i p (form.print e) vs s h = avoids e vs s h
    avoids_form i p (form.read e) vs s h = avoids e vs s h
    avoids_form i p (form.if_else a b c) vs s h = avoids_three a b c (avoids a) (avoids b) (avoids c) vs s h
    avoids_form i p (form.store a b c) vs s h = avoids_three a b c (avoids a) (avoids b) (avoids c) vs s h
    avoids_form i p (form.match_on e cs) vs s h =
        let w = both_true (is_scoped_tree vs e) (arms_under (fold_cases scoping cs) vs) s in
        let all : ℕ → ℕ = λ x. counted x e + counted_cases x cs in (
          avoids e vs w.0 (part_absent vs (λ x. counted x e) all (λ x. omega arith) h),
          avoids_cases cs vs w.1 (part_absent vs (λ x. counted_cases x cs) all (λ x. omega arith) h),
        )
    avoids_form i p (form.whole n) vs s h = tt
    avoids_form i p (form.flag b) vs s h = tt
    avoids_form i p form.unit vs s h = tt
    avoids_form i p (form.qualified m y) vs s h = tt
    avoids_form i p form.assert_false vs s h = tt
    avoids_form i p form.map_empty vs s h = tt
    avoids_form i p (form.map_add a b c) vs s h = tt
    avoids_form i p (form.map_find a b) vs s h = tt

    avoids_all : (es : Trees) (vs : List ℕ) → all_under (fold_all scoping es) vs ≡ true → IsAbsent vs (λ x. counted_all x es) → AvoidsAll H es
    avoids_all no_trees vs s h = tt
    avoids_all (more_trees e es) vs s h =
        let w = both_true (is_scoped_tree vs e) (all_under (fold_all scoping es) vs) s in
        let all : ℕ → ℕ = λ x. counted x e + counted_all x es in (
          avoids e vs w.0 (part_absent vs (λ x. counted x e) all (λ x. omega arith) h),
          avoids_all es vs w.1 (part_absent vs (λ x. counted_all x es) all (λ x. omega arith) h),
        )

    avoids_cases : (cs : Cases) (vs : List ℕ) → arms_under (fold_cases scoping cs) vs ≡ true → IsAbsent vs (λ x. counted_cases x cs) → AvoidsCases H cs
    avoids_cases no_cases vs s h = tt
    avoids_cases (more_cases q b cs) vs s h =
        let w = both_true (is_scoped_tree (bound_in q ++ vs) b) (arms_under (fold_cases scoping cs) vs) s in
        let all : ℕ → ℕ = λ x. times x (bound_in q) + (counted x b + counted_cases x cs) in (
          avoids b (bound_in q ++ vs) w.0 (under_pattern vs q (λ x. counted x b) all (λ x. omega arith) h),
          avoids_cases cs vs w.1 (part_absent vs (λ x. counted_cases x cs) all (λ x. omega arith) h),
        )

-- ---- parts are apart

-- each binder is visible or inside, and once, and all are below this number
record Sound (base : ℕ) (vs : List ℕ) (c : ℕ → ℕ) : Type 0 where
  once : (x : ℕ) → times x vs + c x ≤ 1
  below : (x : ℕ) → 1 ≤ times x vs + c x → x < base

once_self : (x : ℕ) → once x x ≡ 1
once_self x = ap (λ b. cond b 1 0) ((Decides-eqb x x).1 refl)

not_below : (x base : ℕ) → from base x ≡ true → x < base → ⊥
not_below x base e less = let is : from base x ≡ false = ap not ((Decides-ltb x base).1 less) in cc

module _ (base : ℕ) where
  part_sound : (vs : List ℕ) (c d : ℕ → ℕ) → ((x : ℕ) → c x ≤ d x) → Sound base vs d → Sound base vs c
  part_sound vs c d less h = record {
    once = λ x. let all = h.once x in let small = less x in omega (arith, all, small);
    below = λ x some. h.below x (let small = less x in omega (arith, some, small));
  }

  pattern_sound : (vs : List ℕ) (q : Pattern) (c d : ℕ → ℕ) → ((x : ℕ) → times x (bound_in q) + c x ≤ d x) → Sound base vs d → Sound base (bound_in q ++ vs) c
  pattern_sound vs q c d less h = record {
    once = λ x. let all = h.once x in let small = less x in let both = times_append x (bound_in q) vs in omega (arith, all, small, both);
    below = λ x some. h.below x (let small = less x in let both = times_append x (bound_in q) vs in omega (arith, some, small, both));
  }

  -- names of lets of the one are not in the other
  away : (a b : Tree) (vs : List ℕ) (d : ℕ → ℕ) → ((x : ℕ) → counted x a + counted x b ≤ d x) → Sound base vs d → is_scoped_tree vs b ≡ true → Avoids (lets a) b
  away a b vs d less h s =
      avoids (lets a) b vs s (λ x e. let some = lets_counted a x e in let most = h.once x in let small = less x in omega (arith, some, most, small))

  both_away : (a b : Tree) (vs : List ℕ) (d : ℕ → ℕ) → ((x : ℕ) → counted x a + counted x b ≤ d x) → Sound base vs d → is_scoped_tree vs a ≡ true → is_scoped_tree vs b ≡ true → TwoApart a b
  both_away a b vs d less h s r = (away a b vs d less h r, away b a vs d (λ x. let small = less x in omega (arith, small)) h s)

  abbrev IsApart : Tree → Type 0
  IsApart t = (vs : List ℕ) → is_scoped_tree vs t ≡ true → Sound base vs (λ x. counted x t) → Apart base t

  apart_two : (a b : Tree) → IsApart a → IsApart b → (vs : List ℕ) → (is_scoped_tree vs a && is_scoped_tree vs b) ≡ true → Sound base vs (λ x. counted x a + counted x b) → Apart base a × TwoApart a b × Apart base b
  apart_two a b go_a go_b vs s h =
      let w = both_true (is_scoped_tree vs a) (is_scoped_tree vs b) s in
      let all : ℕ → ℕ = λ x. counted x a + counted x b in (
        go_a vs w.0 (part_sound vs (λ x. counted x a) all (λ x. omega arith) h),
        both_away a b vs all (λ x. omega arith) h w.0 w.1,
        go_b vs w.1 (part_sound vs (λ x. counted x b) all (λ x. omega arith) h),
      )

  mutual
    apart : (t : Tree) → IsApart t
    apart (tree i p f) vs s h = apart_form i p f vs s h

    apart_form : (i : ℕ) (p : Place) (f : Form) (vs : List ℕ) → is_scoped_tree vs (tree i p f) ≡ true → Sound base vs (λ x. counted x (tree i p f)) → ApartForm base f
    apart_form i p (form.fun q b) vs s h =
        apart b (bound_in q ++ vs) (both_true (is_parameter q) (is_scoped_tree (bound_in q ++ vs) b) s).1
        (pattern_sound vs q (λ x. counted x b) (λ x. times x (bound_in q) + counted x b) (λ x. omega arith) h)
    apart_form i p (form.tuple es) vs s h = apart_all es vs s h
    apart_form i p (form.build c w es) vs s h = apart_all es vs (both_true (is_apart w) (all_under (fold_all scoping es) vs) s).1 h
    apart_form i p (form.list_of es) vs s h = apart_all es vs s h
    apart_form i p (form.chain es) vs s h = apart_all es vs s h
    apart_form i p (form.let_in q e b) vs s h =
        let w = both_true (is_scoped_tree vs e) (is_scoped_tree (bound_in q ++ vs) b) s in
        let all : ℕ → ℕ = λ x. times x (bound_in q) + (counted x e + counted x b) in (
          λ x k. h.below x (let some = in_times x (bound_in q) k in omega (arith, some)),
          apart e vs w.0 (part_sound vs (λ x. counted x e) all (λ x. omega arith) h),
          avoids (lets e) b (bound_in q ++ vs) w.1 (λ x k.
              let some = lets_counted e x k in let most = h.once x in let both = times_append x (bound_in q) vs in omega (arith, some, most, both)),
          apart b (bound_in q ++ vs) w.1 (pattern_sound vs q (λ x. counted x b) all (λ x. omega arith) h),
        )
    apart_form i p (form.let_rec f j n q b e) vs s h =
        let w = both_true (is_parameter q) (is_scoped_tree (bound_in q ++ f ∷ vs) b && is_scoped_tree (f ∷ vs) e) s in
        let v = both_true (is_scoped_tree (bound_in q ++ f ∷ vs) b) (is_scoped_tree (f ∷ vs) e) w.1 in
        let inner : ℕ → ℕ = λ x. times x (bound_in q) + (counted x b + counted x e) in
        let named : Sound base (f ∷ vs) inner = record {
          once = λ x. let whole = h.once x in omega (arith, whole);
          below = λ x some. h.below x (omega (arith, some));
        } in (
          h.below f (let self = once_self f in omega (arith, self)),
          apart b (bound_in q ++ f ∷ vs) v.0 (pattern_sound (f ∷ vs) q (λ x. counted x b) inner (λ x. omega arith) named),
          apart e (f ∷ vs) v.1 (part_sound (f ∷ vs) (λ x. counted x e) inner (λ x. omega arith) named),
        )
    apart_form i p (form.call a b) vs s h = apart_two a b (apart a) (apart b) vs s h
    apart_form i p (form.arithmetic o a b) vs s h = apart_two a b (apart a) (apart b) vs s h
    apart_form i p (form.compare o a b) vs s h = apart_two a b (apart a) (apart b) vs s h
    apart_form i p (form.make a b) vs s h = apart_two a b (apart a) (apart b) vs s h
    apart_form i p (form.fetch a b) vs s h = apart_two a b (apart a) (apart b) vs s h
    apart_form i p (form.and_of a b) vs s h = let w = apart_two a b (apart a) (apart b) vs s h in (w.0, w.1.0, w.2)
    apart_form i p (form.or_of a b) vs s h = let w = apart_two a b (apart a) (apart b) vs s h in (w.0, w.1.0, w.2)
    apart_form i p (form.negated e) vs s h = apart e vs s h
    apart_form i p (form.not_of e) vs s h = apart e vs s h
    apart_form i p (form.length_of e) vs s h = apart e vs s h
    apart_form i p (form.assert e) vs s h = apart e vs s h
    apart_form i p (form.print e) vs s h = apart e vs s h
    apart_form i p (form.read e) vs s h = apart e vs s h
    apart_form i p (form.if_else a b c) vs s h =
        let w = both_true (is_scoped_tree vs a) (is_scoped_tree vs b && is_scoped_tree vs c) s in
        let v = both_true (is_scoped_tree vs b) (is_scoped_tree vs c) w.1 in
        let all : ℕ → ℕ = λ x. counted x a + (counted x b + counted x c) in (
          apart a vs w.0 (part_sound vs (λ x. counted x a) all (λ x. omega arith) h),
          away a b vs all (λ x. omega arith) h v.0,
          away a c vs all (λ x. omega arith) h v.1,
          apart b vs v.0 (part_sound vs (λ x. counted x b) all (λ x. omega arith) h),
          apart c vs v.1 (part_sound vs (λ x. counted x c) all (λ x. omega arith) h),
        )
    apart_form i p (form.store a b c) vs s h =
        let w = both_true (is_scoped_tree vs a) (is_scoped_tree vs b && is_scoped_tree vs c) s in
        let v = both_true (is_scoped_tree vs b) (is_scoped_tree vs c) w.1 in
        let all : ℕ → ℕ = λ x. counted x a + (counted x b + counted x c) in (
          apart a vs w.0 (part_sound vs (λ x. counted x a) all (λ x. omega arith) h),
          both_away a b vs all (λ x. omega arith) h w.0 v.0,
          both_away a c vs all (λ x. omega arith) h w.0 v.1,
          apart b vs v.0 (part_sound vs (λ x. counted x b) all (λ x. omega arith) h),
          both_away b c vs all (λ x. omega arith) h v.0 v.1,
          apart c vs v.1 (part_sound vs (λ x. counted x c) all (λ x. omega arith) h),
        )
    apart_form i p (form.match_on e cs) vs s h =
        let w = both_true (is_scoped_tree vs e) (arms_under (fold_cases scoping cs) vs) s in
        let all : ℕ → ℕ = λ x. counted x e + counted_cases x cs in (
          apart e vs w.0 (part_sound vs (λ x. counted x e) all (λ x. omega arith) h),
          avoids_cases (lets e) cs vs w.1 (λ x k. let some = lets_counted e x k in let most = h.once x in omega (arith, some, most)),
          apart_cases cs vs w.1 (part_sound vs (λ x. counted_cases x cs) all (λ x. omega arith) h),
        )
    apart_form i p (form.whole n) vs s h = tt
    apart_form i p (form.flag b) vs s h = tt
    apart_form i p form.unit vs s h = tt
    apart_form i p (form.use_of y) vs s h = tt
    apart_form i p (form.qualified m y) vs s h = tt
    apart_form i p form.assert_false vs s h = tt
    apart_form i p form.map_empty vs s h = tt
    apart_form i p (form.map_add a b c) vs s h = tt
    apart_form i p (form.map_find a b) vs s h = tt

    apart_all : (es : Trees) (vs : List ℕ) → all_under (fold_all scoping es) vs ≡ true → Sound base vs (λ x. counted_all x es) → ApartAll base es
    apart_all no_trees vs s h = tt
    apart_all (more_trees e es) vs s h =
        let w = both_true (is_scoped_tree vs e) (all_under (fold_all scoping es) vs) s in
        let all : ℕ → ℕ = λ x. counted x e + counted_all x es in (
          apart e vs w.0 (part_sound vs (λ x. counted x e) all (λ x. omega arith) h),
          avoids_all (lets e) es vs w.1 (λ x k. let some = lets_counted e x k in let most = h.once x in omega (arith, some, most)),
          avoids (lets_all es) e vs w.0 (λ x k. let some = lets_all_counted es x k in let most = h.once x in omega (arith, some, most)),
          apart_all es vs w.1 (part_sound vs (λ x. counted_all x es) all (λ x. omega arith) h),
        )

    apart_cases : (cs : Cases) (vs : List ℕ) → arms_under (fold_cases scoping cs) vs ≡ true → Sound base vs (λ x. counted_cases x cs) → ApartCases base cs
    apart_cases no_cases vs s h = tt
    apart_cases (more_cases q b cs) vs s h =
        let w = both_true (is_scoped_tree (bound_in q ++ vs) b) (arms_under (fold_cases scoping cs) vs) s in
        let all : ℕ → ℕ = λ x. times x (bound_in q) + (counted x b + counted_cases x cs) in (
          apart b (bound_in q ++ vs) w.0 (pattern_sound vs q (λ x. counted x b) all (λ x. omega arith) h),
          apart_cases cs vs w.1 (part_sound vs (λ x. counted_cases x cs) all (λ x. omega arith) h),
        )

  -- ---- programs

  -- a number from the first made name on isn't there
  high_absent : (vs : List ℕ) (c : ℕ → ℕ) → Sound base vs c → (x : ℕ) → from base x ≡ true → times x vs + c x ≡ 0
  high_absent vs c h x e = by_number (times x vs + c x) refl
    where
      by_number : (n : ℕ) → times x vs + c x ≡ n → times x vs + c x ≡ 0
      by_number zero is = is
      by_number (suc n) is = absurd (not_below x base e (h.below x (omega (arith, is))))

  abbrev Fine : ItemForm → Type 0
  Fine f = AvoidsItem (from base) f × ApartItem base f

  item_fine : (f : ItemForm) (vs : List ℕ) → is_scoped_form vs f ≡ true → Sound base vs (λ x. counted_form x f) → Fine f
  item_fine (type_of d) vs s h = (tt, tt)
  item_fine (let_of q e) vs s h =
      let w = both_true (is_parameter q) (is_scoped_tree vs e) s in
      let value = part_sound vs (λ x. counted x e) (λ x. times x (bound_in q) + counted x e) (λ x. omega arith) h in (
        avoids (from base) e vs w.1 (high_absent vs (λ x. counted x e) value),
        apart e vs w.1 value,
      )
  item_fine (let_rec_of f r) vs s h =
      let w = both_true (is_parameter r.parameter) (is_scoped_tree (bound_in r.parameter ++ f ∷ vs) r.body) s in
      let inner : ℕ → ℕ = λ x. times x (bound_in r.parameter) + counted x r.body in
      let named : Sound base (f ∷ vs) inner = record {
        once = λ x. let whole = h.once x in omega (arith, whole);
        below = λ x some. h.below x (omega (arith, some));
      } in
      let body = pattern_sound (f ∷ vs) r.parameter (λ x. counted x r.body) inner (λ x. omega arith) named in (
        avoids (from base) r.body (bound_in r.parameter ++ f ∷ vs) w.1 (high_absent (bound_in r.parameter ++ f ∷ vs) (λ x. counted x r.body) body),
        apart r.body (bound_in r.parameter ++ f ∷ vs) w.1 body,
      )

  -- what an item makes visible was inside of it
  behind_sound : (f : ItemForm) (vs : List ℕ) (c : ℕ → ℕ) → Sound base vs (λ x. counted_form x f + c x) → Sound base (visible_behind vs f) c
  behind_sound (type_of d) vs c h = part_sound vs c (λ x. 0 + c x) (λ x. omega arith) h
  behind_sound (let_of q e) vs c h = pattern_sound vs q c (λ x. (times x (bound_in q) + counted x e) + c x) (λ x. omega arith) h
  behind_sound (let_rec_of f r) vs c h = record {
    once = λ x. let whole = h.once x in omega (arith, whole);
    below = λ x some. h.below x (omega (arith, some));
  }

  items_fine : (is : List ItemTree) (vs : List ℕ) → are_scoped vs is ≡ true → Sound base vs (λ x. counted_items x is) → AvoidsItems (from base) is × ApartItems base is
  items_fine [] vs s h = (tt, tt)
  items_fine (i ∷ is) vs s h =
      let w = both_true (is_scoped_form vs i.form) (are_scoped (visible_behind vs i.form) is) s in
      let first = item_fine i.form vs w.0 (part_sound vs (λ x. counted_form x i.form) (λ x. counted_form x i.form + counted_items x is) (λ x. omega arith) h) in
      let rest = items_fine is (visible_behind vs i.form) w.1 (behind_sound i.form vs (λ x. counted_items x is) h) in
      ((first.0, rest.0), (first.1, rest.1))

pub scoped_bind_once : ScopedBindOnce
scoped_bind_once s h x =
    let bs = binders_of_items s.items in
    let is = sym (items_count x s.items) ∙ ap (times x) h.binders in
    let most = from_once 0 (length bs) x in (
      omega (arith, is, most),
      λ some. let long = h.named in let within = from_within 0 (length bs) x (omega (arith, some, is)) in let less = within.1 in omega (arith, less, long),
    )

pub scoped_are_apart : ScopedAreApart
scoped_are_apart s h =
    items_fine (length s.sources) s.items [] h.scoped
    (record {
      once = λ x. let most = (scoped_bind_once s h x).0 in omega (arith, most);
      below = λ x some. (scoped_bind_once s h x).1 (omega (arith, some));
    })
