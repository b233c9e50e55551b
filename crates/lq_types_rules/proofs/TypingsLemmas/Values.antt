-- The test for values, and the variables of types.
use Rattle.std.specs.Prelude.{◌==◌, ◌||◌}
use Rattle.std.specs.List.{list_any}
use Rattle.std.proofs.Common.{◌≡◌, ℕ, true, false, List, ◌++◌, ◌⊎◌, inl, inr, refl, sym, subst, ◌∙◌}
use Rattle.std.proofs.lemmas.Bool.{and_parts, and_from, or_cases, or_left, or_right, eqb-true, eq-eqb, false≢true}
use Rattle.std.proofs.lemmas.List.Folds.{list_any-append}
use Rattle.lq_base_names.specs.declared.place.Place.{Place}
use Rattle.lq_text_tree.specs.MlType as ml
use Rattle.lq_text_tree.specs.MlType.{MlType, MlTypes}
use Rattle.lq_text_tree.specs.Tree as form
use Rattle.lq_text_tree.specs.Tree.{Tree, tree, Form, Trees, no_trees, more_trees}
use Rattle.lq_text_tree.specs.Types.{Fixes}
use Rattle.lq_text_tree.specs.TypingRules.{IsValueTree, IsValueForm, AreValueTrees, IsWithin, AreWithin}
use Rattle.lq_text_walk.specs.Walk.Fold.{fold_all}
use Rattle.lq_types_rules.specs.Typings.Principal.{variables_of, variables_in}
use Rattle.lq_types_rules.specs.Typings.Uses.{valuing, all_values, is_value, Each, EachIn, Leaves}

-- ---- values

mutual
  pub value_true : (e : Tree) → IsValueTree e → is_value e ≡ true
  value_true (tree i p f) = form_true i p f

  form_true : (i : ℕ) (p : Place) (f : Form) → IsValueForm f → is_value (tree i p f) ≡ true
  form_true i p (form.whole m) h = refl
  form_true i p (form.flag b) h = refl
  form_true i p form.unit h = refl
  form_true i p (form.use_of x) h = refl
  form_true i p (form.fun q b) h = refl
  form_true i p (form.tuple es) h = all_true es h
  form_true i p (form.build c w es) h = all_true es h
  form_true i p (form.list_of es) h = all_true es h
  form_true i p f h = absurd h

  all_true : (es : Trees) → AreValueTrees es → all_values (fold_all valuing es) ≡ true
  all_true no_trees h = refl
  all_true (more_trees e es) h = and_from (is_value e) (all_values (fold_all valuing es)) (value_true e h.0) (all_true es h.1)

mutual
  pub value_is : (e : Tree) → is_value e ≡ true → IsValueTree e
  value_is (tree i p f) = form_is i p f

  form_is : (i : ℕ) (p : Place) (f : Form) → is_value (tree i p f) ≡ true → IsValueForm f
  form_is i p (form.whole m) h = tt
  form_is i p (form.flag b) h = tt
  form_is i p form.unit h = tt
  form_is i p (form.use_of x) h = tt
  form_is i p (form.fun q b) h = tt
  form_is i p (form.tuple es) h = all_are es h
  form_is i p (form.build c w es) h = all_are es h
  form_is i p (form.list_of es) h = all_are es h
  form_is i p f h = false≢true h

  all_are : (es : Trees) → all_values (fold_all valuing es) ≡ true → AreValueTrees es
  all_are no_trees h = tt
  all_are (more_trees e es) h =
      let both = and_parts (is_value e) (all_values (fold_all valuing es)) h in
      (value_is e both.0, all_are es both.1)

-- ---- variables

abbrev pub IsIn : List ℕ → ℕ → Type 0
IsIn xs i = list_any (λ x. x == i) xs ≡ true

pub in_left : (i : ℕ) (xs ys : List ℕ) → IsIn xs i → IsIn (xs ++ ys) i
in_left i xs ys h = list_any-append (λ x. x == i) xs ys ∙ or_left (list_any (λ x. x == i) xs) (list_any (λ x. x == i) ys) h

pub in_right : (i : ℕ) (xs ys : List ℕ) → IsIn ys i → IsIn (xs ++ ys) i
in_right i xs ys h = list_any-append (λ x. x == i) xs ys ∙ or_right (list_any (λ x. x == i) xs) (list_any (λ x. x == i) ys) h

pub in_either : (i : ℕ) (xs ys : List ℕ) → IsIn (xs ++ ys) i → IsIn xs i ⊎ IsIn ys i
in_either i xs ys h = or_cases (list_any (λ x. x == i) xs) (list_any (λ x. x == i) ys) (sym (list_any-append (λ x. x == i) xs ys) ∙ h)

-- a type whose variables are all among these is within them
mutual
  pub within : (fixed : List ℕ) (a : MlType) → ((i : ℕ) → IsIn (variables_of a) i → IsIn fixed i) → IsWithin fixed a
  within fixed ml.int h = tt
  within fixed ml.bool h = tt
  within fixed ml.unit h = tt
  within fixed (ml.var i) h = h i (or_left (i == i) false (eq-eqb i i refl))
  within fixed (ml.arrow a b) h =
      (within fixed a (λ i m. h i (in_left i (variables_of a) (variables_of b) m)), within fixed b (λ i m. h i (in_right i (variables_of a) (variables_of b) m)))
  within fixed (ml.tuple ts) h = all_within fixed ts h
  within fixed (ml.array a) h = within fixed a h
  within fixed (ml.named d ts) h = all_within fixed ts h
  within fixed (ml.map_of a) h = within fixed a h

  all_within : (fixed : List ℕ) (ts : MlTypes) → ((i : ℕ) → IsIn (variables_in ts) i → IsIn fixed i) → AreWithin fixed ts
  all_within fixed ml.no_types h = tt
  all_within fixed (ml.more_types t ts) h =
      (within fixed t (λ i m. h i (in_left i (variables_of t) (variables_in ts) m)), all_within fixed ts (λ i m. h i (in_right i (variables_of t) (variables_in ts) m)))

mutual
  pub within_more : (fixed more_fixed : List ℕ) (a : MlType) → ((i : ℕ) → IsIn fixed i → IsIn more_fixed i) → IsWithin fixed a → IsWithin more_fixed a
  within_more fixed more_fixed ml.int f h = tt
  within_more fixed more_fixed ml.bool f h = tt
  within_more fixed more_fixed ml.unit f h = tt
  within_more fixed more_fixed (ml.var i) f h = f i h
  within_more fixed more_fixed (ml.arrow a b) f h = (within_more fixed more_fixed a f h.0, within_more fixed more_fixed b f h.1)
  within_more fixed more_fixed (ml.tuple ts) f h = all_within_more fixed more_fixed ts f h
  within_more fixed more_fixed (ml.array a) f h = within_more fixed more_fixed a f h
  within_more fixed more_fixed (ml.named d ts) f h = all_within_more fixed more_fixed ts f h
  within_more fixed more_fixed (ml.map_of a) f h = within_more fixed more_fixed a f h

  all_within_more : (fixed more_fixed : List ℕ) (ts : MlTypes) → ((i : ℕ) → IsIn fixed i → IsIn more_fixed i) → AreWithin fixed ts
      → AreWithin more_fixed ts
  all_within_more fixed more_fixed ml.no_types f h = tt
  all_within_more fixed more_fixed (ml.more_types t ts) f h = (within_more fixed more_fixed t f h.0, all_within_more fixed more_fixed ts f h.1)

-- what fixes variables leaves a type that is within them
mutual
  pub within_leaves : (fixed : List ℕ) (by : ℕ → MlType) (a : MlType) → Fixes fixed by → IsWithin fixed a → Leaves by a
  within_leaves fixed by ml.int f h = tt
  within_leaves fixed by ml.bool f h = tt
  within_leaves fixed by ml.unit f h = tt
  within_leaves fixed by (ml.var i) f h = f i h
  within_leaves fixed by (ml.arrow a b) f h = (within_leaves fixed by a f h.0, within_leaves fixed by b f h.1)
  within_leaves fixed by (ml.tuple ts) f h = all_within_leave fixed by ts f h
  within_leaves fixed by (ml.array a) f h = within_leaves fixed by a f h
  within_leaves fixed by (ml.named d ts) f h = all_within_leave fixed by ts f h
  within_leaves fixed by (ml.map_of a) f h = within_leaves fixed by a f h

  all_within_leave : (fixed : List ℕ) (by : ℕ → MlType) (ts : MlTypes) → Fixes fixed by → AreWithin fixed ts → EachIn (λ i. by i ≡ ml.var i) ts
  all_within_leave fixed by ml.no_types f h = tt
  all_within_leave fixed by (ml.more_types t ts) f h = (within_leaves fixed by t f h.0, all_within_leave fixed by ts f h.1)

-- what holds of each variable of a type holds of one
module _ (P : ℕ → Type 0) where
  pub either_way : (i : ℕ) (xs ys : List ℕ) → (IsIn xs i → P i) → (IsIn ys i → P i) → IsIn (xs ++ ys) i → P i
  either_way i xs ys f h m = elim (in_either i xs ys m) [ inl l ↦ f l | inr r ↦ h r ]

  alone : (i j : ℕ) → P j → (j == i || false) ≡ true → P i
  alone i j h m = elim (or_cases (j == i) false m) [ inl l ↦ subst P (eqb-true j i l) h | inr r ↦ absurd (false≢true r) ]

  mutual
    pub each_at : (a : MlType) (i : ℕ) → Each P a → IsIn (variables_of a) i → P i
    each_at ml.int i h m = absurd (false≢true m)
    each_at ml.bool i h m = absurd (false≢true m)
    each_at ml.unit i h m = absurd (false≢true m)
    each_at (ml.var j) i h m = alone i j h m
    each_at (ml.arrow a b) i h m = either_way i (variables_of a) (variables_of b) (λ l. each_at a i h.0 l) (λ r. each_at b i h.1 r) m
    each_at (ml.tuple ts) i h m = each_in ts i h m
    each_at (ml.array a) i h m = each_at a i h m
    each_at (ml.named d ts) i h m = each_in ts i h m
    each_at (ml.map_of a) i h m = each_at a i h m

    each_in : (ts : MlTypes) (i : ℕ) → EachIn P ts → IsIn (variables_in ts) i → P i
    each_in ml.no_types i h m = absurd (false≢true m)
    each_in (ml.more_types t ts) i h m = either_way i (variables_of t) (variables_in ts) (λ l. each_at t i h.0 l) (λ r. each_in ts i h.1 r) m
