-- The points of normal programs are sorted by the types of their names.
use Rattle.std.proofs.Common.{◌≡◌, ◌∙◌, ℕ, suc, Bool, true, false, cond, List, [], ◌∷◌, ◌++◌, filter, length, not, ◌+◌, if◌then◌else◌, Option, Some, None, sym, subst}
use Rattle.lq_sound_scope.specs.Scopes.Over.{kind_of}
use Rattle.lq_refined_instances.specs.Scopes.{Scope}
use Rattle.lq_base_names.specs.declared.place.Place.{Place}
use Rattle.lq_meaning_normal_form.specs.Types.Programs.{NormalItemIs, NormalItemsAre}
use Rattle.lq_meaning_normal_form.specs.Types.Typing.{ArmsObey, Typed, Uses, typing, typing_of, used_by}
use Rattle.lq_refined_templates.specs.Points.Annotation as annotation
use Rattle.lq_refined_templates.specs.Points.Annotation.{Annotation, argument_name, arguments_at, element_type, is_spoken_of, is_text}
use Rattle.lq_refined_templates.specs.Points.Point.{Point, whole}
use Rattle.lq_refined_templates.specs.Points.Pure.{Read, after, pure_of, pures_of, use_with, variable_of}
use Rattle.lq_refined_templates.specs.Points.Reading as reading
use Rattle.lq_refined_templates.specs.Points.Reading.{all_idled, arms_of, block_of, built, defined, expecting, function_names, is_checked, item, own_point, program_from, program_of, written_names}
use Rattle.lq_refined_templates.specs.Points.Seen.{Seen, seen, seen_until, all_seen, hiding, is_before, names_at, scope_at, symbols_of}
use Rattle.lq_refined_templates.specs.Points.Templates.{Datatypes}
use Rattle.lq_refined_rules.specs.Checks.Binders.{arms_binders, binders, block_binders, operation_binders}
use Rattle.lq_refined_rules.specs.Checks.Tree as t
use Rattle.lq_refined_rules.specs.Checks.Tree.{has_template, last_operation, names_of}
use Rattle.lq_sound_readiness.specs.Reading.Laws.{types_of}
use Rattle.lq_sound_readiness.specs.Reading.Normal.{IsName, is_name, IsPure, pure_whole, pure_flag, pure_unit, pure_use, pure_arithmetic, pure_negated, pure_compare, pure_not, pure_and, pure_or, pure_length, ArePure, no_pure, more_pure, IsUse, is_use, IsBlock, block_let, block_let_rec, block_operation, IsOperation, is_pure, is_fun, is_if, is_match, is_tuple, is_build, is_call, is_quotient, is_remainder, is_assert, is_assert_false, is_make, is_fetch, is_store, is_print, is_read, AreArms, no_arms, more_arms, IsItem, item_type, item_name, item_any, item_unit, item_function, AreNormal}
use Rattle.lq_refined_types.specs.Types.Operations.{symbol_of}
use Rattle.lq_text_walk.specs.Scoped.Numbers.{number_of}
use Rattle.lq_text_qualifiers.specs.Faults.Shapes.{shape_of}
use Rattle.lq_refined_templates.specs.Templates.Scopes as scopes
use Rattle.lq_text_tree.specs.Items.{ItemTree, ItemForm}
use Rattle.lq_text_tree.specs.MlType as ml
use Rattle.lq_text_tree.specs.MlType.{MlType, MlTypes}
use Rattle.lq_text_tree.specs.Pattern as p
use Rattle.lq_text_tree.specs.Tree as form
use Rattle.lq_text_tree.specs.Tree.{Tree, tree, Trees, Cases}
use Rattle.lq_text_tree.specs.Types.{Names}
use Rattle.lq_text_tree.specs.TypingRules.{PatternIs}
use Rattle.lq_text_walk.specs.Walk.Fold.{fold_cases}
use Rattle.lq_sound_scope.specs.Sorts.Sorts.{ScopeStands, Sorts}
use Rattle.lq_sound_scope.proofs.SortsLemmas.Basics.{self_stands}
use Rattle.lq_sound_scope.proofs.SortsLemmas.Scopes.{scope_with, scopes_joined}
use Rattle.lq_sound_adequacy.specs.Templates.Points.{NamesFit, PointSorted, PointsSorted}
use Rattle.lq_sound_adequacy.specs.Templates.Laws.{EachName, EachSeen, HaveNameKinds, PointsAreSorted, ProgramPointsAreSorted}

-- ---- names that are so

module _ (M : ℕ → Bool) where
  pub each_front : (xs ys : List ℕ) → EachName M (xs ++ ys) → EachName M xs
  each_front [] ys h = tt
  each_front (x ∷ xs) ys h = (h.0, each_front xs ys h.1)

  pub each_back : (xs ys : List ℕ) → EachName M (xs ++ ys) → EachName M ys
  each_back [] ys h = h
  each_back (x ∷ xs) ys h = each_back xs ys h.1

  each_end : (xs : List ℕ) (x : ℕ) → EachName M xs → M x ≡ true → EachName M (xs ++ x ∷ [])
  each_end [] x h w = (w, tt)
  each_end (y ∷ xs) x h w = (h.0, each_end xs x h.1 w)

  each_left : (f : ℕ → Bool) (xs : List ℕ) → EachName M xs → EachName M (filter f xs)
  each_left f [] h = tt
  each_left f (x ∷ xs) h = by (f x) (each_left f xs h.1)
    where
      by : (b : Bool) → EachName M (filter f xs) → EachName M (if b then x ∷ filter f xs else filter f xs)
      by true w = (h.0, w)
      by false w = w

  each_seen : (xs : List ℕ) (Δ : List Seen) → EachName M xs → EachSeen M Δ → EachSeen M (all_seen xs Δ)
  each_seen [] Δ h w = w
  each_seen (x ∷ xs) Δ h w = each_seen xs (seen x ∷ Δ) h.1 (h.0, w)

  -- what the block binds, or its last operation
  abbrev pub Binds : Bool → t.Block → Type 0
  Binds true B = EachName M (block_binders B)
  Binds false B = EachName M (operation_binders (last_operation B))

  pub last_binds : (m : Bool) (l : Place) (o : t.Operation) → Binds m (t.last l o) → EachName M (operation_binders o)
  last_binds true l o h = h
  last_binds false l o h = h

module _ (n : Annotation) (M : ℕ → Bool) (N : Sorts) (own : HaveNameKinds n M N) where
  -- ---- scopes

  symbols_sorted : (xs : List ℕ) → EachName M xs → ScopeStands N [] (symbols_of n xs)
  symbols_sorted [] h = tt
  symbols_sorted (x ∷ xs) h = scopes_joined N [] _ (symbols_of n xs) (by (is_spoken_of n x)) (symbols_sorted xs h.1)
    where
      by : (b : Bool) → ScopeStands N [] (cond b (scopes.with_symbol (symbol_of x) (shape_of (n.names x)) []) [])
      by true = scope_with N [] (symbol_of x) (shape_of (n.names x)) [] tt (self_stands N (kind_of (shape_of (n.names x))) (symbol_of x) (own x h.0))
      by false = tt

  hiding_each : (x : ℕ) (s : Option ℕ) (xs : List ℕ) → M x ≡ true → EachName M xs → EachName M (hiding n x s xs)
  hiding_each x None xs h w = w
  hiding_each x (Some s) xs h w =
      each_end M (filter (λ y. not (is_text s (n.text y))) xs) x (each_left M (λ y. not (is_text s (n.text y))) xs w) h

  names_each : (Δ : List Seen) (i : ℕ) → EachSeen M Δ → EachName M (names_at n Δ i)
  names_each [] i h = tt
  names_each (s ∷ Δ) i h = by (is_before i s.until) (names_each Δ i h.1)
    where
      by : (b : Bool) → EachName M (names_at n Δ i) → EachName M (cond b (hiding n s.name (n.text s.name) (names_at n Δ i)) (names_at n Δ i))
      by true w = hiding_each s.name (n.text s.name) (names_at n Δ i) h.0 w
      by false w = w

  scope_sorted : (Δ : List Seen) → EachSeen M Δ → (i : ℕ) → ScopeStands N [] (scope_at n Δ i)
  scope_sorted Δ h i = symbols_sorted (names_at n Δ i) (names_each Δ i h)

  abbrev All : List Point → Type 0
  All ps = PointsSorted N ps

  joined : (ps qs : List Point) → All ps → All qs → All (ps ++ qs)
  joined [] qs h w = w
  joined (q ∷ ps) qs h w = (h.0, joined ps qs h.1 w)

  all_idle : (ps : List Point) → All (all_idled ps)
  all_idle [] = tt
  all_idle (q ∷ ps) = (tt, all_idle ps)

  expected : (g : Bool) (q : Point) → PointSorted N q → PointSorted N (expecting g q)
  expected true q h = tt
  expected false q h = h

  either : (b : Bool) (ps qs : List Point) → All ps → All qs → All (cond b ps qs)
  either true ps qs h w = h
  either false ps qs h w = w

  built_sorted : (Γ : Scope) (a : MlType) (es : Trees) → ScopeStands N [] Γ → PointSorted N (built Γ a es)
  built_sorted Γ a form.no_trees h = h
  built_sorted Γ a (form.more_trees e es) h = h

  -- ---- pure expressions

  module _ (Δ : List Seen) (v : EachSeen M Δ) where
    used_points : (k i x : ℕ) (ts : Option MlTypes) → All (use_with n Δ k i x ts).points
    used_points k i x None = tt
    used_points k i x (Some ts) = (scope_sorted Δ v i, tt)

    use_points : (k : ℕ) {e : Tree} → IsUse e → All (variable_of n Δ k e).points
    use_points k (is_use {i = i} {x = x}) = used_points k i x (arguments_at n i x)

    pure_points : (k : ℕ) {e : Tree} → IsPure e → All (pure_of n Δ k e).points
    pure_points k pure_whole = tt
    pure_points k pure_flag = tt
    pure_points k pure_unit = tt
    pure_points k (pure_use {i = i} {x = x}) = used_points k i x (arguments_at n i x)
    pure_points k (pure_arithmetic {a = a} r f g) = joined _ _ (pure_points k f) (pure_points (after k (pure_of n Δ k a)) g)
    pure_points k (pure_negated f) = pure_points k f
    pure_points k (pure_compare {a = a} f g) = joined _ _ (pure_points k f) (pure_points (after k (pure_of n Δ k a)) g)
    pure_points k (pure_not f) = pure_points k f
    pure_points k (pure_and {a = a} f g) = joined _ _ (pure_points k f) (pure_points (after k (pure_of n Δ k a)) g)
    pure_points k (pure_or {a = a} f g) = joined _ _ (pure_points k f) (pure_points (after k (pure_of n Δ k a)) g)
    pure_points k (pure_length f) = pure_points k f

    pures_points : (k : ℕ) {es : Trees} → ArePure es → All (pures_of n Δ k es).points
    pures_points k no_pure = tt
    pures_points k (more_pure {e = e} f fs) = joined _ _ (pure_points k f) (pures_points (after k (pure_of n Δ k e)) fs)

  pure_block : (g : Bool) (k : ℕ) (Δ : List Seen) → EachSeen M Δ → {e : Tree} → IsPure e → All (block_of n g k Δ e).points
  pure_block g k Δ v (pure_whole {i = i} {l = l} {z = z}) = pure_points Δ v k (pure_whole {i = i} {l = l} {z = z})
  pure_block g k Δ v (pure_flag {i = i} {l = l} {b = b}) = pure_points Δ v k (pure_flag {i = i} {l = l} {b = b})
  pure_block g k Δ v (pure_unit {i = i} {l = l}) = pure_points Δ v k (pure_unit {i = i} {l = l})
  pure_block g k Δ v (pure_use {i = i} {l = l} {x = x}) = pure_points Δ v k (pure_use {i = i} {l = l} {x = x})
  pure_block g k Δ v (pure_arithmetic {a = a} r f h) = joined _ _ (pure_points Δ v k f) (pure_points Δ v (after k (pure_of n Δ k a)) h)
  pure_block g k Δ v (pure_negated {i = i} {l = l} f) = pure_points Δ v k (pure_negated {i = i} {l = l} f)
  pure_block g k Δ v (pure_compare {i = i} {l = l} {o = o} f h) = pure_points Δ v k (pure_compare {i = i} {l = l} {o = o} f h)
  pure_block g k Δ v (pure_not {i = i} {l = l} f) = pure_points Δ v k (pure_not {i = i} {l = l} f)
  pure_block g k Δ v (pure_and {i = i} {l = l} f h) = pure_points Δ v k (pure_and {i = i} {l = l} f h)
  pure_block g k Δ v (pure_or {i = i} {l = l} f h) = pure_points Δ v k (pure_or {i = i} {l = l} f h)
  pure_block g k Δ v (pure_length {i = i} {l = l} f) = pure_points Δ v k (pure_length {i = i} {l = l} f)

  -- ---- names of arguments

  module _ (D : Datatypes) (used : Uses) where
    abbrev typed : Tree → Typed
    typed = typing_of D.constructors (types_of n) used

    -- a parameter has the kind of its type
    parameter_fits : {q : p.Pattern} → IsName q → M (reading.parameter_of q) ≡ true → (xs : List (Option ℕ)) (a b c : MlType) → c ≡ ml.arrow a b → n.names (reading.parameter_of q) ≡ a
        → NamesFit N xs b → NamesFit N (argument_name n (reading.parameter_of q) ∷ xs) c
    parameter_fits {q = q} m z xs a b c e f h =
        subst (λ (z : MlType). NamesFit N (argument_name n (reading.parameter_of q) ∷ xs) z) (sym e) (by (is_spoken_of n (reading.parameter_of q)))
      where
        by : (s : Bool) → NamesFit N (cond s (Some (reading.parameter_of q)) None ∷ xs) (ml.arrow a b)
        by true = (subst (λ (u : MlType). N (kind_of (shape_of u)) (symbol_of (reading.parameter_of q)) ≡ true) f (own (reading.parameter_of q) z), h)
        by false = h

    pure_names : {e : Tree} → IsPure e → (a : MlType) → NamesFit N (written_names n e) a
    pure_names pure_whole a = tt
    pure_names pure_flag a = tt
    pure_names pure_unit a = tt
    pure_names pure_use a = tt
    pure_names (pure_arithmetic r f g) a = tt
    pure_names (pure_negated f) a = tt
    pure_names (pure_compare f g) a = tt
    pure_names (pure_not f) a = tt
    pure_names (pure_and f g) a = tt
    pure_names (pure_or f g) a = tt
    pure_names (pure_length f) a = tt

    named_is : {q : p.Pattern} → IsName q → (a : MlType) → PatternIs D.constructors (types_of n) q a → n.names (reading.parameter_of q) ≡ a
    named_is (is_name {x = x}) a h = cc

    mutual
      block_names : (g : Bool) (k : ℕ) (Δ : List Seen) {e : Tree} → IsBlock e → (typed e).obeys → EachName M (block_binders (block_of n g k Δ e).read)
          → NamesFit N (written_names n e) (typed e).type
      block_names g k Δ (block_let m f r) o h = tt
      block_names g k Δ (block_let_rec m r s) o h = tt
      block_names g k Δ (block_operation f) o h = operation_names g k Δ f o h

      operation_names : (g : Bool) (k : ℕ) (Δ : List Seen) {e : Tree} → IsOperation e → (typed e).obeys → EachName M (block_binders (block_of n g k Δ e).read)
          → NamesFit N (written_names n e) (typed e).type
      operation_names g k Δ (is_pure {e = e} f) o h = pure_names f (typed e).type
      operation_names g k Δ (is_fun {i = i} {q = q} {b = b} m r) o h =
          parameter_fits m h.0 (written_names n b) o.0.0 (typed b).type (n.types i) o.0.1 (named_is m o.0.0 o.0.2)
          (block_names true (suc k) (seen (reading.parameter_of q) ∷ Δ) r o.1 h.1)
      operation_names g k Δ (is_if m r s) o h = tt
      operation_names g k Δ (is_match m r) o h = tt
      operation_names g k Δ (is_tuple m) o h = tt
      operation_names g k Δ (is_build m) o h = tt
      operation_names g k Δ (is_call m r) o h = tt
      operation_names g k Δ (is_quotient m r) o h = tt
      operation_names g k Δ (is_remainder m r) o h = tt
      operation_names g k Δ (is_assert m) o h = tt
      operation_names g k Δ is_assert_false o h = tt
      operation_names g k Δ (is_make m r) o h = tt
      operation_names g k Δ (is_fetch m r) o h = tt
      operation_names g k Δ (is_store m r s) o h = tt
      operation_names g k Δ (is_print m) o h = tt
      operation_names g k Δ (is_read m) o h = tt

    -- ---- blocks

    mutual
      block_points : (g : Bool) (k : ℕ) (Δ : List Seen) → EachSeen M Δ → {e : Tree} → IsBlock e → (typed e).obeys
          → EachName M (block_binders (block_of n g k Δ e).read) → All (block_of n g k Δ e).points
      block_points g k Δ v (block_let {i = i} {q = q} {e = e} {b = b} m f r) o h =
          let x = reading.parameter_of q in
          let E = block_of n false k Δ e in
          let B = block_of n g (after k E) (seen_until i x ∷ Δ) b in
          let w = each_back M (operation_binders (last_operation E.read)) (x ∷ block_binders B.read) h in
          joined _ _ (operation_points false false k Δ v f o.1 (each_front M (operation_binders (last_operation E.read)) (x ∷ block_binders B.read) h))
          (block_points g (after k E) (seen_until i x ∷ Δ) (w.0, v) r o.2 w.1)
      block_points g k Δ v (block_let_rec {i = i} {f = f} {j = j} {q = q} {b = b} {e = e} m r s) o h =
          let y = reading.parameter_of q in
          let Θ = seen_until i f ∷ Δ in
          let B = block_of n true (suc k) (seen y ∷ Θ) b in
          let C = block_of n g (after (suc k) B) Θ e in
          let first = each_front M (block_binders B.read) (block_binders C.read) h.1.1 in (
            (
              scope_sorted Θ (h.0, v) j,
              parameter_fits m h.1.0 (written_names n b) o.1.0 (typed b).type (n.names f) (sym o.0 ∙ o.1.1) (named_is m o.1.0 o.1.2)
                  (block_names true (suc k) (seen y ∷ Θ) r o.2 first),
            ),
            joined _ _ (block_points true (suc k) (seen y ∷ Θ) (h.1.0, (h.0, v)) r o.2 first)
                (block_points g (after (suc k) B) Θ (h.0, v) s o.3 (each_back M (block_binders B.read) (block_binders C.read) h.1.1)),
          )
      block_points g k Δ v (block_operation f) o h = operation_points true g k Δ v f o h

      operation_points : (m g : Bool) (k : ℕ) (Δ : List Seen) → EachSeen M Δ → {e : Tree} → IsOperation e → (typed e).obeys
          → Binds M m (block_of n g k Δ e).read → All (block_of n g k Δ e).points
      operation_points w g k Δ v (is_pure f) o h = pure_block g k Δ v f
      operation_points w g k Δ v (is_fun {i = i} {l = l} {q = q} {b = b} m r) o h =
          let y = reading.parameter_of q in
          let B = block_of n true (suc k) (seen y ∷ Δ) b in
          let own = last_binds M w l (t.fun k y B.read) h in (
            expected g (whole (scope_at n Δ i) (function_names n q b) (n.types i)) (
              scope_sorted Δ v i,
              parameter_fits m own.0 (written_names n b) o.0.0 (typed b).type (n.types i) o.0.1 (named_is m o.0.0 o.0.2)
                  (block_names true (suc k) (seen y ∷ Δ) r o.1 own.1),
            ),
            block_points true (suc k) (seen y ∷ Δ) (own.0, v) r o.1 own.1,
          )
      operation_points w g k Δ v (is_if {i = i} {l = l} {c = c} {a = a} {b = b} m r s) o h =
          let C = pure_of n Δ (suc k) c in
          let A = block_of n true (after (suc k) C) Δ a in
          let B = block_of n true (after (after (suc k) C) A) Δ b in
          let own = last_binds M w l (t.if_else k C.read A.read B.read) h in (
            expected g (whole (scope_at n Δ i) [] (n.types i)) (scope_sorted Δ v i, tt),
            joined _ _ (pure_points Δ v (suc k) m)
                (joined _ _ (block_points true (after (suc k) C) Δ v r o.2 (each_front M (block_binders A.read) (block_binders B.read) own))
                (block_points true (after (after (suc k) C) A) Δ v s o.3 (each_back M (block_binders A.read) (block_binders B.read) own))),
          )
      operation_points w g k Δ v (is_match {i = i} {l = l} {e = e} {cs = cs} m r) o h =
          let X = variable_of n Δ (suc k) e in
          let own = last_binds M w l (t.match_on k X.read (arms_of n (after (suc k) X) Δ [] cs).read) h in (
            expected g (whole (scope_at n Δ i) [] (annotation.type_of_form n i (form.match_on e cs))) (scope_sorted Δ v i, tt),
            joined _ _ (use_points Δ v (suc k) m) (arms_points (after (suc k) X) Δ v [] (typed e).type (n.types i) r o.1 own),
          )
      operation_points w g k Δ v (is_tuple m) o h = pures_points Δ v k m
      operation_points w g k Δ v (is_build {i = i} {es = es} m) o h =
          (built_sorted (scope_at n Δ i) (n.types i) es (scope_sorted Δ v i), pures_points Δ v (suc k) m)
      operation_points w g k Δ v (is_call {f = f} m r) o h = joined _ _ (pure_points Δ v k m) (pure_points Δ v (after k (pure_of n Δ k f)) r)
      operation_points w g k Δ v (is_quotient {a = a} m r) o h = joined _ _ (pure_points Δ v k m) (pure_points Δ v (after k (pure_of n Δ k a)) r)
      operation_points w g k Δ v (is_remainder {a = a} m r) o h = joined _ _ (pure_points Δ v k m) (pure_points Δ v (after k (pure_of n Δ k a)) r)
      operation_points w g k Δ v (is_assert m) o h = pure_points Δ v k m
      operation_points w g k Δ v (is_assert_false {i = i}) o h = ((scope_sorted Δ v i, tt), tt)
      operation_points w g k Δ v (is_make {i = i} {n = a} m r) o h =
          ((scope_sorted Δ v i, tt), joined _ _ (pure_points Δ v (suc k) m) (pure_points Δ v (after (suc k) (pure_of n Δ (suc k) a)) r))
      operation_points w g k Δ v (is_fetch {a = a} m r) o h = joined _ _ (use_points Δ v k m) (pure_points Δ v (after k (variable_of n Δ k a)) r)
      operation_points w g k Δ v (is_store {a = a} {n = b} m r s) o h =
          let A = variable_of n Δ k a in
          let B = pure_of n Δ (after k A) b in
          joined _ _ (use_points Δ v k m) (joined _ _ (pure_points Δ v (after k A) r) (pure_points Δ v (after (after k A) B) s))
      operation_points w g k Δ v (is_print m) o h = pure_points Δ v k m
      operation_points w g k Δ v (is_read m) o h = pure_points Δ v k m

      arms_points : (k : ℕ) (Δ : List Seen) → EachSeen M Δ → (qs : List t.Pattern) (from a : MlType) {cs : Cases} → AreArms cs
          → ArmsObey D.constructors (types_of n) used (fold_cases (typing D.constructors (types_of n) used) cs) from a
          → EachName M (arms_binders (arms_of n k Δ qs cs).read) → All (arms_of n k Δ qs cs).points
      arms_points k Δ v qs from a no_arms o h = tt
      arms_points k Δ v qs from a (more_arms {q = r} {b = b} {cs = cs} m s rest) o h =
          let q = reading.pattern_of r in
          let Θ = all_seen (names_of q) Δ in
          let B = block_of n true k Θ b in
          let R = arms_of n (after k B) Δ (qs ++ q ∷ []) cs in
          let own = each_front M (names_of q ++ block_binders B.read) (arms_binders R.read) h in
          let names = each_front M (names_of q) (block_binders B.read) own in
          joined _ _ (either (is_checked qs q) B.points (all_idled B.points)
          (block_points true k Θ (each_seen M (names_of q) Δ names v) s o.2 (each_back M (names_of q) (block_binders B.read) own)) (all_idle B.points))
          (arms_points (after k B) Δ v (qs ++ q ∷ []) from a rest o.3 (each_back M (names_of q ++ block_binders B.read) (arms_binders R.read) h))

pub points_sorted : PointsAreSorted
points_sorted D n M N own ns e b o g k Δ v h = block_points n M N own D (used_by (types_of n) ns) g k Δ v b o h

-- ---- programs

module _ (D : Datatypes) (n : Annotation) (M : ℕ → Bool) (N : Sorts) (own : HaveNameKinds n M N) where
  -- the points of what is behind an item are sorted, with the names that are visible there
  abbrev RestSorted : (ℕ → List Seen → Read t.Program) → Type 0
  RestSorted rest = (k : ℕ) (Δ : List Seen) → EachSeen M Δ → EachName M (binders (rest k Δ).read) → PointsSorted N (rest k Δ).points

  abbrev used : Names → Uses
  used ns = used_by (types_of n) ns

  own_sorted : (b : Bool) (q : Point) → PointSorted N q → PointsSorted N (own_point n b q)
  own_sorted true q h = (h, tt)
  own_sorted false q h = tt

  item_points : (ns : Names) (k : ℕ) (Δ : List Seen) → EachSeen M Δ → {i : ItemForm} → IsItem i → (known : Names → Type 0) (rest : ℕ → List Seen → Read t.Program)
      → ((ms : Names) → known ms → RestSorted rest) → NormalItemIs D.constructors (types_of n) ns i known
      → EachName M (binders (item n k Δ i rest).read) → PointsSorted N (item n k Δ i rest).points
  item_points ns k Δ v item_type known rest r o h = r ns o k Δ v h
  item_points ns k Δ v (item_name {l = l} {x = x} {e = e} b) known rest r (s, _, is, o, more) h =
      let B : Read t.Block = block_of n false k Δ e in
      let q : Point = whole (scope_at n Δ (number_of e)) [] (n.names x) in
      let j : ℕ = after k B + length (own_point n (has_template B.read) q) in
      let R : Read t.Program = rest j (seen x ∷ Δ) in
      let w = each_back M (block_binders B.read) (x ∷ binders R.read) h in
      joined n M N own _ _ (block_points n M N own D (used ns) false k Δ v b o (each_front M (block_binders B.read) (x ∷ binders R.read) h))
      (joined n M N own _ _ (own_sorted (has_template B.read) q (scope_sorted n M N own Δ v (number_of e), tt)) (r _ more j (seen x ∷ Δ) (w.0, v) w.1))
  item_points ns k Δ v (item_unit {e = e} b) known rest r (s, _, is, o, more) h =
      let B : Read t.Block = block_of n true k Δ e in
      let R : Read t.Program = rest (after k B) Δ in
      joined n M N own _ _ (block_points n M N own D (used ns) true k Δ v b o (each_front M (block_binders B.read) (binders R.read) h))
      (r _ more (after k B) Δ v (each_back M (block_binders B.read) (binders R.read) h))
  item_points ns k Δ v (item_any {e = e} b) known rest r (s, _, is, o, more) h =
      let B : Read t.Block = block_of n false k Δ e in
      let R : Read t.Program = rest (after k B) Δ in
      joined n M N own _ _ (block_points n M N own D (used ns) false k Δ v b o (each_front M (block_binders B.read) (binders R.read) h))
      (r _ more (after k B) Δ v (each_back M (block_binders B.read) (binders R.read) h))
  item_points ns k Δ v (item_function {f = f} {r = s} m b) known rest r (fixed, _, e, takes, o, more) h =
      let y : ℕ = reading.parameter_of s.parameter in
      let Θ : List Seen = seen f ∷ Δ in
      let B : Read t.Block = block_of n true (suc k) (seen y ∷ Θ) s.body in
      let R : Read t.Program = rest (after (suc k) B) Θ in
      let first = each_front M (block_binders B.read) (binders R.read) h.1.1 in (
        (
          scope_sorted n M N own Θ (h.0, v) s.id,
          parameter_fits n M N own D (used ns) m h.1.0 (written_names n s.body) takes.0 (typed n M N own D (used ns) s.body).type (n.names f) (sym e ∙ takes.1)
              (named_is n M N own D (used ns) m takes.0 takes.2) (block_names n M N own D (used ns) true (suc k) (seen y ∷ Θ) b o first),
        ),
        joined n M N own _ _ (block_points n M N own D (used ns) true (suc k) (seen y ∷ Θ) (h.1.0, (h.0, v)) b o first)
            (r _ more (after (suc k) B) Θ (h.0, v) (each_back M (block_binders B.read) (binders R.read) h.1.1)),
      )

  items_points : (is : List ItemTree) → AreNormal is → (ns : Names) → NormalItemsAre D.constructors (types_of n) ns is → RestSorted (λ k Δ. program_from n k Δ is)
  items_points [] m ns o k Δ v h = tt
  items_points (i ∷ is) m ns o k Δ v h =
      item_points ns k Δ v m.0 (λ ms. NormalItemsAre D.constructors (types_of n) ms is) (λ j Θ. program_from n j Θ is) (λ ms. items_points is m.1 ms) o h

pub program_sorted : ProgramPointsAreSorted
program_sorted D n M N own is m o h = items_points D n M N own is m [] o 0 [] tt h
