-- Blocks and programs that are read are in scope.
use Rattle.std.proofs.Common.{◌≡◌, ◌∙◌, inr, ℕ, suc, ◌+◌, Bool, true, false, cond, List, [], ◌∷◌, ◌++◌, Option, Some, None, length, sym, ap, subst}
use Rattle.lq_base_names.specs.declared.place.Place.{Place}
use Rattle.lq_sound_values.specs.Inclusion.Symbols.{Symbols}
use Rattle.lq_text_tree.specs.Items.{ItemTree, ItemForm}
use Rattle.lq_text_tree.specs.MlType as ml
use Rattle.lq_text_tree.specs.MlType.{MlType}
use Rattle.lq_text_tree.specs.Pattern as p
use Rattle.lq_text_tree.specs.Pattern.{bound_in}
use Rattle.lq_text_tree.specs.Tree as form
use Rattle.lq_text_tree.specs.Tree.{Tree, tree, Trees, no_trees, more_trees, Cases}
use Rattle.lq_text_tree.specs.Types.{Names}
use Rattle.lq_text_walk.specs.Walk.Fold.{fold_cases}
use Rattle.lq_text_qualifiers.specs.Faults.Shapes.{other, shape_of}
use Rattle.lq_meaning_normal_form.specs.Types.Programs.{NormalItemIs, NormalItemsAre}
use Rattle.lq_meaning_normal_form.specs.Types.Typing.{ArmsObey, Typed, Uses, typing, typing_of, used_by}
use Rattle.lq_refined_rules.specs.Checks.Basis.{Basis}
use Rattle.lq_refined_rules.specs.Checks.Ready.{Where}
use Rattle.lq_refined_rules.specs.Checks.Tree as t
use Rattle.lq_refined_rules.specs.Checks.Tree.{has_template, last_operation, names_of}
use Rattle.lq_refined_templates.specs.Points.Annotation as annotation
use Rattle.lq_refined_templates.specs.Points.Annotation.{Annotation, element_type, argument_name, is_spoken_of}
use Rattle.lq_refined_templates.specs.Points.Point.{Point, whole}
use Rattle.lq_refined_templates.specs.Points.Pure.{Read, after, pure_of, variable_of}
use Rattle.lq_refined_templates.specs.Points.Reading as reading
use Rattle.lq_refined_templates.specs.Points.Reading.{arms_of, block_of, built, defined, expecting, function_names, function_point, is_checked, item, own_point, program_from, program_of}
use Rattle.lq_refined_templates.specs.Points.Seen.{Seen, seen, seen_until, all_seen, scope_at}
use Rattle.lq_refined_templates.specs.Points.Templates.{Datatypes, basis_of, unknowns_of}
use Rattle.lq_text_walk.specs.Scoped.Numbers.{number_of}
use Rattle.lq_refined_instances.specs.Scopes.{Scope}
use Rattle.lq_refined_types.specs.Subtyping.Splitting.{first_of}
use Rattle.lq_refined_types.specs.Types.Refined.{Refineds, Refined, int_with, bool_with, unit_type, function, tuple_of, array_with, data_with, map_with, type_variable}
use Rattle.lq_refined_types.specs.Types.Refined as refined
use Rattle.lq_sound_readiness.specs.Reading.Laws.{types_of}
use Rattle.lq_sound_readiness.specs.Reading.Normal.{IsName, is_name, IsPure, pure_whole, pure_flag, pure_unit, pure_use, pure_arithmetic, pure_negated, pure_compare, pure_not, pure_and, pure_or, pure_length, ring_add, ring_subtract, ring_multiply, IsBlock, block_let, block_let_rec, block_operation, IsOperation, is_pure, is_fun, is_if, is_match, is_tuple, is_build, is_call, is_quotient, is_remainder, is_assert, is_assert_false, is_make, is_fetch, is_store, is_print, is_read, AreArms, no_arms, more_arms, IsItem, item_type, item_name, item_any, item_unit, item_function, AreNormal}
use Rattle.lq_sound_readiness.specs.Reading.Uses.{CaseUsesFit, ItemUsesFit, ItemsUsesFit, UsesFit}
use Rattle.lq_sound_scope.specs.Scopes.InScope.{ArmsInScope, BlockInScope, InScope, OperationInScope, TemplateOver, no_names, with_name, with_names, NamesParameter}
use Rattle.lq_sound_scope.specs.Scopes.Laws.{TemplatesAreInScope}
use Rattle.lq_sound_scope.specs.Scopes.Over as over
use Rattle.lq_sound_scope.specs.Scopes.Over.{of_any_sort, unknown_in, TypeOver, TypesOver}
use Rattle.lq_refined_templates.specs.Templates.Laws.{TemplatesErase}
use Rattle.lq_refined_templates.specs.Templates.Scopes.{Unknown}
use Rattle.lq_sound_scope.proofs.ScopesLemmas.Names.{Holds, SeenIn, holds_arm, holds_name, holds_one, scope_in, seen_all, seen_one}
use Rattle.lq_sound_scope.proofs.ScopesLemmas.Symbols.{ScopeIn}
use Rattle.lq_sound_scope.proofs.ScopesLemmas.Points.{PointIn, over_arm, over_arms, points_over, IsMade, IsNamed, NamesBy, NamesFirst, named_idled}
use Rattle.lq_sound_scope.proofs.ScopesLemmas.Pures as pures
use Rattle.lq_refined_templates.specs.Templates.Fresh.{first_name}

expecting_in : (N : over.Names) (g : Bool) (Γ : Scope) (xs : List (Option ℕ)) (a : MlType) → ScopeIn N Γ → PointIn N (expecting g (whole Γ xs a))
expecting_in N true Γ xs a h = tt
expecting_in N false Γ xs a h = h

built_in : (N : over.Names) (Γ : Scope) (a : MlType) (es : Trees) → ScopeIn N Γ → PointIn N (built Γ a es)
built_in N Γ a no_trees h = h
built_in N Γ a (more_trees e es) h = h

abbrev some_or : ℕ → Option ℕ → ℕ
some_or z None = z
some_or z (Some x) = x

module _ (D : Datatypes) (n : Annotation) (all : List Point) where
  abbrev P : Basis
  P = basis_of D all

  abbrev U : ℕ → Unknown
  U = unknown_in (unknowns_of D all)

  -- the first template is over what all are
  one_over : (N : over.Names) (ts : Refineds) → TypesOver D.constructors U N ts → TypeOver D.constructors U N (first_of ts)
  one_over N refined.none h = (tt, tt)
  one_over N (refined.more t ts) h = (h.0, h.1)

  -- the template of a point whose scope is of these symbols
  template_over : (N : Symbols) (k : ℕ) (q : Point) → IsMade D.constructors U P.type_arguments k q → PointIn (of_any_sort N) q
      → TemplateOver P U N k
  template_over N k q h i = one_over (of_any_sort N) (P.type_arguments k) (h.0 (of_any_sort N) i)

  -- a template with a parameter's name, where a template may have it, names its argument by the parameter
  by_parameter : (y : ℕ) (t : Refined) → NamesBy (argument_name n y) t → NamesParameter y t
  by_parameter y (function None a b) h = tt
  by_parameter y (function (Some z) a b) h = by (is_spoken_of n y) h
    where
      by : (b : Bool) → Some z ≡ cond b (Some y) None → z ≡ y
      by true e = ap (λ (x : Option ℕ). some_or z x) e
      by false e = absurd (no e)
        where
          no : Some z ≡ None → ⊥
          no f = cc
  by_parameter y (int_with p) h = h
  by_parameter y (bool_with p) h = h
  by_parameter y unit_type h = h
  by_parameter y (tuple_of ts) h = h
  by_parameter y (array_with e p) h = h
  by_parameter y (data_with d ts m p) h = h
  by_parameter y (map_with e p) h = h
  by_parameter y (type_variable i) h = h

  parameter_named : (y : ℕ) (a from to : MlType) (t : Refined) → a ≡ ml.arrow from to → NamesFirst a (argument_name n y) t → NamesParameter y t
  parameter_named y a from to t e h = by_parameter y t (subst (λ (b : MlType). NamesFirst b (argument_name n y) t) e h)

  -- where no type is expected, or one is
  expected_named : (g : Bool) (Γ : Scope) (xs : List (Option ℕ)) (a : MlType) (ts : Refineds) → IsNamed (expecting g (whole Γ xs a)) ts
      → NamesFirst a (first_name xs) (first_of ts)
  expected_named true Γ xs a ts h = named_idled (whole Γ xs a) ts h
  expected_named false Γ xs a ts h = h

  -- a function's own name isn't among those of which its template may speak
  unspoken : (x j : ℕ) (from to : MlType) → n.types j ≡ n.names x → n.types j ≡ ml.arrow from to → shape_of (n.names x) ≡ other
  unspoken x j from to e is = ap shape_of (sym e ∙ is)

  module _ (used : Uses) where
    abbrev typed : Tree → Typed
    typed = typing_of D.constructors (types_of n) used

    abbrev Over : ℕ → List Point → Type 0
    Over = pures.Over P U n

    -- an operation, and the block that it is alone
    abbrev OperationRead : Symbols → t.Block → Type 0
    OperationRead N B = OperationInScope P U N (last_operation B) × BlockInScope P U N B

    twice : {A : Type 0} → A → A × A
    twice h = (h, h)

    pure_block : (g : Bool) (k : ℕ) (S : List Seen) (xs : List ℕ) (N : Symbols) → SeenIn n N S → Holds xs N → {e : Tree} → IsPure e → UsesFit n xs e
        → Over k (block_of n g k S e).points → OperationRead N (block_of n g k S e).read
    pure_block g k S xs N d w (pure_whole {l = l}) u h = twice tt
    pure_block g k S xs N d w (pure_flag {l = l}) u h = twice tt
    pure_block g k S xs N d w (pure_unit {l = l}) u h = twice tt
    pure_block g k S xs N d w (pure_use {i = i} {l = l} {x = x}) u h = twice (pures.pure_read P U n S xs N d w k (pure_use {i = i} {l = l} {x = x}) u h)
    pure_block g k S xs N d w (pure_arithmetic {i = i} {l = l} ring_add q r) u h = twice (pures.pure_read P U n S xs N d w k (pure_arithmetic {i = i} {l = l} ring_add q r) u h)
    pure_block g k S xs N d w (pure_arithmetic {i = i} {l = l} ring_subtract q r) u h = twice (pures.pure_read P U n S xs N d w k (pure_arithmetic {i = i} {l = l} ring_subtract q r) u h)
    pure_block g k S xs N d w (pure_arithmetic {i = i} {l = l} ring_multiply q r) u h = twice (pures.pure_read P U n S xs N d w k (pure_arithmetic {i = i} {l = l} ring_multiply q r) u h)
    pure_block g k S xs N d w (pure_negated {i = i} {l = l} q) u h = twice (pures.pure_read P U n S xs N d w k (pure_negated {i = i} {l = l} q) u h)
    pure_block g k S xs N d w (pure_compare {i = i} {l = l} {o = o} q r) u h = twice (pures.pure_read P U n S xs N d w k (pure_compare {i = i} {l = l} {o = o} q r) u h)
    pure_block g k S xs N d w (pure_not {i = i} {l = l} q) u h = twice (pures.pure_read P U n S xs N d w k (pure_not {i = i} {l = l} q) u h)
    pure_block g k S xs N d w (pure_and {i = i} {l = l} q r) u h = twice (pures.pure_read P U n S xs N d w k (pure_and {i = i} {l = l} q r) u h)
    pure_block g k S xs N d w (pure_or {i = i} {l = l} q r) u h = twice (pures.pure_read P U n S xs N d w k (pure_or {i = i} {l = l} q r) u h)
    pure_block g k S xs N d w (pure_length {i = i} {l = l} q) u h = twice (pures.pure_read P U n S xs N d w k (pure_length {i = i} {l = l} q) u h)

    -- with a name of a pattern, seen to the end
    seen_name : {q : p.Pattern} → IsName q → (N : Symbols) (S : List Seen) → SeenIn n N S → SeenIn n (with_name N (reading.parameter_of q)) (seen (reading.parameter_of q) ∷ S)
    seen_name (is_name {x = x}) N S d = seen_one n N x None S d

    mutual
      block_read : (g : Bool) (k : ℕ) (S : List Seen) (xs : List ℕ) (N : Symbols) → SeenIn n N S → Holds xs N → {e : Tree} → IsBlock e → UsesFit n xs e
          → (typed e).obeys → Over k (block_of n g k S e).points → BlockInScope P U N (block_of n g k S e).read
      block_read g k S xs N d w (block_let {i = i} {q = q} {e = e} {b = b} m f r) u o h =
          let E : Read t.Block = block_of n false k S e in
          let x : ℕ = reading.parameter_of q in
          let X : OperationRead N E.read = operation_read false k S xs N d w f u.0 o.1 (pures.first P U n k E.points _ h) in (
            X.0,
            block_read g (after k E) (seen_until i x ∷ S) (bound_in q ++ xs) (with_name N x) (seen_one n N x (Some i) S d) (holds_name m xs N w) r u.1 o.2
                (pures.second P U n k E.points _ h),
          )
      block_read g k S xs N d w (block_let_rec {i = i} {f = f} {j = j} {q = q} {b = b} {e = e} m r s) u o h =
          let Θ : List Seen = seen_until i f ∷ S in
          let y : ℕ = reading.parameter_of q in
          let B : Read t.Block = block_of n true (suc k) (seen y ∷ Θ) b in
          let M : Symbols = with_name N f in
          let v : SeenIn n M Θ = seen_one n N f (Some i) S d in
          let z : Holds (f ∷ xs) M = holds_one xs N f w in (
            template_over N k (whole (scope_at n Θ j) (function_names n q b) (n.names f)) h.0 (scope_in n N Θ j (inr (unspoken f j o.1.0 _ o.0 o.1.1), d)),
            parameter_named y (n.names f) o.1.0 (typed b).type (P.template k) (sym o.0 ∙ o.1.1) h.0.1,
            block_read true (suc k) (seen y ∷ Θ) (bound_in q ++ f ∷ xs) (with_name M y) (seen_name m M Θ v) (holds_name m (f ∷ xs) M z) r u.0 o.2
                (pures.first P U n (suc k) B.points _ h.1),
            block_read g (after (suc k) B) Θ (f ∷ xs) M v z s u.1 o.3 (pures.second P U n (suc k) B.points _ h.1),
          )
      block_read g k S xs N d w (block_operation f) u o h = (operation_read g k S xs N d w f u o h).1

      operation_read : (g : Bool) (k : ℕ) (S : List Seen) (xs : List ℕ) (N : Symbols) → SeenIn n N S → Holds xs N → {e : Tree} → IsOperation e → UsesFit n xs e
          → (typed e).obeys → Over k (block_of n g k S e).points → OperationRead N (block_of n g k S e).read
      operation_read g k S xs N d w (is_pure f) u o h = pure_block g k S xs N d w f u h
      operation_read g k S xs N d w (is_fun {i = i} {l = l} {q = q} {b = b} m r) u o h =
          let y : ℕ = reading.parameter_of q in
          twice (
            template_over N k (expecting g (whole (scope_at n S i) (function_names n q b) (n.types i))) h.0 (expecting_in (of_any_sort N) g (scope_at n S i) (function_names n q b) (n.types i) (scope_in n N S i d)),
            parameter_named y (n.types i) o.0.0 (typed b).type (P.template k) o.0.1
                (expected_named g (scope_at n S i) (function_names n q b) (n.types i) (P.type_arguments k) h.0.1),
            block_read true (suc k) (seen y ∷ S) (bound_in q ++ xs) (with_name N y) (seen_name m N S d) (holds_name m xs N w) r u o.1 h.1,
          )
      operation_read g k S xs N d w (is_if {i = i} {l = l} {c = c} {a = a} {b = b} m r s) u o h =
          let C = pure_of n S (suc k) c in
          let A = block_of n true (after (suc k) C) S a in
          let rest = pures.second P U n (suc k) C.points _ h.1 in
          twice (
            template_over N k _ h.0 (expecting_in (of_any_sort N) g (scope_at n S i) [] (n.types i) (scope_in n N S i d)),
            pures.pure_read P U n S xs N d w (suc k) m u.0 (pures.first P U n (suc k) C.points _ h.1),
            block_read true (after (suc k) C) S xs N d w r u.1 o.2 (pures.first P U n (after (suc k) C) A.points _ rest),
            block_read true (after (after (suc k) C) A) S xs N d w s u.2 o.3 (pures.second P U n (after (suc k) C) A.points _ rest),
          )
      operation_read g k S xs N d w (is_match {i = i} {l = l} {e = e} {cs = cs} m r) u o h =
          let X = variable_of n S (suc k) e in
          twice (
            template_over N k _ h.0 (expecting_in (of_any_sort N) g (scope_at n S i) [] (annotation.type_of_form n i (form.match_on e cs)) (scope_in n N S i d)),
            pures.use_read P U n S xs N d w (suc k) m u.1 (pures.first P U n (suc k) X.points _ h.1),
            arms_read (after (suc k) X) S [] xs N d w (typed e).type (n.types i) r u.2 o.1 (pures.second P U n (suc k) X.points _ h.1),
          )
      operation_read g k S xs N d w (is_tuple {l = l} m) u o h = twice (pures.pures_read P U n S xs N d w k m u h)
      operation_read g k S xs N d w (is_build {i = i} {l = l} {es = es} m) u o h =
          twice
          (template_over N k _ h.0 (built_in (of_any_sort N) (scope_at n S i) (n.types i) es (scope_in n N S i d)), pures.pures_read P U n S xs N d w (suc k) m u h.1)
      operation_read g k S xs N d w (is_call {l = l} {f = f} m r) u o h =
          let F = pure_of n S k f in
          twice (pures.pure_read P U n S xs N d w k m u.0 (pures.first P U n k F.points _ h), pures.pure_read P U n S xs N d w (after k F) r u.1 (pures.second P U n k F.points _ h))
      operation_read g k S xs N d w (is_quotient {l = l} {a = a} m r) u o h =
          let A = pure_of n S k a in
          twice (pures.pure_read P U n S xs N d w k m u.0 (pures.first P U n k A.points _ h), pures.pure_read P U n S xs N d w (after k A) r u.1 (pures.second P U n k A.points _ h))
      operation_read g k S xs N d w (is_remainder {l = l} {a = a} m r) u o h =
          let A = pure_of n S k a in
          twice (pures.pure_read P U n S xs N d w k m u.0 (pures.first P U n k A.points _ h), pures.pure_read P U n S xs N d w (after k A) r u.1 (pures.second P U n k A.points _ h))
      operation_read g k S xs N d w (is_assert {l = l} m) u o h = twice (pures.pure_read P U n S xs N d w k m u h)
      operation_read g k S xs N d w (is_assert_false {i = i} {l = l}) u o h =
          twice (template_over N k (whole (scope_at n S i) [] (n.types i)) h.0 (scope_in n N S i d))
      operation_read g k S xs N d w (is_make {i = i} {l = l} {n = a} m r) u o h =
          let A = pure_of n S (suc k) a in
          twice (
            template_over N k (whole (scope_at n S i) [] (element_type (n.types i))) h.0 (scope_in n N S i d),
            pures.pure_read P U n S xs N d w (suc k) m u.0 (pures.first P U n (suc k) A.points _ h.1),
            pures.pure_read P U n S xs N d w (after (suc k) A) r u.1 (pures.second P U n (suc k) A.points _ h.1),
          )
      operation_read g k S xs N d w (is_fetch {l = l} {a = a} m r) u o h =
          let A = variable_of n S k a in
          twice (pures.use_read P U n S xs N d w k m u.0 (pures.first P U n k A.points _ h), pures.pure_read P U n S xs N d w (after k A) r u.1 (pures.second P U n k A.points _ h))
      operation_read g k S xs N d w (is_store {l = l} {a = a} {n = b} m r s) u o h =
          let A = variable_of n S k a in
          let B = pure_of n S (after k A) b in
          let rest = pures.second P U n k A.points _ h in
          twice (
            pures.use_read P U n S xs N d w k m u.0 (pures.first P U n k A.points _ h),
            pures.pure_read P U n S xs N d w (after k A) r u.1 (pures.first P U n (after k A) B.points _ rest),
            pures.pure_read P U n S xs N d w (after (after k A) B) s u.2 (pures.second P U n (after k A) B.points _ rest),
          )
      operation_read g k S xs N d w (is_print {l = l} m) u o h = twice (pures.pure_read P U n S xs N d w k m u h)
      operation_read g k S xs N d w (is_read {l = l} m) u o h = twice (pures.pure_read P U n S xs N d w k m u h)

      arms_read : (k : ℕ) (S : List Seen) (qs : List t.Pattern) (xs : List ℕ) (N : Symbols) → SeenIn n N S → Holds xs N → (from a : MlType) {cs : Cases} → AreArms cs
          → CaseUsesFit n xs cs → ArmsObey D.constructors (types_of n) used (fold_cases (typing D.constructors (types_of n) used) cs) from a
          → Over k (arms_of n k S qs cs).points → ArmsInScope P U N (arms_of n k S qs cs).read
      arms_read k S qs xs N d w from a no_arms u o h = tt
      arms_read k S qs xs N d w from a (more_arms {q = r} {b = b} {cs = cs} m s rest) u o h =
          let q : t.Pattern = reading.pattern_of r in
          let B : Read t.Block = block_of n true k (all_seen (names_of q) S) b in (
            block_read true k (all_seen (names_of q) S) (bound_in r ++ xs) (with_names N (names_of q)) (seen_all n (names_of q) N S d) (holds_arm m xs N w) s u.0 o.2
                (over_arm D.constructors U P.type_arguments k (is_checked qs q) B.points _ h),
            arms_read (after k B) S (qs ++ q ∷ []) xs N d w from a rest u.1 o.3 (over_arms D.constructors U P.type_arguments k (is_checked qs q) B.points _ h),
          )

  -- ---- programs

  -- what is behind an item is in scope, with the names that are known there
  abbrev RestRead : List ℕ → (ℕ → List Seen → Read t.Program) → Type 0
  RestRead xs rest =
      (k : ℕ) (S : List Seen) (N : Symbols) → SeenIn n N S → Holds xs N → pures.Over P U n k (rest k S).points → InScope P U N (rest k S).read

  abbrev uses : Names → Uses
  uses ns = used_by (types_of n) ns

  name_read : (ns : Names) (k : ℕ) (S : List Seen) (xs : List ℕ) (N : Symbols) → SeenIn n N S → Holds xs N → (l : Place) (x : ℕ) {e : Tree} → IsBlock e → UsesFit n xs e
      → (typed (uses ns) e).obeys → (rest : ℕ → List Seen → Read t.Program) → RestRead (x ∷ xs) rest
      → pures.Over P U n k (defined n k S l x e rest).points → InScope P U N (defined n k S l x e rest).read
  name_read ns k S xs N d w l x {e} b u o rest r h =
      let B : Read t.Block = block_of n false k S e in
      let own : List Point = own_point n (has_template B.read) (whole (scope_at n S (number_of e)) [] (n.names x)) in
      let second : pures.Over P U n (after k B) (own ++ (rest (after k B + length own) (seen x ∷ S)).points) = pures.second P U n k B.points _ h in (
        block_read (uses ns) false k S xs N d w b u o (pures.first P U n k B.points _ h),
        own_read (has_template B.read) (after k B) (function_point n (last_operation B.read)) (pures.first P U n (after k B) own _ second),
        r (after k B + length own) (seen x ∷ S) (with_name N x) (seen_one n N x None S d) (holds_one xs N x w)
            (pures.second P U n (after k B) own _ second),
      )
    where
      own_read : (b : Bool) (m j : ℕ) → pures.Over P U n m (own_point n b (whole (scope_at n S (number_of e)) [] (n.names x)))
          → Where b (TemplateOver P U N (cond b m j)) (Unit {0})
      own_read true m j at = template_over N m (whole (scope_at n S (number_of e)) [] (n.names x)) at.0 (scope_in n N S (number_of e) d)
      own_read false m j at = tt

  item_read : (ns : Names) (k : ℕ) (S : List Seen) (xs : List ℕ) (N : Symbols) → SeenIn n N S → Holds xs N → {i : ItemForm} → IsItem i
      → (known : Names → Type 0) (later : List ℕ → Type 0) (rest : ℕ → List Seen → Read t.Program)
      → ((ms : Names) (ys : List ℕ) → known ms → later ys → RestRead ys rest)
      → NormalItemIs D.constructors (types_of n) ns i known → ItemUsesFit n xs i later → pures.Over P U n k (item n k S i rest).points
      → InScope P U N (item n k S i rest).read
  item_read ns k S xs N d w item_type known later rest r o u h = r ns xs o u k S N d w h
  item_read ns k S xs N d w (item_name {l = l} {x = x} {e = e} b) known later rest r (s, _, is, o, more) u h =
      name_read ns k S xs N d w l x b u.0 o rest (r _ (x ∷ xs) more u.1) h
  item_read ns k S xs N d w (item_unit {e = e} b) known later rest r (s, _, is, o, more) u h =
      let B : Read t.Block = block_of n true k S e in
      (block_read (uses ns) true k S xs N d w b u.0 o (pures.first P U n k B.points _ h), r _ xs more u.1 (after k B) S N d w (pures.second P U n k B.points _ h))
  item_read ns k S xs N d w (item_any {e = e} b) known later rest r (s, _, is, o, more) u h =
      let B : Read t.Block = block_of n false k S e in
      (block_read (uses ns) false k S xs N d w b u.0 o (pures.first P U n k B.points _ h), r _ xs more u.1 (after k B) S N d w (pures.second P U n k B.points _ h))
  item_read ns k S xs N d w (item_function {f = f} {r = s} m b) known later rest r (fixed, _, e, takes, o, more) u h =
      let Θ : List Seen = seen f ∷ S in
      let y : ℕ = reading.parameter_of s.parameter in
      let B : Read t.Block = block_of n true (suc k) (seen y ∷ Θ) s.body in
      let M : Symbols = with_name N f in
      let v : SeenIn n M Θ = seen_one n N f None S d in
      let z : Holds (f ∷ xs) M = holds_one xs N f w in (
        template_over N k (whole (scope_at n Θ s.id) (function_names n s.parameter s.body) (n.names f)) h.0 (scope_in n N Θ s.id (inr (unspoken f s.id takes.0 _ e takes.1), d)),
        parameter_named y (n.names f) takes.0 (typed (uses ns) s.body).type (P.template k) (sym e ∙ takes.1) h.0.1,
        block_read (uses ns) true (suc k) (seen y ∷ Θ) (bound_in s.parameter ++ f ∷ xs) (with_name M y) (seen_name (uses ns) m M Θ v) (holds_name m (f ∷ xs) M z) b u.0 o
            (pures.first P U n (suc k) B.points _ h.1),
        r _ (f ∷ xs) more u.1 (after (suc k) B) Θ M v z (pures.second P U n (suc k) B.points _ h.1),
      )

  items_read : (is : List ItemTree) → AreNormal is → (ns : Names) (xs : List ℕ) → NormalItemsAre D.constructors (types_of n) ns is → ItemsUsesFit n xs is
      → RestRead xs (λ k S. program_from n k S is)
  items_read [] m ns xs o u k S N d w h = tt
  items_read (i ∷ is) m ns xs o u k S N d w h =
      item_read ns k S xs N d w m.0 (λ ms. NormalItemsAre D.constructors (types_of n) ms is) (λ ys. ItemsUsesFit n ys is) (λ j T. program_from n j T is)
      (λ ms ys. items_read is m.1 ms ys) o u h

pub program_read : TemplatesErase → TemplatesAreInScope
program_read erases D n is m o u =
    let ps : List Point = (program_of n is).points in
    items_read D n ps is m [] [] o u 0 [] no_names tt (λ x z. elim z [ ]) (points_over erases D ps)
