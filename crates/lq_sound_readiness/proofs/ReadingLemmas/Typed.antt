-- Blocks and programs that are read are simply typed.
use Rattle.std.proofs.Common.{◌≡◌, ◌∙◌, inr, ℕ, suc, ◌+◌, Bool, true, false, cond, List, [], ◌∷◌, ◌++◌, Option, length, refl, sym, ap, subst}
use Rattle.lq_base_names.specs.declared.place.Place.{Place}
use Rattle.lq_text_tree.specs.Items.{ItemTree, ItemForm}
use Rattle.lq_text_tree.specs.MlType as ml
use Rattle.lq_text_tree.specs.MlType.{MlType, MlTypes}
use Rattle.lq_text_tree.specs.Pattern as p
use Rattle.lq_text_tree.specs.Pattern.{pattern, bound_in}
use Rattle.lq_text_tree.specs.Tree as form
use Rattle.lq_text_tree.specs.Tree.{Tree, tree, Trees, no_trees, more_trees, Cases}
use Rattle.lq_text_tree.specs.Types.{Names}
use Rattle.lq_text_tree.specs.TypingRules.{PatternIs}
use Rattle.lq_text_walk.specs.Walk.Fold.{fold_cases}
use Rattle.lq_meaning_normal_form.specs.Outcomes.Naming.{id_of}
use Rattle.lq_meaning_normal_form.specs.Types.Programs.{NormalItemIs, NormalItemsAre}
use Rattle.lq_meaning_normal_form.specs.Types.Typing.{ArmsObey, Typed, Uses, typing, used_by}
use Rattle.lq_refined_rules.specs.Checks.Tree as t
use Rattle.lq_refined_rules.specs.Checks.Tree.{has_template, last_operation, names_of}
use Rattle.lq_refined_rules.specs.Checks.Typing.{Types, type_of_use, first_type, HasPure, HavePures, IsPointed, HasOperation, has_pure, has_fun, has_if, has_match, has_call, has_tuple, has_build, has_make, has_fetch, has_store, has_divide, has_remainder, has_assert, has_assert_false, has_read, has_print, HasBlock, has_last, has_binding, has_recursive, HasRecursive, has_body, HaveArms, have_no_arms, have_arm, HasEnd, end_last, end_binding, end_recursive, HasProgram, has_no_items, has_define, has_define_recursive, has_run_unit, has_run_any}
use Rattle.lq_refined_templates.specs.Points.Annotation as annotation
use Rattle.lq_refined_templates.specs.Points.Annotation.{Annotation, element_type}
use Rattle.lq_refined_templates.specs.Points.Point.{Point, whole, one_type, simple_types}
use Rattle.lq_refined_templates.specs.Points.Pure.{Read, after, pure_of, pures_of, variable_of}
use Rattle.lq_refined_templates.specs.Points.Reading as reading
use Rattle.lq_refined_templates.specs.Points.Reading.{all_idled, arms_of, block_of, built, defined, expecting, function_names, function_point, is_checked, item, own_point, program_from, program_of}
use Rattle.lq_refined_templates.specs.Points.Seen.{Seen, seen, seen_until, all_seen, scope_at}
use Rattle.lq_refined_templates.specs.Points.Templates.{Datatypes, basis_of, points_of, types_at}
use Rattle.lq_text_walk.specs.Scoped.Numbers.{number_of}
use Rattle.lq_refined_instances.specs.Scopes.{Scope}
use Rattle.lq_sound_readiness.specs.Reading.Laws.{ReadIsTyped, types_of}
use Rattle.lq_sound_readiness.specs.Reading.Normal.{IsName, is_name, IsPure, pure_whole, pure_flag, pure_unit, pure_use, pure_arithmetic, pure_negated, pure_compare, pure_not, pure_and, pure_or, pure_length, IsUse, is_use, ring_add, ring_subtract, ring_multiply, IsBlock, block_let, block_let_rec, block_operation, IsOperation, is_pure, is_fun, is_if, is_match, is_tuple, is_build, is_call, is_quotient, is_remainder, is_assert, is_assert_false, is_make, is_fetch, is_store, is_print, is_read, AreArms, no_arms, more_arms, IsItem, item_type, item_name, item_any, item_unit, item_function, AreNormal}
use Rattle.lq_sound_readiness.specs.Reading.Uses.{CaseUsesFit, ItemUsesFit, ItemsUsesFit, UsesFit}
use Rattle.lq_sound_readiness.proofs.ReadingLemmas.Numbered.{HasAt, all_at, arm_first, arm_second, at_first, at_second}
use Rattle.lq_sound_readiness.proofs.ReadingLemmas.Named.{AreNamed, ArmTyped, HasName, Holds, arm_typed, holds_one}
use Rattle.lq_sound_readiness.proofs.ReadingLemmas.Typing as pures

-- the types of points
expecting_type : (g : Bool) (Γ : Scope) (xs : List (Option ℕ)) (a : MlType) → simple_types (expecting g (whole Γ xs a)) ≡ one_type a
expecting_type true Γ xs a = refl
expecting_type false Γ xs a = refl

built_type : (Γ : Scope) (a : MlType) (es : Trees) → simple_types (built Γ a es) ≡ one_type a
built_type Γ a no_trees = refl
built_type Γ a (more_trees e es) = refl

module _ (D : Datatypes) (n : Annotation) (used : Uses) (all : List Point) where
  abbrev pub typed : Tree → Typed
  typed = pures.typed D n used all

  abbrev pub Operates : Types → t.Operation → MlType → Type 0
  Operates = HasOperation (basis_of D all) (points_of all)

  abbrev pub Blocks : Types → t.Block → MlType → Type 0
  Blocks = HasBlock (basis_of D all) (points_of all)

  -- an operation, and the block that it is alone
  pub record OperationTyped (Δ : Types) (B : t.Block) (a : MlType) : Type 0 where
    pub has : Operates Δ (last_operation B) a
    pub pointed : IsPointed (points_of all) (last_operation B) a
    pub alone : Blocks Δ B a
    pub ends : HasEnd (basis_of D all) (points_of all) Δ B Δ a

  alone_typed : (Δ : Types) (l : Place) (o : t.Operation) (a : MlType) → Operates Δ o a → IsPointed (points_of all) o a → OperationTyped Δ (t.last l o) a
  alone_typed Δ l o a h q = record { has = h; pointed = q; alone = has_last h; ends = end_last h q }

  at_equal : (Δ : Types) (B : t.Block) {a b : MlType} → a ≡ b → OperationTyped Δ B a → OperationTyped Δ B b
  at_equal Δ B e h = subst (OperationTyped Δ B) e h

  -- a block, and the names at its end
  pub record BlockTyped (Δ : Types) (B : t.Block) (a : MlType) : Type 0 where
    pub block : Blocks Δ B a
    pub behind : Types
    pub ends : HasEnd (basis_of D all) (points_of all) Δ B behind a
    pub named : AreNamed n behind
    pub kept : (x : ℕ) → HasName Δ x → HasName behind x

  -- of a name's pattern
  pub name_type : {q : p.Pattern} → IsName q → (a : MlType) → PatternIs D.constructors (types_of n) q a → n.names (reading.parameter_of q) ≡ a
  name_type is_name a h = h

  pub holds_name : {q : p.Pattern} → IsName q → (xs : List ℕ) (Δ : Types) (a : MlType) → Holds n xs Δ → Holds n (bound_in q ++ xs) ((reading.parameter_of q, a) ∷ Δ)
  holds_name (is_name {x = x}) xs Δ a h = holds_one n xs Δ x a h

  pure_block : (g : Bool) (k : ℕ) (S : List Seen) (xs : List ℕ) (Δ : Types) (d : AreNamed n Δ) (w : Holds n xs Δ) {e : Tree} → IsPure e → UsesFit n xs e → (typed e).obeys
      → HasAt all k (block_of n g k S e).points → OperationTyped Δ (block_of n g k S e).read (n.types (id_of e))
  pure_block g k S xs Δ d w (pure_whole {i = i} {l = l} {z = z}) u o h = alone_typed Δ l _ _ (has_pure (pures.pure_typed D n used all S xs Δ d w k (pure_whole {i = i} {l = l} {z = z}) u o h)) tt
  pure_block g k S xs Δ d w (pure_flag {i = i} {l = l} {b = b}) u o h = alone_typed Δ l _ _ (has_pure (pures.pure_typed D n used all S xs Δ d w k (pure_flag {i = i} {l = l} {b = b}) u o h)) tt
  pure_block g k S xs Δ d w (pure_unit {i = i} {l = l}) u o h = alone_typed Δ l _ _ (has_pure (pures.pure_typed D n used all S xs Δ d w k (pure_unit {i = i} {l = l}) u o h)) tt
  pure_block g k S xs Δ d w (pure_use {i = i} {l = l} {x = x}) u o h = alone_typed Δ l _ _ (has_pure (pures.pure_typed D n used all S xs Δ d w k (pure_use {i = i} {l = l} {x = x}) u o h)) tt
  pure_block g k S xs Δ d w (pure_arithmetic {i = i} {l = l} ring_add q r) u o h =
      alone_typed Δ l _ _ (has_pure (pures.pure_typed D n used all S xs Δ d w k (pure_arithmetic {i = i} {l = l} ring_add q r) u o h)) tt
  pure_block g k S xs Δ d w (pure_arithmetic {i = i} {l = l} ring_subtract q r) u o h =
      alone_typed Δ l _ _ (has_pure (pures.pure_typed D n used all S xs Δ d w k (pure_arithmetic {i = i} {l = l} ring_subtract q r) u o h)) tt
  pure_block g k S xs Δ d w (pure_arithmetic {i = i} {l = l} ring_multiply q r) u o h =
      alone_typed Δ l _ _ (has_pure (pures.pure_typed D n used all S xs Δ d w k (pure_arithmetic {i = i} {l = l} ring_multiply q r) u o h)) tt
  pure_block g k S xs Δ d w (pure_negated {i = i} {l = l} q) u o h = alone_typed Δ l _ _ (has_pure (pures.pure_typed D n used all S xs Δ d w k (pure_negated {i = i} {l = l} q) u o h)) tt
  pure_block g k S xs Δ d w (pure_compare {i = i} {l = l} q r) u o h = alone_typed Δ l _ _ (has_pure (pures.pure_typed D n used all S xs Δ d w k (pure_compare {i = i} {l = l} q r) u o h)) tt
  pure_block g k S xs Δ d w (pure_not {i = i} {l = l} q) u o h = alone_typed Δ l _ _ (has_pure (pures.pure_typed D n used all S xs Δ d w k (pure_not {i = i} {l = l} q) u o h)) tt
  pure_block g k S xs Δ d w (pure_and {i = i} {l = l} q r) u o h = alone_typed Δ l _ _ (has_pure (pures.pure_typed D n used all S xs Δ d w k (pure_and {i = i} {l = l} q r) u o h)) tt
  pure_block g k S xs Δ d w (pure_or {i = i} {l = l} q r) u o h = alone_typed Δ l _ _ (has_pure (pures.pure_typed D n used all S xs Δ d w k (pure_or {i = i} {l = l} q r) u o h)) tt
  pure_block g k S xs Δ d w (pure_length {i = i} {l = l} q) u o h = alone_typed Δ l _ _ (has_pure (pures.pure_typed D n used all S xs Δ d w k (pure_length {i = i} {l = l} q) u o h)) tt

  pub use_own : {e : Tree} → IsUse e → (typed e).type ≡ n.types (id_of e)
  use_own is_use = refl

  -- an operation has the type of its node
  pub own_type : {e : Tree} → IsOperation e → (typed e).type ≡ n.types (id_of e)
  own_type (is_pure h) = pures.own_type D n used all h
  own_type (is_fun h w) = refl
  own_type (is_if h w u) = refl
  own_type (is_match h w) = refl
  own_type (is_tuple h) = refl
  own_type (is_build h) = refl
  own_type (is_call h w) = refl
  own_type (is_quotient h w) = refl
  own_type (is_remainder h w) = refl
  own_type (is_assert h) = refl
  own_type is_assert_false = refl
  own_type (is_make h w) = refl
  own_type (is_fetch h w) = refl
  own_type (is_store h w u) = refl
  own_type (is_print h) = refl
  own_type (is_read h) = refl

  mutual
    pub block_typed : (g : Bool) (k : ℕ) (S : List Seen) (xs : List ℕ) (Δ : Types) (d : AreNamed n Δ) (w : Holds n xs Δ) {e : Tree} → IsBlock e → UsesFit n xs e → (typed e).obeys
        → HasAt all k (block_of n g k S e).points → BlockTyped Δ (block_of n g k S e).read (typed e).type
    block_typed g k S xs Δ d w (block_let {i = i} {l = l} {q = q} {e = e} {b = b} m f r) u o h =
        let E : Read t.Block = block_of n false k S e in
        let x : ℕ = reading.parameter_of q in
        let a : MlType = n.types (id_of e) in
        let c : n.names x ≡ a = name_type m (typed e).type o.0 ∙ own_type f in
        let E' : OperationTyped Δ E.read a = operation_typed false k S xs Δ d w f u.0 o.1 (at_first all k E.points _ h) in
        let B : BlockTyped ((x, a) ∷ Δ) (block_of n g (after k E) (seen_until i x ∷ S) b).read (typed b).type =
        block_typed g (after k E) (seen_until i x ∷ S) (bound_in q ++ xs) ((x, a) ∷ Δ) (sym c, d) (holds_name m xs Δ a w) r u.1 o.2 (at_second all k E.points _ h) in
        record {
          block = has_binding E'.has E'.pointed B.block;
          behind = B.behind;
          ends = end_binding E'.has E'.pointed B.ends;
          named = B.named;
          kept = λ y z. B.kept y (inr z);
        }
    block_typed g k S xs Δ d w (block_let_rec {i = i} {f = f} {j = j} {l = l} {q = q} {b = b} {e = e} m r s) u o h =
        let Θ : List Seen = seen_until i f ∷ S in
        let F : MlType = (points_of all).point k in
        let c : F ≡ n.names f = ap first_type h.0 in
        let y : ℕ = reading.parameter_of q in
        let B : Read t.Block = block_of n true (suc k) (seen y ∷ Θ) b in
        let Y : BlockTyped ((y, o.1.0) ∷ (f, F) ∷ Δ) B.read (typed b).type =
        block_typed true (suc k) (seen y ∷ Θ) (bound_in q ++ f ∷ xs) ((y, o.1.0) ∷ (f, F) ∷ Δ) (sym (name_type m o.1.0 o.1.2), (c, d))
        (holds_name m (f ∷ xs) ((f, F) ∷ Δ) o.1.0 (holds_one n xs Δ f F w)) r u.0 o.2 (at_first all (suc k) B.points _ h.1) in
        let R : HasRecursive (basis_of D all) (points_of all) Δ f k y B.read = has_body (c ∙ sym o.0 ∙ o.1.1) Y.block in
        let C : BlockTyped ((f, F) ∷ Δ) (block_of n g (after (suc k) B) Θ e).read (typed e).type =
        block_typed g (after (suc k) B) Θ (f ∷ xs) ((f, F) ∷ Δ) (c, d) (holds_one n xs Δ f F w) s u.1 o.3 (at_second all (suc k) B.points _ h.1) in
        record {
          block = has_recursive R C.block;
          behind = C.behind;
          ends = end_recursive R C.ends;
          named = C.named;
          kept = λ y z. C.kept y (inr z);
        }
    block_typed g k S xs Δ d w {e} (block_operation f) u o h =
        let E : OperationTyped Δ (block_of n g k S e).read (typed e).type = at_equal Δ _ (sym (own_type f)) (operation_typed g k S xs Δ d w f u o h) in
        record { block = E.alone; behind = Δ; ends = E.ends; named = d; kept = λ y z. z }

    pub operation_typed : (g : Bool) (k : ℕ) (S : List Seen) (xs : List ℕ) (Δ : Types) (d : AreNamed n Δ) (w : Holds n xs Δ) {e : Tree} → IsOperation e → UsesFit n xs e → (typed e).obeys
        → HasAt all k (block_of n g k S e).points → OperationTyped Δ (block_of n g k S e).read (n.types (id_of e))
    operation_typed g k S xs Δ d w (is_pure f) u o h = pure_block g k S xs Δ d w f u o h
    operation_typed g k S xs Δ d w (is_fun {i = i} {l = l} {q = q} {b = b} m r) u ((from, is, c), o) h =
        let y : ℕ = reading.parameter_of q in
        let B : BlockTyped ((y, from) ∷ Δ) (block_of n true (suc k) (seen y ∷ S) b).read (typed b).type =
        block_typed true (suc k) (seen y ∷ S) (bound_in q ++ xs) ((y, from) ∷ Δ) (sym (name_type m from c), d) (holds_name m xs Δ from w) r u o h.1 in
        alone_typed Δ l _ _ (subst (Operates Δ _) (sym is) (has_fun B.block)) (ap first_type (h.0 ∙ expecting_type g (scope_at n S i) (function_names n q b) (n.types i)))
    operation_typed g k S xs Δ d w (is_if {i = i} {l = l} {c = c} {a = a} {b = b} m r s) u (is, oc, oa, ob) h =
        let C = pure_of n S (suc k) c in
        let A = block_of n true (after (suc k) C) S a in
        let X : HasPure (points_of all) Δ C.read ml.bool = subst (HasPure (points_of all) Δ C.read) is.0 (pures.operand D n used all S xs Δ d w (suc k) m u.0 oc (at_first all (suc k) C.points _ h.1)) in
        let rest = at_second all (suc k) C.points _ h.1 in
        let Y : BlockTyped Δ A.read (typed a).type = block_typed true (after (suc k) C) S xs Δ d w r u.1 oa (at_first all (after (suc k) C) A.points _ rest) in
        let Z : BlockTyped Δ (block_of n true (after (after (suc k) C) A) S b).read (typed b).type =
        block_typed true (after (after (suc k) C) A) S xs Δ d w s u.2 ob (at_second all (after (suc k) C) A.points _ rest) in
        alone_typed Δ l _ _ (has_if X (subst (Blocks Δ A.read) is.1 Y.block) (subst (Blocks Δ _) is.2 Z.block))
        (ap first_type (h.0 ∙ expecting_type g (scope_at n S i) [] (n.types i)))
    operation_typed g k S xs Δ d w (is_match {i = i} {l = l} {e = e} {cs = cs} m r) u (oe, oc) h =
        let X = variable_of n S (suc k) e in
        let f : type_of_use (points_of all) Δ X.read ≡ n.types (id_of e) = pures.use_typed D n used all S xs Δ d w (suc k) m u.1 (at_first all (suc k) X.points _ h.1) in
        let v : (typed e).type ≡ n.types (id_of e) = use_own m in
        let A = arms_typed (after (suc k) X) S [] xs Δ d w (typed e).type (n.types i) r u.2 oc (at_second all (suc k) X.points _ h.1) in
        alone_typed Δ l _ _ (has_match (subst (λ (a : MlType). HaveArms (basis_of D all) (points_of all) Δ a (arms_of n (after (suc k) X) S [] cs).read (n.types i)) (v ∙ sym f) A))
        (ap first_type (h.0 ∙ expecting_type g (scope_at n S i) [] (annotation.type_of_form n i (form.match_on e cs))) ∙ u.0)
    operation_typed g k S xs Δ d w (is_tuple {i = i} {l = l} {es = es} m) u (is, o) h =
        alone_typed Δ l _ _ (subst (Operates Δ _) (sym is) (has_tuple (pures.operands D n used all S xs Δ d w k m u o h))) tt
    operation_typed g k S xs Δ d w (is_build {i = i} {c = c} {l = l} {es = es} m) u ((b, us, f, is, fs, many), o) h =
        let q : (points_of all).point k ≡ n.types i = ap first_type (h.0 ∙ built_type (scope_at n S i) (n.types i) es) in
        let os = subst (HavePures (points_of all) Δ (pures_of n S (suc k) es).read) fs (pures.operands D n used all S xs Δ d w (suc k) m u o h.1) in
        alone_typed Δ l _ _ (subst (Operates Δ _) (sym is) (has_build {k = b} {us = us} f many (q ∙ is) os)) tt
    operation_typed g k S xs Δ d w (is_call {i = i} {l = l} {f = f} {a = a} m r) u (is, of, oa) h =
        let F = pure_of n S k f in
        alone_typed Δ l _ _
        (has_call (subst (HasPure (points_of all) Δ F.read) is (pures.operand D n used all S xs Δ d w k m u.0 of (at_first all k F.points _ h)))
        (pures.operand D n used all S xs Δ d w (after k F) r u.1 oa (at_second all k F.points _ h))) tt
    operation_typed g k S xs Δ d w (is_quotient {i = i} {l = l} {a = a} {b = b} m r) u (is, oa, ob) h =
        let A = pure_of n S k a in
        alone_typed Δ l _ _ (subst (Operates Δ _) (sym is.2)
        (has_divide (subst (HasPure (points_of all) Δ A.read) is.0 (pures.operand D n used all S xs Δ d w k m u.0 oa (at_first all k A.points _ h)))
        (subst (HasPure (points_of all) Δ _) is.1 (pures.operand D n used all S xs Δ d w (after k A) r u.1 ob (at_second all k A.points _ h))))) tt
    operation_typed g k S xs Δ d w (is_remainder {i = i} {l = l} {a = a} {b = b} m r) u (is, oa, ob) h =
        let A = pure_of n S k a in
        alone_typed Δ l _ _ (subst (Operates Δ _) (sym is.2)
        (has_remainder (subst (HasPure (points_of all) Δ A.read) is.0 (pures.operand D n used all S xs Δ d w k m u.0 oa (at_first all k A.points _ h)))
        (subst (HasPure (points_of all) Δ _) is.1 (pures.operand D n used all S xs Δ d w (after k A) r u.1 ob (at_second all k A.points _ h))))) tt
    operation_typed g k S xs Δ d w (is_assert {i = i} {l = l} {e = e} m) u (is, o) h =
        alone_typed Δ l _ _ (subst (Operates Δ _) (sym is.1)
        (has_assert (subst (HasPure (points_of all) Δ _) is.0 (pures.operand D n used all S xs Δ d w k m u o h)))) tt
    operation_typed g k S xs Δ d w (is_assert_false {i = i} {l = l}) u o h = alone_typed Δ l _ _ (has_assert_false (ap first_type h.0)) tt
    operation_typed g k S xs Δ d w (is_make {i = i} {l = l} {n = a} {e = b} m r) u (is, oa, ob) h =
        let A = pure_of n S (suc k) a in
        let q : (points_of all).point k ≡ (typed b).type = ap first_type h.0 ∙ ap element_type is.1 in
        alone_typed Δ l _ _ (subst (Operates Δ _) (sym is.1)
        (has_make q (subst (HasPure (points_of all) Δ A.read) is.0 (pures.operand D n used all S xs Δ d w (suc k) m u.0 oa (at_first all (suc k) A.points _ h.1)))
        (pures.operand D n used all S xs Δ d w (after (suc k) A) r u.1 ob (at_second all (suc k) A.points _ h.1)))) tt
    operation_typed g k S xs Δ d w (is_fetch {i = i} {l = l} {a = a} {n = b} m r) u (is, oa, ob) h =
        let A = variable_of n S k a in
        let f : type_of_use (points_of all) Δ A.read ≡ n.types (id_of a) = pures.use_typed D n used all S xs Δ d w k m u.0 (at_first all k A.points _ h) in
        alone_typed Δ l _ _
        (has_fetch (f ∙ sym (use_own m) ∙ is.0) (subst (HasPure (points_of all) Δ _) is.1 (pures.operand D n used all S xs Δ d w (after k A) r u.1 ob (at_second all k A.points _ h)))) tt
    operation_typed g k S xs Δ d w (is_store {i = i} {l = l} {a = a} {n = b} {e = c} m r s) u (is, oa, ob, oc) h =
        let A = variable_of n S k a in
        let B = pure_of n S (after k A) b in
        let f : type_of_use (points_of all) Δ A.read ≡ n.types (id_of a) = pures.use_typed D n used all S xs Δ d w k m u.0 (at_first all k A.points _ h) in
        let rest = at_second all k A.points _ h in
        alone_typed Δ l _ _ (subst (Operates Δ _) (sym is.2)
        (has_store (f ∙ sym (use_own m) ∙ is.0)
        (subst (HasPure (points_of all) Δ B.read) is.1 (pures.operand D n used all S xs Δ d w (after k A) r u.1 ob (at_first all (after k A) B.points _ rest)))
        (pures.operand D n used all S xs Δ d w (after (after k A) B) s u.2 oc (at_second all (after k A) B.points _ rest)))) tt
    operation_typed g k S xs Δ d w (is_print {i = i} {l = l} {e = e} m) u (is, o) h =
        alone_typed Δ l _ _ (subst (Operates Δ _) (sym is.1)
        (has_print (subst (HasPure (points_of all) Δ _) is.0 (pures.operand D n used all S xs Δ d w k m u o h)))) tt
    operation_typed g k S xs Δ d w (is_read {i = i} {l = l} {e = e} m) u (is, o) h =
        alone_typed Δ l _ _ (subst (Operates Δ _) (sym is.1)
        (has_read (subst (HasPure (points_of all) Δ _) is.0 (pures.operand D n used all S xs Δ d w k m u o h)))) tt

    arms_typed : (k : ℕ) (S : List Seen) (qs : List t.Pattern) (xs : List ℕ) (Δ : Types) → AreNamed n Δ → Holds n xs Δ → (from a : MlType) {cs : Cases} → AreArms cs
        → CaseUsesFit n xs cs → ArmsObey D.constructors (types_of n) used (fold_cases (typing D.constructors (types_of n) used) cs) from a
        → HasAt all k (arms_of n k S qs cs).points → HaveArms (basis_of D all) (points_of all) Δ from (arms_of n k S qs cs).read a
    arms_typed k S qs xs Δ d w from a no_arms u o h = have_no_arms
    arms_typed k S qs xs Δ d w from a (more_arms {q = r} {b = b} {cs = cs} m s rest) u (i, is, ob, os) h =
        let q : t.Pattern = reading.pattern_of r in
        let B : Read t.Block = block_of n true k (all_seen (names_of q) S) b in
        let P : ArmTyped n D all Δ r from = arm_typed n D all m Δ from i d in
        let Y : BlockTyped P.inside B.read (typed b).type =
        block_typed true k (all_seen (names_of q) S) (bound_in r ++ xs) P.inside P.named (P.holds xs w) s u.0 ob (arm_first all k (is_checked qs q) B.points _ h) in
        have_arm P.has (subst (Blocks P.inside B.read) is Y.block)
        (arms_typed (after k B) S (qs ++ q ∷ []) xs Δ d w from a rest u.1 os (arm_second all k (is_checked qs q) B.points _ h))

  -- the body of a recursive function
  recursive_typed : (k : ℕ) (Θ : List Seen) (xs : List ℕ) (Δ : Types) → AreNamed n Δ → Holds n xs Δ → (f j : ℕ) {q : p.Pattern} → IsName q → {b : Tree} → IsBlock b
      → UsesFit n (bound_in q ++ f ∷ xs) b → n.types j ≡ n.names f
      → (from : MlType) × (n.types j ≡ ml.arrow from (typed b).type) × PatternIs D.constructors (types_of n) q from
      → (typed b).obeys → types_at all k ≡ one_type (n.names f)
      → HasAt all (suc k) (block_of n true (suc k) (seen (reading.parameter_of q) ∷ Θ) b).points
      → HasRecursive (basis_of D all) (points_of all) Δ f k (reading.parameter_of q) (block_of n true (suc k) (seen (reading.parameter_of q) ∷ Θ) b).read
  recursive_typed k Θ xs Δ d w f j {q} m {b} r u e (from, is, c) o at h =
      let F : MlType = (points_of all).point k in
      let z : F ≡ n.names f = ap first_type at in
      let y : ℕ = reading.parameter_of q in
      let B : BlockTyped ((y, from) ∷ (f, F) ∷ Δ) (block_of n true (suc k) (seen y ∷ Θ) b).read (typed b).type =
      block_typed true (suc k) (seen y ∷ Θ) (bound_in q ++ f ∷ xs) ((y, from) ∷ (f, F) ∷ Δ) (sym (name_type m from c), (z, d))
      (holds_name m (f ∷ xs) ((f, F) ∷ Δ) from (holds_one n xs Δ f F w)) r u o h in
      has_body (z ∙ sym e ∙ is) B.block

-- ---- programs

module _ (D : Datatypes) (n : Annotation) (all : List Point) where
  -- what is behind an item is typed, with the names that are known there
  abbrev RestTyped : List ℕ → (ℕ → List Seen → Read t.Program) → Type 0
  RestTyped xs rest =
      (k : ℕ) (S : List Seen) (Δ : Types) → AreNamed n Δ → Holds n xs Δ → HasAt all k (rest k S).points
      → HasProgram (basis_of D all) (points_of all) Δ (rest k S).read

  abbrev used : Names → Uses
  used ns = used_by (types_of n) ns

  -- what a definition has
  name_typed : (ns : Names) (k : ℕ) (S : List Seen) (xs : List ℕ) (Δ : Types) → AreNamed n Δ → Holds n xs Δ → (l : Place) (x : ℕ) {e : Tree} → IsBlock e → UsesFit n xs e
      → (typed D n (used ns) all e).obeys → n.names x ≡ (typed D n (used ns) all e).type → (rest : ℕ → List Seen → Read t.Program) → RestTyped (x ∷ xs) rest
      → HasAt all k (defined n k S l x e rest).points → HasProgram (basis_of D all) (points_of all) Δ (defined n k S l x e rest).read
  name_typed ns k S xs Δ d w l x {e} b u o is rest r h =
      let B : Read t.Block = block_of n false k S e in
      let a : MlType = (typed D n (used ns) all e).type in
      let q : Point = whole (scope_at n S (number_of e)) [] (n.names x) in
      let own : List Point = own_point n (has_template B.read) q in
      let Y : BlockTyped D n (used ns) all Δ B.read a = block_typed D n (used ns) all false k S xs Δ d w b u o (at_first all k B.points _ h) in
      let second : HasAt all (after k B) (own ++ (rest (after k B + length own) (seen x ∷ S)).points) = at_second all k B.points _ h in
      has_define (own_typed (has_template B.read) (after k B) (function_point n (last_operation B.read)) a is (at_first all (after k B) own _ second)) Y.ends
      (r (after k B + length own) (seen x ∷ S) ((x, a) ∷ Y.behind) (sym is, Y.named) (holds_one n xs Y.behind x a (λ y z. Y.kept y (w y z)))
      (at_second all (after k B) own _ second))
    where
      own_typed : (b : Bool) (m j : ℕ) (a : MlType) → n.names x ≡ a → HasAt all m (own_point n b (whole (scope_at n S (number_of e)) [] (n.names x)))
          → b ≡ true → (points_of all).point (cond b m j) ≡ a
      own_typed true m j a is at z = ap first_type at.0 ∙ is
      own_typed false m j a is at z = absurd (no z)
        where
          no : false ≡ true → ⊥
          no y = cc

  item_typed : (ns : Names) (k : ℕ) (S : List Seen) (xs : List ℕ) (Δ : Types) → AreNamed n Δ → Holds n xs Δ → {i : ItemForm} → IsItem i
      → (known : Names → Type 0) (later : List ℕ → Type 0) (rest : ℕ → List Seen → Read t.Program)
      → ((ms : Names) (ys : List ℕ) → known ms → later ys → RestTyped ys rest)
      → NormalItemIs D.constructors (types_of n) ns i known → ItemUsesFit n xs i later → HasAt all k (item n k S i rest).points
      → HasProgram (basis_of D all) (points_of all) Δ (item n k S i rest).read
  item_typed ns k S xs Δ d w item_type known later rest r o u h = r ns xs o u k S Δ d w h
  item_typed ns k S xs Δ d w (item_name {l = l} {x = x} {e = e} b) known later rest r (s, _, is, o, more) u h =
      name_typed ns k S xs Δ d w l x b u.0 o is rest (r _ (x ∷ xs) more u.1) h
  item_typed ns k S xs Δ d w (item_unit {e = e} b) known later rest r (s, _, is, o, more) u h =
      let B : Read t.Block = block_of n true k S e in
      let Y : BlockTyped D n (used ns) all Δ B.read (typed D n (used ns) all e).type = block_typed D n (used ns) all true k S xs Δ d w b u.0 o (at_first all k B.points _ h) in
      has_run_unit (subst (HasBlock (basis_of D all) (points_of all) Δ B.read) is Y.block) (r _ xs more u.1 (after k B) S Δ d w (at_second all k B.points _ h))
  item_typed ns k S xs Δ d w (item_any {e = e} b) known later rest r (s, _, is, o, more) u h =
      let B : Read t.Block = block_of n false k S e in
      let Y : BlockTyped D n (used ns) all Δ B.read (typed D n (used ns) all e).type = block_typed D n (used ns) all false k S xs Δ d w b u.0 o (at_first all k B.points _ h) in
      has_run_any Y.ends (r _ xs more u.1 (after k B) S Δ d w (at_second all k B.points _ h))
  item_typed ns k S xs Δ d w (item_function {f = f} {r = s} m b) known later rest r (fixed, _, e, takes, o, more) u h =
      let Θ : List Seen = seen f ∷ S in
      let y : ℕ = reading.parameter_of s.parameter in
      let B : Read t.Block = block_of n true (suc k) (seen y ∷ Θ) s.body in
      let F : MlType = (points_of all).point k in
      let c : F ≡ n.names f = ap first_type h.0 in
      has_define_recursive (recursive_typed D n (used ns) all k Θ xs Δ d w f s.id m b u.0 e takes o h.0 (at_first all (suc k) B.points _ h.1))
      (r _ (f ∷ xs) more u.1 (after (suc k) B) Θ ((f, F) ∷ Δ) (c, d) (holds_one n xs Δ f F w) (at_second all (suc k) B.points _ h.1))

  items_typed : (is : List ItemTree) → AreNormal is → (ns : Names) (xs : List ℕ) → NormalItemsAre D.constructors (types_of n) ns is → ItemsUsesFit n xs is
      → RestTyped xs (λ k S. program_from n k S is)
  items_typed [] m ns xs o u k S Δ d w h = has_no_items
  items_typed (i ∷ is) m ns xs o u k S Δ d w h =
      item_typed ns k S xs Δ d w m.0 (λ ms. NormalItemsAre D.constructors (types_of n) ms is) (λ ys. ItemsUsesFit n ys is) (λ j T. program_from n j T is)
      (λ ms ys. items_typed is m.1 ms ys) o u h

pub program_typed : ReadIsTyped
program_typed D n is m o u =
    items_typed D n (program_of n is).points is m [] [] o u 0 [] [] tt (λ x z. elim z [ ]) (all_at (program_of n is).points)
