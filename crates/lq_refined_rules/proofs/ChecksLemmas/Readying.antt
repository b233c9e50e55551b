-- A simply typed program whose binders differ, with templates of its points' simple types, is ready.
use Rattle.std.proofs.Common.{◌≡◌, ℕ, Bool, true, false, [], ◌∷◌, Some, refl, sym, subst}
use Rattle.lq_refined_types.specs.Types.Context.{Context}
use Rattle.lq_refined_types.specs.Types.Laws.{KeepSimpleTypes}
use Rattle.lq_refined_types.specs.Types.Refined.{Refined, kind, binder_of, argument_of}
use Rattle.lq_refined_types.specs.Subtyping.Shaped.{HasShape, shape_unit}
use Rattle.lq_text_tree.specs.MlType as ml
use Rattle.lq_text_tree.specs.MlType.{MlType}
use Rattle.lq_refined_rules.specs.Checks.Basis.{Basis}
use Rattle.lq_refined_rules.specs.Checks.Binders.{IsNotIn, binders, AllDiffer}
use Rattle.lq_refined_rules.specs.Checks.Fitting.{Fits, fits_none, fits_guard}
use Rattle.lq_refined_rules.specs.Checks.Match.{is_data_match}
use Rattle.lq_refined_rules.specs.Checks.Operation.{type_of, body_type, last_context, last_type}
use Rattle.lq_refined_rules.specs.Checks.Pure.{type_of_use}
use Rattle.lq_refined_rules.specs.Checks.Ready.{Where, SameType, IsReadyOperation, IsReadyBlock, IsReadyRecursive, IsReadyCase, IsReadyDefault, IsReadyFirst, IsReadyGiven, IsReady}
use Rattle.lq_refined_rules.specs.Checks.Tree.{Use, names_of, is_arm_of, takes_all, passes_on, has_template, Operation, fun, if_else, match_on, Block, Arms, Program}
use Rattle.lq_refined_rules.specs.Checks.Typing.{Points, AreTemplates, Types, IsPointed, HasPattern, HasOperation, has_pure, has_fun, has_if, has_match, has_call, has_tuple, has_build, has_make, has_fetch, has_store, has_divide, has_remainder, has_assert, has_assert_false, has_read, has_print, has_map_empty, has_map_add, has_map_find, HasBlock, has_last, has_binding, has_recursive, HasRecursive, has_body, HaveArms, have_no_arms, have_arm, HasEnd, end_last, end_binding, end_recursive, HasProgram, has_no_items, has_define, has_define_recursive, has_run_unit, has_run_any}
use Rattle.lq_refined_rules.proofs.ChecksLemmas.Binding.{with_names, NewInOperation, NewInBlock, NewInArms, last_names, NewInProgram, all_new}
use Rattle.lq_refined_rules.proofs.ChecksLemmas.Environments.{argument_shape, result_shape, element_shape, at_key_shape, names_in, fit, new_fits, all_new_fit, pattern_names, renamed_shape, use_shape, use_is, pure_shape, operands_same, point_shape, operand_shapes, pattern_fits, operation_shape}
use Rattle.lq_refined_rules.proofs.ChecksLemmas.Shaping.{same_type}

either : (b : Bool) {X Y : Type 0} → X → Y → Where b X Y
either true x y = x
either false x y = y

new_in_arm : {P : Basis} {Δ Θ : Types} {a : MlType} {q : _} (b : Block) → HasPattern P Δ a q Θ
    → NewInBlock (with_names (names_of q) (names_in Δ)) b → NewInBlock (names_in Θ) b
new_in_arm b h n = subst (λ l. NewInBlock l b) (sym (pattern_names h)) n

module _ (keeps : KeepSimpleTypes) (P : Basis) (Q : Points) (are : AreTemplates P Q) where
  body_shape : (y : ℕ) {s u : MlType} {t : Refined} → HasShape (ml.arrow s u) t → HasShape u (body_type P.setting.scopes y t)
  body_shape y {t = t} a = renamed_shape keeps P Q are (binder_of t) (Some y) (kind (argument_of t)) (result_shape a)

  unpointed : (o : Operation) (a : MlType) → passes_on o ≡ false → IsPointed Q o a
  unpointed (fun p y b) a e = absurd (cc)
  unpointed (if_else p c b d) a e = absurd (cc)
  unpointed (match_on p u arms) a e = absurd (cc)
  unpointed _ a e = tt

  -- what an operation gives, where its branches or its body aren't against the expected type
  flow_ready : {Δ : Types} {Γ : Context} {o : Operation} {s : MlType} {t : Refined} (b : Bool) → passes_on o ≡ b → HasOperation P Q Δ o s
      → Fits Δ Γ → HasShape s t → Where b (Unit {0}) (SameType (type_of P Γ o) t)
  flow_ready true e h f s = tt
  flow_ready {o = o} {s = a} false e h f s = same_type (operation_shape keeps P Q are f h (unpointed o a e)) s

  template_ready : {s : MlType} {t : Refined} {x : Bool} (b : Bool) → x ≡ b → (k : ℕ) → (x ≡ true → Q.point k ≡ s) → HasShape s t
      → Where b (SameType t (P.template k)) (Unit {0})
  template_ready true e k q s = same_type s (point_shape keeps P Q are k (q e))
  template_ready false e k q s = tt

  mutual
    operation_ready : {Δ : Types} {Γ : Context} {o : Operation} {s : MlType} {t : Refined} → HasOperation P Q Δ o s
        → NewInOperation (names_in Δ) o → Fits Δ Γ → HasShape s t → IsReadyOperation P Γ o t
    operation_ready (has_pure a) n f s = tt
    operation_ready (has_fun {y = y} b) n f s = (new_fits f y n.0, block_ready b n.1 (fit (argument_shape s) f) (body_shape y s))
    operation_ready (has_if a b c) n f s = (block_ready b n.0 (fits_guard f) s, block_ready c n.1 (fits_guard f) s)
    operation_ready {Γ = Γ} (has_match {u = u} arms) n f s =
        either (is_data_match P Γ u)
        (λ c. case_ready u c arms n f (use_shape keeps P Q are f u) s, default_ready u arms n f (use_shape keeps P Q are f u) s)
        (first_ready u arms n f (use_shape keeps P Q are f u) s)
    operation_ready (has_call g a) n f s = same_type (pure_shape keeps P Q are f a) (argument_shape (pure_shape keeps P Q are f g))
    operation_ready (has_tuple hs) n f s = tt
    operation_ready {Γ = Γ} (has_build {p = p} {c = c} {es = es} e k q hs) n f s =
        operands_same keeps P Q are f hs (operand_shapes keeps P Q are Γ p c es e q)
    operation_ready (has_make {p = p} e k a) n f s = same_type (pure_shape keeps P Q are f a) (point_shape keeps P Q are p e)
    operation_ready (has_fetch e i) n f s = tt
    operation_ready (has_store {u = u} e i a) n f s = same_type (pure_shape keeps P Q are f a) (element_shape (use_is keeps P Q are f u e))
    operation_ready (has_divide x y) n f s = tt
    operation_ready (has_remainder x y) n f s = tt
    operation_ready (has_assert a) n f s = tt
    operation_ready (has_assert_false e) n f s = tt
    operation_ready (has_read a) n f s = tt
    operation_ready (has_print a) n f s = tt
    operation_ready (has_map_empty e) n f s = tt
    operation_ready (has_map_add {p = p} {k = k} e i a m) n f s =
        let t = point_shape keeps P Q are p e in
        (same_type (pure_shape keeps P Q are f a) (at_key_shape P.setting.scopes k t), same_type (pure_shape keeps P Q are f m) t)
    operation_ready (has_map_find i m) n f s = tt

    block_ready : {Δ : Types} {Γ : Context} {b : Block} {s : MlType} {t : Refined} → HasBlock P Q Δ b s → NewInBlock (names_in Δ) b
        → Fits Δ Γ → HasShape s t → IsReadyBlock P Γ b t
    block_ready (has_last {o = o} h) n f s = (operation_ready h n f s, flow_ready (passes_on o) refl h f s)
    block_ready (has_binding {x = x} h i b) n f s =
        let a = operation_shape keeps P Q are f h i in
        (operation_ready h n.0 f a, new_fits f x n.1, block_ready b n.2 (fit a f) s)
    block_ready (has_recursive {g = g} {p = p} h c) n f s =
        (recursive_ready h (n.0, n.1, n.2) f, block_ready c n.3 (fit (point_shape keeps P Q are p refl) f) s)

    recursive_ready : {Δ : Types} {Γ : Context} {g p y : ℕ} {b : Block} → HasRecursive P Q Δ g p y b
        → IsNotIn (names_in Δ) g × IsNotIn (g ∷ names_in Δ) y × NewInBlock (y ∷ g ∷ names_in Δ) b → Fits Δ Γ → IsReadyRecursive P Γ g p y b
    recursive_ready (has_body {g = g} {p = p} {y = y} e b) n f =
        let a = point_shape keeps P Q are p e in
        let d = fit {x = g} (point_shape keeps P Q are p refl) f in
        (new_fits f g n.0, new_fits d y n.1, block_ready b n.2 (fit (argument_shape a) d) (body_shape y a))

    case_ready : {Δ : Types} {Γ : Context} (u : Use) (c : ℕ) {r s : MlType} {t : Refined} {arms : Arms} → HaveArms P Q Δ r arms s
        → NewInArms (names_in Δ) arms → Fits Δ Γ → HasShape r (type_of_use P Γ u) → HasShape s t → IsReadyCase P Γ u c t arms
    case_ready u c have_no_arms n f r s = tt
    case_ready u c (have_arm {q = q} {b = e} h b arms) n f r s =
        either (is_arm_of c q)
        (all_new_fit f (names_of q) n.0, block_ready b (new_in_arm e h n.1) (pattern_fits keeps P Q are u.name f r h) s)
        (case_ready u c arms n.2 f r s)

    default_ready : {Δ : Types} {Γ : Context} (u : Use) {r s : MlType} {t : Refined} {arms : Arms} → HaveArms P Q Δ r arms s
        → NewInArms (names_in Δ) arms → Fits Δ Γ → HasShape r (type_of_use P Γ u) → HasShape s t → IsReadyDefault P Γ u arms t
    default_ready u have_no_arms n f r s = tt
    default_ready u (have_arm {q = q} {b = e} h b arms) n f r s =
        either (takes_all q)
        (all_new_fit f (names_of q) n.0, block_ready b (new_in_arm e h n.1) (pattern_fits keeps P Q are u.name f r h) s)
        (default_ready u arms n.2 f r s)

    first_ready : {Δ : Types} {Γ : Context} (u : Use) {r s : MlType} {t : Refined} {arms : Arms} → HaveArms P Q Δ r arms s
        → NewInArms (names_in Δ) arms → Fits Δ Γ → HasShape r (type_of_use P Γ u) → HasShape s t → IsReadyFirst P Γ u arms t
    first_ready u have_no_arms n f r s = tt
    first_ready u (have_arm {q = q} {b = e} h b arms) n f r s =
        (all_new_fit f (names_of q) n.0, block_ready b (new_in_arm e h n.1) (pattern_fits keeps P Q are u.name f r h) s)

  names_end : {Δ Θ : Types} {b : Block} {s : MlType} → HasEnd P Q Δ b Θ s → names_in Θ ≡ last_names (names_in Δ) b
  names_end (end_last h i) = refl
  names_end (end_binding h i b) = names_end b
  names_end (end_recursive h c) = names_end c

  given_ready : {Δ Θ : Types} {Γ : Context} {b : Block} {s : MlType} → HasEnd P Q Δ b Θ s → NewInBlock (names_in Δ) b → Fits Δ Γ
      → IsReadyGiven P Γ b × Fits Θ (last_context P Γ b) × HasShape s (last_type P Γ b)
  given_ready (end_last h i) n f =
      let a = operation_shape keeps P Q are f h i in (operation_ready h n f a, f, a)
  given_ready (end_binding {x = x} h i b) n f =
      let a = operation_shape keeps P Q are f h i in
      let r = given_ready b n.2 (fit a f) in
      ((operation_ready h n.0 f a, new_fits f x n.1, r.0), r.1, r.2)
  given_ready (end_recursive {g = g} {p = p} h c) n f =
      let r = given_ready c n.3 (fit (point_shape keeps P Q are p refl) f) in
      ((recursive_ready h (n.0, n.1, n.2) f, r.0), r.1, r.2)

  program_ready : {Δ : Types} {Γ : Context} {p : Program} → HasProgram P Q Δ p → NewInProgram (names_in Δ) p → Fits Δ Γ → IsReady P Γ p
  program_ready has_no_items n f = tt
  program_ready (has_define {x = x} {k = k} {b = b} {rest = rest} e h q) n f =
      let r = given_ready h n.0 f in
      let w = sym (names_end h) in
      let others = program_ready q (subst (λ l. NewInProgram (x ∷ l) rest) w n.2) (fit r.2 r.1) in
      (r.0, template_ready (has_template b) refl k e r.2, new_fits r.1 x (subst (λ l. IsNotIn l x) w n.1), others)
  program_ready (has_define_recursive {g = g} {p = p} h rest) n f =
      (recursive_ready h (n.0, n.1, n.2) f, program_ready rest n.3 (fit (point_shape keeps P Q are p refl) f))
  program_ready (has_run_unit b rest) n f = (block_ready b n.0 f shape_unit, program_ready rest n.1 f)
  program_ready (has_run_any h rest) n f = let r = given_ready h n.0 f in (r.0, program_ready rest n.1 f)

  pub typed_ready : (p : Program) → HasProgram P Q [] p → AllDiffer (binders p) → IsReady P [] p
  typed_ready p h d = program_ready h (all_new p d) fits_none
