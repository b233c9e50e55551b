-- Each name is bound at a type of the kind of its type in the annotation.
use Rattle.std.proofs.Common.{◌≡◌, ◌∙◌, ℕ, suc, ◌+◌, Bool, true, false, inr, List, [], ◌∷◌, ◌++◌, Some, length, refl, sym, ap, ap₂, subst}
use Rattle.lq_base_names.specs.declared.place.Place.{Place}
use Rattle.lq_refined_types.specs.Parts.Part.{known}
use Rattle.lq_refined_types.specs.Parts.Substitution.{Subst}
use Rattle.lq_logic_predicates.specs.Formula.{negation}
use Rattle.lq_refined_types.specs.Types.Context.{Context, guard}
use Rattle.lq_refined_types.specs.Types.Refined.{Refined, unit_type, Refineds, argument_of, components_of, arguments_of, matrix_of, erased, all_erased}
use Rattle.lq_refined_types.proofs.TypesLemmas.Erasing.{unfolded-erased}
use Rattle.lq_text_tree.specs.Items.{ItemTree, ItemForm}
use Rattle.lq_text_tree.specs.MlType as ml
use Rattle.lq_text_tree.specs.MlType.{MlType, MlTypes}
use Rattle.lq_text_tree.specs.Pattern as p
use Rattle.lq_text_tree.specs.Pattern.{Patterns, bound_in}
use Rattle.lq_text_tree.specs.Tree.{Tree, Cases}
use Rattle.lq_text_tree.specs.Types.{Constructor, Names, put_all, type_at}
use Rattle.lq_text_tree.specs.TypingRules.{PatternIs, PatternsAre}
use Rattle.lq_text_walk.specs.Walk.Fold.{fold_cases}
use Rattle.lq_meaning_normal_form.specs.Outcomes.Naming.{id_of}
use Rattle.lq_meaning_normal_form.specs.Types.Programs.{NormalItemIs, NormalItemsAre}
use Rattle.lq_meaning_normal_form.specs.Types.Typing.{ArmsObey, Uses, typing, used_by}
use Rattle.lq_refined_rules.specs.Checks.Basis.{Basis}
use Rattle.lq_refined_rules.specs.Checks.Binders.{arms_binders, binders, block_binders, operation_binders}
use Rattle.lq_refined_rules.specs.Checks.Fitting.{Fits, fits_none, fits_bind, fits_guard, GiveSimpleTypes, SimpleTypesAreGiven}
use Rattle.lq_refined_rules.specs.Checks.Match.{fields_by, in_arm, names_for}
use Rattle.lq_refined_rules.specs.Checks.Operation.{bind, datatype_of, last_context, last_type, recursive_context, recursive_type, type_of}
use Rattle.lq_refined_rules.specs.Checks.Pure.{formula_of, type_of_use, variable_type}
use Rattle.lq_refined_rules.specs.Checks.Tree as t
use Rattle.lq_refined_rules.specs.Checks.Tree.{has_template, last_operation, names_of, Use}
use Rattle.lq_refined_rules.specs.Checks.Typing as typing
use Rattle.lq_refined_rules.specs.Checks.Typing.{AreTemplates, Points, Types, fields_at, first_type}
use Rattle.lq_refined_templates.specs.Points.Annotation.{Annotation}
use Rattle.lq_refined_templates.specs.Points.Laws.{TemplatesAreOfPoints}
use Rattle.lq_refined_templates.specs.Points.Point.{Point, whole}
use Rattle.lq_refined_templates.specs.Points.Pure.{Read, after, pure_of, variable_of}
use Rattle.lq_refined_templates.specs.Points.Reading as reading
use Rattle.lq_refined_templates.specs.Points.Reading.{arms_of, block_of, item, own_point, program_from, program_of}
use Rattle.lq_refined_templates.specs.Points.Seen.{Seen, seen, seen_until, all_seen, scope_at}
use Rattle.lq_refined_templates.specs.Points.Templates.{Datatypes, basis_of, points_of}
use Rattle.lq_text_walk.specs.Scoped.Numbers.{number_of}
use Rattle.lq_refined_types.specs.Subtyping.Subtype.{fields_of}
use Rattle.lq_refined_types.specs.Subtyping.Splitting.{first_of, rest_of}
use Rattle.lq_sound_readiness.specs.Reading.Laws.{types_of}
use Rattle.lq_sound_readiness.specs.Reading.Normal.{IsName, is_name, AreNames, no_names, more_names, IsArm, arm_any, arm_name, arm_unit, arm_tuple, arm_build, IsPure, pure_whole, pure_flag, pure_unit, pure_use, pure_arithmetic, pure_negated, pure_compare, pure_not, pure_and, pure_or, pure_length, ring_add, ring_subtract, ring_multiply, IsBlock, block_let, block_let_rec, block_operation, IsOperation, is_pure, is_fun, is_if, is_match, is_tuple, is_build, is_call, is_quotient, is_remainder, is_assert, is_assert_false, is_make, is_fetch, is_store, is_print, is_read, AreArms, no_arms, more_arms, IsItem, item_type, item_name, item_any, item_unit, item_function, AreNormal}
use Rattle.lq_sound_readiness.specs.Reading.Uses.{CaseUsesFit, ItemUsesFit, ItemsUsesFit, UsesFit}
use Rattle.lq_sound_readiness.proofs.ReadingLemmas.Numbered.{HasAt, all_at, arm_first, arm_second, at_first, at_second}
use Rattle.lq_sound_readiness.proofs.ReadingLemmas.Named.{AreNamed, ArmTyped, HasName, Holds, arm_typed, holds_one}
use Rattle.lq_sound_readiness.proofs.ReadingLemmas.Typing as pures
use Rattle.lq_sound_readiness.proofs.ReadingLemmas.Typed.{OperationTyped, holds_name, name_type, operation_typed, own_type, typed, use_own}
use Rattle.lq_sound_scope.proofs.ScalarsLemmas.Uses.{use_erased}
use Rattle.lq_sound_adequacy.specs.Obligations.Kinds.{ArmsKinds, BlockKinds, ComponentKinds, GivenKinds, IsOf, NameKind, OperationKinds, PatternKinds, ProgramKinds}
use Rattle.lq_sound_adequacy.specs.Templates.Laws.{EachName}
use Rattle.lq_sound_adequacy.proofs.TemplatesLemmas.Reading.{Binds, each_back, each_front, last_binds}
use Rattle.lq_sound_adequacy.specs.Programs.Kinds.{simple_kind}
use Rattle.lq_sound_adequacy.specs.Programs.Laws.{NamesAreOfTheirKinds}
use Rattle.lq_sound_adequacy.proofs.ProgramsLemmas.Erasing.{argument_erased, arguments_erased, body_erased, components_erased, first_erased, kind_erased, rest_erased, variable_erased}

module _ (D : Datatypes) (n : Annotation) (all : List Point) (templates : AreTemplates (basis_of D all) (points_of all))
    (give : GiveSimpleTypes (basis_of D all) (points_of all)) (M : ℕ → Bool) (K : ℕ → NameKind)
    (own : (x : ℕ) → M x ≡ true → K x ≡ simple_kind (n.names x)) where
  abbrev P : Basis
  P = basis_of D all

  abbrev Q : Points
  Q = points_of all

  has_kind : (x : ℕ) → M x ≡ true → (T : Refined) → erased T ≡ n.names x → IsOf P K x T
  has_kind x h T e = own x h ∙ ap simple_kind (sym e) ∙ sym (kind_erased T)

  -- ---- patterns

  components_kinds : {qs : Patterns} → AreNames qs → (us : MlTypes) → PatternsAre D.constructors (types_of n) qs us → (Ts : Refineds) → all_erased Ts ≡ us
      → EachName M (p.bound_in_all qs) → ComponentKinds P K (p.bound_in_all qs) Ts
  components_kinds no_names us is Ts e h = tt
  components_kinds (more_names (is_name {x = x}) w) us (a, rest, f, i, is) Ts e h = (
    has_kind x h.0 (first_of Ts) (first_erased Ts a rest (e ∙ f) ∙ sym i),
    components_kinds w rest is (rest_of Ts) (rest_erased Ts a rest (e ∙ f)) h.1,
  )

  fields_erased : (Γ : Context) (x : ℕ) (T : Refined) (c : ℕ) (θ : Subst) (k : Constructor) (us : MlTypes) → D.constructors c ≡ Some k
      → erased T ≡ ml.named k.datatype us → all_erased (fields_by P Γ x T c θ) ≡ fields_at us k
  fields_erased Γ x T c θ k us g e =
      unfolded-erased P.setting.scopes θ (datatype_of T) (arguments_of T) (matrix_of T) c 0 (fields_of (D.constructors c))
      ∙ ap₂ (λ ts fs. put_all (type_at ts) fs) (arguments_erased T k.datatype us e) (ap fields_of g)

  pattern_kinds : {q : p.Pattern} → IsArm q → (a : MlType) → PatternIs D.constructors (types_of n) q a → (Γ : Context) (u : Use)
      → erased (type_of_use P Γ u) ≡ a → EachName M (names_of (reading.pattern_of q)) → PatternKinds P K Γ u (reading.pattern_of q)
  pattern_kinds arm_any a is Γ u e h = tt
  pattern_kinds (arm_name {x = x}) a is Γ u e h =
      has_kind x h.0 (variable_type P.setting.scopes u.name (type_of_use P Γ u)) (variable_erased P.setting.scopes u.name (type_of_use P Γ u) ∙ e ∙ sym is)
  pattern_kinds arm_unit a is Γ u e h = tt
  pattern_kinds (arm_tuple w) a (us, f, is) Γ u e h =
      components_kinds w us is (components_of (type_of_use P Γ u)) (components_erased (type_of_use P Γ u) us (e ∙ f)) h
  pattern_kinds (arm_build {c = c} {qs = qs} w) a (us, (k, vs, g, f, r, m), is) Γ u e h =
      let T : Refined = type_of_use P Γ u in
      let θ : Subst = names_for 0 (p.bound_in_all qs) (fields_by P Γ u.name T c []) in
      components_kinds w us is (fields_by P Γ u.name T c θ) (fields_erased Γ u.name T c θ k vs g (e ∙ f) ∙ sym r) h

  module _ (used : Uses) where
    -- ---- operations

    -- what an operation that is a block alone binds, where its type is known
    record AloneKinds (Γ : Context) (B : t.Block) (T : Refined) : Type 0 where
      operation : OperationKinds P K Γ (last_operation B) T
      block : BlockKinds P K Γ B T
      given : T ≡ type_of P Γ (last_operation B) → GivenKinds P K Γ B
      context : last_context P Γ B ≡ Γ

    alone : (Γ : Context) (l : Place) (o : t.Operation) (T : Refined) → OperationKinds P K Γ o T → AloneKinds Γ (t.last l o) T
    alone Γ l o T h =
        record { operation = h; block = h; given = λ e. subst (OperationKinds P K Γ o) e h; context = refl }

    pure_kinds : (g : Bool) (k : ℕ) (S : List Seen) {e : Tree} → IsPure e → (Γ : Context) (T : Refined) → AloneKinds Γ (block_of n g k S e).read T
    pure_kinds g k S (pure_whole {l = l}) Γ T = alone Γ l _ T tt
    pure_kinds g k S (pure_flag {l = l}) Γ T = alone Γ l _ T tt
    pure_kinds g k S (pure_unit {l = l}) Γ T = alone Γ l _ T tt
    pure_kinds g k S (pure_use {l = l}) Γ T = alone Γ l _ T tt
    pure_kinds g k S (pure_arithmetic {l = l} ring_add a b) Γ T = alone Γ l _ T tt
    pure_kinds g k S (pure_arithmetic {l = l} ring_subtract a b) Γ T = alone Γ l _ T tt
    pure_kinds g k S (pure_arithmetic {l = l} ring_multiply a b) Γ T = alone Γ l _ T tt
    pure_kinds g k S (pure_negated {l = l} a) Γ T = alone Γ l _ T tt
    pure_kinds g k S (pure_compare {l = l} a b) Γ T = alone Γ l _ T tt
    pure_kinds g k S (pure_not {l = l} a) Γ T = alone Γ l _ T tt
    pure_kinds g k S (pure_and {l = l} a b) Γ T = alone Γ l _ T tt
    pure_kinds g k S (pure_or {l = l} a b) Γ T = alone Γ l _ T tt
    pure_kinds g k S (pure_length {l = l} a) Γ T = alone Γ l _ T tt

    -- ---- blocks

    -- a block in an environment with names of these types
    abbrev BlockWalk : Tree → Type 0
    BlockWalk e =
        (g : Bool) (k : ℕ) (S : List Seen) (xs : List ℕ) (Δ : Types) → AreNamed n Δ → Holds n xs Δ → UsesFit n xs e → (typed D n used all e).obeys
        → HasAt all k (block_of n g k S e).points → (Γ : Context) → Fits Δ Γ → EachName M (block_binders (block_of n g k S e).read)
        → (T : Refined) → erased T ≡ (typed D n used all e).type → BlockKinds P K Γ (block_of n g k S e).read T

    -- the body of a recursive function, and its names
    recursive_kinds : (k : ℕ) (Θ : List Seen) (xs : List ℕ) (Δ : Types) → AreNamed n Δ → Holds n xs Δ → (f j : ℕ) {q : p.Pattern} → IsName q → (b : Tree) → BlockWalk b
        → UsesFit n (bound_in q ++ f ∷ xs) b → n.types j ≡ n.names f
        → (from : MlType) × (n.types j ≡ ml.arrow from (typed D n used all b).type) × PatternIs D.constructors (types_of n) q from
        → (typed D n used all b).obeys → Q.point k ≡ n.names f
        → HasAt all (suc k) (block_of n true (suc k) (seen (reading.parameter_of q) ∷ Θ) b).points → (Γ : Context) → Fits Δ Γ → M f ≡ true
        → M (reading.parameter_of q) ≡ true → EachName M (block_binders (block_of n true (suc k) (seen (reading.parameter_of q) ∷ Θ) b).read)
        → let y = reading.parameter_of q in
        IsOf P K f (P.template k) × IsOf P K y (argument_of (P.template k))
        × BlockKinds P K (recursive_context P Γ f k y) (block_of n true (suc k) (seen y ∷ Θ) b).read (recursive_type P k y)
    recursive_kinds k Θ xs Δ d w f j {q} m b walk u e (from, is, c) o z h Γ F mf my names =
        let y : ℕ = reading.parameter_of q in
        let T : Refined = P.template k in
        let er : erased T ≡ Q.point k = templates.templates k in
        let arrow : erased T ≡ ml.arrow from (typed D n used all b).type = er ∙ z ∙ sym e ∙ is in
        let ar : erased (argument_of T) ≡ from = argument_erased T from (typed D n used all b).type arrow in
        let ny : n.names y ≡ from = name_type D n used all m from c in (
          has_kind f mf T (er ∙ z),
          has_kind y my (argument_of T) (ar ∙ sym ny),
          walk true (suc k) (seen y ∷ Θ) (bound_in q ++ f ∷ xs) ((y, from) ∷ (f, Q.point k) ∷ Δ) (sym ny, (z, d))
              (holds_name D n used all m (f ∷ xs) ((f, Q.point k) ∷ Δ) from (holds_one n xs Δ f (Q.point k) w)) u o h (recursive_context P Γ f k y)
              (fits_bind ar (fits_bind er F)) names (recursive_type P k y) (body_erased P.setting.scopes y T from (typed D n used all b).type arrow),
        )

    mutual
      block_kinds : {e : Tree} → IsBlock e → BlockWalk e
      block_kinds (block_let {i = i} {q = q} {e = e} {b = b} m f r) g k S xs Δ d w u o h Γ F names T et =
          let E : Read t.Block = block_of n false k S e in
          let x : ℕ = reading.parameter_of q in
          let a : MlType = n.types (id_of e) in
          let c : n.names x ≡ a = name_type D n used all m (typed D n used all e).type o.0 ∙ own_type D n used all f in
          let E' : OperationTyped D n used all Δ E.read a = operation_typed D n used all false k S xs Δ d w f u.0 o.1 (at_first all k E.points _ h) in
          let V : Refined = type_of P Γ (last_operation E.read) in
          let ev : erased V ≡ a = give.operations Δ Γ (last_operation E.read) a F E'.has E'.pointed in
          let B : Read t.Block = block_of n g (after k E) (seen_until i x ∷ S) b in
          let later = each_back M (operation_binders (last_operation E.read)) (x ∷ block_binders B.read) names in
          let own = operation_kinds false false k S xs Δ d w f u.0 o.1 (at_first all k E.points _ h) Γ F
          (each_front M (operation_binders (last_operation E.read)) (x ∷ block_binders B.read) names) V ev in (
            own.operation,
            has_kind x later.0 V (ev ∙ sym c),
            block_kinds r g (after k E) (seen_until i x ∷ S) (bound_in q ++ xs) ((x, a) ∷ Δ) (sym c, d) (holds_name D n used all m xs Δ a w) u.1 o.2
                (at_second all k E.points _ h) (bind x V Γ) (fits_bind ev F) later.1 T et,
          )
      block_kinds (block_let_rec {i = i} {f = f} {j = j} {q = q} {b = b} {e = e} m r s) g k S xs Δ d w u o h Γ F names T et =
          let Θ : List Seen = seen_until i f ∷ S in
          let y : ℕ = reading.parameter_of q in
          let B : Read t.Block = block_of n true (suc k) (seen y ∷ Θ) b in
          let C : Read t.Block = block_of n g (after (suc k) B) Θ e in
          let z : Q.point k ≡ n.names f = ap first_type h.0 in
          let own = recursive_kinds k Θ xs Δ d w f j m b (block_kinds r) u.0 o.0 o.1 o.2 z (at_first all (suc k) B.points _ h.1) Γ F names.0 names.1.0
          (each_front M (block_binders B.read) (block_binders C.read) names.1.1) in (
            own.0,
            own.1,
            own.2,
            block_kinds s g (after (suc k) B) Θ (f ∷ xs) ((f, Q.point k) ∷ Δ) (z, d) (holds_one n xs Δ f (Q.point k) w) u.1 o.3
                (at_second all (suc k) B.points _ h.1) (bind f (P.template k) Γ) (fits_bind (templates.templates k) F)
                (each_back M (block_binders B.read) (block_binders C.read) names.1.1) T et,
          )
      block_kinds (block_operation f) g k S xs Δ d w u o h Γ F names T et =
          (operation_kinds true g k S xs Δ d w f u o h Γ F names T (et ∙ own_type D n used all f)).block

      operation_kinds : (v g : Bool) (k : ℕ) (S : List Seen) (xs : List ℕ) (Δ : Types) → AreNamed n Δ → Holds n xs Δ → {e : Tree} → IsOperation e → UsesFit n xs e
          → (typed D n used all e).obeys → HasAt all k (block_of n g k S e).points → (Γ : Context) → Fits Δ Γ → Binds M v (block_of n g k S e).read
          → (T : Refined) → erased T ≡ n.types (id_of e) → AloneKinds Γ (block_of n g k S e).read T
      operation_kinds v g k S xs Δ d w (is_pure f) u o h Γ F names T et = pure_kinds g k S f Γ T
      operation_kinds v g k S xs Δ d w (is_fun {i = i} {l = l} {q = q} {b = b} m r) u ((from, is, c), o) h Γ F names T et =
          let y : ℕ = reading.parameter_of q in
          let B : Read t.Block = block_of n true (suc k) (seen y ∷ S) b in
          let own = last_binds M v l (t.fun k y B.read) names in
          let ar : erased (argument_of T) ≡ from = argument_erased T from (typed D n used all b).type (et ∙ is) in
          let ny : n.names y ≡ from = name_type D n used all m from c in
          alone Γ l _ T (
            has_kind y own.0 (argument_of T) (ar ∙ sym ny),
            block_kinds r true (suc k) (seen y ∷ S) (bound_in q ++ xs) ((y, from) ∷ Δ) (sym ny, d) (holds_name D n used all m xs Δ from w) u o h.1
                (bind y (argument_of T) Γ) (fits_bind ar F) own.1 _ (body_erased P.setting.scopes y T from (typed D n used all b).type (et ∙ is)),
          )
      operation_kinds v g k S xs Δ d w (is_if {i = i} {l = l} {c = c} {a = a} {b = b} m r s) u (is, oc, oa, ob) h Γ F names T et =
          let C = pure_of n S (suc k) c in
          let A = block_of n true (after (suc k) C) S a in
          let B = block_of n true (after (after (suc k) C) A) S b in
          let rest = at_second all (suc k) C.points _ h.1 in
          let own = last_binds M v l (t.if_else k C.read A.read B.read) names in
          alone Γ l _ T (
            block_kinds r true (after (suc k) C) S xs Δ d w u.1 oa (at_first all (after (suc k) C) A.points _ rest) (guard (known (formula_of C.read)) ∷ Γ) (fits_guard F)
                (each_front M (block_binders A.read) (block_binders B.read) own) T (et ∙ sym is.1),
            block_kinds s true (after (after (suc k) C) A) S xs Δ d w u.2 ob (at_second all (after (suc k) C) A.points _ rest)
                (guard (known (negation (formula_of C.read))) ∷ Γ) (fits_guard F) (each_back M (block_binders A.read) (block_binders B.read) own) T (et ∙ sym is.2),
          )
      operation_kinds v g k S xs Δ d w (is_match {i = i} {l = l} {e = e} {cs = cs} m r) u (oe, oc) h Γ F names T et =
          let X = variable_of n S (suc k) e in
          let f : typing.type_of_use Q Δ X.read ≡ n.types (id_of e) = pures.use_typed D n used all S xs Δ d w (suc k) m u.1 (at_first all (suc k) X.points _ h.1) in
          let z : (typed D n used all e).type ≡ n.types (id_of e) = use_own D n used all m in
          alone Γ l _ T (arms_kinds (after (suc k) X) S [] xs Δ d w (typed D n used all e).type (n.types i) r u.2 oc (at_second all (suc k) X.points _ h.1) Γ F X.read (f ∙ sym z)
          (last_binds M v l (t.match_on k X.read (arms_of n (after (suc k) X) S [] cs).read) names) T et)
      operation_kinds v g k S xs Δ d w (is_tuple {l = l} m) u o h Γ F names T et = alone Γ l _ T tt
      operation_kinds v g k S xs Δ d w (is_build {l = l} m) u o h Γ F names T et = alone Γ l _ T tt
      operation_kinds v g k S xs Δ d w (is_call {l = l} m r) u o h Γ F names T et = alone Γ l _ T tt
      operation_kinds v g k S xs Δ d w (is_quotient {l = l} m r) u o h Γ F names T et = alone Γ l _ T tt
      operation_kinds v g k S xs Δ d w (is_remainder {l = l} m r) u o h Γ F names T et = alone Γ l _ T tt
      operation_kinds v g k S xs Δ d w (is_assert {l = l} m) u o h Γ F names T et = alone Γ l _ T tt
      operation_kinds v g k S xs Δ d w (is_assert_false {l = l}) u o h Γ F names T et = alone Γ l _ T tt
      operation_kinds v g k S xs Δ d w (is_make {l = l} m r) u o h Γ F names T et = alone Γ l _ T tt
      operation_kinds v g k S xs Δ d w (is_fetch {l = l} m r) u o h Γ F names T et = alone Γ l _ T tt
      operation_kinds v g k S xs Δ d w (is_store {l = l} m r s) u o h Γ F names T et = alone Γ l _ T tt
      operation_kinds v g k S xs Δ d w (is_print {l = l} m) u o h Γ F names T et = alone Γ l _ T tt
      operation_kinds v g k S xs Δ d w (is_read {l = l} m) u o h Γ F names T et = alone Γ l _ T tt

      arms_kinds : (k : ℕ) (S : List Seen) (qs : List t.Pattern) (xs : List ℕ) (Δ : Types) → AreNamed n Δ → Holds n xs Δ → (from a : MlType) {cs : Cases} → AreArms cs
          → CaseUsesFit n xs cs → ArmsObey D.constructors (types_of n) used (fold_cases (typing D.constructors (types_of n) used) cs) from a
          → HasAt all k (arms_of n k S qs cs).points → (Γ : Context) → Fits Δ Γ → (v : Use) → typing.type_of_use Q Δ v ≡ from
          → EachName M (arms_binders (arms_of n k S qs cs).read) → (T : Refined) → erased T ≡ a → ArmsKinds P K Γ v (arms_of n k S qs cs).read T
      arms_kinds k S qs xs Δ d w from a no_arms u o h Γ F v ev names T et = tt
      arms_kinds k S qs xs Δ d w from a (more_arms {q = r} {b = b} {cs = cs} m s rest) u (i, is, ob, os) h Γ F v ev names T et =
          let q : t.Pattern = reading.pattern_of r in
          let B : Read t.Block = block_of n true k (all_seen (names_of q) S) b in
          let R : Read t.Arms = arms_of n (after k B) S (qs ++ q ∷ []) cs in
          let X : ArmTyped n D all Δ r from = arm_typed n D all m Δ from i d in
          let own = each_front M (names_of q ++ block_binders B.read) (arms_binders R.read) names in
          let inside : Fits X.inside (in_arm P Γ v q) =
          give.arms Δ X.inside Γ v q F (subst (λ (z : MlType). typing.HasPattern P Δ z q X.inside) (sym ev) X.has) in (
            (
              pattern_kinds m from i Γ v (use_erased P Q templates Δ Γ F v ∙ ev) (each_front M (names_of q) (block_binders B.read) own),
              block_kinds s true k (all_seen (names_of q) S) (bound_in r ++ xs) X.inside X.named (X.holds xs w) u.0 ob
                  (arm_first all k (reading.is_checked qs q) B.points _ h) (in_arm P Γ v q) inside (each_back M (names_of q) (block_binders B.read) own) T (et ∙ sym is),
            ),
            arms_kinds (after k B) S (qs ++ q ∷ []) xs Δ d w from a rest u.1 os (arm_second all k (reading.is_checked qs q) B.points _ h) Γ F v ev
                (each_back M (names_of q ++ block_binders B.read) (arms_binders R.read) names) T et,
          )

    -- ---- blocks of which no type is expected

    -- what they bind, and the names at their end
    record EndKinds (Δ : Types) (Γ : Context) (B : t.Block) (a : MlType) : Type 0 where
      given : GivenKinds P K Γ B
      typed : erased (last_type P Γ B) ≡ a
      behind : Types
      fits : Fits behind (last_context P Γ B)
      named : AreNamed n behind
      kept : (x : ℕ) → HasName Δ x → HasName behind x

    end_kinds : {e : Tree} → IsBlock e → (g : Bool) (k : ℕ) (S : List Seen) (xs : List ℕ) (Δ : Types) → AreNamed n Δ → Holds n xs Δ → UsesFit n xs e
        → (typed D n used all e).obeys → HasAt all k (block_of n g k S e).points → (Γ : Context) → Fits Δ Γ
        → EachName M (block_binders (block_of n g k S e).read) → EndKinds Δ Γ (block_of n g k S e).read (typed D n used all e).type
    end_kinds (block_let {i = i} {q = q} {e = e} {b = b} m f r) g k S xs Δ d w u o h Γ F names =
        let E : Read t.Block = block_of n false k S e in
        let x : ℕ = reading.parameter_of q in
        let a : MlType = n.types (id_of e) in
        let c : n.names x ≡ a = name_type D n used all m (typed D n used all e).type o.0 ∙ own_type D n used all f in
        let E' : OperationTyped D n used all Δ E.read a = operation_typed D n used all false k S xs Δ d w f u.0 o.1 (at_first all k E.points _ h) in
        let V : Refined = type_of P Γ (last_operation E.read) in
        let ev : erased V ≡ a = give.operations Δ Γ (last_operation E.read) a F E'.has E'.pointed in
        let B : Read t.Block = block_of n g (after k E) (seen_until i x ∷ S) b in
        let later = each_back M (operation_binders (last_operation E.read)) (x ∷ block_binders B.read) names in
        let own = operation_kinds false false k S xs Δ d w f u.0 o.1 (at_first all k E.points _ h) Γ F
        (each_front M (operation_binders (last_operation E.read)) (x ∷ block_binders B.read) names) V ev in
        let rest : EndKinds ((x, a) ∷ Δ) (bind x V Γ) B.read (typed D n used all b).type =
        end_kinds r g (after k E) (seen_until i x ∷ S) (bound_in q ++ xs) ((x, a) ∷ Δ) (sym c, d) (holds_name D n used all m xs Δ a w) u.1 o.2
        (at_second all k E.points _ h) (bind x V Γ) (fits_bind ev F) later.1 in
        record {
          given = (own.operation, has_kind x later.0 V (ev ∙ sym c), rest.given);
          typed = rest.typed;
          behind = rest.behind;
          fits = rest.fits;
          named = rest.named;
          kept = λ y z. rest.kept y (inr z);
        }
    end_kinds (block_let_rec {i = i} {f = f} {j = j} {q = q} {b = b} {e = e} m r s) g k S xs Δ d w u o h Γ F names =
        let Θ : List Seen = seen_until i f ∷ S in
        let y : ℕ = reading.parameter_of q in
        let B : Read t.Block = block_of n true (suc k) (seen y ∷ Θ) b in
        let C : Read t.Block = block_of n g (after (suc k) B) Θ e in
        let z : Q.point k ≡ n.names f = ap first_type h.0 in
        let own = recursive_kinds k Θ xs Δ d w f j m b (block_kinds r) u.0 o.0 o.1 o.2 z (at_first all (suc k) B.points _ h.1) Γ F names.0 names.1.0
        (each_front M (block_binders B.read) (block_binders C.read) names.1.1) in
        let rest : EndKinds ((f, Q.point k) ∷ Δ) (bind f (P.template k) Γ) C.read (typed D n used all e).type =
        end_kinds s g (after (suc k) B) Θ (f ∷ xs) ((f, Q.point k) ∷ Δ) (z, d) (holds_one n xs Δ f (Q.point k) w) u.1 o.3
        (at_second all (suc k) B.points _ h.1) (bind f (P.template k) Γ) (fits_bind (templates.templates k) F)
        (each_back M (block_binders B.read) (block_binders C.read) names.1.1) in
        record {
          given = (own.0, own.1, own.2, rest.given);
          typed = rest.typed;
          behind = rest.behind;
          fits = rest.fits;
          named = rest.named;
          kept = λ y z. rest.kept y (inr z);
        }
    end_kinds {e} (block_operation f) g k S xs Δ d w u o h Γ F names =
        let B : t.Block = (block_of n g k S e).read in
        let V : Refined = type_of P Γ (last_operation B) in
        let E' : OperationTyped D n used all Δ B (n.types (id_of e)) = operation_typed D n used all g k S xs Δ d w f u o h in
        let ev : erased V ≡ n.types (id_of e) = give.operations Δ Γ (last_operation B) (n.types (id_of e)) F E'.has E'.pointed in
        let own = operation_kinds true g k S xs Δ d w f u o h Γ F names V ev in
        record {
          given = own.given refl;
          typed = ap (λ (Θ : Context). erased (type_of P Θ (last_operation B))) own.context ∙ ev ∙ sym (own_type D n used all f);
          behind = Δ;
          fits = subst (Fits Δ) (sym own.context) F;
          named = d;
          kept = λ y z. z;
        }

  -- ---- programs

  -- what is behind an item binds names of their kinds, where these names are known there
  abbrev RestKinds : List ℕ → (ℕ → List Seen → Read t.Program) → Type 0
  RestKinds xs rest =
      (k : ℕ) (S : List Seen) (Δ : Types) → AreNamed n Δ → Holds n xs Δ → HasAt all k (rest k S).points → (Γ : Context) → Fits Δ Γ
      → EachName M (binders (rest k S).read) → ProgramKinds P K Γ (rest k S).read

  abbrev used_in : Names → Uses
  used_in ns = used_by (types_of n) ns

  item_kinds : (ns : Names) (k : ℕ) (S : List Seen) (xs : List ℕ) (Δ : Types) → AreNamed n Δ → Holds n xs Δ → {i : ItemForm} → IsItem i
      → (told : Names → Type 0) (later : List ℕ → Type 0) (rest : ℕ → List Seen → Read t.Program)
      → ((ms : Names) (ys : List ℕ) → told ms → later ys → RestKinds ys rest)
      → NormalItemIs D.constructors (types_of n) ns i told → ItemUsesFit n xs i later → HasAt all k (item n k S i rest).points → (Γ : Context) → Fits Δ Γ
      → EachName M (binders (item n k S i rest).read) → ProgramKinds P K Γ (item n k S i rest).read
  item_kinds ns k S xs Δ d w item_type told later rest r o u h Γ F names = r ns xs o u k S Δ d w h Γ F names
  item_kinds ns k S xs Δ d w (item_name {x = x} {e = e} b) told later rest r (s, _, is, o, more) u h Γ F names =
      let B : Read t.Block = block_of n false k S e in
      let a : MlType = (typed D n (used_in ns) all e).type in
      let own : List Point = own_point n (has_template B.read) (whole (scope_at n S (number_of e)) [] (n.names x)) in
      let j : ℕ = after k B + length own in
      let R : Read t.Program = rest j (seen x ∷ S) in
      let second : HasAt all (after k B) (own ++ R.points) = at_second all k B.points _ h in
      let behind = each_back M (block_binders B.read) (x ∷ binders R.read) names in
      let Y : EndKinds (used_in ns) Δ Γ B.read a =
      end_kinds (used_in ns) b false k S xs Δ d w u.0 o (at_first all k B.points _ h) Γ F (each_front M (block_binders B.read) (x ∷ binders R.read) names) in (
        Y.given,
        has_kind x behind.0 (last_type P Γ B.read) (Y.typed ∙ sym is),
        r _ (x ∷ xs) more u.1 j (seen x ∷ S) ((x, a) ∷ Y.behind) (sym is, Y.named) (holds_one n xs Y.behind x a (λ y z. Y.kept y (w y z)))
            (at_second all (after k B) own _ second) (bind x (last_type P Γ B.read) (last_context P Γ B.read)) (fits_bind Y.typed Y.fits) behind.1,
      )
  item_kinds ns k S xs Δ d w (item_unit {e = e} b) told later rest r (s, _, is, o, more) u h Γ F names =
      let B : Read t.Block = block_of n true k S e in
      let R : Read t.Program = rest (after k B) S in (
        block_kinds (used_in ns) b true k S xs Δ d w u.0 o (at_first all k B.points _ h) Γ F (each_front M (block_binders B.read) (binders R.read) names) unit_type (sym is),
        r _ xs more u.1 (after k B) S Δ d w (at_second all k B.points _ h) Γ F (each_back M (block_binders B.read) (binders R.read) names),
      )
  item_kinds ns k S xs Δ d w (item_any {e = e} b) told later rest r (s, _, is, o, more) u h Γ F names =
      let B : Read t.Block = block_of n false k S e in
      let R : Read t.Program = rest (after k B) S in
      let Y : EndKinds (used_in ns) Δ Γ B.read (typed D n (used_in ns) all e).type =
      end_kinds (used_in ns) b false k S xs Δ d w u.0 o (at_first all k B.points _ h) Γ F (each_front M (block_binders B.read) (binders R.read) names) in (
        Y.given,
        r _ xs more u.1 (after k B) S Δ d w (at_second all k B.points _ h) Γ F (each_back M (block_binders B.read) (binders R.read) names),
      )
  item_kinds ns k S xs Δ d w (item_function {f = f} {r = s} m b) told later rest r (fixed, _, e, takes, o, more) u h Γ F names =
      let Θ : List Seen = seen f ∷ S in
      let y : ℕ = reading.parameter_of s.parameter in
      let B : Read t.Block = block_of n true (suc k) (seen y ∷ Θ) s.body in
      let R : Read t.Program = rest (after (suc k) B) Θ in
      let z : Q.point k ≡ n.names f = ap first_type h.0 in
      let own = recursive_kinds (used_in ns) k Θ xs Δ d w f s.id m s.body (block_kinds (used_in ns) b) u.0 e takes o z (at_first all (suc k) B.points _ h.1) Γ F
      names.0 names.1.0 (each_front M (block_binders B.read) (binders R.read) names.1.1) in (
        own.0,
        own.1,
        own.2,
        r _ (f ∷ xs) more u.1 (after (suc k) B) Θ ((f, Q.point k) ∷ Δ) (z, d) (holds_one n xs Δ f (Q.point k) w) (at_second all (suc k) B.points _ h.1)
            (bind f (P.template k) Γ) (fits_bind (templates.templates k) F) (each_back M (block_binders B.read) (binders R.read) names.1.1),
      )

  items_kinds : (is : List ItemTree) → AreNormal is → (ns : Names) (xs : List ℕ) → NormalItemsAre D.constructors (types_of n) ns is → ItemsUsesFit n xs is
      → RestKinds xs (λ k S. program_from n k S is)
  items_kinds [] m ns xs o u k S Δ d w h Γ F names = tt
  items_kinds (i ∷ is) m ns xs o u k S Δ d w h Γ F names =
      item_kinds ns k S xs Δ d w m.0 (λ ms. NormalItemsAre D.constructors (types_of n) ms is) (λ ys. ItemsUsesFit n ys is) (λ j Θ. program_from n j Θ is)
      (λ ms ys. items_kinds is m.1 ms ys) o u h Γ F names

pub names_kinds : TemplatesAreOfPoints → SimpleTypesAreGiven → NamesAreOfTheirKinds
names_kinds templates given D n M K own is m o u names =
    let ps : List Point = (program_of n is).points in
    let are : AreTemplates (basis_of D ps) (points_of ps) = templates D ps in
    items_kinds D n ps are (given (basis_of D ps) (points_of ps) are) M K own is m [] [] o u 0 [] [] tt (λ x z. elim z [ ]) (all_at ps) [] fits_none names
