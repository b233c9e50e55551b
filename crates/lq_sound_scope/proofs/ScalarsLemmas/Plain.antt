-- Programs whose forms are scalar, and whose templates are written so, are plain.
use Rattle.std.proofs.Common.{◌≡◌, ◌⊎◌, inl, inr, ℕ, true, false, List, [], ◌∷◌, ◌++◌, Option, Some, None, sym, ap, subst, ◌∙◌}
use Rattle.lq_refined_rules.specs.Checks.Basis.{Basis}
use Rattle.lq_refined_rules.specs.Checks.Binders.{AreNewNames, IsNewName, arms_binders, operation_binders, block_binders}
use Rattle.lq_refined_rules.specs.Checks.Fitting.{Fits, fits_bind, fits_guard, GiveSimpleTypes, SimpleTypesAreGiven}
use Rattle.lq_refined_rules.specs.Checks.Match.{in_arm, is_data_match}
use Rattle.lq_refined_rules.specs.Checks.Operation.{body_context, body_type, built_type, field_types, recursive_context, recursive_type, type_of, bind, last_context, last_type}
use Rattle.lq_refined_rules.specs.Checks.Pure.{formula_of, pure_type, type_of_use}
use Rattle.lq_refined_rules.specs.Checks.Ready.{IsReadyBlock, IsReadyCase, IsReadyDefault, IsReadyFirst, IsReadyGiven, IsReadyOperation, SameType, SameTypes}
use Rattle.lq_refined_rules.specs.Checks.Tree.{names_of, is_arm_of, last_operation, passes_on, takes_all, Use, Pattern, Arms, no_arms, arm, Pure, Operation, pure, fun, if_else, match_on, call, tuple, build, make, fetch, store, divide, remainder, assert, assert_false, read, print, map_empty, map_add, map_find, Block, last, binding, recursive}
use Rattle.lq_refined_rules.specs.Checks.Typing as typing
use Rattle.lq_refined_rules.specs.Checks.Typing.{Points, AreTemplates, Types, HasPattern, HasOperation, HaveArms, HasBlock, HasEnd, HasProgram}
use Rattle.lq_sound_values.specs.Inclusion.Symbols.{Symbols, with_symbol, TypeOn}
use Rattle.lq_sound_scope.specs.Scopes.InScope as scopes
use Rattle.lq_sound_scope.specs.Scopes.InScope.{ArmsInScope, BlockInScope, InScope, NamesParameter, OperationInScope, PureInScope, no_names}
use Rattle.lq_sound_scope.specs.Scopes.Laws.{TypesAreOver}
use Rattle.lq_sound_scope.specs.Scopes.Over.{AreSorted, IsWithin, TypeOver, of_any_sort, with_argument}
use Rattle.lq_sound_values.specs.Inhabitants.Truth.{Objects, Scene}
use Rattle.lq_sound_scope.specs.Operations.Laws.{KeepNames, NamesAreKept}
use Rattle.lq_sound_values.specs.Instantiation.Instances.{HasNoVariables, NamesOutside}
use Rattle.lq_refined_types.specs.Parts.Assignment.{Assignment}
use Rattle.lq_sound_forms.specs.Quiet.Quiet.{IsValueBlock}
use Rattle.lq_refined_types.specs.Parts.Part.{known}
use Rattle.lq_sound_programs.specs.Plain.Plain.{ArePlainArguments, IsArmClosed, IsFlow, IsGivenOver, IsPlain, IsPlainBlock, IsPlainCase, IsPlainDefault, IsPlainFirst, IsPlainGiven, IsRecursionOver}
use Rattle.lq_sound_programs.proofs.PlainLemmas.Datatypes.{within_arm}
use Rattle.lq_sound_scope.specs.Environments.Laws.{RecursionsAreOver}
use Rattle.lq_logic_predicates.specs.Formula.{negation}
use Rattle.lq_sound_forms.specs.Pures.Pures.{EachUse, PureOver, scene_of}
use Rattle.lq_sound_forms.proofs.PuresLemmas.Values.{formula_over}
use Rattle.lq_refined_types.specs.Types.Context.{Context, guard}
use Rattle.lq_refined_types.specs.Types.Operations.{symbol_of}
use Rattle.lq_refined_types.specs.Types.Refined.{Refined, Refineds, none, more, int_with, bool_with, unit_type, function, tuple_of, array_with, data_with, map_with, type_variable, Kind, kind, argument_of, element_of, erased}
use Rattle.lq_sound_values.specs.Runs.Closed.{names_in, IsTypeOver, SortedOn}
use Rattle.lq_sound_values.proofs.RunsLemmas.Closing.{within_with, with_within}
use Rattle.lq_sound_programs.specs.Safety.Scoped.{AreDatatypesFor, IsOperand, NamesArgument}
use Rattle.lq_sound_scope.specs.Matrices.Laws.{ArgumentsLackFields, MatricesAreSorted}
use Rattle.lq_refined_types.specs.Subtyping.Splitting.{first_of, rest_of}
use Rattle.lq_refined_templates.specs.Templates.Scopes.{Unknown, symbols_in}
use Rattle.lq_sound_forms.specs.Tuples.Tuples.{AreUsable, HasComponentsOver}
use Rattle.lq_text_tree.specs.MlType as ml
use Rattle.lq_text_tree.specs.MlType.{MlType}
use Rattle.lq_sound_scope.specs.Scalars.Data.{HasDatatypes}
use Rattle.lq_sound_scope.specs.Scalars.Scalar.{HasNoTypeVariables, HaveTwins}
use Rattle.lq_sound_scope.specs.Scalars.Written.{end_point, AreArmsWritten, HasArm, IsBlockFor, IsBlockWritten, IsFunctionFor, IsNameless, IsNamedBy, IsOperationWritten}
use Rattle.lq_sound_scope.proofs.ScalarsLemmas.Contexts as contexts
use Rattle.lq_sound_scope.proofs.ScalarsLemmas.Builds.{AreFields, built_fine}
use Rattle.lq_sound_scope.proofs.ScalarsLemmas.Contexts.{IsKnown, fine_known, function_far, good_bind, good_guard, known_usable, near_bind, own_body, own_near, pure_fine, pure_over, pure_usable, small_bind, small_names, sorted_any, use_known, use_over, wide}
use Rattle.lq_sound_scope.proofs.ScalarsLemmas.Fine.{IsBuiltFine, argument_fine, element_fine, flow, nameless_fine, operation_fine, sort_within, typed}
use Rattle.lq_sound_scope.proofs.ScalarsLemmas.Forms.{function_scalar, nameless_block, twins_back, twins_front}
use Rattle.lq_sound_scope.proofs.ScalarsLemmas.NameKinds.{Agree, agree_back, agree_front, arms_kinds, block_kinds, given_kinds, name_kind, Naming, NoneIn, operation_kinds, pattern_kinds}
use Rattle.lq_sound_scope.proofs.ScalarsLemmas.Outside.{operation_outside}
use Rattle.lq_sound_scope.proofs.ScalarsLemmas.Patterns.{arm_names, arm_opened, components_over, matched_data, template_data}
use Rattle.lq_sound_scope.proofs.ScalarsLemmas.Twins.{AreSmall}
use Rattle.lq_sound_scope.proofs.ScalarsLemmas.Types.{none_variable}
use Rattle.lq_sound_scope.proofs.ScalarsLemmas.Uses.{IsKnownUse, PureOf, PuresOf, UseOf, names_of_pure, pure_more, pure_uses, pures_more, pures_uses, use_erased, use_more}
use Rattle.lq_sound_scope.proofs.ScalarsLemmas.Typings.{IsBuilt, IsSuited, RecursiveTyping, argument_in, arm_typing, binding_typing, built_typing, end_binding_typing, end_last_fits, end_last_typing, end_recursive_typing, fetch_typing, last_typing, others, recursive_typing, result_in, suited_given, suited_last, where_either, where_or}

module _ (over : TypesAreOver) (kept : NamesAreKept) (recursions : RecursionsAreOver) (given : SimpleTypesAreGiven) (matrices : MatricesAreSorted)
    (lack : ArgumentsLackFields) (P : Basis) (unknowns : ℕ → Unknown) (A : Assignment) (O : Objects) (sorted : AreSorted unknowns A)
    (agree : (u : ℕ) → P.setting.scopes u ≡ symbols_in (unknowns u).0) (datatypes : HasDatatypes P O) (Q : Points) (templates : AreTemplates P Q)
    (m : Naming) where
  give : GiveSimpleTypes P Q
  give = given P Q templates

  abbrev pub keep : KeepNames P.setting.constructors unknowns P.setting.scopes
  keep = kept P.setting.constructors unknowns P.setting.scopes agree

  abbrev S : Scene
  S = scene_of P A O

  abbrev Over : Symbols → Refined → Type 0
  Over N t = TypeOver P.setting.constructors unknowns (of_any_sort N) t

  abbrev Fine : Symbols → Refined → Type 0
  Fine = contexts.IsFine P unknowns keep m

  abbrev Known : Use → Type 0
  Known = IsKnownUse P unknowns keep m

  abbrev Good : Context → Type 0
  Good = contexts.IsGood P unknowns keep m

  told : (N : Symbols) (t : Refined) → Over N t → IsTypeOver S N t
  told N t h = typed P unknowns keep m over matrices A O sorted N t h

  given_over : (Γ : Context) (o : Operation) → IsTypeOver S (names_in Γ) (type_of P Γ o) → IsGivenOver P A O Γ o
  given_over Γ (pure e) h = inr h
  given_over Γ (fun p y b) h = h
  given_over Γ (if_else p c a b) h = h
  given_over Γ (match_on p u arms) h = h
  given_over Γ (call g a) h = h
  given_over Γ (tuple es) h = inr h
  given_over Γ (build p c es) h = h
  given_over Γ (make p n e) h = tt
  given_over Γ (fetch u i) h = h
  given_over Γ (store u i e) h = tt
  given_over Γ (divide x y) h = tt
  given_over Γ (remainder x y) h = tt
  given_over Γ (assert e) h = tt
  given_over Γ (assert_false p) h = h
  given_over Γ (read e) h = tt
  given_over Γ (print e) h = tt
  given_over Γ (map_empty p) h = tt
  given_over Γ (map_add p k e n) h = tt
  given_over Γ (map_find k n) h = tt

  -- ---- functions

  -- a result over a function's names is over the parameter
  result_over : (N : Symbols) (y : ℕ) (x : Option ℕ) → IsNamedBy y x → (k : Kind) (r : Refined)
      → TypeOver P.setting.constructors unknowns (with_argument (of_any_sort N) x k) r → Over (with_symbol N (symbol_of y)) r
  result_over N y None e k r h = wide P unknowns keep m N (with_symbol N (symbol_of y)) (within_with N (symbol_of y)) r h
  result_over N y (Some x) e k r h =
      subst (λ z. Over (with_symbol N (symbol_of z)) r) e
      (keep.widening (with_argument (of_any_sort N) (Some x) k) (of_any_sort (with_symbol N (symbol_of x))) (sort_within N k (symbol_of x)) r h)

  abbrev FunctionOver : Context → ℕ → Refined → Type 0
  FunctionOver Γ y t =
      NamesArgument A (names_in Γ) y t × IsTypeOver S (names_in Γ) (argument_of t)
      × TypeOn A (body_type P.setting.scopes y t) (names_in (body_context Γ y t))

  function_over : (Γ : Context) (y : ℕ) (b : Block) (t : Refined) → IsFunctionFor y b t → Over (names_in Γ) t → (u v : MlType)
      → erased t ≡ ml.arrow u v → FunctionOver Γ y t
  function_over Γ y b (function x a r) w h u v e = (
    names x w.0 (h.0.2, h.0.3),
    told (names_in Γ) a (h.0.0, h.0.1),
    subst (λ s. TypeOn A s (names_in (bind y a Γ))) (sym (own_body P m y x w.0 (kind a) r))
        (told (with_symbol (names_in Γ) (symbol_of y)) r (result_over (names_in Γ) y x w.0 (kind a) r (h.0.2, h.0.3))).0,
  )
    where
      names : (x : Option ℕ) → IsNamedBy y x → TypeOver P.setting.constructors unknowns (with_argument (of_any_sort (names_in Γ)) x (kind a)) r
          → NamesArgument A (names_in Γ) y (function x a r)
      names None k o = (told (names_in Γ) r o).0
      names (Some z) k o = k
  function_over Γ y b (int_with p) w h u v e = cc
  function_over Γ y b (bool_with p) w h u v e = cc
  function_over Γ y b unit_type w h u v e = cc
  function_over Γ y b (tuple_of ts) w h u v e = cc
  function_over Γ y b (array_with i p) w h u v e = cc
  function_over Γ y b (data_with d ts n p) w h u v e = cc
  function_over Γ y b (map_with i p) w h u v e = cc
  function_over Γ y b (type_variable i) w h u v e = cc

  abbrev pub BlockPlain : Block → Type 0
  BlockPlain b =
      (N : Symbols) (Γ : Context) → IsWithin N (names_in Γ) → Good Γ → (t : Refined) → BlockInScope P unknowns N b → IsBlockWritten P Known true b
      → IsReadyBlock P Γ b t → HaveTwins (block_binders b) → Agree m (block_kinds P Γ b t) → IsBlockFor b t → Over (names_in Γ) t → (Δ : Types)
      → Fits Δ Γ → HasBlock P Q Δ b (erased t) → IsPlainBlock P A O Γ b t

  -- the body of a function, against its type
  body_plain : (y : ℕ) (b : Block) → BlockPlain b → (N : Symbols) (Γ : Context) → IsWithin N (names_in Γ) → Good Γ → (t : Refined)
      → BlockInScope P unknowns (with_symbol N (symbol_of y)) b → IsBlockWritten P Known true b
      → IsReadyBlock P (body_context Γ y t) b (body_type P.setting.scopes y t) → HaveTwins (y ∷ block_binders b)
      → Agree m ((y, name_kind (argument_of t)) ∷ block_kinds P (body_context Γ y t) b (body_type P.setting.scopes y t)) → IsFunctionFor y b t
      → Over (names_in Γ) t → (Δ : Types) (u v : MlType) → Fits Δ Γ → HasBlock P Q ((y, u) ∷ Δ) b v → erased t ≡ ml.arrow u v
      → IsPlainBlock P A O (body_context Γ y t) b (body_type P.setting.scopes y t)
  body_plain y b plain N Γ w good (function x a r) scoped written ready twins kinds is h Δ u v fits typing e =
      let own = own_body P m y x is.0 (kind a) r in
      let fine = nameless_fine P unknowns keep m (names_in Γ) a is.1 (h.0.0, h.0.1) in
      let inner = good_bind P unknowns keep m Γ good y a twins.0 kinds.0 (fine_known P unknowns keep m (names_in Γ) a fine) in
      let f : v ≡ erased r = sym (ap result_in e) in
      subst (λ s. IsPlainBlock P A O (bind y a Γ) b s) (sym own)
      (plain (with_symbol N (symbol_of y)) (bind y a Γ) (with_within N (names_in Γ) (symbol_of y) w) inner r scoped written
      (subst (λ s. IsReadyBlock P (bind y a Γ) b s) own ready) twins.1 (subst (λ s. Agree m (block_kinds P (bind y a Γ) b s)) own kinds.1) is.2
      (result_over (names_in Γ) y x is.0 (kind a) r (h.0.2, h.0.3)) ((y, u) ∷ Δ) (fits_bind (ap argument_in e) fits)
      (subst (λ s. HasBlock P Q ((y, u) ∷ Δ) b s) f typing))
  body_plain y b plain N Γ w good (int_with p) scoped written ready twins kinds is h Δ u v fits typing e = cc
  body_plain y b plain N Γ w good (bool_with p) scoped written ready twins kinds is h Δ u v fits typing e = cc
  body_plain y b plain N Γ w good unit_type scoped written ready twins kinds is h Δ u v fits typing e = cc
  body_plain y b plain N Γ w good (tuple_of ts) scoped written ready twins kinds is h Δ u v fits typing e = cc
  body_plain y b plain N Γ w good (array_with i p) scoped written ready twins kinds is h Δ u v fits typing e = cc
  body_plain y b plain N Γ w good (data_with d ts n p) scoped written ready twins kinds is h Δ u v fits typing e = cc
  body_plain y b plain N Γ w good (map_with i p) scoped written ready twins kinds is h Δ u v fits typing e = cc
  body_plain y b plain N Γ w good (type_variable i) scoped written ready twins kinds is h Δ u v fits typing e = cc

  -- ---- operands

  operand_of : (N : Symbols) (Γ : Context) → IsWithin N (names_in Γ) → (e : Pure) → PureInScope P unknowns N e → EachUse Known e
      → PureOf P unknowns keep m (names_in Γ) e
  operand_of N Γ w e scoped written = pure_more P unknowns keep m N (names_in Γ) w e (pure_uses P unknowns keep m N e scoped written)

  -- a condition speaks of the environment's names
  condition_over : (N : Symbols) (Γ : Context) → IsWithin N (names_in Γ) → (e : Pure) → PureInScope P unknowns N e → EachUse Known e
      → SortedOn (names_in Γ) (names_in Γ) (formula_of e)
  condition_over N Γ w e scoped written =
      sorted_any (names_in Γ) (formula_of e)
      (formula_over (names_in Γ) e (names_of_pure P unknowns keep m (names_in Γ) e (operand_of N Γ w e scoped written)))

  operand_over : (N : Symbols) (Γ : Context) → IsWithin N (names_in Γ) → Good Γ → (e : Pure) → PureInScope P unknowns N e → EachUse Known e
      → PureOver P A Γ e
  operand_over N Γ w good e scoped written = pure_over P unknowns keep m over A O sorted Γ good e (operand_of N Γ w e scoped written)

  operand : (Γ : Context) → Good Γ → (e : Pure) → PureOf P unknowns keep m (names_in Γ) e → IsOperand P A O Γ e
  operand Γ good e o = (pure_over P unknowns keep m over A O sorted Γ good e o, pure_usable P unknowns keep m over A O sorted Γ good e o)

  operands : (Γ : Context) → Good Γ → (es : List Pure) → PuresOf P unknowns keep m (names_in Γ) es → AreUsable P A O Γ es
  operands Γ good [] o = tt
  operands Γ good (e ∷ es) o =
      (pure_over P unknowns keep m over A O sorted Γ good e o.0, pure_usable P unknowns keep m over A O sorted Γ good e o.0, operands Γ good es o.1)

  -- ---- a recursive function's name in the environment

  recursive_good : (N : Symbols) (Γ : Context) → IsWithin N (names_in Γ) → Good Γ → (g p y : ℕ) (b : Block) → Over N (P.template p)
      → IsFunctionFor y b (P.template p) → IsNewName y (bind g (P.template p) Γ)
      → IsReadyBlock P (recursive_context P Γ g p y) b (recursive_type P p y) → HaveTwins (g ∷ y ∷ block_binders b)
      → Agree m ((g, name_kind (P.template p)) ∷ (y, name_kind (argument_of (P.template p))) ∷ block_kinds P (recursive_context P Γ g p y) b (recursive_type P p y))
      → Good (bind g (P.template p) Γ)
  recursive_good N Γ w good g p y b h is new ready twins kinds =
      let t = P.template p in
      let small = small_names P unknowns keep m Γ good in
      let far = function_far P m y b (bind g t Γ) t (names_in Γ) (near_bind (names_in Γ) Γ g t (own_near Γ))
      (small_bind Γ g t small twins.0) new ready twins.1 kinds.1 is in
      let fine : Fine (names_in Γ) t =
      record { scalar = function_scalar y p b t is; over = wide P unknowns keep m N (names_in Γ) w t h; apart = far.0; named = far.1 } in
      good_bind P unknowns keep m Γ good g t twins.0 kinds.0 (fine_known P unknowns keep m (names_in Γ) t fine)

  -- a recursive function, by what is plain of its body
  pub recursive_by : (b : Block) → BlockPlain b → (N : Symbols) (Γ : Context) → IsWithin N (names_in Γ) → Good Γ → (g p y : ℕ) → Over N (P.template p)
      → NamesParameter y (P.template p) → BlockInScope P unknowns (with_symbol (with_symbol N (symbol_of g)) (symbol_of y)) b
      → IsFunctionFor y b (P.template p) → IsBlockWritten P Known true b → IsNewName y (bind g (P.template p) Γ)
      → IsReadyBlock P (recursive_context P Γ g p y) b (recursive_type P p y) → HaveTwins (g ∷ y ∷ block_binders b)
      → Agree m ((g, name_kind (P.template p)) ∷ (y, name_kind (argument_of (P.template p))) ∷ block_kinds P (recursive_context P Γ g p y) b (recursive_type P p y))
      → (Δ : Types) → Fits Δ Γ → RecursiveTyping P Q Δ g p y b
      → (IsRecursionOver P A O Γ g p y × IsPlainBlock P A O (recursive_context P Γ g p y) b (recursive_type P p y)) × Good (bind g (P.template p) Γ)
  recursive_by b plain N Γ w good g p y h named scoped is written new ready twins kinds Δ fits typing =
      let t = P.template p in
      let inner = recursive_good N Γ w good g p y b h is new ready twins kinds in
      let M = with_symbol N (symbol_of g) in
      let v : IsWithin M (names_in (bind g t Γ)) = with_within N (names_in Γ) (symbol_of g) w in (
        (
          recursions P unknowns A O sorted agree N Γ w g p y h named,
          body_plain y b plain M (bind g t Γ) v inner t scoped written ready twins.1 kinds.1 is
              (wide P unknowns keep m N (names_in (bind g t Γ)) (λ z k. within_with (names_in Γ) (symbol_of g) z (w z k)) t h)
              ((g, Q.point p) ∷ Δ) typing.0
              typing.1.0 (fits_bind (templates.templates p) fits) typing.1.1.0 (templates.templates p ∙ typing.1.1.1),
        ),
        inner,
      )

  -- ---- arms

  matched : (Γ : Context) → Good Γ → (u : Use) → UseOf P unknowns keep m (names_in Γ) u → is_data_match P Γ u ≡ true → AreDatatypesFor P A O Γ u
  matched = matched_data over matrices lack P unknowns keep m agree A O sorted datatypes

  over_components : (N : Symbols) (t : Refined) → IsKnown P unknowns keep m N t → HasComponentsOver A N t
  over_components = components_over over matrices lack P unknowns keep m agree A O sorted datatypes

  -- one arm, by what is plain of its block
  arm_by : (q : Pattern) (b : Block) → BlockPlain b → (N : Symbols) (Γ : Context) → IsWithin N (names_in Γ) → Good Γ → (u : Use)
      → UseOf P unknowns keep m (names_in Γ) u
      → (t : Refined) → BlockInScope P unknowns (scopes.with_names N (names_of q)) b → IsBlockWritten P Known true b
      → AreNewNames (names_of q) Γ × IsReadyBlock P (in_arm P Γ u q) b t → HaveTwins (names_of q ++ block_binders b)
      → Agree m (pattern_kinds P Γ u q ++ block_kinds P (in_arm P Γ u q) b t) → IsNameless t → Over (names_in Γ) t → (Δ Θ : Types) → Fits Δ Γ
      → HasPattern P Δ (typing.type_of_use Q Δ u) q Θ → HasBlock P Q Θ b (erased t)
      → IsArmClosed P A O Γ u q × IsPlainBlock P A O (in_arm P Γ u q) b t
  arm_by q b plain N Γ w good u used t scoped written ready twins kinds is h Δ Θ fits pattern typing =
      let Λ = in_arm P Γ u q in
      let opened = arm_opened over matrices lack P unknowns keep m agree A O sorted datatypes Q templates Γ good u used q Δ Θ fits pattern ready.0
      (twins_front (names_of q) (block_binders b) twins) (agree_front m (pattern_kinds P Γ u q) (block_kinds P Λ b t) kinds) in (
        opened.1,
        plain (scopes.with_names N (names_of q)) Λ
            (arm_names over matrices lack P unknowns keep m agree A O sorted datatypes N Γ w u q) opened.0 t scoped written ready.1
            (twins_back (names_of q) (block_binders b) twins) (agree_back m (pattern_kinds P Γ u q) (block_kinds P Λ b t) kinds)
            (nameless_block b t is)
            (wide P unknowns keep m (names_in Γ) (names_in Λ) (within_arm P Γ u q) t h) Θ (give.arms Δ Θ Γ u q fits pattern) typing,
      )

  -- of arms: from what is ready to what is plain
  abbrev ArmsPlain : Arms → (Context → Use → Refined → Type 0) → (Context → Use → Refined → Type 0) → Type 0
  ArmsPlain arms Ready Plain =
      (N : Symbols) (Γ : Context) → IsWithin N (names_in Γ) → Good Γ → (u : Use) → UseOf P unknowns keep m (names_in Γ) u →
      (t : Refined) → ArmsInScope P unknowns N arms
      → AreArmsWritten P Known arms → Ready Γ u t → HaveTwins (arms_binders arms) → Agree m (arms_kinds P Γ u arms t) → IsNameless t
      → Over (names_in Γ) t
      → (Δ : Types) → Fits Δ Γ → HaveArms P Q Δ (typing.type_of_use Q Δ u) arms (erased t) → Plain Γ u t

  -- ---- constructors

  built : (N : Symbols) (Γ : Context) → IsWithin N (names_in Γ) → (p c : ℕ) (es : List Pure) → IsBuilt P Q p c es → Over N (P.template p)
      → IsNameless (P.template p) → PuresOf P unknowns keep m (names_in Γ) es → SameTypes P Γ es (field_types P Γ p c es)
      → Fine (names_in Γ) (built_type P Γ p c es) × AreFields P unknowns keep m agree (names_in Γ) (field_types P Γ p c es)
  built N Γ w p c es is h nameless o same =
      let t = P.template p in
      built_fine P unknowns keep m agree datatypes.equations Γ c es is.made is.arguments t is.there (templates.templates p ∙ is.point)
      nameless (wide P unknowns keep m N (names_in Γ) w t h) is.count o same

  -- where the operation is a constructor, its value's type is fine
  built_ok : (o : Operation) (N : Symbols) (Γ : Context) → IsWithin N (names_in Γ) → (t : Refined) (Δ : Types) → Fits Δ Γ → {a : MlType}
      → HasOperation P Q Δ o a
      → OperationInScope P unknowns N o → IsOperationWritten P Known o → IsReadyOperation P Γ o t → IsBuiltFine P unknowns keep m Γ o
  built_ok (build p c es) N Γ w t Δ fits typing scoped written ready =
      (built N Γ w p c es (built_typing P Q typing) scoped.0 written.1 (pures_more P unknowns keep m N (names_in Γ) w es (pures_uses P unknowns keep m N es scoped.1 written.0))
      ready).0
  built_ok (pure e) N Γ w t Δ fits typing scoped written ready = tt
  built_ok (fun p y b) N Γ w t Δ fits typing scoped written ready = tt
  built_ok (if_else p c x z) N Γ w t Δ fits typing scoped written ready = tt
  built_ok (match_on p u arms) N Γ w t Δ fits typing scoped written ready = tt
  built_ok (call g e) N Γ w t Δ fits typing scoped written ready = tt
  built_ok (tuple es) N Γ w t Δ fits typing scoped written ready = tt
  built_ok (make p n e) N Γ w t Δ fits typing scoped written ready = tt
  built_ok (fetch u i) N Γ w t Δ fits typing scoped written ready =
      let f = fetch_typing P Q typing in (f.0, use_erased P Q templates Δ Γ fits u ∙ f.1)
  built_ok (store u i e) N Γ w t Δ fits typing scoped written ready = tt
  built_ok (divide x y) N Γ w t Δ fits typing scoped written ready = tt
  built_ok (remainder x y) N Γ w t Δ fits typing scoped written ready = tt
  built_ok (assert e) N Γ w t Δ fits typing scoped written ready = tt
  built_ok (assert_false p) N Γ w t Δ fits typing scoped written ready = tt
  built_ok (read e) N Γ w t Δ fits typing scoped written ready = tt
  built_ok (print e) N Γ w t Δ fits typing scoped written ready = tt
  built_ok (map_empty p) N Γ w t Δ fits typing scoped written ready = tt
  built_ok (map_add p k e n) N Γ w t Δ fits typing scoped written ready = tt
  built_ok (map_find k n) N Γ w t Δ fits typing scoped written ready = tt

  first_field : (N : Symbols) (ts : Refineds) → AreFields P unknowns keep m agree N ts → IsNameless (first_of ts) × Over N (first_of ts)
  first_field N none h = ((tt, tt), (tt, tt))
  first_field N (more t ts) h = h.0

  rest_fields : (N : Symbols) (ts : Refineds) → AreFields P unknowns keep m agree N ts → AreFields P unknowns keep m agree N (rest_of ts)
  rest_fields N none h = tt
  rest_fields N (more t ts) h = h.1

  arguments_plain : (Γ : Context) → Good Γ → (es : List Pure) (ts : Refineds) → PuresOf P unknowns keep m (names_in Γ) es
      → AreFields P unknowns keep m agree (names_in Γ) ts → ArePlainArguments P A O Γ es ts
  arguments_plain Γ good [] ts o h = tt
  arguments_plain Γ good (e ∷ es) ts o h =
      let to = first_field (names_in Γ) ts h in (
        flow P unknowns keep m over matrices A O sorted (names_in Γ) good.clean (pure_type P Γ e) (first_of ts)
            (pure_fine P unknowns keep m Γ good e o.0) to.0 to.1,
        arguments_plain Γ good es (rest_of ts) o.1 (rest_fields (names_in Γ) ts h),
      )

  -- ---- operations and blocks

  mutual
    operation_plain : (o : Operation) (N : Symbols) (Γ : Context) → IsWithin N (names_in Γ) → Good Γ → (t : Refined) → OperationInScope P unknowns N o
        → IsOperationWritten P Known o → IsReadyOperation P Γ o t → HaveTwins (operation_binders o) → Agree m (operation_kinds P Γ o t)
        → Over (names_in Γ) t → (Δ : Types) → Fits Δ Γ → IsSuited P Q Δ o t → IsPlain P A O Γ o t
    operation_plain (pure e) N Γ w good t scoped written ready twins kinds h Δ fits suited = operand Γ good e (operand_of N Γ w e scoped written)
    operation_plain (fun p y b) N Γ w good t scoped written ready twins kinds h Δ fits suited =
        let is = suited.0 in
        let f = function_over Γ y b t is h suited.1.0 suited.1.1.0 suited.1.1.1.1 in (
          f.0,
          f.1,
          f.2,
          body_plain y b (λ M Θ i k s j z q u c v n Ψ l d. block_plain b M Θ i k s j z q u c v n Ψ l d) N Γ w good t scoped.2 written ready.1 twins
              kinds is h Δ suited.1.0 suited.1.1.0 fits suited.1.1.1.0 suited.1.1.1.1,
        )
    operation_plain (if_else p c a b) N Γ w good t scoped written ready twins kinds h Δ fits suited =
        let x = guard (known (formula_of c)) ∷ Γ in
        let y = guard (known (negation (formula_of c))) ∷ Γ in
        let told_of = condition_over N Γ w c scoped.1 written.0 in (
          operand_over N Γ w good c scoped.1 written.0,
          block_plain a N x (λ z k. w z k) (good_guard P unknowns keep m Γ (known (formula_of c)) told_of good) t scoped.2 written.1 ready.0
              (twins_front (block_binders a) (block_binders b) twins) (agree_front m (block_kinds P x a t) (block_kinds P y b t) kinds)
              (nameless_block a t suited.0) h Δ (fits_guard fits) suited.1,
          block_plain b N y (λ z k. w z k) (good_guard P unknowns keep m Γ (known (negation (formula_of c))) told_of good) t scoped.3 written.2 ready.1
              (twins_back (block_binders a) (block_binders b) twins) (agree_back m (block_kinds P x a t) (block_kinds P y b t) kinds)
              (nameless_block b t suited.0) h Δ (fits_guard fits) suited.2,
        )
    operation_plain (match_on p u arms) N Γ w good t scoped written ready twins kinds h Δ fits suited =
        let used : UseOf P unknowns keep m (names_in Γ) u = use_more P unknowns keep m N (names_in Γ) w u scoped.1 written.0 in
        let own = type_of_use P Γ u in
        let known = use_known P unknowns keep m Γ good u used in (
          use_over P unknowns keep m over A O sorted Γ good u used,
          inr (known_usable P unknowns keep m over A O sorted Γ good own known),
          where_either (is_data_match P Γ u) (((c : ℕ) → IsReadyCase P Γ u c t arms) × IsReadyDefault P Γ u arms t) (IsReadyFirst P Γ u arms t)
              (AreDatatypesFor P A O Γ u × ((c : ℕ) → IsPlainCase P A O Γ u c t arms) × IsPlainDefault P A O Γ u t arms)
              (HasComponentsOver A (names_in Γ) own × IsPlainFirst P A O Γ u t arms) ready
              (λ is r. (
                matched Γ good u used is,
                (λ c. case_plain arms c N Γ w good u used t scoped.2 written.2 (r.0 c) twins kinds suited.0 h Δ fits suited.1),
                default_plain arms N Γ w good u used t scoped.2 written.2 r.1 twins kinds suited.0 h Δ fits suited.1,
              ))
              (λ is r. (
                over_components (names_in Γ) own known,
                first_plain arms written.1 N Γ w good u used t scoped.2 written.2 r twins kinds suited.0 h Δ fits suited.1,
              )),
        )
    operation_plain (call g a) N Γ w good t scoped written ready twins kinds h Δ fits suited =
        let over_g = operand_of N Γ w g scoped.0 written.0 in
        let over_a = operand_of N Γ w a scoped.1 written.1 in
        let fine_g = pure_fine P unknowns keep m Γ good g over_g in
        let to = argument_fine P unknowns keep m (names_in Γ) (pure_type P Γ g) fine_g.scalar fine_g.over in (
          operand Γ good g over_g,
          operand Γ good a over_a,
          flow P unknowns keep m over matrices A O sorted (names_in Γ) good.clean (pure_type P Γ a) (argument_of (pure_type P Γ g))
              (pure_fine P unknowns keep m Γ good a over_a) to.0 to.1,
        )
    operation_plain (tuple es) N Γ w good t scoped written ready twins kinds h Δ fits suited =
        operands Γ good es (pures_more P unknowns keep m N (names_in Γ) w es (pures_uses P unknowns keep m N es scoped written))
    operation_plain (build p c es) N Γ w good t scoped written ready twins kinds h Δ fits suited =
        let o = pures_more P unknowns keep m N (names_in Γ) w es (pures_uses P unknowns keep m N es scoped.1 written.0) in
        let all = built N Γ w p c es suited scoped.0 written.1 o ready in (
          operands Γ good es o,
          arguments_plain Γ good es (field_types P Γ p c es) o all.1,
          datatypes.measures,
          (λ k e.
              template_data over matrices lack P unknowns keep m agree A O sorted datatypes (names_in Γ) good.clean (P.template p) written.1
              (wide P unknowns keep m N (names_in Γ) w (P.template p) scoped.0) c suited.made k suited.arguments
              (templates.templates p ∙ suited.point) suited.there e),
        )
    operation_plain (make p n e) N Γ w good t scoped written ready twins kinds h Δ fits suited =
        let over_e = operand_of N Γ w e scoped.2 written.1 in
        let o = wide P unknowns keep m N (names_in Γ) w (P.template p) scoped.0 in (
          operand_over N Γ w good n scoped.1 written.0,
          operand Γ good e over_e,
          told (names_in Γ) (P.template p) o,
          flow P unknowns keep m over matrices A O sorted (names_in Γ) good.clean (pure_type P Γ e) (P.template p)
              (pure_fine P unknowns keep m Γ good e over_e) written.2 o,
        )
    operation_plain (fetch u i) N Γ w good t scoped written ready twins kinds h Δ fits suited =
        (use_over P unknowns keep m over A O sorted Γ good u (use_more P unknowns keep m N (names_in Γ) w u scoped.0 written.0), operand_over N Γ w good i scoped.1 written.1)
    operation_plain (store u i e) N Γ w good t scoped written ready twins kinds h Δ fits suited =
        let used : UseOf P unknowns keep m (names_in Γ) u = use_more P unknowns keep m N (names_in Γ) w u scoped.0 written.0 in
        let k = use_known P unknowns keep m Γ good u used in
        let T = type_of_use P Γ u in
        let to = element_fine P unknowns keep m (names_in Γ) T suited.0 (use_erased P Q templates Δ Γ fits u ∙ suited.1) k.scalar
        (wide P unknowns keep m k.own (names_in Γ) k.within T k.over) in
        let over_e = operand_of N Γ w e scoped.2 written.2 in (
          use_over P unknowns keep m over A O sorted Γ good u used,
          operand_over N Γ w good i scoped.1 written.1,
          operand Γ good e over_e,
          flow P unknowns keep m over matrices A O sorted (names_in Γ) good.clean (pure_type P Γ e) (element_of T)
              (pure_fine P unknowns keep m Γ good e over_e) to.0 to.1,
        )
    operation_plain (divide x y) N Γ w good t scoped written ready twins kinds h Δ fits suited =
        (operand_over N Γ w good x scoped.0 written.0, operand_over N Γ w good y scoped.1 written.1)
    operation_plain (remainder x y) N Γ w good t scoped written ready twins kinds h Δ fits suited =
        (operand_over N Γ w good x scoped.0 written.0, operand_over N Γ w good y scoped.1 written.1)
    operation_plain (assert e) N Γ w good t scoped written ready twins kinds h Δ fits suited = operand_over N Γ w good e scoped written
    operation_plain (assert_false p) N Γ w good t scoped written ready twins kinds h Δ fits suited = tt
    operation_plain (read e) N Γ w good t scoped written ready twins kinds h Δ fits suited = operand_over N Γ w good e scoped written
    operation_plain (print e) N Γ w good t scoped written ready twins kinds h Δ fits suited = operand_over N Γ w good e scoped written
    operation_plain (map_empty p) N Γ w good t scoped written ready twins kinds h Δ fits suited = absurd written
    operation_plain (map_add p k e n) N Γ w good t scoped written ready twins kinds h Δ fits suited = absurd written
    operation_plain (map_find k n) N Γ w good t scoped written ready twins kinds h Δ fits suited = absurd written

    case_plain : (arms : Arms) (c : ℕ) → ArmsPlain arms (λ Γ u t. IsReadyCase P Γ u c t arms) (λ Γ u t. IsPlainCase P A O Γ u c t arms)
    case_plain no_arms c N Γ w good u used t scoped written ready twins kinds is h Δ fits typing = tt
    case_plain (arm q b arms) c N Γ w good u used t scoped written ready twins kinds is h Δ fits typing =
        let Λ = in_arm P Γ u q in
        let d = arm_typing P Q typing in
        let own = pattern_kinds P Γ u q ++ block_kinds P Λ b t in
        where_either (is_arm_of c q) (AreNewNames (names_of q) Γ × IsReadyBlock P Λ b t) (IsReadyCase P Γ u c t arms)
        (IsArmClosed P A O Γ u q × IsPlainBlock P A O Λ b t) (IsPlainCase P A O Γ u c t arms) ready
        (λ e r.
        arm_by q b (λ M Θ i k s j z e v c a n Ψ l g. block_plain b M Θ i k s j z e v c a n Ψ l g) N Γ w good u used t scoped.0 written.0 r
        (twins_front (names_of q ++ block_binders b) (arms_binders arms) twins)
        (agree_front m own (arms_kinds P Γ u arms t) kinds) is h Δ d.0 fits d.1.0
        d.1.1)
        (λ e r.
        case_plain arms c N Γ w good u used t scoped.1 written.1 r (twins_back (names_of q ++ block_binders b) (arms_binders arms) twins)
        (agree_back m own (arms_kinds P Γ u arms t) kinds) is h Δ fits d.1.2)

    default_plain : (arms : Arms) → ArmsPlain arms (λ Γ u t. IsReadyDefault P Γ u arms t) (λ Γ u t. IsPlainDefault P A O Γ u t arms)
    default_plain no_arms N Γ w good u used t scoped written ready twins kinds is h Δ fits typing = tt
    default_plain (arm q b arms) N Γ w good u used t scoped written ready twins kinds is h Δ fits typing =
        let Λ = in_arm P Γ u q in
        let d = arm_typing P Q typing in
        let own = pattern_kinds P Γ u q ++ block_kinds P Λ b t in
        where_either (takes_all q) (AreNewNames (names_of q) Γ × IsReadyBlock P Λ b t) (IsReadyDefault P Γ u arms t)
        (IsArmClosed P A O Γ u q × IsPlainBlock P A O Λ b t) (IsPlainDefault P A O Γ u t arms) ready
        (λ e r.
        arm_by q b (λ M Θ i k s j z e v c a n Ψ l g. block_plain b M Θ i k s j z e v c a n Ψ l g) N Γ w good u used t scoped.0 written.0 r
        (twins_front (names_of q ++ block_binders b) (arms_binders arms) twins)
        (agree_front m own (arms_kinds P Γ u arms t) kinds) is h Δ d.0 fits d.1.0
        d.1.1)
        (λ e r.
        default_plain arms N Γ w good u used t scoped.1 written.1 r (twins_back (names_of q ++ block_binders b) (arms_binders arms) twins)
        (agree_back m own (arms_kinds P Γ u arms t) kinds) is h Δ fits d.1.2)

    first_plain : (arms : Arms) → HasArm arms → ArmsPlain arms (λ Γ u t. IsReadyFirst P Γ u arms t) (λ Γ u t. IsPlainFirst P A O Γ u t arms)
    first_plain no_arms e N Γ w good u used t scoped written ready twins kinds is h Δ fits typing = absurd e
    first_plain (arm q b arms) e N Γ w good u used t scoped written ready twins kinds is h Δ fits typing =
        let d = arm_typing P Q typing in
        arm_by q b (λ M Θ i k s j z e v c a n Ψ l g. block_plain b M Θ i k s j z e v c a n Ψ l g) N Γ w good u used t scoped.0 written.0 ready
        (twins_front (names_of q ++ block_binders b) (arms_binders arms) twins)
        (agree_front m (pattern_kinds P Γ u q ++ block_kinds P (in_arm P Γ u q) b t) (arms_kinds P Γ u arms t) kinds) is h Δ d.0 fits d.1.0 d.1.1

    pub block_plain : (b : Block) → BlockPlain b
    block_plain (last l o) N Γ w good t scoped written ready twins kinds is h Δ fits typing = (
      operation_plain o N Γ w good t scoped written.0 ready.0 twins kinds h Δ fits (suited_last P Q Δ o t (last_typing P Q typing) is),
      where_or (SameType (type_of P Γ o) t) (IsFlow S (names_in Γ) (type_of P Γ o) t) (passes_on o) ready.1
          (λ e same. let other = others P Q m Γ o t (type_of P Γ o) e is ready.0 in
          flow P unknowns keep m over matrices A O sorted (names_in Γ) good.clean (type_of P Γ o) t
          (operation_fine P unknowns keep m N Γ w good o
          (built_ok o N Γ w t Δ fits (last_typing P Q typing) scoped written.0 ready.0) scoped written.0 other.1 other.2 twins other.3) other.0 h),
    )
    block_plain (binding x l o b) N Γ w good t scoped written ready twins kinds is h Δ fits typing =
        let T = type_of P Γ o in
        let tf = twins_front (operation_binders o) (x ∷ block_binders b) twins in
        let tb = twins_back (operation_binders o) (x ∷ block_binders b) twins in
        let kf = agree_front m (operation_kinds P Γ o T) ((x, name_kind T) ∷ block_kinds P (bind x T Γ) b t) kinds in
        let kb = agree_back m (operation_kinds P Γ o T) ((x, name_kind T) ∷ block_kinds P (bind x T Γ) b t) kinds in
        let d = binding_typing P Q typing in
        let fine = operation_fine P unknowns keep m N Γ w good o
        (built_ok o N Γ w T Δ fits d.1.0 scoped.0 written.0 ready.0) scoped.0 written.0 written.1 ready.0
        tf kf in (
          operation_plain o N Γ w good T scoped.0 written.0 ready.0 tf kf fine.over Δ fits
              (suited_given P Q templates Δ Γ o d.0 d.1.0 d.1.1 written.1),
          given_over Γ o (told (names_in Γ) T fine.over),
          block_plain b (with_symbol N (symbol_of x)) (bind x T Γ) (with_within N (names_in Γ) (symbol_of x) w)
              (good_bind P unknowns keep m Γ good x T tb.0 kb.0 (fine_known P unknowns keep m (names_in Γ) T fine)) t scoped.1 written.2 ready.2 tb.1 kb.1
              (nameless_block b t is)
              (wide P unknowns keep m (names_in Γ) (names_in (bind x T Γ)) (within_with (names_in Γ) (symbol_of x)) t h) ((x, d.0) ∷ Δ)
              (fits_bind (give.operations Δ Γ o d.0 fits d.1.0 d.1.1) fits) d.1.2,
        )
    block_plain (recursive g p y b c) N Γ w good t scoped written ready twins kinds is h Δ fits typing =
        let T = P.template p in
        let Kb = block_kinds P (recursive_context P Γ g p y) b (recursive_type P p y) in
        let Kc = block_kinds P (bind g T Γ) c t in
        let d = recursive_typing P Q typing in
        let r = recursive_by b (λ M Θ i k s j z q u a v n Ψ l f. block_plain b M Θ i k s j z q u a v n Ψ l f) N Γ w good g p y scoped.0 scoped.1 scoped.2 written.0
        written.1 ready.0.1 ready.0.2 (twins.0, (twins.1.0, twins_front (block_binders b) (block_binders c) twins.1.1))
        (kinds.0, (kinds.1.0, agree_front m Kb Kc kinds.1.1)) Δ fits d.0 in (
          r.0.0,
          r.0.1,
          block_plain c (with_symbol N (symbol_of g)) (bind g T Γ) (with_within N (names_in Γ) (symbol_of g) w) r.1 t scoped.3 written.2 ready.1
              (twins_back (block_binders b) (block_binders c) twins.1.1) (agree_back m Kb Kc kinds.1.1) (nameless_block c t is)
              (wide P unknowns keep m (names_in Γ) (names_in (bind g T Γ)) (within_with (names_in Γ) (symbol_of g)) t h) ((g, Q.point p) ∷ Δ)
              (fits_bind (templates.templates p) fits) d.1,
        )

  -- ---- blocks of which no type is expected

  pub record IsGivenPlain (Γ : Context) (b : Block) (Θ : Types) (a : MlType) : Type 0 where
    pub plain : IsPlainGiven P A O Γ b
    pub good : Good (last_context P Γ b)
    pub within : IsWithin (names_in Γ) (names_in (last_context P Γ b))
    pub fine : Fine (names_in (last_context P Γ b)) (last_type P Γ b)
    pub fits : Fits Θ (last_context P Γ b)
    pub typed : erased (last_type P Γ b) ≡ a
    -- its type names no argument by one of these names, where no parameter of its last operation is one
    pub outside : (M : Symbols) → AreSmall M → NoneIn M (operation_binders (last_operation b)) → NamesOutside M (last_type P Γ b)

  pub given_plain : (b : Block) (N : Symbols) (Γ : Context) → IsWithin N (names_in Γ) → Good Γ → BlockInScope P unknowns N b
      → IsBlockWritten P Known false b
      → IsReadyGiven P Γ b → HaveTwins (block_binders b) → Agree m (given_kinds P Γ b) → (Δ Θ : Types) (a : MlType) → Fits Δ Γ
      → HasEnd P Q Δ b Θ a → IsGivenPlain Γ b Θ a
  given_plain (last l o) N Γ w good scoped written ready twins kinds Δ Θ a fits typing =
      let T = type_of P Γ o in
      let d = end_last_typing P Q typing in
      let fine = operation_fine P unknowns keep m N Γ w good o
      (built_ok o N Γ w T Δ fits d.0 scoped written.0 ready) scoped written.0 written.1 ready twins kinds in
      record {
        plain = (
          operation_plain o N Γ w good T scoped written.0 ready twins kinds fine.over Δ fits (suited_given P Q templates Δ Γ o a d.0 d.1 written.1),
          given_over Γ o (told (names_in Γ) T fine.over),
        );
        good = good;
        within = λ y k. k;
        fine = fine;
        fits = end_last_fits P Q typing fits;
        typed = give.operations Δ Γ o a fits d.0 d.1;
        outside = λ M small none.
            operation_outside M small P unknowns keep m N Γ w good o (built_ok o N Γ w T Δ fits d.0 scoped written.0 ready) scoped written.0 written.1
            fine.scalar none;
      }
  given_plain (binding x l o b) N Γ w good scoped written ready twins kinds Δ Θ a fits typing =
      let T = type_of P Γ o in
      let tf = twins_front (operation_binders o) (x ∷ block_binders b) twins in
      let tb = twins_back (operation_binders o) (x ∷ block_binders b) twins in
      let kf = agree_front m (operation_kinds P Γ o T) ((x, name_kind T) ∷ given_kinds P (bind x T Γ) b) kinds in
      let kb = agree_back m (operation_kinds P Γ o T) ((x, name_kind T) ∷ given_kinds P (bind x T Γ) b) kinds in
      let d = end_binding_typing P Q typing in
      let fine = operation_fine P unknowns keep m N Γ w good o
      (built_ok o N Γ w T Δ fits d.1.0 scoped.0 written.0 ready.0) scoped.0 written.0 written.1 ready.0
      tf kf in
      let r = given_plain b (with_symbol N (symbol_of x)) (bind x T Γ) (with_within N (names_in Γ) (symbol_of x) w)
      (good_bind P unknowns keep m Γ good x T tb.0 kb.0 (fine_known P unknowns keep m (names_in Γ) T fine)) scoped.1 written.2 ready.2 tb.1 kb.1
      ((x, d.0) ∷ Δ) Θ a (fits_bind (give.operations Δ Γ o d.0 fits d.1.0 d.1.1) fits) d.1.2 in
      record {
        plain = (
          operation_plain o N Γ w good T scoped.0 written.0 ready.0 tf kf fine.over Δ fits
              (suited_given P Q templates Δ Γ o d.0 d.1.0 d.1.1 written.1),
          given_over Γ o (told (names_in Γ) T fine.over),
          r.plain,
        );
        good = r.good;
        within = λ y k. r.within y (within_with (names_in Γ) (symbol_of x) y k);
        fine = r.fine;
        fits = r.fits;
        typed = r.typed;
        outside = λ M small none. r.outside M small none;
      }
  given_plain (recursive g p y b c) N Γ w good scoped written ready twins kinds Δ Θ a fits typing =
      let T = P.template p in
      let Kb = block_kinds P (recursive_context P Γ g p y) b (recursive_type P p y) in
      let Kc = given_kinds P (bind g T Γ) c in
      let d = end_recursive_typing P Q typing in
      let q = recursive_by b (block_plain b) N Γ w good g p y scoped.0 scoped.1 scoped.2 written.0 written.1 ready.0.1 ready.0.2
      (twins.0, (twins.1.0, twins_front (block_binders b) (block_binders c) twins.1.1))
      (kinds.0, (kinds.1.0, agree_front m Kb Kc kinds.1.1)) Δ fits d.0 in
      let r = given_plain c (with_symbol N (symbol_of g)) (bind g T Γ) (with_within N (names_in Γ) (symbol_of g) w) q.1 scoped.3 written.2 ready.1
      (twins_back (block_binders b) (block_binders c) twins.1.1) (agree_back m Kb Kc kinds.1.1) ((g, Q.point p) ∷ Δ) Θ a
      (fits_bind (templates.templates p) fits) d.1 in
      record {
        plain = (q.0.0, q.0.1, r.plain);
        good = r.good;
        within = λ z k. r.within z (within_with (names_in Γ) (symbol_of g) z k);
        fine = r.fine;
        fits = r.fits;
        typed = r.typed;
        outside = λ M small none. r.outside M small none;
      }

  -- ---- definitions

  -- a definition that is no value has a type without variables
  pub settled : (b : Block) (k : ℕ) (T : Refined) (a : MlType) → Q.point (end_point b k) ≡ a → erased T ≡ a
      → IsValueBlock b ⊎ HasNoTypeVariables (erased (P.template (end_point b k))) → IsValueBlock b ⊎ HasNoVariables T
  settled b k T a e f (inl v) = inl v
  settled b k T a e f (inr h) = inr (none_variable T (subst HasNoTypeVariables (templates.templates (end_point b k) ∙ e ∙ sym f) h))
