-- What operations and blocks are asked for speaks of names of environments: by recursion over blocks.
use Rattle.std.proofs.Common.{◌≡◌, inl, inr, ℕ, Bool, true, false, cond, List, [], ◌∷◌, ◌++◌, Option, Some, None, refl, sym, ap, subst, ◌∙◌}
use Rattle.std.specs.List.{All}
use Rattle.std.proofs.lemmas.List.Elements.{All-nil, All-cons, All-append}
use Rattle.lq_base_names.specs.declared.place.Place.{Place}
use Rattle.lq_refined_rules.specs.Checks.Basis.{Basis}
use Rattle.lq_refined_rules.specs.Checks.Binders.{AreNewNames, IsNewName, arms_binders, operation_binders, block_binders}
use Rattle.lq_refined_rules.specs.Checks.Fitting.{Fits, fits_bind, fits_guard, GiveSimpleTypes, SimpleTypesAreGiven}
use Rattle.lq_refined_rules.specs.Checks.Listing.{from}
use Rattle.lq_refined_rules.specs.Checks.Match.{in_arm, is_data_match, matched_constructors, missing_context, value_as}
use Rattle.lq_refined_rules.specs.Checks.Operation.{body_context, body_type, built_type, equations_by, field_types, in_range, last_context, last_type, not_negative, not_zero, recursive_context, recursive_type, type_of, bind}
use Rattle.lq_refined_rules.specs.Checks.Pure.{formula_of, pure_type, sum_of, type_of_use}
use Rattle.lq_refined_rules.specs.Checks.Ready.{IsReadyBlock, IsReadyCase, IsReadyDefault, IsReadyFirst, IsReadyGiven, IsReadyOperation, SameType, SameTypes, Where}
use Rattle.lq_refined_rules.specs.Checks.Tree.{names_of, is_arm_of, has_default, last_operation, passes_on, takes_all, Use, Pattern, Arms, no_arms, arm, Pure, Operation, pure, fun, if_else, match_on, call, tuple, build, make, fetch, store, divide, remainder, assert, assert_false, read, print, map_empty, map_add, map_find, Block, last, binding, recursive}
use Rattle.lq_refined_rules.specs.Checks.Typing as typing
use Rattle.lq_refined_rules.specs.Checks.Typing.{Points, AreTemplates, Types, HasPattern, HasOperation, HaveArms, HasBlock, HasEnd}
use Rattle.lq_sound_values.specs.Inclusion.Symbols.{Symbols, with_symbol, SumOn}
use Rattle.lq_sound_scope.specs.Scopes.InScope as scopes
use Rattle.lq_sound_scope.specs.Scopes.InScope.{ArmsInScope, BlockInScope, OperationInScope, PureInScope}
use Rattle.lq_sound_scope.specs.Scopes.Laws.{TypesAreOver}
use Rattle.lq_sound_scope.specs.Scopes.Over.{IsWithin, TypeOver, of_any_sort, with_argument}
use Rattle.lq_sound_scope.specs.Operations.Laws.{KeepNames, NamesAreKept}
use Rattle.lq_sound_values.specs.Instantiation.Instances.{NamesOutside}
use Rattle.lq_sound_values.specs.NewNames.NewNames.{HasNoNames, HaveNoNames}
use Rattle.lq_refined_rules.specs.Obligations.Obligation as asks
use Rattle.lq_refined_rules.specs.Obligations.Obligation.{Obligation}
use Rattle.lq_refined_rules.specs.Obligations.Obligations.{each, demand, subtyping, operands, of_operation, of_block, of_constructor, of_default, of_first, of_given, of_recursive}
use Rattle.lq_refined_types.specs.Parts.Part.{known}
use Rattle.lq_sound_programs.proofs.PlainLemmas.Datatypes.{within_arm}
use Rattle.lq_logic_predicates.specs.Formula.{Formula, falsity, negation}
use Rattle.lq_sound_forms.specs.Pures.Pures.{EachUse}
use Rattle.lq_sound_forms.proofs.PuresLemmas.Values.{formula_over, sum_over}
use Rattle.lq_refined_types.specs.Types.Context.{Context, guard}
use Rattle.lq_refined_types.specs.Types.Operations.{symbol_of}
use Rattle.lq_refined_types.specs.Types.Refined.{Refined, Refineds, none, more, int_with, bool_with, unit_type, function, tuple_of, array_with, data_with, map_with, type_variable, Kind, kind, argument_of, element_of, erased}
use Rattle.lq_sound_values.specs.Runs.Closed.{names_in, SortedOn}
use Rattle.lq_sound_values.proofs.RunsLemmas.Closing.{within_with, with_within}
use Rattle.lq_refined_types.specs.Subtyping.Implication.{of_argument, of_assertion, of_divisor, of_flow, of_length, of_index, of_case, Origin}
use Rattle.lq_refined_types.specs.Subtyping.Splitting.{first_of, rest_of}
use Rattle.lq_refined_templates.specs.Templates.Scopes.{Unknown, symbols_in}
use Rattle.lq_text_tree.specs.MlType as ml
use Rattle.lq_text_tree.specs.MlType.{MlType}
use Rattle.lq_sound_scope.specs.Splits.Bound.{HasNoBinders, HaveNoBinders}
use Rattle.lq_sound_scope.specs.Scalars.Data.{AreEquationsSorted}
use Rattle.lq_sound_scope.specs.Scalars.Scalar.{HaveTwins}
use Rattle.lq_sound_scope.specs.Scalars.Written.{AreArmsWritten, AreScalar, EachUseIn, IsBlockFor, IsBlockWritten, IsFunctionFor, IsNameless, IsNamedBy, IsOperationWritten, IsScalar}
use Rattle.lq_sound_scope.proofs.ScalarsLemmas.Contexts as contexts
use Rattle.lq_sound_scope.proofs.ScalarsLemmas.Builds.{AreFields, built_fine}
use Rattle.lq_sound_scope.proofs.ScalarsLemmas.Contexts.{IsKnown, fine_known, function_far, good_bind, good_guard, near_bind, own_body, own_near, pure_fine, small_bind, small_names, sorted_any, use_known, wide}
use Rattle.lq_sound_scope.proofs.ScalarsLemmas.Fine.{IsBuiltFine, argument_fine, element_fine, nameless_fine, operation_fine, sort_within}
use Rattle.lq_sound_scope.proofs.ScalarsLemmas.Forms.{function_scalar, nameless_block, twins_back, twins_front}
use Rattle.lq_sound_scope.proofs.ScalarsLemmas.NameKinds.{Agree, agree_back, agree_front, arms_kinds, block_kinds, given_kinds, name_kind, Naming, NoneIn, operation_kinds, pattern_kinds}
use Rattle.lq_sound_scope.proofs.ScalarsLemmas.Outside.{operation_outside}
use Rattle.lq_sound_scope.proofs.ScalarsLemmas.Twins.{AreSmall}
use Rattle.lq_sound_scope.proofs.ScalarsLemmas.Uses.{IsKnownUse, PureOf, PuresOf, UseOf, names_of_pure, pure_more, pure_uses, pures_more, pures_uses, use_erased, use_more}
use Rattle.lq_sound_scope.proofs.ScalarsLemmas.Typings.{IsBuilt, IsSuited, RecursiveTyping, argument_in, arm_typing, binding_typing, built_typing, end_binding_typing, end_last_fits, end_last_typing, end_recursive_typing, fetch_typing, last_typing, others, recursive_typing, result_in, suited_given, suited_last}
use Rattle.lq_sound_adequacy.specs.Subtypings.Bound.{IsBoundObligation}
use Rattle.lq_sound_adequacy.proofs.SubtypingsLemmas.Arms.{arm_good, arm_names}
use Rattle.lq_sound_adequacy.proofs.SubtypingsLemmas.Cases.{missing_over}

-- ---- types without names of arguments

mutual
  pub nameless_bare : (t : Refined) → IsScalar t → HasNoNames t → HasNoBinders t
  nameless_bare (int_with p) s h = tt
  nameless_bare (bool_with p) s h = tt
  nameless_bare unit_type s h = tt
  nameless_bare (function None a b) s h = (nameless_bare a s.0 h.0, nameless_bare b s.2 h.1)
  nameless_bare (function (Some x) a b) s h = h
  nameless_bare (tuple_of ts) s h = all_bare ts s h
  nameless_bare (array_with e p) s h = nameless_bare e s.0 h
  nameless_bare (data_with d ts m p) s h = all_bare ts s.0 h
  nameless_bare (map_with e p) s h = nameless_bare e s.0 s.1
  nameless_bare (type_variable i) s h = tt

  all_bare : (ts : Refineds) → AreScalar ts → HaveNoNames ts → HaveNoBinders ts
  all_bare none s h = tt
  all_bare (more t ts) s h = (nameless_bare t s.0 h.0, all_bare ts s.1 h.1)

module _ (over : TypesAreOver) (kept : NamesAreKept) (given : SimpleTypesAreGiven) (P : Basis) (unknowns : ℕ → Unknown)
    (agree : (u : ℕ) → P.setting.scopes u ≡ symbols_in (unknowns u).0) (equations : AreEquationsSorted P)
    (only : (c : ℕ) → P.setting.constructors c ≡ None → P.equations c ≡ []) (Q : Points) (templates : AreTemplates P Q) (m : Naming) where
  give : GiveSimpleTypes P Q
  give = given P Q templates

  abbrev pub keep : KeepNames P.setting.constructors unknowns P.setting.scopes
  keep = kept P.setting.constructors unknowns P.setting.scopes agree

  abbrev Over : Symbols → Refined → Type 0
  Over N t = TypeOver P.setting.constructors unknowns (of_any_sort N) t

  abbrev Fine : Symbols → Refined → Type 0
  Fine = contexts.IsFine P unknowns keep m

  abbrev Known : Use → Type 0
  Known = IsKnownUse P unknowns keep m

  abbrev Good : Context → Type 0
  Good = contexts.IsGood P unknowns keep m

  -- ---- lists of obligations

  abbrev IsB : Obligation → Type 0
  IsB = IsBoundObligation P unknowns

  abbrev pub Bound : List Obligation → Type 0
  Bound os = All IsB os

  pub none_bound : Bound []
  none_bound = All-nil IsB

  pub both : (os ps : List Obligation) → Bound os → Bound ps → Bound (os ++ ps)
  both os ps a b = All-append IsB os ps a b

  each_bound : (f : ℕ → List Obligation) → ((c : ℕ) → Bound (f c)) → (cs : List ℕ) → Bound (each f cs)
  each_bound f h [] = none_bound
  each_bound f h (c ∷ cs) = both (f c) (each f cs) (h c) (each_bound f h cs)

  -- one of two by a test, of one of two
  pub by_test : (b : Bool) (R S : Type 0) (os ps : List Obligation) → Where b R S → (b ≡ true → R → Bound os) → (b ≡ false → S → Bound ps)
      → Bound (cond b os ps)
  by_test true R S os ps h f g = f refl h
  by_test false R S os ps h f g = g refl h

  demand_bound : (Γ : Context) → Good Γ → (p : Formula) (o : Origin) → SortedOn (names_in Γ) (names_in Γ) p → Bound (demand P Γ p o)
  demand_bound Γ good p o h =
      All-cons IsB (record { context = Γ; asked = asks.holds p; origin = o }) [] (inl (record { environment = good.entries; asked = h })) none_bound

  pub subtyping_bound : (Γ : Context) → Good Γ → (l r : Refined) (o : Origin) → Over (names_in Γ) l → IsNameless r → Over (names_in Γ) r
      → Bound (subtyping P Γ l r o)
  subtyping_bound Γ good l r o h n w =
      All-cons IsB (record { context = Γ; asked = asks.fits l r; origin = o }) []
      (inl (record { environment = good.entries; asked = (h, w, nameless_bare r n.0 n.1) })) none_bound

  case_bound : (Γ : Context) → Good Γ → (u : Use) → names_in Γ (symbol_of u.name) ≡ true → (c : ℕ) (l : Place)
      → Bound (demand P (missing_context P Γ u c) falsity (from l of_case))
  case_bound Γ good u there c l =
      All-cons IsB (record { context = missing_context P Γ u c; asked = asks.holds falsity; origin = from l of_case }) []
      (inr
      (record {
        reason = refl;
        asked = refl;
        before = Γ;
        equations = equations_by P c (value_as u.name ∷ []);
        are = refl;
        environment = good.entries;
        over = missing_over P unknowns equations only (names_in Γ) u.name there c;
      })) none_bound

  -- ---- functions

  -- a result over a function's names is over the parameter
  result_over : (N : Symbols) (y : ℕ) (x : Option ℕ) → IsNamedBy y x → (k : Kind) (r : Refined)
      → TypeOver P.setting.constructors unknowns (with_argument (of_any_sort N) x k) r → Over (with_symbol N (symbol_of y)) r
  result_over N y None e k r h = wide P unknowns keep m N (with_symbol N (symbol_of y)) (within_with N (symbol_of y)) r h
  result_over N y (Some x) e k r h =
      subst (λ z. Over (with_symbol N (symbol_of z)) r) e
      (keep.widening (with_argument (of_any_sort N) (Some x) k) (of_any_sort (with_symbol N (symbol_of x))) (sort_within N k (symbol_of x)) r h)

  abbrev pub BlockBound : Block → Type 0
  BlockBound b =
      (N : Symbols) (Γ : Context) → IsWithin N (names_in Γ) → Good Γ → (t : Refined) → BlockInScope P unknowns N b → IsBlockWritten P Known true b
      → IsReadyBlock P Γ b t → HaveTwins (block_binders b) → Agree m (block_kinds P Γ b t) → IsBlockFor b t → Over (names_in Γ) t → (Δ : Types)
      → Fits Δ Γ → HasBlock P Q Δ b (erased t) → Bound (of_block P Γ b t)

  -- the body of a function, against its type
  body_bound : (y : ℕ) (b : Block) → BlockBound b → (N : Symbols) (Γ : Context) → IsWithin N (names_in Γ) → Good Γ → (t : Refined)
      → BlockInScope P unknowns (with_symbol N (symbol_of y)) b → IsBlockWritten P Known true b
      → IsReadyBlock P (body_context Γ y t) b (body_type P.setting.scopes y t) → HaveTwins (y ∷ block_binders b)
      → Agree m ((y, name_kind (argument_of t)) ∷ block_kinds P (body_context Γ y t) b (body_type P.setting.scopes y t)) → IsFunctionFor y b t
      → Over (names_in Γ) t → (Δ : Types) (u v : MlType) → Fits Δ Γ → HasBlock P Q ((y, u) ∷ Δ) b v → erased t ≡ ml.arrow u v
      → Bound (of_block P (body_context Γ y t) b (body_type P.setting.scopes y t))
  body_bound y b bound N Γ w good (function x a r) scoped written ready twins kinds is h Δ u v fits typing e =
      let own = own_body P m y x is.0 (kind a) r in
      let fine = nameless_fine P unknowns keep m (names_in Γ) a is.1 (h.0.0, h.0.1) in
      let inner = good_bind P unknowns keep m Γ good y a twins.0 kinds.0 (fine_known P unknowns keep m (names_in Γ) a fine) in
      let f : v ≡ erased r = sym (ap result_in e) in
      subst (λ s. Bound (of_block P (bind y a Γ) b s)) (sym own)
      (bound (with_symbol N (symbol_of y)) (bind y a Γ) (with_within N (names_in Γ) (symbol_of y) w) inner r scoped written
      (subst (λ s. IsReadyBlock P (bind y a Γ) b s) own ready) twins.1 (subst (λ s. Agree m (block_kinds P (bind y a Γ) b s)) own kinds.1) is.2
      (result_over (names_in Γ) y x is.0 (kind a) r (h.0.2, h.0.3)) ((y, u) ∷ Δ) (fits_bind (ap argument_in e) fits)
      (subst (λ s. HasBlock P Q ((y, u) ∷ Δ) b s) f typing))
  body_bound y b bound N Γ w good (int_with p) scoped written ready twins kinds is h Δ u v fits typing e = cc
  body_bound y b bound N Γ w good (bool_with p) scoped written ready twins kinds is h Δ u v fits typing e = cc
  body_bound y b bound N Γ w good unit_type scoped written ready twins kinds is h Δ u v fits typing e = cc
  body_bound y b bound N Γ w good (tuple_of ts) scoped written ready twins kinds is h Δ u v fits typing e = cc
  body_bound y b bound N Γ w good (array_with i p) scoped written ready twins kinds is h Δ u v fits typing e = cc
  body_bound y b bound N Γ w good (data_with d ts n p) scoped written ready twins kinds is h Δ u v fits typing e = cc
  body_bound y b bound N Γ w good (map_with i p) scoped written ready twins kinds is h Δ u v fits typing e = cc
  body_bound y b bound N Γ w good (type_variable i) scoped written ready twins kinds is h Δ u v fits typing e = cc

  -- ---- operands

  operand_of : (N : Symbols) (Γ : Context) → IsWithin N (names_in Γ) → (e : Pure) → PureInScope P unknowns N e → EachUse Known e
      → PureOf P unknowns keep m (names_in Γ) e
  operand_of N Γ w e scoped written = pure_more P unknowns keep m N (names_in Γ) w e (pure_uses P unknowns keep m N e scoped written)

  operands_of : (N : Symbols) (Γ : Context) → IsWithin N (names_in Γ) → (es : List Pure) → scopes.PuresInScope P unknowns N es → EachUseIn Known es
      → PuresOf P unknowns keep m (names_in Γ) es
  operands_of N Γ w es scoped written = pures_more P unknowns keep m N (names_in Γ) w es (pures_uses P unknowns keep m N es scoped written)

  number_over : (N : Symbols) (Γ : Context) → IsWithin N (names_in Γ) → (e : Pure) → PureInScope P unknowns N e → EachUse Known e
      → SumOn (names_in Γ) (sum_of e)
  number_over N Γ w e scoped written =
      sum_over (names_in Γ) e (names_of_pure P unknowns keep m (names_in Γ) e (operand_of N Γ w e scoped written))

  condition_over : (N : Symbols) (Γ : Context) → IsWithin N (names_in Γ) → (e : Pure) → PureInScope P unknowns N e → EachUse Known e
      → SortedOn (names_in Γ) (names_in Γ) (formula_of e)
  condition_over N Γ w e scoped written =
      sorted_any (names_in Γ) (formula_of e)
      (formula_over (names_in Γ) e (names_of_pure P unknowns keep m (names_in Γ) e (operand_of N Γ w e scoped written)))

  -- ---- a recursive function's name in the environment

  recursive_good : (N : Symbols) (Γ : Context) → IsWithin N (names_in Γ) → Good Γ → (g p y : ℕ) (b : Block) → Over N (P.template p)
      → IsFunctionFor y b (P.template p) → IsNewName y (bind g (P.template p) Γ)
      → IsReadyBlock P (recursive_context P Γ g p y) b (recursive_type P p y) → HaveTwins (g ∷ y ∷ block_binders b)
      → Agree m ((g, name_kind (P.template p)) ∷ (y, name_kind (argument_of (P.template p))) ∷ block_kinds P (recursive_context P Γ g p y) b (recursive_type P p y))
      → Good (bind g (P.template p) Γ)
  recursive_good N Γ w good g p y b h is new ready twins kinds =
      let t = P.template p in
      let small = small_names P unknowns keep m Γ good in
      let far = function_far P m y b (bind g t Γ) t (names_in Γ) (near_bind (names_in Γ) Γ g t (own_near Γ))
      (small_bind Γ g t small twins.0) new ready twins.1 kinds.1 is in
      let fine : Fine (names_in Γ) t =
      record { scalar = function_scalar y p b t is; over = wide P unknowns keep m N (names_in Γ) w t h; apart = far.0; named = far.1 } in
      good_bind P unknowns keep m Γ good g t twins.0 kinds.0 (fine_known P unknowns keep m (names_in Γ) t fine)

  -- a recursive function, by what its body is asked for
  pub recursive_by : (b : Block) → BlockBound b → (N : Symbols) (Γ : Context) → IsWithin N (names_in Γ) → Good Γ → (g p y : ℕ) → Over N (P.template p)
      → BlockInScope P unknowns (with_symbol (with_symbol N (symbol_of g)) (symbol_of y)) b
      → IsFunctionFor y b (P.template p) → IsBlockWritten P Known true b → IsNewName y (bind g (P.template p) Γ)
      → IsReadyBlock P (recursive_context P Γ g p y) b (recursive_type P p y) → HaveTwins (g ∷ y ∷ block_binders b)
      → Agree m ((g, name_kind (P.template p)) ∷ (y, name_kind (argument_of (P.template p))) ∷ block_kinds P (recursive_context P Γ g p y) b (recursive_type P p y))
      → (Δ : Types) → Fits Δ Γ → RecursiveTyping P Q Δ g p y b
      → Bound (of_block P (recursive_context P Γ g p y) b (recursive_type P p y)) × Good (bind g (P.template p) Γ)
  recursive_by b bound N Γ w good g p y h scoped is written new ready twins kinds Δ fits typing =
      let t = P.template p in
      let inner = recursive_good N Γ w good g p y b h is new ready twins kinds in
      let M = with_symbol N (symbol_of g) in
      let v : IsWithin M (names_in (bind g t Γ)) = with_within N (names_in Γ) (symbol_of g) w in (
        body_bound y b bound M (bind g t Γ) v inner t scoped written ready twins.1 kinds.1 is
            (wide P unknowns keep m N (names_in (bind g t Γ)) (λ z k. within_with (names_in Γ) (symbol_of g) z (w z k)) t h)
            ((g, Q.point p) ∷ Δ) typing.0
            typing.1.0 (fits_bind (templates.templates p) fits) typing.1.1.0 (templates.templates p ∙ typing.1.1.1),
        inner,
      )

  -- ---- arms

  -- one arm, by what its block is asked for
  arm_by : (q : Pattern) (b : Block) → BlockBound b → (N : Symbols) (Γ : Context) → IsWithin N (names_in Γ) → Good Γ → (u : Use)
      → UseOf P unknowns keep m (names_in Γ) u
      → (t : Refined) → BlockInScope P unknowns (scopes.with_names N (names_of q)) b → IsBlockWritten P Known true b
      → AreNewNames (names_of q) Γ × IsReadyBlock P (in_arm P Γ u q) b t → HaveTwins (names_of q ++ block_binders b)
      → Agree m (pattern_kinds P Γ u q ++ block_kinds P (in_arm P Γ u q) b t) → IsNameless t → Over (names_in Γ) t → (Δ Θ : Types) → Fits Δ Γ
      → HasPattern P Δ (typing.type_of_use Q Δ u) q Θ → HasBlock P Q Θ b (erased t)
      → Bound (of_block P (in_arm P Γ u q) b t)
  arm_by q b bound N Γ w good u used t scoped written ready twins kinds is h Δ Θ fits pattern typing =
      let Λ = in_arm P Γ u q in
      let inner = arm_good over P unknowns keep m agree equations Q templates Γ good u used q Δ Θ fits pattern ready.0
      (twins_front (names_of q) (block_binders b) twins) (agree_front m (pattern_kinds P Γ u q) (block_kinds P Λ b t) kinds) in
      bound (scopes.with_names N (names_of q)) Λ (arm_names P N Γ w u q) inner t scoped written ready.1
      (twins_back (names_of q) (block_binders b) twins) (agree_back m (pattern_kinds P Γ u q) (block_kinds P Λ b t) kinds)
      (nameless_block b t is)
      (wide P unknowns keep m (names_in Γ) (names_in Λ) (within_arm P Γ u q) t h) Θ (give.arms Δ Θ Γ u q fits pattern) typing

  -- of arms: from what is ready to what they are asked for
  abbrev ArmsBound : Arms → (Context → Use → Refined → Type 0) → (Context → Use → Refined → List Obligation) → Type 0
  ArmsBound arms Ready obligations =
      (N : Symbols) (Γ : Context) → IsWithin N (names_in Γ) → Good Γ → (u : Use) → UseOf P unknowns keep m (names_in Γ) u →
      (t : Refined) → ArmsInScope P unknowns N arms
      → AreArmsWritten P Known arms → Ready Γ u t → HaveTwins (arms_binders arms) → Agree m (arms_kinds P Γ u arms t) → IsNameless t
      → Over (names_in Γ) t
      → (Δ : Types) → Fits Δ Γ → HaveArms P Q Δ (typing.type_of_use Q Δ u) arms (erased t) → Bound (obligations Γ u t)

  -- ---- constructors

  built : (N : Symbols) (Γ : Context) → IsWithin N (names_in Γ) → (p c : ℕ) (es : List Pure) → IsBuilt P Q p c es → Over N (P.template p)
      → IsNameless (P.template p) → PuresOf P unknowns keep m (names_in Γ) es → SameTypes P Γ es (field_types P Γ p c es)
      → Fine (names_in Γ) (built_type P Γ p c es) × AreFields P unknowns keep m agree (names_in Γ) (field_types P Γ p c es)
  built N Γ w p c es is h nameless o same =
      let t = P.template p in
      built_fine P unknowns keep m agree equations Γ c es is.made is.arguments t is.there (templates.templates p ∙ is.point)
      nameless (wide P unknowns keep m N (names_in Γ) w t h) is.count o same

  -- where the operation is a constructor, its value's type is fine
  pub built_ok : (o : Operation) (N : Symbols) (Γ : Context) → IsWithin N (names_in Γ) → (t : Refined) (Δ : Types) → Fits Δ Γ → {a : MlType}
      → HasOperation P Q Δ o a
      → OperationInScope P unknowns N o → IsOperationWritten P Known o → IsReadyOperation P Γ o t → IsBuiltFine P unknowns keep m Γ o
  built_ok (build p c es) N Γ w t Δ fits typing scoped written ready =
      (built N Γ w p c es (built_typing P Q typing) scoped.0 written.1 (operands_of N Γ w es scoped.1 written.0) ready).0
  built_ok (pure e) N Γ w t Δ fits typing scoped written ready = tt
  built_ok (fun p y b) N Γ w t Δ fits typing scoped written ready = tt
  built_ok (if_else p c x z) N Γ w t Δ fits typing scoped written ready = tt
  built_ok (match_on p u arms) N Γ w t Δ fits typing scoped written ready = tt
  built_ok (call g e) N Γ w t Δ fits typing scoped written ready = tt
  built_ok (tuple es) N Γ w t Δ fits typing scoped written ready = tt
  built_ok (make p n e) N Γ w t Δ fits typing scoped written ready = tt
  built_ok (fetch u i) N Γ w t Δ fits typing scoped written ready =
      let f = fetch_typing P Q typing in (f.0, use_erased P Q templates Δ Γ fits u ∙ f.1)
  built_ok (store u i e) N Γ w t Δ fits typing scoped written ready = tt
  built_ok (divide x y) N Γ w t Δ fits typing scoped written ready = tt
  built_ok (remainder x y) N Γ w t Δ fits typing scoped written ready = tt
  built_ok (assert e) N Γ w t Δ fits typing scoped written ready = tt
  built_ok (assert_false p) N Γ w t Δ fits typing scoped written ready = tt
  built_ok (read e) N Γ w t Δ fits typing scoped written ready = tt
  built_ok (print e) N Γ w t Δ fits typing scoped written ready = tt
  built_ok (map_empty p) N Γ w t Δ fits typing scoped written ready = tt
  built_ok (map_add p k e n) N Γ w t Δ fits typing scoped written ready = tt
  built_ok (map_find k n) N Γ w t Δ fits typing scoped written ready = tt

  first_field : (N : Symbols) (ts : Refineds) → AreFields P unknowns keep m agree N ts → IsNameless (first_of ts) × Over N (first_of ts)
  first_field N none h = ((tt, tt), (tt, tt))
  first_field N (more t ts) h = h.0

  rest_fields : (N : Symbols) (ts : Refineds) → AreFields P unknowns keep m agree N ts → AreFields P unknowns keep m agree N (rest_of ts)
  rest_fields N none h = tt
  rest_fields N (more t ts) h = h.1

  operands_bound : (Γ : Context) → Good Γ → (es : List Pure) (ts : Refineds) → PuresOf P unknowns keep m (names_in Γ) es
      → AreFields P unknowns keep m agree (names_in Γ) ts → (o : Origin) → Bound (operands P Γ es ts o)
  operands_bound Γ good [] ts uses h o = none_bound
  operands_bound Γ good (e ∷ es) ts uses h o =
      let to = first_field (names_in Γ) ts h in
      both (subtyping P Γ (pure_type P Γ e) (first_of ts) o) (operands P Γ es (rest_of ts) o)
      (subtyping_bound Γ good (pure_type P Γ e) (first_of ts) o (pure_fine P unknowns keep m Γ good e uses.0).over to.0 to.1)
      (operands_bound Γ good es (rest_of ts) uses.1 (rest_fields (names_in Γ) ts h) o)

  -- ---- operations and blocks

  mutual
    operation_bound : (o : Operation) (N : Symbols) (Γ : Context) → IsWithin N (names_in Γ) → Good Γ → (l : Place) (t : Refined)
        → OperationInScope P unknowns N o → IsOperationWritten P Known o → IsReadyOperation P Γ o t → HaveTwins (operation_binders o)
        → Agree m (operation_kinds P Γ o t) → Over (names_in Γ) t → (Δ : Types) → Fits Δ Γ → IsSuited P Q Δ o t → Bound (of_operation P Γ l o t)
    operation_bound (pure e) N Γ w good l t scoped written ready twins kinds h Δ fits suited = none_bound
    operation_bound (fun p y b) N Γ w good l t scoped written ready twins kinds h Δ fits suited =
        body_bound y b (λ M Θ i k s j z q u c v n Ψ f d. block_bound b M Θ i k s j z q u c v n Ψ f d) N Γ w good t scoped.2 written ready.1 twins
        kinds suited.0 h Δ suited.1.0 suited.1.1.0 fits suited.1.1.1.0 suited.1.1.1.1
    operation_bound (if_else p c a b) N Γ w good l t scoped written ready twins kinds h Δ fits suited =
        let x = guard (known (formula_of c)) ∷ Γ in
        let y = guard (known (negation (formula_of c))) ∷ Γ in
        let told = condition_over N Γ w c scoped.1 written.0 in
        both (of_block P x a t) (of_block P y b t)
        (block_bound a N x (λ z k. w z k) (good_guard P unknowns keep m Γ (known (formula_of c)) told good) t scoped.2 written.1 ready.0
        (twins_front (block_binders a) (block_binders b) twins) (agree_front m (block_kinds P x a t) (block_kinds P y b t) kinds)
        (nameless_block a t suited.0) h Δ (fits_guard fits) suited.1)
        (block_bound b N y (λ z k. w z k) (good_guard P unknowns keep m Γ (known (negation (formula_of c))) told good) t scoped.3 written.2 ready.1
        (twins_back (block_binders a) (block_binders b) twins) (agree_back m (block_kinds P x a t) (block_kinds P y b t) kinds)
        (nameless_block b t suited.0) h Δ (fits_guard fits) suited.2)
    operation_bound (match_on p u arms) N Γ w good l t scoped written ready twins kinds h Δ fits suited =
        let used : UseOf P unknowns keep m (names_in Γ) u = use_more P unknowns keep m N (names_in Γ) w u scoped.1 written.0 in
        let cs = matched_constructors P Γ u in
        let d = has_default arms in
        let f = λ (c : ℕ). of_constructor P Γ l u d c t arms in
        by_test (is_data_match P Γ u) (((c : ℕ) → IsReadyCase P Γ u c t arms) × IsReadyDefault P Γ u arms t) (IsReadyFirst P Γ u arms t)
        (each f cs ++ of_default P Γ u arms t) (of_first P Γ u arms t) ready
        (λ is r.
        both (each f cs) (of_default P Γ u arms t)
        (each_bound f (λ c. constructor_bound arms l d c N Γ w good u used t scoped.2 written.2 (r.0 c) twins kinds suited.0 h Δ fits suited.1) cs)
        (default_bound arms N Γ w good u used t scoped.2 written.2 r.1 twins kinds suited.0 h Δ fits suited.1))
        (λ is r. first_bound arms N Γ w good u used t scoped.2 written.2 r twins kinds suited.0 h Δ fits suited.1)
    operation_bound (call g a) N Γ w good l t scoped written ready twins kinds h Δ fits suited =
        let fine_g = pure_fine P unknowns keep m Γ good g (operand_of N Γ w g scoped.0 written.0) in
        let to = argument_fine P unknowns keep m (names_in Γ) (pure_type P Γ g) fine_g.scalar fine_g.over in
        subtyping_bound Γ good (pure_type P Γ a) (argument_of (pure_type P Γ g)) (from l of_argument)
        (pure_fine P unknowns keep m Γ good a (operand_of N Γ w a scoped.1 written.1)).over to.0 to.1
    operation_bound (tuple es) N Γ w good l t scoped written ready twins kinds h Δ fits suited = none_bound
    operation_bound (build p c es) N Γ w good l t scoped written ready twins kinds h Δ fits suited =
        let o = operands_of N Γ w es scoped.1 written.0 in
        operands_bound Γ good es (field_types P Γ p c es) o (built N Γ w p c es suited scoped.0 written.1 o ready).1 (from l of_argument)
    operation_bound (make p n e) N Γ w good l t scoped written ready twins kinds h Δ fits suited =
        both (demand P Γ (not_negative n) (from l of_length)) (subtyping P Γ (pure_type P Γ e) (P.template p) (from l of_argument))
        (demand_bound Γ good (not_negative n) (from l of_length) (tt, number_over N Γ w n scoped.1 written.0))
        (subtyping_bound Γ good (pure_type P Γ e) (P.template p) (from l of_argument)
        (pure_fine P unknowns keep m Γ good e (operand_of N Γ w e scoped.2 written.1)).over written.2
        (wide P unknowns keep m N (names_in Γ) w (P.template p) scoped.0))
    operation_bound (fetch u i) N Γ w good l t scoped written ready twins kinds h Δ fits suited =
        let n = number_over N Γ w i scoped.1 written.1 in
        demand_bound Γ good (in_range u i) (from l of_index) ((tt, n), (n, w (symbol_of u.name) scoped.0.0))
    operation_bound (store u i e) N Γ w good l t scoped written ready twins kinds h Δ fits suited =
        let used : UseOf P unknowns keep m (names_in Γ) u = use_more P unknowns keep m N (names_in Γ) w u scoped.0 written.0 in
        let k = use_known P unknowns keep m Γ good u used in
        let T = type_of_use P Γ u in
        let to = element_fine P unknowns keep m (names_in Γ) T suited.0 (use_erased P Q templates Δ Γ fits u ∙ suited.1) k.scalar
        (wide P unknowns keep m k.own (names_in Γ) k.within T k.over) in
        let n = number_over N Γ w i scoped.1 written.1 in
        both (demand P Γ (in_range u i) (from l of_index)) (subtyping P Γ (pure_type P Γ e) (element_of T) (from l of_argument))
        (demand_bound Γ good (in_range u i) (from l of_index) ((tt, n), (n, w (symbol_of u.name) scoped.0.0)))
        (subtyping_bound Γ good (pure_type P Γ e) (element_of T) (from l of_argument)
        (pure_fine P unknowns keep m Γ good e (operand_of N Γ w e scoped.2 written.2)).over to.0 to.1)
    operation_bound (divide x y) N Γ w good l t scoped written ready twins kinds h Δ fits suited =
        demand_bound Γ good (not_zero y) (from l of_divisor) (number_over N Γ w y scoped.1 written.1, tt)
    operation_bound (remainder x y) N Γ w good l t scoped written ready twins kinds h Δ fits suited =
        demand_bound Γ good (not_zero y) (from l of_divisor) (number_over N Γ w y scoped.1 written.1, tt)
    operation_bound (assert e) N Γ w good l t scoped written ready twins kinds h Δ fits suited =
        demand_bound Γ good (formula_of e) (from l of_assertion) (condition_over N Γ w e scoped written)
    operation_bound (assert_false p) N Γ w good l t scoped written ready twins kinds h Δ fits suited =
        demand_bound Γ good falsity (from l of_assertion) tt
    operation_bound (read e) N Γ w good l t scoped written ready twins kinds h Δ fits suited = none_bound
    operation_bound (print e) N Γ w good l t scoped written ready twins kinds h Δ fits suited = none_bound
    operation_bound (map_empty p) N Γ w good l t scoped written ready twins kinds h Δ fits suited = absurd written
    operation_bound (map_add p k e n) N Γ w good l t scoped written ready twins kinds h Δ fits suited = absurd written
    operation_bound (map_find k n) N Γ w good l t scoped written ready twins kinds h Δ fits suited = absurd written

    constructor_bound : (arms : Arms) (l : Place) (d : Bool) (c : ℕ)
        → ArmsBound arms (λ Γ u t. IsReadyCase P Γ u c t arms) (λ Γ u t. of_constructor P Γ l u d c t arms)
    constructor_bound no_arms l d c N Γ w good u used t scoped written ready twins kinds is h Δ fits typing = missing d
      where
        missing : (b : Bool) → Bound (cond b [] (demand P (missing_context P Γ u c) falsity (from l of_case)))
        missing true = none_bound
        missing false = case_bound Γ good u used.0 c l
    constructor_bound (arm q b arms) l d c N Γ w good u used t scoped written ready twins kinds is h Δ fits typing =
        let Λ = in_arm P Γ u q in
        let e = arm_typing P Q typing in
        let own = pattern_kinds P Γ u q ++ block_kinds P Λ b t in
        by_test (is_arm_of c q) (AreNewNames (names_of q) Γ × IsReadyBlock P Λ b t) (IsReadyCase P Γ u c t arms)
        (of_block P Λ b t) (of_constructor P Γ l u d c t arms) ready
        (λ f r.
        arm_by q b (λ M Θ i k s j z y v x a n Ψ l g. block_bound b M Θ i k s j z y v x a n Ψ l g) N Γ w good u used t scoped.0 written.0 r
        (twins_front (names_of q ++ block_binders b) (arms_binders arms) twins)
        (agree_front m own (arms_kinds P Γ u arms t) kinds) is h Δ e.0 fits e.1.0
        e.1.1)
        (λ f r.
        constructor_bound arms l d c N Γ w good u used t scoped.1 written.1 r (twins_back (names_of q ++ block_binders b) (arms_binders arms) twins)
        (agree_back m own (arms_kinds P Γ u arms t) kinds) is h Δ fits e.1.2)

    default_bound : (arms : Arms) → ArmsBound arms (λ Γ u t. IsReadyDefault P Γ u arms t) (λ Γ u t. of_default P Γ u arms t)
    default_bound no_arms N Γ w good u used t scoped written ready twins kinds is h Δ fits typing = none_bound
    default_bound (arm q b arms) N Γ w good u used t scoped written ready twins kinds is h Δ fits typing =
        let Λ = in_arm P Γ u q in
        let e = arm_typing P Q typing in
        let own = pattern_kinds P Γ u q ++ block_kinds P Λ b t in
        by_test (takes_all q) (AreNewNames (names_of q) Γ × IsReadyBlock P Λ b t) (IsReadyDefault P Γ u arms t)
        (of_block P Λ b t) (of_default P Γ u arms t) ready
        (λ f r.
        arm_by q b (λ M Θ i k s j z y v x a n Ψ l g. block_bound b M Θ i k s j z y v x a n Ψ l g) N Γ w good u used t scoped.0 written.0 r
        (twins_front (names_of q ++ block_binders b) (arms_binders arms) twins)
        (agree_front m own (arms_kinds P Γ u arms t) kinds) is h Δ e.0 fits e.1.0
        e.1.1)
        (λ f r.
        default_bound arms N Γ w good u used t scoped.1 written.1 r (twins_back (names_of q ++ block_binders b) (arms_binders arms) twins)
        (agree_back m own (arms_kinds P Γ u arms t) kinds) is h Δ fits e.1.2)

    first_bound : (arms : Arms) → ArmsBound arms (λ Γ u t. IsReadyFirst P Γ u arms t) (λ Γ u t. of_first P Γ u arms t)
    first_bound no_arms N Γ w good u used t scoped written ready twins kinds is h Δ fits typing = none_bound
    first_bound (arm q b arms) N Γ w good u used t scoped written ready twins kinds is h Δ fits typing =
        let e = arm_typing P Q typing in
        arm_by q b (λ M Θ i k s j z y v x a n Ψ l g. block_bound b M Θ i k s j z y v x a n Ψ l g) N Γ w good u used t scoped.0 written.0 ready
        (twins_front (names_of q ++ block_binders b) (arms_binders arms) twins)
        (agree_front m (pattern_kinds P Γ u q ++ block_kinds P (in_arm P Γ u q) b t) (arms_kinds P Γ u arms t) kinds) is h Δ e.0 fits e.1.0 e.1.1

    pub block_bound : (b : Block) → BlockBound b
    block_bound (last l o) N Γ w good t scoped written ready twins kinds is h Δ fits typing =
        both (of_operation P Γ l o t) (cond (passes_on o) [] (subtyping P Γ (type_of P Γ o) t (from l of_flow)))
        (operation_bound o N Γ w good l t scoped written.0 ready.0 twins kinds h Δ fits (suited_last P Q Δ o t (last_typing P Q typing) is))
        (by_test (passes_on o) (Unit {0}) (SameType (type_of P Γ o) t) [] (subtyping P Γ (type_of P Γ o) t (from l of_flow)) ready.1 (λ e u. none_bound)
        (λ e same. let other = others P Q m Γ o t (type_of P Γ o) e is ready.0 in
        subtyping_bound Γ good (type_of P Γ o) t (from l of_flow)
        (operation_fine P unknowns keep m N Γ w good o
        (built_ok o N Γ w t Δ fits (last_typing P Q typing) scoped written.0 ready.0) scoped written.0 other.1 other.2 twins other.3).over other.0 h))
    block_bound (binding x l o b) N Γ w good t scoped written ready twins kinds is h Δ fits typing =
        let T = type_of P Γ o in
        let tf = twins_front (operation_binders o) (x ∷ block_binders b) twins in
        let tb = twins_back (operation_binders o) (x ∷ block_binders b) twins in
        let kf = agree_front m (operation_kinds P Γ o T) ((x, name_kind T) ∷ block_kinds P (bind x T Γ) b t) kinds in
        let kb = agree_back m (operation_kinds P Γ o T) ((x, name_kind T) ∷ block_kinds P (bind x T Γ) b t) kinds in
        let d = binding_typing P Q typing in
        let fine = operation_fine P unknowns keep m N Γ w good o
        (built_ok o N Γ w T Δ fits d.1.0 scoped.0 written.0 ready.0) scoped.0 written.0 written.1 ready.0
        tf kf in
        both (of_operation P Γ l o T) (of_block P (bind x T Γ) b t)
        (operation_bound o N Γ w good l T scoped.0 written.0 ready.0 tf kf fine.over Δ fits
        (suited_given P Q templates Δ Γ o d.0 d.1.0 d.1.1 written.1))
        (block_bound b (with_symbol N (symbol_of x)) (bind x T Γ) (with_within N (names_in Γ) (symbol_of x) w)
        (good_bind P unknowns keep m Γ good x T tb.0 kb.0 (fine_known P unknowns keep m (names_in Γ) T fine)) t scoped.1 written.2 ready.2 tb.1 kb.1
        (nameless_block b t is)
        (wide P unknowns keep m (names_in Γ) (names_in (bind x T Γ)) (within_with (names_in Γ) (symbol_of x)) t h) ((x, d.0) ∷ Δ)
        (fits_bind (give.operations Δ Γ o d.0 fits d.1.0 d.1.1) fits) d.1.2)
    block_bound (recursive g p y b c) N Γ w good t scoped written ready twins kinds is h Δ fits typing =
        let T = P.template p in
        let Kb = block_kinds P (recursive_context P Γ g p y) b (recursive_type P p y) in
        let Kc = block_kinds P (bind g T Γ) c t in
        let d = recursive_typing P Q typing in
        let r = recursive_by b (λ M Θ i k s j z q u a v n Ψ l f. block_bound b M Θ i k s j z q u a v n Ψ l f) N Γ w good g p y scoped.0 scoped.2 written.0
        written.1 ready.0.1 ready.0.2 (twins.0, (twins.1.0, twins_front (block_binders b) (block_binders c) twins.1.1))
        (kinds.0, (kinds.1.0, agree_front m Kb Kc kinds.1.1)) Δ fits d.0 in
        both (of_block P (recursive_context P Γ g p y) b (recursive_type P p y)) (of_block P (bind g T Γ) c t) r.0
        (block_bound c (with_symbol N (symbol_of g)) (bind g T Γ) (with_within N (names_in Γ) (symbol_of g) w) r.1 t scoped.3 written.2 ready.1
        (twins_back (block_binders b) (block_binders c) twins.1.1) (agree_back m Kb Kc kinds.1.1) (nameless_block c t is)
        (wide P unknowns keep m (names_in Γ) (names_in (bind g T Γ)) (within_with (names_in Γ) (symbol_of g)) t h) ((g, Q.point p) ∷ Δ)
        (fits_bind (templates.templates p) fits) d.1)

  -- ---- blocks of which no type is expected

  pub record IsGivenBound (Γ : Context) (b : Block) (Θ : Types) (a : MlType) : Type 0 where
    pub bound : Bound (of_given P Γ b)
    pub good : Good (last_context P Γ b)
    pub within : IsWithin (names_in Γ) (names_in (last_context P Γ b))
    pub fine : Fine (names_in (last_context P Γ b)) (last_type P Γ b)
    pub fits : Fits Θ (last_context P Γ b)
    pub typed : erased (last_type P Γ b) ≡ a
    -- its type names no argument by one of these names, where no parameter of its last operation is one
    pub outside : (M : Symbols) → AreSmall M → NoneIn M (operation_binders (last_operation b)) → NamesOutside M (last_type P Γ b)

  pub given_bound : (b : Block) (N : Symbols) (Γ : Context) → IsWithin N (names_in Γ) → Good Γ → BlockInScope P unknowns N b
      → IsBlockWritten P Known false b
      → IsReadyGiven P Γ b → HaveTwins (block_binders b) → Agree m (given_kinds P Γ b) → (Δ Θ : Types) (a : MlType) → Fits Δ Γ
      → HasEnd P Q Δ b Θ a → IsGivenBound Γ b Θ a
  given_bound (last l o) N Γ w good scoped written ready twins kinds Δ Θ a fits typing =
      let T = type_of P Γ o in
      let d = end_last_typing P Q typing in
      let fine = operation_fine P unknowns keep m N Γ w good o
      (built_ok o N Γ w T Δ fits d.0 scoped written.0 ready) scoped written.0 written.1 ready twins kinds in
      record {
        bound = operation_bound o N Γ w good l T scoped written.0 ready twins kinds fine.over Δ fits
            (suited_given P Q templates Δ Γ o a d.0 d.1 written.1);
        good = good;
        within = λ y k. k;
        fine = fine;
        fits = end_last_fits P Q typing fits;
        typed = give.operations Δ Γ o a fits d.0 d.1;
        outside = λ M small none.
            operation_outside M small P unknowns keep m N Γ w good o (built_ok o N Γ w T Δ fits d.0 scoped written.0 ready) scoped written.0 written.1
            fine.scalar none;
      }
  given_bound (binding x l o b) N Γ w good scoped written ready twins kinds Δ Θ a fits typing =
      let T = type_of P Γ o in
      let tf = twins_front (operation_binders o) (x ∷ block_binders b) twins in
      let tb = twins_back (operation_binders o) (x ∷ block_binders b) twins in
      let kf = agree_front m (operation_kinds P Γ o T) ((x, name_kind T) ∷ given_kinds P (bind x T Γ) b) kinds in
      let kb = agree_back m (operation_kinds P Γ o T) ((x, name_kind T) ∷ given_kinds P (bind x T Γ) b) kinds in
      let d = end_binding_typing P Q typing in
      let fine = operation_fine P unknowns keep m N Γ w good o
      (built_ok o N Γ w T Δ fits d.1.0 scoped.0 written.0 ready.0) scoped.0 written.0 written.1 ready.0
      tf kf in
      let r = given_bound b (with_symbol N (symbol_of x)) (bind x T Γ) (with_within N (names_in Γ) (symbol_of x) w)
      (good_bind P unknowns keep m Γ good x T tb.0 kb.0 (fine_known P unknowns keep m (names_in Γ) T fine)) scoped.1 written.2 ready.2 tb.1 kb.1
      ((x, d.0) ∷ Δ) Θ a (fits_bind (give.operations Δ Γ o d.0 fits d.1.0 d.1.1) fits) d.1.2 in
      record {
        bound = both (of_operation P Γ l o T) (of_given P (bind x T Γ) b)
            (operation_bound o N Γ w good l T scoped.0 written.0 ready.0 tf kf fine.over Δ fits
            (suited_given P Q templates Δ Γ o d.0 d.1.0 d.1.1 written.1)) r.bound;
        good = r.good;
        within = λ y k. r.within y (within_with (names_in Γ) (symbol_of x) y k);
        fine = r.fine;
        fits = r.fits;
        typed = r.typed;
        outside = λ M small none. r.outside M small none;
      }
  given_bound (recursive g p y b c) N Γ w good scoped written ready twins kinds Δ Θ a fits typing =
      let T = P.template p in
      let Kb = block_kinds P (recursive_context P Γ g p y) b (recursive_type P p y) in
      let Kc = given_kinds P (bind g T Γ) c in
      let d = end_recursive_typing P Q typing in
      let q = recursive_by b (block_bound b) N Γ w good g p y scoped.0 scoped.2 written.0 written.1 ready.0.1 ready.0.2
      (twins.0, (twins.1.0, twins_front (block_binders b) (block_binders c) twins.1.1))
      (kinds.0, (kinds.1.0, agree_front m Kb Kc kinds.1.1)) Δ fits d.0 in
      let r = given_bound c (with_symbol N (symbol_of g)) (bind g T Γ) (with_within N (names_in Γ) (symbol_of g) w) q.1 scoped.3 written.2 ready.1
      (twins_back (block_binders b) (block_binders c) twins.1.1) (agree_back m Kb Kc kinds.1.1) ((g, Q.point p) ∷ Δ) Θ a
      (fits_bind (templates.templates p) fits) d.1 in
      record {
        bound = both (of_recursive P Γ g p y b) (of_given P (bind g T Γ) c) q.0 r.bound;
        good = r.good;
        within = λ z k. r.within z (within_with (names_in Γ) (symbol_of g) z k);
        fine = r.fine;
        fits = r.fits;
        typed = r.typed;
        outside = λ M small none. r.outside M small none;
      }
