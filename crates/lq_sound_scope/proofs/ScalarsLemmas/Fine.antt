-- The types that operations give in environments of known types.
use Rattle.std.proofs.Common.{◌≡◌, inr, ℕ, suc, pos, false, List, [], ◌∷◌, Option, Some, None, refl, subst}
use Rattle.lq_refined_rules.specs.Checks.Basis.{Basis}
use Rattle.lq_refined_rules.specs.Checks.Binders.{operation_binders}
use Rattle.lq_refined_rules.specs.Checks.Operation.{built_type, quotient_facts, type_of}
use Rattle.lq_refined_rules.specs.Checks.Pure.{atom_by, formula_of, pure_atom, pure_type, pure_types, sum_of, type_of_use}
use Rattle.lq_refined_rules.specs.Checks.Ready.{IsReadyOperation, SameType}
use Rattle.lq_refined_rules.specs.Checks.Tree.{Use, Pure, Operation, pure, fun, if_else, match_on, call, tuple, build, make, fetch, store, divide, remainder, assert, assert_false, read, print, map_empty, map_add, map_find}
use Rattle.lq_sound_values.specs.Inclusion.Symbols.{Symbols, with_symbol, SumOn}
use Rattle.lq_sound_scope.specs.Scopes.InScope.{OperationInScope}
use Rattle.lq_sound_scope.specs.Scopes.Laws.{TypesAreOver}
use Rattle.lq_sound_scope.specs.Scopes.Over as over
use Rattle.lq_sound_scope.specs.Scopes.Over.{AreSorted, AreWithin, IsWithin, Names, PartsOver, TypeOver, of_any_sort, with_sort}
use Rattle.lq_sound_scope.proofs.ScopesLemmas.Assigned.{wider}
use Rattle.lq_sound_scope.proofs.ScopesLemmas.Symbols.{own_one, within_one, within_sort}
use Rattle.lq_sound_values.specs.Inhabitants.Truth.{Objects, Scene}
use Rattle.lq_sound_scope.specs.Operations.Laws.{KeepNames}
use Rattle.lq_sound_scope.specs.Operations.Puts.{AllNamesAway, AtomOver, HasKind, NamesAway}
use Rattle.lq_sound_values.specs.NewNames.NewNames.{ArgumentsInScope, ComponentsInScope, HasNoPositions, IsInScope}
use Rattle.lq_sound_values.proofs.NewNamesLemmas.Fields.{both_false}
use Rattle.lq_refined_types.specs.Parts.Assignment.{Assignment}
use Rattle.lq_sound_programs.specs.Plain.Plain.{IsFlow}
use Rattle.lq_logic_predicates.specs.Sum as sums
use Rattle.lq_logic_predicates.specs.Sum.{Sum}
use Rattle.lq_logic_predicates.specs.declared.symbol.Symbol.{Symbol}
use Rattle.lq_logic_predicates.specs.declared.symbol.Symbol.TheVariants.{Position, Value}
use Rattle.lq_sound_forms.specs.Pures.Pures.{EachUse, IsOf, scene_of}
use Rattle.lq_sound_forms.proofs.PuresLemmas.Values.{formula_over, sum_over}
use Rattle.lq_refined_types.specs.Types.Context.{Context}
use Rattle.lq_refined_types.specs.Types.Operations.{applied, symbol_of}
use Rattle.lq_refined_types.specs.Types.Refined.{Refined, Refineds, none, more, int_with, bool_with, unit_type, function, tuple_of, array_with, data_with, map_with, type_variable, Kind, number, truth_value, object, other, kind, argument_of, result_of, binder_of, element_of, erased}
use Rattle.lq_sound_values.specs.Twins.Names.{with_twins}
use Rattle.lq_sound_values.specs.Runs.Closed.{names_in, IsTypeOver}
use Rattle.lq_sound_values.proofs.RunsLemmas.Closing.{sum_more}
use Rattle.lq_sound_scope.specs.Matrices.Laws.{MatricesAreSorted}
use Rattle.lq_refined_templates.specs.Templates.Scopes.{Unknown}
use Rattle.lq_text_tree.specs.MlType as ml
use Rattle.lq_text_tree.specs.MlType.{MlType}
use Rattle.lq_sound_scope.specs.Scalars.Scalar.{HaveTwins}
use Rattle.lq_sound_scope.specs.Scalars.Written.{AreScalar, IsGivenWritten, IsNameless, IsOperationWritten, IsScalar}
use Rattle.lq_sound_scope.proofs.ScalarsLemmas.Contexts as contexts
use Rattle.lq_sound_scope.proofs.ScalarsLemmas.Contexts.{function_far, inside_wide, own_near, pure_fine, small_names, sorted_any, type_over, use_known, wide}
use Rattle.lq_sound_scope.proofs.ScalarsLemmas.Datatypes.{cells_on}
use Rattle.lq_sound_scope.proofs.ScalarsLemmas.Forms.{function_scalar}
use Rattle.lq_sound_scope.proofs.ScalarsLemmas.NameKinds.{Agree, Naming, operation_kinds}
use Rattle.lq_sound_scope.proofs.ScalarsLemmas.Uses.{IsKnownUse, PureOf, PuresOf, names_of_pure, pure_more, pure_uses, pures_more, pures_uses, use_more}
use Rattle.lq_sound_scope.proofs.ScalarsLemmas.Types.{AreNamed, IsApart, IsNamed, applied_keeps, apart_less, apart_nameless, both_put, name_within, named_nameless, named_put, same_kind, twins_within}

-- one more name at its sort is one more of any sort
pub sort_within : (N : Symbols) (k : Kind) (x : Symbol) → AreWithin (with_sort (of_any_sort N) k x) (of_any_sort (with_symbol N x))
sort_within N number x = record { terms = λ y e. e; flags = within_one N x }
sort_within N truth_value x = record { terms = within_one N x; flags = λ y e. e }
sort_within N object x = record { terms = λ y e. e; flags = within_one N x }
sort_within N other x = record { terms = within_one N x; flags = within_one N x }

pub own_has : (k : Kind) (e : Pure) → HasKind k (atom_by k e)
own_has number e = tt
own_has truth_value e = tt
own_has object e = tt
own_has other e = tt

pub atom_over : (N : Symbols) (k : Kind) (e : Pure) → EachUse (IsOf N) e → AtomOver (of_any_sort N) (atom_by k e)
atom_over N number e o = sum_over N e o
atom_over N truth_value e o = sorted_any N (formula_of e) (formula_over N e o)
atom_over N object e o = sum_over N e o
atom_over N other e o = sum_over N e o

module _ (P : Basis) (unknowns : ℕ → Unknown) (keep : KeepNames P.setting.constructors unknowns P.setting.scopes) (m : Naming) where
  abbrev Over : Symbols → Refined → Type 0
  Over N t = TypeOver P.setting.constructors unknowns (of_any_sort N) t

  abbrev Fine : Symbols → Refined → Type 0
  Fine = contexts.IsFine P unknowns keep m

  abbrev Known : Use → Type 0
  Known = IsKnownUse P unknowns keep m

  abbrev Good : Context → Type 0
  Good = contexts.IsGood P unknowns keep m

  unit_fine : (N : Symbols) → Fine N unit_type
  unit_fine N = record { scalar = tt; over = (tt, tt); apart = tt; named = tt }

  pub nameless_fine : (N : Symbols) (t : Refined) → IsNameless t → Over N t → Fine N t
  nameless_fine N t h o = record { scalar = h.0; over = o; apart = apart_nameless N t h.0 h.1; named = named_nameless m t h.1 }

  -- an array's elements
  pub element_fine : (N : Symbols) (t : Refined) (a : MlType) → erased t ≡ ml.array a → IsScalar t → Over N t
      → IsNameless (element_of t) × Over N (element_of t)
  element_fine N (array_with e p) a is s h = ((s.0, s.1), h.0)
  element_fine N (map_with e p) a is s h = cc
  element_fine N (int_with p) a is s h = cc
  element_fine N (bool_with p) a is s h = cc
  element_fine N unit_type a is s h = cc
  element_fine N (function x b c) a is s h = cc
  element_fine N (tuple_of ts) a is s h = cc
  element_fine N (data_with d ts n p) a is s h = cc
  element_fine N (type_variable i) a is s h = cc

  -- a function's argument
  pub argument_fine : (N : Symbols) (t : Refined) → IsScalar t → Over N t → IsNameless (argument_of t) × Over N (argument_of t)
  argument_fine N (int_with p) s h = ((tt, tt), (tt, tt))
  argument_fine N (bool_with p) s h = ((tt, tt), (tt, tt))
  argument_fine N unit_type s h = ((tt, tt), (tt, tt))
  argument_fine N (function x a b) s h = ((s.0, s.1), (h.0.0, h.0.1))
  argument_fine N (tuple_of ts) s h = ((tt, tt), (tt, tt))
  argument_fine N (array_with e p) s h = ((tt, tt), (tt, tt))
  argument_fine N (data_with d ts n p) s h = ((tt, tt), (tt, tt))
  argument_fine N (map_with e p) s h = ((tt, tt), (tt, tt))
  argument_fine N (type_variable i) s h = ((tt, tt), (tt, tt))

  result_apart : (N : Symbols) (x : Option ℕ) (a b : Refined) → IsScalar b → NamesAway N (function x a b) → NamesAway N b
  result_apart N None a b s h = h.1
  result_apart N (Some x) a b s h = apart_less N (with_twins N x) (twins_within N x) b s h.3

  result_named : (x : Option ℕ) (a b : Refined) → IsNamed m (function x a b) → IsNamed m b
  result_named None a b h = h
  result_named (Some x) a b h = h.1

  -- the result of a call
  called_fine : (Γ : Context) (e : Pure) → PureOf P unknowns keep m (names_in Γ) e → (t : Refined) → Fine (names_in Γ) t
      → SameType (pure_type P Γ e) (argument_of t)
      → Fine (names_in Γ) (applied P.setting.scopes (binder_of t) (pure_atom P Γ e) (result_of t))
  called_fine Γ e o (function x a b) k same =
      let N = names_in Γ in
      let atom = pure_atom P Γ e in
      let both = applied_keeps P.setting.scopes (IsApart P.setting.scopes N) (both_put P.setting.scopes N) x atom b
      (k.scalar.2, result_apart N x a b k.scalar.2 k.apart) in
      record {
        scalar = both.0;
        over = keep.applying (of_any_sort N) x (kind a) atom (atom_over N (kind (pure_type P Γ e)) e (names_of_pure P unknowns keep m N e o))
            (subst (λ i. HasKind i atom) (same_kind (pure_type P Γ e) a same) (own_has (kind (pure_type P Γ e)) e)) b (k.over.0.2, k.over.0.3);
        apart = both.1;
        named = applied_keeps P.setting.scopes (IsNamed m) (named_put P.setting.scopes m) x atom b (result_named x a b k.named);
      }
  called_fine Γ e o (int_with p) k same = unit_fine (names_in Γ)
  called_fine Γ e o (bool_with p) k same = unit_fine (names_in Γ)
  called_fine Γ e o unit_type k same = unit_fine (names_in Γ)
  called_fine Γ e o (tuple_of ts) k same = unit_fine (names_in Γ)
  called_fine Γ e o (array_with u p) k same = unit_fine (names_in Γ)
  called_fine Γ e o (data_with d ts n p) k same = unit_fine (names_in Γ)
  called_fine Γ e o (map_with u p) k same = unit_fine (names_in Γ)
  called_fine Γ e o (type_variable i) k same = unit_fine (names_in Γ)

  -- ---- numbers

  more_sum : (N : Symbols) (e : Pure) → PureOf P unknowns keep m N e → SumOn (with_symbol N Value) (sum_of e)
  more_sum N e o = sum_more N (with_symbol N Value) (within_one N Value) (sum_of e) (sum_over N e (names_of_pure P unknowns keep m N e o))

  facts_over : (N : Symbols) (x y : Sum) → SumOn (with_symbol N Value) x
      → PartsOver unknowns (with_sort (of_any_sort N) number Value) (quotient_facts x y)
  facts_over N x (sums.whole (pos (suc c))) o =
      let v = own_one N Value in
      (((((tt, o), ((tt, v), o)), (o, ((tt, v), tt))), (((o, tt), (o, (tt, v))), ((tt, v), (o, tt)))), tt)
  facts_over N x _ o = tt

  -- ---- tuples

  -- the components behind the first j, their tops over more names
  tuple_fine : (Γ : Context) → Good Γ → (es : List Pure) → PuresOf P unknowns keep m (names_in Γ) es → (M : Names)
      → AreWithin (of_any_sort (names_in Γ)) M
      → (j : ℕ)
      → AreScalar (pure_types P Γ es)
      × over.ComponentsOver P.setting.constructors unknowns (of_any_sort (names_in Γ)) M j (pure_types P Γ es)
      × AllNamesAway (names_in Γ) (pure_types P Γ es)
      × AreNamed m (pure_types P Γ es)
  tuple_fine Γ good [] o M w j = (tt, tt, tt, tt)
  tuple_fine Γ good (e ∷ es) o M w j =
      let t = pure_type P Γ e in
      let f = pure_fine P unknowns keep m Γ good e o.0 in
      let x = Position (suc j) in
      let more = within_sort M (kind t) x in
      let rest = tuple_fine Γ good es o.1 (with_sort M (kind t) x)
      (record { terms = λ y h. more.terms y (w.terms y h); flags = λ y h. more.flags y (w.flags y h) }) (suc j) in (
        (f.scalar, rest.0),
        (f.over.0, (keep.widening (of_any_sort (names_in Γ)) M w t f.over).1, rest.1),
        (f.apart, rest.2),
        (f.named, rest.3),
      )

  -- ---- operations

  -- what is asked of a constructor's value, and of the array that is read
  abbrev pub IsBuiltFine : Context → Operation → Type 0
  IsBuiltFine Γ (build p c es) = Fine (names_in Γ) (built_type P Γ p c es)
  IsBuiltFine Γ (fetch u i) = (a : MlType) × (erased (type_of_use P Γ u) ≡ ml.array a)
  IsBuiltFine Γ _ = Unit {0}

  pub operation_fine : (N : Symbols) (Γ : Context) → IsWithin N (names_in Γ) → Good Γ → (o : Operation) → IsBuiltFine Γ o
      → OperationInScope P unknowns N o
      → IsOperationWritten P Known o → IsGivenWritten P o → IsReadyOperation P Γ o (type_of P Γ o) → HaveTwins (operation_binders o)
      → Agree m (operation_kinds P Γ o (type_of P Γ o)) → Fine (names_in Γ) (type_of P Γ o)
  operation_fine N Γ w good (pure e) built scoped written given ready twins kinds =
      pure_fine P unknowns keep m Γ good e (pure_more P unknowns keep m N (names_in Γ) w e (pure_uses P unknowns keep m N e scoped written))
  operation_fine N Γ w good (fun p y b) built scoped written given ready twins kinds =
      let t = P.template p in
      let far = function_far P m y b Γ t (names_in Γ) (own_near Γ) (small_names P unknowns keep m Γ good) ready.0 ready.1 twins kinds given in
      record { scalar = function_scalar y p b t given; over = wide P unknowns keep m N (names_in Γ) w t scoped.0; apart = far.0; named = far.1 }
  operation_fine N Γ w good (if_else p c a b) built scoped written given ready twins kinds =
      nameless_fine (names_in Γ) (P.template p) given (wide P unknowns keep m N (names_in Γ) w (P.template p) scoped.0)
  operation_fine N Γ w good (match_on p u arms) built scoped written given ready twins kinds =
      nameless_fine (names_in Γ) (P.template p) given (wide P unknowns keep m N (names_in Γ) w (P.template p) scoped.0)
  operation_fine N Γ w good (call g a) built scoped written given ready twins kinds =
      called_fine Γ a (pure_more P unknowns keep m N (names_in Γ) w a (pure_uses P unknowns keep m N a scoped.1 written.1)) (pure_type P Γ g)
      (pure_fine P unknowns keep m Γ good g (pure_more P unknowns keep m N (names_in Γ) w g (pure_uses P unknowns keep m N g scoped.0 written.0))) ready
  operation_fine N Γ w good (tuple es) built scoped written given ready twins kinds =
      let all = of_any_sort (names_in Γ) in
      let k = tuple_fine Γ good es (pures_more P unknowns keep m N (names_in Γ) w es (pures_uses P unknowns keep m N es scoped written)) all
      (record { terms = λ y h. h; flags = λ y h. h }) 0 in
      record { scalar = k.0; over = (k.1, tt); apart = k.2; named = k.3 }
  operation_fine N Γ w good (build p c es) built scoped written given ready twins kinds = built
  operation_fine N Γ w good (make p n e) built scoped written given ready twins kinds =
      let o = pure_more P unknowns keep m N (names_in Γ) w n (pure_uses P unknowns keep m N n scoped.1 written.0) in
      record {
        scalar = written.2;
        over = (wide P unknowns keep m N (names_in Γ) w (P.template p) scoped.0, ((own_one (names_in Γ) Value, more_sum (names_in Γ) n o), tt));
        apart = apart_nameless (names_in Γ) (P.template p) written.2.0 written.2.1;
        named = tt;
      }
  operation_fine N Γ w good (fetch u i) built scoped written given ready twins kinds =
      let k = use_known P unknowns keep m Γ good u (use_more P unknowns keep m N (names_in Γ) w u scoped.0 written.0) in
      let e = element_fine (names_in Γ) (type_of_use P Γ u) built.0 built.1 k.scalar
      (wide P unknowns keep m k.own (names_in Γ) k.within (type_of_use P Γ u) k.over) in
      nameless_fine (names_in Γ) (element_of (type_of_use P Γ u)) e.0 e.1
  operation_fine N Γ w good (store u i e) built scoped written given ready twins kinds = unit_fine (names_in Γ)
  operation_fine N Γ w good (divide x y) built scoped written given ready twins kinds =
      let v = own_one (names_in Γ) Value in
      let a = more_sum (names_in Γ) x (pure_more P unknowns keep m N (names_in Γ) w x (pure_uses P unknowns keep m N x scoped.0 written.0)) in
      let b = more_sum (names_in Γ) y (pure_more P unknowns keep m N (names_in Γ) w y (pure_uses P unknowns keep m N y scoped.1 written.1)) in
      record { scalar = tt; over = (tt, ((v, (a, b)), facts_over (names_in Γ) (sum_of x) (sum_of y) a)); apart = tt; named = tt }
  operation_fine N Γ w good (remainder x y) built scoped written given ready twins kinds =
      let v = own_one (names_in Γ) Value in
      let a = more_sum (names_in Γ) x (pure_more P unknowns keep m N (names_in Γ) w x (pure_uses P unknowns keep m N x scoped.0 written.0)) in
      let b = more_sum (names_in Γ) y (pure_more P unknowns keep m N (names_in Γ) w y (pure_uses P unknowns keep m N y scoped.1 written.1)) in
      record { scalar = tt; over = (tt, ((v, (a, b)), ((((a, tt), (b, tt)), ((tt, v), (v, b))), tt))); apart = tt; named = tt }
  operation_fine N Γ w good (assert e) built scoped written given ready twins kinds = unit_fine (names_in Γ)
  operation_fine N Γ w good (assert_false p) built scoped written given ready twins kinds =
      nameless_fine (names_in Γ) (P.template p) written (wide P unknowns keep m N (names_in Γ) w (P.template p) scoped)
  operation_fine N Γ w good (read e) built scoped written given ready twins kinds = record { scalar = tt; over = (tt, tt); apart = tt; named = tt }
  operation_fine N Γ w good (print e) built scoped written given ready twins kinds = unit_fine (names_in Γ)
  operation_fine N Γ w good (map_empty p) built scoped written given ready twins kinds = absurd written
  operation_fine N Γ w good (map_add p k e n) built scoped written given ready twins kinds = absurd written
  operation_fine N Γ w good (map_find k n) built scoped written given ready twins kinds = absurd written

  -- ---- flows

  module _ (laws : TypesAreOver) (matrices : MatricesAreSorted) (A : Assignment) (O : Objects) (sorted : AreSorted unknowns A) where
    abbrev S : Scene
    S = scene_of P A O

    pub typed : (N : Symbols) (t : Refined) → Over N t → IsTypeOver S N t
    typed N t h = type_over P unknowns keep m laws A O sorted N t h

    -- with one more symbol at its sort
    position_within : (M : Names) (Q : Symbols) → AreWithin M (of_any_sort Q) → (k : Kind) (x : Symbol)
        → AreWithin (with_sort M k x) (of_any_sort (with_symbol Q x))
    position_within M Q v number x = record { terms = wider M.terms Q x v.terms; flags = λ y h. within_one Q x y (v.flags y h) }
    position_within M Q v truth_value x = record { terms = λ y h. within_one Q x y (v.terms y h); flags = wider M.flags Q x v.flags }
    position_within M Q v object x = record { terms = wider M.terms Q x v.terms; flags = λ y h. within_one Q x y (v.flags y h) }
    position_within M Q v other x = record { terms = λ y h. within_one Q x y (v.terms y h); flags = λ y h. within_one Q x y (v.flags y h) }

    mutual
      scoped_in : (N : Symbols) → HasNoPositions N → (t : Refined) → IsScalar t → NamesAway N t
          → over.InsideOver P.setting.constructors unknowns (of_any_sort N) t → IsInScope S N t
      scoped_in N c (int_with p) s n h = tt
      scoped_in N c (bool_with p) s n h = tt
      scoped_in N c unit_type s n h = tt
      scoped_in N c (function None a b) s n h =
          (typed N a (h.0, h.1), scoped_in N c a s.0 n.0 h.0, typed N b (h.2, h.3), scoped_in N c b s.2 n.1 h.2)
      scoped_in N c (function (Some x) a b) s n h =
          let M = with_symbol N (symbol_of x) in
          let o : Over M b =
          keep.widening (with_sort (of_any_sort N) (kind a) (symbol_of x)) (of_any_sort M) (sort_within N (kind a) (symbol_of x)) b (h.2, h.3) in (
            n.0,
            typed N a (h.0, h.1),
            scoped_in N c a s.0 n.2 h.0,
            typed M b o,
            scoped_in M (λ k. both_false (N (Position k)) false (c k) refl) b s.2 (apart_less M (with_twins N x) (name_within N x) b s.2 n.3) o.0,
          )
      scoped_in N c (tuple_of ts) s n h =
          (c, components_in N c (of_any_sort N) N (record { terms = λ y e. e; flags = λ y e. e }) (record { terms = λ y e. e; flags = λ y e. e }) 0 ts s n h)
      scoped_in N c (array_with e p) s n h = (typed N e h, scoped_in N c e s.0 n h.0)
      scoped_in N c (data_with d ts k p) s n h = (c, arguments_in N c ts s.0 n h.0, cells_on matrices P unknowns A O sorted d ts k h.1)
      scoped_in N c (map_with e p) s n h = tt
      scoped_in N c (type_variable i) s n h = tt

      arguments_in : (N : Symbols) → HasNoPositions N → (ts : Refineds) → AreScalar ts → AllNamesAway N ts
          → over.TypesOver P.setting.constructors unknowns (of_any_sort N) ts → ArgumentsInScope S N ts
      arguments_in N c none s n h = tt
      arguments_in N c (more t ts) s n h = (typed N t (h.0, h.1), scoped_in N c t s.0 n.0 h.0, arguments_in N c ts s.1 n.1 h.2)

      components_in : (N : Symbols) → HasNoPositions N → (M : Names) (Q : Symbols) → AreWithin (of_any_sort N) M → AreWithin M (of_any_sort Q)
          → (j : ℕ) (ts : Refineds) → AreScalar ts → AllNamesAway N ts
          → over.ComponentsOver P.setting.constructors unknowns (of_any_sort N) M j ts → ComponentsInScope S N Q j ts
      components_in N c M Q w v j none s n h = tt
      components_in N c M Q w v j (more t ts) s n h =
          let x = Position (suc j) in
          let more = within_sort M (kind t) x in
          let o : Over Q t =
          keep.widening M (of_any_sort Q) v t (inside_wide P unknowns keep m (of_any_sort N) M w t h.0, h.1) in (
            typed Q t o,
            scoped_in N c t s.0 n.0 h.0,
            components_in N c (with_sort M (kind t) x) (with_symbol Q x)
                (record { terms = λ y e. more.terms y (w.terms y e); flags = λ y e. more.flags y (w.flags y e) })
                (position_within M Q v (kind t) x) (suc j) ts s.1 n.1 h.2,
          )

    -- what is fine flows into a type without names
    pub flow : (N : Symbols) → HasNoPositions N → (l r : Refined) → Fine N l → IsNameless r → Over N r → IsFlow S N l r
    flow N c l r k h o =
        inr (
          typed N l k.over,
          scoped_in N c l k.scalar k.apart k.over.0,
          typed N r o,
          scoped_in N c r h.0 (apart_nameless N r h.0 h.1) o.0,
          inr h.1,
        )
