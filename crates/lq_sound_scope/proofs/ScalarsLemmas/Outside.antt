-- The types in which definitions end name no argument by a name that is bound elsewhere.
use Rattle.std.proofs.Common.{◌≡◌, ℕ, false, List, [], ◌∷◌, Some, None, sym, subst}
use Rattle.lq_refined_rules.specs.Checks.Basis.{Basis}
use Rattle.lq_refined_rules.specs.Checks.Binders.{operation_binders, block_binders}
use Rattle.lq_refined_rules.specs.Checks.Operation.{type_of}
use Rattle.lq_refined_rules.specs.Checks.Pure.{pure_atom, pure_type, pure_types, type_of_use, variable_by}
use Rattle.lq_refined_rules.specs.Checks.Tree as tree
use Rattle.lq_refined_rules.specs.Checks.Tree.{Use, Pure, Operation, pure, fun, if_else, match_on, call, tuple, build, make, fetch, store, divide, remainder, assert, assert_false, read, print, map_empty, map_add, map_find, Block, last, binding, recursive}
use Rattle.lq_sound_values.specs.Inclusion.Symbols.{Symbols}
use Rattle.lq_sound_scope.specs.Scopes.InScope.{OperationInScope}
use Rattle.lq_sound_scope.specs.Scopes.Over.{IsWithin}
use Rattle.lq_sound_values.specs.Instantiation.Instances.{AllNamesOutside, NamesOutside}
use Rattle.lq_sound_scope.specs.Operations.Laws.{KeepNames}
use Rattle.lq_refined_types.specs.Parts.Part.{Scopes}
use Rattle.lq_refined_types.specs.Parts.Substitution.{Subst}
use Rattle.lq_refined_types.specs.Types.Context.{Context}
use Rattle.lq_refined_types.specs.Types.Operations.{symbol_of, twin, twin_of, twins, type_by, types_by}
use Rattle.lq_refined_types.specs.Types.Refined.{Refined, Refineds, none, more, int_with, bool_with, unit_type, function, tuple_of, array_with, data_with, map_with, type_variable, kind, result_of, binder_of, element_of}
use Rattle.lq_sound_values.specs.Runs.Closed.{names_in}
use Rattle.lq_refined_templates.specs.Templates.Scopes.{Unknown}
use Rattle.lq_sound_scope.specs.Scalars.Written.{IsBlockFor, IsFunctionFor, IsGivenWritten, IsNameless, IsOperationFor, IsOperationWritten, IsScalar}
use Rattle.lq_sound_scope.proofs.ScalarsLemmas.Contexts as contexts
use Rattle.lq_sound_scope.proofs.ScalarsLemmas.Contexts.{use_known, wide}
use Rattle.lq_sound_scope.proofs.ScalarsLemmas.Fine.{IsBuiltFine, element_fine}
use Rattle.lq_sound_scope.proofs.ScalarsLemmas.Instances.{all_nameless_outside, nameless_outside}
use Rattle.lq_sound_scope.proofs.ScalarsLemmas.NameKinds.{Naming, NoneIn}
use Rattle.lq_sound_scope.proofs.ScalarsLemmas.Twins.{AreSmall, twin_outside}
use Rattle.lq_sound_scope.proofs.ScalarsLemmas.Types.{applied_keeps, renamed_keeps}
use Rattle.lq_sound_scope.proofs.ScalarsLemmas.Uses.{IsKnownUse, PureOf, PuresOf, pure_more, pure_uses, pures_more, pures_uses, use_more}

module _ (M : Symbols) (small : AreSmall M) where
  nameless : (t : Refined) → IsNameless t → NamesOutside M t
  nameless t h = nameless_outside M t h.0 h.1

  -- ---- what is put for names, and twins

  module _ (scopes : Scopes) where
    mutual
      outside_put : (θ : Subst) (t : Refined) → NamesOutside M t → NamesOutside M (type_by scopes θ t)
      outside_put θ (int_with p) h = tt
      outside_put θ (bool_with p) h = tt
      outside_put θ unit_type h = tt
      outside_put θ (function None a b) h = (outside_put θ a h.0, outside_put θ b h.1)
      outside_put θ (function (Some x) a b) h = (h.0, outside_put θ a h.1, outside_put θ b h.2)
      outside_put θ (tuple_of ts) h = all_outside_put θ ts h
      outside_put θ (array_with e p) h = outside_put θ e h
      outside_put θ (data_with d ts m p) h = all_outside_put θ ts h
      outside_put θ (map_with e p) h = tt
      outside_put θ (type_variable i) h = tt

      all_outside_put : (θ : Subst) (ts : Refineds) → AllNamesOutside M ts → AllNamesOutside M (types_by scopes θ ts)
      all_outside_put θ none h = tt
      all_outside_put θ (more t ts) h = (outside_put θ t h.0, all_outside_put θ ts h.1)

    mutual
      outside_twin : (t : Refined) → NamesOutside M (twin scopes t)
      outside_twin (int_with p) = tt
      outside_twin (bool_with p) = tt
      outside_twin unit_type = tt
      outside_twin (function None a b) = (outside_twin a, outside_twin b)
      outside_twin (function (Some x) a b) = (
        twin_outside M small x,
        outside_twin a,
        renamed_keeps scopes (NamesOutside M) outside_put (Some x) (Some (twin_of x)) (kind a) (twin scopes b) (outside_twin b),
      )
      outside_twin (tuple_of ts) = all_outside_twin ts
      outside_twin (array_with e p) = outside_twin e
      outside_twin (data_with d ts m p) = all_outside_twin ts
      outside_twin (map_with e p) = tt
      outside_twin (type_variable i) = tt

      all_outside_twin : (ts : Refineds) → AllNamesOutside M (twins scopes ts)
      all_outside_twin none = tt
      all_outside_twin (more t ts) = (outside_twin t, all_outside_twin ts)

    variable_outside : (x : ℕ) (t : Refined) → IsScalar t → NamesOutside M (variable_by scopes (kind t) x t)
    variable_outside x (int_with p) s = tt
    variable_outside x (bool_with p) s = tt
    variable_outside x unit_type s = tt
    variable_outside x (function y a b) s = outside_twin (function y a b)
    variable_outside x (tuple_of ts) s = outside_twin (tuple_of ts)
    variable_outside x (array_with e p) s = nameless_outside M e s.0 s.1
    variable_outside x (data_with d ts m p) s = all_nameless_outside M ts s.0 s.1
    variable_outside x (map_with e p) s = tt
    variable_outside x (type_variable i) s = tt

  result_outside : (t : Refined) → NamesOutside M t → NamesOutside M (result_of t)
  result_outside (function None a b) h = h.1
  result_outside (function (Some x) a b) h = h.2
  result_outside (int_with p) h = tt
  result_outside (bool_with p) h = tt
  result_outside unit_type h = tt
  result_outside (tuple_of ts) h = tt
  result_outside (array_with e p) h = tt
  result_outside (data_with d ts m p) h = tt
  result_outside (map_with e p) h = tt
  result_outside (type_variable i) h = tt

  -- ---- functions that are written, whose parameters are none of these

  mutual
    block_outside : (b : Block) → NoneIn M (block_binders b) → (t : Refined) → IsBlockFor b t → NamesOutside M t
    block_outside (last l o) n t w = written_outside o n t w
    block_outside (binding x l o b) n t w = nameless t w
    block_outside (recursive g p y b c) n t w = nameless t w

    written_outside : (o : Operation) → NoneIn M (operation_binders o) → (t : Refined) → IsOperationFor o t → NamesOutside M t
    written_outside (fun p y b) n (function None a r) w = (nameless a w.1, block_outside b n.1 r w.2)
    written_outside (fun p y b) n (function (Some x) a r) w =
        (subst (λ z. M (symbol_of z) ≡ false) (sym w.0) n.0, nameless a w.1, block_outside b n.1 r w.2)
    written_outside (fun p y b) n (int_with q) w = tt
    written_outside (fun p y b) n (bool_with q) w = tt
    written_outside (fun p y b) n unit_type w = tt
    written_outside (fun p y b) n (tuple_of ts) w = nameless (tuple_of ts) w
    written_outside (fun p y b) n (array_with e q) w = nameless (array_with e q) w
    written_outside (fun p y b) n (data_with d ts m q) w = nameless (data_with d ts m q) w
    written_outside (fun p y b) n (map_with e q) w = tt
    written_outside (fun p y b) n (type_variable i) w = tt
    written_outside (pure e) n t w = nameless t w
    written_outside (if_else p c a b) n t w = nameless t w
    written_outside (match_on p u arms) n t w = nameless t w
    written_outside (call g a) n t w = nameless t w
    written_outside (tuple es) n t w = nameless t w
    written_outside (build p c es) n t w = nameless t w
    written_outside (make p k e) n t w = nameless t w
    written_outside (fetch u i) n t w = nameless t w
    written_outside (store u i e) n t w = nameless t w
    written_outside (divide x y) n t w = nameless t w
    written_outside (remainder x y) n t w = nameless t w
    written_outside (assert e) n t w = nameless t w
    written_outside (assert_false p) n t w = nameless t w
    written_outside (read e) n t w = nameless t w
    written_outside (print e) n t w = nameless t w
    written_outside (map_empty p) n t w = nameless t w
    written_outside (map_add p k e i) n t w = nameless t w
    written_outside (map_find k i) n t w = nameless t w

  pub function_outside : (y : ℕ) (b : Block) → NoneIn M (y ∷ block_binders b) → (t : Refined) → IsFunctionFor y b t → NamesOutside M t
  function_outside y b n t w = written_outside (fun 0 y b) n t w

  -- ---- operations

  module _ (P : Basis) (unknowns : ℕ → Unknown) (keep : KeepNames P.setting.constructors unknowns P.setting.scopes) (m : Naming) where
    abbrev Known : Use → Type 0
    Known = IsKnownUse P unknowns keep m

    abbrev Good : Context → Type 0
    Good = contexts.IsGood P unknowns keep m

    pure_outside : (Γ : Context) → Good Γ → (e : Pure) → PureOf P unknowns keep m (names_in Γ) e → NamesOutside M (pure_type P Γ e)
    pure_outside Γ good (tree.use_of u) o =
        variable_outside P.setting.scopes u.name (type_of_use P Γ u) ((use_known P unknowns keep m Γ good u o).scalar)
    pure_outside Γ good (tree.whole n) o = tt
    pure_outside Γ good (tree.flag b) o = tt
    pure_outside Γ good tree.unit o = tt
    pure_outside Γ good (tree.negated a) o = tt
    pure_outside Γ good (tree.add a b) o = tt
    pure_outside Γ good (tree.subtract a b) o = tt
    pure_outside Γ good (tree.multiply a b) o = tt
    pure_outside Γ good (tree.length_of a) o = tt
    pure_outside Γ good (tree.compare c a b) o = tt
    pure_outside Γ good (tree.not_of a) o = tt
    pure_outside Γ good (tree.and_of a b) o = tt
    pure_outside Γ good (tree.or_of a b) o = tt

    pures_outside : (Γ : Context) → Good Γ → (es : List Pure) → PuresOf P unknowns keep m (names_in Γ) es → AllNamesOutside M (pure_types P Γ es)
    pures_outside Γ good [] o = tt
    pures_outside Γ good (e ∷ es) o = (pure_outside Γ good e o.0, pures_outside Γ good es o.1)

    pub operation_outside : (N : Symbols) (Γ : Context) → IsWithin N (names_in Γ) → Good Γ → (o : Operation) → IsBuiltFine P unknowns keep m Γ o
        → OperationInScope P unknowns N o → IsOperationWritten P Known o → IsGivenWritten P o → IsScalar (type_of P Γ o)
        → NoneIn M (operation_binders o) → NamesOutside M (type_of P Γ o)
    operation_outside N Γ w good (pure e) built scoped written given s n =
        pure_outside Γ good e (pure_more P unknowns keep m N (names_in Γ) w e (pure_uses P unknowns keep m N e scoped written))
    operation_outside N Γ w good (fun p y b) built scoped written given s n = function_outside y b n (P.template p) given
    operation_outside N Γ w good (if_else p c a b) built scoped written given s n = nameless (P.template p) given
    operation_outside N Γ w good (match_on p u arms) built scoped written given s n = nameless (P.template p) given
    operation_outside N Γ w good (call g a) built scoped written given s n =
        let t = pure_type P Γ g in
        let o = pure_outside Γ good g (pure_more P unknowns keep m N (names_in Γ) w g (pure_uses P unknowns keep m N g scoped.0 written.0)) in
        applied_keeps P.setting.scopes (NamesOutside M) (outside_put P.setting.scopes) (binder_of t) (pure_atom P Γ a) (result_of t)
        (result_outside t o)
    operation_outside N Γ w good (tuple es) built scoped written given s n =
        pures_outside Γ good es (pures_more P unknowns keep m N (names_in Γ) w es (pures_uses P unknowns keep m N es scoped written))
    operation_outside N Γ w good (build p c es) built scoped written given s n = all_nameless_outside M _ s.0 s.1
    operation_outside N Γ w good (make p k e) built scoped written given s n = nameless (P.template p) written.2
    operation_outside N Γ w good (fetch u i) built scoped written given s n =
        let k = use_known P unknowns keep m Γ good u (use_more P unknowns keep m N (names_in Γ) w u scoped.0 written.0) in
        let e = element_fine P unknowns keep m (names_in Γ) (type_of_use P Γ u) built.0 built.1 k.scalar
        (wide P unknowns keep m k.own (names_in Γ) k.within (type_of_use P Γ u) k.over) in
        nameless (element_of (type_of_use P Γ u)) e.0
    operation_outside N Γ w good (store u i e) built scoped written given s n = tt
    operation_outside N Γ w good (divide x y) built scoped written given s n = tt
    operation_outside N Γ w good (remainder x y) built scoped written given s n = tt
    operation_outside N Γ w good (assert e) built scoped written given s n = tt
    operation_outside N Γ w good (assert_false p) built scoped written given s n = nameless (P.template p) written
    operation_outside N Γ w good (read e) built scoped written given s n = tt
    operation_outside N Γ w good (print e) built scoped written given s n = tt
    operation_outside N Γ w good (map_empty p) built scoped written given s n = absurd written
    operation_outside N Γ w good (map_add p k e i) built scoped written given s n = absurd written
    operation_outside N Γ w good (map_find k i) built scoped written given s n = absurd written
