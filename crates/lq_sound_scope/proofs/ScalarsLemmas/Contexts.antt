-- Types that are scalar, over names and apart from these, and environments of such.
use Rattle.std.proofs.Common.{◌≡◌, ◌⊎◌, inl, inr, ℕ, suc, ◌<◌, ◌^◌, Bool, true, false, ◌||◌, ◌==◌, cond, [], ◌∷◌, Option, Some, None, refl, sym, ap, subst}
use Rattle.std.proofs.lemmas.Bool.{eqb-true, eq-eqb}
use Rattle.lq_sound_scope.specs.Splits.Bound.{EntriesOver}
use Rattle.lq_sound_forms.specs.Calls.Operands.{IsUsable, IsUsablePure}
use Rattle.lq_refined_rules.specs.Checks.Basis.{Basis}
use Rattle.lq_refined_rules.specs.Checks.Binders.{IsNewName, operation_binders, block_binders}
use Rattle.lq_refined_rules.specs.Checks.Operation.{body_context, body_type, bind}
use Rattle.lq_refined_rules.specs.Checks.Pure.{formula_of, instance_of, number_type, pure_type, sum_of, truth_type, type_of_use, variable_by}
use Rattle.lq_refined_rules.specs.Checks.Ready.{IsReadyBlock, IsReadyOperation}
use Rattle.lq_refined_rules.specs.Checks.Tree as tree
use Rattle.lq_refined_rules.specs.Checks.Tree.{Pure, Use, Operation, pure, fun, if_else, match_on, call, tuple, build, make, fetch, store, divide, remainder, assert, assert_false, read, print, map_empty, map_add, map_find, Block, last, binding, recursive}
use Rattle.lq_sound_values.specs.Inclusion.Symbols.{Symbols, with_symbol, FormulaOn, TypeOn}
use Rattle.lq_sound_scope.proofs.ScopesLemmas.Assigned.{wider}
use Rattle.lq_sound_scope.specs.Scopes.InScope.{ArgumentsOver}
use Rattle.lq_sound_scope.specs.Scopes.Laws.{TypesAreOver}
use Rattle.lq_sound_scope.specs.Scopes.Over as over
use Rattle.lq_sound_scope.specs.Scopes.Over.{AreSorted, AreWithin, IsWithin, Names, TypeOver, of_any_sort}
use Rattle.lq_sound_values.specs.Inhabitants.Truth.{Objects, Scene}
use Rattle.lq_sound_values.specs.Instantiation.Instances.{AllTypesOn, NamesOutside}
use Rattle.lq_sound_scope.specs.Operations.Laws.{KeepNames}
use Rattle.lq_sound_scope.specs.Operations.Puts.{AllNamesAway, NamesAway}
use Rattle.lq_sound_values.specs.NewNames.NewNames.{HasNoPositions, HaveNoNames}
use Rattle.lq_refined_types.specs.Parts.Assignment.{Assignment}
use Rattle.lq_refined_types.specs.Parts.Part.{Part}
use Rattle.lq_refined_types.specs.Parts.Substitution.{of_sum, of_formula}
use Rattle.lq_sound_programs.proofs.PlainLemmas.Datatypes.{clean_bind}
use Rattle.lq_logic_predicates.specs.Formula as f
use Rattle.lq_logic_predicates.specs.declared.symbol.Symbol.TheVariants.{Position}
use Rattle.lq_logic_predicates.specs.Formula.{Formula}
use Rattle.lq_sound_forms.specs.Pures.Pures as pures
use Rattle.lq_sound_forms.specs.Pures.Pures.{PureOver, UseOver, scene_of}
use Rattle.lq_sound_forms.proofs.PuresLemmas.Pures.{each_use}
use Rattle.lq_sound_forms.proofs.PuresLemmas.Values.{formula_over, sum_over}
use Rattle.lq_refined_types.specs.Types.Context.{Context, type_in, name, guard}
use Rattle.lq_refined_types.specs.Types.Operations.{applied, atom_of, instantiated, renamed, symbol_of, twin, twin_of}
use Rattle.lq_refined_types.specs.Types.Refined.{Refined, Refineds, none, more, int_with, bool_with, unit_type, function, tuple_of, array_with, data_with, map_with, type_variable, Kind, number, truth_value, object, other, kind, argument_of}
use Rattle.lq_sound_values.specs.Twins.Names.{IsNoVariable, NamesApart, AllNamesApart, with_twins}
use Rattle.lq_sound_values.specs.Runs.Closed.{names_in, IsTypeOver, SortedOn}
use Rattle.lq_sound_values.proofs.RunsLemmas.Closing.{new_name, or_left, or_parts, or_right, within_with}
use Rattle.lq_sound_programs.specs.Safety.Programs.{IsUseOf}
use Rattle.lq_refined_templates.specs.Templates.Scopes.{Unknown}
use Rattle.lq_sound_scope.specs.Scalars.Scalar.{HaveTwins}
use Rattle.lq_sound_scope.specs.Scalars.Written.{AreArgumentsNameless, AreScalar, IsScalar, IsNameless, IsNamedBy, IsFunctionFor, IsBlockFor, IsOperationFor}
use Rattle.lq_sound_scope.proofs.ScalarsLemmas.Instances.{away_instance, away_other, named_outside, outside_instance, outside_less, over_instance, scalar_instance}
use Rattle.lq_sound_scope.proofs.ScalarsLemmas.NameKinds.{Agree, block_kinds, IsBound, name_kind, Naming, operation_kinds}
use Rattle.lq_sound_scope.proofs.ScalarsLemmas.Twins.{AreSmall, big_small, clash, false_unless, twin_big, twin_one}
use Rattle.lq_sound_scope.proofs.ScalarsLemmas.Types.{HasKinds, IsNamed, apart_nameless, apart_twin, kinds_agree, named_nameless, named_twin, outside, scalar_twin, twins_within}
use Rattle.lq_sound_scope.proofs.ScalarsLemmas.Uses.{PureOf, UseOf, names_of_pure}

pub sorted_any : (N : Symbols) (p : Formula) → FormulaOn N p → SortedOn N N p
sorted_any N f.truth h = tt
sorted_any N f.falsity h = tt
sorted_any N (f.flag x) h = h
sorted_any N (f.compare o a b) h = h
sorted_any N (f.objects a b) h = h
sorted_any N (f.negation p) h = sorted_any N p h
sorted_any N (f.conjunction p q) h = (sorted_any N p h.0, sorted_any N q h.1)
sorted_any N (f.disjunction p q) h = (sorted_any N p h.0, sorted_any N q h.1)
sorted_any N (f.equivalence p q) h = (sorted_any N p h.0, sorted_any N q h.1)

or_first : (a : Bool) → (a || false) ≡ true → a ≡ true
or_first true h = refl
or_first false h = h

-- a new name is none of the environment's
not_there : (Γ : Context) (y : ℕ) → IsNewName y Γ → names_in Γ (symbol_of y) ≡ true → ⊥
not_there Γ y new h = clash (y == y) (eq-eqb y y refl) (new_name Γ (symbol_of y) (symbol_of y) new h)

pub small_bind : (Γ : Context) (y : ℕ) (t : Refined) → AreSmall (names_in Γ) → y < 2 ^ 31 → AreSmall (names_in (bind y t Γ))
small_bind Γ y t small low z h =
    or_parts (z < 2 ^ 31) (names_in Γ (symbol_of z)) (y == z) h (λ k. small z k) (λ e. subst (λ w. w < 2 ^ 31) (eqb-true y z e) low)

-- ---- names of functions that are written

-- each of these names is of the environment, or the twin of one
abbrev pub IsNear : Symbols → Context → Type 0
IsNear Q Γ =
    (z : ℕ) → Q (symbol_of z) ≡ true
    → (names_in Γ (symbol_of z) ≡ true) ⊎ ((w : ℕ) × (names_in Γ (symbol_of w) ≡ true) × (z ≡ twin_of w))

pub own_near : (Γ : Context) → IsNear (names_in Γ) Γ
own_near Γ z h = inl h

pub near_bind : (Q : Symbols) (Γ : Context) (y : ℕ) (t : Refined) → IsNear Q Γ → IsNear Q (bind y t Γ)
near_bind Q Γ y t near z h = by (near z h)
  where
    by : (names_in Γ (symbol_of z) ≡ true) ⊎ ((w : ℕ) × (names_in Γ (symbol_of w) ≡ true) × (z ≡ twin_of w))
        → (names_in (bind y t Γ) (symbol_of z) ≡ true) ⊎ ((w : ℕ) × (names_in (bind y t Γ) (symbol_of w) ≡ true) × (z ≡ twin_of w))
    by (inl k) = inl (or_left (names_in Γ (symbol_of z)) (y == z) k)
    by (inr k) = inr (k.0, or_left (names_in Γ (symbol_of k.0)) (y == k.0) k.1, k.2)

-- of one name
abbrev IsNearAt : Context → ℕ → Type 0
IsNearAt Γ z = (names_in Γ (symbol_of z) ≡ true) ⊎ ((w : ℕ) × (names_in Γ (symbol_of w) ≡ true) × (z ≡ twin_of w))

near_twins : (Q : Symbols) (Γ : Context) (y : ℕ) (t : Refined) → IsNear Q Γ → IsNear (with_twins Q y) (bind y t Γ)
near_twins Q Γ y t near z h =
    or_parts (IsNearAt (bind y t Γ) z) (with_symbol Q (symbol_of y) (symbol_of z)) (twin_of y == z) h
    (λ k.
    or_parts (IsNearAt (bind y t Γ) z) (Q (symbol_of z)) (y == z) k (λ q. near_bind Q Γ y t near z q)
    (λ e. inl (or_right (names_in Γ (symbol_of z)) (y == z) e)))
    (λ e. inr (y, or_right (names_in Γ (symbol_of y)) (y == y) (eq-eqb y y refl), sym (eqb-true (twin_of y) z e)))

-- a new name is none of such, nor is its twin
new_apart : (Q : Symbols) (Γ : Context) (y : ℕ) → IsNear Q Γ → AreSmall (names_in Γ) → IsNewName y Γ → y < 2 ^ 31
    → (Q (symbol_of y) ≡ false) × (Q (symbol_of (twin_of y)) ≡ false)
new_apart Q Γ y near small new low =
    (false_unless (Q (symbol_of y)) (λ e. first (near y e)), false_unless (Q (symbol_of (twin_of y))) (λ e. second (near (twin_of y) e))) where
      first : (names_in Γ (symbol_of y) ≡ true) ⊎ ((w : ℕ) × (names_in Γ (symbol_of w) ≡ true) × (y ≡ twin_of w)) → ⊥
      first (inl k) = not_there Γ y new k
      first (inr k) = big_small y (twin_of k.0) low (twin_big k.0) k.2

      second : (names_in Γ (symbol_of (twin_of y)) ≡ true) ⊎ ((w : ℕ) × (names_in Γ (symbol_of w) ≡ true) × (twin_of y ≡ twin_of w)) → ⊥
      second (inl k) = big_small (twin_of y) (twin_of y) (small (twin_of y) k) (twin_big y) refl
      second (inr k) =
          not_there Γ y new (subst (λ z. names_in Γ (symbol_of z) ≡ true) (sym (twin_one y k.0 low (small k.0 k.1) k.2)) k.1)

own_twins : (Q : Symbols) (x : ℕ) → IsWithin (with_symbol Q (symbol_of x)) (with_twins Q x)
own_twins Q x = within_with (with_symbol Q (symbol_of x)) (symbol_of (twin_of x))

module _ (P : Basis) (m : Naming) where
  -- a result with its own parameter for the name of its argument
  pub own_body : (y : ℕ) (x : Option ℕ) → IsNamedBy y x → (k : Kind) (r : Refined) → renamed P.setting.scopes x (Some y) k r ≡ r
  own_body y None h k r = refl
  own_body y (Some x) h k r = ap (λ b. cond b r (applied P.setting.scopes (Some x) (atom_of k (symbol_of y)) r)) (eq-eqb x y h)

  abbrev IsFar : Symbols → Refined → Type 0
  IsFar Q t = NamesAway Q t × IsNamed m t

  nameless_far : (Q : Symbols) (t : Refined) → IsNameless t → IsFar Q t
  nameless_far Q t h = (apart_nameless Q t h.0 h.1, named_nameless m t h.1)

  abbrev BlockFar : Block → Type 0
  BlockFar b =
      (Γ : Context) (t : Refined) (Q : Symbols) → IsNear Q Γ → AreSmall (names_in Γ) → IsReadyBlock P Γ b t → HaveTwins (block_binders b)
      → Agree m (block_kinds P Γ b t) → IsBlockFor b t → IsFar Q t

  abbrev FunctionFar : ℕ → Block → Type 0
  FunctionFar y b =
      (Γ : Context) (t : Refined) (Q : Symbols) → IsNear Q Γ → AreSmall (names_in Γ) → IsNewName y Γ
      → IsReadyBlock P (body_context Γ y t) b (body_type P.setting.scopes y t) → HaveTwins (y ∷ block_binders b)
      → Agree m ((y, name_kind (argument_of t)) ∷ block_kinds P (body_context Γ y t) b (body_type P.setting.scopes y t)) → IsFunctionFor y b t
      → IsFar Q t

  function_by : (y : ℕ) (b : Block) → BlockFar b → FunctionFar y b
  function_by y b body Γ (function x a r) Q near small new ready twins kinds w =
      let e = own_body y x w.0 (kind a) r in
      by x w.0
      (λ R n. body (bind y a Γ) r R n (small_bind Γ y a small twins.0) (subst (λ s. IsReadyBlock P (bind y a Γ) b s) e ready) twins.1
      (subst (λ s. Agree m (block_kinds P (bind y a Γ) b s)) e kinds.1) w.2)
    where
      at_name : ((R : Symbols) → IsNear R (bind y a Γ) → IsFar R r) → IsFar Q (function (Some y) a r)
      at_name rest =
          let free = new_apart Q Γ y near small new twins.0 in
          let there = rest (with_twins Q y) (near_twins Q Γ y a near) in
          ((free.0, free.1, apart_nameless Q a w.1.0 w.1.1, there.0), ((λ l. kinds.0.0), there.1))

      by : (x : Option ℕ) → IsNamedBy y x → ((R : Symbols) → IsNear R (bind y a Γ) → IsFar R r) → IsFar Q (function x a r)
      by None h rest = let there = rest Q (near_bind Q Γ y a near) in ((apart_nameless Q a w.1.0 w.1.1, there.0), there.1)
      by (Some x) h rest = subst (λ z. IsFar Q (function (Some z) a r)) (sym h) (at_name rest)
  function_by y b body Γ (int_with p) Q near small new ready twins kinds w = nameless_far Q (int_with p) w
  function_by y b body Γ (bool_with p) Q near small new ready twins kinds w = nameless_far Q (bool_with p) w
  function_by y b body Γ unit_type Q near small new ready twins kinds w = nameless_far Q unit_type w
  function_by y b body Γ (tuple_of ts) Q near small new ready twins kinds w = nameless_far Q (tuple_of ts) w
  function_by y b body Γ (array_with u p) Q near small new ready twins kinds w = nameless_far Q (array_with u p) w
  function_by y b body Γ (data_with d ts n p) Q near small new ready twins kinds w = nameless_far Q (data_with d ts n p) w
  function_by y b body Γ (map_with u p) Q near small new ready twins kinds w = nameless_far Q (map_with u p) w
  function_by y b body Γ (type_variable i) Q near small new ready twins kinds w = nameless_far Q (type_variable i) w

  mutual
    pub block_far : (b : Block) → BlockFar b
    block_far (last l o) Γ t Q near small ready twins kinds w = operation_far o Γ t Q near small ready.0 twins kinds w
    block_far (binding x l o b) Γ t Q near small ready twins kinds w = nameless_far Q t w
    block_far (recursive g p y b c) Γ t Q near small ready twins kinds w = nameless_far Q t w

    operation_far : (o : Operation) (Γ : Context) (t : Refined) (Q : Symbols) → IsNear Q Γ → AreSmall (names_in Γ) → IsReadyOperation P Γ o t
        → HaveTwins (operation_binders o) → Agree m (operation_kinds P Γ o t) → IsOperationFor o t → IsFar Q t
    operation_far (fun p y b) Γ t Q near small ready twins kinds w =
        function_by y b (λ Δ s R n z q u k v. block_far b Δ s R n z q u k v) Γ t Q near small ready.0 ready.1 twins kinds w
    operation_far (pure e) Γ t Q near small ready twins kinds w = nameless_far Q t w
    operation_far (if_else p c a b) Γ t Q near small ready twins kinds w = nameless_far Q t w
    operation_far (match_on p u arms) Γ t Q near small ready twins kinds w = nameless_far Q t w
    operation_far (call g a) Γ t Q near small ready twins kinds w = nameless_far Q t w
    operation_far (tuple es) Γ t Q near small ready twins kinds w = nameless_far Q t w
    operation_far (build p c es) Γ t Q near small ready twins kinds w = nameless_far Q t w
    operation_far (make p n e) Γ t Q near small ready twins kinds w = nameless_far Q t w
    operation_far (fetch u i) Γ t Q near small ready twins kinds w = nameless_far Q t w
    operation_far (store u i e) Γ t Q near small ready twins kinds w = nameless_far Q t w
    operation_far (divide x y) Γ t Q near small ready twins kinds w = nameless_far Q t w
    operation_far (remainder x y) Γ t Q near small ready twins kinds w = nameless_far Q t w
    operation_far (assert e) Γ t Q near small ready twins kinds w = nameless_far Q t w
    operation_far (assert_false p) Γ t Q near small ready twins kinds w = nameless_far Q t w
    operation_far (read e) Γ t Q near small ready twins kinds w = nameless_far Q t w
    operation_far (print e) Γ t Q near small ready twins kinds w = nameless_far Q t w
    operation_far (map_empty p) Γ t Q near small ready twins kinds w = nameless_far Q t w
    operation_far (map_add p k e n) Γ t Q near small ready twins kinds w = nameless_far Q t w
    operation_far (map_find k n) Γ t Q near small ready twins kinds w = nameless_far Q t w

  pub function_far : (y : ℕ) (b : Block) → FunctionFar y b
  function_far y b = function_by y b (block_far b)

-- ---- types and environments

module _ (P : Basis) (unknowns : ℕ → Unknown) (keep : KeepNames P.setting.constructors unknowns P.setting.scopes) (m : Naming) where
  abbrev pub Over : Symbols → Refined → Type 0
  Over N t = TypeOver P.setting.constructors unknowns (of_any_sort N) t

  pub wide : (N M : Symbols) → IsWithin N M → (t : Refined) → Over N t → Over M t
  wide N M w t h = keep.widening (of_any_sort N) (of_any_sort M) (record { terms = w; flags = w }) t h

  -- what is inside a type over names is over more
  pub inside_wide : (N M : Names) → AreWithin N M → (t : Refined) → over.InsideOver P.setting.constructors unknowns N t
      → over.InsideOver P.setting.constructors unknowns M t
  inside_wide N M w (int_with p) h = tt
  inside_wide N M w (bool_with p) h = tt
  inside_wide N M w unit_type h = tt
  inside_wide N M w (function x a b) h = (keep.widening N M w (function x a b) (h, tt)).0
  inside_wide N M w (tuple_of ts) h = (keep.widening N M w (tuple_of ts) (h, tt)).0
  inside_wide N M w (array_with e p) h = (keep.widening N M w (array_with e []) (h, tt)).0
  inside_wide N M w (data_with d ts n p) h = (keep.widening N M w (data_with d ts n []) (h, tt)).0
  inside_wide N M w (map_with e p) h = (keep.widening N M w (map_with e []) (h, tt)).0
  inside_wide N M w (type_variable i) h = tt

  -- scalar, over these names, and its names of arguments apart from them
  pub record IsFine (N : Symbols) (t : Refined) : Type 0 where
    pub scalar : IsScalar t
    pub over : Over N t
    pub apart : NamesAway N t
    pub named : IsNamed m t

  -- the same with names of its own, which are among these
  pub record IsKnown (N : Symbols) (t : Refined) : Type 0 where
    pub scalar : IsScalar t
    pub own : Symbols
    pub within : IsWithin own N
    pub over : Over own t
    pub apart : NamesAway own t
    pub named : IsNamed m t

  pub fine_known : (N : Symbols) (t : Refined) → IsFine N t → IsKnown N t
  fine_known N t k = record { scalar = k.scalar; own = N; within = λ y h. h; over = k.over; apart = k.apart; named = k.named }

  known_more : (N M : Symbols) → IsWithin N M → (t : Refined) → IsKnown N t → IsKnown M t
  known_more N M w t k =
      record { scalar = k.scalar; own = k.own; within = λ y h. w y (k.within y h); over = k.over; apart = k.apart; named = k.named }

  -- Each name is small and has its kind, and its type is known over these names. That of what an earlier definition defined names no argument by
  -- a name there is.
  pub record IsGoodIn (N : Symbols) (Γ : Context) : Type 0 where
    pub kinds : HasKinds m Γ
    pub clean : HasNoPositions (names_in Γ)
    pub types : (z : ℕ) → names_in Γ (symbol_of z) ≡ true → IsKnown N (type_in Γ (symbol_of z))
    pub general : (z : ℕ) → m.general (symbol_of z) ≡ true → NamesOutside m.all (type_in Γ (symbol_of z))
    -- and each guard speaks of these names
    pub entries : EntriesOver P.setting unknowns (of_any_sort N) Γ

  -- over all that the environment has
  abbrev pub IsGood : Context → Type 0
  IsGood Γ = IsGoodIn (names_in Γ) Γ

  pub entries_more : (N M : Symbols) → IsWithin N M → (Γ : Context) → EntriesOver P.setting unknowns (of_any_sort N) Γ
      → EntriesOver P.setting unknowns (of_any_sort M) Γ
  entries_more N M w [] h = tt
  entries_more N M w (name x t ∷ Γ) h =
      (inside_wide (of_any_sort N) (of_any_sort M) (record { terms = w; flags = w }) t h.0, h.1, entries_more N M w Γ h.2)
  entries_more N M w (guard p ∷ Γ) h = (h.0, entries_more N M w Γ h.1)

  pub good_more : (N M : Symbols) → IsWithin N M → (Γ : Context) → IsGoodIn N Γ → IsGoodIn M Γ
  good_more N M w Γ good =
      record {
        kinds = good.kinds;
        clean = good.clean;
        types = λ z h. known_more N M w (type_in Γ (symbol_of z)) (good.types z h);
        general = good.general;
        entries = entries_more N M w Γ good.entries;
      }

  pub small_names : (Γ : Context) → IsGood Γ → AreSmall (names_in Γ)
  small_names Γ good z h = (good.kinds z h).0

  pub good_guard : (Γ : Context) (p : Part) → over.PartOver unknowns (of_any_sort (names_in Γ)) p → IsGood Γ → IsGood (guard p ∷ Γ)
  good_guard Γ p h good =
      record {
        kinds = λ z h. good.kinds z h;
        clean = λ k. good.clean k;
        types = λ z h. known_more (names_in Γ) (names_in (guard p ∷ Γ)) (λ y k. k) (type_in Γ (symbol_of z)) (good.types z h);
        general = λ z h. good.general z h;
        entries = (h, entries_more (names_in Γ) (names_in (guard p ∷ Γ)) (λ y k. k) Γ good.entries);
      }

  -- one more name
  pub good_bind_in : (N : Symbols) (Γ : Context) → IsGoodIn N Γ → (x : ℕ) (t : Refined) → x < 2 ^ 31 → IsBound m x (name_kind t) → IsKnown N t
      → over.TopOver unknowns (of_any_sort (names_in Γ)) t → IsGoodIn N (bind x t Γ)
  good_bind_in N Γ good x t low is known own =
      record {
        kinds = λ z h. kinds_at z (x == z) refl h;
        clean = clean_bind Γ x t good.clean;
        types = λ z h. types_at z (x == z) h;
        general = λ z h. general_at z (x == z) refl h;
        entries = ((wide known.own N known.within t known.over).0, own, good.entries);
      }
    where
      kinds_at : (z : ℕ) (b : Bool) → (x == z) ≡ b → (names_in Γ (symbol_of z) || b) ≡ true
          → let s = cond b t (type_in Γ (symbol_of z)) in (z < 2 ^ 31) × (name_kind s ≡ m.kinds z) × (m.all (symbol_of z) ≡ true)
      kinds_at z true e h =
          subst (λ y. (y < 2 ^ 31) × (name_kind t ≡ m.kinds y) × (m.all (symbol_of y) ≡ true)) (eqb-true x z e) (low, sym is.0, is.1)
      kinds_at z false e h = good.kinds z (or_first (names_in Γ (symbol_of z)) h)

      types_at : (z : ℕ) (b : Bool) → (names_in Γ (symbol_of z) || b) ≡ true
          → IsKnown N (cond b t (type_in Γ (symbol_of z)))
      types_at z true h = known
      types_at z false h = good.types z (or_first (names_in Γ (symbol_of z)) h)

      -- no such name is bound again
      general_at : (z : ℕ) (b : Bool) → (x == z) ≡ b → m.general (symbol_of z) ≡ true → NamesOutside m.all (cond b t (type_in Γ (symbol_of z)))
      general_at z true e h =
          absurd (clash (m.general (symbol_of z)) h (subst (λ y. m.general (symbol_of y) ≡ false) (eqb-true x z e) is.2))
      general_at z false e h = good.general z h

  pub good_bind : (Γ : Context) → IsGood Γ → (x : ℕ) (t : Refined) → x < 2 ^ 31 → IsBound m x (name_kind t) → IsKnown (names_in Γ) t
      → IsGood (bind x t Γ)
  good_bind Γ good x t low is known =
      let N = names_in (bind x t Γ) in
      let w = within_with (names_in Γ) (symbol_of x) in
      good_bind_in N Γ (good_more (names_in Γ) N w Γ good) x t low is (known_more (names_in Γ) N w t known)
      (wide known.own (names_in Γ) known.within t known.over).1

  -- ---- uses

  twin_over : (N : Symbols) (t : Refined) → NamesAway N t → Over N t → Over N (twin P.setting.scopes t)
  twin_over N t n h = keep.twinning (of_any_sort N) N (record { terms = λ y e. e; flags = λ y e. e }) t n h

  -- the type of a variable
  variable_fine : (Γ : Context) → IsGood Γ → (x : ℕ) → names_in Γ (symbol_of x) ≡ true → (t : Refined) → IsKnown (names_in Γ) t
      → IsFine (names_in Γ) (variable_by P.setting.scopes (kind t) x t)
  variable_fine Γ good x h (int_with p) k =
      record {
        scalar = tt;
        over = keep.naming (of_any_sort (names_in Γ)) (atom_of number (symbol_of x)) h (int_with p)
            (wide k.own (names_in Γ) k.within (int_with p) k.over);
        apart = tt;
        named = tt;
      }
  variable_fine Γ good x h (bool_with p) k =
      record {
        scalar = tt;
        over = keep.naming (of_any_sort (names_in Γ)) (atom_of truth_value (symbol_of x)) h (bool_with p)
            (wide k.own (names_in Γ) k.within (bool_with p) k.over);
        apart = tt;
        named = tt;
      }
  variable_fine Γ good x h unit_type k = record { scalar = tt; over = (tt, tt); apart = tt; named = tt }
  variable_fine Γ good x h (function z a b) k =
      let t = function z a b in
      record {
        scalar = scalar_twin P.setting.scopes t k.scalar;
        over = wide k.own (names_in Γ) k.within (twin P.setting.scopes t) (twin_over k.own t k.apart k.over);
        apart = apart_twin P.setting.scopes k.own (names_in Γ) (λ y l e. absurd (big_small y y (small_names Γ good y e) l refl)) t k.scalar k.apart;
        named = named_twin P.setting.scopes m t;
      }
  variable_fine Γ good x h (tuple_of ts) k =
      let t = tuple_of ts in
      record {
        scalar = scalar_twin P.setting.scopes t k.scalar;
        over = wide k.own (names_in Γ) k.within (twin P.setting.scopes t) (twin_over k.own t k.apart k.over);
        apart = apart_twin P.setting.scopes k.own (names_in Γ) (λ y l e. absurd (big_small y y (small_names Γ good y e) l refl)) t k.scalar k.apart;
        named = named_twin P.setting.scopes m t;
      }
  variable_fine Γ good x h (array_with e p) k =
      record {
        scalar = k.scalar;
        over = keep.naming (of_any_sort (names_in Γ)) (atom_of object (symbol_of x)) h (array_with e p)
            (wide k.own (names_in Γ) k.within (array_with e p) k.over);
        apart = apart_nameless (names_in Γ) e k.scalar.0 k.scalar.1;
        named = tt;
      }
  variable_fine Γ good x h (data_with d ts n p) k =
      record {
        scalar = k.scalar;
        over = keep.naming (of_any_sort (names_in Γ)) (atom_of object (symbol_of x)) h (data_with d ts n p)
            (wide k.own (names_in Γ) k.within (data_with d ts n p) k.over);
        apart = apart_nameless (names_in Γ) (data_with d ts n p) k.scalar k.scalar.1;
        named = tt;
      }
  variable_fine Γ good x h (map_with e p) k =
      let t = map_with e p in
      record {
        scalar = scalar_twin P.setting.scopes t k.scalar;
        over = wide k.own (names_in Γ) k.within (twin P.setting.scopes t) (twin_over k.own t k.apart k.over);
        apart = apart_twin P.setting.scopes k.own (names_in Γ) (λ y l e. absurd (big_small y y (small_names Γ good y e) l refl)) t k.scalar k.apart;
        named = named_twin P.setting.scopes m t;
      }
  variable_fine Γ good x h (type_variable i) k = record { scalar = tt; over = (tt, tt); apart = tt; named = tt }

  number_fine : (Γ : Context) (e : Pure) → PureOf P unknowns keep m (names_in Γ) e → IsFine (names_in Γ) (number_type e)
  number_fine Γ e o =
      record {
        scalar = tt;
        over = keep.naming (of_any_sort (names_in Γ)) (of_sum (sum_of e)) (sum_over (names_in Γ) e (names_of_pure P unknowns keep m (names_in Γ) e o))
            (int_with []) (tt, tt);
        apart = tt;
        named = tt;
      }

  truth_fine : (Γ : Context) (e : Pure) → PureOf P unknowns keep m (names_in Γ) e → IsFine (names_in Γ) (truth_type e)
  truth_fine Γ e o =
      record {
        scalar = tt;
        over = keep.naming (of_any_sort (names_in Γ)) (of_formula (formula_of e))
            (sorted_any (names_in Γ) (formula_of e) (formula_over (names_in Γ) e (names_of_pure P unknowns keep m (names_in Γ) e o)))
            (bool_with []) (tt, tt);
        apart = tt;
        named = tt;
      }

  -- the environment's names are among all
  all_names : (Γ : Context) → IsGood Γ → (z : ℕ) → names_in Γ (symbol_of z) ≡ true → m.all (symbol_of z) ≡ true
  all_names Γ good z h = (good.kinds z h).2

  -- the type of what an earlier definition defined, at types for its variables
  instance_known : (Γ : Context) → IsGood Γ → (t : Refined) → IsKnown (names_in Γ) t → NamesOutside m.all t → (Ts : Refineds) → AreScalar Ts
      → HaveNoNames Ts → over.TypesOver P.setting.constructors unknowns (of_any_sort (names_in Γ)) Ts → IsKnown (names_in Γ) (instantiated Ts t)
  instance_known Γ good t k outer Ts s n o =
      let N = names_in Γ in
      let away = away_other m.all m.small k.own N (λ z h. inr (all_names Γ good z h)) t k.scalar outer k.apart in
      record {
        scalar = scalar_instance Ts s n t k.scalar;
        own = N;
        within = λ y h. h;
        over = over_instance P.setting.constructors unknowns P.setting.scopes keep Ts (of_any_sort N) o t (wide k.own N k.within t k.over);
        apart = away_instance Ts s n N t away;
        named = named_outside m (instantiated Ts t) (outside_instance Ts s n m.all t outer);
      }

  pub use_known : (Γ : Context) → IsGood Γ → (u : Use) → UseOf P unknowns keep m (names_in Γ) u → IsKnown (names_in Γ) (type_of_use P Γ u)
  use_known Γ good u o = by u.type_arguments o.1 o.2.0 o.2.1
    where
      by : (a : Option ℕ) → ArgumentsOver P unknowns (names_in Γ) a → AreArgumentsNameless P a → IsUseOf m.general u.name a
          → IsKnown (names_in Γ) (instance_of P Γ a (type_in Γ (symbol_of u.name)))
      by None h n g = good.types u.name o.0
      by (Some i) h n g =
          instance_known Γ good (type_in Γ (symbol_of u.name)) (good.types u.name o.0) (good.general u.name g) (P.type_arguments i) n.0 n.1 h

  pub pure_fine : (Γ : Context) → IsGood Γ → (e : Pure) → PureOf P unknowns keep m (names_in Γ) e → IsFine (names_in Γ) (pure_type P Γ e)
  pure_fine Γ good (tree.whole n) o = number_fine Γ (tree.whole n) o
  pure_fine Γ good (tree.flag b) o = truth_fine Γ (tree.flag b) o
  pure_fine Γ good tree.unit o = record { scalar = tt; over = (tt, tt); apart = tt; named = tt }
  pure_fine Γ good (tree.use_of u) o = variable_fine Γ good u.name o.0 (type_of_use P Γ u) (use_known Γ good u o)
  pure_fine Γ good (tree.negated a) o = number_fine Γ (tree.negated a) o
  pure_fine Γ good (tree.add a b) o = number_fine Γ (tree.add a b) o
  pure_fine Γ good (tree.subtract a b) o = number_fine Γ (tree.subtract a b) o
  pure_fine Γ good (tree.multiply a b) o = number_fine Γ (tree.multiply a b) o
  pure_fine Γ good (tree.length_of a) o = number_fine Γ (tree.length_of a) o
  pure_fine Γ good (tree.compare c a b) o = truth_fine Γ (tree.compare c a b) o
  pure_fine Γ good (tree.not_of a) o = truth_fine Γ (tree.not_of a) o
  pure_fine Γ good (tree.and_of a b) o = truth_fine Γ (tree.and_of a b) o
  pure_fine Γ good (tree.or_of a b) o = truth_fine Γ (tree.or_of a b) o

  -- a variable may be used
  module _ (laws : TypesAreOver) (A : Assignment) (O : Objects) (sorted : AreSorted unknowns A) where
    abbrev S : Scene
    S = scene_of P A O

    pub type_over : (N : Symbols) (t : Refined) → Over N t → IsTypeOver S N t
    type_over N t h = laws P.setting.constructors unknowns S sorted N t h

    types_on : (N : Symbols) (ts : Refineds) → over.TypesOver P.setting.constructors unknowns (of_any_sort N) ts → AllTypesOn A ts N
    types_on N none h = tt
    types_on N (more t ts) h = ((type_over N t (h.0, h.1)).0, types_on N ts h.2)

    -- uses over an environment
    pub use_over : (Γ : Context) → IsGood Γ → (u : Use) → UseOf P unknowns keep m (names_in Γ) u → UseOver P A Γ u
    use_over Γ good u o = (o.0, by u.type_arguments o.1 o.2.1)
      where
        by : (a : Option ℕ) → ArgumentsOver P unknowns (names_in Γ) a → IsUseOf m.general u.name a
            → pures.ArgumentsOver P A Γ (type_in Γ (symbol_of u.name)) a
        by None h g = tt
        by (Some i) h g = (
          types_on (names_in Γ) (P.type_arguments i) h,
          outside_less (names_in Γ) m.all (all_names Γ good) (type_in Γ (symbol_of u.name)) (good.general u.name g),
        )

    pub pure_over : (Γ : Context) → IsGood Γ → (e : Pure) → PureOf P unknowns keep m (names_in Γ) e → PureOver P A Γ e
    pure_over Γ good e o = each_use (UseOf P unknowns keep m (names_in Γ)) (UseOver P A Γ) (use_over Γ good) e o

    -- One more name: that of an argument and its twin.
    one_of : (N : Names) (Q : Symbols) → AreWithin N (of_any_sort Q) → (k : Kind) (x : ℕ)
        → AreWithin (over.with_sort N k (symbol_of x)) (of_any_sort (with_twins Q x))
    one_of N Q w number x =
        record { terms = λ y e. own_twins Q x y (wider N.terms Q (symbol_of x) w.terms y e); flags = λ y e. twins_within Q x y (w.flags y e) }
    one_of N Q w truth_value x =
        record { terms = λ y e. twins_within Q x y (w.terms y e); flags = λ y e. own_twins Q x y (wider N.flags Q (symbol_of x) w.flags y e) }
    one_of N Q w object x =
        record { terms = λ y e. own_twins Q x y (wider N.terms Q (symbol_of x) w.terms y e); flags = λ y e. twins_within Q x y (w.flags y e) }
    one_of N Q w other x = record { terms = λ y e. twins_within Q x y (w.terms y e); flags = λ y e. twins_within Q x y (w.flags y e) }

    -- Names that are away are apart: no part speaks of the name of an argument that is of a variable's type.
    argument_apart : (N : Names) (Q : Symbols) → AreWithin N (of_any_sort Q) → (x : ℕ) (a b : Refined)
        → TypeOver P.setting.constructors unknowns (over.with_sort N (kind a) (symbol_of x)) b → IsNoVariable a ⊎ TypeOn A b Q
    argument_apart N Q w x (type_variable i) b h = inr (type_over Q b (keep.widening N (of_any_sort Q) w b h)).0
    argument_apart N Q w x (int_with p) b h = inl tt
    argument_apart N Q w x (bool_with p) b h = inl tt
    argument_apart N Q w x unit_type b h = inl tt
    argument_apart N Q w x (function y c d) b h = inl tt
    argument_apart N Q w x (tuple_of ts) b h = inl tt
    argument_apart N Q w x (array_with e p) b h = inl tt
    argument_apart N Q w x (data_with d ts n p) b h = inl tt
    argument_apart N Q w x (map_with e p) b h = inl tt

    mutual
      apart_of : (N : Names) (Q : Symbols) → AreWithin N (of_any_sort Q) → (t : Refined) → NamesAway Q t
          → over.InsideOver P.setting.constructors unknowns N t → NamesApart A Q t
      apart_of N Q w (int_with p) n h = tt
      apart_of N Q w (bool_with p) n h = tt
      apart_of N Q w unit_type n h = tt
      apart_of N Q w (function None a b) n h = (apart_of N Q w a n.0 h.0, apart_of N Q w b n.1 h.2)
      apart_of N Q w (function (Some x) a b) n h = (
        n.0,
        n.1,
        argument_apart N Q w x a b (h.2, h.3),
        apart_of N Q w a n.2 h.0,
        apart_of (over.with_sort N (kind a) (symbol_of x)) (with_twins Q x) (one_of N Q w (kind a) x) b n.3 h.2,
      )
      apart_of N Q w (tuple_of ts) n h = components_apart N N Q w 0 ts n h
      apart_of N Q w (array_with e p) n h = apart_of N Q w e n h.0
      apart_of N Q w (data_with d ts m p) n h = arguments_apart N Q w ts n h.0
      apart_of N Q w (map_with e p) n h = tt
      apart_of N Q w (type_variable i) n h = tt

      arguments_apart : (N : Names) (Q : Symbols) → AreWithin N (of_any_sort Q) → (ts : Refineds) → AllNamesAway Q ts
          → over.TypesOver P.setting.constructors unknowns N ts → AllNamesApart A Q ts
      arguments_apart N Q w none n h = tt
      arguments_apart N Q w (more t ts) n h = (apart_of N Q w t n.0 h.0, arguments_apart N Q w ts n.1 h.2)

      components_apart : (N M : Names) (Q : Symbols) → AreWithin N (of_any_sort Q) → (k : ℕ) (ts : Refineds) → AllNamesAway Q ts
          → over.ComponentsOver P.setting.constructors unknowns N M k ts → AllNamesApart A Q ts
      components_apart N M Q w k none n h = tt
      components_apart N M Q w k (more t ts) n h =
          (apart_of N Q w t n.0 h.0, components_apart N (over.with_sort M (kind t) (Position (suc k))) Q w (suc k) ts n.1 h.2)

    pub known_usable : (Γ : Context) → IsGood Γ → (t : Refined) → IsKnown (names_in Γ) t → IsUsable S Γ t
    known_usable Γ good (int_with p) k = tt
    known_usable Γ good (bool_with p) k = tt
    known_usable Γ good unit_type k = tt
    known_usable Γ good (function x a b) k =
        let t = function x a b in
        record {
          over = k.own;
          on = (type_over k.own t k.over).0;
          apart = apart_of (of_any_sort k.own) k.own (record { terms = λ y e. e; flags = λ y e. e }) t k.apart k.over.0;
          kinds = kinds_agree m Γ good.kinds t k.scalar k.named;
          outside = outside (names_in Γ) (small_names Γ good) t k.scalar;
        }
    known_usable Γ good (tuple_of ts) k =
        let t = tuple_of ts in
        record {
          over = k.own;
          on = (type_over k.own t k.over).0;
          apart = apart_of (of_any_sort k.own) k.own (record { terms = λ y e. e; flags = λ y e. e }) t k.apart k.over.0;
          kinds = kinds_agree m Γ good.kinds t k.scalar k.named;
          outside = outside (names_in Γ) (small_names Γ good) t k.scalar;
        }
    known_usable Γ good (array_with e p) k = tt
    known_usable Γ good (data_with d ts n p) k = tt
    known_usable Γ good (map_with e p) k = tt
    known_usable Γ good (type_variable i) k = tt

    pub pure_usable : (Γ : Context) → IsGood Γ → (e : Pure) → PureOf P unknowns keep m (names_in Γ) e → IsUsablePure P S Γ e
    pure_usable Γ good (tree.use_of u) o = known_usable Γ good (type_of_use P Γ u) (use_known Γ good u o)
    pure_usable Γ good (tree.whole n) o = tt
    pure_usable Γ good (tree.flag b) o = tt
    pure_usable Γ good tree.unit o = tt
    pure_usable Γ good (tree.negated a) o = tt
    pure_usable Γ good (tree.add a b) o = tt
    pure_usable Γ good (tree.subtract a b) o = tt
    pure_usable Γ good (tree.multiply a b) o = tt
    pure_usable Γ good (tree.length_of a) o = tt
    pure_usable Γ good (tree.compare c a b) o = tt
    pure_usable Γ good (tree.not_of a) o = tt
    pure_usable Γ good (tree.and_of a b) o = tt
    pure_usable Γ good (tree.or_of a b) o = tt
