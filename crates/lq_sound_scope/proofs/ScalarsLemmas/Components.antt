-- The names that an arm gives to a tuple's components: they get known types, over the names outside and the earlier ones.
use Rattle.std.proofs.Common.{◌≡◌, ◌∙◌, ℕ, suc, ◌<◌, ◌^◌, Bool, true, false, cond, List, [], ◌∷◌, refl, sym}
use Rattle.lq_refined_rules.specs.Checks.Basis.{Basis}
use Rattle.lq_refined_rules.specs.Checks.Binders.{AreNewNames, IsNewName}
use Rattle.lq_refined_rules.specs.Checks.Match.{bind_components, name_for}
use Rattle.lq_refined_rules.specs.Checks.Operation.{bind}
use Rattle.lq_sound_forms.specs.Fields.Fields.{with_flag, with_term}
use Rattle.lq_sound_values.specs.Inclusion.Symbols.{Symbols, with_symbol, SumOn}
use Rattle.lq_sound_scope.specs.Scopes.InScope.{with_names}
use Rattle.lq_sound_scope.specs.Scopes.Laws.{TypesAreOver}
use Rattle.lq_sound_scope.specs.Scopes.Over as over
use Rattle.lq_sound_scope.specs.Scopes.Over.{AreSorted, IsWithin, Names, of_any_sort, with_sort}
use Rattle.lq_sound_scope.proofs.ScopesLemmas.Assigned.{each_within, or_cases, parts_over, sorted_within, sum_within, wider}
use Rattle.lq_sound_scope.proofs.ScopesLemmas.Symbols.{own_one, within_one}
use Rattle.lq_sound_values.specs.Inhabitants.Truth.{Objects, Scene}
use Rattle.lq_sound_scope.specs.Operations.Laws.{KeepNames}
use Rattle.lq_sound_scope.specs.Operations.Puts.{AllNamesAway, NamesAway, Puts}
use Rattle.lq_refined_types.specs.Parts.Assignment.{Assignment, parts_under}
use Rattle.lq_refined_types.specs.Parts.Part.{Parts, parts_by}
use Rattle.lq_refined_types.specs.Parts.Substitution.{of_sum, of_formula, swap, Subst, sum_at, flag_at}
use Rattle.lq_logic_predicates.specs.Formula.{flag}
use Rattle.lq_logic_predicates.specs.Sum.{same_symbol, var}
use Rattle.lq_logic_predicates.specs.declared.symbol.Symbol.{Symbol}
use Rattle.lq_logic_predicates.specs.declared.symbol.Symbol.TheVariants.{Position, Value}
use Rattle.lq_sound_forms.specs.Pures.Pures.{scene_of}
use Rattle.lq_refined_types.specs.Types.Context.{Context}
use Rattle.lq_refined_types.specs.Types.Operations.{atom_of, symbol_of}
use Rattle.lq_refined_types.specs.Types.Refined.{Refined, Refineds, int_with, bool_with, unit_type, function, tuple_of, array_with, data_with, map_with, type_variable, none, more, Kind, number, truth_value, object, other, kind, top, with_top}
use Rattle.lq_sound_values.specs.Runs.Closed.{names_in, with_value, IsClosed, SortedOn}
use Rattle.lq_sound_values.proofs.RunsLemmas.Closing.{closed_bind, with_within}
use Rattle.lq_refined_types.specs.Subtyping.Splitting.{first_of, rest_of}
use Rattle.lq_refined_templates.specs.Templates.Scopes.{Unknown}
use Rattle.lq_sound_forms.specs.Tuples.Tuples.{AreComponentsOver}
use Rattle.lq_sound_scope.specs.Scalars.Scalar.{HaveTwins}
use Rattle.lq_sound_scope.specs.Scalars.Written.{AreScalar, IsScalar}
use Rattle.lq_sound_scope.proofs.ScalarsLemmas.Contexts as contexts
use Rattle.lq_sound_scope.proofs.ScalarsLemmas.Contexts.{good_bind, inside_wide, type_over, wide}
use Rattle.lq_sound_scope.proofs.ScalarsLemmas.NameKinds.{Agree, IsBound, component_kinds, name_kind, Naming}
use Rattle.lq_sound_scope.proofs.ScalarsLemmas.Types.{AreNamed, IsNamed, apart_nameless}

-- ---- names

-- new names are so beside other entries
pub new_names : (xs : List ℕ) (Γ Λ : Context) → ((y : ℕ) → IsNewName y Γ → IsNewName y Λ) → AreNewNames xs Γ → AreNewNames xs Λ
new_names [] Γ Λ f n = tt
new_names (x ∷ xs) Γ Λ f n =
    (f x n.0, new_names xs (bind x unit_type Γ) (bind x unit_type Λ) (λ y h. (h.0, f y h.1)) n.1)

pub named_components : (P : Basis) (xs : List ℕ) (θ : Subst) (j : ℕ) (ts : Refineds) (N : Symbols) (Γ : Context) → IsWithin N (names_in Γ)
    → IsWithin (with_names N xs) (names_in (bind_components P.setting.scopes θ j xs ts Γ))
named_components P [] θ j ts N Γ w = w
named_components P (x ∷ xs) θ j ts N Γ w =
    let t = with_top (parts_by P.setting.scopes θ (top (first_of ts))) (first_of ts) in
    named_components P xs (name_for j x (first_of ts) ∷ θ) (suc j) (rest_of ts) (with_symbol N (symbol_of x)) (bind x t Γ)
    (with_within N (names_in Γ) (symbol_of x) w)

-- ---- names for positions

module _ (N : Symbols) (M : Names) (θ : Subst) (p : Puts (of_any_sort N) θ M) (z x : Symbol) where
  abbrev More : Symbols
  More = with_symbol N x

  -- a symbol of the second names that isn't the new one
  old_one : (T : Symbols) (y : Symbol) → with_symbol T z y ≡ true → same_symbol z y ≡ false → T y ≡ true
  old_one T y h e = or_cases (T y) (same_symbol z y) (T y ≡ true) h (λ k. k) (λ k. absurd (no (sym e ∙ k)))
    where
      no : false ≡ true → ⊥
      no q = cc

  sum_more : (y : Symbol) → SumOn (with_symbol N y) (sum_at θ y) → SumOn (with_symbol More y) (sum_at θ y)
  sum_more y h = sum_within (with_symbol N y) (with_symbol More y) (wider N More y (within_one N x)) (sum_at θ y) h

  flag_more : (y : Symbol) → SortedOn N (with_symbol N y) (flag_at θ y) → SortedOn More (with_symbol More y) (flag_at θ y)
  flag_more y h =
      sorted_within N (with_symbol N y) More (with_symbol More y) (within_one N x) (wider N More y (within_one N x)) (flag_at θ y) h

  term_at : (y : Symbol) → with_symbol M.terms z y ≡ true → SumOn More (sum_at (swap z (of_sum (var x)) ∷ θ) y)
  term_at y h = by (same_symbol z y) refl
    where
      by : (b : Bool) → same_symbol z y ≡ b → SumOn More (cond b (var x) (sum_at θ y))
      by true e = own_one N x
      by false e = sum_within N More (within_one N x) (sum_at θ y) (p.terms y (old_one M.terms y h e))

  any_term_at : (y : Symbol) → SumOn (with_symbol More y) (sum_at (swap z (of_sum (var x)) ∷ θ) y)
  any_term_at y = by (same_symbol z y)
    where
      by : (b : Bool) → SumOn (with_symbol More y) (cond b (var x) (sum_at θ y))
      by true = within_one More y x (own_one N x)
      by false = sum_more y (p.any_term y)

  flag_in : (y : Symbol) → with_symbol M.flags z y ≡ true → SortedOn More More (flag_at (swap z (of_formula (flag x)) ∷ θ) y)
  flag_in y h = by (same_symbol z y) refl
    where
      by : (b : Bool) → same_symbol z y ≡ b → SortedOn More More (cond b (flag x) (flag_at θ y))
      by true e = own_one N x
      by false e = sorted_within N N More More (within_one N x) (within_one N x) (flag_at θ y) (p.flags y (old_one M.flags y h e))

  any_flag_at : (y : Symbol) → SortedOn More (with_symbol More y) (flag_at (swap z (of_formula (flag x)) ∷ θ) y)
  any_flag_at y = by (same_symbol z y)
    where
      by : (b : Bool) → SortedOn More (with_symbol More y) (cond b (flag x) (flag_at θ y))
      by true = within_one More y x (own_one N x)
      by false = flag_more y (p.any_flag y)

  with_sum : Puts (of_any_sort More) (swap z (of_sum (var x)) ∷ θ) (record { terms = with_symbol M.terms z; flags = M.flags })
  with_sum =
      record {
        terms = λ y h. term_at y h;
        flags = λ y h. sorted_within N N More More (within_one N x) (within_one N x) (flag_at θ y) (p.flags y h);
        any_term = λ y. any_term_at y;
        any_flag = λ y. flag_more y (p.any_flag y);
      }

  with_formula : Puts (of_any_sort More) (swap z (of_formula (flag x)) ∷ θ) (record { terms = M.terms; flags = with_symbol M.flags z })
  with_formula =
      record {
        terms = λ y h. sum_within N More (within_one N x) (sum_at θ y) (p.terms y h);
        flags = λ y h. flag_in y h;
        any_term = λ y. sum_more y (p.any_term y);
        any_flag = λ y. any_flag_at y;
      }

  -- a name for a position
  with_name : (k : Kind) → Puts (of_any_sort More) (swap z (atom_of k x) ∷ θ) (with_sort M k z)
  with_name number = with_sum
  with_name truth_value = with_formula
  with_name object = with_sum
  with_name other =
      let q = with_sum in
      record {
        terms = λ y h. q.terms y (within_one M.terms z y h);
        flags = λ y h. q.flags y h;
        any_term = λ y. q.any_term y;
        any_flag = λ y. q.any_flag y;
      }

-- nothing is put
nothing_put : (N T : Symbols) → IsWithin T N → Puts (of_any_sort N) [] (of_any_sort T)
nothing_put N T w = record { terms = λ y h. w y h; flags = λ y h. w y h; any_term = λ y. own_one N y; any_flag = λ y. own_one N y }

kind_topped : (q : Parts) (t : Refined) → name_kind (with_top q t) ≡ name_kind t
kind_topped q (int_with p) = refl
kind_topped q (bool_with p) = refl
kind_topped q unit_type = refl
kind_topped q (function x a b) = refl
kind_topped q (tuple_of ts) = refl
kind_topped q (array_with e p) = refl
kind_topped q (data_with d ts m p) = refl
kind_topped q (map_with e p) = refl
kind_topped q (type_variable i) = refl

-- one more symbol at a kind
more_terms : (M : Names) (k : Kind) (x : Symbol) (T : Symbols) → IsWithin M.terms T → IsWithin (with_sort M k x).terms (with_term k T x)
more_terms M number x T w = wider M.terms T x w
more_terms M truth_value x T w = w
more_terms M object x T w = wider M.terms T x w
more_terms M other x T w = λ y h. within_one T x y (w y h)

more_flags : (M : Names) (k : Kind) (x : Symbol) (F : Symbols) → IsWithin M.flags F → IsWithin (with_sort M k x).flags (with_flag k F x)
more_flags M number x F w = w
more_flags M truth_value x F w = wider M.flags F x w
more_flags M object x F w = w
more_flags M other x F w = w

term_symbol : (k : Kind) (T : Symbols) (x : Symbol) → IsWithin (with_term k T x) (with_symbol T x)
term_symbol number T x y h = h
term_symbol truth_value T x y h = within_one T x y h
term_symbol object T x y h = h
term_symbol other T x y h = h

flag_symbol : (k : Kind) (F : Symbols) (x : Symbol) → IsWithin (with_flag k F x) (with_symbol F x)
flag_symbol number F x y h = within_one F x y h
flag_symbol truth_value F x y h = h
flag_symbol object F x y h = within_one F x y h
flag_symbol other F x y h = within_one F x y h

-- ---- components

module _ (P : Basis) (unknowns : ℕ → Unknown) (keep : KeepNames P.setting.constructors unknowns P.setting.scopes) (m : Naming)
    (laws : TypesAreOver) (A : Assignment) (O : Objects)
    (sorted : AreSorted unknowns A) where
  abbrev Good : Context → Type 0
  Good = contexts.IsGood P unknowns keep m

  abbrev Known : Symbols → Refined → Type 0
  Known = contexts.IsKnown P unknowns keep m

  abbrev S : Scene
  S = scene_of P A O

  -- components of scalar types behind the first j: inside over the first symbols, their tops over the second names
  abbrev AreFine : Symbols → Names → ℕ → Refineds → Type 0
  AreFine own M j ts =
      AreScalar ts × AllNamesAway own ts × AreNamed m ts × over.ComponentsOver P.setting.constructors unknowns (of_any_sort own) M j ts

  abbrev IsFineFirst : Symbols → Names → Refined → Type 0
  IsFineFirst own M t =
      IsScalar t × NamesAway own t × IsNamed m t × over.InsideOver P.setting.constructors unknowns (of_any_sort own) t × over.TopOver unknowns M t

  first_fine : (own : Symbols) (M : Names) (j : ℕ) (ts : Refineds) → AreFine own M j ts → IsFineFirst own M (first_of ts)
  first_fine own M j none h = (tt, tt, tt, tt, tt)
  first_fine own M j (more t ts) h = (h.0.0, h.1.0, h.2.0, h.3.0, h.3.1)

  rest_fine : (own : Symbols) (M : Names) (j : ℕ) (ts : Refineds) → AreFine own M j ts
      → AreFine own (with_sort M (kind (first_of ts)) (Position (suc j))) (suc j) (rest_of ts)
  rest_fine own M j none h = (tt, tt, tt, tt)
  rest_fine own M j (more t ts) h = (h.0.1, h.1.1, h.2.1, h.3.2)

  -- a component with names for the positions in its top
  component_known : (N own : Symbols) → IsWithin own N → (M : Names) (θ : Subst) → Puts (of_any_sort N) θ M → (t : Refined) → IsFineFirst own M t
      → Known N (with_top (parts_by P.setting.scopes θ (top t)) t)
  component_known N own w M θ p (int_with q) h =
      record { scalar = tt; own = N; within = λ y e. e; over = keep.putting (of_any_sort N) M θ p (int_with q) (tt, h.4); apart = tt; named = tt }
  component_known N own w M θ p (bool_with q) h =
      record { scalar = tt; own = N; within = λ y e. e; over = keep.putting (of_any_sort N) M θ p (bool_with q) (tt, h.4); apart = tt; named = tt }
  component_known N own w M θ p unit_type h = record { scalar = tt; own = N; within = λ y e. e; over = (tt, tt); apart = tt; named = tt }
  component_known N own w M θ p (function x a b) h =
      record { scalar = h.0; own = own; within = w; over = (h.3, tt); apart = h.1; named = h.2 }
  component_known N own w M θ p (tuple_of ts) h =
      record { scalar = h.0; own = own; within = w; over = (h.3, tt); apart = h.1; named = h.2 }
  component_known N own w M θ p (array_with e q) h =
      let o = keep.putting (of_any_sort N) M θ p (array_with unit_type q) ((tt, tt), h.4) in
      let i = inside_wide P unknowns keep m (of_any_sort own) (of_any_sort N) (record { terms = w; flags = w }) (array_with e q) h.3 in
      record { scalar = h.0; own = N; within = λ y k. k; over = (i, o.1); apart = apart_nameless N e h.0.0 h.0.1; named = tt }
  component_known N own w M θ p (data_with d ts n q) h =
      let o = keep.putting (of_any_sort N) M θ p (array_with unit_type q) ((tt, tt), h.4) in
      let i = inside_wide P unknowns keep m (of_any_sort own) (of_any_sort N) (record { terms = w; flags = w }) (data_with d ts n q) h.3 in
      record { scalar = h.0; own = N; within = λ y k. k; over = (i, o.1); apart = apart_nameless N (data_with d ts n q) h.0 h.0.1; named = tt }
  component_known N own w M θ p (map_with e q) h =
      let o = keep.putting (of_any_sort N) M θ p (map_with unit_type q) ((tt, tt), h.4) in
      let i = inside_wide P unknowns keep m (of_any_sort own) (of_any_sort N) (record { terms = w; flags = w }) (map_with e q) h.3 in
      record { scalar = h.0; own = N; within = λ y k. k; over = (i, o.1); apart = apart_nameless N e h.0.0 h.0.1; named = tt }
  component_known N own w M θ p (type_variable i) h =
      record { scalar = tt; own = N; within = λ y e. e; over = (tt, tt); apart = tt; named = tt }

  -- the environment of an arm: good, and closed where that of the match is
  abbrev pub IsOpened : Context → Context → Type 0
  IsOpened Γ Λ = Good Λ × (IsClosed S Γ → IsClosed S Λ)

  pub known_opened : (Γ : Context) → Good Γ → (x : ℕ) (t : Refined) → IsNewName x Γ → x < 2 ^ 31 → IsBound m x (name_kind t) → Known (names_in Γ) t
      → IsOpened Γ (bind x t Γ)
  known_opened Γ good x t new low is k = (
    good_bind P unknowns keep m Γ good x t low is k,
    (λ c.
        closed_bind S (symbol_of x) t Γ
        (refl, new, type_over P unknowns keep m laws A O sorted (names_in Γ) t (wide P unknowns keep m k.own (names_in Γ) k.within t k.over), c)),
  )

  components_opened : (xs : List ℕ) (ts : Refineds) (θ : Subst) (j : ℕ) (Γ : Context) (own : Symbols) (M : Names) → Good Γ
      → IsWithin own (names_in Γ) → AreFine own M j ts → Puts (of_any_sort (names_in Γ)) θ M → AreNewNames xs Γ → HaveTwins xs
      → Agree m (component_kinds xs ts) → IsOpened Γ (bind_components P.setting.scopes θ j xs ts Γ)
  components_opened [] ts θ j Γ own M good w h p new twins kinds = (good, (λ c. c))
  components_opened (x ∷ xs) ts θ j Γ own M good w h p new twins kinds =
      let s = first_of ts in
      let q = parts_by P.setting.scopes θ (top s) in
      let t = with_top q s in
      let k = component_known (names_in Γ) own w M θ p s (first_fine own M j ts h) in
      let is = kinds.0 in
      let one = known_opened Γ good x t new.0 twins.0 (is.0 ∙ sym (kind_topped q s), is.1, is.2) k in
      let z = Position (suc j) in
      let rest = components_opened xs (rest_of ts) (name_for j x s ∷ θ) (suc j) (bind x t Γ) own (with_sort M (kind s) z) one.0
      (λ y e. within_one (names_in Γ) (symbol_of x) y (w y e)) (rest_fine own M j ts h) (with_name (names_in Γ) M θ p z (symbol_of x) (kind s))
      (new_names xs (bind x unit_type Γ) (bind x t Γ) (λ y n. n) new.1) twins.1 kinds.1 in
      (rest.0, (λ c. rest.1 (one.1 c)))

  -- of a tuple's type
  pub tuple_opened : (xs : List ℕ) (ts : Refineds) (Γ : Context) → Good Γ → Known (names_in Γ) (tuple_of ts) → AreNewNames xs Γ → HaveTwins xs
      → Agree m (component_kinds xs ts) → IsOpened Γ (bind_components P.setting.scopes [] 0 xs ts Γ)
  tuple_opened xs ts Γ good k new twins kinds =
      components_opened xs ts [] 0 Γ k.own (of_any_sort k.own) good k.within (k.scalar, k.apart, k.named, k.over.0)
      (nothing_put (names_in Γ) k.own k.within) new twins kinds

  -- of no tuple's
  pub none_opened : (xs : List ℕ) (Γ : Context) → Good Γ → AreNewNames xs Γ → HaveTwins xs → Agree m (component_kinds xs none)
      → IsOpened Γ (bind_components P.setting.scopes [] 0 xs none Γ)
  none_opened xs Γ good new twins kinds =
      components_opened xs none [] 0 Γ (names_in Γ) (of_any_sort (names_in Γ)) good (λ y h. h) (tt, tt, tt, tt)
      (nothing_put (names_in Γ) (names_in Γ) (λ y h. h)) new twins kinds

  -- ---- tops of components, by sorts

  components_sorted : (N M : Names) (T F : Symbols) → IsWithin M.terms T → IsWithin M.flags F → (j : ℕ) (ts : Refineds)
      → over.ComponentsOver P.setting.constructors unknowns N M j ts → AreComponentsOver A T F j ts
  components_sorted N M T F w v j none h = tt
  components_sorted N M T F w v j (more t ts) h =
      let V = with_sort M (kind t) Value in
      let z = Position (suc j) in (
        each_within V.terms V.flags (with_value T) (with_value F)
            (λ y e. term_symbol (kind t) T Value y (more_terms M (kind t) Value T w y e))
            (λ y e. flag_symbol (kind t) F Value y (more_flags M (kind t) Value F v y e)) (parts_under A (top t))
            (parts_over unknowns A sorted V (top t) h.1),
        components_sorted N (with_sort M (kind t) z) (with_term (kind t) T z) (with_flag (kind t) F z) (more_terms M (kind t) z T w)
            (more_flags M (kind t) z F v) (suc j) ts h.2,
      )

  pub tuple_sorted : (N : Symbols) (ts : Refineds) → Known N (tuple_of ts) → AreComponentsOver A N N 0 ts
  tuple_sorted N ts k = components_sorted (of_any_sort k.own) (of_any_sort k.own) N N k.within k.within 0 ts k.over.0
