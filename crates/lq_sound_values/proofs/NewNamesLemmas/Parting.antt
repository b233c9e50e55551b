-- Subtypings of types in scope are apart.
use Rattle.std.proofs.Common.{◌≡◌, ℕ, suc, ◌≤◌, ◌==◌, Bool, true, false, cond, [], ◌∷◌, ◌⊎◌, inl, inr, Some, None, refl, sym, subst, arith}
use Rattle.std.proofs.lemmas.Bool.{eq-eqb}
use Rattle.lq_logic_predicates.specs.declared.symbol.Symbol.TheVariants as symbol
use Rattle.lq_meaning_steps.specs.Model.Core.{Value}
use Rattle.lq_refined_types.specs.Parts.Assignment.{Assignment}
use Rattle.lq_refined_types.specs.Parts.Part.{Scopes}
use Rattle.lq_refined_types.specs.Parts.Substitution.{swap}
use Rattle.lq_refined_types.specs.Types.Context.{Context}
use Rattle.lq_refined_types.specs.Types.Operations.{symbol_of, atom_of, type_by, renamed}
use Rattle.lq_refined_types.specs.Types.Refined.{Refined, Refineds, int_with, bool_with, unit_type, function, tuple_of, array_with, data_with, map_with, type_variable, none, more, Kind, kind}
use Rattle.lq_refined_types.specs.Subtyping.Subtype.{Setting, IsSubtype, sub, IsInside, in_int, in_bool, in_unit, in_variable, in_function, in_tuple, in_array, in_data, in_map, AreSubtypes, sub_none, sub_more, AreComponents, component_none, component_more}
use Rattle.lq_sound_values.specs.Inhabitants.Truth.{Givens, given, Objects, Scene}
use Rattle.lq_sound_values.specs.Inhabitants.Shut.{shut, Shuts}
use Rattle.lq_sound_values.specs.Inhabitants.Below.{Below}
use Rattle.lq_sound_values.specs.Inclusion.Apart.{Turns, Apart, ApartInside, AllApart, ApartComponents}
use Rattle.lq_sound_values.specs.Inclusion.Laws.{IsScene}
use Rattle.lq_sound_values.specs.Inclusion.Symbols.{Symbols, with_symbol, TypeOn}
use Rattle.lq_sound_values.specs.Runs.Closed.{names_in, IsTypeOver, IsClosed, Binds}
use Rattle.lq_sound_values.proofs.RunsLemmas.Closing.{Within, within_with, with_within, agree_new, closed_bind, may_bind}
use Rattle.lq_sound_values.proofs.RunsLemmas.Lower.{Lower}
use Rattle.lq_sound_values.specs.NewNames.NewNames.{HasNoPositions, IsInScope, ComponentsInScope, ArgumentsInScope, HasNoNames, HaveNoNames}
use Rattle.lq_sound_values.proofs.NewNamesLemmas.Fields.{AllOver, both_false, less_apart, cells_apart}
use Rattle.lq_sound_values.proofs.NewNamesLemmas.Wider.{over_more, new_of}

-- ---- more symbols

-- where no position comes in
mutual
  scope_more : (S : Scene) (P Q : Symbols) → Within P Q → (HasNoPositions P → HasNoPositions Q) → (t : Refined) → HasNoNames t → IsInScope S P t
      → IsInScope S Q t
  scope_more S P Q f k (int_with p) n h = tt
  scope_more S P Q f k (bool_with p) n h = tt
  scope_more S P Q f k unit_type n h = tt
  scope_more S P Q f k (function None a b) n h =
      (over_more S P Q f a h.0, scope_more S P Q f k a n.0 h.1, over_more S P Q f b h.2, scope_more S P Q f k b n.1 h.3)
  scope_more S P Q f k (function (Some x) a b) n h = absurd n
  scope_more S P Q f k (tuple_of ts) n h = (k h.0, components_more S P Q f k P Q f 0 ts n h.1)
  scope_more S P Q f k (array_with e p) n h = (over_more S P Q f e h.0, scope_more S P Q f k e n h.1)
  scope_more S P Q f k (data_with d ts m p) n h = (k h.0, arguments_more S P Q f k ts n h.1, h.2)
  scope_more S P Q f k (map_with e p) n h = tt
  scope_more S P Q f k (type_variable i) n h = tt

  components_more : (S : Scene) (P Q : Symbols) → Within P Q → (HasNoPositions P → HasNoPositions Q) → (R T : Symbols) → Within R T → (j : ℕ)
      (ts : Refineds) → HaveNoNames ts → ComponentsInScope S P R j ts → ComponentsInScope S Q T j ts
  components_more S P Q f k R T g j none n h = tt
  components_more S P Q f k R T g j (more t ts) n h =
      let x = symbol.Position (suc j) in (
        over_more S R T g t h.0,
        scope_more S P Q f k t n.0 h.1,
        components_more S P Q f k (with_symbol R x) (with_symbol T x) (with_within R T x g) (suc j) ts n.1 h.2,
      )

  arguments_more : (S : Scene) (P Q : Symbols) → Within P Q → (HasNoPositions P → HasNoPositions Q) → (ts : Refineds) → HaveNoNames ts
      → ArgumentsInScope S P ts → ArgumentsInScope S Q ts
  arguments_more S P Q f k none n h = tt
  arguments_more S P Q f k (more t ts) n h =
      (over_more S P Q f t h.0, scope_more S P Q f k t n.0 h.1, arguments_more S P Q f k ts n.1 h.2)

-- a name is no position
named_more : (S : Scene) (P : Symbols) (x : ℕ) (t : Refined) → HasNoNames t → IsInScope S P t → IsInScope S (with_symbol P (symbol_of x)) t
named_more S P x t n h =
    scope_more S P (with_symbol P (symbol_of x)) (within_with P (symbol_of x)) (λ clean k. both_false (P (symbol.Position k)) false (clean k) refl) t n h

all_over : (S : Scene) (P : Symbols) (ts : Refineds) → ArgumentsInScope S P ts → AllOver S P ts
all_over S P none h = tt
all_over S P (more t ts) h = (h.0, all_over S P ts h.2)

-- ---- names of arguments

same_name : (scopes : Scopes) (x : ℕ) (k : Kind) (t : Refined) → renamed scopes (Some x) (Some x) k t ≡ t
same_name scopes x k t = chosen (x == x) (eq-eqb x x refl)
  where
    chosen : (b : Bool) → b ≡ true → cond b t (type_by scopes (swap (symbol_of x) (atom_of k (symbol_of x)) ∷ []) t) ≡ t
    chosen true e = refl
    chosen false e = absurd (cc)

turned : (l r : Type 0) → l ⊎ r → r ⊎ l
turned l r (inl h) = inr h
turned l r (inr h) = inl h

-- where the left function names its argument, nothing in the right one does, and the other way round
left_named : (a b : Refined) (x : ℕ) (c d : Refined) → HasNoNames (function (Some x) a b) ⊎ HasNoNames (function None c d) → HasNoNames c × HasNoNames d
left_named a b x c d (inl h) = absurd h
left_named a b x c d (inr h) = h

right_named : (a b : Refined) (y : ℕ) (c d : Refined) → HasNoNames (function None a b) ⊎ HasNoNames (function (Some y) c d) → HasNoNames a × HasNoNames b
right_named a b y c d (inl h) = h
right_named a b y c d (inr h) = absurd h

neither : (x y : ℕ) (a b c d : Refined) → HasNoNames (function (Some x) a b) ⊎ HasNoNames (function (Some y) c d) → ⊥
neither x y a b c d (inl h) = h
neither x y a b c d (inr h) = h

arguments_named : (a b c d : Refined) → HasNoNames (function None a b) ⊎ HasNoNames (function None c d) → HasNoNames c ⊎ HasNoNames a
arguments_named a b c d (inl h) = inr h.0
arguments_named a b c d (inr h) = inl h.0

results_named : (a b c d : Refined) → HasNoNames (function None a b) ⊎ HasNoNames (function None c d) → HasNoNames b ⊎ HasNoNames d
results_named a b c d (inl h) = inl h.1
results_named a b c d (inr h) = inr h.1

first_named : (l r : Refined) (ls rs : Refineds) → HaveNoNames (more l ls) ⊎ HaveNoNames (more r rs) → HasNoNames l ⊎ HasNoNames r
first_named l r ls rs (inl h) = inl h.0
first_named l r ls rs (inr h) = inr h.0

rest_named : (l r : Refined) (ls rs : Refineds) → HaveNoNames (more l ls) ⊎ HaveNoNames (more r rs) → HaveNoNames ls ⊎ HaveNoNames rs
rest_named l r ls rs (inl h) = inl h.1
rest_named l r ls rs (inr h) = inr h.1

-- ---- subtypings

abbrev scene : Setting → Assignment → Objects → Scene
scene P A O = record { setting = P; assignment = A; objects = O }

module _ (law : Lower) (P : Setting) (A : Assignment) (O : Objects) (is : IsScene (scene P A O)) where
  -- a new name of the environment
  binds_with : (Γ : Context) (x : ℕ) (t : Refined) → IsClosed (scene P A O) Γ → names_in Γ (symbol_of x) ≡ false → IsTypeOver (scene P A O) (names_in Γ) t → Binds (scene P A O) (symbol_of x) t Γ
  binds_with Γ x t c n o = (refl, new_of Γ (symbol_of x) n, o, c)

  thin_name : (Γ : Context) (x : ℕ) (t : Refined) → names_in Γ (symbol_of x) ≡ false → TypeOn A t (names_in Γ) → (σ : Givens) (by : Shuts) (v : Value) → Below (scene P A O) (shut (given (symbol_of x) v ∷ σ) by t) (shut σ by t) × Below (scene P A O) (shut σ by t) (shut (given (symbol_of x) v ∷ σ) by t)
  thin_name Γ x t n o σ by v =
      let agree = agree_new Γ (symbol_of x) v σ (new_of Γ (symbol_of x) n) in
      (law.thin (scene P A O) is t (names_in Γ) o (given (symbol_of x) v ∷ σ) σ by agree, law.thin (scene P A O) is t (names_in Γ) o σ (given (symbol_of x) v ∷ σ) by (λ y h. sym (agree y h)))

  same_turns : (x : ℕ) (a : Refined) (k : Kind) (t : Refined) → Turns (scene P A O) a (Some x) t (Some x) (renamed P.scopes (Some x) (Some x) k t)
  same_turns x a k t σ by v i absent =
      subst (λ z. Below (scene P A O) (shut (given (symbol_of x) v ∷ σ) by t) (shut (given (symbol_of x) v ∷ σ) by z)) (sym (same_name P.scopes x k t)) (λ n W u h. h)

  mutual
    pub subtype_apart : {Γ : Context} {l r : Refined} (d : IsSubtype P A Γ l r) → IsClosed (scene P A O) Γ → IsInScope (scene P A O) (names_in Γ) l → IsInScope (scene P A O) (names_in Γ) r → HasNoNames l ⊎ HasNoNames r → Apart (scene P A O) d
    subtype_apart (sub t i) c f g n = inside_apart i c f g n

    inside_apart : {Γ : Context} {l r : Refined} (d : IsInside P A Γ l r) → IsClosed (scene P A O) Γ → IsInScope (scene P A O) (names_in Γ) l → IsInScope (scene P A O) (names_in Γ) r → HasNoNames l ⊎ HasNoNames r → ApartInside (scene P A O) d
    inside_apart in_int c f g n = tt
    inside_apart in_bool c f g n = tt
    inside_apart in_unit c f g n = tt
    inside_apart in_variable c f g n = tt
    inside_apart (in_map s) c f g n = tt
    inside_apart (in_tuple {Γ = Γ} s) c f g n = components_apart (names_in Γ) s c c (λ i le. f.0 (suc i)) f.1 g.1 n
    inside_apart (in_data {Γ = Γ} {d = d} {ls = ls} {m = m} {n = e} s k) c f g n =
        let S = scene P A O in
        (arguments_apart s c f.1 g.1 n, cells_apart law S is Γ c f.0 d ls m e (all_over S (names_in Γ) ls f.1) f.2 g.2)
    inside_apart (in_array {e = a} {f = b} l r) c f g n =
        (subtype_apart l c f.1 g.1 n, subtype_apart r c g.1 f.1 (turned (HasNoNames a) (HasNoNames b) n))
    inside_apart (in_function {Γ = Γ} {x = None} {y = None} {a = a} {b = b} {c = d} {d = e} l r) c f g n =
        (subtype_apart l c g.1 f.1 (arguments_named a b d e n), subtype_apart r c f.3 g.3 (results_named a b d e n), tt, (λ σ by v i z k W u h. h), (λ σ by v i z k W u h. h))
    inside_apart (in_function {Γ = Γ} {x = Some x} {y = None} {a = a} {b = b} {c = d} {d = e} l r) c f g n =
        let S = scene P A O in
        let binds = binds_with Γ x d c f.0 g.0 in
        let closed = closed_bind S (symbol_of x) d Γ binds in
        let N = with_symbol (names_in Γ) (symbol_of x) in
        let free = left_named a b x d e n in (
          subtype_apart l c g.1 f.2 (inl free.0),
          subtype_apart r closed (subst (IsInScope S N) (sym (same_name P.scopes x (kind a) b)) f.4) (named_more S (names_in Γ) x e free.1 g.3) (inr free.1),
          may_bind law S is Γ (symbol_of x) d binds,
          same_turns x d (kind a) b,
          (λ σ by v i z. (thin_name Γ x e f.0 g.2.0 σ by v).0),
        )
    inside_apart (in_function {Γ = Γ} {x = None} {y = Some y} {a = a} {b = b} {c = d} {d = e} l r) c f g n =
        let S = scene P A O in
        let binds = binds_with Γ y d c g.0 g.1 in
        let closed = closed_bind S (symbol_of y) d Γ binds in
        let free = right_named a b y d e n in (
          subtype_apart l c g.2 f.1 (inr free.0),
          subtype_apart r closed (named_more S (names_in Γ) y b free.1 f.3) g.4 (inl free.1),
          may_bind law S is Γ (symbol_of y) d binds,
          (λ σ by v i z. (thin_name Γ y b g.0 f.2.0 σ by v).1),
          (λ σ by v i z k W u h. h),
        )
    inside_apart (in_function {Γ = Γ} {x = Some x} {y = Some y} {a = a} {b = b} {c = d} {d = e} l r) c f g n =
        absurd (neither x y a b d e n)

    -- components, with names for the earlier ones
    components_apart : {Γ Δ : Context} {k : ℕ} {ls rs : Refineds} (R : Symbols) (s : AreComponents P A Γ Δ k ls rs) → IsClosed (scene P A O) Γ
        → IsClosed (scene P A O) Δ → ((i : ℕ) → k ≤ i → names_in Δ (symbol.Position (suc i)) ≡ false)
        → ComponentsInScope (scene P A O) (names_in Γ) (names_in Δ) k ls → ComponentsInScope (scene P A O) (names_in Γ) R k rs
        → HaveNoNames ls ⊎ HaveNoNames rs → ApartComponents (scene P A O) s
    components_apart R component_none c d new f g n = tt
    components_apart R (component_more {Δ = Δ} {k = k} {l = l} {r = r} {ls = ls} {rs = rs} t i rest) c d new f g n =
        let x = symbol.Position (suc k) in
        let binds : Binds (scene P A O) x l Δ = (refl, new_of Δ x (new k (omega arith)), f.0, d) in (
          inside_apart i c f.1 g.1 (first_named l r ls rs n),
          may_bind law (scene P A O) is Δ x l binds,
          components_apart (with_symbol R x) rest c (closed_bind (scene P A O) x l Δ binds)
              (λ j le.
              both_false (names_in Δ (symbol.Position (suc j))) (suc k == suc j) (new j (omega (arith, le)))
              (less_apart (suc k) (suc j) (omega (arith, le))))
              f.2 g.2 (rest_named l r ls rs n),
        )

    arguments_apart : {Γ : Context} {ls rs : Refineds} (s : AreSubtypes P A Γ ls rs) → IsClosed (scene P A O) Γ
        → ArgumentsInScope (scene P A O) (names_in Γ) ls → ArgumentsInScope (scene P A O) (names_in Γ) rs → HaveNoNames ls ⊎ HaveNoNames rs
        → AllApart (scene P A O) s
    arguments_apart sub_none c f g n = tt
    arguments_apart (sub_more {l = l} {r = r} {ls = ls} {rs = rs} s rest) c f g n =
        (subtype_apart s c f.1 g.1 (first_named l r ls rs n), arguments_apart rest c f.2 g.2 (rest_named l r ls rs n))
