-- Scopes whose symbols have their sorts among others.
use Rattle.std.proofs.Common.{◌≡◌, ◌∙◌, ◌⊎◌, inl, inr, ℕ, zero, suc, Bool, true, false, ◌||◌, ◌&&◌, cond, [], ◌∷◌, ◌++◌, refl, sym, ap, subst}
use Rattle.lq_sound_scope.specs.Scopes.Over.{kind_of}
use Rattle.lq_refined_instances.specs.Scopes.{Scope}
use Rattle.lq_refined_types.specs.Parts.Substitution.{Subst}
use Rattle.lq_logic_predicates.specs.Sum.{same_symbol}
use Rattle.lq_logic_predicates.specs.declared.symbol.Symbol.{Symbol}
use Rattle.lq_logic_predicates.specs.declared.symbol.Symbol.TheVariants.{Position}
use Rattle.lq_refined_types.specs.Types.Refined.{Kind, number, truth_value, object, other}
use Rattle.lq_refined_types.specs.Types.Unfolding.{is_again}
use Rattle.lq_text_qualifiers.specs.Faults.Shapes.{Shape, int, bool, array, data_of, shape_of}
use Rattle.lq_text_qualifiers.specs.Faults.Shapes as shape
use Rattle.lq_refined_templates.specs.Templates.Cells.{field_scope}
use Rattle.lq_refined_templates.specs.Templates.Scopes as scopes
use Rattle.lq_refined_templates.specs.Templates.Scopes.{with_position}
use Rattle.lq_text_tree.specs.MlType as ml
use Rattle.lq_text_tree.specs.MlType.{MlType, MlTypes}
use Rattle.lq_text_tree.specs.Types as types
use Rattle.lq_text_tree.specs.Types.{count_types, put, put_all}
use Rattle.lq_sound_scope.specs.Sorts.Sorts.{IsWithin, ScopeStands, Sorts, StandsAt, scope_sorts, with_kind}
use Rattle.lq_sound_scope.proofs.SortsLemmas.Basics.{one_cases, own_stands, scope_within, wider_kind, within_kind}

-- ---- more symbols

pub scopes_joined : (N : Sorts) (θ : Subst) (Γ Δ : Scope) → ScopeStands N θ Γ → ScopeStands N θ Δ → ScopeStands N θ (Γ ++ Δ)
scopes_joined N θ [] Δ h w = w
scopes_joined N θ (e ∷ Γ) Δ h w = (h.0, scopes_joined N θ Γ Δ h.1 w)

pub scope_with : (N : Sorts) (θ : Subst) (x : Symbol) (s : Shape) (Γ : Scope) → ScopeStands N θ Γ → StandsAt N θ (kind_of s) x
    → ScopeStands N θ (scopes.with_symbol x s Γ)
scope_with N θ x int Γ h e = scopes_joined N θ Γ _ h (e, tt)
scope_with N θ x bool Γ h e = scopes_joined N θ Γ _ h (e, tt)
scope_with N θ x array Γ h e = scopes_joined N θ Γ _ h (e, tt)
scope_with N θ x (data_of d) Γ h e = scopes_joined N θ Γ _ h (e, tt)
scope_with N θ x shape.other Γ h e = h

-- with a symbol that is one of more sorts
pub scope_with_one : (N : Sorts) (x : Symbol) (s : Shape) (Γ : Scope) → ScopeStands N [] Γ
    → ScopeStands (with_kind N (kind_of s) x) [] (scopes.with_symbol x s Γ)
scope_with_one N x s Γ h =
    scope_with (with_kind N (kind_of s) x) [] x s Γ (scope_within N (with_kind N (kind_of s) x) (within_kind N (kind_of s) x) [] Γ h)
    (own_stands N (kind_of s) x)

-- a scope is of its own sorts
pub own_scope : (Γ : Scope) → ScopeStands (scope_sorts Γ) [] Γ
own_scope [] = tt
own_scope (e ∷ Γ) =
    let N = scope_sorts Γ in
    (own_stands N (kind_of e.1) e.0, scope_within N (with_kind N (kind_of e.1) e.0) (within_kind N (kind_of e.1) e.0) [] Γ (own_scope Γ))

-- ---- the sorts of a scope

no_more : (a b : Bool) → (a || (false && b)) ≡ true → a ≡ true
no_more true b h = refl
no_more false b h = cc

-- one of a kind of which no predicate speaks adds none
pub no_one : (N : Sorts) (x : Symbol) → IsWithin (with_kind N other x) N
no_one N x j y e = no_more (N j y) (same_symbol x y) e

-- nor does a symbol that is of these sorts
pub adds_none : (N : Sorts) (k : Kind) (x : Symbol) → StandsAt N [] k x → IsWithin (with_kind N k x) N
adds_none N number x h j y e =
    one_cases N number j x y (N j y ≡ true) e (λ f. f) (λ i f. subst (λ (l : Kind). N l y ≡ true) i (subst (λ (z : Symbol). N number z ≡ true) f h))
adds_none N truth_value x h j y e =
    one_cases N truth_value j x y (N j y ≡ true) e (λ f. f)
    (λ i f. subst (λ (l : Kind). N l y ≡ true) i (subst (λ (z : Symbol). N truth_value z ≡ true) f h))
adds_none N object x h j y e =
    one_cases N object j x y (N j y ≡ true) e (λ f. f) (λ i f. subst (λ (l : Kind). N l y ≡ true) i (subst (λ (z : Symbol). N object z ≡ true) f h))
adds_none N other x h j y e = no_one N x j y e

pub sorts_in : (N : Sorts) (Γ : Scope) → ScopeStands N [] Γ → IsWithin (scope_sorts Γ) N
sorts_in N [] h k x e = cc
sorts_in N (d ∷ Γ) h k x e =
    adds_none N (kind_of d.1) d.0 h.0 k x (wider_kind (scope_sorts Γ) N (sorts_in N Γ h.1) (kind_of d.1) d.0 k x e)

-- ---- fields of a datatype whose arguments are an instance

-- a shape of which predicates don't speak, or it stays
shape_grows : (by : ℕ → MlType) (a : MlType) → (shape_of a ≡ shape.other) ⊎ (shape_of (put by a) ≡ shape_of a)
shape_grows by ml.int = inr refl
shape_grows by ml.bool = inr refl
shape_grows by ml.unit = inl refl
shape_grows by (ml.var i) = inl refl
shape_grows by (ml.arrow a b) = inl refl
shape_grows by (ml.tuple ts) = inl refl
shape_grows by (ml.array a) = inr refl
shape_grows by (ml.named d ts) = inr refl
shape_grows by (ml.map_of a) = inl refl

in_first : (N : Sorts) (Γ Δ : Scope) → ScopeStands N [] (Γ ++ Δ) → ScopeStands N [] Γ × ScopeStands N [] Δ
in_first N [] Δ h = (tt, h)
in_first N (e ∷ Γ) Δ h = let r = in_first N Γ Δ h.1 in ((h.0, r.0), r.1)

in_with : (N : Sorts) (k : ℕ) (s : Shape) (Γ : Scope) → ScopeStands N [] (with_position k s Γ)
    → ScopeStands N [] Γ × StandsAt N [] (kind_of s) (Position (suc k))
in_with N k int Γ h = let r = in_first N Γ ((Position (suc k), int) ∷ []) h in (r.0, r.1.0)
in_with N k bool Γ h = let r = in_first N Γ ((Position (suc k), bool) ∷ []) h in (r.0, r.1.0)
in_with N k array Γ h = let r = in_first N Γ ((Position (suc k), array) ∷ []) h in (r.0, r.1.0)
in_with N k (data_of d) Γ h = let r = in_first N Γ ((Position (suc k), data_of d) ∷ []) h in (r.0, r.1.0)
in_with N k shape.other Γ h = (h, tt)

module _ (by : ℕ → MlType) where
  at_put : (us : MlTypes) (i : ℕ) → types.type_at (put_all by us) i ≡ put by (types.type_at us i)
  at_put ml.no_types i = refl
  at_put (ml.more_types t us) zero = refl
  at_put (ml.more_types t us) (suc i) = at_put us i

  put_count : (us : MlTypes) → count_types (put_all by us) ≡ count_types us
  put_count ml.no_types = refl
  put_count (ml.more_types t us) = ap suc (put_count us)

  -- of an argument
  pub argument_grows : (us : MlTypes) (i : ℕ)
      → (shape_of (types.type_at us i) ≡ shape.other) ⊎ (shape_of (types.type_at (put_all by us) i) ≡ shape_of (types.type_at us i))
  argument_grows us i = one (shape_grows by (types.type_at us i))
    where
      one : (shape_of (types.type_at us i) ≡ shape.other) ⊎ (shape_of (put by (types.type_at us i)) ≡ shape_of (types.type_at us i))
          → (shape_of (types.type_at us i) ≡ shape.other) ⊎ (shape_of (types.type_at (put_all by us) i) ≡ shape_of (types.type_at us i))
      one (inl e) = inl e
      one (inr e) = inr (ap shape_of (at_put us i) ∙ e)

  field_grows : (us : MlTypes) (f : MlType)
      → let s = shape_of (put (types.type_at us) f) in
      (s ≡ shape.other) ⊎ (shape_of (put (types.type_at (put_all by us)) f) ≡ s)
  field_grows us ml.int = inr refl
  field_grows us ml.bool = inr refl
  field_grows us ml.unit = inl refl
  field_grows us (ml.var i) = argument_grows us i
  field_grows us (ml.arrow a b) = inl refl
  field_grows us (ml.tuple ts) = inl refl
  field_grows us (ml.array a) = inr refl
  field_grows us (ml.named d ts) = inr refl
  field_grows us (ml.map_of a) = inl refl

  shape_in : (N : Sorts) (s z : Shape) (x : Symbol) → (s ≡ shape.other) ⊎ (z ≡ s) → StandsAt N [] (kind_of z) x → StandsAt N [] (kind_of s) x
  shape_in N s z x (inl e) h = subst (λ r. StandsAt N [] (kind_of r) x) (sym e) tt
  shape_in N s z x (inr e) h = subst (λ r. StandsAt N [] (kind_of r) x) e h

  -- the scope of fields has more symbols
  fields_in : (N : Sorts) (d : ℕ) (us : MlTypes) (j : ℕ) (fs : MlTypes) (Γ Δ : Scope) → (ScopeStands N [] Δ → ScopeStands N [] Γ)
      → ScopeStands N [] (field_scope d (put_all by us) j fs Δ) → ScopeStands N [] (field_scope d us j fs Γ)
  fields_in N d us j ml.no_types Γ Δ f h = f h
  fields_in N d us j (ml.more_types g fs) Γ Δ f h =
      let S = shape_of (put (types.type_at us) g) in
      let Z = shape_of (put (types.type_at (put_all by us)) g) in
      let n = is_again d (count_types us) g in
      let same : is_again d (count_types (put_all by us)) g ≡ n = ap (λ (k : ℕ). is_again d k g) (put_count us) in
      fields_in N d us (suc j) fs (cond n Γ (with_position j S Γ)) (cond n Δ (with_position j Z Δ)) (one n S Z (field_grows us g))
      (subst (λ (b : Bool). ScopeStands N [] (field_scope d (put_all by us) (suc j) fs (cond b Δ (with_position j Z Δ)))) same h)
    where
      one : (b : Bool) (S Z : Shape) → (S ≡ shape.other) ⊎ (Z ≡ S)
          → ScopeStands N [] (cond b Δ (with_position j Z Δ)) → ScopeStands N [] (cond b Γ (with_position j S Γ))
      one true S Z g k = f k
      one false S Z g k =
          let r = in_with N j Z Δ k in scope_with N [] (Position (suc j)) S Γ (f r.0) (shape_in N S Z (Position (suc j)) g r.1)

  pub fields_grow : (d : ℕ) (us : MlTypes) (fs : MlTypes) → IsWithin (scope_sorts (field_scope d us 0 fs [])) (scope_sorts (field_scope d (put_all by us) 0 fs []))
  fields_grow d us fs =
      let Δ = field_scope d (put_all by us) 0 fs [] in
      sorts_in (scope_sorts Δ) (field_scope d us 0 fs []) (fields_in (scope_sorts Δ) d us 0 fs [] [] (λ k. k) (own_scope Δ))
