-- Twins have no twins but themselves: a type whose functions name their arguments by twins stays as it is, whatever is put for names.
use Rattle.std.proofs.Common.{◌≡◌, ℕ, ◌+◌, ◌≤◌, ◌^◌, [], ◌∷◌, List, Bool, true, false, cond, ltb, ◌==◌, Option, Some, None, ◌⊎◌, inl, inr, refl, sym, ap, ap₂, ◌∙◌, arith}
use Rattle.std.proofs.lemmas.Bool.{ltb-false, le-ltb, eq-eqb}
use Rattle.lq_refined_types.proofs.PartsLemmas.Replacing.{parts-after}
use Rattle.lq_refined_types.specs.Parts.Part.{Scopes, parts_by}
use Rattle.lq_refined_types.specs.Parts.Substitution.{Subst, after, swap}
use Rattle.lq_refined_types.proofs.TypesLemmas.Replacing.{type-after}
use Rattle.lq_refined_types.specs.Types.Operations.{atom_of, renamed, symbol_of, twin, twin_binder, twin_of, twins, type_by, types_by}
use Rattle.lq_refined_subtyping.specs.Table.Changes.{changed}
use Rattle.lq_refined_subtyping.specs.declared.table.changes.Change.{Change}
use Rattle.lq_refined_subtyping.specs.declared.table.changes.Change.TheVariants.{Put, Twin, Twinned}
use Rattle.lq_refined_substitution.specs.Substitution.Views.{subst_view}
use Rattle.lq_refined_substitution.specs.declared.substitution.substs.Subst.{Subst as Swaps}
use Rattle.lq_refined_types.specs.Types.Refined.{Kind, Refined, int_with, bool_with, unit_type, function, tuple_of, array_with, data_with, map_with, type_variable, Refineds, none, more, kind}

-- ---- names

module _ (L : ℕ) where
  abbrev twin_at : ℕ → ℕ
  twin_at x = cond (ltb x L) (x + L) x

  big_at : (x : ℕ) → L ≤ twin_at x
  big_at x = by (ltb x L) (ltb-false x L)
    where
      by : (b : Bool) → (b ≡ false → L ≤ x) → L ≤ cond b (x + L) x
      by true h = omega arith
      by false h = h refl

  own_at : (x : ℕ) → L ≤ x → twin_at x ≡ x
  own_at x h = ap (λ b. cond b (x + L) x) (le-ltb x L h)

twin-own : (x : ℕ) → twin_of (twin_of x) ≡ twin_of x
twin-own x = own_at (2 ^ 31) (twin_of x) (big_at (2 ^ 31) x)

binder-own : (x : Option ℕ) → twin_binder (twin_binder x) ≡ twin_binder x
binder-own None = refl
binder-own (Some x) = ap Some (twin-own x)

-- ---- a name in place of another

same-number : (x : ℕ) → (x == x) ≡ true
same-number x = eq-eqb x x refl

module _ (scopes : Scopes) where
  -- the same name
  pub renamed-own : (x : Option ℕ) (k : Kind) (t : Refined) → renamed scopes x x k t ≡ t
  renamed-own None k t = refl
  renamed-own (Some x) k t = ap (λ b. cond b t (type_by scopes (swap (symbol_of x) (atom_of k (symbol_of x)) ∷ []) t)) (same-number x)

  -- ---- types

  -- where types stay with whatever is put for their names, one does where a name takes another's place
  by-renamed : (t : Refined) → ((θ : Subst) → twin scopes (type_by scopes θ (twin scopes t)) ≡ type_by scopes θ (twin scopes t))
      → (x z : Option ℕ) (k : Kind) (θ : Subst)
      → twin scopes (type_by scopes θ (renamed scopes x z k (twin scopes t))) ≡ type_by scopes θ (renamed scopes x z k (twin scopes t))
  by-renamed t h None z k θ = h θ
  by-renamed t h (Some x) None k θ = h θ
  by-renamed t h (Some x) (Some z) k θ = by (x == z)
    where
      σ : Subst
      σ = swap (symbol_of x) (atom_of k (symbol_of z)) ∷ []

      both : type_by scopes (after θ σ) (twin scopes t) ≡ type_by scopes θ (type_by scopes σ (twin scopes t))
      both = type-after parts-after scopes θ σ (twin scopes t)

      by : (b : Bool) → twin scopes (type_by scopes θ (cond b (twin scopes t) (type_by scopes σ (twin scopes t))))
          ≡ type_by scopes θ (cond b (twin scopes t) (type_by scopes σ (twin scopes t)))
      by true = h θ
      by false = sym (ap (twin scopes) both) ∙ h (after θ σ) ∙ both

  mutual
    pub twin-by : (t : Refined) (θ : Subst) → twin scopes (type_by scopes θ (twin scopes t)) ≡ type_by scopes θ (twin scopes t)
    twin-by (int_with p) θ = refl
    twin-by (bool_with p) θ = refl
    twin-by unit_type θ = refl
    twin-by (function x a b) θ =
        let y = twin_binder x in
        let r = type_by scopes θ (renamed scopes x y (kind a) (twin scopes b)) in
        let k = kind (type_by scopes θ (twin scopes a)) in
        ap₂ (λ z u. function z u (renamed scopes y z k (twin scopes r))) (binder-own x) (twin-by a θ)
        ∙ ap (function y (type_by scopes θ (twin scopes a))) (renamed-own y k (twin scopes r) ∙ by-renamed b (twin-by b) x y (kind a) θ)
    twin-by (tuple_of ts) θ = ap tuple_of (twins-by ts θ)
    twin-by (array_with e p) θ = ap (λ u. array_with u (parts_by scopes θ p)) (twin-by e θ)
    twin-by (data_with d ts m p) θ = ap (λ us. data_with d us m (parts_by scopes θ p)) (twins-by ts θ)
    twin-by (map_with e p) θ = ap (λ u. map_with u (parts_by scopes θ p)) (twin-by e θ)
    twin-by (type_variable i) θ = refl

    twins-by : (ts : Refineds) (θ : Subst) → twins scopes (types_by scopes θ (twins scopes ts)) ≡ types_by scopes θ (twins scopes ts)
    twins-by none θ = refl
    twins-by (more t ts) θ = ap₂ more (twin-by t θ) (twins-by ts θ)

  renamed-twin : (t : Refined) → twin scopes (twin scopes t) ≡ twin scopes t → (x z : Option ℕ) (k : Kind)
      → twin scopes (renamed scopes x z k (twin scopes t)) ≡ renamed scopes x z k (twin scopes t)
  renamed-twin t h None z k = h
  renamed-twin t h (Some x) None k = h
  renamed-twin t h (Some x) (Some z) k = by (x == z)
    where
      σ : Subst
      σ = swap (symbol_of x) (atom_of k (symbol_of z)) ∷ []

      by : (b : Bool) → twin scopes (cond b (twin scopes t) (type_by scopes σ (twin scopes t))) ≡ cond b (twin scopes t) (type_by scopes σ (twin scopes t))
      by true = h
      by false = twin-by t σ

  mutual
    pub twin-twin : (t : Refined) → twin scopes (twin scopes t) ≡ twin scopes t
    twin-twin (int_with p) = refl
    twin-twin (bool_with p) = refl
    twin-twin unit_type = refl
    twin-twin (function x a b) =
        let y = twin_binder x in
        let r = renamed scopes x y (kind a) (twin scopes b) in
        let k = kind (twin scopes a) in
        ap₂ (λ z u. function z u (renamed scopes y z k (twin scopes r))) (binder-own x) (twin-twin a)
        ∙ ap (function y (twin scopes a)) (renamed-own y k (twin scopes r) ∙ renamed-twin b (twin-twin b) x y (kind a))
    twin-twin (tuple_of ts) = ap tuple_of (twins-twins ts)
    twin-twin (array_with e p) = ap (λ u. array_with u p) (twin-twin e)
    twin-twin (data_with d ts m p) = ap (λ us. data_with d us m p) (twins-twins ts)
    twin-twin (map_with e p) = ap (λ u. map_with u p) (twin-twin e)
    twin-twin (type_variable i) = refl

    twins-twins : (ts : Refineds) → twins scopes (twins scopes ts) ≡ twins scopes ts
    twins-twins none = refl
    twins-twins (more t ts) = ap₂ more (twin-twin t) (twins-twins ts)

-- ---- what is done to types, one thing after another

module _ (scopes : Scopes) (all : List Refined) where
  pub twins-stay : (c : Change) → (c ≡ Twin) ⊎ ((θ : Swaps) × (c ≡ Twinned θ)) → (t : Refined) → twin scopes (changed scopes all c t) ≡ changed scopes all c t
  twins-stay c (inl e) t = ap (λ d. twin scopes (changed scopes all d t)) e ∙ twin-twin scopes t ∙ sym (ap (λ d. changed scopes all d t) e)
  twins-stay c (inr (θ, e)) t =
      ap (λ d. twin scopes (changed scopes all d t)) e ∙ twin-by scopes t (subst_view θ) ∙ sym (ap (λ d. changed scopes all d t) e)

  -- what is put for names, behind what was put before
  pub put-behind : (d : Change) (θ σ : Swaps) (τ : Subst) → d ≡ Put σ → τ ≡ after (subst_view θ) (subst_view σ)
      → (t : Refined) → type_by scopes τ t ≡ type_by scopes (subst_view θ) (changed scopes all d t)
  put-behind d θ σ τ f g t =
      ap (λ ρ. type_by scopes ρ t) g ∙ type-after parts-after scopes (subst_view θ) (subst_view σ) t
      ∙ sym (ap (λ l. type_by scopes (subst_view θ) (changed scopes all l t)) f)

  pub put-behind-twins : (d : Change) (θ σ : Swaps) (τ : Subst) → d ≡ Twinned σ → τ ≡ after (subst_view θ) (subst_view σ)
      → (t : Refined) → type_by scopes τ (twin scopes t) ≡ type_by scopes (subst_view θ) (changed scopes all d t)
  put-behind-twins d θ σ τ f g t =
      ap (λ ρ. type_by scopes ρ (twin scopes t)) g ∙ type-after parts-after scopes (subst_view θ) (subst_view σ) (twin scopes t)
      ∙ sym (ap (λ l. type_by scopes (subst_view θ) (changed scopes all l t)) f)
