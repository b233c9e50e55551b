-- Names for places, one more each time.
use Rattle.std.proofs.Common.{◌≡◌, ℕ, suc, ◌+◌, ◌<◌, List, [], ◌∷◌, ◌++◌, get_or, length, take, refl, ap, ap₂, ◌∙◌, arith}
use Rattle.std.proofs.lemmas.List.{length-map, length-take-le, map_push, take_more}
use Rattle.lq_refined_rules.specs.Checks.Match.{name_for, names_for, bind_all, bind_components}
use Rattle.lq_refined_rules.specs.Checks.Operation.{bind}
use Rattle.lq_base_names.specs.declared.name.Binder.{Binder}
use Rattle.lq_refined_types.specs.Parts.Part.{Scopes, parts_by}
use Rattle.lq_refined_types.specs.Parts.Substitution.{Subst}
use Rattle.lq_refined_templates.specs.Programs.BlockView.{names_view}
use Rattle.lq_refined_types.specs.Types.Context.{Context}
use Rattle.lq_refined_types.specs.Types.Refined.{Refined, Refineds, none, more, top, type_at, with_top}
use Rattle.lq_refined_types.specs.Subtyping.Splitting.{first_of, rest_of}

pub first-at : (ts : Refineds) → first_of ts ≡ type_at ts 0
first-at none = refl
first-at (more t ts) = refl

pub rest-at : (ts : Refineds) (i : ℕ) → type_at (rest_of ts) i ≡ type_at ts (suc i)
rest-at none i = refl
rest-at (more t ts) i = refl

names_for-push : (j k : ℕ) (xs : List ℕ) (x : ℕ) (ts : Refineds) → k ≡ j + length xs
    → names_for j (xs ++ x ∷ []) ts ≡ names_for j xs ts ++ name_for k x (type_at ts (length xs)) ∷ []
names_for-push j k [] x ts e = let s : j ≡ k = omega arith in ap₂ (λ i t. name_for i x t ∷ []) s (first-at ts)
names_for-push j k (y ∷ xs) x ts e =
    ap (λ l. name_for j y (first_of ts) ∷ l)
    (names_for-push (suc j) k xs x (rest_of ts) (omega arith)
    ∙ ap (λ t. names_for (suc j) xs (rest_of ts) ++ name_for k x t ∷ []) (rest-at ts (length xs)))

bind_all-push : (xs : List ℕ) (x : ℕ) (ts : Refineds) (Γ : Context)
    → bind_all (xs ++ x ∷ []) ts Γ ≡ bind x (type_at ts (length xs)) (bind_all xs ts Γ)
bind_all-push [] x ts Γ = ap (λ t. bind x t Γ) (first-at ts)
bind_all-push (y ∷ xs) x ts Γ =
    let Δ = bind y (first_of ts) Γ in
    bind_all-push xs x (rest_of ts) Δ ∙ ap (λ t. bind x t (bind_all xs (rest_of ts) Δ)) (rest-at ts (length xs))

-- what is put for the components behind the first ones
abbrev pub tuple_names : Subst → ℕ → List ℕ → Refineds → Subst
tuple_names θ j [] ts = θ
tuple_names θ j (x ∷ xs) ts = tuple_names (name_for j x (first_of ts) ∷ θ) (suc j) xs (rest_of ts)

tuple_names-push : (θ : Subst) (j k : ℕ) (xs : List ℕ) (x : ℕ) (ts : Refineds) → k ≡ j + length xs
    → tuple_names θ j (xs ++ x ∷ []) ts ≡ name_for k x (type_at ts (length xs)) ∷ tuple_names θ j xs ts
tuple_names-push θ j k [] x ts e = let s : j ≡ k = omega arith in ap₂ (λ i t. name_for i x t ∷ θ) s (first-at ts)
tuple_names-push θ j k (y ∷ xs) x ts e =
    let σ = name_for j y (first_of ts) ∷ θ in
    tuple_names-push σ (suc j) k xs x (rest_of ts) (omega arith)
    ∙ ap (λ t. name_for k x t ∷ tuple_names σ (suc j) xs (rest_of ts)) (rest-at ts (length xs))

-- a type with something put for the names in its top
abbrev pub put_names : Scopes → Subst → Refined → Refined
put_names S θ t = with_top (parts_by S θ (top t)) t

components-push : (S : Scopes) (θ : Subst) (j : ℕ) (xs : List ℕ) (x : ℕ) (ts : Refineds) (Γ : Context)
    → bind_components S θ j (xs ++ x ∷ []) ts Γ
    ≡ bind x (put_names S (tuple_names θ j xs ts) (type_at ts (length xs))) (bind_components S θ j xs ts Γ)
components-push S θ j [] x ts Γ = ap (λ t. bind x (put_names S θ t) Γ) (first-at ts)
components-push S θ j (y ∷ xs) x ts Γ =
    let σ = name_for j y (first_of ts) ∷ θ in
    let Δ = bind y (put_names S θ (first_of ts)) Γ in
    components-push S σ (suc j) xs x (rest_of ts) Δ
    ∙ ap (λ t. bind x (put_names S (tuple_names σ (suc j) xs (rest_of ts)) t) (bind_components S σ (suc j) xs (rest_of ts) Δ))
    (rest-at ts (length xs))

-- ---- the first so many of some names, and the next one

-- what is read past the end
abbrev pub no_name : Binder
no_name = record { 0 = 0 }

module _ (ns : List Binder) (i : ℕ) (h : i < length ns) where
  seen-more : names_view (take (i + 1) ns) ≡ names_view (take i ns) ++ (get_or ns i no_name).0 ∷ []
  seen-more = ap names_view (take_more ns i no_name h) ∙ map_push (λ x. x.0) (take i ns) (get_or ns i no_name)

  seen-count : length (names_view (take i ns)) ≡ i
  seen-count = length-map (take i ns) (λ x. x.0) ∙ length-take-le i ns (omega arith)

  pub names_for-more : (ts : Refineds) → names_for 0 (names_view (take (i + 1) ns)) ts
      ≡ names_for 0 (names_view (take i ns)) ts ++ name_for i (get_or ns i no_name).0 (type_at ts i) ∷ []
  names_for-more ts =
      let n = seen-count in
      ap (λ l. names_for 0 l ts) seen-more ∙ names_for-push 0 i (names_view (take i ns)) (get_or ns i no_name).0 ts (omega arith)
      ∙ ap (λ k. names_for 0 (names_view (take i ns)) ts ++ name_for i (get_or ns i no_name).0 (type_at ts k) ∷ []) n

  pub bind_all-more : (ts : Refineds) (Γ : Context) → bind_all (names_view (take (i + 1) ns)) ts Γ
      ≡ bind (get_or ns i no_name).0 (type_at ts i) (bind_all (names_view (take i ns)) ts Γ)
  bind_all-more ts Γ =
      ap (λ l. bind_all l ts Γ) seen-more ∙ bind_all-push (names_view (take i ns)) (get_or ns i no_name).0 ts Γ
      ∙ ap (λ k. bind (get_or ns i no_name).0 (type_at ts k) (bind_all (names_view (take i ns)) ts Γ)) seen-count

  pub tuple_names-more : (ts : Refineds) → tuple_names [] 0 (names_view (take (i + 1) ns)) ts
      ≡ name_for i (get_or ns i no_name).0 (type_at ts i) ∷ tuple_names [] 0 (names_view (take i ns)) ts
  tuple_names-more ts =
      let n = seen-count in
      ap (λ l. tuple_names [] 0 l ts) seen-more ∙ tuple_names-push [] 0 i (names_view (take i ns)) (get_or ns i no_name).0 ts (omega arith)
      ∙ ap (λ k. name_for i (get_or ns i no_name).0 (type_at ts k) ∷ tuple_names [] 0 (names_view (take i ns)) ts) n

  pub components-more : (S : Scopes) (ts : Refineds) (Γ : Context) → bind_components S [] 0 (names_view (take (i + 1) ns)) ts Γ
      ≡ bind (get_or ns i no_name).0 (put_names S (tuple_names [] 0 (names_view (take i ns)) ts) (type_at ts i))
      (bind_components S [] 0 (names_view (take i ns)) ts Γ)
  components-more S ts Γ =
      let xs = names_view (take i ns) in
      ap (λ l. bind_components S [] 0 l ts Γ) seen-more ∙ components-push S [] 0 xs (get_or ns i no_name).0 ts Γ
      ∙ ap (λ k. bind (get_or ns i no_name).0 (put_names S (tuple_names [] 0 xs ts) (type_at ts k)) (bind_components S [] 0 xs ts Γ)) seen-count
