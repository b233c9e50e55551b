-- Datatypes and their fields, part by part.
use Rattle.std.proofs.Common.{◌≡◌, ℕ, zero, suc, ◌<◌, List, [], ◌∷◌, ◌++◌, length, map, slice_get, take, Option, Some, None, refl, sym, ap, ◌∙◌, arith}
use Rattle.lq_refined_rules.specs.Checks.Basis as checks
use Rattle.lq_refined_rules.specs.Checks.Match.{fields_by}
use Rattle.lq_refined_rules.specs.Checks.Operation.{datatype_of}
use Rattle.lq_refined_types.specs.Parts.Part.{Parts, Scopes}
use Rattle.lq_refined_types.specs.Parts.Substitution.{Atom, Subst}
use Rattle.lq_refined_types.specs.Types.Context.{Context}
use Rattle.lq_refined_types.specs.Types.Operations.{applied}
use Rattle.lq_refined_types.specs.Types.Refined.{Matrix, Refined, data_with, Refineds, arguments_of, matrix_of}
use Rattle.lq_refined_types.specs.Types.Unfolding.{unfolded}
use Rattle.lq_refined_subtyping.specs.Table.Forms.{each, matrix_view}
use Rattle.lq_refined_subtyping.specs.declared.table.table.RefinedTypes.{RefinedTypes}
use Rattle.lq_refined_substitution.specs.Substitution.Views.{swap_view}
use Rattle.lq_refined_substitution.specs.declared.substitution.swaps.Swap.{Swap}
use Rattle.lq_refined_types.specs.Subtyping.Subtype.{fields_of}
use Rattle.lq_text_tree.specs.MlType.{MlTypes}
use Rattle.lq_generate_operations.specs.Basis.Basis.{scopes_of, types_in}
use Rattle.lq_generate_operations.specs.declared.basis.basis.Basis.{Basis}
use Rattle.lq_generate_operations.specs.Operations.Fields.{fields_in}
use Rattle.lq_generate_operations.specs.declared.operations.shapes.DataType.{DataType}

pub data-same : {d e : ℕ} {ts us : Refineds} {m n : Matrix} {p q : Parts} → d ≡ e → ts ≡ us → m ≡ n → p ≡ q
    → data_with d ts m p ≡ data_with e us n q
data-same {e = e} {ts = ts} {us = us} {m = m} {n = n} {p = p} a b c f =
    ap (λ x. data_with x ts m p) a ∙ ap (λ x. data_with e x m p) b ∙ ap (λ x. data_with e us x p) c ∙ ap (data_with e us n) f

pub unfolded-same : {S R : Scopes} {θ σ : Subst} {d e : ℕ} {ts us : Refineds} {m n : Matrix} (k : ℕ) (fs : MlTypes)
    → S ≡ R → θ ≡ σ → d ≡ e → ts ≡ us → m ≡ n → unfolded S θ d ts m k fs ≡ unfolded R σ e us n k fs
unfolded-same {R = R} {θ = θ} {σ = σ} {d = d} {e = e} {ts = ts} {us = us} {m = m} k fs a b c f g =
    ap (λ x. unfolded x θ d ts m k fs) a ∙ ap (λ x. unfolded R x d ts m k fs) b ∙ ap (λ x. unfolded R σ x ts m k fs) c
    ∙ ap (λ x. unfolded R σ e x m k fs) f ∙ ap (λ x. unfolded R σ e us x k fs) g

-- the fields by the datatype in memory are those by the type
pub fields-same : (P : checks.Basis) (b : Basis) (types : RefinedTypes) (d : DataType) (Γ : Context) (x : ℕ) (t : Refined) (c : ℕ) (θ : Subst)
    → P.setting.scopes ≡ scopes_of b → d.name.0 ≡ datatype_of t → each (types_in b types) d.arguments.items ≡ arguments_of t
    → matrix_view d.matrix ≡ matrix_of t → fields_in P b types d c θ ≡ fields_by P Γ x t c θ
fields-same P b types d Γ x t c θ s n a m =
    unfolded-same {θ = θ} c (fields_of (P.setting.constructors c)) (sym s) refl n a m

pub applied-same : {S R : Scopes} {x y : Option ℕ} {a b : Atom} {t u : Refined} → S ≡ R → x ≡ y → a ≡ b → t ≡ u
    → applied S x a t ≡ applied R y b u
applied-same {R = R} {x = x} {y = y} {a = a} {b = b} {t = t} e f g h =
    ap (λ z. applied z x a t) e ∙ ap (λ z. applied R z a t) f ∙ ap (λ z. applied R y z t) g ∙ ap (applied R y b) h

-- ---- replacements one more each time

pub take-found : (xs : List Swap) (i : ℕ) (x : Swap) → Some x ≡ slice_get xs i
    → take (suc i) (map swap_view xs) ≡ take i (map swap_view xs) ++ swap_view x ∷ []
take-found [] i x e = absurd (cc)
take-found (y ∷ xs) zero x e = let same : x ≡ y = cc in ap (λ z. swap_view z ∷ []) (sym same)
take-found (y ∷ xs) (suc i) x e = ap (λ l. swap_view y ∷ l) (take-found xs i x e)

pub not-found : (xs : List Swap) (i : ℕ) → None ≡ slice_get xs i → i < length (map swap_view xs) → ⊥
not-found [] i e h = absurd (omega arith)
not-found (y ∷ xs) zero e h = cc
not-found (y ∷ xs) (suc i) e h = not-found xs i e (omega arith)
