-- The hypotheses of contexts.
use Rattle.std.proofs.Common.{◌≡◌, ℕ, suc, ◌+◌, ◌<◌, List, [], ◌∷◌, ◌++◌, get_or, length, map, take, sym, ap, ◌∙◌, append_assoc, arith}
use Rattle.std.proofs.lemmas.List.{append-nil, length-map, length-take-le, map_push, take_more}
use Rattle.lq_refined_types.specs.Parts.Part.{Parts, Scopes}
use Rattle.lq_logic_predicates.specs.declared.symbol.Symbol.TheVariants.{Position}
use Rattle.lq_refined_types.specs.Types.Context.{name, guard, Context, hypotheses_of}
use Rattle.lq_refined_types.specs.Types.Refined.{Refined}
use Rattle.lq_refined_subtyping.specs.Table.Forms.{at, each, row_of}
use Rattle.lq_refined_types.specs.Subtyping.Subtype.{with_fields, with_guards}

module _ (scopes : Scopes) where
  pub facts-guards : (qs : Parts) (Γ : Context) → hypotheses_of scopes (with_guards qs Γ) ≡ hypotheses_of scopes Γ ++ qs
  facts-guards [] Γ = sym (append-nil (hypotheses_of scopes Γ))
  facts-guards (q ∷ qs) Γ = facts-guards qs (guard q ∷ Γ) ∙ append_assoc (hypotheses_of scopes Γ) (q ∷ []) qs

-- one field more
pub with_fields-push : (j k : ℕ) (ts : List Refined) (t : Refined) (Γ : Context) → k ≡ j + length ts
    → with_fields j (row_of (ts ++ t ∷ [])) Γ ≡ name (Position (suc k)) t ∷ with_fields j (row_of ts) Γ
with_fields-push j k [] t Γ e = let h : j ≡ k = omega arith in ap (λ i. name (Position (suc i)) t ∷ Γ) h
with_fields-push j k (u ∷ us) t Γ e = with_fields-push (suc j) k us t (name (Position (suc j)) u ∷ Γ) (omega arith)

pub fields-more : (all : List Refined) (fields : List ℕ) (i d : ℕ) (Γ : Context) → i < length fields
    → with_fields 0 (each all (take (i + 1) fields)) Γ ≡ name (Position (suc i)) (at all (get_or fields i d)) ∷ with_fields 0 (each all (take i fields)) Γ
fields-more all fields i d Γ h =
    let n = length-map (take i fields) (at all) in
    let m : length (take i fields) ≡ i = length-take-le i fields (omega arith) in
    ap (λ l. with_fields 0 (row_of l) Γ) (ap (map (at all)) (take_more fields i d h) ∙ map_push (at all) (take i fields) (get_or fields i d))
    ∙ with_fields-push 0 i (map (at all) (take i fields)) (at all (get_or fields i d)) Γ (omega arith)
