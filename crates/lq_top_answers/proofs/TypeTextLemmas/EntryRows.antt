-- Entries of a matrix, one more at a time.
use Rattle.std.proofs.Common.{◌≡◌, ℕ, Bool, true, false, List, [], ◌∷◌, ◌++◌, codes, length, map, refl, sym, ap, ◌∙◌, append_assoc}
use Rattle.std.proofs.lemmas.List.{append-nil}
use Rattle.lq_refined_types.specs.Parts.Part.{known}
use Rattle.lq_logic_predicates.specs.PredView.{formula_of}
use Rattle.lq_logic_predicates.specs.declared.pred.Pred.{Pred}
use Rattle.lq_refined_types.specs.Types.Refined.{Cell, Matrix}
use Rattle.lq_top_answers.specs.TypeText.Rows.{is_open_behind, more_entries, opening}
use Rattle.lq_top_answers.specs.TypeText.Types.{Writing, bracketed, each_behind, entry_text, entry_texts, formulas, if_any}
use Rattle.lq_top_answers.proofs.TypeTextLemmas.Rows.{each_behind-append}

pub entry_texts-push : (w : Writing) (d : ℕ) (m : Matrix) (e : Cell) → entry_texts w d (m ++ e ∷ []) ≡ entry_texts w d m ++ if_any (formulas e.parts) (entry_text w d e)
entry_texts-push w d [] e = append-nil (if_any (formulas e.parts) (entry_text w d e))
entry_texts-push w d (f ∷ m) e =
    ap (λ l. if_any (formulas f.parts) (entry_text w d f) ++ l) (entry_texts-push w d m e)
    ∙ sym (append_assoc (if_any (formulas f.parts) (entry_text w d f)) (entry_texts w d m) (if_any (formulas e.parts) (entry_text w d e)))

-- behind an open bracket each stands behind a separator
more_open : (ts : List (List ℕ)) → each_behind (codes "; ") ts ≡ more_entries true ts
more_open [] = refl
more_open (t ∷ ts) = refl

pub more_entries-append : (b : Bool) (ts us : List (List ℕ)) → more_entries b (ts ++ us) ≡ more_entries b ts ++ more_entries (is_open_behind b ts) us
more_entries-append b [] us = refl
more_entries-append b (t ∷ ts) us =
    ap (λ l. (opening b ++ t) ++ l) (each_behind-append (codes "; ") ts us ∙ ap (λ l. each_behind (codes "; ") ts ++ l) (more_open us))
    ∙ sym (append_assoc (opening b ++ t) (each_behind (codes "; ") ts) (more_entries true us))

pub is_open_behind-append : (b : Bool) (ts us : List (List ℕ)) → is_open_behind b (ts ++ us) ≡ is_open_behind (is_open_behind b ts) us
is_open_behind-append b [] us = refl
is_open_behind-append b (t ∷ ts) [] = refl
is_open_behind-append b (t ∷ ts) (u ∷ us) = refl

-- an entry with predicates opens the bracket
pub is_open_said : (b : Bool) (ps : List Pred) (t : List ℕ) → (length ps ≡ 0 → ⊥) → true ≡ is_open_behind b (if_any (formulas (map known (map formula_of ps))) t)
is_open_said b [] t h = absurd (h refl)
is_open_said b (p ∷ ps) t h = refl

pub more_said : (b : Bool) (ps : List Pred) (t l m n : List ℕ) → (length ps ≡ 0 → ⊥) → m ≡ l ++ opening b → n ≡ m ++ t
    → n ≡ l ++ more_entries b (if_any (formulas (map known (map formula_of ps))) t)
more_said b [] t l m n h p q = absurd (h refl)
more_said b (x ∷ xs) t l m n h p q = q ∙ ap (λ k. k ++ t) p ∙ append_assoc l (opening b) t ∙ ap (λ k. l ++ k) (sym (append-nil (opening b ++ t)))
