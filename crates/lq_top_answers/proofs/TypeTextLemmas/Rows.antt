-- Texts in a row, one more at a time.
use Rattle.std.proofs.Common.{◌≡◌, ℕ, suc, ◌+◌, ◌==◌, ◌<◌, ◌≤◌, codes, get_or, map, take, List, [], ◌∷◌, ◌++◌, if◌then◌else◌, length, refl, sym, ap, ◌∙◌, append_assoc, arith}
use Rattle.std.proofs.lemmas.List.{append-nil, length-map, length-take, map_push, take_more}
use Rattle.std.proofs.lemmas.Bool.Decides.{nat_tests}
use Rattle.lq_refined_types.specs.Types.Refined.{Refined}
use Rattle.lq_refined_subtyping.specs.Table.Forms.{row_of}
use Rattle.lq_top_answers.specs.TypeText.Types.{Writing, argument_texts, arguments_text, component_texts, each_behind, guarded, in_row, lettered_text}

-- one element more
pub map-more : {A B : Type 0} (f : A → B) (xs : List A) (i : ℕ) (x : A) → i < length xs → x ≡ get_or xs i x → map f (take (i + 1) xs) ≡ map f (take i xs) ++ f x ∷ []
map-more {B = B} f xs i x h is =
    ap (map f) (take_more xs i x h) ∙ map_push f (take i xs) (get_or xs i x) ∙ ap (λ y. map f (take i xs) ++ f y ∷ []) (sym is)

pub length-more : {A B : Type 0} (f : A → B) (xs : List A) (i : ℕ) → i < length xs → i ≡ length (map f (take i xs))
length-more f xs i h = let m = length-map (take i xs) f in let t = length-take i xs in omega (arith, m, t)

pub each_behind-append : (sep : List ℕ) (ts us : List (List ℕ)) → each_behind sep (ts ++ us) ≡ each_behind sep ts ++ each_behind sep us
each_behind-append sep [] us = refl
each_behind-append sep (t ∷ ts) us =
    ap (λ l. (sep ++ t) ++ l) (each_behind-append sep ts us) ∙ sym (append_assoc (sep ++ t) (each_behind sep ts) (each_behind sep us))

-- what stands before an element of a row
abbrev pub before : ℕ → List ℕ → List ℕ
before i sep = if i == 0 then [] else sep

before-suc : (n : ℕ) (sep : List ℕ) → before (suc n) sep ≡ sep
before-suc n sep = grind (arith, nat_tests)

pub in_row-push : (sep : List ℕ) (ts : List (List ℕ)) (t : List ℕ) → in_row sep (ts ++ t ∷ []) ≡ (in_row sep ts ++ before (length ts) sep) ++ t
in_row-push sep [] t = append-nil t
in_row-push sep (u ∷ us) t =
    ap (λ l. u ++ l) (each_behind-append sep us (t ∷ []) ∙ ap (λ l. each_behind sep us ++ l) (append-nil (sep ++ t)))
    ∙ (simp append_assoc)
    ∙ ap (λ l. (u ++ each_behind sep us ++ l) ++ t) (sym (before-suc (length us) sep))

-- a further text, with what stands before it
pub row-more : (sep start l m n t : List ℕ) (ts us : List (List ℕ)) (i : ℕ) → l ≡ start ++ in_row sep ts → i ≡ length ts → m ≡ l ++ before i sep
    → n ≡ m ++ t → us ≡ ts ++ t ∷ [] → n ≡ start ++ in_row sep us
row-more sep start l m n t ts us i h e p q r =
    q ∙ ap (λ x. x ++ t) (p ∙ ap (λ x. x ++ before i sep) h ∙ ap (λ x. (start ++ in_row sep ts) ++ before x sep) e)
    ∙ (simp append_assoc)
    ∙ ap (λ x. start ++ x) (sym (append_assoc (in_row sep ts) (before (length ts) sep) t) ∙ sym (in_row-push sep ts t) ∙ ap (in_row sep) (sym r))

pub arguments_text-several : (ts : List (List ℕ)) → 2 ≤ length ts → arguments_text ts ≡ codes "(" ++ in_row (codes ", ") ts ++ codes ") "
arguments_text-several [] h = absurd (omega arith)
arguments_text-several (t ∷ []) h = absurd (let k : length (t ∷ []) ≡ 1 = refl in omega arith)
arguments_text-several (t ∷ u ∷ ts) h = refl

module _ (w : Writing) (seen : List ℕ) where
  pub component_texts-push : (ts : List Refined) (t : Refined)
      → component_texts w seen (row_of (ts ++ t ∷ [])) ≡ component_texts w seen (row_of ts) ++ lettered_text w seen t ∷ []
  component_texts-push [] t = refl
  component_texts-push (u ∷ us) t = ap (λ l. lettered_text w seen u ∷ l) (component_texts-push us t)

  pub length-component_texts : (ts : List Refined) → length (component_texts w seen (row_of ts)) ≡ length ts
  length-component_texts [] = refl
  length-component_texts (t ∷ ts) = ap suc (length-component_texts ts)

  pub argument_texts-push : (ts : List Refined) (t : Refined)
      → argument_texts w seen (row_of (ts ++ t ∷ [])) ≡ argument_texts w seen (row_of ts) ++ guarded t (lettered_text w seen t) ∷ []
  argument_texts-push [] t = refl
  argument_texts-push (u ∷ us) t = ap (λ l. guarded u (lettered_text w seen u) ∷ l) (argument_texts-push us t)

  pub length-argument_texts : (ts : List Refined) → length (argument_texts w seen (row_of ts)) ≡ length ts
  length-argument_texts [] = refl
  length-argument_texts (t ∷ ts) = ap suc (length-argument_texts ts)
