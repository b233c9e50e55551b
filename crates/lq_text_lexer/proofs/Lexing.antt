-- A text that is lexed from left to right.
use Rattle.std.proofs.Common.{◌≡◌, ◌≤◌, ◌+◌, ℕ, List, [], ◌∷◌, ◌++◌, length, length-drop, drop, refl, sym, ap, ◌∙◌, subst, arith}
use Rattle.std.proofs.lemmas.List.{drop-drop, append-nil}
use Rattle.lq_base_names.specs.declared.place.TextKind.{TextKind}
use Rattle.lq_base_names.specs.declared.place.Place.{Place}
use Rattle.lq_text_lexer.specs.declared.token.TokenKind.{TokenKind}
use Rattle.lq_text_lexer.specs.declared.token.Token.{Token}
use Rattle.lq_text_lexer.specs.declared.error.LexError.TheVariants as errors
use Rattle.lq_text_lexer.specs.declared.front.Front.TheVariants as fronts
use Rattle.lq_text_lexer.specs.Comments.{EndsComment}
use Rattle.lq_text_lexer.specs.Front.{front_of}
use Rattle.lq_text_lexer.specs.Places.{place_at}
use Rattle.lq_text_lexer.specs.Reading.{offset_of, token_at, Reads, stays, blank, comment, token, IsTokens, HasFault}
use Rattle.lq_text_lexer.proofs.Fronts.{front_at_end}

-- what is read in two parts
pub Reads-append : {kind : TextKind} {text bytes middle rest : List ℕ} {tokens more : List Token} → Reads kind text bytes tokens middle → Reads kind text middle more rest → Reads kind text bytes (tokens ++ more) rest
Reads-append {kind = kind} {text = text} {rest = rest} {more = more} (stays e) then = subst (λ (l : List ℕ). Reads kind text l more rest) (sym e) then
Reads-append (blank f r) then = blank f (Reads-append r then)
Reads-append (comment f e r) then = comment f e (Reads-append r then)
Reads-append (token k n f r) then = token k n f (Reads-append r then)

pub begins : (kind : TextKind) (text : List ℕ) (at : ℕ) (tokens : List Token) → at ≡ 0 → tokens ≡ [] → Reads kind text text tokens (drop at text)
begins kind text at tokens first none = rw (first, none) (stays refl)

offset_back : (text : List ℕ) (at : ℕ) → at ≤ length text → offset_of text (drop at text) ≡ at
offset_back text at within = omega (arith, length-drop at text)

module _ (kind : TextKind) (text : List ℕ) (at at' : ℕ) where
  on_by : (n : ℕ) → at' ≡ at + n → drop n (drop at text) ≡ drop at' text
  on_by n is = drop-drop n at text ∙ ap (λ (k : ℕ). drop k text) (sym is)

  pub past_blank : (tokens : List Token) → fronts.Blank ≡ front_of kind (drop at text) → at' ≡ at + 1 → Reads kind text text tokens (drop at text) → Reads kind text text tokens (drop at' text)
  past_blank tokens front is so_far =
      let step : Reads kind text (drop at text) [] (drop at' text) = blank (sym front) (stays (on_by 1 is)) in
      subst (λ (l : List Token). Reads kind text text l (drop at' text)) (append-nil tokens) (Reads-append so_far step)

  pub past_comment : (tokens : List Token) (inside : ℕ) → fronts.Comment ≡ front_of kind (drop at text) → inside ≡ at + 2 → EndsComment (drop inside text) (drop at' text) → Reads kind text text tokens (drop at text) → Reads kind text text tokens (drop at' text)
  past_comment tokens inside front is closes so_far =
      let in_it : drop 2 (drop at text) ≡ drop inside text = drop-drop 2 at text ∙ ap (λ (k : ℕ). drop k text) (sym is) in
      let step : Reads kind text (drop at text) [] (drop at' text) = comment (sym front) (subst (λ (l : List ℕ). EndsComment l (drop at' text)) (sym in_it) closes) (stays refl) in
      subst (λ (l : List Token). Reads kind text text l (drop at' text)) (append-nil tokens) (Reads-append so_far step)

  same_token : (k : TokenKind) (n : ℕ) (place : Place) → offset_of text (drop at text) ≡ at → at' ≡ at + n → place ≡ place_at kind text at → token_at kind text (drop at text) k n ≡ record { kind = k; start = at; «end» = at'; place = place }
  same_token k n place offset is stands =
      let made : ℕ → Token = λ o. record { kind = k; start = o; «end» = o + n; place = place_at kind text o } in
      ap made offset ∙ ap (λ (e : ℕ). record { kind = k; start = at; «end» = e; place = place_at kind text at }) (sym is) ∙ ap (λ (p : Place). record { kind = k; start = at; «end» = at'; place = p }) (sym stands)

  pub past_token : (tokens : List Token) (k : TokenKind) (n : ℕ) (place : Place) → fronts.Token k n ≡ front_of kind (drop at text) → at' ≡ at + n → at ≤ length text → place ≡ place_at kind text at
      → Reads kind text text tokens (drop at text) → Reads kind text text (tokens ++ record { kind = k; start = at; «end» = at'; place = place } ∷ []) (drop at' text)
  past_token tokens k n place front is within stands so_far =
      let offset = offset_back text at within in
      let same : token_at kind text (drop at text) k n ≡ record { kind = k; start = at; «end» = at'; place = place } = same_token k n place offset is stands in
      let step : Reads kind text (drop at text) (token_at kind text (drop at text) k n ∷ []) (drop at' text) = token k n (sym front) (stays (on_by n is)) in
      subst (λ (t : Token). Reads kind text text (tokens ++ t ∷ []) (drop at' text)) same (Reads-append so_far step)

  pub bad_byte : (tokens : List Token) (k : ℕ) (place : Place) → fronts.BadByte k ≡ front_of kind (drop at text) → at' ≡ at + k → at ≤ length text → place ≡ place_at kind text at' → Reads kind text text tokens (drop at text) → HasFault kind text (errors.BadByte place)
  bad_byte tokens k place front is within stands so_far =
      (tokens, drop at text, so_far, (k, sym front, stands ∙ ap (place_at kind text) (is ∙ ap (λ (o : ℕ). o + k) (sym (offset_back text at within)))))

  pub open_comment : (tokens : List Token) (place : Place) → fronts.Comment ≡ front_of kind (drop at text) → at' ≡ at + 2 → ((rest : List ℕ) → EndsComment (drop at' text) rest → ⊥) → at ≤ length text → place ≡ place_at kind text at → Reads kind text text tokens (drop at text) → HasFault kind text (errors.OpenComment place)
  open_comment tokens place front is never within stands so_far =
      (tokens, drop at text, so_far, (sym front, subst (λ (l : List ℕ). (rest : List ℕ) → EndsComment l rest → ⊥) (sym (on_by 2 is)) never, stands ∙ ap (place_at kind text) (sym (offset_back text at within))))

at_end : (kind : TextKind) (bytes : List ℕ) → fronts.End ≡ front_of kind bytes → bytes ≡ []
at_end kind bytes front = front_at_end kind bytes (sym front)

pub ends : (kind : TextKind) (text : List ℕ) (at : ℕ) (tokens : List Token) → fronts.End ≡ front_of kind (drop at text) → Reads kind text text tokens (drop at text) → IsTokens kind text tokens
ends kind text at tokens front so_far = subst (λ (l : List ℕ). Reads kind text text tokens l) (at_end kind (drop at text) front) so_far

pub ends_at : (kind : TextKind) (text : List ℕ) (at : ℕ) → fronts.End ≡ front_of kind (drop at text) → at ≤ length text → at ≡ length text
ends_at kind text at front within = omega (arith, length-drop at text, ap length (at_end kind (drop at text) front))
