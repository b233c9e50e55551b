-- A text has at most as many tokens as bytes.
use Rattle.std.proofs.Common.{◌≡◌, ◌≤◌, ◌<◌, ◌-◌, ℕ, suc, List, [], ◌∷◌, length, drop, refl, sym, ap, subst, ◌∙◌, arith}
use Rattle.std.proofs.lemmas.List.{length-drop}
use Rattle.lq_base_names.specs.declared.place.TextKind.{TextKind}
use Rattle.lq_text_lexer.specs.declared.front.Front.{Front}
use Rattle.lq_text_lexer.specs.declared.front.Front.TheVariants as fronts
use Rattle.lq_text_lexer.specs.declared.token.Token.{Token}
use Rattle.lq_text_lexer.specs.declared.token.TokenKind.{TokenKind}
use Rattle.lq_text_lexer.specs.Comments.{EndsComment, ends, nests, passes}
use Rattle.lq_text_lexer.specs.Front.{FitsIn, front_of}
use Rattle.lq_text_lexer.specs.Reading.{Reads, stays, blank, comment, token, FewTokens}
use Rattle.lq_text_lexer.proofs.Fronts.{front_fits}

shorter : (n : ℕ) (bytes : List ℕ) → length (drop n bytes) ≤ length bytes
shorter n bytes = let long = length-drop n bytes in omega (arith, long)

comment_shorter : {bytes rest : List ℕ} → EndsComment bytes rest → length rest ≤ length bytes
comment_shorter {bytes} (ends m is) = let less = shorter 2 bytes in let same = ap (λ (l : List ℕ). length l) is in omega (arith, less, same)
comment_shorter {bytes} (nests m first second) =
    let less = shorter 2 bytes in let inside = comment_shorter first in let outside = comment_shorter second in omega (arith, less, inside, outside)
comment_shorter {bytes} (passes m more) = let less = shorter 1 bytes in let inside = comment_shorter more in omega (arith, less, inside)

reads_few : {kind : TextKind} {text bytes rest : List ℕ} {tokens : List Token} → Reads kind text bytes tokens rest → length tokens ≤ length bytes
reads_few (stays is) = omega arith
reads_few {bytes = bytes} (blank is more) = let less = shorter 1 bytes in let inside = reads_few more in omega (arith, less, inside)
reads_few {bytes = bytes} (comment is ended more) =
    let less = shorter 2 bytes in let behind = comment_shorter ended in let inside = reads_few more in omega (arith, less, behind, inside)
reads_few {kind = kind} {bytes = bytes} (token k n is more) =
    let fits = subst (λ (f : Front). FitsIn f bytes) is (front_fits kind bytes) in
    let some = fits.some in let within = fits.within in let long = length-drop n bytes in let inside = reads_few more in
    omega (arith, some, within, long, inside)

pub few_tokens : FewTokens
few_tokens kind text tokens are = reads_few are
