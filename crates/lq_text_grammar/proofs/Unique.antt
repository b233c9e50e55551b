-- A reading and a level are determined by the tokens.
use Rattle.std.specs.Prelude.{IsTrue}
use Rattle.std.proofs.Common.{◌≡◌, ℕ, refl, sym, ap, ◌∙◌, Option, List, [], ◌∷◌}
use Rattle.lq_text_grammar.specs.declared.kind.Kind.{Kind}
use Rattle.lq_text_grammar.specs.declared.rule.Rule.{Rule}
use Rattle.lq_text_grammar.specs.declared.symbol.Symbol.{Symbol}
use Rattle.lq_text_grammar.specs.declared.symbol.Event.{Event}
use Rattle.lq_text_grammar.specs.declared.symbol.Event.TheVariants as event
use Rattle.lq_text_grammar.specs.Reading.{IsText}
use Rattle.lq_text_grammar.specs.Levels.{waits, Leads, stays, word, takes_one, passes_on, makes, leaves, IsLevel, token_depth}
use Rattle.lq_text_grammar.proofs.Runs.{un_pass, un_take, un_word, un_make, un_leave, un_wait}
use Rattle.lq_text_grammar.proofs.Plainly.{from_plain}

same_end : {n : Option Kind} {ss : List Symbol} {es fs : List Event} {ks : List Kind} → Leads n ss ks es [] → Leads n ss ks fs [] → es ≡ fs
same_end (stays w) (stays v) = refl
same_end (word k d) e = let u = un_word e in ap (λ (l : List Event). event.Take ∷ l) (same_end d u.1.2) ∙ sym u.1.1
same_end (takes_one b f d) e = let u = un_take b _ f e in ap (λ (l : List Event). event.Take ∷ l) (same_end d u.2) ∙ sym u.1
same_end (passes_on b f d) e = same_end d (un_pass b _ f e)
same_end (makes {a = a} d) e = let u = un_make e in ap (λ (l : List Event). event.Make a ∷ l) (same_end d u.2) ∙ sym u.1
same_end (leaves d) e = same_end d (un_leave e)

pub one_reading : (start : Rule) (ks : List Kind) (es fs : List Event) → IsText start ks es → IsText start ks fs → es ≡ fs
one_reading start ks es fs d e = same_end (from_plain d) (from_plain e)

-- where tokens lead, up to the next one, is determined
same_place : {n : Option Kind} {ss ys zs : List Symbol} {es fs : List Event} {ks : List Kind} → IsTrue (waits n ys) → IsTrue (waits n zs) → Leads n ss ks es ys → Leads n ss ks fs zs → ys ≡ zs
same_place v w (stays u) e = sym (un_wait u e)
same_place v w (word k d) e = let u = un_word e in same_place v w d u.1.2
same_place v w (takes_one b f d) e = let u = un_take b _ f e in same_place v w d u.2
same_place v w (passes_on b f d) e = same_place v w d (un_pass b _ f e)
same_place v w (makes d) e = let u = un_make e in same_place v w d u.2
same_place v w (leaves d) e = same_place v w d (un_leave e)

-- it ends where the next token is waited for
waits_there : {n : Option Kind} {ss zs : List Symbol} {es : List Event} {ks : List Kind} → Leads n ss ks es zs → IsTrue (waits n zs)
waits_there (stays w) = w
waits_there (word k d) = waits_there d
waits_there (takes_one b f d) = waits_there d
waits_there (passes_on b f d) = waits_there d
waits_there (makes d) = waits_there d
waits_there (leaves d) = waits_there d

pub one_level : (start : Rule) (ks : List Kind) (k : Kind) (l m : ℕ) → IsLevel start ks k l → IsLevel start ks k m → l ≡ m
one_level start ks k l m (ys, es, d, e) (zs, fs, f, g) = e ∙ ap (token_depth k) (same_place (waits_there d) (waits_there f) d f) ∙ sym g
