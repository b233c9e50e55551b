-- The steps of a reading one by one.
use Rattle.std.specs.Prelude.{IsSome}
use Rattle.std.proofs.Common.{◌≡◌, ◌<◌, ◌≤◌, ◌+◌, ℕ, zero, suc, List, [], ◌∷◌, Option, Some, None, length, drop, get_or, arith, refl, ap, ◌∙◌, subst, add-one}
use Rattle.std.proofs.lemmas.List.{drop_all}
use Rattle.lq_text_grammar.specs.declared.symbol.Action.{Action}
use Rattle.lq_text_grammar.specs.declared.symbol.Event.{Event}
use Rattle.lq_text_grammar.specs.declared.symbol.Event.TheVariants.{Take, Make}
use Rattle.lq_text_actions.specs.Made.{made}
use Rattle.lq_text_actions.specs.Trees.{run, and_then}
use Rattle.lq_text_actions.specs.Value.{Lexeme, Making}

cut_here : {X : Type 0} (xs : List X) (i : ℕ) (d x : X) → i < length xs → get_or xs i d ≡ x → drop i xs ≡ x ∷ drop (suc i) xs
cut_here [] i d x h e = absurd (omega arith)
cut_here (y ∷ xs) zero d x h e = ap (λ z. z ∷ xs) e
cut_here (y ∷ xs) (suc i) d x h e = cut_here xs i d x (omega arith) e

cut : {X : Type 0} (xs : List X) (i : ℕ) (d x : X) → i < length xs → get_or xs i d ≡ x → drop i xs ≡ x ∷ drop (i + 1) xs
cut xs i d x h e = rw add-one (cut_here xs i d x h e)

pub one_action : (es : List Event) (i : ℕ) (d : Event) (a : Action) (ls : List Lexeme) (last : Lexeme) (m n : Making) → i < length es → get_or es i d ≡ Make a → made a last m ≡ Some n → run (drop i es) ls last m ≡ run (drop (i + 1) es) ls last n
one_action es i d a ls last m n h e is =
    ap (λ l. run l ls last m) (cut es i d (Make a) h e) ∙ ap (λ o. and_then o (λ k. run (drop (i + 1) es) ls last k)) is

pub one_token : (es : List Event) (i : ℕ) (d : Event) (ls : List Lexeme) (at : ℕ) (o l : Lexeme) (last : Lexeme) (m : Making) → i < length es → get_or es i d ≡ Take → at < length ls → get_or ls at o ≡ l → run (drop i es) (drop at ls) last m ≡ run (drop (i + 1) es) (drop (at + 1) ls) l m
one_token es i d ls at o l last m h e g is =
    ap (λ x. run x (drop at ls) last m) (cut es i d Take h e) ∙ ap (λ x. run (Take ∷ drop (i + 1) es) x last m) (cut ls at o l g is)

then_some : (o : Option Making) (f : Making → Option Making) → IsSome (and_then o f) → IsSome o
then_some None f h = absurd cc
then_some (Some m) f h = refl

pub action_fits : (es : List Event) (i : ℕ) (d : Event) (a : Action) (ls : List Lexeme) (last : Lexeme) (m : Making) → i < length es → get_or es i d ≡ Make a → IsSome (run (drop i es) ls last m) → IsSome (made a last m)
action_fits es i d a ls last m h e some =
    then_some (made a last m) (λ k. run (drop (i + 1) es) ls last k) (subst (λ l. IsSome (run l ls last m)) (cut es i d (Make a) h e) some)

pub no_token : (es : List Event) (i : ℕ) (d : Event) (ls : List Lexeme) (at : ℕ) (last : Lexeme) (m : Making) → i < length es → get_or es i d ≡ Take → length ls ≤ at → run (drop i es) (drop at ls) last m ≡ None
no_token es i d ls at last m h e g =
    ap (λ x. run x (drop at ls) last m) (cut es i d Take h e) ∙ ap (λ x. run (Take ∷ drop (i + 1) es) x last m) (drop_all at ls g)
