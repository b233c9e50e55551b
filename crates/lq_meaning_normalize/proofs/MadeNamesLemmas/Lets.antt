-- The names of lets around a tree.
use Rattle.std.proofs.Common.{◌≡◌, List, [], ◌∷◌, ◌++◌, refl, sym, ap, ◌∙◌, append_assoc}
use Rattle.lq_text_tree.specs.Pattern.{bound_in}
use Rattle.lq_text_tree.specs.Tree.{Tree}
use Rattle.lq_meaning_normal_form.specs.Outcomes.Flattening.{Let, let_one, let_function, put_in}
use Rattle.lq_meaning_normalize.specs.MadeNames.Order.{names_of}
use Rattle.lq_meaning_normalize.specs.MadeNames.Parts.{names_of_let, names_of_lets}

pub lets-both : (ls ms : List Let) → names_of_lets (ls ++ ms) ≡ names_of_lets ls ++ names_of_lets ms
lets-both [] ms = refl
lets-both (l ∷ ls) ms = ap (λ xs. names_of_let l ++ xs) (lets-both ls ms) ∙ sym (append_assoc (names_of_let l) (names_of_lets ls) (names_of_lets ms))

-- a let in front of what is behind it
pub let-names : (l : Let) (ls : List Let) (t : Tree) → names_of (put_in (l ∷ ls) t) ≡ names_of_let l ++ names_of (put_in ls t)
let-names (let_one i p q e) ls t = sym (append_assoc (names_of e) (bound_in q) (names_of (put_in ls t)))
let-names (let_function i p f j m q e) ls t = ap (λ xs. f ∷ xs) (sym (append_assoc (bound_in q) (names_of e) (names_of (put_in ls t))))

pub put-names : (ls : List Let) (t : Tree) → names_of (put_in ls t) ≡ names_of_lets ls ++ names_of t
put-names [] t = refl
put-names (l ∷ ls) t =
    let-names l ls t ∙ ap (λ xs. names_of_let l ++ xs) (put-names ls t) ∙ sym (append_assoc (names_of_let l) (names_of_lets ls) (names_of t))
