use Rattle.std.proofs.Common.{◌≡◌, [], ◌∷◌, ◌++◌, refl, sym, ap, ◌∙◌, inl, inr, ◌⊎◌}
use Rattle.lq_text_tree.specs.MlType as ml
use Rattle.lq_text_tree.specs.MlType.{MlType}
use Rattle.lq_text_tree.specs.Pattern.{pattern, any, bind, no_patterns, more_patterns}
use Rattle.lq_meaning_normal_form.specs.Types.Made.{domain, components, parts_made}
use Rattle.lq_meaning_normal_form.proofs.types.laws.examples.Goals as goal

pub returns-clause-reads : goal.returns-clause-reads
returns-clause-reads c g nodes p = refl

pub returns-clause-list : goal.returns-clause-list
returns-clause-list c g nodes p = refl

pub returns-clause-function : goal.returns-clause-function
returns-clause-function c g nodes p is = ap (λ (a : MlType). (9, domain a) ∷ (10, nodes 2) ∷ []) is

pub returns-clause-matched : goal.returns-clause-matched
returns-clause-matched c g nodes p a b is =
    let qs = more_patterns (pattern p any) (more_patterns (pattern p (bind 2)) no_patterns) in
    ap (λ (t : MlType). (9, nodes 2) ∷ (parts_made g 10 qs (components t) ++ [])) is

-- a name that is bound to a number is no truth value
no-flag : (a x y : MlType) → x ≡ a → a ≡ ml.int → y ≡ ml.bool → (y ≡ x) ⊎ ⊥ → ⊥
no-flag a x y named number flag (inl same) = cc (sym flag ∙ (same ∙ (named ∙ number)))
no-flag a x y named number flag (inr none) = none

pub returns-clause-refused : goal.returns-clause-refused
returns-clause-refused c g n p h = no-flag (n.nodes 0) (n.binders 9) (n.nodes 1) h.0 h.1 h.2.0.0 h.2.1
