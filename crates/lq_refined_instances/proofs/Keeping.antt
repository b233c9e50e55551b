-- Instances that are found one after another.
use Rattle.std.proofs.Common.{◌≡◌, List, [], ◌∷◌, ◌++◌, map, Bool, true, false, ◌||◌, if◌then◌else◌, append_assoc, refl, sym, ap, ◌∙◌}
use Rattle.std.specs.List.{list_any}
use Rattle.std.proofs.lemmas.List.{map-append, append-nil}
use Rattle.lq_logic_predicates.specs.Formula.{Formula}
use Rattle.lq_logic_predicates.specs.PredView.{formula_of}
use Rattle.lq_refined_instances.specs.Instances.{has_formula, firsts}
use Rattle.lq_refined_instances.specs.Kept.{with_formula, kept}
use Rattle.lq_refined_instances.specs.Same.{same_formula}
use Rattle.lq_refined_instances.specs.Views.{instance_view}
use Rattle.lq_refined_instances.specs.declared.instance.Instance.{Instance}

pub kept-append : (ps qs rs : List Formula) → kept ps (qs ++ rs) ≡ kept (kept ps qs) rs
kept-append ps [] rs = refl
kept-append ps (q ∷ qs) rs = kept-append (with_formula ps q) qs rs

kept-all : (ps qs : List Formula) → kept ps qs ≡ ps ++ firsts ps qs
kept-all ps [] = sym (append-nil ps)
kept-all ps (q ∷ qs) = by (has_formula ps q) (kept-all ps qs) (kept-all (ps ++ q ∷ []) qs)
  where
    by : (b : Bool) → kept ps qs ≡ ps ++ firsts ps qs → kept (ps ++ q ∷ []) qs ≡ (ps ++ q ∷ []) ++ firsts (ps ++ q ∷ []) qs
        → kept (if b then ps else ps ++ q ∷ []) qs ≡ ps ++ (if b then firsts ps qs else q ∷ firsts (ps ++ q ∷ []) qs)
    by true there new = there
    by false there new = new ∙ append_assoc ps (q ∷ []) (firsts (ps ++ q ∷ []) qs)

pub kept-firsts : (qs : List Formula) → kept [] qs ≡ firsts [] qs
kept-firsts qs = kept-all [] qs

any-keys : (p : Formula) (keys : List Instance) → list_any (λ k. same_formula p (formula_of k.predicate)) keys ≡ has_formula (map instance_view keys) p
any-keys p [] = refl
any-keys p (k ∷ keys) = ap (λ b. same_formula p (formula_of k.predicate) || b) (any-keys p keys)

-- the keys after one more was put in
pub keys-with : (keys new : List Instance) (k : Instance)
    → new ≡ (if list_any (λ u. same_formula (formula_of k.predicate) (formula_of u.predicate)) keys then keys else keys ++ k ∷ [])
    → map instance_view new ≡ with_formula (map instance_view keys) (formula_of k.predicate)
keys-with keys new k h =
    ap (map instance_view) h ∙ by (list_any (λ u. same_formula (formula_of k.predicate) (formula_of u.predicate)) keys)
    ∙ ap (λ b. if b then map instance_view keys else map instance_view keys ++ formula_of k.predicate ∷ []) (any-keys (formula_of k.predicate) keys)
  where
    by : (b : Bool) → map instance_view (if b then keys else keys ++ k ∷ []) ≡ (if b then map instance_view keys else map instance_view keys ++ formula_of k.predicate ∷ [])
    by true = refl
    by false = map-append instance_view keys (k ∷ [])
