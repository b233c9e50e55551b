-- The system with a copy.
use Rattle.std.proofs.Common.{◌≡◌, inl, inr, ℕ, zero, suc, ◌<◌, ◌≤◌, Bool, List, [], ◌∷◌, ◌++◌, take, drop, Option, Some, None, Result, Ok, Err, OnOk, All, length, refl, sym, subst, ◌∙◌, arith}
use Rattle.std.specs.Option.{option_map}
use Rattle.std.proofs.lemmas.Bool.{cases_lt}
use Rattle.std.proofs.lemmas.List.{length-map, take_all, take-append-le}
use Rattle.std.proofs.lemmas.List.Elements.{All-append}
use Rattle.lq_types_unify.specs.declared.arena.Equation.{Equation}
use Rattle.lq_types_unify.specs.Nodes.{Form, renamed, IsArena}
use Rattle.lq_types_unify.specs.Classes.{up, root}
use Rattle.lq_types_unify.specs.Copying.{IsCopy}
use Rattle.lq_types_rules.specs.declared.equations.system.System.{System}
use Rattle.lq_types_rules.specs.Equations.Adding.{IsRight, IsSystem, count_of, forms_of}

right_by : (o : Option Form) (f : Form) (to : ℕ → ℕ) → option_map (renamed to) o ≡ Some f → ((g : Form) → o ≡ Some g → IsRight g.head (length g.parts)) → IsRight f.head (length f.parts)
right_by None f to e h = absurd (cc)
right_by (Some g) f to e h = subst (λ (x : Form). IsRight x.head (length x.parts)) (some_same (renamed to g) f e) (subst (IsRight g.head) (sym (length-map g.parts to)) (h g refl))
  where
    some_same : (x y : Form) → Some x ≡ Some y → x ≡ y
    some_same x y q = cc

pub copied_system : (old new : System) (parents shapes : List ℕ) (weak : List Bool) (definition node used : ℕ) → IsSystem old → IsArena new.arena → count_of old ≤ count_of new
    → IsCopy (forms_of old) (forms_of new) (count_of old) (count_of new) parents shapes weak definition used → node < count_of old → used < count_of new
    → new.equations.items ≡ old.equations.items ++ (record { left = node; right = used }) ∷ [] → IsSystem new
copied_system old new parents shapes weak definition node used s a l c n u e = record {
  arena = a;
  nodes = subst (All (λ (q : Equation). (q.left < count_of new) × (q.right < count_of new))) (sym e) (All-append (λ (q : Equation). (q.left < count_of new) × (q.right < count_of new)) old.equations.items _
      (λ k d m. let x = s.nodes k d m in (let y = x.0 in omega arith, let y = x.1 in omega arith)) one);
  right = λ i f q. elim (cases_lt i (count_of old)) [
    | inl h ↦ s.right i f (sym (c.kept i h) ∙ q)
    | inr h ↦ elim (cases_lt i (count_of new)) [
      | inl m ↦ right_by (forms_of old (up shapes (c.origin i))) f (λ p. c.goes (root parents p)) (sym (c.copied i h m) ∙ q) (λ g r. s.right (up shapes (c.origin i)) g r)
      | inr m ↦ absurd (let x = c.past i m in cc)
    ]
  ];
}
  where
    one : All (λ (q : Equation). (q.left < count_of new) × (q.right < count_of new)) (record { left = node; right = used } ∷ [])
    one zero d m = (omega arith, u)
    one (suc k) d m = absurd (omega arith)

pub lent_back : (n : ℕ) (m xs : List Bool) → length m ≡ n → take n (m ++ drop (length m) xs) ≡ m
lent_back n m xs e = take-append-le n m (drop (length m) xs) (omega arith) ∙ take_all n m (omega arith)

pub on_ok : {A E : Type 0} (P Q : Type 0) (r : Result A E) → (P → Q) → OnOk r P → OnOk r Q
on_ok P Q (Ok x) f h = f h
on_ok P Q (Err e) f h = tt

pub on_oks : {A E : Type 0} (P Q R : Type 0) (r : Result A E) → (P → Q → R) → OnOk r P → OnOk r Q → OnOk r R
on_oks P Q R (Ok x) f h k = f h k
on_oks P Q R (Err e) f h k = tt
