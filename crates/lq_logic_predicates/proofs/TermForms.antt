-- Terms of two forms are not one.
use Rattle.std.proofs.Common.{◌≡◌, ℤ, refl, false, Some}
use Rattle.std.specs.declared.alloc.Global.{Global}
use Rattle.std.specs.declared.boxed.Box.{Box}
use Rattle.lq_base_names.specs.declared.name.Name.{Name}
use Rattle.lq_logic_predicates.specs.declared.symbol.Symbol.{Symbol}
use Rattle.lq_logic_predicates.specs.Sum.{Sum, whole, var, neg, add, sub, mul, div, rem, len, measure, same}
use Rattle.lq_logic_predicates.specs.Table.{literal_of}
use Rattle.lq_logic_predicates.specs.TermView.{sum_of}
use Rattle.lq_logic_predicates.specs.declared.term.Term.{Term, Whole, Var, Neg', Add', Sub', Mul', Div', Mod', Length', Measure', Neg, Add, Sub, Mul, Div, Mod, Length, Measure}

pub not_whole : (n : ℤ) (t : Term) → ((m : ℤ) → t ≡ Whole m → ⊥) → false ≡ same (whole n) (sum_of t)
not_whole n (Whole m) k = absurd (k _ refl)
not_whole n _ k = refl

pub not_var : (x : Symbol) (t : Term) → ((y : Symbol) → t ≡ Var y → ⊥) → false ≡ same (var x) (sum_of t)
not_var x (Var y) k = absurd (k _ refl)
not_var x _ k = refl

pub not_neg : (s : Sum) (t : Term) → ((a : Box Term Global) → t ≡ Neg a → ⊥) → false ≡ same (neg s) (sum_of t)
not_neg s (Neg' p a) k = absurd (k _ refl)
not_neg s _ k = refl

pub not_add : (s r : Sum) (t : Term) → ((a b : Box Term Global) → t ≡ Add a b → ⊥) → false ≡ same (add s r) (sum_of t)
not_add s r (Add' p a q b) k = absurd (k _ _ refl)
not_add s r _ k = refl

pub not_sub : (s r : Sum) (t : Term) → ((a b : Box Term Global) → t ≡ Sub a b → ⊥) → false ≡ same (sub s r) (sum_of t)
not_sub s r (Sub' p a q b) k = absurd (k _ _ refl)
not_sub s r _ k = refl

pub not_mul : (s r : Sum) (t : Term) → ((a b : Box Term Global) → t ≡ Mul a b → ⊥) → false ≡ same (mul s r) (sum_of t)
not_mul s r (Mul' p a q b) k = absurd (k _ _ refl)
not_mul s r _ k = refl

pub not_div : (s r : Sum) (t : Term) → ((a b : Box Term Global) → t ≡ Div a b → ⊥) → false ≡ same (div s r) (sum_of t)
not_div s r (Div' p a q b) k = absurd (k _ _ refl)
not_div s r _ k = refl

pub not_mod : (s r : Sum) (t : Term) → ((a b : Box Term Global) → t ≡ Mod a b → ⊥) → false ≡ same (rem s r) (sum_of t)
not_mod s r (Mod' p a q b) k = absurd (k _ _ refl)
not_mod s r _ k = refl

pub not_length : (s : Sum) (t : Term) → ((a : Box Term Global) → t ≡ Length a → ⊥) → false ≡ same (len s) (sum_of t)
not_length s (Length' p a) k = absurd (k _ refl)
not_length s _ k = refl

pub not_measure : (f : Name) (s : Sum) (t : Term) → ((g : Name) (a : Box Term Global) → t ≡ Measure g a → ⊥) → false ≡ same (measure f s) (sum_of t)
not_measure f s (Measure' g p a) k = absurd (k _ _ refl)
not_measure f s _ k = refl

pub of_literal : (s : Sum) (n : ℤ) → literal_of s ≡ Some n → s ≡ whole n
of_literal (whole m) n h = cc
of_literal _ n h = cc
