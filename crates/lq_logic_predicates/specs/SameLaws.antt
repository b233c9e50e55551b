-- Two sums are the same exactly where they are equal.
use Rattle.std.proofs.Common.{◌≡◌, refl, sym, ap, ap₂, ◌∙◌, Bool, true, false, ◌&&◌, ◌==◌}
use Rattle.std.specs.Cmp.{IsEquivalence, IsPartialEquivalence, partial_equiv_from_equiv}
use Rattle.std.proofs.lemmas.Bool.{eqb-true, eq-eqb, and_parts, and_from}
use Rattle.std.proofs.lemmas.Bool.Decides.{Decides-int_eq}
use Rattle.lq_base_names.specs.declared.name.Name.{Name}
use Rattle.lq_logic_predicates.specs.declared.symbol.Symbol.{Symbol}
use Rattle.lq_logic_predicates.specs.declared.symbol.Symbol.TheVariants.{Value, Bound, Position}
use Rattle.lq_logic_predicates.specs.declared.term.Term.{Term}
use Rattle.lq_logic_predicates.specs.Sum.{Sum, whole, var, neg, add, sub, mul, div, rem, len, measure, same, same_symbol}
use Rattle.lq_logic_predicates.specs.TermView.{sum_of}

same_symbol-is : (x y : Symbol) → same_symbol x y ≡ true → x ≡ y
same_symbol-is Value Value h = refl
same_symbol-is (Bound x) (Bound y) h = ap (λ n. Bound (record { 0 = n })) (eqb-true x.0 y.0 h)
same_symbol-is (Position i) (Position j) h = ap Position (eqb-true i j h)
same_symbol-is Value (Bound y) h = cc
same_symbol-is Value (Position j) h = cc
same_symbol-is (Bound x) Value h = cc
same_symbol-is (Bound x) (Position j) h = cc
same_symbol-is (Position i) Value h = cc
same_symbol-is (Position i) (Bound y) h = cc

same_symbol-refl : (x : Symbol) → same_symbol x x ≡ true
same_symbol-refl Value = refl
same_symbol-refl (Bound x) = eq-eqb x.0 x.0 refl
same_symbol-refl (Position i) = eq-eqb i i refl

two : (f : Sum → Sum → Sum) (a b c d : Sum) → (same a c ≡ true → a ≡ c) → (same b d ≡ true → b ≡ d) → (same a c && same b d) ≡ true → f a b ≡ f c d
two f a b c d g h e = let p = and_parts (same a c) (same b d) e in ap₂ f (g p.0) (h p.1)

named : (f g : Name) → f.0 ≡ g.0 → f ≡ g
named f g e = ap (λ n. record { 0 = n }) e

pub same-is : (a b : Sum) → same a b ≡ true → a ≡ b
same-is (whole n) (whole m) h = ap whole ((Decides-int_eq n m).0 h)
same-is (whole n) _ h = cc
same-is (var x) (var y) h = ap var (same_symbol-is x y h)
same-is (var x) _ h = cc
same-is (neg a) (neg b) h = ap neg (same-is a b h)
same-is (neg a) _ h = cc
same-is (add a b) (add c d) h = two add a b c d (same-is a c) (same-is b d) h
same-is (add a b) _ h = cc
same-is (sub a b) (sub c d) h = two sub a b c d (same-is a c) (same-is b d) h
same-is (sub a b) _ h = cc
same-is (mul a b) (mul c d) h = two mul a b c d (same-is a c) (same-is b d) h
same-is (mul a b) _ h = cc
same-is (div a b) (div c d) h = two div a b c d (same-is a c) (same-is b d) h
same-is (div a b) _ h = cc
same-is (rem a b) (rem c d) h = two rem a b c d (same-is a c) (same-is b d) h
same-is (rem a b) _ h = cc
same-is (len a) (len b) h = ap len (same-is a b h)
same-is (len a) _ h = cc
same-is (measure f a) (measure g b) h =
    let p = and_parts (f.0 == g.0) (same a b) h in ap₂ measure (named f g (eqb-true f.0 g.0 p.0)) (same-is a b p.1)
same-is (measure f a) _ h = cc

pub same-refl : (a : Sum) → same a a ≡ true
same-refl (whole n) = (Decides-int_eq n n).1 refl
same-refl (var x) = same_symbol-refl x
same-refl (neg a) = same-refl a
same-refl (add a b) = and_from (same a a) (same b b) (same-refl a) (same-refl b)
same-refl (sub a b) = and_from (same a a) (same b b) (same-refl a) (same-refl b)
same-refl (mul a b) = and_from (same a a) (same b b) (same-refl a) (same-refl b)
same-refl (div a b) = and_from (same a a) (same b b) (same-refl a) (same-refl b)
same-refl (rem a b) = and_from (same a a) (same b b) (same-refl a) (same-refl b)
same-refl (len a) = same-refl a
same-refl (measure f a) = and_from (f.0 == f.0) (same a a) (eq-eqb f.0 f.0 refl) (same-refl a)

pub same-from : (a b : Sum) → a ≡ b → same a b ≡ true
same-from a b e = ap (same a) (sym e) ∙ same-refl a

both : (b c : Bool) → (b ≡ true → c ≡ true) → (c ≡ true → b ≡ true) → b ≡ c
both true c f g = sym (f refl)
both false true f g = g refl
both false false f g = refl

pub same-symm : (a b : Sum) → same a b ≡ same b a
same-symm a b = both (same a b) (same b a) (λ h. same-from b a (sym (same-is a b h))) (λ h. same-from a b (sym (same-is b a h)))

pub same_laws : IsEquivalence (λ (a b : Term). same (sum_of a) (sum_of b))
same_laws = record {
  refl = λ a. same-refl (sum_of a);
  symm = λ a b. same-symm (sum_of a) (sum_of b);
  congr = λ a b c h. ap (λ u. same u (sum_of c)) (same-is (sum_of a) (sum_of b) h);
}

pub same_partial_laws : IsPartialEquivalence (λ (a b : Term). same (sum_of a) (sum_of b))
same_partial_laws = partial_equiv_from_equiv same_laws
