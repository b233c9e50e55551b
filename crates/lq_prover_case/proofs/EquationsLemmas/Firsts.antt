-- The first applications of functions to classes, as they are found and looked up.
use Rattle.std.proofs.Common.{◌≡◌, ℕ, ◌<◌, ◌≤◌, ◌&&◌, ◌==◌, List, [], ◌∷◌, ◌++◌, Bool, true, false, cond, Option, Some, None, refl, sym, ap, subst, ◌∙◌, arith, eq-eqb, slice_index}
use Rattle.std.specs.Map.{lookup}
use Rattle.std.specs.Option.{option_eq, IfSome, is_some}
use Rattle.std.proofs.lemmas.Bool.{and_from, and_parts, eqb-true}
use Rattle.lq_base_names.specs.declared.name.Name.{Name}
use Rattle.lq_logic_predicates.specs.Sum.{Sum}
use Rattle.lq_prover_case.specs.Equations.Equating.{AreFirsts, IsApplication, IsFirst, KeepsFirsts, first_at, same_at}
use Rattle.lq_prover_case.specs.declared.equations.application.Application.{Application}
use Rattle.lq_prover_case.specs.declared.equations.application.FunctionAt.{FunctionAt}

same_measure : (m n : Option Name) (b : Bool) → (option_eq (λ x y. x.0 == y.0) m n && b) ≡ true → m ≡ n
same_measure None None b h = refl
same_measure (Some x) (Some y) b h = let p = and_parts (x.0 == y.0) b h in ap (λ k. Some (record { 0 = k })) (eqb-true x.0 y.0 p.0)
same_measure None (Some y) b h = cc
same_measure (Some x) None b h = cc

same_class : (m n : Option Name) (c d : ℕ) → (option_eq (λ x y. x.0 == y.0) m n && (c == d)) ≡ true → c ≡ d
same_class m n c d h = let p = and_parts (option_eq (λ x y. x.0 == y.0) m n) (c == d) h in eqb-true c d p.1

measure_refl : (m : Option Name) → option_eq (λ x y. x.0 == y.0) m m ≡ true
measure_refl None = refl
measure_refl (Some x) = eq-eqb x.0 x.0 refl

pub same_at-refl : (k : FunctionAt) → same_at k k ≡ true
same_at-refl k = and_from (option_eq (λ x y. x.0 == y.0) k.measure k.measure) (k.class == k.class) (measure_refl k.measure) (eq-eqb k.class k.class refl)

pub firsts_more : (objects terms : List Sum) (classes : List ℕ) (n m : ℕ) (es : List (FunctionAt × Application)) → n ≤ m → AreFirsts objects terms classes n es → AreFirsts objects terms classes m es
firsts_more objects terms classes n m [] l h = tt
firsts_more objects terms classes n m (e ∷ es) l h =
    (record { is = h.0.is; function = h.0.function; class = h.0.class; before = (let b = h.0.before in omega arith) }, firsts_more objects terms classes n m es l h.1)

pub firsts_push : (objects terms : List Sum) (classes : List ℕ) (n : ℕ) (es : List (FunctionAt × Application)) (k : FunctionAt) (x : Application) → AreFirsts objects terms classes n es
    → IsFirst objects terms classes n (k, x) → AreFirsts objects terms classes n (es ++ (k, x) ∷ [])
firsts_push objects terms classes n [] k x h i = (i, tt)
firsts_push objects terms classes n (e ∷ es) k x h i = (h.0, firsts_push objects terms classes n es k x h.1 i)

-- what an entry says of what is found
pub record IsFound (objects terms : List Sum) (classes : List ℕ) (n : ℕ) (k : FunctionAt) (x : Application) : Type 0 where
  pub is : IsApplication objects terms x
  pub function : x.measure ≡ k.measure
  pub class : slice_index classes x.object ≡ k.class
  pub before : x.index < n

found_here : (objects terms : List Sum) (classes : List ℕ) (n : ℕ) (k : FunctionAt) (y : FunctionAt × Application) (x : Application) (rest : Option Application) (b : Bool) → same_at k y.0 ≡ b
    → (rest ≡ Some x → IsFound objects terms classes n k x) → IsFirst objects terms classes n y → cond b (Some y.1) rest ≡ Some x → IsFound objects terms classes n k x
found_here objects terms classes n k y x rest true t f i g =
    let same_one : y.1 ≡ x = cc in
    subst (IsFound objects terms classes n k) same_one (record {
      is = i.is;
      function = sym i.function ∙ sym (same_measure k.measure y.0.measure (k.class == y.0.class) t);
      class = sym i.class ∙ sym (same_class k.measure y.0.measure k.class y.0.class t);
      before = i.before;
    })
found_here objects terms classes n k y x rest false t f i g = f g

pub found_first : (objects terms : List Sum) (classes : List ℕ) (n : ℕ) (k : FunctionAt) (es : List (FunctionAt × Application)) (x : Application) → first_at es k ≡ Some x
    → AreFirsts objects terms classes n es → IsFound objects terms classes n k x
found_first objects terms classes n k [] x e h = cc
found_first objects terms classes n k (y ∷ es) x e h =
    found_here objects terms classes n k y x (first_at es k) (same_at k y.0) refl (λ g. found_first objects terms classes n k es x g h.1) h.0 e

pub some_first : (o : Option Application) (n : ℕ) (k : FunctionAt) (es : List (FunctionAt × Application)) → o ≡ first_at es k
    → IfSome o (λ x. (objects terms : List Sum) (classes : List ℕ) → AreFirsts objects terms classes n es → IsApplication objects terms x × (x.measure ≡ k.measure)
    × (slice_index classes x.object ≡ k.class) × (x.index < n))
some_first None n k es e = tt
some_first (Some x) n k es e = λ objects terms classes h. let f = found_first objects terms classes n k es x (sym e) h in (f.is, f.function, f.class, f.before)

pub none_from : {X : Type 0} (o : Option X) → is_some o ≡ false → o ≡ None
none_from {X} None h = refl
none_from {X} (Some x) h = cc

-- ---- one more entry
lookup_kept : {K X : Type 0} (test : K → Bool) (es : List (K × X)) (e : K × X) (x : X) → lookup test es ≡ Some x → lookup test (es ++ e ∷ []) ≡ Some x
lookup_kept {K} {X} test [] e x h = cc
lookup_kept {K} {X} test (y ∷ es) e x h = by (test y.0) (lookup_kept test es e x) h
  where
    by : (b : Bool) → (lookup test es ≡ Some x → lookup test (es ++ e ∷ []) ≡ Some x) → cond b (Some y.1) (lookup test es) ≡ Some x → cond b (Some y.1) (lookup test (es ++ e ∷ [])) ≡ Some x
    by true rest g = g
    by false rest g = rest g

pub keeps_push : (old new : List (FunctionAt × Application)) (e : FunctionAt × Application) → new ≡ old ++ e ∷ [] → KeepsFirsts old new
keeps_push old new e is = λ k x h. ap (λ l. first_at l k) is ∙ lookup_kept (same_at k) old e x h

pub lookup_new : {K X : Type 0} (test : K → Bool) (es : List (K × X)) (e : K × X) → lookup test es ≡ None → test e.0 ≡ true → lookup test (es ++ e ∷ []) ≡ Some e.1
lookup_new {K} {X} test [] e h t = ap (λ b. cond b (Some e.1) None) t
lookup_new {K} {X} test (y ∷ es) e h t = by (test y.0) (λ g. lookup_new test es e g t) h
  where
    by : (b : Bool) → (lookup test es ≡ None → lookup test (es ++ e ∷ []) ≡ Some e.1) → cond b (Some y.1) (lookup test es) ≡ None → cond b (Some y.1) (lookup test (es ++ e ∷ [])) ≡ Some e.1
    by true rest g = cc
    by false rest g = rest g
