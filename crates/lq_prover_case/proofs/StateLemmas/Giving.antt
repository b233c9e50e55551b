-- Flags with one fact more.
use Rattle.std.proofs.Common.{◌≡◌, ℕ, zero, suc, List, [], ◌∷◌, ◌++◌, Option, Some, None, Bool, true, false, not, cond, ◌==◌, ◌⊎◌, inl, inr, refl, sym, ap, ap₂, subst, ◌∙◌, arith, length, slice_get}
use Rattle.std.specs.Map.{lookup}
use Rattle.lq_logic_rows.specs.Row.{Row}
use Rattle.lq_logic_predicates.specs.Sum.{Sum, same_symbol}
use Rattle.lq_logic_predicates.specs.contracts.symbol.SymbolPartialEq.TheImpl as symbols
use Rattle.lq_logic_predicates.specs.declared.symbol.Symbol.{Symbol}
use Rattle.lq_logic_predicates.specs.declared.symbol.Symbol.TheVariants.{Value, Bound, Position}
use Rattle.std.proofs.lemmas.Bool.{eqb-true}
use Rattle.lq_prover_proof_tree.specs.Trees.Path.{Fact, flag_fact, row_fact, objects_fact, numbered_at}
use Rattle.lq_prover_case.specs.State.Flags.{find_given, GivenNow, first, again, other, IsFlagClash, IsClash, AreFlagsOf, clash_after}
use Rattle.lq_prover_case.specs.declared.state.flags.FlagClash.{FlagClash}
use Rattle.lq_prover_case.specs.declared.state.flags.Given.{Given}

symbol-eq : (x y : Symbol) → (symbols.eq-value).it x y ≡ same_symbol x y
symbol-eq Value Value = refl
symbol-eq (Bound x) (Bound y) = refl
symbol-eq (Position i) (Position j) = refl
symbol-eq Value (Bound y) = refl
symbol-eq Value (Position j) = refl
symbol-eq (Bound x) Value = refl
symbol-eq (Bound x) (Position j) = refl
symbol-eq (Position i) Value = refl
symbol-eq (Position i) (Bound y) = refl

pub lookup_same : (x : Symbol) (es : List (Symbol × Given)) → lookup ((symbols.eq-value).it x) es ≡ lookup (same_symbol x) es
lookup_same x [] = refl
lookup_same x (e ∷ es) = ap (λ b. cond b (Some e.1) (lookup ((symbols.eq-value).it x) es)) (symbol-eq x e.0) ∙ ap (λ o. cond (same_symbol x e.0) (Some e.1) o) (lookup_same x es)

same_is : (x y : Symbol) → same_symbol x y ≡ true → x ≡ y
same_is Value Value h = refl
same_is (Bound x) (Bound y) h = ap (λ n. Bound (record { 0 = n })) (eqb-true x.0 y.0 h)
same_is (Position i) (Position j) h = ap Position (eqb-true i j h)
same_is Value (Bound y) h = cc
same_is Value (Position j) h = cc
same_is (Bound x) Value h = cc
same_is (Bound x) (Position j) h = cc
same_is (Position i) Value h = cc
same_is (Position i) (Bound y) h = cc

eq_self : (n : ℕ) → n == n ≡ true
eq_self n = grind arith

same_self : (x : Symbol) → same_symbol x x ≡ true
same_self Value = refl
same_self (Bound x) = eq_self x.0
same_self (Position i) = eq_self i

-- ---- one more entry
find_push : (es : List (Symbol × Given)) (y : Symbol) (e : Symbol × Given) (g : Given) → find_given (es ++ e ∷ []) y ≡ Some g → (find_given es y ≡ Some g) ⊎ ((y ≡ e.0) × (g ≡ e.1))
find_push [] y e g h = by (same_symbol y e.0) refl h
  where
    by : (b : Bool) → same_symbol y e.0 ≡ b → cond b (Some e.1) None ≡ Some g → (None ≡ Some g) ⊎ ((y ≡ e.0) × (g ≡ e.1))
    by true f k = inr (same_is y e.0 f, (cc))
    by false f k = inl k
find_push (d ∷ es) y e g h = by (find_push es y e g) (same_symbol y d.0) h
  where
    by : (find_given (es ++ e ∷ []) y ≡ Some g → (find_given es y ≡ Some g) ⊎ ((y ≡ e.0) × (g ≡ e.1))) → (b : Bool) → cond b (Some d.1) (find_given (es ++ e ∷ []) y) ≡ Some g
        → (cond b (Some d.1) (find_given es y) ≡ Some g) ⊎ ((y ≡ e.0) × (g ≡ e.1))
    by rest true k = inl k
    by rest false k = rest k

find_more : (es more : List (Symbol × Given)) (y : Symbol) (g : Given) → find_given es y ≡ Some g → find_given (es ++ more) y ≡ Some g
find_more [] more y g h = absurd (cc)
find_more (d ∷ es) more y g h = by (find_more es more y g) (same_symbol y d.0) h
  where
    by : (find_given es y ≡ Some g → find_given (es ++ more) y ≡ Some g) → (b : Bool) → cond b (Some d.1) (find_given es y) ≡ Some g → cond b (Some d.1) (find_given (es ++ more) y) ≡ Some g
    by rest true k = k
    by rest false k = rest k

find_last : (es : List (Symbol × Given)) (x : Symbol) (g : Given) → find_given es x ≡ None → find_given (es ++ (x, g) ∷ []) x ≡ Some g
find_last [] x g h = ap (λ b. cond b (Some g) None) (same_self x)
find_last (d ∷ es) x g h = by (find_last es x g) (same_symbol x d.0) h
  where
    by : (find_given es x ≡ None → find_given (es ++ (x, g) ∷ []) x ≡ Some g) → (b : Bool) → cond b (Some d.1) (find_given es x) ≡ None
        → cond b (Some d.1) (find_given (es ++ (x, g) ∷ []) x) ≡ Some g
    by rest true k = absurd (cc)
    by rest false k = rest k

-- ---- one more fact
get_push : (fs : List Fact) (f y : Fact) (k : ℕ) → slice_get (fs ++ f ∷ []) k ≡ Some y → (slice_get fs k ≡ Some y) ⊎ ((k ≡ length fs) × (f ≡ y))
get_push [] f y zero h = inr (refl, (cc))
get_push [] f y (suc k) h = inl h
get_push (g ∷ fs) f y zero h = inl h
get_push (g ∷ fs) f y (suc k) h = elim (get_push fs f y k h) [ inl p ↦ inl p | inr p ↦ inr (ap suc p.0, p.1) ]

get_more : (fs more : List Fact) (y : Fact) (k : ℕ) → slice_get fs k ≡ Some y → slice_get (fs ++ more) k ≡ Some y
get_more [] more y k h = absurd (cc)
get_more (g ∷ fs) more y zero h = h
get_more (g ∷ fs) more y (suc k) h = get_more fs more y k h

get_last : (fs : List Fact) (f : Fact) → slice_get (fs ++ f ∷ []) (length fs) ≡ Some f
get_last [] f = refl
get_last (g ∷ fs) f = get_last fs f

pub numbered_more : (fs more : List Fact) (y : Fact) (k : ℕ) → numbered_at fs k ≡ Some y → numbered_at (fs ++ more) k ≡ Some y
numbered_more fs more y zero h = absurd (cc)
numbered_more fs more y (suc k) h = get_more fs more y k h

numbered_push : (fs : List Fact) (f y : Fact) (k : ℕ) → numbered_at (fs ++ f ∷ []) k ≡ Some y → (numbered_at fs k ≡ Some y) ⊎ (f ≡ y)
numbered_push fs f y zero h = absurd (cc)
numbered_push fs f y (suc k) h = elim (get_push fs f y k h) [ inl p ↦ inl p | inr p ↦ inr p.1 ]

pub numbered_last : (fs : List Fact) (f : Fact) (n : ℕ) → n ≡ suc (length fs) → numbered_at (fs ++ f ∷ []) n ≡ Some f
numbered_last fs f n e = subst (λ k. numbered_at (fs ++ f ∷ []) k ≡ Some f) (sym e) (get_last fs f)

clash_more : (fs more : List Fact) (clash : Option FlagClash) → IsClash fs clash → IsClash (fs ++ more) clash
clash_more fs more None h = tt
clash_more fs more (Some c) h =
    record { flag = h.flag; value = h.value; is_first = numbered_more fs more _ c.first h.is_first; is_second = numbered_more fs more _ c.second h.is_second }

-- a fact that is a row
pub with_row : (fs : List Fact) (es : List (Symbol × Given)) (clash : Option FlagClash) (r : Row) → AreFlagsOf fs es clash → AreFlagsOf (fs ++ row_fact r ∷ []) es clash
with_row fs es clash r a = record {
  given = λ x g h. numbered_more fs (row_fact r ∷ []) (flag_fact x g.value) g.number (a.given x g h);
  is_clash = clash_more fs (row_fact r ∷ []) clash a.is_clash;
  agree = λ e k x value h. elim (numbered_push fs (row_fact r) (flag_fact x value) k h) [ inl p ↦ a.agree e k x value p | inr p ↦ absurd (cc) ];
}

-- a fact about objects
pub with_same : (fs : List Fact) (es : List (Symbol × Given)) (clash : Option FlagClash) (a b : Sum) (one : Bool) → AreFlagsOf fs es clash → AreFlagsOf (fs ++ objects_fact a b one ∷ []) es clash
with_same fs es clash a b one h = record {
  given = λ x g k. numbered_more fs (objects_fact a b one ∷ []) (flag_fact x g.value) g.number (h.given x g k);
  is_clash = clash_more fs (objects_fact a b one ∷ []) clash h.is_clash;
  agree = λ e k x value i. elim (numbered_push fs (objects_fact a b one) (flag_fact x value) k i) [ inl p ↦ h.agree e k x value p | inr p ↦ absurd (cc) ];
}

not_not : (b : Bool) → b ≡ not (not b)
not_not true = refl
not_not false = refl

new_clash : (fs : List Fact) (x : Symbol) (value : Bool) (g : Given) (n : ℕ) → n ≡ suc (length fs) → numbered_at fs g.number ≡ Some (flag_fact x g.value) → g.value ≡ not value
    → IsFlagClash (fs ++ flag_fact x value ∷ []) (record { first = g.number; second = n })
new_clash fs x value g n e h v = record {
  flag = x;
  value = g.value;
  is_first = numbered_more fs (flag_fact x value ∷ []) (flag_fact x g.value) g.number h;
  is_second = numbered_last fs (flag_fact x value) n e ∙ ap (λ b. Some (flag_fact x b)) (not_not value ∙ ap not (sym v));
}

flag_of : (x y : Symbol) (a b : Bool) → flag_fact x a ≡ flag_fact y b → (x ≡ y) × (a ≡ b)
flag_of x y a b h = ((cc), (cc))

kept_clash : (c : Option FlagClash) (n : ℕ) → clash_after c None n ≡ c
kept_clash None n = refl
kept_clash (Some c) n = refl

flag_first : (fs : List Fact) (es : List (Symbol × Given)) (clash : Option FlagClash) (x : Symbol) (value : Bool) (n : ℕ) → AreFlagsOf fs es clash → n ≡ suc (length fs)
    → find_given es x ≡ None → AreFlagsOf (fs ++ flag_fact x value ∷ []) (es ++ (x, record { number = n; value = value }) ∷ []) clash
flag_first fs es clash x value n a e none =
    let g : Given = record { number = n; value = value } in
    record {
      given = λ y h k. elim (find_push es y (x, g) h k) [
        | inl p ↦ numbered_more fs (flag_fact x value ∷ []) (flag_fact y h.value) h.number (a.given y h p)
        | inr p ↦ subst (λ (w : Symbol × Given). numbered_at (fs ++ flag_fact x value ∷ []) w.1.number ≡ Some (flag_fact w.0 w.1.value)) (ap₂ (λ (s : Symbol) (t : Given). (s, t)) (sym p.0) (sym p.1)) (numbered_last fs (flag_fact x value) n e)
      ];
      is_clash = clash_more fs (flag_fact x value ∷ []) clash a.is_clash;
      agree = λ c k y b h. elim (numbered_push fs (flag_fact x value) (flag_fact y b) k h) [
        | inl p ↦ (let w = a.agree c k y b p in (w.0, find_more es ((x, g) ∷ []) y w.0 w.1, w.2))
        | inr p ↦ (let q = flag_of x y value b p in (g, subst (λ z. find_given (es ++ (x, g) ∷ []) z ≡ Some g) q.0 (find_last es x g none), q.1))
      ];
    }

flag_again : (fs : List Fact) (es : List (Symbol × Given)) (clash : Option FlagClash) (x : Symbol) (value : Bool) (g : Given) → AreFlagsOf fs es clash
    → find_given es x ≡ Some g → g.value ≡ value → AreFlagsOf (fs ++ flag_fact x value ∷ []) es clash
flag_again fs es clash x value g a found v = record {
  given = λ y h k. numbered_more fs (flag_fact x value ∷ []) (flag_fact y h.value) h.number (a.given y h k);
  is_clash = clash_more fs (flag_fact x value ∷ []) clash a.is_clash;
  agree = λ c k y b h. elim (numbered_push fs (flag_fact x value) (flag_fact y b) k h) [
    | inl p ↦ a.agree c k y b p
    | inr p ↦ (let q = flag_of x y value b p in (g, subst (λ z. find_given es z ≡ Some g) q.0 found, v ∙ q.1))
  ];
}

other_clash : (fs : List Fact) (clash : Option FlagClash) (x : Symbol) (value : Bool) (g : Given) (n : ℕ) → IsClash fs clash → n ≡ suc (length fs)
    → numbered_at fs g.number ≡ Some (flag_fact x g.value) → g.value ≡ not value → IsClash (fs ++ flag_fact x value ∷ []) (clash_after clash (Some g.number) n)
other_clash fs None x value g n h e at v = new_clash fs x value g n e at v
other_clash fs (Some c) x value g n h e at v = clash_more fs (flag_fact x value ∷ []) (Some c) h

other_known : (clash : Option FlagClash) (m n : ℕ) → clash_after clash (Some m) n ≡ None → ⊥
other_known None m n h = cc
other_known (Some c) m n h = cc

flag_other : (fs : List Fact) (es : List (Symbol × Given)) (clash : Option FlagClash) (x : Symbol) (value : Bool) (g : Given) (n : ℕ) → AreFlagsOf fs es clash → n ≡ suc (length fs)
    → find_given es x ≡ Some g → g.value ≡ not value → AreFlagsOf (fs ++ flag_fact x value ∷ []) es (clash_after clash (Some g.number) n)
flag_other fs es clash x value g n a e found v = record {
  given = λ y h k. numbered_more fs (flag_fact x value ∷ []) (flag_fact y h.value) h.number (a.given y h k);
  is_clash = other_clash fs clash x value g n a.is_clash e (a.given x g found) v;
  agree = λ c k y b h. absurd (other_known clash g.number n c);
}

pub with_flag : (fs : List Fact) (es new : List (Symbol × Given)) (clash : Option FlagClash) (x : Symbol) (value : Bool) (n : ℕ) (o : Option ℕ) → AreFlagsOf fs es clash → n ≡ suc (length fs)
    → GivenNow es new x value n o → AreFlagsOf (fs ++ flag_fact x value ∷ []) new (clash_after clash o n)
with_flag fs es new clash x value n _ a e (first none is) =
    subst (λ c. AreFlagsOf (fs ++ flag_fact x value ∷ []) new c) (sym (kept_clash clash n))
    (subst (λ l. AreFlagsOf (fs ++ flag_fact x value ∷ []) l clash) (sym is) (flag_first fs es clash x value n a e none))
with_flag fs es new clash x value n _ a e (again g found v is) =
    subst (λ c. AreFlagsOf (fs ++ flag_fact x value ∷ []) new c) (sym (kept_clash clash n))
    (subst (λ l. AreFlagsOf (fs ++ flag_fact x value ∷ []) l clash) (sym is) (flag_again fs es clash x value g a found v))
with_flag fs es new clash x value n _ a e (other g found v is) =
    subst (λ l. AreFlagsOf (fs ++ flag_fact x value ∷ []) l (clash_after clash (Some g.number) n)) (sym is) (flag_other fs es clash x value g n a e found v)

-- the answer is a clash of the facts
pub clash_now : (fs : List Fact) (es new : List (Symbol × Given)) (clash : Option FlagClash) (x : Symbol) (value : Bool) (n m : ℕ) → AreFlagsOf fs es clash → n ≡ suc (length fs)
    → GivenNow es new x value n (Some m) → IsFlagClash (fs ++ flag_fact x value ∷ []) (record { first = m; second = n })
clash_now fs es new clash x value n _ a e (other g found v is) = new_clash fs x value g n e (a.given x g found) v
