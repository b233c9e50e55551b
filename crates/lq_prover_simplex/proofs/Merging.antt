-- The sum of two combinations, read side by side.
use Rattle.std.proofs.Common.{◌≡◌, ◌≢◌, ℕ, suc, pos, ◌+◌, ◌-◌, ◌<◌, ◌≤◌, ◌⊎◌, inl, inr, arith, refl, sym, ap, ap₂, subst, ◌∙◌, List, [], ◌∷◌, Option, Some, None, length, take, get_or}
use Rattle.std.proofs.lemmas.List.{take_all}
use Rattle.std.proofs.lemmas.Option.{slice_get_within, get_or_from_slice_get}
use Rattle.lq_base_numbers.specs.Rationals.Rational.{ℚ, ◌+ℚ◌, ◌*ℚ◌}
use Rattle.lq_base_numbers.specs.Rationals.Solver.{var, con, ◌⊕◌, ◌⊗◌, solve}
use Rattle.lq_base_numbers.specs.declared.fractions.frac.Frac.{Frac}
use Rattle.lq_base_numbers.specs.Fractions.Value.{value_of}
use Rattle.lq_logic_rows.specs.Row.{Valuation}
use Rattle.lq_logic_rows.specs.Steps.{value_or_zero}
use Rattle.lq_prover_simplex.specs.declared.line.Entry.{Entry}
use Rattle.lq_prover_simplex.specs.Lines.{combine, IsLine, variable_at, IsHead, IsPut, added, left_out}
use Rattle.lq_prover_simplex.proofs.Combinations.{combine-more, combine-push, Under, under_push, under_more, ascends_push, ascends_next, variable_of}

pub head_sum : (x : Valuation) (es : List Entry) (i v : ℕ) (f : Option Frac) (next : ℕ) → IsHead es i v f next
    → combine x (take next es) ≡ combine x (take i es) +ℚ value_or_zero f *ℚ x v
head_sum x es i v None next h =
    ap (λ n. combine x (take n es)) h.0 ∙ solve (combine x (take i es) ∷ x v ∷ []) (var 0) (var 0 ⊕ con (pos 0) ⊗ var 1) refl
head_sum x es i v (Some f) next h =
    let e : Entry = record { variable = v; factor = f } in
    let q : get_or es i e ≡ e = get_or_from_slice_get es i e e h.1 in
    ap (λ n. combine x (take n es)) h.0
    ∙ combine-more x es i e (slice_get_within es i e h.1)
    ∙ ap (λ (g : Entry). combine x (take i es) +ℚ value_of g.factor *ℚ x g.variable) q

pub put_sum : (x : Valuation) (old new : List Entry) (v : ℕ) (f : Frac) → IsPut old v f new → combine x new ≡ combine x old +ℚ value_of f *ℚ x v
put_sum x old new v f (added n e) = ap (combine x) e ∙ combine-push x old (record { variable = v; factor = f })
put_sum x old new v f (left_out z e) =
    ap (combine x) e ∙ solve (combine x old ∷ x v ∷ []) (var 0) (var 0 ⊕ con (pos 0) ⊗ var 1) refl ∙ ap (λ t. combine x old +ℚ t *ℚ x v) (sym z)

pub put_ascends : (old new : List Entry) (v : ℕ) (f : Frac) → IsPut old v f new → IsLine old → Under v old → IsLine new
put_ascends old new v f (added n e) a u = subst IsLine (sym e) (ascends_push 0 old (record { variable = v; factor = f }) a u (omega arith) n)
put_ascends old new v f (left_out z e) a u = subst IsLine (sym e) a

pub put_under : (old new : List Entry) (v m : ℕ) (f : Frac) → IsPut old v f new → Under v old → v < m → Under m new
put_under old new v m f (added n e) u h = subst (Under m) (sym e) (under_push v m old (record { variable = v; factor = f }) u (omega arith) h)
put_under old new v m f (left_out z e) u h = subst (Under m) (sym e) (under_more v m old u (omega arith))

pub head_next : (es : List Entry) (i v : ℕ) (f : Option Frac) (next : ℕ) → IsHead es i v f next → IsLine es → (i < length es → v ≤ variable_at es i)
    → next < length es → v < variable_at es next
head_next es i v None next h a l n =
    let k : variable_at es next ≡ variable_at es i = ap (variable_at es) h.0 in
    let m : v ≤ variable_at es i = l (let q = h.0 in omega arith) in
    let ne : variable_at es i ≢ v = h.1 (let q = h.0 in omega arith) in
    below v (variable_at es i) (variable_at es next) m ne k
  where
    below : (a b c : ℕ) → a ≤ b → b ≢ a → c ≡ b → a < c
    below a b c h n e = omega arith
head_next es i v (Some f) next h a l n =
    let e : Entry = record { variable = v; factor = f } in
    let inside = slice_get_within es i e h.1 in
    let here : variable_at es i ≡ v = variable_of es i e inside ∙ ap (λ (g : Entry). g.variable) (get_or_from_slice_get es i e e h.1) in
    let q = h.0 in
    let up = ascends_next es 0 i a (omega arith) in
    let k : variable_at es next ≡ variable_at es (suc i) = ap (variable_at es) (let m : next ≡ suc i = omega arith in m) in
    omega arith

pub head_in : (es : List Entry) (i v : ℕ) (f : Option Frac) (next : ℕ) → IsHead es i v f next → i ≤ length es → (i ≤ next) × (next ≤ length es)
head_in es i v None next h l = let q = h.0 in (omega arith, omega arith)
head_in es i v (Some f) next h l = let q = h.0 in let k = slice_get_within es i (record { variable = v; factor = f }) h.1 in (omega arith, omega arith)

pub head_read : (es : List Entry) (i v : ℕ) (f : Option Frac) (next : ℕ) → IsHead es i v f next → i < length es → v ≡ variable_at es i → i < next
head_read es i v None next h l e = absurd (h.1 l (sym e))
head_read es i v (Some f) next h l e = let q = h.0 in omega arith

-- what the loop keeps
pub record Merged (left right : List Entry) (t : ℚ) (i j : ℕ) (es : List Entry) : Type 0 where
  pub i_in : i ≤ length left
  pub j_in : j ≤ length right
  pub sum : (x : Valuation) → combine x es ≡ combine x (take i left) +ℚ t *ℚ combine x (take j right)
  pub ascends : IsLine es
  pub left_under : i < length left → Under (variable_at left i) es
  pub right_under : j < length right → Under (variable_at right j) es

abbrev pub IsLeast : List Entry → ℕ → List Entry → ℕ → ℕ → Type 0
IsLeast left i right j v = ((i < length left) × (v ≡ variable_at left i)) ⊎ ((j < length right) × (v ≡ variable_at right j))

under_least : (left right : List Entry) (t : ℚ) (i j v : ℕ) (es : List Entry) → Merged left right t i j es → IsLeast left i right j v → Under v es
under_least left right t i j v es m (inl h) = subst (λ n. Under n es) (sym h.1) (m.left_under h.0)
under_least left right t i j v es m (inr h) = subst (λ n. Under n es) (sym h.1) (m.right_under h.0)

pub merge_step : (left right : List Entry) (t : ℚ) (i j v ni nj : ℕ) (es new : List Entry) (f g : Option Frac) (s : Frac)
    → Merged left right t i j es → IsLine left → IsLine right → IsLeast left i right j v
    → (i < length left → v ≤ variable_at left i) → (j < length right → v ≤ variable_at right j)
    → IsHead left i v f ni → IsHead right j v g nj → value_of s ≡ value_or_zero f +ℚ t *ℚ value_or_zero g → IsPut es v s new
    → Merged left right t ni nj new
merge_step left right t i j v ni nj es new f g s m al ar least l r hf hg e put =
    let u = under_least left right t i j v es m least in
    record {
      i_in = (head_in left i v f ni hf m.i_in).1;
      j_in = (head_in right j v g nj hg m.j_in).1;
      sum = λ x.
          put_sum x es new v s put ∙ ap₂ (λ a b. a +ℚ b *ℚ x v) (m.sum x) e
          ∙ solve (combine x (take i left) ∷ combine x (take j right) ∷ t ∷ value_or_zero f ∷ value_or_zero g ∷ x v ∷ [])
          (var 0 ⊕ var 2 ⊗ var 1 ⊕ (var 3 ⊕ var 2 ⊗ var 4) ⊗ var 5)
          (var 0 ⊕ var 3 ⊗ var 5 ⊕ var 2 ⊗ (var 1 ⊕ var 4 ⊗ var 5)) refl
          ∙ sym (ap₂ (λ a b. a +ℚ t *ℚ b) (head_sum x left i v f ni hf) (head_sum x right j v g nj hg));
      ascends = put_ascends es new v s put m.ascends u;
      left_under = λ n. put_under es new v (variable_at left ni) s put u (head_next left i v f ni hf al l n);
      right_under = λ n. put_under es new v (variable_at right nj) s put u (head_next right j v g nj hg ar r n);
    }

pub merge_falls : (left right : List Entry) (t : ℚ) (i j v ni nj : ℕ) (es : List Entry) (f g : Option Frac) → Merged left right t i j es → IsLeast left i right j v
    → IsHead left i v f ni → IsHead right j v g nj → (length left - ni) + (length right - nj) < (length left - i) + (length right - j)
merge_falls left right t i j v ni nj es f g m (inl h) hf hg =
    let a = head_read left i v f ni hf h.0 h.1 in let b = head_in right j v g nj hg m.j_in in let c = head_in left i v f ni hf m.i_in in let d = h.0 in omega arith
merge_falls left right t i j v ni nj es f g m (inr h) hf hg =
    let a = head_read right j v g nj hg h.0 h.1 in let b = head_in left i v f ni hf m.i_in in let c = head_in right j v g nj hg m.j_in in let d = h.0 in omega arith

pub merge_start : (left right : List Entry) (t : ℚ) → Merged left right t 0 0 []
merge_start left right t = record {
  i_in = omega arith;
  j_in = omega arith;
  sum = λ x. solve (t ∷ []) (con (pos 0)) (con (pos 0) ⊕ var 0 ⊗ con (pos 0)) refl;
  ascends = tt;
  left_under = λ h. tt;
  right_under = λ h. tt;
}

pub merge_end : (left right : List Entry) (t : ℚ) (i j : ℕ) (es : List Entry) → Merged left right t i j es → length left ≤ i → length right ≤ j
    → (x : Valuation) → combine x es ≡ combine x left +ℚ t *ℚ combine x right
merge_end left right t i j es m h k x = m.sum x ∙ ap₂ (λ a b. combine x a +ℚ t *ℚ combine x b) (take_all i left h) (take_all j right k)
