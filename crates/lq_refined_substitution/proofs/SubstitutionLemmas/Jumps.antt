-- Jumps from a scope outward over scopes that neither add nor hide a symbol of a low rank.
use Rattle.std.proofs.Common.{◌≡◌, ℕ, ◌+◌, ◌-◌, ◌<◌, ◌≤◌, List, [], ◌∷◌, ◌++◌, length, slice_get, Option, Some, None, IfSome, Bool, true, false, if◌then◌else◌, ◌⊎◌, inl, inr, refl, sym, ap, subst, ◌∙◌, arith}
use Rattle.lq_refined_types.specs.Parts.Substitution.{is_in}
use Rattle.lq_logic_predicates.specs.Sum.{same_symbol}
use Rattle.lq_logic_predicates.specs.declared.symbol.Symbol.{Symbol}
use Rattle.lq_refined_substitution.specs.Substitution.Scopes.{grown, left, list_at, rank, shown, AgreeBelow, AreBelow, AreJumps}
use Rattle.lq_refined_substitution.specs.declared.substitution.tables.Entry.{Entry}
use Rattle.lq_refined_substitution.proofs.SubstitutionLemmas.Growing.{early, grown-entry, none-in, number-of, one_more, other-in, same_symbol-is, within}

-- ---- lists that have the same symbols below a number

-- symbols of different ranks are different
differs : (y x : Symbol) → rank x < rank y → same_symbol y x ≡ false
differs y x less = by (same_symbol y x) refl
  where
    by : (b : Bool) → same_symbol y x ≡ b → same_symbol y x ≡ false
    by false e = e
    by true e = let same : rank y ≡ rank x = ap rank (same_symbol-is y x e) in absurd (omega arith)

-- a scope has what its parent has below the ranks of what it adds and hides
pub step-agrees : (own : Symbol) (hidden : Option Symbol) (n : ℕ) → n ≤ rank own → IfSome hidden (λ h. n ≤ rank h)
    → (up : List Symbol) → AgreeBelow n (left hidden up ++ own ∷ []) up
step-agrees own hidden n low lower up x less = by hidden lower
  where
    apart : same_symbol own x ≡ false
    apart = differs own x (omega arith)

    with : Option Symbol → Entry
    with o = record { parent = 0; symbol = own; hidden = o; highest = 0; jump = record { to = 0; span = 0; lowest = 0 } }

    by : (o : Option Symbol) → IfSome o (λ h. n ≤ rank h) → is_in (left o up ++ own ∷ []) x ≡ is_in up x
    by None l = none-in (with None) x refl apart up
    by (Some h) l = other-in (with (Some h)) h x refl apart (differs h x (omega arith)) up

-- what holds below a number holds below a lower one, and on from there
pub agree-on : (a b n : ℕ) (xs ys zs : List Symbol) → n ≤ a → n ≤ b → AgreeBelow a xs ys → AgreeBelow b ys zs → AgreeBelow n xs zs
agree-on a b n xs ys zs na nb first second x less = first x (omega arith) ∙ second x (omega arith)

-- ---- the table

-- that a scope keeps an earlier one, in the table of these scopes
abbrev pub IsJump : List Entry → ℕ → Entry → Type 0
IsJump es k e = (e.jump.to ≤ k) × AgreeBelow e.jump.lowest (shown e (list_at (grown ([] ∷ []) es) e.parent)) (list_at (grown ([] ∷ []) es) e.jump.to)

still : (es : List Entry) (e x : Entry) (k : ℕ) → k ≤ length es → x.parent ≤ k → IsJump es k x → IsJump (es ++ e ∷ []) k x
still es e x k there p jump =
    let j = jump.0 in
    let more = grown ([] ∷ []) (es ++ e ∷ []) in
    let up : list_at more x.parent ≡ list_at (grown ([] ∷ []) es) x.parent = early es e x.parent (omega arith) in
    let to : list_at more x.jump.to ≡ list_at (grown ([] ∷ []) es) x.jump.to = early es e x.jump.to (omega arith) in
    (jump.0, λ y less. ap (λ (xs : List Symbol). is_in (shown x xs) y) up ∙ (jump.1 y less ∙ ap (λ (xs : List Symbol). is_in xs y) (sym to)))

jumps-push : (es : List Entry) (e : Entry) → AreBelow es → AreJumps es → e.parent ≤ length es → IsJump es (length es) e → AreJumps (es ++ e ∷ [])
jumps-push es e below all p new k x at = by (one_more es e x k at)
  where
    by : (slice_get es k ≡ Some x) ⊎ ((k ≡ length es) × (e ≡ x)) → IsJump (es ++ e ∷ []) k x
    by (inl g) = let l = within es k x g in still es e x k (omega arith) (below k x g) (all k x g)
    by (inr q) =
        subst (λ (y : Entry). IsJump (es ++ e ∷ []) k y) q.1
        (subst (λ n. IsJump (es ++ e ∷ []) n e) (sym q.0) (still es e e (length es) (omega arith) p new))

pub jumps-pushed : (b : Bool) (es fs : List Entry) (e : Entry) → fs ≡ (if b then es ++ e ∷ [] else es) → AreBelow es → AreJumps es
    → e.parent ≤ length es → IsJump es (length es) e → AreJumps fs
jumps-pushed true es fs e h below all p new = subst AreJumps (sym h) (jumps-push es e below all p new)
jumps-pushed false es fs e h below all p new = subst AreJumps (sym h) all

-- ---- one scope by its number

module _ (es : List Entry) (at : ℕ) (z : ¬ (at ≡ 0)) (below : AreBelow es) (jumps : AreJumps es) where
  abbrev all : List (List Symbol)
  all = grown ([] ∷ []) es

  pub entry-outward : (r : Option Entry) → r ≡ slice_get es (at - 1) → IfSome r (λ e. e.jump.to < at)
  entry-outward (Some e) is = let i : at ≡ 1 + (at - 1) = number-of at z in let j = (jumps (at - 1) e (sym is)).0 in omega arith
  entry-outward None is = tt

  pub entry-agrees : (r : Option Entry) → r ≡ slice_get es (at - 1) → IfSome r (λ e. AgreeBelow e.jump.lowest (list_at all at) (list_at all e.jump.to))
  entry-agrees (Some e) is =
      let i : at ≡ 1 + (at - 1) = number-of at z in
      let b = below (at - 1) e (sym is) in
      subst (λ (xs : List Symbol). AgreeBelow e.jump.lowest xs (list_at all e.jump.to))
      (sym (ap (list_at all) i ∙ grown-entry es ([] ∷ []) (at - 1) e (sym is) (omega arith))) (jumps (at - 1) e (sym is)).1
  entry-agrees None is = tt
