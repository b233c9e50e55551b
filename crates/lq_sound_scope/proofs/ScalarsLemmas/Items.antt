-- The names that are bound in a definition and behind it.
use Rattle.std.proofs.Common.{◌≡◌, ℕ, ◌<◌, ◌^◌, false, ◌==◌, List, [], ◌∷◌, ◌++◌, refl, sym, subst}
use Rattle.std.proofs.lemmas.Bool.{eqb-true, eq-eqb}
use Rattle.lq_refined_rules.specs.Checks.Basis.{Basis}
use Rattle.lq_refined_rules.specs.Checks.Binders.{AllDiffer, IsNotIn, operation_binders, block_binders}
use Rattle.lq_refined_rules.specs.Checks.Operation.{bind, last_context, type_of}
use Rattle.lq_refined_rules.specs.Checks.Tree.{Block, last, binding, recursive, last_operation}
use Rattle.lq_sound_values.specs.Inclusion.Symbols.{Symbols, with_symbol}
use Rattle.lq_sound_scope.specs.Scopes.InScope.{with_names}
use Rattle.lq_sound_scope.specs.Scopes.Over.{IsWithin}
use Rattle.lq_sound_values.proofs.NewNamesLemmas.Fields.{both_false}
use Rattle.lq_refined_types.specs.Types.Context.{Context}
use Rattle.lq_refined_types.specs.Types.Operations.{symbol_of}
use Rattle.lq_sound_values.specs.Runs.Closed.{names_in}
use Rattle.lq_sound_values.proofs.RunsLemmas.Closing.{or_parts, or_right, with_within, within_with}
use Rattle.lq_sound_scope.specs.Scalars.Scalar.{HaveTwins}
use Rattle.lq_sound_scope.proofs.ScalarsLemmas.NameKinds.{AllIn, NoneIn}
use Rattle.lq_sound_scope.proofs.ScalarsLemmas.Twins.{AreSmall, clash, false_unless, not_in}

-- ---- lists of names

pub not_behind : (xs ys : List ℕ) (x : ℕ) → IsNotIn (xs ++ ys) x → IsNotIn ys x
not_behind [] ys x h = h
not_behind (z ∷ xs) ys x h = not_behind xs ys x h.1

pub differ_back : (xs ys : List ℕ) → AllDiffer (xs ++ ys) → AllDiffer ys
differ_back [] ys h = h
differ_back (x ∷ xs) ys h = differ_back xs ys h.1

not_front : (xs ys : List ℕ) (x : ℕ) → IsNotIn (xs ++ ys) x → IsNotIn xs x
not_front [] ys x h = tt
not_front (z ∷ xs) ys x h = (h.0, not_front xs ys x h.1)

pub differ_front : (xs ys : List ℕ) → AllDiffer (xs ++ ys) → AllDiffer xs
differ_front [] ys h = tt
differ_front (x ∷ xs) ys h = (not_front xs ys x h.0, differ_front xs ys h.1)

differ_inner : (xs zs ys : List ℕ) → AllDiffer ((xs ++ zs) ++ ys) → AllDiffer (zs ++ ys)
differ_inner [] zs ys h = h
differ_inner (x ∷ xs) zs ys h = differ_inner xs zs ys h.1

-- ---- none of them, or all

pub none_front : (N : Symbols) (xs ys : List ℕ) → NoneIn N (xs ++ ys) → NoneIn N xs
none_front N [] ys h = tt
none_front N (x ∷ xs) ys h = (h.0, none_front N xs ys h.1)

pub none_back : (N : Symbols) (xs ys : List ℕ) → NoneIn N (xs ++ ys) → NoneIn N ys
none_back N [] ys h = h
none_back N (x ∷ xs) ys h = none_back N xs ys h.1

pub none_less : (N M : Symbols) → IsWithin N M → (xs : List ℕ) → NoneIn M xs → NoneIn N xs
none_less N M w [] h = tt
none_less N M w (x ∷ xs) h = (not_in N M w (symbol_of x) h.0, none_less N M w xs h.1)

-- beside one more that isn't among them
pub none_one : (N : Symbols) (z : ℕ) (xs : List ℕ) → IsNotIn xs z → NoneIn N xs → NoneIn (with_symbol N (symbol_of z)) xs
none_one N z [] d h = tt
none_one N z (x ∷ xs) d h =
    let apart : (z == x) ≡ false = false_unless (z == x) (λ e. clash (x == z) (eq-eqb x z (sym (eqb-true z x e))) d.0) in
    (both_false (N (symbol_of x)) (z == x) h.0 apart, none_one N z xs d.1 h.1)

-- beside more that differ from them, which stand before them or behind
pub none_behind : (N : Symbols) (xs ys : List ℕ) → AllDiffer (xs ++ ys) → NoneIn N ys → NoneIn (with_names N xs) ys
none_behind N [] ys d h = h
none_behind N (x ∷ xs) ys d h =
    none_behind (with_symbol N (symbol_of x)) xs ys d.1 (none_one N x ys (not_behind xs ys x d.0) h)

not_named : (N : Symbols) (ys : List ℕ) (x : ℕ) → N (symbol_of x) ≡ false → IsNotIn ys x → with_names N ys (symbol_of x) ≡ false
not_named N [] x h d = h
not_named N (y ∷ ys) x h d = not_named (with_symbol N (symbol_of y)) ys x (both_false (N (symbol_of x)) (y == x) h d.0) d.1

pub none_before : (N : Symbols) (xs ys : List ℕ) → AllDiffer (xs ++ ys) → NoneIn N xs → NoneIn (with_names N ys) xs
none_before N [] ys d h = tt
none_before N (x ∷ xs) ys d h = (not_named N ys x h.0 (not_behind xs ys x d.0), none_before N xs ys d.1 h.1)

pub names_own : (N : Symbols) (xs : List ℕ) → IsWithin N (with_names N xs)
names_own N [] y h = h
names_own N (x ∷ xs) y h = names_own (with_symbol N (symbol_of x)) xs y (within_with N (symbol_of x) y h)

pub names_wider : (N M : Symbols) → IsWithin N M → (xs : List ℕ) → IsWithin (with_names N xs) (with_names M xs)
names_wider N M w [] y h = w y h
names_wider N M w (x ∷ xs) y h =
    names_wider (with_symbol N (symbol_of x)) (with_symbol M (symbol_of x)) (with_within N M (symbol_of x) w) xs y h

-- names and more names
pub names_joined : (N : Symbols) (xs ys : List ℕ) → IsWithin (with_names (with_names N xs) ys) (with_names N (xs ++ ys))
names_joined N [] ys y h = h
names_joined N (x ∷ xs) ys y h = names_joined (with_symbol N (symbol_of x)) xs ys y h

-- those behind
pub names_behind : (N : Symbols) (xs ys : List ℕ) → IsWithin (with_names N ys) (with_names N (xs ++ ys))
names_behind N xs ys y h = names_joined N xs ys y (names_wider N (with_names N xs) (names_own N xs) ys y h)

pub all_own : (N : Symbols) (xs : List ℕ) → AllIn (with_names N xs) xs
all_own N [] = tt
all_own N (x ∷ xs) =
    let M = with_symbol N (symbol_of x) in
    (names_own M xs (symbol_of x) (or_right (N (symbol_of x)) (x == x) (eq-eqb x x refl)), all_own M xs)

pub all_front : (N : Symbols) (xs ys : List ℕ) → AllIn N (xs ++ ys) → AllIn N xs
all_front N [] ys h = tt
all_front N (x ∷ xs) ys h = (h.0, all_front N xs ys h.1)

pub all_back : (N : Symbols) (xs ys : List ℕ) → AllIn N (xs ++ ys) → AllIn N ys
all_back N [] ys h = h
all_back N (x ∷ xs) ys h = all_back N xs ys h.1

small_one : (N : Symbols) (x : ℕ) → AreSmall N → x < 2 ^ 31 → AreSmall (with_symbol N (symbol_of x))
small_one N x small low z h =
    or_parts (z < 2 ^ 31) (N (symbol_of z)) (x == z) h (λ k. small z k) (λ e. subst (λ w. w < 2 ^ 31) (eqb-true x z e) low)

pub names_small : (N : Symbols) (xs : List ℕ) → AreSmall N → HaveTwins xs → AreSmall (with_names N xs)
names_small N [] small twins = small
names_small N (x ∷ xs) small twins = names_small (with_symbol N (symbol_of x)) xs (small_one N x small twins.0) twins.1

-- ---- of a block

module _ (P : Basis) where
  -- what it adds to the environment it binds
  pub last_names : (b : Block) (Γ : Context) → IsWithin (names_in (last_context P Γ b)) (with_names (names_in Γ) (block_binders b))
  last_names (last l o) Γ y h = names_own (names_in Γ) (operation_binders o) y h
  last_names (binding x l o b) Γ y h =
      names_behind (names_in Γ) (operation_binders o) (x ∷ block_binders b) y (last_names b (bind x (type_of P Γ o) Γ) y h)
  last_names (recursive g p z b c) Γ y h =
      let N = with_symbol (names_in Γ) (symbol_of g) in
      let M = with_symbol N (symbol_of z) in
      names_behind M (block_binders b) (block_binders c) y
      (names_wider N M (within_with N (symbol_of z)) (block_binders c) y (last_names c (bind g (P.template p) Γ) y h))

  -- the binders of its last operation
  pub end_none : (b : Block) (Γ : Context) → AllDiffer (block_binders b) → NoneIn (names_in Γ) (block_binders b)
      → NoneIn (names_in (last_context P Γ b)) (operation_binders (last_operation b))
  end_none (last l o) Γ d h = h
  end_none (binding x l o b) Γ d h =
      let e = differ_back (operation_binders o) (x ∷ block_binders b) d in
      let k = none_back (names_in Γ) (operation_binders o) (x ∷ block_binders b) h in
      end_none b (bind x (type_of P Γ o) Γ) e.1 (none_one (names_in Γ) x (block_binders b) e.0 k.1)
  end_none (recursive g p z b c) Γ d h =
      let away = not_behind (block_binders b) (block_binders c) g d.0.1 in
      end_none c (bind g (P.template p) Γ) (differ_back (block_binders b) (block_binders c) d.1.1)
      (none_one (names_in Γ) g (block_binders c) away (none_back (names_in Γ) (block_binders b) (block_binders c) h.1.1))

  pub end_differ : (b : Block) (ys : List ℕ) → AllDiffer (block_binders b ++ ys) → AllDiffer (operation_binders (last_operation b) ++ ys)
  end_differ (last l o) ys h = h
  end_differ (binding x l o b) ys h = end_differ b ys ((differ_inner (operation_binders o) (x ∷ block_binders b) ys h).1)
  end_differ (recursive g p z b c) ys h = end_differ c ys (differ_inner (block_binders b) (block_binders c) ys h.1.1)
