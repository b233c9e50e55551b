-- Tokens have at most one answer.
use Rattle.std.proofs.Common.{◌≡◌, ℕ, zero, suc, ◌+◌, ◌<◌, ◌≤◌, Some, None, List, [], ◌∷◌, ◌++◌, length, take, drop, arith, refl, ap, inl, inr, ◌⊎◌, append_assoc}
use Rattle.std.proofs.lemmas.Bool.{cases_lt}
use Rattle.std.proofs.lemmas.List.{take-append-drop, drop_all}
use Rattle.lq_text_grammar.specs.Levels.{kind_at, IsShallow, IsSyntax, IsTooDeep}
use Rattle.lq_text_grammar.specs.Reading.{IsText, Begins, IsStop}
use Rattle.lq_text_grammar.specs.declared.kind.Kind.{Kind}
use Rattle.lq_text_grammar.specs.declared.rule.Rule.{Rule}
use Rattle.lq_text_grammar.specs.declared.symbol.Event.{Event}

-- the first n of the first m are the first n
shorter : (n m : ℕ) (ks : List Kind) → n ≤ m → (us : List Kind) × (take n ks ++ us ≡ take m ks)
shorter zero m ks h = (take m ks, refl)
shorter (suc n) zero ks h = absurd (omega arith)
shorter (suc n) (suc m) [] h = ([], refl)
shorter (suc n) (suc m) (k ∷ ks) h = let s = shorter n m ks (omega arith) in (s.0, ap (λ (l : List Kind). k ∷ l) s.1)

begins_less : (start : Rule) (ks us : List Kind) → Begins start (ks ++ us) → Begins start ks
begins_less start ks us (xs, es, d) = (us ++ xs, es, rw append_assoc at d)

begins_shorter : (start : Rule) (n m : ℕ) (ks : List Kind) → n ≤ m → Begins start (take m ks) → Begins start (take n ks)
begins_shorter start n m ks h b = let s = shorter n m ks h in begins_less start (take n ks) s.0 (rw (← s.1) at b)

text_begins : (start : Rule) (ks : List Kind) (es : List Event) (n : ℕ) → IsText start ks es → Begins start (take n ks)
text_begins start ks es n d = (drop n ks, es, rw (← take-append-drop n ks) at d)

inside : (ks : List Kind) (at : ℕ) (k : Kind) → kind_at ks at ≡ Some k → at < length ks
inside ks at k e = elim (cases_lt at (length ks)) [
  | inl h ↦ h
  | inr h ↦ let none : kind_at ks at ≡ None = rw (drop_all at ks h) refl in absurd cc
]

order : (a b : ℕ) → (a < b) ⊎ ((a ≡ b) ⊎ (b < a))
order a b = elim (cases_lt a b) [
  | inl h ↦ inl h
  | inr h ↦ elim (cases_lt b a) [ inl g ↦ inr (inr g) | inr g ↦ inr (inl (omega arith)) ]
]

pub no_stop : (start : Rule) (limit : ℕ) (ks : List Kind) (es : List Event) (at : ℕ) → IsText start ks es → IsSyntax start limit ks at → ⊥
no_stop start limit ks es at d (within, starts, inl (room, none), shallow) = none (text_begins start ks es (at + 1) d)
no_stop start limit ks es at d (within, starts, inr (over, none), shallow) = none es d

pub not_deep : (start : Rule) (limit : ℕ) (ks : List Kind) (at to : ℕ) → at < to → IsShallow start limit ks to → IsTooDeep start limit ks at → ⊥
not_deep start limit ks at to h shallow (starts, before, (k, l, is, level, high)) = let low : l ≤ limit = shallow at k l h is level in absurd (omega arith)

pub none_deep : (start : Rule) (limit : ℕ) (ks : List Kind) (at : ℕ) → IsShallow start limit ks (length ks) → IsTooDeep start limit ks at → ⊥
none_deep start limit ks at shallow (starts, before, (k, l, is, level, high)) = not_deep start limit ks at (length ks) (inside ks at k is) shallow (starts, before, (k, l, is, level, high))

-- nothing begins a text behind a stop
no_more : (start : Rule) (limit : ℕ) (ks : List Kind) (at to : ℕ) → at < to → to ≤ length ks → IsStop start ks at → Begins start (take to ks) → ⊥
no_more start limit ks at to h w (inl (room, none)) b = none (begins_shorter start (at + 1) to ks (omega arith) b)
no_more start limit ks at to h w (inr (over, none)) b = absurd (omega arith)

pub either_way : (start : Rule) (limit : ℕ) (ks : List Kind) (at to : ℕ) → IsSyntax start limit ks at → IsTooDeep start limit ks to → ⊥
either_way start limit ks at to (within, starts, stop, shallow) (begun, before, (k, l, is, level, high)) = elim (cases_lt at to) [
  | inl h ↦ let room : to < length ks = inside ks to k is in no_more start limit ks at to h (omega arith) stop begun
  | inr h ↦ not_deep start limit ks to (at + 1) (omega arith) shallow (begun, before, (k, l, is, level, high))
]

pub one_stop : (start : Rule) (limit : ℕ) (ks : List Kind) (at to : ℕ) → IsSyntax start limit ks at → IsSyntax start limit ks to → at ≡ to
one_stop start limit ks at to (within, starts, stop, shallow) (inside_too, begun, other, calm) = elim (order at to) [
  | inl h ↦ absurd (no_more start limit ks at to h inside_too stop begun)
  | inr (inl h) ↦ h
  | inr (inr h) ↦ absurd (no_more start limit ks to at h within other starts)
]

pub one_depth : (start : Rule) (limit : ℕ) (ks : List Kind) (at to : ℕ) → IsTooDeep start limit ks at → IsTooDeep start limit ks to → at ≡ to
one_depth start limit ks at to (starts, before, deep) (begun, calm, deeper) = elim (order at to) [
  | inl h ↦ absurd (not_deep start limit ks at to h calm (starts, before, deep))
  | inr (inl h) ↦ h
  | inr (inr h) ↦ absurd (not_deep start limit ks to at h before (begun, calm, deeper))
]
