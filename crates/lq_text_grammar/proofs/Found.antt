-- What the check of the table says of each alternative that the next token chooses.
use Rattle.std.specs.Prelude.{if◌then◌else◌}
use Rattle.std.specs.List.{list_any, list_all}
use Rattle.std.proofs.Common.{◌≡◌, ◌+◌, refl, ap, Bool, true, false, ◌&&◌, ◌||◌, Option, Some, None, List, [], ◌∷◌, ◌++◌, arith}
use Rattle.lq_text_grammar.specs.declared.kind.Kind.{Kind}
use Rattle.lq_text_grammar.specs.declared.rule.Rule.{Rule}
use Rattle.lq_text_grammar.specs.declared.symbol.Symbol.{Symbol}
use Rattle.lq_text_grammar.specs.declared.symbol.Symbol.TheVariants.{Word, Part, Make, Leave}
use Rattle.lq_text_grammar.specs.Kinds.{same_kind}
use Rattle.lq_text_grammar.specs.Grammar.{Alternative, begins, before, otherwise, alternatives}
use Rattle.lq_text_grammar.specs.Levels.{takes, passes, way}
use Rattle.lq_text_grammar.proofs.Facts.{lead, follow}
use Rattle.lq_text_grammar.proofs.SameKind.{same_next, same_next-eq, same_kind-eq}
use Rattle.lq_text_grammar.proofs.Checked.{or_next, first_then, among, fine, weigh, passes_well, takes_well, alternative_well, ends_here, follows_well, checked}

pub both : (a b : Bool) → (a && b) ≡ true → (a ≡ true) × (b ≡ true)
both true true e = (refl, refl)
both true false e = absurd cc
both false b e = absurd cc

pub either : (a b : Bool) → (a || b) ≡ true → (a ≡ false → b ≡ true)
either true b e = λ h. absurd cc
either false b e = λ h. e

all_at : (P : Option Kind → Bool) (fs : List (Option Kind)) (f : Option Kind) → list_all P fs ≡ true → among f fs ≡ true → P f ≡ true
all_at P [] f h e = absurd cc
all_at P (g ∷ fs) f h e = go (same_next f g) refl (all_at P fs f)
  where
    p : (P g ≡ true) × (list_all P fs ≡ true)
    p = both (P g) (list_all P fs) h

    go : (t : Bool) → same_next f g ≡ t → (list_all P fs ≡ true → among f fs ≡ true → P f ≡ true) → P f ≡ true
    go true is again = rw (same_next-eq f g is) p.0
    go false is again = again p.1 (either (same_next f g) (among f fs) e is)

take_at : (P : Alternative → Bool) (k : Kind) (alts : List Alternative) (b : List Symbol) → way (Some k) alts ≡ takes b → list_all P alts ≡ true → P (begins k b) ≡ true
take_at P k [] b e h = absurd cc
take_at P k (otherwise c ∷ alts) b e h = absurd cc
take_at P k (begins j c ∷ alts) b e h = go (same_kind j k) refl e (take_at P k alts b)
  where
    p : (P (begins j c) ≡ true) × (list_all P alts ≡ true)
    p = both (P (begins j c)) (list_all P alts) h

    go : (t : Bool) → same_kind j k ≡ t → (if t then takes c else way (Some k) alts) ≡ takes b → (way (Some k) alts ≡ takes b → list_all P alts ≡ true → P (begins k b) ≡ true) → P (begins k b) ≡ true
    go true is w again = let same : c ≡ b = cc in rw (← same_kind-eq j k is, ← same) p.0
    go false is w again = again w p.1
take_at P k (before js c ∷ alts) b e h = go (list_any (λ j. same_kind j k) js) e (take_at P k alts b)
  where
    p : (P (before js c) ≡ true) × (list_all P alts ≡ true)
    p = both (P (before js c)) (list_all P alts) h

    go : (t : Bool) → (if t then passes c else way (Some k) alts) ≡ takes b → (way (Some k) alts ≡ takes b → list_all P alts ≡ true → P (begins k b) ≡ true) → P (begins k b) ≡ true
    go true w again = absurd cc
    go false w again = again w p.1

module _ (P : Alternative → Bool) (R : List Symbol → Bool) (at_before : (ks : List Kind) (b : List Symbol) → P (before ks b) ≡ R b) (at_otherwise : (b : List Symbol) → P (otherwise b) ≡ R b) where
  pass_at : (n : Option Kind) (alts : List Alternative) (b : List Symbol) → way n alts ≡ passes b → list_all P alts ≡ true → R b ≡ true
  pass_at n [] b e h = absurd cc
  pass_at n (otherwise c ∷ alts) b e h = let same : c ≡ b = cc in rw (← same, ← at_otherwise c) ((both (P (otherwise c)) (list_all P alts) h).0)
  pass_at None (begins j c ∷ alts) b e h = pass_at None alts b e ((both (P (begins j c)) (list_all P alts) h).1)
  pass_at None (before js c ∷ alts) b e h = pass_at None alts b e ((both (P (before js c)) (list_all P alts) h).1)
  pass_at (Some k) (begins j c ∷ alts) b e h = go (same_kind j k) e (pass_at (Some k) alts b)
    where
      p : (P (begins j c) ≡ true) × (list_all P alts ≡ true)
      p = both (P (begins j c)) (list_all P alts) h

      go : (t : Bool) → (if t then takes c else way (Some k) alts) ≡ passes b → (way (Some k) alts ≡ passes b → list_all P alts ≡ true → R b ≡ true) → R b ≡ true
      go true w again = absurd cc
      go false w again = again w p.1
  pass_at (Some k) (before js c ∷ alts) b e h = go (list_any (λ j. same_kind j k) js) e (pass_at (Some k) alts b)
    where
      p : (P (before js c) ≡ true) × (list_all P alts ≡ true)
      p = both (P (before js c)) (list_all P alts) h

      go : (t : Bool) → (if t then passes c else way (Some k) alts) ≡ passes b → (way (Some k) alts ≡ passes b → list_all P alts ≡ true → R b ≡ true) → R b ≡ true
      go true w again = let same : c ≡ b = cc in rw (← same, ← at_before js c) p.0
      go false w again = again w p.1

followed : (x : Rule) (f : Option Kind) → among f (follow x) ≡ true → follows_well x f ≡ true
followed x f h = all_at (follows_well x) (follow x) f (checked x) h

pub takes_found : (x : Rule) (f : Option Kind) (k : Kind) (b : List Symbol) → among f (follow x) ≡ true → way (Some k) (alternatives x) ≡ takes b → takes_well x f k b ≡ true
takes_found x f k b h e = take_at (alternative_well x f) k (alternatives x) b e ((both (list_all (alternative_well x f) (alternatives x)) (ends_here x f (or_next (lead x) f)) (followed x f h)).0)

pub passes_found : (x : Rule) (f n : Option Kind) (b : List Symbol) → among f (follow x) ≡ true → way n (alternatives x) ≡ passes b → passes_well x f b ≡ true
passes_found x f n b h e = pass_at (alternative_well x f) (passes_well x f) (λ ks c. refl) (λ c. refl) n (alternatives x) b e ((both (list_all (alternative_well x f) (alternatives x)) (ends_here x f (or_next (lead x) f)) (followed x f h)).0)

pub ends_found : (x : Rule) (f : Option Kind) → among f (follow x) ≡ true → ends_here x f (or_next (lead x) f) ≡ true
ends_found x f h = (both (list_all (alternative_well x f) (alternatives x)) (ends_here x f (or_next (lead x) f)) (followed x f h)).1

pub first_then-append : (b ss : List Symbol) (f : Option Kind) → first_then (b ++ ss) f ≡ first_then b (first_then ss f)
first_then-append [] ss f = refl
first_then-append (Word k ∷ b) ss f = refl
first_then-append (Part x ∷ b) ss f = ap (or_next (lead x)) (first_then-append b ss f)
first_then-append (Make a ∷ b) ss f = first_then-append b ss f
first_then-append (Leave ∷ b) ss f = first_then-append b ss f

pub fine-append : (b ss : List Symbol) (f : Option Kind) → fine b (first_then ss f) ≡ true → fine ss f ≡ true → fine (b ++ ss) f ≡ true
fine-append [] ss f h g = g
fine-append (Word k ∷ b) ss f h g = fine-append b ss f h g
fine-append (Part x ∷ b) ss f h g =
    let p = both (among (first_then b (first_then ss f)) (follow x)) (fine b (first_then ss f)) h in
    rw (first_then-append b ss f, p.0) (fine-append b ss f p.1 g)
fine-append (Make a ∷ b) ss f h g = fine-append b ss f h g
fine-append (Leave ∷ b) ss f h g = fine-append b ss f h g

pub weigh-append : (b ss : List Symbol) → weigh (b ++ ss) ≡ weigh b + weigh ss
weigh-append [] ss = omega arith
weigh-append (Word k ∷ b) ss = omega (arith, weigh-append b ss)
weigh-append (Part x ∷ b) ss = omega (arith, weigh-append b ss)
weigh-append (Make a ∷ b) ss = omega (arith, weigh-append b ss)
weigh-append (Leave ∷ b) ss = omega (arith, weigh-append b ss)
