-- The order of the alternatives and the look at the next token leave out no text.
use Rattle.std.specs.Prelude.{not, if◌then◌else◌}
use Rattle.std.specs.List.{list_any, list_all}
use Rattle.std.proofs.Common.{◌≡◌, refl, ap, ◌∙◌, subst, Bool, true, false, ◌&&◌, ◌||◌, Option, Some, None, List, [], ◌∷◌, ◌++◌}
use Rattle.lq_text_grammar.specs.declared.kind.Kind.{Kind}
use Rattle.lq_text_grammar.specs.declared.rule.Rule.{Rule}
use Rattle.lq_text_grammar.specs.declared.rule.Rule.TheVariants.{InProgram, InType, InBinding, InExpression, InPattern, InEntry, InPred}
use Rattle.lq_text_grammar.specs.declared.rule.ProgramPart.TheVariants.{Program}
use Rattle.lq_text_grammar.specs.declared.rule.TypePart.TheVariants.{WholeType}
use Rattle.lq_text_grammar.specs.declared.rule.BindingPart.TheVariants.{RecBind}
use Rattle.lq_text_grammar.specs.declared.rule.ExpressionPart.TheVariants.{Seq}
use Rattle.lq_text_grammar.specs.declared.rule.PatternPart.TheVariants.{Pattern}
use Rattle.lq_text_grammar.specs.declared.rule.EntryPart.TheVariants.{Quals}
use Rattle.lq_text_grammar.specs.declared.rule.PredPart.TheVariants.{Predicate}
use Rattle.lq_text_grammar.specs.declared.symbol.Symbol.{Symbol}
use Rattle.lq_text_grammar.specs.declared.symbol.Symbol.TheVariants.{Word, Part, Make, Leave}
use Rattle.lq_text_grammar.specs.Kinds.{same_kind}
use Rattle.lq_text_grammar.specs.Grammar.{Alternative, begins, before, otherwise, alternatives}
use Rattle.lq_text_grammar.specs.declared.symbol.Event.{Event}
use Rattle.lq_text_grammar.specs.Levels.{Way, takes, passes, way, Leads, stays, word, takes_one, passes_on, makes, leaves}
use Rattle.lq_text_grammar.specs.Reading as plain
use Rattle.lq_text_grammar.specs.Reading.{next, body_of, OneOf, this, later, skips, own_kinds, begins_one, Reads}
use Rattle.std.proofs.lemmas.List.Folds.{list_any-append}
use Rattle.lq_text_grammar.proofs.Facts.{blocks, first}
use Rattle.lq_text_grammar.proofs.SameKind.{same_kind-eq, same_kind-refl}
use Rattle.lq_text_grammar.proofs.Checked.{commits}
use Rattle.lq_text_grammar.proofs.Found.{both, either}

abbrev has : List Kind → Kind → Bool
has ks k = list_any (λ j. same_kind j k) ks

abbrev first_of : List Symbol → List Kind
first_of (Word k ∷ ss) = k ∷ []
first_of (Part y ∷ ss) = first y
first_of _ = []

-- the kinds at which an alternative is chosen
abbrev kinds_of : Alternative → List Kind
kinds_of (begins k b) = k ∷ []
kinds_of (before ks b) = ks
kinds_of (otherwise b) = first_of b

abbrev shape_well : Rule → Alternative → Bool
shape_well x (begins k b) = true
shape_well x (before ks b) = commits b && list_all (has ks) (first_of b)
shape_well x (otherwise b) = if blocks x then commits b else skips b

abbrev alternative_first : Rule → Alternative → Bool
alternative_first x a = list_all (has (first x)) (kinds_of a) && shape_well x a

-- an alternative that stands before others leaves them their tokens
abbrev leaves_kinds : Alternative → Alternative → Bool
leaves_kinds (otherwise b) c = false
leaves_kinds (begins k b) c = not (has (kinds_of c) k)
leaves_kinds (before ks b) c = list_all (λ k. not (has ks k)) (kinds_of c)

abbrev apart : List Alternative → Bool
apart [] = true
apart (a ∷ alts) = list_all (leaves_kinds a) alts && apart alts

abbrev is_skip : Way → Bool
is_skip (passes b) = skips b
is_skip _ = false

abbrev plain_well : Rule → Bool
plain_well x = list_all (alternative_first x) (alternatives x) && (apart (alternatives x) && list_all (λ k. not (is_skip (way (Some k) (alternatives x)))) (own_kinds (alternatives x)))

plain_checked : (x : Rule) → plain_well x ≡ true
plain_checked (InProgram Program) = refl
plain_checked (InProgram _) = refl
plain_checked (InType WholeType) = refl
plain_checked (InType _) = refl
plain_checked (InBinding RecBind) = refl
plain_checked (InBinding _) = refl
plain_checked (InExpression Seq) = refl
plain_checked (InExpression _) = refl
plain_checked (InPattern Pattern) = refl
plain_checked (InPattern _) = refl
plain_checked (InEntry Quals) = refl
plain_checked (InEntry _) = refl
plain_checked (InPred Predicate) = refl
plain_checked (InPred _) = refl

negated : (b : Bool) → not b ≡ true → b ≡ false
negated true e = absurd cc
negated false e = refl

all_in : (P : Kind → Bool) (ks : List Kind) (k : Kind) → list_all P ks ≡ true → has ks k ≡ true → P k ≡ true
all_in P [] k h e = absurd cc
all_in P (j ∷ ks) k h e = go (same_kind j k) refl (all_in P ks k)
  where
    p : (P j ≡ true) × (list_all P ks ≡ true)
    p = both (P j) (list_all P ks) h

    go : (t : Bool) → same_kind j k ≡ t → (list_all P ks ≡ true → has ks k ≡ true → P k ≡ true) → P k ≡ true
    go true is again = rw (← same_kind-eq j k is) p.0
    go false is again = again p.1 (either (same_kind j k) (has ks k) e is)

all_alternatives : (P : Alternative → Bool) {a : Alternative} {alts : List Alternative} → list_all P alts ≡ true → OneOf a alts → P a ≡ true
all_alternatives P {a = a} {alts = _ ∷ alts} h this = (both (P a) (list_all P alts) h).0
all_alternatives P {alts = []} h o = elim o [ ]
all_alternatives P {a = a} {alts = c ∷ alts} h (later o) = all_alternatives P ((both (P c) (list_all P alts) h).1) o

-- the alternative fits a token of this kind by a kind of its own
abbrev fits : Alternative → Kind → Bool
fits (begins j b) k = same_kind j k
fits (before ks b) k = has ks k
fits (otherwise b) k = false

-- one that doesn't fit is passed over
over_it : (k : Kind) (c : Alternative) (alts : List Alternative) (a : Alternative) → leaves_kinds c a ≡ true → fits c k ≡ false → way (Some k) (c ∷ alts) ≡ way (Some k) alts
over_it k (begins j b) alts a h e = ap (λ (t : Bool). if t then takes b else way (Some k) alts) e
over_it k (before ks b) alts a h e = ap (λ (t : Bool). if t then passes b else way (Some k) alts) e
over_it k (otherwise b) alts a h e = absurd cc

over_at_end : (c : Alternative) (alts : List Alternative) (a : Alternative) → leaves_kinds c a ≡ true → way None (c ∷ alts) ≡ way None alts
over_at_end (begins j b) alts a h = refl
over_at_end (before ks b) alts a h = refl
over_at_end (otherwise b) alts a h = absurd cc

-- an alternative that leaves another its kinds doesn't fit them
left_kind : (k : Kind) (c a : Alternative) → leaves_kinds c a ≡ true → has (kinds_of a) k ≡ true → fits c k ≡ false
left_kind k (begins j b) a h e = go (same_kind j k) refl
  where
    go : (t : Bool) → same_kind j k ≡ t → same_kind j k ≡ false
    go true is = let free : has (kinds_of a) j ≡ false = negated (has (kinds_of a) j) h in let same : has (kinds_of a) j ≡ true = rw (same_kind-eq j k is) e in absurd cc
    go false is = is
left_kind k (before ks b) a h e = negated (has ks k) (all_in (λ i. not (has ks i)) (kinds_of a) k h e)
left_kind k (otherwise b) a h e = absurd cc

-- the one that fits is chosen
way_to : (k : Kind) (a : Alternative) (w : Way) → ((others : List Alternative) → way (Some k) (a ∷ others) ≡ w) → {alts : List Alternative} → apart alts ≡ true → ((c : Alternative) → OneOf c alts → leaves_kinds c a ≡ true → fits c k ≡ false) → OneOf a alts → way (Some k) alts ≡ w
way_to k a w here {alts = _ ∷ alts} h free this = here alts
way_to k a w here {alts = []} h free o = elim o [ ]
way_to k a w here {alts = c ∷ alts} h free (later o) =
    let p = both (list_all (leaves_kinds c) alts) (apart alts) h in
    let leaves_it : leaves_kinds c a ≡ true = all_alternatives (leaves_kinds c) p.0 o in
    over_it k c alts a leaves_it (free c this leaves_it) ∙ way_to k a w here p.1 (λ d n. free d (later n)) o

way_to_end : (b : List Symbol) {alts : List Alternative} → apart alts ≡ true → OneOf (otherwise b) alts → way None alts ≡ passes b
way_to_end b h this = refl
way_to_end b {alts = c ∷ alts} h (later o) =
    let p = both (list_all (leaves_kinds c) alts) (apart alts) h in
    over_at_end c alts (otherwise b) (all_alternatives (leaves_kinds c) p.0 o) ∙ way_to_end b p.1 o

-- what the check says of a part
module _ (x : Rule) where
  firsts : list_all (alternative_first x) (alternatives x) ≡ true
  firsts = (both (list_all (alternative_first x) (alternatives x)) (apart (alternatives x) && list_all (λ k. not (is_skip (way (Some k) (alternatives x)))) (own_kinds (alternatives x))) (plain_checked x)).0

  rest_well : (apart (alternatives x) && list_all (λ k. not (is_skip (way (Some k) (alternatives x)))) (own_kinds (alternatives x))) ≡ true
  rest_well = (both (list_all (alternative_first x) (alternatives x)) (apart (alternatives x) && list_all (λ k. not (is_skip (way (Some k) (alternatives x)))) (own_kinds (alternatives x))) (plain_checked x)).1

  are_apart : apart (alternatives x) ≡ true
  are_apart = (both (apart (alternatives x)) (list_all (λ k. not (is_skip (way (Some k) (alternatives x)))) (own_kinds (alternatives x))) rest_well).0

  no_skip : (k : Kind) → has (own_kinds (alternatives x)) k ≡ true → is_skip (way (Some k) (alternatives x)) ≡ false
  no_skip k e = negated (is_skip (way (Some k) (alternatives x))) (all_in (λ i. not (is_skip (way (Some i) (alternatives x)))) (own_kinds (alternatives x)) k ((both (apart (alternatives x)) (list_all (λ i. not (is_skip (way (Some i) (alternatives x)))) (own_kinds (alternatives x))) rest_well).1) e)

  its_kinds : (a : Alternative) → OneOf a (alternatives x) → list_all (has (first x)) (kinds_of a) ≡ true
  its_kinds a o = (both (list_all (has (first x)) (kinds_of a)) (shape_well x a) (all_alternatives (alternative_first x) firsts o)).0

  its_shape : (a : Alternative) → OneOf a (alternatives x) → shape_well x a ≡ true
  its_shape a o = (both (list_all (has (first x)) (kinds_of a)) (shape_well x a) (all_alternatives (alternative_first x) firsts o)).1

-- the alternative behind a choice
found_take : (k : Kind) (alts : List Alternative) (b : List Symbol) → way (Some k) alts ≡ takes b → OneOf (begins k b) alts
found_take k [] b e = absurd cc
found_take k (otherwise c ∷ alts) b e = absurd cc
found_take k (begins j c ∷ alts) b e = go (same_kind j k) refl e (found_take k alts b)
  where
    go : (t : Bool) → same_kind j k ≡ t → (if t then takes c else way (Some k) alts) ≡ takes b → (way (Some k) alts ≡ takes b → OneOf (begins k b) alts) → OneOf (begins k b) (begins j c ∷ alts)
    go true is w again = let same : c ≡ b = cc in rw (same_kind-eq j k is, same) this
    go false is w again = later (again w)
found_take k (before ks c ∷ alts) b e = go (has ks k) e (found_take k alts b)
  where
    go : (t : Bool) → (if t then passes c else way (Some k) alts) ≡ takes b → (way (Some k) alts ≡ takes b → OneOf (begins k b) alts) → OneOf (begins k b) (before ks c ∷ alts)
    go true w again = absurd cc
    go false w again = later (again w)

abbrev Passing : List Alternative → List Symbol → Type 0
Passing alts b = (a : Alternative) × OneOf a alts × (body_of a ≡ b)

later_passing : (c : Alternative) (alts : List Alternative) (b : List Symbol) → Passing alts b → Passing (c ∷ alts) b
later_passing c alts b (a, o, e) = (a, later o, e)

found_pass : (n : Option Kind) (alts : List Alternative) (b : List Symbol) → way n alts ≡ passes b → Passing alts b
found_pass n [] b e = absurd cc
found_pass n (otherwise c ∷ alts) b e = (otherwise c, this, cc)
found_pass None (begins j c ∷ alts) b e = later_passing (begins j c) alts b (found_pass None alts b e)
found_pass None (before ks c ∷ alts) b e = later_passing (before ks c) alts b (found_pass None alts b e)
found_pass (Some k) (begins j c ∷ alts) b e = go (same_kind j k) e (found_pass (Some k) alts b)
  where
    go : (t : Bool) → (if t then takes c else way (Some k) alts) ≡ passes b → (way (Some k) alts ≡ passes b → Passing alts b) → Passing (begins j c ∷ alts) b
    go true w again = absurd cc
    go false w again = later_passing (begins j c) alts b (again w)
found_pass (Some k) (before ks c ∷ alts) b e = go (has ks k) e (found_pass (Some k) alts b)
  where
    go : (t : Bool) → (if t then passes c else way (Some k) alts) ≡ passes b → (way (Some k) alts ≡ passes b → Passing alts b) → Passing (before ks c ∷ alts) b
    go true w again = (before ks c, this, cc)
    go false w again = later_passing (before ks c) alts b (again w)

may_pass : (x : Rule) (b : List Symbol) (n : Option Kind) → way n (alternatives x) ≡ passes b → not (skips b && begins_one x n) ≡ true
may_pass x b n e = go (skips b) refl n e
  where
    go : (t : Bool) → skips b ≡ t → (m : Option Kind) → way m (alternatives x) ≡ passes b → not (t && begins_one x m) ≡ true
    go false is m f = refl
    go true is None f = refl
    go true is (Some k) f = at_kind (has (own_kinds (alternatives x)) k) refl
      where
        at_kind : (u : Bool) → has (own_kinds (alternatives x)) k ≡ u → not u ≡ true
        at_kind false v = refl
        at_kind true v = let none : is_skip (way (Some k) (alternatives x)) ≡ false = no_skip x k v in let some : is_skip (way (Some k) (alternatives x)) ≡ true = ap is_skip f ∙ is in absurd cc

pub to_plain : {ss : List Symbol} {ks : List Kind} {es : List Event} → Leads None ss ks es [] → Reads ss ks es
to_plain (stays w) = plain.over
to_plain (word k d) = plain.word k (to_plain d)
to_plain (takes_one {x = x} {k = k} b e d) = plain.part (begins k b) (found_take k (alternatives x) b e) refl (plain.word k (to_plain d))
to_plain {ks = ks} {es = es} (passes_on {x = x} {ss = ss} b e d) =
    let f = found_pass (next ks None) (alternatives x) b e in
    plain.part f.0 f.1 (rw f.2 (may_pass x b (next ks None) e)) (rw f.2 (to_plain d))
to_plain (makes d) = plain.make (to_plain d)
to_plain (leaves d) = plain.leave (to_plain d)

-- a part that blocks begins with one of its kinds
abbrev Starts : List Kind → List Kind → Type 0
Starts ks ts = (t : Kind) × (us : List Kind) × (ts ≡ t ∷ us) × (has ks t ≡ true)

wider : (ks js : List Kind) (ts : List Kind) → list_all (has js) ks ≡ true → Starts ks ts → Starts js ts
wider ks js ts h (t, us, e, i) = (t, us, e, all_in (has js) ks t h i)

subset : (ks js is : List Kind) → list_all (has js) ks ≡ true → list_all (has is) js ≡ true → list_all (has is) ks ≡ true
subset [] js is h g = refl
subset (k ∷ ks) js is h g =
    let p = both (has js k) (list_all (has js) ks) h in
    rw (all_in (has is) js k g p.0) (subset ks js is p.1 g)

-- what stands in place of a part
abbrev Placed : Rule → List Symbol → Type 0
Placed x b = (list_all (has (first x)) (first_of b) ≡ true) × (blocks x ≡ true → commits b ≡ true)

placed_as : (x : Rule) (a : Alternative) → OneOf a (alternatives x) → Placed x (body_of a)
placed_as x (begins k b) o = (its_kinds x (begins k b) o, λ h. refl)
placed_as x (before ks b) o =
    let p = both (commits b) (list_all (has ks) (first_of b)) (its_shape x (before ks b) o) in
    (subset (first_of b) ks (first x) p.1 (its_kinds x (before ks b) o), λ h. p.0)
placed_as x (otherwise b) o = (its_kinds x (otherwise b) o, λ h. rw h at (its_shape x (otherwise b) o))

placed : (x : Rule) (n : Option Kind) (b : List Symbol) → way n (alternatives x) ≡ passes b → Placed x b
placed x n b e = let f = found_pass n (alternatives x) b e in subst (Placed x) f.2 (placed_as x f.0 f.1)

has_self : (k : Kind) → has (k ∷ []) k ≡ true
has_self k = rw (same_kind-refl k) refl

starts : {x : Rule} {ss : List Symbol} {ts : List Kind} {es : List Event} → blocks x ≡ true → Leads None (Part x ∷ ss) ts es [] → Starts (first x) ts
starts {x = x} h (takes_one {k = t} {ks = ts} b e d) = (t, ts, refl, (both (has (first x) t) true (its_kinds x (begins t b) (found_take t (alternatives x) b e))).0)
starts {x = x} {ts = ts} h (passes_on (Part y ∷ b) e d) = let p = placed x (next ts None) (Part y ∷ b) e in wider (first y) (first x) ts p.0 (starts (p.1 h) d)
starts {x = x} h (passes_on (Word k ∷ b) e (word {ks = us} _ d)) = let p = placed x (Some k) (Word k ∷ b) e in wider (k ∷ []) (first x) (k ∷ us) p.0 (k, us, refl, has_self k)
starts {x = x} {ts = ts} h (passes_on [] e d) = let p = placed x (next ts None) [] e in let no_way = p.1 h in absurd cc
starts {x = x} {ts = ts} h (passes_on (Make a ∷ b) e d) = let p = placed x (next ts None) (Make a ∷ b) e in let no_way = p.1 h in absurd cc
starts {x = x} {ts = ts} h (passes_on (Leave ∷ b) e d) = let p = placed x (next ts None) (Leave ∷ b) e in let no_way = p.1 h in absurd cc

starts_body : (ss : List Symbol) {ts : List Kind} {es : List Event} (b : List Symbol) → commits b ≡ true → Leads None (b ++ ss) ts es [] → Starts (first_of b) ts
starts_body ss (Part y ∷ b) h d = starts h d
starts_body ss (Word k ∷ b) h (word {ks = us} _ d) = (k, us, refl, has_self k)
starts_body ss [] h d = absurd cc
starts_body ss (Make a ∷ b) h d = absurd cc
starts_body ss (Leave ∷ b) h d = absurd cc

neither : (a b : Bool) → (a || b) ≡ false → (a ≡ false) × (b ≡ false)
neither true b e = absurd cc
neither false b e = (refl, e)

-- a token that begins no alternative fits none
none_fits : (k : Kind) {c : Alternative} {alts : List Alternative} → has (own_kinds alts) k ≡ false → OneOf c alts → fits c k ≡ false
none_fits k {c = otherwise b} h this = refl
none_fits k {c = begins j b} {alts = _ ∷ alts} h this = (neither (same_kind j k) (has (own_kinds alts) k) h).0
none_fits k {c = before ks b} {alts = _ ∷ alts} h this = (neither (has ks k) (has (own_kinds alts) k) (rw list_any-append at h)).0
none_fits k {alts = otherwise b ∷ alts} h (later o) = none_fits k h o
none_fits k {alts = begins j b ∷ alts} h (later o) = none_fits k ((neither (same_kind j k) (has (own_kinds alts) k) h).1) o
none_fits k {alts = before ks b ∷ alts} h (later o) = none_fits k ((neither (has ks k) (has (own_kinds alts) k) (rw list_any-append at h)).1) o

by_kind : (x : Rule) {ts : List Kind} (a : Alternative) (b : List Symbol) → ((k : Kind) → has (kinds_of a) k ≡ true → (others : List Alternative) → way (Some k) (a ∷ others) ≡ passes b) → OneOf a (alternatives x) → Starts (kinds_of a) ts → way (next ts None) (alternatives x) ≡ passes b
by_kind x {ts = ts} a b here o (t, us, e, i) = rw e (way_to t a (passes b) (here t i) (are_apart x) (λ c n h. left_kind t c a h i) o)

-- the next token chooses this alternative
abbrev Chooses : Rule → List Kind → Alternative → Type 0
Chooses x ts (begins k b) = way (Some k) (alternatives x) ≡ takes b
Chooses x ts (before ks b) = way (next ts None) (alternatives x) ≡ passes b
Chooses x ts (otherwise b) = way (next ts None) (alternatives x) ≡ passes b

pub chosen : (x : Rule) (ss : List Symbol) {ts : List Kind} {es : List Event} (a : Alternative) → OneOf a (alternatives x) → not (skips (body_of a) && begins_one x (next ts None)) ≡ true → Leads None (body_of a ++ ss) ts es [] → Chooses x ts a
chosen x ss (begins k b) o g d =
    way_to k (begins k b) (takes b) (λ others. ap (λ (u : Bool). if u then takes b else way (Some k) others) (same_kind-refl k)) (are_apart x) (λ c n h. left_kind k c (begins k b) h (has_self k)) o
chosen x ss {ts = ts} (before ks b) o g d =
    let p = both (commits b) (list_all (has ks) (first_of b)) (its_shape x (before ks b) o) in
    by_kind x (before ks b) b (λ k i others. ap (λ (u : Bool). if u then passes b else way (Some k) others) i) o (wider (first_of b) ks ts p.1 (starts_body ss b p.0 d))
chosen x ss {ts = ts} (otherwise b) o g d = go (blocks x) refl
  where
    skipped : (n : Option Kind) → next ts None ≡ n → skips b ≡ true → not (skips b && begins_one x n) ≡ true → way (next ts None) (alternatives x) ≡ passes b
    skipped None is r f = rw is (way_to_end b (are_apart x) o)
    skipped (Some k) is r f =
        let f2 : not (has (own_kinds (alternatives x)) k) ≡ true = rw r at f in
        let w = way_to k (otherwise b) (passes b) (λ others. refl) (are_apart x) (λ c n h. none_fits k (negated (has (own_kinds (alternatives x)) k) f2) n) o in
        rw is w

    go : (t : Bool) → blocks x ≡ t → way (next ts None) (alternatives x) ≡ passes b
    go true is = by_kind x (otherwise b) b (λ k i others. refl) o (starts_body ss b (rw is at (its_shape x (otherwise b) o)) d)
    go false is = skipped (next ts None) refl (rw is at (its_shape x (otherwise b) o)) g

part_from : (x : Rule) {ss : List Symbol} {ts : List Kind} {es : List Event} (a : Alternative) → Chooses x ts a → Leads None (body_of a ++ ss) ts es [] → Leads None (Part x ∷ ss) ts es []
part_from x (begins k b) e (word t d) = takes_one b e d
part_from x (before ks b) e d = passes_on b e d
part_from x (otherwise b) e d = passes_on b e d

pub from_plain : {ss : List Symbol} {ks : List Kind} {es : List Event} → Reads ss ks es → Leads None ss ks es []
from_plain plain.over = stays refl
from_plain (plain.word k d) = word k (from_plain d)
from_plain (plain.part {x = x} {ss = ss} a o g d) = let e = from_plain d in part_from x a (chosen x ss a o g e) e
from_plain (plain.make d) = makes (from_plain d)
from_plain (plain.leave d) = leaves (from_plain d)
