-- The sorts and levels of the values along the symbols that are still to be read.
use Rattle.std.specs.Prelude.{eqb, if◌then◌else◌, map, min}
use Rattle.std.proofs.Common.{◌≡◌, ℕ, suc, zero, ◌+◌, ◌≤◌, refl, ap, Bool, true, false, Option, Some, None, List, [], ◌∷◌, ◌++◌, arith}
use Rattle.lq_text_grammar.specs.declared.kind.Kind.{Kind}
use Rattle.lq_text_grammar.specs.declared.symbol.Symbol.{Symbol}
use Rattle.lq_text_grammar.specs.declared.symbol.Symbol.TheVariants.{Word, Part, Make, Leave}
use Rattle.lq_text_grammar.specs.Kinds as kinds
use Rattle.lq_text_grammar.specs.Levels.{depth}
use Rattle.lq_text_actions.proofs.Sorts.{Sort, same_sort, Step, beside, below, Need, After, anything, a_token, a_named_token, a_number, a_limit_number, Signature}
use Rattle.lq_text_actions.proofs.Signatures.{signature, action_signature}

-- the sort of a value, and its level: what its trees nest and the level are together at most the limit and 1
pub data Slot : Type 0 where
  slot : Sort → ℕ → Slot

-- the token taken last, where no part has been read since
pub data Last : Type 0 where
  unknown : Last
  other : Last
  name : Last
  number : Last
  limit_number : Last

abbrev last_at : ℕ → Last
last_at c =
    if eqb c 20 then name
    else if eqb c 21 then name
    else if eqb c 22 then name
    else if eqb c 23 then number
    else if eqb c 24 then limit_number
    else other

abbrev pub last_of : Kind → Last
last_of k = last_at (kinds.code k)

abbrev pub follows : After → Last → Bool
follows anything l = true
follows a_token unknown = false
follows a_token l = true
follows a_named_token name = true
follows a_named_token l = false
follows a_number number = true
follows a_number l = false
follows a_limit_number number = true
follows a_limit_number limit_number = true
follows a_limit_number l = false

abbrev pub paid : Step → ℕ → ℕ
paid beside e = suc e
paid below e = e

pub data Pulled : Type 0 where
  lacks : Pulled
  pulled : ℕ → List Slot → Pulled

-- the least level of those that are needed and of m, and what is left
abbrev pub pull : List Need → ℕ → List Slot → Pulled
pull [] m s = pulled m s
pull (n ∷ ns) m [] = lacks
pull (n ∷ ns) m (slot j zero ∷ s) = lacks
pull (n ∷ ns) m (slot j (suc e) ∷ s) = if same_sort n.sort j then pull ns (min m (paid n.step e)) s else lacks

abbrev pub put : List Sort → ℕ → List Slot → List Slot
put [] e s = s
put (j ∷ js) e s = slot j e ∷ put js e s

abbrev pub put_pulled : List Sort → Pulled → Option (List Slot)
put_pulled gs lacks = None
put_pulled gs (pulled zero s) = None
put_pulled gs (pulled (suc e) s) = Some (put gs (suc e) s)

abbrev pub use_of : Step → List Need → List Sort → ℕ → List Slot → Option (List Slot)
use_of c ns gs d s = put_pulled gs (pull ns (paid c d) s)

abbrev pub all_needs : Step → List Sort → List Need
all_needs c = map (λ j. record { sort = j; step = c })

abbrev pub part_use : Option Signature → ℕ → List Slot → Option (List Slot)
part_use None d s = None
part_use (Some g) d s = use_of g.step (all_needs g.step g.needs) g.gives d s

pub data Flow : Type 0 where
  stuck : Flow
  ends : Last → List Slot → Flow

abbrev pub goes_on : Option (List Slot) → (List Slot → Flow) → Flow
goes_on None f = stuck
goes_on (Some s) f = f s

-- the last token and the values behind these symbols, where d levels are open around them
abbrev pub flow : ℕ → List Symbol → Last → List Slot → Flow
flow d [] l s = ends l s
flow d (Word k ∷ ss) l s = flow d ss (last_of k) s
flow d (Part x ∷ ss) l s = goes_on (part_use (signature x) (depth ss + d) s) (flow d ss unknown)
flow d (Make a ∷ ss) l s =
    if follows (action_signature a).after l
    then goes_on (use_of beside (action_signature a).needs ((action_signature a).gives ∷ []) (depth ss + d) s) (flow d ss l)
    else stuck
flow d (Leave ∷ ss) l s = flow d ss l s

-- the same sorts with levels that are greater by k, and r behind them
abbrev pub Above : ℕ → List Slot → List Slot → List Slot → Type 0
Above k r [] t = t ≡ r
Above k r (x ∷ s) [] = ⊥
Above k r (slot i e ∷ s) (slot j f ∷ t) = (i ≡ j) × (e + k ≤ f) × Above k r s t

abbrev pub Vaguer : Last → Last → Type 0
Vaguer unknown m = Unit {0}
Vaguer l m = l ≡ m

follows-vaguer : (a : After) (l m : Last) → Vaguer l m → follows a l ≡ true → follows a m ≡ true
follows-vaguer anything l m v e = refl
follows-vaguer a_token unknown m v e = absurd cc
follows-vaguer a_named_token unknown m v e = absurd cc
follows-vaguer a_number unknown m v e = absurd cc
follows-vaguer a_limit_number unknown m v e = absurd cc
follows-vaguer a other m v e = rw (← v) e
follows-vaguer a name m v e = rw (← v) e
follows-vaguer a number m v e = rw (← v) e
follows-vaguer a limit_number m v e = rw (← v) e

paid-more : (c : Step) (e f k : ℕ) → e + k ≤ f → paid c e + k ≤ paid c f
paid-more beside e f k h = omega arith
paid-more below e f k h = h

one-less : (x k y : ℕ) → suc x + k ≤ suc y → x + k ≤ y
one-less x k y h = omega arith

min-more : (a b c d k : ℕ) → a + k ≤ c → b + k ≤ d → min a b + k ≤ min c d
min-more a b c d k h g = omega arith

abbrev PullsAbove : ℕ → List Slot → ℕ → List Slot → Pulled → Type 0
PullsAbove k r e t p = (f : ℕ) × (u : List Slot) × (p ≡ pulled f u) × (e + k ≤ f) × Above k r t u

pull-above : (ns : List Need) (m m' k : ℕ) (s s' r : List Slot) (e : ℕ) (t : List Slot) → m + k ≤ m' → Above k r s s' → pull ns m s ≡ pulled e t → PullsAbove k r e t (pull ns m' s')
pull-above [] m m' k s s' r e t small h q =
    let at : m ≡ e = cc in
    let is : s ≡ t = cc in
    (m', s', refl, rw (← at) small, rw (← is) h)
pull-above (n ∷ ns) m m' k [] s' r e t small h q = absurd cc
pull-above (n ∷ ns) m m' k (slot j zero ∷ s) s' r e t small h q = absurd cc
pull-above (n ∷ ns) m m' k (slot j (suc x) ∷ s) [] r e t small h q = absurd h
pull-above (n ∷ ns) m m' k (slot j (suc x) ∷ s) (slot i zero ∷ s') r e t small h q = let no : suc x + k ≤ zero = h.1 in absurd (omega arith)
pull-above (n ∷ ns) m m' k (slot j (suc x) ∷ s) (slot i (suc y) ∷ s') r e t small h q =
    go (same_sort n.sort j) refl q (pull-above ns (min m (paid n.step x)) (min m' (paid n.step y)) k s s' r e t least h.2)
  where
    least : min m (paid n.step x) + k ≤ min m' (paid n.step y)
    least = min-more m (paid n.step x) m' (paid n.step y) k small (paid-more n.step x y k (one-less x k y h.1))

    go : (b : Bool) → same_sort n.sort j ≡ b → (if b then pull ns (min m (paid n.step x)) s else lacks) ≡ pulled e t → (pull ns (min m (paid n.step x)) s ≡ pulled e t → PullsAbove k r e t (pull ns (min m' (paid n.step y)) s')) → PullsAbove k r e t (pull (n ∷ ns) m' (slot i (suc y) ∷ s'))
    go true is w again = rw (← h.0, is) (again w)
    go false is w again = absurd cc

put-above : (gs : List Sort) (e f k : ℕ) (s s' r : List Slot) → e + k ≤ f → Above k r s s' → Above k r (put gs e s) (put gs f s')
put-above [] e f k s s' r small h = h
put-above (g ∷ gs) e f k s s' r small h = (refl, small, put-above gs e f k s s' r small h)

abbrev UsesAbove : ℕ → List Slot → List Slot → Option (List Slot) → Type 0
UsesAbove k r t o = (u : List Slot) × (o ≡ Some u) × Above k r t u

puts-above : (gs : List Sort) (e k f : ℕ) (s s' r : List Slot) (p : Pulled) → p ≡ pulled f s' → suc e + k ≤ f → Above k r s s' → UsesAbove k r (put gs (suc e) s) (put_pulled gs p)
puts-above gs e k zero s s' r p is small h = absurd (omega arith)
puts-above gs e k (suc f) s s' r p is small h = (put gs (suc f) s', ap (put_pulled gs) is, put-above gs (suc e) (suc f) k s s' r small h)

use-above : (c : Step) (ns : List Need) (gs : List Sort) (d d' k : ℕ) (s s' r t : List Slot) → d + k ≤ d' → Above k r s s' → use_of c ns gs d s ≡ Some t → UsesAbove k r t (use_of c ns gs d' s')
use-above c ns gs d d' k s s' r t small h q = go (pull ns (paid c d) s) refl q
  where
    go : (p : Pulled) → pull ns (paid c d) s ≡ p → put_pulled gs p ≡ Some t → UsesAbove k r t (use_of c ns gs d' s')
    go lacks at w = absurd cc
    go (pulled zero u) at w = absurd cc
    go (pulled (suc e) u) at w =
        let same : put gs (suc e) u ≡ t = cc in
        let a = pull-above ns (paid c d) (paid c d') k s s' r (suc e) u (paid-more c d d' k small) h at in
        rw (← same) (puts-above gs e k a.0 u a.1 r (pull ns (paid c d') s') a.2 a.3 a.4)

part-above : (g : Option Signature) (d d' k : ℕ) (s s' r t : List Slot) → d + k ≤ d' → Above k r s s' → part_use g d s ≡ Some t → UsesAbove k r t (part_use g d' s')
part-above None d d' k s s' r t small h q = absurd cc
part-above (Some g) d d' k s s' r t small h q = use-above g.step (all_needs g.step g.needs) g.gives d d' k s s' r t small h q

-- what goes on, taken apart
pub goes_on-ends : (o : Option (List Slot)) (f : List Slot → Flow) (l : Last) (t : List Slot) → goes_on o f ≡ ends l t → (u : List Slot) × (o ≡ Some u) × (f u ≡ ends l t)
goes_on-ends None f l t q = absurd cc
goes_on-ends (Some u) f l t q = (u, refl, q)

pub if-ends : (b : Bool) (w : Flow) (l : Last) (t : List Slot) → (if b then w else stuck) ≡ ends l t → (b ≡ true) × (w ≡ ends l t)
if-ends true w l t q = (refl, q)
if-ends false w l t q = absurd cc

abbrev pub FlowsAbove : ℕ → List Slot → Last → List Slot → Flow → Type 0
FlowsAbove k r l t w = (m : Last) × (u : List Slot) × (w ≡ ends m u) × Vaguer l m × Above k r t u

pub vaguer-same : (l : Last) → Vaguer l l
vaguer-same unknown = tt
vaguer-same other = refl
vaguer-same name = refl
vaguer-same number = refl
vaguer-same limit_number = refl

-- greater levels go in, greater levels come out
pub flow-above : (b : List Symbol) (d d' k : ℕ) (l l' : Last) (s s' r : List Slot) (m : Last) (t : List Slot) → d + k ≤ d' → Vaguer l l' → Above k r s s' → flow d b l s ≡ ends m t → FlowsAbove k r m t (flow d' b l' s')
flow-above [] d d' k l l' s s' r m t small v h q =
    let at : l ≡ m = cc in
    let is : s ≡ t = cc in
    (l', s', refl, rw (← at) v, rw (← is) h)
flow-above (Word j ∷ b) d d' k l l' s s' r m t small v h q = flow-above b d d' k (last_of j) (last_of j) s s' r m t small (vaguer-same (last_of j)) h q
flow-above (Part x ∷ b) d d' k l l' s s' r m t small v h q =
    let p = goes_on-ends (part_use (signature x) (depth b + d) s) (flow d b unknown) m t q in
    let deep : (depth b + d) + k ≤ depth b + d' = omega arith in
    let a = part-above (signature x) (depth b + d) (depth b + d') k s s' r p.0 deep h p.1 in
    rw a.1 (flow-above b d d' k unknown unknown p.0 a.0 r m t small tt a.2 p.2)
flow-above (Make a ∷ b) d d' k l l' s s' r m t small v h q =
    let g = action_signature a in
    let f = if-ends (follows g.after l) (goes_on (use_of beside g.needs (g.gives ∷ []) (depth b + d) s) (flow d b l)) m t q in
    let p = goes_on-ends (use_of beside g.needs (g.gives ∷ []) (depth b + d) s) (flow d b l) m t f.1 in
    let deep : (depth b + d) + k ≤ depth b + d' = omega arith in
    let u = use-above beside g.needs (g.gives ∷ []) (depth b + d) (depth b + d') k s s' r p.0 deep h p.1 in
    rw (follows-vaguer g.after l l' v f.0, u.1) (flow-above b d d' k l l' p.0 u.0 r m t small v u.2 p.2)
flow-above (Leave ∷ b) d d' k l l' s s' r m t small v h q = flow-above b d d' k l l' s s' r m t small v h q

depth-append : (b ss : List Symbol) → depth (b ++ ss) ≡ depth b + depth ss
depth-append [] ss = omega arith
depth-append (Word k ∷ b) ss = depth-append b ss
depth-append (Part x ∷ b) ss = depth-append b ss
depth-append (Make a ∷ b) ss = depth-append b ss
depth-append (Leave ∷ b) ss = omega (arith, depth-append b ss)

-- first these, then those
pub flow-append : (b ss : List Symbol) (d : ℕ) (l : Last) (s : List Slot) (m : Last) (t : List Slot) → flow (depth ss + d) b l s ≡ ends m t → flow d (b ++ ss) l s ≡ flow d ss m t
flow-append [] ss d l s m t q =
    let at : l ≡ m = cc in
    let is : s ≡ t = cc in
    rw (at, is) refl
flow-append (Word k ∷ b) ss d l s m t q = flow-append b ss d (last_of k) s m t q
flow-append (Part x ∷ b) ss d l s m t q =
    let p = goes_on-ends (part_use (signature x) (depth b + (depth ss + d)) s) (flow (depth ss + d) b unknown) m t q in
    let deep : depth (b ++ ss) + d ≡ depth b + (depth ss + d) = omega (arith, depth-append b ss) in
    rw (deep, p.1) (flow-append b ss d unknown p.0 m t p.2)
flow-append (Make a ∷ b) ss d l s m t q =
    let g = action_signature a in
    let f = if-ends (follows g.after l) (goes_on (use_of beside g.needs (g.gives ∷ []) (depth b + (depth ss + d)) s) (flow (depth ss + d) b l)) m t q in
    let p = goes_on-ends (use_of beside g.needs (g.gives ∷ []) (depth b + (depth ss + d)) s) (flow (depth ss + d) b l) m t f.1 in
    let deep : depth (b ++ ss) + d ≡ depth b + (depth ss + d) = omega (arith, depth-append b ss) in
    rw (f.0, deep, p.1) (flow-append b ss d l p.0 m t p.2)
flow-append (Leave ∷ b) ss d l s m t q = flow-append b ss d l s m t q
