-- Readings in the shape of trees, with what they make, and what may be said of each part.
use Rattle.std.specs.Prelude.{map, not}
use Rattle.std.specs.List.{list_any}
use Rattle.std.proofs.Common.{◌≡◌, ℕ, refl, Bool, true, false, ◌&&◌, ◌||◌, Option, Some, None, List, [], ◌∷◌, ◌++◌, ◌⊎◌, inl, inr}
use Rattle.lq_text_grammar.specs.Grammar.{Alternative, alternatives}
use Rattle.lq_text_grammar.specs.Kinds.{same_kind}
use Rattle.lq_text_grammar.specs.Reading as reading
use Rattle.lq_text_grammar.specs.Reading.{Reads, OneOf, this, later, body_of, skips, own_kinds, next, begins_one}
use Rattle.lq_text_grammar.specs.declared.kind.Kind.{Kind}
use Rattle.lq_text_grammar.specs.declared.rule.Rule.{Rule}
use Rattle.lq_text_grammar.specs.declared.symbol.Action.{Action}
use Rattle.lq_text_grammar.specs.declared.symbol.Event.{Event}
use Rattle.lq_text_grammar.specs.declared.symbol.Event.TheVariants as event
use Rattle.lq_text_grammar.specs.declared.symbol.Symbol.{Symbol}
use Rattle.lq_text_grammar.specs.declared.symbol.Symbol.TheVariants.{Word, Part, Make, Leave}
use Rattle.lq_text_actions.specs.Made.{made}
use Rattle.lq_text_actions.specs.Trees.{run, and_then}
use Rattle.lq_text_actions.specs.Value.{Lexeme, Value, Making}
use Rattle.lq_text_parser.specs.Syntax.Tokens.{Token, kind_of, lexeme_of, Is, Stops}

-- what is left of the tokens, the token taken last, and what has been made
pub record State : Type 0 where
  pub tokens : List Token
  pub last : Lexeme
  pub nodes : ℕ
  pub values : List Value

abbrev pub state : List Token → Lexeme → ℕ → List Value → State
state ts l n vs = record { tokens = ts; last = l; nodes = n; values = vs }

abbrev pub making_of : State → Making
making_of s = record { made = s.nodes; values = s.values }

abbrev pub with_making : State → Making → State
with_making s m = state s.tokens s.last m.made m.values

abbrev pub Take : Kind → List Token → (Token → List Token → Type 0) → Type 0
Take k [] f = ⊥
Take k (t ∷ ts) f = Is k t × f t ts

abbrev pub After : Option Making → (Making → Type 0) → Type 0
After None f = ⊥
After (Some m) f = f m

abbrev pub OrStops : Bool → List Kind → List Token → Type 0
OrStops true ks ts = Stops ks ts
OrStops false ks ts = Unit {0}

-- what is said of a part where it is read from a state on, and K is said of the state behind it
abbrev pub Meaning : Type 1
Meaning = Rule → State → (State → Type 0) → Type 0

module _ (M : Meaning) where
  abbrev pub Body : List Symbol → State → (State → Type 0) → Type 0
  Body [] s K = K s
  Body (Word k ∷ ss) s K = Take k s.tokens (λ t us. Body ss (state us (lexeme_of t) s.nodes s.values) K)
  Body (Part x ∷ ss) s K = M x s (λ r. Body ss r K)
  Body (Make a ∷ ss) s K = After (made a s.last (making_of s)) (λ m. Body ss (with_making s m) K)
  Body (Leave ∷ ss) s K = Body ss s K

  abbrev pub OneHolds : List Kind → List Alternative → State → (State → Type 0) → Type 0
  OneHolds ks [] s K = ⊥
  OneHolds ks (a ∷ others) s K = (OrStops (skips (body_of a)) ks s.tokens × Body (body_of a) s K) ⊎ OneHolds ks others s K

  abbrev pub Unfolded : Meaning
  Unfolded x s K = OneHolds (own_kinds (alternatives x)) (alternatives x) s K

pub data Does : List Symbol → State → State → Type 0 where
  over : {s : State} → Does [] s s
  word : {k : Kind} {ss : List Symbol} {s r : State} (t : Token) (us : List Token) → s.tokens ≡ t ∷ us → Is k t → Does ss (state us (lexeme_of t) s.nodes s.values) r → Does (Word k ∷ ss) s r
  part : {x : Rule} {ss : List Symbol} {s q r : State} (a : Alternative) → OneOf a (alternatives x) → OrStops (skips (body_of a)) (own_kinds (alternatives x)) s.tokens → Does (body_of a) s q → Does ss q r → Does (Part x ∷ ss) s r
  make : {a : Action} {ss : List Symbol} {s r : State} (m : Making) → made a s.last (making_of s) ≡ Some m → Does ss (with_making s m) r → Does (Make a ∷ ss) s r
  leave : {ss : List Symbol} {s r : State} → Does ss s r → Does (Leave ∷ ss) s r

-- what is said of each part and follows from the parts of its alternatives holds of all readings
module _ (M : Meaning) (closed : (x : Rule) (s : State) (K : State → Type 0) → Unfolded M x s K → M x s K) where
  choose : (ks : List Kind) (s : State) (K : State → Type 0) {a : Alternative} {cs : List Alternative} → OneOf a cs → OrStops (skips (body_of a)) ks s.tokens → Body M (body_of a) s K → OneHolds M ks cs s K
  choose ks s K this g b = inl (g, b)
  choose ks s K (later o) g b = inr (choose ks s K o g b)

  pub does-sound : {ss : List Symbol} {s r : State} → Does ss s r → (K : State → Type 0) → K r → Body M ss s K
  does-sound over K k = k
  does-sound (word t us e i d) K k = rw e (i, does-sound d K k)
  does-sound (part {x = x} {ss = ss} {s = s} a o g d f) K k =
      closed x s (λ q. Body M ss q K) (choose (own_kinds (alternatives x)) s (λ q. Body M ss q K) o g (does-sound d (λ q. Body M ss q K) (does-sound f K k)))
  does-sound (make m e d) K k = rw e (does-sound d K k)
  does-sound (leave d) K k = does-sound d K k

-- the part can be read so that K holds behind it
pub record Can (x : Rule) (s : State) (K : State → Type 0) : Type 0 where
  pub behind : State
  pub does : Does (Part x ∷ []) s behind
  pub holds : K behind

abbrev CanAll : List Symbol → State → (State → Type 0) → Type 0
CanAll b s K = (r : State) × Does b s r × K r

joined : {x : Rule} {b : List Symbol} {s q r : State} → Does (Part x ∷ []) s q → Does b q r → Does (Part x ∷ b) s r
joined (part a o g d over) e = part a o g d e

body-does : (b : List Symbol) (s : State) (K : State → Type 0) → Body Can b s K → CanAll b s K
body-does [] s K k = (s, over, k)
body-does (Word k ∷ b) s K h = go s.tokens refl h (λ t us. body-does b (state us (lexeme_of t) s.nodes s.values) K)
  where
    go : (ts : List Token) → s.tokens ≡ ts → Take k ts (λ t us. Body Can b (state us (lexeme_of t) s.nodes s.values) K) → ((t : Token) (us : List Token) → Body Can b (state us (lexeme_of t) s.nodes s.values) K → CanAll b (state us (lexeme_of t) s.nodes s.values) K) → CanAll (Word k ∷ b) s K
    go [] e w f = absurd w
    go (t ∷ us) e w f = let n = f t us w.1 in (n.0, word t us e w.0 n.1, n.2)
body-does (Part x ∷ b) s K h = let n = body-does b h.behind K h.holds in (n.0, joined h.does n.1, n.2)
body-does (Make a ∷ b) s K h = go (made a s.last (making_of s)) refl h (λ m. body-does b (with_making s m) K)
  where
    go : (o : Option Making) → made a s.last (making_of s) ≡ o → After o (λ m. Body Can b (with_making s m) K) → ((m : Making) → Body Can b (with_making s m) K → CanAll b (with_making s m) K) → CanAll (Make a ∷ b) s K
    go None e w f = absurd w
    go (Some m) e w f = let n = f m w in (n.0, make m e n.1, n.2)
body-does (Leave ∷ b) s K h = let n = body-does b s K h in (n.0, leave n.1, n.2)

pub can : (x : Rule) (s : State) (K : State → Type 0) → Unfolded Can x s K → Can x s K
can x s K h = find (alternatives x) (λ a o. o) h
  where
    find : (cs : List Alternative) → ((a : Alternative) → OneOf a cs → OneOf a (alternatives x)) → OneHolds Can (own_kinds (alternatives x)) cs s K → Can x s K
    find [] all w = absurd w
    find (a ∷ cs) all (inl w) = let n = body-does (body_of a) s K w.1 in record { behind = n.0; does = part a (all a this) w.0 n.1 over; holds = n.2 }
    find (a ∷ cs) all (inr w) = find cs (λ c o. all c (later o)) w

-- ---- from readings and their steps, and back

any-none : (ks : List Kind) (t : Token) (ts : List Token) → Stops ks (t ∷ ts) → list_any (λ j. same_kind j t.kind) ks ≡ false
any-none [] t ts h = refl
any-none (k ∷ ks) t ts h = rw h.0 (any-none ks t ts h.1)

or-false : (a b : Bool) → (a || b) ≡ false → (a ≡ false) × (b ≡ false)
or-false true b e = absurd cc
or-false false b e = (refl, e)

none-any : (ks : List Kind) (t : Token) (ts : List Token) → list_any (λ j. same_kind j t.kind) ks ≡ false → Stops ks (t ∷ ts)
none-any [] t ts h = tt
none-any (k ∷ ks) t ts h = let p = or-false (same_kind k t.kind) (list_any (λ j. same_kind j t.kind) ks) h in (p.0, none-any ks t ts p.1)

stops-at-end : (ks : List Kind) → Stops ks []
stops-at-end [] = tt
stops-at-end (k ∷ ks) = (tt, stops-at-end ks)

not-true : (b : Bool) → not b ≡ true → b ≡ false
not-true true e = absurd cc
not-true false e = refl

guard-in : (b : Bool) (x : Rule) (ts : List Token) → not (b && begins_one x (next (map kind_of ts) None)) ≡ true → OrStops b (own_kinds (alternatives x)) ts
guard-in false x ts g = tt
guard-in true x [] g = stops-at-end (own_kinds (alternatives x))
guard-in true x (t ∷ ts) g = none-any (own_kinds (alternatives x)) t ts (not-true (begins_one x (Some t.kind)) g)

guard-out : (b : Bool) (x : Rule) (ts : List Token) → OrStops b (own_kinds (alternatives x)) ts → not (b && begins_one x (next (map kind_of ts) None)) ≡ true
guard-out false x ts g = refl
guard-out true x [] g = refl
guard-out true x (t ∷ ts) g = rw (any-none (own_kinds (alternatives x)) t ts g) refl

split : (b : List Symbol) {ss : List Symbol} {s r : State} → Does (b ++ ss) s r → (q : State) × Does b s q × Does ss q r
split [] {s = s} d = (s, over, d)
split (Word k ∷ b) (word t us e i d) = let n = split b d in (n.0, word t us e i n.1, n.2)
split (Part x ∷ b) (part a o g d f) = let n = split b f in (n.0, part a o g d n.1, n.2)
split (Make a ∷ b) (make m e d) = let n = split b d in (n.0, make m e n.1, n.2)
split (Leave ∷ b) (leave d) = let n = split b d in (n.0, leave n.1, n.2)

abbrev pub Done : List Symbol → State → Making → Type 0
Done ss s m = (r : State) × Does ss s r × (r.tokens ≡ []) × (making_of r ≡ m)

abbrev pub Steps : List Event → State → Option Making
Steps es s = run es (map lexeme_of s.tokens) s.last (making_of s)

no-tokens : (ts : List Token) → map kind_of ts ≡ [] → ts ≡ []
no-tokens [] e = refl
no-tokens (t ∷ ts) e = absurd cc

pub to-does : {ss : List Symbol} {ks : List Kind} {es : List Event} → Reads ss ks es → (s : State) (m : Making) → map kind_of s.tokens ≡ ks → Steps es s ≡ Some m → Done ss s m
to-does reading.over s m e w = let same : making_of s ≡ m = cc in (s, over, no-tokens s.tokens e, same)
to-does (reading.word {ss = ss} {ks = ks} {es = es} k d) s m e w = go s.tokens refl e w (to-does d)
  where
    go : (ts : List Token) → s.tokens ≡ ts → map kind_of ts ≡ k ∷ ks → run (event.Take ∷ es) (map lexeme_of ts) s.last (making_of s) ≡ Some m → ((r : State) (n : Making) → map kind_of r.tokens ≡ ks → Steps es r ≡ Some n → Done ss r n) → Done (Word k ∷ ss) s m
    go [] is f v again = absurd cc
    go (t ∷ us) is f v again =
        let kinds : map kind_of us ≡ ks = cc in
        let i : Is k t = cc in
        let n = again (state us (lexeme_of t) s.nodes s.values) m kinds v in
        (n.0, word t us is i n.1, n.2, n.3)
to-does (reading.part {x = x} a o g d) s m e w =
    let n = to-does d s m e w in
    let h = split (body_of a) n.1 in
    (n.0, part a o (guard-in (skips (body_of a)) x s.tokens (rw e g)) h.1 h.2, n.2, n.3)
to-does (reading.make {a = a} {ss = ss} {ks = ks} {es = es} d) s m e w = go (made a s.last (making_of s)) refl w (to-does d)
  where
    go : (o : Option Making) → made a s.last (making_of s) ≡ o → and_then o (λ n. run es (map lexeme_of s.tokens) s.last n) ≡ Some m → ((r : State) (n : Making) → map kind_of r.tokens ≡ ks → Steps es r ≡ Some n → Done ss r n) → Done (Make a ∷ ss) s m
    go None is v again = absurd cc
    go (Some j) is v again = let n = again (with_making s j) m e v in (n.0, make j is n.1, n.2, n.3)
to-does (reading.leave d) s m e w = let n = to-does d s m e w in (n.0, leave n.1, n.2, n.3)

-- a reading of these symbols, whose steps make this
abbrev pub Read : List Symbol → State → Making → Type 0
Read ss s m = (es : List Event) × Reads ss (map kind_of s.tokens) es × (Steps es s ≡ Some m)

pub from-does : {ss : List Symbol} {s r : State} → Does ss s r → (tt_ : List Symbol) (m : Making) → Read tt_ r m → Read (ss ++ tt_) s m
from-does over tt_ m d = d
from-does (word {k = k} {ss = ss} {s = s} t us e i d) tt_ m f =
    let n = from-does d tt_ m f in
    let kinds : Reads (Word t.kind ∷ (ss ++ tt_)) (t.kind ∷ map kind_of us) (event.Take ∷ n.0) = reading.word t.kind n.1 in
    (event.Take ∷ n.0, rw (e, ← i) kinds, rw e n.2)
from-does (part {x = x} {ss = ss} {s = s} a o g d f) tt_ m h =
    let n = from-does d (ss ++ tt_) m (from-does f tt_ m h) in
    (n.0, reading.part a o (guard-out (skips (body_of a)) x s.tokens g) n.1, n.2)
from-does (make {a = a} {ss = ss} {s = s} j e d) tt_ m f = let n = from-does d tt_ m f in (event.Make a ∷ n.0, reading.make n.1, rw e n.2)
from-does (leave d) tt_ m f = let n = from-does d tt_ m f in (n.0, reading.leave n.1, n.2)
