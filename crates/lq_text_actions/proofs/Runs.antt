-- The actions of a reading never lack a value, and what they make nests no deeper than its levels.
use Rattle.std.specs.Prelude.{if◌then◌else◌, min}
use Rattle.std.proofs.Common.{◌≡◌, ℕ, suc, zero, ◌+◌, ◌-◌, ◌≤◌, refl, sym, ◌∙◌, Bool, true, false, ◌&&◌, Some, List, [], ◌∷◌, arith}
use Rattle.lq_text_grammar.specs.declared.kind.Kind.{Kind}
use Rattle.lq_text_grammar.specs.declared.kind.Kind.TheVariants as kind
use Rattle.lq_text_grammar.specs.declared.symbol.Action.{Action}
use Rattle.lq_text_grammar.specs.declared.symbol.Action.TheVariants.{Mark, Named, Item, Typing, Pattern, Block, Operand, Pred, Entry}
use Rattle.lq_text_grammar.specs.declared.symbol.ItemAction.TheVariants.{NoItems}
use Rattle.lq_text_grammar.specs.declared.symbol.TypingAction.TheVariants.{NoTypes}
use Rattle.lq_text_grammar.specs.declared.symbol.PatternAction.TheVariants.{Bind}
use Rattle.lq_text_grammar.specs.declared.symbol.BlockAction.TheVariants.{NoArms}
use Rattle.lq_text_grammar.specs.declared.symbol.OperandAction.TheVariants.{Literal}
use Rattle.lq_text_grammar.specs.declared.symbol.PredAction.TheVariants.{PredLiteral}
use Rattle.lq_text_grammar.specs.declared.symbol.EntryAction.TheVariants.{NoQualifiers}
use Rattle.lq_text_actions.specs.Items.{item_made, entry_made}
use Rattle.lq_text_actions.specs.Made.{made}
use Rattle.lq_text_actions.specs.Patterns.{pattern_made}
use Rattle.lq_text_actions.specs.Predicates.{pred_made}
use Rattle.lq_text_actions.specs.Trees.{FitsKind}
use Rattle.lq_text_actions.specs.Types.{typing_made}
use Rattle.lq_text_actions.specs.Value.{Lexeme, Content, some_name, some_number, neither, by_name, HasName, HasNumberBelow, HasNumberUpTo, Value, mark, named}
use Rattle.lq_text_actions.proofs.Sorts.{a_mark, a_name, sort_of, same_sort, same_sort-eq, Step, beside, below, Need, After, anything, a_token, a_named_token, a_number, a_limit_number}
use Rattle.lq_text_actions.proofs.Signatures.{action_signature}
use Rattle.lq_text_actions.proofs.Flows.{Slot, slot, Last, unknown, other, name, number, limit_number, last_of, follows, paid, Pulled, lacks, pulled, pull, put_pulled, use_of}
use Rattle.lq_text_actions.proofs.Nesting.{value_nesting, sunk, Held, behind, Gives, Makes, gives-makes}
use Rattle.lq_text_actions.proofs.Contents.{FitsAfter, on_name}
use Rattle.lq_text_actions.proofs.Rows.{leaf_gives, item_gives, typing_gives, pattern_gives}
use Rattle.lq_text_actions.proofs.Terms.{pred_gives, entry_gives}
use Rattle.lq_text_actions.proofs.Nodes.{operand_makes, block_makes}

action_makes : (a : Action) (l : Lexeme) → FitsAfter (action_signature a).after l → Makes (action_signature a).needs (action_signature a).gives (λ n vs. made a l (record { made = n; values = vs }))
action_makes Mark l f = gives-makes [] a_mark (λ vs. Some (mark l.place ∷ vs)) (leaf_gives (mark l.place) refl)
action_makes Named l f = gives-makes [] a_name (λ vs. by_name l.content (λ x. Some (named x l.place ∷ vs)))
    (on_name (λ c. Gives [] a_name (λ vs. by_name c (λ x. Some (named x l.place ∷ vs)))) l.content f (λ x. leaf_gives (named x l.place) refl))
action_makes (Item a) l f = gives-makes (action_signature (Item a)).needs (action_signature (Item a)).gives (item_made a l) (item_gives a l f)
action_makes (Typing a) l f = gives-makes (action_signature (Typing a)).needs (action_signature (Typing a)).gives (typing_made a l) (typing_gives a l f)
action_makes (Pattern a) l f = gives-makes (action_signature (Pattern a)).needs (action_signature (Pattern a)).gives (pattern_made a l) (pattern_gives a l f)
action_makes (Block a) l f = block_makes a l
action_makes (Operand a) l f = operand_makes a l f
action_makes (Pred a) l f = gives-makes (action_signature (Pred a)).needs (action_signature (Pred a)).gives (pred_made a l) (pred_gives a l f)
action_makes (Entry a) l f = gives-makes (action_signature (Entry a)).needs (action_signature (Entry a)).gives (entry_made a l) (entry_gives a l)

abbrev needs_none : List Need → Bool
needs_none [] = true
needs_none (n ∷ ns) = false

-- an action that needs no value works directly behind a token
leaf-follows : (a : Action) → (needs_none (action_signature a).needs && follows (action_signature a).after unknown) ≡ false
leaf-follows Mark = refl
leaf-follows Named = refl
leaf-follows (Item NoItems) = refl
leaf-follows (Item _) = refl
leaf-follows (Typing NoTypes) = refl
leaf-follows (Typing _) = refl
leaf-follows (Pattern Bind) = refl
leaf-follows (Pattern _) = refl
leaf-follows (Block NoArms) = refl
leaf-follows (Block _) = refl
leaf-follows (Operand Literal) = refl
leaf-follows (Operand _) = refl
leaf-follows (Pred PredLiteral) = refl
leaf-follows (Pred _) = refl
leaf-follows (Entry NoQualifiers) = refl
leaf-follows (Entry _) = refl

-- the values have these sorts, and nest within the limit and their levels
abbrev pub Fit : ℕ → List Slot → List Value → Type 0
Fit limit [] [] = Unit {0}
Fit limit [] (v ∷ vs) = true ≡ false
Fit limit (x ∷ s) [] = true ≡ false
Fit limit (slot j e ∷ s) (v ∷ vs) = (sort_of v ≡ j) × (value_nesting v + e ≤ suc limit) × Fit limit s vs

-- the token taken last
abbrev pub FitsLast : Last → Lexeme → Type 0
FitsLast name l = HasName l.content
FitsLast number l = HasNumberBelow l.content
FitsLast limit_number l = HasNumberUpTo l.content
FitsLast _ l = Unit {0}

abbrev pub Knows : ℕ → ℕ → Last → Type 0
Knows limit d unknown = Unit {0}
Knows limit d l = d ≤ limit

pub knows-any : (limit d : ℕ) (l : Last) → d ≤ limit → Knows limit d l
knows-any limit d unknown h = tt
knows-any limit d other h = h
knows-any limit d name h = h
knows-any limit d number h = h
knows-any limit d limit_number h = h

pub knows-less : (limit d e : ℕ) (l : Last) → d ≤ e → Knows limit e l → Knows limit d l
knows-less limit d e unknown less h = tt
knows-less limit d e other less h = omega arith
knows-less limit d e name less h = omega arith
knows-less limit d e number less h = omega arith
knows-less limit d e limit_number less h = omega arith

known : (limit d : ℕ) (t : Bool) (a : After) (l : Last) → (t && follows a unknown) ≡ false → t ≡ true → follows a l ≡ true → Knows limit d l → d ≤ limit
known limit d t a unknown never none fine h = let both : (t && follows a unknown) ≡ true = rw (none, fine) refl in absurd cc
known limit d t a other never none fine h = h
known limit d t a name never none fine h = h
known limit d t a number never none fine h = h
known limit d t a limit_number never none fine h = h

suc-more : (d limit : ℕ) → d ≤ limit → suc d ≤ suc limit
suc-more d limit h = omega arith

no_way : (A : Type 0) → false ≡ true → A
no_way A e = absurd cc

up_to-below : (c : Content) → HasNumberBelow c → HasNumberUpTo c
up_to-below (some_name x) h = h
up_to-below (some_number v) h = omega arith
up_to-below neither h = h

fits-after : (a : After) (l : Last) (x : Lexeme) → follows a l ≡ true → FitsLast l x → FitsAfter a x
fits-after anything l x e f = tt
fits-after a_token l x e f = tt
fits-after a_named_token name x e f = f
fits-after a_named_token unknown x e f = no_way (HasName x.content) e
fits-after a_named_token other x e f = no_way (HasName x.content) e
fits-after a_named_token number x e f = no_way (HasName x.content) e
fits-after a_named_token limit_number x e f = no_way (HasName x.content) e
fits-after a_number number x e f = f
fits-after a_number unknown x e f = no_way (HasNumberBelow x.content) e
fits-after a_number other x e f = no_way (HasNumberBelow x.content) e
fits-after a_number name x e f = no_way (HasNumberBelow x.content) e
fits-after a_number limit_number x e f = no_way (HasNumberBelow x.content) e
fits-after a_limit_number number x e f = up_to-below x.content f
fits-after a_limit_number limit_number x e f = f
fits-after a_limit_number unknown x e f = no_way (HasNumberUpTo x.content) e
fits-after a_limit_number other x e f = no_way (HasNumberUpTo x.content) e
fits-after a_limit_number name x e f = no_way (HasNumberUpTo x.content) e

pub fits-last : (k : Kind) (x : Lexeme) → FitsKind k x → FitsLast (last_of k) x
fits-last kind.LowerName x f = f
fits-last kind.UpperName x f = f
fits-last kind.TypeVariable x f = f
fits-last kind.Number x f = f
fits-last kind.LimitNumber x f = f
fits-last _ x f = tt

-- what is pulled for an action is what it needs
abbrev Pulls : ℕ → List Need → ℕ → List Value → ℕ → List Slot → Type 0
Pulls limit ns m0 vs m r = (suc m ≤ m0) × Held (limit - m) ns vs × Fit limit r (behind ns vs)

least_of : (m a b : ℕ) → m ≤ min a b → (m ≤ a) × (m ≤ b)
least_of m a b h = (omega arith, omega arith)

sunk-fits : (c : Step) (n e m limit : ℕ) → n + suc e ≤ suc limit → suc m ≤ paid c e → sunk c n ≤ limit - m
sunk-fits beside n e m limit h g = omega arith
sunk-fits below n e m limit h g = omega arith

pulls : (limit : ℕ) (ns : List Need) (m0 : ℕ) (s : List Slot) (vs : List Value) (m : ℕ) (r : List Slot) → Fit limit s vs → pull ns m0 s ≡ pulled (suc m) r → Pulls limit ns m0 vs m r
pulls limit [] m0 s vs m r f q =
    let at : m0 ≡ suc m = cc in
    let is : s ≡ r = cc in
    (rw (← at) (omega arith), tt, rw (← is) f)
pulls limit (n ∷ ns) m0 [] vs m r f q = absurd cc
pulls limit (n ∷ ns) m0 (slot j zero ∷ s) vs m r f q = absurd cc
pulls limit (n ∷ ns) m0 (slot j (suc e) ∷ s) [] m r f q = absurd cc
pulls limit (n ∷ ns) m0 (slot j (suc e) ∷ s) (v ∷ vs) m r f q = go (same_sort n.sort j) refl q (pulls limit ns (min m0 (paid n.step e)) s vs m r f.2)
  where
    go : (b : Bool) → same_sort n.sort j ≡ b → (if b then pull ns (min m0 (paid n.step e)) s else lacks) ≡ pulled (suc m) r → (pull ns (min m0 (paid n.step e)) s ≡ pulled (suc m) r → Pulls limit ns (min m0 (paid n.step e)) vs m r) → Pulls limit (n ∷ ns) m0 (v ∷ vs) m r
    go true is w again =
        let a = again w in
        let l = least_of (suc m) m0 (paid n.step e) a.0 in
        (l.0, (f.0 ∙ sym (same_sort-eq n.sort j is), sunk-fits n.step (value_nesting v) e m limit f.1 l.1, a.1), a.2)
    go false is w again = absurd cc

paid-most : (c : Step) (m e : ℕ) → suc m ≤ paid c e → m ≤ e
paid-most beside m e h = omega arith
paid-most below m e h = omega arith

level-most : (n e limit m : ℕ) → n + suc e ≤ suc limit → m ≤ e → m ≤ limit
level-most n e limit m h g = omega arith

-- the level of what is made
level-fits : (limit : ℕ) (ns : List Need) (m0 : ℕ) (s : List Slot) (vs : List Value) (m : ℕ) (r : List Slot) → (needs_none ns ≡ true → m0 ≤ suc limit) → Fit limit s vs → pull ns m0 s ≡ pulled (suc m) r → m ≤ limit
level-fits limit [] m0 s vs m r small f q =
    let at : m0 ≡ suc m = cc in
    omega (arith, small refl)
level-fits limit (n ∷ ns) m0 [] vs m r small f q = absurd cc
level-fits limit (n ∷ ns) m0 (slot j zero ∷ s) vs m r small f q = absurd cc
level-fits limit (n ∷ ns) m0 (slot j (suc e) ∷ s) [] m r small f q = absurd cc
level-fits limit (n ∷ ns) m0 (slot j (suc e) ∷ s) (v ∷ vs) m r small f q = go (same_sort n.sort j) q
  where
    go : (b : Bool) → (if b then pull ns (min m0 (paid n.step e)) s else lacks) ≡ pulled (suc m) r → m ≤ limit
    go true w = level-most (value_nesting v) e limit m f.1 (paid-most n.step m e ((least_of (suc m) m0 (paid n.step e) ((pulls limit ns (min m0 (paid n.step e)) s vs m r f.2 w).0)).1))
    go false w = absurd cc

makes-level : (n m limit : ℕ) → n ≤ limit - m → m ≤ limit → n + suc m ≤ suc limit
makes-level n m limit h g = omega arith

-- one action
abbrev Acted : Action → Lexeme → ℕ → ℕ → List Value → List Slot → Type 0
Acted a x limit n vs u = (m : ℕ) × (ws : List Value) × (made a x (record { made = n; values = vs }) ≡ Some (record { made = m; values = ws })) × (m ≤ n + 2) × Fit limit u ws

pub acts : (a : Action) (x : Lexeme) (l : Last) (limit d n : ℕ) (s u : List Slot) (vs : List Value) → follows (action_signature a).after l ≡ true → FitsLast l x → Knows limit d l → Fit limit s vs → use_of beside (action_signature a).needs ((action_signature a).gives ∷ []) d s ≡ Some u → Acted a x limit n vs u
acts a x l limit d n s u vs fine fits knows f q = go (pull (action_signature a).needs (suc d) s) refl q
  where
    go : (p : Pulled) → pull (action_signature a).needs (suc d) s ≡ p → put_pulled ((action_signature a).gives ∷ []) p ≡ Some u → Acted a x limit n vs u
    go lacks at is = absurd cc
    go (pulled zero r) at is = absurd cc
    go (pulled (suc m) r) at is =
        let same : (slot (action_signature a).gives (suc m) ∷ r) ≡ u = cc in
        let p = pulls limit (action_signature a).needs (suc d) s vs m r f at in
        let small : m ≤ limit = level-fits limit (action_signature a).needs (suc d) s vs m r (λ e. suc-more d limit (known limit d (needs_none (action_signature a).needs) (action_signature a).after l (leaf-follows a) e fine knows)) f at in
        let w = action_makes a x (fits-after (action_signature a).after l x fine fits) (limit - m) n vs p.1 in
        let all : Fit limit (slot (action_signature a).gives (suc m) ∷ r) (w.0 ∷ behind (action_signature a).needs vs) = (w.3, makes-level (value_nesting w.0) m limit w.4 small, p.2) in
        (w.1, w.0 ∷ behind (action_signature a).needs vs, w.2, w.5, rw (← same) all)
