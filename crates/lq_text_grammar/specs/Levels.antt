-- The level of a token, and what follows from it. The symbols that are still to be read behind some tokens depend on the next token alone:
-- chains that it doesn't continue have ended.
use Rattle.std.specs.Prelude.{◌≡◌, ℕ, ◌+◌, ◌<◌, ◌≤◌, Bool, true, false, List, [], ◌∷◌, ◌++◌, length, take, drop, Option, Some, None, IsTrue, if◌then◌else◌}
use Rattle.std.specs.List.{list_any}
use Rattle.lq_text_grammar.specs.declared.kind.Kind.{Kind}
use Rattle.lq_text_grammar.specs.declared.rule.Rule.{Rule}
use Rattle.lq_text_grammar.specs.declared.symbol.Action.{Action}
use Rattle.lq_text_grammar.specs.declared.symbol.Symbol.{Symbol}
use Rattle.lq_text_grammar.specs.declared.symbol.Symbol.TheVariants.{Word, Part, Make, Leave}
use Rattle.lq_text_grammar.specs.declared.symbol.Event.{Event}
use Rattle.lq_text_grammar.specs.declared.symbol.Event.TheVariants as event
use Rattle.lq_text_grammar.specs.declared.table.Choice.{Choice}
use Rattle.lq_text_grammar.specs.declared.table.Choice.TheVariants as choice
use Rattle.lq_text_grammar.specs.Kinds.{same_kind}
use Rattle.lq_text_grammar.specs.Grammar.{Alternative, begins, before, otherwise, alternatives}
use Rattle.lq_text_grammar.specs.Reading as reading
use Rattle.lq_text_grammar.specs.Reading.{next, Reads, Begins, IsStop}

-- What the next token makes of a part: it is taken and these follow, or these stand in place of the part, or neither. Levels and the reader go by
-- this; which tokens are a text doesn't.
pub data Way : Type 0 where
  takes : List Symbol → Way
  passes : List Symbol → Way
  refuses : Way

-- the first alternative that fits the next token; None: there is no next token
abbrev pub way : Option Kind → List Alternative → Way
way n [] = refuses
way n (otherwise b ∷ others) = passes b
way None (begins k b ∷ others) = way None others
way None (before ks b ∷ others) = way None others
way (Some k) (begins j b ∷ others) = if same_kind j k then takes b else way (Some k) others
way (Some k) (before ks b ∷ others) = if list_any (λ j. same_kind j k) ks then passes b else way (Some k) others

abbrev pub way_of : Choice → Way
way_of (choice.Takes b) = takes b.now
way_of (choice.Passes b) = passes b.now
way_of choice.Refuses = refuses

-- nothing happens before the next token is taken
abbrev pub is_token_way : Way → Bool
is_token_way (takes b) = true
is_token_way (passes b) = false
is_token_way refuses = true

abbrev pub waits : Option Kind → List Symbol → Bool
waits n [] = true
waits n (Word k ∷ ss) = true
waits n (Part x ∷ ss) = is_token_way (way n (alternatives x))
waits n (Make a ∷ ss) = false
waits n (Leave ∷ ss) = false

-- Where these symbols are to be read, the tokens lead to those, by these steps, if n is the kind of the token behind them (None: they are
-- the last).
pub data Leads (n : Option Kind) : List Symbol → List Kind → List Event → List Symbol → Type 0 where
  stays : {ss : List Symbol} → IsTrue (waits n ss) → Leads n ss [] [] ss
  word : {ss zs : List Symbol} {ks : List Kind} {es : List Event} (k : Kind) → Leads n ss ks es zs → Leads n (Word k ∷ ss) (k ∷ ks) (event.Take ∷ es) zs
  takes_one : {x : Rule} {ss zs : List Symbol} {k : Kind} {ks : List Kind} {es : List Event} (b : List Symbol) → way (Some k) (alternatives x) ≡ takes b → Leads n (b ++ ss) ks es zs → Leads n (Part x ∷ ss) (k ∷ ks) (event.Take ∷ es) zs
  passes_on : {x : Rule} {ss zs : List Symbol} {ks : List Kind} {es : List Event} (b : List Symbol) → way (next ks n) (alternatives x) ≡ passes b → Leads n (b ++ ss) ks es zs → Leads n (Part x ∷ ss) ks es zs
  makes : {a : Action} {ss zs : List Symbol} {ks : List Kind} {es : List Event} → Leads n ss ks es zs → Leads n (Make a ∷ ss) ks (event.Make a ∷ es) zs
  leaves : {ss zs : List Symbol} {ks : List Kind} {es : List Event} → Leads n ss ks es zs → Leads n (Leave ∷ ss) ks es zs

-- how many levels are open
abbrev pub depth : List Symbol → ℕ
depth [] = 0
depth (Leave ∷ ss) = depth ss + 1
depth (Word k ∷ ss) = depth ss
depth (Part x ∷ ss) = depth ss
depth (Make a ∷ ss) = depth ss

-- the same where a token is taken, which counts what it opens
abbrev pub way_depth : Way → List Symbol → ℕ
way_depth (takes b) ss = depth (b ++ ss)
way_depth (passes b) ss = depth ss
way_depth refuses ss = depth ss

abbrev pub token_depth : Kind → List Symbol → ℕ
token_depth k (Part x ∷ ss) = way_depth (way (Some k) (alternatives x)) ss
token_depth k ss = depth ss

-- The same without a look at the next token: the levels of the tokens in a reading, in their order. Behind a token the symbols are left that are still
-- to be read, and as many levels are open as end in them.
abbrev pub levels_of : {ss : List Symbol} {ks : List Kind} {es : List Event} → Reads ss ks es → List ℕ
levels_of reading.over = []
levels_of (reading.word {ss = ss} k d) = depth ss ∷ levels_of d
levels_of (reading.part a o g d) = levels_of d
levels_of (reading.make d) = levels_of d
levels_of (reading.leave d) = levels_of d

-- the level of a token of this kind behind these tokens
abbrev pub IsLevel : Rule → List Kind → Kind → ℕ → Type 0
IsLevel start ks k l = (ss : List Symbol) × (es : List Event) × Leads (Some k) (Part start ∷ []) ks es ss × (l ≡ token_depth k ss)

-- the kind of the token there
abbrev pub kind_at : List Kind → ℕ → Option Kind
kind_at ks at = next (drop at ks) None

-- no token before this place has a level above the limit
abbrev pub IsShallow : Rule → ℕ → List Kind → ℕ → Type 0
IsShallow start limit ks at = (j : ℕ) (k : Kind) (l : ℕ) → j < at → kind_at ks j ≡ Some k → IsLevel start (take j ks) k l → l ≤ limit

-- at this place is the first stop, and no token up to it has a level above the limit
abbrev pub IsSyntax : Rule → ℕ → List Kind → ℕ → Type 0
IsSyntax start limit ks at = (at ≤ length ks) × Begins start (take at ks) × IsStop start ks at × IsShallow start limit ks (at + 1)

-- the first token with a level above the limit, and what is before it begins a text
abbrev pub IsTooDeep : Rule → ℕ → List Kind → ℕ → Type 0
IsTooDeep start limit ks at = Begins start (take at ks) × IsShallow start limit ks at × ((k : Kind) × (l : ℕ) × (kind_at ks at ≡ Some k) × IsLevel start (take at ks) k l × (limit < l))

-- The tokens are all read as these symbols, by these steps, and no token has a level above the limit.
pub data Within (limit : ℕ) : List Symbol → List Kind → List Event → Type 0 where
  over : Within limit [] [] []
  word : {ss : List Symbol} {ks : List Kind} {es : List Event} (k : Kind) → depth ss ≤ limit → Within limit ss ks es → Within limit (Word k ∷ ss) (k ∷ ks) (event.Take ∷ es)
  takes_one : {x : Rule} {ss : List Symbol} {k : Kind} {ks : List Kind} {es : List Event} (b : List Symbol) → way (Some k) (alternatives x) ≡ takes b → depth (b ++ ss) ≤ limit → Within limit (b ++ ss) ks es → Within limit (Part x ∷ ss) (k ∷ ks) (event.Take ∷ es)
  passes_on : {x : Rule} {ss : List Symbol} {ks : List Kind} {es : List Event} (b : List Symbol) → way (next ks None) (alternatives x) ≡ passes b → Within limit (b ++ ss) ks es → Within limit (Part x ∷ ss) ks es
  makes : {a : Action} {ss : List Symbol} {ks : List Kind} {es : List Event} → Within limit ss ks es → Within limit (Make a ∷ ss) ks (event.Make a ∷ es)
  leaves : {ss : List Symbol} {ks : List Kind} {es : List Event} → Within limit ss ks es → Within limit (Leave ∷ ss) ks es
