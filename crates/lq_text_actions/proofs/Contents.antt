-- What a token has.
use Rattle.std.specs.Prelude.{◌<◌, ◌≤◌, ℕ}
use Rattle.std.proofs.Common.{Option, None}
use Rattle.lq_base_names.specs.declared.limits.TheConstants.{LITERAL_LIMIT}
use Rattle.lq_text_actions.specs.Value.{Lexeme, Content, some_name, some_number, neither, by_name, by_number, HasName, HasNumberBelow, HasNumberUpTo}
use Rattle.lq_text_actions.proofs.Sorts.{After, a_named_token, a_number, a_limit_number}

-- the token fits the action
abbrev pub FitsAfter : After → Lexeme → Type 0
FitsAfter a_named_token l = HasName l.content
FitsAfter a_number l = HasNumberBelow l.content
FitsAfter a_limit_number l = HasNumberUpTo l.content
FitsAfter _ l = Unit {0}

pub on_name : (P : Content → Type 0) (c : Content) → HasName c → ((x : ℕ) → P (some_name x)) → P c
on_name P (some_name x) h f = f x
on_name P (some_number v) h f = absurd h
on_name P neither h f = absurd h

pub on_below : (P : Content → Type 0) (c : Content) → HasNumberBelow c → ((v : ℕ) → v < LITERAL_LIMIT → P (some_number v)) → P c
on_below P (some_name x) h f = absurd h
on_below P (some_number v) h f = f v h
on_below P neither h f = absurd h

pub on_up_to : (P : Content → Type 0) (c : Content) → HasNumberUpTo c → ((v : ℕ) → v ≤ LITERAL_LIMIT → P (some_number v)) → P c
on_up_to P (some_name x) h f = absurd h
on_up_to P (some_number v) h f = f v h
on_up_to P neither h f = absurd h

-- what holds of nothing and of all that is made of a name or a number
pub any_name : {X : Type 0} (P : Option X → Type 0) (c : Content) (f : ℕ → Option X) → P None → ((x : ℕ) → P (f x)) → P (by_name c f)
any_name P (some_name x) f none some = some x
any_name P (some_number v) f none some = none
any_name P neither f none some = none

pub any_number : {X : Type 0} (P : Option X → Type 0) (c : Content) (f : ℕ → Option X) → P None → ((v : ℕ) → P (f v)) → P (by_number c f)
any_number P (some_name x) f none some = none
any_number P (some_number v) f none some = some v
any_number P neither f none some = none
