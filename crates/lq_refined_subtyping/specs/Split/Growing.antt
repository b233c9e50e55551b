-- Environments and types to which more are added: what is there stays.
use Rattle.std.proofs.Common.{◌≡◌, ℕ, ◌<◌, List, [], ◌++◌, All, length, sym, ap, ◌∙◌, append_assoc, arith}
use Rattle.std.proofs.lemmas.List.{append-nil, get_or_append_left, length-append}
use Rattle.std.proofs.lemmas.List.Elements.{All-weaker}
use Rattle.lq_refined_subtyping.specs.Contexts.Growing.{HasMore}
use Rattle.lq_refined_substitution.specs.Implications.Views.{environment_in}
use Rattle.lq_refined_types.specs.Parts.Part.{Parts}
use Rattle.lq_refined_subtyping.specs.declared.table.table.Row.{Row}
use Rattle.lq_refined_subtyping.specs.Table.Growing.{extends-there}
use Rattle.lq_refined_subtyping.specs.Table.Rows.{Extends}
use Rattle.lq_refined_subtyping.specs.declared.split.fields.ConstructorFields.{ConstructorFields}
use Rattle.lq_refined_subtyping.specs.Split.Fields.{fields_at, AreThere}

pub HasMore-refl : (es : List Parts) → HasMore es es
HasMore-refl es = record { added = []; is = sym (append-nil es) }

pub HasMore-same : (es fs : List Parts) → fs ≡ es → HasMore es fs
HasMore-same es fs e = record { added = []; is = e ∙ sym (append-nil es) }

pub HasMore-trans : (a b c : List Parts) → HasMore a b → HasMore b c → HasMore a c
HasMore-trans a b c p q = record { added = p.added ++ q.added; is = q.is ∙ ap (λ l. l ++ q.added) p.is ∙ append_assoc a p.added q.added }

pub environment-kept : (old new : List Parts) (i : ℕ) → HasMore old new → i < length old → environment_in new i ≡ environment_in old i
environment-kept old new i m h = ap (λ l. environment_in l i) m.is ∙ get_or_append_left old m.added [] i h

pub environment-there : (old new : List Parts) (i : ℕ) → HasMore old new → i < length old → i < length new
environment-there old new i m h = let k = length-append old m.added in let n : length new ≡ length (old ++ m.added) = ap length m.is in omega arith

pub all-grown : (old new : List Row) (is : List ℕ) → Extends old new → All (λ p. p < length old) is → All (λ p. p < length new) is
all-grown old new is e h = All-weaker (λ p. p < length old) (λ p. p < length new) (λ p l. extends-there old new p e l) is h

pub there-grown : (old new : List Row) (f : ConstructorFields) → Extends old new → AreThere (length old) f → AreThere (length new) f
there-grown old new f e h c = all-grown old new (fields_at f c) e (h c)

pub ruleset adding = (HasMore-refl, HasMore-same, HasMore-trans, environment-there, extends-there, there-grown)
