use Rattle.std.proofs.Common.{◌≡◌, ℕ, ◌≤◌, refl, List, []}
use Rattle.lq_text_grammar.specs.declared.rule.EntryPart.TheVariants.{Quals, QualsMore, Measures as MeasuresPart, MeasuresMore}
use Rattle.lq_text_grammar.specs.declared.rule.ProgramPart.TheVariants.{Program as ProgramPart, Items}
use Rattle.lq_text_grammar.specs.declared.rule.Rule.TheVariants.{InProgram, InEntry}
use Rattle.lq_text_grammar.specs.declared.symbol.Action.TheVariants.{Item, Entry}
use Rattle.lq_text_grammar.specs.declared.symbol.EntryAction.TheVariants.{NoQualifiers, NoMeasures}
use Rattle.lq_text_grammar.specs.declared.symbol.Event.{Event}
use Rattle.lq_text_grammar.specs.declared.symbol.ItemAction.TheVariants.{NoItems}
use Rattle.lq_text_tree.specs.Items.{ItemTree}
use Rattle.lq_text_tree.specs.Levels.{items_nesting}
use Rattle.lq_text_tree.specs.MeasureTrees.{MeasureTree, definitions_nesting}
use Rattle.lq_text_tree.specs.Qualifiers.{QualifierTree, qualifiers_nesting}
use Rattle.lq_text_actions.specs.Laws.{MakesOne}
use Rattle.lq_text_actions.specs.Value.{Lexeme, Value, items, qualifiers, measures}
use Rattle.lq_text_actions.proofs.Sorts.{some_items, some_qualifiers, some_measures, sort_of}
use Rattle.lq_text_actions.proofs.Texts.{Single, single}
use Rattle.lq_text_actions.proofs.laws.readings_make_texts.Goals as goal

as_items : (v : Value) → sort_of v ≡ some_items → (is : List ItemTree) × (v ≡ items is)
as_items (items is) e = (is, refl)
as_items _ e = absurd cc

as_qualifiers : (v : Value) → sort_of v ≡ some_qualifiers → (qs : List QualifierTree) × (v ≡ qualifiers qs)
as_qualifiers (qualifiers qs) e = (qs, refl)
as_qualifiers _ e = absurd cc

as_measures : (v : Value) → sort_of v ≡ some_measures → (ms : List MeasureTree) × (v ≡ measures ms)
as_measures (measures ms) e = (ms, refl)
as_measures _ e = absurd cc

items_made : (limit : ℕ) (es : List Event) (ls : List Lexeme) → Single limit some_items es ls → (is : List ItemTree) × MakesOne es ls (items is) × (items_nesting is ≤ limit)
items_made limit es ls r = let w = as_items r.0 r.4 in (w.0, record { nodes = r.1; makes = rw (← w.1) r.2; bound = r.3 }, rw w.1 at r.5)

qualifiers_made : (limit : ℕ) (es : List Event) (ls : List Lexeme) → Single limit some_qualifiers es ls → (qs : List QualifierTree) × MakesOne es ls (qualifiers qs) × (qualifiers_nesting qs ≤ limit)
qualifiers_made limit es ls r = let w = as_qualifiers r.0 r.4 in (w.0, record { nodes = r.1; makes = rw (← w.1) r.2; bound = r.3 }, rw w.1 at r.5)

measures_made : (limit : ℕ) (es : List Event) (ls : List Lexeme) → Single limit some_measures es ls → (ms : List MeasureTree) × MakesOne es ls (measures ms) × (definitions_nesting ms ≤ limit)
measures_made limit es ls r = let w = as_measures r.0 r.4 in (w.0, record { nodes = r.1; makes = rw (← w.1) r.2; bound = r.3 }, rw w.1 at r.5)

pub returns-clause-program : goal.returns-clause-program
returns-clause-program c = λ limit ks ls es r.
    items_made limit es ls (single (InProgram ProgramPart) (InProgram Items) (Item NoItems) (items []) limit ks ls es (λ n. refl) refl refl refl r.fit (c.within_limit.ensures (InProgram ProgramPart) limit ks es r.reading r.shallow))

pub returns-clause-qualifiers : goal.returns-clause-qualifiers
returns-clause-qualifiers c = λ limit ks ls es r.
    qualifiers_made limit es ls (single (InEntry Quals) (InEntry QualsMore) (Entry NoQualifiers) (qualifiers []) limit ks ls es (λ n. refl) refl refl refl r.fit (c.within_limit.ensures (InEntry Quals) limit ks es r.reading r.shallow))

pub returns-clause-measures : goal.returns-clause-measures
returns-clause-measures c = λ limit ks ls es r.
    measures_made limit es ls (single (InEntry MeasuresPart) (InEntry MeasuresMore) (Entry NoMeasures) (measures []) limit ks ls es (λ n. refl) refl refl refl r.fit (c.within_limit.ensures (InEntry MeasuresPart) limit ks es r.reading r.shallow))
