-- What the lines of the grammar say is what readings make.
use Rattle.std.specs.Prelude.{map}
use Rattle.std.proofs.Common.{◌≡◌, ℕ, refl, List, [], ◌∷◌, inl}
use Rattle.lq_base_names.specs.declared.place.TextKind.TheVariants.{Program, Quals, Measures}
use Rattle.lq_text_grammar.specs.Reading.{over}
use Rattle.lq_text_grammar.specs.declared.rule.EntryPart.TheVariants.{Quals as QualsPart, Measures as MeasuresPart}
use Rattle.lq_text_grammar.specs.declared.rule.ProgramPart.TheVariants.{Program as ProgramPart}
use Rattle.lq_text_grammar.specs.declared.rule.Rule.{Rule}
use Rattle.lq_text_grammar.specs.declared.rule.Rule.TheVariants.{InProgram, InEntry}
use Rattle.lq_text_grammar.specs.declared.symbol.Symbol.TheVariants.{Part}
use Rattle.lq_text_tree.specs.Items.{ItemTree}
use Rattle.lq_text_tree.specs.MeasureTrees.{MeasureTree}
use Rattle.lq_text_tree.specs.Qualifiers.{QualifierTree}
use Rattle.lq_text_actions.specs.Trees.{Makes, nowhere}
use Rattle.lq_text_actions.specs.Value.{Value, items, qualifiers, measures}
use Rattle.lq_text_parser.specs.Syntax.Texts.{IsProgram, IsQualifiers, IsMeasures}
use Rattle.lq_text_parser.specs.Syntax.Tokens.{Token, kind_of, lexeme_of}
use Rattle.lq_text_parser.proofs.SyntaxLemmas.Doing.{State, state, Can, can, Read, from-does}
use Rattle.lq_text_parser.proofs.SyntaxLemmas.CanEntries.{can-qualifiers, can-measures}
use Rattle.lq_text_parser.proofs.SyntaxLemmas.CanItems.{can-items}

abbrev Ended : Value → State → Type 0
Ended v s = (s.tokens ≡ []) × (s.values ≡ v ∷ [])

nothing-left : (s : State) (v : Value) → Ended v s → Read [] s (record { made = s.nodes; values = v ∷ [] })
nothing-left s v e = ([], rw e.0 over, rw e.1 refl)

read-all : (x : Rule) (ts : List Token) (v : Value) → Can x (state ts nowhere 0 []) (Ended v) → (n : ℕ) × Read (Part x ∷ []) (state ts nowhere 0 []) (record { made = n; values = v ∷ [] })
read-all x ts v c = (c.behind.nodes, from-does c.does [] (record { made = c.behind.nodes; values = v ∷ [] }) (nothing-left c.behind v c.holds))

pub program-complete : (ts : List Token) (is : List ItemTree) → IsProgram ts is → Makes Program (map kind_of ts) (map lexeme_of ts) (items is)
program-complete ts is d =
    let r = read-all (InProgram ProgramPart) ts (items is) (can _ _ _ (inl (tt, can-items d.1 _ _ _ (λ o. (refl, refl))))) in
    let n = r.1 in
    record { events = n.0; reading = n.1; nodes = r.0; makes = n.2 }

pub qualifiers-complete : (ts : List Token) (qs : List QualifierTree) → IsQualifiers ts qs → Makes Quals (map kind_of ts) (map lexeme_of ts) (qualifiers qs)
qualifiers-complete ts qs d =
    let r = read-all (InEntry QualsPart) ts (qualifiers qs) (can _ _ _ (inl (tt, can-qualifiers d _ _ _ _ (λ o. (refl, refl))))) in
    let n = r.1 in
    record { events = n.0; reading = n.1; nodes = r.0; makes = n.2 }

pub measures-complete : (ts : List Token) (ms : List MeasureTree) → IsMeasures ts ms → Makes Measures (map kind_of ts) (map lexeme_of ts) (measures ms)
measures-complete ts ms d =
    let r = read-all (InEntry MeasuresPart) ts (measures ms) (can _ _ _ (inl (tt, can-measures d _ _ _ _ (λ o. (refl, refl))))) in
    let n = r.1 in
    record { events = n.0; reading = n.1; nodes = r.0; makes = n.2 }
