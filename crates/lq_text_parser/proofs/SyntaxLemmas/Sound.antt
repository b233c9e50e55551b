-- What readings make is what the lines of the grammar say.
use Rattle.std.specs.Prelude.{map}
use Rattle.std.proofs.Common.{◌≡◌, refl, ap, List, [], ◌∷◌, inl, inr}
use Rattle.lq_base_names.specs.declared.place.TextKind.TheVariants.{Program, Quals, Measures}
use Rattle.lq_text_grammar.specs.declared.rule.EntryPart.TheVariants.{Quals as QualsPart, Measures as MeasuresPart}
use Rattle.lq_text_grammar.specs.declared.rule.ProgramPart.TheVariants.{Program as ProgramPart}
use Rattle.lq_text_grammar.specs.declared.rule.Rule.TheVariants.{InProgram, InEntry}
use Rattle.lq_text_tree.specs.Items.{ItemTree}
use Rattle.lq_text_tree.specs.MeasureTrees.{MeasureTree}
use Rattle.lq_text_tree.specs.Qualifiers.{QualifierTree}
use Rattle.lq_text_actions.specs.Trees.{Makes, nowhere}
use Rattle.lq_text_actions.specs.Value.{Value, items, qualifiers, measures}
use Rattle.lq_text_parser.specs.Syntax.Texts.{IsProgram, IsQualifiers, IsMeasures}
use Rattle.lq_text_parser.specs.Syntax.Tokens.{Token, kind_of, lexeme_of}
use Rattle.lq_text_parser.proofs.SyntaxLemmas.Doing.{State, state, does-sound, to-does}
use Rattle.lq_text_parser.proofs.SyntaxLemmas.Closed.{closed}
use Rattle.lq_text_parser.proofs.SyntaxLemmas.Meanings.{M}

-- all tokens are taken, and one value is made
abbrev Ended : Value → State → Type 0
Ended v s = (s.tokens ≡ []) × (s.values ≡ v ∷ [])

head-is : (v w : Value) → v ∷ [] ≡ w ∷ [] → w ≡ v
head-is v w e = cc

pub program-sound : (ts : List Token) (v : Value) → Makes Program (map kind_of ts) (map lexeme_of ts) v → (is : List ItemTree) × (v ≡ items is) × IsProgram ts is
program-sound ts v m =
    let d = to-does m.reading (state ts nowhere 0 []) (record { made = m.nodes; values = v ∷ [] }) refl m.makes in
    go (does-sound M closed d.1 (Ended v) (d.2, ap (λ k. k.values) d.3))
  where
    go : M (InProgram ProgramPart) (state ts nowhere 0 []) (Ended v) → (is : List ItemTree) × (v ≡ items is) × IsProgram ts is
    go (inl (g, (js, n, us, l, r, (e, f)))) = (js, head-is (items js) v f, (n, rw e at r))
    go (inr w) = absurd w

pub qualifiers-sound : (ts : List Token) (v : Value) → Makes Quals (map kind_of ts) (map lexeme_of ts) v → (qs : List QualifierTree) × (v ≡ qualifiers qs) × IsQualifiers ts qs
qualifiers-sound ts v m =
    let d = to-does m.reading (state ts nowhere 0 []) (record { made = m.nodes; values = v ∷ [] }) refl m.makes in
    go (does-sound M closed d.1 (Ended v) (d.2, ap (λ k. k.values) d.3))
  where
    go : M (InEntry QualsPart) (state ts nowhere 0 []) (Ended v) → (qs : List QualifierTree) × (v ≡ qualifiers qs) × IsQualifiers ts qs
    go (inl (g, (qs, us, l, r, (e, f)))) = (qs, head-is (qualifiers qs) v f, rw e at r)
    go (inr w) = absurd w

pub measures-sound : (ts : List Token) (v : Value) → Makes Measures (map kind_of ts) (map lexeme_of ts) v → (ms : List MeasureTree) × (v ≡ measures ms) × IsMeasures ts ms
measures-sound ts v m =
    let d = to-does m.reading (state ts nowhere 0 []) (record { made = m.nodes; values = v ∷ [] }) refl m.makes in
    go (does-sound M closed d.1 (Ended v) (d.2, ap (λ k. k.values) d.3))
  where
    go : M (InEntry MeasuresPart) (state ts nowhere 0 []) (Ended v) → (ms : List MeasureTree) × (v ≡ measures ms) × IsMeasures ts ms
    go (inl (g, (ms, us, l, r, (e, f)))) = (ms, head-is (measures ms) v f, rw e at r)
    go (inr w) = absurd w
