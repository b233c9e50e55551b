-- What is to be solved is of a text, with whose names nothing is wrong, and with sorted qualifiers.
use Rattle.std.proofs.Common.{◌≡◌, ◌≤◌, ℕ, List, [], Ok, length, ap, sym, subst, ◌∙◌}
use Rattle.lq_text_front.specs.Bytes.Stages.{BindsTo, Bound, Bytes}
use Rattle.lq_text_datatypes.specs.Datatypes.{datatypes_in}
use Rattle.lq_sound_scope.specs.NameCounts.Short.{IsOfShortText}
use Rattle.lq_text_lexer.specs.declared.limits.TheConstants.{TEXT_LIMIT}
use Rattle.lq_top_pose.specs.Stages.{PosesTo, Typed, program_in}
use Rattle.lq_text_resolve.specs.Resolution.Resolution.{scoping_of}
use Rattle.lq_text_scope.specs.Uses.{of_program}
use Rattle.lq_text_walk.specs.Scoped.Scoping.{Scoping}
use Rattle.lq_sound_texts.specs.Instances.Laws.{QualifiersAreSorted}
use Rattle.lq_sound_texts.specs.Instances.Sorts.{AreSortedQualifiers}
use Rattle.lq_text_qualifiers.specs.Sorting.Making.{measures_made}
use Rattle.lq_text_qualifiers.specs.Faults.Equations.{of_measures}
use Rattle.lq_sound_texts.specs.Measures.Laws.{AreMeasuresOf}
use Rattle.lq_text_tree.specs.Items.{ItemTree}

bound_text : (bytes : Bytes) (b : Bound) → BindsTo bytes (Ok b) → length bytes.program ≤ TEXT_LIMIT → IsOfShortText b.texts.program
bound_text bytes b is short =
    let read = is.1 in
    let two = read.1 in
    let program = two.1 in
    let items = ap (λ s. s.items) is.2.0 ∙ ap (λ x. x.0.tree) read.2.0 ∙ ap (λ x. x.tree) two.2.0 in
    record {
      of_text = record {
        text = bytes.program;
        names = two.0.names;
        tokens = program.0;
        trees = two.0.tree;
        read = program.2.1;
        known = b.read.names;
        bound = ap (λ x. x.program) is.2.1.3 ∙ ap (scoping_of b.read.names) items;
      };
      lexed = program.1;
      short = short;
    }

pub of_short_text : (bytes : Bytes) (t : Typed) → PosesTo bytes (Ok t) → length bytes.program ≤ TEXT_LIMIT → IsOfShortText (program_in t)
of_short_text bytes t posed short =
    let typed = posed.1 in
    let same : t ≡ posed.0 = posed.2.0 in
    let bound : posed.0.bound ≡ typed.0 = typed.2.0 in
    let there = bound_text bytes typed.0 typed.1 short in
    subst (λ (b : Bound). IsOfShortText b.texts.program) (sym bound ∙ sym (ap (λ x. x.bound) same)) there

-- the datatypes are those of items of which nothing is complained
pub record IsNamed (s : Scoping) : Type 0 where
  pub names : List (List ℕ)
  pub items : List ItemTree
  pub none : of_program names items ≡ []
  pub datatypes : s.datatypes ≡ datatypes_in items

pub named_text : (bytes : Bytes) (t : Typed) → PosesTo bytes (Ok t) → IsNamed (program_in t)
named_text bytes t posed =
    let typed = posed.1 in
    let same : t ≡ posed.0 = posed.2.0 in
    let bound : posed.0.bound ≡ typed.0 = typed.2.0 in
    let resolved = typed.1.2.1 in
    let there : IsNamed typed.0.texts.program = record {
      names = typed.0.read.names;
      items = typed.0.read.items;
      none = resolved.0;
      datatypes = ap (λ x. x.program.datatypes) resolved.3;
    } in
    subst (λ (b : Bound). IsNamed b.texts.program) (sym bound ∙ sym (ap (λ x. x.bound) same)) there

-- the measures are those of a text of which nothing is complained
pub measures_text : (bytes : Bytes) (t : Typed) → PosesTo bytes (Ok t) → AreMeasuresOf (program_in t).datatypes t.bound.texts.measures
measures_text bytes t posed =
    let typed = posed.1 in
    let same : t ≡ posed.0 = posed.2.0 in
    let bound : posed.0.bound ≡ typed.0 = typed.2.0 in
    let r = typed.0.read in
    let resolved = typed.1.2.1 in
    let ds : typed.0.texts.program.datatypes ≡ datatypes_in r.items = ap (λ x. x.program.datatypes) resolved.3 in
    let there : AreMeasuresOf typed.0.texts.program.datatypes typed.0.texts.measures = record {
      names = r.names;
      trees = r.measures;
      none = ap (λ l. of_measures r.names l r.measures) ds ∙ resolved.1;
      made = ap (λ x. x.measures) resolved.3 ∙ sym (ap (λ l. measures_made l r.measures) ds);
    } in
    subst (λ (b : Bound). AreMeasuresOf b.texts.program.datatypes b.texts.measures) (sym bound ∙ sym (ap (λ x. x.bound) same)) there

-- the qualifiers are sorted
pub sorted_qualifiers : QualifiersAreSorted → (bytes : Bytes) (t : Typed) → PosesTo bytes (Ok t) → AreSortedQualifiers t.bound.texts.qualifiers
sorted_qualifiers sorted bytes t posed =
    let typed = posed.1 in
    let same : t ≡ posed.0 = posed.2.0 in
    let bound : posed.0.bound ≡ typed.0 = typed.2.0 in
    let r = typed.0.read in
    let resolved = typed.1.2.1 in
    let there : AreSortedQualifiers typed.0.texts.qualifiers =
    subst AreSortedQualifiers (sym (ap (λ x. x.qualifiers) resolved.3)) (sorted r.names (datatypes_in r.items) r.measures r.qualifiers resolved.2) in
    subst (λ (b : Bound). AreSortedQualifiers b.texts.qualifiers) (sym bound ∙ sym (ap (λ x. x.bound) same)) there
