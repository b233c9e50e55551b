-- Texts that resolve are bound.
use Rattle.std.proofs.Common.{◌≡◌, ℕ, List, sym, ap, subst}
use Rattle.lq_generate_fresh.specs.Fresh.Defined.{ConstructorsDiffer}
use Rattle.lq_generate_fresh.specs.Fresh.Laws.{NamedConstructorsDiffer}
use Rattle.lq_text_resolve.specs.Resolution.Resolution.{scoping_of}
use Rattle.lq_text_walk.specs.Scoped.Scoping.{Scoping}
use Rattle.lq_text_walk.specs.Scoped.Whole.{scoped_view}
use Rattle.lq_text_front.specs.Texts.Resolution.{resolved, sources, IsResolution}
use Rattle.lq_text_front.specs.Texts.Told.{texts_view}
use Rattle.lq_text_front.specs.declared.texts.texts.ScopedTexts.{ScopedTexts}
use Rattle.lq_text_tree.specs.MeasureTrees.{MeasureTree}
use Rattle.lq_text_tree.specs.Qualifiers.{QualifierTree}
use Rattle.lq_text_tree.specs.Texts.{program_view}
use Rattle.lq_text_tree.specs.declared.program.Program.{Program}
use Rattle.lq_cases_rules.specs.Cases.{IsBound, IsParsed}

pub bound : NamedConstructorsDiffer → (t : ScopedTexts) (p : Program) (names : List (List ℕ)) (ms : List MeasureTree) (qs : List QualifierTree)
    → IsParsed p → IsResolution (sources names (program_view p) ms qs) (resolved (texts_view t)) → IsBound t
bound differ t p names ms qs parsed h =
    let same : scoped_view t.program ≡ scoping_of names (program_view p) = ap (λ r. r.program) h.3 in
    record {
      of_text = record {
        text = parsed.text;
        names = parsed.names;
        tokens = parsed.tokens;
        trees = program_view p;
        read = parsed.read;
        known = names;
        bound = same;
      };
      differ = subst (λ (s : Scoping). ConstructorsDiffer s.datatypes) (sym same) (differ names (program_view p) h.0);
    }
