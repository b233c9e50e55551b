use Rattle.std.proofs.Common.{List, refl, sym, subst}
use Rattle.lq_text_walk.specs.Scoped.Signature.{DataTree, signature_in}
use Rattle.lq_text_tree.specs.Types.{KnowsLists}
use Rattle.lq_text_resolve.specs.Resolution.Resolution.{scoping_of}
use Rattle.lq_sound_readiness.proofs.programs.laws.typed_texts_are_ready.Goals as goal

-- a program's constructors have those of lists before them
knows_lists : (ds : List DataTree) → KnowsLists (signature_in ds)
knows_lists ds = record { empty = refl; filled = refl }

pub returns : goal.returns
returns c text names tokens is read known D n scoped same typed given uses =
    let s = scoping_of known is in
    c.typed_programs_are_ready.ensures D n s (subst KnowsLists (sym same) (knows_lists s.datatypes)) scoped
    (c.parsed_programs_are_written.ensures text names tokens is read known) (c.texts_have_flat_patterns.ensures text names tokens is read known)
    typed given uses
