use Rattle.std.proofs.Common.{length}
use Rattle.lq_meaning_normal_form.specs.Types.Programs.{normal_items}
use Rattle.lq_sound_readiness.specs.Reading.Laws.{types_of}
use Rattle.lq_sound_readiness.proofs.programs.laws.typed_programs_are_ready.Goals as goal

pub returns : goal.returns
returns c D n s lists scoped written flat typed given uses =
    let k = length s.sources in
    let plain = c.scoped_programs_are_plain.ensures s scoped written in
    let normal = c.normal_forms_can_be_read.ensures k s.items (c.typed_programs_suit.ensures D.constructors (types_of n) s.items written flat typed) in
    c.normal_programs_are_ready.ensures D n (normal_items k s.items) normal
    (c.programs_keep_given_types.ensures D.constructors (types_of n) k s.items lists plain typed given) uses
    (c.binders_of_normal_forms_differ.ensures s scoped plain normal n)
