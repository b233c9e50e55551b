use Rattle.lq_sound_scope.proofs.GeneralUsesLemmas.Composing.{texts_use}
use Rattle.lq_sound_scope.proofs.general_uses.laws.noted_texts_use_before.Goals as goal

pub returns : goal.returns
returns c =
    texts_use c.noted_programs_use_before.ensures c.normal_forms_use_before.ensures c.read_programs_use_before.ensures
    c.parsed_programs_are_written.ensures c.scoped_programs_are_plain.ensures c.programs_are_one_pass.ensures
