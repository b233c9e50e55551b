use Rattle.lq_sound_readiness.proofs.normal_texts.laws.typed_texts_have_rules.Goals as goal

pub returns : goal.returns
returns c text names tokens is read known n obeys =
    let types = c.annotated_programs_have_types.ensures known is n obeys in
    (c.typed_programs_have_rules.ensures _ (c.parsed_programs_are_written.ensures text names tokens is read known) types, types)
