use Rattle.lq_sound_readiness.proofs.typed_texts.laws.typed_texts_suit.Goals as goal

pub returns : goal.returns
returns c text names tokens is read known n obeys =
    c.typed_programs_suit.ensures _ n _ (c.parsed_programs_are_written.ensures text names tokens is read known)
    (c.texts_have_flat_patterns.ensures text names tokens is read known) obeys
