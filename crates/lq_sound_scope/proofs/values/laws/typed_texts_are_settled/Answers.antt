use Rattle.lq_sound_scope.proofs.values.laws.typed_texts_are_settled.Goals as goal

pub returns : goal.returns
returns c i n text knows = c.typed_programs_are_settled.ensures i n knows
