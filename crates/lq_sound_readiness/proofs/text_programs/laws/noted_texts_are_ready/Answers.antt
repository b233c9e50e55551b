use Rattle.lq_sound_readiness.proofs.TextProgramsLemmas.Composing.{noted_ready}
use Rattle.lq_sound_readiness.proofs.text_programs.laws.noted_texts_are_ready.Goals as goal

pub returns : goal.returns
returns c =
    noted_ready (record {
      once = c.ready_is_once.ensures;
      typed = c.noted_texts_are_typed.ensures;
      written = c.parsed_programs_are_written.ensures;
      plain = c.scoped_programs_are_plain.ensures;
      differ = c.binders_of_normal_forms_differ.ensures;
      ready = c.normal_programs_are_ready.ensures;
      one_pass = c.programs_are_one_pass.ensures;
    })
