use Rattle.std.proofs.Common.{length, ap}
use Rattle.lq_meaning_normal_form.specs.Outcomes.Flattening.{normal_of}
use Rattle.lq_refined_templates.specs.Points.Annotation.{Annotation}
use Rattle.lq_refined_templates.specs.Points.Reading.{program_of}
use Rattle.lq_sound_readiness.proofs.uniqueness.laws.one_reading.Goals as goal

pub returns : goal.returns
returns c = λ s n o scoped h l value. ap (λ (a : Annotation). program_of a (normal_of (length s.sources) s.items)) (c.one_annotation.ensures s n o scoped h l value)
