-- What is taken of a name that is bound.
use Rattle.std.specs.Prelude.{◌≡◌, ℕ, ◌&&◌, [], ◌∷◌, ◌++◌, if◌then◌else◌}
use Rattle.lq_refined_templates.specs.Points.Annotation.{Annotation}
use Rattle.lq_refined_templates.specs.Points.Seen.{Seen, is_before}
use Rattle.lq_generate_reading.specs.Visibility.Stack.{names_view}
use Rattle.lq_generate_reading.specs.Visibility.Walking.{has_new_text, walked_texts}
use Rattle.lq_generate_reading.specs.declared.visibility.bound.Walked.{Walked}

pub record Takes (n : Annotation) (i : ℕ) (old new : Walked) (s : Seen) : Type 0 where
  pub texts : new.texts.keys ≡ (if is_before i s.until && has_new_text old.texts.keys (n.text s.name) then walked_texts old.texts.keys (n.text s.name)
      else old.texts.keys)
  pub names : names_view new.names.items ≡ (if is_before i s.until && has_new_text old.texts.keys (n.text s.name) then names_view old.names.items ++ s.name ∷ []
      else names_view old.names.items)
