-- What the call answers.
use Rattle.std.specs.Prelude.{ℕ, map, Option, Some, None, Result, Ok, Err}
use Rattle.lq_base_names.specs.declared.place.Place.{Place}
use Rattle.lq_text_scope.specs.Complaints as program
use Rattle.lq_text_scope.specs.Views as program_views
use Rattle.lq_text_walk.specs.Scoped.Whole.{scoped_view}
use Rattle.lq_text_qualifiers.specs.Faults.Complaints as sorts
use Rattle.lq_text_qualifiers.specs.Faults.Views.{complaint_view}
use Rattle.lq_text_front.specs.Texts.Resolution.{Resolution, resolved, in_program, in_measures, in_qualifiers, Texts, texts}
use Rattle.lq_text_qualifiers.specs.Sorting.Views.{measure_view, qualifier_view}
use Rattle.lq_text_front.specs.declared.texts.texts.ResolveError.{ResolveError}
use Rattle.lq_text_front.specs.declared.texts.texts.ResolveError.TheVariants as error
use Rattle.lq_text_front.specs.declared.texts.texts.ScopedTexts.{ScopedTexts}

abbrev pub texts_view : ScopedTexts → Texts
texts_view t = texts (scoped_view t.program) (map measure_view t.measures.items) (map qualifier_view t.qualifiers.items)

-- want of memory is no resolution
abbrev pub error_view : ResolveError → Option Resolution
error_view (error.Program c) = Some (in_program (program_views.complaint_view c))
error_view (error.Measures c) = Some (in_measures (complaint_view c))
error_view (error.Qualifiers c) = Some (in_qualifiers (complaint_view c))
error_view error.Memory = None

abbrev pub answer_view : Result ScopedTexts ResolveError → Option Resolution
answer_view (Ok t) = Some (resolved (texts_view t))
answer_view (Err e) = error_view e

-- the code and the place of what is told
abbrev pub code_of : ResolveError → Option ℕ
code_of (error.Program c) = Some (program.code_of (program_views.complaint_view c).cause)
code_of (error.Measures c) = Some (sorts.code_of (complaint_view c).cause)
code_of (error.Qualifiers c) = Some (sorts.code_of (complaint_view c).cause)
code_of error.Memory = None

abbrev pub place_of : ResolveError → Option Place
place_of (error.Program c) = Some c.place
place_of (error.Measures c) = Some c.place
place_of (error.Qualifiers c) = Some c.place
place_of error.Memory = None
