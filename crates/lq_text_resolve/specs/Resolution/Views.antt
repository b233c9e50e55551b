-- What stands in memory.
use Rattle.std.specs.Prelude.{Option, Some, None, Result, Ok, Err}
use Rattle.lq_text_scope.specs.Views.{complaint_view}
use Rattle.lq_text_walk.specs.Scoped.Whole.{scoped_view}
use Rattle.lq_text_walk.specs.declared.scoped.scoped.Scoped.{Scoped}
use Rattle.lq_text_resolve.specs.Resolution.Resolution.{Resolution, resolved, refused}
use Rattle.lq_text_resolve.specs.declared.resolution.program.ResolveError.{ResolveError}
use Rattle.lq_text_resolve.specs.declared.resolution.program.ResolveError.TheVariants as error

-- want of memory is no resolution
abbrev pub error_view : ResolveError → Option Resolution
error_view (error.Complaint c) = Some (refused (complaint_view c))
error_view error.Memory = None

abbrev pub answer_view : Result Scoped ResolveError → Option Resolution
answer_view (Ok s) = Some (resolved (scoped_view s))
answer_view (Err e) = error_view e
