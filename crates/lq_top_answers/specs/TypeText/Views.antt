-- How types are written, as it stands in memory.
use Rattle.std.specs.Prelude.{ℕ, List, [], map, slice_get, Option, Some, None, false}
use Rattle.std.specs.declared.alloc.Global.{Global}
use Rattle.std.specs.declared.vec.Vec.{Vec}
use Rattle.lq_base_names.specs.declared.name.Name.{Name}
use Rattle.lq_logic_text.specs.Views.{made_view, source_view}
use Rattle.lq_top_answers.specs.TypeText.Types as types
use Rattle.lq_top_answers.specs.declared.type_text.writing.Parameters.{Parameters}
use Rattle.lq_top_answers.specs.declared.type_text.writing.Writing.{Writing}

abbrev pub names_at : Option (Vec Name Global) → List ℕ
names_at None = []
names_at (Some row) = map (λ x. x.0) row.items

abbrev pub parameters_view : Parameters → ℕ → List ℕ
parameters_view all d = names_at (slice_get all.rows.items d)

-- no two binders are told apart: each has its plain name
abbrev pub writing_view : Writing → types.Writing
writing_view w =
    record {
      calling = record { names = w.table.now; sources = map source_view w.sources.now; made = made_view w.made.now; told_apart = false };
      parameters = parameters_view w.parameters.now;
    }
