use Rattle.std.proofs.Common.{◌<◌, length}
use Rattle.std.proofs.lemmas.List.Elements.{All-from_recursion}
use Rattle.lq_logic_predicates.proofs.RowParts.{parts_within}
use Rattle.lq_logic_predicates.proofs.RowLevels.{row_once, row_level, row_holds, reading_meets, numbers_agree, point_agrees}
use Rattle.lq_logic_predicates.proofs.laws.rows_say_what_comparisons_say.Goals as goal

pub returns-clause-level : goal.returns-clause-level
returns-clause-level c = row_level

pub returns-clause-row : goal.returns-clause-row
returns-clause-row c = row_holds

pub returns-clause-reading : goal.returns-clause-reading
returns-clause-reading c = λ terms v p reading rows d g h. reading_meets terms v p d g reading rows h

pub returns-clause-valuation : goal.returns-clause-valuation
returns-clause-valuation c = numbers_agree

pub returns-clause-point : goal.returns-clause-point
returns-clause-point c = point_agrees

pub returns-clause-within : goal.returns-clause-within
returns-clause-within c = λ terms d row r.
    All-from_recursion (λ part. part.0 < length terms) row.parts (parts_within (length terms) 0 row.parts r.formed.ascending r.formed.nonzero r.within)

pub returns-clause-once : goal.returns-clause-once
returns-clause-once c = row_once
