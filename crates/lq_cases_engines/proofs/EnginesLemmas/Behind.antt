-- Rows that stand behind others, each tagged with its place.
use Rattle.std.proofs.Common.{◌≡◌, ◌≤◌, ◌+◌, ℕ, List, [], ◌∷◌, ◌++◌, drop, length, take, sym, ap, subst, ◌∙◌, arith}
use Rattle.std.proofs.lemmas.List.{length-append, take-append-drop, take-append-le}
use Rattle.std.proofs.Math.Seq.{take-length}
use Rattle.lq_logic_rows.specs.Contradiction.{Tagged}
use Rattle.lq_logic_rows.specs.Row.{Row}
use Rattle.lq_cases_engines.specs.Engines.Rows.{AreByPlace, StandBehind}
use Rattle.lq_cases_engines.proofs.EnginesLemmas.Making.{apart_after, none_more}

pub none_behind : (rows : Tagged) → StandBehind rows rows
none_behind rows = record { front = take-length rows; more = omega arith }

pub placed_next : (rows : Tagged) (tag : ℕ) (r : Row) → tag ≡ length rows → AreByPlace rows → AreByPlace (rows ++ (tag, r) ∷ [])
placed_next rows tag r is placed t h =
    let l = length-append rows ((tag, r) ∷ []) in
    none_more rows tag t r (apart_after tag t (omega (arith, h, l, is))) (placed t (omega (arith, h, l, is)))
