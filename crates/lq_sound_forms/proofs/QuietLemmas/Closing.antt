-- Values in the place of variables leave an expression quiet.
use Rattle.std.proofs.Common.{ℕ, Option, Some, None}
use Rattle.lq_meaning_steps.specs.Model.Core.{Core, val, use_of, fun, row, let_in, let_rec, call, one, two, three, and_of, or_of, if_else, match_on, seq, assert_false, Cores, none, more, Value, Pairs, value_in, bound_in, without, replaced, close, close_all}
use Rattle.lq_sound_forms.specs.Quiet.Quiet.{IsQuiet, AreQuiet}

replaced_quiet : (x : ℕ) (o : Option Value) → IsQuiet (replaced x o)
replaced_quiet x None = tt
replaced_quiet x (Some v) = tt

mutual
  pub close_quiet : (ps : Pairs) (e : Core) → IsQuiet e → IsQuiet (close ps e)
  close_quiet ps (val v) h = tt
  close_quiet ps (use_of x) h = replaced_quiet x (value_in ps x)
  close_quiet ps (fun q b) h = tt
  close_quiet ps (row r es) h = close_all_quiet ps es h
  close_quiet ps (let_in q e b) h = (h.0, close_quiet ps e h.1, close_quiet (without (bound_in q) ps) b h.2)
  close_quiet ps (let_rec f q b e) h = absurd h
  close_quiet ps (call f a) h = absurd h
  close_quiet ps (one o e) h = (h.0, close_quiet ps e h.1)
  close_quiet ps (two o a b) h = (h.0, close_quiet ps a h.1, close_quiet ps b h.2)
  close_quiet ps (three o a b c) h = absurd h
  close_quiet ps (and_of a b) h = (close_quiet ps a h.0, close_quiet ps b h.1)
  close_quiet ps (or_of a b) h = (close_quiet ps a h.0, close_quiet ps b h.1)
  close_quiet ps (if_else c a b) h = absurd h
  close_quiet ps (match_on p e cs) h = absurd h
  close_quiet ps (seq a b) h = absurd h
  close_quiet ps (assert_false p) h = absurd h

  pub close_all_quiet : (ps : Pairs) (es : Cores) → AreQuiet es → AreQuiet (close_all ps es)
  close_all_quiet ps none h = tt
  close_all_quiet ps (more e es) h = (close_quiet ps e h.0, close_all_quiet ps es h.1)
