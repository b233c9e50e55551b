use Rattle.std.proofs.Common.{◌≡◌, ℕ, length}
use Rattle.lq_generate_fresh.specs.Fresh.Views.{constructors_of}
use Rattle.lq_generate_fresh.proofs.fresh.fields.Datatypes.widen.Given as goal

abbrev pub invariant-loop : goal.invariant-loop
invariant-loop l = record {
  long : length l.self.rows.items ≡ l.counter;
  same : (d : ℕ) → constructors_of l.self d ≡ constructors_of l.fn.self d;
}
