-- A program whose names are bound.
use Rattle.std.proofs.Common.{refl}
use Rattle.lq_text_resolve.specs.Resolution.Example.{Examples}

pub examples : Examples
examples = record {
  unblamed = refl;
  becomes = refl;
  scoped = record { nodes = refl; counted = refl; binders = refl; named = refl; scoped = refl };
}
