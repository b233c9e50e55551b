use Rattle.std.proofs.Common.{◌≡◌, refl}
use Rattle.lq_text_grammar.specs.declared.kind.Kind.{Kind}
use Rattle.lq_text_grammar.specs.declared.kind.Kind.TheVariants as kind
use Rattle.lq_text_grammar.specs.contracts.kind.Kind.{the_type}
use Rattle.lq_text_grammar.specs.Kinds.{code}
use Rattle.lq_text_grammar.proofs.kind.Kind.same.Goals as goal
use denote.Enum.Declared.{tag_of}

tag-code : (k : Kind) → tag_of the_type k ≡ code k
tag-code kind.Assert = refl
tag-code _ = refl

pub returns : goal.returns
returns c = rw (tag-code c.args.self, tag-code c.args.other) refl
