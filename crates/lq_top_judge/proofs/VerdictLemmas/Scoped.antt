-- What is to be solved is of a text that is scoped.
use Rattle.std.proofs.Common.{◌≡◌, Ok, ap, sym, subst, ◌∙◌}
use Rattle.lq_text_front.specs.Bytes.Stages.{Bound, Bytes}
use Rattle.lq_top_pose.specs.Stages.{PosesTo, Typed, program_in}
use Rattle.lq_text_walk.specs.Scoped.Scoping.{IsScoped}

pub scoped_text : (bytes : Bytes) (t : Typed) → PosesTo bytes (Ok t) → IsScoped (program_in t)
scoped_text bytes t posed =
    let typed = posed.1 in
    let same : t ≡ posed.0 = posed.2.0 in
    let bound : posed.0.bound ≡ typed.0 = typed.2.0 in
    subst (λ (b : Bound). IsScoped b.texts.program) (sym bound ∙ sym (ap (λ x. x.bound) same)) typed.2.1
