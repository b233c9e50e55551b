use Rattle.std.proofs.Common.{◌≡◌, Err, IfErr, map, refl, sym, ap, subst, ◌∙◌, rules}
use Rattle.lq_text_front.proofs.BytesLemmas.Dues.{still_by, then_by}
use Rattle.lq_text_front.specs.Bytes.Stages.{BindsTo, bytes_of}
use Rattle.lq_text_front.specs.Bytes.Views.{IsBy}
use Rattle.lq_text_qualifiers.specs.Sorting.Views.{measure_view, qualifier_view}
use Rattle.lq_top_pose.specs.Stages.{ArePosed, AreTyped, PosesTo, TypesTo}
use Rattle.lq_top_pose.proofs.Problems.{IsOver, IsRefusedOver, Parts, instances_over, parts_of, posed_there, problem_due, with_parts}
use Rattle.lq_top_pose.proofs.posing.pose_texts.Goals as goal

pub returns-in_err-texts-clause-refused : goal.returns-in_err-texts-clause-refused
returns-in_err-texts-clause-refused c =
    let bytes = bytes_of c.args.program.now c.args.measures.now c.args.qualifiers.now in
    let b = c.in_ok-bound.ensures.bound in
    let n = c.in_err-texts.field-0.0 in
    let was : c.from_residual-in_err-texts.result ≡ Err n = search rules in
    subst (λ r. IfErr r (λ e. IsBy (PosesTo bytes) e)) (sym was)
    (still_by TypesTo ArePosed bytes n (then_by BindsTo AreTyped bytes b.0 n b.1 (c.in_err-texts.ensures.refused bytes b.0 b.1 b.2)))

pub pose-requires-clause-differ : goal.pose-requires-clause-differ
pose-requires-clause-differ c =
    let b = c.in_ok-bound.ensures.bound in
    (c.in_ok-texts.ensures.posable (bytes_of c.args.program.now c.args.measures.now c.args.qualifiers.now) b.0 b.1 b.2).differ

pub pose-requires-clause-ready : goal.pose-requires-clause-ready
pose-requires-clause-ready c =
    let b = c.in_ok-bound.ensures.bound in
    (c.in_ok-texts.ensures.posable (bytes_of c.args.program.now c.args.measures.now c.args.qualifiers.now) b.0 b.1 b.2).ready
    (map measure_view c.deref.result.now)

pub returns-in-Ok-clause-posed : goal.returns-in-Ok-clause-posed
returns-in-Ok-clause-posed c =
    let bytes = bytes_of c.args.program.now c.args.measures.now c.args.qualifiers.now in
    let b = c.in_ok-bound.ensures.bound in
    let m = c.in_ok-texts.texts in
    let t = c.in_ok-texts.ensures.typed bytes b.0 b.1 b.2 in
    let q = parts_of m in
    let handed = with_parts q.datatypes (map measure_view c.deref.result.now) q.annotation q.items (map qualifier_view c.deref-2.result.now) in
    let over : IsOver c.in-Ok.problem handed = record {
      program = c.in-Ok.ensures.program;
      templates = c.in-Ok.ensures.templates;
      there = c.in-Ok.ensures.there;
      scopes = c.in-Ok.ensures.scopes;
      instances = instances_over c.in-Ok.problem handed c.deref.result.now refl c.in-Ok.ensures.instances;
      implications = c.in-Ok.ensures.implications;
      few_replacements = c.in-Ok.ensures.few.0;
      few = c.in-Ok.ensures.few.1;
    } in
    let same : handed ≡ q =
    ap (λ ms. with_parts q.datatypes (map measure_view ms) q.annotation q.items (map qualifier_view c.deref-2.result.now)) c.deref.ensures.value
    ∙ ap (λ qs. with_parts q.datatypes q.measures q.annotation q.items (map qualifier_view qs)) c.deref-2.ensures.value in
    let posed = posed_there m t.0 c.in-Ok.problem t.2 (subst (IsOver c.in-Ok.problem) same over) in
    (t.0, (t.0, (b.0, b.1, t.1), posed.0), record { names = t.2.names; program = t.2.program; annotation = t.2.annotation; normal = t.2.normal; problem = posed.1 })

pub returns-in-Err-clause-refused : goal.returns-in-Err-clause-refused
returns-in-Err-clause-refused c =
    let bytes = bytes_of c.args.program.now c.args.measures.now c.args.qualifiers.now in
    let b = c.in_ok-bound.ensures.bound in
    let m = c.in_ok-texts.texts in
    let t = c.in_ok-texts.ensures.typed bytes b.0 b.1 b.2 in
    let q = parts_of m in
    let handed = with_parts q.datatypes (map measure_view c.deref.result.now) q.annotation q.items (map qualifier_view c.deref-2.result.now) in
    let same : handed ≡ q =
    ap (λ ms. with_parts q.datatypes (map measure_view ms) q.annotation q.items (map qualifier_view c.deref-2.result.now)) c.deref.ensures.value
    ∙ ap (λ qs. with_parts q.datatypes q.measures q.annotation q.items (map qualifier_view qs)) c.deref-2.ensures.value in
    let why = subst (λ (p : Parts). IsRefusedOver p c.in-Err.error) same c.in-Err.ensures.refused in
    then_by TypesTo ArePosed bytes t.0 c.too_many.result (b.0, b.1, t.1) (problem_due m t.0 c.in-Err.error c.too_many.result t.2 why c.too_many.ensures)
