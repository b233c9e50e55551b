use Rattle.std.proofs.Common.{◌≡◌, ap, ◌∙◌, arith}
use Rattle.lq_base_names.specs.declared.name.Binder.{Binder}
use Rattle.lq_text_tree.specs.TreeView.{function_view, scoped_view, trees_view, cases_view}
use Rattle.lq_text_tree.specs.PatternView.{pat_view}
use Rattle.lq_text_tree.specs.declared.expr.Expr.{out-Expr}
use Rattle.lq_text_walk.specs.Walk.Shape as shape
use Rattle.lq_text_walk.specs.Walk.Shape.{listed, listed_cases}
use Rattle.lq_text_walk.specs.Walk.View.{leaf_view, one_view, two_view, three_view, row_view}
use Rattle.lq_meaning_normalize.specs.Pass.Forming.{placed}
use Rattle.lq_meaning_normalize.specs.Pass.Views.{lets_of}
use Rattle.lq_meaning_normalize.specs.Normalize.Frames.{plugged}
use Rattle.lq_meaning_normalize.proofs.NormalizeLemmas.BodySteps.{match_next}
use Rattle.lq_meaning_normalize.proofs.NormalizeLemmas.Shapes.{formed_seen, size_seen}
use Rattle.lq_meaning_normalize.proofs.normalize.frames.Machine.enter.Goals as goal

pub returns-in-Leaf-clause-whole : goal.returns-in-Leaf-clause-whole
returns-in-Leaf-clause-whole c =
    let P = c.args.self.now.pass in
    ap (plugged c.args.self.now.frames.items)
    (ap (placed (lets_of P) P.next) c.leaf.ensures
    ∙ formed_seen c.args.source.now (shape.leaf (leaf_view Binder (λ b. b.0) c.in-Leaf.leaf)) (lets_of P) P.next c.in-Leaf.ensures)

pub returns-in-Leaf-clause-work : goal.returns-in-Leaf-clause-work
returns-in-Leaf-clause-work c = let size = size_seen c.args.source.now (shape.leaf (leaf_view Binder (λ b. b.0) c.in-Leaf.leaf)) c.in-Leaf.ensures in omega (arith, size)

pub returns-in_ok-next-in-One-clause-whole : goal.returns-in_ok-next-in-One-clause-whole
returns-in_ok-next-in-One-clause-whole c =
    let P = c.args.self.now.pass in
    c.in_ok-next-in-One.ensures.whole
    ∙ ap (plugged c.args.self.now.frames.items) (formed_seen c.args.source.now (shape.one (one_view c.in-One.head) (scoped_view c.in-One.a.now)) (lets_of P) P.next c.in-One.ensures)

pub returns-in_ok-next-in-One-clause-work : goal.returns-in_ok-next-in-One-clause-work
returns-in_ok-next-in-One-clause-work c =
    let size = size_seen c.args.source.now (shape.one (one_view c.in-One.head) (scoped_view c.in-One.a.now)) c.in-One.ensures in omega (arith, size, c.in_ok-next-in-One.ensures.work)

pub returns-in_ok-next-in-Two-clause-whole : goal.returns-in_ok-next-in-Two-clause-whole
returns-in_ok-next-in-Two-clause-whole c =
    let P = c.args.self.now.pass in
    c.in_ok-next-in-Two.ensures.whole
    ∙ ap (plugged c.args.self.now.frames.items) (formed_seen c.args.source.now (shape.two (two_view c.in-Two.head) (scoped_view c.in-Two.a.now) (scoped_view c.in-Two.b.now)) (lets_of P) P.next c.in-Two.ensures)

pub returns-in_ok-next-in-Two-clause-work : goal.returns-in_ok-next-in-Two-clause-work
returns-in_ok-next-in-Two-clause-work c =
    let size = size_seen c.args.source.now (shape.two (two_view c.in-Two.head) (scoped_view c.in-Two.a.now) (scoped_view c.in-Two.b.now)) c.in-Two.ensures in omega (arith, size, c.in_ok-next-in-Two.ensures.work)

pub returns-in_ok-next-in-Three-clause-whole : goal.returns-in_ok-next-in-Three-clause-whole
returns-in_ok-next-in-Three-clause-whole c =
    let P = c.args.self.now.pass in
    c.in_ok-next-in-Three.ensures.whole
    ∙ ap (plugged c.args.self.now.frames.items) (formed_seen c.args.source.now (shape.three (three_view c.in-Three.head) (scoped_view c.in-Three.a.now) (scoped_view c.in-Three.b.now) (scoped_view c.in-Three.c.now)) (lets_of P) P.next c.in-Three.ensures)

pub returns-in_ok-next-in-Three-clause-work : goal.returns-in_ok-next-in-Three-clause-work
returns-in_ok-next-in-Three-clause-work c =
    let size = size_seen c.args.source.now (shape.three (three_view c.in-Three.head) (scoped_view c.in-Three.a.now) (scoped_view c.in-Three.b.now) (scoped_view c.in-Three.c.now)) c.in-Three.ensures in omega (arith, size, c.in_ok-next-in-Three.ensures.work)

pub returns-in_ok-next-in-Row-clause-whole : goal.returns-in_ok-next-in-Row-clause-whole
returns-in_ok-next-in-Row-clause-whole c =
    let P = c.args.self.now.pass in
    c.in_ok-next-in-Row.ensures.whole
    ∙ ap (plugged c.args.self.now.frames.items) (formed_seen c.args.source.now (shape.row (row_view c.in-Row.head) (listed (trees_view Binder (λ b. b.0) c.in-Row.parts.now))) (lets_of P) P.next c.in-Row.ensures)

pub returns-in_ok-next-in-Row-clause-work : goal.returns-in_ok-next-in-Row-clause-work
returns-in_ok-next-in-Row-clause-work c =
    let size = size_seen c.args.source.now (shape.row (row_view c.in-Row.head) (listed (trees_view Binder (λ b. b.0) c.in-Row.parts.now))) c.in-Row.ensures in omega (arith, size, c.in_ok-next-in-Row.ensures.work)

pub returns-in_ok-next-in-Fun-clause-whole : goal.returns-in_ok-next-in-Fun-clause-whole
returns-in_ok-next-in-Fun-clause-whole c =
    let P = c.args.self.now.pass in
    c.in_ok-next-in-Fun.ensures.whole
    ∙ ap (plugged c.args.self.now.frames.items) (formed_seen c.args.source.now (shape.function (pat_view Binder (λ b. b.0) c.in-Fun.p.now) (scoped_view c.in-Fun.b.now)) (lets_of P) P.next c.in-Fun.ensures)

pub returns-in_ok-next-in-Fun-clause-work : goal.returns-in_ok-next-in-Fun-clause-work
returns-in_ok-next-in-Fun-clause-work c =
    let size = size_seen c.args.source.now (shape.function (pat_view Binder (λ b. b.0) c.in-Fun.p.now) (scoped_view c.in-Fun.b.now)) c.in-Fun.ensures in omega (arith, size, c.in_ok-next-in-Fun.ensures.work)

pub returns-in_ok-next-in-Let-clause-whole : goal.returns-in_ok-next-in-Let-clause-whole
returns-in_ok-next-in-Let-clause-whole c =
    let P = c.args.self.now.pass in
    c.in_ok-next-in-Let.ensures.whole
    ∙ ap (plugged c.args.self.now.frames.items) (formed_seen c.args.source.now (shape.let_in (pat_view Binder (λ b. b.0) c.in-Let.p.now) (scoped_view c.in-Let.e.now) (scoped_view c.in-Let.b.now)) (lets_of P) P.next c.in-Let.ensures)

pub returns-in_ok-next-in-Let-clause-work : goal.returns-in_ok-next-in-Let-clause-work
returns-in_ok-next-in-Let-clause-work c =
    let size = size_seen c.args.source.now (shape.let_in (pat_view Binder (λ b. b.0) c.in-Let.p.now) (scoped_view c.in-Let.e.now) (scoped_view c.in-Let.b.now)) c.in-Let.ensures in omega (arith, size, c.in_ok-next-in-Let.ensures.work)

pub returns-in_ok-next-in-LetRec-clause-whole : goal.returns-in_ok-next-in-LetRec-clause-whole
returns-in_ok-next-in-LetRec-clause-whole c =
    let P = c.args.self.now.pass in
    c.in_ok-next-in-LetRec.ensures.whole
    ∙ ap (plugged c.args.self.now.frames.items) (formed_seen c.args.source.now (shape.let_rec c.in-LetRec.f.now.0 (function_view Binder (λ b. b.0) c.in-LetRec.r.now).id (function_view Binder (λ b. b.0) c.in-LetRec.r.now).place (function_view Binder (λ b. b.0) c.in-LetRec.r.now).parameter (function_view Binder (λ b. b.0) c.in-LetRec.r.now).body (scoped_view c.in-LetRec.e.now)) (lets_of P) P.next c.in-LetRec.ensures)

pub returns-in_ok-next-in-LetRec-clause-work : goal.returns-in_ok-next-in-LetRec-clause-work
returns-in_ok-next-in-LetRec-clause-work c =
    let size = size_seen c.args.source.now (shape.let_rec c.in-LetRec.f.now.0 (function_view Binder (λ b. b.0) c.in-LetRec.r.now).id (function_view Binder (λ b. b.0) c.in-LetRec.r.now).place (function_view Binder (λ b. b.0) c.in-LetRec.r.now).parameter (function_view Binder (λ b. b.0) c.in-LetRec.r.now).body (scoped_view c.in-LetRec.e.now)) c.in-LetRec.ensures in omega (arith, size, c.in_ok-next-in-LetRec.ensures.work)

pub returns-in_ok-next-in-Match-clause-whole : goal.returns-in_ok-next-in-Match-clause-whole
returns-in_ok-next-in-Match-clause-whole c =
    let P = c.args.self.now.pass in
    c.in_ok-next-in-Match.ensures.whole
    ∙ ap (plugged c.args.self.now.frames.items) (match_next (out-Expr Binder c.args.source.now).id (out-Expr Binder c.args.source.now).place (scoped_view c.in-Match.e.now) (listed_cases (cases_view Binder (λ b. b.0) c.in-Match.arms.now)) (lets_of P) P.next ∙ formed_seen c.args.source.now (shape.match_on (scoped_view c.in-Match.e.now) (listed_cases (cases_view Binder (λ b. b.0) c.in-Match.arms.now))) (lets_of P) P.next c.in-Match.ensures)

pub returns-in_ok-next-in-Match-clause-work : goal.returns-in_ok-next-in-Match-clause-work
returns-in_ok-next-in-Match-clause-work c =
    let size = size_seen c.args.source.now (shape.match_on (scoped_view c.in-Match.e.now) (listed_cases (cases_view Binder (λ b. b.0) c.in-Match.arms.now))) c.in-Match.ensures in omega (arith, size, c.in_ok-next-in-Match.ensures.work)
