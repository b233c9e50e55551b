use Rattle.std.proofs.Common.{◌<◌, [], length, arith, sym}
use Rattle.lq_generate_operations.specs.Basis.Names.{bound}
use Rattle.lq_generate_operations.proofs.BasisLemmas.Binding.{all-back, length-bound, one-shorter, still-back}
use Rattle.lq_generate_operations.proofs.basis.names.Names.back_to.Goals as goal

pub loop-self-smaller : goal.loop-self-smaller
loop-self-smaller c =
    let now = c.loop-self.self in
    let v = now.bindings.ok.0 in
    let k = length-bound [] now.bindings.items in
    let n = c.len.ensures in
    let t = c.loop-self-test.true in
    let l : 0 < length (bound now) = omega arith in
    let s = one-shorter (bound now) (bound c.back.new.self) l c.back.ensures in omega arith

pub loop-self-preserved : goal.loop-self-preserved
loop-self-preserved c =
    let init = c.args.self.now in
    let now = c.loop-self.self in
    let new = c.back.new.self in
    let v = now.bindings.ok.0 in
    let k = length-bound [] now.bindings.items in
    let n = c.len.ensures in
    let t = c.loop-self-test.true in
    let i = c.loop-self.invariant in
    let e = i.enough in
    let h = i.shorter in
    let l : c.args.len < length (bound now) = omega arith in
    let p : 0 < length (bound now) = omega arith in
    let s = one-shorter (bound now) (bound new) p c.back.ensures in
    record { is = still-back (bound init) (bound now) (bound new) i.is h p c.back.ensures; shorter = omega arith; enough = omega arith }

pub returns : goal.returns
returns c =
    let init = c.args.self.now in
    let now = c.loop-self.self in
    let v = now.bindings.ok.0 in
    let k = length-bound [] now.bindings.items in
    let n = c.len.ensures in
    let t = c.loop-self-test.false in
    let i = c.loop-self.invariant in
    all-back (bound init) (bound now) c.args.len i.is (omega arith) (sym i.enough) i.shorter
