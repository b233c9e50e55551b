-- Frames, one more at the inner end.
use Rattle.std.proofs.Common.{◌≡◌, ℕ, ◌+◌, List, [], ◌∷◌, ◌++◌, refl, sym, ap, ◌∙◌, arith}
use Rattle.lq_meaning_normalize.specs.Pass.Forming.{Formed}
use Rattle.lq_meaning_normalize.specs.Normalize.Frames.{plugged, step_at}
use Rattle.lq_meaning_normalize.specs.Normalize.Work.{weight, weights}
use Rattle.lq_meaning_normalize.specs.declared.normalize.frames.Frame.{Frame}

pub plugged_more : (fs : List Frame) (f : Frame) (F : Formed) → plugged (fs ++ f ∷ []) F ≡ plugged fs (step_at f.label f.step F)
plugged_more [] f F = refl
plugged_more (g ∷ fs) f F = ap (step_at g.label g.step) (plugged_more fs f F)

pub weights_more : (fs : List Frame) (f : Frame) → weights (fs ++ f ∷ []) ≡ weights fs + weight f.step
weights_more [] f = omega arith
weights_more (g ∷ fs) f = let more = weights_more fs f in omega (arith, more)
