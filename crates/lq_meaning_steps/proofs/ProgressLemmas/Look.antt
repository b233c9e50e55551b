-- What a value of a type looks like.
use Rattle.std.proofs.Common.{inl, inr, refl, sym, subst}
use Rattle.lq_meaning_steps.specs.Model.Core.{v_whole, v_flag, v_unit, v_fun, v_rec, v_tuple, v_build, v_array}
use Rattle.lq_meaning_steps.specs.Progress.Laws.{Looks, HasLook}

pub looks : HasLook
looks g t (v_whole n) a h = subst (λ x. Looks g t x (v_whole n)) (sym h) (n, refl)
looks g t (v_flag b) a h = subst (λ x. Looks g t x (v_flag b)) (sym h) (b, refl)
looks g t v_unit a h = subst (λ x. Looks g t x v_unit) (sym h) refl
looks g t (v_fun q b) a h = subst (λ x. Looks g t x (v_fun q b)) (sym h.3) (inl (q, b, refl))
looks g t (v_rec f q b) a h = subst (λ x. Looks g t x (v_rec f q b)) (sym h.3) (inr (f, q, b, refl))
looks g t (v_tuple vs) a h = subst (λ x. Looks g t x (v_tuple vs)) (sym h.2) (vs, refl, h.1)
looks g t (v_build c vs) a h =
    let r = h.2 in
    subst (λ x. Looks g t x (v_build c vs)) (sym r.3) (c, vs, h.0, refl, h.1, (r.0, r.1, r.2, refl, r.4, r.5))
looks g t (v_array r n) a h = subst (λ x. Looks g t x (v_array r n)) (sym h.1) (r, n, refl, h.2)
