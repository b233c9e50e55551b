-- Types for names that run from a number on are given to the names.
use Rattle.std.proofs.Common.{◌≡◌, ℕ, ◌+◌, ◌<◌, ◌≤◌, ◌==◌, nat_lt, Bool, true, false, if◌then◌else◌, [], ◌∷◌, refl, ap, ◌∙◌, arith}
use Rattle.std.proofs.lemmas.Bool.{eqb-true}
use Rattle.std.proofs.lemmas.Bool.Decides.{Decides-eqb, Decides-ltb}
use Rattle.lq_meaning_normal_form.specs.Types.Made.{Given, Gives, Runs, look, with_made}
use Rattle.lq_text_tree.specs.TypingRules.{Annotation}

differ : (x k : ℕ) → k + 1 ≤ x → (b : Bool) → (b ≡ true → k ≡ x) → b ≡ false
differ x k h true same = let e = same refl in absurd (omega (arith, h, e))
differ x k h false same = refl

given_from : (m : Annotation) (xs : Given) (k j : ℕ) → Runs k xs j → ((x : ℕ) → k ≤ x → m.binders x ≡ look xs x) → Gives m xs
given_from m [] k j r h = tt
given_from m (y ∷ ys) k j r h =
    let low : k ≤ y.0 = (let e = r.0 in omega (arith, e)) in
    let one = ap (λ b. if b then y.1 else look ys y.0) ((Decides-eqb y.0 y.0).1 refl) in (
      h y.0 low ∙ one,
      given_from m ys (k + 1) j r.1
          (λ x above. let e = r.0 in let later : k ≤ x = omega (arith, above) in let above_y : y.0 + 1 ≤ x = omega (arith, above, e) in
          h x later ∙ ap (λ b. if b then y.1 else look ys x) (differ x y.0 above_y (y.0 == x) (eqb-true y.0 x))),
    )

not_below : (x k : ℕ) → k ≤ x → (b : Bool) → (b ≡ true → x < k) → b ≡ false
not_below x k h true below = let less = below refl in absurd (omega (arith, h, less))
not_below x k h false below = refl

pub given : (n : Annotation) (xs : Given) (k j : ℕ) → Runs k xs j → Gives (with_made k xs n) xs
given n xs k j r =
    given_from (with_made k xs n) xs k j r
    (λ x above. ap (λ b. if b then n.binders x else look xs x) (not_below x k above (nat_lt x k) (Decides-ltb x k).0))

pub as_before : (n : Annotation) (xs : Given) (k x : ℕ) → x < k → (with_made k xs n).binders x ≡ n.binders x
as_before n xs k x below = ap (λ b. if b then n.binders x else look xs x) ((Decides-ltb x k).1 below)
