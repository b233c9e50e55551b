-- Texts that are written piece by piece.
use Rattle.std.proofs.Common.{◌≡◌, ◌∙◌, ◌++◌, ℕ, List, Result, Ok, Err, OnOk, is_ok, if◌then◌else◌, ap, append_assoc}

pub three_written : {T E : Type 0} (r : Result T E) (x a b d y z w : List ℕ) → y ≡ x ++ a → z ≡ y ++ b → w ≡ (if is_ok r then z ++ d else z)
    → OnOk r (w ≡ x ++ (a ++ (b ++ d)))
three_written (Ok u) x a b d y z w p q h =
    let flat : ((x ++ a) ++ b) ++ d ≡ x ++ (a ++ (b ++ d)) = simp append_assoc in
    h ∙ ap (λ (t : List ℕ). t ++ d) q ∙ ap (λ (t : List ℕ). (t ++ b) ++ d) p ∙ flat
three_written (Err e) x a b d y z w p q h = tt

pub four_written : {T E : Type 0} (r : Result T E) (x a b c d y z v w : List ℕ) → y ≡ x ++ a → z ≡ y ++ b → v ≡ z ++ c → w ≡ (if is_ok r then v ++ d else v)
    → OnOk r (w ≡ x ++ (a ++ (b ++ (c ++ d))))
four_written (Ok u) x a b c d y z v w p q s h =
    let flat : (((x ++ a) ++ b) ++ c) ++ d ≡ x ++ (a ++ (b ++ (c ++ d))) = simp append_assoc in
    h ∙ ap (λ (t : List ℕ). t ++ d) s ∙ ap (λ (t : List ℕ). (t ++ c) ++ d) q ∙ ap (λ (t : List ℕ). ((t ++ b) ++ c) ++ d) p ∙ flat
four_written (Err e) x a b c d y z v w p q s h = tt

pub lines_written : {T E : Type 0} (r : Result T E) (x a b c d y z v w : List ℕ) → y ≡ x ++ a → z ≡ y ++ b → v ≡ z ++ c → OnOk r (w ≡ v ++ d)
    → OnOk r (w ≡ x ++ (a ++ (b ++ (c ++ d))))
lines_written {E = E} (Ok u) x a b c d y z v w p q s h = four_written {E = E} (Ok u) x a b c d y z v w p q s h
lines_written (Err e) x a b c d y z v w p q s h = tt
