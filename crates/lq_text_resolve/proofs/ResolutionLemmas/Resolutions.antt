-- At most one resolution of a program.
use Rattle.std.proofs.Common.{◌≡◌, ℕ, List, [], Some, None, sym, ap, ◌∙◌}
use Rattle.lq_text_tree.specs.Items.{ItemTree}
use Rattle.lq_text_scope.specs.Complaints.{Complaint, least}
use Rattle.lq_text_scope.specs.Uses.{of_program}
use Rattle.lq_text_resolve.specs.Resolution.Resolution.{resolved, refused, OneResolution}

some_same : {A : Type 0} (a b : A) → Some a ≡ Some b → a ≡ b
some_same a b is = cc

never_both : (names : List (List ℕ)) (is : List ItemTree) (c : Complaint) → of_program names is ≡ [] → least (of_program names is) ≡ Some c → ⊥
never_both names is c none told = let wrong : None ≡ Some c = sym (ap least none) ∙ told in let e = wrong in absurd (cc)

pub one_resolution : OneResolution
one_resolution names is (resolved s) (resolved t) first second = ap (λ x. resolved x) (first.1 ∙ sym second.1)
one_resolution names is (resolved s) (refused c) first second = absurd (never_both names is c first.0 second)
one_resolution names is (refused c) (resolved s) first second = absurd (never_both names is c second.0 first)
one_resolution names is (refused c) (refused d) first second = ap (λ x. refused x) (some_same c d (sym first ∙ second))
