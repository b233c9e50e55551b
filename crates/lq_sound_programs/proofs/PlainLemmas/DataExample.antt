-- A program with a list, a tuple and a match on each is plain.
use Rattle.std.proofs.Common.{inl, ◌==◌, [], refl}
use Rattle.lq_sound_programs.specs.Safety.DataExample.{objects_by_size, data_basis, list_block, tuple_block}
use Rattle.lq_refined_types.specs.Types.Refined.{unit_type}
use Rattle.lq_sound_programs.specs.Safety.Example.{no_instances}
use Rattle.lq_sound_programs.proofs.SafetyLemmas.DataExample.{knows, listed, empty_list, filled_list, all_good, at_name, where_any, list_closed, pair_closed}
use Rattle.lq_sound_programs.specs.Plain.DataExample.{DataExampleIsPlain}
use Rattle.lq_sound_programs.specs.Plain.Plain.{IsPlainBlock}

list_plain : IsPlainBlock data_basis no_instances objects_by_size [] list_block unit_type
list_plain = (
  (tt, tt, knows, (λ k e. at_name 7 empty_list refl refl k e)),
  (((tt, (tt, tt), tt), ((refl, tt), tt)), ((refl, tt), tt)),
  (
    (
      (tt, tt, ((refl, tt), tt, tt)),
      (inl tt, (inl ((tt, ((tt, (tt, tt)), (tt, tt)), tt), (tt, tt), (λ c j i. tt), (λ c j i. tt)), tt)),
      knows,
      (λ k e. at_name 8 filled_list refl refl k e),
    ),
    (((tt, tt, tt), ((refl, (tt, refl)), tt)), ((refl, (tt, refl)), tt)),
    (
      (
        (refl, tt),
        inl tt,
        (
          (knows, listed, (λ c k h. all_good _ c k h)),
          (λ c.
              where_any (7 == c) _ _ ((λ k. (((refl, tt), tt), list_closed)), ((tt, tt), inl tt))
              (where_any (8 == c) _ _ ((λ k. (((refl, (tt, refl)), tt), (refl, (refl, (refl, (refl, tt))), (((tt, tt, tt), tt), tt), (refl, (refl, (refl, tt)), ((tt, tt), tt), list_closed)))), ((refl, tt), inl tt)) tt)),
          tt,
        ),
      ),
      tt,
    ),
  ),
)

tuple_plain : IsPlainBlock data_basis no_instances objects_by_size [] tuple_block unit_type
tuple_plain = (
  (tt, tt, (tt, tt, tt)),
  inl (tt, tt, (tt, tt, tt)),
  (
    (
      (refl, tt),
      inl (tt, (tt, tt)),
      (
        (((refl, tt), tt), (((refl, tt), tt), tt)),
        ((λ k. (refl, (refl, (refl, tt)), ((tt, ((refl, tt), tt)), ((refl, tt), tt)), (refl, (refl, tt), ((tt, ((refl, tt), tt)), ((refl, tt), tt)), pair_closed))), ((refl, tt), inl tt)),
      ),
    ),
    tt,
  ),
)

pub is_plain : DataExampleIsPlain
is_plain = (
  (tt, ((tt, ((refl, tt), tt)), ((refl, tt), (tt, ((refl, tt), tt))))),
  list_plain,
  (((tt, (tt, tt)), ((refl, tt), ((refl, tt), tt))), tuple_plain, tt),
)
