use native.Mathlib.Omega.{arith}
use Rattle.writing.proofs.MeasuringLaws.{length_product, length_head, length_word, length_is}
use Rattle.emission.proofs.SizeLaws.{held_measured}
use Rattle.emission.proofs.LengthLaws.{held_small, held_summed}
use Rattle.emission.proofs.measuring.version_length.Goals as goal

pub measure-m-requires : goal.measure-m-requires
measure-m-requires c = tt

pub sum_up-s-requires : goal.sum_up-s-requires
sum_up-s-requires c = held_small _ _ _ _ c.requires.d_len_bound c.requires.held.0 c.requires.held.1 _ (held_measured _ _ _ _ c.requires.d_len_bound c.requires.held.0 c.requires.held.1 _ c.measure-m.ensures)

pub overflow_mul-result : goal.overflow_mul-result
overflow_mul-result c = omega (arith, length_product _ _ (held_summed _ _ _ _ c.requires.d_len_bound c.requires.held.0 c.requires.held.1 _ (held_measured _ _ _ _ c.requires.d_len_bound c.requires.held.0 c.requires.held.1 _ c.measure-m.ensures) (λ k. omega (arith, c.type_inv.work k)) _ c.sum_up-s.ensures))

pub overflow_add-result : goal.overflow_add-result
overflow_add-result c = omega (arith, length_head _ _ (held_summed _ _ _ _ c.requires.d_len_bound c.requires.held.0 c.requires.held.1 _ (held_measured _ _ _ _ c.requires.d_len_bound c.requires.held.0 c.requires.held.1 _ c.measure-m.ensures) (λ k. omega (arith, c.type_inv.work k)) _ c.sum_up-s.ensures))

pub overflow_add-result-2 : goal.overflow_add-result-2
overflow_add-result-2 c = omega (arith, length_word _ _ (held_summed _ _ _ _ c.requires.d_len_bound c.requires.held.0 c.requires.held.1 _ (held_measured _ _ _ _ c.requires.d_len_bound c.requires.held.0 c.requires.held.1 _ c.measure-m.ensures) (λ k. omega (arith, c.type_inv.work k)) _ c.sum_up-s.ensures))

pub returns : goal.returns
returns c = λ r h. length_is _ _ (held_summed _ _ _ _ c.requires.d_len_bound r h _ (held_measured _ _ _ _ c.requires.d_len_bound c.requires.held.0 c.requires.held.1 _ c.measure-m.ensures) (λ k. omega (arith, c.type_inv.work k)) _ c.sum_up-s.ensures)
