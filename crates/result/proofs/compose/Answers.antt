use mathlib.Core.Path.{refl, sym}
use mathlib.Core.Bool.{true≢false}
use Rattle.result.proofs.KindLaws.{indices_as, clear_not}
use native.Mathlib.Omega.{arith}
use Rattle.result.proofs.compose.Goals as goal

pub compose_tight-requires : goal.compose_tight-requires
compose_tight-requires c = record { ready = c.requires.ready; accepted = c.requires.accepted; short = c.is_tight.ensures c.if-is_tight.true }

pub pass_over-requires : goal.pass_over-requires
pass_over-requires c = let a = c.requires.ready.3 in
    record { ready = (c.requires.ready.0, c.requires.ready.1, c.requires.ready.2, omega arith, c.requires.ready.4, c.requires.ready.5); accepted = (c.requires.accepted.0, c.requires.accepted.1, indices_as _ _ _ _ _ _ _ _ c.requires.accepted.2, c.requires.accepted.3); dry = (λ h. absurd (true≢false (sym h)), clear_not _ _ _ _ _ refl) }
