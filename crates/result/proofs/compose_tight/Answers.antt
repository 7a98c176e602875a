use Rattle.std.proofs.lemmas.Result.{err_from_is_err_and}
use mathlib.Core.Path.{refl, sym}
use mathlib.Core.Bool.{true≢false}
use Rattle.result.proofs.KindLaws.{indices_as, clear_not, dry_loose, dry_long, dry_indices, dry_clear, dry_short, dry_then}
use native.Mathlib.Omega.{arith}
use borrow.Author.Rules.{rules}
use Rattle.result.proofs.compose_tight.Goals as goal

pub pass_over-requires : goal.pass_over-requires
pass_over-requires c = let a = c.requires.ready.3 in
    record { ready = (c.requires.ready.0, c.requires.ready.1, c.requires.ready.2, omega arith, c.requires.ready.4, c.requires.ready.5); accepted = (c.requires.accepted.0, c.requires.accepted.1, indices_as _ _ _ _ _ _ _ _ c.requires.accepted.2, c.requires.accepted.3); dry = (λ h. omega (arith, c.requires.short), clear_not _ _ _ _ _ refl) }

pub overflow_sub-length : goal.overflow_sub-length
overflow_sub-length c = dry_long _ _ _ _ _ _ _ c.requires.short _ c.pass_over.ensures.0 _ c.in_ok-dry.was

pub returns-then-out-length : goal.returns-then-out-length
returns-then-out-length c = dry_short _ _ _ _ _ _ _ c.requires.short _ c.pass_over.ensures.0 _ c.in_ok-dry.was c.if-out-length.true

pub pass_over-requires-2 : goal.pass_over-requires-2
pass_over-requires-2 c = let a = c.requires.ready.3 in
    let p = c.pass_over in
    let x = c.in_ok-dry.was in
    record { ready = (c.requires.ready.0, c.requires.ready.1, search rules, omega arith, c.requires.ready.4, c.requires.ready.5); accepted = (c.requires.accepted.0, p.ensures.1.flags _ x, dry_indices _ _ _ _ _ _ _ c.requires.short _ p.ensures.0 _ x _ _ c.requires.accepted.2, c.requires.accepted.3); dry = (λ h. absurd (true≢false (sym h)), dry_clear _ _ _ _ _ _ _ c.requires.short _ p.ensures.0 _ x _) }

pub returns-in_err-dry : goal.returns-in_err-dry
returns-in_err-dry c =
    let p = err_from_is_err_and c.from_residual.result c.from_residual.ensures.1 in
    rw (p.1, p.2) (dry_loose _ _ _ _ _ _ _ c.requires.short _ c.pass_over.ensures.0 _ c.in_err-dry.was)

pub returns : goal.returns
returns c = dry_then _ _ _ _ _ _ _ c.requires.short _ c.pass_over.ensures.0 _ c.in_ok-dry.was _ _ c.pass_over-2.ensures.0
