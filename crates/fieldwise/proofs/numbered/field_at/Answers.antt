use Rattle.std.proofs.Common.{◌≡◌, ◌+◌, ◌-◌, refl}
use native.Mathlib.Omega.{arith}
use Rattle.fieldwise.specs.Reader.{field_here}
use Rattle.fieldwise.proofs.NumberedLaws.{turn_none, turn_here, turn_on, from_start, field_zero}
use Rattle.fieldwise.proofs.numbered.field_at.Goals as goal

pub returns-then-n-eq0 : goal.returns-then-n-eq0
returns-then-n-eq0 c = field_zero c.args.rec.now c.args.n c.if-n-eq0.true

pub loop-init : goal.loop-init
loop-init c =
    let e : c.args.n + 1 - 1 ≡ c.args.n = omega arith in
    rw (c.start-reader.ensures, e) (refl, from_start c.args.rec.now c.args.n)

pub returns-in_err-here : goal.returns-in_err-here
returns-in_err-here c =
    let i = c.loop.invariant in
    let p : c.here.result ≡ field_here c.args.rec.now c.loop.reader.at = rw i.0 at c.here.ensures in
    rw c.from_residual.ensures (turn_none _ _ _ _ i.1 _ p c.in_err-here.was)

pub loop-preserved : goal.loop-preserved
loop-preserved c =
    let i = c.loop.invariant in
    let p : c.here.result ≡ field_here c.args.rec.now c.loop.reader.at = rw i.0 at c.here.ensures in
    let e : c.args.n + 1 - (c.loop.counter + 1) ≡ c.args.n + 1 - c.loop.counter - 1 = omega arith in
    rw (c.next-reader.ensures, i.0, e) (refl, turn_on _ _ _ _ i.1 _ p _ c.in_ok-here.was (omega arith))

pub returns-in_err-field : goal.returns-in_err-field
returns-in_err-field c =
    let i = c.loop.invariant in
    let p : c.here-2.result ≡ field_here c.args.rec.now c.loop.reader.at = rw i.0 at c.here-2.ensures in
    rw c.from_residual-in_err-field.ensures (turn_none _ _ _ _ i.1 _ p c.in_err-field.was)

pub returns : goal.returns
returns c =
    let i = c.loop.invariant in
    let p : c.here-2.result ≡ field_here c.args.rec.now c.loop.reader.at = rw i.0 at c.here-2.ensures in
    turn_here _ _ _ _ i.1 _ p _ c.in_ok-field.was (omega arith)
