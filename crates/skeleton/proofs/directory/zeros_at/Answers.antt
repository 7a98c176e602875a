use Prim.Native.Nat.{◌+◌, ◌*◌, ◌<◌}
use mathlib.Core.Path.{◌≡◌, refl}
use lib.ListN.{get_or}
use native.Mathlib.Omega.{arith}
use Rattle.skeleton.proofs.DirectoryLaws.{zeros_are}
use Rattle.skeleton.proofs.directory.zeros_at.Goals as goal

pub returns : goal.returns
returns c =
    let r = c.args.r.now in
    let p = c.args.p in
    let e : c.from_le_bytes.result ≡ get_or r p 0 + get_or r (p + 1) 0 * 256 = omega arith in
    let x : get_or r p 0 < 256 = omega (arith, c.type_inv.r p) in
    let y : get_or r (p + 1) 0 < 256 = omega (arith, c.type_inv.r (p + 1)) in
    rw e (zeros_are r p _ _ x y refl refl)
