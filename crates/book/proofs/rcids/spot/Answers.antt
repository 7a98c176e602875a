use Rattle.book.proofs.RcidLaws.{spot_gone, spot_there, spot_not}
use Rattle.book.proofs.rcids.spot.Goals as goal

pub returns-then-not-sifted : goal.returns-then-not-sifted
returns-then-not-sifted c = spot_gone _ _ _ _ _ c.sifted.ensures c.rcid_of-rcid.ensures c.then-not-sifted.either

pub returns-then-b-j : goal.returns-then-b-j
returns-then-b-j c = spot_there _ _ _ _ _ c.sifted.ensures c.rcid_of-rcid.ensures c.if-not-sifted.false c.if-key-gt21474836479.false _
    c.leaf-j.ensures.0 c.if-b-j.true _ c.base.ensures.0

pub returns : goal.returns
returns c = spot_not _ _ _ _ _ c.sifted.ensures c.rcid_of-rcid.ensures c.if-not-sifted.false c.if-key-gt21474836479.false _
    c.leaf-j.ensures.0 c.if-b-j.false
