use mathlib.Core.Path.{◌≡◌}
use lib.ListN.{length, take}
use Rattle.skeleton.specs.Place.{fields_at}
use Rattle.book.specs.Book.{Met}
use Rattle.contents.specs.Codes.{codes_in, Apart, Behind}
use Rattle.contents.proofs.once.all_new.Given as goal

abbrev pub invariant-loop-y : goal.invariant-loop-y
invariant-loop-y l = (length l.t ≡ length l.initial.t) × Behind l.r l.h l.p l.y l.w × Met l.b (take l.y (codes_in (fields_at l.r l.h l.p))) l.t × Apart (codes_in (fields_at l.r l.h l.p)) l.y
