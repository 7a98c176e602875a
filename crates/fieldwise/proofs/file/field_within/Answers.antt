use Rattle.std.proofs.Common.{◌≡◌, Some}
use Rattle.fieldwise.proofs.InFileLaws.{within_none, within_there, within_ways}
use Rattle.fieldwise.proofs.file.field_within.Goals as goal

pub overflow_add-result : goal.overflow_add-result
overflow_add-result c = let w : c.field_at.result ≡ Some c.in_ok-field.field = c.in_ok-field.was in search within_ways

pub overflow_add-result-2 : goal.overflow_add-result-2
overflow_add-result-2 c = let w : c.field_at.result ≡ Some c.in_ok-field.field = c.in_ok-field.was in search within_ways

pub returns-in_err-field : goal.returns-in_err-field
returns-in_err-field c = rw c.from_residual.ensures (within_none _ _ _ _ _ c.field_at.ensures c.in_err-field.was)

pub returns : goal.returns
returns c = within_there _ _ _ _ _ c.field_at.ensures _ c.in_ok-field.was
