use Rattle.listing.proofs.TableLaws.{table_count, table_shut, table_in, table_clean, table_passed, table_wrote}
use native.Mathlib.Omega.{arith}
use Rattle.listing.proofs.walk.put_table.Goals as goal

pub put_records-p2-requires : goal.put_records-p2-requires
put_records-p2-requires c = (c.requires.0, table_in _ c.requires.0 _ c.requires.1 c.requires.2 _ c.first_three.ensures _ c.in-Ok.is, table_clean _ c.requires.0 _ c.requires.1 c.requires.2 _ c.first_three.ensures _ c.in-Ok.is, table_passed _ c.requires.0 _ c.requires.1 c.requires.2 _ c.first_three.ensures _ c.in-Ok.is, omega (arith, c.put_text-p1.ensures.next))

pub overflow_sub-count : goal.overflow_sub-count
overflow_sub-count c = search table_count

pub returns : goal.returns
returns c = table_wrote _ c.requires.0 _ c.requires.1 c.requires.2 _ c.first_three.ensures _ c.in-Ok.is _ _ _ _ _ _ _ c.put_text-p1.ensures c.put_records-p2.ensures c.put_total.ensures

pub returns-in_default : goal.returns-in_default
returns-in_default c = absurd (table_shut _ c.requires.0 _ c.requires.1 c.requires.2 _ c.first_three.ensures _ c.in_default.is)
