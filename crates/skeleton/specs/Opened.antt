-- Every definition of the crate unfolds where `opened` does: for computed samples. Written by tools/opened.py.
use Rattle.skeleton.specs.Digits.{is_digit, digits, digits_from, in_digits, tenth, fewest_digits, in_fewest_digits}
use Rattle.skeleton.specs.Leader.{fits_byte, shaped, shaped_from, stated_of, leader_of}
use Rattle.skeleton.specs.Directory.{tag_at, entry_in, entry_past, zeros_at, small_at, entry_at, lies, ended, fields_from}
use Rattle.skeleton.specs.File.{cut_out, records_from, records_of}
use Rattle.skeleton.specs.Place.{place_at, fields_at, place_with, find_from, from_tag}
use Rattle.skeleton.specs.Record.{record_at, stated_at}
use Rattle.skeleton.specs.Emit.{sizes, leading, entries, contents, emit, emits}

-- all of them
unfoldable pub opened : Unit {0}
unfolding is_digit digits digits_from in_digits tenth fewest_digits in_fewest_digits fits_byte shaped shaped_from stated_of leader_of tag_at entry_in entry_past zeros_at small_at entry_at lies ended fields_from cut_out records_from records_of place_at fields_at place_with find_from from_tag record_at stated_at sizes leading entries contents emit emits
opened = tt
