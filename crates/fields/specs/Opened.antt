-- Every definition of the crate unfolds where `opened` does: for computed samples. Written by tools/opened.py.
use Rattle.fields.specs.Bytes.{le, bytes, run, clean}
use Rattle.fields.specs.Table.{head_of, tuple_of}
use Rattle.fields.specs.Sizes.{num_size, text_size, fixed_size, size, sizes}
use Rattle.fields.specs.Values.{value, values, mark, put, puts, put_all}
use Rattle.fields.specs.Content.{tuple_step, tuples, many, tally, tally_field, fill, content, decode, encode}
use Rattle.fields.specs.Valid.{allows, takes_text, passes, pass_all, pass_each, valid}
use Rattle.fields.specs.Places.{subfield_end, subfields_end, head_place, ending_at, tally_at, tuple_at, all_raw}
use Rattle.fields.specs.Rows.{table}

-- all of them
unfoldable pub opened : Unit {0}
unfolding le bytes run clean head_of tuple_of num_size text_size fixed_size size sizes value values mark put puts put_all tuple_step tuples many tally tally_field fill content decode encode allows takes_text passes pass_all pass_each valid subfield_end subfields_end head_place ending_at tally_at tuple_at all_raw table
opened = tt
