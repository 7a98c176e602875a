-- Every definition of the crate unfolds where `opened` does: for computed samples. Written by tools/opened.py.
use Rattle.rules.specs.ByTag.{with_tag, has, bodies, first_tag, front}
use Rattle.rules.specs.Kind.{kind_of, tag_of, rcnm, rank, coded, rows_of, general_rows}
use Rattle.rules.specs.Grammar.{rows_after, in_order, complete, ruin_byte, coui_byte, as_stored, forbidden, fields_stand, number4}
use Rattle.rules.specs.Place.{placed}
use Rattle.rules.specs.Coordinates.{is_coordinates, coord_of, coords_in, sent, place_in}
use Rattle.rules.specs.Content.{insert_only, ident_format, inas_format, format_of, stands, all_stand, miscounts, counted, number5}
use Rattle.rules.specs.Trees.{tup_of, instruction_of, utup_of, attr_tree, inas_tree, attr_acts, tree_stands, trees_stand, number6}
use Rattle.rules.specs.Associations.{inas_key, spas_key, spas_keys, field_keys, spas_marks, field_marks, marks, keys_once, number7, number11}
use Rattle.rules.specs.Record.{ident_of, key_named, key_of, foid_of, standing, assoc_of, spatial_of, parts_of, rec_of, dataset_record, update_record}
use Rattle.rules.specs.General.{general_format, general_record, dsid_of, name_of, edition_of, number_of, number8, newer, merged}
use Rattle.rules.specs.Written.{list_field, nums, ident_bytes, tup_vals, tree_bytes, assoc_field, coord_vals, spatial_vals, coord_tag, part_fields, written_fields, written_length, number12, written, written_bytes, count}
use Rattle.rules.specs.Outcome.{and_then, at, every_record}
use Rattle.rules.specs.File.{last_rank, dataset_test, update_test, through, ending, taken, dataset_of, references, read_dataset, writable, update_of, read_update}
use Rattle.rules.specs.Modify.{act_attr, act_inas, act_spas, act_field, act_fields}
use Rattle.rules.specs.Change.{follows, same_foid, fitting, revised, inserted, deleted, modified, change}
use Rattle.rules.specs.Update.{find, settle, replace, remove, store, step_as, step, steps, general, updated}
use Rattle.rules.specs.Versions.{version}
use Rattle.rules.specs.Answers.{refusal, success, not_too_long, read_outcome, read_answer, read, room_for, output_of, write_outcome, write, enough_work, update_outcome, update, work_after}
use Rattle.rules.specs.Listing.{line, record_line, record_lines, printed, listing}

-- all of them
unfoldable pub opened : Unit {0}
unfolding with_tag has bodies first_tag front kind_of tag_of rcnm rank coded rows_of general_rows rows_after in_order complete ruin_byte coui_byte as_stored forbidden fields_stand number4 placed is_coordinates coord_of coords_in sent place_in insert_only ident_format inas_format format_of stands all_stand miscounts counted number5 tup_of instruction_of utup_of attr_tree inas_tree attr_acts tree_stands trees_stand number6 inas_key spas_key spas_keys field_keys spas_marks field_marks marks keys_once number7 number11 ident_of key_named key_of foid_of standing assoc_of spatial_of parts_of rec_of dataset_record update_record general_format general_record dsid_of name_of edition_of number_of number8 newer merged list_field nums ident_bytes tup_vals tree_bytes assoc_field coord_vals spatial_vals coord_tag part_fields written_fields written_length number12 written written_bytes count and_then at every_record last_rank dataset_test update_test through ending taken dataset_of references read_dataset writable update_of read_update act_attr act_inas act_spas act_field act_fields follows same_foid fitting revised inserted deleted modified change find settle replace remove store step_as step steps general updated version refusal success not_too_long read_outcome read_answer read room_for output_of write_outcome write enough_work update_outcome update work_after line record_line record_lines printed listing
opened = tt
