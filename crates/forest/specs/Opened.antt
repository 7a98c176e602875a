-- Every definition of the crate unfolds where `opened` does: for computed samples. Written by tools/opened.py.
use Rattle.forest.specs.Forest.{size, occurs, tuples_from, tuples_of, valued, beside}
use Rattle.forest.specs.Rule.{codes_of, indexed, entry_of, run_up_to, all_taken, tree_of}
use Rattle.forest.specs.Acts.{deletes, act_of, acts_up_to, acts_of}
use Rattle.forest.specs.Edit.{count, put, behind, cut, alter, edit, edited}
use Rattle.forest.specs.Flat.{flat, push, named, over, count_flat, spot, pushed, locate, deeper, after, edit_flat}
use Rattle.forest.specs.Reader.{entry_then, read_up_to, read_run}

-- all of them
unfoldable pub opened : Unit {0}
unfolding size occurs tuples_from tuples_of valued beside codes_of indexed entry_of run_up_to all_taken tree_of deletes act_of acts_up_to acts_of count put behind cut alter edit edited flat push named over count_flat spot pushed locate deeper after edit_flat entry_then read_up_to read_run
opened = tt
